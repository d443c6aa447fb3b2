-- Replies: what a whole GENERAL AUTHENTICATE comes to, as the code finds it before anything is written.
--
--   auth_made st r        it came to r in the state st
--
-- Assumes nothing.
use Rattle.std.specs.Prelude.{Result, Ok, Err, true, false}
use Rattle.rules.specs.declared.Fault.{Fault}
use Rattle.rules.specs.Fault.{word_of}
use Rattle.rules.specs.Session.{State, in_session, with_admin}
use Rattle.rules.specs.Command.{Made, says}
use Rattle.rules.specs.Keys.{opened}
use Rattle.keys.specs.declared.template.Auth.{Auth}
use Rattle.keys.specs.declared.template.Auth.TheVariants.{Known, Unknown, Opens}

-- a fault's word alone; the administrator's status with 9000 or 6982; a job and its data
abbrev pub auth_made : State → Result Auth Fault → Made
auth_made st (Err f) = says st (word_of f)
auth_made st (Ok Known) = says (in_session st (with_admin st.session true)) 0x9000
auth_made st (Ok Unknown) = says (in_session st (with_admin st.session false)) 0x6982
auth_made st (Ok (Opens j d)) = opened st j.key j.alg j.le d.bytes.now
