-- Four: the refusals that a command and a job result share.
--
--   first_four b ss n m    refusals 1 to 4, in their order: b says whether the store is well formed, n and m are the lengths of response buffer and work area
--   unless p x             x, unless p refuses
--
-- Assumes nothing.
use Rattle.std.specs.Prelude.{Ok, Err, Bool, not, ℕ, ltb, eqb}
use Rattle.rules.specs.declared.Refusal.TheVariants.{IllStore, IllSession, ShortResponse, WrongWork}
use Rattle.rules.specs.declared.Session.{Session}
use Rattle.rules.specs.Bytes.{iff}
use Rattle.rules.specs.Fault.{Permit}
use Rattle.rules.specs.Store.{work_size}
use Rattle.rules.specs.Session.{possible}

unfoldable pub first_four : Bool → Session → ℕ → ℕ → Permit
first_four b ss n m =
    iff (not b) (Err IllStore)
    (iff (not (possible ss)) (Err IllSession)
    (iff (ltb n 258) (Err ShortResponse)
    (iff (not (eqb m work_size)) (Err WrongWork)
    (Ok tt))))

abbrev pub unless : Permit → Permit → Permit
unless (Ok u) x = x
unless (Err r) x = Err r
