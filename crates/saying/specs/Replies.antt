-- Replies: what a host is told of a data answer that goes out.
--
--   sent_reply ss x        the answer x went out in the session ss
--
-- Assumes nothing.
use Rattle.std.specs.Prelude.{Option, None, Some}
use Rattle.rules.specs.declared.Answer.TheVariants.{Response}
use Rattle.rules.specs.declared.Reply.{Reply}
use Rattle.rules.specs.declared.Rest.{Rest}
use Rattle.rules.specs.declared.Session.{Session}
use Rattle.rules.specs.Session.{holding}
use Rattle.rules.specs.Calls.{reply}
use Rattle.saying.specs.declared.Sent.{Sent}

-- all of it went out, or its first bytes, while the whole is held
abbrev pub after_sent : Session → Option Rest → Session
after_sent ss None = ss
after_sent ss (Some r) = holding ss None (Some r)

abbrev pub sent_reply : Session → Sent → Reply
sent_reply ss x = reply (Response x.len) (after_sent ss x.rest)
