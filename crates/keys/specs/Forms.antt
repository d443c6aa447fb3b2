-- Forms: what is known of an administrator's template that was read.
--
--   ReplyInside t a       the eight bytes of a reply lie in the template t
--
-- Assumes nothing.
use Rattle.std.specs.Prelude.{List, ℕ, ◌+◌, ◌≤◌, length}
use Rattle.rules.specs.declared.Admin.{Admin}
use Rattle.rules.specs.declared.Admin.TheVariants.{GiveChallenge, Reply}

abbrev pub ReplyInside : List ℕ → Admin → Type 0
ReplyInside t GiveChallenge = Unit {0}
ReplyInside t (Reply from) = from + 8 ≤ length t
