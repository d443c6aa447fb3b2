-- Read: where a reader stands after an object.
--
--   after s f           the place behind the object f of s; where there is none the end, so that nothing more is read
--   behind_first s tag  the place behind the object at the start of s
--
-- Assumes nothing.
use Rattle.std.specs.Prelude.{Option, None, Some, List, ℕ, ◌+◌, length}
use Rattle.rules.specs.declared.Place.{Place}
use Rattle.rules.specs.Ber.{object_at}

abbrev pub after : List ℕ → Option Place → ℕ
after s (Some v) = v.from + v.len
after s None = length s

unfoldable pub behind_first : List ℕ → ℕ → ℕ
behind_first s tag = after s (object_at s 0 tag)
