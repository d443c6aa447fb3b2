-- Claims: a line of any length is answered as what is kept of it is.
--
--   Holds                 the claim, for every buffer of at least 526 bytes
--
-- The program answers what is kept of a line, which is what `next` of `crates/feed` gives. Assumes nothing.
use Rattle.std.specs.Prelude.{◌≡◌, List, ℕ, ◌≤◌, length}
use Rattle.rules.specs.Session.{State}
use Rattle.keeping.specs.Keeping.{kept_line}
use Rattle.hexcard.specs.HexLines.{answered}

abbrev pub Holds : Type 0
Holds = (st : State) (resp s l out : List ℕ) → 526 ≤ length s → answered st resp (kept_line s l) out ≡ answered st resp l out
