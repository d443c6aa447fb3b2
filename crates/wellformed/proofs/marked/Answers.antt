-- `wellformed::marked` meets its contract: eight bytes are given by their number.
-- Assumes nothing.
use native.Mathlib.Omega.{arith}
use Rattle.wellformed.proofs.Laws.{mark-number}
use Rattle.wellformed.proofs.marked.Goals as goal

pub returns : goal.returns
returns c = rw c.be64.ensures (mark-number _ c.fits-store (omega arith))
