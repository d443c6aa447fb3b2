-- `reference::equals` meets its contract: eight bytes are given by their number.
-- Assumes nothing.
use mathlib.Core.Path.{ap, ◌∙◌}
use native.Mathlib.Omega.{arith}
use lib.Seq.{take_all}
use Rattle.rules.specs.Bytes.{same_bytes, part}
use Rattle.rules.specs.Reference.{matches, reference_at}
use Rattle.numbers.proofs.Numbers.{number64}
use Rattle.numbers.proofs.Numbers.{number_same}
use Rattle.reference.proofs.equals.Goals as goal

pub returns : goal.returns
unfolding matches reference_at part
returns c =
    let s = c.args.ten.now in
    let d = c.args.d.now in
    rw (c.be64.ensures, c.be64-2.ensures)
    (number_same number64 s d c.fits-ten c.fits-d 2 0 (omega arith) (omega arith)
    ∙ ap (same_bytes (part s 2 8)) (take_all 8 d (omega arith)))
