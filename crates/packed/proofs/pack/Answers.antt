-- Each part at its place.
-- Assumes nothing.
use mathlib.Core.Path.{ap, ◌∙◌}
use Rattle.rules.specs.Bytes.{splice}
use Rattle.packed.proofs.Laws.{packed_parts}
use native.Mathlib.Omega.{arith}
use Rattle.packed.proofs.pack.Goals as goal

pub returns : goal.returns
returns c =
    packed_parts c.args.s c.args.dst.now _ _ _ _ _ _ (omega arith) (c.put.ensures ∙ ap (splice _ 0) c.flag_bytes.ensures)
    (c.put-2.ensures ∙ ap (splice _ 3) c.chain_bytes.ensures) (c.put-3.ensures ∙ ap (splice _ 9) c.rest_bytes.ensures)
    (c.put-4.ensures ∙ ap (splice _ 14) c.challenge_bytes.ensures) (c.put-5.ensures ∙ ap (splice _ 23) c.job_bytes.ensures)
    c.zero.ensures
