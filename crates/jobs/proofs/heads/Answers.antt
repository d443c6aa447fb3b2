-- One head behind the other.
-- Assumes nothing.
use mathlib.Core.Path.{ap, sym, ◌∙◌}
use mathlib.Core.List.{◌∷◌}
use Prim.Native.Nat.{ℕ, ◌+◌}
use native.Mathlib.Omega.{arith}
use Rattle.rules.specs.Bytes.{splice}
use Rattle.rules.specs.Ber.{length_bytes, ber_length}
use Rattle.jobs.proofs.Laws.{two-heads}
use Rattle.jobs.proofs.heads.Goals as goal

pub returns-clause-heads : goal.returns-clause-heads
returns-clause-heads c = λ v l.
    let k = 1 + c.length_bytes.result + c.args.n in
    let o = c.write_head-at in
    let u = c.write_head in
    two-heads c.args.dst.now o.new.dst _ v _ _ c.args.tag k (omega (arith, l)) (omega arith)
    (omega (arith, c.length_bytes.ensures.bytes, ap length_bytes l, l)) o.ensures.end
    (u.ensures.end ∙ ap (λ (j : ℕ). o.result + 1 + length_bytes j) (sym l))
    o.ensures.written
    (u.ensures.written ∙ ap (λ (j : ℕ). splice o.new.dst o.result (c.args.tag ∷ ber_length j)) (sym l))
