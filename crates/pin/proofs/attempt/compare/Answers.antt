-- `attempt::compare` meets its contract: a try is charged, and the charge does not change what is compared.
-- Assumes nothing.
use mathlib.Core.Path.{ap, ◌∙◌}
use native.Mathlib.Omega.{arith}
use Prim.Native.Nat.{ℕ, ◌-◌}
use Rattle.pin.specs.declared.attempt.Miss.TheVariants.{Unequal}
use Rattle.pin.proofs.Steps.{charged_row, charge-kept}
use Rattle.pin.proofs.attempt.compare.Goals as goal

pub returns-then-equals : goal.returns-then-equals
returns-then-equals g c = λ b.
    let w = g.W.Secret.which in
    let h = c.charge-fewer.ensures.0 b in
    (h, charge-kept w (charged_row b w (omega arith) h) c.args.value.now (c.equals.ensures b) ∙ c.if-equals.true)

pub returns-else-equals : goal.returns-else-equals
returns-else-equals g c = λ b.
    let w = g.W.Secret.which in
    let h = c.charge-fewer.ensures.0 b in (
      h,
      (
        charge-kept w (charged_row b w (omega arith) h) c.args.value.now (c.equals.ensures b) ∙ c.if-equals.false,
        ap Unequal (c.charge-fewer.ensures.1 ∙ ap (λ (n : ℕ). n - 1) (c.requires b)),
      ),
    )
