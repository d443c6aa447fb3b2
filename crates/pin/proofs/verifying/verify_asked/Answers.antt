-- `verifying::verify_asked` meets its contract: by the PIN status, and else by the count that is read.
-- Assumes nothing.
use Rattle.std.specs.Prelude.{Err}
use mathlib.Core.Path.{sym, ap, ◌∙◌}
use native.Mathlib.Omega.{arith}
use Prim.Native.Nat.{ℕ, ◌+◌}
use Rattle.rules.specs.declared.Fault.TheVariants.{NotEqual}
use Rattle.rules.specs.Pin.{verify_asked, tries_word, the, answer, refs_in}
use Rattle.rules.proofs.Tests.{off}
use Rattle.pin.proofs.Steps.{quiet}
use Rattle.pin.proofs.verifying.verify_asked.Goals as goal

pub returns-else-given : goal.returns-else-given
unfolding verify_asked tries_word the refs_in
returns-else-given c =
    let b = c.args.given in
    quiet b (record { said = Err (NotEqual c.left-tries.result.left); given = b }) (omega arith) (off _ _ _ c.if-given.false ∙ ap (λ (n : ℕ). answer (0x63C0 + n) (refs_in c.args.store.now b)) (sym (c.left-tries.ensures b)))
