-- `tries::charge` meets its contract: a charge on the ten bytes that are lent is one on the reference.
-- Assumes nothing.
use mathlib.Core.Path.{sym, ap, ◌∙◌}
use mathlib.Core.Bool.{false}
use native.Mathlib.Omega.{arith}
use borrow.Author.Rules.{rules}
use Rattle.rules.specs.Reference.{Reference}
use Rattle.reference.proofs.Lent.{Lent, lent_at, read-lent, charge-back}
use Rattle.pin.proofs.tries.charge.Goals as goal

pub charge-requires : goal.charge-requires
charge-requires g c =
    let o : Lent c.args.store.now _ _ c.unwrap.result.now g.W.Secret.which =
    lent_at c.AT.ensures g.met.W.Secret.placed (omega arith) c.split_at_mut-from.ensures.front c.split_at_mut-from.ensures.back (search rules) in
    c.requires false ∙ ap (λ (f : Reference). f.left) (sym (read-lent o false))

pub returns : goal.returns
returns g c =
    let o : Lent c.args.store.now _ _ c.unwrap.result.now g.W.Secret.which =
    lent_at c.AT.ensures g.met.W.Secret.placed (omega arith) c.split_at_mut-from.ensures.front c.split_at_mut-from.ensures.back (search rules) in
    (charge-back o _ c.charge.ensures.0, c.charge.ensures.1)
