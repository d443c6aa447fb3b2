-- `values::renew` meets its contract: the value is written in the ten bytes that are lent.
-- Assumes nothing.
use native.Mathlib.Omega.{arith}
use borrow.Author.Rules.{rules}
use Rattle.reference.proofs.Lent.{Lent, lent_at, renew-back}
use Rattle.pin.proofs.values.renew.Goals as goal

pub returns : goal.returns
returns g c =
    let o : Lent c.args.store.now _ _ c.unwrap.result.now g.W.Secret.which =
    lent_at c.AT.ensures g.met.W.Secret.placed (omega arith) c.split_at_mut-from.ensures.front c.split_at_mut-from.ensures.back (search rules) in
    renew-back o _ c.args.value.now (omega arith) c.renew.ensures
