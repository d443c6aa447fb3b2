-- `tries::restore` meets its contract: the limit is written in the ten bytes that are lent.
-- Assumes nothing.
use native.Mathlib.Omega.{arith}
use borrow.Author.Rules.{rules}
use Rattle.reference.proofs.Lent.{Lent, lent_at, restore-back}
use Rattle.pin.proofs.tries.restore.Goals as goal

pub returns : goal.returns
returns g c =
    let o : Lent c.args.store.now _ _ c.unwrap.result.now g.W.Secret.which =
    lent_at c.AT.ensures g.met.W.Secret.placed (omega arith) c.split_at_mut-from.ensures.front c.split_at_mut-from.ensures.back (search rules) in
    restore-back o _ c.restore.ensures
