-- `values::equals` meets its contract: the ten bytes that are lent are the reference's.
-- Assumes nothing.
use native.Mathlib.Omega.{arith}
use borrow.Author.Rules.{rules}
use Rattle.reference.proofs.Lent.{Lent, lent_at, read-lent}
use Rattle.pin.proofs.values.equals.Goals as goal

pub returns : goal.returns
returns g c = λ b.
    let o : Lent c.args.store.now _ _ c.unwrap.result.now g.W.Secret.which =
    lent_at c.AT.ensures g.met.W.Secret.placed (omega arith) c.split_at.ensures.front c.split_at.ensures.back (search rules) in
    rw (← read-lent o b) c.equals.ensures
