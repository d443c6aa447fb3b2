-- `verifying::verify_given` meets its contract: a comparison, and after a hit the step that the rule names.
-- Assumes nothing.
use mathlib.Core.Bool.{true}
use native.Mathlib.Omega.{arith}
use borrow.Author.Rules.{rules}
use Rattle.rules.specs.Command.{the_pin, restore}
use Rattle.pin.proofs.Steps.{next_step, charged_row}
use Rattle.pin.proofs.Compared.{blocked, formless, missed_by, found, verify_is, verified_by}
use Rattle.pin.proofs.verifying.verify_given.Goals as goal

pub returns-in_err-tries : goal.returns-in_err-tries
returns-in_err-tries c = λ b.
    let k = c.in_err-tries.ensures b in
    blocked (verify_is c.args.store.now b c.args.field.now) true (omega arith) k.0 (search (rules, k.1))

pub returns-in_err-value : goal.returns-in_err-value
returns-in_err-value c = λ b.
    formless (verify_is c.args.store.now b c.args.field.now) true (omega arith)
    (c.in_ok-tries.ensures b).0 (rw c.in_err-value.ensures.ok_part at c.formed.ensures) (search rules)

pub returns-in_err-compare : goal.returns-in_err-compare
returns-in_err-compare c = λ b.
    let p = rw c.in_ok-value.ensures.ok_part at c.formed.ensures in
    let k = c.in_err-compare.ensures b in
    missed_by (verify_is c.args.store.now b c.args.field.now) true (omega arith)
    (c.in_ok-tries.ensures b).0 p.0 (rw p.1 at k.1.0) k.0 (search (rules, k.1.1))

pub returns : goal.returns
returns c = λ b.
    let p = rw c.in_ok-value.ensures.ok_part at c.formed.ensures in
    let k = c.in_ok-compare.ensures b in
    verified_by (next_step (charged_row b the_pin (omega arith) k.0) (restore the_pin) tt (c.restore.ensures b))
    (found (verify_is c.args.store.now b c.args.field.now) (c.in_ok-tries.ensures b).0 p.0 (rw p.1 at k.1))
