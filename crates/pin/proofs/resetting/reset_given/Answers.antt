-- `resetting::reset_given` meets its contract: a comparison, and after a hit the steps that the rule names.
-- Assumes nothing.
use native.Mathlib.Omega.{arith}
use borrow.Author.Rules.{rules}
use Rattle.rules.specs.Command.{the_pin, the_puk, restore, new_value}
use Rattle.pin.proofs.Steps.{next_step, charged_row}
use Rattle.pin.proofs.Compared.{blocked, formless, missed_by, found, last-length, reset_is, reset_by}
use Rattle.pin.proofs.resetting.reset_given.Goals as goal

pub returns-in_err-tries : goal.returns-in_err-tries
returns-in_err-tries c = λ b.
    let k = c.in_err-tries.ensures b in
    blocked (reset_is c.args.store.now b c.args.field.now) b (omega arith) k.0 (search (rules, k.1))

pub returns-in_err-puk : goal.returns-in_err-puk
returns-in_err-puk c = λ b.
    formless (reset_is c.args.store.now b c.args.field.now) b (omega arith)
    (c.in_ok-tries.ensures b).0 (rw c.in_err-puk.ensures.ok_part at c.two_values.ensures) (search rules)

pub returns-in_err-compare : goal.returns-in_err-compare
returns-in_err-compare c = λ b.
    let p = rw c.in_ok-puk.ensures.ok_part at c.two_values.ensures in
    let k = c.in_err-compare.ensures b in
    missed_by (reset_is c.args.store.now b c.args.field.now) b (omega arith)
    (c.in_ok-tries.ensures b).0 p.0 (rw p.1 at k.1.0) k.0 (search (rules, k.1.1))

pub returns : goal.returns
returns c = λ b.
    let s = c.args.store.now in
    let p = rw c.in_ok-puk.ensures.ok_part at c.two_values.ensures in
    let k = c.in_ok-compare.ensures b in
    let v = next_step (charged_row b the_puk (omega arith) k.0) (new_value the_pin c.in_ok-puk.new.now) (last-length _ _ _ p.0 p.2) (c.renew.ensures b) in
    reset_by p.2 (next_step (next_step v (restore the_pin) tt (c.restore.ensures b)) (restore the_puk) tt (c.restore-2.ensures b))
    (found (reset_is s b c.args.field.now) (c.in_ok-tries.ensures b).0 p.0 (rw p.1 at k.1))
