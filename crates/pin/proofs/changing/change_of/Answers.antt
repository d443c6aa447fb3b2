-- `changing::change_of` meets its contract: a comparison, and after a hit the steps that the rule names.
-- Assumes nothing.
use native.Mathlib.Omega.{arith}
use borrow.Author.Rules.{rules}
use Rattle.rules.specs.Command.{restore, new_value}
use Rattle.pin.specs.Attempt.{form_of}
use Rattle.pin.proofs.Steps.{next_step, charged_row}
use Rattle.pin.proofs.Compared.{blocked, formless, missed_by, found, last-length, change_is, changed_by}
use Rattle.pin.proofs.changing.change_of.Goals as goal

pub returns-in_err-tries : goal.returns-in_err-tries
returns-in_err-tries g c = λ b hit miss.
    let k = c.in_err-tries.ensures b in
    let w = g.W.Secret.which in
    blocked (change_is c.args.store.now b c.args.field.now w (form_of w) hit miss) hit (omega arith) k.0 (search (rules, k.1))

pub returns-in_err-old : goal.returns-in_err-old
returns-in_err-old g c = λ b hit miss.
    let w = g.W.Secret.which in
    formless (change_is c.args.store.now b c.args.field.now w (form_of w) hit miss) hit (omega arith)
    (c.in_ok-tries.ensures b).0 (rw c.in_err-old.ensures.ok_part at c.two_values.ensures) (search rules)

pub returns-in_err-compare : goal.returns-in_err-compare
returns-in_err-compare g c = λ b hit miss.
    let w = g.W.Secret.which in
    let p = rw c.in_ok-old.ensures.ok_part at c.two_values.ensures in
    let k = c.in_err-compare.ensures b in
    missed_by (change_is c.args.store.now b c.args.field.now w (form_of w) hit miss) hit (omega arith)
    (c.in_ok-tries.ensures b).0 p.0 (rw p.1 at k.1.0) k.0 (search (rules, k.1.1))

pub returns : goal.returns
returns g c = λ b hit miss.
    let w = g.W.Secret.which in
    let s = c.args.store.now in
    let p = rw c.in_ok-old.ensures.ok_part at c.two_values.ensures in
    let k = c.in_ok-compare.ensures b in
    let v = next_step (charged_row b w (omega arith) k.0) (new_value w c.in_ok-old.new.now) (last-length _ _ _ p.0 p.2) (c.renew.ensures b) in
    changed_by w hit p.2 (next_step v (restore w) tt (c.restore.ensures b))
    (found (change_is s b c.args.field.now w (form_of w) hit miss) (c.in_ok-tries.ensures b).0 p.0 (rw p.1 at k.1))
