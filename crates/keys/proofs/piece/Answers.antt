-- One piece: refused, added, or the last.
-- Assumes nothing.
use Rattle.std.proofs.Common.{ℕ, ◌+◌, length, ap, sym, ◌∙◌}
use Rattle.rules.specs.Fault.{passes}
use Rattle.rules.specs.Session.{State, state}
use Rattle.rules.specs.Command.{says}
use Rattle.rules.specs.Held.{dropped}
use Rattle.rules.specs.Keys.{auth_each, auth_whole, auth_piece}
use Rattle.rules.specs.Calls.{delivered}
use Rattle.rules.proofs.Faults.{fault_said, pass_said}
use Rattle.saying.proofs.Laws.{delivers}
use Rattle.held.proofs.Laws.{piece-bad, piece-more, piece-last}
use Rattle.keys.proofs.piece.Goals as goal

pub returns-in-Err : goal.returns-in-Err
unfolding auth_piece
returns-in-Err c =
    let a = c.args in
    let st = state a.store.now a.work.now a.s in
    let each = c.each.ensures.each a.work.now ∙ ap (λ (n : ℕ). passes (auth_each st a.h (n + length a.field.now))) c.chain_length.ensures in
    let fault = fault_said _ _ _ each c.in-Err.is in
    c.drop_end.ensures a.store.now
    ∙ ap (λ (w : ℕ). (delivered a.resp.now (says (dropped st) w)).outcome) (sym fault.word)
    ∙ delivers a.resp.now (piece-bad st a.h a.field.now _ (auth_whole a.ch a.h) fault.not_passed)

pub returns-then-h-eq16 : goal.returns-then-h-eq16
unfolding auth_piece
returns-then-h-eq16 c =
    let a = c.args in
    let st = state a.store.now a.work.now a.s in
    let each = c.each.ensures.each a.work.now ∙ ap (λ (n : ℕ). passes (auth_each st a.h (n + length a.field.now))) c.chain_length.ensures in
    let passed = pass_said _ _ each c.in_default.is in
    c.end.ensures a.store.now c.hold_piece-t.new.work
    ∙ ap (λ (x : State). (delivered a.resp.now (says x 0x9000)).outcome) (c.hold_piece-t.ensures a.store.now)
    ∙ delivers a.resp.now (piece-more st a.h a.field.now _ (auth_whole a.ch a.h) passed c.if-h-eq16.true)

pub returns : goal.returns
unfolding auth_piece
returns c =
    let a = c.args in
    let st = state a.store.now a.work.now a.s in
    let each = c.each.ensures.each a.work.now ∙ ap (λ (n : ℕ). passes (auth_each st a.h (n + length a.field.now))) c.chain_length.ensures in
    let passed = pass_said _ _ each c.in_default.is in
    c.last.ensures a.store.now
    ∙ delivers a.resp.now (piece-last st a.h a.field.now _ (auth_whole a.ch a.h) passed c.if-h-eq16.false)
