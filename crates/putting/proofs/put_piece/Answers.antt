-- One piece: refused, added, or the last.
-- Assumes nothing.
use Rattle.std.proofs.Common.{refl, ℕ, ◌+◌, ◌++◌, length, take, ap, sym, ◌∙◌}
use Rattle.rules.specs.declared.Session.{Session}
use Rattle.rules.specs.Bytes.{splice, zeros}
use Rattle.rules.specs.Fault.{status_of, passes}
use Rattle.rules.specs.Session.{State, state}
use Rattle.rules.specs.Command.{says}
use Rattle.rules.specs.Held.{dropped}
use Rattle.rules.specs.Objects.{put_whole, put_each, put_piece}
use Rattle.rules.specs.Calls.{delivered}
use Rattle.rules.proofs.Faults.{fault_said, pass_said}
use Rattle.saying.proofs.Laws.{delivers}
use Rattle.held.proofs.Laws.{piece-bad, piece-more, piece_one, piece_end}
use Rattle.putting.proofs.storing.Laws.{said}
use Rattle.putting.proofs.put_piece.Goals as goal

pub returns-in-Err : goal.returns-in-Err
unfolding put_piece
returns-in-Err c =
    let a = c.args in
    let st = state a.store.now a.work.now a.s in
    let each = c.put_each.ensures.each st refl ∙ ap (λ (n : ℕ). passes (put_each st a.h (n + length a.field.now))) c.chain_length.ensures in
    let fault = fault_said _ _ _ each c.in-Err.is in
    c.drop_end.ensures a.store.now
    ∙ ap (λ (w : ℕ). (delivered a.resp.now (says (dropped st) w)).outcome) (sym fault.word)
    ∙ delivers a.resp.now (piece-bad st a.h a.field.now _ put_whole fault.not_passed)

pub returns-then-h-eq16 : goal.returns-then-h-eq16
unfolding put_piece
returns-then-h-eq16 c =
    let a = c.args in
    let st = state a.store.now a.work.now a.s in
    let each = c.put_each.ensures.each st refl ∙ ap (λ (n : ℕ). passes (put_each st a.h (n + length a.field.now))) c.chain_length.ensures in
    let passed = pass_said _ _ each c.in_default.is in
    c.end.ensures a.store.now c.hold_piece-t.new.work
    ∙ ap (λ (x : State). (delivered a.resp.now (says x 0x9000)).outcome) (c.hold_piece-t.ensures a.store.now)
    ∙ delivers a.resp.now (piece-more st a.h a.field.now _ put_whole passed c.if-h-eq16.true)

pub returns-in-None : goal.returns-in-None
unfolding put_piece
returns-in-None c =
    let a = c.args in
    let st = state a.store.now a.work.now a.s in
    let each = c.put_each.ensures.each st refl ∙ ap (λ (n : ℕ). passes (put_each st a.h (n + length a.field.now))) c.chain_length.ensures in
    let passed = pass_said _ _ each c.in_default.is in
    c.end-in-None.ensures c.put_whole.new.store a.work.now
    ∙ sym (said c.put_whole.new.store a.work.now a.resp.now c.holding-t.result (status_of c.put_whole.result))
    ∙ c.put_whole.ensures a.work.now a.resp.now c.holding-t.result
    ∙ ap (λ (t : Session). (delivered a.resp.now (put_whole (state a.store.now a.work.now t) a.field.now)).outcome) c.holding-t.ensures
    ∙ delivers a.resp.now (piece_one a.store.now a.work.now a.field.now a.s a.h _ put_whole passed c.if-h-eq16.false c.in-None.is)

pub returns-in-Some : goal.returns-in-Some
unfolding put_piece
returns-in-Some c =
    let a = c.args in
    let st = state a.store.now a.work.now a.s in
    let n = c.in-Some.c.len in
    let each = c.put_each.ensures.each st refl ∙ ap (λ (n : ℕ). passes (put_each st a.h (n + length a.field.now))) c.chain_length.ensures in
    let passed = pass_said _ _ each c.in_default.is in
    c.put_chain.ensures
    ∙ ap (λ (t : Session). (delivered a.resp.now (put_whole (state a.store.now (splice a.work.now 0 (zeros (n + length a.field.now))) t) (take n a.work.now ++ a.field.now))).outcome) c.holding-t.ensures
    ∙ delivers a.resp.now (piece_end a.store.now a.work.now a.field.now a.s a.h _ put_whole passed c.if-h-eq16.false c.in-Some.c c.in-Some.is)
