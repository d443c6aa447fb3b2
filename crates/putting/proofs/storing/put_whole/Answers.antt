-- The tests of the last piece, in their order.
-- Assumes nothing.
use Rattle.std.proofs.Common.{List, ℕ, ap, ◌∙◌}
use Rattle.rules.specs.declared.Answer.TheVariants.{Response}
use Rattle.rules.specs.Bytes.{splice, word}
use Rattle.rules.specs.Store.{put_object}
use Rattle.rules.specs.Session.{state}
use Rattle.rules.specs.Calls.{outcome, reply}
use Rattle.rules.proofs.Tests.{negated}
use Rattle.saying.proofs.Laws.{delivers}
use Rattle.table.specs.Slots.{index_of}
use Rattle.table.proofs.Slots.{below}
use Rattle.putting.proofs.storing.Laws.{whole_over, whole-ok, said, kept}
use Rattle.putting.proofs.storing.put_whole.Goals as goal

pub returns-then-not-takes : goal.returns-then-not-takes
returns-then-not-takes c = λ w b ss.
    let a = c.args in
    said a.store.now w b ss 0x6A84
    ∙ delivers b (whole_over (state a.store.now w ss) a.d.now _ c.in_ok-slot.ensures.found (below c.in_ok-slot.field-0.slot)
    (negated (c.takes.ensures.takes a.store.now) c.if-not-takes.true-raw))

pub returns : goal.returns
returns c = λ w b ss.
    let a = c.args in
    let s = a.store.now in
    let i = index_of c.in_ok-slot.field-0.slot in
    ap (λ (l : List ℕ). outcome (reply (Response 2) ss) l w (splice b 0 (word 0x9000))) (c.put_object.ensures ∙ ap (put_object s i) c.part.ensures.part)
    ∙ kept s w b ss i _
    ∙ delivers b (whole-ok (state s w ss) a.d.now _ c.in_ok-slot.ensures.found (below c.in_ok-slot.field-0.slot)
    (negated (c.takes.ensures.takes s) c.if-not-takes.false-raw))
