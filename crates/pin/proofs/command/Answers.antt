-- The rule on references, then what is held is dropped.
-- Assumes nothing.
use Rattle.std.specs.Prelude.{None}
use mathlib.Core.Path.{ap, ◌∙◌}
use Rattle.rules.specs.declared.Answer.TheVariants.{Response}
use Rattle.rules.specs.Bytes.{splice, zeroed, word}
use Rattle.rules.specs.Session.{with_pin, holding, held_length}
use Rattle.rules.specs.Pin.{Judgement, refs, refs_in}
use Rattle.rules.specs.Calls.{outcome, reply}
use Rattle.pin.specs.Rule.{pin_rule}
use Rattle.pin.proofs.Laws.{ref_seen}
use Rattle.pin.proofs.command.Goals as goal

pub returns : goal.returns
unfolding refs
returns c =
    let a = c.args in
    let j = c.judge-j in
    c.judged.ensures j.new.store
    ∙ ap (λ (y : Judgement). outcome (reply (Response 2) (with_pin (holding a.s None None) y.given)) y.store (zeroed a.work.now (held_length a.s)) (splice a.resp.now 0 (word y.sw)))
    j.ensures
    ∙ ref_seen a.store.now a.work.now a.resp.now a.s (pin_rule (refs_in a.store.now a.s.pin) a.h a.field.now)
