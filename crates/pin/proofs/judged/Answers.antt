-- What is held is dropped, the PIN status is set, and the word goes out.
-- Assumes nothing.
use mathlib.Core.Path.{ap, ◌∙◌}
use Rattle.rules.specs.declared.Answer.TheVariants.{Response}
use Rattle.rules.specs.Bytes.{splice, word}
use Rattle.rules.specs.Fault.{status_of}
use Rattle.rules.specs.Session.{State, with_pin}
use Rattle.rules.specs.Held.{dropped}
use Rattle.rules.specs.Calls.{outcome, reply, delivered, told_bytes, told_answer}
use Rattle.pin.proofs.judged.Goals as goal

pub returns : goal.returns
unfolding delivered told_bytes told_answer word dropped
returns c = λ m.
    let a = c.args in
    c.end.ensures m c.drop_held.new.work
    ∙ ap (λ (x : State). outcome (reply (Response 2) (with_pin x.session a.j.given)) m x.work (splice a.resp.now 0 (word (status_of a.j.said)))) (c.drop_held.ensures.dropped m)
