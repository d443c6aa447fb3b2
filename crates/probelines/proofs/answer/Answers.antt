-- A line that makes no call, on the card as it is.
-- Assumes nothing.
use mathlib.Core.Path.{◌≡◌, refl, ap, ◌∙◌}
use mathlib.Core.Bool.{Bool}
use mathlib.Core.List.{List}
use Prim.Native.Nat.{ℕ}
use Rattle.rules.specs.Session.{State, state}
use Rattle.lines.specs.declared.What.{What}
use Rattle.lines.specs.Seen.{tells, bad_line}
use Rattle.verbs.specs.declared.Buffer.{Buffer}
use Rattle.verbs.specs.declared.Verb.{Verb}
use Rattle.verbs.specs.declared.Verb.TheVariants.{Lend, Put, Session, PowerOn, Ask, Other}
use Rattle.probelines.specs.ProbeLines.{answered, by_verb}
use Rattle.probelines.proofs.answer.Goals as goal

neither : (st : State) (p l out : List ℕ) (v : Verb) → ((b : Buffer) (at from : ℕ) → v ≡ Put b at from → ⊥) → (v ≡ Session → ⊥)
    → ((air : Bool) → v ≡ PowerOn air → ⊥) → ((w : What) (from : ℕ) → v ≡ Ask w from → ⊥) → tells st p bad_line out ≡ by_verb st p l out v
unfolding by_verb
neither st p l out (Lend b from) h i j k = refl
neither st p l out (Put b at from) h i j k = absurd (h b at from refl)
neither st p l out Session h i j k = absurd (i refl)
neither st p l out (PowerOn air) h i j k = absurd (j air refl)
neither st p l out (Ask w from) h i j k = absurd (k w from refl)
neither st p l out Other h i j k = refl

pub returns-in_default : goal.returns-in_default
unfolding answered
returns-in_default c =
    let a = c.args in
    let st = state a.store.now a.work.now a.session in
    let d = c.in_default in
    c.bad.ensures a.store.now a.work.now a.resp.now
    ∙ neither st a.resp.now a.line.now a.out.now c.verb_of.result d.not-Put d.not-Session d.not-PowerOn d.not-Ask
    ∙ ap (by_verb st a.resp.now a.line.now a.out.now) c.verb_of.ensures
