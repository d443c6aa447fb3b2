-- Steps: a row of steps on a store, and the judgement that it leads to.
--
--   Row s b r t             the store t holds the references r over s, with the PIN status b
--   no_step next_step       a row of no step, and of one step more
--   charged_row             a row of one charge
--   charge-kept             a charge leaves the value as it is
--   judged_by               the judgement of a rule, by the row of steps that were made
--   quiet_on quiet          the same where nothing is written
--
-- Assumes nothing.
use mathlib.Core.Path.{◌≡◌, refl, sym, ap, ap₂, ◌∙◌}
use mathlib.Core.Bool.{Bool}
use mathlib.Core.List.{List, []}
use Prim.Native.Nat.{ℕ, ◌≤◌}
use lib.ListN.{length}
use Rattle.rules.specs.declared.Judged.{Judged}
use Rattle.rules.specs.Fault.{status_of}
use Rattle.rules.specs.Reference.{matches, charged}
use Rattle.rules.specs.Command.{Which, the_pin, the_puk, Step, charge}
use Rattle.rules.specs.Pin.{Refs, Said, the, put_the, stepped, made, refs_in, refs_onto, judgement, judged_on}
use Rattle.rules.proofs.Refs.{Sized, StepSized, refs-sized, refs_onto_lem, onto_refs, sized_step, given_step, step_on}

pub record Row (s : List ℕ) (b : Bool) (r : Refs) (t : List ℕ) : Type 0 where
  pub size : 28 ≤ length s
  pub sized : Sized r
  pub given : r.given ≡ b
  pub holds : t ≡ refs_onto s r

pub no_step : (s : List ℕ) (b : Bool) → 28 ≤ length s → Row s b (refs_in s b) s
unfolding refs_in
no_step s b h = record { size = h; sized = refs-sized s h b; given = refl; holds = sym (onto_refs s h b) }

pub next_step : {s : List ℕ} {b : Bool} {r : Refs} {t u : List ℕ} → Row s b r t → (x : Step) → StepSized x
    → u ≡ refs_onto t (stepped (refs_in t b) x) → Row s b (stepped r x) u
next_step {s} {b} {r} {t} {u} w x z e = record {
  size = w.size;
  sized = sized_step r x w.sized z;
  given = given_step r x ∙ w.given;
  holds = step_on s t u r x b w.size w.sized z w.given w.holds e;
}

-- a try is charged
pub charged_row : {s u : List ℕ} (b : Bool) (w : Which) → 28 ≤ length s → u ≡ refs_onto s (stepped (refs_in s b) (charge w))
    → Row s b (stepped (refs_in s b) (charge w)) u
charged_row {s} b w h e = next_step (no_step s b h) (charge w) tt e

charged-value : (r : Refs) (w : Which) (d : List ℕ) → matches (the (stepped r (charge w)) w) d ≡ matches (the r w) d
unfolding the put_the stepped charged matches
charged-value r the_pin d = refl
charged-value r the_puk d = refl

pub charge-kept : {s t : List ℕ} {b : Bool} (w : Which) → Row s b (stepped (refs_in s b) (charge w)) t → {x : Bool} (d : List ℕ)
    → x ≡ matches (the (refs_in t b) w) d → matches (the (refs_in s b) w) d ≡ x
charge-kept {s} {t} {b} w o {x} d p =
    let r : Refs = stepped (refs_in s b) (charge w) in
    sym (p ∙ ap (λ (y : Refs). matches (the y w) d) (ap₂ refs_in o.holds (sym o.given) ∙ refs_onto_lem s r o.sized o.size) ∙ charged-value (refs_in s b) w d)

pub judged_by : {s t : List ℕ} {b : Bool} {x : Said} (j : Judged) (y : Said) → Row s b (made (refs_in s b) y.steps) t → x ≡ y
    → status_of j.said ≡ y.sw → j.given ≡ y.given → judgement j t ≡ judged_on s b x
unfolding judged_on
judged_by {s} {t} {b} j y o e p q =
    ap₂ (λ (n : ℕ) (g : Bool). record { sw = n; given = g; store = t }) p q
    ∙ ap (λ (l : List ℕ). record { sw = y.sw; given = y.given; store = l }) o.holds
    ∙ ap (judged_on s b) (sym e)

-- nothing is written
pub quiet_on : (s : List ℕ) (b : Bool) (sw : ℕ) (g : Bool) → 28 ≤ length s
    → judged_on s b (record { sw = sw; steps = []; given = g }) ≡ record { sw = sw; given = g; store = s }
unfolding judged_on made
quiet_on s b sw g h = ap (λ (l : List ℕ). record { sw = sw; given = g; store = l }) (onto_refs s h b)

pub quiet : {s : List ℕ} {x : Said} (b : Bool) (j : Judged) → 28 ≤ length s → x ≡ record { sw = status_of j.said; steps = []; given = j.given }
    → judgement j s ≡ judged_on s b x
quiet {s} b j h e = sym (quiet_on s b (status_of j.said) j.given h) ∙ ap (judged_on s b) (sym e)
