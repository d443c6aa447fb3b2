-- Laws: what a rule on references is seen to do, and which rule judges.
--
--   ref_seen               a rule on references, from its word, its status and its store
--   rule-verify rule-change rule-reset    the rule of each INS
--
-- Assumes nothing.
use Rattle.std.specs.Prelude.{None}
use mathlib.Core.Path.{◌≡◌, refl, ap, ◌∙◌}
use mathlib.Core.List.{List}
use Prim.Native.Nat.{ℕ}
use lib.Dec.{eqb}
use borrow.Author.Tests.{ne_eqb}
use Rattle.rules.specs.declared.Answer.TheVariants.{Response}
use Rattle.rules.specs.declared.Header.{Header}
use Rattle.rules.specs.declared.Session.{Session}
use Rattle.rules.specs.Bytes.{splice, zeroed, word}
use Rattle.rules.specs.Session.{state, with_pin, holding, held_length}
use Rattle.rules.specs.Held.{dropped}
use Rattle.rules.specs.Pin.{Refs, Said, with_given, after, verify, change, reset, refs_in, refs_onto, judged_on, refs, put_refs, on_refs}
use Rattle.rules.specs.Calls.{outcome, reply, delivered, told_bytes, told_answer}
use Rattle.rules.proofs.Tests.{on, off}
use Rattle.pin.specs.Rule.{pin_rule}

pub ref_seen : (s w resp : List ℕ) (ss : Session) (x : Said)
    → outcome (reply (Response 2) (with_pin (holding ss None None) (judged_on s ss.pin x).given)) (judged_on s ss.pin x).store (zeroed w (held_length ss)) (splice resp 0 (word (judged_on s ss.pin x).sw))
    ≡ (delivered resp (on_refs (dropped (state s w ss)) x)).outcome
unfolding judged_on delivered told_bytes told_answer word on_refs put_refs after with_given refs refs_in refs_onto dropped
ref_seen s w resp ss x = refl

module _ (r : Refs) (h : Header) (d : List ℕ) where
  pub rule-verify : h.ins ≡ 0x20 → pin_rule r h d ≡ verify r h d
  unfolding pin_rule
  rule-verify e = on _ _ _ (ap (λ (x : ℕ). eqb x 0x20) e)

  pub rule-change : h.ins ≡ 0x24 → pin_rule r h d ≡ change r h d
  unfolding pin_rule
  rule-change e = off _ _ _ (ap (λ (x : ℕ). eqb x 0x20) e) ∙ on _ _ _ (ap (λ (x : ℕ). eqb x 0x24) e)

  pub rule-reset : (h.ins ≡ 0x20 → ⊥) → (h.ins ≡ 0x24 → ⊥) → pin_rule r h d ≡ reset r h d
  unfolding pin_rule
  rule-reset p q = off _ _ _ (ne_eqb h.ins 0x20 p) ∙ off _ _ _ (ne_eqb h.ins 0x24 q)
