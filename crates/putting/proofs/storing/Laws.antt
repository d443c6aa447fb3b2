-- Laws: what the last piece of PUT DATA comes to, by the tests on the way, and what is seen of it.
--
--   whole_over whole-ok    the value is over the slot's capacity, or stored
--   said kept              what is seen of a status word alone, and of a value that is stored
--
-- Assumes nothing.
use Rattle.std.proofs.Common.{◌≡◌, refl, Some, true, false, not, List, ℕ, ◌<◌, ap, ◌∙◌}
use borrow.Author.Tests.{lt-ltb}
use Rattle.rules.specs.declared.Answer.TheVariants.{Response}
use Rattle.rules.specs.declared.Session.{Session}
use Rattle.rules.specs.Bytes.{part, splice, word}
use Rattle.rules.specs.Store.{takes, put_object}
use Rattle.rules.specs.Session.{State, state}
use Rattle.rules.specs.Command.{says}
use Rattle.rules.specs.Objects.{Put, put_form, put_slot, stored, put_whole}
use Rattle.rules.specs.Calls.{outcome, reply, delivered, told_bytes, told_answer}
use Rattle.rules.proofs.Tests.{on, off}

module _ (st : State) (d : List ℕ) (p : Put) (e : put_form d ≡ Some p) (l : p.slot < 12) where
  pub whole_over : not (takes st.store p.slot p.value.len) ≡ true → put_whole st d ≡ says st 0x6A84
  unfolding put_whole put_slot
  whole_over q = ap (put_slot st d) e ∙ off _ _ _ (ap not (lt-ltb p.slot 12 l)) ∙ on _ _ _ q

  pub whole-ok : not (takes st.store p.slot p.value.len) ≡ false → put_whole st d ≡ stored st p.slot (part d p.value.from p.value.len)
  unfolding put_whole put_slot
  whole-ok q = ap (put_slot st d) e ∙ off _ _ _ (ap not (lt-ltb p.slot 12 l)) ∙ off _ _ _ q

module _ (s w b : List ℕ) (ss : Session) where
  pub said : (sw : ℕ) → outcome (reply (Response 2) ss) s w (splice b 0 (word sw)) ≡ (delivered b (says (state s w ss) sw)).outcome
  unfolding delivered told_bytes told_answer word
  said sw = refl

  pub kept : (i : ℕ) (v : List ℕ) → outcome (reply (Response 2) ss) (put_object s i v) w (splice b 0 (word 0x9000)) ≡ (delivered b (stored (state s w ss) i v)).outcome
  unfolding stored delivered told_bytes told_answer word
  kept i v = refl
