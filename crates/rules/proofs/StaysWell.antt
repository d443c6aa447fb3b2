-- StaysWell: a well-formed store stays well formed: an object put, and references put that are in order.
--
--   RefsOk r               both references are in order, and the PIN status is TRUE only with all tries left
--   wf_by                  a store that agrees with a well-formed one on its mark and its keys, with references in order and sound slots
--   wf_put                 an object put
--   wf_onto                references put
--   refs-ok                those of a well-formed store are in order
--   answer_ok verify-ok change-ok reset-ok    after what the rules on references say, they are
--
-- Assumes nothing.
use mathlib.Core.Path.{◌≡◌, refl, sym, ◌∙◌, subst}
use mathlib.Core.Logic.{◌⊎◌, inl, inr, ⊎_elim}
use mathlib.Core.Bool.{Bool, true, false, ◌&&◌, false≢true}
use mathlib.Core.List.{List, [], ◌∷◌}
use Prim.Native.Nat.{ℕ, ◌+◌, ◌-◌, ◌≤◌, ◌<◌}
use native.Mathlib.Omega.{arith}
use lib.Dec.{leb, eqb}
use lib.ListN.{length, take, drop, get_or}
use borrow.Author.Tests.{eqb-true, eq-eqb, leb-true, le-leb, not-false}
use Rattle.rules.specs.declared.Header.{Header}
use Rattle.rules.specs.Bytes.{part, splice, be16}
use Rattle.rules.specs.Reference.{Reference, pin_form, puk_form, reference_ok, charged, restored, renewed, reference_at, put_reference}
use Rattle.rules.specs.Store.{store_size, slots, capacity, offset, slot_length, pin_at, puk_at, slot_ok, put_object, well_formed}
use Rattle.rules.specs.Command.{the_pin, the_puk}
use Rattle.rules.specs.Pin.{Refs, the, put_the, stepped, made, with_given, after, Said, answer, missed, verified, verify_given, verify_asked, verify_ended, verify, changed, change_of, change, reset_to, reset_given, reset, refs_in, refs_onto}
use Rattle.rules.proofs.Tests.{either, branch, and_left, and_right, and_both, all_below_lem}
use Rattle.rules.proofs.Lists.{length-splice, splice-before, splice-after, length_part, part_ext}
use Rattle.rules.proofs.Slots.{Sound, slot-from, put-before, sound_put}
use Rattle.rules.proofs.Refs.{Sized, refs_onto_lem, onto_length}
use Rattle.rules.proofs.WellFormed.{Wf, wf_tests, tests_wf, wf_size, wf_sound}

-- ---- stores

pub wf_by : (s t : List ℕ) → Wf s → Sound t → ((j : ℕ) → j < 8 → get_or t j 0 ≡ get_or s j 0) → ((j : ℕ) → 28 ≤ j → j < 32 → get_or t j 0 ≡ get_or s j 0)
    → reference_ok (reference_at t pin_at) ≡ true → reference_ok (reference_at t puk_at) ≡ true → pin_form (part t 10 8) ≡ true → Wf t
unfolding slot_ok
wf_by s t f so low keys pin puk form =
    let l : length s ≡ store_size = eqb-true _ _ f.size in
    record {
      size = eq-eqb _ _ so.size;
      marked = rw (part_ext t s 0 8 (omega (arith, so.size)) (omega arith) (λ j a b. low j (omega arith))) f.marked;
      pin = pin;
      puk = puk;
      form = form;
      keys = rw (part_ext t s 28 4 (omega (arith, so.size)) (omega arith) (λ j a b. keys j a b)) f.keys;
      objects = all_below_lem (slot_ok t) slots λ i h. le-leb _ _ (so.lengths i h);
    }

pub wf_put : (s : List ℕ) (i : ℕ) (v : List ℕ) → i < slots → length v ≤ capacity i → well_formed s ≡ true → well_formed (put_object s i v) ≡ true
unfolding reference_at
wf_put s i v hi hv w =
    let f : Wf s = wf_tests s w in
    let so : Sound s = wf_sound s w in
    let st : Sound (put_object s i v) = sound_put s i v hi hv so in
    let low : (j : ℕ) → j < 32 → get_or (put_object s i v) j 0 ≡ get_or s j 0 = λ j h. put-before s i v hi hv so.size j (omega (arith, slot-from i hi)) in
    let same : (at : ℕ) → at + 8 ≤ 32 → part (put_object s i v) at 8 ≡ part s at 8 =
    λ at h. part_ext (put_object s i v) s at 8 (omega (arith, st.size)) (omega (arith, so.size)) λ j a b. low j (omega arith) in
    tests_wf (put_object s i v)
    (wf_by s (put_object s i v) f st (λ j h. low j (omega arith)) (λ j a b. low j b)
    (rw (low 8 (omega arith), low 9 (omega arith), same 10 (omega arith)) f.pin)
    (rw (low 18 (omega arith), low 19 (omega arith), same 20 (omega arith)) f.puk) (rw (same 10 (omega arith)) f.form))

-- ---- references in order

pub record RefsOk (r : Refs) : Type 0 where
  pub pin : reference_ok r.pin ≡ true
  pub puk : reference_ok r.puk ≡ true
  pub form : pin_form r.pin.value ≡ true
  pub size : length r.puk.value ≡ 8
  pub full : r.given ≡ true → r.pin.left ≡ r.pin.limit

pub form_size : (v : List ℕ) → pin_form v ≡ true → length v ≡ 8
unfolding pin_form
form_size v e = eqb-true _ _ (and_left (eqb (length v) 8) _ (and_left _ _ e))

pub refs-sized-ok : (r : Refs) → RefsOk r → Sized r
refs-sized-ok r k = record { pin = form_size _ k.form; puk = k.size }

-- of two references put, nothing but their twenty bytes
pub onto_apart : (s : List ℕ) (r : Refs) → Sized r → 28 ≤ length s → (j : ℕ) → (j < 8) ⊎ (28 ≤ j) → get_or (refs_onto s r) j 0 ≡ get_or s j 0
unfolding refs_onto put_reference
onto_apart s r z h j o =
    let p : List ℕ = r.pin.limit ∷ r.pin.left ∷ r.pin.value in
    let k : List ℕ = r.puk.limit ∷ r.puk.left ∷ r.puk.value in
    let lp : length p ≡ 10 = omega (arith, z.pin) in
    let lk : length k ≡ 10 = omega (arith, z.puk) in
    let l : length (splice s 8 p) ≡ length s = length-splice s p 8 (omega arith) in
    ⊎_elim (λ a. splice-before (splice s 8 p) k 18 (omega arith) j (omega arith) ∙ splice-before s p 8 (omega arith) j a)
    (λ a. splice-after (splice s 8 p) k 18 (omega arith) j (omega arith) ∙ splice-after s p 8 (omega arith) j (omega arith)) o

sound_onto : (s : List ℕ) (r : Refs) → Sized r → Sound s → Sound (refs_onto s r)
unfolding slot_length be16
sound_onto s r z so =
    let h : 28 ≤ length s = omega (arith, so.size) in
    record {
      size = onto_length s r z h ∙ so.size;
      lengths = λ i hi. rw (onto_apart s r z h (offset i) (inr (omega (arith, slot-from i hi))), onto_apart s r z h (offset i + 1) (inr (omega (arith, slot-from i hi)))) (so.lengths i hi);
    }

pub wf_onto : (s : List ℕ) (r : Refs) → well_formed s ≡ true → RefsOk r → well_formed (refs_onto s r) ≡ true
unfolding reference_at refs_in
wf_onto s r w k =
    let so : Sound s = wf_sound s w in
    let z : Sized r = refs-sized-ok r k in
    let h : 28 ≤ length s = omega (arith, so.size) in
    let e : refs_in (refs_onto s r) r.given ≡ r = refs_onto_lem s r z h in
    tests_wf (refs_onto s r)
    (wf_by s (refs_onto s r) (wf_tests s w) (sound_onto s r z so) (λ j l. onto_apart s r z h j (inl l)) (λ j a b. onto_apart s r z h j (inr a))
    (subst (λ (q : Refs). reference_ok q.pin ≡ true) (sym e) k.pin) (subst (λ (q : Refs). reference_ok q.puk ≡ true) (sym e) k.puk)
    (subst (λ (q : Refs). pin_form q.pin.value ≡ true) (sym e) k.form))

pub refs-ok : (s : List ℕ) (b : Bool) → well_formed s ≡ true → (b ≡ true → (reference_at s pin_at).left ≡ (reference_at s pin_at).limit) → RefsOk (refs_in s b)
unfolding refs_in reference_at
refs-ok s b w full =
    let f : Wf s = wf_tests s w in
    record { pin = f.pin; puk = f.puk; form = f.form; size = length_part s 20 8 (omega (arith, wf_size s w)); full = full }

-- ---- steps

module _ (f : Reference) (k : reference_ok f ≡ true) where
  limits : (leb 1 f.limit && leb f.limit 15) ≡ true
  unfolding reference_ok
  limits = and_left _ (leb f.left f.limit) k

  pub tries : f.left ≤ f.limit
  unfolding reference_ok
  tries = leb-true _ _ (and_right (leb 1 f.limit && leb f.limit 15) _ k)

  charged-ok : reference_ok (charged f) ≡ true
  unfolding reference_ok charged
  charged-ok = and_both _ _ limits (le-leb (f.left - 1) f.limit (omega (arith, tries)))

  restored-ok : reference_ok (restored f) ≡ true
  unfolding reference_ok restored
  restored-ok = and_both _ _ limits (le-leb f.limit f.limit (omega arith))

  renewed-ok : (v : List ℕ) → reference_ok (renewed f v) ≡ true
  unfolding reference_ok renewed
  renewed-ok v = k

-- ---- what the rules say

module _ (r : Refs) (k : RefsOk r) where
  abbrev Ok : Said → Type 0
  Ok x = RefsOk (after r x)

  answer_ok : (sw : ℕ) → Ok (answer sw r)
  unfolding after made with_given
  answer_ok sw = record { pin = k.pin; puk = k.puk; form = k.form; size = k.size; full = k.full }

  missed-pin : Ok (missed r the_pin false)
  unfolding after made with_given stepped put_the the missed charged
  missed-pin = record { pin = charged-ok r.pin k.pin; puk = k.puk; form = k.form; size = k.size; full = λ e. absurd (false≢true e) }

  missed-puk : (b : Bool) → (b ≡ true → r.given ≡ true) → Ok (missed r the_puk b)
  unfolding after made with_given stepped put_the the missed charged
  missed-puk b g = record { pin = k.pin; puk = charged-ok r.puk k.puk; form = k.form; size = k.size; full = λ e. k.full (g e) }

  verified-ok : Ok verified
  unfolding after made with_given stepped put_the the verified charged restored
  verified-ok = record { pin = restored-ok _ (charged-ok r.pin k.pin); puk = k.puk; form = k.form; size = k.size; full = λ e. refl }

  ended_ok : Ok (record { sw = 0x9000; steps = []; given = false })
  unfolding after made with_given
  ended_ok = record { pin = k.pin; puk = k.puk; form = k.form; size = k.size; full = λ e. absurd (false≢true e) }

  changed-pin : (v : List ℕ) → pin_form v ≡ true → Ok (changed the_pin v true)
  unfolding after made with_given stepped put_the the changed charged restored renewed
  changed-pin v e = record {
    pin = restored-ok _ (renewed-ok _ (charged-ok r.pin k.pin) v);
    puk = k.puk;
    form = e;
    size = k.size;
    full = λ g. refl;
  }

  changed-puk : (v : List ℕ) → length v ≡ 8 → Ok (changed the_puk v r.given)
  unfolding after made with_given stepped put_the the changed charged restored renewed
  changed-puk v e = record {
    pin = k.pin;
    puk = restored-ok _ (renewed-ok _ (charged-ok r.puk k.puk) v);
    form = k.form;
    size = e;
    full = k.full;
  }

  reset_to_lem : (v : List ℕ) → pin_form v ≡ true → Ok (reset_to r v)
  unfolding after made with_given stepped put_the the reset_to charged restored renewed
  reset_to_lem v e = record {
    pin = restored-ok _ (renewed-ok _ k.pin v);
    puk = restored-ok _ (charged-ok r.puk k.puk);
    form = e;
    size = k.size;
    full = λ g. refl;
  }

  pub verify-ok : (h : Header) (d : List ℕ) → Ok (verify r h d)
  unfolding verify verify_ended verify_asked verify_given
  verify-ok h d =
      either Ok _ (answer_ok _)
      (either Ok _ (answer_ok _)
      (either Ok _ (either Ok _ (answer_ok _) ended_ok)
      (either Ok _ (either Ok _ (answer_ok _) (answer_ok _))
      (either Ok _ (answer_ok _) (either Ok _ (answer_ok _) (either Ok _ verified-ok missed-pin))))))

  pub change-ok : (h : Header) (d : List ℕ) → Ok (change r h d)
  unfolding change change_of puk_form
  change-ok h d =
      either Ok _ (answer_ok _)
      (either Ok _ (answer_ok _)
      (either Ok _
      (either Ok _ (answer_ok _)
      (either Ok _ (answer_ok _)
      (branch Ok _ (λ b. answer_ok _)
      λ b. either Ok _ (changed-pin (drop 8 d) (and_right (pin_form (take 8 d)) _ (not-false _ b))) missed-pin)))
      (either Ok _ (answer_ok _)
      (either Ok _ (answer_ok _)
      (branch Ok _ (λ b. answer_ok _)
      λ b. either Ok _ (changed-puk (drop 8 d) (eqb-true _ _ (and_right (eqb (length (take 8 d)) 8) _ (not-false _ b)))) (missed-puk r.given (λ e. e)))))))

  pub reset-ok : (h : Header) (d : List ℕ) → Ok (reset r h d)
  unfolding reset reset_given
  reset-ok h d =
      either Ok _ (answer_ok _)
      (either Ok _ (answer_ok _)
      (either Ok _ (answer_ok _)
      (either Ok _ (answer_ok _)
      (branch Ok _ (λ b. answer_ok _)
      λ b. either Ok _ (reset_to_lem (drop 8 d) (and_right (puk_form (take 8 d)) _ (not-false _ b))) (missed-puk false (λ e. absurd (false≢true e)))))))
