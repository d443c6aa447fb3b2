-- Alike: two stores that differ at most in what is secret: what can be read of them, and what can be put into them.
--
--   head_open slot_open    the bytes that are not secret: those of the counts and of the keys, and slots that are not PIN-read
--   alike_splice           the same bytes put into both
--   alike_object           an object that is not PIN-read is the same
--   open_slot              without the PIN, no PIN-read object may be read
--
-- Assumes nothing.
use mathlib.Core.Path.{◌≡◌, refl, ap, sym, ◌∙◌, subst}
use mathlib.Core.Bool.{Bool, true, false, not, ◌||◌, true≢false}
use mathlib.Core.Logic.{◌⊎◌, inl, inr, ⊎_elim}
use mathlib.Core.List.{List}
use Prim.Native.Nat.{ℕ, zero, suc, ◌+◌, ◌-◌, ◌≤◌, ◌<◌}
use native.Mathlib.Omega.{arith}
use lib.Dec.{ltb, leb}
use lib.ListN.{length, get_or}
use borrow.Author.Tests.{le-ltb, lt-leb, not-true}
use Rattle.rules.specs.declared.Session.{Session}
use Rattle.rules.specs.Bytes.{iff, all_below, splice, be16}
use Rattle.rules.specs.declared.Access.{Access}
use Rattle.rules.specs.declared.Access.TheVariants.{Always, WithPin, Never}
use Rattle.rules.specs.Store.{contact_read, contactless_read, slots, capacity, offset, slot_length, object_of}
use Rattle.rules.specs.Session.{allows, readable}
use Rattle.rules.specs.Claims.Secrecy.{within, is_pin, pin_read, any_below, in_pin_read, secret, Alike}
use Rattle.rules.proofs.Tests.{on, off, and_off_left, and_off_right, or-none, or-other, at_each, by_order, by_equal}
use Rattle.rules.proofs.Lists.{length-splice, splice-before, splice_in, splice-after, part_ext}
use Rattle.rules.proofs.Slots.{Sound, slot_fits_lem, slot-from, slots_apart}

-- ---- what is not secret

outside : (at n j : ℕ) → (j < at) ⊎ (at + n ≤ j) → within at n j ≡ false
outside at n j o =
    ⊎_elim (λ h. and_off_left (leb at j) (ltb j (at + n)) (lt-leb at j h)) (λ h. and_off_right (leb at j) (ltb j (at + n)) (le-ltb j (at + n) h)) o

none_below : (f : ℕ → Bool) (n : ℕ) → ((i : ℕ) → i < n → f i ≡ false) → any_below f n ≡ false
none_below f zero h = refl
none_below f (suc n) h = or-none (f n) (any_below f n) (h n (omega arith)) (none_below f n λ i l. h i (omega arith))

-- the first 32 bytes but for the two values
pub head_open : (s : List ℕ) (j : ℕ) → j < 32 → (j < 10) ⊎ (18 ≤ j) → (j < 20) ⊎ (28 ≤ j) → secret s j ≡ false
unfolding secret in_pin_read
head_open s j h a b =
    or-none (within 10 8 j || within 20 8 j) (any_below (in_pin_read j) slots) (or-none (within 10 8 j) (within 20 8 j) (outside 10 8 j a) (outside 20 8 j b))
    (none_below (in_pin_read j) slots λ i l. and_off_right (pin_read i) _ (outside (offset i) (2 + capacity i) j (inl (omega (arith, slot-from i l)))))

pub slot_open : (s : List ℕ) (i : ℕ) → i < slots → pin_read i ≡ false → (m : ℕ) → m < 2 + capacity i → secret s (offset i + m) ≡ false
unfolding secret in_pin_read
slot_open s i hi o m hm =
    let j : ℕ = offset i + m in
    or-none (within 10 8 j || within 20 8 j) (any_below (in_pin_read j) slots)
    (or-none (within 10 8 j) (within 20 8 j) (outside 10 8 j (inr (omega (arith, slot-from i hi)))) (outside 20 8 j (inr (omega (arith, slot-from i hi)))))
    (none_below (in_pin_read j) slots λ k l. by_equal i k
    (λ e. and_off_left (pin_read k) _ (ap pin_read (sym e) ∙ o))
    (λ ne. and_off_right (pin_read k) _ (outside (offset k) (2 + capacity k) j
    (⊎_elim (λ u. inl (omega arith)) (λ u. inr (omega arith)) (slots_apart i k hi l ne)))))

-- ---- two stores

module _ (s t : List ℕ) (al : Alike s t) where
  pub alike_splice : (at : ℕ) (v : List ℕ) → at + length v ≤ length s → Alike (splice s at v) (splice t at v)
  unfolding secret
  alike_splice at v fits =
      let fits_t : at + length v ≤ length t = omega (arith, al.size) in
      record {
        size = length-splice s v at fits ∙ al.size ∙ sym (length-splice t v at fits_t);
        same = λ j h. by_order j at
            (λ l. splice-before s v at fits j l ∙ al.same j h ∙ sym (splice-before t v at fits_t j l))
            (λ l. by_order j (at + length v)
            (λ m. subst (λ (n : ℕ). get_or (splice s at v) n 0 ≡ get_or (splice t at v) n 0) (omega arith)
            (splice_in s v at fits (j - at) (omega arith) ∙ sym (splice_in t v at fits_t (j - at) (omega arith))))
            (λ m. splice-after s v at fits j m ∙ al.same j h ∙ sym (splice-after t v at fits_t j m)));
      }

  length-same : (i : ℕ) → i < slots → pin_read i ≡ false → slot_length s i ≡ slot_length t i
  unfolding slot_length be16
  length-same i hi o =
      let p : get_or s (offset i) 0 ≡ get_or t (offset i) 0 = al.same (offset i) (subst (λ (n : ℕ). secret s n ≡ false) (omega arith) (slot_open s i hi o 0 (omega arith))) in
      let q : get_or s (offset i + 1) 0 ≡ get_or t (offset i + 1) 0 = al.same (offset i + 1) (slot_open s i hi o 1 (omega arith)) in
      rw (p, q)

  pub alike_object : Sound s → Sound t → (i : ℕ) → i < slots → pin_read i ≡ false → object_of s i ≡ object_of t i
  unfolding object_of
  alike_object ss st i hi o = rw (length-same i hi o)
      (part_ext s t (offset i + 2) (slot_length t i) (omega (arith, slot_fits_lem i hi, ss.size, st.lengths i hi)) (omega (arith, slot_fits_lem i hi, st.size, st.lengths i hi))
      λ j a b. al.same j (subst (λ (n : ℕ). secret s n ≡ false) (omega arith) (slot_open s i hi o (j - offset i) (omega (arith, st.lengths i hi)))))

-- ---- reading without the PIN

abbrev is_always : Access → Bool
is_always Always = true
is_always WithPin = false
is_always Never = false

allowed-always : (ss : Session) → ss.pin ≡ false → (a : Access) → is_pin a ≡ false → allows ss a ≡ true → is_always a ≡ true
allowed-always ss pn Always o e = refl
allowed-always ss pn WithPin o e = absurd (true≢false o)
allowed-always ss pn Never o e = e

not-pin : (ss : Session) → ss.pin ≡ false → (a : Access) → allows ss a ≡ true → is_pin a ≡ false
not-pin ss pn Always e = refl
not-pin ss pn WithPin e = absurd (true≢false (sym e ∙ pn))
not-pin ss pn Never e = refl

-- by the table: what may be read always without contact is not PIN-read
unfoldable open_air : ℕ → Bool
open_air i = not (is_always (get_or contactless_read i Never)) || not (pin_read i)

air_all : all_below open_air slots ≡ true
unfolding open_air pin_read
air_all = refl

pub open_slot : (ss : Session) → ss.pin ≡ false → (i : ℕ) → i < slots → readable ss i ≡ true → pin_read i ≡ false
unfolding readable open_air pin_read
open_slot ss pn i hi = go ss.contactless
  where
    go : (air : Bool) → allows ss (iff air (get_or contactless_read i Never) (get_or contact_read i Never)) ≡ true → pin_read i ≡ false
    go true e =
        let a : Access = get_or contactless_read i Never in
        let y : allows ss a ≡ true = subst (λ (x : Access). allows ss x ≡ true) (on true a (get_or contact_read i Never) refl) e in
        not-true _ (or-other (not (is_always a)) (not (pin_read i)) (at_each open_air slots air_all i hi) (ap not (allowed-always ss pn a (not-pin ss pn a y) y)))
    go false e = not-pin ss pn (get_or contact_read i Never) (subst (λ (x : Access). allows ss x ≡ true) (off false (get_or contactless_read i Never) (get_or contact_read i Never) refl) e)
