-- Slots: the slots of a store, read and written.
--
--   slot_fits_lem slot-from  a slot lies in the store, behind its first 32 bytes
--   capacity_small           no capacity is over 13,312
--   slots_apart              two slots do not overlap
--   Sound s                  s has its size, and no length passes its capacity
--   object-length            the length of an object is that of its slot
--   slot_bytes-length        a slot written has its length and its capacity
--   put-before put_in_lem put-after put_other  the bytes of a store in which an object was put
--   put-size                 it keeps its size
--   put-length put-length-other                the lengths in it
--   put-object put-tail put-object-other       the object put is there, zeros behind it, and the others stay
--   sound_put                it stays sound
--
-- Assumes nothing.
use mathlib.Core.Path.{◌≡◌, refl, ap, ◌∙◌, subst}
use mathlib.Core.Logic.{◌⊎◌, inl, inr, ⊎_elim}
use mathlib.Core.Bool.{Bool, true, ◌&&◌, ◌||◌}
use mathlib.Core.List.{List, [], ◌∷◌, ◌++◌}
use Prim.Native.Nat.{ℕ, ◌+◌, ◌-◌, ◌/◌, ◌%◌, ◌≤◌, ◌<◌}
use native.Mathlib.Omega.{arith}
use lib.Dec.{leb, eqb}
use lib.ListN.{length, get_or, length-append, length-replicate, get_or-replicate, get_or-append}
use lib.Seq.{get_or-append-add, ext_get_or}
use borrow.Author.Tests.{eqb-true, leb-true}
use Rattle.rules.specs.Bytes.{all_below, part, zeros, word, be16}
use Rattle.rules.specs.Store.{store_size, slots, capacity, offset, slot_length, object_of, slot_bytes, put_object}
use Rattle.rules.proofs.Tests.{at_each, and_left, and_right, or_cases, by_equal}
use Rattle.rules.proofs.Lists.{length-splice, splice-before, splice_in, splice-after, length_part, get_or-part, part_ext}

-- ---- the table's rules, each computed once

unfoldable slot_fits : ℕ → Bool
slot_fits i = leb (offset i + (2 + capacity i)) store_size && (leb 32 (offset i) && leb (capacity i) 13312)

fits_all : all_below slot_fits slots ≡ true
unfolding slot_fits offset capacity
fits_all = refl

module _ (i : ℕ) (h : i < slots) where
  pub slot_fits_lem : offset i + (2 + capacity i) ≤ store_size
  unfolding slot_fits
  slot_fits_lem = leb-true _ _ (and_left _ _ (at_each slot_fits slots fits_all i h))

  rest_fits : (leb 32 (offset i) && leb (capacity i) 13312) ≡ true
  unfolding slot_fits
  rest_fits = and_right (leb (offset i + (2 + capacity i)) store_size) _ (at_each slot_fits slots fits_all i h)

  pub slot-from : 32 ≤ offset i
  slot-from = leb-true _ _ (and_left _ _ rest_fits)

  pub capacity_small : capacity i ≤ 13312
  capacity_small = leb-true _ _ (and_right (leb 32 (offset i)) _ rest_fits)

unfoldable apart_at : ℕ → ℕ → Bool
apart_at i k = eqb i k || leb (offset i + (2 + capacity i)) (offset k) || leb (offset k + (2 + capacity k)) (offset i)

unfoldable apart_from : ℕ → Bool
apart_from i = all_below (apart_at i) slots

apart_all : all_below apart_from slots ≡ true
unfolding apart_from apart_at offset capacity
apart_all = refl

pub slots_apart : (i k : ℕ) → i < slots → k < slots → (i ≡ k → ⊥)
    → (offset i + (2 + capacity i) ≤ offset k) ⊎ (offset k + (2 + capacity k) ≤ offset i)
unfolding apart_from apart_at
slots_apart i k hi hk ne =
    ⊎_elim
    (λ e. ⊎_elim (λ q. absurd (ne (eqb-true i k q))) (λ q. inl (leb-true _ _ q)) (or_cases (eqb i k) _ e)) (λ q. inr (leb-true _ _ q))
    (or_cases (eqb i k || leb (offset i + (2 + capacity i)) (offset k)) _ (at_each (apart_at i) slots (at_each apart_from slots apart_all i hi) k hk))

-- ---- reading

pub record Sound (s : List ℕ) : Type 0 where
  pub size : length s ≡ store_size
  pub lengths : (i : ℕ) → i < slots → slot_length s i ≤ capacity i

pub object-length : (s : List ℕ) → Sound s → (i : ℕ) → i < slots → length (object_of s i) ≡ slot_length s i
unfolding object_of
object-length s so i hi = length_part s (offset i + 2) (slot_length s i) (omega (arith, so.size, so.lengths i hi, slot_fits_lem i hi))

-- ---- writing

pub slot_bytes-length : (i : ℕ) (v : List ℕ) → length v ≤ capacity i → length (slot_bytes i v) ≡ 2 + capacity i
unfolding slot_bytes word zeros
slot_bytes-length i v h = simp (length-append, length-replicate) (omega arith)

module _ (s : List ℕ) (i : ℕ) (v : List ℕ) (hi : i < slots) (hv : length v ≤ capacity i) (hs : length s ≡ store_size) where
  pub put_fits : offset i + length (slot_bytes i v) ≤ length s
  put_fits = rw (slot_bytes-length i v hv, hs) (slot_fits_lem i hi)

  pub put-size : length (put_object s i v) ≡ store_size
  unfolding put_object
  put-size = length-splice s (slot_bytes i v) (offset i) put_fits ∙ hs

  pub put-before : (j : ℕ) → j < offset i → get_or (put_object s i v) j 0 ≡ get_or s j 0
  unfolding put_object
  put-before j h = splice-before s (slot_bytes i v) (offset i) put_fits j h

  pub put_in_lem : (k : ℕ) → k < 2 + capacity i → get_or (put_object s i v) (offset i + k) 0 ≡ get_or (slot_bytes i v) k 0
  unfolding put_object
  put_in_lem k h = splice_in s (slot_bytes i v) (offset i) put_fits k (rw (slot_bytes-length i v hv) h)

  pub put-after : (j : ℕ) → offset i + (2 + capacity i) ≤ j → get_or (put_object s i v) j 0 ≡ get_or s j 0
  unfolding put_object
  put-after j h = splice-after s (slot_bytes i v) (offset i) put_fits j (rw (slot_bytes-length i v hv) h)

  pub put_other : (k : ℕ) → k < slots → (i ≡ k → ⊥) → (m : ℕ) → m < 2 + capacity k
      → get_or (put_object s i v) (offset k + m) 0 ≡ get_or s (offset k + m) 0
  put_other k hk ne m hm =
      ⊎_elim (λ h. put-after (offset k + m) (omega arith)) (λ h. put-before (offset k + m) (omega arith)) (slots_apart i k hi hk ne)

  pub put-length : slot_length (put_object s i v) i ≡ length v
  unfolding slot_length be16 slot_bytes word
  put-length =
      let a : get_or (put_object s i v) (offset i) 0 ≡ length v / 256 % 256 =
      ap (λ (n : ℕ). get_or (put_object s i v) n 0) (omega arith) ∙ put_in_lem 0 (omega arith) in
      let b : get_or (put_object s i v) (offset i + 1) 0 ≡ length v % 256 = put_in_lem 1 (omega arith) in
      rw (a, b) (omega (arith, capacity_small i hi))

  pub put-length-other : (k : ℕ) → k < slots → (i ≡ k → ⊥) → slot_length (put_object s i v) k ≡ slot_length s k
  unfolding slot_length be16
  put-length-other k hk ne =
      let a : get_or (put_object s i v) (offset k) 0 ≡ get_or s (offset k) 0 =
      ap (λ (n : ℕ). get_or (put_object s i v) n 0) (omega arith)
      ∙ put_other k hk ne 0 (omega arith)
      ∙ ap (λ (n : ℕ). get_or s n 0) (omega arith) in
      let b : get_or (put_object s i v) (offset k + 1) 0 ≡ get_or s (offset k + 1) 0 = put_other k hk ne 1 (omega arith) in
      rw (a, b)

  value_at : (k : ℕ) → k < length v → get_or (slot_bytes i v) (2 + k) 0 ≡ get_or v k 0
  unfolding slot_bytes word
  value_at k h =
      get_or-append-add (length v / 256 % 256 ∷ length v % 256 ∷ []) (v ++ zeros (capacity i - length v)) k 0
      ∙ get_or-append v _ 0 k h

  -- and behind it zeros
  pub put-tail : (n : ℕ) → length v ≤ n → n < capacity i → get_or (put_object s i v) (offset i + (2 + n)) 0 ≡ 0
  unfolding slot_bytes word zeros
  put-tail n l h =
      put_in_lem (2 + n) (omega arith)
      ∙ get_or-append-add (length v / 256 % 256 ∷ length v % 256 ∷ []) (v ++ zeros (capacity i - length v)) n 0
      ∙ ap (λ (k : ℕ). get_or (v ++ zeros (capacity i - length v)) k 0) (omega arith)
      ∙ get_or-append-add v (zeros (capacity i - length v)) (n - length v) 0
      ∙ get_or-replicate (capacity i - length v) (n - length v) 0 0 (omega arith)

  object_fits : offset i + 2 + length v ≤ length (put_object s i v)
  object_fits = omega (arith, put-size, slot_fits_lem i hi)

  -- what is put is there
  pub put-object : object_of (put_object s i v) i ≡ v
  unfolding object_of
  put-object = rw put-length
      (ext_get_or 0 (part (put_object s i v) (offset i + 2) (length v)) v (length_part (put_object s i v) (offset i + 2) (length v) object_fits)
      λ k h. let hk : k < length v = rw (length_part (put_object s i v) (offset i + 2) (length v) object_fits) at h in
      get_or-part (put_object s i v) (offset i + 2) (length v) object_fits k hk
      ∙ ap (λ (n : ℕ). get_or (put_object s i v) n 0) (omega arith)
      ∙ put_in_lem (2 + k) (omega arith)
      ∙ value_at k hk)

  -- and the others stay
  pub put-object-other : (k : ℕ) → k < slots → (i ≡ k → ⊥) → slot_length s k ≤ capacity k → object_of (put_object s i v) k ≡ object_of s k
  unfolding object_of
  put-object-other k hk ne hl = rw (put-length-other k hk ne)
      (part_ext (put_object s i v) s (offset k + 2) (slot_length s k) (omega (arith, put-size, slot_fits_lem k hk)) (omega (arith, slot_fits_lem k hk))
      λ j h1 h2. subst (λ (n : ℕ). get_or (put_object s i v) n 0 ≡ get_or s n 0) (omega arith) (put_other k hk ne (j - offset k) (omega arith)))

pub sound_put : (s : List ℕ) (i : ℕ) (v : List ℕ) → i < slots → length v ≤ capacity i → Sound s → Sound (put_object s i v)
sound_put s i v hi hv so = record {
  size = put-size s i v hi hv so.size;
  lengths = λ k hk. by_equal i k
      (λ e. subst (λ (n : ℕ). slot_length (put_object s i v) n ≤ capacity n) e (rw (put-length s i v hi hv so.size) hv))
      (λ ne. rw (put-length-other s i v hi hv so.size k hk ne) (so.lengths k hk));
}
