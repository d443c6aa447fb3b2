-- Lengths: the length rule (specs/Claims/Lengths), by the number of length bytes, and the laws of it that others cite.
--
--   counted            the lengths from room (k - 1) to room k take k bytes
--   form_length        a form of k bytes has k bytes
--   read_by            when a length is read
--   Read read_is       what is known of a length that was read
--   form_read          what is written in k bytes is read back
--   lengths            the claim
--
-- Assumes nothing.
use Rattle.std.specs.Prelude.{Option, None, Some}
use mathlib.Core.Path.{◌≡◌, refl, ap, sym, ◌∙◌, subst}
use mathlib.Core.Bool.{Bool, true, false, ◌||◌}
use mathlib.Core.List.{List, ◌∷◌, ◌++◌}
use Prim.Native.Nat.{ℕ, zero, suc, ◌+◌, ◌-◌, ◌/◌, ◌%◌, ◌≤◌, ◌<◌}
use native.Mathlib.Omega.{arith}
use native.Mathlib.Nat.{add_assoc}
use lib.Dec.{ltb, eqb}
use lib.ListN.{length, get_or, length-append}
use lib.Seq.{get_or-append_seam, get_or-append-add}
use borrow.Author.Tests.{lt-ltb, le-ltb, le-leb, lt-leb, eq-eqb, ne_eqb, eqb-true, eqb-false, ltb-false}
use Rattle.rules.specs.declared.Length.{Length}
use Rattle.rules.specs.Bytes.{iff, part, word, be16}
use Rattle.rules.specs.Ber.{length_bytes, length_form, ber_length, announced, length_value, length_in, length_at, with_next}
use Rattle.rules.specs.Claims.Lengths.{room, Bytes, Holds}
use Rattle.rules.proofs.Tests.{on, off, or-none}
use Rattle.rules.proofs.Lists.{part_none, part_cons}
use Rattle.rules.proofs.Bits.{few_bits, many_bits}

-- ---- how many bytes

pub counted : (k n : ℕ) → 1 ≤ k → k ≤ 3 → room (k - 1) ≤ n → n < room k → length_bytes n ≡ k
unfolding length_bytes
counted zero n h1 h3 lo hi = absurd (omega arith)
counted (suc zero) n h1 h3 lo hi = on _ _ _ (le-leb _ _ (few_bits 7 n (omega arith) hi))
counted (suc (suc zero)) n h1 h3 lo hi =
    off _ _ _ (lt-leb _ _ (many_bits 7 n (omega arith) lo)) ∙ on _ _ _ (le-leb _ _ (few_bits 8 n (omega arith) hi))
counted (suc (suc (suc zero))) n h1 h3 lo hi =
    off _ _ _ (lt-leb _ _ (many_bits 7 n (omega arith) (omega arith))) ∙ off _ _ _ (lt-leb _ _ (many_bits 8 n (omega arith) lo))
counted (suc (suc (suc (suc k)))) n h1 h3 lo hi = absurd (omega arith)

pub form_length : (k n : ℕ) → 1 ≤ k → k ≤ 3 → length (length_form k n) ≡ k
unfolding length_form iff word
form_length zero n h1 h3 = absurd (omega arith)
form_length (suc zero) n h1 h3 = refl
form_length (suc (suc zero)) n h1 h3 = refl
form_length (suc (suc (suc zero))) n h1 h3 = refl
form_length (suc (suc (suc (suc k)))) n h1 h3 = absurd (omega arith)

-- ---- reading

pub read_by : (s : List ℕ) (at k n : ℕ) → 1 ≤ k → announced (get_or s at 0) ≡ k → at + k ≤ length s
    → length_value s at k ≡ n → length_bytes n ≡ k → length_at s at ≡ Some (with_next n (at + k))
unfolding length_at length_in
read_by s at k n h1 ea l ev ec =
    rw ea
    (off _ _ _ (or-none _ _ (ne_eqb k 0 (omega arith)) (le-ltb (length s) (at + k) l))
    ∙ on _ _ _ (eq-eqb _ k (ap length_bytes ev ∙ ec))
    ∙ ap (λ (m : ℕ). Some (with_next m (at + k))) ev)

pub record Read (s : List ℕ) (at n next k : ℕ) : Type 0 where
  pub some : k ≡ 0 → ⊥
  pub fits : at + k ≤ length s
  pub says : length_value s at k ≡ n
  pub short : length_bytes n ≡ k
  pub ends : next ≡ at + k

is_len : Option Length → ℕ
is_len (Some l) = l.len
is_len None = 0

is_next : Option Length → ℕ
is_next (Some l) = l.next
is_next None = 0

not-bad : Option Length → Type 0
not-bad (Some l) = Unit {0}
not-bad None = ⊥

read_in : (s : List ℕ) (at n next k : ℕ) → length_in s at k ≡ Some (with_next n next) → Read s at n next k
unfolding length_in iff is_len is_next not-bad
read_in s at n next k = go (eqb k 0) (ltb (length s) (at + k)) (eqb (length_bytes (length_value s at k)) k) refl refl refl
  where
    go : (b c d : Bool) → eqb k 0 ≡ b → ltb (length s) (at + k) ≡ c → eqb (length_bytes (length_value s at k)) k ≡ d
        → iff (b || c) None (iff d (Some (with_next (length_value s at k) (at + k))) None) ≡ Some (with_next n next) → Read s at n next k
    go true c d p q r e = absurd (subst not-bad (sym e) tt)
    go false true d p q r e = absurd (subst not-bad (sym e) tt)
    go false false false p q r e = absurd (subst not-bad (sym e) tt)
    go false false true p q r e = record {
      some = eqb-false k 0 p;
      fits = ltb-false _ _ q;
      says = ap is_len e;
      short = ap length_bytes (sym (ap is_len e)) ∙ eqb-true _ k r;
      ends = sym (ap is_next e);
    }

pub read_is : (s : List ℕ) (at n next : ℕ) → length_at s at ≡ Some (with_next n next) → Read s at n next (announced (get_or s at 0))
unfolding length_at
read_is s at n next e = read_in s at n next _ e

-- ---- what is written is read back

module _ (b a : List ℕ) (n : ℕ) where
  written : ℕ → List ℕ
  written k = b ++ (length_form k n ++ a)

  -- the first byte announces the form, and the bytes say the length
  announces : (k : ℕ) → 1 ≤ k → k ≤ 3 → n < room k → announced (get_or (written k) (length b) 0) ≡ k
  unfolding written length_form iff word announced
  announces zero h1 h3 hi = absurd (omega arith)
  announces (suc zero) h1 h3 hi = rw (get_or-append_seam b n a 0, lt-ltb n 0x80 hi)
  announces (suc (suc zero)) h1 h3 hi = rw (get_or-append_seam b 0x81 (n ∷ a) 0)
  announces (suc (suc (suc zero))) h1 h3 hi = rw (get_or-append_seam b 0x82 (n / 256 % 256 ∷ n % 256 ∷ a) 0)
  announces (suc (suc (suc (suc k)))) h1 h3 hi = absurd (omega arith)

  tells : (k : ℕ) → 1 ≤ k → k ≤ 3 → n < room k → length_value (written k) (length b) k ≡ n
  unfolding written length_form iff word length_value be16
  tells zero h1 h3 hi = absurd (omega arith)
  tells (suc zero) h1 h3 hi = get_or-append_seam b n a 0
  tells (suc (suc zero)) h1 h3 hi = get_or-append-add b (0x81 ∷ n ∷ a) 1 0
  tells (suc (suc (suc zero))) h1 h3 hi =
      rw (add_assoc (length b) 1 1, get_or-append-add b (0x82 ∷ n / 256 % 256 ∷ n % 256 ∷ a) 1 0, get_or-append-add b (0x82 ∷ n / 256 % 256 ∷ n % 256 ∷ a) 2 0)
      (omega arith)
  tells (suc (suc (suc (suc k)))) h1 h3 hi = absurd (omega arith)

  pub form_read : (k : ℕ) → 1 ≤ k → k ≤ 3 → n < room k → length_bytes n ≡ k
      → length_at (b ++ (length_form k n ++ a)) (length b) ≡ Some (with_next n (length b + k))
  unfolding written
  form_read k h1 h3 hi ec =
      read_by (written k) (length b) k n h1 (announces k h1 h3 hi)
      (omega (arith, length-append b (length_form k n ++ a), length-append (length_form k n) a, form_length k n h1 h3)) (tells k h1 h3 hi) ec

-- ---- only the shortest form

one_of_three : (b : ℕ) → (announced b ≡ 0 → ⊥) → (P : ℕ → Type 0)
    → P 1 → (b ≡ 0x81 → P 2) → (b ≡ 0x82 → P 3) → P (announced b)
unfolding announced iff
one_of_three b ne P p1 p2 p3 = go (ltb b 0x80) (eqb b 0x81) (eqb b 0x82) refl refl refl ne
  where
    go : (x y z : Bool) → ltb b 0x80 ≡ x → eqb b 0x81 ≡ y → eqb b 0x82 ≡ z
        → (◌≡◌ {A = ℕ} (iff x 1 (iff y 2 (iff z 3 0))) 0 → ⊥) → P (iff x 1 (iff y 2 (iff z 3 0)))
    go true y z e f g k = p1
    go false true z e f g k = p2 (eqb-true b 0x81 f)
    go false false true e f g k = p3 (eqb-true b 0x82 g)
    go false false false e f g k = absurd (k refl)

module _ (s : List ℕ) (at n : ℕ) where
  one : at + 1 ≤ length s → length_value s at 1 ≡ n → part s at 1 ≡ length_form 1 n
  unfolding length_value length_form iff
  one f v = part_cons s at 0 (omega arith) ∙ rw (part_none, v)

  two : get_or s at 0 ≡ 0x81 → at + 2 ≤ length s → length_value s at 2 ≡ n → part s at 2 ≡ length_form 2 n
  unfolding length_value length_form iff
  two h f v = part_cons s at 1 (omega arith) ∙ rw (part_cons s (at + 1) 0 (omega arith), part_none, h, v)

  three : Bytes s → get_or s at 0 ≡ 0x82 → at + 3 ≤ length s → length_value s at 3 ≡ n → part s at 3 ≡ length_form 3 n
  unfolding length_value length_form iff word be16
  three hs h f v =
      let hi : n / 256 % 256 ≡ get_or s (at + 1) 0 = omega (arith, hs (at + 1), hs (at + 1 + 1)) in
      let lo : n % 256 ≡ get_or s (at + 1 + 1) 0 = omega (arith, hs (at + 1), hs (at + 1 + 1)) in
      part_cons s at 2 (omega arith)
      ∙ rw (part_cons s (at + 1) 1 (omega arith), part_cons s (at + 1 + 1) 0 (omega arith), part_none, h, hi, lo)

shortest : (s : List ℕ) (at n next : ℕ) → Bytes s → length_at s at ≡ Some (with_next n next) → part s at (length_bytes n) ≡ ber_length n
unfolding ber_length
shortest s at n next hs e =
    let r : Read s at n next (announced (get_or s at 0)) = read_is s at n next e in
    rw r.short
    (one_of_three (get_or s at 0) r.some (λ k. at + k ≤ length s → length_value s at k ≡ n → part s at k ≡ length_form k n)
    (one s at n) (two s at n) (three s at n hs) r.fits r.says)

-- ---- the claim

pub lengths : Holds
unfolding ber_length
lengths = record {
  rule = λ k h1 h3. record {
    counted = λ n lo hi. counted k n h1 h3 lo hi;
    wide = λ n lo hi. rw (counted k n h1 h3 lo hi) (form_length k n h1 h3);
    read_back = λ n lo hi b a. rw (counted k n h1 h3 lo hi) (form_read b a n k h1 h3 hi (counted k n h1 h3 lo hi));
  };
  only_shortest = λ s at n next hs e.
      let r : Read s at n next (announced (get_or s at 0)) = read_is s at n next e in
      (r.ends ∙ ap (λ (k : ℕ). at + k) (sym r.short), shortest s at n next hs e);
}
