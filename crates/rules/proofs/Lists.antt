-- Lists: parts of a row of bytes, and a row in which a stretch was replaced.
--
--   length-splice              a splice keeps the length
--   splice-before splice_in splice-after  what stands before, in and after the stretch
--   length-zeros               a row of zeros
--   length_part get_or-part     the length of a part, and what stands in it
--   part_ext                   two rows that agree on a stretch have the same part there
--   part_apart                 a part apart from the stretch stays
--   take-splice                a row up to the end of the stretch
--   splice-part                a stretch replaced by itself
--   splice_again               a stretch replaced twice
--   splice_apart               two stretches apart from each other, in either order
--   splice-within              a stretch whose ends stay as they were
--   splice-next join-start     two stretches put one behind the other, and from the start
--   buffers                    these together, for a tactic: lengths, and two stretches as one
--   part-start                 the start of a row whose start was replaced
--   part-add                   a part is its first bytes and those behind them
--   part_none part_cons        a part of no bytes, and its first byte
--   part-head                  the part of a row that starts with the row v
--   same_bytes_lem same_true   `same_bytes` says that two rows are equal
--
-- Assumes nothing.
use mathlib.Core.Path.{◌≡◌, refl, ap, ap₂, sym, ◌∙◌, subst}
use mathlib.Core.Logic.{◌⊎◌, ⊎_elim}
use mathlib.Core.Bool.{true, false≢true}
use mathlib.Core.List.{List, [], ◌∷◌, ◌++◌, append_assoc}
use Prim.Native.Nat.{ℕ, suc, ◌+◌, ◌-◌, ◌≤◌, ◌<◌}
use native.Mathlib.Omega.{arith}
use native.Mathlib.Numerals.{add-one}
use native.Mathlib.Nat.{add_assoc, zero-add}
use lib.Dec.{eqb}
use lib.ListN.{length, take, drop, get_or, length-append, length-take, length-drop, get_or-append, length-replicate}
use lib.Seq.{length-take-le, get_or-append-add, get_or-take, get_or-drop, ext_get_or, take_at, drop_at, drop-drop, drop-cons, take-append-le, take-add}
use borrow.Author.Tests.{eqb-true, eq-eqb}
use Rattle.rules.specs.Bytes.{same_bytes, part, splice, zeros}
use Rattle.rules.proofs.Tests.{and_left, and_right, and_both, by_order}

-- ---- a stretch replaced

module _ (s v : List ℕ) (at : ℕ) (fits : at + length v ≤ length s) where
  pub length-splice : length (splice s at v) ≡ length s
  unfolding splice
  length-splice = simp (length-append, length-take, length-drop) (omega arith)

  pub splice-before : (j : ℕ) → j < at → get_or (splice s at v) j 0 ≡ get_or s j 0
  unfolding splice
  splice-before j h =
      get_or-append (take at s) _ 0 j (simp length-take (omega arith)) ∙ get_or-take at s j 0 h

  pub splice_in : (k : ℕ) → k < length v → get_or (splice s at v) (at + k) 0 ≡ get_or v k 0
  unfolding splice
  splice_in k h =
      ap (λ (n : ℕ). get_or (take at s ++ (v ++ drop (at + length v) s)) (n + k) 0) (sym (length-take-le at s (omega arith)))
      ∙ get_or-append-add (take at s) _ k 0 ∙ get_or-append v _ 0 k h

  pub splice-after : (j : ℕ) → at + length v ≤ j → get_or (splice s at v) j 0 ≡ get_or s j 0
  unfolding splice
  splice-after j h =
      let m : ℕ = j - (at + length v) in
      let e : j ≡ length (take at s) + (length v + m) = rw (length-take-le at s (omega arith)) (omega arith) in
      ap (λ (n : ℕ). get_or (take at s ++ (v ++ drop (at + length v) s)) n 0) e
      ∙ get_or-append-add (take at s) _ (length v + m) 0
      ∙ get_or-append-add v _ m 0
      ∙ get_or-drop (at + length v) s m 0
      ∙ ap (λ (n : ℕ). get_or s n 0) (omega arith)

-- ---- zeros

pub length-zeros : (n : ℕ) → length (zeros n) ≡ n
unfolding zeros
length-zeros n = length-replicate n 0

-- ---- parts

module _ (s : List ℕ) (at n : ℕ) (fits : at + n ≤ length s) where
  pub length_part : length (part s at n) ≡ n
  unfolding part
  length_part = simp (length-take, length-drop) (omega arith)

  pub get_or-part : (i : ℕ) → i < n → get_or (part s at n) i 0 ≡ get_or s (at + i) 0
  unfolding part
  get_or-part i h = rw (get_or-take, get_or-drop)

pub part_ext : (s t : List ℕ) (at n : ℕ) → at + n ≤ length s → at + n ≤ length t
    → ((j : ℕ) → at ≤ j → j < at + n → get_or s j 0 ≡ get_or t j 0) → part s at n ≡ part t at n
part_ext s t at n hs ht same =
    ext_get_or 0 (part s at n) (part t at n) (length_part s at n hs ∙ sym (length_part t at n ht))
    λ i h. let hi : i < n = rw (length_part s at n hs) at h in
    get_or-part s at n hs i hi ∙ same (at + i) (omega arith) (omega arith) ∙ sym (get_or-part t at n ht i hi)

module _ (s v : List ℕ) (at : ℕ) (fits : at + length v ≤ length s) where
  pub part_apart : (a n : ℕ) → a + n ≤ length s → (a + n ≤ at) ⊎ (at + length v ≤ a) → part (splice s at v) a n ≡ part s a n
  part_apart a n h o =
      part_ext (splice s at v) s a n (rw (length-splice s v at fits) h) h
      λ j p q. ⊎_elim (λ u. splice-before s v at fits j (omega arith)) (λ u. splice-after s v at fits j (omega arith)) o

pub take-splice : (s v : List ℕ) (at : ℕ) → at ≤ length s → take (at + length v) (splice s at v) ≡ take at s ++ v
unfolding splice
take-splice s v at h =
    ap (take (at + length v)) (sym (append_assoc (take at s) v (drop (at + length v) s)))
    ∙ take_at (take at s ++ v) _ (at + length v) (length-append (take at s) v ∙ ap (λ (n : ℕ). n + length v) (length-take-le at s h))

pub part-add : (s : List ℕ) (a k j : ℕ) → part s a (k + j) ≡ part s a k ++ part s (a + k) j
unfolding part
part-add s a k j = rw (take-add k j (drop a s), drop-drop k a s)

pub part_none : (s : List ℕ) (at : ℕ) → part s at 0 ≡ []
unfolding part
part_none s at = refl

pub part_cons : (s : List ℕ) (at n : ℕ) → at < length s → part s at (suc n) ≡ get_or s at 0 ∷ part s (at + 1) n
unfolding part
part_cons s at n h = rw (drop-cons s at 0 h, add-one at)

pub part-head : (b v a : List ℕ) → part (b ++ (v ++ a)) (length b) (length v) ≡ v
unfolding part
part-head b v a = ap (take (length v)) (drop_at b (v ++ a) (length b) refl) ∙ take_at v a (length v) refl

-- what stands there already changes nothing
pub splice-part : (s : List ℕ) (at n : ℕ) → at + n ≤ length s → splice s at (part s at n) ≡ s
splice-part s at n fits =
    let v : List ℕ = part s at n in
    let lv : length v ≡ n = length_part s at n fits in
    let f : at + length v ≤ length s = omega arith in
    ext_get_or 0 (splice s at v) s (length-splice s v at f)
    λ j h. by_order j at (λ l. splice-before s v at f j l)
    (λ l. by_order j (at + n)
    (λ m. let e : at + (j - at) ≡ j = omega arith in
    ap (λ (i : ℕ). get_or (splice s at v) i 0) (sym e)
    ∙ splice_in s v at f (j - at) (omega arith)
    ∙ get_or-part s at n fits (j - at) (omega arith)
    ∙ ap (λ (i : ℕ). get_or s i 0) e)
    (λ m. splice-after s v at f j (omega arith)))

-- ---- stretches replaced one after the other

-- a row is given by what stands before, in and after a stretch of it
by_stretch : (s t : List ℕ) (at n : ℕ) → length s ≡ length t → at + n ≤ length s
    → ((j : ℕ) → j < at → get_or s j 0 ≡ get_or t j 0)
    → ((k : ℕ) → k < n → get_or s (at + k) 0 ≡ get_or t (at + k) 0)
    → ((j : ℕ) → at + n ≤ j → get_or s j 0 ≡ get_or t j 0) → s ≡ t
by_stretch s t at n e h low mid high =
    ext_get_or 0 s t e
    λ j l. by_order j at (λ p. low j p)
    (λ p. by_order j (at + n)
    (λ q. subst (λ (i : ℕ). get_or s i 0 ≡ get_or t i 0) (omega arith) (mid (j - at) (omega arith)))
    (λ q. high j q))

-- what is replaced twice is what was put last
pub splice_again : (s v w : List ℕ) (at : ℕ) → length v ≡ length w → at + length v ≤ length s → splice (splice s at v) at w ≡ splice s at w
splice_again s v w at e h =
    let hw : at + length w ≤ length s = omega arith in
    let l : length (splice s at v) ≡ length s = length-splice s v at h in
    let hs : at + length w ≤ length (splice s at v) = omega arith in
    by_stretch (splice (splice s at v) at w) (splice s at w) at (length w)
    (length-splice (splice s at v) w at hs ∙ l ∙ sym (length-splice s w at hw)) (rw (length-splice (splice s at v) w at hs) hs)
    (λ j p. splice-before (splice s at v) w at hs j p ∙ splice-before s v at h j p ∙ sym (splice-before s w at hw j p))
    (λ k p. splice_in (splice s at v) w at hs k p ∙ sym (splice_in s w at hw k p))
    (λ j p. splice-after (splice s at v) w at hs j p ∙ splice-after s v at h j (omega arith) ∙ sym (splice-after s w at hw j p))

-- the first of two stretches, the second behind it
pub splice_apart : (s v w : List ℕ) (at to : ℕ) → at + length v ≤ to → to + length w ≤ length s
    → splice (splice s at v) to w ≡ splice (splice s to w) at v
splice_apart s v w at to a b =
    let hv : at + length v ≤ length s = omega arith in
    let lv : length (splice s at v) ≡ length s = length-splice s v at hv in
    let lw : length (splice s to w) ≡ length s = length-splice s w to b in
    let h1 : to + length w ≤ length (splice s at v) = omega arith in
    let h2 : at + length v ≤ length (splice s to w) = omega arith in
    by_stretch (splice (splice s at v) to w) (splice (splice s to w) at v) to (length w)
    (length-splice (splice s at v) w to h1 ∙ lv ∙ sym (length-splice (splice s to w) v at h2 ∙ lw)) (rw (length-splice (splice s at v) w to h1) h1)
    (λ j p. splice-before (splice s at v) w to h1 j p
    ∙ by_order j at
    (λ q. splice-before s v at hv j q ∙ sym (splice-before (splice s to w) v at h2 j q ∙ splice-before s w to b j p))
    (λ q. by_order j (at + length v)
    (λ r. subst (λ (i : ℕ). get_or (splice s at v) i 0 ≡ get_or (splice (splice s to w) at v) i 0) (omega arith)
    (splice_in s v at hv (j - at) (omega arith) ∙ sym (splice_in (splice s to w) v at h2 (j - at) (omega arith))))
    (λ r. splice-after s v at hv j r ∙ sym (splice-after (splice s to w) v at h2 j r ∙ splice-before s w to b j p))))
    (λ k p. splice_in (splice s at v) w to h1 k p
    ∙ sym (splice-after (splice s to w) v at h2 (to + k) (omega arith) ∙ splice_in s w to b k p))
    (λ j p. splice-after (splice s at v) w to h1 j p ∙ splice-after s v at hv j (omega arith)
    ∙ sym (splice-after (splice s to w) v at h2 j (omega arith) ∙ splice-after s w to b j p))

-- the ends of a stretch stay as they were: only its middle is replaced
pub splice-within : (s a v b : List ℕ) (at : ℕ) → at + (length a + (length v + length b)) ≤ length s
    → ((k : ℕ) → k < length a → get_or a k 0 ≡ get_or s (at + k) 0)
    → ((k : ℕ) → k < length b → get_or b k 0 ≡ get_or s (at + length a + length v + k) 0)
    → splice s at (a ++ (v ++ b)) ≡ splice s (at + length a) v
splice-within s a v b at h ha hb =
    let m : List ℕ = a ++ (v ++ b) in
    let lm : length m ≡ length a + (length v + length b) = length-append a (v ++ b) ∙ ap (λ (n : ℕ). length a + n) (length-append v b) in
    let hm : at + length m ≤ length s = omega arith in
    let hv : at + length a + length v ≤ length s = omega arith in
    by_stretch (splice s at m) (splice s (at + length a) v) (at + length a) (length v)
    (length-splice s m at hm ∙ sym (length-splice s v (at + length a) hv)) (rw (length-splice s m at hm) hv)
    (λ j p. by_order j at
    (λ q. splice-before s m at hm j q ∙ sym (splice-before s v (at + length a) hv j p))
    (λ q. let e : at + (j - at) ≡ j = omega arith in
    subst (λ (i : ℕ). get_or (splice s at m) i 0 ≡ get_or (splice s (at + length a) v) i 0) e
    (splice_in s m at hm (j - at) (omega arith) ∙ get_or-append a (v ++ b) 0 (j - at) (omega arith) ∙ ha (j - at) (omega arith)
    ∙ sym (splice-before s v (at + length a) hv (at + (j - at)) (omega arith)))))
    (λ k p. ap (λ (i : ℕ). get_or (splice s at m) i 0) (add_assoc at (length a) k)
    ∙ splice_in s m at hm (length a + k) (omega arith)
    ∙ get_or-append-add a (v ++ b) k 0 ∙ get_or-append v b 0 k p
    ∙ sym (splice_in s v (at + length a) hv k p))
    (λ j p. by_order j (at + length m)
    (λ q. let k : ℕ = j - (at + length a + length v) in
    let e : at + (length a + (length v + k)) ≡ j = omega arith in
    let e' : at + length a + length v + k ≡ j = omega arith in
    subst (λ (i : ℕ). get_or (splice s at m) i 0 ≡ get_or (splice s (at + length a) v) j 0) e
    (splice_in s m at hm (length a + (length v + k)) (omega arith) ∙ get_or-append-add a (v ++ b) (length v + k) 0
    ∙ get_or-append-add v b k 0 ∙ hb k (omega arith) ∙ ap (λ (i : ℕ). get_or s i 0) e'
    ∙ sym (splice-after s v (at + length a) hv j p)))
    (λ q. splice-after s m at hm j q ∙ sym (splice-after s v (at + length a) hv j p)))

-- the first n bytes replaced change nothing behind them
behind : (s p : List ℕ) (n m : ℕ) → length p ≡ n → drop (n + m) (p ++ drop n s) ≡ drop (n + m) s
behind s p n m e = sym (drop-drop m n (p ++ drop n s)) ∙ ap (drop m) (drop_at p (drop n s) n e) ∙ drop-drop m n s

-- two stretches put one behind the other
pub splice-next : (s u v : List ℕ) (at : ℕ) → at + length u ≤ length s
    → splice (splice s at u) (at + length u) v ≡ splice s at (u ++ v)
unfolding splice
splice-next s u v at h =
    let n : ℕ = at + length u in
    let p : List ℕ = take at s ++ u in
    let lp : length p ≡ n = simp (length-append, length-take) (omega arith) in
    let e : take at s ++ (u ++ drop n s) ≡ p ++ drop n s = sym (append_assoc (take at s) u (drop n s)) in
    let w : n + length v ≡ at + length (u ++ v) = simp length-append (omega arith) in
    rw (e, take_at p (drop n s) n lp, behind s p n (length v) lp, w) (simp append_assoc)

-- the same from the start of a row
pub join-start : (d a b : List ℕ) → length a + length b ≤ length d → splice (splice d 0 a) (length a) b ≡ splice d 0 (a ++ b)
join-start d a b h = subst (λ (n : ℕ). splice (splice d 0 a) n b ≡ splice d 0 (a ++ b)) (zero-add (length a)) (splice-next d a b 0 (omega arith))

-- the start of a row whose start was replaced
pub part-start : (s v : List ℕ) (n : ℕ) → length v ≤ length s → n ≤ length v → part (splice s 0 v) 0 n ≡ take n v
unfolding part splice
part-start s v n h l = take-append-le n v (drop (0 + length v) s) l

-- ---- the same row

pub same_bytes_lem : (a b : List ℕ) → same_bytes a b ≡ true → a ≡ b
same_bytes_lem [] [] e = refl
same_bytes_lem [] (y ∷ ys) e = absurd (false≢true e)
same_bytes_lem (x ∷ xs) [] e = absurd (false≢true e)
same_bytes_lem (x ∷ xs) (y ∷ ys) e =
    ap₂ {C = List ℕ} (λ z zs. z ∷ zs) (eqb-true x y (and_left (eqb x y) _ e)) (same_bytes_lem xs ys (and_right (eqb x y) _ e))

pub same_true : (a : List ℕ) → same_bytes a a ≡ true
same_true [] = refl
same_true (x ∷ xs) = and_both (eqb x x) _ (eq-eqb x x refl) (same_true xs)

-- ---- for a tactic: what a buffer is after it was written

pub ruleset buffers = (length-splice, length-zeros, length_part, join-start, splice-next, part-start)
