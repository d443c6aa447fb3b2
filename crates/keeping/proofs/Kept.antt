-- Kept: a line that is kept in a buffer says what the whole line says.
--
--   Kin m p a             the line a that is kept of the line p in a buffer of m bytes: the line itself; or both are long, a is of digits
--                         where p is, and then their lengths are both even or both odd
--   kept_kin              what is kept of a line, byte by byte, is its kin
--   kin_hex               and it is hex where the line is
--
-- Assumes nothing.
use mathlib.Core.Path.{◌≡◌, refl, ap, ap₂, sym, subst, ◌∙◌}
use mathlib.Core.Bool.{Bool, true, false, ◌&&◌, false≢true}
use mathlib.Core.List.{List, [], ◌∷◌, ◌++◌, append_assoc, append-nil}
use Prim.Native.Nat.{ℕ, suc, ◌+◌, ◌-◌, ◌%◌, ◌≤◌, ◌<◌}
use native.Mathlib.Omega.{arith}
use lib.Dec.{eqb}
use lib.ListN.{length, take, drop, get_or, length-take}
use lib.Seq.{take_at, take-suc}
use borrow.Author.Tests.{lt-ltb, le-ltb}
use Rattle.std.proofs.Math.Bool.{and_assoc}
use Rattle.std.proofs.lemmas.List.{length_push}
use Rattle.rules.specs.Bytes.{iff, all, splice}
use Rattle.rules.proofs.Tests.{on, off, by_order, and_left, and_end, and_off_left, and_off_right}
use Rattle.rules.proofs.Lists.{length-splice}
use Rattle.text.specs.Text.{is_digit, is_hex}
use Rattle.keeping.specs.Keeping.{Kept, kept, keep, keep_all, kept_line}

pub data Kin (m : ℕ) (p a : List ℕ) : Type 0 where
  itself : a ≡ p → Kin m p a
  long : m ≤ length a + 1 → m ≤ length p → all is_digit a ≡ all is_digit p → (all is_digit p ≡ true → length a % 2 ≡ length p % 2) → Kin m p a

-- ---- rows

all_append : (a b : List ℕ) → all is_digit (a ++ b) ≡ (all is_digit a && all is_digit b)
all_append [] b = refl
all_append (x ∷ a) b = ap (λ (t : Bool). is_digit x && t) (all_append a b) ∙ sym (and_assoc (is_digit x) (all is_digit a) (all is_digit b))

all_one : (a : List ℕ) (b : ℕ) → all is_digit (a ++ (b ∷ [])) ≡ (all is_digit a && is_digit b)
all_one a b = all_append a (b ∷ []) ∙ ap (λ (t : Bool). all is_digit a && t) (and_end (is_digit b))

-- a byte stored behind the first n
take-stored : (s : List ℕ) (n b : ℕ) → n < length s → take (n + 1) (splice s n (b ∷ [])) ≡ take n s ++ (b ∷ [])
unfolding splice
take-stored s n b h =
    ap (take (n + 1)) (sym (append_assoc (take n s) (b ∷ []) (drop (n + 1) s)))
    ∙ take_at (take n s ++ (b ∷ [])) (drop (n + 1) s) (n + 1) (omega (arith, length_push (take n s) b, length-take n s))

-- the last byte of a full buffer
last_apart : (s : List ℕ) (n : ℕ) → n ≡ length s → 1 ≤ n → take n s ≡ take (n - 1) s ++ (get_or s (n - 1) 0 ∷ [])
last_apart s n e h = let k : n ≡ suc (n - 1) = omega arith in ap (λ (m : ℕ). take m s) k ∙ take-suc s (n - 1) 0 (omega arith)

-- ---- what kin says

kin_long : {m : ℕ} {p a : List ℕ} → Kin m p a → m ≤ length a → m ≤ length p
kin_long (itself e) h = omega (arith, ap length e)
kin_long (long x y e v) h = y

kin_all : {m : ℕ} {p a : List ℕ} → Kin m p a → all is_digit a ≡ all is_digit p
kin_all (itself e) = ap (all is_digit) e
kin_all (long x y e v) = e

kin_even : {m : ℕ} {p a : List ℕ} → Kin m p a → all is_digit p ≡ true → length a % 2 ≡ length p % 2
kin_even (itself e) t = ap (λ (l : List ℕ). length l % 2) e
kin_even (long x y e v) t = v t

kin_more : {m : ℕ} {p a : List ℕ} → Kin m p a → (b : ℕ) → Kin m (p ++ (b ∷ [])) (a ++ (b ∷ []))
kin_more (itself e) b = itself (ap (λ (l : List ℕ). l ++ (b ∷ [])) e)
kin_more {m} {p} {a} (long x y e v) b =
    long (omega (arith, length_push a b)) (omega (arith, length_push p b))
    (all_one a b ∙ ap (λ (t : Bool). t && is_digit b) e ∙ sym (all_one p b))
    (λ t. omega (arith, length_push a b, length_push p b, v (and_left (all is_digit p) (is_digit b) (sym (all_one p b) ∙ t))))

-- ---- one byte more

record Next (m : ℕ) (p : List ℕ) (k : Kept) : Type 0 where
  size : length k.bytes ≡ m
  fits : k.len ≤ m
  kin : Kin m p (take k.len k.bytes)

-- the buffer s is full
module _ (m n b : ℕ) (s p : List ℕ) (size : length s ≡ m) (two : 2 ≤ m) (full : n ≡ m) (kin : Kin m p (take n s)) where
  last : ℕ
  last = get_or s (n - 1) 0

  apart : all is_digit (take n s) ≡ (all is_digit (take (n - 1) s) && is_digit last)
  unfolding last
  apart = ap (all is_digit) (last_apart s n (omega arith) (omega arith)) ∙ all_one (take (n - 1) s) (get_or s (n - 1) 0)

  long_line : m ≤ length (p ++ (b ∷ []))
  long_line = omega (arith, length_push p b, kin_long kin (omega (arith, length-take n s)))

  shortened : is_digit b ≡ true → is_digit last ≡ true → Next m (p ++ (b ∷ [])) (kept (n - 1) s)
  shortened x y = record {
    size = size;
    fits = omega arith;
    kin = long (omega (arith, length-take (n - 1) s)) long_line
        (sym (and_end (all is_digit (take (n - 1) s))) ∙ ap (λ (t : Bool). all is_digit (take (n - 1) s) && t) (sym y) ∙ sym apart ∙ kin_all kin
        ∙ sym (all_one p b ∙ ap (λ (t : Bool). all is_digit p && t) x ∙ and_end (all is_digit p)))
        (λ t. omega (arith, length-take n s, length-take (n - 1) s, length_push p b, kin_even kin (and_left (all is_digit p) (is_digit b) (sym (all_one p b) ∙ t))));
  }

  none : all is_digit (take n (splice s 0 (0 ∷ []))) ≡ false
  unfolding splice is_digit
  none = let k : n ≡ suc (n - 1) = omega arith in ap (λ (j : ℕ). all is_digit (take j (0 ∷ drop (0 + 1) s))) k

  marked : all is_digit (p ++ (b ∷ [])) ≡ false → Next m (p ++ (b ∷ [])) (kept n (splice s 0 (0 ∷ [])))
  marked f =
      let l : length (splice s 0 (0 ∷ [])) ≡ length s = length-splice s (0 ∷ []) 0 (omega arith) in
      record {
        size = l ∙ size;
        fits = omega arith;
        kin = long (omega (arith, length-take n (splice s 0 (0 ∷ [])), l)) long_line (none ∙ sym f) (λ t. absurd (false≢true (sym f ∙ t)));
      }

  next-full : Next m (p ++ (b ∷ [])) (iff (is_digit b && is_digit last) (kept (n - 1) s) (kept n (splice s 0 (0 ∷ []))))
  unfolding iff
  next-full = go (is_digit b) (is_digit last) refl refl
    where
      go : (x y : Bool) → is_digit b ≡ x → is_digit last ≡ y → Next m (p ++ (b ∷ [])) (iff (x && y) (kept (n - 1) s) (kept n (splice s 0 (0 ∷ []))))
      go true true ex ey = shortened ex ey
      go true false ex ey = marked (all_one p b ∙ and_off_left _ _ (sym (kin_all kin) ∙ apart ∙ and_off_right (all is_digit (take (n - 1) s)) _ ey))
      go false y ex ey = marked (all_one p b ∙ and_off_right (all is_digit p) _ ex)

next : (m n b : ℕ) (s p : List ℕ) → length s ≡ m → 2 ≤ m → n ≤ m → Kin m p (take n s) → Next m (p ++ (b ∷ [])) (keep s n b)
unfolding keep last
next m n b s p size two fits kin =
    by_order n (length s)
    (λ h. subst (Next m (p ++ (b ∷ []))) (sym (on _ _ _ (lt-ltb n (length s) h))) (record {
      size = length-splice s (b ∷ []) n (omega arith) ∙ size;
      fits = omega arith;
      kin = subst (Kin m (p ++ (b ∷ []))) (sym (take-stored s n b h)) (kin_more kin b);
    }))
    (λ h. subst (Next m (p ++ (b ∷ []))) (sym (off _ _ _ (le-ltb n (length s) h))) (next-full m n b s p size two (omega arith) kin))

-- ---- a line

kin_all-bytes : (m n : ℕ) (s p l : List ℕ) → length s ≡ m → 2 ≤ m → n ≤ m → Kin m p (take n s)
    → Kin m (p ++ l) (take (keep_all s n l).len (keep_all s n l).bytes)
kin_all-bytes m n s p [] size two fits kin = subst (λ (q : List ℕ). Kin m q (take n s)) (sym (append-nil p)) kin
kin_all-bytes m n s p (b ∷ l) size two fits kin =
    let k : Kept = keep s n b in
    let x : Next m (p ++ (b ∷ [])) k = next m n b s p size two fits kin in
    subst (λ (q : List ℕ). Kin m q (take (keep_all k.bytes k.len l).len (keep_all k.bytes k.len l).bytes)) (append_assoc p (b ∷ []) l)
    (kin_all-bytes m k.len k.bytes (p ++ (b ∷ [])) l x.size two x.fits x.kin)

pub kept_kin : (s l : List ℕ) → 2 ≤ length s → Kin (length s) l (kept_line s l)
unfolding kept_line
kept_kin s l h = kin_all-bytes (length s) 0 s [] l refl h (omega arith) (itself refl)

pub kin_hex : {m : ℕ} {p a : List ℕ} → Kin m p a → is_hex a ≡ is_hex p
unfolding is_hex
kin_hex {m} {p} {a} k = go (all is_digit p) refl
  where
    go : (t : Bool) → all is_digit p ≡ t → (eqb (length a % 2) 0 && all is_digit a) ≡ (eqb (length p % 2) 0 && all is_digit p)
    go true e = ap₂ {C = Bool} (λ x y. eqb x 0 && y) (kin_even k e) (kin_all k)
    go false e = and_off_right (eqb (length a % 2) 0) (all is_digit a) (kin_all k ∙ e) ∙ sym (and_off_right (eqb (length p % 2) 0) _ e)
