-- Numbers: the numbers that stand in bytes, the highest byte first.
--
--   Number f k m       f reads a number below m from k bytes, and the bytes and the number give each other
--   byte join          one byte is a number, and so are two numbers, one behind the other
--   number16 number32 number64    be16, be32 and be64 are numbers
--   number_same        two stretches have the same number exactly where they are the same bytes
--
-- So eight bytes are given by their number (`number64.given`), and their number by them (`number64.alike`).
-- Assumes nothing.
use mathlib.Core.Path.{◌≡◌, refl, sym, ap, ap₂, ◌∙◌}
use mathlib.Core.Bool.{Bool, true, false}
use mathlib.Core.List.{List, ◌∷◌, ◌++◌}
use Prim.Native.Nat.{ℕ, zero, suc, ◌+◌, ◌*◌, ◌^◌, ◌≤◌, ◌<◌}
use native.Mathlib.Nat.{suc-mul, zero-mul, add-zero, mul-le-mul_right}
use native.Mathlib.Omega.{arith}
use lib.Dec.{eqb}
use lib.ListN.{length, take, drop, get_or}
use lib.Seq.{get_or-take, get_or-drop}
use borrow.Author.Tests.{eqb-true, eqb-false}
use Rattle.rules.specs.Bytes.{same_bytes, part, be16, be32, be64}
use Rattle.rules.specs.Claims.Lengths.{Bytes}
use Rattle.rules.proofs.Lists.{part_none, part_cons, same_bytes_lem, same_true, part-add}
use Rattle.octets.proofs.Laws.{part-first, part-rest}

-- below: the number is below m where the elements of s are bytes
-- given: two stretches inside their rows with the same number are the same bytes
-- alike: the same bytes have the same number
pub record Number (f : List ℕ → ℕ → ℕ) (k m : ℕ) : Type 0 where
  pub below : (s : List ℕ) → Bytes s → (a : ℕ) → f s a < m
  pub given : (s t : List ℕ) → Bytes s → Bytes t → (a b : ℕ) → a + k ≤ length s → b + k ≤ length t
      → f s a ≡ f t b → part s a k ≡ part t b k
  pub alike : (s t : List ℕ) (a b : ℕ) → part s a k ≡ part t b k → f s a ≡ f t b

-- ---- a number of one byte, and one made of two

first_byte : (s : List ℕ) (a : ℕ) → get_or s a 0 ≡ get_or (part s a 1) 0 0
unfolding part
first_byte s a = sym (get_or-take 1 (drop a s) 0 0 (omega arith) ∙ get_or-drop a s 0 0 ∙ ap (λ (n : ℕ). get_or s n 0) (add-zero a))

pub byte : Number (λ s a. get_or s a 0) 1 256
byte = record {
  below = λ s h a. h a;
  given = λ s t hs ht a b la lb e. part_cons s a 0 (omega arith)
      ∙ ap₂ {C = List ℕ} (λ x l. x ∷ l) e (part_none s (a + 1) ∙ sym (part_none t (b + 1)))
      ∙ sym (part_cons t b 0 (omega arith));
  alike = λ s t a b e. first_byte s a ∙ ap (λ (l : List ℕ). get_or l 0 0) e ∙ sym (first_byte t b);
}

digits : (m a b x y : ℕ) → b < m → y < m → a * m + b ≡ x * m + y → (a ≡ x) × (b ≡ y)
digits m zero b zero y hb hy e = (refl, omega (arith, zero-mul m))
digits m zero b (suc x) y hb hy e = absurd (omega (arith, zero-mul m, suc-mul x m))
digits m (suc a) b zero y hb hy e = absurd (omega (arith, zero-mul m, suc-mul a m))
digits m (suc a) b (suc x) y hb hy e =
    let r : (a ≡ x) × (b ≡ y) = digits m a b x y hb hy (omega (arith, suc-mul a m, suc-mul x m)) in
    (ap suc r.0, r.1)

pub join : {f g : List ℕ → ℕ → ℕ} {k j m n : ℕ} → Number f k m → Number g j n
    → Number (λ s a. f s a * n + g s (a + k)) (k + j) (m * n)
join {f} {g} {k} {j} {m} {n} p q = record {
  below = λ s h a.
      let l : suc (f s a) * n ≤ m * n = mul-le-mul_right n (p.below s h a) in
      omega (arith, suc-mul (f s a) n, q.below s h (a + k));
  given = λ s t hs ht a b la lb e.
      let d = digits n (f s a) (g s (a + k)) (f t b) (g t (b + k)) (q.below s hs (a + k)) (q.below t ht (b + k)) e in
      part-add s a k j
      ∙ ap₂ {C = List ℕ} (λ l r. l ++ r) (p.given s t hs ht a b (omega arith) (omega arith) d.0)
      (q.given s t hs ht (a + k) (b + k) (omega arith) (omega arith) d.1)
      ∙ sym (part-add t b k j);
  alike = λ s t a b e. ap₂ {C = ℕ} (λ x y. x * n + y)
      (p.alike s t a b (part-first s a k j ∙ ap (take k) e ∙ sym (part-first t b k j)))
      (q.alike s t (a + k) (b + k) (part-rest s a k j ∙ ap (drop k) e ∙ sym (part-rest t b k j)));
}

-- ---- the numbers of the book

pub number16 : Number be16 2 (2 ^ 16)
unfolding be16
number16 = join byte byte

pub number32 : Number be32 4 (2 ^ 32)
unfolding be32
number32 = join number16 number16

pub number64 : Number be64 8 (2 ^ 64)
unfolding be64
number64 = join number32 number32

-- ---- stretches compared as numbers

pub number_same : {f : List ℕ → ℕ → ℕ} {k m : ℕ} → Number f k m → (s t : List ℕ) → Bytes s → Bytes t → (a b : ℕ)
    → a + k ≤ length s → b + k ≤ length t → eqb (f s a) (f t b) ≡ same_bytes (part s a k) (part t b k)
number_same {f} {k} {m} n s t hs ht a b la lb = go (eqb (f s a) (f t b)) refl (same_bytes (part s a k) (part t b k)) refl
  where
    go : (x : Bool) → eqb (f s a) (f t b) ≡ x → (y : Bool) → same_bytes (part s a k) (part t b k) ≡ y → x ≡ y
    go true p true q = refl
    go false p false q = refl
    go true p false q =
        let e : part s a k ≡ part t b k = n.given s t hs ht a b la lb (eqb-true _ _ p) in
        sym (same_true (part t b k)) ∙ ap (λ (l : List ℕ). same_bytes l (part t b k)) (sym e) ∙ q
    go false p true q = absurd (eqb-false _ _ p (n.alike s t a b (same_bytes_lem _ _ q)))
