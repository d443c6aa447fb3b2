-- Laws: what the writers do to a row of bytes, and a row tested.
--
--   lent                   a part that was lent and came back as v
--   splice_cons            a byte, and a stretch right behind it
--   whole                  a row replaced whole
--   part-first part-rest   the first k bytes of a part, and the j bytes behind them
--   all_is                 the library's test of a whole row is the book's
--
-- Assumes nothing.
use mathlib.Core.Path.{◌≡◌, refl, sym, ap, ◌∙◌}
use mathlib.Core.Bool.{Bool, ◌&&◌}
use mathlib.Core.List.{List, [], ◌∷◌, ◌++◌, append-nil}
use Prim.Native.Nat.{ℕ, ◌+◌, ◌≤◌, ◌<◌}
use native.Mathlib.Nat.{zero-add}
use native.Mathlib.Omega.{arith}
use lib.ListN.{length, take, drop, drop_of_length-le}
use lib.Seq.{take-take, drop-drop}
use Rattle.std.specs.List.{list_all}
use Rattle.std.proofs.lemmas.List.{drop-take}
use Rattle.std.proofs.lemmas.List.Recursion.{same_from_clauses}
use Rattle.rules.specs.Bytes.{all, part, splice}
use Rattle.rules.proofs.Lists.{splice-next}

-- ---- a stretch replaced

pub lent : (at k : ℕ) (s v : List ℕ) → length v ≡ k → take at s ++ (v ++ drop k (drop at s)) ≡ splice s at v
unfolding splice
lent at k s v h = simp (drop-drop, h)

pub splice_cons : (s x y v : List ℕ) (at b : ℕ) → at < length s
    → x ≡ splice s at (b ∷ []) → y ≡ splice x (at + 1) v → y ≡ splice s at (b ∷ v)
splice_cons s x y v at b h p q =
    q ∙ ap (λ (z : List ℕ). splice z (at + 1) v) p ∙ splice-next s (b ∷ []) v at (omega arith)

pub whole : (s v : List ℕ) → length s ≤ length v → splice s 0 v ≡ v
unfolding splice
whole s v h = simp (zero-add, drop_of_length-le s h, append-nil)

-- ---- a part taken apart

pub part-first : (s : List ℕ) (a k j : ℕ) → part s a k ≡ take k (part s a (k + j))
unfolding part
part-first s a k j = sym (take-take k (k + j) (drop a s) (omega arith))

pub part-rest : (s : List ℕ) (a k j : ℕ) → part s (a + k) j ≡ drop k (part s a (k + j))
unfolding part
part-rest s a k j = sym (drop-take k j (drop a s) ∙ ap (take j) (drop-drop k a s))

-- ---- a row tested

pub all_is : (f : ℕ → Bool) (l : List ℕ) → list_all f l ≡ all f l
all_is f l = same_from_clauses (list_all f) (all f) (λ x t. f x && t) refl (λ _ _. refl) (λ _ _. refl) l
