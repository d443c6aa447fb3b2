-- Laws: a record lent out of a store.
--
--   value-length             the value of a record has eight bytes
--   reference_lent           the record in ten bytes of a store is the store's
--   put_back step_back       so is one that comes back with ten bytes that were lent, and one on which a step was made
--
-- Assumes nothing.
use mathlib.Core.Path.{◌≡◌, refl, sym, ap, ◌∙◌}
use mathlib.Core.List.{List, ◌∷◌, ◌++◌}
use Prim.Native.Nat.{ℕ, ◌+◌, ◌≤◌}
use native.Mathlib.Omega.{arith}
use lib.ListN.{length, take, drop, get_or}
use lib.Seq.{take-take}
use Rattle.rules.specs.Bytes.{part}
use Rattle.rules.specs.Reference.{Reference, reference_at, put_reference}
use Rattle.rules.proofs.Lists.{length_part, get_or-part}
use Rattle.octets.proofs.Laws.{lent, part-rest, whole}

module _ (s : List ℕ) (at : ℕ) (h : at + 10 ≤ length s) where
  pub value-length : length (reference_at s at).value ≡ 8
  unfolding reference_at
  value-length = length_part s (at + 2) 8 (omega arith)

  pub reference_lent : reference_at (part s at 10) 0 ≡ reference_at s at
  unfolding reference_at part
  reference_lent =
      let limit : get_or (part s at 10) 0 0 ≡ get_or s at 0 = get_or-part s at 10 h 0 (omega arith) ∙ ap (λ (n : ℕ). get_or s n 0) (omega arith) in
      let left : get_or (part s at 10) 1 0 ≡ get_or s (at + 1) 0 = get_or-part s at 10 h 1 (omega arith) in
      let value : part (part s at 10) 2 8 ≡ part s (at + 2) 8 =
      ap (take 8) (sym (part-rest s at 2 8)) ∙ take-take 8 8 (drop (at + 2) s) (omega arith) in
      rw (limit, left, value)

  module _ (f : Reference) (lf : length f.value ≡ 8) where
    written : put_reference (part s at 10) 0 f ≡ f.limit ∷ f.left ∷ f.value
    unfolding put_reference
    written = whole (part s at 10) (f.limit ∷ f.left ∷ f.value) (omega (arith, length_part s at 10 h))

    pub put_back : (k : ℕ) → k ≡ 10 → take at s ++ (put_reference (part s at k) 0 f ++ drop k (drop at s)) ≡ put_reference s at f
    unfolding put_reference
    put_back k e = rw (e, written) (lent at 10 s (f.limit ∷ f.left ∷ f.value) (omega arith))

  pub step_back : (g : Reference → Reference) → length (g (reference_at s at)).value ≡ 8 → (k : ℕ) → k ≡ 10
      → take at s ++ (put_reference (part s at k) 0 (g (reference_at (part s at k) 0)) ++ drop k (drop at s)) ≡ put_reference s at (g (reference_at s at))
  step_back g lg k e = rw (e, reference_lent) (put_back (g (reference_at s at)) lg 10 refl)
