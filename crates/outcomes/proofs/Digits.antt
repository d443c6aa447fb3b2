-- Digits: the digits of a number in a buffer.
--
--   splice-none            nothing put in a row
--   decimal_none decimal_one decimal_more    the digits of a number: none, the last, and one more
--   length_decimal         a number has at most so many digits
--   digits                 these together
--
-- Assumes nothing.
use mathlib.Core.Path.{◌≡◌, refl, ap, sym, ◌∙◌}
use mathlib.Core.List.{List, [], ◌∷◌, ◌++◌}
use Prim.Native.Nat.{ℕ, zero, suc, ◌+◌, ◌-◌, ◌/◌, ◌%◌, ◌≤◌, ◌<◌}
use native.Mathlib.Omega.{arith}
use lib.ListN.{length, length-append}
use Rattle.rules.specs.Bytes.{iff, splice}
use Rattle.std.proofs.lemmas.Bool.Decides.{nat_tests}
use Rattle.rules.proofs.Lists.{part_none, splice-part}
use Rattle.outcomes.specs.Sums.{decimal_of}

pub length_decimal : (k n : ℕ) → length (decimal_of k n) ≤ k
unfolding decimal_of iff
length_decimal zero n = omega arith
length_decimal (suc k) n = grind (arith, nat_tests, length-append, length_decimal k (n / 10))

-- ---- what is written into a buffer

pub splice-none : (s : List ℕ) (at : ℕ) → at ≤ length s → splice s at [] ≡ s
splice-none s at h = ap (splice s at) (sym (part_none s at)) ∙ splice-part s at 0 (omega arith)

-- ---- digits

pub decimal_none : (k n : ℕ) → k ≡ 0 → decimal_of k n ≡ []
unfolding decimal_of iff
decimal_none k n e = ap (λ (j : ℕ). decimal_of j n) e

pub decimal_one : (k n : ℕ) → (k ≡ 0 → ⊥) → n < 10 → decimal_of k n ≡ (48 + n) ∷ []
unfolding decimal_of iff
decimal_one zero n z h = absurd (z refl)
decimal_one (suc k) n z h = grind (arith, nat_tests)

pub decimal_more : (k n : ℕ) → (k ≡ 0 → ⊥) → 10 ≤ n → decimal_of k n ≡ decimal_of (k - 1) (n / 10) ++ ((48 + n % 10) ∷ [])
unfolding decimal_of iff
decimal_more zero n z h = absurd (z refl)
decimal_more (suc k) n z h = grind (arith, nat_tests)

pub ruleset digits = (splice-none, decimal_none, decimal_one, decimal_more, length_decimal)
