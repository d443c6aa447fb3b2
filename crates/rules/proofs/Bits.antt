-- Bits: the count of significant bits of a number, at most k or above it.
--
--   few          at most k bits: the number is below 2 ^ k
--   many         more than k bits: it is at least 2 ^ k
--   few_bits many_bits    the other way
--
-- Assumes nothing.
use Prim.Native.Nat.{ℕ, suc, ◌+◌, ◌*◌, ◌^◌, ◌≤◌, ◌<◌}
use native.Mathlib.Nat.{lt_of_lt_of_le, le_trans, pow-suc, not-le_of_lt}
use native.Mathlib.Omega.{arith}
use lib.Pow.{pow_mono}
use lib.Count.{leading_length}
use Rattle.rules.specs.Ber.{bits}
use Rattle.rules.proofs.Tests.{by_order}

pub few : (k n : ℕ) → n < 2 ^ 32 → bits n ≤ k → n < 2 ^ k
unfolding bits
few k n h le =
    let s = leading_length 32 n h in
    lt_of_lt_of_le s.2 (pow_mono {i = s.0} {j = k} (omega (arith, s.1)))

pub many : (k n : ℕ) → n < 2 ^ 32 → k < bits n → 2 ^ k ≤ n
unfolding bits
many k n h lt =
    let s = leading_length 32 n h in
    let q : 2 ^ suc k ≤ 2 * n + 1 = le_trans (pow_mono {i = suc k} {j = s.0} (omega (arith, s.1))) s.3 in
    omega (arith, pow-suc 2 k)

pub few_bits : (k n : ℕ) → n < 2 ^ 32 → n < 2 ^ k → bits n ≤ k
few_bits k n h lt = by_order k (bits n) (λ m. absurd (not-le_of_lt lt (many k n h m))) (λ m. m)

pub many_bits : (k n : ℕ) → n < 2 ^ 32 → 2 ^ k ≤ n → k < bits n
many_bits k n h le = by_order k (bits n) (λ m. m) (λ m. absurd (not-le_of_lt (few k n h m) le))
