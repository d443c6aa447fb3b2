-- Laws: lengths and heads that are written.
--
--   one_to_three        a length takes one, two or three bytes
--   small               a length of at most two bytes is a byte
--   length_ber          as many bytes are written as it takes
--   length-tlv          the length of an object as it is written
--
-- Assumes nothing.
use mathlib.Core.Path.{◌≡◌}
use mathlib.Core.List.{List}
use Prim.Native.Nat.{ℕ, ◌+◌, ◌≤◌, ◌<◌}
use native.Mathlib.Omega.{arith}
use lib.ListN.{length, length-append}
use Rattle.rules.specs.Ber.{length_bytes, ber_length}
use Rattle.rules.specs.Ber.{tlv}
use Rattle.rules.proofs.Tests.{either, by_order}
use Rattle.rules.proofs.Lengths.{form_length, counted}

pub one_to_three : (n : ℕ) → (1 ≤ length_bytes n) × (length_bytes n ≤ 3)
unfolding length_bytes
one_to_three n =
    let P : ℕ → Type 0 = λ k. (1 ≤ k) × (k ≤ 3) in
    either P _ (omega arith) (either P _ (omega arith) (omega arith))

-- a length of at most two bytes is a byte
pub small : (n : ℕ) → n < 65536 → length_bytes n < 3 → n < 256
small n h l = by_order n 256 (λ m. m) (λ m. absurd (omega (arith, counted 3 n (omega arith) (omega arith) m h)))

pub length_ber : (n : ℕ) → n < 65536 → length (ber_length n) ≡ length_bytes n
unfolding ber_length
length_ber n h = form_length (length_bytes n) n (one_to_three n).0 (one_to_three n).1

pub length-tlv : (tag : ℕ) (v : List ℕ) → length v < 65536 → length (tlv tag v) ≡ 1 + length_bytes (length v) + length v
unfolding tlv
length-tlv tag v h = simp (length-append, length_ber (length v) h) (omega arith)
