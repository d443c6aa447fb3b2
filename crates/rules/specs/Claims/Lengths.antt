-- Lengths: the length rule, shown once over the number of length bytes (01, "The data objects in a command").
--
--   room k             the lengths below room k are those that k bytes can hold, in their form
--   Bytes s            each element of s is a byte
--   Rule k             what is claimed of the lengths that take k bytes, and of no fewer
--   Holds              the claim: the rule at 1, 2 and 3 bytes, and that nothing else is read
--
-- Assumes nothing.
use Rattle.std.specs.Prelude.{◌≡◌, Some, List, ◌++◌, ℕ, zero, suc, ◌+◌, ◌-◌, ◌^◌, ◌≤◌, ◌<◌, length, get_or}
use Rattle.rules.specs.Bytes.{part}
use Rattle.rules.specs.Ber.{length_bytes, ber_length, with_next, length_at}

-- 7 bits in one byte, 8 in two, 16 in three
abbrev pub room : ℕ → ℕ
room zero = 0
room (suc zero) = 2 ^ 7
room (suc (suc zero)) = 2 ^ 8
room (suc (suc (suc k))) = 2 ^ 16

abbrev pub Bytes : List ℕ → Type 0
Bytes s = (i : ℕ) → get_or s i 0 < 256

-- counted: the significant bits say that n takes k bytes
-- wide: as many are written
-- read_back: what is written is read back, wherever it stands
pub record Rule (k : ℕ) : Type 0 where
  pub counted : (n : ℕ) → room (k - 1) ≤ n → n < room k → length_bytes n ≡ k
  pub wide : (n : ℕ) → room (k - 1) ≤ n → n < room k → length (ber_length n) ≡ k
  pub read_back : (n : ℕ) → room (k - 1) ≤ n → n < room k
      → (before after : List ℕ) → length_at (before ++ (ber_length n ++ after)) (length before) ≡ Some (with_next n (length before + k))

-- only_shortest: whatever is read as a length is the form that is written for it, and no other
pub record Holds : Type 0 where
  pub rule : (k : ℕ) → 1 ≤ k → k ≤ 3 → Rule k
  pub only_shortest : (s : List ℕ) (at n next : ℕ) → Bytes s → length_at s at ≡ Some (with_next n next)
      → (next ≡ at + length_bytes n) × (part s at (length_bytes n) ≡ ber_length n)
