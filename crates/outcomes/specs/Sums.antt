-- Sums: a buffer by its sum, in decimal.
--
--   sum_from h s          the sum of the bytes s, carried on from h
--   sum_of s              the sum of a buffer
--   decimal_of k n        n in decimal, in at most k digits
--
-- Assumes nothing.
use Rattle.std.specs.Prelude.{List, [], ◌∷◌, ◌++◌, ℕ, zero, suc, ◌+◌, ◌*◌, ◌/◌, ◌%◌, ltb, length}
use Rattle.rules.specs.Bytes.{iff}

-- start with the length; for each byte b: h becomes (h · 257 + b + 1) mod 4,294,967,291
abbrev pub sum_from : ℕ → List ℕ → ℕ
sum_from h [] = h
sum_from h (b ∷ s) = sum_from ((h * 257 + b + 1) % 4294967291) s

abbrev pub sum_of : List ℕ → ℕ
sum_of s = sum_from (length s % 4294967291) s

unfoldable pub decimal_of : ℕ → ℕ → List ℕ
decimal_of zero n = []
decimal_of (suc k) n = let front = decimal_of k (n / 10) in iff (ltb n 10) ((48 + n) ∷ []) (front ++ ((48 + n % 10) ∷ []))
