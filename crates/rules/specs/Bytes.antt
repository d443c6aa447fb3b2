-- Bytes: rows of bytes, tests on them, and the numbers in them.
--
--   iff b x y         x where the test b passes, y where it does not
--   all_true bs       each test of the row bs passes
--   all f l           f passes at each element of l
--   all_below f n     f passes at each number below n
--   first_from f k i  the first of the k numbers from i on that passes f, i + k where none does
--   same_bytes a b    a and b are the same row
--   part s at n       the n bytes of s from the place `at` on
--   splice s at v     s with v in place of the bytes that stood there
--   zeros n           n zero bytes
--   zeroed s n        s with its first n bytes zero
--   word n            n as two bytes, the high one first
--   be16 be24 be32 be64 s at    the number in the 2, 3, 4 or 8 bytes of s from the place `at` on, the highest first
--
-- A row of bytes is a list of numbers. Assumes nothing.
use Rattle.std.specs.Prelude.{Bool, true, false, ◌&&◌, List, [], ◌∷◌, ◌++◌, ℕ, zero, suc, ◌+◌, ◌*◌, ◌/◌, ◌%◌, eqb, length, take, drop, get_or, replicate}

-- Shut: where it stands in a goal, its test can be read off.
unfoldable pub iff : {A : Type 0} → Bool → A → A → A
iff true x y = x
iff false x y = y

abbrev pub all_true : List Bool → Bool
all_true [] = true
all_true (b ∷ bs) = b && all_true bs

abbrev pub all : (ℕ → Bool) → List ℕ → Bool
all f [] = true
all f (x ∷ xs) = f x && all f xs

abbrev pub all_below : (ℕ → Bool) → ℕ → Bool
all_below f zero = true
all_below f (suc n) = f n && all_below f n

abbrev pub first_from : (ℕ → Bool) → ℕ → ℕ → ℕ
first_from f zero i = i
first_from f (suc k) i = let r = first_from f k (suc i) in iff (f i) i r

abbrev pub same_bytes : List ℕ → List ℕ → Bool
same_bytes [] [] = true
same_bytes [] (y ∷ ys) = false
same_bytes (x ∷ xs) [] = false
same_bytes (x ∷ xs) (y ∷ ys) = eqb x y && same_bytes xs ys

unfoldable pub part : List ℕ → ℕ → ℕ → List ℕ
part s at n = take n (drop at s)

unfoldable pub splice : List ℕ → ℕ → List ℕ → List ℕ
splice s at v = take at s ++ (v ++ drop (at + length v) s)

unfoldable pub zeros : ℕ → List ℕ
zeros n = replicate n 0

unfoldable pub zeroed : List ℕ → ℕ → List ℕ
zeroed s n = splice s 0 (zeros n)

unfoldable pub word : ℕ → List ℕ
word n = n / 256 % 256 ∷ n % 256 ∷ []

unfoldable pub be16 : List ℕ → ℕ → ℕ
be16 s at = get_or s at 0 * 256 + get_or s (at + 1) 0

unfoldable pub be24 : List ℕ → ℕ → ℕ
be24 s at = get_or s at 0 * 65536 + be16 s (at + 1)

unfoldable pub be32 : List ℕ → ℕ → ℕ
be32 s at = be16 s at * 65536 + be16 s (at + 2)

unfoldable pub be64 : List ℕ → ℕ → ℕ
be64 s at = be32 s at * 4294967296 + be32 s (at + 4)
