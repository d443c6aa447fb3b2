-- Text: what lines in hex say.
--
--   is_digit d            d is a hex digit of either case
--   digit_of d            its value
--   is_hex l              an even number of hex digits
--   bytes_of l            the bytes that the digits of l stand for, two digits a byte
--
-- A character is its number. Assumes nothing.
use Rattle.std.specs.Prelude.{Bool, ◌&&◌, ◌||◌, List, [], ◌∷◌, ℕ, ◌+◌, ◌-◌, ◌*◌, ◌%◌, leb, eqb, length}
use Rattle.rules.specs.Bytes.{iff, all}

-- 0 to 9, A to F, a to f
abbrev pub between : ℕ → ℕ → ℕ → Bool
between a b d = leb a d && leb d b

unfoldable pub is_digit : ℕ → Bool
is_digit d = between 48 57 d || between 65 70 d || between 97 102 d

unfoldable pub digit_of : ℕ → ℕ
digit_of d = iff (between 48 57 d) (d - 48) (iff (between 65 70 d) (d - 55) (iff (between 97 102 d) (d - 87) 0))

unfoldable pub is_hex : List ℕ → Bool
is_hex l = eqb (length l % 2) 0 && all is_digit l

abbrev pub bytes_of : List ℕ → List ℕ
bytes_of [] = []
bytes_of (a ∷ []) = []
bytes_of (a ∷ (b ∷ l)) = (digit_of a * 16 + digit_of b) ∷ bytes_of l
