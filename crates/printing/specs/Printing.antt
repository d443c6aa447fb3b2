-- Printing: bytes in upper-case hex.
--
--   glyph d               the digit of a number below 16
--   hex_of s              the bytes s in upper-case hex
--
-- A character is its number. Assumes nothing.
use Rattle.std.specs.Prelude.{List, [], ◌∷◌, ℕ, ◌+◌, ◌/◌, ◌%◌, ltb}
use Rattle.rules.specs.Bytes.{iff}

unfoldable pub glyph : ℕ → ℕ
glyph d = iff (ltb d 10) (48 + d) (55 + d)

abbrev pub hex_of : List ℕ → List ℕ
hex_of [] = []
hex_of (b ∷ s) = glyph (b / 16) ∷ (glyph (b % 16) ∷ hex_of s)
