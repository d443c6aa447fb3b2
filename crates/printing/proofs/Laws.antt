-- Laws: the hex of a row of bytes, byte by byte.
--
--   hex_more length-hex    one byte more, and the length
--
-- Assumes nothing.
use mathlib.Core.Path.{◌≡◌, refl, ap}
use mathlib.Core.List.{List, [], ◌∷◌, ◌++◌}
use Prim.Native.Nat.{ℕ, zero, suc, ◌+◌, ◌*◌, ◌/◌, ◌%◌, ◌<◌}
use native.Mathlib.Nat.{not-suc-le-zero, le_of_suc-le-suc}
use native.Mathlib.Omega.{arith}
use lib.ListN.{length, take, get_or}
use Rattle.printing.specs.Printing.{glyph, hex_of}

pub length-hex : (s : List ℕ) → length (hex_of s) ≡ 2 * length s
length-hex [] = refl
length-hex (b ∷ s) = omega (arith, length-hex s)

pub hex_more : (s : List ℕ) (i : ℕ) → i < length s
    → take (2 * (i + 1)) (hex_of s) ≡ take (2 * i) (hex_of s) ++ (glyph (get_or s i 0 / 16) ∷ glyph (get_or s i 0 % 16) ∷ [])
hex_more [] i h = absurd (not-suc-le-zero h)
hex_more (b ∷ s) zero h = refl
hex_more (b ∷ s) (suc i) h =
    let e : 2 * suc i ≡ suc (suc (2 * i)) = omega arith in
    let o : 2 * (suc i + 1) ≡ suc (suc (2 * (i + 1))) = omega arith in
    rw (o, e) (ap (λ (t : List ℕ). glyph (b / 16) ∷ (glyph (b % 16) ∷ t)) (hex_more s i (le_of_suc-le-suc h)))

pub ruleset hex = (hex_more, length-hex)
