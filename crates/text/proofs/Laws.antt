-- Laws: the bytes of a row of digits, place by place.
--
--   bytes_more length-bytes    one byte more of a row of digits, and how many there are
--
-- Assumes nothing.
use mathlib.Core.Path.{◌≡◌, refl, ap}
use mathlib.Core.List.{List, [], ◌∷◌, ◌++◌}
use Prim.Native.Nat.{ℕ, zero, suc, ◌+◌, ◌*◌, ◌/◌, ◌<◌}
use native.Mathlib.Nat.{not-suc-le-zero, suc-add}
use native.Mathlib.Omega.{arith}
use lib.ListN.{length, take, get_or}
use Rattle.text.specs.Text.{digit_of, bytes_of}

-- ---- bytes of digits

pub bytes_more : (l : List ℕ) (i : ℕ) → 2 * i + 1 < length l
    → take (i + 1) (bytes_of l) ≡ take i (bytes_of l) ++ (digit_of (get_or l (2 * i) 0) * 16 + digit_of (get_or l (2 * i + 1) 0)) ∷ []
bytes_more [] i h = absurd (not-suc-le-zero h)
bytes_more (a ∷ []) i h = absurd (omega arith)
bytes_more (a ∷ (b ∷ l)) zero h = refl
bytes_more (a ∷ (b ∷ l)) (suc i) h =
    let e : 2 * suc i ≡ suc (suc (2 * i)) = omega arith in
    let o : 2 * suc i + 1 ≡ suc (suc (2 * i + 1)) = omega arith in
    rw (o, e, suc-add) (ap (λ (t : List ℕ). (digit_of a * 16 + digit_of b) ∷ t) (bytes_more l i (omega arith)))

pub length-bytes : (l : List ℕ) → length (bytes_of l) ≡ length l / 2
length-bytes [] = refl
length-bytes (a ∷ []) = refl
length-bytes (a ∷ (b ∷ l)) = omega (arith, length-bytes l)

pub ruleset bytes = (bytes_more, length-bytes)
