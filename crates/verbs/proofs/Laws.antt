-- Laws: a decimal number read digit by digit, and a row that starts with another.
--
--   grown_small            a number so far
--   scan_at scan_end       a number read on at a place, and at the end of the line
--   starts_same            the library's test of a start is the book's
--
-- Assumes nothing.
use mathlib.Core.Path.{◌≡◌, refl, ap₂}
use mathlib.Core.Bool.{◌&&◌}
use mathlib.Core.List.{List, [], ◌∷◌}
use Prim.Native.Nat.{ℕ, ◌+◌, ◌≤◌, ◌<◌}
use native.Mathlib.Omega.{arith}
use lib.Dec.{eqb}
use lib.ListN.{length, drop, get_or}
use Rattle.std.specs.Prelude.{Some, None}
use Rattle.std.specs.Str.{bytes_eq}
use Rattle.std.proofs.lemmas.List.{at_drop_more, at_drop_all}
use Rattle.std.proofs.lemmas.Bool.Decides.{nat_tests}
use Rattle.rules.specs.Bytes.{iff, same_bytes}
use Rattle.verbs.specs.Verbs.{is_figure, grown, scan}

pub grown_small : (v d : ℕ) → grown v d ≤ 40001
unfolding grown
grown_small v d = omega arith

pub scan_at : (l : List ℕ) (v i : ℕ) → i < length l
    → scan v i (drop i l)
    ≡ iff (eqb (get_or l i 0) 32) (Some (v, i + 1)) (iff (is_figure (get_or l i 0)) (scan (grown v (get_or l i 0)) (i + 1) (drop (i + 1) l)) None)
scan_at l v i h = at_drop_more (scan v i) l i 0 h

pub scan_end : (l : List ℕ) (v i : ℕ) → length l ≤ i → scan v i (drop i l) ≡ None
scan_end l v i h = at_drop_all (scan v i) l i h

eqb_turned : (x y : ℕ) → eqb x y ≡ eqb y x
eqb_turned x y = grind (arith, nat_tests)

pub starts_same : (w s : List ℕ) → bytes_eq w s ≡ same_bytes s w
starts_same [] [] = refl
starts_same [] (y ∷ s) = refl
starts_same (x ∷ w) [] = refl
starts_same (x ∷ w) (y ∷ s) = ap₂ ◌&&◌ (eqb_turned x y) (starts_same w s)
