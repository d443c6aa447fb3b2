-- Laws: tests in a row, and the mark as a number.
--
--   all_split              a row of tests in two parts
--   in_parts               the size, the header and the records, the slots
--   mark-number            the mark is compared as a number
--
-- Assumes nothing.
use mathlib.Core.Path.{◌≡◌, refl, ap}
use mathlib.Core.Bool.{Bool, true, false, ◌&&◌}
use mathlib.Core.List.{List, [], ◌∷◌, ◌++◌}
use Prim.Native.Nat.{ℕ, ◌≤◌}
use native.Mathlib.Omega.{arith}
use lib.Dec.{eqb, ltb}
use lib.ListN.{length, take, drop, get_or, get_or-eq_default}
use borrow.Author.Tests.{ltb-true}
use Rattle.rules.specs.Bytes.{all_true, same_bytes, part, be16, be32, be64}
use Rattle.rules.specs.Store.{mark, store_tests, well_formed}
use Rattle.rules.specs.Claims.Lengths.{Bytes}
use Rattle.rules.proofs.Tests.{at_each, by_order}
use Rattle.numbers.proofs.Numbers.{number64, number_same}

-- ---- tests in a row

pub all_split : (l m : List Bool) → all_true (l ++ m) ≡ (all_true l && all_true m)
all_split [] m = refl
all_split (true ∷ l) m = all_split l m
all_split (false ∷ l) m = refl

pub in_parts : (s : List ℕ) → well_formed s ≡ (eqb (length s) 33400 && (all_true (take 5 (drop 1 (store_tests s))) && all_true (drop 6 (store_tests s))))
unfolding well_formed store_tests
in_parts s = ap (λ (t : Bool). eqb (length s) 33400 && t) (all_split (take 5 (drop 1 (store_tests s))) (drop 6 (store_tests s)))

-- ---- the mark

is_byte : ℕ → Bool
is_byte i = ltb (get_or mark i 0) 256

mark-bytes : Bytes mark
unfolding is_byte
mark-bytes i = by_order i 8
    (λ h. ltb-true _ _ (at_each is_byte 8 refl i h))
    (λ h. rw (get_or-eq_default mark 0 h) (omega arith))

pub mark-number : (s : List ℕ) → Bytes s → 8 ≤ length s → eqb (be64 s 0) 0x4F50430001000000 ≡ same_bytes (part s 0 8) mark
unfolding be64 be32 be16 part
mark-number s b h = number_same number64 s mark b mark-bytes 0 0 (omega arith) (omega arith)
