-- Laws: a slot written whole, and the places of the keys.
--
--   slot_written           the length, the value and zeros written one behind the other are a slot
--   place_below            the algorithm of a key stands in the first 32 bytes
--
-- Assumes nothing.
use mathlib.Core.Path.{◌≡◌, ◌∙◌}
use mathlib.Core.Bool.{Bool, true, false}
use mathlib.Core.List.{List, ◌++◌, append_assoc}
use Prim.Native.Nat.{ℕ, ◌+◌, ◌-◌, ◌≤◌, ◌<◌}
use native.Mathlib.Omega.{arith}
use lib.ListN.{length, length-append}
use Rattle.rules.specs.Bytes.{iff, splice, zeros, word}
use Rattle.rules.specs.Store.{capacity, slot_bytes, key_place}
use Rattle.rules.proofs.Lists.{join-start, length-zeros}
use Rattle.octets.proofs.Laws.{whole}

-- ---- a slot

-- three stretches that fill a row
three : (s a b d : List ℕ) → length a + length b + length d ≡ length s
    → splice (splice (splice s 0 a) (length a) b) (length a + length b) d ≡ a ++ (b ++ d)
three s a b d e =
    let l : length (a ++ b) ≡ length a + length b = length-append a b in
    let m : length (a ++ b ++ d) ≡ length (a ++ b) + length d = length-append (a ++ b) d in
    rw (join-start s a b (omega arith), ← l)
    (join-start s (a ++ b) d (omega arith) ∙ whole s (a ++ b ++ d) (omega arith) ∙ append_assoc a b d)

pub slot_written : (i : ℕ) (s v : List ℕ) → length v ≤ capacity i → length s ≡ 2 + capacity i
    → splice (splice (splice s 0 (word (length v))) 2 v) (2 + length v) (zeros (length s - 2 - length v)) ≡ slot_bytes i v
unfolding slot_bytes word
slot_written i s v h e =
    let z : List ℕ = zeros (capacity i - length v) in
    let rest : length s - 2 - length v ≡ capacity i - length v = omega arith in
    rw rest (three s (word (length v)) v z (omega (arith, length-zeros (capacity i - length v))))

-- ---- keys

below_32 : (b : Bool) {x y : ℕ} → x < 32 → y < 32 → iff b x y < 32
unfolding iff
below_32 true p q = p
below_32 false p q = q

pub place_below : (key : ℕ) → key_place key < 32
unfolding key_place
place_below key = below_32 _ (omega arith) (below_32 _ (omega arith) (below_32 _ (omega arith) (omega arith)))
