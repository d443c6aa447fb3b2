-- Laws: lengths that are read.
--
--   value_below         what stands in length bytes is below 65,536
--
-- Assumes nothing.
use Prim.Native.Nat.{ℕ, ◌+◌, ◌<◌}
use mathlib.Core.List.{List}
use native.Mathlib.Omega.{arith}
use Rattle.rules.specs.Ber.{length_value}
use Rattle.rules.specs.Claims.Lengths.{Bytes}
use Rattle.rules.proofs.Tests.{either}
use Rattle.numbers.proofs.Numbers.{number16}

pub value_below : (s : List ℕ) → Bytes s → (at k : ℕ) → length_value s at k < 65536
unfolding length_value
value_below s h at k =
    let P : ℕ → Type 0 = λ n. n < 65536 in
    either P _ (omega (arith, h at)) (either P _ (omega (arith, h (at + 1))) (number16.below s h (at + 1)))
