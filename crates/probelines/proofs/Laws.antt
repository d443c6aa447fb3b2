-- Laws: the session that a line gives.
--
--   session_odd session_even    a line of another length gives no session, and one of 64 bytes the one that they are of
--
-- Assumes nothing.
use mathlib.Core.Path.{◌≡◌, ap, ◌∙◌}
use mathlib.Core.Bool.{true}
use mathlib.Core.List.{List}
use Prim.Native.Nat.{ℕ}
use native.Mathlib.Omega.{arith}
use lib.ListN.{length, take}
use lib.Seq.{take_all}
use Rattle.std.proofs.lemmas.Bool.Decides.{nat_tests}
use Rattle.rules.specs.Bytes.{iff, splice}
use Rattle.octets.proofs.Laws.{whole}
use Rattle.text.specs.Text.{is_hex, bytes_of}
use Rattle.text.proofs.Laws.{length-bytes}
use Rattle.std.specs.Prelude.{None}
use Rattle.unpacked.specs.Unpacked.{session_in}

-- ---- a session

pub session_odd : (d : List ℕ) → is_hex d ≡ true → (length d ≡ 128 → ⊥) → session_in (bytes_of d) ≡ None
unfolding session_in is_hex iff
session_odd d h n = let l = length-bytes d in grind (arith, nat_tests)

pub session_even : (d z : List ℕ) → length d ≡ 128 → length z ≡ 64 → splice z 0 (take 64 (bytes_of d)) ≡ bytes_of d
session_even d z h l =
    ap (splice z 0) (take_all 64 (bytes_of d) (omega (arith, length-bytes d))) ∙ whole z (bytes_of d) (omega (arith, length-bytes d))

pub ruleset session = (session_odd, session_even)
