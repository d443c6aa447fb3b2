-- Laws: how long the parts of an outcome's line are.
--
--   take-few               a start of a row is not longer
--   kind-length session-length sum-length sums_length    the length of each part
--   lengths                these together
--
-- Assumes nothing.
use mathlib.Core.Path.{◌≡◌}
use mathlib.Core.List.{List, ◌++◌}
use Prim.Native.Nat.{ℕ, ◌+◌, ◌*◌, ◌≤◌}
use native.Mathlib.Omega.{arith}
use lib.ListN.{length, take, length-append, length-take}
use Rattle.rules.specs.declared.Answer.{Answer}
use Rattle.rules.specs.declared.Answer.TheVariants.{PoweredOn, Response, JobOpened, Refused}
use Rattle.rules.specs.declared.Session.{Session}
use Rattle.printing.proofs.Laws.{length-hex}
use Rattle.packed.specs.Packed.{packed}
use Rattle.packed.proofs.Laws.{packed-length}
use Rattle.outcomes.specs.Sums.{sum_of}
use Rattle.outcomes.proofs.Digits.{length_decimal}
use Rattle.outcomes.specs.Outcomes.{kind, session_text, sum_text, sums_text}

pub take-few : (n : ℕ) (s : List ℕ) → length (take n s) ≤ length s
take-few n s = omega (arith, length-take n s)

pub kind-length : (a : Answer) (p : List ℕ) → length (kind a p) ≤ 7 + 2 * length p
unfolding kind
kind-length PoweredOn p = omega arith
kind-length (Response n) p = omega (arith, length-hex (take n p), take-few n p)
kind-length (JobOpened key alg n) p = omega (arith, length-hex (take n p), take-few n p)
kind-length (Refused r) p = omega arith

pub session-length : (s : Session) → length (session_text s) ≡ 129
unfolding session_text
session-length s = omega (arith, length-hex (packed s), packed-length s)

pub sum-length : (s : List ℕ) → length (sum_text s) ≤ 11
unfolding sum_text
sum-length s = omega (arith, length_decimal 10 (sum_of s))

pub sums_length : (s w p : List ℕ) → length (sums_text s w p) ≤ 33
unfolding sums_text
sums_length s w p =
    omega (arith, length-append (sum_text s ++ sum_text w) (sum_text p), length-append (sum_text s) (sum_text w), sum-length s, sum-length w, sum-length p)

pub ruleset lengths = (kind-length, session-length, sum-length, sums_length)
