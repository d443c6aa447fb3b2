-- Kept: a line of any length is answered as what is kept of it is (specs/Claims).
--
--   kept-answered          the claim
--
-- Assumes nothing.
use mathlib.Core.Path.{◌≡◌, ap, ap₂, sym, ◌∙◌}
use mathlib.Core.Bool.{Bool, ◌&&◌}
use mathlib.Core.List.{List}
use Prim.Native.Nat.{ℕ, ◌≤◌, ◌<◌}
use native.Mathlib.Omega.{arith}
use lib.ListN.{length}
use borrow.Author.Tests.{lt-ltb}
use Rattle.rules.specs.Bytes.{iff}
use Rattle.rules.specs.Session.{State}
use Rattle.rules.specs.Calls.{Outcome}
use Rattle.lines.specs.Seen.{Seen, tells, bad_line}
use Rattle.text.specs.Text.{bytes_of}
use Rattle.text.proofs.Laws.{length-bytes}
use Rattle.keeping.specs.Keeping.{kept_line}
use Rattle.keeping.proofs.Kept.{Kin, itself, long, kept_kin, kin_hex}
use Rattle.hexcalls.proofs.Laws.{sends-long}
use Rattle.hexcard.specs.HexLines.{is_command, closed, turn, told, answered}
use Rattle.hexcard.specs.Claims.{Holds}

-- two lines, each of 525 characters or more
module _ (m : ℕ) (st : State) (resp l a out : List ℕ) (hl : 524 < length l) (ha : 524 < length a) (kin : Kin m l a) where
  same-command : is_command a ≡ is_command l
  unfolding is_command
  same-command = ap₂ {C = Bool} (λ x y. x && y) (lt-ltb 0 (length a) (omega arith) ∙ sym (lt-ltb 0 (length l) (omega arith))) (kin_hex kin)

  same_turn : turn st resp (bytes_of a) ≡ turn st resp (bytes_of l)
  unfolding turn
  same_turn =
      ap (λ (o : Outcome). closed o.reply.answer o)
      (sends-long st resp (bytes_of a) (bytes_of l) (omega (arith, length-bytes a)) (omega (arith, length-bytes l)))

  same_answer : answered st resp a out ≡ answered st resp l out
  unfolding answered
  same_answer = ap₂ {C = Seen} (λ (b : Bool) (o : Outcome). iff b (told o out) (tells st resp bad_line out)) same-command same_turn

by_kin : (m : ℕ) (st : State) (resp l a out : List ℕ) → 526 ≤ m → Kin m l a → answered st resp a out ≡ answered st resp l out
by_kin m st resp l a out h (itself e) = ap (λ (x : List ℕ). answered st resp x out) e
by_kin m st resp l a out h (long x y e v) = same_answer m st resp l a out (omega arith) (omega arith) (long x y e v)

pub kept-answered : Holds
kept-answered st resp s l out h = by_kin (length s) st resp l (kept_line s l) out h (kept_kin s l (omega arith))
