-- Laws: what is seen of an answer.
--
--   replies                what is seen, by what the host is told
--   delivers               a rule that comes to x is seen to do what x is
--
-- Assumes nothing.
use mathlib.Core.Path.{◌≡◌, ap, sym}
use mathlib.Core.List.{List}
use Prim.Native.Nat.{ℕ}
use Rattle.rules.specs.declared.Reply.{Reply}
use Rattle.rules.specs.Command.{Made}
use Rattle.rules.specs.Calls.{outcome, delivered}

pub delivers : (resp : List ℕ) {x y : Made} → y ≡ x → (delivered resp x).outcome ≡ (delivered resp y).outcome
delivers resp e = sym (ap (λ (z : Made). (delivered resp z).outcome) e)

pub replies : (m : List ℕ) {r q : Reply} {w b : List ℕ} → r ≡ q → outcome r m w b ≡ outcome q m w b
replies m {w = w} {b = b} e = ap (λ (r : Reply). outcome r m w b) e
