-- Faults: what a rule said, with the word in place of the fault (`worded`), by the word that the book gives.
--
--   fault_said             it ended the command: the word is the fault's, and not 9000
--   pass_said              it let the command go on: the word is 9000
--
-- Assumes nothing.
use Rattle.std.proofs.Common.{◌≡◌, refl, Result, Ok, Err, Bool, true, false, ℕ, ap, sym, ◌∙◌}
use lib.Dec.{eqb}
use borrow.Author.Tests.{eqb-true, eqb-false}
use Rattle.rules.specs.declared.Fault.{Fault}
use Rattle.rules.specs.Bytes.{iff}
use Rattle.rules.specs.Fault.{word_of, worded, passes}

pub record Faulty (sw w : ℕ) : Type 0 where
  pub word : sw ≡ w
  pub not_passed : sw ≡ 0x9000 → ⊥

pub fault_said : (r : Result (Unit {0}) Fault) (f : Fault) (sw : ℕ) → worded r ≡ passes sw → r ≡ Err f → Faulty sw (word_of f)
unfolding iff
fault_said r f sw e q = go (eqb sw 0x9000) refl (sym (ap worded q) ∙ e)
  where
    go : (b : Bool) → eqb sw 0x9000 ≡ b → ◌≡◌ {A = Result (Unit {0}) ℕ} (Err (word_of f)) (iff b (Ok tt) (Err sw)) → Faulty sw (word_of f)
    go true p x = cc
    go false p x = record { word = cc; not_passed = eqb-false sw 0x9000 p }

pub pass_said : (r : Result (Unit {0}) Fault) (sw : ℕ) → worded r ≡ passes sw → r ≡ Ok tt → sw ≡ 0x9000
unfolding iff
pass_said r sw e q = go (eqb sw 0x9000) refl (sym (ap worded q) ∙ e)
  where
    go : (b : Bool) → eqb sw 0x9000 ≡ b → ◌≡◌ {A = Result (Unit {0}) ℕ} (Ok tt) (iff b (Ok tt) (Err sw)) → sw ≡ 0x9000
    go true p x = eqb-true sw 0x9000 p
    go false p x = cc
