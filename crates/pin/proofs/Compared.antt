-- Compared: a rule that compares a value given with the PIN or the PUK.
--
--   Compares x s b w ..     the rule x does: it has tries (a), the form (ok), and finds the value equal (m)
--   blocked formless missed_by    the judgement where no tries are left, the form is wrong, or the value is unequal
--   found                   what the rule says after a value that was found equal
--   both-not                two tests with one answer are one
--   change_is reset_is verify_is    the three rules that do
--   last-length             the last of two values has eight bytes
--   changed_by reset_by verified_by    the judgement after a value that was found equal
--
-- Assumes nothing.
use Rattle.std.specs.Prelude.{Result, Ok, Err}
use mathlib.Core.Path.{◌≡◌, refl, sym, ap, ◌∙◌}
use mathlib.Core.Bool.{Bool, true, false, not, ◌&&◌}
use mathlib.Core.List.{List}
use Prim.Native.Nat.{ℕ, ◌-◌, ◌≤◌}
use native.Mathlib.Omega.{arith}
use lib.Dec.{eqb}
use lib.ListN.{length, take, drop, length-drop}
use borrow.Author.Tests.{eqb-true}
use Rattle.rules.specs.declared.Fault.TheVariants.{Blocked, WrongData}
use Rattle.rules.specs.Bytes.{iff}
use Rattle.rules.specs.Reference.{pin_form, puk_form, none_left, matches, charged}
use Rattle.rules.specs.Command.{Which, the_pin, the_puk, charge, restore, new_value}
use Rattle.rules.specs.Pin.{Said, the, stepped, made, answer, tries_word, missed, refs_in, refs_onto, judgement, judged_on}
use Rattle.rules.specs.Pin.{verified, verify_given, changed, change_of, reset_to, reset_given}
use Rattle.rules.proofs.Tests.{on, off, and_left}
use Rattle.pin.specs.declared.attempt.Miss.{Miss}
use Rattle.pin.specs.declared.attempt.Miss.TheVariants.{Refused, Unequal}
use Rattle.pin.specs.Attempt.{two_values, judged_of}
use Rattle.pin.proofs.Steps.{Row, charged_row, judged_by, quiet}

pub record Compares (x : Said) (s : List ℕ) (b : Bool) (w : Which) (hit : Said) (miss a ok m : Bool) : Type 0 where
  pub row : x ≡ iff a (answer 0x6983 (refs_in s b)) (iff (not ok) (answer 0x6A80 (refs_in s b)) (iff m hit (missed (refs_in s b) w miss)))

module _ {x hit : Said} {s : List ℕ} {b miss a ok m : Bool} {w : Which} (o : Compares x s b w hit miss a ok m) where
  module _ {t : Result (Unit {0}) Miss} (g : Bool) (l : 28 ≤ length s) where
    pub blocked : a ≡ true → t ≡ Err (Refused Blocked) → judgement (judged_of t b g miss) s ≡ judged_on s b x
    unfolding refs_in
    blocked p e = rw e (quiet b (record { said = Err Blocked; given = b }) l (o.row ∙ on _ _ _ p))

    pub formless : a ≡ false → ok ≡ false → t ≡ Err (Refused WrongData) → judgement (judged_of t b g miss) s ≡ judged_on s b x
    unfolding refs_in
    formless p q e = rw e (quiet b (record { said = Err WrongData; given = b }) l (o.row ∙ off _ _ _ p ∙ on _ _ _ (ap not q)))

    pub missed_by : {u : List ℕ} → a ≡ false → ok ≡ true → m ≡ false → u ≡ refs_onto s (stepped (refs_in s b) (charge w))
        → t ≡ Err (Unequal ((the (refs_in s b) w).left - 1)) → judgement (judged_of t b g miss) u ≡ judged_on s b x
    unfolding missed made stepped tries_word charged
    missed_by p q r h e =
        rw e (judged_by (judged_of (Err (Unequal ((the (refs_in s b) w).left - 1))) b g miss) (missed (refs_in s b) w miss) (charged_row b w l h)
        (o.row ∙ off _ _ _ p ∙ off _ _ _ (ap not q) ∙ off _ _ _ r) refl refl)

  pub found : a ≡ false → ok ≡ true → m ≡ true → x ≡ hit
  found p q r = o.row ∙ off _ _ _ p ∙ off _ _ _ (ap not q) ∙ on _ _ _ r

-- ---- the rules that do

-- two tests with one answer are one
pub both-not : {A : Type 0} (a b : Bool) (x y : A) → iff (not a) x (iff (not b) x y) ≡ iff (not (a && b)) x y
unfolding iff
both-not true b x y = refl
both-not false b x y = refl

module _ (s : List ℕ) (b : Bool) (d : List ℕ) where
  pub change_is : (w : Which) (form : List ℕ → Bool) (hit miss : Bool)
      → Compares (change_of (refs_in s b) w form hit miss d) s b w (changed w (drop 8 d) hit) miss
      (none_left (the (refs_in s b) w)) (two_values form form d) (matches (the (refs_in s b) w) (take 8 d))
  unfolding change_of two_values
  change_is w form hit miss = record { row = ap (iff (none_left (the (refs_in s b) w)) (answer 0x6983 (refs_in s b))) (both-not (eqb (length d) 16) _ _ _) }

  pub reset_is : Compares (reset_given (refs_in s b) d) s b the_puk (reset_to (refs_in s b) (drop 8 d)) false
      (none_left (the (refs_in s b) the_puk)) (two_values puk_form pin_form d) (matches (the (refs_in s b) the_puk) (take 8 d))
  unfolding reset_given two_values the
  reset_is = record { row = ap (iff (none_left (refs_in s b).puk) (answer 0x6983 (refs_in s b))) (both-not (eqb (length d) 16) _ _ _) }

  pub verify_is : Compares (verify_given (refs_in s b) d) s b the_pin verified false
      (none_left (the (refs_in s b) the_pin)) (pin_form d) (matches (the (refs_in s b) the_pin) d)
  unfolding verify_given the
  verify_is = record { row = refl }

-- the last of two values has eight bytes
pub last-length : (f g : List ℕ → Bool) (d : List ℕ) {v : List ℕ} → two_values f g d ≡ true → v ≡ drop 8 d → length v ≡ 8
unfolding two_values
last-length f g d e p = let l : length d ≡ 16 = eqb-true (length d) 16 (and_left _ _ e) in ap length p ∙ omega (arith, length-drop 8 d)

-- ---- and after a value that was found equal

module _ {s t : List ℕ} {b : Bool} {x : Said} where
  pub verified_by : Row s b (stepped (stepped (refs_in s b) (charge the_pin)) (restore the_pin)) t → x ≡ verified
      → judgement (record { said = Ok tt; given = true }) t ≡ judged_on s b x
  unfolding verified made stepped
  verified_by o e = judged_by (record { said = Ok tt; given = true }) verified o e refl refl

  pub changed_by : (w : Which) (g : Bool) {v n : List ℕ} → v ≡ n
      → Row s b (stepped (stepped (stepped (refs_in s b) (charge w)) (new_value w v)) (restore w)) t → x ≡ changed w n g
      → judgement (record { said = Ok tt; given = g }) t ≡ judged_on s b x
  unfolding changed made stepped
  changed_by w g {v} p o e = judged_by (record { said = Ok tt; given = g }) (changed w v g) o (e ∙ ap (λ (l : List ℕ). changed w l g) (sym p)) refl refl

  pub reset_by : {v n : List ℕ} → v ≡ n
      → Row s b (stepped (stepped (stepped (stepped (refs_in s b) (charge the_puk)) (new_value the_pin v)) (restore the_pin)) (restore the_puk)) t
      → x ≡ reset_to (refs_in s b) n → judgement (record { said = Ok tt; given = b }) t ≡ judged_on s b x
  unfolding reset_to made stepped refs_in
  reset_by {v} p o e = judged_by (record { said = Ok tt; given = b }) (reset_to (refs_in s b) v) o (e ∙ ap (reset_to (refs_in s b)) (sym p)) refl refl
