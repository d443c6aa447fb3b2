-- Attempt: a value given, compared with the PIN or the PUK.
--
--   form_of w              the form that a value of reference w must have
--   two_values f g d       d is 16 bytes, and either half has its form
--   judged_of t b hit miss     what is said where t came of it, and the PIN status after it: b where nothing was compared
--
-- Assumes nothing.
use Rattle.std.specs.Prelude.{Result, Ok, Err, Bool, ◌&&◌, List, ℕ, eqb, length, take, drop}
use Rattle.rules.specs.declared.Fault.TheVariants.{NotEqual}
use Rattle.rules.specs.declared.Judged.{Judged}
use Rattle.rules.specs.Reference.{pin_form, puk_form}
use Rattle.rules.specs.Command.{Which, the_pin, the_puk}
use Rattle.pin.specs.declared.attempt.Miss.{Miss}
use Rattle.pin.specs.declared.attempt.Miss.TheVariants.{Refused, Unequal}

abbrev pub form_of : Which → List ℕ → Bool
form_of the_pin = pin_form
form_of the_puk = puk_form

unfoldable pub two_values : (List ℕ → Bool) → (List ℕ → Bool) → List ℕ → Bool
two_values f g d = eqb (length d) 16 && (f (take 8 d) && g (drop 8 d))

abbrev pub judged_of : Result (Unit {0}) Miss → Bool → Bool → Bool → Judged
judged_of (Ok u) b hit miss = record { said = Ok tt; given = hit }
judged_of (Err (Refused f)) b hit miss = record { said = Err f; given = b }
judged_of (Err (Unequal n)) b hit miss = record { said = Err (NotEqual n); given = miss }
