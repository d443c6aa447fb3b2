-- Secrecy: a found card tells its finder nothing of the PIN, the PUK and the PIN-read objects (demand 3).
--
--   within at n j         j is one of the n places from `at` on
--   pin_read i            the object in slot i is PIN-read
--   secret s j            the byte j of the store s is one of the PIN's eight, of the PUK's eight, or in the slot of a PIN-read object
--   Alike s t             two stores that differ at most there
--   no_equal ss           of the steps ss none is a comparison that found a PIN or PUK equal
--   NoneEqual rs          and so it is with each call of a run
--   Same x y              what is seen of two calls is the same: answer, session, work area, response buffer, both counts of tries left;
--                         and their stores still differ at most there
--   AllSame xs ys         call by call
--   Holds                 the claim
--
-- It is stated of the machine of demand 2, `call`. Refused calls and further power-ons are calls of a run like others. Assumes nothing.
use Rattle.std.specs.Prelude.{◌≡◌, Ok, Bool, true, false, ◌&&◌, ◌||◌, List, [], ◌∷◌, ℕ, zero, suc, ◌+◌, ltb, leb, length, get_or}
use Rattle.rules.specs.declared.Session.{Session}
use Rattle.rules.specs.Reference.{reference_at}
use Rattle.rules.specs.declared.Access.{Access}
use Rattle.rules.specs.declared.Access.TheVariants.{Always, WithPin, Never}
use Rattle.rules.specs.Store.{contact_read, slots, capacity, offset, pin_at, puk_at}
use Rattle.rules.specs.Session.{state}
use Rattle.rules.specs.Command.{Step, charge, equal, unequal, restore, new_value}
use Rattle.rules.specs.Calls.{Call, powers, Result, permit}
use Rattle.rules.specs.Runs.{run}

-- ---- what is secret

abbrev pub within : ℕ → ℕ → ℕ → Bool
within at n j = leb at j && ltb j (at + n)

abbrev pub is_pin : Access → Bool
is_pin Always = false
is_pin WithPin = true
is_pin Never = false

unfoldable pub pin_read : ℕ → Bool
pin_read i = is_pin (get_or contact_read i Never)

abbrev pub any_below : (ℕ → Bool) → ℕ → Bool
any_below f zero = false
any_below f (suc n) = f n || any_below f n

-- a slot is its two bytes of length and its capacity
unfoldable pub in_pin_read : ℕ → ℕ → Bool
in_pin_read j i = pin_read i && within (offset i) (2 + capacity i) j

-- the eight bytes of a value stand behind its limit and its tries left
unfoldable pub secret : List ℕ → ℕ → Bool
secret s j = within (pin_at + 2) 8 j || within (puk_at + 2) 8 j || any_below (in_pin_read j) slots

pub record Alike (s t : List ℕ) : Type 0 where
  pub size : length s ≡ length t
  pub same : (j : ℕ) → secret s j ≡ false → get_or s j 0 ≡ get_or t j 0

-- ---- comparisons

abbrev pub no_equal : List Step → Bool
no_equal [] = true
no_equal (charge w ∷ ss) = no_equal ss
no_equal (equal w ∷ ss) = false
no_equal (unequal w ∷ ss) = no_equal ss
no_equal (restore w ∷ ss) = no_equal ss
no_equal (new_value w v ∷ ss) = no_equal ss

abbrev pub NoneEqual : List Result → Type 0
NoneEqual [] = Unit {0}
NoneEqual (r ∷ rs) = (no_equal r.steps ≡ true) × NoneEqual rs

-- ---- what is seen

abbrev pub left : Result → ℕ → ℕ
left r at = (reference_at r.outcome.store at).left

pub record Same (x y : Result) : Type 0 where
  pub reply : x.outcome.reply ≡ y.outcome.reply
  pub work : x.outcome.work ≡ y.outcome.work
  pub resp : x.outcome.resp ≡ y.outcome.resp
  pub pin_tries : left x pin_at ≡ left y pin_at
  pub puk_tries : left x puk_at ≡ left y puk_at
  pub stores : Alike x.outcome.store y.outcome.store

abbrev pub AllSame : List Result → List Result → Type 0
AllSame [] [] = Unit {0}
AllSame [] (y ∷ ys) = ⊥
AllSame (x ∷ xs) [] = ⊥
AllSame (x ∷ xs) (y ∷ ys) = Same x y × AllSame xs ys

-- ---- the claim

abbrev pub Holds : Type 0
Holds =
    (s t w : List ℕ) (ss : Session) (air : Bool) → permit (state s w ss) (powers air) ≡ Ok tt → permit (state t w ss) (powers air) ≡ Ok tt → Alike s t
    → (ks : List Call) → NoneEqual (run (state s w ss) (powers air ∷ ks)) → NoneEqual (run (state t w ss) (powers air ∷ ks))
    → AllSame (run (state s w ss) (powers air ∷ ks)) (run (state t w ss) (powers air ∷ ks))
