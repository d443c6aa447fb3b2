-- Words: each command's status word is one of those that 01 lists for it (demand 1).
--
--   any_of ws x          x is one of the row ws
--   tries_left x         x is 63CX
--   bytes_left x         x is 61XX
--   words ins x          01 lists the status word x for the command ins, once checks 1 to 5 are passed
--   check_words x        01 lists it for checks 1 to 5
--   result_words x       01 lists it for the result of a job
--   Tells ok t           what is told is a job, or a word that passes ok
--   Holds                the claim
--
-- Assumes nothing.
use Rattle.std.specs.Prelude.{◌≡◌, Ok, Err, Bool, true, false, ◌&&◌, ◌||◌, List, [], ◌∷◌, ℕ, leb, eqb}
use Rattle.rules.specs.declared.Header.{Header}
use Rattle.rules.specs.Bytes.{iff}
use Rattle.rules.specs.Store.{well_formed}
use Rattle.rules.specs.Session.{State}
use Rattle.rules.specs.Command.{Told, responds, opens_job, check}
use Rattle.rules.specs.Keys.{finished}
use Rattle.rules.specs.Calls.{command}

abbrev pub any_of : List ℕ → ℕ → Bool
any_of [] x = false
any_of (w ∷ ws) x = eqb x w || any_of ws x

abbrev pub tries_left : ℕ → Bool
tries_left x = leb 0x63C0 x && leb x 0x63CF

abbrev pub bytes_left : ℕ → Bool
bytes_left x = leb 0x6100 x && leb x 0x61FF

abbrev pub check_words : ℕ → Bool
check_words x = any_of (0x6700 ∷ 0x6882 ∷ 0x6E00 ∷ 0x6D00 ∷ 0x6884 ∷ 0x6A81 ∷ []) x

unfoldable pub words : ℕ → ℕ → Bool
words ins x =
    iff (eqb ins 0xA4) (any_of (0x6A86 ∷ 0x6A82 ∷ 0x9000 ∷ []) x || bytes_left x)
    (iff (eqb ins 0xCB) (any_of (0x6A86 ∷ 0x6A80 ∷ 0x6A82 ∷ 0x6982 ∷ 0x9000 ∷ []) x || bytes_left x)
    (iff (eqb ins 0xC0) (any_of (0x6A86 ∷ 0x6700 ∷ 0x6985 ∷ 0x9000 ∷ []) x || bytes_left x)
    (iff (eqb ins 0x20) (any_of (0x6A86 ∷ 0x6A88 ∷ 0x6A80 ∷ 0x6983 ∷ 0x9000 ∷ []) x || tries_left x)
    (iff (eqb ins 0x24) (any_of (0x6A86 ∷ 0x6A81 ∷ 0x6983 ∷ 0x6A80 ∷ 0x9000 ∷ []) x || tries_left x)
    (iff (eqb ins 0x2C) (any_of (0x6A86 ∷ 0x6A81 ∷ 0x6983 ∷ 0x6A80 ∷ 0x9000 ∷ []) x || tries_left x)
    (iff (eqb ins 0x87) (any_of (0x6A86 ∷ 0x6982 ∷ 0x6A80 ∷ 0x6985 ∷ 0x9000 ∷ []) x)
    (any_of (0x6A86 ∷ 0x6982 ∷ 0x6A84 ∷ 0x6A80 ∷ 0x6A82 ∷ 0x9000 ∷ []) x)))))))

abbrev pub result_words : ℕ → Bool
result_words x = eqb x 0x6F00 || eqb x 0x9000 || bytes_left x

abbrev pub Tells : (ℕ → Bool) → Told → Type 0
Tells ok (responds d sw) = ok sw ≡ true
Tells ok (opens_job key alg d) = Unit {0}

pub record Holds : Type 0 where
  pub failed : (st : State) (c : List ℕ) (sw : ℕ) → check st.session.contactless c ≡ Err sw
      → (check_words sw ≡ true) × Tells check_words (command st c).told
  pub passed : (st : State) (c : List ℕ) (h : Header) → well_formed st.store ≡ true → check st.session.contactless c ≡ Ok h
      → Tells (words h.ins) (command st c).told
  pub result : (st : State) (failed : Bool) (r : List ℕ) → Tells result_words (finished st st.session.job failed r).told
