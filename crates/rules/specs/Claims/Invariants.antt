-- Invariants: what stays true over every run from an accepted power-on (01, "What the host lends", "Calls the host may not make"; demands 1 and 2).
--
--   Plain k               what the call k hands in are bytes
--   Each P ks             P holds of each call of a row
--   Sane st               what holds of the state st
--   Pardoned r            the refusal r is none of 1, 2 and 4
--   pin_equal ss          one of the steps ss is a comparison that found the PIN equal
--   Holds                 the claim
--
-- So a host that passes store, work area and session on unchanged is never refused by 1, 2 or 4, whatever it sends. Assumes nothing.
use Rattle.std.specs.Prelude.{◌≡◌, Ok, Err, ◌⊎◌, Bool, true, false, List, [], ◌∷◌, ◌++◌, ℕ, ◌-◌, ◌≤◌, length, take}
use Rattle.rules.specs.declared.Refusal.{Refusal}
use Rattle.rules.specs.declared.Refusal.TheVariants.{IllStore, IllSession, ShortResponse, WrongWork, JobOpen, NoJob, WrongResult}
use Rattle.rules.specs.declared.Session.{Session}
use Rattle.rules.specs.Bytes.{zeros}
use Rattle.rules.specs.Reference.{reference_at}
use Rattle.rules.specs.Store.{work_size, pin_at, puk_at, well_formed}
use Rattle.rules.specs.Session.{State, state, held_length, possible}
use Rattle.rules.specs.Command.{the_pin, the_puk, Step, charge, equal, unequal, restore, new_value}
use Rattle.rules.specs.Calls.{Call, powers, sends, finishes, permit, call}
use Rattle.rules.specs.Runs.{end_of}
use Rattle.rules.specs.Claims.Lengths.{Bytes}

-- a command is a row of bytes
abbrev pub Plain : Call → Type 0
Plain (powers air) = Unit {0}
Plain (sends resp c) = Bytes c
Plain (finishes resp failed r) = Unit {0}

abbrev pub Each : (Call → Type 0) → List Call → Type 0
Each P [] = Unit {0}
Each P (k ∷ ks) = P k × Each P ks

-- held: past the bytes that the session says it holds, the work area is zero
-- full, contact: the PIN status is TRUE only with all tries left, and by contact
-- served: the administrator status is TRUE only by contact
pub record Sane (st : State) : Type 0 where
  pub store : well_formed st.store ≡ true
  pub session : possible st.session ≡ true
  pub size : length st.work ≡ work_size
  pub held : st.work ≡ take (held_length st.session) st.work ++ zeros (work_size - held_length st.session)
  pub full : st.session.pin ≡ true → (reference_at st.store pin_at).left ≡ (reference_at st.store pin_at).limit
  pub contact : st.session.pin ≡ true → st.session.contactless ≡ false
  pub served : st.session.admin ≡ true → st.session.contactless ≡ false
  pub pin_tries : (reference_at st.store pin_at).left ≤ (reference_at st.store pin_at).limit
  pub puk_tries : (reference_at st.store puk_at).left ≤ (reference_at st.store puk_at).limit

abbrev pub Pardoned : Refusal → Type 0
Pardoned IllStore = ⊥
Pardoned IllSession = ⊥
Pardoned ShortResponse = Unit {0}
Pardoned WrongWork = ⊥
Pardoned JobOpen = Unit {0}
Pardoned NoJob = Unit {0}
Pardoned WrongResult = Unit {0}

abbrev pub pin_equal : List Step → Bool
pin_equal [] = false
pin_equal (charge w ∷ ss) = pin_equal ss
pin_equal (equal the_pin ∷ ss) = true
pin_equal (equal the_puk ∷ ss) = pin_equal ss
pin_equal (unequal w ∷ ss) = pin_equal ss
pin_equal (restore w ∷ ss) = pin_equal ss
pin_equal (new_value w v ∷ ss) = pin_equal ss

-- always: what holds of the state after any row of calls
-- passed_on: why a call in that state may be refused
-- earned: the PIN status becomes TRUE only in a call in which the PIN was compared and found equal; RESET RETRY COUNTER does not give it
-- whatever session and work area there were before the power-on; calls that are refused, and further power-ons, are part of a run
pub record Holds : Type 0 where
  pub always : (s w : List ℕ) (ss : Session) (air : Bool) → permit (state s w ss) (powers air) ≡ Ok tt
      → (ks : List Call) → Each Plain ks → Sane (end_of (state s w ss) (powers air ∷ ks))
  pub passed_on : (s w : List ℕ) (ss : Session) (air : Bool) → permit (state s w ss) (powers air) ≡ Ok tt
      → (ks : List Call) → Each Plain ks → (k : Call) (r : Refusal) → permit (end_of (state s w ss) (powers air ∷ ks)) k ≡ Err r → Pardoned r
  pub earned : (st : State) (k : Call) → (call st k).outcome.reply.session.pin ≡ true → (st.session.pin ≡ true) ⊎ (pin_equal (call st k).steps ≡ true)
