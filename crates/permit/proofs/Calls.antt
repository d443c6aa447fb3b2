-- Calls: what a call that is granted may rely on, and what is seen of a call, by its permit.
--
--   Held possible-held     what a possible session says of what is held
--   outcome-denied outcome-granted    what is seen of a call
--
-- Assumes nothing.
use Rattle.std.specs.Prelude.{Ok, Err}
use mathlib.Core.Path.{◌≡◌, ap, sym}
use mathlib.Core.Bool.{true}
use Prim.Native.Nat.{◌≤◌}
use Rattle.rules.specs.declared.Answer.TheVariants.{Refused}
use Rattle.rules.specs.declared.Refusal.{Refusal}
use Rattle.rules.specs.declared.Session.{Session}
use Rattle.rules.specs.Session.{State, held_length, rest_ok, job_ok, possible}
use Rattle.rules.specs.Calls.{Call, permit, Result, outcome, reply, lent, kept_session, granted, denied, call}
use Rattle.rules.proofs.Permits.{call-granted, call-denied}
use Rattle.rules.proofs.Possible.{Tests, possible_tests, held_fits_by}

-- ---- possible sessions

pub record Held (ss : Session) : Type 0 where
  pub few : held_length ss ≤ 13321
  pub rest : rest_ok ss.rest ≡ true
  pub job : job_ok ss.job ≡ true

pub possible-held : (ss : Session) → possible ss ≡ true → Held ss
possible-held ss e =
    let t : Tests ss = possible_tests ss e in
    record { few = held_fits_by ss.chain ss.rest t.chain t.rest t.apart; rest = t.rest; job = t.job }

-- ---- what a call comes to

pub outcome-denied : (st : State) (k : Call) (x : Refusal) → permit st k ≡ Err x
    → outcome (reply (Refused x) (kept_session k st.session)) st.store st.work (lent k) ≡ (call st k).outcome
unfolding denied
outcome-denied st k x e = sym (ap (λ (r : Result). r.outcome) (call-denied st k x e))

pub outcome-granted : (st : State) (k : Call) → permit st k ≡ Ok tt → (granted st k).outcome ≡ (call st k).outcome
outcome-granted st k e = sym (ap (λ (r : Result). r.outcome) (call-granted st k e))
