-- Refusals: a refused call returns its number and the same session (a refused power-on a cleared one), and changes no lent byte
-- (01, "Calls the host may not make"; demand 1).
--
--   Kept st k r        what is claimed of a call k, made in the state st, that is refused by r
--   Holds              the claim
--
-- Assumes nothing.
use Rattle.std.specs.Prelude.{◌≡◌, Err, []}
use Rattle.rules.specs.declared.Refusal.{Refusal}
use Rattle.rules.specs.declared.Answer.TheVariants.{Refused}
use Rattle.rules.specs.Command.{nothing}
use Rattle.rules.specs.Session.{State}
use Rattle.rules.specs.Calls.{Call, permit, lent, kept_session, call}

pub record Kept (st : State) (k : Call) (r : Refusal) : Type 0 where
  pub answer : (call st k).outcome.reply.answer ≡ Refused r
  pub session : (call st k).outcome.reply.session ≡ kept_session k st.session
  pub store : (call st k).outcome.store ≡ st.store
  pub work : (call st k).outcome.work ≡ st.work
  pub resp : (call st k).outcome.resp ≡ lent k
  pub steps : (call st k).steps ≡ []
  pub wrote : (call st k).wrote ≡ nothing

abbrev pub Holds : Type 0
Holds = (st : State) (k : Call) (r : Refusal) → permit st k ≡ Err r → Kept st k r
