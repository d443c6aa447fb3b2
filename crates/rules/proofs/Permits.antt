-- Permits: the row of refusals, test by test, and what a call comes to by it.
--
--   Lets st k              no test of the row of refusals stops the call k
--   granted_lets lets_granted    a call that is granted passes each of them, and one that passes them is granted
--   power_granted          a power-on that is granted
--   call-granted call-denied     a call by its permit
--
-- Assumes nothing.
use Rattle.std.specs.Prelude.{Ok, Err}
use mathlib.Core.Path.{◌≡◌, refl, ap, ◌∙◌, subst}
use mathlib.Core.Bool.{Bool, true, false, not}
use lib.ListN.{length}
use borrow.Author.Tests.{eqb-true, eq-eqb, not-false}
use Rattle.rules.specs.declared.Refusal.{Refusal}
use Rattle.rules.specs.Fault.{Permit}
use Rattle.rules.specs.Store.{work_size, well_formed}
use Rattle.rules.specs.Session.{State}
use Rattle.rules.specs.Calls.{Call, powers, ill_session, short_response, interrupts, unasked, wrong_result, permit, granted, denied, decided, call}
use Rattle.rules.proofs.Tests.{branch, off}

pub record Lets (st : State) (k : Call) : Type 0 where
  pub store : well_formed st.store ≡ true
  pub session : ill_session k st.session ≡ false
  pub response : short_response k ≡ false
  pub work : length st.work ≡ work_size
  pub free : interrupts k st.session ≡ false
  pub asked : unasked k st.session ≡ false
  pub result : wrong_result k st.session ≡ false

abbrev If : Type 0 → Permit → Type 0
If A (Ok u) = A
If A (Err r) = Unit {0}

row_lets : (st : State) (k : Call) → If (Lets st k) (permit st k)
unfolding permit
row_lets st k =
    branch (If (Lets st k)) _ (λ b. tt)
    λ b1. branch (If (Lets st k)) _ (λ b. tt)
    λ b2. branch (If (Lets st k)) _ (λ b. tt)
    λ b3. branch (If (Lets st k)) _ (λ b. tt)
    λ b4. branch (If (Lets st k)) _ (λ b. tt)
    λ b5. branch (If (Lets st k)) _ (λ b. tt)
    λ b6. branch (If (Lets st k)) _ (λ b. tt)
    λ b7. record {
      store = not-false _ b1;
      session = b2;
      response = b3;
      work = eqb-true _ _ (not-false _ b4);
      free = b5;
      asked = b6;
      result = b7;
    }

pub granted_lets : (st : State) (k : Call) → permit st k ≡ Ok tt → Lets st k
granted_lets st k e = subst (If (Lets st k)) e (row_lets st k)

pub lets_granted : (st : State) (k : Call) → Lets st k → permit st k ≡ Ok tt
unfolding permit
lets_granted st k l =
    off _ _ _ (ap not l.store) ∙ off _ _ _ l.session ∙ off _ _ _ l.response ∙ off _ _ _ (ap not (eq-eqb _ _ l.work))
    ∙ off _ _ _ l.free ∙ off _ _ _ l.asked ∙ off _ _ _ l.result

-- a power-on is granted where the store is well formed and the work area has its size
pub power_granted : (st : State) (air : Bool) → well_formed st.store ≡ true → length st.work ≡ work_size → permit st (powers air) ≡ Ok tt
unfolding ill_session short_response interrupts unasked wrong_result
power_granted st air w l =
    lets_granted st (powers air) (record { store = w; session = refl; response = refl; work = l; free = refl; asked = refl; result = refl })

pub call-granted : (st : State) (k : Call) → permit st k ≡ Ok tt → call st k ≡ granted st k
unfolding call decided
call-granted st k e = ap (decided st k) e

pub call-denied : (st : State) (k : Call) (r : Refusal) → permit st k ≡ Err r → call st k ≡ denied st k r
unfolding call decided
call-denied st k r e = ap (decided st k) e
