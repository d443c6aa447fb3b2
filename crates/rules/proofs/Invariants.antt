-- What stays true over every run from an accepted power-on (specs/Claims/Invariants), and what one call of such a run changes in the objects.
--
--   refused-leaves         a call that is refused leaves the state as it was
--   call_kept              a call leaves a state that is well, and has moved the objects as its `wrote` says
--   powered-well           so is the state after a power-on that is granted
--   run-well               so is the state after a row of calls
--   invariants             the claim
--
-- Assumes nothing.
use Rattle.std.specs.Prelude.{Ok, Err}
use mathlib.Core.Path.{◌≡◌, refl, ap, sym, ◌∙◌, subst}
use mathlib.Core.Bool.{Bool, true, false, not, true≢false, false≢true}
use mathlib.Core.List.{List, [], ◌∷◌, ◌++◌}
use Prim.Native.Nat.{ℕ, ◌+◌, ◌-◌, ◌≤◌}
use native.Mathlib.Omega.{arith}
use lib.ListN.{length, take, get_or, length-append, get_or-replicate, get_or-append, get_or-eq_default}
use lib.Seq.{length-take-le, ext_get_or, get_or-append-add, get_or-take}
use borrow.Author.Tests.{eq-eqb, not-false}
use Rattle.rules.specs.declared.Refusal.{Refusal}
use Rattle.rules.specs.Fault.{Permit}
use Rattle.rules.specs.declared.Session.{Session}
use Rattle.rules.specs.Bytes.{zeros}
use Rattle.rules.specs.Store.{work_size, well_formed}
use Rattle.rules.specs.Session.{State, state, held_length, session_tests, possible}
use Rattle.rules.specs.Calls.{Call, powers, sends, finishes, ill_session, interrupts, wrong_result, permit, Result, delivered, powered_on, granted, denied, kept_session, decided, call}
use Rattle.rules.specs.Runs.{leaves, end_of}
use Rattle.rules.specs.Claims.Invariants.{Plain, Each, Sane, Pardoned, Holds}
use Rattle.rules.proofs.Lists.{length-zeros}
use Rattle.rules.proofs.Tests.{branch, by_order, and-other}
use Rattle.rules.proofs.WellFormed.{wf_tests}
use Rattle.rules.proofs.StaysWell.{tries}
use Rattle.rules.proofs.Earned.{call-earned}
use Rattle.rules.proofs.Permits.{Lets, granted_lets, power_granted, call-denied}
use Rattle.rules.proofs.Possible.{possible_tests, held_fits_by}
use Rattle.rules.proofs.Kept.{Zero, Well, Moved, well_fine, command-kept, finished-kept}

-- ---- refusals

-- a refusal in a state that is well is none of 1, 2 and 4
abbrev Pardons : Permit → Type 0
Pardons (Ok u) = Unit {0}
Pardons (Err r) = Pardoned r

session_fits : (st : State) → Well st → (k : Call) → ill_session k st.session ≡ false
unfolding ill_session
session_fits st g (powers air) = refl
session_fits st g (sends resp c) = ap not g.session
session_fits st g (finishes resp failed r) = ap not g.session

well_pardons : (st : State) → Well st → (k : Call) → Pardons (permit st k)
unfolding permit
well_pardons st g k =
    branch Pardons _ (λ b. absurd (true≢false (sym b ∙ ap not g.wf)))
    λ b1. branch Pardons _ (λ b. absurd (true≢false (sym b ∙ session_fits st g k)))
    λ b2. branch Pardons _ (λ b. tt)
    λ b3. branch Pardons _ (λ b. absurd (true≢false (sym b ∙ ap not (eq-eqb _ _ g.size))))
    λ b4. branch Pardons _ (λ b. tt)
    λ b5. branch Pardons _ (λ b. tt)
    λ b6. branch Pardons _ (λ b. tt)
    λ b7. tt

-- ---- one call

pub record After (s : List ℕ) (x : Result) : Type 0 where
  pub well : Well (leaves x)
  pub moved : Moved s x.outcome.store x.wrote

beyond : (n j : ℕ) → n ≤ j → get_or (zeros n) j 0 ≡ 0
beyond n j l = get_or-eq_default (zeros n) 0 {n = j} (omega (arith, length-zeros n))

pub zeros-zero : (n : ℕ) → Zero (zeros n) 0
unfolding zeros
zeros-zero n j h = by_order j n (λ l. get_or-replicate n j 0 0 l) (λ l. beyond n j l)

pub powered-well : (st : State) (air : Bool) → well_formed st.store ≡ true → After st.store (powered_on st air)
unfolding powered_on leaves possible session_tests
powered-well st air w = record {
  well = record {
    wf = w;
    size = length-zeros work_size;
    zero = zeros-zero work_size;
    session = refl;
    full = λ e. absurd (false≢true e);
    contact = λ e. absurd (false≢true e);
    served = λ e. absurd (false≢true e);
  };
  moved = λ j h. refl;
}

granted-kept : (st : State) → Well st → (k : Call) → Plain k → Lets st k → After st.store (granted st k)
unfolding granted delivered leaves interrupts wrong_result
granted-kept st g (powers air) p l = powered-well st air g.wf
granted-kept st g (sends resp c) p l =
    let k = command-kept st (well_fine st g l.free) c p in
    record { well = k.well; moved = k.moved }
granted-kept st g (finishes resp failed r) p l =
    let k = finished-kept st g failed r (λ e. not-false _ (and-other (not failed) _ l.result (ap not e))) in
    record { well = k.well; moved = k.moved }

abbrev Yes : Permit → Type 0
Yes (Ok u) = Unit {0}
Yes (Err r) = ⊥

denied-leaves : (st : State) → Well st → (k : Call) (r : Refusal) → permit st k ≡ Err r → leaves (denied st k r) ≡ st
unfolding denied leaves kept_session
denied-leaves st g (powers air) r e = absurd (subst Yes (sym (power_granted st air g.wf g.size) ∙ e) tt)
denied-leaves st g (sends resp c) r e = refl
denied-leaves st g (finishes resp failed x) r e = refl

-- a refused call leaves the state as it was
pub refused-leaves : (st : State) → Well st → (k : Call) (r : Refusal) → permit st k ≡ Err r → leaves (call st k) ≡ st
refused-leaves st g k r e = ap leaves (call-denied st k r e) ∙ denied-leaves st g k r e

denied-kept : (st : State) → Well st → (k : Call) (r : Refusal) → permit st k ≡ Err r → After st.store (denied st k r)
unfolding denied
denied-kept st g k r e = record { well = subst Well (sym (denied-leaves st g k r e)) g; moved = λ j h. refl }

decided-kept : (st : State) → Well st → (k : Call) → Plain k → (p : Permit) → permit st k ≡ p → After st.store (decided st k p)
unfolding decided
decided-kept st g k b (Ok u) e = granted-kept st g k b (granted_lets st k e)
decided-kept st g k b (Err r) e = denied-kept st g k r e

pub call_kept : (st : State) → Well st → (k : Call) → Plain k → After st.store (call st k)
unfolding call
call_kept st g k b = decided-kept st g k b (permit st k) refl

-- ---- a run

pub run-well : (ks : List Call) (st : State) → Well st → Each Plain ks → Well (end_of st ks)
unfolding end_of
run-well [] st g b = g
run-well (k ∷ ks) st g b = run-well ks (leaves (call st k)) (call_kept st g k b.0).well b.1

pub power_well : (s w : List ℕ) (ss : Session) (air : Bool) → permit (state s w ss) (powers air) ≡ Ok tt → Well (leaves (call (state s w ss) (powers air)))
unfolding call
power_well s w ss air e =
    subst (λ (p : Permit). Well (leaves (decided (state s w ss) (powers air) p))) (sym e)
    (unfold decided granted in (powered-well (state s w ss) air (granted_lets (state s w ss) (powers air) e).store).well)

pub start-well : (s w : List ℕ) (ss : Session) (air : Bool) → permit (state s w ss) (powers air) ≡ Ok tt
    → (ks : List Call) → Each Plain ks → Well (end_of (state s w ss) (powers air ∷ ks))
unfolding end_of
start-well s w ss air e ks b = run-well ks _ (power_well s w ss air e) b

-- ---- the claim

zero-behind : (w : List ℕ) (n : ℕ) → length w ≡ work_size → n ≤ work_size → Zero w n → w ≡ take n w ++ zeros (work_size - n)
unfolding zeros
zero-behind w n l h z =
    let t : length (take n w) ≡ n = length-take-le n w (omega arith) in
    let m : ℕ = work_size - n in
    let e : length (take n w ++ zeros m) ≡ work_size = length-append (take n w) (zeros m) ∙ (omega (arith, t, length-zeros m)) in
    ext_get_or 0 w (take n w ++ zeros m) (l ∙ sym e)
    λ j p. by_order j n (λ q. sym (get_or-append (take n w) (zeros m) 0 j (omega (arith, t)) ∙ get_or-take n w j 0 q))
    (λ q. let i : j ≡ length (take n w) + (j - n) = omega (arith, t) in
    z j q ∙ sym (ap (λ (x : ℕ). get_or (take n w ++ zeros m) x 0) i ∙ get_or-append-add (take n w) (zeros m) (j - n) 0 ∙ zeros-zero m (j - n) (omega arith)))

pub well_sane : (st : State) → Well st → Sane st
well_sane st g =
    let t = possible_tests st.session g.session in
    record {
      store = g.wf;
      session = g.session;
      size = g.size;
      held = zero-behind st.work (held_length st.session) g.size (held_fits_by st.session.chain st.session.rest t.chain t.rest t.apart) g.zero;
      full = g.full;
      contact = g.contact;
      served = g.served;
      pin_tries = tries _ (wf_tests st.store g.wf).pin;
      puk_tries = tries _ (wf_tests st.store g.wf).puk;
    }

pub invariants : Holds
invariants = record {
  always = λ s w ss air e ks b. well_sane _ (start-well s w ss air e ks b);
  passed_on = λ s w ss air e ks b k r q. subst Pardons q (well_pardons _ (start-well s w ss air e ks b) k);
  earned = call-earned;
}
