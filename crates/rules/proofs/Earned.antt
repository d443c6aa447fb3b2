-- Earned: the PIN status becomes TRUE only in a call in which the PIN was compared and found equal (specs/Claims/Invariants, `earned`).
-- Assumes nothing.
use Rattle.std.specs.Prelude.{Option, None, Some, Ok, Err}
use mathlib.Core.Path.{◌≡◌, refl, sym, ◌∙◌, subst}
use mathlib.Core.Logic.{◌⊎◌, inl, inr}
use mathlib.Core.Bool.{Bool, true, false, false≢true}
use mathlib.Core.List.{List, []}
use Prim.Native.Nat.{ℕ}
use Rattle.rules.specs.declared.Job.{Job}
use Rattle.rules.specs.declared.Rest.{Rest}
use Rattle.rules.specs.declared.Place.{Place}
use Rattle.rules.specs.Objects.{Put}
use Rattle.rules.specs.declared.Admin.{Admin}
use Rattle.rules.specs.declared.Admin.TheVariants.{GiveChallenge, Reply}
use Rattle.rules.specs.declared.Header.{Header}
use Rattle.rules.specs.Command.{Checked}
use Rattle.rules.specs.Fault.{Permit}
use Rattle.rules.specs.Session.{State}
use Rattle.rules.specs.Command.{field_of, Which, the_pin, the_puk, Made}
use Rattle.rules.specs.Held.{calm, dropped, send, fetch, based, gathered, held_piece, closed, piece}
use Rattle.rules.specs.Pin.{Refs, Said, missed, verified, verify_given, verify_asked, verify_ended, verify, changed, change_of, change, reset_to, reset_given, reset, refs_in, refs, with_given, after, put_refs, on_refs}
use Rattle.rules.specs.Objects.{select, asked_in, give_object, get_slot, get_asked, get_data, get_rest, get_response, stored, put_slot, put_whole, put_form, put_piece, put_data}
use Rattle.rules.specs.Keys.{contents, replied, opened, auth_admin, auth_key, auth_in, auth_form, auth_whole, auth_piece, authenticate, challenged, answered, finished}
use Rattle.rules.specs.Calls.{ruled, obeyed, command, Call, powers, sends, finishes, permit, delivered, powered_on, granted, kept_session, denied, decided, call}
use Rattle.rules.specs.Claims.Invariants.{pin_equal}
use Rattle.rules.proofs.Tests.{either}

-- the PIN status is what it was
abbrev Stays : Bool → Made → Type 0
Stays b x = x.after.session.pin ≡ b

send_stays : (st : State) (le : ℕ) (d : List ℕ) → Stays st.session.pin (send st le d)
unfolding send
send_stays st le d = either (Stays st.session.pin) _ refl refl

module _ (st : State) (h : Header) (d : List ℕ) where
  select_stays : Stays st.session.pin (select st h d)
  unfolding select
  select_stays = either (Stays st.session.pin) _ refl (either (Stays st.session.pin) _ refl (send_stays st _ _))

  asked_stays : (a : Option ℕ) → Stays st.session.pin (get_asked st h.le a)
  unfolding get_asked get_slot give_object
  asked_stays None = refl
  asked_stays (Some i) = either (Stays st.session.pin) _ refl (either (Stays st.session.pin) _ refl (either (Stays st.session.pin) _ refl (send_stays st _ _)))

  data_stays : Stays st.session.pin (get_data st h d)
  unfolding get_data
  data_stays = either (Stays st.session.pin) _ refl (asked_stays (asked_in d))

  rest_stays : (r : Option Rest) → Stays st.session.pin (get_rest st h.le r)
  unfolding get_rest fetch dropped
  rest_stays None = refl
  rest_stays (Some r) = either (Stays st.session.pin) _ refl refl

  response_stays : Stays st.session.pin (get_response st h d)
  unfolding get_response dropped
  response_stays = either (Stays st.session.pin) _ refl (either (Stays st.session.pin) _ refl (rest_stays st.session.rest))

-- a chaining command
based-pin : (st : State) (h : Header) → (based st h).session.pin ≡ st.session.pin
unfolding based dropped
based-pin st h = either (λ (x : State). x.session.pin ≡ st.session.pin) _ refl refl

piece_stays : (st : State) (h : Header) (d : List ℕ) (sw : ℕ) (whole : State → List ℕ → Made) → ((x : State) (l : List ℕ) → Stays x.session.pin (whole x l))
    → Stays st.session.pin (piece st h d sw whole)
unfolding piece dropped held_piece closed
piece_stays st h d sw whole w = either (Stays st.session.pin) _ refl (either (Stays st.session.pin) _ refl (w (closed st d) (gathered st d)))

slot_stays : (st : State) (d : List ℕ) (p : Option Put) → Stays st.session.pin (put_slot st d p)
unfolding put_slot stored
slot_stays st d None = refl
slot_stays st d (Some p) = either (Stays st.session.pin) _ refl (either (Stays st.session.pin) _ refl refl)

put_stays : (st : State) (h : Header) (d : List ℕ) → Stays st.session.pin (put_data st h d)
unfolding put_data put_piece put_whole
put_stays st h d =
    subst (λ (b : Bool). Stays b (put_data st h d)) (based-pin st h) (piece_stays (based st h) h d _ put_whole (λ x l. slot_stays x l (put_form l)))

replied_stays : (st : State) (ch : Option ℕ) (r : ℕ) → Stays st.session.pin (replied st ch r)
unfolding replied
replied_stays st None r = refl
replied_stays st (Some x) r = either (Stays st.session.pin) _ refl refl

admin_stays : (ch : Option ℕ) (st : State) (le : ℕ) (t : List ℕ) (a : Option Admin) → Stays st.session.pin (auth_admin ch st le t a)
unfolding auth_admin opened
admin_stays ch st le t (Some GiveChallenge) = refl
admin_stays ch st le t (Some (Reply from)) = replied_stays st ch _
admin_stays ch st le t None = refl

key_stays : (st : State) (h : Header) (t : List ℕ) (f : Option Place) → Stays st.session.pin (auth_key st h t f)
unfolding auth_key opened
key_stays st h t None = refl
key_stays st h t (Some v) = refl

form_stays : (ch : Option ℕ) (h : Header) (st : State) (d : List ℕ) (f : Option Place) → Stays st.session.pin (auth_form ch h st d f)
unfolding auth_form auth_in
form_stays ch h st d None = refl
form_stays ch h st d (Some v) = either (Stays st.session.pin) _ (admin_stays ch st _ _ _) (key_stays st h _ _)

auth_stays : (ch : Option ℕ) (st : State) (h : Header) (d : List ℕ) → Stays st.session.pin (authenticate ch st h d)
unfolding authenticate auth_piece auth_whole
auth_stays ch st h d =
    subst (λ (b : Bool). Stays b (authenticate ch st h d)) (based-pin st h) (piece_stays (based st h) h d _ (auth_whole ch h) (λ x l. form_stays ch h x l (contents l)))

-- ---- the rules on references

-- TRUE before, or the PIN was found equal
abbrev Earns : Refs → Said → Type 0
Earns r x = x.given ≡ true → (r.given ≡ true) ⊎ (pin_equal x.steps ≡ true)

module _ (r : Refs) where
  kept : r.given ≡ true → (r.given ≡ true) ⊎ (pin_equal [] ≡ true)
  kept e = inl e

  lost : (w : Which) → Earns r (missed r w false)
  unfolding missed
  lost w = λ e. absurd (false≢true e)

  verify_earns : (h : Header) (d : List ℕ) → Earns r (verify r h d)
  unfolding verify verify_ended verify_asked verify_given verified
  verify_earns h d =
      either (Earns r) _ kept
      (either (Earns r) _ kept
      (either (Earns r) _ (either (Earns r) _ kept (λ e. absurd (false≢true e)))
      (either (Earns r) _ (either (Earns r) _ kept kept)
      (either (Earns r) _ kept (either (Earns r) _ kept (either (Earns r) _ (λ e. inr refl) (lost the_pin)))))))

  change_earns : (h : Header) (d : List ℕ) → Earns r (change r h d)
  unfolding change change_of changed missed
  change_earns h d =
      either (Earns r) _ kept
      (either (Earns r) _ kept
      (either (Earns r) _
      (either (Earns r) _ kept (either (Earns r) _ kept (either (Earns r) _ kept (either (Earns r) _ (λ e. inr refl) (lost the_pin)))))
      (either (Earns r) _ kept (either (Earns r) _ kept (either (Earns r) _ kept (either (Earns r) _ (λ e. inl e) (λ e. inl e)))))))

  reset_earns : (h : Header) (d : List ℕ) → Earns r (reset r h d)
  unfolding reset reset_given reset_to
  reset_earns h d =
      either (Earns r) _ kept
      (either (Earns r) _ kept
      (either (Earns r) _ kept (either (Earns r) _ kept (either (Earns r) _ kept (either (Earns r) _ (λ e. inl e) (lost the_puk))))))

-- ---- a call

abbrev pub Earned : Bool → Made → Type 0
Earned b x = x.after.session.pin ≡ true → (b ≡ true) ⊎ (pin_equal x.steps ≡ true)

rule-earned : (st : State) (x : Said) → Earns (refs st) x → Earned st.session.pin (on_refs (dropped st) x)
unfolding on_refs put_refs after with_given refs refs_in dropped
rule-earned st x k e = k e

ruled-earned : (st : State) (ch : Option ℕ) (h : Header) (d : List ℕ) → Earned st.session.pin (ruled st ch h d)
unfolding ruled dropped
ruled-earned st ch h d =
    either (Earned st.session.pin) _ (λ e. inl (sym (select_stays (dropped st) h d) ∙ e))
    (either (Earned st.session.pin) _ (λ e. inl (sym (data_stays (dropped st) h d) ∙ e))
    (either (Earned st.session.pin) _ (λ e. inl (sym (response_stays st h d) ∙ e))
    (either (Earned st.session.pin) _ (rule-earned st _ (verify_earns (refs st) h d))
    (either (Earned st.session.pin) _ (rule-earned st _ (change_earns (refs st) h d))
    (either (Earned st.session.pin) _ (rule-earned st _ (reset_earns (refs st) h d))
    (either (Earned st.session.pin) _ (λ e. inl (sym (auth_stays ch st h d) ∙ e)) (λ e. inl (sym (put_stays st h d) ∙ e))))))))

obeyed-earned : (st : State) (ch : Option ℕ) (c : List ℕ) (x : Checked) → Earned st.session.pin (obeyed st ch c x)
unfolding obeyed dropped
obeyed-earned st ch c (Err sw) = λ e. inl e
obeyed-earned st ch c (Ok h) = ruled-earned st ch h (field_of c h)

command-earned : (st : State) (c : List ℕ) → Earned st.session.pin (command st c)
unfolding command calm
command-earned st c = obeyed-earned (calm st) st.session.challenge c _

finished-earned : (st : State) (j : Option Job) (failed : Bool) (r : List ℕ) → Earned st.session.pin (finished st j failed r)
unfolding finished answered challenged
finished-earned st None failed r = λ e. inl e
finished-earned st (Some j) failed r =
    either (Earned st.session.pin) _ (λ e. inl e) (either (Earned st.session.pin) _ (λ e. inl (sym (send_stays _ _ _) ∙ e)) (λ e. inl (sym (send_stays _ _ _) ∙ e)))

decided-earned : (st : State) (k : Call) (p : Permit) → (decided st k p).outcome.reply.session.pin ≡ true → (st.session.pin ≡ true) ⊎ (pin_equal (decided st k p).steps ≡ true)
unfolding decided granted delivered powered_on denied kept_session
decided-earned st (powers air) (Ok u) = λ e. absurd (false≢true e)
decided-earned st (sends resp c) (Ok u) = command-earned st c
decided-earned st (finishes resp failed r) (Ok u) = finished-earned st st.session.job failed r
decided-earned st (powers air) (Err r) = λ e. absurd (false≢true e)
decided-earned st (sends resp c) (Err r) = λ e. inl e
decided-earned st (finishes resp failed x) (Err r) = λ e. inl e

pub call-earned : (st : State) (k : Call) → (call st k).outcome.reply.session.pin ≡ true → (st.session.pin ≡ true) ⊎ (pin_equal (call st k).steps ≡ true)
unfolding call
call-earned st k = decided-earned st k (permit st k)
