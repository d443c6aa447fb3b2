-- Each command's status word is one of those that 01 lists for it (specs/Claims/Words).
-- Assumes nothing.
use Rattle.std.specs.Prelude.{Option, None, Some, Ok, Err}
use mathlib.Core.Path.{◌≡◌, refl, sym, subst}
use mathlib.Core.Bool.{Bool, true, false, not, ◌&&◌, ◌||◌}
use mathlib.Core.List.{List, [], ◌∷◌}
use Prim.Native.Nat.{ℕ, ◌+◌, ◌-◌, ◌≤◌}
use native.Mathlib.Omega.{arith}
use lib.Dec.{leb, eqb}
use lib.ListN.{length}
use borrow.Author.Tests.{le-leb, leb-true, leb-false}
use Rattle.rules.specs.declared.Job.{Job}
use Rattle.rules.specs.declared.Rest.{Rest}
use Rattle.rules.specs.declared.Place.{Place}
use Rattle.rules.specs.Objects.{Put}
use Rattle.rules.specs.declared.Admin.{Admin}
use Rattle.rules.specs.declared.Admin.TheVariants.{GiveChallenge, Reply}
use Rattle.rules.specs.declared.Header.{Header}
use Rattle.rules.specs.Command.{Checked}
use Rattle.rules.specs.Bytes.{iff}
use Rattle.rules.specs.Session.{State}
use Rattle.rules.specs.Command.{Made, field_of, admit, parse, parse_long, admitted, check}
use Rattle.rules.specs.Held.{calm, dropped, left_word, send, fetch, piece}
use Rattle.rules.specs.Reference.{Reference, reference_ok, charged}
use Rattle.rules.specs.Store.{well_formed}
use Rattle.rules.specs.Command.{Which, the_pin, the_puk}
use Rattle.rules.specs.Pin.{Refs, the, Said, tries_word, missed, verified, verify_given, verify_asked, verify_ended, verify, changed, change_of, change, reset_to, reset_given, reset, refs_in, refs, on_refs}
use Rattle.rules.specs.Objects.{select, asked_in, give_object, get_slot, get_asked, get_data, get_rest, get_response, stored, put_slot, put_whole, put_each, put_piece, put_data}
use Rattle.rules.specs.Keys.{replied, opened, auth_admin, auth_key, auth_in, auth_form, auth_whole, auth_each, auth_piece, authenticate, challenged, answered, finished}
use Rattle.rules.specs.Calls.{ruled, obeyed, command}
use Rattle.rules.specs.Claims.Words.{any_of, tries_left, bytes_left, check_words, words, result_words, Tells, Holds}
use Rattle.rules.proofs.Tests.{either, or_right, and_left, and_right, and_both}
use Rattle.rules.proofs.WellFormed.{wf_tests}

left_word_lem : (n : ℕ) → bytes_left (left_word n) ≡ true
unfolding left_word iff
left_word_lem n = go (leb 256 n) refl
  where
    go : (b : Bool) → leb 256 n ≡ b → bytes_left (iff b 0x6100 (0x6100 + n)) ≡ true
    go true e = refl
    go false e = and_both (leb 0x6100 (0x6100 + n)) (leb (0x6100 + n) 0x61FF) (le-leb 0x6100 (0x6100 + n) (omega arith)) (le-leb (0x6100 + n) 0x61FF (omega (arith, leb-false 256 n e)))

-- what holds of each branch of a row
module _ (ok : ℕ → Bool) where
  abbrev Says : Made → Type 0
  Says x = Tells ok x.told

  -- an answer goes out with 9000, or with 61XX
  send-words : ok 0x9000 ≡ true → ((n : ℕ) → ok (left_word n) ≡ true) → (st : State) (le : ℕ) (d : List ℕ) → Says (send st le d)
  unfolding send
  send-words a m st le d = either Says (leb (length d) le) a (m _)

  fetch-words : ok 0x9000 ≡ true → ((n : ℕ) → ok (left_word n) ≡ true) → (st : State) (le whole k : ℕ) → Says (fetch st le whole k)
  unfolding fetch
  fetch-words a m st le whole k = either Says (leb (whole - k) le) a (m _)

  -- a piece: what the rules for each piece say, 9000, or what the whole says
  piece-words : ok 0x9000 ≡ true → (st : State) (h : Header) (d : List ℕ) (sw : ℕ) (whole : State → List ℕ → Made) → ok sw ≡ true
      → ((s : State) (l : List ℕ) → Says (whole s l)) → Says (piece st h d sw whole)
  unfolding piece
  piece-words a st h d sw whole e w = either Says (not (eqb sw 0x9000)) e (either Says (eqb h.cla 0x10) a (w _ _))

-- two rows side by side: the words of a command, and its rule
both : (b : Bool) (p q : ℕ → Bool) (x y : Made) → Tells p x.told → Tells q y.told → Tells (λ n. iff b (p n) (q n)) (iff b x y).told
unfolding iff
both true p q x y f g = f
both false p q x y f g = g

-- ---- the commands

module _ (st : State) (h : Header) (d : List ℕ) where
  select-words : Tells (λ x. any_of (0x6A86 ∷ 0x6A82 ∷ 0x9000 ∷ []) x || bytes_left x) (select st h d).told
  unfolding select
  select-words = either (Says _) _ refl (either (Says _) _ refl (send-words _ refl (λ n. or_right (any_of (0x6A86 ∷ 0x6A82 ∷ 0x9000 ∷ []) (left_word n)) _ (left_word_lem n)) _ _ _))

  data-words : Tells (λ x. any_of (0x6A86 ∷ 0x6A80 ∷ 0x6A82 ∷ 0x6982 ∷ 0x9000 ∷ []) x || bytes_left x) (get_data st h d).told
  unfolding get_data
  data-words = either (Says _) _ refl (asked (asked_in d))
    where
      asked : (a : Option ℕ) → Tells (λ x. any_of (0x6A86 ∷ 0x6A80 ∷ 0x6A82 ∷ 0x6982 ∷ 0x9000 ∷ []) x || bytes_left x) (get_asked st h.le a).told
      asked None = unfold get_asked in refl
      asked (Some i) = unfold get_asked get_slot give_object in
          (either (Says _) _ refl (either (Says _) _ refl (either (Says _) _ refl
          (send-words _ refl (λ n. or_right (any_of (0x6A86 ∷ 0x6A80 ∷ 0x6A82 ∷ 0x6982 ∷ 0x9000 ∷ []) (left_word n)) _ (left_word_lem n)) _ _ _))))

  response_words : Tells (λ x. any_of (0x6A86 ∷ 0x6700 ∷ 0x6985 ∷ 0x9000 ∷ []) x || bytes_left x) (get_response st h d).told
  unfolding get_response get_rest
  response_words = either (Says _) _ refl (either (Says _) _ refl (rest st.session.rest))
    where
      rest : (r : Option Rest) → Tells (λ x. any_of (0x6A86 ∷ 0x6700 ∷ 0x6985 ∷ 0x9000 ∷ []) x || bytes_left x) (get_rest st h.le r).told
      rest None = refl
      rest (Some r) = fetch-words _ refl (λ n. or_right (any_of (0x6A86 ∷ 0x6700 ∷ 0x6985 ∷ 0x9000 ∷ []) (left_word n)) _ (left_word_lem n)) _ _ _ _

-- ---- the commands on references

-- at most 15 tries
Few : Refs → Type 0
Few r = (r.pin.left ≤ 15) × (r.puk.left ≤ 15)

tries_word_lem : (n : ℕ) → n ≤ 15 → tries_left (0x63C0 + n) ≡ true
tries_word_lem n h = and_both (leb 0x63C0 (0x63C0 + n)) (leb (0x63C0 + n) 0x63CF) (le-leb 0x63C0 (0x63C0 + n) (omega arith)) (le-leb (0x63C0 + n) 0x63CF (omega arith))

module _ (ok : ℕ → Bool) (tries : (n : ℕ) → n ≤ 15 → ok (0x63C0 + n) ≡ true) (blocked : ok 0x6983 ≡ true) (form : ok 0x6A80 ≡ true) (done : ok 0x9000 ≡ true) (r : Refs) (few : Few r) where
  abbrev SaysRef : Said → Type 0
  SaysRef x = ok x.sw ≡ true

  missed-words : (w : Which) (b : Bool) → SaysRef (missed r w b)
  unfolding Few missed tries_word charged the
  missed-words the_pin b = tries _ (omega (arith, few.0))
  missed-words the_puk b = tries _ (omega (arith, few.1))

  verify-words : (d : List ℕ) → SaysRef (verify_given r d)
  unfolding verify_given verified
  verify-words d = either SaysRef _ blocked (either SaysRef _ form (either SaysRef _ done (missed-words the_pin false)))

  asked-words : SaysRef (verify_asked r)
  unfolding Few verify_asked tries_word
  asked-words = either SaysRef _ done (tries _ few.0)

  ended_words : (d : List ℕ) → SaysRef (verify_ended r d)
  unfolding verify_ended
  ended_words d = either SaysRef _ form done

  change-words : (w : Which) (f : List ℕ → Bool) (a b : Bool) (d : List ℕ) → SaysRef (change_of r w f a b d)
  unfolding change_of changed
  change-words w f a b d = either SaysRef _ blocked (either SaysRef _ form (either SaysRef _ form (either SaysRef _ done (missed-words w b))))

  reset-words : (d : List ℕ) → SaysRef (reset_given r d)
  unfolding reset_given reset_to
  reset-words d = either SaysRef _ blocked (either SaysRef _ form (either SaysRef _ form (either SaysRef _ done (missed-words the_puk false))))

abbrev verify_words : ℕ → Bool
verify_words x = any_of (0x6A86 ∷ 0x6A88 ∷ 0x6A80 ∷ 0x6983 ∷ 0x9000 ∷ []) x || tries_left x

abbrev change_words : ℕ → Bool
change_words x = any_of (0x6A86 ∷ 0x6A81 ∷ 0x6983 ∷ 0x6A80 ∷ 0x9000 ∷ []) x || tries_left x

verify_tries : (n : ℕ) → n ≤ 15 → verify_words (0x63C0 + n) ≡ true
verify_tries n h = or_right (any_of (0x6A86 ∷ 0x6A88 ∷ 0x6A80 ∷ 0x6983 ∷ 0x9000 ∷ []) (0x63C0 + n)) _ (tries_word_lem n h)

change_tries : (n : ℕ) → n ≤ 15 → change_words (0x63C0 + n) ≡ true
change_tries n h = or_right (any_of (0x6A86 ∷ 0x6A81 ∷ 0x6983 ∷ 0x6A80 ∷ 0x9000 ∷ []) (0x63C0 + n)) _ (tries_word_lem n h)

module _ (r : Refs) (few : Few r) (h : Header) (d : List ℕ) where
  verify-all : verify_words (verify r h d).sw ≡ true
  unfolding verify
  verify-all =
      either (SaysRef verify_words verify_tries refl refl refl r few) _ refl
      (either (SaysRef verify_words verify_tries refl refl refl r few) _ refl
      (either (SaysRef verify_words verify_tries refl refl refl r few) _ (ended_words verify_words verify_tries refl refl refl r few d)
      (either (SaysRef verify_words verify_tries refl refl refl r few) _ (asked-words verify_words verify_tries refl refl refl r few) (verify-words verify_words verify_tries refl refl refl r few d))))

  change-all : change_words (change r h d).sw ≡ true
  unfolding change
  change-all =
      either (SaysRef change_words change_tries refl refl refl r few) _ refl
      (either (SaysRef change_words change_tries refl refl refl r few) _ refl
      (either (SaysRef change_words change_tries refl refl refl r few) _ (change-words change_words change_tries refl refl refl r few _ _ _ _ d) (change-words change_words change_tries refl refl refl r few _ _ _ _ d)))

  reset-all : change_words (reset r h d).sw ≡ true
  unfolding reset
  reset-all =
      either (SaysRef change_words change_tries refl refl refl r few) _ refl
      (either (SaysRef change_words change_tries refl refl refl r few) _ refl (reset-words change_words change_tries refl refl refl r few d))

-- a well-formed store has at most 15 tries of each
reference_few : (f : Reference) → reference_ok f ≡ true → f.left ≤ 15
unfolding reference_ok
reference_few f e =
    let a : (leb 1 f.limit && leb f.limit 15) ≡ true = and_left _ (leb f.left f.limit) e in
    omega (arith, leb-true f.limit 15 (and_right (leb 1 f.limit) (leb f.limit 15) a), leb-true f.left f.limit (and_right (leb 1 f.limit && leb f.limit 15) (leb f.left f.limit) e))

refs-few : (st : State) → well_formed st.store ≡ true → Few (refs st)
unfolding Few refs refs_in
refs-few st w = (reference_few _ (wf_tests st.store w).pin, reference_few _ (wf_tests st.store w).puk)

-- ---- GENERAL AUTHENTICATE and PUT DATA

abbrev auth_words : ℕ → Bool
auth_words x = any_of (0x6A86 ∷ 0x6982 ∷ 0x6A80 ∷ 0x6985 ∷ 0x9000 ∷ []) x

abbrev put_words : ℕ → Bool
put_words x = any_of (0x6A86 ∷ 0x6982 ∷ 0x6A84 ∷ 0x6A80 ∷ 0x6A82 ∷ 0x9000 ∷ []) x

replied-words : (st : State) (ch : Option ℕ) (r : ℕ) → Says auth_words (replied st ch r)
unfolding replied
replied-words st None r = refl
replied-words st (Some reply) r = either (Says auth_words) _ refl refl

admin_words : (ch : Option ℕ) (st : State) (le : ℕ) (t : List ℕ) (a : Option Admin) → Says auth_words (auth_admin ch st le t a)
unfolding auth_admin opened
admin_words ch st le t (Some GiveChallenge) = tt
admin_words ch st le t (Some (Reply from)) = replied-words st ch _
admin_words ch st le t None = refl

key_words : (st : State) (h : Header) (t : List ℕ) (f : Option Place) → Says auth_words (auth_key st h t f)
unfolding auth_key opened
key_words st h t None = refl
key_words st h t (Some v) = tt

form_words : (ch : Option ℕ) (h : Header) (st : State) (d : List ℕ) (f : Option Place) → Says auth_words (auth_form ch h st d f)
unfolding auth_form auth_in
form_words ch h st d None = refl
form_words ch h st d (Some v) = either (Says auth_words) _ (admin_words ch st _ _ _) (key_words st h _ _)

each_auth : (st : State) (h : Header) (n : ℕ) → auth_words (auth_each st h n) ≡ true
unfolding auth_each
each_auth st h n =
    either (λ (x : ℕ). auth_words x ≡ true) _ refl (either (λ (x : ℕ). auth_words x ≡ true) _ refl (either (λ (x : ℕ). auth_words x ≡ true) _ refl
    (either (λ (x : ℕ). auth_words x ≡ true) _ refl (either (λ (x : ℕ). auth_words x ≡ true) _ refl refl))))

auth_words_lem : (ch : Option ℕ) (st : State) (h : Header) (d : List ℕ) → Says auth_words (authenticate ch st h d)
unfolding authenticate auth_piece auth_whole
auth_words_lem ch st h d = piece-words auth_words refl _ h d _ _ (each_auth _ h _) (λ s l. form_words ch h s l _)

slot-words : (st : State) (d : List ℕ) (p : Option Put) → Says put_words (put_slot st d p)
unfolding put_slot stored
slot-words st d None = refl
slot-words st d (Some p) = either (Says put_words) _ refl (either (Says put_words) _ refl refl)

each-put : (st : State) (h : Header) (n : ℕ) → put_words (put_each st h n) ≡ true
unfolding put_each
each-put st h n =
    either (λ (x : ℕ). put_words x ≡ true) _ refl (either (λ (x : ℕ). put_words x ≡ true) _ refl (either (λ (x : ℕ). put_words x ≡ true) _ refl refl))

put-words : (st : State) (h : Header) (d : List ℕ) → Says put_words (put_data st h d)
unfolding put_data put_piece put_whole
put-words st h d = piece-words put_words refl _ h d _ _ (each-put _ h _) (λ s l. slot-words s l _)

-- ---- a command

ruled-words : (st : State) (ch : Option ℕ) (h : Header) (d : List ℕ) → well_formed st.store ≡ true → Tells (words h.ins) (ruled st ch h d).told
unfolding ruled words on_refs
ruled-words st ch h d w =
    both _ _ _ _ _ (select-words (dropped st) h d)
    (both _ _ _ _ _ (data-words (dropped st) h d)
    (both _ _ _ _ _ (response_words st h d)
    (both _ _ _ _ _ (verify-all (refs st) (refs-few st w) h d)
    (both _ _ _ _ _ (change-all (refs st) (refs-few st w) h d)
    (both _ _ _ _ _ (reset-all (refs st) (refs-few st w) h d)
    (both _ _ _ _ _ (auth_words_lem ch st h d) (put-words st h d)))))))

-- ---- checks 1 to 5

abbrev Fails : Checked → Type 0
Fails (Err sw) = check_words sw ≡ true
Fails (Ok h) = Unit {0}

parse_fails : (c : List ℕ) → Fails (parse c)
unfolding parse parse_long
parse_fails c = either Fails _ refl (either Fails _ tt (either Fails _ tt (either Fails _ refl (either Fails _ tt (either Fails _ tt refl)))))

admit_fails : (air : Bool) (x : Checked) → Fails x → Fails (admitted air x)
unfolding admitted admit
admit_fails air (Err sw) f = f
admit_fails air (Ok h) f = either Fails _ refl (either Fails _ refl (either Fails _ refl (either Fails _ refl (either Fails _ refl tt))))

check_fails : (air : Bool) (c : List ℕ) (sw : ℕ) → check air c ≡ Err sw → check_words sw ≡ true
unfolding check
check_fails air c sw e = subst Fails e (admit_fails air (parse c) (parse_fails c))

-- ---- the result of a job

result_words_lem : (st : State) (j : Option Job) (failed : Bool) (r : List ℕ) → Says result_words (finished st j failed r)
unfolding finished answered challenged
result_words_lem st None failed r = refl
result_words_lem st (Some j) failed r =
    either (Says result_words) _ refl (either (Says result_words) _
    (send-words result_words refl (λ n. or_right (eqb (left_word n) 0x6F00 || eqb (left_word n) 0x9000) _ (left_word_lem n)) _ _ _)
    (send-words result_words refl (λ n. or_right (eqb (left_word n) 0x6F00 || eqb (left_word n) 0x9000) _ (left_word_lem n)) _ _ _))

-- ---- the claim

told-failed : (st : State) (c : List ℕ) (sw : ℕ) → check st.session.contactless c ≡ Err sw → Tells check_words (command st c).told
unfolding command obeyed
told-failed st c sw e =
    subst (λ (x : Checked). Tells check_words (obeyed (calm st) st.session.challenge c x).told) (sym e) (check_fails _ c sw e)

told-passed : (st : State) (c : List ℕ) (h : Header) → well_formed st.store ≡ true → check st.session.contactless c ≡ Ok h → Tells (words h.ins) (command st c).told
unfolding command obeyed calm
told-passed st c h w e =
    subst (λ (x : Checked). Tells (words h.ins) (obeyed (calm st) st.session.challenge c x).told) (sym e) (ruled-words (calm st) st.session.challenge h (field_of c h) w)

pub status_words : Holds
status_words = record {
  failed = λ st c sw e. (check_fails _ c sw e, told-failed st c sw e);
  passed = told-passed;
  result = λ st failed r. result_words_lem st st.session.job failed r;
}
