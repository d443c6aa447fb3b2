-- The premises of the claims over runs can be met (specs/Claims/Instances): each claim applied to a run, its premises computed.
-- Assumes nothing.
use Rattle.std.specs.Prelude.{None, Some, Ok, Err}
use mathlib.Core.Path.{◌≡◌, refl, ap, sym, ◌∙◌, subst}
use mathlib.Core.Bool.{Bool, true, false, not, ◌||◌, true≢false}
use mathlib.Core.List.{List, [], ◌∷◌, ◌++◌}
use Prim.Native.Nat.{ℕ, ◌+◌, ◌-◌, ◌≤◌, ◌<◌}
use native.Mathlib.Omega.{arith}
use lib.Dec.{ltb, eqb}
use lib.ListN.{length, get_or, replicate, length-replicate}
use borrow.Author.Tests.{eqb-true, le-leb, lt-ltb}
use Rattle.rules.specs.declared.Header.{Header}
use Rattle.rules.specs.Fault.{Permit}
use Rattle.rules.specs.declared.Refusal.TheVariants.{ShortResponse, WrongWork}
use Rattle.rules.specs.Bytes.{iff, all, all_below, splice, zeros}
use Rattle.rules.specs.Book.{book}
use Rattle.rules.specs.Ber.{tlv}
use Rattle.rules.specs.Objects.{object_tag}
use Rattle.rules.specs.Store.{store_size, work_size, capacity, offset, slot_bytes, put_object, well_formed}
use Rattle.rules.specs.Session.{State, state, cleared, holding, with_admin, with_challenge, with_job, job_open, readable, job_of}
use Rattle.rules.specs.Command.{field_of, check, Wrote, nothing, in_slot}
use Rattle.rules.specs.Keys.{result_fits, finished}
use Rattle.rules.specs.Calls.{command, Call, powers, sends, ill_session, short_response, interrupts, unasked, wrong_result, permit, Result, delivered, powered_on, granted, kept_session, denied, decided, call}
use Rattle.rules.specs.Runs.{leaves, run, end_of}
use Rattle.rules.specs.Claims.Starred.{hex, store_of, fixed_card, fixed, tell, done, wrong, right, printed, asks, makes, reply, first, last}
use Rattle.rules.specs.Claims.Words.{check_words, words, Tells}
use Rattle.rules.specs.Claims.Invariants.{Plain, Sane}
use Rattle.rules.specs.Claims.Working.{ledger}
use Rattle.rules.specs.Claims.ReadBack.{tag_bytes_of, tag_list, put_field, word_of, Puts, Pieces, next, refused, Untouched, Ends, Answers, reading, joined, last_word}
use Rattle.rules.specs.Claims.ReadBack.{last as end}
use Rattle.rules.specs.Claims.Secrecy.{no_equal, within, in_pin_read, pin_read, secret, Alike, NoneEqual, AllSame}
use Rattle.rules.specs.Claims.Instances.{before, other_pins, other, guesses, login, issuing, pieces, stored, two, rest, Holds, opening}
use Rattle.rules.proofs.Tests.{off, and_both, or_left, or_right, or-other, at_each, by_order}
use Rattle.rules.proofs.Tests.{on as on-true}
use Rattle.rules.proofs.Lists.{length-splice, splice-before, splice-after}
use Rattle.rules.proofs.Slots.{slot_bytes-length}
use Rattle.rules.proofs.WellFormed.{wf_size}
use Rattle.rules.proofs.StaysWell.{wf_put}
use Rattle.rules.proofs.Reading.{all-bytes, call-sends}
use Rattle.rules.proofs.Refusals.{refusals}
use Rattle.rules.proofs.Words.{status_words}
use Rattle.rules.proofs.Permits.{lets_granted, power_granted}
use Rattle.rules.proofs.Kept.{Well}
use Rattle.rules.proofs.Cards.{fair, bare_blank, card_well, fixed_fair, fixed-well, power_is}
use Rattle.rules.proofs.Invariants.{powered-well, call_kept, invariants}
use Rattle.rules.proofs.Working.{working}
use Rattle.rules.proofs.Secrecy.{secrecy}
use Rattle.rules.proofs.ReadBack.{back_again}

-- ---- stores that differ where it is secret

alike_secret : (s v : List ℕ) (at : ℕ) → at + length v ≤ length s → ((k : ℕ) → k < length v → secret s (at + k) ≡ true) → Alike s (splice s at v)
alike_secret s v at h sec = record {
  size = sym (length-splice s v at h);
  same = λ j o. sym (by_order j at (λ l. splice-before s v at h j l)
      (λ l. by_order j (at + length v)
      (λ m. let e : at + (j - at) ≡ j = omega arith in absurd (true≢false (sym (sec (j - at) (omega arith)) ∙ ap (secret s) e ∙ o)))
      (λ m. splice-after s v at h j m)));
}

alike_on : (s t u : List ℕ) → Alike s t → Alike t u → Alike s u
unfolding secret
alike_on s t u a b = record { size = a.size ∙ b.size; same = λ j o. a.same j o ∙ b.same j o }

-- two stores whose first 32 bytes are alike, and whose others are zero
hidden : List ℕ → List ℕ → ℕ → Bool
hidden s t j = secret s j || eqb (get_or s j 0) (get_or t j 0)

alike_heads : (s t : List ℕ) → length s ≡ length t → all_below (hidden s t) 32 ≡ true
    → ((j : ℕ) → 32 ≤ j → get_or s j 0 ≡ 0) → ((j : ℕ) → 32 ≤ j → get_or t j 0 ≡ 0) → Alike s t
unfolding hidden
alike_heads s t l e a b = record {
  size = l;
  same = λ j o. by_order j 32 (λ h. eqb-true _ _ (or-other (secret s j) _ (at_each (hidden s t) 32 e j h) o)) (λ h. a j h ∙ sym (b j h));
}

-- the printed information, slot 9
printed-secret : (s : List ℕ) (k : ℕ) → k < 514 → secret s (32306 + k) ≡ true
unfolding secret in_pin_read pin_read offset capacity
printed-secret s k h =
    let w : within 32306 514 (32306 + k) ≡ true = and_both _ _ (le-leb 32306 (32306 + k) (omega arith)) (lt-ltb (32306 + k) (32306 + 514) (omega arith)) in
    or_right (within 10 8 (32306 + k) || within 20 8 (32306 + k)) _ (or_right (in_pin_read (32306 + k) 11) _ (or_right (in_pin_read (32306 + k) 10) _ (or_left (in_pin_read (32306 + k) 9) _ w)))

pins_fair : fair other_pins ≡ true
unfolding book fair
pins_fair = refl

pins_well : well_formed (store_of other_pins) ≡ true
pins_well = card_well other_pins refl pins_fair

heads_alike : all_below (hidden (store_of fixed_card) (store_of other_pins)) 32 ≡ true
unfolding hidden secret in_pin_read pin_read offset capacity iff
heads_alike = refl

alike_other : Alike fixed other
unfolding fixed other put_object offset
alike_other =
    let a : List ℕ = store_of fixed_card in
    let b : List ℕ = store_of other_pins in
    let lb : length b ≡ store_size = wf_size b pins_well in
    let v : List ℕ = slot_bytes 9 (hex 2 0x0809) in
    alike_on a b _
    (alike_heads a b (wf_size a fixed-well ∙ sym lb) heads_alike (bare_blank fixed_card refl fixed_fair) (bare_blank other_pins refl pins_fair))
    (alike_secret b v 32306 (omega (arith, lb, slot-size)) (λ k h. printed-secret b k (omega (arith, slot-size))))
  where
    slot-size : length (slot_bytes 9 (hex 2 0x0809)) ≡ 514
    slot-size = slot_bytes-length 9 (hex 2 0x0809) (unfold capacity in omega arith) ∙ unfold capacity in refl

-- ---- bytes

tell-plain : (n x : ℕ) → all (λ b. ltb b 256) (hex n x) ≡ true → Plain (tell n x)
tell-plain n x e = all-bytes (hex n x) e

-- ---- one call after the other

other-ok : well_formed other ≡ true
unfolding other
other-ok = wf_put (store_of other_pins) 9 (hex 2 0x0809) (omega arith) (unfold capacity in omega arith) pins_well

-- a call that leads from one state to another
record Leads (st : State) (k : Call) (t : State) : Type 0 where
  to : leaves (call st k) ≡ t
  well : Well t

module _ (st : State) (g : Well st) (n x : ℕ) (t : State) (b : all (λ c. ltb c 256) (hex n x) ≡ true) where
  tell_is : job_open st.session ≡ false → call st (tell n x) ≡ delivered (replicate 258 0xBB) (command st (hex n x))
  tell_is j = call-sends st (replicate 258 0xBB) (hex n x) g j (omega arith)

  tell_leads : job_open st.session ≡ false → (command st (hex n x)).after ≡ t → Leads st (tell n x) t
  unfolding leaves delivered
  tell_leads j e =
      let q : leaves (call st (tell n x)) ≡ t = ap leaves (tell_is j) ∙ e in
      record { to = q; well = subst Well q (call_kept st g (tell n x) (tell-plain n x b)).well }

done_is : (st : State) → Well st → (n x : ℕ) → job_open st.session ≡ true → result_fits st.session.job (hex n x) ≡ true
    → call st (done n x) ≡ delivered (replicate 258 0xBB) (finished st st.session.job false (hex n x))
unfolding call decided granted ill_session short_response interrupts unasked wrong_result
done_is st g n x j r =
    ap (decided st (done n x))
    (lets_granted st (done n x) (record { store = g.wf; session = ap not g.session; response = refl; work = g.size; free = refl; asked = ap not j; result = ap not r }))

done_leads : (st : State) → Well st → (n x : ℕ) (t : State) → job_open st.session ≡ true → result_fits st.session.job (hex n x) ≡ true
    → (finished st st.session.job false (hex n x)).after ≡ t → Leads st (done n x) t
unfolding leaves delivered
done_leads st g n x t j r e =
    let q : leaves (call st (done n x)) ≡ t = ap leaves (done_is st g n x j r) ∙ e in
    record { to = q; well = subst Well q (call_kept st g (done n x) tt).well }

-- the card as the power-on leaves it
unfoldable on : List ℕ → State
on s = state s (zeros work_size) (cleared false)

module _ (s : List ℕ) (w : well_formed s ≡ true) where
  granted_on : permit (before s) (powers false) ≡ Ok tt
  unfolding before
  granted_on = power_granted (state s (replicate work_size 0xAA) (cleared true)) false w (length-replicate {A = ℕ} work_size 0xAA)

  on_is : call (before s) (powers false) ≡ powered_on (before s) false
  unfolding before
  on_is = power_is s (replicate work_size 0xAA) (cleared true) false w (length-replicate {A = ℕ} work_size 0xAA)

  power_leads : Leads (before s) (powers false) (on s)
  unfolding leaves powered_on on before
  power_leads = record { to = ap leaves on_is; well = (powered-well (before s) false w).well }

  -- the finder's two tries
  told : (command (on s) (hex 11 0x00CB3FFF055C035FC10900)).after ≡ on s
  unfolding book on
  told = refl

  looks : Leads (on s) printed (on s)
  unfolding on
  looks = tell_leads (on s) power_leads.well 11 0x00CB3FFF055C035FC10900 (on s) refl refl told

  quiet_look : no_equal (command (on s) (hex 11 0x00CB3FFF055C035FC10900)).steps ≡ true
  unfolding book on
  quiet_look = refl

  quiet : no_equal (command (on s) (hex 13 0x0020008008_313233343537FFFF)).steps ≡ true → NoneEqual (run (before s) (powers false ∷ guesses))
  unfolding run powered_on delivered on
  quiet e =
      let p : no_equal (call (before s) (powers false)).steps ≡ true = ap (λ (r : Result). no_equal r.steps) on_is in
      let q : no_equal (call (on s) printed).steps ≡ true =
      ap (λ (r : Result). no_equal r.steps) (tell_is (on s) power_leads.well 11 0x00CB3FFF055C035FC10900 (on s) refl refl) ∙ quiet_look in
      let r : no_equal (call (on s) wrong).steps ≡ true =
      ap (λ (r : Result). no_equal r.steps) (tell_is (on s) power_leads.well 13 0x0020008008_313233343537FFFF (on s) refl refl) ∙ e in
      (p, subst (λ (x : State). NoneEqual (run x guesses)) (sym power_leads.to) (q, subst (λ (x : State). NoneEqual (run x (wrong ∷ []))) (sym looks.to) (r, tt)))

-- ---- secrecy and the invariants

fixed_quiet : NoneEqual (run (before fixed) (powers false ∷ guesses))
unfolding book fixed on
fixed_quiet = quiet fixed fixed-well refl

other_quiet : NoneEqual (run (before other) (powers false ∷ guesses))
unfolding book fixed other on
other_quiet = quiet other other-ok refl

found_card : AllSame (run (before fixed) (powers false ∷ guesses)) (run (before other) (powers false ∷ guesses))
unfolding before
found_card =
    secrecy fixed other (replicate work_size 0xAA) (cleared true) false (granted_on fixed fixed-well) (granted_on other other-ok) alike_other guesses fixed_quiet other_quiet

sane_card : Sane (end_of (before fixed) (powers false ∷ wrong ∷ right ∷ printed ∷ []))
unfolding before
sane_card =
    invariants.always fixed (replicate work_size 0xAA) (cleared true) false (granted_on fixed fixed-well) (wrong ∷ right ∷ printed ∷ [])
    (tell-plain 13 0x0020008008_313233343537FFFF refl, (tell-plain 13 0x0020008008_313233343536FFFF refl, (tell-plain 11 0x00CB3FFF055C035FC10900 refl, tt)))

working_card : (end_of (before fixed) (powers false ∷ opening)).work
    ≡ ledger (before fixed) [] (powers false ∷ opening) ++ zeros (work_size - length (ledger (before fixed) [] (powers false ∷ opening)))
unfolding before
working_card =
    working.work fixed (replicate work_size 0xAA) (cleared true) false (granted_on fixed fixed-well) opening
    (tell-plain 10 0x0087009B04_7C028100_00 refl, (tt, (tell-plain 17 0x0087009B0C_7C0A82081112131415161718 refl, (tell-plain 11 0x10DB3FFF06_5C035FC10753 refl, tt))))
    (ledger (state fixed (replicate work_size 0xAA) (cleared true)) [] (powers false ∷ opening)) refl

-- ---- the administrator's login

asked : State
asked = state fixed (zeros work_size) (with_job (cleared false) (Some (job_of 0x9B 0x00 256)))

challenged : State
challenged = state fixed (zeros work_size) (with_challenge (cleared false) (Some 0x1112131415161718))

asks_leads : Leads (on fixed) asks asked
asks_leads = tell_leads (on fixed) (power_leads fixed fixed-well).well 10 0x0087009B04_7C028100_00 asked refl (unfold on in refl) (unfold book on asked in refl)

makes_leads : Leads asked makes challenged
makes_leads = done_leads asked asks_leads.well 16 0x0102030405060708_1112131415161718 challenged (unfold asked in refl) (unfold book asked in refl) (unfold book asked challenged in refl)

reply_leads : Leads challenged reply issuing
reply_leads =
    tell_leads challenged makes_leads.well 17 0x0087009B0C_7C0A82081112131415161718 issuing refl (unfold challenged in refl) (unfold book challenged issuing in refl)

issued_is : issuing ≡ end_of (before fixed) (powers false ∷ login)
unfolding end_of
issued_is =
    sym (ap (λ (x : State). end_of x login) (power_leads fixed fixed-well).to ∙ ap (λ (x : State). end_of x (makes ∷ reply ∷ [])) asks_leads.to
    ∙ ap (λ (x : State). end_of x (reply ∷ [])) makes_leads.to ∙ reply_leads.to)

-- ---- a PUT DATA in two pieces

abbrev head_of : ℕ → ℕ → Header
head_of cla lc = record { cla = cla; ins = 0xDB; p1 = 0x3F; p2 = 0xFF; lc = lc; le = 256 }

tell-granted : (st : State) → Well st → job_open st.session ≡ false → (n x : ℕ) → permit st (tell n x) ≡ Ok tt
unfolding ill_session short_response interrupts unasked wrong_result
tell-granted st g j n x = lets_granted st (tell n x) (record { store = g.wf; session = ap not g.session; response = refl; work = g.size; free = j; asked = refl; result = refl })

-- the first piece is held
amid : State
amid = state fixed (splice (zeros work_size) 0 (hex 6 0x5C035FC10753)) (holding (with_admin (cleared false) true) (Some (record { ins = 0xDB; p1 = 0x3F; p2 = 0xFF; len = 6 })) None)

first_leads : Leads issuing first amid
first_leads = tell_leads issuing reply_leads.well 11 0x10DB3FFF06_5C035FC10753 amid refl (unfold issuing in refl) (unfold book issuing amid in refl)

-- the last piece
after : State
after = state (put_object fixed 0 (hex 2 0x0809)) (zeros work_size) (with_admin (cleared false) true)

last_leads : Leads amid last after
last_leads = tell_leads amid first_leads.well 8 0x00DB3FFF03_020809 after refl (unfold amid in refl) (unfold book amid after in refl)

-- a piece that is granted, passes and is answered 9000
puts : (cla lc n x : ℕ) (st : State) (d : List ℕ) → Well st → job_open st.session ≡ false
    → check st.session.contactless (hex n x) ≡ Ok (head_of cla lc) → field_of (hex n x) (head_of cla lc) ≡ d
    → word_of (delivered (replicate 258 0xBB) (command st (hex n x))) ≡ 0x9000 → Puts cla st (tell n x) d
puts cla lc n x st d g j c f w = record {
  resp = replicate 258 0xBB;
  bytes = hex n x;
  head = head_of cla lc;
  sent = refl;
  taken = tell-granted st g j n x;
  passed = c;
  class = refl;
  ins = refl;
  p1 = refl;
  p2 = refl;
  field = f;
  well = ap word_of (call-sends st (replicate 258 0xBB) (hex n x) g j (omega arith)) ∙ w;
}

first_puts : Puts 0x10 issuing first (hex 6 0x5C035FC10753)
unfolding book issuing word_of
first_puts = puts 0x10 6 11 0x10DB3FFF06_5C035FC10753 issuing (hex 6 0x5C035FC10753) reply_leads.well refl refl refl refl

last_puts : Puts 0x00 amid last (hex 3 0x020809)
unfolding book amid word_of
last_puts = puts 0x00 3 8 0x00DB3FFF03_020809 amid (hex 3 0x020809) first_leads.well refl refl refl refl

-- between them a call that is lent no response buffer
short_refused : permit amid (sends [] []) ≡ Err ShortResponse
unfolding permit ill_session short_response
short_refused =
    off _ _ _ (ap not first_leads.well.wf) ∙ off _ _ _ (ap not first_leads.well.session) ∙ on-true _ _ _ refl

still_amid : leaves (call amid (sends [] [])) ≡ amid
unfolding call decided denied leaves kept_session
still_amid = ap (λ (p : Permit). leaves (decided amid (sends [] []) p)) short_refused

field_is : hex 6 0x5C035FC10753 ++ hex 3 0x020809 ≡ put_field 0 (hex 2 0x0809)
unfolding book put_field tag_list tag_bytes_of
field_is = refl

all-pieces : Pieces issuing pieces (put_field 0 (hex 2 0x0809))
all-pieces =
    subst (Pieces issuing pieces) field_is
    (next issuing first (sends [] [] ∷ last ∷ []) (hex 6 0x5C035FC10753) (hex 3 0x020809) first_puts
    (subst (λ (x : State). Pieces x (sends [] [] ∷ last ∷ []) (hex 3 0x020809)) (sym first_leads.to)
    (refused amid (sends [] []) (last ∷ []) (hex 3 0x020809) ShortResponse short_refused
    (subst (λ (x : State). Pieces x (last ∷ []) (hex 3 0x020809)) (sym still_amid) (end amid last (hex 3 0x020809) last_puts)))))

pieces_end : end_of issuing pieces ≡ after
unfolding end_of
pieces_end = ap (λ (x : State). end_of x (sends [] [] ∷ last ∷ [])) first_leads.to ∙ ap (λ (x : State). end_of x (last ∷ [])) still_amid ∙ last_leads.to

-- a further power-on
powered : call after (powers false) ≡ powered_on after false
unfolding call decided granted
powered = ap (decided after (powers false)) (power_granted after false last_leads.well.wf last_leads.well.size)

kept_is : stored ≡ end_of (end_of issuing pieces) (powers false ∷ [])
unfolding end_of stored after powered_on leaves
kept_is = sym (ap (λ (x : State). leaves (call x (powers false))) pieces_end ∙ ap leaves powered)

abbrev Wrote? : Wrote → Type 0
Wrote? nothing = Unit {0}
Wrote? (in_slot i v) = ⊥

untouched : Untouched 0 (end_of issuing pieces) (powers false ∷ [])
unfolding powered_on
untouched =
    subst (λ (x : State). Untouched 0 x (powers false ∷ [])) (sym pieces_end)
    (λ v e. subst Wrote? (sym (ap (λ (r : Result). r.wrote) powered) ∙ e) tt, tt)

object_answers : Answers stored 0 (hex 2 0x0809)
unfolding before issuing stored
object_answers =
    back_again.back fixed (replicate work_size 0xAA) (cleared true) false (granted_on fixed fixed-well) login pieces (powers false ∷ [])
    (tell-plain 10 0x0087009B04_7C028100_00 refl, (tt, (tell-plain 17 0x0087009B0C_7C0A82081112131415161718 refl, tt)))
    (tell-plain 11 0x10DB3FFF06_5C035FC10753 refl, (all-bytes [] refl, (tell-plain 8 0x00DB3FFF03_020809 refl, tt)))
    (tt, tt)
    0 (hex 2 0x0809) (omega arith) issuing issued_is refl all-pieces untouched stored kept_is refl

readable_now : readable stored.session 0 ≡ true
unfolding book stored
readable_now = refl

-- Le 02 leaves two of four bytes, and no Le asks for 256
ends : Ends (length (tlv (object_tag 0) (hex 2 0x0809))) two (rest ∷ [])
unfolding book
ends = (omega arith, omega arith)

tlv_is : tlv (object_tag 0) (hex 2 0x0809) ≡ hex 4 0x53020809
unfolding book
tlv_is = refl

stored-object : (joined (run stored (reading 0 two (rest ∷ []))) ≡ hex 4 0x53020809) × (last_word (run stored (reading 0 two (rest ∷ []))) ≡ 0x9000)
stored-object =
    let r = object_answers.full (omega arith) readable_now two (rest ∷ []) (record { room = omega arith; le = omega arith }) (record { room = omega arith; le = tt }, tt) ends in
    (r.0 ∙ tlv_is, r.1)

wrong-work : permit (state fixed (zeros 5) (cleared false)) (powers true) ≡ Err WrongWork
unfolding permit ill_session short_response zeros
wrong-work = off _ _ _ (ap not fixed-well) ∙ off _ _ _ refl ∙ off _ _ _ refl ∙ on-true _ _ _ refl

-- a command of three bytes, and a VERIFY

short_command : check true (hex 3 0x00A404) ≡ Err 0x6700
unfolding book
short_command = refl

verify-head : Header
verify-head = record { cla = 0x00; ins = 0x20; p1 = 0x00; p2 = 0x80; lc = 8; le = 256 }

a_verify : check false (hex 13 0x0020008008_313233343537FFFF) ≡ Ok verify-head
unfolding book verify-head
a_verify = refl

told-words : Tells (words 0x20) (command (state fixed (zeros work_size) (cleared false)) (hex 13 0x0020008008_313233343537FFFF)).told
unfolding verify-head
told-words = status_words.passed (state fixed (zeros work_size) (cleared false)) (hex 13 0x0020008008_313233343537FFFF) verify-head fixed-well a_verify

told-failed : Tells check_words (command (before fixed) (hex 3 0x00A404)).told
unfolding before
told-failed = (status_words.failed (before fixed) (hex 3 0x00A404) 0x6700 short_command).1

pub instances : Holds
instances = record {
  failed = told-failed;
  passed = told-words;
  refusals = refusals (state fixed (zeros 5) (cleared false)) (powers true) WrongWork wrong-work;
  invariants = sane_card;
  working = working_card;
  issued = issued_is;
  kept = kept_is;
  read_back = stored-object;
  secrecy = found_card;
}
