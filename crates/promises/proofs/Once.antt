-- Once: no second outcome fits the promise of a public function (01, "Promises that leave no choice").
--
-- `F.Post κs a r s` is the promise that the source of the function F makes: of its arguments a, its result r, and what stands behind its references at
-- the end, s. Two outcomes for the same arguments are the same, by the lemma for all promises of this form (rules, Claims/NoSecond): the same result,
-- and the same bytes behind each reference that is lent to be written.
--
-- `permit` promises for every store that is well formed, or is not: that still leaves one.
-- Assumes nothing.
use mathlib.Core.Path.{◌≡◌, refl, sym, ap, ◌∙◌}
use Rattle.std.specs.Prelude.{Option, None, Some, Result, Ok, Err, IfErr}
use mathlib.Core.Bool.{Bool, true, false}
use mathlib.Core.List.{List, [], ◌∷◌}
use Prim.Native.Nat.{ℕ}
use lib.Dec.{eqb}
use lib.ListN.{get_or}
use denote.Ref.{Bor}
use Rattle.rules.specs.declared.Answer.TheVariants.{PoweredOn, Response, JobOpened, Refused}
use Rattle.rules.specs.declared.Answer.{Answer}
use Rattle.rules.specs.declared.Fault.{Fault}
use Rattle.rules.specs.declared.Fault.TheVariants.{NotEqual, WrongLength, SecureMessaging, NoChaining, NotAllowed, Blocked, NothingHeld, WrongData, NotSupported, NotFound, NoRoom, WrongParameters, NoReference, UnknownIns, UnknownCla, JobFailed}
use Rattle.rules.specs.declared.Header.{Header}
use Rattle.rules.specs.declared.Place.{Place}
use Rattle.rules.specs.declared.Rest.{Rest}
use Rattle.rules.specs.declared.Reply.{Reply}
use Rattle.rules.specs.declared.Session.{Session}
use Rattle.rules.specs.Fault.{Permit, word_of, worded}
use Rattle.rules.specs.Bytes.{iff, zeros}
use Rattle.rules.specs.Book.{book}
use Rattle.rules.specs.Store.{well_formed}
use Rattle.rules.specs.Claims.Starred.{fixed}
use Rattle.rules.specs.Session.{State, state}
use Rattle.rules.specs.Calls.{Outcome, outcome}
use Rattle.rules.specs.Claims.NoSecond.{Shows}
use Rattle.rules.proofs.NoSecond.{no_second}
use Rattle.rules.proofs.Cards.{fixed-well}
use Rattle.rules.proofs.Lists.{length-zeros}
use Rattle.apdu.specs.Shape.{Uncounted}
use Rattle.saying.specs.declared.Sent.{Sent}
use Rattle.saying.specs.Replies.{after_sent, sent_reply}
use Rattle.table.specs.declared.Slot.{Slot}
use Rattle.table.specs.declared.Slot.TheVariants.{Capability, Chuid, Certificate9A, Fingerprints, Security, Face, Certificate9E, Certificate9C, Certificate9D, Printed, KeyHistory, Discovery}
use Rattle.table.specs.Slots.{index_in}
use Rattle.rules.proofs.U16FromFault.from.Reads as rules-from
use Rattle.parts.proofs.same.Reads as parts_same
use Rattle.parts.proofs.part.Reads as parts-part
use Rattle.octets.proofs.put.Reads as octets-put
use Rattle.octets.proofs.zero.Reads as octets-zero
use Rattle.octets.proofs.put_byte.Reads as octets-put-byte
use Rattle.octets.proofs.put_word.Reads as octets-put-word
use Rattle.numbers.proofs.be16.Reads as numbers-be16
use Rattle.numbers.proofs.be24.Reads as numbers-be24
use Rattle.numbers.proofs.be64.Reads as numbers-be64
use Rattle.ber.proofs.length_bytes.Reads as ber-length-bytes
use Rattle.ber.proofs.read_object.Reads as ber-read-object
use Rattle.heads.proofs.write_head.Reads as heads-write-head
use Rattle.reader.proofs.first.Reads as reader-first
use Rattle.reader.proofs.only.Reads as reader-only
use Rattle.reader.proofs.last.Reads as reader-last
use Rattle.session.proofs.cleared.Reads as session-cleared
use Rattle.session.proofs.holding.Reads as session-holding
use Rattle.session.proofs.with_challenge.Reads as session-with-challenge
use Rattle.session.proofs.with_job.Reads as session-with-job
use Rattle.session.proofs.chain_length.Reads as session-chain-length
use Rattle.possible.proofs.possible.Reads as possible-possible
use Rattle.permit.proofs.power_on.Reads as permit-power-on
use Rattle.permit.proofs.command.Reads as permit-command
use Rattle.permit.proofs.job_result.Reads as permit-job-result
use Rattle.table.proofs.capacity.Reads as table-capacity
use Rattle.table.proofs.offset.Reads as table-offset
use Rattle.table.proofs.slot_named.Reads as table-slot-named
use Rattle.table.proofs.takes.Reads as table-takes
use Rattle.pinform.proofs.pin_form.Reads as pinform-pin-form
use Rattle.reference.proofs.left.Reads as reference-left
use Rattle.reference.proofs.equals.Reads as reference-equals
use Rattle.reference.proofs.restore.Reads as reference-restore
use Rattle.reference.proofs.renew.Reads as reference-renew
use Rattle.reference.proofs.charge.Reads as reference-charge
use Rattle.pin.proofs.command.Reads as pin-command
use Rattle.wellformed.proofs.well_formed.Reads as wellformed-well-formed
use Rattle.store.proofs.algorithm.Reads as store-algorithm
use Rattle.store.proofs.object.Reads as store-object
use Rattle.store.proofs.put_object.Reads as store-put-object
use Rattle.held.proofs.drop_held.Reads as held-drop-held
use Rattle.held.proofs.based.Reads as held-based
use Rattle.held.proofs.hold_piece.Reads as held-hold-piece
use Rattle.saying.proofs.say.Reads as saying-say
use Rattle.saying.proofs.drop_say.Reads as saying-drop-say
use Rattle.saying.proofs.end.Reads as saying-end
use Rattle.saying.proofs.drop_end.Reads as saying-drop-end
use Rattle.saying.proofs.told.Reads as saying-told
use Rattle.sending.proofs.send.Reads as sending-send
use Rattle.sending.proofs.fetch.Reads as sending-fetch
use Rattle.apdu.proofs.check.Reads as apdu-check
use Rattle.objects.proofs.get_data.Reads as objects-get-data
use Rattle.putting.proofs.put_data.Reads as putting-put-data
use Rattle.keys.proofs.authenticate.Reads as keys-authenticate
use Rattle.power.proofs.power_on.Reads as card-power-on
use Rattle.card.proofs.command.Reads as card-command
use Rattle.jobs.proofs.job_result.Reads as card-job-result

-- what is seen is the outcome itself
itself : {A : Type 0} → Shows {O = A} {S = A} (λ o. o)
itself = record { back = λ o. o; same = λ o. refl }

pub alike : {A : Type 0} {z : A} (x y : A) → x ≡ z → y ≡ z → x ≡ y
alike {A} {z} x y = no_second (Unit {0}) A A (λ o. o) itself (λ _. z) tt x y

by_state : {r q : Session} {m x y : List ℕ} {z : State} → state m x r ≡ z → state m y q ≡ z → (r ≡ q) × (x ≡ y)
by_state p q = let e = alike _ _ p q in (ap (λ (j : State). j.session) e, ap (λ (j : State). j.work) e)

pub by_outcome : {r q : Reply} {m n w v b d : List ℕ} {z : Outcome} → outcome r m w b ≡ z → outcome q n v d ≡ z → (r ≡ q) × (m ≡ n) × (w ≡ v) × (b ≡ d)
by_outcome p q =
    let e = alike _ _ p q in
    (ap (λ (o : Outcome). o.reply) e, ap (λ (o : Outcome). o.store) e, ap (λ (o : Outcome). o.work) e, ap (λ (o : Outcome). o.resp) e)

any_session : Session
any_session = record { contactless = false; pin = false; admin = false; chain = None; rest = None; challenge = None; job = None }

-- ---- rules

-- a fault's status word, as a number
once_rules-from : (κs : _) (a : _) (r q : ℕ) (s t : _) → rules-from.Post κs a r s → rules-from.Post κs a q t → r ≡ q
once_rules-from κs a r q s t = alike r q

-- ---- octets

once_parts-same : (κs : _) (a : _) (r q : Bool) (s t : _) → parts_same.Post κs a r s → parts_same.Post κs a q t → r ≡ q
once_parts-same κs a r q s t = alike r q

once_parts-part : (κs : _) (a : _) (r q : Bor (List ℕ)) (s t : _) → parts-part.Post κs a r s → parts-part.Post κs a q t → r.now ≡ q.now
once_parts-part κs a r q s t x y = alike _ _ x.0 y.0

once_octets-put : (κs : _) (a : _) (s t : _) → octets-put.Post κs a tt s → octets-put.Post κs a tt t → s.0.now ≡ t.0.now
once_octets-put κs a s t = alike _ _

once_octets-zero : (κs : _) (a : _) (s t : _) → octets-zero.Post κs a tt s → octets-zero.Post κs a tt t → s.0.now ≡ t.0.now
once_octets-zero κs a s t = alike _ _

once_octets-put_byte : (κs : _) (a : _) (s t : _) → octets-put-byte.Post κs a tt s → octets-put-byte.Post κs a tt t → s.0.now ≡ t.0.now
once_octets-put_byte κs a s t = alike _ _

once_octets-put_word : (κs : _) (a : _) (s t : _) → octets-put-word.Post κs a tt s → octets-put-word.Post κs a tt t → s.0.now ≡ t.0.now
once_octets-put_word κs a s t = alike _ _

-- ---- numbers

once_numbers-be16 : (κs : _) (a : _) (r q : ℕ) (s t : _) → numbers-be16.Post κs a r s → numbers-be16.Post κs a q t → r ≡ q
once_numbers-be16 κs a r q s t = alike r q

once_numbers-be24 : (κs : _) (a : _) (r q : ℕ) (s t : _) → numbers-be24.Post κs a r s → numbers-be24.Post κs a q t → r ≡ q
once_numbers-be24 κs a r q s t = alike r q

once_numbers-be64 : (κs : _) (a : _) (r q : ℕ) (s t : _) → numbers-be64.Post κs a r s → numbers-be64.Post κs a q t → r ≡ q
once_numbers-be64 κs a r q s t = alike r q

-- ---- ber

once_ber-length_bytes : (κs : _) (a : _) (r q : ℕ) (s t : _) → ber-length-bytes.Post κs a r s → ber-length-bytes.Post κs a q t → r ≡ q
once_ber-length_bytes κs a r q s t x y = alike r q x.0 y.0

once_ber-read_object : (κs : _) (a : _) (r q : Option Place) (s t : _) → ber-read-object.Post κs a r s → ber-read-object.Post κs a q t → r ≡ q
once_ber-read_object κs a r q s t x y = alike r q x.0 y.0

once_heads-write_head : (κs : _) (a : _) (r q : ℕ) (s t : _) → heads-write-head.Post κs a r s → heads-write-head.Post κs a q t → (r ≡ q) × (s.0.now ≡ t.0.now)
once_heads-write_head κs a r q s t x y = (alike r q x.0 y.0, alike _ _ x.1.0 y.1.0)

-- ---- reader

once_reader-first : (κs : _) (a : _) (r q : Option Place) (s t : _) → reader-first.Post κs a r s → reader-first.Post κs a q t → r ≡ q
once_reader-first κs a r q s t x y = alike r q x.0 y.0

once_reader-only : (κs : _) (a : _) (r q : Option Place) (s t : _) → reader-only.Post κs a r s → reader-only.Post κs a q t → r ≡ q
once_reader-only κs a r q s t x y = alike r q x.0 y.0

once_reader-last : (κs : _) (a : _) (r q : Option Place) (s t : _) → reader-last.Post κs a r s → reader-last.Post κs a q t → r ≡ q
once_reader-last κs a r q s t x y = alike r q x.0 y.0

-- ---- session

once_session-cleared : (κs : _) (a : _) (r q : Session) (s t : _) → session-cleared.Post κs a r s → session-cleared.Post κs a q t → r ≡ q
once_session-cleared κs a r q s t = alike r q

once_session-holding : (κs : _) (a : _) (r q : Session) (s t : _) → session-holding.Post κs a r s → session-holding.Post κs a q t → r ≡ q
once_session-holding κs a r q s t = alike r q

once_session-with_challenge : (κs : _) (a : _) (r q : Session) (s t : _) → session-with-challenge.Post κs a r s → session-with-challenge.Post κs a q t → r ≡ q
once_session-with_challenge κs a r q s t = alike r q

once_session-with_job : (κs : _) (a : _) (r q : Session) (s t : _) → session-with-job.Post κs a r s → session-with-job.Post κs a q t → r ≡ q
once_session-with_job κs a r q s t = alike r q

once_session-chain_length : (κs : _) (a : _) (r q : ℕ) (s t : _) → session-chain-length.Post κs a r s → session-chain-length.Post κs a q t → r ≡ q
once_session-chain_length κs a r q s t = alike r q

-- ---- possible

once_possible-possible : (κs : _) (a : _) (r q : Bool) (s t : _) → possible-possible.Post κs a r s → possible-possible.Post κs a q t → r ≡ q
once_possible-possible κs a r q s t = alike r q

-- ---- permit: for every store that is well formed or not, as the argument says; there is one of each

store_of : Bool → List ℕ
store_of true = fixed
store_of false = []

store_is_lem : (b : Bool) → b ≡ well_formed (store_of b)
unfolding store_of book
store_is_lem true = sym fixed-well
store_is_lem false = refl

once_permit-power_on : (κs : _) (a : _) (r q : Permit) (s t : _) → permit-power-on.Post κs a r s → permit-power-on.Post κs a q t → r ≡ q
once_permit-power_on κs a r q s t x y =
    alike r q (x.0 (store_of a.0) (zeros a.1.0) any_session false (store_is_lem a.0) (length-zeros a.1.0)) (y.0 (store_of a.0) (zeros a.1.0) any_session false (store_is_lem a.0) (length-zeros a.1.0))

once_permit-command : (κs : _) (a : _) (r q : Permit) (s t : _) → permit-command.Post κs a r s → permit-command.Post κs a q t → r ≡ q
once_permit-command κs a r q s t x y =
    let k = store_of a.0 in
    let w = zeros a.1.1.1.0 in
    let b = zeros a.1.1.0 in
    alike r q (x.0 k w b [] (store_is_lem a.0) (length-zeros a.1.1.1.0) (length-zeros a.1.1.0)) (y.0 k w b [] (store_is_lem a.0) (length-zeros a.1.1.1.0) (length-zeros a.1.1.0))

once_permit-job_result : (κs : _) (a : _) (r q : Permit) (s t : _) → permit-job-result.Post κs a r s → permit-job-result.Post κs a q t → r ≡ q
once_permit-job_result κs a r q s t x y =
    let k = store_of a.0 in
    let n = a.1.1.1.1.1.0 in
    let w = zeros a.1.1.1.0 in
    let b = zeros a.1.1.0 in
    alike r q (x.0 k w b (zeros n) (store_is_lem a.0) (length-zeros a.1.1.1.0) (length-zeros a.1.1.0) (length-zeros n))
    (y.0 k w b (zeros n) (store_is_lem a.0) (length-zeros a.1.1.1.0) (length-zeros a.1.1.0) (length-zeros n))

-- ---- table

once_table-capacity : (κs : _) (a : _) (r q : ℕ) (s t : _) → table-capacity.Post κs a r s → table-capacity.Post κs a q t → r ≡ q
once_table-capacity κs a r q s t = alike r q

once_table-offset : (κs : _) (a : _) (r q : ℕ) (s t : _) → table-offset.Post κs a r s → table-offset.Post κs a q t → r ≡ q
once_table-offset κs a r q s t = alike r q

-- the slot with a number, so that a slot is given by its number
in_order : List (Option Slot)
in_order =
    Some Capability ∷ Some Chuid ∷ Some Certificate9A ∷ Some Fingerprints ∷ Some Security ∷ Some Face
    ∷ Some Certificate9E ∷ Some Certificate9C ∷ Some Certificate9D ∷ Some Printed ∷ Some KeyHistory ∷ Some Discovery ∷ []

slot_with : ℕ → Option Slot
unfolding in_order
slot_with n = get_or in_order n None

by_number : (o : Option Slot) → slot_with (index_in o) ≡ o
unfolding slot_with in_order
by_number None = refl
by_number (Some Capability) = refl
by_number (Some Chuid) = refl
by_number (Some Certificate9A) = refl
by_number (Some Fingerprints) = refl
by_number (Some Security) = refl
by_number (Some Face) = refl
by_number (Some Certificate9E) = refl
by_number (Some Certificate9C) = refl
by_number (Some Certificate9D) = refl
by_number (Some Printed) = refl
by_number (Some KeyHistory) = refl
by_number (Some Discovery) = refl

once_table-slot_named : (κs : _) (a : _) (r q : Option Slot) (s t : _) → table-slot-named.Post κs a r s → table-slot-named.Post κs a q t → r ≡ q
once_table-slot_named κs a r q s t x y = sym (by_number r) ∙ ap slot_with (alike _ _ x y) ∙ by_number q

once_table-takes : (κs : _) (a : _) (r q : Bool) (s t : _) → table-takes.Post κs a r s → table-takes.Post κs a q t → r ≡ q
once_table-takes κs a r q s t x y = alike r q (x.0 []) (y.0 [])

-- ---- pinform

once_pinform-pin_form : (κs : _) (a : _) (r q : Bool) (s t : _) → pinform-pin-form.Post κs a r s → pinform-pin-form.Post κs a q t → r ≡ q
once_pinform-pin_form κs a r q s t = alike r q

-- ---- reference

once_reference-left : (κs : _) (a : _) (r q : ℕ) (s t : _) → reference-left.Post κs a r s → reference-left.Post κs a q t → r ≡ q
once_reference-left κs a r q s t = alike r q

once_reference-equals : (κs : _) (a : _) (r q : Bool) (s t : _) → reference-equals.Post κs a r s → reference-equals.Post κs a q t → r ≡ q
once_reference-equals κs a r q s t = alike r q

once_reference-restore : (κs : _) (a : _) (s t : _) → reference-restore.Post κs a tt s → reference-restore.Post κs a tt t → s.0.now ≡ t.0.now
once_reference-restore κs a s t = alike _ _

once_reference-renew : (κs : _) (a : _) (s t : _) → reference-renew.Post κs a tt s → reference-renew.Post κs a tt t → s.0.now ≡ t.0.now
once_reference-renew κs a s t = alike _ _

once_reference-charge : (κs : _) (a : _) (r q : ℕ) (s t : _) → reference-charge.Post κs a r s → reference-charge.Post κs a q t → (r ≡ q) × (s.0.now ≡ t.0.now)
once_reference-charge κs a r q s t x y = (alike r q x.1 y.1, alike _ _ x.0 y.0)

-- ---- pin

once_pin-command : (κs : _) (a : _) (r q : Reply) (s t : _) → pin-command.Post κs a r s → pin-command.Post κs a q t → (r ≡ q) × (s.1.0.now ≡ t.1.0.now) × (s.1.1.0.now ≡ t.1.1.0.now) × (s.1.1.1.0.now ≡ t.1.1.1.0.now)
once_pin-command κs a r q s t x y = let e = by_outcome x y in (e.0, e.1, e.2, e.3)

-- ---- wellformed

once_wellformed-well_formed : (κs : _) (a : _) (r q : Bool) (s t : _) → wellformed-well-formed.Post κs a r s → wellformed-well-formed.Post κs a q t → r ≡ q
once_wellformed-well_formed κs a r q s t = alike r q

-- ---- store

once_store-algorithm : (κs : _) (a : _) (r q : ℕ) (s t : _) → store-algorithm.Post κs a r s → store-algorithm.Post κs a q t → r ≡ q
once_store-algorithm κs a r q s t = alike r q

once_store-object : (κs : _) (a : _) (r q : Bor (List ℕ)) (s t : _) → store-object.Post κs a r s → store-object.Post κs a q t → r.now ≡ q.now
once_store-object κs a r q s t x y = alike _ _ x.0 y.0

once_store-put_object : (κs : _) (a : _) (s t : _) → store-put-object.Post κs a tt s → store-put-object.Post κs a tt t → s.0.now ≡ t.0.now
once_store-put_object κs a s t = alike _ _

-- ---- held

once_held-drop_held : (κs : _) (a : _) (r q : Session) (s t : _) → held-drop-held.Post κs a r s → held-drop-held.Post κs a q t → (r ≡ q) × (s.1.0.now ≡ t.1.0.now)
once_held-drop_held κs a r q s t x y = by_state (x.0 []) (y.0 [])

once_held-based : (κs : _) (a : _) (r q : Session) (s t : _) → held-based.Post κs a r s → held-based.Post κs a q t → (r ≡ q) × (s.1.0.now ≡ t.1.0.now)
once_held-based κs a r q s t x y = by_state (x.0 []) (y.0 [])

once_held-hold_piece : (κs : _) (a : _) (r q : Session) (s t : _) → held-hold-piece.Post κs a r s → held-hold-piece.Post κs a q t → (r ≡ q) × (s.1.0.now ≡ t.1.0.now)
once_held-hold_piece κs a r q s t x y = by_state (x []) (y [])

-- ---- saying

once_saying-say : (κs : _) (a : _) (r q : Reply) (s t : _) → saying-say.Post κs a r s → saying-say.Post κs a q t → (r ≡ q) × (s.1.0.now ≡ t.1.0.now)
once_saying-say κs a r q s t x y = let e = by_outcome (x [] []) (y [] []) in (e.0, e.3)

once_saying-drop_say : (κs : _) (a : _) (r q : Reply) (s t : _) → saying-drop-say.Post κs a r s → saying-drop-say.Post κs a q t → (r ≡ q) × (s.1.0.now ≡ t.1.0.now) × (s.1.1.0.now ≡ t.1.1.0.now)
once_saying-drop_say κs a r q s t x y = let e = by_outcome (x []) (y []) in (e.0, e.2, e.3)

once_saying-end : (κs : _) (a : _) (r q : Reply) (s t : _) → saying-end.Post κs a r s → saying-end.Post κs a q t → (r ≡ q) × (s.1.0.now ≡ t.1.0.now)
once_saying-end κs a r q s t x y = let e = by_outcome (x [] []) (y [] []) in (e.0, e.3)

once_saying-drop_end : (κs : _) (a : _) (r q : Reply) (s t : _) → saying-drop-end.Post κs a r s → saying-drop-end.Post κs a q t → (r ≡ q) × (s.1.0.now ≡ t.1.0.now) × (s.1.1.0.now ≡ t.1.1.0.now)
once_saying-drop_end κs a r q s t x y = let e = by_outcome (x []) (y []) in (e.0, e.2, e.3)

once_saying-told : (κs : _) (a : _) (r q : Reply) (s t : _) → saying-told.Post κs a r s → saying-told.Post κs a q t → r ≡ q
once_saying-told κs a r q s t = alike r q

-- ---- sending

-- what went out shows in what the host is told of it
length_told : Answer → ℕ
length_told PoweredOn = 0
length_told (Response n) = n
length_told (JobOpened key alg n) = n
length_told (Refused r) = 0

rest_told : (r : Option Rest) → (after_sent any_session r).rest ≡ r
unfolding any_session
rest_told None = refl
rest_told (Some r) = refl

same_sent : (x y : Sent) → sent_reply any_session x ≡ sent_reply any_session y → x ≡ y
unfolding length_told
same_sent x y e =
    let n : x.len ≡ y.len = ap (λ (r : Reply). length_told r.answer) e in
    let rest : x.rest ≡ y.rest = sym (rest_told x.rest) ∙ ap (λ (r : Reply). r.session.rest) e ∙ rest_told y.rest in
    λ i. record { len = n i; rest = rest i }

once_sending-send : (κs : _) (a : _) (r q : Sent) (s t : _) → sending-send.Post κs a r s → sending-send.Post κs a q t → (r ≡ q) × (s.0.now ≡ t.0.now) × (s.1.0.now ≡ t.1.0.now)
once_sending-send κs a r q s t x y = let e = by_outcome (x any_session []) (y any_session []) in (same_sent r q e.0, e.2, e.3)

once_sending-fetch : (κs : _) (a : _) (r q : Reply) (s t : _) → sending-fetch.Post κs a r s → sending-fetch.Post κs a q t → (r ≡ q) × (s.1.0.now ≡ t.1.0.now) × (s.1.1.0.now ≡ t.1.1.0.now)
once_sending-fetch κs a r q s t x y = let e = by_outcome (x []) (y []) in (e.0, e.2, e.3)

-- ---- apdu

-- the fault with a status word, of those that count no tries
fault_with : ℕ → Fault
unfolding iff
fault_with w =
    iff (eqb w 0x6700) WrongLength (iff (eqb w 0x6882) SecureMessaging (iff (eqb w 0x6884) NoChaining (iff (eqb w 0x6982) NotAllowed
    (iff (eqb w 0x6983) Blocked (iff (eqb w 0x6985) NothingHeld (iff (eqb w 0x6A80) WrongData (iff (eqb w 0x6A81) NotSupported
    (iff (eqb w 0x6A82) NotFound (iff (eqb w 0x6A84) NoRoom (iff (eqb w 0x6A86) WrongParameters (iff (eqb w 0x6A88) NoReference
    (iff (eqb w 0x6D00) UnknownIns (iff (eqb w 0x6E00) UnknownCla JobFailed)))))))))))))

by_word : (f : Fault) → Uncounted f → fault_with (word_of f) ≡ f
unfolding fault_with
by_word (NotEqual left) u = absurd u
by_word WrongLength u = refl
by_word SecureMessaging u = refl
by_word NoChaining u = refl
by_word NotAllowed u = refl
by_word Blocked u = refl
by_word NothingHeld u = refl
by_word WrongData u = refl
by_word NotSupported u = refl
by_word NotFound u = refl
by_word NoRoom u = refl
by_word WrongParameters u = refl
by_word NoReference u = refl
by_word UnknownIns u = refl
by_word UnknownCla u = refl
by_word JobFailed u = refl

fault_told : Result Header ℕ → Result Header Fault
fault_told (Ok h) = Ok h
fault_told (Err w) = Err (fault_with w)

by_fault : (r : Result Header Fault) → IfErr r Uncounted → fault_told (worded r) ≡ r
unfolding fault_told
by_fault (Ok h) u = refl
by_fault (Err f) u = ap Err (by_word f u)

once_apdu-check : (κs : _) (a : _) (r q : Result Header Fault) (s t : _) → apdu-check.Post κs a r s → apdu-check.Post κs a q t → r ≡ q
once_apdu-check κs a r q s t x y = sym (by_fault r x.1.1) ∙ ap fault_told (alike _ _ x.0 y.0) ∙ by_fault q y.1.1

-- ---- objects

once_objects-get_data : (κs : _) (a : _) (r q : Reply) (s t : _) → objects-get-data.Post κs a r s → objects-get-data.Post κs a q t → (r ≡ q) × (s.1.1.0.now ≡ t.1.1.0.now) × (s.1.1.1.0.now ≡ t.1.1.1.0.now)
once_objects-get_data κs a r q s t x y = let e = by_outcome x y in (e.0, e.2, e.3)

-- ---- putting

once_putting-put_data : (κs : _) (a : _) (r q : Reply) (s t : _) → putting-put-data.Post κs a r s → putting-put-data.Post κs a q t → (r ≡ q) × (s.1.0.now ≡ t.1.0.now) × (s.1.1.0.now ≡ t.1.1.0.now) × (s.1.1.1.0.now ≡ t.1.1.1.0.now)
once_putting-put_data κs a r q s t x y = let e = by_outcome x y in (e.0, e.1, e.2, e.3)

-- ---- keys

once_keys-authenticate : (κs : _) (a : _) (r q : Reply) (s t : _) → keys-authenticate.Post κs a r s → keys-authenticate.Post κs a q t → (r ≡ q) × (s.1.1.1.0.now ≡ t.1.1.1.0.now) × (s.1.1.1.1.0.now ≡ t.1.1.1.1.0.now)
once_keys-authenticate κs a r q s t x y = let e = by_outcome x y in (e.0, e.2, e.3)

-- ---- card

once_card-power_on : (κs : _) (a : _) (r q : Reply) (s t : _) → card-power-on.Post κs a r s → card-power-on.Post κs a q t → (r ≡ q) × (s.1.0.now ≡ t.1.0.now)
once_card-power_on κs a r q s t x y = let e = by_outcome (x any_session) (y any_session) in (e.0, e.2)

once_card-command : (κs : _) (a : _) (r q : Reply) (s t : _) → card-command.Post κs a r s → card-command.Post κs a q t → (r ≡ q) × (s.1.0.now ≡ t.1.0.now) × (s.1.1.0.now ≡ t.1.1.0.now) × (s.1.1.1.0.now ≡ t.1.1.1.0.now)
once_card-command κs a r q s t x y = let e = by_outcome x y in (e.0, e.1, e.2, e.3)

once_card-job_result : (κs : _) (a : _) (r q : Reply) (s t : _) → card-job-result.Post κs a r s → card-job-result.Post κs a q t → (r ≡ q) × (s.1.1.0.now ≡ t.1.1.0.now) × (s.1.1.1.0.now ≡ t.1.1.1.0.now)
once_card-job_result κs a r q s t x y = let e = by_outcome x y in (e.0, e.2, e.3)
