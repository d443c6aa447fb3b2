-- Pin: the commands on a reference (01, "VERIFY", "CHANGE REFERENCE DATA", "RESET RETRY COUNTER").
--
--   Refs                  the PIN, the PUK and the PIN status
--   the r w               one of the two references
--   stepped r s · made r ss    the references after a step, and after a row of steps
--   Said                  what a rule on references says: a status word, the steps made and the PIN status after
--   after r x             the references after what was said
--   answer sw r           a status word, with nothing changed
--   missed r w b          reference w was compared and found unequal; the PIN status is then b
--   verify r h d          VERIFY
--   change r h d          CHANGE REFERENCE DATA
--   reset r h d           RESET RETRY COUNTER
--   refs_in s b           the references that a store holds, with the PIN status b
--   refs_onto s r         the store with these references
--   Judgement, judged_on s b x   what is seen of a rule that says x of the references in s: word and status, and the store after it
--   refs st               the references of a state
--   put_refs st r         the state with these references: the only writer of the two records and of the PIN status
--   on_refs st x          a command that says x of the references of st
--
-- The rules speak of references, and neither of a session nor of a store. Assumes nothing.
use Rattle.std.specs.Prelude.{Bool, true, false, not, ◌&&◌, ◌||◌, List, [], ◌∷◌, ℕ, ◌+◌, eqb, length, take, drop}
use Rattle.rules.specs.declared.Header.{Header}
use Rattle.rules.specs.declared.Judged.{Judged}
use Rattle.rules.specs.Bytes.{iff}
use Rattle.rules.specs.Fault.{status_of}
use Rattle.rules.specs.Reference.{Reference, pin_form, puk_form, none_left, matches, charged, restored, renewed, reference_at, put_reference}
use Rattle.rules.specs.Store.{pin_at, puk_at}
use Rattle.rules.specs.Session.{State, state, with_pin, pin_given}
use Rattle.rules.specs.Command.{Made, responds, Which, the_pin, the_puk, Step, charge, equal, unequal, restore, new_value, nothing}

pub record Refs : Type 0 where
  pub pin : Reference
  pub puk : Reference
  pub given : Bool

unfoldable pub the : Refs → Which → Reference
the r the_pin = r.pin
the r the_puk = r.puk

unfoldable pub put_the : Refs → Which → Reference → Refs
put_the r the_pin f = record { pin = f; puk = r.puk; given = r.given }
put_the r the_puk f = record { pin = r.pin; puk = f; given = r.given }

-- ---- steps

-- a comparison changes nothing; what follows it does
unfoldable pub stepped : Refs → Step → Refs
stepped r (charge w) = put_the r w (charged (the r w))
stepped r (equal w) = r
stepped r (unequal w) = r
stepped r (restore w) = put_the r w (restored (the r w))
stepped r (new_value w v) = put_the r w (renewed (the r w) v)

unfoldable pub made : Refs → List Step → Refs
made r [] = r
made r (s ∷ ss) = made (stepped r s) ss

pub record Said : Type 0 where
  pub sw : ℕ
  pub steps : List Step
  pub given : Bool

unfoldable pub with_given : Refs → Bool → Refs
with_given r b = record { pin = r.pin; puk = r.puk; given = b }

unfoldable pub after : Refs → Said → Refs
after r x = with_given (made r x.steps) x.given

abbrev pub answer : ℕ → Refs → Said
answer sw r = record { sw = sw; steps = []; given = r.given }

-- 63CX, X the tries left
unfoldable pub tries_word : Reference → ℕ
tries_word f = 0x63C0 + f.left

-- unequal: one try fewer, 63CX with the new count
unfoldable pub missed : Refs → Which → Bool → Said
missed r w b = record { sw = tries_word (charged (the r w)); steps = charge w ∷ unequal w ∷ []; given = b }

-- ---- VERIFY

-- equal: tries left back to the limit, status TRUE, 9000
unfoldable pub verified : Said
verified = record { sw = 0x9000; steps = charge the_pin ∷ equal the_pin ∷ restore the_pin ∷ []; given = true }

-- with data: no tries left 6983; not PIN form 6A80, nothing changed; unequal: one try fewer, status FALSE, 63CX with the new count; equal
unfoldable pub verify_given : Refs → List ℕ → Said
verify_given r d =
    iff (none_left r.pin) (answer 0x6983 r)
    (iff (not (pin_form d)) (answer 0x6A80 r)
    (iff (matches r.pin d) verified (missed r the_pin false)))

-- without data: 9000 if status TRUE, else 63CX, X the tries left, also at 0
unfoldable pub verify_asked : Refs → Said
verify_asked r = iff r.given (answer 0x9000 r) (answer (tries_word r.pin) r)

-- P1 FF: with data 6A80; without, status FALSE, 9000
unfoldable pub verify_ended : Refs → List ℕ → Said
verify_ended r d = iff (not (eqb (length d) 0)) (answer 0x6A80 r) (record { sw = 0x9000; steps = []; given = false })

unfoldable pub verify : Refs → Header → List ℕ → Said
verify r h d =
    iff (not (eqb h.p1 0x00 || eqb h.p1 0xFF)) (answer 0x6A86 r)
    (iff (not (eqb h.p2 0x80)) (answer 0x6A88 r)
    (iff (eqb h.p1 0xFF) (verify_ended r d)
    (iff (eqb (length d) 0) (verify_asked r)
    (verify_given r d))))

-- ---- CHANGE REFERENCE DATA

-- equal: new value, tries left to the limit, 9000
unfoldable pub changed : Which → List ℕ → Bool → Said
changed w v b =
    record { sw = 0x9000; steps = charge w ∷ equal w ∷ new_value w v ∷ restore w ∷ []; given = b }

-- no tries left 6983; not 16 bytes, or either half lacks its form: 6A80, nothing compared; the PIN status is `hit` after an equal
-- comparison and `miss` after an unequal one
unfoldable pub change_of : Refs → Which → (List ℕ → Bool) → Bool → Bool → List ℕ → Said
change_of r w form hit miss d =
    iff (none_left (the r w)) (answer 0x6983 r)
    (iff (not (eqb (length d) 16)) (answer 0x6A80 r)
    (iff (not (form (take 8 d) && form (drop 8 d))) (answer 0x6A80 r)
    (iff (matches (the r w) (take 8 d)) (changed w (drop 8 d) hit) (missed r w miss))))

-- with 81 the PIN status stays, equal or not
unfoldable pub change : Refs → Header → List ℕ → Said
change r h d =
    iff (not (eqb h.p1 0x00)) (answer 0x6A86 r)
    (iff (not (eqb h.p2 0x80 || eqb h.p2 0x81)) (answer 0x6A81 r)
    (iff (eqb h.p2 0x80) (change_of r the_pin pin_form true false d)
    (change_of r the_puk puk_form r.given r.given d)))

-- ---- RESET RETRY COUNTER

-- equal: new PIN, both counts to their limits, PIN status unchanged, 9000
unfoldable pub reset_to : Refs → List ℕ → Said
reset_to r v = record {
  sw = 0x9000;
  steps = charge the_puk ∷ equal the_puk ∷ new_value the_pin v ∷ restore the_pin ∷ restore the_puk ∷ [];
  given = r.given;
}

-- PUK without tries: 6983; not 16 bytes, or the new PIN not PIN form: 6A80; PUK unequal: one PUK try fewer, PIN status FALSE, 63CX
unfoldable pub reset_given : Refs → List ℕ → Said
reset_given r d =
    iff (none_left r.puk) (answer 0x6983 r)
    (iff (not (eqb (length d) 16)) (answer 0x6A80 r)
    (iff (not (puk_form (take 8 d) && pin_form (drop 8 d))) (answer 0x6A80 r)
    (iff (matches r.puk (take 8 d)) (reset_to r (drop 8 d)) (missed r the_puk false))))

unfoldable pub reset : Refs → Header → List ℕ → Said
reset r h d =
    iff (not (eqb h.p1 0x00)) (answer 0x6A86 r)
    (iff (not (eqb h.p2 0x80)) (answer 0x6A81 r)
    (reset_given r d))

-- ---- the references of a store and of a state

unfoldable pub refs_in : List ℕ → Bool → Refs
refs_in s given = record { pin = reference_at s pin_at; puk = reference_at s puk_at; given = given }

unfoldable pub refs_onto : List ℕ → Refs → List ℕ
refs_onto s r = put_reference (put_reference s pin_at r.pin) puk_at r.puk

pub record Judgement : Type 0 where
  pub sw : ℕ
  pub given : Bool
  pub store : List ℕ

abbrev pub judgement : Judged → List ℕ → Judgement
judgement j s = record { sw = status_of j.said; given = j.given; store = s }

unfoldable pub judged_on : List ℕ → Bool → Said → Judgement
judged_on s b x = record { sw = x.sw; given = x.given; store = refs_onto s (made (refs_in s b) x.steps) }

unfoldable pub refs : State → Refs
refs st = refs_in st.store (pin_given st.session)

unfoldable pub put_refs : State → Refs → State
put_refs st r = state (refs_onto st.store r) st.work (with_pin st.session r.given)

unfoldable pub on_refs : State → Said → Made
on_refs st x = record {
  told = responds [] x.sw;
  after = put_refs st (after (refs st) x);
  steps = x.steps;
  wrote = nothing;
}
