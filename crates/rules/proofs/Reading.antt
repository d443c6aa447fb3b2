-- Reading: the way out: GET DATA of a slot, and the GET RESPONSEs straight after it, hand out the whole object.
--
--   call-sends             a command that is not refused
--   data-delivered word-delivered    what a response shows
--   more_is gets_is        GET RESPONSE and GET DATA are what the definition says of them
--   rest_read              the rest of a response, by GET RESPONSEs
--   answers                what is said of a slot
--
-- Assumes nothing.
use Rattle.std.specs.Prelude.{None, Some}
use mathlib.Core.Path.{◌≡◌, refl, ap, ap₂, sym, ◌∙◌, subst}
use mathlib.Core.Bool.{Bool, true, false, not, ◌&&◌, ◌||◌}
use mathlib.Core.List.{List, [], ◌∷◌, ◌++◌, map, append-nil, append_assoc}
use Prim.Native.Nat.{ℕ, zero, suc, ◌+◌, ◌-◌, ◌*◌, ◌/◌, ◌%◌, ◌≤◌, ◌<◌}
use native.Mathlib.Omega.{arith}
use lib.Dec.{ltb, eqb}
use lib.ListN.{length, take, drop, get_or, length-drop, take-append-drop}
use lib.Seq.{take_at, drop-append-le, get_or-append-add}
use borrow.Author.Tests.{eqb-true, ne_eqb, eq-eqb, ltb-true, le-leb, lt-leb, lt-ltb, le-ltb}
use Rattle.rules.specs.declared.Session.{Session}
use Rattle.rules.specs.Bytes.{iff, all, all_below, part, splice, word, be16, be24}
use Rattle.rules.specs.Book.{book}
use Rattle.rules.specs.Ber.{tlv}
use Rattle.rules.specs.declared.Access.{Access}
use Rattle.rules.specs.declared.Access.TheVariants.{Always, WithPin, Never}
use Rattle.rules.specs.Store.{contact_read, contactless_read, work_size, response_size, slots, discovery, slot_named, tag_of, object_of}
use Rattle.rules.specs.Session.{State, state, holding, with_challenge, allows, readable, job_open, rest_of}
use Rattle.rules.specs.Command.{responds, tells, says}
use Rattle.rules.specs.Held.{calm, dropped, left_word, send, fetch}
use Rattle.rules.specs.Objects.{object_tag, give_object, get_slot, get_rest}
use Rattle.rules.specs.Calls.{command, Call, sends, Result, ill_session, short_response, interrupts, unasked, wrong_result, told_bytes, told_answer, delivered, granted, decided, call}
use Rattle.rules.specs.Runs.{leaves, run}
use Rattle.rules.specs.Claims.Lengths.{Bytes}
use Rattle.rules.specs.Claims.ReadBack.{Le, absent, byte, le_bytes, wanted, LeOk, tag_bytes_of, tag_list, gets, more, data_of, word_of, joined, last_word, Ask, AskOk, AsksOk, reading, Ends, Answers}
use Rattle.rules.proofs.Lists.{part-add}
use Rattle.rules.proofs.Tests.{on, off, and_left, and_right, at_each, or-other}
use Rattle.rules.proofs.Permits.{lets_granted}
use Rattle.rules.proofs.Kept.{Well, object_short}
use Rattle.rules.proofs.Invariants.{call_kept}

-- ---- a command that is not refused

pub call-sends : (st : State) (resp c : List ℕ) → Well st → job_open st.session ≡ false → response_size ≤ length resp
    → call st (sends resp c) ≡ delivered resp (command st c)
unfolding call decided granted ill_session short_response interrupts unasked wrong_result
call-sends st resp c g j l =
    ap (decided st (sends resp c))
    (lets_granted st (sends resp c)
    (record { store = g.wf; session = ap not g.session; response = le-ltb (length resp) response_size l; work = g.size; free = j; asked = refl; result = refl }))

module _ (resp : List ℕ) (st : State) (d : List ℕ) (sw : ℕ) where
  pub data-delivered : data_of (delivered resp (tells st (responds d sw))) ≡ d
  unfolding data_of delivered told_bytes told_answer splice
  data-delivered =
      let e : length d + 2 - 2 ≡ length d = omega arith in
      rw e (ap (take (length d)) (append_assoc d (word sw) _) ∙ take_at d _ (length d) refl)

  pub word-delivered : word_of (delivered resp (tells st (responds d sw))) ≡ sw / 256 % 256 * 256 + sw % 256
  unfolding word_of delivered told_bytes told_answer splice be16 word
  word-delivered =
      let e : length d + 2 - 2 ≡ length d = omega arith in
      let l : List ℕ = drop (0 + length (d ++ word sw)) resp in
      let a : get_or ((d ++ word sw) ++ l) (length d) 0 ≡ sw / 256 % 256 =
      ap₂ (λ (x : List ℕ) (n : ℕ). get_or x n 0) (append_assoc d (word sw) l) (omega arith) ∙ get_or-append-add d (word sw ++ l) 0 0 in
      let b : get_or ((d ++ word sw) ++ l) (length d + 1) 0 ≡ sw % 256 =
      ap (λ (x : List ℕ). get_or x (length d + 1) 0) (append_assoc d (word sw) l) ∙ get_or-append-add d (word sw ++ l) 1 0 in
      rw (e, a, b)

-- ---- the two commands

pub more_is : (st : State) (le : Le) → command st (more le) ≡ get_rest (calm st) (wanted le) st.session.rest
unfolding book more
more_is st absent = refl
more_is st (byte b) = refl

-- GET DATA of a three-byte tag, and of Discovery
gets_three : (st : State) (x y z : ℕ) (le : Le) → command st (0x00 ∷ 0xCB ∷ 0x3F ∷ 0xFF ∷ 5 ∷ 0x5C ∷ 3 ∷ x ∷ y ∷ z ∷ le_bytes le)
    ≡ get_slot (dropped (calm st)) (wanted le) (slot_named 3 (be24 (0x5C ∷ 3 ∷ x ∷ y ∷ z ∷ []) 2))
unfolding book
gets_three st x y z absent = refl
gets_three st x y z (byte b) = refl

gets_one : (st : State) (le : Le) → command st (0x00 ∷ 0xCB ∷ 0x3F ∷ 0xFF ∷ 3 ∷ 0x5C ∷ 1 ∷ 0x7E ∷ le_bytes le) ≡ get_slot (dropped (calm st)) (wanted le) discovery
unfolding book
gets_one st absent = refl
gets_one st (byte b) = refl

-- by the table: a tag names its slot
unfoldable names_itself : ℕ → Bool
names_itself i = eqb i discovery || eqb (slot_named 3 (be24 (0x5C ∷ 3 ∷ tag_of i / 65536 ∷ tag_of i / 256 % 256 ∷ tag_of i % 256 ∷ []) 2)) i

named-all : all_below names_itself slots ≡ true
unfolding book names_itself
named-all = refl

pub tag_names : (i : ℕ) → i < slots → eqb i discovery ≡ false → slot_named 3 (be24 (0x5C ∷ 3 ∷ tag_of i / 65536 ∷ tag_of i / 256 % 256 ∷ tag_of i % 256 ∷ []) 2) ≡ i
unfolding names_itself
tag_names i h ne = eqb-true _ _ (or-other (eqb i discovery) _ (at_each names_itself slots named-all i h) ne)

abbrev gets_by : List ℕ → Le → List ℕ
gets_by t le = 0x00 ∷ 0xCB ∷ 0x3F ∷ 0xFF ∷ length (0x5C ∷ length t ∷ t) ∷ ((0x5C ∷ length t ∷ t) ++ le_bytes le)

gets_by_lem : (i : ℕ) (le : Le) (t : List ℕ) → tag_bytes_of i ≡ t → gets i le ≡ gets_by t le
unfolding gets tag_list
gets_by_lem i le t e = ap (λ (x : List ℕ). gets_by x le) e

pub gets_is : (st : State) (i : ℕ) (le : Le) → i < slots → command st (gets i le) ≡ get_slot (dropped (calm st)) (wanted le) i
unfolding tag_bytes_of
gets_is st i le h = go (eqb i discovery) refl
  where
    go : (b : Bool) → eqb i discovery ≡ b → command st (gets i le) ≡ get_slot (dropped (calm st)) (wanted le) i
    go true e =
        let q : i ≡ discovery = eqb-true i discovery e in
        ap (command st) (gets_by_lem i le _ (on _ _ _ e)) ∙ gets_one st le ∙ ap (get_slot (dropped (calm st)) (wanted le)) (sym q)
    go false e =
        ap (command st) (gets_by_lem i le _ (off _ _ _ e)) ∙ gets_three st _ _ _ le ∙ ap (get_slot (dropped (calm st)) (wanted le)) (tag_names i h e)

-- ---- bytes

bytes_nil : Bytes []
bytes_nil i = omega arith

bytes_cons : (x : ℕ) (l : List ℕ) → x < 256 → Bytes l → Bytes (x ∷ l)
bytes_cons x l h b zero = h
bytes_cons x l h b (suc i) = b i

bytes-append : (l m : List ℕ) → Bytes l → Bytes m → Bytes (l ++ m)
bytes-append [] m a b = b
bytes-append (x ∷ l) m a b = bytes_cons x (l ++ m) (a 0) (bytes-append l m (λ i. a (suc i)) b)

pub all-bytes : (l : List ℕ) → all (λ x. ltb x 256) l ≡ true → Bytes l
all-bytes [] e = bytes_nil
all-bytes (x ∷ l) e = bytes_cons x l (ltb-true x 256 (and_left (ltb x 256) _ e)) (all-bytes l (and_right (ltb x 256) _ e))

le-bytes : (le : Le) → LeOk le → Bytes (le_bytes le)
le-bytes absent o = bytes_nil
le-bytes (byte b) o = bytes_cons b [] o bytes_nil

-- by the table: tags are bytes
unfoldable tag_small : ℕ → Bool
tag_small i = all (λ x. ltb x 256) (tag_bytes_of i) && ltb (length (tag_bytes_of i)) 200

tags_small : all_below tag_small slots ≡ true
unfolding book tag_small tag_bytes_of
tags_small = refl

tag_bytes_lem : (i : ℕ) → i < slots → Bytes (tag_bytes_of i) × (length (tag_bytes_of i) < 200)
unfolding tag_small
tag_bytes_lem i h =
    let e = at_each tag_small slots tags_small i h in
    (all-bytes (tag_bytes_of i) (and_left _ _ e), ltb-true _ _ (and_right (all (λ x. ltb x 256) (tag_bytes_of i)) _ e))

more_bytes : (le : Le) → LeOk le → Bytes (more le)
unfolding more
more_bytes le o = bytes-append (0x00 ∷ 0xC0 ∷ 0x00 ∷ 0x00 ∷ []) (le_bytes le) (all-bytes (0x00 ∷ 0xC0 ∷ 0x00 ∷ 0x00 ∷ []) refl) (le-bytes le o)

-- ---- the rest of a response

abbrev asking : Ask → Call
asking x = sends x.resp (more x.le)

-- a row of GET RESPONSEs hands out d, and the last says 9000
abbrev Reads : State → List Call → List ℕ → Type 0
Reads st ks d = (joined (run st ks) ≡ d) × (last_word (run st ks) ≡ 0x9000)

module _ (st : State) (g : Well st) (j : job_open st.session ≡ false) (whole k : ℕ) (e : st.session.rest ≡ Some (rest_of whole k)) (a : Ask) (o : AskOk a) where
  fetches : call st (asking a) ≡ delivered a.resp (fetch (calm st) (wanted a.le) whole k)
  unfolding get_rest
  fetches = call-sends st a.resp (more a.le) g j o.room ∙ ap (delivered a.resp) (more_is st a.le ∙ ap (get_rest (calm st) (wanted a.le)) e)

  last-fetch : whole - k ≤ wanted a.le → call st (asking a) ≡ delivered a.resp (tells (dropped (calm st)) (responds (part st.work k (whole - k)) 0x9000))
  unfolding fetch calm
  last-fetch l = fetches ∙ ap (delivered a.resp) (on _ _ _ (le-leb (whole - k) (wanted a.le) l))

  abbrev next_state : State
  next_state = state st.store st.work (holding (with_challenge st.session None) None (Some (rest_of whole (k + wanted a.le))))

  next-fetch : wanted a.le < whole - k → call st (asking a)
      ≡ delivered a.resp (tells next_state (responds (part st.work k (wanted a.le)) (left_word (whole - k - wanted a.le))))
  unfolding fetch calm
  next-fetch l = fetches ∙ ap (delivered a.resp) (off _ _ _ (lt-leb (whole - k) (wanted a.le) l))

  next-leaves : wanted a.le < whole - k → leaves (call st (asking a)) ≡ next_state
  unfolding leaves delivered
  next-leaves l = ap leaves (next-fetch l)

  next-well : wanted a.le < whole - k → Well next_state
  next-well l = subst Well (next-leaves l) (call_kept st g (asking a) (more_bytes a.le o.le)).well

pub rest_read : (bs : List Ask) (a : Ask) (st : State) (whole k : ℕ) → Well st → job_open st.session ≡ false → st.session.rest ≡ Some (rest_of whole k) → k < whole
    → AskOk a → AsksOk bs → Ends (whole - k) a bs → Reads st (map asking (a ∷ bs)) (part st.work k (whole - k))
unfolding run joined last_word
rest_read [] a st whole k g j e h o os n = (
  ap (λ (r : Result). data_of r ++ []) (last-fetch st g j whole k e a o n) ∙ append-nil _ ∙ data-delivered a.resp _ _ 0x9000,
  ap word_of (last-fetch st g j whole k e a o n) ∙ word-delivered a.resp _ _ 0x9000,
)
rest_read (b ∷ bs) a st whole k g j e h o os n =
    let m : ℕ = wanted a.le in
    let l : m < whole - k = n.0 in
    let t : State = next_state st g j whole k e a o in
    let c : m + (whole - (k + m)) ≡ whole - k = omega arith in
    let q : whole - k - m ≡ whole - (k + m) = omega arith in
    let r : Reads t (map asking (b ∷ bs)) (part st.work (k + m) (whole - (k + m))) =
    rest_read bs b t whole (k + m) (next-well st g j whole k e a o l) j refl (omega arith) os.0 os.1 (subst (λ (x : ℕ). Ends x b bs) q n.1) in (
      ap₂ (λ (x : Result) (y : State). data_of x ++ joined (run y (map asking (b ∷ bs)))) (next-fetch st g j whole k e a o l) (next-leaves st g j whole k e a o l)
          ∙ ap₂ (λ (x y : List ℕ). x ++ y) (data-delivered a.resp t _ _) r.0
          ∙ sym (part-add st.work k m (whole - (k + m))) ∙ ap (part st.work k) c,
      ap (λ (x : State). last_word (run x (map asking (b ∷ bs)))) (next-leaves st g j whole k e a o l) ∙ r.1,
    )

-- ---- GET DATA

module _ (st : State) (le i : ℕ) (h : i < slots) where
  -- where the object may not be read
  pub shut-slot : readable st.session i ≡ false → get_slot st le i ≡ says st 0x6982
  unfolding get_slot
  shut-slot r = off _ _ _ (ap not (lt-ltb i slots h)) ∙ on _ _ _ (ap not r)

  -- where it may, and there is none
  pub none-slot : readable st.session i ≡ true → length (object_of st.store i) ≡ 0 → get_slot st le i ≡ says st 0x6A82
  unfolding get_slot give_object
  none-slot r z = off _ _ _ (ap not (lt-ltb i slots h)) ∙ off _ _ _ (ap not r) ∙ on _ _ _ (eq-eqb _ _ z)

  -- where it may, and there is one
  pub full-slot : readable st.session i ≡ true → 0 < length (object_of st.store i) → get_slot st le i ≡ send st le (tlv (object_tag i) (object_of st.store i))
  unfolding get_slot give_object
  full-slot r z = off _ _ _ (ap not (lt-ltb i slots h)) ∙ off _ _ _ (ap not r) ∙ off _ _ _ (ne_eqb (length (object_of st.store i)) 0 (λ e. omega (arith, z, e)))

allows-same : (ss zz : Session) → ss.pin ≡ zz.pin → (a : Access) → allows ss a ≡ allows zz a
allows-same ss zz e Always = refl
allows-same ss zz e WithPin = e
allows-same ss zz e Never = refl

module _ (st : State) (g : Well st) (j : job_open st.session ≡ false) (i : ℕ) (h : i < slots) (a : Ask) (o : AskOk a) where
  -- the state in which the slot is looked at
  abbrev seen : State
  seen = dropped (calm st)

  gets-slot : call st (sends a.resp (gets i a.le)) ≡ delivered a.resp (get_slot seen (wanted a.le) i)
  gets-slot = call-sends st a.resp (gets i a.le) g j o.room ∙ ap (delivered a.resp) (gets_is st i a.le h)

  seen-readable : readable seen.session i ≡ readable st.session i
  unfolding dropped calm readable
  seen-readable = allows-same seen.session st.session refl (iff st.session.contactless (get_or contactless_read i Never) (get_or contact_read i Never))

  seen-store : seen.store ≡ st.store
  unfolding dropped calm
  seen-store = refl

  said : (sw : ℕ) → get_slot seen (wanted a.le) i ≡ says seen sw → sw / 256 % 256 * 256 + sw % 256 ≡ sw
      → (joined (run st (reading i a [])) ≡ []) × (last_word (run st (reading i a [])) ≡ sw)
  unfolding run joined last_word reading
  said sw e w = (
    ap (λ (r : Result). data_of r ++ []) (gets-slot ∙ ap (delivered a.resp) e) ∙ append-nil _ ∙ data-delivered a.resp seen [] sw,
    ap word_of (gets-slot ∙ ap (delivered a.resp) e) ∙ word-delivered a.resp seen [] sw ∙ w,
  )

  -- ---- an answer that goes out, whole or in parts

  module _ (d : List ℕ) (sent : get_slot seen (wanted a.le) i ≡ send seen (wanted a.le) d) (short : length d ≤ work_size) where
    once : length d ≤ wanted a.le → call st (sends a.resp (gets i a.le)) ≡ delivered a.resp (tells seen (responds d 0x9000))
    unfolding send
    once l = gets-slot ∙ ap (delivered a.resp) (sent ∙ on _ _ _ (le-leb (length d) (wanted a.le) l))

    abbrev begun : State
    begun = state seen.store (splice seen.work 0 d) (holding seen.session None (Some (rest_of (length d) (wanted a.le))))

    begins : wanted a.le < length d → call st (sends a.resp (gets i a.le))
        ≡ delivered a.resp (tells begun (responds (take (wanted a.le) d) (left_word (length d - wanted a.le))))
    unfolding send
    begins l = gets-slot ∙ ap (delivered a.resp) (sent ∙ off _ _ _ (lt-leb (length d) (wanted a.le) l))

    begun_leaves : wanted a.le < length d → leaves (call st (sends a.resp (gets i a.le))) ≡ begun
    unfolding leaves delivered
    begun_leaves l = ap leaves (begins l)

    begun_well : Bytes (gets i a.le) → wanted a.le < length d → Well begun
    begun_well by l = subst Well (begun_leaves l) (call_kept st g (sends a.resp (gets i a.le)) by).well

    held-part : (n : ℕ) → n ≤ length d → part (splice seen.work 0 d) n (length d - n) ≡ drop n d
    unfolding part splice
    held-part n l = rw (drop-append-le n d (drop (0 + length d) seen.work) l) (take_at (drop n d) _ (length d - n) (length-drop n d))

    job-shut : job_open begun.session ≡ false
    unfolding dropped calm
    job-shut = j

    pub sends-all : Bytes (gets i a.le) → (bs : List Ask) → AsksOk bs → Ends (length d) a bs → Reads st (reading i a bs) d
    unfolding run joined last_word reading
    sends-all by [] os n = (
      ap (λ (r : Result). data_of r ++ []) (once n) ∙ append-nil _ ∙ data-delivered a.resp seen d 0x9000,
      ap word_of (once n) ∙ word-delivered a.resp seen d 0x9000,
    )
    sends-all by (b ∷ bs) os n =
        let m : ℕ = wanted a.le in
        let l : m < length d = n.0 in
        let r : Reads begun (map asking (b ∷ bs)) (part (splice seen.work 0 d) m (length d - m)) =
        rest_read bs b begun (length d) m (begun_well by l) job-shut refl l os.0 os.1 n.1 in (
          ap₂ (λ (x : Result) (y : State). data_of x ++ joined (run y (map asking (b ∷ bs)))) (begins l) (begun_leaves l)
              ∙ ap₂ (λ (x y : List ℕ). x ++ y) (data-delivered a.resp begun _ _) (r.0 ∙ held-part m (omega arith))
              ∙ take-append-drop m d,
          ap (λ (x : State). last_word (run x (map asking (b ∷ bs)))) (begun_leaves l) ∙ r.1,
        )

-- ---- what is said of a slot

pub gets-bytes : (i : ℕ) (le : Le) → i < slots → LeOk le → Bytes (gets i le)
unfolding gets tag_list
gets-bytes i le h o =
    let t = tag_bytes_lem i h in
    let n : ℕ = length (tag_bytes_of i) in
    let l : List ℕ = tag_bytes_of i ++ le_bytes le in
    bytes-append (0x00 ∷ 0xCB ∷ 0x3F ∷ 0xFF ∷ []) (suc (suc n) ∷ 0x5C ∷ n ∷ l) (all-bytes (0x00 ∷ 0xCB ∷ 0x3F ∷ 0xFF ∷ []) refl)
    (bytes_cons (suc (suc n)) (0x5C ∷ n ∷ l) (omega (arith, t.1))
    (bytes_cons 0x5C (n ∷ l) (omega arith) (bytes_cons n l (omega (arith, t.1)) (bytes-append (tag_bytes_of i) (le_bytes le) t.0 (le-bytes le o)))))

pub answers : (st : State) → Well st → job_open st.session ≡ false → (i : ℕ) → i < slots → Answers st i (object_of st.store i)
answers st g j i h = record {
  full = λ z r a bs o os n.
      sends-all st g j i h a o (tlv (object_tag i) (object_of st.store i)) (sent z r a o) (object_short st.store g.wf i h) (gets-bytes i a.le h o.le) bs os n;
  none = λ z r a o. said st g j i h a o 0x6A82 (none-slot _ (wanted a.le) i h (sees a o ∙ r) (ap (λ (x : List ℕ). length (object_of x i)) (seen-store st g j i h a o) ∙ z)) refl;
  shut = λ r a o. said st g j i h a o 0x6982 (shut-slot _ (wanted a.le) i h (sees a o ∙ r)) refl;
}
  where
    sees : (a : Ask) (o : AskOk a) → readable (seen st g j i h a o).session i ≡ readable st.session i
    sees a o = seen-readable st g j i h a o

    sent : 0 < length (object_of st.store i) → readable st.session i ≡ true → (a : Ask) (o : AskOk a)
        → get_slot (seen st g j i h a o) (wanted a.le) i ≡ send (seen st g j i h a o) (wanted a.le) (tlv (object_tag i) (object_of st.store i))
    sent z r a o =
        subst (λ (x : List ℕ). 0 < length (object_of x i) → get_slot (seen st g j i h a o) (wanted a.le) i ≡ send (seen st g j i h a o) (wanted a.le) (tlv (object_tag i) (object_of x i)))
        (seen-store st g j i h a o) (full-slot _ (wanted a.le) i h (sees a o ∙ r)) z
