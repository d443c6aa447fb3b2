-- Gathered: a PUT DATA in pieces: each piece that is answered 9000 is added to what is held, and after the last the slot holds the value.
--
--   puts_is                a call that is a piece of PUT DATA
--   piece-word             a piece that is answered 9000 passed the rules for each piece
--   Has st g               the pieces so far hold g
--   pieces-put             once all pieces are answered 9000, the slot holds the value
--
-- Assumes nothing.
use Rattle.std.specs.Prelude.{Option, None, Some, Ok}
use mathlib.Core.Path.{◌≡◌, refl, ap, sym, ◌∙◌, subst}
use mathlib.Core.Bool.{Bool, true, false, not}
use mathlib.Core.List.{List, [], ◌++◌, append_assoc}
use Prim.Native.Nat.{ℕ, ◌+◌, ◌*◌, ◌/◌, ◌%◌, ◌≤◌, ◌<◌}
use native.Mathlib.Omega.{arith}
use lib.Dec.{eqb}
use lib.ListN.{length, take, length-append}
use lib.Seq.{length-take-le}
use borrow.Author.Tests.{eqb-true, eq-eqb, lt-ltb}
use Rattle.rules.specs.declared.Chain.{Chain}
use Rattle.rules.specs.declared.Header.{Header}
use Rattle.rules.specs.Ber.{ber_length, tlv, place}
use Rattle.rules.specs.Store.{work_size, slots, object_of, takes}
use Rattle.rules.specs.Session.{State, chain_length, job_open}
use Rattle.rules.specs.Command.{field_of, check, in_slot, Made, says}
use Rattle.rules.specs.Held.{calm, dropped, goes_on, based, gathered, held_piece, closed, piece, chain_of}
use Rattle.rules.specs.Objects.{stored, put_slot, put_whole, put_each, put_piece, put_data, put_of}
use Rattle.rules.specs.Calls.{ruled, obeyed, command, Call, Result, interrupts, delivered, granted, decided, call}
use Rattle.rules.specs.Runs.{leaves, end_of}
use Rattle.rules.specs.Claims.Invariants.{Plain, Each}
use Rattle.rules.specs.Claims.ReadBack.{tag_list, put_field, word_of, put_open, Puts, Pieces, last, next, refused}
use Rattle.rules.proofs.Tests.{either, on, off}
use Rattle.rules.proofs.Lists.{take-splice}
use Rattle.rules.proofs.Slots.{put-object}
use Rattle.rules.proofs.WellFormed.{wf_size}
use Rattle.rules.proofs.Permits.{granted_lets}
use Rattle.rules.proofs.Possible.{chain_fits}
use Rattle.rules.proofs.Kept.{Well, Moved, Starts, well_fine, fine_calm, based-starts, put_total_lem}
use Rattle.rules.proofs.Invariants.{refused-leaves, call_kept}
use Rattle.rules.proofs.Reading.{word-delivered}
use Rattle.rules.proofs.Pieces.{Formed, put_form_lem}

-- ---- a call that is a piece

ruled-put : (st : State) (ch : Option ℕ) (h : Header) (d : List ℕ) → h.ins ≡ 0xDB → ruled st ch h d ≡ put_data st h d
unfolding ruled
ruled-put st ch h d e =
    off _ _ _ (ap (λ (n : ℕ). eqb n 0xA4) e) ∙ off _ _ _ (ap (λ (n : ℕ). eqb n 0xCB) e) ∙ off _ _ _ (ap (λ (n : ℕ). eqb n 0xC0) e) ∙ off _ _ _ (ap (λ (n : ℕ). eqb n 0x20) e)
    ∙ off _ _ _ (ap (λ (n : ℕ). eqb n 0x24) e) ∙ off _ _ _ (ap (λ (n : ℕ). eqb n 0x2C) e) ∙ off _ _ _ (ap (λ (n : ℕ). eqb n 0x87) e)

pub command-put : (st : State) (c : List ℕ) (h : Header) → check st.session.contactless c ≡ Ok h → h.ins ≡ 0xDB
    → command st c ≡ put_piece (based (calm st) h) h (field_of c h)
unfolding command obeyed put_data
command-put st c h e i = ap (obeyed (calm st) st.session.challenge c) e ∙ ruled-put (calm st) st.session.challenge h (field_of c h) i

each_small : (st : State) (h : Header) (n : ℕ) → put_each st h n < 65536
unfolding put_each
each_small st h n =
    either (λ (x : ℕ). x < 65536) _ {x = 0x6A86} (omega arith)
    (either (λ (x : ℕ). x < 65536) _ {x = 0x6982} (omega arith) (either (λ (x : ℕ). x < 65536) _ {x = 0x6A84} {y = 0x9000} (omega arith) (omega arith)))

module _ (cla : ℕ) (st : State) (k : Call) (d : List ℕ) (p : Puts cla st k d) where
  -- the state from which the piece starts
  abbrev from : State
  from = based (calm st) p.head

  pub puts_is : call st k ≡ delivered p.resp (put_piece from p.head d)
  unfolding call decided granted
  puts_is =
      ap (decided st k) p.taken ∙ ap (granted st) p.sent
      ∙ ap (delivered p.resp) (command-put st p.bytes p.head p.passed p.ins ∙ ap (put_piece from p.head) p.field)

  -- what the rules for each piece say of it
  abbrev word : ℕ
  word = put_each from p.head (chain_length from.session.chain + length d)

  puts_word : word_of (delivered p.resp (put_piece from p.head d)) ≡ 0x9000
  puts_word = sym (ap word_of puts_is) ∙ p.well

  own_word : word / 256 % 256 * 256 + word % 256 ≡ word
  own_word = let s = each_small from p.head (chain_length from.session.chain + length d) in omega (arith, s)

  pub piece-word : word ≡ 0x9000
  unfolding put_piece piece
  piece-word = go (eqb word 0x9000) refl
    where
      go : (b : Bool) → eqb word 0x9000 ≡ b → word ≡ 0x9000
      go true e = eqb-true word 0x9000 e
      go false e = sym own_word ∙ (sym (word-delivered p.resp (dropped from) [] word) ∙ ap (λ (m : Made). word_of (delivered p.resp m)) (sym (on _ _ _ (ap not e))) ∙ puts_word)

  passes : eqb word 0x9000 ≡ true
  passes = eq-eqb _ _ piece-word

  pub held_is : cla ≡ 0x10 → call st k ≡ delivered p.resp (says (held_piece from p.head d) 0x9000)
  unfolding put_piece piece
  held_is e = puts_is ∙ ap (delivered p.resp) (off _ _ _ (ap not passes) ∙ on _ _ _ (eq-eqb _ _ (p.class ∙ e)))

  pub whole_is : cla ≡ 0x00 → call st k ≡ delivered p.resp (put_whole (closed from d) (gathered from d))
  unfolding put_piece piece
  whole_is e = puts_is ∙ ap (delivered p.resp) (off _ _ _ (ap not passes) ∙ off _ _ _ (ap (λ (n : ℕ). eqb n 0x10) (p.class ∙ e)))

-- ---- what the pieces so far hold

pub Has : State → List ℕ → Type 0
Has st g = (h : Header) → h.ins ≡ 0xDB → h.p1 ≡ 0x3F → h.p2 ≡ 0xFF
    → take (chain_length (based (calm st) h).session.chain) (based (calm st) h).work ≡ g

-- with no PUT DATA open they hold nothing
goes_put : (c : Option Chain) (h : Header) → h.ins ≡ 0xDB → h.p1 ≡ 0x3F → h.p2 ≡ 0xFF → goes_on c h ≡ put_open c
unfolding goes_on
goes_put None h a b c = refl
goes_put (Some o) h a b c = rw (a, b, c)

pub has_none : (st : State) → put_open st.session.chain ≡ false → Has st []
unfolding Has based calm dropped
has_none st e h a b c =
    ap (λ (x : State). take (chain_length x.session.chain) x.work) (off _ _ _ (goes_put st.session.chain h a b c ∙ e))

module _ (st : State) (g : Well st) (f : List ℕ) (has : Has st f) (cla : ℕ) (k : Call) (d : List ℕ) (p : Puts cla st k d) where
  free : job_open st.session ≡ false
  unfolding interrupts
  free = subst (λ (x : Call). interrupts x st.session ≡ false) p.sent (granted_lets st k p.taken).free

  starts : Starts (calm st).store (calm st).session (from cla st k d p)
  starts = based-starts (calm st) (fine_calm st (well_fine st g free)) p.head

  work_fits : chain_length (from cla st k d p).session.chain ≤ length (from cla st k d p).work
  work_fits = omega (arith, chain_fits (from cla st k d p).session.chain starts.fine.chain, starts.fine.size)

  holds : take (chain_length (from cla st k d p).session.chain) (from cla st k d p).work ≡ f
  unfolding Has
  holds = has p.head p.ins p.p1 p.p2

  gathers : gathered (from cla st k d p) d ≡ f ++ d
  unfolding gathered
  gathers = ap (λ (l : List ℕ). l ++ d) holds

  total : length (f ++ d) ≤ work_size
  total =
      let e : length f ≡ chain_length (from cla st k d p).session.chain = ap length (sym holds) ∙ length-take-le _ _ work_fits in
      let t = put_total_lem (from cla st k d p) p.head _ (piece-word cla st k d p) in
      omega (arith, length-append f d, e, t)

  -- a piece more
  leaves-held : cla ≡ 0x10 → leaves (call st k) ≡ held_piece (from cla st k d p) p.head d
  unfolding leaves delivered
  leaves-held e = ap leaves (held_is cla st k d p e)

  held_has : Has (held_piece (from cla st k d p) p.head d) (f ++ d)
  unfolding Has based held_piece calm
  held_has h a b c =
      ap (λ (x : State). take (chain_length x.session.chain) x.work)
      (on _ _ _ (goes_put (Some (chain_of p.head _)) h a b c ∙ rw (p.ins, p.p1, p.p2)))
      ∙ take-splice (from cla st k d p).work d (chain_length (from cla st k d p).session.chain) work_fits
      ∙ ap (λ (l : List ℕ). l ++ d) holds

  -- the last: the slot takes the value
  module _ (e : cla ≡ 0x00) (i : ℕ) (v : List ℕ) (hi : i < slots) (fm : Formed (f ++ d) i v) where
    whole-slot : call st k ≡ delivered p.resp (put_slot (closed (from cla st k d p) d) (f ++ d) (Some (put_of i (place fm.from (length v)))))
    unfolding put_whole
    whole-slot = whole_is cla st k d p e ∙ ap (delivered p.resp) (ap (put_whole (closed (from cla st k d p) d)) gathers ∙ ap (put_slot (closed (from cla st k d p) d) (f ++ d)) fm.form)

    slot-word : word_of (delivered p.resp (put_slot (closed (from cla st k d p) d) (f ++ d) (Some (put_of i (place fm.from (length v)))))) ≡ 0x9000
    slot-word = sym (ap word_of whole-slot) ∙ p.well

    pub last-wrote : (call st k).wrote ≡ in_slot i v
    unfolding put_slot
    last-wrote = go (takes (closed (from cla st k d p) d).store i (length v)) refl
      where
        go : (b : Bool) → takes (closed (from cla st k d p) d).store i (length v) ≡ b → (call st k).wrote ≡ in_slot i v
        go true q =
            ap (λ (r : Result). r.wrote)
            (whole-slot ∙ ap (delivered p.resp) (off _ _ _ (ap not (lt-ltb i slots hi)) ∙ off _ _ _ (ap not q)))
            ∙ unfold stored delivered in ap (in_slot i) fm.value
        go false q = absurd (omega (
          arith,
          sym (word-delivered p.resp (closed (from cla st k d p) d) [] 0x6A84)
              ∙ ap (λ (m : Made). word_of (delivered p.resp m)) (sym (off _ _ _ (ap not (lt-ltb i slots hi)) ∙ on _ _ _ (ap not q))) ∙ slot-word,
        ))

-- ---- all pieces

-- the value is no longer than its field
field-long : (i : ℕ) (v : List ℕ) → length v ≤ length (put_field i v)
unfolding put_field tlv
field-long i v =
    either (λ (l : List ℕ). length v ≤ length l) _ {x = tlv 0x7E v} {y = tag_list i ++ tlv 0x53 v}
    (omega (arith, length-append (ber_length (length v)) v))
    (omega (arith, length-append (tag_list i) (tlv 0x53 v), length-append (ber_length (length v)) v))

module _ (i : ℕ) (v : List ℕ) (hi : i < slots) where
  -- what one call wrote is in the slot
  wrote-object : (st : State) → Well st → (k : Call) → Plain k → (call st k).wrote ≡ in_slot i v → object_of (leaves (call st k)).store i ≡ v
  unfolding leaves
  wrote-object st g k b e =
      let m : Moved st.store (call st k).outcome.store (in_slot i v) = subst (Moved st.store (call st k).outcome.store) e (call_kept st g k b).moved in
      ap (λ (l : List ℕ). object_of l i) m.2 ∙ put-object st.store i v hi m.1 (wf_size st.store g.wf)

  pub pieces-put : (st : State) (ks : List Call) (d : List ℕ) → Pieces st ks d → Well st → Each Plain ks → (f : List ℕ) → Has st f → f ++ d ≡ put_field i v
      → (object_of (end_of st ks).store i ≡ v) × Well (end_of st ks)
  unfolding end_of
  pieces-put _ _ _ (last st k d p) g b f has e =
      let t = total st g f has 0x00 k d p in
      let short : length v < 65536 = omega (arith, t, ap length e, field-long i v) in
      let fm : Formed (f ++ d) i v = subst (λ (l : List ℕ). Formed l i v) (sym e) (put_form_lem i v hi short) in
      (wrote-object st g k b.0 (last-wrote st g f has 0x00 k d p refl i v hi fm), (call_kept st g k b.0).well)
  pieces-put _ _ _ (next st k ks a d p rest) g b f has e =
      pieces-put (leaves (call st k)) ks d rest (call_kept st g k b.0).well b.1 (f ++ a)
      (subst (λ (x : State). Has x (f ++ a)) (sym (leaves-held st g f has 0x10 k a p refl)) (held_has st g f has 0x10 k a p)) (append_assoc f a d ∙ e)
  pieces-put _ _ _ (refused st k ks d r q rest) g b f has e =
      pieces-put (leaves (call st k)) ks d rest (call_kept st g k b.0).well b.1 f (subst (λ (x : State). Has x f) (sym (refused-leaves st g k r q)) has) e
