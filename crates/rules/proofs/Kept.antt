-- Kept: what one command and the result of one job keep, whatever they say.
--
--   Zero w n               w is zero from the place n on
--   Fine st                what holds of a state while a command is obeyed
--   Well st                what holds of a state between two calls
--   Moved s t x            of the objects in s, t has another in place of the one that x names, and no other change
--   Kept s x               what comes of a command made on the store s is well, and its store has moved so
--   command-kept           a command
--   finished-kept          the result of a job
--
-- Assumes nothing.
use Rattle.std.specs.Prelude.{Option, None, Some, Ok, Err}
use mathlib.Core.Path.{◌≡◌, refl, ap, sym, ◌∙◌, subst}
use mathlib.Core.Logic.{inr}
use mathlib.Core.Bool.{Bool, true, false, not, ◌&&◌, ◌||◌, true≢false, false≢true}
use mathlib.Core.List.{List, [], ◌∷◌}
use Prim.Native.Nat.{ℕ, zero, suc, ◌+◌, ◌-◌, ◌≤◌, ◌<◌}
use native.Mathlib.Omega.{arith}
use lib.Dec.{ltb, leb, eqb}
use lib.ListN.{length, take, get_or, length-append, length-take, get_or-replicate}
use borrow.Author.Tests.{eqb-true, eqb-false, ltb-true, ltb-false, leb-true, leb-false, le-leb, lt-ltb, not-true, not-false}
use Rattle.rules.specs.declared.Chain.{Chain}
use Rattle.rules.specs.declared.Rest.{Rest}
use Rattle.rules.specs.declared.Job.{Job}
use Rattle.rules.specs.declared.Place.{Place}
use Rattle.rules.specs.Objects.{Put}
use Rattle.rules.specs.declared.Admin.{Admin}
use Rattle.rules.specs.declared.Admin.TheVariants.{GiveChallenge, Reply}
use Rattle.rules.specs.declared.Header.{Header}
use Rattle.rules.specs.Command.{Checked}
use Rattle.rules.specs.declared.Session.{Session}
use Rattle.rules.specs.Bytes.{iff, all, part, splice, zeros, zeroed, word}
use Rattle.rules.specs.Book.{book}
use Rattle.rules.specs.Ber.{ber_length, length_form, tlv}
use Rattle.rules.specs.Reference.{reference_at}
use Rattle.rules.specs.Store.{work_size, slots, capacity, object_of, takes, put_object, pin_at, key_place, algorithm_of, algorithm_ok, well_formed}
use Rattle.rules.specs.Session.{State, in_session, with_admin, chain_length, whole_length, held_length, chain_open, rest_held, challenge_held, running, job_open, auth_total, chain_ok, rest_ok, user_key, user_algorithm, key_job_ok, job_ok, possible, rest_of}
use Rattle.rules.specs.Command.{le_of, header, field_of, parse_long, parse, known, contact_only, admit, admitted, check, Wrote, nothing, in_slot, Made, says}
use Rattle.rules.specs.Held.{calm, dropped, send, fetch, goes_on, based, gathered, held_piece, closed_work, closed, piece, chain_of}
use Rattle.rules.specs.Pin.{Refs, after, Said, refs_in, refs_onto, refs, put_refs, on_refs}
use Rattle.rules.specs.Objects.{template, select, asked_in, object_tag, give_object, get_slot, get_asked, get_data, get_rest, get_response, put_form, stored, put_slot, put_whole, put_each, put_piece, put_data}
use Rattle.rules.specs.Keys.{key_fits, auth_each, contents, replied, opened, auth_admin, auth_key, auth_in, auth_form, auth_whole, auth_piece, authenticate, result_ok, result_fits, challenged, answered, finished}
use Rattle.rules.specs.Calls.{ruled, obeyed, command}
use Rattle.rules.specs.Claims.Lengths.{Bytes}
use Rattle.rules.proofs.Tests.{either, branch, off, and_left, and_right, and_both, and_end, and-other, by_order, by_equal}
use Rattle.rules.proofs.Lists.{length-splice, splice_in, splice-after, length_part, get_or-part, length-zeros}
use Rattle.rules.proofs.Possible.{Tests, possible_tests, possible_by, held_fits_by, no_chain, no_rest, none_open}
use Rattle.rules.proofs.Slots.{Sound, slot-from, object-length, capacity_small, put-before}
use Rattle.rules.proofs.Refs.{refs_onto_lem}
use Rattle.rules.proofs.WellFormed.{wf_tests, wf_size, wf_sound}
use Rattle.rules.proofs.StaysWell.{RefsOk, refs-ok, refs-sized-ok, onto_apart, wf_put, wf_onto, verify-ok, change-ok, reset-ok}

-- ---- states

abbrev pub Zero : List ℕ → ℕ → Type 0
Zero w n = (j : ℕ) → n ≤ j → get_or w j 0 ≡ 0

-- no job is open
pub record Fine (st : State) : Type 0 where
  pub wf : well_formed st.store ≡ true
  pub size : length st.work ≡ work_size
  pub zero : Zero st.work (held_length st.session)
  pub chain : chain_ok st.session.chain ≡ true
  pub rest : rest_ok st.session.rest ≡ true
  pub apart : not (chain_open st.session.chain && rest_held st.session.rest) ≡ true
  pub idle : st.session.job ≡ None
  pub full : st.session.pin ≡ true → (reference_at st.store pin_at).left ≡ (reference_at st.store pin_at).limit
  pub contact : st.session.pin ≡ true → st.session.contactless ≡ false
  pub served : st.session.admin ≡ true → st.session.contactless ≡ false

pub record Well (st : State) : Type 0 where
  pub wf : well_formed st.store ≡ true
  pub size : length st.work ≡ work_size
  pub zero : Zero st.work (held_length st.session)
  pub session : possible st.session ≡ true
  pub full : st.session.pin ≡ true → (reference_at st.store pin_at).left ≡ (reference_at st.store pin_at).limit
  pub contact : st.session.pin ≡ true → st.session.contactless ≡ false
  pub served : st.session.admin ≡ true → st.session.contactless ≡ false

abbrev pub Moved : List ℕ → List ℕ → Wrote → Type 0
Moved s t nothing = (j : ℕ) → 32 ≤ j → get_or t j 0 ≡ get_or s j 0
Moved s t (in_slot i v) = (i < slots) × (length v ≤ capacity i) × (t ≡ put_object s i v)

pub record Kept (s : List ℕ) (x : Made) : Type 0 where
  pub well : Well x.after
  pub moved : Moved s x.after.store x.wrote

idle_alone : (j : Option Job) (b : Bool) → j ≡ None → (not (running j && b) ≡ true) × (job_ok j ≡ true)
idle_alone None b e = (refl, refl)
idle_alone (Some j) b e = absurd (true≢false (ap running e))

pub fine_well : (st : State) → Fine st → Well st
fine_well st f =
    let i = idle_alone st.session.job (chain_open st.session.chain || rest_held st.session.rest || challenge_held st.session.challenge) f.idle in
    record {
      wf = f.wf;
      size = f.size;
      zero = f.zero;
      session = possible_by st.session (record { chain = f.chain; rest = f.rest; apart = f.apart; alone = i.0; job = i.1 });
      full = f.full;
      contact = f.contact;
      served = f.served;
    }

not_open : (j : Option Job) → running j ≡ false → j ≡ None
not_open None e = refl
not_open (Some j) e = absurd (true≢false e)

pub well_fine : (st : State) → Well st → job_open st.session ≡ false → Fine st
well_fine st g e =
    let t : Tests st.session = possible_tests st.session g.session in
    record {
      wf = g.wf;
      size = g.size;
      zero = g.zero;
      chain = t.chain;
      rest = t.rest;
      apart = t.apart;
      idle = not_open st.session.job e;
      full = g.full;
      contact = g.contact;
      served = g.served;
    }

-- ---- what is held

pub held_fits : (st : State) → Fine st → held_length st.session ≤ work_size
held_fits st f = held_fits_by st.session.chain st.session.rest f.chain f.rest f.apart

zeroed-zero : (w : List ℕ) (n m : ℕ) → n ≤ length w → m ≤ n → Zero w n → Zero (zeroed w n) m
unfolding zeroed zeros
zeroed-zero w n m h l z j a =
    let fits : 0 + length (zeros n) ≤ length w = omega (arith, length-zeros n) in
    by_order j n
    (λ p. ap (λ (i : ℕ). get_or (splice w 0 (zeros n)) i 0) (omega arith) ∙ splice_in w (zeros n) 0 fits j (omega (arith, length-zeros n)) ∙ get_or-replicate n j 0 0 p)
    (λ p. splice-after w (zeros n) 0 fits j (omega (arith, length-zeros n)) ∙ z j p)

pub length-zeroed : (w : List ℕ) (n : ℕ) → n ≤ length w → length (zeroed w n) ≡ length w
unfolding zeroed
length-zeroed w n h = length-splice w (zeros n) 0 (omega (arith, length-zeros n))

pub fine_dropped : (st : State) → Fine st → Fine (dropped st)
unfolding dropped
fine_dropped st f =
    let h : held_length st.session ≤ length st.work = omega (arith, held_fits st f, f.size) in
    record {
      wf = f.wf;
      size = length-zeroed st.work (held_length st.session) h ∙ f.size;
      zero = zeroed-zero st.work (held_length st.session) 0 h (omega arith) f.zero;
      chain = refl;
      rest = refl;
      apart = refl;
      idle = f.idle;
      full = f.full;
      contact = f.contact;
      served = f.served;
    }

-- ---- answers

says-kept : (st : State) → Fine st → (sw : ℕ) → Kept st.store (says st sw)
says-kept st f sw = record { well = fine_well st f; moved = λ j h. refl }

send-kept : (st : State) → Fine st → held_length st.session ≡ 0 → (le : ℕ) (d : List ℕ) → length d ≤ work_size → Kept st.store (send st le d)
unfolding send
send-kept st f none le d short =
    branch (Kept st.store) _ (λ b. record { well = fine_well st f; moved = λ j h. refl })
    λ b. let fits : 0 + length d ≤ length st.work = omega (arith, f.size) in
    record {
      well = fine_well _ (record {
        wf = f.wf;
        size = length-splice st.work d 0 fits ∙ f.size;
        zero = λ j h. splice-after st.work d 0 fits j h ∙ f.zero j (omega (arith, none));
        chain = refl;
        rest = and_both (leb (length d) work_size) (ltb le (length d)) (le-leb _ _ short) (lt-ltb le (length d) (leb-false (length d) le b));
        apart = refl;
        idle = f.idle;
        full = f.full;
        contact = f.contact;
        served = f.served;
      });
      moved = λ j h. refl;
    }

ber_short : (n : ℕ) → length (ber_length n) ≤ 3
unfolding ber_length length_form word
ber_short n = either (λ (l : List ℕ). length l ≤ 3) _ (omega arith) (either (λ (l : List ℕ). length l ≤ 3) _ (omega arith) (omega arith))

pub tlv_short : (tag : ℕ) (v : List ℕ) → length (tlv tag v) ≤ 4 + length v
unfolding tlv
tlv_short tag v = simp length-append (omega (arith, ber_short (length v)))

template_short : length template ≤ work_size
unfolding book
template_short = leb-true (length template) work_size refl

pub object_short : (s : List ℕ) → well_formed s ≡ true → (i : ℕ) → i < slots → length (tlv (object_tag i) (object_of s i)) ≤ work_size
object_short s w i h = omega (arith, tlv_short (object_tag i) (object_of s i), object-length s (wf_sound s w) i h, (wf_sound s w).lengths i h, capacity_small i h)

module _ (st : State) (f : Fine st) (none : held_length st.session ≡ 0) where
  select_kept : (h : Header) (d : List ℕ) → Kept st.store (select st h d)
  unfolding select
  select_kept h d = either (Kept st.store) _ (says-kept st f _) (either (Kept st.store) _ (says-kept st f _) (send-kept st f none _ template template_short))

  asked-kept : (le : ℕ) (a : Option ℕ) → Kept st.store (get_asked st le a)
  unfolding get_asked get_slot give_object
  asked-kept le None = says-kept st f _
  asked-kept le (Some i) =
      branch (Kept st.store) _ (λ b. says-kept st f _)
      λ hi. either (Kept st.store) _ (says-kept st f _)
      (either (Kept st.store) _ (says-kept st f _) (send-kept st f none le _ (object_short st.store f.wf i (ltb-true i slots (not-false _ hi)))))

  data-kept : (h : Header) (d : List ℕ) → Kept st.store (get_data st h d)
  unfolding get_data
  data-kept h d = either (Kept st.store) _ (says-kept st f _) (asked-kept h.le (asked_in d))

-- ---- GET RESPONSE

module _ (st : State) (f : Fine st) where
  drop-kept : (sw : ℕ) → Kept st.store (says (dropped st) sw)
  unfolding dropped
  drop-kept sw = says-kept (dropped st) (fine_dropped st f) sw

  fetch-kept : (le whole k : ℕ) → st.session.rest ≡ Some (rest_of whole k) → Kept st.store (fetch st le whole k)
  unfolding fetch
  fetch-kept le whole k e =
      let ok : (leb whole work_size && ltb k whole) ≡ true = subst (λ (r : Option Rest). rest_ok r ≡ true) e f.rest in
      let c : chain_length st.session.chain ≡ 0 = no_chain st.session.chain st.session.rest f.apart (ap rest_held e) in
      let n : whole_length st.session.rest ≡ whole = ap whole_length e in
      branch (Kept st.store) _ (λ b. unfold dropped in record { well = fine_well _ (fine_dropped st f); moved = λ j h. refl })
      λ b. record {
        well = fine_well _ (record {
          wf = f.wf;
          size = f.size;
          zero = λ j h. f.zero j (omega (arith, c, n));
          chain = refl;
          rest = and_both (leb whole work_size) (ltb (k + le) whole) (and_left _ _ ok) (lt-ltb (k + le) whole (omega (arith, leb-false (whole - k) le b)));
          apart = refl;
          idle = f.idle;
          full = f.full;
          contact = f.contact;
          served = f.served;
        });
        moved = λ j h. refl;
      }

  rest-kept : (le : ℕ) (r : Option Rest) → st.session.rest ≡ r → Kept st.store (get_rest st le r)
  unfolding get_rest
  rest-kept le None e = drop-kept _
  rest-kept le (Some r) e = fetch-kept le r.whole r.fetched e

  response_kept : (h : Header) (d : List ℕ) → Kept st.store (get_response st h d)
  unfolding get_response
  response_kept h d =
      either (Kept st.store) _ (drop-kept _) (either (Kept st.store) _ (drop-kept _) (rest-kept h.le st.session.rest refl))

  -- ---- references

  refs-kept : st.session.contactless ≡ false → (x : Said) → RefsOk (after (refs st) x) → Kept st.store (on_refs st x)
  unfolding on_refs put_refs refs refs_in
  refs-kept air x k =
      let r : Refs = after (refs st) x in
      let h : 28 ≤ length st.store = omega (arith, wf_size st.store f.wf) in
      let e : refs_in (refs_onto st.store r) r.given ≡ r = refs_onto_lem st.store r (refs-sized-ok r k) h in
      record {
        well = fine_well _ (record {
          wf = wf_onto st.store r f.wf k;
          size = f.size;
          zero = f.zero;
          chain = f.chain;
          rest = f.rest;
          apart = f.apart;
          idle = f.idle;
          full = λ g. subst (λ (q : Refs). q.pin.left ≡ q.pin.limit) (sym e) (k.full g);
          contact = λ g. air;
          served = f.served;
        });
        moved = λ j a. onto_apart st.store r (refs-sized-ok r k) h j (inr (omega arith));
      }

-- ---- pieces

module _ (st : State) (f : Fine st) (none : whole_length st.session.rest ≡ 0) (h : Header) (d : List ℕ) where
  piece_fine : chain_ok (Some (chain_of h (chain_length st.session.chain + length d))) ≡ true → Fine (held_piece st h d)
  unfolding held_piece
  piece_fine ok =
      let n : ℕ = chain_length st.session.chain in
      let l : n + length d ≤ work_size = leb-true (n + length d) work_size (and_left (leb (n + length d) work_size) _ ok) in
      let fits : n + length d ≤ length st.work = omega (arith, f.size) in
      record {
        wf = f.wf;
        size = length-splice st.work d n fits ∙ f.size;
        zero = λ j a. splice-after st.work d n fits j (omega arith) ∙ f.zero j (omega (arith, none));
        chain = ok;
        rest = refl;
        apart = refl;
        idle = f.idle;
        full = f.full;
        contact = f.contact;
        served = f.served;
      }

  held_kept : chain_ok (Some (chain_of h (chain_length st.session.chain + length d))) ≡ true → Kept st.store (says (held_piece st h d) 0x9000)
  unfolding held_piece
  held_kept ok = record { well = fine_well _ (piece_fine ok); moved = λ j a. refl }

  closed-zero : (c : Option Chain) → Zero st.work (chain_length c) → chain_length c + length d ≤ length st.work
      → (length (closed_work st.work c (length d)) ≡ length st.work) × Zero (closed_work st.work c (length d)) 0
  unfolding closed_work
  closed-zero None z l = (refl, z)
  closed-zero (Some c) z l = (length-zeroed st.work (c.len + length d) l, zeroed-zero st.work (c.len + length d) 0 l (omega arith) (λ j a. z j (omega arith)))

  closed_fine : chain_length st.session.chain + length d ≤ work_size → Fine (closed st d)
  unfolding closed
  closed_fine l =
      let z = closed-zero st.session.chain (λ j a. f.zero j (omega (arith, none))) (omega (arith, f.size)) in
      record {
        wf = f.wf;
        size = z.0 ∙ f.size;
        zero = λ j a. z.1 j (omega arith);
        chain = refl;
        rest = refl;
        apart = refl;
        idle = f.idle;
        full = f.full;
        contact = f.contact;
        served = f.served;
      }

  piece-kept : (sw : ℕ) (whole : State → List ℕ → Made)
      → (sw ≡ 0x9000 → chain_ok (Some (chain_of h (chain_length st.session.chain + length d))) ≡ true)
      → (sw ≡ 0x9000 → Fine (closed st d) → Kept st.store (whole (closed st d) (gathered st d)))
      → Kept st.store (piece st h d sw whole)
  unfolding piece
  piece-kept sw whole ok k =
      branch (Kept st.store) _ (λ b. drop-kept st f sw)
      λ b. let e : sw ≡ 0x9000 = eqb-true sw 0x9000 (not-false _ b) in
      let n : ℕ = chain_length st.session.chain + length d in
      either (Kept st.store) _ (held_kept (ok e))
      (k e (closed_fine (leb-true n work_size (and_left (leb n work_size) _ (ok e)))))

-- the state that a chaining command starts from
pub record Starts (s : List ℕ) (ss : Session) (st : State) : Type 0 where
  pub fine : Fine st
  pub none : whole_length st.session.rest ≡ 0
  pub store : st.store ≡ s
  pub calm : challenge_held st.session.challenge ≡ challenge_held ss.challenge

pub goes_open : (c : Option Chain) (h : Header) → goes_on c h ≡ true → chain_open c ≡ true
unfolding goes_on
goes_open None h e = e
goes_open (Some o) h e = refl

pub based-starts : (st : State) → Fine st → (h : Header) → Starts st.store st.session (based st h)
unfolding based
based-starts st f h =
    branch (Starts st.store st.session) _
    (λ b. record { fine = f; none = no_rest st.session.chain st.session.rest f.apart (goes_open st.session.chain h b); store = refl; calm = refl })
    (λ b. unfold dropped in record { fine = fine_dropped st f; none = refl; store = refl; calm = refl })

-- ---- PUT DATA

pub part_short : (d : List ℕ) (from n : ℕ) → length (part d from n) ≤ n
unfolding part
part_short d from n = simp length-take (omega arith)

stored-kept : (st : State) → Fine st → (i : ℕ) (v : List ℕ) → i < slots → length v ≤ capacity i → Kept st.store (stored st i v)
unfolding stored reference_at
stored-kept st f i v hi hv =
    let so : Sound st.store = wf_sound st.store f.wf in
    let low : (j : ℕ) → j < 32 → get_or (put_object st.store i v) j 0 ≡ get_or st.store j 0 =
    λ j h. put-before st.store i v hi hv so.size j (omega (arith, slot-from i hi)) in
    record {
      well = fine_well _ (record {
        wf = wf_put st.store i v hi hv f.wf;
        size = f.size;
        zero = f.zero;
        chain = f.chain;
        rest = f.rest;
        apart = f.apart;
        idle = f.idle;
        full = λ g. low 9 (omega arith) ∙ f.full g ∙ sym (low 8 (omega arith));
        contact = f.contact;
        served = f.served;
      });
      moved = (hi, hv, refl);
    }

pub takes_fits : (s : List ℕ) (i n from : ℕ) (d : List ℕ) → takes s i n ≡ true → length (part d from n) ≤ capacity i
unfolding takes
takes_fits s i n from d e = omega (arith, leb-true n (capacity i) e, part_short d from n)

slot_kept : (st : State) → Fine st → (d : List ℕ) (p : Option Put) → Kept st.store (put_slot st d p)
unfolding put_slot
slot_kept st f d None = says-kept st f _
slot_kept st f d (Some p) =
    branch (Kept st.store) _ (λ b. says-kept st f _)
    λ a. branch (Kept st.store) _ (λ b. says-kept st f _)
    λ b. stored-kept st f p.slot (part d p.value.from p.value.len) (ltb-true p.slot slots (not-false _ a)) (takes_fits st.store p.slot p.value.len p.value.from d (not-false _ b))

-- 9000 only within the total
pub put_total_lem : (st : State) (h : Header) (n : ℕ) → put_each st h n ≡ 0x9000 → n ≤ work_size
unfolding put_each
put_total_lem st h n =
    either (λ (x : ℕ). x ≡ 0x9000 → n ≤ work_size) _ (λ e. absurd (omega (arith, e)))
    (either (λ (x : ℕ). x ≡ 0x9000 → n ≤ work_size) _ (λ e. absurd (omega (arith, e)))
    (branch (λ (x : ℕ). x ≡ 0x9000 → n ≤ work_size) _ (λ b e. absurd (omega (arith, e))) (λ b e. ltb-false work_size n b)))

put_chain : (h : Header) (n : ℕ) → h.ins ≡ 0xDB → n ≤ work_size → chain_ok (Some (chain_of h n)) ≡ true
unfolding iff
put_chain h n e l = rw e (and_both (leb n work_size) true (le-leb _ _ l) refl)

put-kept : (st : State) → Fine st → (h : Header) → h.ins ≡ 0xDB → (d : List ℕ) → Kept st.store (put_data st h d)
unfolding put_data put_piece put_whole
put-kept st f h ins d =
    let g : Starts st.store st.session (based st h) = based-starts st f h in
    let b : State = based st h in
    subst (λ (s : List ℕ). Kept s (put_piece b h d)) g.store
    (piece-kept b g.fine g.none h d _ put_whole
    (λ e. put_chain h _ ins (put_total_lem b h _ e)) (λ e c. unfold closed in slot_kept (closed b d) c (gathered b d) (put_form (gathered b d))))

-- ---- GENERAL AUTHENTICATE

-- an expected length is 1 to 256
pub record Fits (h : Header) : Type 0 where
  pub some : 1 ≤ h.le
  pub most : h.le ≤ 256

all_at : (p : ℕ → Bool) (l : List ℕ) → all p l ≡ true → (i : ℕ) → i < length l → p (get_or l i 0) ≡ true
all_at p [] e i h = absurd (omega arith)
all_at p (x ∷ xs) e zero h = and_left (p x) _ e
all_at p (x ∷ xs) e (suc i) h = all_at p xs (and_right (p x) _ e) i (omega arith)

pub key_low : (x : ℕ) → 28 ≤ key_place x
unfolding key_place
key_low x = either (λ (n : ℕ). 28 ≤ n) _ (omega arith) (either (λ (n : ℕ). 28 ≤ n) _ (omega arith) (either (λ (n : ℕ). 28 ≤ n) _ (omega arith) (omega arith)))

pub key_high : (x : ℕ) → key_place x < 32
unfolding key_place
key_high x = either (λ (n : ℕ). n < 32) _ (omega arith) (either (λ (n : ℕ). n < 32) _ (omega arith) (either (λ (n : ℕ). n < 32) _ (omega arith) (omega arith)))

algorithm-ok : (s : List ℕ) → well_formed s ≡ true → (key : ℕ) → algorithm_ok (algorithm_of s key) ≡ true
unfolding algorithm_of
algorithm-ok s w key =
    let l : 28 + 4 ≤ length s = omega (arith, wf_size s w) in
    let k : key_place key - 28 < 4 = omega (arith, key_low key, key_high key) in
    subst (λ (x : ℕ). algorithm_ok x ≡ true) (get_or-part s 28 4 l (key_place key - 28) k ∙ ap (λ (n : ℕ). get_or s n 0) (omega (arith, key_low key)))
    (all_at algorithm_ok (part s 28 4) (wf_tests s w).keys (key_place key - 28) (omega (arith, length_part s 28 4 l)))

-- what passes the rules for each piece
pub record Passes (st : State) (h : Header) (n : ℕ) : Type 0 where
  pub range : (leb 0x9A h.p2 && leb h.p2 0x9E) ≡ true
  pub fits : key_fits st.store h ≡ true
  pub near : (st.session.contactless && not (eqb h.p2 0x9E)) ≡ false
  pub total : n ≤ auth_total

pub auth_passes : (st : State) (h : Header) (n : ℕ) → auth_each st h n ≡ 0x9000 → Passes st h n
unfolding auth_each
auth_passes st h n =
    branch (λ (x : ℕ). x ≡ 0x9000 → Passes st h n) _ (λ b e. absurd (omega (arith, e)))
    λ b1. branch (λ (x : ℕ). x ≡ 0x9000 → Passes st h n) _ (λ b e. absurd (omega (arith, e)))
    λ b2. branch (λ (x : ℕ). x ≡ 0x9000 → Passes st h n) _ (λ b e. absurd (omega (arith, e)))
    λ b3. branch (λ (x : ℕ). x ≡ 0x9000 → Passes st h n) _ (λ b e. absurd (omega (arith, e)))
    λ b4. branch (λ (x : ℕ). x ≡ 0x9000 → Passes st h n) _ (λ b e. absurd (omega (arith, e)))
    λ b5 e. record { range = not-false _ b1; fits = not-false _ b2; near = b3; total = ltb-false auth_total n b5 }

user_key_lem : (key : ℕ) → (leb 0x9A key && leb key 0x9E) ≡ true → eqb key 0x9B ≡ false → user_key key ≡ true
unfolding user_key
user_key_lem key e ne =
    let low : 0x9A ≤ key = leb-true 0x9A key (and_left _ _ e) in
    let high : key ≤ 0x9E = leb-true key 0x9E (and_right (leb 0x9A key) _ e) in
    let no : key ≡ 0x9B → ⊥ = eqb-false key 0x9B ne in
    by_equal key 0x9A (λ q. rw q)
    (λ a. by_equal key 0x9C (λ q. rw q) (λ b. by_equal key 0x9D (λ q. rw q) (λ c. let q : key ≡ 0x9E = omega arith in rw q)))

user_algorithm_lem : (a : ℕ) → algorithm_ok a ≡ true → eqb a 0 ≡ false → user_algorithm a ≡ true
unfolding algorithm_ok user_algorithm
user_algorithm_lem a e ne = rw ne at e

key_job : (st : State) → Fine st → (h : Header) (n : ℕ) → Passes st h n → eqb h.p2 0x9B ≡ false → key_job_ok h.p2 h.p1 ≡ true
unfolding key_job_ok key_fits
key_job st f h n p ne =
    let a : ℕ = algorithm_of st.store h.p2 in
    let e : (not (eqb a 0x00) && eqb h.p1 a) ≡ true = sym (off _ _ _ ne) ∙ p.fits in
    let q : h.p1 ≡ a = eqb-true h.p1 a (and_right (not (eqb a 0)) _ e) in
    off _ _ _ ne ∙ and_both _ _ (user_key_lem h.p2 p.range ne) (rw q (user_algorithm_lem a (algorithm-ok st.store f.wf h.p2) (not-true _ (and_left _ _ e))))

-- a state with no chain, no rest and no challenge
pub record Bare (st : State) : Type 0 where
  pub fine : Fine st
  pub chain : chain_open st.session.chain ≡ false
  pub rest : rest_held st.session.rest ≡ false
  pub calm : challenge_held st.session.challenge ≡ false

module _ (st : State) (k : Bare st) where
  f : Fine st
  f = k.fine

  opened-kept : (key alg le : ℕ) (d : List ℕ) → key_job_ok key alg ≡ true → 1 ≤ le → le ≤ 256 → Kept st.store (opened st key alg le d)
  unfolding opened
  opened-kept key alg le d ok low high = record {
    well = record {
      wf = f.wf;
      size = f.size;
      zero = f.zero;
      session = possible_by _ (record {
        chain = f.chain;
        rest = f.rest;
        apart = f.apart;
        alone = rw (k.chain, k.rest, k.calm);
        job = and_both (key_job_ok key alg && leb 1 le) (leb le 256) (and_both _ _ ok (le-leb 1 le low)) (le-leb le 256 high);
      });
      full = f.full;
      contact = f.contact;
      served = f.served;
    };
    moved = λ j a. refl;
  }

  admin_fine : (b : Bool) → (b ≡ true → st.session.contactless ≡ false) → (sw : ℕ) → Kept st.store (says (in_session st (with_admin st.session b)) sw)
  admin_fine b near sw = record {
    well = fine_well _ (record {
      wf = f.wf;
      size = f.size;
      zero = f.zero;
      chain = f.chain;
      rest = f.rest;
      apart = f.apart;
      idle = f.idle;
      full = f.full;
      contact = f.contact;
      served = near;
    });
    moved = λ j a. refl;
  }

  replied-kept : st.session.contactless ≡ false → (ch : Option ℕ) (r : ℕ) → Kept st.store (replied st ch r)
  unfolding replied
  replied-kept near None r = says-kept st f _
  replied-kept near (Some reply) r = either (Kept st.store) _ (admin_fine true (λ e. near) _) (admin_fine false (λ e. absurd (false≢true e)) _)

  admin_kept : st.session.contactless ≡ false → (ch : Option ℕ) (le : ℕ) (t : List ℕ) (a : Option Admin) → 1 ≤ le → le ≤ 256 → Kept st.store (auth_admin ch st le t a)
  unfolding auth_admin key_job_ok iff
  admin_kept near ch le t (Some GiveChallenge) low high = opened-kept 0x9B 0x00 le [] refl low high
  admin_kept near ch le t (Some (Reply from)) low high = replied-kept near ch _
  admin_kept near ch le t None low high = says-kept st f _

  key_kept : (h : Header) (t : List ℕ) (x : Option Place) → Fits h → key_job_ok h.p2 h.p1 ≡ true → Kept st.store (auth_key st h t x)
  unfolding auth_key
  key_kept h t None l ok = says-kept st f _
  key_kept h t (Some v) l ok = opened-kept _ _ _ _ ok l.some l.most

  form_kept : (ch : Option ℕ) (h : Header) (n : ℕ) (d : List ℕ) (x : Option Place) → Fits h → Passes st h n → Kept st.store (auth_form ch h st d x)
  unfolding auth_form auth_in
  form_kept ch h n d None l p = says-kept st f _
  form_kept ch h n d (Some v) l p =
      branch (Kept st.store) _
      (λ b. let q : (st.session.contactless && not (eqb 0x9B 0x9E)) ≡ false = subst (λ (x : ℕ). (st.session.contactless && not (eqb x 0x9E)) ≡ false) (eqb-true h.p2 0x9B b) p.near in
      admin_kept (sym (and_end st.session.contactless) ∙ q) ch h.le _ _ l.some l.most)
      (λ b. key_kept h _ _ l (key_job st f h n p b))

auth_chain : (h : Header) (n : ℕ) → h.ins ≡ 0x87 → n ≤ auth_total → chain_ok (Some (chain_of h n)) ≡ true
unfolding iff
auth_chain h n e l = rw e (and_both (leb n work_size) (leb n auth_total) (le-leb n work_size (omega arith)) (le-leb _ _ l))

module _ (ch : Option ℕ) (h : Header) (l : Fits h) (d : List ℕ) where
  whole-kept : (st : State) (n : ℕ) → Passes st h n → challenge_held st.session.challenge ≡ false → Fine (closed st d) → Kept st.store (auth_whole ch h (closed st d) (gathered st d))
  unfolding auth_whole closed
  whole-kept st n p still c =
      form_kept (closed st d) (record { fine = c; chain = refl; rest = refl; calm = still }) ch h n (gathered st d) (contents (gathered st d)) l
      (record { range = p.range; fits = p.fits; near = p.near; total = p.total })

  auth_kept : (st : State) → Fine st → challenge_held st.session.challenge ≡ false → h.ins ≡ 0x87 → Kept st.store (authenticate ch st h d)
  unfolding authenticate auth_piece
  auth_kept st k still ins =
      let g : Starts st.store st.session (based st h) = based-starts st k h in
      let b : State = based st h in
      let n : ℕ = chain_length b.session.chain + length d in
      subst (λ (s : List ℕ). Kept s (auth_piece ch b h d)) g.store
      (piece-kept b g.fine g.none h d (auth_each b h n) (auth_whole ch h)
      (λ e. auth_chain h n ins (auth_passes b h n e).total) (λ e c. whole-kept b n (auth_passes b h n e) (g.calm ∙ still) c))

-- ---- a command

-- a command that passes the checks
pub record Checks (air : Bool) (h : Header) : Type 0 where
  pub listed : known h.ins ≡ true
  pub near : (contact_only h.ins && air) ≡ false
  pub fits : Fits h

abbrev pub Right : Bool → Checked → Type 0
Right air (Err sw) = Unit {0}
Right air (Ok h) = Checks air h

abbrev Long : Checked → Type 0
Long (Err sw) = Unit {0}
Long (Ok h) = Fits h

le_fits : (b : ℕ) → b < 256 → (1 ≤ le_of b) × (le_of b ≤ 256)
unfolding le_of
le_fits b l =
    branch (λ (n : ℕ). (1 ≤ n) × (n ≤ 256)) _ (λ e. (omega arith, omega arith)) (λ e. let ne : b ≡ 0 → ⊥ = eqb-false b 0 e in (omega arith, omega arith))

header_fits : (c : List ℕ) → Bytes c → (lc i : ℕ) → Fits (header c lc (le_of (get_or c i 0)))
unfolding header
header_fits c by lc i = record { some = (le_fits _ (by i)).0; most = (le_fits _ (by i)).1 }

header_most : (c : List ℕ) (lc : ℕ) → Fits (header c lc 256)
unfolding header
header_most c lc = record { some = omega arith; most = omega arith }

parse-long : (c : List ℕ) → Bytes c → Long (parse c)
unfolding parse parse_long
parse-long c by =
    either Long _ tt (either Long _ (header_most c 0) (either Long _ (header_fits c by 0 4)
    (either Long _ tt (either Long _ (header_most c _) (either Long _ (header_fits c by _ _) tt)))))

admit-right : (air : Bool) (x : Checked) → Long x → Right air (admitted air x)
unfolding admitted admit
admit-right air (Err sw) f = tt
admit-right air (Ok h) f =
    either (Right air) _ tt
    (either (Right air) _ tt
    (branch (Right air) _ (λ b. tt)
    λ a. either (Right air) _ tt (branch (Right air) _ (λ b. tt) (λ b. record { listed = not-false _ a; near = b; fits = f }))))

pub check-right : (air : Bool) (c : List ℕ) → Bytes c → Right air (check air c)
unfolding check
check-right air c by = admit-right air (parse c) (parse-long c by)

contact_by : (ins : ℕ) (air : Bool) (n : ℕ) → contact_only n ≡ true → (contact_only ins && air) ≡ false → eqb ins n ≡ true → air ≡ false
contact_by ins air n c e q = and-other (contact_only ins) air e (ap contact_only (eqb-true ins n q) ∙ c)

known-contact : (contact_only 0x20 ≡ true) × (contact_only 0x24 ≡ true) × (contact_only 0x2C ≡ true)
unfolding contact_only
known-contact = (refl, refl, refl)

-- what is none of the others
last-known : (ins : ℕ) → known ins ≡ true → eqb ins 0xA4 ≡ false → eqb ins 0xCB ≡ false → eqb ins 0xC0 ≡ false → eqb ins 0x20 ≡ false
    → eqb ins 0x24 ≡ false → eqb ins 0x2C ≡ false → eqb ins 0x87 ≡ false → ins ≡ 0xDB
unfolding known
last-known ins e b1 b2 b3 b4 b5 b6 b7 = eqb-true ins 0xDB (rw (b1, b2, b3, b4, b5, b6, b7) at e)

module _ (st : State) (f : Fine st) (h : Header) (d : List ℕ) where
  ok : RefsOk (refs st)
  unfolding refs
  ok = refs-ok st.store st.session.pin f.wf f.full

  rule-kept : st.session.contactless ≡ false → (x : Said) → RefsOk (after (refs st) x) → Kept st.store (on_refs (dropped st) x)
  unfolding dropped refs
  rule-kept near x k = refs-kept (dropped st) (fine_dropped st f) near x k

  ruled-kept : challenge_held st.session.challenge ≡ false → (ch : Option ℕ) → Checks st.session.contactless h → Kept st.store (ruled st ch h d)
  unfolding ruled dropped
  ruled-kept still ch c =
      let g : Fine (dropped st) = fine_dropped st f in
      let near : (n : ℕ) → contact_only n ≡ true → eqb h.ins n ≡ true → st.session.contactless ≡ false = λ n k q. contact_by h.ins _ n k c.near q in
      branch (Kept st.store) _ (λ b. select_kept (dropped st) g refl h d)
      λ b1. branch (Kept st.store) _ (λ b. data-kept (dropped st) g refl h d)
      λ b2. branch (Kept st.store) _ (λ b. response_kept st f h d)
      λ b3. branch (Kept st.store) _ (λ b. rule-kept (near 0x20 known-contact.0 b) _ (verify-ok (refs st) ok h d))
      λ b4. branch (Kept st.store) _ (λ b. rule-kept (near 0x24 known-contact.1 b) _ (change-ok (refs st) ok h d))
      λ b5. branch (Kept st.store) _ (λ b. rule-kept (near 0x2C known-contact.2 b) _ (reset-ok (refs st) ok h d))
      λ b6. branch (Kept st.store) _ (λ b. auth_kept ch h c.fits d st f still (eqb-true h.ins 0x87 b))
      λ b7. put-kept st f h (last-known h.ins c.listed b1 b2 b3 b4 b5 b6 b7) d

obeyed-kept : (st : State) → Fine st → challenge_held st.session.challenge ≡ false → (ch : Option ℕ) (c : List ℕ) (x : Checked)
    → Right st.session.contactless x → Kept st.store (obeyed st ch c x)
unfolding obeyed
obeyed-kept st f still ch c (Err sw) r = drop-kept st f _
obeyed-kept st f still ch c (Ok h) r = ruled-kept st f h (field_of c h) still ch r

pub fine_calm : (st : State) → Fine st → Fine (calm st)
unfolding calm
fine_calm st f = record {
  wf = f.wf;
  size = f.size;
  zero = f.zero;
  chain = f.chain;
  rest = f.rest;
  apart = f.apart;
  idle = f.idle;
  full = f.full;
  contact = f.contact;
  served = f.served;
}

pub command-kept : (st : State) → Fine st → (c : List ℕ) → Bytes c → Kept st.store (command st c)
unfolding command calm
command-kept st f c by = obeyed-kept (calm st) (fine_calm st f) refl st.session.challenge c _ (check-right st.session.contactless c by)

-- ---- the result of a job

-- no result is longer than 256 bytes
result_short : (key alg : ℕ) (r : List ℕ) → result_ok key alg r ≡ true → length r ≤ 256
unfolding result_ok
result_short key alg r =
    either (λ (b : Bool). b ≡ true → length r ≤ 256) _ (λ e. omega (arith, eqb-true (length r) 16 e))
    (either (λ (b : Bool). b ≡ true → length r ≤ 256) _ (λ e. omega (arith, eqb-true (length r) 256 e))
    (either (λ (b : Bool). b ≡ true → length r ≤ 256) _ (λ e. omega (arith, eqb-true (length r) 32 e))
    (λ e. omega (arith, leb-true (length r) 72 (and_right (leb 1 (length r)) _ e)))))

module _ (st : State) (f : Fine st) (none : held_length st.session ≡ 0) where
  challenged-kept : (le : ℕ) (r : List ℕ) → Kept st.store (challenged st le r)
  unfolding challenged
  challenged-kept le r =
      send-kept _
      (record {
        wf = f.wf;
        size = f.size;
        zero = f.zero;
        chain = f.chain;
        rest = f.rest;
        apart = f.apart;
        idle = f.idle;
        full = f.full;
        contact = f.contact;
        served = f.served;
      })
      none le (tlv 0x7C (tlv 0x81 (take 8 r)))
      (omega (arith, tlv_short 0x7C (tlv 0x81 (take 8 r)), tlv_short 0x81 (take 8 r), length-take 8 r))

  answered-kept : (key alg le : ℕ) (failed : Bool) (r : List ℕ) → (failed ≡ false → result_ok key alg r ≡ true) → Kept st.store (answered st key le failed r)
  unfolding answered
  answered-kept key alg le failed r fit =
      branch (Kept st.store) _ (λ b. says-kept st f _)
      λ b. either (Kept st.store) _ (challenged-kept le r)
      (send-kept st f none le (tlv 0x7C (tlv 0x82 r)) (omega (arith, tlv_short 0x7C (tlv 0x82 r), tlv_short 0x82 r, result_short key alg r (fit b))))

finished_by : (st : State) → Well st → (j : Option Job) → st.session.job ≡ j → (failed : Bool) (r : List ℕ) → (failed ≡ false → result_fits j r ≡ true) → Kept st.store (finished st j failed r)
unfolding finished result_fits
finished_by st g None e failed r fit = says-kept st (well_fine st g (ap running e)) _
finished_by st g (Some j) e failed r fit =
    let t : Tests st.session = possible_tests st.session g.session in
    answered-kept _
    (record {
      wf = g.wf;
      size = g.size;
      zero = g.zero;
      chain = t.chain;
      rest = t.rest;
      apart = t.apart;
      idle = refl;
      full = g.full;
      contact = g.contact;
      served = g.served;
    })
    (none_open st.session.chain st.session.rest (challenge_held st.session.challenge) (rw (ap running e) at t.alone))
    j.key j.alg j.le failed r fit

pub finished-kept : (st : State) → Well st → (failed : Bool) (r : List ℕ) → (failed ≡ false → result_fits st.session.job r ≡ true)
    → Kept st.store (finished st st.session.job failed r)
finished-kept st g failed r fit = finished_by st g st.session.job refl failed r fit
