-- An object stored is what GET DATA and GET RESPONSEs hand back (specs/Claims/ReadBack).
-- Assumes nothing.
use Rattle.std.specs.Prelude.{Option, None, Some, Ok, Err}
use mathlib.Core.Path.{◌≡◌, refl, ap, sym, ◌∙◌, subst}
use mathlib.Core.Bool.{false}
use mathlib.Core.List.{List, [], ◌∷◌}
use Prim.Native.Nat.{ℕ, ◌+◌, ◌≤◌, ◌<◌}
use native.Mathlib.Omega.{arith}
use lib.ListN.{get_or}
use Rattle.rules.specs.declared.Header.{Header}
use Rattle.rules.specs.Fault.{Permit}
use Rattle.rules.specs.Objects.{Put}
use Rattle.rules.specs.Bytes.{be16}
use Rattle.rules.specs.Store.{slots, offset, slot_length, object_of}
use Rattle.rules.specs.Session.{State, job_open}
use Rattle.rules.specs.Command.{field_of, check, Wrote, nothing, in_slot, Made}
use Rattle.rules.specs.Held.{calm, dropped, based, gathered, held_piece, closed, piece}
use Rattle.rules.specs.Objects.{put_form, stored, put_slot, put_whole, put_piece}
use Rattle.rules.specs.Calls.{Call, sends, permit, delivered, granted, denied, decided, call}
use Rattle.rules.specs.Runs.{leaves, end_of}
use Rattle.rules.specs.Claims.Invariants.{Plain, Each}
use Rattle.rules.specs.Claims.ReadBack.{put_field, put_open, Pieces, Untouched, Answers, Replaced, Holds}
use Rattle.rules.proofs.Tests.{either, by_equal}
use Rattle.rules.proofs.Lists.{part_ext}
use Rattle.rules.proofs.Slots.{Sound, slot_fits_lem, slot-from, put-object, put-tail, put-object-other}
use Rattle.rules.proofs.WellFormed.{wf_sound}
use Rattle.rules.proofs.Kept.{Well, Moved}
use Rattle.rules.proofs.Invariants.{After, call_kept, start-well}
use Rattle.rules.proofs.Reading.{answers}
use Rattle.rules.proofs.Gathered.{command-put, has_none, pieces-put}

-- ---- objects that stay

-- two stores that agree behind the first 32 bytes hold the same objects
objects_same : (s t : List ℕ) → Sound s → Sound t → ((j : ℕ) → 32 ≤ j → get_or t j 0 ≡ get_or s j 0) → (i : ℕ) → i < slots → object_of t i ≡ object_of s i
unfolding object_of slot_length be16
objects_same s t so st same i hi =
    let a : get_or t (offset i) 0 ≡ get_or s (offset i) 0 = same (offset i) (slot-from i hi) in
    let b : get_or t (offset i + 1) 0 ≡ get_or s (offset i + 1) 0 = same (offset i + 1) (omega (arith, slot-from i hi)) in
    rw (a, b) (part_ext t s (offset i + 2) (slot_length s i) (omega (arith, slot_fits_lem i hi, st.size, so.lengths i hi)) (omega (arith, slot_fits_lem i hi, so.size, so.lengths i hi))
    λ j p q. same j (omega (arith, slot-from i hi)))

moved_stays : (s t : List ℕ) → Sound s → Sound t → (x : Wrote) → Moved s t x → (i : ℕ) → i < slots → ((v : List ℕ) → x ≡ in_slot i v → ⊥) → object_of t i ≡ object_of s i
moved_stays s t so st nothing m i hi u = objects_same s t so st m i hi
moved_stays s t so st (in_slot k v) m i hi u =
    by_equal k i (λ e. absurd (u v (ap (λ (n : ℕ). in_slot n v) e)))
    (λ ne. ap (λ (l : List ℕ). object_of l i) m.2 ∙ put-object-other s k v m.0 m.1 so.size i hi ne (so.lengths i hi))

call_stays : (st : State) → Well st → (k : Call) → Plain k → (i : ℕ) → i < slots → ((v : List ℕ) → (call st k).wrote ≡ in_slot i v → ⊥)
    → object_of (leaves (call st k)).store i ≡ object_of st.store i
unfolding leaves
call_stays st g k b i hi u =
    let m : After st.store (call st k) = call_kept st g k b in
    moved_stays st.store (call st k).outcome.store (wf_sound _ g.wf) (wf_sound _ m.well.wf) (call st k).wrote m.moved i hi u

untouched_stays : (ks : List Call) (st : State) → Well st → Each Plain ks → (i : ℕ) → i < slots → Untouched i st ks
    → (object_of (end_of st ks).store i ≡ object_of st.store i) × Well (end_of st ks)
unfolding end_of
untouched_stays [] st g b i hi u = (refl, g)
untouched_stays (k ∷ ks) st g b i hi u =
    let r = untouched_stays ks (leaves (call st k)) (call_kept st g k b.0).well b.1 i hi u.1 in
    (r.0 ∙ call_stays st g k b.0 i hi u.0, r.1)

-- ---- back

read_back_lem : (st : State) → Well st → (pieces between : List Call) → Each Plain pieces → Each Plain between → (i : ℕ) (v : List ℕ) → i < slots
    → put_open st.session.chain ≡ false → Pieces st pieces (put_field i v) → Untouched i (end_of st pieces) between
    → job_open (end_of (end_of st pieces) between).session ≡ false → Answers (end_of (end_of st pieces) between) i v
read_back_lem st g pieces between pb bb i v hi o p u j =
    let a = pieces-put i v hi st pieces (put_field i v) p g pb [] (has_none st o) refl in
    let b = untouched_stays between (end_of st pieces) a.1 bb i hi u in
    subst (Answers (end_of (end_of st pieces) between) i) (b.0 ∙ a.0) (answers (end_of (end_of st pieces) between) b.1 j i hi)

-- ---- others, and unfinished

replaced : (st : State) → Well st → (k : Call) → Plain k → (i : ℕ) (v : List ℕ) → (call st k).wrote ≡ in_slot i v → Replaced st.store (call st k).outcome.store i v
replaced st g k b i v e =
    let m : Moved st.store (call st k).outcome.store (in_slot i v) = subst (Moved st.store (call st k).outcome.store) e (call_kept st g k b).moved in
    let so : Sound st.store = wf_sound _ g.wf in
    subst (λ (t : List ℕ). Replaced st.store t i v) (sym m.2) (record {
      slot = m.0;
      object = put-object st.store i v m.0 m.1 so.size;
      tail = λ n l h. put-tail st.store i v m.0 m.1 so.size n l h;
      others = λ j hj ne. put-object-other st.store i v m.0 m.1 so.size j hj ne (so.lengths j hj);
    })

-- a command that wrote nothing left the store
abbrev Left : List ℕ → Made → Type 0
Left s x = x.wrote ≡ nothing → x.after.store ≡ s

abbrev Wrote? : Wrote → Type 0
Wrote? nothing = ⊥
Wrote? (in_slot i v) = Unit {0}

slot-left : (st : State) (d : List ℕ) (p : Option Put) → Left st.store (put_slot st d p)
unfolding put_slot stored
slot-left st d None = λ e. refl
slot-left st d (Some p) =
    either (Left st.store) _ (λ e. refl) (either (Left st.store) _ (λ e. refl) (λ e. absurd (subst Wrote? e tt)))

piece-left : (st : State) (h : Header) (d : List ℕ) → Left st.store (put_piece st h d)
unfolding put_piece piece put_whole dropped held_piece closed
piece-left st h d =
    either (Left st.store) _ (λ e. refl) (either (Left st.store) _ (λ e. refl) (slot-left (closed st d) (gathered st d) (put_form (gathered st d))))

based-store : (st : State) (h : Header) → (based (calm st) h).store ≡ st.store
unfolding based calm dropped
based-store st h = either (λ (x : State). x.store ≡ st.store) _ refl refl

decided-left : (st : State) (resp c : List ℕ) (h : Header) → check st.session.contactless c ≡ Ok h → h.ins ≡ 0xDB → (p : Permit)
    → (decided st (sends resp c) p).wrote ≡ nothing → (decided st (sends resp c) p).outcome.store ≡ st.store
unfolding decided granted denied delivered
decided-left st resp c h e i (Ok u) =
    subst (λ (m : Made). m.wrote ≡ nothing → m.after.store ≡ st.store) (sym (command-put st c h e i))
    (subst (λ (s : List ℕ). Left s (put_piece (based (calm st) h) h (field_of c h))) (based-store st h) (piece-left (based (calm st) h) h (field_of c h)))
decided-left st resp c h e i (Err r) = λ q. refl

-- ---- the claim

put-left : (st : State) (resp c : List ℕ) (h : Header) → check st.session.contactless c ≡ Ok h → h.ins ≡ 0xDB
    → (call st (sends resp c)).wrote ≡ nothing → (call st (sends resp c)).outcome.store ≡ st.store
unfolding call
put-left st resp c h e i = decided-left st resp c h e i (permit st (sends resp c))

pub back_again : Holds
back_again = record {
  back = λ s w ss air e before pieces between b pb bb i v hi st q o p u now n j.
      subst (λ (x : State). Answers x i v) (sym n)
      (read_back_lem st (subst Well (sym q) (start-well s w ss air e before b)) pieces between pb bb i v hi o p u (subst (λ (x : State). job_open x.session ≡ false) n j));
  others = λ s w ss air e ks b st q k kb i v wr. replaced st (subst Well (sym q) (start-well s w ss air e ks b)) k kb i v wr;
  unfinished = put-left;
}
