-- Quiet: a command, and the result of a job, on two stores that are alike, in one session without the PIN: as long as no comparison finds
-- a PIN or PUK equal, both come to the same.
--
--   Pair s t               two well-formed stores that are alike
--   Twin x y               what comes to the same but for such stores
--   Quiet x y              Twin, where no comparison on either side found equal
--   command_quiet          a command
--   finished_quiet         the result of a job
--
-- Assumes nothing.
use Rattle.std.specs.Prelude.{Option, None, Some, Ok, Err}
use mathlib.Core.Path.{◌≡◌, refl, ap, sym, ◌∙◌, subst}
use mathlib.Core.Logic.{inl, inr}
use mathlib.Core.Bool.{Bool, true, false, true≢false, false≢true}
use mathlib.Core.List.{List, [], ◌∷◌}
use Prim.Native.Nat.{ℕ, ◌+◌, ◌-◌, ◌≤◌, ◌<◌}
use native.Mathlib.Omega.{arith}
use lib.Dec.{eqb}
use lib.ListN.{length, get_or}
use borrow.Author.Tests.{ltb-true, not-false}
use Rattle.rules.specs.declared.Rest.{Rest}
use Rattle.rules.specs.declared.Job.{Job}
use Rattle.rules.specs.declared.Place.{Place}
use Rattle.rules.specs.Objects.{Put}
use Rattle.rules.specs.declared.Admin.{Admin}
use Rattle.rules.specs.declared.Admin.TheVariants.{GiveChallenge, Reply}
use Rattle.rules.specs.declared.Header.{Header}
use Rattle.rules.specs.Command.{Checked}
use Rattle.rules.specs.declared.Session.{Session}
use Rattle.rules.specs.Bytes.{iff, part, splice}
use Rattle.rules.specs.Reference.{none_left, charged, reference_at}
use Rattle.rules.specs.Store.{slots, capacity, object_of, takes, slot_bytes, put_object, pin_at, puk_at, key_place, algorithm_of, well_formed}
use Rattle.rules.specs.Session.{State, state, holding, with_pin}
use Rattle.rules.specs.Command.{field_of, Told, responds, Which, the_pin, the_puk, Step, charge, unequal, Wrote, nothing, in_slot, Made, says}
use Rattle.rules.specs.Held.{calm, dropped, send, fetch, based, gathered, held_piece, closed, piece}
use Rattle.rules.specs.Pin.{Refs, the, put_the, stepped, made, with_given, after, Said, answer, tries_word, missed, verified, verify_given, verify_asked, verify_ended, verify, changed, change_of, change, reset_to, reset_given, reset, refs_in, refs_onto, refs, put_refs, on_refs}
use Rattle.rules.specs.Objects.{select, asked_in, give_object, get_slot, get_asked, get_data, get_rest, get_response, put_form, stored, put_slot, put_whole, put_each, put_piece, put_data}
use Rattle.rules.specs.Keys.{key_fits, auth_each, contents, replied, opened, auth_admin, auth_key, auth_in, auth_form, auth_whole, auth_piece, authenticate, challenged, answered, finished}
use Rattle.rules.specs.Calls.{ruled, obeyed, command}
use Rattle.rules.specs.Claims.Secrecy.{no_equal, Alike}
use Rattle.rules.proofs.Slots.{put_fits}
use Rattle.rules.proofs.Refs.{refs-sized, onto_refs, onto_pin, onto_puk, charge-byte}
use Rattle.rules.proofs.WellFormed.{wf_size, wf_sound}
use Rattle.rules.proofs.StaysWell.{RefsOk, refs-ok, wf_put, wf_onto, verify-ok, change-ok, reset-ok}
use Rattle.rules.proofs.Kept.{key_low, key_high, takes_fits}
use Rattle.rules.proofs.Alike.{head_open, alike_splice, alike_object, open_slot}

-- ---- pairs and twins

pub record Pair (s t : List ℕ) : Type 0 where
  pub alike : Alike s t
  pub first : well_formed s ≡ true
  pub second : well_formed t ≡ true

pub data Twin : Made → Made → Type 0 where
  twin : (x : Told) (w : List ℕ) (ss : Session) (ps : List Step) (o : Wrote) (s t : List ℕ) → ss.pin ≡ false → Pair s t
      → Twin (record { told = x; after = state s w ss; steps = ps; wrote = o }) (record { told = x; after = state t w ss; steps = ps; wrote = o })

pub record Quiet (x y : Made) : Type 0 where
  pub twins : no_equal x.steps ≡ true → no_equal y.steps ≡ true → Twin x y

-- ---- one test on both sides

-- the same test
walk : {A B : Type 0} (P : A → B → Type 0) (b : Bool) {x y : A} {z u : B} → (b ≡ true → P x z) → (b ≡ false → P y u) → P (iff b x y) (iff b z u)
unfolding iff
walk P true f g = f refl
walk P false f g = g refl

-- two tests that come to the same
walk≡ : {A B : Type 0} (P : A → B → Type 0) (b c : Bool) → b ≡ c → {x y : A} {z u : B} → P x z → P y u → P (iff b x y) (iff c z u)
unfolding iff
walk≡ P true true e f g = f
walk≡ P false false e f g = g
walk≡ P true false e f g = absurd (true≢false e)
walk≡ P false true e f g = absurd (false≢true e)

-- two tests of which nothing is known: where either passes, P is had at once
walk₂ : {A B : Type 0} (P : A → B → Type 0) (b c : Bool) {x y : A} {z u : B} → ((v : B) → P x v) → ((v : A) → P v z) → P y u → P (iff b x y) (iff c z u)
unfolding iff
walk₂ P true c f g q = f _
walk₂ P false true f g q = g _
walk₂ P false false f g q = q

-- ---- what the rules on references say

-- nothing is changed, or a try is counted; the PIN status is FALSE
pub data Gentle : Said → Type 0 where
  still : (x : ℕ) → Gentle (record { sw = x; steps = []; given = false })
  counted : (x : ℕ) (w : Which) → Gentle (record { sw = x; steps = charge w ∷ unequal w ∷ []; given = false })

pub record SaidQuiet (x y : Said) : Type 0 where
  pub twins : no_equal x.steps ≡ true → no_equal y.steps ≡ true → (x ≡ y) × Gentle x

pub record Like (r q : Refs) : Type 0 where
  pub tries : (w : Which) → (the r w).left ≡ (the q w).left
  pub first : r.given ≡ false
  pub second : q.given ≡ false

met_left : (x y : Said) → no_equal x.steps ≡ false → SaidQuiet x y
met_left x y e = record { twins = λ a b. absurd (true≢false (sym a ∙ e)) }

met_right : (x y : Said) → no_equal y.steps ≡ false → SaidQuiet x y
met_right x y e = record { twins = λ a b. absurd (true≢false (sym b ∙ e)) }

module _ (r q : Refs) (k : Like r q) where
  answer_quiet : (sw : ℕ) → SaidQuiet (answer sw r) (answer sw q)
  answer_quiet sw = rw (k.first, k.second) (record { twins = λ a b. (refl, still sw) })

  missed_quiet : (w : Which) (b : Bool) → b ≡ false → SaidQuiet (missed r w b) (missed q w b)
  unfolding missed tries_word charged
  missed_quiet w b e = rw (e, k.tries w) (record { twins = λ a c. (refl, counted _ w) })

  none-same : (w : Which) → none_left (the r w) ≡ none_left (the q w)
  unfolding none_left
  none-same w = ap (λ (n : ℕ). eqb n 0) (k.tries w)

  given_quiet : (d : List ℕ) → SaidQuiet (verify_given r d) (verify_given q d)
  unfolding verify_given verified the
  given_quiet d =
      walk≡ SaidQuiet _ _ (none-same the_pin) (answer_quiet _)
      (walk SaidQuiet _ (λ b. answer_quiet _)
      λ b. walk₂ SaidQuiet _ _ (λ v. met_left _ v refl) (λ v. met_right v _ refl) (missed_quiet the_pin false refl))

  asked_quiet : SaidQuiet (verify_asked r) (verify_asked q)
  unfolding verify_asked tries_word the
  asked_quiet = walk≡ SaidQuiet _ _ (k.first ∙ sym k.second) (answer_quiet _) (rw (k.tries the_pin) (answer_quiet _))

  ended_quiet : (d : List ℕ) → SaidQuiet (verify_ended r d) (verify_ended q d)
  unfolding verify_ended
  ended_quiet d = walk SaidQuiet _ (λ b. answer_quiet _) (λ b. record { twins = λ a c. (refl, still _) })

  pub verify_quiet : (h : Header) (d : List ℕ) → SaidQuiet (verify r h d) (verify q h d)
  unfolding verify
  verify_quiet h d =
      walk SaidQuiet _ (λ b. answer_quiet _)
      λ b. walk SaidQuiet _ (λ b. answer_quiet _)
      λ b. walk SaidQuiet _ (λ b. ended_quiet d)
      λ b. walk SaidQuiet _ (λ b. asked_quiet)
      λ b. given_quiet d

  change_of_quiet : (w : Which) (form : List ℕ → Bool) (hit hit' miss miss' : Bool) → miss ≡ false → miss' ≡ false → (d : List ℕ)
      → SaidQuiet (change_of r w form hit miss d) (change_of q w form hit' miss' d)
  unfolding change_of changed
  change_of_quiet w form hit hit' miss miss' e e' d =
      walk≡ SaidQuiet _ _ (none-same w) (answer_quiet _)
      (walk SaidQuiet _ (λ b. answer_quiet _)
      λ b. walk SaidQuiet _ (λ b. answer_quiet _)
      λ b. walk₂ SaidQuiet _ _ (λ v. met_left _ v refl) (λ v. met_right v _ refl)
      (subst (λ (x : Bool). SaidQuiet (missed r w miss) (missed q w x)) (e ∙ sym e') (missed_quiet w miss e)))

  pub change_quiet : (h : Header) (d : List ℕ) → SaidQuiet (change r h d) (change q h d)
  unfolding change
  change_quiet h d =
      walk SaidQuiet _ (λ b. answer_quiet _)
      λ b. walk SaidQuiet _ (λ b. answer_quiet _)
      λ b. walk SaidQuiet _ (λ b. change_of_quiet the_pin _ true true false false refl refl d)
      λ b. change_of_quiet the_puk _ r.given q.given r.given q.given k.first k.second d

  pub reset_quiet : (h : Header) (d : List ℕ) → SaidQuiet (reset r h d) (reset q h d)
  unfolding reset reset_given reset_to the
  reset_quiet h d =
      walk SaidQuiet _ (λ b. answer_quiet _)
      λ b. walk SaidQuiet _ (λ b. answer_quiet _)
      λ b. walk≡ SaidQuiet _ _ (none-same the_puk) (answer_quiet _)
      (walk SaidQuiet _ (λ b. answer_quiet _)
      λ b. walk SaidQuiet _ (λ b. answer_quiet _)
      λ b. walk₂ SaidQuiet _ _ (λ v. met_left _ v refl) (λ v. met_right v _ refl) (missed_quiet the_puk false refl))

-- ---- the store after them

-- the place of a reference
abbrev place_of : Which → ℕ
place_of the_pin = pin_at
place_of the_puk = puk_at

-- a counted try is one byte
counted-store : (s : List ℕ) (b : Bool) → 28 ≤ length s → (w : Which) (x : ℕ)
    → refs_onto s (after (refs_in s b) (record { sw = x; steps = charge w ∷ unequal w ∷ []; given = false })) ≡ splice s (place_of w + 1) ((get_or s (place_of w + 1) 0 - 1) ∷ [])
unfolding after with_given made stepped refs_onto put_the the
counted-store s b h the_pin x = unfold refs_in charged in (onto_pin s b h (charged (reference_at s pin_at)) (refs-sized s h b).pin ∙ charge-byte s pin_at (omega arith))
counted-store s b h the_puk x = unfold refs_in charged in (onto_puk s b h (charged (reference_at s puk_at)) (refs-sized s h b).puk ∙ charge-byte s puk_at (omega arith))

still_store : (s : List ℕ) (b : Bool) → 28 ≤ length s → (x : ℕ) → refs_onto s (after (refs_in s b) (record { sw = x; steps = []; given = false })) ≡ s
unfolding after with_given made refs_onto
still_store s b h x = onto_refs s h b

alike_by : (s t a b : List ℕ) → s ≡ a → t ≡ b → Alike a b → Alike s t
alike_by s t a b p q al = subst (λ (x : List ℕ). Alike x t) (sym p) (subst (λ (x : List ℕ). Alike a x) (sym q) al)

-- the counts are not secret
pub tries_same : (s t : List ℕ) → Alike s t → (w : Which) → get_or s (place_of w + 1) 0 ≡ get_or t (place_of w + 1) 0
tries_same s t al the_pin = al.same 9 (head_open s 9 (omega arith) (inl (omega arith)) (inl (omega arith)))
tries_same s t al the_puk = al.same 19 (head_open s 19 (omega arith) (inr (omega arith)) (inl (omega arith)))

place_low : (w : Which) → place_of w + 2 ≤ 28
place_low the_pin = omega arith
place_low the_puk = omega arith

module _ (s t w : List ℕ) (ss : Session) (pn : ss.pin ≡ false) (k : Pair s t) where
  sl : 28 ≤ length s
  sl = omega (arith, wf_size s k.first)

  tl : 28 ≤ length t
  tl = omega (arith, wf_size t k.second)

  refs_like : Like (refs (state s w ss)) (refs (state t w ss))
  unfolding refs refs_in the reference_at
  refs_like = record { tries = go; first = pn; second = pn }
    where
      go : (x : Which) → (the (refs (state s w ss)) x).left ≡ (the (refs (state t w ss)) x).left
      go the_pin = tries_same s t k.alike the_pin
      go the_puk = tries_same s t k.alike the_puk

  gentle_alike : (x : Said) → Gentle x → Alike (refs_onto s (after (refs_in s ss.pin) x)) (refs_onto t (after (refs_in t ss.pin) x))
  gentle_alike _ (still n) = alike_by _ _ _ _ (still_store s ss.pin sl n) (still_store t ss.pin tl n) k.alike
  gentle_alike _ (counted n x) =
      alike_by _ _ _ _ (counted-store s ss.pin sl x n)
      (counted-store t ss.pin tl x n ∙ ap (λ (m : ℕ). splice t (place_of x + 1) ((m - 1) ∷ [])) (sym (tries_same s t k.alike x)))
      (alike_splice s t k.alike (place_of x + 1) ((get_or s (place_of x + 1) 0 - 1) ∷ []) (omega (arith, sl, place_low x)))

  gentle_given : (x : Said) → Gentle x → x.given ≡ false
  gentle_given _ (still n) = refl
  gentle_given _ (counted n x) = refl

  refs_twin : (x : Said) → Gentle x → RefsOk (after (refs (state s w ss)) x) → RefsOk (after (refs (state t w ss)) x) → Twin (on_refs (state s w ss) x) (on_refs (state t w ss) x)
  unfolding on_refs put_refs refs
  refs_twin x g a b =
      unfold after with_given in twin (responds [] x.sw) w (with_pin ss x.given) x.steps nothing (refs_onto s (after (refs_in s ss.pin) x)) (refs_onto t (after (refs_in t ss.pin) x)) (gentle_given x g)
      (record { alike = gentle_alike x g; first = wf_onto s _ k.first a; second = wf_onto t _ k.second b })

  refs_quiet : (x y : Said) → SaidQuiet x y → RefsOk (after (refs (state s w ss)) x) → RefsOk (after (refs (state t w ss)) y)
      → Quiet (on_refs (state s w ss) x) (on_refs (state t w ss) y)
  unfolding on_refs
  refs_quiet x y q a b = record {
    twins = λ m n. let e = q.twins m n in
        subst (λ (z : Said). RefsOk (after (refs (state t w ss)) z) → Twin (on_refs (state s w ss) x) (on_refs (state t w ss) z)) e.0 (λ c. refs_twin x e.1 a c) b;
  }

  -- ---- answers

  says_quiet : (sw : ℕ) → Quiet (says (state s w ss) sw) (says (state t w ss) sw)
  says_quiet sw = record { twins = λ m n. twin _ w ss [] nothing s t pn k }

  send_quiet : (le : ℕ) (d : List ℕ) → Quiet (send (state s w ss) le d) (send (state t w ss) le d)
  unfolding send
  send_quiet le d = walk Quiet _ (λ b. record { twins = λ m n. twin _ _ _ _ _ s t pn k }) (λ b. record { twins = λ m n. twin _ _ _ _ _ s t pn k })

  select_quiet : (h : Header) (d : List ℕ) → Quiet (select (state s w ss) h d) (select (state t w ss) h d)
  unfolding select
  select_quiet h d = walk Quiet _ (λ b. says_quiet _) λ b. walk Quiet _ (λ b. says_quiet _) λ b. send_quiet _ _

  give_quiet : (le i : ℕ) (v : List ℕ) → Quiet (give_object (state s w ss) le i v) (give_object (state t w ss) le i v)
  unfolding give_object
  give_quiet le i v = walk Quiet _ (λ b. says_quiet _) λ b. send_quiet le _

  asked-slot : (le : ℕ) (a : Option ℕ) → Quiet (get_asked (state s w ss) le a) (get_asked (state t w ss) le a)
  unfolding get_asked get_slot
  asked-slot le None = says_quiet _
  asked-slot le (Some i) =
      walk Quiet _ (λ b. says_quiet _)
      λ hi. walk Quiet _ (λ b. says_quiet _)
      λ hr. let l : i < slots = ltb-true i slots (not-false _ hi) in
      let e : object_of s i ≡ object_of t i = alike_object s t k.alike (wf_sound s k.first) (wf_sound t k.second) i l (open_slot ss pn i l (not-false _ hr)) in
      subst (λ (v : List ℕ). Quiet (give_object (state s w ss) le i (object_of s i)) (give_object (state t w ss) le i v)) e (give_quiet le i (object_of s i))

  data_quiet : (h : Header) (d : List ℕ) → Quiet (get_data (state s w ss) h d) (get_data (state t w ss) h d)
  unfolding get_data
  data_quiet h d = walk Quiet _ (λ b. says_quiet _) λ b. asked-slot h.le (asked_in d)

  -- ---- PUT DATA at the last piece

  alike_put : (i : ℕ) (v : List ℕ) → i < slots → length v ≤ capacity i → Alike (put_object s i v) (put_object t i v)
  unfolding put_object
  alike_put i v l c = alike_splice s t k.alike _ (slot_bytes i v) (put_fits s i v l c (wf_size s k.first))

  slot_quiet : (d : List ℕ) (p : Option Put) → Quiet (put_slot (state s w ss) d p) (put_slot (state t w ss) d p)
  unfolding put_slot stored takes
  slot_quiet d None = says_quiet _
  slot_quiet d (Some p) =
      walk Quiet _ (λ b. says_quiet _)
      λ hi. walk Quiet _ (λ b. says_quiet _)
      λ hn. let i : ℕ = p.slot in
      let l : i < slots = ltb-true i slots (not-false _ hi) in
      let v : List ℕ = part d p.value.from p.value.len in
      let c : length v ≤ capacity i = takes_fits s i p.value.len p.value.from d (not-false _ hn) in
      record {
        twins = λ m e. twin _ w ss [] (in_slot i v) (put_object s i v) (put_object t i v) pn (record {
          alike = alike_put i v l c;
          first = wf_put s i v l c k.first;
          second = wf_put t i v l c k.second;
        });
      }

  -- ---- GENERAL AUTHENTICATE at the last piece

  key_same : (x : ℕ) → algorithm_of s x ≡ algorithm_of t x
  unfolding algorithm_of
  key_same x = k.alike.same (key_place x) (head_open _ (key_place x) (omega (arith, key_high x)) (inr (omega (arith, key_low x))) (inr (omega (arith, key_low x))))

  each_same : (h : Header) (n : ℕ) → auth_each (state s w ss) h n ≡ auth_each (state t w ss) h n
  unfolding auth_each key_fits
  each_same h n = rw (key_same h.p2)

  opened_quiet : (key alg le : ℕ) (d : List ℕ) → Quiet (opened (state s w ss) key alg le d) (opened (state t w ss) key alg le d)
  unfolding opened
  opened_quiet key alg le d = record { twins = λ m n. twin _ _ _ _ _ s t pn k }

  replied_quiet : (ch : Option ℕ) (r : ℕ) → Quiet (replied (state s w ss) ch r) (replied (state t w ss) ch r)
  unfolding replied
  replied_quiet None r = says_quiet _
  replied_quiet (Some x) r = walk Quiet _ (λ b. record { twins = λ m n. twin _ _ _ _ _ s t pn k }) (λ b. record { twins = λ m n. twin _ _ _ _ _ s t pn k })

  admin_quiet : (ch : Option ℕ) (le : ℕ) (l : List ℕ) (a : Option Admin) → Quiet (auth_admin ch (state s w ss) le l a) (auth_admin ch (state t w ss) le l a)
  unfolding auth_admin
  admin_quiet ch le l (Some GiveChallenge) = opened_quiet _ _ _ _
  admin_quiet ch le l (Some (Reply from)) = replied_quiet ch _
  admin_quiet ch le l None = says_quiet _

  key_quiet : (h : Header) (l : List ℕ) (f : Option Place) → Quiet (auth_key (state s w ss) h l f) (auth_key (state t w ss) h l f)
  unfolding auth_key
  key_quiet h l None = says_quiet _
  key_quiet h l (Some v) = opened_quiet _ _ _ _

  form_quiet : (ch : Option ℕ) (h : Header) (d : List ℕ) (f : Option Place) → Quiet (auth_form ch h (state s w ss) d f) (auth_form ch h (state t w ss) d f)
  unfolding auth_form auth_in
  form_quiet ch h d None = says_quiet _
  form_quiet ch h d (Some v) = walk Quiet _ (λ b. admin_quiet ch _ _ _) (λ b. key_quiet h _ _)

-- ---- two states

pub data Twins : State → State → Type 0 where
  twins : (s t w : List ℕ) (ss : Session) → ss.pin ≡ false → Pair s t → Twins (state s w ss) (state t w ss)

dropped_twins : (x y : State) → Twins x y → Twins (dropped x) (dropped y)
unfolding dropped
dropped_twins _ _ (twins s t w ss pn k) = twins s t _ _ pn k

based_twins : (x y : State) → Twins x y → (h : Header) → Twins (based x h) (based y h)
unfolding based dropped
based_twins _ _ (twins s t w ss pn k) h = walk Twins _ (λ b. twins s t w ss pn k) (λ b. twins s t _ _ pn k)

state-says : (x y : State) → Twins x y → (sw : ℕ) → Quiet (says x sw) (says y sw)
state-says _ _ (twins s t w ss pn k) sw = says_quiet s t w ss pn k sw

drop-says : (x y : State) → Twins x y → (sw : ℕ) → Quiet (says (dropped x) sw) (says (dropped y) sw)
drop-says x y g sw = state-says (dropped x) (dropped y) (dropped_twins x y g) sw

held_twins : (x y : State) → Twins x y → (h : Header) (d : List ℕ) → Twins (held_piece x h d) (held_piece y h d)
unfolding held_piece
held_twins _ _ (twins s t w ss pn k) h d = twins s t _ _ pn k

closed_twins : (x y : State) → Twins x y → (d : List ℕ) → Twins (closed x d) (closed y d)
unfolding closed
closed_twins _ _ (twins s t w ss pn k) d = twins s t _ _ pn k

gathered-same : (x y : State) → Twins x y → (d : List ℕ) → gathered x d ≡ gathered y d
unfolding gathered
gathered-same _ _ (twins s t w ss pn k) d = refl

-- a chaining command: the same word for its piece, and a whole that is quiet
piece_quiet : (x y : State) → Twins x y → (h : Header) (d : List ℕ) (n m : ℕ) → n ≡ m → (whole : State → List ℕ → Made)
    → ((u v : State) → Twins u v → (l : List ℕ) → Quiet (whole u l) (whole v l)) → Quiet (piece x h d n whole) (piece y h d m whole)
unfolding piece
piece_quiet x y g h d n m e whole q =
    subst (λ (z : ℕ). Quiet (piece x h d n whole) (piece y h d z whole)) e
    (walk Quiet _ (λ b. drop-says x y g n)
    λ b. walk Quiet _ (λ b. state-says _ _ (held_twins x y g h d) _)
    λ b. subst (λ (l : List ℕ). Quiet (whole (closed x d) (gathered x d)) (whole (closed y d) l)) (gathered-same x y g d) (q _ _ (closed_twins x y g d) (gathered x d)))

put_quiet : (x y : State) → Twins x y → (h : Header) (d : List ℕ) → Quiet (put_piece x h d) (put_piece y h d)
unfolding put_piece put_each
put_quiet _ _ (twins s t w ss pn k) h d = piece_quiet _ _ (twins s t w ss pn k) h d _ _ refl put_whole whole
  where
    whole : (u v : State) → Twins u v → (l : List ℕ) → Quiet (put_whole u l) (put_whole v l)
    whole _ _ (twins s t w ss pn k) l = unfold put_whole in slot_quiet s t w ss pn k l (put_form l)

auth_quiet : (ch : Option ℕ) (x y : State) → Twins x y → (h : Header) (d : List ℕ) → Quiet (auth_piece ch x h d) (auth_piece ch y h d)
unfolding auth_piece
auth_quiet ch _ _ (twins s t w ss pn k) h d = piece_quiet _ _ (twins s t w ss pn k) h d _ _ (each_same s t w ss pn k h _) (auth_whole ch h) whole
  where
    whole : (u v : State) → Twins u v → (l : List ℕ) → Quiet (auth_whole ch h u l) (auth_whole ch h v l)
    whole _ _ (twins s t w ss pn k) l = unfold auth_whole in form_quiet s t w ss pn k ch h l (contents l)

-- ---- a command

module _ (s t w : List ℕ) (ss : Session) (pn : ss.pin ≡ false) (k : Pair s t) where
  both : Twins (state s w ss) (state t w ss)
  both = twins s t w ss pn k

  fetch_quiet : (le whole n : ℕ) → Quiet (fetch (state s w ss) le whole n) (fetch (state t w ss) le whole n)
  unfolding fetch dropped
  fetch_quiet le whole n = walk Quiet _ (λ b. record { twins = λ a c. twin _ _ _ _ _ s t pn k }) (λ b. record { twins = λ a c. twin _ _ _ _ _ s t pn k })

  rest_quiet : (le : ℕ) (r : Option Rest) → Quiet (get_rest (state s w ss) le r) (get_rest (state t w ss) le r)
  unfolding get_rest
  rest_quiet le None = drop-says _ _ both _
  rest_quiet le (Some r) = fetch_quiet le r.whole r.fetched

  response_quiet : (h : Header) (d : List ℕ) → Quiet (get_response (state s w ss) h d) (get_response (state t w ss) h d)
  unfolding get_response
  response_quiet h d = walk Quiet _ (λ b. drop-says _ _ both _) λ b. walk Quiet _ (λ b. drop-says _ _ both _) λ b. rest_quiet h.le ss.rest

  sok : RefsOk (refs (state s w ss))
  unfolding refs
  sok = refs-ok s ss.pin k.first (λ e. absurd (true≢false (sym e ∙ pn)))

  tok : RefsOk (refs (state t w ss))
  unfolding refs
  tok = refs-ok t ss.pin k.second (λ e. absurd (true≢false (sym e ∙ pn)))

  like : Like (refs (state s w ss)) (refs (state t w ss))
  like = refs_like s t w ss pn k

  rule_quiet : (x y : Said) → SaidQuiet x y → RefsOk (after (refs (state s w ss)) x) → RefsOk (after (refs (state t w ss)) y)
      → Quiet (on_refs (dropped (state s w ss)) x) (on_refs (dropped (state t w ss)) y)
  unfolding dropped refs
  rule_quiet x y q a b = refs_quiet s t _ (holding ss None None) pn k x y q a b

  ruled_quiet : (ch : Option ℕ) (h : Header) (d : List ℕ) → Quiet (ruled (state s w ss) ch h d) (ruled (state t w ss) ch h d)
  unfolding ruled authenticate put_data dropped
  ruled_quiet ch h d =
      walk Quiet _ (λ b. select_quiet s t _ _ pn k h d)
      λ b. walk Quiet _ (λ b. data_quiet s t _ _ pn k h d)
      λ b. walk Quiet _ (λ b. response_quiet h d)
      λ b. walk Quiet _ (λ b. rule_quiet _ _ (verify_quiet _ _ like h d) (verify-ok _ sok h d) (verify-ok _ tok h d))
      λ b. walk Quiet _ (λ b. rule_quiet _ _ (change_quiet _ _ like h d) (change-ok _ sok h d) (change-ok _ tok h d))
      λ b. walk Quiet _ (λ b. rule_quiet _ _ (reset_quiet _ _ like h d) (reset-ok _ sok h d) (reset-ok _ tok h d))
      λ b. walk Quiet _ (λ b. auth_quiet ch _ _ (based_twins _ _ both h) h d)
      λ b. put_quiet _ _ (based_twins _ _ both h) h d

  obeyed_quiet : (ch : Option ℕ) (c : List ℕ) (x : Checked) → Quiet (obeyed (state s w ss) ch c x) (obeyed (state t w ss) ch c x)
  unfolding obeyed
  obeyed_quiet ch c (Err sw) = drop-says _ _ both _
  obeyed_quiet ch c (Ok h) = ruled_quiet ch h (field_of c h)

  answered_quiet : (key le : ℕ) (failed : Bool) (r : List ℕ) → Quiet (answered (state s w ss) key le failed r) (answered (state t w ss) key le failed r)
  unfolding answered challenged
  answered_quiet key le failed r =
      walk Quiet _ (λ b. says_quiet s t w ss pn k _) λ b. walk Quiet _ (λ b. send_quiet s t _ _ pn k _ _) λ b. send_quiet s t w ss pn k _ _

pub command_quiet : (s t w : List ℕ) (ss : Session) → ss.pin ≡ false → Pair s t → (c : List ℕ) → Quiet (command (state s w ss) c) (command (state t w ss) c)
unfolding command calm
command_quiet s t w ss pn k c = obeyed_quiet s t w _ pn k ss.challenge c _

pub finished_quiet : (s t w : List ℕ) (ss : Session) → ss.pin ≡ false → Pair s t → (j : Option Job) (failed : Bool) (r : List ℕ)
    → Quiet (finished (state s w ss) j failed r) (finished (state t w ss) j failed r)
unfolding finished
finished_quiet s t w ss pn k None failed r = says_quiet s t w ss pn k _
finished_quiet s t w ss pn k (Some j) failed r = answered_quiet s t w _ pn k j.key j.le failed r
