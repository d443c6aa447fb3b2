-- Over every run from an accepted power-on the work area holds what the ledger says, and zeros behind it (specs/Claims/Working).
--
--   Holding P x            what comes of a command holds what P says of the session after it
--   none_holds send_holds  nothing held; an answer that goes out, or of which the whole is held
--   ruled_holds            a command by its own rules
--   finished_holds         the result of a job
--   call_holds             a call
--
-- Assumes nothing.
use Rattle.std.specs.Prelude.{Option, None, Some, Ok, Err}
use mathlib.Core.Path.{◌≡◌, refl, ap, ap₂, sym, ◌∙◌, subst}
use mathlib.Core.Bool.{Bool, true, false, not, ◌||◌, false≢true}
use mathlib.Core.List.{List, [], ◌∷◌, ◌++◌}
use Prim.Native.Nat.{ℕ, ◌+◌, ◌-◌, ◌≤◌}
use native.Mathlib.Omega.{arith}
use lib.Dec.{eqb}
use lib.ListN.{length, take}
use lib.Seq.{length-take-le}
use borrow.Author.Tests.{eqb-true, not-false}
use Rattle.rules.specs.declared.Chain.{Chain}
use Rattle.rules.specs.declared.Rest.{Rest}
use Rattle.rules.specs.declared.Job.{Job}
use Rattle.rules.specs.declared.Place.{Place}
use Rattle.rules.specs.Objects.{Put}
use Rattle.rules.specs.declared.Admin.{Admin}
use Rattle.rules.specs.declared.Admin.TheVariants.{GiveChallenge, Reply}
use Rattle.rules.specs.declared.Header.{Header}
use Rattle.rules.specs.Command.{Checked}
use Rattle.rules.specs.Fault.{Permit}
use Rattle.rules.specs.declared.Session.{Session}
use Rattle.rules.specs.Bytes.{iff, splice, zeros}
use Rattle.rules.specs.Store.{work_size}
use Rattle.rules.specs.Session.{State, state, in_session, holding, with_admin, with_job, chain_length, whole_length, held_length, chain_open, rest_held, challenge_held, running, rest_of, job_of}
use Rattle.rules.specs.Command.{field_of, check, Made, says}
use Rattle.rules.specs.Held.{calm, dropped, send, fetch, goes_on, based, gathered, held_piece, closed, piece}
use Rattle.rules.specs.Pin.{Said, put_refs, on_refs}
use Rattle.rules.specs.Objects.{template, select, asked_in, give_object, get_slot, get_asked, get_data, get_rest, get_response, stored, put_slot, put_whole, put_piece, put_data}
use Rattle.rules.specs.Keys.{replied, opened, auth_admin, auth_key, auth_in, auth_form, auth_whole, auth_piece, authenticate, challenged, answered, finished}
use Rattle.rules.specs.Calls.{ruled, obeyed, command, Call, powers, sends, finishes, Result, interrupts, unasked, permit, delivered, powered_on, granted, call}
use Rattle.rules.specs.Runs.{leaves, end_of}
use Rattle.rules.specs.Claims.Invariants.{Plain, Each}
use Rattle.rules.specs.Claims.Working.{object_answer, whole_answer, result_answer, held_by, held_checked, held_granted, held_decided, held_after, ledger, Holds}
use Rattle.rules.proofs.Tests.{either, branch, on, off}
use Rattle.rules.proofs.Lists.{take-splice}
use Rattle.rules.proofs.Permits.{granted_lets, call-granted}
use Rattle.rules.proofs.Possible.{Tests, possible_tests, chain_fits, held_fits_by, no_chain, no_rest, none_open}
use Rattle.rules.proofs.Kept.{Fine, Well, well_fine, fine_calm, Starts, based-starts, goes_open}
use Rattle.rules.proofs.Invariants.{refused-leaves, call_kept, power_well, start-well, well_sane}

abbrev held : State → List ℕ
held st = take (held_length st.session) st.work

-- ---- answers, whatever is to be held

module _ (P : Session → List ℕ) where
  record Holding (x : Made) : Type 0 where
    is : held x.after ≡ P x.after.session

  -- nothing held, and nothing to be held
  record Neither (st : State) : Type 0 where
    shut : held_length st.session ≡ 0
    empty : P st.session ≡ []

  none_holds : (st : State) → Neither st → (sw : ℕ) → Holding (says st sw)
  none_holds st n sw = record { is = ap (λ (k : ℕ). take k st.work) n.shut ∙ sym n.empty }

  send_holds : (st : State) → Neither st → (le : ℕ) (a : List ℕ) → P (holding st.session None (Some (rest_of (length a) le))) ≡ a → Holding (send st le a)
  unfolding send
  send_holds st n le a e =
      either Holding _ (record { is = (none_holds st n 0x9000).is }) (record { is = take-splice st.work a 0 (omega arith) ∙ sym e })

-- ---- a command, made in st where f was held

module _ (st : State) (g : Fine st) (f : List ℕ) (e : held st ≡ f) (h : Header) (d : List ℕ) where
  abbrev By : Session → List ℕ
  By ss = held_by st ss h d f

  abbrev Right : Made → Type 0
  Right = Holding By

  none_dropped : Neither By (dropped st)
  unfolding dropped held_by iff
  none_dropped = record { shut = refl; empty = refl }

  drops : (sw : ℕ) → Right (says (dropped st) sw)
  drops sw = none_holds By (dropped st) none_dropped sw

  -- a rest is left: what the ledger says of it
  rest_by : (ss : Session) (whole k : ℕ) → By (holding ss None (Some (rest_of whole k))) ≡ iff (eqb h.ins 0xC0) f (whole_answer st.store h d)
  unfolding held_by iff
  rest_by ss whole k = refl

  -- SELECT and GET DATA
  sends-whole : (le : ℕ) (a : List ℕ) → eqb h.ins 0xC0 ≡ false → whole_answer st.store h d ≡ a → Right (send (dropped st) le a)
  sends-whole le a c w = send_holds By (dropped st) none_dropped le a (rest_by (dropped st).session _ _ ∙ off _ _ _ c ∙ w)

  select_holds : eqb h.ins 0xA4 ≡ true → Right (select (dropped st) h d)
  unfolding select whole_answer
  select_holds b =
      either Right _ (drops _)
      (either Right _ (drops _) (sends-whole h.le template (ap (λ (n : ℕ). eqb n 0xC0) (eqb-true h.ins 0xA4 b)) (on _ _ _ b)))

  asked_holds : eqb h.ins 0xC0 ≡ false → (a : Option ℕ) → whole_answer st.store h d ≡ object_answer st.store a → Right (get_asked (dropped st) h.le a)
  unfolding get_asked get_slot give_object
  asked_holds c None w = drops _
  asked_holds c (Some i) w =
      either Right _ (drops _) (either Right _ (drops _) (either Right _ (drops _) (unfold dropped in sends-whole h.le _ c w)))

  data_holds : eqb h.ins 0xA4 ≡ false → eqb h.ins 0xCB ≡ true → Right (get_data (dropped st) h d)
  unfolding get_data whole_answer
  data_holds a b =
      either Right _ (drops _) (asked_holds (ap (λ (n : ℕ). eqb n 0xC0) (eqb-true h.ins 0xCB b)) (asked_in d) (off _ _ _ a))

  -- GET RESPONSE: the same answer, of which less is left
  fetch_holds : eqb h.ins 0xC0 ≡ true → (le whole k : ℕ) → st.session.rest ≡ Some (rest_of whole k) → Right (fetch st le whole k)
  unfolding fetch
  fetch_holds b le whole k q =
      let c : chain_length st.session.chain ≡ 0 = no_chain st.session.chain st.session.rest g.apart (ap rest_held q) in
      let n : held_length st.session ≡ 0 + whole = omega (arith, c, ap whole_length q) in
      either Right _ (record { is = (drops 0x9000).is })
      (record { is = ap (λ (m : ℕ). take m st.work) (sym n) ∙ e ∙ sym (rest_by st.session _ _ ∙ on _ _ _ b) })

  rest_holds : eqb h.ins 0xC0 ≡ true → (r : Option Rest) → st.session.rest ≡ r → Right (get_rest st h.le r)
  unfolding get_rest
  rest_holds b None q = drops _
  rest_holds b (Some r) q = fetch_holds b h.le r.whole r.fetched q

  response_holds : eqb h.ins 0xC0 ≡ true → Right (get_response st h d)
  unfolding get_response
  response_holds b = either Right _ (drops _) (either Right _ (drops _) (rest_holds b st.session.rest refl))

  -- the commands on references
  refs_holds : (x : Said) → Right (on_refs (dropped st) x)
  unfolding on_refs put_refs dropped held_by iff
  refs_holds x = record { is = refl }

  -- ---- pieces

  -- what the chain holds that the command goes on with
  before : take (chain_length (based st h).session.chain) (based st h).work ≡ iff (goes_on st.session.chain h) f []
  unfolding based dropped iff
  before = go (goes_on st.session.chain h) refl
    where
      go : (b : Bool) → goes_on st.session.chain h ≡ b
          → take (chain_length (iff b st (dropped st)).session.chain) (iff b st (dropped st)).work ≡ iff b f []
      go true q =
          let n : whole_length st.session.rest ≡ 0 = no_rest st.session.chain st.session.rest g.apart (goes_open st.session.chain h q) in
          let l : chain_length st.session.chain ≡ held_length st.session = omega (arith, n) in
          ap (λ (m : ℕ). take m st.work) l ∙ e
      go false q = refl

  starts : Starts st.store st.session (based st h)
  starts = based-starts st g h

  fits : chain_length (based st h).session.chain ≤ length (based st h).work
  fits = omega (arith, chain_fits (based st h).session.chain starts.fine.chain, starts.fine.size)

  piece_holds : Right (says (held_piece (based st h) h d) 0x9000)
  unfolding held_piece held_by
  piece_holds =
      let n : ℕ = chain_length (based st h).session.chain in
      let l : n + length d + 0 ≡ n + length d = omega arith in
      record {
        is = ap (λ (m : ℕ). take m (splice (based st h).work n d)) l
            ∙ take-splice (based st h).work d n fits ∙ ap (λ (l : List ℕ). l ++ d) before ∙ sym (on _ _ _ refl);
      }

  none-based : Neither By (dropped (based st h))
  unfolding dropped held_by iff
  none-based = record { shut = refl; empty = refl }

  -- nothing is held once a chain is closed, whatever the rules at the last piece say
  module _ (b : State) where
    none-closed : Neither By (closed b d)
    unfolding closed held_by iff
    none-closed = record { shut = refl; empty = refl }

    shuts : (sw : ℕ) → Right (says (closed b d) sw)
    shuts sw = none_holds By (closed b d) none-closed sw

    slot_holds : (l : List ℕ) (p : Option Put) → Right (put_slot (closed b d) l p)
    unfolding put_slot stored
    slot_holds l None = shuts _
    slot_holds l (Some p) = either Right _ (shuts _) (either Right _ (shuts _) (record { is = (shuts 0x9000).is }))

    judged : (v : Bool) (sw : ℕ) → Right (says (in_session (closed b d) (with_admin (closed b d).session v)) sw)
    unfolding closed held_by iff
    judged v sw = record { is = refl }

    replied_holds : (ch : Option ℕ) (r : ℕ) → Right (replied (closed b d) ch r)
    unfolding replied
    replied_holds None r = shuts _
    replied_holds (Some reply) r = either Right _ (judged true _) (judged false _)

    opened_holds : (key alg le : ℕ) (a : List ℕ) → Right (opened (closed b d) key alg le a)
    unfolding opened closed held_by iff
    opened_holds key alg le a = record { is = refl }

    admin_holds : (ch : Option ℕ) (le : ℕ) (t : List ℕ) (a : Option Admin) → Right (auth_admin ch (closed b d) le t a)
    unfolding auth_admin
    admin_holds ch le t (Some GiveChallenge) = opened_holds _ _ _ _
    admin_holds ch le t (Some (Reply from)) = replied_holds ch _
    admin_holds ch le t None = shuts _

    key_holds : (t : List ℕ) (x : Option Place) → Right (auth_key (closed b d) h t x)
    unfolding auth_key
    key_holds t None = shuts _
    key_holds t (Some v) = opened_holds _ _ _ _

    form_holds : (ch : Option ℕ) (l : List ℕ) (x : Option Place) → Right (auth_form ch h (closed b d) l x)
    unfolding auth_form auth_in
    form_holds ch l None = shuts _
    form_holds ch l (Some v) = either Right _ (admin_holds ch _ _ _) (key_holds _ _)

  any_piece : (sw : ℕ) (whole : State → List ℕ → Made) → Right (whole (closed (based st h) d) (gathered (based st h) d)) → Right (piece (based st h) h d sw whole)
  unfolding piece
  any_piece sw whole r = either Right _ (none_holds By (dropped (based st h)) none-based sw) (either Right _ piece_holds r)

  auth_holds : (ch : Option ℕ) → Right (authenticate ch st h d)
  unfolding authenticate auth_piece auth_whole
  auth_holds ch = any_piece _ (auth_whole ch h) (form_holds (based st h) ch _ _)

  put_holds : Right (put_data st h d)
  unfolding put_data put_piece put_whole
  put_holds = any_piece _ put_whole (slot_holds (based st h) _ _)

  ruled_holds : (ch : Option ℕ) → Right (ruled st ch h d)
  unfolding ruled
  ruled_holds ch =
      branch Right _ select_holds
      λ a. branch Right _ (data_holds a)
      λ b. branch Right _ response_holds
      λ c. either Right _ (refs_holds _)
      (either Right _ (refs_holds _) (either Right _ (refs_holds _) (either Right _ (auth_holds ch) put_holds)))

obeyed_holds : (st : State) → Fine st → (f : List ℕ) → held st ≡ f → (ch : Option ℕ) (c : List ℕ) (x : Checked)
    → held (obeyed st ch c x).after ≡ held_checked st (obeyed st ch c x).after.session c f x
unfolding obeyed
obeyed_holds st g f e ch c (Err sw) = unfold dropped in refl
obeyed_holds st g f e ch c (Ok h) = (ruled_holds st g f e h (field_of c h) ch).is

-- ---- the result of a job: nothing is held while it is open

abbrev Finished : Option Job → List ℕ → Session → List ℕ
Finished j r ss = iff (rest_held ss.rest) (result_answer j r) []

module _ (st : State) (none : held_length st.session ≡ 0) (gone : rest_held st.session.rest ≡ false) (key alg le : ℕ) (r : List ℕ) where
  abbrev Answers : Session → List ℕ
  Answers = Finished (Some (job_of key alg le)) r

  idle : Neither Answers st
  idle = record { shut = none; empty = off _ _ _ gone }

  answered_holds : (failed : Bool) → Holding Answers (answered st key le failed r)
  unfolding answered challenged result_answer
  answered_holds failed =
      either (Holding Answers) _ (none_holds Answers st idle _)
      (branch (Holding Answers) _
      (λ b. send_holds Answers _ (record { shut = none; empty = off _ _ _ gone }) le _ (on _ _ _ refl ∙ on _ _ _ b))
      (λ b. send_holds Answers st idle le _ (on _ _ _ refl ∙ off _ _ _ b)))

gone_open : (c : Option Chain) (r : Option Rest) (h : Bool) → not (chain_open c || rest_held r || h) ≡ true → rest_held r ≡ false
gone_open None None h e = refl
gone_open None (Some r) h e = absurd (false≢true e)
gone_open (Some o) r h e = absurd (false≢true e)

finished_holds : (st : State) → Well st → (j : Option Job) → st.session.job ≡ j → running j ≡ true → (failed : Bool) (r : List ℕ)
    → held (finished st j failed r).after ≡ Finished j r (finished st j failed r).after.session
unfolding finished
finished_holds st g None e o failed r = absurd (false≢true o)
finished_holds st g (Some j) e o failed r =
    let t : Tests st.session = possible_tests st.session g.session in
    let a : not (chain_open st.session.chain || rest_held st.session.rest || challenge_held st.session.challenge) ≡ true = rw (ap running e) at t.alone in
    (answered_holds (in_session st (with_job st.session None)) (none_open st.session.chain st.session.rest (challenge_held st.session.challenge) a)
    (gone_open st.session.chain st.session.rest (challenge_held st.session.challenge) a) j.key j.alg j.le r failed).is

-- ---- a call

-- the ledger does not look at the challenge
calm_checked : (st : State) (ss : Session) (c f : List ℕ) (x : Checked) → held_checked (calm st) ss c f x ≡ held_checked st ss c f x
unfolding calm held_by
calm_checked st ss c f (Err sw) = refl
calm_checked st ss c f (Ok h) = refl

module _ (st : State) (g : Well st) (f : List ℕ) (e : held st ≡ f) where
  granted_holds : (k : Call) → Plain k → permit st k ≡ Ok tt → held (leaves (granted st k)) ≡ held_granted st (leaves (granted st k)).session f k
  unfolding granted delivered leaves powered_on command calm interrupts unasked
  granted_holds (powers air) b p = refl
  granted_holds (sends resp c) b p =
      obeyed_holds (calm st) (fine_calm st (well_fine st g (granted_lets st (sends resp c) p).free)) f e st.session.challenge c (check st.session.contactless c)
      ∙ calm_checked st (command st c).after.session c f (check st.session.contactless c)
  granted_holds (finishes resp failed r) b p =
      finished_holds st g st.session.job refl (not-false _ (granted_lets st (finishes resp failed r) p).asked) failed r

  call_holds : (k : Call) → Plain k → held (leaves (call st k)) ≡ held_after st k f
  unfolding held_after
  call_holds k b = go (permit st k) refl
    where
      go : (p : Permit) → permit st k ≡ p → held (leaves (call st k)) ≡ held_decided st k f (permit st k)
      go (Ok u) q =
          subst (λ (x : Result). held (leaves x) ≡ held_granted st (leaves x).session f k) (sym (call-granted st k q)) (granted_holds k b q)
          ∙ sym (ap (held_decided st k f) q)
      go (Err r) q = ap held (refused-leaves st g k r q) ∙ e ∙ sym (ap (held_decided st k f) q)

-- ---- a run

run_holds : (ks : List Call) (st : State) → Well st → Each Plain ks → (f : List ℕ) → held st ≡ f → held (end_of st ks) ≡ ledger st f ks
unfolding end_of ledger
run_holds [] st g b f e = e
run_holds (k ∷ ks) st g b f e = run_holds ks (leaves (call st k)) (call_kept st g k b.0).well b.1 (held_after st k f) (call_holds st g f e k b.0)

module _ (s w : List ℕ) (ss : Session) (air : Bool) (p : permit (state s w ss) (powers air) ≡ Ok tt) (ks : List Call) (b : Each Plain ks) where
  abbrev first : State
  first = state s w ss

  abbrev end : State
  end = end_of first (powers air ∷ ks)

  powered_holds : held (leaves (call first (powers air))) ≡ held_after first (powers air) []
  unfolding held_after granted powered_on leaves
  powered_holds = ap (λ (x : Result). held (leaves x)) (call-granted first (powers air) p) ∙ sym (ap (held_decided first (powers air) []) p)

  end_holds : held end ≡ ledger first [] (powers air ∷ ks)
  unfolding end_of ledger
  end_holds = run_holds ks (leaves (call first (powers air))) (power_well s w ss air p) b (held_after first (powers air) []) powered_holds

  end_well : Well end
  end_well = start-well s w ss air p ks b

  end_fits : held_length end.session ≤ length end.work
  end_fits =
      let t : Tests end.session = possible_tests end.session end_well.session in
      omega (arith, held_fits_by end.session.chain end.session.rest t.chain t.rest t.apart, end_well.size)

  end_long : length (ledger first [] (powers air ∷ ks)) ≡ held_length end.session
  end_long = ap length (sym end_holds) ∙ length-take-le (held_length end.session) end.work end_fits

  end_work : end.work ≡ ledger first [] (powers air ∷ ks) ++ zeros (work_size - length (ledger first [] (powers air ∷ ks)))
  end_work =
      (well_sane end end_well).held
      ∙ ap₂ (λ (l : List ℕ) (n : ℕ). l ++ zeros (work_size - n)) end_holds (sym end_long)

pub working : Holds
working = record {
  work = λ s w ss air p ks b l e. subst (λ (x : List ℕ). (end_of (state s w ss) (powers air ∷ ks)).work ≡ x ++ zeros (work_size - length x)) (sym e) (end_work s w ss air p ks b);
  long = end_long;
}
