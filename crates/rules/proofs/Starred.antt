-- The table of specs/Claims/Starred holds: antt computes every row. Two things are not computed byte by byte. That the store of a card is well
-- formed and stays so, and that the work area keeps its size, is shown. And a store or a work area that a test names is not counted through: all such
-- pairs of the table are set side by side, and are equal at one look.
--
--   said t o               a test, but for stores and work areas
--   pairs t o ps           the stores and work areas that it names, each beside the one found, before the pairs ps
--   judged w st k          the row of refusals, where w says whether the store is well formed
--   in_run st k            the same in a run
--   quick r                a row, computed by them
--   quick_passes           a row that passes so, passes
--   starred                the claim
--
-- Assumes nothing.
use Rattle.std.specs.Prelude.{Ok, Err}
use mathlib.Core.Path.{◌≡◌, refl, ap, sym, ◌∙◌, subst}
use mathlib.Core.Bool.{Bool, true, false, not, ◌&&◌, false≢true}
use mathlib.Core.List.{List, [], ◌∷◌, map, head-eq_of_cons-eq, tail-eq_of_cons-eq}
use Prim.Native.Nat.{ℕ}
use lib.Dec.{ltb, eqb}
use lib.ListN.{length, replicate, length-replicate}
use borrow.Author.Tests.{eq-eqb}
use Rattle.rules.specs.declared.Refusal.TheVariants.{IllStore, IllSession, ShortResponse, WrongWork, JobOpen, NoJob, WrongResult}
use Rattle.rules.specs.Fault.{Permit}
use Rattle.rules.specs.declared.Session.{Session}
use Rattle.rules.specs.Book.{book}
use Rattle.rules.specs.Bytes.{iff, all_true, all, same_bytes, zeros}
use Rattle.rules.specs.Store.{work_size, well_formed}
use Rattle.rules.specs.Session.{State, state, cleared}
use Rattle.rules.specs.Calls.{Call, powers, sends, finishes, ill_session, short_response, interrupts, unasked, wrong_result, permit, Outcome, Result, denied, decided, call}
use Rattle.rules.specs.Runs.{leaves}
use Rattle.rules.specs.Claims.Invariants.{Plain}
use Rattle.rules.specs.Claims.Starred.{Card, issued, filled, overlong, store_of, fixed, Test, gives, store_is, work_is, both, meets, Line, ◌⇒◌, follows, Row, fact, plays, plays_air, from, powered, passes, bytes, sized, sw, job, refused, as_admin, zero_first, behind, table, Holds}
use Rattle.rules.proofs.Tests.{off, and_left, and_right, and_both}
use Rattle.rules.proofs.Lists.{same_true}
use Rattle.rules.proofs.Reading.{all-bytes}
use Rattle.rules.proofs.Kept.{Well}
use Rattle.rules.proofs.Invariants.{power_well, call_kept}
use Rattle.rules.proofs.Permits.{power_granted}
use Rattle.rules.proofs.Cards.{whole, fair, card_well, card_ill, powered_is}

-- ---- tests

unfoldable said : Test → Outcome → Bool
said (gives t) o = t o.reply.answer o.resp
said (store_is s) o = true
said (work_is w) o = true
said (both t u) o = said t o && said u o

abbrev Pair : Type 0
Pair = List ℕ × List ℕ

unfoldable pairs : Test → Outcome → List Pair → List Pair
pairs (gives t) o ps = ps
pairs (store_is s) o ps = (s, o.store) ∷ ps
pairs (work_is w) o ps = (w, o.work) ∷ ps
pairs (both t u) o ps = pairs t o (pairs u o ps)

abbrev named : List Pair → List (List ℕ)
named = map (λ (p : Pair). p.0)

abbrev found : List Pair → List (List ℕ)
found = map (λ (p : Pair). p.1)

abbrev Same : List Pair → Type 0
Same [] = Unit {0}
Same (p ∷ ps) = (p.0 ≡ p.1) × Same ps

all_same : (ps : List Pair) → named ps ≡ found ps → Same ps
all_same [] e = tt
all_same (p ∷ ps) e = (head-eq_of_cons-eq e, all_same ps (tail-eq_of_cons-eq e))

row_same : (a b : List ℕ) → a ≡ b → same_bytes a b ≡ true
row_same a b e = subst (λ (x : List ℕ). same_bytes a x ≡ true) e (same_true a)

met : (t : Test) (o : Outcome) (ps : List Pair) → said t o ≡ true → Same (pairs t o ps) → (meets t o ≡ true) × Same ps
unfolding said pairs meets
met (gives t) o ps e s = (e, s)
met (store_is x) o ps e s = (row_same x o.store s.0, s.1)
met (work_is x) o ps e s = (row_same x o.work s.0, s.1)
met (both t u) o ps e s =
    let m : (meets t o ≡ true) × Same (pairs u o ps) = met t o (pairs u o ps) (and_left (said t o) _ e) s in
    let n : (meets u o ≡ true) × Same ps = met u o ps (and_right (said t o) _ e) m.1 in
    (and_both _ _ m.0 n.0, n.1)

-- ---- the row of refusals

unfoldable judged : Bool → State → Call → Permit
judged w st k =
    iff (not w) (Err IllStore)
    (iff (ill_session k st.session) (Err IllSession)
    (iff (short_response k) (Err ShortResponse)
    (iff (not (eqb (length st.work) work_size)) (Err WrongWork)
    (iff (interrupts k st.session) (Err JobOpen)
    (iff (unasked k st.session) (Err NoJob)
    (iff (wrong_result k st.session) (Err WrongResult)
    (Ok tt)))))))

call_is : (w : Bool) (st : State) (k : Call) → well_formed st.store ≡ w → call st k ≡ decided st k (judged w st k)
unfolding call permit judged
call_is w st k e = ap (λ (b : Bool). decided st k (judged b st k)) e

-- ---- lines from a power-on

-- the row of refusals in a run, where the store is well formed and the work area has its size
unfoldable in_run : State → Call → Permit
in_run st k =
    iff (ill_session k st.session) (Err IllSession)
    (iff (short_response k) (Err ShortResponse)
    (iff (interrupts k st.session) (Err JobOpen)
    (iff (unasked k st.session) (Err NoJob)
    (iff (wrong_result k st.session) (Err WrongResult)
    (Ok tt)))))

run_is : (st : State) (k : Call) → Well st → call st k ≡ decided st k (in_run st k)
unfolding judged in_run
run_is st k g =
    call_is true st k g.wf ∙ ap (decided st k) (off _ _ _ refl
    ∙ ap (λ (p : Permit). iff (ill_session k st.session) (Err IllSession) (iff (short_response k) (Err ShortResponse) p))
    (off _ _ _ (ap not (eq-eqb (length st.work) work_size g.size))))

abbrev plain : Call → Bool
plain (powers air) = true
plain (sends resp c) = all (λ b. ltb b 256) c
plain (finishes resp failed r) = true

plain_is : (k : Call) → plain k ≡ true → Plain k
plain_is (powers air) e = tt
plain_is (sends resp c) e = all-bytes c e
plain_is (finishes resp failed r) e = tt

unfoldable runs : State → List Line → Bool
runs st [] = true
runs st ((k ⇒ t) ∷ ls) = let r = decided st k (in_run st k) in let b = runs (leaves r) ls in plain k && (said t r.outcome && b)

unfoldable run_pairs : State → List Line → List Pair → List Pair
run_pairs st [] ps = ps
run_pairs st ((k ⇒ t) ∷ ls) ps = let r = decided st k (in_run st k) in pairs t r.outcome (run_pairs (leaves r) ls ps)

runs_follows : (ls : List Line) (st : State) (ps : List Pair) → Well st → runs st ls ≡ true → Same (run_pairs st ls ps) → (follows st ls ≡ true) × Same ps
unfolding runs run_pairs follows
runs_follows [] st ps g e s = (refl, s)
runs_follows ((k ⇒ t) ∷ ls) st ps g e s =
    let r : Result = decided st k (in_run st k) in
    let q : call st k ≡ r = run_is st k g in
    let m : (said t r.outcome && runs (leaves r) ls) ≡ true = and_right (plain k) _ e in
    let h : Well (leaves r) = subst (λ (x : Result). Well (leaves x)) q (call_kept st g k (plain_is k (and_left (plain k) _ e))).well in
    let a : (meets t r.outcome ≡ true) × Same (run_pairs (leaves r) ls ps) = met t r.outcome (run_pairs (leaves r) ls ps) (and_left (said t r.outcome) _ m) s in
    let b : (follows (leaves r) ls ≡ true) × Same ps = runs_follows ls (leaves r) ps h (and_right (said t r.outcome) _ m) a.1 in
    (subst (λ (x : Result). (meets t x.outcome && follows (leaves x) ls) ≡ true) (sym q) (and_both _ _ a.0 b.0), b.1)

-- ---- lines from any work area and session: all but the last are refused, and so leave the store

abbrev ends : Permit → List Line → Bool
ends (Ok u) [] = true
ends (Ok u) (l ∷ ls) = false
ends (Err r) ls = true

unfoldable tries : Bool → State → List Line → Bool
tries w st [] = true
tries w st ((k ⇒ t) ∷ ls) =
    let p = judged w st k in let r = decided st k p in let b = tries w (leaves r) ls in said t r.outcome && (ends p ls && b)

unfoldable try_pairs : Bool → State → List Line → List Pair → List Pair
try_pairs w st [] ps = ps
try_pairs w st ((k ⇒ t) ∷ ls) ps = let r = decided st k (judged w st k) in pairs t r.outcome (try_pairs w (leaves r) ls ps)

left-store : (st : State) (k : Call) (p : Permit) (l : Line) (ls : List Line) → ends p (l ∷ ls) ≡ true → (leaves (decided st k p)).store ≡ st.store
unfolding leaves decided denied
left-store st k (Ok u) l ls e = absurd (false≢true e)
left-store st k (Err r) l ls e = refl

tries_follows : (ls : List Line) (w : Bool) (st : State) (ps : List Pair) → well_formed st.store ≡ w → tries w st ls ≡ true → Same (try_pairs w st ls ps) → (follows st ls ≡ true) × Same ps
unfolding tries try_pairs follows
tries_follows [] w st ps h e s = (refl, s)
tries_follows ((k ⇒ t) ∷ []) w st ps h e s =
    let r : Result = decided st k (judged w st k) in
    let a : (meets t r.outcome ≡ true) × Same ps = met t r.outcome ps (and_left (said t r.outcome) _ e) s in
    (subst (λ (x : Result). (meets t x.outcome && true) ≡ true) (sym (call_is w st k h)) (and_both (meets t r.outcome) true a.0 refl), a.1)
tries_follows ((k ⇒ t) ∷ (l ∷ ls)) w st ps h e s =
    let p : Permit = judged w st k in
    let r : Result = decided st k p in
    let m : (ends p (l ∷ ls) && tries w (leaves r) (l ∷ ls)) ≡ true = and_right (said t r.outcome) _ e in
    let a : (meets t r.outcome ≡ true) × Same (try_pairs w (leaves r) (l ∷ ls) ps) =
    met t r.outcome (try_pairs w (leaves r) (l ∷ ls) ps) (and_left (said t r.outcome) _ e) s in
    let b : (follows (leaves r) (l ∷ ls) ≡ true) × Same ps =
    tries_follows (l ∷ ls) w (leaves r) ps (ap well_formed (left-store st k p l ls (and_left _ _ m)) ∙ h) (and_right (ends p (l ∷ ls)) _ m) a.1 in
    (subst (λ (x : Result). (meets t x.outcome && follows (leaves x) (l ∷ ls)) ≡ true) (sym (call_is w st k h)) (and_both _ _ a.0 b.0), b.1)

-- ---- rows

-- a card as a power-on leaves it
abbrev start : Bool → Card → State
start air c = state (store_of c) (zeros work_size) (cleared air)

abbrev quickly : Bool → Card → List Line → Bool
quickly air c ls = (whole c && fair c) && runs (start air c) ls

quickly_follows : (air : Bool) (c : Card) (ls : List Line) (ps : List Pair) → quickly air c ls ≡ true → Same (run_pairs (start air c) ls ps) → (follows (powered c air) ls ≡ true) × Same ps
unfolding powered
quickly_follows air c ls ps e y =
    let f : (whole c && fair c) ≡ true = and_left _ _ e in
    let s : List ℕ = store_of c in
    let w : List ℕ = replicate work_size 0xAA in
    let ss : Session = cleared (not air) in
    let v : well_formed s ≡ true = card_well c (and_left (whole c) _ f) (and_right (whole c) _ f) in
    let l : length w ≡ work_size = length-replicate {A = ℕ} work_size 0xAA in
    let q : leaves (call (state s w ss) (powers air)) ≡ start air c = powered_is s w ss air v l in
    runs_follows ls _ ps (power_well s w ss air (power_granted (state s w ss) air v l))
    (subst (λ (x : State). runs x ls ≡ true) (sym q) (and_right (whole c && fair c) _ e)) (subst (λ (x : State). Same (run_pairs x ls ps)) (sym q) y)

unfoldable quick : Row → Bool
quick (fact b) = b
quick (plays c ls) = quickly false c ls
quick (plays_air c ls) = quickly true c ls
quick (from c w ss ls) = fair c && tries (whole c) (state (store_of c) w ss) ls

unfoldable row_pairs : Row → List Pair → List Pair
row_pairs (fact b) ps = ps
row_pairs (plays c ls) ps = run_pairs (start false c) ls ps
row_pairs (plays_air c ls) ps = run_pairs (start true c) ls ps
row_pairs (from c w ss ls) ps = try_pairs (whole c) (state (store_of c) w ss) ls ps

card_is : (c : Card) → fair c ≡ true → well_formed (store_of c) ≡ whole c
unfolding fair
card_is (issued x) f = card_well (issued x) refl f
card_is (filled c i v) f = card_well (filled c i v) refl f
card_is (overlong c) f = card_ill c (and_left (whole c) _ f) (and_right (whole c) _ f)

quick_passes : (r : Row) (ps : List Pair) → quick r ≡ true → Same (row_pairs r ps) → (passes r ≡ true) × Same ps
unfolding quick row_pairs passes
quick_passes (fact b) ps e s = (e, s)
quick_passes (plays c ls) ps e s = quickly_follows false c ls ps e s
quick_passes (plays_air c ls) ps e s = quickly_follows true c ls ps e s
quick_passes (from c w ss ls) ps e s =
    tries_follows ls (whole c) (state (store_of c) w ss) ps (card_is c (and_left (fair c) _ e)) (and_right (fair c) _ e) s

unfoldable all_pairs : List Row → List Pair
all_pairs [] = []
all_pairs (r ∷ rs) = row_pairs r (all_pairs rs)

all_pass : (rs : List Row) → all_true (map quick rs) ≡ true → Same (all_pairs rs) → all_true (map passes rs) ≡ true
unfolding all_pairs
all_pass [] e s = refl
all_pass (r ∷ rs) e s =
    let a : (passes r ≡ true) × Same (all_pairs rs) = quick_passes r (all_pairs rs) (and_left (quick r) _ e) s in
    and_both _ _ a.0 (all_pass rs (and_right (quick r) _ e) a.1)

computed : all_true (map quick table) ≡ true
unfolding book fixed fair said judged in_run runs tries quick bytes sized sw job refused as_admin behind
computed = refl

compared : named (all_pairs table) ≡ found (all_pairs table)
unfolding book fixed said pairs judged in_run run_pairs try_pairs row_pairs all_pairs bytes sized sw job refused as_admin zero_first
compared = refl

pub starred : Holds
starred = all_pass table computed (all_same (all_pairs table) compared)
