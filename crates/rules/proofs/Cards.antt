-- Cards: the cards of specs/Claims/Starred are what they say: their stores are well formed, by law and not by a walk over 33,400 bytes.
--
--   whole c                the store of the card c is not too long
--   fair c                 its first bytes are in order, and its objects fit
--   bare c                 it has no object
--   bare_blank             so all of it is zero behind its first 32 bytes
--   card_well card_ill     so its store is well formed, and with a byte too many it is not
--   fixed_fair fixed-well  that of the fixed card is
--   power_is powered_is    a power-on with a well-formed store: what it comes to, and the state after it
--
-- Assumes nothing.
use mathlib.Core.Path.{◌≡◌, refl, ap, ◌∙◌}
use mathlib.Core.Bool.{Bool, true, false, ◌&&◌, false≢true}
use mathlib.Core.List.{List, [], ◌∷◌, ◌++◌}
use Prim.Native.Nat.{ℕ, ◌+◌, ◌-◌, ◌≤◌}
use native.Mathlib.Omega.{arith}
use lib.Dec.{ltb, leb, eqb}
use lib.ListN.{length, get_or, length-append}
use lib.Seq.{get_or-append-add}
use borrow.Author.Tests.{eqb-true, eq-eqb, ltb-true, leb-true, le-leb}
use Rattle.rules.specs.declared.Session.{Session}
use Rattle.rules.specs.Book.{book}
use Rattle.rules.specs.Bytes.{all_true, all, same_bytes, part, zeros, be16}
use Rattle.rules.specs.Reference.{pin_form, reference_ok, reference_at}
use Rattle.rules.specs.Store.{store_size, work_size, slots, capacity, offset, slot_length, pin_at, puk_at, algorithm_ok, mark, slot_ok, well_formed}
use Rattle.rules.specs.Session.{state, cleared}
use Rattle.rules.specs.Calls.{powers, powered_on, granted, call}
use Rattle.rules.specs.Runs.{leaves}
use Rattle.rules.specs.Claims.Starred.{hex, Card, issued, filled, overlong, store_of, fixed, fixed_card}
use Rattle.rules.proofs.Lists.{length-zeros}
use Rattle.rules.proofs.Tests.{and_left, and_right, each-true, all_below_lem}
use Rattle.rules.proofs.Slots.{slot-from}
use Rattle.rules.proofs.WellFormed.{tests_wf, wf_size}
use Rattle.rules.proofs.StaysWell.{wf_put}
use Rattle.rules.proofs.Permits.{power_granted, call-granted}
use Rattle.rules.proofs.Invariants.{zeros-zero}

-- ---- what is tested of a card

abbrev pub whole : Card → Bool
whole (issued x) = true
whole (filled c i v) = true
whole (overlong c) = false

abbrev pub bare : Card → Bool
bare (issued x) = true
bare (filled c i v) = false
bare (overlong c) = false

-- the tests of a store that its first 32 bytes decide
abbrev head_tests : List ℕ → List Bool
head_tests s =
    same_bytes (part s 0 8) mark
    ∷ reference_ok (reference_at s pin_at)
    ∷ reference_ok (reference_at s puk_at)
    ∷ pin_form (part s 10 8)
    ∷ all algorithm_ok (part s 28 4)
    ∷ []

unfoldable pub fair : Card → Bool
fair (issued x) = eqb (length (hex 32 x)) 32 && all_true (head_tests (store_of (issued x)))
fair (filled c i v) = (ltb i slots && leb (length v) (capacity i)) && (whole c && fair c)
fair (overlong c) = whole c && fair c

-- ---- and what follows

blank : (h : List ℕ) → length h ≡ 32 → (j : ℕ) → 32 ≤ j → get_or (h ++ zeros 33368) j 0 ≡ 0
blank h l j p =
    let e : j ≡ length h + (j - 32) = omega (arith, l) in
    ap (λ (i : ℕ). get_or (h ++ zeros 33368) i 0) e ∙ get_or-append-add h (zeros 33368) (j - 32) 0 ∙ zeros-zero 33368 (j - 32) (omega arith)

pub bare_blank : (c : Card) → bare c ≡ true → fair c ≡ true → (j : ℕ) → 32 ≤ j → get_or (store_of c) j 0 ≡ 0
unfolding fair
bare_blank (issued x) b f j p = blank (hex 32 x) (eqb-true _ _ (and_left (eqb (length (hex 32 x)) 32) _ f)) j p
bare_blank (filled c i v) b f j p = absurd (false≢true b)
bare_blank (overlong c) b f j p = absurd (false≢true b)

issued-well : (x : ℕ) → fair (issued x) ≡ true → well_formed (store_of (issued x)) ≡ true
unfolding fair slot_ok slot_length be16
issued-well x f =
    let h : List ℕ = hex 32 x in
    let s : List ℕ = h ++ zeros 33368 in
    let l : length h ≡ 32 = eqb-true _ _ (and_left (eqb (length h) 32) _ f) in
    let t : (k : ℕ) → get_or (head_tests s) k true ≡ true = each-true (head_tests s) (and_right (eqb (length h) 32) _ f) in
    tests_wf s
    (record {
      size = eq-eqb (length s) store_size (length-append h (zeros 33368) ∙ omega (arith, l, length-zeros 33368));
      marked = t 0;
      pin = t 1;
      puk = t 2;
      form = t 3;
      keys = t 4;
      objects = all_below_lem (slot_ok s) slots λ i o. rw (blank h l (offset i) (slot-from i o), blank h l (offset i + 1) (omega (arith, slot-from i o))) (le-leb 0 (capacity i) (omega arith));
    })

pub card_well : (c : Card) → whole c ≡ true → fair c ≡ true → well_formed (store_of c) ≡ true
unfolding fair
card_well (issued x) w f = issued-well x f
card_well (filled c i v) w f =
    let a : (ltb i slots && leb (length v) (capacity i)) ≡ true = and_left _ (whole c && fair c) f in
    let b : (whole c && fair c) ≡ true = and_right (ltb i slots && leb (length v) (capacity i)) _ f in
    wf_put (store_of c) i v (ltb-true i slots (and_left (ltb i slots) _ a)) (leb-true (length v) (capacity i) (and_right (ltb i slots) _ a))
    (card_well c (and_left (whole c) _ b) (and_right (whole c) _ b))
card_well (overlong c) w f = absurd (false≢true w)

pub card_ill : (c : Card) → whole c ≡ true → fair c ≡ true → well_formed (store_of (overlong c)) ≡ false
card_ill c w f = go (well_formed (0 ∷ store_of c)) refl
  where
    go : (b : Bool) → well_formed (0 ∷ store_of c) ≡ b → b ≡ false
    go false e = refl
    go true e = absurd (omega (arith, wf_size (0 ∷ store_of c) e, wf_size (store_of c) (card_well c w f)))

pub fixed_fair : fair fixed_card ≡ true
unfolding book fair
fixed_fair = refl

pub fixed-well : well_formed fixed ≡ true
unfolding fixed
fixed-well = card_well fixed_card refl fixed_fair

-- ---- power-on

module _ (s w : List ℕ) (ss : Session) (air : Bool) (f : well_formed s ≡ true) (l : length w ≡ work_size) where
  pub power_is : call (state s w ss) (powers air) ≡ powered_on (state s w ss) air
  unfolding granted
  power_is = call-granted (state s w ss) (powers air) (power_granted (state s w ss) air f l)

  pub powered_is : leaves (call (state s w ss) (powers air)) ≡ state s (zeros work_size) (cleared air)
  unfolding leaves powered_on
  powered_is = ap leaves power_is
