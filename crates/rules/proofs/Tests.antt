-- Tests: laws of `iff` and of tests, and how a computed test of a whole table gives its rule at each entry.
--
--   on off                 which branch of an `iff` is taken
--   either                 what holds of both branches
--   branch                 the same, each branch with its test
--   passes fails negated   a test b that a call answered by r, after the code's test of `!r`
--   and_left and_right and_both    a conjunction of tests that passes
--   and_off_left and_off_right     one that does not
--   and-other              one that does not, though its first test passes
--   and_end                the last test of a row
--   or_left or_right or-none or-other or_cases   a disjunction
--   each-true              each test of a row passes where `all_true` does
--   all-true-append        two rows of tests, one behind the other
--   at_each all_below_lem  `all_below`, at each number
--   by_order by_equal      by cases of two numbers
--   p1_off p2_off both_on  the test "P1 P2 not .." by two tests of the code
--
-- Assumes nothing.
use mathlib.Core.Path.{◌≡◌, refl, sym, ap, ◌∙◌}
use mathlib.Core.Logic.{◌⊎◌, inl, inr}
use mathlib.Core.Bool.{Bool, true, false, not, ◌&&◌, ◌||◌, true≢false, false≢true}
use mathlib.Core.List.{List, [], ◌∷◌, ◌++◌}
use Prim.Native.Nat.{ℕ, zero, suc, ◌≤◌, ◌<◌}
use native.Mathlib.Omega.{arith}
use lib.Dec.{ltb, eqb}
use lib.ListN.{get_or}
use borrow.Author.Tests.{eqb-true, eqb-false, ltb-true, ltb-false, not-true, not-false, eq-eqb, ne_eqb}
use Rattle.rules.specs.Bytes.{iff, all_true, all_below}

-- ---- iff

pub on : {A : Type 0} (b : Bool) (x y : A) → b ≡ true → iff b x y ≡ x
unfolding iff
on true x y e = refl
on false x y e = absurd (false≢true e)

pub off : {A : Type 0} (b : Bool) (x y : A) → b ≡ false → iff b x y ≡ y
unfolding iff
off true x y e = absurd (true≢false e)
off false x y e = refl

pub either : {A : Type 0} (P : A → Type 0) (b : Bool) {x y : A} → P x → P y → P (iff b x y)
unfolding iff
either P true p q = p
either P false p q = q

pub branch : {A : Type 0} (P : A → Type 0) (b : Bool) {x y : A} → (b ≡ true → P x) → (b ≡ false → P y) → P (iff b x y)
unfolding iff
branch P true p q = p refl
branch P false p q = q refl

-- ---- what a call answered: r ≡ b is its promise, and the code has tested `!r`

pub passes : {r b : Bool} → r ≡ b → not r ≡ false → b ≡ true
passes e h = sym e ∙ not-false _ h

pub fails : {r b : Bool} → r ≡ b → not r ≡ true → b ≡ false
fails e h = sym e ∙ not-true _ h

pub negated : {r b x : Bool} → r ≡ b → not r ≡ x → not b ≡ x
negated e h = ap not (sym e) ∙ h

-- ---- and, or

pub and_left : (a b : Bool) → (a && b) ≡ true → a ≡ true
and_left true b e = refl
and_left false b e = e

pub and_right : (a b : Bool) → (a && b) ≡ true → b ≡ true
and_right true b e = e
and_right false b e = absurd (false≢true e)

pub and_both : (a b : Bool) → a ≡ true → b ≡ true → (a && b) ≡ true
and_both true b p q = q
and_both false b p q = p

pub and_off_left : (a b : Bool) → a ≡ false → (a && b) ≡ false
and_off_left true b e = absurd (true≢false e)
and_off_left false b e = refl

pub and_off_right : (a b : Bool) → b ≡ false → (a && b) ≡ false
and_off_right true b e = e
and_off_right false b e = refl

pub and-other : (a b : Bool) → (a && b) ≡ false → a ≡ true → b ≡ false
and-other true b e q = e
and-other false b e q = absurd (false≢true q)

pub and_end : (b : Bool) → (b && true) ≡ b
and_end true = refl
and_end false = refl

pub or_left : (a b : Bool) → a ≡ true → (a || b) ≡ true
or_left true b e = refl
or_left false b e = absurd (false≢true e)

pub or_right : (a b : Bool) → b ≡ true → (a || b) ≡ true
or_right true b e = refl
or_right false b e = e

pub or-none : (a b : Bool) → a ≡ false → b ≡ false → (a || b) ≡ false
or-none true b p q = p
or-none false b p q = q

pub or-other : (a b : Bool) → (a || b) ≡ true → a ≡ false → b ≡ true
or-other true b e f = absurd (true≢false f)
or-other false b e f = e

pub or_cases : (a b : Bool) → (a || b) ≡ true → (a ≡ true) ⊎ (b ≡ true)
or_cases true b e = inl refl
or_cases false b e = inr e

-- ---- rows of tests

pub each-true : (bs : List Bool) → all_true bs ≡ true → (k : ℕ) → get_or bs k true ≡ true
each-true [] e k = refl
each-true (b ∷ bs) e zero = and_left b _ e
each-true (b ∷ bs) e (suc k) = each-true bs (and_right b _ e) k

pub all-true-append : (cs bs : List Bool) → all_true cs ≡ true → all_true bs ≡ true → all_true (cs ++ bs) ≡ true
all-true-append [] bs p q = q
all-true-append (a ∷ cs) bs p q = and_both a _ (and_left a _ p) (all-true-append cs bs (and_right a _ p) q)

pub at_each : (f : ℕ → Bool) (n : ℕ) → all_below f n ≡ true → (i : ℕ) → i < n → f i ≡ true
at_each f zero e i h = absurd (omega arith)
at_each f (suc n) e i h = go (at_each f n (and_right (f n) _ e) i) (eqb i n) refl
  where
    go : (i < n → f i ≡ true) → (b : Bool) → eqb i n ≡ b → f i ≡ true
    go ih true q = rw (eqb-true i n q) (and_left (f n) _ e)
    go ih false q = let ne : i ≡ n → ⊥ = eqb-false i n q in ih (omega arith)

pub all_below_lem : (f : ℕ → Bool) (n : ℕ) → ((i : ℕ) → i < n → f i ≡ true) → all_below f n ≡ true
all_below_lem f zero h = refl
all_below_lem f (suc n) h = and_both (f n) _ (h n (omega arith)) (all_below_lem f n λ i l. h i (omega arith))

-- ---- cases

pub by_order : {C : Type 0} (a b : ℕ) → (a < b → C) → (b ≤ a → C) → C
by_order {C} a b f g = go (ltb a b) refl
  where
    go : (t : Bool) → ltb a b ≡ t → C
    go true e = f (ltb-true a b e)
    go false e = g (ltb-false a b e)

pub by_equal : {C : Type 0} (a b : ℕ) → (a ≡ b → C) → ((a ≡ b → ⊥) → C) → C
by_equal {C} a b f g = go (eqb a b) refl
  where
    go : (t : Bool) → eqb a b ≡ t → C
    go true e = f (eqb-true a b e)
    go false e = g (eqb-false a b e)

-- ---- two bytes tested together

module _ (a b x y : ℕ) where
  pub p1_off : (a ≡ x → ⊥) → not (eqb a x && eqb b y) ≡ true
  p1_off h = ap not (and_off_left (eqb a x) (eqb b y) (ne_eqb a x h))

  pub p2_off : (b ≡ y → ⊥) → not (eqb a x && eqb b y) ≡ true
  p2_off h = ap not (and_off_right (eqb a x) (eqb b y) (ne_eqb b y h))

  pub both_on : a ≡ x → b ≡ y → not (eqb a x && eqb b y) ≡ false
  both_on p q = ap not (and_both (eqb a x) (eqb b y) (eq-eqb a x p) (eq-eqb b y q))
