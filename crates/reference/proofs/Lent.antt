-- Lent: one reference of a store, its ten bytes lent.
--
--   Lent s front back ten w    the store s, lent so that the ten bytes of reference w are apart
--   lent_at                as a split at the reference's place leaves it
--   read-lent              the reference in the ten bytes that are lent
--   charge-back restore-back renew-back    the store, when the ten bytes come back with a step made on them
--
-- Assumes nothing.
use mathlib.Core.Path.{◌≡◌, refl, sym, ap, ap₂, ◌∙◌}
use mathlib.Core.Bool.{Bool}
use mathlib.Core.List.{List, ◌++◌}
use Prim.Native.Nat.{ℕ, ◌+◌, ◌≤◌}
use native.Mathlib.Omega.{arith}
use lib.ListN.{length, take, drop}
use Rattle.rules.specs.Bytes.{part}
use Rattle.rules.specs.Reference.{Reference, reference_at, put_reference, charged, restored, renewed}
use Rattle.rules.specs.Command.{Which, the_pin, the_puk, charge, restore, new_value}
use Rattle.rules.specs.Pin.{the, put_the, stepped, refs_in, refs_onto}
use Rattle.rules.proofs.Refs.{onto_pin, onto_puk}
use Rattle.reference.specs.Place.{place_of}
use Rattle.reference.proofs.Laws.{value-length, reference_lent, step_back}

place_fits : (s : List ℕ) (w : Which) → 28 ≤ length s → place_of w + 10 ≤ length s
place_fits s the_pin h = omega arith
place_fits s the_puk h = h

the_at : (s : List ℕ) (b : Bool) (w : Which) → the (refs_in s b) w ≡ reference_at s (place_of w)
unfolding the refs_in
the_at s b the_pin = refl
the_at s b the_puk = refl

onto_one : (s : List ℕ) (b : Bool) (w : Which) → 28 ≤ length s → (f : Reference) → length f.value ≡ 8
    → refs_onto s (put_the (refs_in s b) w f) ≡ put_reference s (place_of w) f
onto_one s b the_pin h f lf = onto_pin s b h f lf
onto_one s b the_puk h f lf = onto_puk s b h f lf

-- the store s is lent in two parts, and the ten bytes of reference w are the first of the second
pub record Lent (s front back ten : List ℕ) (w : Which) : Type 0 where
  pub size : 28 ≤ length s
  pub front-is : front ≡ take (place_of w) s
  pub back-is : back ≡ drop (place_of w) s
  pub ten-is : ten ≡ take 10 back

pub lent_at : {s front back ten : List ℕ} {w : Which} {n at : ℕ} → n ≡ at → at ≡ place_of w → 28 ≤ length s
    → front ≡ take n s → back ≡ drop n s → ten ≡ take 10 back → Lent s front back ten w
lent_at {s} p q h f r t = record { size = h; front-is = rw p at f ∙ ap (λ (k : ℕ). take k s) q; back-is = rw p at r ∙ ap (λ (k : ℕ). drop k s) q; ten-is = t }

module _ {s front back ten : List ℕ} {w : Which} (o : Lent s front back ten w) where
  ten-part : ten ≡ part s (place_of w) 10
  unfolding part
  ten-part = o.ten-is ∙ ap (take 10) o.back-is

  pub read-lent : (b : Bool) → reference_at ten 0 ≡ the (refs_in s b) w
  read-lent b =
      ap (λ (l : List ℕ). reference_at l 0) ten-part
      ∙ reference_lent s (place_of w) (place_fits s w o.size) ∙ sym (the_at s b w)

  -- a change g of the ten bytes is that change of the reference
  changed-back : (b : Bool) (g : Reference → Reference) → length (g (reference_at s (place_of w))).value ≡ 8 → (x : List ℕ)
      → x ≡ put_reference ten 0 (g (reference_at ten 0))
      → front ++ (x ++ drop 10 back) ≡ refs_onto s (put_the (refs_in s b) w (g (the (refs_in s b) w)))
  changed-back b g lg x e =
      ap₂ (λ (l m : List ℕ). l ++ (x ++ drop 10 m)) o.front-is o.back-is
      ∙ ap (λ (l : List ℕ). take (place_of w) s ++ (l ++ drop 10 (drop (place_of w) s))) (e ∙ ap (λ (l : List ℕ). put_reference l 0 (g (reference_at l 0))) ten-part)
      ∙ step_back s (place_of w) (place_fits s w o.size) g lg 10 refl
      ∙ sym (onto_one s b w o.size (g (reference_at s (place_of w))) lg)
      ∙ ap (λ (f : Reference). refs_onto s (put_the (refs_in s b) w (g f))) (sym (the_at s b w))

  module _ (x : List ℕ) where
    pub charge-back : x ≡ put_reference ten 0 (charged (reference_at ten 0)) → (b : Bool)
        → front ++ (x ++ drop 10 back) ≡ refs_onto s (stepped (refs_in s b) (charge w))
    unfolding stepped charged
    charge-back e b = changed-back b charged (value-length s (place_of w) (place_fits s w o.size)) x e

    pub restore-back : x ≡ put_reference ten 0 (restored (reference_at ten 0)) → (b : Bool)
        → front ++ (x ++ drop 10 back) ≡ refs_onto s (stepped (refs_in s b) (restore w))
    unfolding stepped restored
    restore-back e b = changed-back b restored (value-length s (place_of w) (place_fits s w o.size)) x e

    pub renew-back : (v : List ℕ) → length v ≡ 8 → x ≡ put_reference ten 0 (renewed (reference_at ten 0) v) → (b : Bool)
        → front ++ (x ++ drop 10 back) ≡ refs_onto s (stepped (refs_in s b) (new_value w v))
    unfolding stepped renewed
    renew-back v l e b = changed-back b (λ (f : Reference). renewed f v) l x e
