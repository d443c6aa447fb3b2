-- Refs: the two references in the bytes of a store.
--
--   reference_put          what is put is read
--   reference_apart        a reference apart from a stretch that is replaced stays
--   put_reference_lem      what is read and put back changes nothing
--   charge-byte restore-byte renew-bytes    a step writes one byte, or the eight of the value
--   Sized r                both values have eight bytes
--   refs-sized             those of a store have
--   refs_onto_lem          what is put is read
--   onto_refs              what is read and put back changes nothing
--   onto_onto              the last that is put stays
--   onto_length            the store keeps its length
--   sized_step given_step  a step keeps the sizes of the values, and the PIN status
--   step_on                a step made on the store that earlier steps left
--   onto_pin onto_puk      the store after a change of one reference
--
-- Assumes nothing.
use mathlib.Core.Path.{◌≡◌, refl, ap, ap₂, sym, ◌∙◌}
use mathlib.Core.Logic.{◌⊎◌, inl, inr, ⊎_elim}
use mathlib.Core.Bool.{Bool}
use mathlib.Core.List.{List, [], ◌∷◌, append-nil}
use Prim.Native.Nat.{ℕ, zero, suc, ◌+◌, ◌-◌, ◌≤◌, ◌<◌}
use native.Mathlib.Omega.{arith}
use lib.ListN.{length, get_or}
use lib.Seq.{ext_get_or}
use Rattle.rules.specs.Bytes.{part, splice}
use Rattle.rules.specs.Reference.{Reference, reference_at, put_reference, charged, restored, renewed}
use Rattle.rules.specs.Command.{Which, the_pin, the_puk, Step, charge, equal, unequal, restore, new_value}
use Rattle.rules.specs.Store.{pin_at, puk_at}
use Rattle.rules.specs.Pin.{Refs, the, put_the, stepped, refs_in, refs_onto}
use Rattle.rules.proofs.Lists.{length-splice, splice-before, splice_in, splice-after, length_part, get_or-part, part_apart, part_cons, splice-part, splice_again, splice_apart, splice-within}

-- ---- one reference at a place

module _ (s : List ℕ) (at : ℕ) (h : at + 10 ≤ length s) where
  ten : part s at 10 ≡ get_or s at 0 ∷ get_or s (at + 1) 0 ∷ part s (at + 1 + 1) 8
  ten = part_cons s at 9 (omega arith) ∙ ap (λ (l : List ℕ). get_or s at 0 ∷ l) (part_cons s (at + 1) 8 (omega arith))

  pub put_reference_lem : put_reference s at (reference_at s at) ≡ s
  unfolding put_reference reference_at
  put_reference_lem =
      ap (λ (n : ℕ). splice s at (get_or s at 0 ∷ get_or s (at + 1) 0 ∷ part s n 8)) (omega arith)
      ∙ ap (splice s at) (sym ten) ∙ splice-part s at 10 h

module _ (s : List ℕ) (at : ℕ) (f : Reference) (lf : length f.value ≡ 8) (h : at + 10 ≤ length s) where
  fits : at + length (f.limit ∷ f.left ∷ f.value) ≤ length s
  fits = omega arith

  pub reference_put : reference_at (put_reference s at f) at ≡ f
  unfolding put_reference reference_at
  reference_put =
      let v : List ℕ = f.limit ∷ f.left ∷ f.value in
      let a : get_or (splice s at v) at 0 ≡ f.limit = ap (λ (n : ℕ). get_or (splice s at v) n 0) (omega arith) ∙ splice_in s v at fits 0 (omega arith) in
      let b : get_or (splice s at v) (at + 1) 0 ≡ f.left = splice_in s v at fits 1 (omega arith) in
      let l : length (splice s at v) ≡ length s = length-splice s v at fits in
      let c : part (splice s at v) (at + 2) 8 ≡ f.value =
      ext_get_or 0 (part (splice s at v) (at + 2) 8) f.value (length_part (splice s at v) (at + 2) 8 (omega arith) ∙ sym lf)
      λ k p. let q : k < 8 = rw (length_part (splice s at v) (at + 2) 8 (omega arith)) at p in
      get_or-part (splice s at v) (at + 2) 8 (omega arith) k q
      ∙ ap (λ (n : ℕ). get_or (splice s at v) n 0) (omega arith) ∙ splice_in s v at fits (suc (suc k)) (omega arith) in
      rw (a, b, c)

pub reference_apart : (s v : List ℕ) (at to : ℕ) → at + length v ≤ length s → to + 10 ≤ length s → (to + 10 ≤ at) ⊎ (at + length v ≤ to)
    → reference_at (splice s at v) to ≡ reference_at s to
unfolding reference_at
reference_apart s v at to h g o =
    let one : (j : ℕ) → to ≤ j → j < to + 10 → get_or (splice s at v) j 0 ≡ get_or s j 0 =
    λ j p q. ⊎_elim (λ u. splice-before s v at h j (omega arith)) (λ u. splice-after s v at h j (omega arith)) o in
    rw (
      one to (omega arith) (omega arith),
      one (to + 1) (omega arith) (omega arith),
      part_apart s v at h (to + 2) 8 (omega arith) (⊎_elim (λ u. inl (omega arith)) (λ u. inr (omega arith)) o),
    )

-- ---- steps write one byte, or the eight of the value

module _ (s : List ℕ) (at : ℕ) (h : at + 10 ≤ length s) where
  -- the value as it stands behind the tries left
  behind : (k : ℕ) → k < length (part s (at + 2) 8) → get_or (part s (at + 2) 8) k 0 ≡ get_or s (at + 1 + 1 + k) 0
  behind k p =
      let q : k < 8 = rw (length_part s (at + 2) 8 (omega arith)) at p in
      get_or-part s (at + 2) 8 (omega arith) k q ∙ ap (λ (n : ℕ). get_or s n 0) (omega arith)

  left-byte : (x : ℕ) → splice s at (get_or s at 0 ∷ x ∷ part s (at + 2) 8) ≡ splice s (at + 1) (x ∷ [])
  left-byte x =
      splice-within s (get_or s at 0 ∷ []) (x ∷ []) (part s (at + 2) 8) at (omega (arith, length_part s (at + 2) 8 (omega arith)))
      (λ k p. first k p) behind
    where
      first : (k : ℕ) → k < 1 → get_or (get_or s at 0 ∷ []) k 0 ≡ get_or s (at + k) 0
      first zero p = ap (λ (n : ℕ). get_or s n 0) (omega arith)
      first (suc k) p = absurd (omega arith)

  pub charge-byte : put_reference s at (charged (reference_at s at)) ≡ splice s (at + 1) ((get_or s (at + 1) 0 - 1) ∷ [])
  unfolding put_reference charged reference_at
  charge-byte = left-byte (get_or s (at + 1) 0 - 1)

  pub restore-byte : put_reference s at (restored (reference_at s at)) ≡ splice s (at + 1) (get_or s at 0 ∷ [])
  unfolding put_reference restored reference_at
  restore-byte = left-byte (get_or s at 0)

  pub renew-bytes : (v : List ℕ) → length v ≡ 8 → put_reference s at (renewed (reference_at s at) v) ≡ splice s (at + 2) v
  unfolding put_reference renewed reference_at
  renew-bytes v e =
      ap (λ (l : List ℕ). splice s at (get_or s at 0 ∷ get_or s (at + 1) 0 ∷ l)) (sym (append-nil v))
      ∙ splice-within s (get_or s at 0 ∷ get_or s (at + 1) 0 ∷ []) v [] at (omega arith) (λ k p. two k p) (λ k p. absurd (omega arith))
    where
      two : (k : ℕ) → k < 2 → get_or (get_or s at 0 ∷ get_or s (at + 1) 0 ∷ []) k 0 ≡ get_or s (at + k) 0
      two zero p = ap (λ (n : ℕ). get_or s n 0) (omega arith)
      two (suc zero) p = refl
      two (suc (suc k)) p = absurd (omega arith)

-- ---- both references

pub record Sized (r : Refs) : Type 0 where
  pub pin : length r.pin.value ≡ 8
  pub puk : length r.puk.value ≡ 8

module _ (s : List ℕ) (h : 28 ≤ length s) where
  pub refs-sized : (b : Bool) → Sized (refs_in s b)
  unfolding refs_in reference_at
  refs-sized b = record { pin = length_part s 10 8 (omega arith); puk = length_part s 20 8 (omega arith) }

  pub onto_refs : (b : Bool) → refs_onto s (refs_in s b) ≡ s
  unfolding refs_onto refs_in
  onto_refs b = ap (λ (l : List ℕ). put_reference l puk_at (reference_at s puk_at)) (put_reference_lem s pin_at (omega arith)) ∙ put_reference_lem s puk_at (omega arith)

module _ (s : List ℕ) (r : Refs) (z : Sized r) (h : 28 ≤ length s) where
  pin_fits : pin_at + length (r.pin.limit ∷ r.pin.left ∷ r.pin.value) ≤ length s
  pin_fits = omega (arith, z.pin)

  pin-length : length (put_reference s pin_at r.pin) ≡ length s
  unfolding put_reference
  pin-length = length-splice s _ pin_at pin_fits

  puk_fits : puk_at + length (r.puk.limit ∷ r.puk.left ∷ r.puk.value) ≤ length (put_reference s pin_at r.pin)
  puk_fits = omega (arith, z.puk, pin-length)

  pub onto_length : length (refs_onto s r) ≡ length s
  unfolding refs_onto put_reference
  onto_length = length-splice _ _ puk_at puk_fits ∙ pin-length

  pub refs_onto_lem : refs_in (refs_onto s r) r.given ≡ r
  unfolding refs_in refs_onto put_reference
  refs_onto_lem =
      let a : reference_at (put_reference (put_reference s pin_at r.pin) puk_at r.puk) pin_at ≡ r.pin =
      reference_apart (put_reference s pin_at r.pin) (r.puk.limit ∷ r.puk.left ∷ r.puk.value) puk_at pin_at puk_fits (omega (arith, pin-length)) (inl (omega arith))
      ∙ reference_put s pin_at r.pin z.pin (omega arith) in
      let b : reference_at (put_reference (put_reference s pin_at r.pin) puk_at r.puk) puk_at ≡ r.puk =
      reference_put (put_reference s pin_at r.pin) puk_at r.puk z.puk (omega (arith, pin-length)) in
      rw (a, b)

-- what is put last stays
pub onto_onto : (s : List ℕ) (r q : Refs) → Sized r → Sized q → 28 ≤ length s → refs_onto (refs_onto s r) q ≡ refs_onto s q
unfolding refs_onto put_reference
onto_onto s r q zr zq h =
    let p1 : List ℕ = r.pin.limit ∷ r.pin.left ∷ r.pin.value in
    let p2 : List ℕ = q.pin.limit ∷ q.pin.left ∷ q.pin.value in
    let k1 : List ℕ = r.puk.limit ∷ r.puk.left ∷ r.puk.value in
    let k2 : List ℕ = q.puk.limit ∷ q.puk.left ∷ q.puk.value in
    let a : length p1 ≡ 10 = omega (arith, zr.pin) in
    let b : length p2 ≡ 10 = omega (arith, zq.pin) in
    let c : length k1 ≡ 10 = omega (arith, zr.puk) in
    let d : length k2 ≡ 10 = omega (arith, zq.puk) in
    let l : length (splice s 8 p1) ≡ length s = length-splice s p1 8 (omega arith) in
    let l2 : length (splice s 8 p2) ≡ length s = length-splice s p2 8 (omega arith) in
    ap (λ (x : List ℕ). splice x 18 k2) (sym (splice_apart (splice s 8 p1) p2 k1 8 18 (omega arith) (omega arith)))
    ∙ ap (λ (x : List ℕ). splice (splice x 18 k1) 18 k2) (splice_again s p1 p2 8 (omega arith) (omega arith))
    ∙ splice_again (splice s 8 p2) k1 k2 18 (omega arith) (omega arith)

-- ---- steps, one after the other

pub sized-put : (r : Refs) (w : Which) (f : Reference) → Sized r → length f.value ≡ 8 → Sized (put_the r w f)
unfolding put_the
sized-put r the_pin f z e = record { pin = e; puk = z.puk }
sized-put r the_puk f z e = record { pin = z.pin; puk = e }

value-sized : (r : Refs) (w : Which) → Sized r → length (the r w).value ≡ 8
unfolding the
value-sized r the_pin z = z.pin
value-sized r the_puk z = z.puk

-- a new value has eight bytes
abbrev pub StepSized : Step → Type 0
StepSized (charge w) = Unit {0}
StepSized (equal w) = Unit {0}
StepSized (unequal w) = Unit {0}
StepSized (restore w) = Unit {0}
StepSized (new_value w v) = length v ≡ 8

pub sized_step : (r : Refs) (t : Step) → Sized r → StepSized t → Sized (stepped r t)
unfolding stepped charged restored renewed
sized_step r (charge w) z e = sized-put r w _ z (value-sized r w z)
sized_step r (equal w) z e = z
sized_step r (unequal w) z e = z
sized_step r (restore w) z e = sized-put r w _ z (value-sized r w z)
sized_step r (new_value w v) z e = sized-put r w _ z e

given-put : (r : Refs) (w : Which) (f : Reference) → (put_the r w f).given ≡ r.given
unfolding put_the
given-put r the_pin f = refl
given-put r the_puk f = refl

pub given_step : (r : Refs) (t : Step) → (stepped r t).given ≡ r.given
unfolding stepped
given_step r (charge w) = given-put r w _
given_step r (equal w) = refl
given_step r (unequal w) = refl
given_step r (restore w) = given-put r w _
given_step r (new_value w v) = given-put r w _

-- s₁ holds the references r over s; a step made on it is the step made on r, over s
pub step_on : (s s₁ s₂ : List ℕ) (r : Refs) (t : Step) (b : Bool) → 28 ≤ length s → Sized r → StepSized t → r.given ≡ b
    → s₁ ≡ refs_onto s r → s₂ ≡ refs_onto s₁ (stepped (refs_in s₁ b) t) → s₂ ≡ refs_onto s (stepped r t)
step_on s s₁ s₂ r t b h z e g p q =
    let u : refs_in s₁ b ≡ r = ap₂ refs_in p (sym g) ∙ refs_onto_lem s r z h in
    q ∙ ap₂ (λ (l : List ℕ) (x : Refs). refs_onto l (stepped x t)) p u ∙ onto_onto s r (stepped r t) z (sized_step r t z e) h

module _ (s : List ℕ) (b : Bool) (h : 28 ≤ length s) (f : Reference) (lf : length f.value ≡ 8) where
  pub onto_pin : refs_onto s (put_the (refs_in s b) the_pin f) ≡ put_reference s pin_at f
  unfolding refs_onto put_the refs_in put_reference
  onto_pin =
      let l : length (splice s 8 (f.limit ∷ f.left ∷ f.value)) ≡ length s = length-splice s _ 8 (omega arith) in
      ap (λ (x : Reference). put_reference (put_reference s pin_at f) puk_at x)
      (sym (reference_apart s (f.limit ∷ f.left ∷ f.value) 8 18 (omega arith) (omega arith) (inr (omega arith))))
      ∙ put_reference_lem (put_reference s pin_at f) puk_at (omega arith)

  pub onto_puk : refs_onto s (put_the (refs_in s b) the_puk f) ≡ put_reference s puk_at f
  unfolding refs_onto put_the refs_in
  onto_puk = ap (λ (l : List ℕ). put_reference l puk_at f) (put_reference_lem s pin_at (omega arith))
