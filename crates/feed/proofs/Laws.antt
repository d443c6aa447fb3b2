-- Laws: what a feed gives, byte by byte.
--
--   byte_taken             the first byte of a stretch is taken
--   coming byte_there      what is still to come from a place on, and that the byte there comes first
--   Goes                   n bytes of the line are kept in t after i turns: what comes still ends the same line of the bytes that came
--   Counted                a turn takes a byte at least
--   same_then              one part of a line, and then another
--   same_on counted_on     one more byte of the line
--   counted_then           a part of the line takes no turn
--   goes_lf goes_end       the line's end, and the input's
--
-- Assumes nothing.
use Rattle.std.proofs.Common.{◌≡◌, ◌≢◌, ℕ, suc, ◌+◌, ◌-◌, ◌<◌, ◌≤◌, List, [], ◌∷◌, ◌++◌, Option, None, Some, length, get_or, take, drop, slice_range, option_map, if◌then◌else◌, drop-cons, add-one, refl, sym, subst, ap, ap₂, ◌∙◌, arith}
use Rattle.std.specs.Io.BufRead.{drop_through}
use Rattle.std.specs.Io.KnownBytes.{Keeps}
use Rattle.std.proofs.lemmas.Bool.Decides.{nat_tests}
use Rattle.keeping.specs.Keeping.{Kept, kept, keep, keep_all, kept_line}
use Rattle.keeping.proofs.Laws.{keep_some}
use Rattle.feed.specs.declared.Feed.{Feed}
use Rattle.feed.specs.Feeding.{line_of, TakesByte, TakesLine, SameLine}

stretch : (s : List ℕ) (at end : ℕ) → at < end → end ≤ length s → slice_range s at end ≡ get_or s at 0 ∷ slice_range s (at + 1) end
stretch s at end h k =
    let l : at < length s = omega arith in
    let e : end - at ≡ suc (end - suc at) = omega arith in
    rw add-one (ap (λ (d : List ℕ). take (end - at) d) (drop-cons s at 0 l) ∙ ap (λ (n : ℕ). take n (get_or s at 0 ∷ drop (suc at) s)) e)

taken : (s : List ℕ) (at end : ℕ) (p : List ℕ → List ℕ) (more : Option (List ℕ)) → at < end → end ≤ length s
    → TakesByte (option_map (λ l. slice_range s at end ++ p l) more) (option_map (λ l. slice_range s (at + 1) end ++ p l) more) (Some (get_or s at 0))
taken s at end p None h k = tt
taken s at end p (Some l) h k =
    subst (λ (z : List ℕ). TakesByte (Some (z ++ p l)) (Some (slice_range s (at + 1) end ++ p l)) (Some (get_or s at 0))) (sym (stretch s at end h k)) (refl, refl)

pub byte_taken : (s : List ℕ) (at end : ℕ) (p : List ℕ → List ℕ) (old more : Option (List ℕ)) → at < end → end ≤ length s
    → Keeps old (option_map (λ l. slice_range s at end ++ p l) more)
    → TakesByte old (option_map (λ l. slice_range s (at + 1) end ++ p l) more) (Some (get_or s at 0))
byte_taken s at end p None more h k e = tt
byte_taken s at end p (Some l) None h k e = absurd e
byte_taken s at end p (Some l) (Some m) h k e =
    subst (λ (z : List ℕ). TakesByte (Some z) (Some (slice_range s (at + 1) end ++ p m)) (Some (get_or s at 0))) e (taken s at end p (Some m) h k)

-- the bytes that are still to come of a feed whose place is another
abbrev pub coming : {R : Type 0} → (R → Option (List ℕ)) → Feed R → ℕ → Option (List ℕ)
coming remaining f at = option_map (λ l. slice_range f.given at f.end ++ (if f.over then [] else l)) (remaining f.from)

pub byte_there : {R : Type 0} (remaining : R → Option (List ℕ)) (f : Feed R) (at : ℕ) → at < f.end → f.end ≤ length f.given
    → TakesByte (coming remaining f at) (coming remaining f (at + 1)) (Some (get_or f.given at 0))
byte_there remaining f at h k = taken f.given at f.end (λ (l : List ℕ). if f.over then [] else l) (remaining f.from) h k

-- after i turns at least i bytes of those that came are gone
abbrev pub Counted : Option (List ℕ) → Option (List ℕ) → ℕ → Type 0
Counted None now i = Unit {0}
Counted (Some l) None i = ⊥
Counted (Some l) (Some m) i = i + length m ≤ length l

abbrev pub Goes : List ℕ → Option (List ℕ) → Option (List ℕ) → ℕ → List ℕ → ℕ → Type 0
Goes s old now n t i = SameLine old now s 0 t n × Counted old now i

pub same_then : (old now new : Option (List ℕ)) (s t u : List ℕ) (n m k : ℕ) → SameLine old now s n t m → SameLine now new t m u k → SameLine old new s n u k
same_then None now new s t u n m k g h = tt
same_then (Some l) None new s t u n m k g h = absurd g
same_then (Some l) (Some x) None s t u n m k g h = absurd h
same_then (Some l) (Some x) (Some y) s t u n m k g h =
    (h.0 ∙ g.0, h.1 ∙ g.1, omega (arith, g.2, h.2), λ e. ((g.3 (h.3 e).0).0, (h.3 e).1 ∙ (g.3 (h.3 e).0).1))

pub counted_then : (old now new : Option (List ℕ)) (t u : List ℕ) (m k i : ℕ) → Counted old now i → SameLine now new t m u k → Counted old new i
counted_then None now new t u m k i c h = tt
counted_then (Some l) None new t u m k i c h = absurd c
counted_then (Some l) (Some x) None t u m k i c h = absurd h
counted_then (Some l) (Some x) (Some y) t u m k i c h = omega (arith, c, h.2)

line_more : (b : ℕ) (z : List ℕ) → b ≢ 10 → line_of (b ∷ z) ≡ b ∷ line_of z
line_more b z h = grind (arith, nat_tests)

rest_more : (b : ℕ) (z : List ℕ) → b ≢ 10 → drop_through 10 (b ∷ z) ≡ drop_through 10 z
rest_more b z h = grind (arith, nat_tests)

pub same_on : (old now new : Option (List ℕ)) (s t u : List ℕ) (n m k b : ℕ) → SameLine old now s n t m → TakesByte now new (Some b) → b ≢ 10
    → 2 ≤ length t → m ≤ length t → kept k u ≡ keep t m b → SameLine old new s n u k
same_on None now new s t u n m k b g y ne h r e = tt
same_on (Some l) None new s t u n m k b g y ne h r e = absurd g
same_on (Some l) (Some []) new s t u n m k b g y ne h r e = absurd cc
same_on (Some l) (Some (x ∷ v)) None s t u n m k b g y ne h r e = absurd cc
same_on (Some l) (Some (x ∷ v)) (Some z) s t u n m k b g y ne h r e =
    let q : b ≡ x = cc in
    let w : z ≡ v = cc in
    let ne' : x ≢ 10 = omega arith in (
      ap₂ {C = Kept} (λ (k : Kept) (v : List ℕ). keep_all k.bytes k.len (line_of v)) e w ∙ ap (λ (b : ℕ). keep_all (keep t m b).bytes (keep t m b).len (line_of v)) q
          ∙ ap (keep_all t m) (sym (line_more x v ne')) ∙ g.0,
      ap (drop_through 10) w ∙ sym (rest_more x v ne') ∙ g.1,
      omega (arith, ap length w, g.2),
      λ o. absurd (omega (arith, keep_some t m b k u h r e)),
    )

pub counted_on : (old now new : Option (List ℕ)) (b i : ℕ) → Counted old now i → TakesByte now new (Some b) → Counted old new (i + 1)
counted_on None now new b i c y = tt
counted_on (Some l) None new b i c y = absurd c
counted_on (Some l) (Some []) new b i c y = absurd cc
counted_on (Some l) (Some (x ∷ v)) None b i c y = absurd cc
counted_on (Some l) (Some (x ∷ v)) (Some z) b i c y = let w : z ≡ v = cc in omega (arith, ap length w, c)

pub goes_lf : (s : List ℕ) (old now new : Option (List ℕ)) (n : ℕ) (t : List ℕ) → SameLine old now s 0 t n → TakesByte now new (Some 10) → TakesLine old new s t (Some n)
unfolding kept_line
goes_lf s None now new n t g k = tt
goes_lf s (Some l) None new n t g k = absurd g
goes_lf s (Some l) (Some []) new n t g k = absurd cc
goes_lf s (Some l) (Some (x ∷ y)) new n t g k =
    let P : ℕ → Type 0 = λ v. SameLine (Some l) (Some (v ∷ y)) s 0 t n in
    let h : P 10 = subst P (cc) g in
    (ap (λ (k : Kept). take k.len k.bytes) h.0, k.1 ∙ ap Some h.1)

pub goes_end : (s : List ℕ) (old now new : Option (List ℕ)) (n : ℕ) (t : List ℕ) → SameLine old now s 0 t n → TakesByte now new None → TakesLine old new s t (Some n)
unfolding kept_line
goes_end s None now new n t g k = tt
goes_end s (Some l) None new n t g k = absurd g
goes_end s (Some l) (Some []) new n t g k = (ap (λ (k : Kept). take k.len k.bytes) g.0, k.1 ∙ ap Some g.1)
goes_end s (Some l) (Some (x ∷ y)) new n t g k = absurd cc
