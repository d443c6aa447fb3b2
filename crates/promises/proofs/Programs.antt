-- Programs: the same of the public functions that the programs are built of (Once says how to read it).
--
--   by_kept by_placed by_seen    what is seen has the parts of the outcome side by side
--
-- Assumes nothing.
use mathlib.Core.Path.{◌≡◌, ap, ap₂}
use mathlib.Core.Bool.{Bool}
use mathlib.Core.List.{List, []}
use Prim.Native.Nat.{ℕ}
use denote.Ref.{Bor}
use Rattle.std.specs.Prelude.{Option}
use Rattle.rules.specs.declared.Reply.{Reply}
use Rattle.rules.specs.declared.Session.{Session}
use Rattle.keeping.specs.Keeping.{Kept, kept}
use Rattle.lines.specs.declared.Said.{Said}
use Rattle.lines.specs.Seen.{Seen, seen}
use Rattle.placing.specs.Placing.{Placed, placed}
use Rattle.verbs.specs.declared.Verb.{Verb}
use Rattle.issued.proofs.fixed_card.Reads as issued-fixed-card
use Rattle.text.proofs.is_hex.Reads as text-is-hex
use Rattle.text.proofs.read_hex.Reads as text-read-hex
use Rattle.keeping.proofs.keep.Reads as keeping-keep
use Rattle.printing.proofs.write_hex.Reads as printing-write-hex
use Rattle.lines.proofs.first.Reads as lines-first
use Rattle.lines.proofs.after.Reads as lines_after
use Rattle.lines.proofs.bad.Reads as lines-bad
use Rattle.hexcalls.proofs.call.Reads as hexcalls-call
use Rattle.packed.proofs.pack.Reads as packed-pack
use Rattle.unpacked.proofs.session_in.Reads as unpacked-session-in
use Rattle.outcomes.proofs.write.Reads as outcomes-write
use Rattle.verbs.proofs.verb_of.Reads as verbs-verb-of
use Rattle.placing.proofs.place.Reads as placing-place
use Rattle.probelines.proofs.answer.Reads as probelines-answer
use Rattle.promises.proofs.Once.{alike, by_outcome}

by_kept : {n m : ℕ} {x y : List ℕ} {z : Kept} → kept n x ≡ z → kept m y ≡ z → (n ≡ m) × (x ≡ y)
by_kept p q = let e = alike _ _ p q in (ap (λ (k : Kept). k.len) e, ap (λ (k : Kept). k.bytes) e)

by_placed : {n m : Bool} {x y : List ℕ} {z : Placed} → placed n x ≡ z → placed m y ≡ z → (n ≡ m) × (x ≡ y)
by_placed p q = let e = alike _ _ p q in (ap (λ (k : Placed). k.ok) e, ap (λ (k : Placed). k.bytes) e)

said : Session → ℕ → Said
said ss n = record { session = ss; len = n }

by_seen : {r q : Said} {s t w v p b o d : List ℕ} {z : Seen} → seen r.session s w p r.len o ≡ z → seen q.session t v b q.len d ≡ z
    → (r ≡ q) × (s ≡ t) × (w ≡ v) × (p ≡ b) × (o ≡ d)
unfolding said
by_seen x y =
    let e = alike _ _ x y in
    (ap₂ said (ap (λ (k : Seen). k.session) e) (ap (λ (k : Seen). k.len) e), ap (λ (k : Seen). k.store) e, ap (λ (k : Seen). k.work) e, ap (λ (k : Seen). k.resp) e, ap (λ (k : Seen). k.out) e)

-- ---- issued

once_issued-fixed_card : (κs : _) (a : _) (s t : _) → issued-fixed-card.Post κs a tt s → issued-fixed-card.Post κs a tt t → s.0.now ≡ t.0.now
once_issued-fixed_card κs a s t = alike _ _

-- ---- text

once_text-is_hex : (κs : _) (a : _) (r q : Bool) (s t : _) → text-is-hex.Post κs a r s → text-is-hex.Post κs a q t → r ≡ q
once_text-is_hex κs a r q s t = alike r q

once_text-read_hex : (κs : _) (a : _) (s t : _) → text-read-hex.Post κs a tt s → text-read-hex.Post κs a tt t → s.0.now ≡ t.0.now
once_text-read_hex κs a s t = alike _ _

-- ---- keeping

once_keeping-keep : (κs : _) (a : _) (r q : ℕ) (s t : _) → keeping-keep.Post κs a r s → keeping-keep.Post κs a q t → (r ≡ q) × (s.0.now ≡ t.0.now)
once_keeping-keep κs a r q s t x y = by_kept x y

-- ---- printing

once_printing-write_hex : (κs : _) (a : _) (r q : ℕ) (s t : _) → printing-write-hex.Post κs a r s → printing-write-hex.Post κs a q t → (r ≡ q) × (s.0.now ≡ t.0.now)
once_printing-write_hex κs a r q s t x y = (alike r q x.0 y.0, alike _ _ x.1 y.1)

-- ---- lines

once_lines-first : (κs : _) (a : _) (r q : Bor (List ℕ)) (s t : _) → lines-first.Post κs a r s → lines-first.Post κs a q t → r.now ≡ q.now
once_lines-first κs a r q s t = alike _ _

once_lines-after : (κs : _) (a : _) (r q : Bor (List ℕ)) (s t : _) → lines_after.Post κs a r s → lines_after.Post κs a q t → r.now ≡ q.now
once_lines-after κs a r q s t = alike _ _

once_lines-bad : (κs : _) (a : _) (r q : Said) (s t : _) → lines-bad.Post κs a r s → lines-bad.Post κs a q t → (r ≡ q) × (s.1.0.now ≡ t.1.0.now)
once_lines-bad κs a r q s t x y = let e = by_seen (x [] [] []) (y [] [] []) in (e.0, e.4)

-- ---- hexcalls

once_hexcalls-call : (κs : _) (a : _) (r q : Reply) (s t : _) → hexcalls-call.Post κs a r s → hexcalls-call.Post κs a q t → (r ≡ q) × (s.1.0.now ≡ t.1.0.now) × (s.1.1.0.now ≡ t.1.1.0.now) × (s.1.1.1.0.now ≡ t.1.1.1.0.now)
once_hexcalls-call κs a r q s t x y = let e = by_outcome x y in (e.0, e.1, e.2, e.3)

-- ---- packed

once_packed-pack : (κs : _) (a : _) (s t : _) → packed-pack.Post κs a tt s → packed-pack.Post κs a tt t → s.0.now ≡ t.0.now
once_packed-pack κs a s t = alike _ _

-- ---- unpacked

once_unpacked-session_in : (κs : _) (a : _) (r q : Option Session) (s t : _) → unpacked-session-in.Post κs a r s → unpacked-session-in.Post κs a q t → r ≡ q
once_unpacked-session_in κs a r q s t = alike r q

-- ---- outcomes

once_outcomes-write : (κs : _) (a : _) (r q : ℕ) (s t : _) → outcomes-write.Post κs a r s → outcomes-write.Post κs a q t → (r ≡ q) × (s.0.now ≡ t.0.now)
once_outcomes-write κs a r q s t x y = (alike r q x.0 y.0, alike _ _ x.1 y.1)

-- ---- verbs

once_verbs-verb_of : (κs : _) (a : _) (r q : Verb) (s t : _) → verbs-verb-of.Post κs a r s → verbs-verb-of.Post κs a q t → r ≡ q
once_verbs-verb_of κs a r q s t = alike r q

-- ---- placing

once_placing-place : (κs : _) (a : _) (r q : Bool) (s t : _) → placing-place.Post κs a r s → placing-place.Post κs a q t → (r ≡ q) × (s.0.now ≡ t.0.now)
once_placing-place κs a r q s t x y = by_placed x y

-- ---- what a line comes to

once_probelines-answer : (κs : _) (a : _) (r q : Said) (s t : _) → probelines-answer.Post κs a r s → probelines-answer.Post κs a q t
    → (r ≡ q) × (s.1.0.now ≡ t.1.0.now) × (s.1.1.0.now ≡ t.1.1.0.now) × (s.1.1.1.0.now ≡ t.1.1.1.0.now) × (s.1.1.1.1.1.0.now ≡ t.1.1.1.1.1.0.now)
once_probelines-answer κs a r q s t x y = by_seen x y
