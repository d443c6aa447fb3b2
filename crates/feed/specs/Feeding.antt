-- Feeding: the lines of a reader, one after the other.
--
--   to_come f             the bytes that the feed f has still to give, where the reader's are known
--   line_of l             the first line of the bytes l: all before the first LF, or all
--   TakesByte · TakesLine  what a call took of the bytes to come, and what it gave
--   SameLine              what is kept of a line, and the bytes to come, are another part of the same line
--
-- Assumes nothing.
use Rattle.std.specs.Prelude.{◌≡◌, List, [], ◌∷◌, ◌++◌, ℕ, ◌-◌, ◌^◌, ◌<◌, ◌≤◌, length, take, slice_range, ◌==◌, if◌then◌else◌, Option, None, Some, option_map, ⊤}
use Rattle.std.specs.Io.BufRead.{drop_through}
use Rattle.keeping.specs.Keeping.{keep_all, kept_line}
use Rattle.feed.specs.declared.Feed.{Feed}

abbrev pub to_come : {R : Type 0} → (R → Option (List ℕ)) → Feed R → Option (List ℕ)
to_come remaining f = option_map (λ l. slice_range f.given f.at f.end ++ (if f.over then [] else l)) (remaining f.from)

abbrev pub line_of : List ℕ → List ℕ
line_of [] = []
line_of (b ∷ l) = if b == 10 then [] else b ∷ line_of l

-- the first of the bytes to come is given, if there is one
abbrev pub TakesByte : Option (List ℕ) → Option (List ℕ) → Option ℕ → Type 0
TakesByte None new r = ⊤
TakesByte (Some []) new r = (r ≡ None) × (new ≡ Some [])
TakesByte (Some (b ∷ l)) new r = (r ≡ Some b) × (new ≡ Some l)

-- the first line of the bytes to come is kept in the buffer, which was s and is t: its first n bytes; no line only where no byte comes
abbrev pub TakesLine : Option (List ℕ) → Option (List ℕ) → List ℕ → List ℕ → Option ℕ → Type 0
TakesLine None new s t r = ⊤
TakesLine (Some l) new s t None = length l < 2 ^ 64 - 1 → l ≡ []
TakesLine (Some l) new s t (Some n) = (take n t ≡ kept_line s (line_of l)) × (new ≡ Some (drop_through 10 l))

-- of the bytes to come some are kept: n bytes of s were, m bytes of t are, and the rest ends the line as before
abbrev pub SameLine : Option (List ℕ) → Option (List ℕ) → List ℕ → ℕ → List ℕ → ℕ → Type 0
SameLine None new s n t m = ⊤
SameLine (Some l) None s n t m = ⊥
SameLine (Some l) (Some k) s n t m =
    (keep_all t m (line_of k) ≡ keep_all s n (line_of l)) × (drop_through 10 k ≡ drop_through 10 l) × (length k ≤ length l) × (m ≡ 0 → (n ≡ 0) × (k ≡ l))
