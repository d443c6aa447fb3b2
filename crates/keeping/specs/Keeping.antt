-- Keeping: a line of any length in a buffer that is not.
--
--   Kept                  a line of which a buffer keeps what matters: the buffer, and how much of it is the line
--   keep s n b            the line of the first n bytes of s, with the byte b more
--   kept_line s l         what is kept of the line l in the buffer s
--
-- The buffer s keeps n bytes of the line. Where it is full, hex digits come and go at its end, so that the kept line has an odd length
-- where the whole line has; a byte that is no digit, there or past the end, leaves a mark at the start that is in no good line.
-- Assumes nothing.
use Rattle.std.specs.Prelude.{◌&&◌, List, [], ◌∷◌, ℕ, ◌+◌, ◌-◌, ltb, length, take, get_or}
use Rattle.rules.specs.Bytes.{iff, splice}
use Rattle.text.specs.Text.{is_digit}

pub record Kept : Type 0 where
  pub len : ℕ
  pub bytes : List ℕ

abbrev pub kept : ℕ → List ℕ → Kept
kept n s = record { len = n; bytes = s }

unfoldable pub keep : List ℕ → ℕ → ℕ → Kept
keep s n b =
    iff (ltb n (length s)) (kept (n + 1) (splice s n (b ∷ [])))
    (iff (is_digit b && is_digit (get_or s (n - 1) 0)) (kept (n - 1) s) (kept n (splice s 0 (0 ∷ []))))

-- a line, byte by byte
abbrev pub keep_all : List ℕ → ℕ → List ℕ → Kept
keep_all s n [] = kept n s
keep_all s n (b ∷ l) = let k = keep s n b in keep_all k.bytes k.len l

unfoldable pub kept_line : List ℕ → List ℕ → List ℕ
kept_line s l = let k = keep_all s 0 l in take k.len k.bytes
