-- Placing: the bytes that a line gives for a buffer.
--
--   placed · place s l at from    the bytes that the line l gives in hex from a place on, put into the buffer s, if they fit
--
-- Assumes nothing.
use Rattle.std.specs.Prelude.{Bool, true, false, ◌&&◌, List, ℕ, ◌+◌, ◌/◌, leb, length, drop}
use Rattle.rules.specs.Bytes.{iff, splice}
use Rattle.text.specs.Text.{is_hex, bytes_of}

pub record Placed : Type 0 where
  pub ok : Bool
  pub bytes : List ℕ

abbrev pub placed : Bool → List ℕ → Placed
placed ok s = record { ok = ok; bytes = s }

-- a line of more than 99,000 bytes gives none: no buffer has so many, and a kept line may be shorter than the line
unfoldable pub place : List ℕ → List ℕ → ℕ → ℕ → Placed
place s l at from =
    let d = drop from l in
    iff (leb (length l) 99000 && is_hex d && leb (at + length d / 2) (length s)) (placed true (splice s at (bytes_of d))) (placed false s)
