-- Laws: the bytes that a row of digits gives.
--
--   all_bytes              there are half as many bytes as digits
--
-- Assumes nothing.
use Rattle.std.proofs.Common.{◌≡◌, ℕ, ◌/◌, List, length, take, arith}
use lib.Seq.{take_all}
use Rattle.text.specs.Text.{bytes_of}
use Rattle.text.proofs.Laws.{length-bytes}

pub all_bytes : (d : List ℕ) → take (length d / 2) (bytes_of d) ≡ bytes_of d
all_bytes d = take_all (length d / 2) (bytes_of d) (omega (arith, length-bytes d))
