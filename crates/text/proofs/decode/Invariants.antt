use Rattle.std.proofs.Common.{◌≡◌, take}
use Rattle.text.specs.Text.{bytes_of}
use Rattle.text.proofs.decode.Given as goal

-- the first i bytes are those of the digits
abbrev pub invariant-loop-i : goal.invariant-loop-i
invariant-loop-i l = take l.i l.dst ≡ take l.i (bytes_of l.l)
