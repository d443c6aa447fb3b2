use Rattle.std.proofs.Common.{◌≡◌, ◌*◌, take}
use Rattle.printing.specs.Printing.{hex_of}
use Rattle.printing.proofs.encode.Given as goal

-- the first 2 i characters are those of the bytes
abbrev pub invariant-loop-i : goal.invariant-loop-i
invariant-loop-i l = take (2 * l.i) l.dst ≡ take (2 * l.i) (hex_of l.s)
