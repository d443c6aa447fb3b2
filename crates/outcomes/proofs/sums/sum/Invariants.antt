use Rattle.std.proofs.Common.{◌≡◌, ◌<◌, drop}
use Rattle.outcomes.specs.Sums.{sum_from, sum_of}
use Rattle.outcomes.proofs.sums.sum.Given as goal

-- the sum is that of the rest from here on, carried on from h
abbrev pub invariant-loop-b : goal.invariant-loop-b
invariant-loop-b l = (l.h < 4294967291) × (sum_of l.s ≡ sum_from l.h (drop l.b-index l.s))
