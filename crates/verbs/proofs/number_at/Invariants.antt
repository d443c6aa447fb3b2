use Rattle.std.proofs.Common.{◌≡◌, ◌≤◌, drop}
use Rattle.verbs.specs.Verbs.{scan, number_at}
use Rattle.verbs.proofs.number_at.Given as goal

-- the number is the one read on from i with v so far
abbrev pub invariant-loop-i : goal.invariant-loop-i
invariant-loop-i l = (l.v ≤ 40001) × (l.at ≤ l.i) × (number_at l.l l.at ≡ scan l.v l.i (drop l.i l.l))
