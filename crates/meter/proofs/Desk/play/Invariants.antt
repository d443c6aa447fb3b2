-- The sum stays below its modulus, and the rest of the script gets shorter.
-- Assumes nothing.
use Rattle.std.proofs.Common.{◌<◌, length}
use Rattle.meter.proofs.Desk.play.Given as goal

abbrev pub invariant-loop : goal.invariant-loop
invariant-loop l = l.sum < 4294967291

abbrev pub invariant-loop-call : goal.invariant-loop-call
invariant-loop-call l = l.sum < 4294967291

abbrev pub decreases-loop-call : goal.decreases-loop-call
decreases-loop-call l = length l.rest
