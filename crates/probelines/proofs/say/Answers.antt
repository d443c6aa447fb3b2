-- A bad line, whatever the card is.
-- Assumes nothing.
use Rattle.std.proofs.Common.{arith}
use Rattle.std.proofs.lemmas.Bool.Decides.{nat_tests}
use Rattle.rules.specs.Bytes.{iff}
use Rattle.probelines.specs.ProbeLines.{says}
use Rattle.probelines.proofs.say.Goals as goal

pub returns-else-ok : goal.returns-else-ok
unfolding says iff
returns-else-ok c = λ s w p. let b = c.bad.ensures s w p in grind (arith, nat_tests)
