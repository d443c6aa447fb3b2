-- A bad line, on the card as it is.
-- Assumes nothing.
use Rattle.std.proofs.Common.{arith}
use Rattle.std.proofs.lemmas.Bool.Decides.{nat_tests}
use Rattle.rules.specs.Bytes.{iff}
use Rattle.probelines.specs.ProbeLines.{asks}
use Rattle.probelines.proofs.ask.Goals as goal

pub returns-else-is_hex : goal.returns-else-is_hex
unfolding asks iff
returns-else-is_hex c =
    let a = c.args in
    let b = c.bad.ensures a.store.now a.work.now a.resp.now in
    grind (arith, nat_tests)
