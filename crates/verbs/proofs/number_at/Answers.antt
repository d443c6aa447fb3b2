use Rattle.std.proofs.Common.{arith}
use Rattle.std.proofs.lemmas.Bool.Decides.{nat_tests}
use Rattle.rules.specs.Bytes.{iff}
use Rattle.verbs.specs.Verbs.{is_figure}
use Rattle.verbs.proofs.Laws.{grown_small, scan_at}
use Rattle.verbs.proofs.number_at.Goals as goal

pub loop-i-preserved : goal.loop-i-preserved
unfolding iff is_figure
loop-i-preserved c =
    let l = c.loop-i in
    let s = scan_at c.args.l.now l.v l.i c.loop-i-test.true in
    (omega (arith, grown_small l.v), omega arith, grind (arith, nat_tests, s))
