use Rattle.std.proofs.Common.{arith}
use Rattle.std.proofs.lemmas.Grind.{common_steps}
use Rattle.rules.specs.Bytes.{be16, be32, be64}
use Rattle.numbers.proofs.be64.Goals as goal

pub returns : goal.returns
unfolding be64 be32 be16
returns c = grind (arith, common_steps)
