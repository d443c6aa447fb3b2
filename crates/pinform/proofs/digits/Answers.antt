use Rattle.std.proofs.Common.{rules, ◌∙◌}
use Rattle.std.proofs.lemmas.Iterator.{YieldsList-from_slice}
use Rattle.std.proofs.lemmas.Iterator.Search.{all_from_yields_List}
use borrow.Author.Tests.{tests}
use Rattle.rules.specs.Reference.{digit}
use Rattle.octets.proofs.Laws.{all_is}
use Rattle.pinform.proofs.digits.Goals as goal

pub returns : goal.returns
unfolding digit
returns c =
    let d = c.args.d.now in
    all_from_yields_List digit _ _ _ c.all.ensures.ran (YieldsList-from_slice d cc) (λ x b q k. search (rules, tests)) ∙ all_is digit d
