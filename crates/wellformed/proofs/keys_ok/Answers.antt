use Rattle.std.proofs.Common.{rules, ◌∙◌}
use Rattle.std.proofs.lemmas.Iterator.{YieldsList-from_slice}
use Rattle.std.proofs.lemmas.Iterator.Search.{all_from_yields_List}
use borrow.Author.Tests.{tests}
use Rattle.rules.specs.Bytes.{part}
use Rattle.rules.specs.Store.{algorithm_ok}
use Rattle.octets.proofs.Laws.{all_is}
use Rattle.wellformed.proofs.keys_ok.Goals as goal

pub returns : goal.returns
unfolding part
returns c =
    let l = part c.args.store.now 28 4 in
    all_from_yields_List algorithm_ok _ _ _ c.all.ensures.ran (YieldsList-from_slice l cc) (λ x b q k. search (rules, tests)) ∙ all_is algorithm_ok l
