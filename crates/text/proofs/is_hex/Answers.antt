use Rattle.std.proofs.Common.{rules, ◌∙◌}
use Rattle.std.proofs.lemmas.Iterator.{YieldsList-from_slice}
use Rattle.std.proofs.lemmas.Iterator.Search.{all_from_yields_List}
use borrow.Author.Tests.{tests}
use Rattle.octets.proofs.Laws.{all_is}
use Rattle.text.specs.Text.{is_digit, is_hex}
use Rattle.text.proofs.is_hex.Goals as goal

pub returns-then-l-eq0 : goal.returns-then-l-eq0
unfolding is_hex is_digit
returns-then-l-eq0 c =
    let l = c.args.l.now in
    rw c.if-l-eq0.true
    (all_from_yields_List is_digit _ _ _ c.all.ensures.ran (YieldsList-from_slice l cc) (λ x b q k. search (rules, tests)) ∙ all_is is_digit l)
