-- Head and body, and behind them the status word.
-- Assumes nothing.
use mathlib.Core.Path.{ap₂, sym, ◌∙◌}
use mathlib.Core.List.{List, ◌++◌}
use Prim.Native.Nat.{ℕ}
use native.Mathlib.Omega.{arith}
use lib.ListN.{length-append}
use Rattle.rules.specs.Bytes.{splice, word}
use Rattle.rules.proofs.Lists.{join-start}
use Rattle.sending.proofs.send_all.Goals as goal

pub returns : goal.returns
unfolding word
returns c =
    let h = c.args.head.now in
    let b = c.args.body.now in
    c.put_word.ensures
    ∙ ap₂ (λ (d : List ℕ) (n : ℕ). splice d n (word 0x9000)) c.join.ensures (sym (length-append h b))
    ∙ join-start c.args.resp.now (h ++ b) (word 0x9000) (omega (arith, length-append h b))
