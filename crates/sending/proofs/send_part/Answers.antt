-- The whole is held, and its first bytes go out.
-- Assumes nothing.
use mathlib.Core.Path.{◌≡◌, ap, ap₂, ◌∙◌}
use mathlib.Core.List.{List, ◌++◌}
use Prim.Native.Nat.{ℕ, ◌+◌}
use native.Mathlib.Omega.{arith}
use lib.ListN.{length, length-append}
use Rattle.rules.specs.Bytes.{part, splice, word}
use Rattle.rules.proofs.Lists.{part-start}
use Rattle.sending.proofs.send_part.Goals as goal

pub returns-clause-shown : goal.returns-clause-shown
returns-clause-shown c =
    let a = c.args in
    let d = a.head.now ++ a.body.now in
    let k : length d ≡ length a.head.now + length a.body.now = length-append a.head.now a.body.now in
    let v = c.part.ensures.part ∙ ap (λ (l : List ℕ). part l 0 a.le) c.join.ensures ∙ part-start a.work.now d a.le (omega arith) (omega arith) in
    c.show.ensures ∙ ap₂ (λ (l : List ℕ) (n : ℕ). splice a.resp.now 0 (l ++ word n)) v c.left_word.ensures
