-- The head, and zeros behind it.
-- Assumes nothing.
use mathlib.Core.Path.{◌≡◌, ap, ◌∙◌}
use mathlib.Core.List.{List, ◌++◌}
use Prim.Native.Nat.{ℕ, ◌+◌}
use native.Mathlib.Omega.{arith}
use lib.ListN.{length, length-append}
use Rattle.rules.specs.Bytes.{splice, zeros}
use Rattle.rules.specs.Claims.Starred.{hex, fixed}
use Rattle.rules.proofs.Lists.{join-start, length-zeros}
use Rattle.octets.proofs.Laws.{whole}
use Rattle.issued.proofs.fixed_card.Goals as goal

abbrev head : List ℕ
head = hex 32 0x4F50430001000000_0303313233343536FFFF_03033132333435363738_00000000

fixed-whole : (s : List ℕ) → length s ≡ 33400 → splice (splice s 0 head) 32 (zeros 33368) ≡ fixed
unfolding fixed
fixed-whole s h =
    let l : length (head ++ zeros 33368) ≡ 33400 = length-append head (zeros 33368) ∙ ap (λ (n : ℕ). 32 + n) (length-zeros 33368) in
    join-start s head (zeros 33368) (omega (arith, length-zeros 33368)) ∙ whole s (head ++ zeros 33368) (omega arith)

pub returns : goal.returns
returns c =
    c.zero.ensures ∙ ap (λ (t : List ℕ). splice t 32 (zeros 33368)) c.put.ensures ∙ fixed-whole c.args.store.now (omega arith)
