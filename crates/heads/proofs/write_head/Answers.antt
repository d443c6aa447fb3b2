-- The head stands behind what was written before it.
-- Assumes nothing.
use Rattle.std.proofs.Common.{◌≡◌, List, ℕ, ◌∷◌, ◌+◌, length, arith}
use Rattle.rules.specs.Bytes.{splice}
use Rattle.rules.specs.Ber.{ber_length}
use Rattle.rules.proofs.Lists.{take-splice}
use Rattle.octets.proofs.Laws.{splice_cons}
use Rattle.heads.proofs.Laws.{length_ber}
use Rattle.heads.proofs.write_head.Goals as goal

pub returns-clause-prefix : goal.returns-clause-prefix
returns-clause-prefix c =
    let a = c.args in
    let head : List ℕ = a.tag ∷ ber_length a.n in
    let written : c.write_length.new.dst ≡ splice a.dst.now a.at head = splice_cons a.dst.now _ _ (ber_length a.n) a.at a.tag (omega arith) c.put_byte.ensures c.write_length.ensures.written in
    let end : c.write_length.result ≡ a.at + length head = omega (arith, length_ber a.n c.requires.n_bound) in
    rw (end, written) (take-splice a.dst.now head a.at (omega arith))
