-- `store::write_slot` meets its contract: the length, the value and the zeros stand one behind the other, and fill the slot.
-- Assumes nothing.
use mathlib.Core.Path.{◌∙◌}
use native.Mathlib.Omega.{arith}
use Rattle.store.proofs.Laws.{slot_written}
use Rattle.store.proofs.write_slot.Goals as goal

pub returns : goal.returns
returns c = λ i e.
    let a = c.args in
    c.zero.ensures
    ∙ rw (c.put.ensures, c.put_word.ensures) (slot_written i a.part.now a.value.now (omega arith) e)
