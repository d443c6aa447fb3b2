-- The slots are tested one by one, the last first, as the book does.
-- Assumes nothing.
use Rattle.std.proofs.Common.{rules, List, [], ◌∷◌, Bool, sym, ◌∙◌}
use Rattle.std.proofs.lemmas.Iterator.{YieldsList-from_slice}
use Rattle.std.proofs.lemmas.Iterator.Search.{all_from_yields_List}
use borrow.Author.Tests.{tests}
use Rattle.rules.specs.Store.{slot_ok, store_tests}
use Rattle.rules.proofs.Tests.{and_end}
use Rattle.table.specs.Slots.{index_of}
use Rattle.table.specs.declared.Slot.{Slot}
use Rattle.table.specs.declared.Slot.TheVariants.{Capability, Chuid, Certificate9A, Fingerprints, Security, Face, Certificate9E, Certificate9C, Certificate9D, Printed, KeyHistory, Discovery}
use Rattle.wellformed.proofs.slots_ok.Goals as goal

all_slots : List Slot
all_slots =
    Discovery ∷ KeyHistory ∷ Printed ∷ Certificate9D ∷ Certificate9C ∷ Certificate9E
    ∷ Face ∷ Security ∷ Fingerprints ∷ Certificate9A ∷ Chuid ∷ Capability ∷ []

pub returns : goal.returns
unfolding store_tests all_slots
returns c =
    let f : Slot → Bool = λ s. slot_ok c.args.store.now (index_of s) in
    all_from_yields_List f _ _ _ c.all.ensures.ran (YieldsList-from_slice all_slots c.iter.ensures.rest) (λ x b q k. search (rules, tests))
    ∙ sym (and_end _)
