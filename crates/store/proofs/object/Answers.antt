-- `store::object` meets its contract: in a well-formed store each object lies inside.
-- Assumes nothing.
use mathlib.Core.Path.{◌≡◌, ap, ◌∙◌}
use native.Mathlib.Omega.{arith}
use Rattle.rules.specs.Bytes.{be16}
use Rattle.rules.specs.Store.{slot_length, object_of}
use Rattle.rules.proofs.Slots.{slot_fits_lem, capacity_small}
use Rattle.rules.proofs.WellFormed.{wf_slot, wf_sound}
use Rattle.table.specs.Slots.{index_of}
use Rattle.table.proofs.Slots.{below}
use Rattle.store.proofs.object.Goals as goal

pub overflow_add-at : goal.overflow_add-at
overflow_add-at c = omega (arith, slot_fits_lem (index_of c.args.slot) (below c.args.slot))

pub be16-requires : goal.be16-requires
be16-requires c =
    omega (arith, slot_fits_lem (index_of c.args.slot) (below c.args.slot))

pub part-requires : goal.part-requires
unfolding slot_length
part-requires c =
    let s = c.args.store.now in
    let n : c.be16.result ≡ slot_length s (index_of c.args.slot) = c.be16.ensures ∙ ap (be16 s) c.offset-at.ensures in
    omega (arith, wf_slot s c.requires (index_of c.args.slot) (below c.args.slot))

pub returns-clause-object : goal.returns-clause-object
unfolding object_of slot_length
returns-clause-object c = c.part.ensures.part ∙ rw (c.be16.ensures, c.offset-at.ensures)

pub returns-clause-short : goal.returns-clause-short
unfolding slot_length
returns-clause-short c =
    let s = c.args.store.now in
    let i = index_of c.args.slot in
    let n : c.be16.result ≡ slot_length s i = c.be16.ensures ∙ ap (be16 s) c.offset-at.ensures in
    omega (arith, wf_slot s c.requires i (below c.args.slot), (wf_sound s c.requires).lengths i (below c.args.slot), capacity_small i (below c.args.slot))
