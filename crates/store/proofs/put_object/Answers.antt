-- `store::put_object` meets its contract: the slot's part of the store is lent, and comes back as the slot with its value.
-- Assumes nothing.
use mathlib.Core.Path.{◌≡◌, sym, ap, ◌∙◌}
use mathlib.Core.List.{List}
use Prim.Native.Nat.{ℕ, ◌+◌, ◌-◌}
use native.Mathlib.Omega.{arith}
use lib.ListN.{length}
use Rattle.rules.specs.Bytes.{part, splice}
use Rattle.rules.specs.Store.{capacity, slot_bytes, put_object}
use Rattle.rules.proofs.Lists.{length_part}
use Rattle.rules.proofs.Slots.{slot_fits_lem, capacity_small, slot_bytes-length}
use Rattle.octets.proofs.Laws.{lent}
use Rattle.table.specs.Slots.{index_of}
use Rattle.table.proofs.Slots.{below}
use Rattle.store.proofs.put_object.Goals as goal

pub overflow_add-to : goal.overflow_add-to
overflow_add-to c = omega (arith, slot_fits_lem (index_of c.args.slot) (below c.args.slot))

pub overflow_add-to-2 : goal.overflow_add-to-2
overflow_add-to-2 c = omega (arith, slot_fits_lem (index_of c.args.slot) (below c.args.slot))

pub slice_bounds-write_slot-end : goal.slice_bounds-write_slot-end
slice_bounds-write_slot-end c = omega (arith, slot_fits_lem (index_of c.args.slot) (below c.args.slot))

pub write_slot-requires : goal.write_slot-requires
unfolding part
write_slot-requires c =
    let slot-length : length (part c.args.store.now c.offset-from.result (c.offset-from.result + 2 + c.capacity.result - c.offset-from.result)) ≡ 2 + capacity (index_of c.args.slot) = length_part c.args.store.now c.offset-from.result (c.offset-from.result + 2 + c.capacity.result - c.offset-from.result) (omega (arith, slot_fits_lem (index_of c.args.slot) (below c.args.slot))) ∙ omega arith in
    let a = c.args in
    omega (arith, slot-length, capacity_small (index_of a.slot) (below a.slot))

pub returns : goal.returns
unfolding put_object part
returns c =
    let slot-length : length (part c.args.store.now c.offset-from.result (c.offset-from.result + 2 + c.capacity.result - c.offset-from.result)) ≡ 2 + capacity (index_of c.args.slot) = length_part c.args.store.now c.offset-from.result (c.offset-from.result + 2 + c.capacity.result - c.offset-from.result) (omega (arith, slot_fits_lem (index_of c.args.slot) (below c.args.slot))) ∙ omega arith in
    let a = c.args in
    let s = c.args.store.now in
    let v : List ℕ = slot_bytes (index_of a.slot) a.value.now in
    let o = c.offset-from in
    let k = o.result + 2 + c.capacity.result - o.result in
    let e : k ≡ 2 + capacity (index_of a.slot) = omega arith in
    rw (c.write_slot.ensures (index_of a.slot) slot-length)
    (lent o.result k s v (slot_bytes-length (index_of a.slot) a.value.now c.requires ∙ sym e)
    ∙ ap (λ (at : ℕ). splice s at v) o.ensures)
