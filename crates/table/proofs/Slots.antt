-- Slots: each slot is one of the book's.
--
--   below        its number is one of the table's
--
-- Assumes nothing.
use Rattle.std.proofs.Common.{◌<◌, arith}
use Rattle.rules.specs.Store.{slots}
use Rattle.table.specs.Slots.{index_of}
use Rattle.table.specs.declared.Slot.{Slot}
use Rattle.table.specs.declared.Slot.TheVariants.{Capability, Chuid, Certificate9A, Fingerprints, Security, Face, Certificate9E, Certificate9C, Certificate9D, Printed, KeyHistory, Discovery}

pub below : (s : Slot) → index_of s < slots
below Capability = omega arith
below Chuid = omega arith
below Certificate9A = omega arith
below Fingerprints = omega arith
below Security = omega arith
below Face = omega arith
below Certificate9E = omega arith
below Certificate9C = omega arith
below Certificate9D = omega arith
below Printed = omega arith
below KeyHistory = omega arith
below Discovery = omega arith
