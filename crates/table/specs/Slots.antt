-- Slots: the slots of the table by the numbers that the book gives them.
--
--   index_of s            the number of a slot
--   index_in o            the number of a slot, if there is one, and else the book's number for none
--
-- Assumes nothing.
use Rattle.std.specs.Prelude.{Option, None, Some, ℕ}
use Rattle.rules.specs.Store.{slots}
use Rattle.table.specs.declared.Slot.{Slot}
use Rattle.table.specs.declared.Slot.TheVariants.{Capability, Chuid, Certificate9A, Fingerprints, Security, Face, Certificate9E, Certificate9C, Certificate9D, Printed, KeyHistory, Discovery}

abbrev pub index_of : Slot → ℕ
index_of Capability = 0
index_of Chuid = 1
index_of Certificate9A = 2
index_of Fingerprints = 3
index_of Security = 4
index_of Face = 5
index_of Certificate9E = 6
index_of Certificate9C = 7
index_of Certificate9D = 8
index_of Printed = 9
index_of KeyHistory = 10
index_of Discovery = 11

abbrev pub index_in : Option Slot → ℕ
index_in None = slots
index_in (Some s) = index_of s
