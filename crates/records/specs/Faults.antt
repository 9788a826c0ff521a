-- The number, the layer and the place that each fault of a record has.
use Rattle.std.specs.Prelude.{ℕ}
use Rattle.records.specs.declared.fault.RecordFault.{RecordFault}
use Rattle.records.specs.declared.fault.RecordFault.TheVariants.{NoRoom, Short, UnknownKind, WrongLength}

abbrev pub fault_number : RecordFault → ℕ
fault_number NoRoom = 2
fault_number (Short at) = 19
fault_number (UnknownKind at) = 20
fault_number (WrongLength at) = 21

-- records are the first layer
abbrev pub fault_layer : RecordFault → ℕ
fault_layer f = 1

-- the first byte of the record that cannot be read
abbrev pub fault_place : RecordFault → ℕ
fault_place NoRoom = 0
fault_place (Short at) = at
fault_place (UnknownKind at) = at
fault_place (WrongLength at) = at
