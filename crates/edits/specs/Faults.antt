-- The number, the layer and the place that each fault of a sheet has. A fault from below keeps its own.
use Rattle.std.specs.Prelude.{ℕ}
use Rattle.book.specs.Faults.{book_number, book_layer, book_place}
use Rattle.edits.specs.declared.fault.SheetFault.{SheetFault}
use Rattle.edits.specs.declared.fault.SheetFault.TheVariants.{Book, OtherLength, NoStation, BadKilograms, SameStation, TooHeavy, HoldsLess, NoRange, NotKept, OverAllowance, Breaks, TooManyStages}

abbrev pub sheet_number : SheetFault → ℕ
sheet_number (Book f) = book_number f
sheet_number OtherLength = 1
sheet_number (NoStation station) = 9
sheet_number BadKilograms = 10
sheet_number (SameStation station) = 11
sheet_number (TooHeavy station) = 12
sheet_number (HoldsLess station) = 13
sheet_number NoRange = 14
sheet_number (NotKept code) = 15
sheet_number OverAllowance = 16
sheet_number (Breaks code) = 17
sheet_number TooManyStages = 18

abbrev pub sheet_layer : SheetFault → ℕ
sheet_layer (Book f) = book_layer f
sheet_layer OtherLength = 3
sheet_layer (NoStation station) = 3
sheet_layer BadKilograms = 3
sheet_layer (SameStation station) = 3
sheet_layer (TooHeavy station) = 3
sheet_layer (HoldsLess station) = 3
sheet_layer NoRange = 3
sheet_layer (NotKept code) = 3
sheet_layer OverAllowance = 3
sheet_layer (Breaks code) = 3
sheet_layer TooManyStages = 3

abbrev pub sheet_place : SheetFault → ℕ
sheet_place (Book f) = book_place f
sheet_place OtherLength = 0
sheet_place (NoStation station) = station
sheet_place BadKilograms = 0
sheet_place (SameStation station) = station
sheet_place (TooHeavy station) = station
sheet_place (HoldsLess station) = station
sheet_place NoRange = 0
sheet_place (NotKept code) = code
sheet_place OverAllowance = 0
sheet_place (Breaks code) = code
sheet_place TooManyStages = 0
