-- What an opening answers and leaves.
use Rattle.std.specs.Prelude.{◌≡◌, ℕ, true, List, length, is_some, Ok, Option, Result, slice_index_or}
use Rattle.std.specs.Option.{option_or, option_map}
use Rattle.std.specs.Result.{result_err}
use Rattle.book.specs.declared.basic.Basic.{Basic}
use Rattle.book.specs.declared.station.Station.{Station}
use Rattle.book.specs.Refusals.{count_refusal, station_refusal, basic_refusal}
use Rattle.kinds.specs.declared.kind.Kind.{Ghosts}
use Rattle.edits.specs.declared.fault.SheetFault.{SheetFault}
use Rattle.edits.specs.declared.fault.SheetFault.TheVariants.{Book}
use Rattle.edits.specs.Edits.{memory_refusal}
use Rattle.sheet.specs.declared.numbers.Numbers.{Numbers}
use Rattle.sheet.specs.declared.states.Planning.{Planning}
use Rattle.sheet.specs.Memory.{Sound}

-- how many stations, the node memory, each station, the basic record
abbrev pub opening_refusal : Basic → List Station → ℕ → Option SheetFault
opening_refusal b ss m =
    option_or (option_map Book (count_refusal ss))
    (option_or (memory_refusal (length ss) (length ss) m)
    (option_or (option_map Book (station_refusal ss))
    (option_map Book (basic_refusal b))))

-- an opened sheet's numbers
abbrev pub first_numbers : Basic → List Station → Numbers
first_numbers b ss = record { n = length ss; basic = b; used = 0 }

pub record Opened {K R : Type 0} (G : Ghosts K R) (b : Basic) (ss : List Station) (nodes : List K) (r : Result Planning SheetFault) (nodes' : List K) : Type 0 where
  pub refuses : result_err r ≡ opening_refusal b ss (length nodes)
  pub sound : (p : Planning) → r ≡ Ok p → (p.numbers ≡ first_numbers b ss) × Sound G p.numbers ss nodes'
  pub first_node : (d : K) → slice_index_or nodes' 0 d ≡ slice_index_or nodes 0 d
  pub untouched : is_some (result_err r) ≡ true → nodes' ≡ nodes
