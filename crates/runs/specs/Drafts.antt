-- Calls that need no judging, and what a run of them on a sheet of any kind answers and leaves.
use Rattle.std.specs.Prelude.{Bool, List, map, Result}
use Rattle.book.specs.declared.basic.Basic.{Basic}
use Rattle.book.specs.declared.station.Station.{Station}
use Rattle.kinds.specs.declared.kind.Kind.{Ghosts}
use Rattle.sheet.specs.declared.answer.Answer.{Answer}
use Rattle.sheet.specs.declared.call.Call.{Call}
use Rattle.sheet.specs.declared.call.Call.TheVariants as calls
use Rattle.sheet.specs.declared.states.Planning.{Planning}
use Rattle.sheet.specs.declared.states.Sheet.TheVariants.{InPlanning}
use Rattle.runs.specs.declared.ask.Ask.{Ask}
use Rattle.runs.specs.declared.ask.Ask.TheVariants.{Load, Unload, Shift, Range, First}
use Rattle.runs.specs.declared.unrun.Unrun.{Unrun}
use Rattle.runs.specs.Law.{Begun}

-- the same call of the sheet
abbrev pub call_of : {T : Type 0} → Ask T → Call T
call_of (Load station kg) = calls.Load station kg
call_of (Unload station kg) = calls.Unload station kg
call_of (Shift from to kg) = calls.Shift from to kg
call_of (Range from to) = calls.Range from to
call_of (First test) = calls.First test

-- opening a sheet of any kind on records and carrying out calls that need no judging: the same law
abbrev pub Drafted : {K R T : Type 0} (G : Ghosts K R) (meets : T → R → Bool) → Basic → List Station → List K → List (Ask T) → List (Answer K) → Result Planning Unrun → List Station → List K → List (Answer K) → Type 0
Drafted G meets = Begun G meets (map call_of) InPlanning
