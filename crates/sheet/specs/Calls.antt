-- What each call that needs no judging answers and leaves: on any memory, and as a step of the tally on the sheet's own.
use Rattle.std.specs.Prelude.{◌≡◌, ℕ, Bool, List, length, Some, None, Ok, Err, Option, Result}
use Rattle.book.specs.declared.station.Station.{Station}
use Rattle.kinds.specs.declared.kind.Kind.{Ghosts}
use Rattle.edits.specs.declared.edit.Edit.{Edit}
use Rattle.edits.specs.declared.fault.SheetFault.{SheetFault}
use Rattle.edits.specs.Carrying.{Carried}
use Rattle.edits.specs.Edits.{loading, unloading, shifting, memory_refusal}
use Rattle.sheet.specs.declared.answer.Answer.{Answer}
use Rattle.sheet.specs.declared.answer.Answer.TheVariants.{Done, Refused}
use Rattle.sheet.specs.declared.call.Call.{Call}
use Rattle.sheet.specs.declared.call.Call.TheVariants.{Load, Unload, Shift, Range, First, Judge, Stages, Release, Change, Reopen}
use Rattle.sheet.specs.declared.numbers.Numbers.{Numbers}
use Rattle.sheet.specs.declared.states.Planning.{Planning}
use Rattle.sheet.specs.declared.states.Released.{Released}
use Rattle.sheet.specs.Asking.{Ranged, Found}
use Rattle.sheet.specs.Tally.{State, planning, released}
use Rattle.sheet.specs.Memory.{Sound, Step, no_test, edit_answer, range_answer, first_answer}

-- the edit that a planning sheet carries out
abbrev pub edit_of : {T : Type 0} → Call T → Option Edit
edit_of (Load station kg) = Some (loading station kg)
edit_of (Unload station kg) = Some (unloading station kg)
edit_of (Shift from to kg) = Some (shifting from to kg)
edit_of (Range from to) = None
edit_of (First test) = None
edit_of (Judge l) = None
edit_of (Stages l bytes) = None
edit_of (Release l) = None
edit_of (Change l asked) = None
edit_of Reopen = None

module _ {K R : Type 0} (G : Ghosts K R) where
  -- load, unload and shift
  pub record Edited (m : Numbers) (ss : List Station) (nodes : List K) (e : Edit) (r : Result (Unit {0}) SheetFault) (ss' : List Station) (nodes' : List K) : Type 0 where
    pub any : Carried G m.n ss nodes e r ss' nodes'
    pub step : (c : Call (Unit {0})) → edit_of c ≡ Some e → Sound G m ss nodes → Step G no_test m planning ss nodes c (edit_answer r) m planning ss' nodes'

  -- range, in either state
  pub record Summed (m : Numbers) (state : State) (ss : List Station) (nodes : List K) (from to : ℕ) (r : Result K SheetFault) : Type 0 where
    pub any : Ranged G m.n ss nodes from to r
    pub step : Sound G m ss nodes → Step {T = Unit {0}} G no_test m state ss nodes (Range from to) (range_answer r) m state ss nodes

  -- first, in either state
  pub record Searched {T : Type 0} (meets : T → R → Bool) (m : Numbers) (state : State) (ss : List Station) (nodes : List K) (test : T) (r : Result (Option ℕ) SheetFault) : Type 0 where
    pub any : Found G (meets test) m.n ss nodes r
    pub step : Sound G m ss nodes → Step G meets m state ss nodes (First test) (first_answer r) m state ss nodes

  -- reopening: on memory of another length the sheet comes back with the refusal
  abbrev pub reopen_end : Released → Option SheetFault → Result Planning (Released × SheetFault)
  reopen_end q None = Ok (record { numbers = q.numbers })
  reopen_end q (Some f) = Err (q, f)

  abbrev pub reopen_answer : Result Planning (Released × SheetFault) → Answer K
  reopen_answer (Ok p) = Done
  reopen_answer (Err e) = Refused e.1

  -- the numbers and the state after it
  abbrev pub reopen_numbers : Result Planning (Released × SheetFault) → Numbers
  reopen_numbers (Ok p) = p.numbers
  reopen_numbers (Err e) = e.0.numbers

  abbrev pub reopen_state : Result Planning (Released × SheetFault) → State
  reopen_state (Ok p) = planning
  reopen_state (Err e) = released

  pub record Reopened (q : Released) (ss : List Station) (nodes : List K) (r : Result Planning (Released × SheetFault)) : Type 0 where
    pub any : r ≡ reopen_end q (memory_refusal q.numbers.n (length ss) (length nodes))
    pub step : Sound G q.numbers ss nodes → Step {T = Unit {0}} G no_test q.numbers released ss nodes Reopen (reopen_answer r) (reopen_numbers r) (reopen_state r) ss nodes
