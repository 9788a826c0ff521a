-- The memory that a caller brings, the numbers that a sheet carries, and the tally that they stand for.
use Rattle.std.specs.Prelude.{◌≡◌, ℕ, ◌≤◌, Bool, false, List, length, None, Ok, Err, Option, Result}
use Rattle.book.specs.declared.station.Station.{Station}
use Rattle.book.specs.Refusals.{basic_refusal}
use Rattle.kinds.specs.declared.kind.Kind.{Ghosts}
use Rattle.kinds.specs.Folds.{AllLawful}
use Rattle.tree.specs.Trees.{SegmentTree}
use Rattle.edits.specs.declared.fault.SheetFault.{SheetFault}
use Rattle.sheet.specs.declared.answer.Answer.{Answer}
use Rattle.sheet.specs.declared.answer.Answer.TheVariants.{Done, Refused, Summary, First, Verdict, NoStage, Stopped, StageRefused, NotAdmitted}
use Rattle.sheet.specs.declared.call.Call.{Call}
use Rattle.sheet.specs.declared.numbers.Numbers.{Numbers}
use Rattle.sheet.specs.declared.states.Sheet.{Sheet}
use Rattle.sheet.specs.declared.states.Sheet.TheVariants.{InPlanning, InRelease}
use Rattle.sheet.specs.Tally.{State, planning, released, Tally, answer, step}

abbrev pub numbers_of : Sheet → Numbers
numbers_of (InPlanning p) = p.numbers
numbers_of (InRelease r) = r.numbers

abbrev pub state_of : Sheet → State
state_of (InPlanning p) = planning
state_of (InRelease r) = released

-- the tally of a sheet with these numbers, in a state, on station records
abbrev pub tally : Numbers → State → List Station → Tally
tally m state ss = record { basic = m.basic; stations = ss; state = state; used = m.used }

-- what stands in memory is a sheet's own: its records are lawful, and its nodes are their segment tree
pub record Sound {K R : Type 0} (G : Ghosts K R) (m : Numbers) (ss : List Station) (nodes : List K) : Type 0 where
  pub size : m.n ≡ length ss
  pub lawful : AllLawful ss
  pub basic : basic_refusal m.basic ≡ None
  pub spent : m.used ≤ m.basic.allowance
  pub tree : SegmentTree G nodes ss

-- an answer as it reads
abbrev pub said : {K R : Type 0} → (K → R) → Answer K → Answer R
said reading Done = Done
said reading (Refused f) = Refused f
said reading (Summary v) = Summary (reading v)
said reading (First k) = First k
said reading (Verdict code place) = Verdict code place
said reading NoStage = NoStage
said reading (Stopped stage code place) = Stopped stage code place
said reading (StageRefused stage f) = StageRefused stage f
said reading NotAdmitted = NotAdmitted

-- one call on a sheet's own memory: it answers what the tally does, and leaves what the tally does
pub record Step {K R T : Type 0} (G : Ghosts K R) (meets : T → R → Bool) (m : Numbers) (state : State) (ss : List Station) (nodes : List K) (c : Call T) (a : Answer K) (m' : Numbers) (state' : State) (ss' : List Station) (nodes' : List K) : Type 0 where
  pub answered : said G.reading a ≡ answer G meets (tally m state ss) c
  pub stands : tally m' state' ss' ≡ step G meets (tally m state ss) c
  pub sound : Sound G m' ss' nodes'

-- where no test is asked
abbrev pub no_test : {R : Type 0} → Unit {0} → R → Bool
no_test _ _ = false

-- what a call that changes masses answers
abbrev pub edit_answer : {K : Type 0} → Result (Unit {0}) SheetFault → Answer K
edit_answer (Ok u) = Done
edit_answer (Err f) = Refused f

abbrev pub range_answer : {K : Type 0} → Result K SheetFault → Answer K
range_answer (Ok v) = Summary v
range_answer (Err f) = Refused f

abbrev pub first_answer : {K : Type 0} → Result (Option ℕ) SheetFault → Answer K
first_answer (Ok k) = First k
first_answer (Err f) = Refused f

abbrev pub judge_answer : {K : Type 0} → Result (ℕ × ℕ) SheetFault → Answer K
judge_answer (Ok v) = Verdict v.0 v.1
judge_answer (Err f) = Refused f
