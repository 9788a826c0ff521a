-- What stages answer and leave on a sheet: on any memory, and as a step of the tally on the sheet's own.
use Rattle.std.specs.Prelude.{◌≡◌, ℕ, List, length, Some, slice_index_or}
use Rattle.std.specs.Borrow.{Bor}
use Rattle.book.specs.declared.station.Station.{Station}
use Rattle.book.specs.declared.limits.Limits.{Limits}
use Rattle.kinds.specs.declared.kind.Kind.{Ghosts}
use Rattle.tree.specs.Trees.{SegmentTree}
use Rattle.edits.specs.declared.fault.SheetFault.{SheetFault}
use Rattle.stages.specs.declared.ending.Ending.{Ending}
use Rattle.stages.specs.declared.ending.Ending.TheVariants.{Refused}
use Rattle.sheet.specs.declared.call.Call.TheVariants.{Stages}
use Rattle.sheet.specs.declared.numbers.Numbers.{Numbers}
use Rattle.sheet.specs.Memory.{tally, Sound, Step, no_test}
use Rattle.sheet.specs.Tally.{planning, ended, ending_by}
use Rattle.sheet.specs.Weighing.{brought_refusal}

module _ {K R : Type 0} (G : Ghosts K R) where
  pub record Rehearsed (m : Numbers) (ss : List Station) (nodes : List K) (l : Limits) (bytes : Bor (List ℕ)) (r : Ending) (ss' : List Station) (nodes' : List K) : Type 0 where
    -- the station records are as before, whatever stood there
    pub records : ss' ≡ ss
    pub first_node : (d : K) → slice_index_or nodes' 0 d ≡ slice_index_or nodes 0 d
    -- refused before the first stage, and counted to it
    pub refuses : (f : SheetFault) → brought_refusal m (length ss) (length nodes) l ≡ Some f → (r ≡ Refused 0 f) × (nodes' ≡ nodes)
    -- on its own memory the stages end as the tally's do, and the nodes are still the tree
    pub value : Sound G m ss nodes → r ≡ ending_by l (tally m planning ss) bytes.now
    pub tree : Sound G m ss nodes → SegmentTree G nodes' ss
    pub step : Sound G m ss nodes → Step {T = Unit {0}} G no_test m planning ss nodes (Stages l bytes) (ended r) m planning ss' nodes'
