-- What a range and a first answer on any memory.
use Rattle.std.specs.Prelude.{◌≡◌, ℕ, ◌-◌, Bool, List, length, Ok, Option, Result}
use Rattle.std.specs.Option.{option_or}
use Rattle.std.specs.Result.{result_err}
use Rattle.book.specs.declared.station.Station.{Station}
use Rattle.kinds.specs.declared.kind.Kind.{Ghosts}
use Rattle.kinds.specs.Folds.{AllLawful}
use Rattle.tree.specs.Calls.{FirstMet}
use Rattle.tree.specs.Trees.{part, SegmentTree}
use Rattle.edits.specs.declared.fault.SheetFault.{SheetFault}
use Rattle.edits.specs.Edits.{memory_refusal}
use Rattle.sheet.specs.Tally.{range_refusal}

module _ {K R : Type 0} (G : Ghosts K R) where
  -- a range of a sheet of n stations
  pub record Ranged (n : ℕ) (ss : List Station) (nodes : List K) (from to : ℕ) (r : Result K SheetFault) : Type 0 where
    pub refuses : result_err r ≡ option_or (memory_refusal n (length ss) (length nodes)) (range_refusal n from to)
    pub reads : (v : K) → r ≡ Ok v → SegmentTree G nodes ss → G.reading v ≡ part G from (to - from) ss

  -- the first station at which a test is met
  pub record Found (meets : R → Bool) (n : ℕ) (ss : List Station) (nodes : List K) (r : Result (Option ℕ) SheetFault) : Type 0 where
    pub refuses : result_err r ≡ memory_refusal n (length ss) (length nodes)
    pub first : (o : Option ℕ) → r ≡ Ok o → AllLawful ss → SegmentTree G nodes ss → FirstMet G meets ss o
