-- What a call for stages answers, and that it leaves a deck as it was.
use Rattle.std.specs.Prelude.{◌≡◌, ℕ, ◌<◌, List, length, None, slice_index_or}
use Rattle.book.specs.declared.basic.Basic.{Basic}
use Rattle.book.specs.declared.station.Station.{Station}
use Rattle.book.specs.Refusals.{basic_refusal}
use Rattle.kinds.specs.declared.kind.Kind.{Ghosts}
use Rattle.kinds.specs.Folds.{AllLawful}
use Rattle.book.specs.declared.frame.Frame.{Frame}
use Rattle.book.specs.declared.vertex.Vertex.{Vertex}
use Rattle.book.specs.declared.zone.Zone.{Zone}
use Rattle.book.specs.Refusals.{limits_refusal}
use Rattle.tree.specs.Trees.{SegmentTree}
use Rattle.edits.specs.declared.fault.SheetFault.TheVariants.{OtherLength}
use Rattle.stages.specs.declared.ending.Ending.{Ending}
use Rattle.stages.specs.declared.ending.Ending.TheVariants.{Refused}
use Rattle.stages.specs.Meaning.{StagesMean}
use Rattle.stages.specs.Staging.{ending}

module _ {K R : Type 0} (G : Ghosts K R) where
  pub record Staged (b : Basic) (ss : List Station) (nodes : List K) (zs : List Zone) (fs : List Frame) (vs : List Vertex) (bytes : List ℕ) (r : Ending) (ss' : List Station) (nodes' : List K) : Type 0 where
    -- whatever the memory was, its station records are as before
    pub records : ss' ≡ ss
    -- the tree of the stations is still their tree
    pub tree : AllLawful ss → SegmentTree G nodes ss → SegmentTree G nodes' ss
    pub first_node : (d : K) → slice_index_or nodes' 0 d ≡ slice_index_or nodes 0 d
    -- more than 256 stations are no deck: refused at once
    pub no_deck : 256 < length ss → (r ≡ Refused 0 OtherLength) × (nodes' ≡ nodes)
    -- of lawful records, limits that are not refused and the tree of the stations, how the stages end
    pub value : AllLawful ss → basic_refusal b ≡ None → limits_refusal (length ss) zs fs ≡ None → SegmentTree G nodes ss → r ≡ ending b zs fs vs bytes ss
    pub means : StagesMean
