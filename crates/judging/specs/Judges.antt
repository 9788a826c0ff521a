-- What a call of the judgement answers.
use Rattle.std.specs.Prelude.{◌≡◌, ℕ, List, length, None}
use Rattle.book.specs.declared.basic.Basic.{Basic}
use Rattle.book.specs.declared.station.Station.{Station}
use Rattle.book.specs.Refusals.{basic_refusal}
use Rattle.kinds.specs.declared.kind.Kind.{Ghosts}
use Rattle.kinds.specs.Folds.{AllLawful}
use Rattle.book.specs.declared.frame.Frame.{Frame}
use Rattle.book.specs.declared.vertex.Vertex.{Vertex}
use Rattle.book.specs.declared.zone.Zone.{Zone}
use Rattle.book.specs.Refusals.{limits_refusal}
use Rattle.tree.specs.Trees.{SegmentTree}
use Rattle.judging.specs.declared.occasion.Occasion.{Occasion}
use Rattle.judging.specs.Judgement.{judgement}
use Rattle.judging.specs.Kept.{Code0IsKept}

module _ {K R : Type 0} (G : Ghosts K R) where
  pub record Judges (b : Basic) (ss : List Station) (nodes : List K) (zs : List Zone) (fs : List Frame) (vs : List Vertex) (o : Occasion) (r : ℕ × ℕ) : Type 0 where
    -- of lawful records, limits that are not refused and the tree of the stations, the judgement
    pub value : AllLawful ss → basic_refusal b ≡ None → limits_refusal (length ss) zs fs ≡ None → SegmentTree G nodes ss → r ≡ judgement o b ss zs fs vs
    pub means : Code0IsKept
