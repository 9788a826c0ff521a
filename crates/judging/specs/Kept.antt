-- That every limit is kept, limit by limit, and when the judgement says so.
use Rattle.std.specs.Prelude.{◌≡◌, ◌≤◌, List, ◌∷◌, ◌++◌, pos, ◌≤ℤ◌}
use Rattle.std.specs.List.{AllByRecursion}
use Rattle.book.specs.declared.basic.Basic.{Basic}
use Rattle.book.specs.declared.station.Station.{Station}
use Rattle.book.specs.declared.totals.Totals.{Totals}
use Rattle.book.specs.Sums.{mass_of, totals_of, TipKept}
use Rattle.kinds.specs.Direct.{fore_margin, aft_margin, Above, Borne}
use Rattle.book.specs.declared.frame.Frame.{Frame}
use Rattle.book.specs.declared.vertex.Vertex.{Vertex}
use Rattle.book.specs.declared.zone.Zone.{Zone}
use Rattle.book.specs.Polygons.{Within}
use Rattle.judging.specs.declared.occasion.Occasion.{Occasion}
use Rattle.judging.specs.declared.occasion.Occasion.TheVariants.{Standing, Stage}
use Rattle.judging.specs.Bending.{bending}
use Rattle.judging.specs.Judgement.{zone_stations, point, judgement}

-- trim is kept on a standing deck, tip in a stage
abbrev pub Closes : Occasion → Basic → Totals → List Vertex → Type 0
Closes Standing b t vs = Within vs (point t)
Closes Stage b t vs = TipKept b t

pub record Keeps (o : Occasion) (b : Basic) (ss : List Station) (zs : List Zone) (fs : List Frame) (vs : List Vertex) : Type 0 where
  pub floors : AllByRecursion Borne ss
  pub fores : (front : List Station) (s : Station) (back : List Station) → ss ≡ front ++ (s ∷ back) → Above (pos 0) (fore_margin front s back)
  pub afts : (front : List Station) (s : Station) (back : List Station) → ss ≡ front ++ (s ∷ back) → Above (pos 0) (aft_margin front s back)
  pub zones : AllByRecursion (λ z. mass_of (zone_stations z ss) ≤ z.limit) zs
  pub frames : AllByRecursion (λ f. bending f ss ≤ℤ pos f.limit) fs
  pub closes : Closes o b (totals_of b ss) vs

-- the code is 0 exactly when every limit is kept
pub record Code0IsKept : Type 0 where
  pub kept : (o : Occasion) (b : Basic) (ss : List Station) (zs : List Zone) (fs : List Frame) (vs : List Vertex) → (judgement o b ss zs fs vs).0 ≡ 0 → Keeps o b ss zs fs vs
  pub only : (o : Occasion) (b : Basic) (ss : List Station) (zs : List Zone) (fs : List Frame) (vs : List Vertex) → Keeps o b ss zs fs vs → judgement o b ss zs fs vs ≡ (0, 0)
