-- The first broken limit by its name, and the verdict that each has.
use Rattle.std.specs.Prelude.{ℕ, cond, List, Some, None, Option}
use Rattle.std.specs.Option.{option_map, option_or}
use Rattle.book.specs.declared.basic.Basic.{Basic}
use Rattle.book.specs.declared.station.Station.{Station}
use Rattle.book.specs.declared.totals.Totals.{Totals}
use Rattle.book.specs.Refusals.{first_failing}
use Rattle.book.specs.Sums.{totals_of, tip_kept}
use Rattle.book.specs.declared.frame.Frame.{Frame}
use Rattle.book.specs.declared.vertex.Vertex.{Vertex}
use Rattle.book.specs.declared.zone.Zone.{Zone}
use Rattle.book.specs.Polygons.{within}
use Rattle.judging.specs.declared.breach.Breach.{Breach}
use Rattle.judging.specs.declared.breach.Breach.TheVariants.{OverFloor, PastFore, PastAft, OverZone, OverFrame, OutOfTrim, OnItsTail}
use Rattle.judging.specs.declared.occasion.Occasion.{Occasion}
use Rattle.judging.specs.declared.occasion.Occasion.TheVariants.{Standing, Stage}
use Rattle.judging.specs.Bending.{frame_kept}
use Rattle.judging.specs.Judgement.{zone_kept, point}
use Rattle.judging.specs.Spots.{spots, last_failing, floor_kept, fore_kept, aft_kept}

abbrev pub floor_breach : List Station → Option Breach
floor_breach ss = option_map OverFloor (first_failing floor_kept 0 (spots ss))

abbrev pub fore_breach : List Station → Option Breach
fore_breach ss = option_map PastFore (first_failing fore_kept 0 (spots ss))

abbrev pub aft_breach : List Station → Option Breach
aft_breach ss = option_map PastAft (last_failing aft_kept 0 (spots ss))

abbrev pub zone_breach : List Station → List Zone → Option Breach
zone_breach ss zs = option_map OverZone (first_failing (zone_kept ss) 0 zs)

abbrev pub frame_breach : List Station → List Frame → Option Breach
frame_breach ss fs = option_map OverFrame (first_failing (frame_kept ss) 0 fs)

abbrev pub closing_breach : Occasion → Basic → Totals → List Vertex → Option Breach
closing_breach Standing b t vs = cond (within vs (point t)) None (Some OutOfTrim)
closing_breach Stage b t vs = cond (tip_kept b t) None (Some OnItsTail)

-- in the order of the judgement
abbrev pub first_breach : Occasion → Basic → List Station → List Zone → List Frame → List Vertex → Option Breach
first_breach o b ss zs fs vs =
    option_or (floor_breach ss)
    (option_or (fore_breach ss)
    (option_or (aft_breach ss)
    (option_or (zone_breach ss zs)
    (option_or (frame_breach ss fs) (closing_breach o b (totals_of b ss) vs)))))

-- its code and place
abbrev pub verdict : Breach → ℕ × ℕ
verdict (OverFloor station) = (1, station)
verdict (PastFore station) = (2, station)
verdict (PastAft station) = (3, station)
verdict (OverZone zone) = (4, zone)
verdict (OverFrame frame) = (5, frame)
verdict OutOfTrim = (6, 0)
verdict OnItsTail = (7, 0)
