-- The judgement of a deck: a verdict code and a place, by the first broken limit.
use Rattle.std.specs.Prelude.{ℕ, ◌-◌, Bool, cond, List, take, drop, Some, None, Option, nat_le}
use Rattle.std.specs.Option.{option_map, option_or, unwrap_or}
use Rattle.book.specs.declared.basic.Basic.{Basic}
use Rattle.book.specs.declared.station.Station.{Station}
use Rattle.book.specs.declared.totals.Totals.{Totals}
use Rattle.book.specs.Refusals.{first_failing}
use Rattle.book.specs.Sums.{mass_of, totals_of, tip_kept}
use Rattle.book.specs.declared.frame.Frame.{Frame}
use Rattle.book.specs.declared.vertex.Vertex.{Vertex}
use Rattle.book.specs.declared.zone.Zone.{Zone}
use Rattle.book.specs.Polygons.{within}
use Rattle.judging.specs.declared.occasion.Occasion.{Occasion}
use Rattle.judging.specs.declared.occasion.Occasion.TheVariants.{Standing, Stage}
use Rattle.judging.specs.Bending.{frame_kept}
use Rattle.judging.specs.Spots.{spots, last_failing, floor_kept, fore_kept, aft_kept}

-- the stations of a zone
abbrev pub zone_stations : Zone → List Station → List Station
zone_stations z ss = take (z.to - z.from) (drop z.from ss)

abbrev pub zone_kept : List Station → Zone → Bool
zone_kept ss z = nat_le (mass_of (zone_stations z ss)) z.limit

abbrev pub point : Totals → Vertex
point t = record { mass = t.mass; moment = t.moment }

-- a verdict where a place was found, or where the whole is not kept
abbrev pub at_place : ℕ → Option ℕ → Option (ℕ × ℕ)
at_place code found = option_map (λ place. (code, place)) found

abbrev pub whole : ℕ → Bool → Option (ℕ × ℕ)
whole code kept = cond kept None (Some (code, 0))

-- what is judged last: trim on a standing deck, tip in a stage
abbrev pub closing : Occasion → Basic → Totals → List Vertex → Option (ℕ × ℕ)
closing Standing b t vs = whole 6 (within vs (point t))
closing Stage b t vs = whole 7 (tip_kept b t)

-- the first broken limit: 1 a floor (the first station), 2 a fore margin below 0 (the first), 3 an aft margin below 0 (the last),
-- 4 a zone (the first), 5 a frame (the first), 6 trim or 7 tip
abbrev pub broken : Occasion → Basic → List Station → List Zone → List Frame → List Vertex → Option (ℕ × ℕ)
broken o b ss zs fs vs =
    option_or (at_place 1 (first_failing floor_kept 0 (spots ss)))
    (option_or (at_place 2 (first_failing fore_kept 0 (spots ss)))
    (option_or (at_place 3 (last_failing aft_kept 0 (spots ss)))
    (option_or (at_place 4 (first_failing (zone_kept ss) 0 zs))
    (option_or (at_place 5 (first_failing (frame_kept ss) 0 fs))
    (closing o b (totals_of b ss) vs)))))

-- its code and place, or 0 and 0 where every limit is kept
unfoldable pub judgement : Occasion → Basic → List Station → List Zone → List Frame → List Vertex → ℕ × ℕ
judgement o b ss zs fs vs = unwrap_or (broken o b ss zs fs vs) (0, 0)
