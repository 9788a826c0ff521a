use Rattle.std.proofs.Common.{◌≡◌, List, get_or}
use Rattle.book.specs.declared.station.Station.{Station}
use Rattle.stages.specs.Steps.{Alike, masses}
use Rattle.stages.proofs.Restoring.{BackTo}
use Rattle.stages.proofs.back.take_back.Given as goal

abbrev pub invariant-loop-k : goal.invariant-loop-k
invariant-loop-k g l =
    ((d : g.row.K.Denot) → get_or l.nodes 0 d ≡ get_or l.initial.nodes 0 d)
    × ((was : List Station) → l.aboard ≡ masses was → Alike was l.initial.stations → BackTo g.K.Kind was l.initial.stations l.initial.nodes l.k l.stations l.nodes)
