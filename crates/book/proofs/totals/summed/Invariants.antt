use Rattle.book.proofs.Adding.{Added}
use Rattle.book.proofs.totals.summed.Given as goal

abbrev pub invariant-loop-station : goal.invariant-loop-station
invariant-loop-station l = Added l.basic l.stations l.station-index l.mass l.moment
