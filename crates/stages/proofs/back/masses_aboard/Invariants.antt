use Rattle.std.proofs.Common.{◌≡◌, take}
use Rattle.arrayvec.specs.ArrayVec.{array_vec_len}
use Rattle.stages.specs.Steps.{masses}
use Rattle.stages.proofs.back.masses_aboard.Given as goal

abbrev pub invariant-loop-station : goal.invariant-loop-station
invariant-loop-station l = (array_vec_len l.aboard ≡ l.station-index) × (l.aboard.items ≡ masses (take l.station-index l.stations))
