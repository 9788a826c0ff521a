use Rattle.std.proofs.Common.{◌-◌, ◌≤◌, take, drop, refl, ap, ◌∙◌, arith}
use Rattle.kinds.specs.Houses.{no_house, one_house, both_houses}
use Rattle.kinds.proofs.Folding.{read_carried}
use Rattle.judging.proofs.Reading.{few}
use Rattle.judging.proofs.deck.Deck.part.Goals as goal

-- the house in the range's value is the house of its stations
pub returns-in-Ok : goal.returns-in-Ok
returns-in-Ok g c tree le =
    let k = g.J.Kind in
    let ss = c.args.self.now.stations.now in
    let h = c.house.ensures in
    let from = c.args.from in
    let to = c.args.to in
    let v = c.in-Ok.value in
    let read = c.in-Ok.ensures.reads v refl ss refl tree in
    let short : to - from ≤ 256 = omega (arith, few k c.args.self.now.nodes.now ss tree) in
    h.reads (to - from) short read.1
    ∙ ap g.J.Judged.house read.0
    ∙ read_carried g.J.Judged.house k.none k.single k.joined no_house one_house both_houses h.none h.single h.joined from (take (to - from) (drop from ss))
