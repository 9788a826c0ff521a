use Rattle.std.proofs.Common.{ap, ◌∙◌}
use Rattle.kinds.specs.declared.house.House.{House}
use Rattle.kinds.specs.declared.mass_moment.MassMoment.{MassMoment}
use Rattle.judging.specs.Judgement.{zone_stations}
use Rattle.judging.specs.Steps.{zone_bears}
use Rattle.judging.proofs.Summing.{house_load}
use Rattle.judging.proofs.zones.keeps.Goals as goal

pub returns : goal.returns
returns g c tree le =
    let zone = c.args.zone.now in
    c.bears.ensures
    ∙ ap (λ (m : MassMoment). zone_bears zone m) (ap (λ (h : House). h.moments) (c.part.ensures tree le) ∙ house_load zone.from (zone_stations zone c.args.deck.now.stations.now))
