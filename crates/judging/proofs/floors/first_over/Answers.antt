use Rattle.std.proofs.Common.{[], ap, ◌∙◌}
use Rattle.kinds.specs.declared.house.House.{House}
use Rattle.judging.specs.Steps.{place_of}
use Rattle.judging.proofs.Summing.{first_floor}
use Rattle.judging.proofs.floors.first_over.Goals as goal

pub returns : goal.returns
returns c ss is = c.station_of.ensures ∙ ap (λ (h : House). place_of h.floors.first) is ∙ first_floor 0 [] ss
