use Rattle.std.proofs.Common.{ℤ, pos, ap, ◌∙◌}
use lib.Signed.{le_z}
use Rattle.kinds.specs.declared.mass_moment.MassMoment.{MassMoment}
use Rattle.judging.specs.Steps.{frame_bears}
use Rattle.judging.proofs.Levers.{side_bent}
use Rattle.judging.proofs.frames.keeps.Goals as goal

pub returns : goal.returns
returns g c tree =
    let f = c.args.frame.now in
    c.bears.ensures
    ∙ ap (λ (m : MassMoment). frame_bears f m) (c.side_load.ensures tree)
    ∙ ap (λ (z : ℤ). le_z z (pos f.limit)) (side_bent f.side f.arm c.args.deck.now.stations.now)
