use Rattle.std.proofs.Common.{ap, ◌∙◌}
use Rattle.kinds.specs.declared.house.House.{House}
use Rattle.kinds.specs.declared.mass_moment.MassMoment.{MassMoment}
use Rattle.judging.specs.Steps.{held_totals}
use Rattle.judging.proofs.Summing.{house_load, totals_held}
use Rattle.judging.proofs.closing.totals.Goals as goal

pub returns : goal.returns
returns c ss whole basic =
    let b = c.args.basic.now in
    c.with_deck.ensures
    ∙ ap (λ (m : MassMoment). held_totals b m) (ap (λ (h : House). h.moments) whole.sums ∙ house_load 0 ss)
    ∙ totals_held b ss basic whole.lawful whole.few
