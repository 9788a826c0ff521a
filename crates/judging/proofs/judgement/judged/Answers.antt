use Rattle.book.specs.Envelopes.{polygon}
use Rattle.judging.proofs.Verdicts.{judged}
use Rattle.judging.proofs.judgement.judged.Goals as goal

pub returns : goal.returns
returns g c =
    let limits = c.args.limits.now in
    judged g.J.Kind c.args.basic.now c.args.deck.now limits.zones.now limits.frames.now (polygon limits.envelope.now) c.args.occasion c.verdict_of.ensures c.check_all.ensures
