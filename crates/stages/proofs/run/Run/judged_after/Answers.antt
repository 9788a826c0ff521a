use Rattle.book.specs.Envelopes.{polygon}
use Rattle.stages.proofs.Judgings.{judged_done}
use Rattle.stages.proofs.run.Run.judged_after.Goals as goal

pub returns : goal.returns
returns g c =
    let run = c.args.self.now in
    judged_done g.J.Kind run.basic.now run.limits.now.zones.now run.limits.now.frames.now (polygon run.limits.now.envelope.now) c.args.stations.now c.args.nodes.now c.args.edit.now c.carry_out.new.stations c.carry_out.new.nodes c.judge.result c.in_ok-carry_out.ensures c.judge.ensures
