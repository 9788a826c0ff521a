use Rattle.book.specs.Envelopes.{polygon}
use Rattle.stages.proofs.Following.{stepped, stepped_refused}
use Rattle.stages.proofs.run.Run.one_stage.Goals as goal

pub returns-in-Ok : goal.returns-in-Ok
returns-in-Ok g c =
    let run = c.args.self.now in
    let plan = c.plan.ensures in
    rw c.step_of.ensures (stepped run.basic.now run.limits.now.zones.now run.limits.now.frames.now (polygon run.limits.now.envelope.now) run.bytes.now g.J.Kind c.args.stage c.args.at c.args.stations.now c.args.nodes.now
    c.in-Ok.edit c.in-Ok.next c.in-Ok.ensures.value (plan.further c.in-Ok.edit c.in-Ok.next c.in-Ok.is) c.judged_after.result c.judged_after.new.stations c.judged_after.new.nodes c.judged_after.ensures)

pub returns-in-Err : goal.returns-in-Err
returns-in-Err g c =
    let run = c.args.self.now in
    stepped_refused run.basic.now run.limits.now.zones.now run.limits.now.frames.now (polygon run.limits.now.envelope.now) run.bytes.now g.J.Kind c.args.stage c.args.at c.args.stations.now c.args.nodes.now
    c.in-Err.fault c.in-Err.ensures.value
