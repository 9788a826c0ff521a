use Rattle.book.specs.Envelopes.{polygon}
use Rattle.stages.proofs.Running.{far_none, far_more, far_stops}
use Rattle.stages.proofs.run.Run.carry_out_all.Goals as goal

pub loop-stage-init : goal.loop-stage-init
loop-stage-init g c =
    let run = c.args.self.now in
    far_none g.J.Kind run.basic.now run.limits.now.zones.now run.limits.now.frames.now (polygon run.limits.now.envelope.now) run.bytes.now c.args.stations.now c.args.nodes.now

pub loop-stage-preserved : goal.loop-stage-preserved
loop-stage-preserved g c =
    let run = c.args.self.now in
    far_more g.J.Kind run.basic.now run.limits.now.zones.now run.limits.now.frames.now (polygon run.limits.now.envelope.now) run.bytes.now c.args.stations.now c.args.nodes.now
    c.loop-stage.stage c.loop-stage.at c.loop-stage.stations c.loop-stage.nodes c.loop-stage.invariant c.next_stage.result c.next_stage.new.stations c.next_stage.new.nodes c.next_stage.ensures
    c.in-Ok.next c.in-Ok.is

pub returns-in-Err : goal.returns-in-Err
returns-in-Err g c =
    let run = c.args.self.now in
    far_stops g.J.Kind run.basic.now run.limits.now.zones.now run.limits.now.frames.now (polygon run.limits.now.envelope.now) run.bytes.now c.args.stations.now c.args.nodes.now
    c.loop-stage.stage c.loop-stage.at c.loop-stage.stations c.loop-stage.nodes c.loop-stage.invariant c.next_stage.result c.next_stage.new.stations c.next_stage.new.nodes c.next_stage.ensures
    c.in-Err.ending c.in-Err.is
