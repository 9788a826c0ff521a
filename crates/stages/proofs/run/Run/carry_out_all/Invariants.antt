use Rattle.book.specs.Envelopes.{polygon}
use Rattle.stages.proofs.Running.{SoFar}
use Rattle.stages.proofs.run.Run.carry_out_all.Given as goal

abbrev pub invariant-loop-stage : goal.invariant-loop-stage
invariant-loop-stage g l = SoFar g.J.Kind l.self.basic.now l.self.limits.now.zones.now l.self.limits.now.frames.now (polygon l.self.limits.now.envelope.now) l.self.bytes.now l.initial.stations l.initial.nodes l.stage l.at l.stations l.nodes
