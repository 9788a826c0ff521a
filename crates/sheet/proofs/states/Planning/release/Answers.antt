use Rattle.std.proofs.Common.{Ok, Err}
use Rattle.sheet.proofs.Verdicts.{freed_by}
use Rattle.sheet.proofs.states.Planning.release.Goals as goal

pub returns-in-Ok : goal.returns-in-Ok
returns-in-Ok g c = freed_by g.J.Kind c.args.self c.args.stations.now c.args.nodes.now c.args.limits.now (Ok tt) c.in-Ok.ensures

pub returns-in-Err : goal.returns-in-Err
returns-in-Err g c = freed_by g.J.Kind c.args.self c.args.stations.now c.args.nodes.now c.args.limits.now (Err c.in-Err.fault) c.in-Err.ensures
