use Rattle.std.proofs.Common.{rules}
use Rattle.sheet.specs.Asking.{Found}
use Rattle.sheet.proofs.Stepping.{step_first}
use Rattle.sheet.proofs.asking.first_of.Goals as goal

pub returns : goal.returns
returns g c =
    let any : Found g.T.Of.Kind (g.T.Test.meets c.args.test.now) c.numbers-n.result.n c.args.stations.now c.args.nodes.now c.map_err.result = search rules in
    rw (← c.numbers-n.ensures) (record { any = any; step = step_first g.T.Of.Kind g.T.Test.meets c.numbers-n.result g.S.Inspect.state c.args.stations.now c.args.nodes.now c.args.test.now c.map_err.result any })
