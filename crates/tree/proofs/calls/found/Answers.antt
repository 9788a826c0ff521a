use Rattle.tree.proofs.Accepting.{found_done}
use Rattle.tree.proofs.Overs.{Laws}
use Rattle.tree.proofs.calls.found.Goals as goal

pub returns : goal.returns
returns g c =
    let laws : Laws g.T.Of.Kind = record { left = g.met.T.Of.Kind.left; right = g.met.T.Of.Kind.right; assoc = g.met.T.Of.Kind.assoc } in
    found_done g.T.Of.Kind laws c.args.nodes.now (g.T.Test.meets c.args.test.now) c.args.stations c.descend.result c.in_ok-check_memory.ensures c.descend.ensures
