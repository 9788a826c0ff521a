use Rattle.std.proofs.Common.{length}
use Rattle.tree.proofs.Accepting.{range_room, ranged_done}
use Rattle.tree.proofs.Overs.{Laws}
use Rattle.tree.proofs.calls.ranged.Goals as goal

pub span-requires : goal.span-requires
span-requires g c =
    let room = range_room c.args.stations (length c.args.nodes.now) c.args.from c.args.to c.in_ok-check_range.ensures in
    record { from_le_to = room.0; to_in_bounds = room.1 }

pub returns : goal.returns
returns g c =
    let laws : Laws g.K.Kind = record { left = g.met.K.Kind.left; right = g.met.K.Kind.right; assoc = g.met.K.Kind.assoc } in
    ranged_done g.K.Kind laws c.args.nodes.now c.args.stations c.args.from c.args.to c.span.result c.in_ok-check_range.ensures c.span.ensures
