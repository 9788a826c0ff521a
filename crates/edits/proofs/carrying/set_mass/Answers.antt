use Rattle.std.proofs.Common.{◌≡◌, length, rules}
use Rattle.edits.proofs.Putting.{put_done}
use Rattle.edits.proofs.carrying.set_mass.Goals as goal

pub returns : goal.returns
returns g c =
    let long : length c.follow.new.nodes ≡ length c.args.nodes.now = search rules in
    put_done g.K.Kind c.args.stations.now c.args.nodes.now c.args.k c.args.mass c.write_mass.new.stations c.follow.new.nodes c.write_mass.ensures long c.follow.ensures
