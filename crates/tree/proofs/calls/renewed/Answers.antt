use Rattle.std.proofs.Common.{◌≡◌, ◌+◌, ◌/◌, ◌<◌, length, rules}
use Rattle.std.proofs.lemmas.List.{length-set}
use Rattle.tree.proofs.Accepting.{renewed_done, leaf_room}
use Rattle.tree.proofs.Overs.{Laws}
use Rattle.tree.proofs.calls.renewed.Given as given
use Rattle.tree.proofs.calls.renewed.Goals as goal

laws : (g : given.Over) → Laws g.K.Kind
laws g = record { left = g.met.K.Kind.left; right = g.met.K.Kind.right; assoc = g.met.K.Kind.assoc }

pub offset_bounds-nodes-leaf : goal.offset_bounds-nodes-leaf
offset_bounds-nodes-leaf g c =
    let room = leaf_room (length c.args.stations.now) (length c.args.nodes.now) c.args.k c.in_ok-check_station.ensures in
    let lt : length c.args.nodes.now / 2 + c.args.k < length c.args.nodes.now = room.0 in
    search rules

pub bounds-nodes-leaf : goal.bounds-nodes-leaf
bounds-nodes-leaf g c = (leaf_room (length c.args.stations.now) (length c.args.nodes.now) c.args.k c.in_ok-check_station.ensures).0

pub renew_above-requires : goal.renew_above-requires
renew_above-requires g c =
    rw (length-set c.args.nodes.now (length c.args.nodes.now / 2 + c.args.k) c.station_leaf.result)
    (leaf_room (length c.args.stations.now) (length c.args.nodes.now) c.args.k c.in_ok-check_station.ensures).1

pub returns : goal.returns
returns g c =
    let before = c.args.nodes.now in
    let after = c.renew_above.new.nodes in
    let same : length after ≡ length before = search (rules, length-set) in
    renewed_done g.K.Kind (laws g) before after c.args.stations.now c.args.k c.station_leaf.result c.in_ok-check_station.ensures same
    c.station_leaf.ensures c.renew_above.ensures.beside c.renew_above.ensures.whole
