use Rattle.std.proofs.Common.{◌+◌, pos, None, arith, length-drop}
use Rattle.std.proofs.ByRecursion.{All-get_or}
use Rattle.std.proofs.lemmas.List.{drop_more}
use Rattle.book.specs.Fields.{Lawful}
use Rattle.kinds.proofs.deck.in_front.Goals as goal

pub returns : goal.returns
returns g c aft all few =
    let ss = c.args.stations.now in
    let i = c.args.i in
    let rest = drop_more ss i (record { arm = pos 0; floor = 0; fore = None; aft = None; mass = 0 }) c.requires in
    let n = length-drop (i + 1) ss in
    let one = c.station.ensures (All-get_or Lawful ss i _ c.requires all) (omega arith) in
    grind (arith, rest, one, aft all few, c.join.ensures 1)
