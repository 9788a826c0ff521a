use Rattle.std.proofs.Common.{◌≤◌, length, sym, ap, ◌∙◌, arith}
use Rattle.kinds.specs.declared.house.House.{House}
use Rattle.book.specs.declared.frame.Side.{Side}
use Rattle.judging.specs.Steps.{load_of, on_side}
use Rattle.judging.proofs.Levers.{ahead_part, aft_part, ahead_on_deck}
use Rattle.judging.proofs.Summing.{house_load}
use Rattle.judging.proofs.frames.side_load.Goals as goal

pub returns-in-Fore : goal.returns-in-Fore
returns-in-Fore g c tree =
    let f = c.args.frame.now in
    let ss = c.args.deck.now.stations.now in
    let k = c.ahead_ends.result in
    let le : k ≤ length ss = omega (arith, c.ahead_ends.ensures, ahead_on_deck f ss) in
    ap (λ (h : House). h.moments) (c.part.ensures tree le)
    ∙ house_load 0 _
    ∙ ap load_of (ahead_part f ss k c.ahead_ends.ensures)
    ∙ ap (λ (side : Side). load_of (on_side side f.arm ss)) (sym c.in-Fore.is)

pub returns-in-Aft : goal.returns-in-Aft
returns-in-Aft g c tree =
    let f = c.args.frame.now in
    let ss = c.args.deck.now.stations.now in
    let k = c.aft_begins.result in
    ap (λ (h : House). h.moments) (c.part-in-Aft.ensures tree (omega arith))
    ∙ house_load k _
    ∙ ap load_of (aft_part f ss k c.aft_begins.ensures)
    ∙ ap (λ (side : Side). load_of (on_side side f.arm ss)) (sym c.in-Aft.is)
