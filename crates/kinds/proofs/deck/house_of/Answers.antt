use Rattle.std.proofs.Common.{length, sym, ap, ◌∙◌, subst}
use Rattle.kinds.specs.declared.house.House.{House}
use Rattle.kinds.specs.Direct.{Summary}
use Rattle.kinds.specs.Houses.{no_house, one_house, both_houses}
use Rattle.kinds.proofs.Folding.{read_carried}
use Rattle.kinds.proofs.Rows.{summary}
use Rattle.kinds.proofs.deck.house_of.Goals as goal

-- a judged kind's house reading is carried along the stations
pub returns : goal.returns
returns g c n ss few reads stands =
    let k = g.J.Kind in
    let h = c.house.ensures in
    let e =
    h.reads (length ss) few stands
    ∙ ap g.J.Judged.house reads
    ∙ read_carried g.J.Judged.house k.none k.single k.joined no_house one_house both_houses h.none h.single h.joined n ss
    in
    (e, subst (λ (x : House). Summary n ss x) (sym e) (summary n ss))
