-- How many stations a deck with a tree can have.
use Rattle.std.proofs.Common.{◌*◌, ◌≤◌, eqb, leb, List, length}
use Rattle.std.proofs.lemmas.Bool.{and_parts, leb-true}
use Rattle.book.specs.declared.station.Station.{Station}
use Rattle.kinds.specs.declared.kind.Kind.{Ghosts}
use Rattle.tree.specs.Trees.{SegmentTree}
use Rattle.tree.specs.Widths.{width, deck}

pub few : {K R : Type 0} (G : Ghosts K R) (nodes : List K) (ss : List Station) → SegmentTree G nodes ss → length ss ≤ 256
few G nodes ss tree =
    let p = and_parts (deck (length ss)) (eqb (length nodes) (2 * width (length ss))) tree.fitting in
    leb-true _ _ (and_parts (leb 1 (length ss)) (leb (length ss) 256) p.0).1
