-- When a deck's nodes are its own tree, and what its house summary is then.
use Rattle.std.specs.Prelude.{◌≡◌, ◌≤◌, List, length}
use Rattle.book.specs.declared.station.Station.{Station}
use Rattle.kinds.specs.declared.house.House.{House}
use Rattle.kinds.specs.declared.kind.Kind.{Ghosts}
use Rattle.kinds.specs.Folds.{AllLawful}
use Rattle.kinds.specs.Houses.{house_at}
use Rattle.tree.specs.Trees.{SegmentTree}
use Rattle.judging.specs.declared.deck.Deck.{Deck}

module _ {K R : Type 0} (G : Ghosts K R) where
  -- the records are lawful, and the nodes are their tree
  pub record Sound (d : Deck K) : Type 0 where
    pub lawful : AllLawful d.stations.now
    pub tree : SegmentTree G d.nodes.now d.stations.now

-- h is the house summary of lawful stations, as many as a deck can have
pub record Whole (ss : List Station) (h : House) : Type 0 where
  pub sums : h ≡ house_at 0 ss
  pub lawful : AllLawful ss
  pub few : length ss ≤ 256
