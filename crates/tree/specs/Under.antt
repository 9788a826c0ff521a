-- What a node says of the stations under it: the notions in which the tree's inner functions are stated.
use Rattle.std.specs.Prelude.{◌≡◌, ℕ, ◌+◌, ◌*◌, ◌^◌, ◌<◌, ◌≤◌, List, slice_index_or}
use Rattle.book.specs.declared.station.Station.{Station}
use Rattle.book.specs.Fields.{Lawful}
use Rattle.kinds.specs.declared.kind.Kind.{Ghosts}
use Rattle.tree.specs.Trees.{Place, Above, among, part}

module _ {K R : Type 0} (G : Ghosts K R) where
  -- v reads as the stations at the `count` places from `from` on, and may stand for as many
  pub record Over (v : K) (from count : ℕ) (ss : List Station) : Type 0 where
    pub reads : G.reading v ≡ part G from count ss
    pub counts : G.stands v (among from count ss)

  -- v is what a lawful record at place k, numbered by it, makes
  abbrev pub StationLeaf : List Station → ℕ → K → Type 0
  StationLeaf ss k v = (e : Station) × (Lawful (slice_index_or ss k e) → k < 256 → (G.reading v ≡ G.single k (slice_index_or ss k e)) × G.stands v 1)

  abbrev pub EmptyLeaf : K → Type 0
  EmptyLeaf v = (G.reading v ≡ G.none) × G.stands v 0

  -- v is what joining makes of fore and aft
  abbrev pub Joins : K → K → K → Type 0
  Joins fore aft v = (j k : ℕ) → G.stands fore j → G.stands aft k → j + k ≤ 256 → (G.reading v ≡ G.joined (G.reading fore) (G.reading aft)) × G.stands v (j + k)

  -- v is what joining makes of fore and node i, of node i and aft, or of the two nodes below i
  abbrev pub JoinsNode : K → List K → ℕ → K → Type 0
  JoinsNode fore nodes i v = (x : K) × (x ≡ slice_index_or nodes i x) × Joins fore x v

  abbrev pub NodeJoins : List K → ℕ → K → K → Type 0
  NodeJoins nodes i aft v = (x : K) × (x ≡ slice_index_or nodes i x) × Joins x aft v

  abbrev pub ChildrenJoin : List K → ℕ → K → Type 0
  ChildrenJoin nodes i v = (x : K) × (y : K) × (x ≡ slice_index_or nodes (2 * i) x) × (y ≡ slice_index_or nodes (2 * i + 1) y) × Joins x y v

  -- in a tree of width w, every node of which P holds is over the stations under it
  abbrev pub Right : (ℕ → Type 0) → List K → ℕ → List Station → Type 0
  Right P nodes w ss = (h i p : ℕ) (d : K) → Place w h i p → P i → Over (slice_index_or nodes i d) p (2 ^ h) ss

  -- every node but those above node j
  abbrev pub RightBeside : ℕ → List K → ℕ → List Station → Type 0
  RightBeside j nodes w ss = Right (λ i. Above i j → ⊥) nodes w ss

  -- every node
  abbrev pub Whole : List K → ℕ → List Station → Type 0
  Whole nodes w ss = (h i p : ℕ) (d : K) → Place w h i p → Over (slice_index_or nodes i d) p (2 ^ h) ss
