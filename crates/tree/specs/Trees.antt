-- When a node memory is the segment tree of a deck's stations.
use Rattle.std.specs.Prelude.{◌≡◌, ℕ, ◌+◌, ◌*◌, ◌/◌, ◌^◌, ◌<◌, ◌≤◌, true, List, length, take, drop, slice_index_or}
use Rattle.book.specs.declared.station.Station.{Station}
use Rattle.kinds.specs.declared.kind.Kind.{Ghosts}
use Rattle.kinds.specs.Folds.{read_at}
use Rattle.tree.specs.Widths.{width, fits}

-- in a tree of width w: node i stands h levels above the leaves, the first leaf under it is the p-th
pub record Place (w h i p : ℕ) : Type 0 where
  pub at : i * 2 ^ h ≡ w + p
  pub inside : p + 2 ^ h ≤ w

-- node i is node j, or half of it rounded down, or half of that, and so on down to node 1
abbrev pub Above : ℕ → ℕ → Type 0
Above i j = (0 < i) × ((h : ℕ) × (j / 2 ^ h ≡ i))

-- how many stations stand at the `count` places from `from` on
abbrev pub among : ℕ → ℕ → List Station → ℕ
among from count ss = length (take count (drop from ss))

module _ {K R : Type 0} (G : Ghosts K R) where
  -- the stations at those places, joined nose to tail
  abbrev pub part : ℕ → ℕ → List Station → R
  part from count ss = read_at G.none G.single G.joined from (take count (drop from ss))

  -- the node memory of a deck: station k is leaf w + k, each inner node is what stands below it
  pub record SegmentTree (nodes : List K) (ss : List Station) : Type 0 where
    pub fitting : fits (length ss) (length nodes) ≡ true
    -- an inner node reads as its two children joined, in their order
    pub inner : (i : ℕ) (d : K) → 0 < i → i < width (length ss) → G.reading (slice_index_or nodes i d) ≡ G.joined (G.reading (slice_index_or nodes (2 * i) d)) (G.reading (slice_index_or nodes (2 * i + 1) d))
    pub leaf : (k : ℕ) (d : K) (e : Station) → k < length ss → G.reading (slice_index_or nodes (width (length ss) + k) d) ≡ G.single k (slice_index_or ss k e)
    -- leaves past the last station read as empty
    pub past : (k : ℕ) (d : K) → length ss ≤ k → k < width (length ss) → G.reading (slice_index_or nodes (width (length ss) + k) d) ≡ G.none
    -- every node but node 0 may stand for the stations under it
    pub stands : (h i p : ℕ) (d : K) → Place (width (length ss)) h i p → G.stands (slice_index_or nodes i d) (among p (2 ^ h) ss)

  -- what follows: a node reads as the stations under it, joined, and so the stations fix the reading of every node but node 0
  pub record TreesRead : Type 0 where
    pub under : (nodes : List K) (ss : List Station) → SegmentTree nodes ss → (h i p : ℕ) (d : K) → Place (width (length ss)) h i p → G.reading (slice_index_or nodes i d) ≡ part p (2 ^ h) ss
    pub fixed : (one other : List K) (ss : List Station) → SegmentTree one ss → SegmentTree other ss → (i : ℕ) (d : K) → 0 < i → i < length one → G.reading (slice_index_or one i d) ≡ G.reading (slice_index_or other i d)
