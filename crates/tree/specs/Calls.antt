-- What each call on a tree answers, and what it leaves in the node memory.
use Rattle.std.specs.Prelude.{◌≡◌, ℕ, ◌+◌, ◌-◌, ◌/◌, ◌<◌, Bool, true, false, cond, ◌&&◌, List, length, is_some, Some, None, Ok, Option, Result, nat_le, nat_lt, slice_index_or, slice_set}
use Rattle.std.specs.Option.{option_or}
use Rattle.std.specs.Result.{result_err}
use Rattle.book.specs.declared.station.Station.{Station}
use Rattle.book.specs.Fields.{Lawful}
use Rattle.kinds.specs.declared.kind.Kind.{Ghosts}
use Rattle.kinds.specs.Folds.{AllLawful}
use Rattle.tree.specs.declared.misfit.Misfit.{Misfit}
use Rattle.tree.specs.declared.misfit.Misfit.TheVariants.{OtherLength, NoStation, NoRange}
use Rattle.tree.specs.Trees.{Above, part, SegmentTree, TreesRead}
use Rattle.tree.specs.Widths.{fits}

-- on a deck of n stations and a memory of m nodes
abbrev pub memory_refusal : ℕ → ℕ → Option Misfit
memory_refusal n m = cond (fits n m) None (Some OtherLength)

abbrev pub station_refusal : ℕ → ℕ → ℕ → Option Misfit
station_refusal n m k = option_or (memory_refusal n m) (cond (nat_lt k n) None (Some NoStation))

abbrev pub range_refusal : ℕ → ℕ → ℕ → ℕ → Option Misfit
range_refusal n m from to = option_or (memory_refusal n m) (cond (nat_lt from to && nat_le to n) None (Some NoRange))

module _ {K R : Type 0} (G : Ghosts K R) where
  -- filling: whatever the nodes were, they are the tree of the stations; node 0 is as it was
  pub record Filled (before after : List K) (ss : List Station) (r : Result (Unit {0}) Misfit) : Type 0 where
    pub refuses : result_err r ≡ memory_refusal (length ss) (length before)
    pub tree : result_err r ≡ None → AllLawful ss → SegmentTree G after ss
    pub first_node : (d : K) → slice_index_or after 0 d ≡ slice_index_or before 0 d
    pub untouched : is_some (result_err r) ≡ true → after ≡ before
    pub reads : TreesRead G

  -- renewal: the tree of the stations before station k got its record s is now the tree of the stations with it
  pub record Renewed (before after : List K) (ss : List Station) (k : ℕ) (r : Result (Unit {0}) Misfit) : Type 0 where
    pub refuses : result_err r ≡ station_refusal (length ss) (length before) k
    pub tree : result_err r ≡ None → (old : List Station) (s : Station) → ss ≡ slice_set old k s → Lawful s → SegmentTree G before old → SegmentTree G after ss
    -- whatever the nodes were, only those above station k are written
    pub beside : (i : ℕ) (d : K) → (Above i (length before / 2 + k) → ⊥) → slice_index_or after i d ≡ slice_index_or before i d
    pub untouched : is_some (result_err r) ≡ true → after ≡ before

  -- a range answers its stations joined nose to tail
  pub record Ranged (nodes : List K) (n from to : ℕ) (r : Result K Misfit) : Type 0 where
    pub refuses : result_err r ≡ range_refusal n (length nodes) from to
    pub reads : (v : K) → r ≡ Ok v → (ss : List Station) → length ss ≡ n → SegmentTree G nodes ss → (G.reading v ≡ part G from (to - from) ss) × G.stands v (to - from)

module _ {K R : Type 0} (G : Ghosts K R) (meets : R → Bool) where
  -- the least station k such that stations 0 to k, joined, meet the test, or none
  abbrev pub FirstMet : List Station → Option ℕ → Type 0
  FirstMet ss None = (k : ℕ) → k < length ss → meets (part G 0 (k + 1) ss) ≡ false
  FirstMet ss (Some k) = (k < length ss) × (meets (part G 0 (k + 1) ss) ≡ true) × ((j : ℕ) → j < k → meets (part G 0 (j + 1) ss) ≡ false)

  pub record Found (nodes : List K) (n : ℕ) (r : Result (Option ℕ) Misfit) : Type 0 where
    pub refuses : result_err r ≡ memory_refusal n (length nodes)
    pub first : (o : Option ℕ) → r ≡ Ok o → (ss : List Station) → length ss ≡ n → AllLawful ss → SegmentTree G nodes ss → FirstMet ss o
