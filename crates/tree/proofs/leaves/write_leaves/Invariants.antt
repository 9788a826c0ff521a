use Rattle.std.proofs.Common.{ℕ, ◌<◌, ◌≤◌, length, get_or}
use Rattle.kinds.specs.Folds.{AllLawful}
use Rattle.tree.specs.Under.{Over}
use Rattle.tree.proofs.leaves.write_leaves.Given as goal

abbrev pub invariant-loop-k : goal.invariant-loop-k
invariant-loop-k g l =
    AllLawful l.stations → length l.stations ≤ 256 → (k : ℕ) → k < l.k → (d : g.row.K.Denot) → Over g.K.Kind (get_or l.leaves k d) k 1 l.stations
