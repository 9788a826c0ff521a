use Rattle.std.proofs.Common.{◌≡◌, ℕ, ◌+◌, ◌*◌, ◌<◌, ◌≤◌, List, length, get_or}
use Rattle.book.specs.declared.station.Station.{Station}
use Rattle.tree.specs.Trees.{Above}
use Rattle.tree.specs.Under.{RightBeside}
use Rattle.tree.proofs.inner.renew_above.Given as goal

-- the nodes that are not above i are as they should be, and only such that are above the first have been written
abbrev pub invariant-loop-i : goal.invariant-loop-i
invariant-loop-i g l =
    (2 * l.i + 1 < length l.nodes)
    × ((j : ℕ) → Above j l.i → Above j l.initial.i)
    × ((j : ℕ) (d : g.row.K.Denot) → (Above j l.initial.i → ⊥) → get_or l.nodes j d ≡ get_or l.initial.nodes j d)
    × ((w : ℕ) (ss : List Station) → length l.nodes ≡ 2 * w → length ss ≤ 256 → RightBeside g.K.Kind l.initial.i l.initial.nodes w ss → RightBeside g.K.Kind l.i l.nodes w ss)

abbrev pub decreases-loop-i : goal.decreases-loop-i
decreases-loop-i g l = l.i
