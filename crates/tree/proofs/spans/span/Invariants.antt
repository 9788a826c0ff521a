use Rattle.std.proofs.Common.{ℕ, ◌*◌, ◌≤◌, List, length}
use Rattle.book.specs.declared.station.Station.{Station}
use Rattle.tree.specs.Under.{Whole}
use Rattle.tree.proofs.Walks.{Walk}
use Rattle.tree.proofs.spans.span.Given as goal

abbrev pub invariant-loop-l : goal.invariant-loop-l
invariant-loop-l g l =
    (l.l ≤ l.r) × (l.r ≤ 2 * l.w)
    × ((ss : List Station) → length ss ≤ 256 → Whole g.K.Kind l.nodes l.w ss → (h : ℕ) × Walk g.K.Kind l.w ss l.from l.to h l.l l.r l.fore l.aft)

abbrev pub decreases-loop-l : goal.decreases-loop-l
decreases-loop-l g l = l.r
