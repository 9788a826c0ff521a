use Rattle.std.proofs.Common.{◌≡◌, ℕ, ◌-◌, ◌*◌, ◌^◌, ◌<◌, ◌≤◌, List, length}
use Rattle.book.specs.declared.station.Station.{Station}
use Rattle.tree.specs.Under.{Whole}
use Rattle.tree.proofs.Descents.{Down}
use Rattle.tree.proofs.descent.descend.Given as goal

abbrev pub invariant-loop-i : goal.invariant-loop-i
invariant-loop-i g l =
    (0 < l.i) × (l.i < 2 * l.w)
    × ((ss : List Station) (height : ℕ) → length ss ≤ 256 → l.w ≡ 2 ^ height → Whole g.T.Of.Kind l.nodes l.w ss
    → (h : ℕ) × Down g.T.Of.Kind (g.T.Test.meets l.test) l.w ss h l.i l.before)

abbrev pub decreases-loop-i : goal.decreases-loop-i
decreases-loop-i g l = l.w - l.i
