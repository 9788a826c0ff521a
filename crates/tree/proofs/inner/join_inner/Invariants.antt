use Rattle.std.proofs.Common.{◌≡◌, ℕ, ◌+◌, ◌<◌, ◌≤◌, List, length, get_or}
use Rattle.book.specs.declared.station.Station.{Station}
use Rattle.tree.specs.Under.{Over, Right}
use Rattle.tree.proofs.inner.join_inner.Given as goal

-- the nodes from i on are over the stations under them
abbrev pub invariant-loop-i : goal.invariant-loop-i
invariant-loop-i g l =
    ((d : g.row.K.Denot) → get_or l.nodes 0 d ≡ get_or l.initial.nodes 0 d)
    × ((ss : List Station) → length ss ≤ 256 → ((k : ℕ) (d : g.row.K.Denot) → k < l.w → Over g.K.Kind (get_or l.initial.nodes (l.w + k) d) k 1 ss)
    → Right g.K.Kind (λ j. l.i ≤ j) l.nodes l.w ss)
