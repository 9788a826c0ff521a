use Rattle.std.proofs.Common.{◌≡◌, ℕ, List, Bor, Option}
use Rattle.std.specs.Iterator.{AlwaysYields}
use Rattle.std.specs.Iterator.Adapters.{enumerate_source, enumerate_count}
use Rattle.book.specs.declared.station.Station.{Station}
use Rattle.judging.proofs.Scanning.{OnWay}
use Rattle.judging.proofs.running.first_past.Given as goal

abbrev pub invariant-loop-passed : goal.invariant-loop-passed
invariant-loop-passed g l = record {
  can : (goal.iterator-loop-passed g).can_next l.passed-iterator;
  finite : (goal.iterator-loop-passed g).is_finite l.passed-iterator;
  on : (limit : Station → Option ℕ) (ss : List Station) → AlwaysYields g.W.Iterator.next_gives (λ x. x.now) l.fn.way ss → ((x : Bor Station) (m : Option ℕ) → g.L.Fn.post l.limit (x, tt) m → m ≡ limit x.now) → OnWay g.W.Iterator.next_gives limit ss (enumerate_count l.passed-iterator) l.carried (enumerate_source l.passed-iterator);
}
