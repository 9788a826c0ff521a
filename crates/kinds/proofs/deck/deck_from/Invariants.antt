use Rattle.std.proofs.Common.{max}
use Rattle.kinds.specs.Folds.{JoinedFrom}
use Rattle.kinds.proofs.deck.deck_from.Given as goal

abbrev pub invariant-loop-i : goal.invariant-loop-i
invariant-loop-i g l = JoinedFrom g.K.Kind l.stations (max l.from l.i) l.summary
