use Rattle.tree.proofs.Widening.{widths_are_least}
use Rattle.tree.proofs.widths.nodes_for.Goals as goal

pub returns-clause-least : goal.returns-clause-least
returns-clause-least c = widths_are_least
