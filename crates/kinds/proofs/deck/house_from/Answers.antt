use Rattle.kinds.proofs.Rows.{kinds_mean}
use Rattle.kinds.proofs.deck.house_from.Goals as goal

pub returns-clause-always : goal.returns-clause-always
returns-clause-always g c = kinds_mean
