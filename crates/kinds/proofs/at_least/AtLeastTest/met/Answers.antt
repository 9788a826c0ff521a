use Rattle.std.proofs.Common.{arith}
use Rattle.std.proofs.lemmas.Int.{ints}
use Rattle.kinds.proofs.Asking.{mass_low}
use Rattle.kinds.proofs.at_least.AtLeastTest.met.Goals as goal

pub returns-clause-keeps : goal.returns-clause-keeps
returns-clause-keeps c m n xs ys lx ly t = let low = mass_low n ys in grind (arith, ints)
