use Rattle.std.proofs.Common.{arith}
use Rattle.std.proofs.lemmas.Int.{ints, to_z-of_z}
use Rattle.book.proofs.basic.Basic.keeps_tip.Goals as goal

pub returns-clause-means : goal.returns-clause-means
returns-clause-means c = grind (arith, ints, to_z-of_z, c.at_most.ensures.value, c.product.ensures.value, c.from.ensures, c.from-2.ensures)
