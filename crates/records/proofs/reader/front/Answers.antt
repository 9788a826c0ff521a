use Rattle.std.proofs.Common.{rules, arith}
use Rattle.std.proofs.lemmas.Grind.{common_steps}
use Rattle.records.proofs.Exacts.{exact}
use Rattle.records.proofs.reader.front.Goals as goal

pub returns-in_default-clause-exactly : goal.returns-in_default-clause-exactly
returns-in_default-clause-exactly c = exact c.args.bytes.now c.args.at _ (λ i. (c.type_inv.bytes i).fits) (search rules)

pub returns-clause-exactly : goal.returns-clause-exactly
returns-clause-exactly c = exact c.args.bytes.now c.args.at _ (λ i. (c.type_inv.bytes i).fits) (grind (arith, common_steps))
