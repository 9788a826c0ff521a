use Rattle.std.proofs.Common.{rules}
use Rattle.listing.proofs.arm.ArmDisplay.fmt.Goals as goal

pub returns-in-Ahead-clause-writes : goal.returns-in-Ahead-clause-writes
returns-in-Ahead-clause-writes g c = rw c.in-Ahead.is (search rules)
