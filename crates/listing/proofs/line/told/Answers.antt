-- What `split_once` says of its parts, at the character `#`.
use Rattle.std.proofs.Common.{arith, rules}
use Rattle.std.proofs.lemmas.Str.Pattern.{split_parts}
use Rattle.listing.proofs.line.told.Goals as goal

pub returns-clause-bare : goal.returns-clause-bare
returns-clause-bare c =
    let parts = split_parts 35 c.args.line.now c.split_once.result c.split_once.ensures.cases (omega arith) in
    search (rules, parts)
