use Rattle.std.proofs.Common.{◌≡◌, length, take, reverse, arith, rules}
use lib.Signed.{lt_z}
use borrow.Author.Tests.{tests}
use Rattle.std.specs.List.{prefix_len}
use Rattle.std.proofs.lemmas.Iterator.Adapters.{YieldsList-from_rev_slice}
use Rattle.std.proofs.lemmas.Iterator.Consumers.{YieldsList-at, count_from_yields_List}
use Rattle.std.proofs.lemmas.Iterator.Search.{YieldsList-from_take_while}
use Rattle.std.proofs.lemmas.List.Folds.{length-prefix_len}
use Rattle.book.specs.declared.station.Station.{Station}
use Rattle.judging.proofs.sides.aft_begins.Goals as goal

pub returns : goal.returns
returns c =
    let ss = c.args.stations.now in
    let test = λ (s : Station). lt_z c.args.frame.now.arm s.arm in
    let n : c.count-aft.result ≡ length (take (prefix_len test (reverse ss)) (reverse ss)) =
    count_from_yields_List c.take_while.result _ c.count-aft.ensures.ran
    (YieldsList-from_take_while _ test (YieldsList-at c.take_while.ensures.source (YieldsList-from_rev_slice ss cc)) c.take_while.ensures.closure c.take_while.ensures.done (λ x b q k. search (rules, tests))) in
    omega (arith, n, length-prefix_len test (reverse ss))
