-- Here and in the two beside it the library's lemmas on `all` and on a range are applied: what a shared one would be given
-- is as long.
use Rattle.std.proofs.Common.{◌≡◌, true, false, length, rules, tests, arith}
use Rattle.std.proofs.lemmas.Iterator.{cases_from_all, YieldsList-from_range}
use Rattle.book.specs.Polygons.{left_of}
use Rattle.book.proofs.Everys.{every_of_all}
use Rattle.book.proofs.corners.Corners.all_left.Goals as goal

pub returns : goal.returns
returns c =
    let vs = c.args.self.now.vertices.now in
    every_of_all (left_of vs c.args.i) (length vs) _
    (cases_from_all _ _ _ (λ k. left_of vs c.args.i k ≡ true) (λ k. left_of vs c.args.i k ≡ false) c.all.ensures.ran
    (YieldsList-from_range 0 (length vs) (length vs) (cc) (omega arith))
    (λ x q k. search (rules, tests)) (λ x q k. search (rules, tests)))
