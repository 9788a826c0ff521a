use Rattle.std.proofs.Common.{◌≡◌, ℕ, Bool, true, false, length, rules, tests, arith}
use Rattle.std.proofs.lemmas.Iterator.{cases_from_all, YieldsList-from_range}
use Rattle.book.specs.Polygons.{every, left_of}
use Rattle.book.proofs.Everys.{every_of_all}
use Rattle.book.proofs.corners.Corners.are_convex.Goals as goal

pub returns : goal.returns
returns c =
    let vs = c.args.self.now.vertices.now in
    let p : ℕ → Bool = λ i. every (length vs) (left_of vs i) in
    every_of_all p (length vs) _
    (cases_from_all _ _ _ (λ k. p k ≡ true) (λ k. p k ≡ false) c.all.ensures.ran
    (YieldsList-from_range 0 (length vs) (length vs) (cc) (omega arith))
    (λ x q k. search (rules, tests)) (λ x q k. search (rules, tests)))
