use Rattle.std.proofs.Common.{◌≡◌, ℕ, Bool, true, false, length, pos, int_le, rules, tests, arith}
use Rattle.std.proofs.lemmas.Iterator.{cases_from_all, YieldsList-from_range}
use Rattle.book.specs.Polygons.{edge}
use Rattle.book.proofs.Everys.{every_of_all}
use Rattle.book.proofs.Shapes.{within_means}
use Rattle.book.proofs.corners.Corners.surround.Goals as goal

pub returns : goal.returns
returns c =
    let vs = c.args.self.now.vertices.now in
    let p : ℕ → Bool = λ i. int_le (pos 0) (edge vs i c.args.p.now) in
    let e = every_of_all p (length vs) c.all.result
    (cases_from_all _ _ _ (λ k. p k ≡ true) (λ k. p k ≡ false) c.all.ensures.ran
    (YieldsList-from_range 0 (length vs) (length vs) (cc) (omega arith))
    (λ x q k. search (rules, tests)) (λ x q k. search (rules, tests))) in
    record { value = e; means = within_means vs c.args.p.now e }
