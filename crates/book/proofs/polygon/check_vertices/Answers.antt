use Rattle.std.proofs.Common.{rules, sym, ◌∙◌}
use Rattle.book.specs.Fields.{vertex_in}
use Rattle.book.specs.Polygons.{origin}
use Rattle.book.specs.declared.fault.BookFault.TheVariants.{VertexField}
use Rattle.book.proofs.Firsts.{all_pass}
use Rattle.book.proofs.Shapes.{answered, unmapped}
use Rattle.book.proofs.polygon.check_vertices.Goals as goal

pub invariant_of-are_convex : goal.invariant_of-are_convex
invariant_of-are_convex c =
    let e = answered _ _ _ (sym (c.in_ok-check_each.was) ∙ c.check_each.ensures.value vertex_in VertexField (λ x r k. search rules) (λ k f h. search rules)) in
    record { all_in = λ i l. all_pass vertex_in 0 c.args.given.now (unmapped VertexField _ e) i origin l }
