use Rattle.std.proofs.Common.{◌^◌, ◌*ℤ◌, SFits}
use mir.Syntax.{w128}
use Rattle.std.proofs.lemmas.Int.{to_z-of_z}
use Rattle.book.specs.Spans.{Span}
use Rattle.book.proofs.Products.{span_mul, fits, wider}
use Rattle.book.proofs.turn.product.Goals as goal

pub returns : goal.returns
returns c =
    let f : SFits w128 c.args.x = c.ranges.x in
    let g : SFits w128 c.args.y = c.ranges.y in
    let s : Span (c.args.x *ℤ c.args.y) (2 ^ 102) = span_mul c.args.x c.args.y (2 ^ 36) (2 ^ 66) c.requires.0 c.requires.1 in
    let h : SFits w128 (c.args.x *ℤ c.args.y) = fits (c.args.x *ℤ c.args.y) (wider _ s) in
    record { value = simp to_z-of_z; small = simp to_z-of_z s }
