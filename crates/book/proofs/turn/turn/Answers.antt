use Rattle.std.proofs.Common.{◌≡◌, ◌^◌, ℤ, ◌-ℤ◌, arith, w64, SFits, to_z, of_z, rules}
use mir.Syntax.{w128}
use Rattle.std.proofs.lemmas.Int.{ints, to_z-of_z}
use Rattle.book.specs.Spans.{Span}
use Rattle.book.specs.Envelopes.{InLimits}
use Rattle.book.specs.declared.vertex.Vertex.{Vertex}
use Rattle.book.proofs.Bounds.{in_limits}
use Rattle.book.proofs.Products.{fits, wider, apart}
use Rattle.book.proofs.turn.turn.Goals as goal

near_masses : (a b : Vertex) (z : ℤ) → z ≡ to_z w64 (of_z w64 b.mass) -ℤ to_z w64 (of_z w64 a.mass) → InLimits a → InLimits b → Span z (2 ^ 36)
near_masses a b z e s t = (omega (arith, ints), omega (arith, ints))

near_moments : (a b : Vertex) (z : ℤ) → z ≡ to_z w64 (of_z w64 b.moment) -ℤ to_z w64 (of_z w64 a.moment) → InLimits a → InLimits b → Span z (2 ^ 36)
near_moments a b z e s t = (omega (arith, ints), omega (arith, ints))

pub product-requires : goal.product-requires
product-requires c =
    let f : SFits w128 c.past.result = record { sfits = c.past.type_inv } in
    let g : SFits w128 c.past-2.result = record { sfits = c.past-2.type_inv } in
    simp to_z-of_z (near_masses c.args.a.now c.args.b.now c.past.result c.past.ensures.value (in_limits _ c.requires.0) (in_limits _ c.requires.1), c.past-2.ensures.small)

pub product-requires-2 : goal.product-requires-2
product-requires-2 c =
    let f : SFits w128 c.past-3.result = record { sfits = c.past-3.type_inv } in
    let g : SFits w128 c.past-4.result = record { sfits = c.past-4.type_inv } in
    simp to_z-of_z (near_moments c.args.a.now c.args.b.now c.past-3.result c.past-3.ensures.value (in_limits _ c.requires.0) (in_limits _ c.requires.1), c.past-4.ensures.small)

pub overflow_sub-result : goal.overflow_sub-result
overflow_sub-result c =
    let r = c.product.result in
    let s = c.product-2.result in
    let f : SFits w128 r = fits r (wider r c.product.ensures.small) in
    let g : SFits w128 s = fits s (wider s c.product-2.ensures.small) in
    simp to_z-of_z (fits (r -ℤ s) (apart r s c.product.ensures.small c.product-2.ensures.small))

pub returns : goal.returns
returns c =
    let a = c.args.a.now in
    let b = c.args.b.now in
    let p = c.args.p.now in
    let r = c.product.result in
    let s = c.product-2.result in
    let f : SFits w128 r = fits r (wider r c.product.ensures.small) in
    let g : SFits w128 s = fits s (wider s c.product-2.ensures.small) in
    let d : SFits w128 (r -ℤ s) = fits (r -ℤ s) (apart r s c.product.ensures.small c.product-2.ensures.small) in
    let fx : SFits w128 c.past.result = record { sfits = c.past.type_inv } in
    let fy : SFits w128 c.past-2.result = record { sfits = c.past-2.type_inv } in
    let fz : SFits w128 c.past-3.result = record { sfits = c.past-3.type_inv } in
    let fw : SFits w128 c.past-4.result = record { sfits = c.past-4.type_inv } in
    let fam : SFits w64 a.mass = search rules in
    let fao : SFits w64 a.moment = search rules in
    let fbm : SFits w64 b.mass = search rules in
    let fbo : SFits w64 b.moment = search rules in
    let fpm : SFits w64 p.mass = search rules in
    let fpo : SFits w64 p.moment = search rules in
    let ex = simp to_z-of_z at c.past.ensures.value in
    let ey = simp to_z-of_z at c.past-2.ensures.value in
    let ez = simp to_z-of_z at c.past-3.ensures.value in
    let ew = simp to_z-of_z at c.past-4.ensures.value in
    let e = simp to_z-of_z at c.product.ensures.value in
    let h = simp to_z-of_z at c.product-2.ensures.value in
    simp to_z-of_z (cc)
