use Rattle.std.proofs.Common.{◌≡◌, ◌^◌, ℤ, ◌*ℤ◌, arith, w32, w64, SFits, rules}
use mir.Syntax.{w128}
use Rattle.std.proofs.lemmas.Int.{ints, to_z-of_z}
use Rattle.book.specs.Spans.{Span}
use Rattle.book.proofs.Products.{span_mul, tip_fits}
use Rattle.judging.proofs.bending.at_frame.Goals as goal

arm_span : (a : ℤ) → SFits w32 a → Span a (2 ^ 31)
arm_span a f = (omega (arith, ints), omega (arith, ints))

mass_span : (m : ℤ) → SFits w64 m → Span m (2 ^ 63)
mass_span m f = (omega (arith, ints), omega (arith, ints))

pub returns-clause-small : goal.returns-clause-small
returns-clause-small c =
    let x = c.args.frame.now.arm in
    let m = c.args.load.now.mass in
    let f : SFits w32 x = search rules in
    let g : SFits w64 m = search rules in
    let is-x : c.from.result ≡ x = search rules in
    let is-m : c.from-2.result ≡ m = search rules in
    let f' : SFits w128 c.from.result = search rules in
    let g' : SFits w128 c.from-2.result = search rules in
    let p : SFits w128 (c.from.result *ℤ c.from-2.result) = rw (is-x, is-m) (tip_fits x m f g) in
    simp to_z-of_z (rw (is-x, is-m) (span_mul x m (2 ^ 31) (2 ^ 63) (arm_span x f) (mass_span m g)))
