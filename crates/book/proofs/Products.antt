-- How large a product can be.
use Rattle.std.proofs.Common.{ℕ, ◌-◌, ◌*◌, ◌^◌, ◌<◌, ◌≤◌, ℤ, pos, negsuc, ◌-ℤ◌, ◌*ℤ◌, nat_abs, sym, subst, mul-le-mul, arith, w32, w64, SFits}
use mir.Syntax.{w128}
use Rattle.std.proofs.lemmas.Int.{unsigned_abs-mul, fits_signed_mul, ints}
use Rattle.book.specs.Spans.{Span}

size : (z : ℤ) (b : ℕ) → Span z b → nat_abs z ≤ b
size (pos n) b s = omega (arith, ints, s.1)
size (negsuc n) b s = omega (arith, ints, s.0)

span : (z : ℤ) (b : ℕ) → nat_abs z ≤ b → Span z b
span (pos n) b h = (omega (arith, ints), omega (arith, ints))
span (negsuc n) b h = (omega (arith, ints), omega (arith, ints))

pub span_mul : (x y : ℤ) (a b : ℕ) → Span x a → Span y b → Span (x *ℤ y) (a * b)
span_mul x y a b p q =
    let h : nat_abs x * nat_abs y ≤ a * b = mul-le-mul (size x a p) (size y b q) in
    span (x *ℤ y) (a * b) (subst (λ (n : ℕ). n ≤ a * b) (sym (unsigned_abs-mul x y)) h)

pub fits : (z : ℤ) → Span z (2 ^ 103) → SFits w128 z
fits (pos n) s = record { sfits = omega (arith, ints, s.1) }
fits (negsuc n) s = record { sfits = omega (arith, ints, s.0) }

pub wider : (z : ℤ) → Span z (2 ^ 102) → Span z (2 ^ 103)
wider z s = (omega (arith, ints, s.0), omega (arith, ints, s.1))

pub apart : (a b : ℤ) → Span a (2 ^ 102) → Span b (2 ^ 102) → Span (a -ℤ b) (2 ^ 103)
apart a b s t = (omega (arith, ints, s.0, s.1, t.0, t.1), omega (arith, ints, s.0, s.1, t.0, t.1))

span_mass : (m b : ℕ) → m ≤ b → Span (pos m) b
span_mass m b h = (omega (arith, ints), omega (arith, ints))

span_arm : (a : ℤ) → SFits w32 a → Span a (2 ^ 31)
span_arm a f = (omega (arith, ints), omega (arith, ints))

-- any arm times any station's mass
pub moment_fits : (m : ℕ) (a : ℤ) → m < 2 ^ 32 → SFits w32 a → SFits w64 (pos m *ℤ a)
moment_fits m a h f = fits_signed_mul w64 (pos m) a (2 ^ 32 - 1) (2 ^ 31) (omega arith) (size a (2 ^ 31) (span_arm a f)) (omega arith)

-- any arm times any total mass
span_total : (m : ℤ) → SFits w64 m → Span m (2 ^ 63)
span_total m f = (omega (arith, ints), omega (arith, ints))

pub tip_fits : (a m : ℤ) → SFits w32 a → SFits w64 m → SFits w128 (a *ℤ m)
tip_fits a m f g = fits_signed_mul w128 a m (2 ^ 31) (2 ^ 63) (size a (2 ^ 31) (span_arm a f)) (size m (2 ^ 63) (span_total m g)) (omega arith)

-- a lawful station's moment
pub span_moment : (m : ℕ) (a : ℤ) → m ≤ 30000 → Span a 8000 → Span (pos m *ℤ a) 240000000
span_moment m a h s = span_mul (pos m) a 30000 8000 (span_mass m 30000 h) s
