-- How large a number is, for products that must not overflow.
use Rattle.std.specs.Prelude.{ℕ, ℤ, pos, neg_ℤ, ◌≤ℤ◌}

-- z is at most b either way
abbrev pub Span : ℤ → ℕ → Type 0
Span z b = (neg_ℤ (pos b) ≤ℤ z) × (z ≤ℤ pos b)
