-- What the delivered tests ask.
use Rattle.std.specs.Prelude.{Bool, false, ℤ, pos, Some, None, Option, int_lt}

-- a margin is there, and below 0
abbrev pub below_zero : Option ℤ → Bool
below_zero None = false
below_zero (Some m) = int_lt m (pos 0)
