-- Sums that are held within 64 bits, where nothing has to be held back.
use Rattle.std.specs.Prelude.{◌≡◌, ℤ, pos, negsuc, ◌≤ℤ◌}
use Rattle.std.proofs.Common.{arith}
use Rattle.std.specs.Int.{saturate_to_bits}
use Rattle.std.proofs.lemmas.Int.{ints}

-- far from the ends of 64 bits
pub record Near (z : ℤ) : Type 0 where
  pub low : negsuc 999999999999 ≤ℤ z
  pub high : z ≤ℤ pos 1000000000000

pub held : (z : ℤ) → Near z → saturate_to_bits 63 z ≡ z
held z near = let l = near.low in let h = near.high in grind (arith, ints)
