-- Why a mass that is reached stays so: masses only add up.
use Rattle.std.proofs.Common.{◌≡◌, ℕ, suc, true, List, [], ◌∷◌, ℤ, pos, ◌+ℤ◌, ◌≤ℤ◌, arith}
use lib.Signed.{le_z}
use Rattle.std.proofs.lemmas.Int.{ints}
use Rattle.book.specs.declared.station.Station.{Station}
use Rattle.kinds.specs.Folds.{read_at}
use Rattle.kinds.specs.Moments.{no_moment, one_moment, both_moments}

abbrev mass_at : ℕ → List Station → ℤ
mass_at n ys = (read_at no_moment (λ _ s. one_moment s) both_moments n ys).mass

pub mass_low : (n : ℕ) (ys : List Station) → pos 0 ≤ℤ mass_at n ys
mass_low n [] = omega (arith, ints)
mass_low n (y ∷ ys) = let h = mass_low (suc n) ys in omega (arith, ints)

pub still : (a b c : ℤ) → pos 0 ≤ℤ c → le_z a b ≡ true → le_z a (b +ℤ c) ≡ true
still a b c h e = grind (arith, ints)
