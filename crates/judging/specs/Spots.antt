-- Each station of a deck with what stands before it and aft of it.
use Rattle.std.specs.Prelude.{ℕ, suc, Bool, true, cond, List, [], ◌∷◌, ◌++◌, ℤ, pos, Some, None, Option, int_le, nat_le}
use Rattle.std.specs.Option.{option_or}
use Rattle.book.specs.declared.station.Station.{Station}
use Rattle.kinds.specs.Direct.{fore_margin, aft_margin}

pub record Spot : Type 0 where
  pub front : List Station
  pub here : Station
  pub back : List Station

abbrev pub spots_from : List Station → List Station → List Spot
spots_from front [] = []
spots_from front (s ∷ ss) = record { front = front; here = s; back = ss } ∷ spots_from (front ++ (s ∷ [])) ss

-- nose to tail
abbrev pub spots : List Station → List Spot
spots ss = spots_from [] ss

-- the last entry, counted from n, that does not pass the test
abbrev pub last_failing : {X : Type 0} → (X → Bool) → ℕ → List X → Option ℕ
last_failing test n [] = None
last_failing test n (x ∷ xs) = option_or (last_failing test (suc n) xs) (cond (test x) None (Some n))

abbrev pub margin_kept : Option ℤ → Bool
margin_kept None = true
margin_kept (Some m) = int_le (pos 0) m

-- the floor bears its load
abbrev pub floor_kept : Spot → Bool
floor_kept p = nat_le p.here.mass p.here.floor

-- the margins of the whole sheet
abbrev pub fore_kept : Spot → Bool
fore_kept p = margin_kept (fore_margin p.front p.here p.back)

abbrev pub aft_kept : Spot → Bool
aft_kept p = margin_kept (aft_margin p.front p.here p.back)
