-- Masses and moments as plain sums, and whether the aircraft stays on its wheels.
use Rattle.std.specs.Prelude.{ℕ, ◌+◌, Bool, List, [], ◌∷◌, ℤ, pos, ◌+ℤ◌, ◌*ℤ◌, ◌≤ℤ◌, int_le}
use Rattle.book.specs.declared.basic.Basic.{Basic}
use Rattle.book.specs.declared.station.Station.{Station}
use Rattle.book.specs.declared.totals.Totals.{Totals}

abbrev pub mass_of : List Station → ℕ
mass_of [] = 0
mass_of (s ∷ ss) = s.mass + mass_of ss

-- mass times arm, added up
abbrev pub moment_of : List Station → ℤ
moment_of [] = pos 0
moment_of (s ∷ ss) = (pos s.mass *ℤ s.arm) +ℤ moment_of ss

-- the basic record's and the stations' together
abbrev pub totals_of : Basic → List Station → Totals
totals_of b ss = record { mass = pos (b.mass + mass_of ss); moment = b.moment +ℤ moment_of ss }

abbrev pub tip_kept : Basic → Totals → Bool
tip_kept b t = int_le t.moment (b.tip_arm *ℤ t.mass)

-- the moment is at most the tip arm times the mass
abbrev pub TipKept : Basic → Totals → Type 0
TipKept b t = t.moment ≤ℤ (b.tip_arm *ℤ t.mass)
