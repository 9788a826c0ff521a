-- How the cargo on one side of a frame bends it.
use Rattle.std.specs.Prelude.{Bool, List, [], ◌∷◌, reverse, take_while, ℤ, pos, ◌+ℤ◌, ◌-ℤ◌, ◌*ℤ◌, int_le, int_lt}
use Rattle.book.specs.declared.station.Station.{Station}
use Rattle.book.specs.declared.frame.Frame.{Frame}
use Rattle.book.specs.declared.frame.Side.{Side}
use Rattle.book.specs.declared.frame.Side.TheVariants.{Fore, Aft}

-- the stations up to the first that does not pass the test: all, where each passes
abbrev pub front_while : (Station → Bool) → List Station → List Station
front_while test ss = take_while test ss

-- those after the last that does not pass it
abbrev pub back_while : (Station → Bool) → List Station → List Station
back_while test ss = reverse (front_while test (reverse ss))

-- mass times how far the station stands ahead of x, added up, and how far aft of it
abbrev pub moment_ahead : ℤ → List Station → ℤ
moment_ahead x [] = pos 0
moment_ahead x (s ∷ ss) = (pos s.mass *ℤ (x -ℤ s.arm)) +ℤ moment_ahead x ss

abbrev pub moment_behind : ℤ → List Station → ℤ
moment_behind x [] = pos 0
moment_behind x (s ∷ ss) = (pos s.mass *ℤ (s.arm -ℤ x)) +ℤ moment_behind x ss

-- fore: the stations before the first with arm x or more; aft: those after the last with arm x or less
abbrev pub side_bending : Side → ℤ → List Station → ℤ
side_bending Fore x ss = moment_ahead x (front_while (λ s. int_lt s.arm x) ss)
side_bending Aft x ss = moment_behind x (back_while (λ s. int_lt x s.arm) ss)

abbrev pub bending : Frame → List Station → ℤ
bending f ss = side_bending f.side f.arm ss

abbrev pub frame_kept : List Station → Frame → Bool
frame_kept ss f = int_le (bending f ss) (pos f.limit)
