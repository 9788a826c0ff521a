-- The heaviest station of a range, the first of equals.
use Rattle.std.specs.Prelude.{ℕ, Bool, false, cond, Some, None, Option, nat_le, nat_lt}
use Rattle.book.specs.declared.station.Station.{Station}
use Rattle.own_kind.specs.declared.heaviest.Heaviest.{Heaviest}
use Rattle.own_kind.specs.declared.heaviest.Heavy.{Heavy}

abbrev pub no_heaviest : Heaviest
no_heaviest = record { at = None }

abbrev pub one_heaviest : ℕ → Station → Heaviest
one_heaviest n s = record { at = Some (record { station = n; mass = s.mass }) }

-- of two stations the heavier, and the forward one where they are equal
abbrev pub picked : Heavy → Heavy → Heavy
picked x y = cond (nat_lt x.mass y.mass) y x

abbrev pub either : Option Heavy → Option Heavy → Option Heavy
either None y = y
either (Some x) None = Some x
either (Some x) (Some y) = Some (picked x y)

abbrev pub heavier : Heaviest → Heaviest → Heaviest
heavier x y = record { at = either x.at y.at }

-- there is a station, and it carries at least kg
abbrev pub holds : ℕ → Option Heavy → Bool
holds kg None = false
holds kg (Some x) = nat_le kg x.mass
