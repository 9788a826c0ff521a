-- The limits of every field of a book.
use Rattle.std.specs.Prelude.{ℕ, ◌≤◌, Bool, true, ◌&&◌, ℤ, pos, neg_ℤ, ◌≤ℤ◌, Some, None, Option, int_le, nat_le, nat_lt}
use Rattle.book.specs.declared.basic.Basic.{Basic}
use Rattle.book.specs.declared.frame.Frame.{Frame}
use Rattle.book.specs.declared.station.Station.{Station}
use Rattle.book.specs.declared.vertex.Vertex.{Vertex}
use Rattle.book.specs.declared.zone.Zone.{Zone}

-- z lies within `most` of 0
abbrev pub span_in : ℕ → ℤ → Bool
span_in most z = int_le (neg_ℤ (pos most)) z && int_le z (pos most)

abbrev pub arm_in : ℤ → Bool
arm_in arm = span_in 8000 arm

-- a limit is absent, or at most ten million
abbrev pub limit_in : Option ℕ → Bool
limit_in None = true
limit_in (Some kg) = nat_le kg 10000000

abbrev pub station_in : Station → Bool
station_in s = arm_in s.arm && nat_le s.floor 30000 && limit_in s.fore && limit_in s.aft && nat_le s.mass 30000

abbrev pub basic_in : Basic → Bool
basic_in b = nat_le b.mass 500000 && span_in 4000000000 b.moment && arm_in b.tip_arm && nat_le b.allowance 100000

-- a zone of at least one station on a deck of n
abbrev pub zone_in : ℕ → Zone → Bool
zone_in n z = nat_lt z.from z.to && nat_le z.to n && nat_le z.limit 10000000

abbrev pub frame_in : Frame → Bool
frame_in f = arm_in f.arm && nat_le f.limit 1000000000000

abbrev pub vertex_in : Vertex → Bool
vertex_in v = int_le (pos 0) v.mass && int_le v.mass (pos 1000000) && span_in 10000000000 v.moment

abbrev pub Limit : Option ℕ → Type 0
Limit None = Unit {0}
Limit (Some kg) = kg ≤ 10000000

-- a station whose fields all lie in their limits
pub record Lawful (s : Station) : Type 0 where
  pub arm_low : neg_ℤ (pos 8000) ≤ℤ s.arm
  pub arm_high : s.arm ≤ℤ pos 8000
  pub floor_high : s.floor ≤ 30000
  pub fore_high : Limit s.fore
  pub aft_high : Limit s.aft
  pub mass_high : s.mass ≤ 30000
