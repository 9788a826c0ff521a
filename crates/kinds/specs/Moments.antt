-- Mass and moment.
use Rattle.std.specs.Prelude.{ℕ, ◌*◌, pos, ◌+ℤ◌, ◌*ℤ◌, neg_ℤ, ◌≤ℤ◌}
use Rattle.std.specs.Int.{saturate_to_bits}
use Rattle.book.specs.declared.station.Station.{Station}
use Rattle.kinds.specs.declared.mass_moment.MassMoment.{MassMoment}

abbrev pub no_moment : MassMoment
no_moment = record { mass = pos 0; moment = pos 0 }

abbrev pub one_moment : Station → MassMoment
one_moment s = record { mass = pos s.mass; moment = pos s.mass *ℤ s.arm }

abbrev pub both_moments : MassMoment → MassMoment → MassMoment
both_moments x y = record { mass = x.mass +ℤ y.mass; moment = x.moment +ℤ y.moment }

-- the same, held within 64 bits
abbrev pub held_moments : MassMoment → MassMoment → MassMoment
held_moments x y = record { mass = saturate_to_bits 63 (x.mass +ℤ y.mass); moment = saturate_to_bits 63 (x.moment +ℤ y.moment) }

-- x may come of k lawful stations
pub record Within (x : MassMoment) (k : ℕ) : Type 0 where
  pub mass_low : pos 0 ≤ℤ x.mass
  pub mass_high : x.mass ≤ℤ pos (30000 * k)
  pub moment_low : neg_ℤ (pos (240000000 * k)) ≤ℤ x.moment
  pub moment_high : x.moment ≤ℤ pos (240000000 * k)
