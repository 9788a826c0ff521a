-- Running load: the total and the least margins, of which either may be absent.
use Rattle.std.specs.Prelude.{ℕ, ◌*◌, ℤ, pos, ◌+ℤ◌, ◌-ℤ◌, neg_ℤ, ◌≤ℤ◌, Some, None, Option}
use Rattle.std.specs.Int.{int_min, saturate_to_bits}
use Rattle.book.specs.declared.station.Station.{Station}
use Rattle.kinds.specs.declared.running_load.RunningLoad.{RunningLoad}

-- the lesser of two margins
abbrev pub least_of : Option ℤ → Option ℤ → Option ℤ
least_of None y = y
least_of (Some x) None = Some x
least_of (Some x) (Some y) = Some (int_min x y)

-- a margin with a load taken off
abbrev pub taken : Option ℤ → ℤ → Option ℤ
taken None t = None
taken (Some m) t = Some (m -ℤ t)

-- the same, held within 64 bits
abbrev pub sunk : Option ℤ → ℤ → Option ℤ
sunk None t = None
sunk (Some m) t = Some (saturate_to_bits 63 (m -ℤ t))

-- what a limit leaves over a mass
abbrev pub left_of : Option ℕ → ℕ → Option ℤ
left_of None m = None
left_of (Some n) m = Some (pos n -ℤ pos m)

abbrev pub no_load : RunningLoad
no_load = record { total = pos 0; fore = None; aft = None }

abbrev pub one_load : Station → RunningLoad
one_load s = record { total = pos s.mass; fore = left_of s.fore s.mass; aft = left_of s.aft s.mass }

-- the other half's total comes off the aft half's fore margin and off the forward half's aft margin, and then the least is taken
abbrev pub both_loads : RunningLoad → RunningLoad → RunningLoad
both_loads x y = record {
  total = x.total +ℤ y.total;
  fore = least_of x.fore (taken y.fore x.total);
  aft = least_of (taken x.aft y.total) y.aft;
}

-- the same, held within 64 bits
abbrev pub held_loads : RunningLoad → RunningLoad → RunningLoad
held_loads x y = record {
  total = saturate_to_bits 63 (x.total +ℤ y.total);
  fore = least_of x.fore (sunk y.fore x.total);
  aft = least_of (sunk x.aft y.total) y.aft;
}

-- a margin over at most k lawful stations
abbrev pub Margin : Option ℤ → ℕ → Type 0
Margin None k = Unit {0}
Margin (Some m) k = (neg_ℤ (pos (30000 * k)) ≤ℤ m) × (m ≤ℤ pos 10000000)

-- x may come of k lawful stations
pub record Bounded (x : RunningLoad) (k : ℕ) : Type 0 where
  pub total_low : pos 0 ≤ℤ x.total
  pub total_high : x.total ≤ℤ pos (30000 * k)
  pub fore_in : Margin x.fore k
  pub aft_in : Margin x.aft k
