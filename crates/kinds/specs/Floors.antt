-- Floor record: the first station over its floor limit.
use Rattle.std.specs.Prelude.{ℕ, ◌-◌, cond, Some, None, nat_lt}
use Rattle.std.specs.Option.{option_or}
use Rattle.book.specs.declared.station.Station.{Station}
use Rattle.kinds.specs.declared.floor_record.FloorRecord.{FloorRecord}

abbrev pub no_floor : FloorRecord
no_floor = record { first = None }

abbrev pub one_floor : ℕ → Station → FloorRecord
one_floor n s = record { first = cond (nat_lt s.floor s.mass) (Some (record { station = n; excess = s.mass - s.floor })) None }

-- the forward one, if there is one
abbrev pub both_floors : FloorRecord → FloorRecord → FloorRecord
both_floors x y = record { first = option_or x.first y.first }
