-- House summary: one of each of the three.
use Rattle.std.specs.Prelude.{ℕ, List}
use Rattle.book.specs.declared.station.Station.{Station}
use Rattle.kinds.specs.declared.house.House.{House}
use Rattle.kinds.specs.Floors.{no_floor, one_floor, both_floors}
use Rattle.kinds.specs.Folds.{read_at}
use Rattle.kinds.specs.Loads.{no_load, one_load, both_loads, held_loads, Bounded}
use Rattle.kinds.specs.Moments.{no_moment, one_moment, both_moments, held_moments, Within}

abbrev pub no_house : House
no_house = record { moments = no_moment; load = no_load; floors = no_floor }

abbrev pub one_house : ℕ → Station → House
one_house n s = record { moments = one_moment s; load = one_load s; floors = one_floor n s }

abbrev pub both_houses : House → House → House
both_houses x y = record {
  moments = both_moments x.moments y.moments;
  load = both_loads x.load y.load;
  floors = both_floors x.floors y.floors;
}

-- the same, held within 64 bits
abbrev pub held_houses : House → House → House
held_houses x y = record {
  moments = held_moments x.moments y.moments;
  load = held_loads x.load y.load;
  floors = both_floors x.floors y.floors;
}

-- x may come of k lawful stations
pub record Sound (x : House) (k : ℕ) : Type 0 where
  pub moments_in : Within x.moments k
  pub load_in : Bounded x.load k

-- the house reading of stations numbered from n on
abbrev pub house_at : ℕ → List Station → House
house_at n ss = read_at no_house one_house both_houses n ss
