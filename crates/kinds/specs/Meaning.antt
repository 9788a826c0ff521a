-- What every delivered kind's summary of stations means, for every list of stations and every start number.
use Rattle.std.specs.Prelude.{◌≡◌, ℕ, List, pos}
use Rattle.book.specs.declared.station.Station.{Station}
use Rattle.book.specs.Sums.{mass_of, moment_of}
use Rattle.kinds.specs.declared.floor_record.FloorRecord.{FloorRecord}
use Rattle.kinds.specs.declared.mass_moment.MassMoment.{MassMoment}
use Rattle.kinds.specs.declared.running_load.RunningLoad.{RunningLoad}
use Rattle.kinds.specs.Direct.{fore_margin, aft_margin, IsLeast, IsFirstOver, Summary}
use Rattle.kinds.specs.Floors.{no_floor, one_floor, both_floors}
use Rattle.kinds.specs.Folds.{read_at}
use Rattle.kinds.specs.Houses.{house_at}
use Rattle.kinds.specs.Loads.{no_load, one_load, both_loads}
use Rattle.kinds.specs.Moments.{no_moment, one_moment, both_moments}

-- stations numbered from n on, joined nose to tail
abbrev pub moments_at : ℕ → List Station → MassMoment
moments_at n ss = read_at no_moment (λ _ s. one_moment s) both_moments n ss

abbrev pub loads_at : ℕ → List Station → RunningLoad
loads_at n ss = read_at no_load (λ _ s. one_load s) both_loads n ss

abbrev pub floors_at : ℕ → List Station → FloorRecord
floors_at n ss = read_at no_floor one_floor both_floors n ss

pub record KindsMean : Type 0 where
  pub masses : (n : ℕ) (ss : List Station) → (moments_at n ss).mass ≡ pos (mass_of ss)
  pub moments : (n : ℕ) (ss : List Station) → (moments_at n ss).moment ≡ moment_of ss
  pub totals : (n : ℕ) (ss : List Station) → (loads_at n ss).total ≡ pos (mass_of ss)
  pub fores : (n : ℕ) (ss : List Station) → IsLeast fore_margin ss (loads_at n ss).fore
  pub afts : (n : ℕ) (ss : List Station) → IsLeast aft_margin ss (loads_at n ss).aft
  pub floors : (n : ℕ) (ss : List Station) → IsFirstOver n ss (floors_at n ss).first
  pub houses : (n : ℕ) (ss : List Station) → Summary n ss (house_at n ss)
