-- What a summary of stations means, said of the stations themselves: sums, least margins, the first station over its floor.
use Rattle.std.specs.Prelude.{◌≡◌, ℕ, ◌+◌, ◌-◌, ◌<◌, ◌≤◌, List, ◌∷◌, ◌++◌, length, ℤ, pos, ◌≤ℤ◌, Some, None, Option}
use Rattle.std.specs.List.{AllByRecursion}
use Rattle.book.specs.declared.station.Station.{Station}
use Rattle.book.specs.Sums.{mass_of, moment_of}
use Rattle.kinds.specs.declared.floor_record.Over.{Over}
use Rattle.kinds.specs.declared.house.House.{House}
use Rattle.kinds.specs.Loads.{left_of}

-- a station's fore margin is its fore limit less the masses up to it, its aft margin its aft limit less those from it on; its own counts in both
abbrev pub fore_margin : List Station → Station → List Station → Option ℤ
fore_margin front s back = left_of s.fore (mass_of front + s.mass)

abbrev pub aft_margin : List Station → Station → List Station → Option ℤ
aft_margin front s back = left_of s.aft (s.mass + mass_of back)

-- a margin, where there is one, is at least m
abbrev pub Above : ℤ → Option ℤ → Type 0
Above m None = Unit {0}
Above m (Some v) = m ≤ℤ v

-- o is the least margin of the stations: absent where none has one, else some station's own and above no other's
abbrev pub IsLeast : (List Station → Station → List Station → Option ℤ) → List Station → Option ℤ → Type 0
IsLeast margin ss None = (front : List Station) (s : Station) (back : List Station) → ss ≡ front ++ (s ∷ back) → margin front s back ≡ None
IsLeast margin ss (Some m) =
    ((front : List Station) × (s : Station) × (back : List Station) × (ss ≡ front ++ (s ∷ back)) × (margin front s back ≡ Some m))
    × ((front : List Station) (s : Station) (back : List Station) → ss ≡ front ++ (s ∷ back) → Above m (margin front s back))

-- a station bears what stands on it
abbrev pub Borne : Station → Type 0
Borne s = s.mass ≤ s.floor

-- o is the first station over its floor limit, counted from n, with its excess: absent where every floor bears its load
abbrev pub IsFirstOver : ℕ → List Station → Option Over → Type 0
IsFirstOver n ss None = AllByRecursion Borne ss
IsFirstOver n ss (Some o) =
    (front : List Station) × (s : Station) × (back : List Station) × (ss ≡ front ++ (s ∷ back)) × AllByRecursion Borne front × (s.floor < s.mass)
    × (o.station ≡ n + length front) × (o.excess ≡ s.mass - s.floor)

-- h is the summary of the stations, numbered from n on
pub record Summary (n : ℕ) (ss : List Station) (h : House) : Type 0 where
  pub mass : h.moments.mass ≡ pos (mass_of ss)
  pub moment : h.moments.moment ≡ moment_of ss
  pub total : h.load.total ≡ pos (mass_of ss)
  pub fore : IsLeast fore_margin ss h.load.fore
  pub aft : IsLeast aft_margin ss h.load.aft
  pub floor : IsFirstOver n ss h.floors.first
