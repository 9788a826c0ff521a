-- The steps of a judgement, in which the inner functions are stated.
use Rattle.std.specs.Prelude.{◌≡◌, ℕ, suc, ◌+◌, ◌-◌, ◌^◌, ◌<◌, min, Bool, cond, List, [], ◌∷◌, length, ℤ, pos, ◌+ℤ◌, ◌-ℤ◌, ◌*ℤ◌, Some, None, Option, int_le, int_lt, slice_index_or}
use Rattle.std.specs.Fn.{Shared}
use Rattle.std.specs.Int.{saturate_to_bits}
use Rattle.std.specs.Iterator.{AlwaysYields}
use Rattle.std.specs.List.{prefix_len, suffix_len}
use Rattle.std.specs.Option.{option_map}
use Rattle.book.specs.declared.basic.Basic.{Basic}
use Rattle.book.specs.declared.station.Station.{Station}
use Rattle.book.specs.declared.totals.Totals.{Totals}
use Rattle.book.specs.Refusals.{first_failing}
use Rattle.book.specs.Sums.{mass_of, moment_of}
use Rattle.kinds.specs.declared.floor_record.Over.{Over}
use Rattle.kinds.specs.declared.mass_moment.MassMoment.{MassMoment}
use Rattle.kinds.specs.Loads.{left_of}
use Rattle.book.specs.declared.frame.Frame.{Frame}
use Rattle.book.specs.declared.frame.Side.{Side}
use Rattle.book.specs.declared.frame.Side.TheVariants.{Fore, Aft}
use Rattle.book.specs.declared.zone.Zone.{Zone}
use Rattle.judging.specs.Bending.{front_while, back_while}
use Rattle.judging.specs.Spots.{margin_kept}
use denote.Ref.{Bor}

-- the station of a floor record
abbrev pub place_of : Option Over → Option ℕ
place_of o = option_map (λ over. over.station) o

-- the mass and the moment of stations
abbrev pub load_of : List Station → MassMoment
load_of ss = record { mass = pos (mass_of ss); moment = moment_of ss }

-- a zone bears a load
abbrev pub zone_bears : Zone → MassMoment → Bool
zone_bears z m = int_le m.mass (pos z.limit)

-- how many stations stand ahead of the frame before the first that does not, and how many aft of it after the last that does not
abbrev pub count_ahead : Frame → List Station → ℕ
count_ahead f ss = prefix_len (λ s. int_lt s.arm f.arm) ss

abbrev pub count_aft : Frame → List Station → ℕ
count_aft f ss = suffix_len (λ s. int_lt f.arm s.arm) ss

-- the stations on one side of an arm
abbrev pub on_side : Side → ℤ → List Station → List Station
on_side Fore x ss = front_while (λ s. int_lt s.arm x) ss
on_side Aft x ss = back_while (λ s. int_lt x s.arm) ss

-- how a load on one side of an arm bends a frame there
abbrev pub bent : Side → ℤ → MassMoment → ℤ
bent Fore x m = (x *ℤ m.mass) -ℤ m.moment
bent Aft x m = m.moment -ℤ (x *ℤ m.mass)

abbrev pub frame_bears : Frame → MassMoment → Bool
frame_bears f m = int_le (bent f.side f.arm m) (pos f.limit)

-- the basic record's mass and moment with a deck's, held within 64 bits
abbrev pub held_totals : Basic → MassMoment → Totals
held_totals b m = record { mass = saturate_to_bits 63 (pos b.mass +ℤ m.mass); moment = saturate_to_bits 63 (b.moment +ℤ m.moment) }

-- if the calls of g at the entries answer the test, r is the first entry that does not pass it
abbrev pub FindsFailing : {X F : Type 0} → Shared F (Bor X × Unit {0}) Bool → F → (X → Bool) → List X → Option ℕ → Type 0
FindsFailing {X} g f test xs r = ((x : Bor X) (i : ℕ) (b : Bool) → i < length xs → x.now ≡ slice_index_or xs i x.now → g.post f (x, tt) b → b ≡ test x.now) → r ≡ first_failing test 0 xs

-- along stations: how many come before the first whose limit does not bear the masses up to it, n and `carried` from before
abbrev pub first_past : (Station → Option ℕ) → ℕ → ℕ → List Station → Option ℕ
first_past limit n carried [] = None
first_past limit n carried (s ∷ ss) =
    cond (margin_kept (left_of (limit s) (min (carried + s.mass) (2 ^ 32 - 1)))) (first_past limit (suc n) (min (carried + s.mass) (2 ^ 32 - 1)) ss) (Some n)

-- if the way from w on gives the stations ss, and the calls of g answer the limit of each, r is that
abbrev pub FirstPast : {W F : Type 0} → (W → Option (Bor Station) → W → Type 0) → Shared F (Bor Station × Unit {0}) (Option ℕ) → W → F → Option ℕ → Type 0
FirstPast steps g w f r = (limit : Station → Option ℕ) (ss : List Station) → AlwaysYields steps (λ x. x.now) w ss → ((x : Bor Station) (m : Option ℕ) → g.post f (x, tt) m → m ≡ limit x.now) → r ≡ first_past limit 0 0 ss
