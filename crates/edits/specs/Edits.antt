-- What an edit does to the masses aboard, and why it is refused.
use Rattle.std.specs.Prelude.{ℕ, ◌+◌, ◌-◌, cond, ◌&&◌, List, length, pos, Some, None, Option, ◌==◌, nat_le, nat_lt, slice_index_or, slice_set}
use Rattle.std.specs.Option.{option_or}
use Rattle.book.specs.declared.station.Station.{Station}
use Rattle.tree.specs.Widths.{fits}
use Rattle.edits.specs.declared.edit.Edit.{Edit}
use Rattle.edits.specs.declared.fault.SheetFault.{SheetFault}
use Rattle.edits.specs.declared.fault.SheetFault.TheVariants.{OtherLength, NoStation, BadKilograms, SameStation, TooHeavy, HoldsLess}

abbrev pub nowhere : Station
nowhere = record { arm = pos 0; floor = 0; fore = None; aft = None; mass = 0 }

abbrev pub station_at : List Station → ℕ → Station
station_at ss k = slice_index_or ss k nowhere

-- a station's record with another mass
abbrev pub with_mass : Station → ℕ → Station
with_mass s m = record { arm = s.arm; floor = s.floor; fore = s.fore; aft = s.aft; mass = m }

-- the deck with another mass at station k
abbrev pub put : List Station → ℕ → ℕ → List Station
put ss k m = slice_set ss k (with_mass (station_at ss k) m)

-- kilograms taken off a station, and put onto one, if one is named
abbrev pub lighter : Option ℕ → ℕ → List Station → List Station
lighter None kg ss = ss
lighter (Some k) kg ss = put ss k ((station_at ss k).mass - kg)

abbrev pub heavier : Option ℕ → ℕ → List Station → List Station
heavier None kg ss = ss
heavier (Some k) kg ss = put ss k ((station_at ss k).mass + kg)

abbrev pub edited : Edit → List Station → List Station
edited e ss = heavier e.onto e.kg (lighter e.off e.kg ss)

-- what a load, an unload and a shift ask for
abbrev pub loading : ℕ → ℕ → Edit
loading station kg = record { off = None; onto = Some station; kg = kg }

abbrev pub unloading : ℕ → ℕ → Edit
unloading station kg = record { off = Some station; onto = None; kg = kg }

abbrev pub shifting : ℕ → ℕ → ℕ → Edit
shifting from to kg = record { off = Some from; onto = Some to; kg = kg }

-- the refusal of a station that is named
abbrev pub of_named : Option ℕ → (ℕ → Option SheetFault) → Option SheetFault
of_named None refusal = None
of_named (Some k) refusal = refusal k

abbrev pub absent : List Station → ℕ → Option SheetFault
absent ss k = cond (nat_lt k (length ss)) None (Some (NoStation k))

-- an edit moves 1 to 30,000 kilograms
abbrev pub kilograms_refusal : ℕ → Option SheetFault
kilograms_refusal kg = cond (nat_le 1 kg && nat_le kg 30000) None (Some BadKilograms)

abbrev pub same_refusal : Option ℕ → Option ℕ → Option SheetFault
same_refusal None onto = None
same_refusal (Some a) None = None
same_refusal (Some a) (Some b) = cond (a == b) (Some (SameStation b)) None

abbrev pub holds_less : List Station → ℕ → ℕ → Option SheetFault
holds_less ss kg k = cond (nat_le kg (station_at ss k).mass) None (Some (HoldsLess k))

abbrev pub exceeds : List Station → ℕ → ℕ → Option SheetFault
exceeds ss kg k = cond (nat_le ((station_at ss k).mass + kg) 30000) None (Some (TooHeavy k))

-- stations first, then the kilograms, a shift to its own station, what a station holds, what it may hold
abbrev pub edit_refusal : List Station → Edit → Option SheetFault
edit_refusal ss e =
    option_or (of_named e.off (absent ss))
    (option_or (of_named e.onto (absent ss))
    (option_or (kilograms_refusal e.kg)
    (option_or (same_refusal e.off e.onto)
    (option_or (of_named e.off (holds_less ss e.kg))
    (of_named e.onto (exceeds ss e.kg))))))

-- on a sheet of n stations, memory of s station records and m nodes is another sheet's
abbrev pub memory_refusal : ℕ → ℕ → ℕ → Option SheetFault
memory_refusal n s m = cond (s == n && fits n m) None (Some OtherLength)
