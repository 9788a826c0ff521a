-- How stages end: records carried out one by one on a copy of the deck, each deck judged, up to the first broken limit or refusal.
use Rattle.std.specs.Prelude.{ℕ, zero, suc, ◌+◌, Bool, cond, ◌&&◌, List, length, drop, Some, None, Ok, Err, Option, Result, ◌==◌, nat_le, slice_index}
use Rattle.records.specs.declared.call.Call.{Call}
use Rattle.records.specs.declared.call.Call.TheVariants.{Load, Unload, Shift, Change}
use Rattle.records.specs.declared.fault.RecordFault.{RecordFault}
use Rattle.records.specs.declared.fault.RecordFault.TheVariants.{NoRoom, Short, UnknownKind, WrongLength}
use Rattle.records.specs.Reading.{record_in}
use Rattle.book.specs.declared.basic.Basic.{Basic}
use Rattle.book.specs.declared.fault.BookFault.TheVariants.{Record}
use Rattle.book.specs.declared.station.Station.{Station}
use Rattle.book.specs.declared.frame.Frame.{Frame}
use Rattle.book.specs.declared.vertex.Vertex.{Vertex}
use Rattle.book.specs.declared.zone.Zone.{Zone}
use Rattle.judging.specs.declared.occasion.Occasion.TheVariants.{Stage}
use Rattle.judging.specs.Judgement.{judgement}
use Rattle.edits.specs.declared.edit.Edit.{Edit}
use Rattle.edits.specs.declared.fault.SheetFault.{SheetFault}
use Rattle.edits.specs.declared.fault.SheetFault.TheVariants.{Book, TooManyStages}
use Rattle.edits.specs.Edits.{loading, unloading, shifting, edited, edit_refusal}
use Rattle.stages.specs.declared.ending.Ending.{Ending}
use Rattle.stages.specs.declared.ending.Ending.TheVariants.{AllKept, Broken, Refused}

-- the edit that a record asks for; a change is no stage, and its record is of a kind unknown here
abbrev pub stage_edit : Call → ℕ → Result Edit SheetFault
stage_edit (Load station kg) at = Ok (loading station kg)
stage_edit (Unload station kg) at = Ok (unloading station kg)
stage_edit (Shift from to kg) at = Ok (shifting from to kg)
stage_edit (Change station kg) at = Err (Book (Record (UnknownKind at)))

-- the record at a place is one of a change
abbrev pub is_change : List ℕ → ℕ → Bool
is_change bytes at = nat_le (at + 4) (length bytes) && slice_index bytes (at + 2) == 4 && slice_index bytes (at + 3) == 0

-- so its kind is unknown here before its length is looked at
abbrev pub stage_fault : List ℕ → ℕ → RecordFault → RecordFault
stage_fault bytes at NoRoom = NoRoom
stage_fault bytes at (Short place) = Short place
stage_fault bytes at (UnknownKind place) = UnknownKind place
stage_fault bytes at (WrongLength place) = cond (is_change bytes at) (UnknownKind place) (WrongLength place)

module _ (b : Basic) (zs : List Zone) (fs : List Frame) (vs : List Vertex) (bytes : List ℕ) where
  -- a deck that keeps every limit goes on, any other stops the stages
  abbrev pub after_verdict : ℕ → ℕ × ℕ → Ending → Ending
  after_verdict stage v rest = cond (v.0 == 0) rest (Broken stage v.0 v.1)

  abbrev pub after_checks : ℕ → Option SheetFault → ℕ × ℕ → Ending → Ending
  after_checks stage (Some f) v rest = Refused stage f
  after_checks stage None v rest = after_verdict stage v rest

  abbrev pub after_edit : ℕ → List Station → Result Edit SheetFault → (List Station → Ending) → Ending
  after_edit stage ss (Err f) rest = Refused stage f
  after_edit stage ss (Ok e) rest = after_checks stage (edit_refusal ss e) (judgement Stage b (edited e ss) zs fs vs) (rest (edited e ss))

  abbrev pub after_record : ℕ → ℕ → List Station → Result (Call × ℕ) RecordFault → (ℕ → List Station → Ending) → Ending
  after_record stage at ss (Err f) rest = Refused stage (Book (Record (stage_fault bytes at f)))
  after_record stage at ss (Ok p) rest = after_edit stage ss (stage_edit p.0 at) (rest p.1)

  -- from the record at a place on, with so many stages more: no bytes left are no stage
  abbrev pub ending_from : ℕ → ℕ → ℕ → List Station → Ending
  ending_from zero stage at ss = cond (nat_le (length bytes) at) AllKept (Refused stage TooManyStages)
  ending_from (suc more) stage at ss = cond (nat_le (length bytes) at) AllKept (after_record stage at ss (record_in (drop at bytes) at) (ending_from more (suc stage)))

  -- at most 256 stages
  unfoldable pub ending : List Station → Ending
  ending ss = ending_from 256 0 0 ss
