-- What a stage is to carry out: the edit of the record at a place, and where the next record begins.
use Rattle.std.specs.Prelude.{ℕ, cond, List, drop, Some, None, Ok, Err, Option, Result, nat_lt}
use Rattle.records.specs.declared.call.Call.{Call}
use Rattle.records.specs.declared.fault.RecordFault.{RecordFault}
use Rattle.records.specs.Reading.{record_in}
use Rattle.book.specs.declared.fault.BookFault.TheVariants.{Record}
use Rattle.edits.specs.declared.edit.Edit.{Edit}
use Rattle.edits.specs.declared.fault.SheetFault.{SheetFault}
use Rattle.edits.specs.declared.fault.SheetFault.TheVariants.{Book, TooManyStages}
use Rattle.stages.specs.Staging.{stage_fault, stage_edit}

-- stages are numbered 0 to 255
abbrev pub number_refusal : ℕ → Option SheetFault
number_refusal stage = cond (nat_lt stage 256) None (Some TooManyStages)

abbrev pub with_next : Result Edit SheetFault → ℕ → Result (Edit × ℕ) SheetFault
with_next (Err f) next = Err f
with_next (Ok e) next = Ok (e, next)

abbrev pub of_record : List ℕ → ℕ → Result (Call × ℕ) RecordFault → Result (Edit × ℕ) SheetFault
of_record bytes at (Err f) = Err (Book (Record (stage_fault bytes at f)))
of_record bytes at (Ok p) = with_next (stage_edit p.0 at) p.1

abbrev pub unless : Option SheetFault → Result (Edit × ℕ) SheetFault → Result (Edit × ℕ) SheetFault
unless (Some f) p = Err f
unless None p = p

-- the number first, then the record, then its kind
abbrev pub planned : ℕ → List ℕ → ℕ → Result (Edit × ℕ) SheetFault
planned stage bytes at = unless (number_refusal stage) (of_record bytes at (record_in (drop at bytes) at))
