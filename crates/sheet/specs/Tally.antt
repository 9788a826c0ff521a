-- The tally: what a sheet stands for, what each call answers and what it leaves. It is fed opening's records and the calls' arguments alone.
use Rattle.std.specs.Prelude.{ℕ, zero, suc, ◌+◌, ◌-◌, Bool, cond, ◌&&◌, List, [], ◌∷◌, length, ℤ, pos, Some, None, Option, ◌==◌, int_le, nat_le, nat_lt, unsigned_abs}
use Rattle.std.specs.Option.{option_or, option_map}
use Rattle.book.specs.declared.basic.Basic.{Basic}
use Rattle.book.specs.declared.station.Station.{Station}
use Rattle.book.specs.declared.limits.Limits.{Limits}
use Rattle.book.specs.Envelopes.{polygon}
use Rattle.book.specs.Refusals.{limits_refusal}
use Rattle.kinds.specs.declared.kind.Kind.{Ghosts}
use Rattle.tree.specs.Trees.{part}
use Rattle.judging.specs.declared.occasion.Occasion.TheVariants.{Standing}
use Rattle.judging.specs.Judgement.{judgement}
use Rattle.edits.specs.declared.edit.Edit.{Edit}
use Rattle.edits.specs.declared.fault.SheetFault.{SheetFault}
use Rattle.edits.specs.declared.fault.SheetFault.TheVariants.{Book, NoRange, NotKept, OverAllowance, Breaks}
use Rattle.edits.specs.Edits.{loading, unloading, shifting, edited, edit_refusal}
use Rattle.stages.specs.declared.ending.Ending.{Ending}
use Rattle.stages.specs.declared.ending.Ending.TheVariants.{AllKept, Broken, Refused as EndRefused}
use Rattle.stages.specs.Staging.{ending}
use Rattle.sheet.specs.declared.answer.Answer.{Answer}
use Rattle.sheet.specs.declared.answer.Answer.TheVariants.{Done, Refused, Summary, First, Verdict, NoStage, Stopped, StageRefused, NotAdmitted}
use Rattle.sheet.specs.declared.call.Call.{Call}
use Rattle.sheet.specs.declared.call.Call.TheVariants.{Load, Unload, Shift, Range, First as AskFirst, Judge, Stages, Release, Change, Reopen}

pub data State : Type 0 where
  planning : State
  released : State

-- the book's records at the masses aboard, the state, and the kilograms of the allowance that are used
pub record Tally : Type 0 where
  pub basic : Basic
  pub stations : List Station
  pub state : State
  pub used : ℕ

-- the tally that an opening leaves
abbrev pub opened : Basic → List Station → Tally
opened b ss = record { basic = b; stations = ss; state = planning; used = 0 }

-- a tally with other masses, and in another state
abbrev pub carrying : Tally → List Station → Tally
carrying t ss = record { basic = t.basic; stations = ss; state = t.state; used = t.used }

abbrev pub turned : Tally → State → ℕ → Tally
turned t state used = record { basic = t.basic; stations = t.stations; state = state; used = used }

-- the edit that signed kilograms ask for: less than 0 is taken off
abbrev pub changing : ℕ → ℤ → Edit
changing station kg = cond (int_le (pos 0) kg) (loading station (unsigned_abs kg)) (unloading station (unsigned_abs kg))

-- what limits that are brought say
abbrev pub refusal_by : Limits → Tally → Option SheetFault
refusal_by l t = option_map Book (limits_refusal (length t.stations) l.zones.now l.frames.now)

abbrev pub verdict_by : Limits → Tally → List Station → ℕ × ℕ
verdict_by l t ss = judgement Standing t.basic ss l.zones.now l.frames.now (polygon l.envelope.now)

-- a code other than 0 refuses
abbrev pub broken_by : (ℕ → SheetFault) → ℕ × ℕ → Option SheetFault
broken_by fault v = cond (v.0 == 0) None (Some (fault v.0))

abbrev pub range_refusal : ℕ → ℕ → ℕ → Option SheetFault
range_refusal n from to = cond (nat_lt from to && nat_le to n) None (Some NoRange)

abbrev pub release_refusal : Limits → Tally → Option SheetFault
release_refusal l t = option_or (refusal_by l t) (broken_by NotKept (verdict_by l t t.stations))

-- limits, then the edit's own checks, the allowance, and the limits at the masses that the change would leave
abbrev pub change_refusal : Limits → Tally → ℕ → ℤ → Option SheetFault
change_refusal l t station kg =
    option_or (refusal_by l t)
    (option_or (edit_refusal t.stations (changing station kg))
    (option_or (cond (nat_le (t.used + unsigned_abs kg) t.basic.allowance) None (Some OverAllowance))
    (broken_by Breaks (verdict_by l t (edited (changing station kg) t.stations)))))

-- the first of the numbers k, k + 1 and so on, so many, of which a test holds
abbrev pub first_of : (ℕ → Bool) → ℕ → ℕ → Option ℕ
first_of test zero k = None
first_of test (suc more) k = cond (test k) (Some k) (first_of test more (suc k))

module _ {X : Type 0} where
  abbrev pub unless : Option SheetFault → Answer X → Answer X
  unless None a = a
  unless (Some f) a = Refused f

  abbrev pub ended : Ending → Answer X
  ended AllKept = NoStage
  ended (Broken stage code place) = Stopped stage code place
  ended (EndRefused stage fault) = StageRefused stage fault

-- a refusal of the limits comes before the first stage, and is counted to it
abbrev pub ending_unless : Option SheetFault → Ending → Ending
ending_unless None e = e
ending_unless (Some f) e = EndRefused 0 f

abbrev pub ending_by : Limits → Tally → List ℕ → Ending
ending_by l t bytes = ending_unless (refusal_by l t) (ending t.basic l.zones.now l.frames.now (polygon l.envelope.now) bytes t.stations)

module _ {K R T : Type 0} (G : Ghosts K R) (meets : T → R → Bool) where
  -- what a call answers that both states admit
  abbrev pub first_met : T → List Station → Option ℕ
  first_met test ss = first_of (λ k. meets test (part G 0 (suc k) ss)) (length ss) 0

  abbrev pub answer_in : State → Tally → Call T → Answer R
  answer_in planning t (Load station kg) = unless (edit_refusal t.stations (loading station kg)) Done
  answer_in released t (Load station kg) = NotAdmitted
  answer_in planning t (Unload station kg) = unless (edit_refusal t.stations (unloading station kg)) Done
  answer_in released t (Unload station kg) = NotAdmitted
  answer_in planning t (Shift from to kg) = unless (edit_refusal t.stations (shifting from to kg)) Done
  answer_in released t (Shift from to kg) = NotAdmitted
  answer_in state t (Range from to) = unless (range_refusal (length t.stations) from to) (Summary (part G from (to - from) t.stations))
  answer_in state t (AskFirst test) = First (first_met test t.stations)
  answer_in state t (Judge l) = unless (refusal_by l t) (Verdict (verdict_by l t t.stations).0 (verdict_by l t t.stations).1)
  answer_in planning t (Stages l bytes) = ended (ending_by l t bytes.now)
  answer_in released t (Stages l bytes) = NotAdmitted
  answer_in planning t (Release l) = unless (release_refusal l t) Done
  answer_in released t (Release l) = NotAdmitted
  answer_in planning t (Change l asked) = NotAdmitted
  answer_in released t (Change l asked) = unless (change_refusal l t asked.station asked.kg) Done
  answer_in planning t Reopen = NotAdmitted
  answer_in released t Reopen = Done

  abbrev pub answer : Tally → Call T → Answer R
  answer t c = answer_in t.state t c

  -- what a call leaves that was done
  abbrev pub done : Tally → Call T → Tally
  done t (Load station kg) = carrying t (edited (loading station kg) t.stations)
  done t (Unload station kg) = carrying t (edited (unloading station kg) t.stations)
  done t (Shift from to kg) = carrying t (edited (shifting from to kg) t.stations)
  done t (Range from to) = t
  done t (AskFirst test) = t
  done t (Judge l) = t
  done t (Stages l bytes) = t
  done t (Release l) = turned t released 0
  done t (Change l asked) = turned (carrying t (edited (changing asked.station asked.kg) t.stations)) t.state (t.used + unsigned_abs asked.kg)
  done t Reopen = turned t planning t.used

  -- no other answer changes anything
  abbrev pub left : Answer R → Tally → Call T → Tally
  left Done t c = done t c
  left (Refused f) t c = t
  left (Summary v) t c = t
  left (First k) t c = t
  left (Verdict code place) t c = t
  left NoStage t c = t
  left (Stopped stage code place) t c = t
  left (StageRefused stage f) t c = t
  left NotAdmitted t c = t

  abbrev pub step : Tally → Call T → Tally
  step t c = left (answer t c) t c

  -- a whole run
  abbrev pub steps : Tally → List (Call T) → Tally
  steps t [] = t
  steps t (c ∷ cs) = steps (step t c) cs

  abbrev pub answers : Tally → List (Call T) → List (Answer R)
  answers t [] = []
  answers t (c ∷ cs) = answer t c ∷ answers (step t c) cs
