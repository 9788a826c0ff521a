-- What each call that judges answers and leaves: on any memory, and as a step of the tally on the sheet's own.
use Rattle.std.specs.Prelude.{◌≡◌, ℕ, ◌+◌, ◌/◌, ◌≤◌, true, cond, List, length, ℤ, is_some, Some, None, Ok, Err, Option, Result, nat_le, slice_index_or, unsigned_abs}
use Rattle.std.specs.Option.{option_or, option_map}
use Rattle.std.specs.Result.{result_err}
use Rattle.book.specs.declared.station.Station.{Station}
use Rattle.book.specs.declared.limits.Limits.{Limits}
use Rattle.book.specs.Envelopes.{polygon}
use Rattle.book.specs.Refusals.{limits_refusal}
use Rattle.kinds.specs.declared.kind.Kind.{Ghosts}
use Rattle.tree.specs.Trees.{Above, SegmentTree}
use Rattle.judging.specs.declared.occasion.Occasion.TheVariants.{Standing}
use Rattle.judging.specs.Judgement.{judgement}
use Rattle.judging.specs.Kept.{Keeps}
use Rattle.edits.specs.declared.fault.SheetFault.{SheetFault}
use Rattle.edits.specs.declared.fault.SheetFault.TheVariants.{Book, OverAllowance, Breaks}
use Rattle.edits.specs.Edits.{edited, edit_refusal, memory_refusal}
use Rattle.sheet.specs.declared.answer.Answer.{Answer}
use Rattle.sheet.specs.declared.answer.Answer.TheVariants.{Done, Refused}
use Rattle.sheet.specs.declared.call.Call.TheVariants.{Judge, Release, Change}
use Rattle.sheet.specs.declared.numbers.Numbers.{Numbers}
use Rattle.sheet.specs.declared.states.Planning.{Planning}
use Rattle.sheet.specs.declared.states.Released.{Released}
use Rattle.sheet.specs.Tally.{State, planning, released, changing, broken_by, release_refusal, change_refusal}
use Rattle.sheet.specs.Memory.{Sound, Step, no_test, tally, judge_answer, edit_answer}

-- limits that are brought keep their own rules on a deck of n stations
abbrev pub bad_limits : ℕ → Limits → Option SheetFault
bad_limits n l = option_map Book (limits_refusal n l.zones.now l.frames.now)

-- what is looked at before any judging
abbrev pub brought_refusal : Numbers → ℕ → ℕ → Limits → Option SheetFault
brought_refusal m s nodes l = option_or (memory_refusal m.n s nodes) (bad_limits m.n l)

-- every limit is kept on a standing deck
abbrev pub AllLimitsKept : Numbers → List Station → Limits → Type 0
AllLimitsKept m ss l = Keeps Standing m.basic ss l.zones.now l.frames.now (polygon l.envelope.now)

module _ {K R : Type 0} (G : Ghosts K R) where
  -- a verdict on limits that are brought
  pub record Valued (m : Numbers) (ss : List Station) (nodes : List K) (l : Limits) (r : Result (ℕ × ℕ) SheetFault) : Type 0 where
    pub refuses : result_err r ≡ brought_refusal m (length ss) (length nodes) l
    pub value : (v : ℕ × ℕ) → r ≡ Ok v → Sound G m ss nodes → v ≡ judgement Standing m.basic ss l.zones.now l.frames.now (polygon l.envelope.now)

  -- judging, in either state
  pub record Assessed (m : Numbers) (state : State) (ss : List Station) (nodes : List K) (l : Limits) (r : Result (ℕ × ℕ) SheetFault) : Type 0 where
    pub any : Valued m ss nodes l r
    pub step : Sound G m ss nodes → Step {T = Unit {0}} G no_test m state ss nodes (Judge l) (judge_answer r) m state ss nodes

  -- whether a sheet may be released
  pub record Weighed (m : Numbers) (ss : List Station) (nodes : List K) (l : Limits) (r : Result (Unit {0}) SheetFault) : Type 0 where
    pub refuses : (f : SheetFault) → brought_refusal m (length ss) (length nodes) l ≡ Some f → r ≡ Err f
    pub own : Sound G m ss nodes → result_err r ≡ release_refusal l (tally m planning ss)

  -- a released sheet has used none of its allowance
  abbrev pub freed : Numbers → Numbers
  freed m = record { n = m.n; basic = m.basic; used = 0 }

  abbrev pub release_end : Planning → Result (Unit {0}) SheetFault → Result Released (Planning × SheetFault)
  release_end p (Ok u) = Ok (record { numbers = freed p.numbers })
  release_end p (Err f) = Err (p, f)

  abbrev pub release_answer : Result Released (Planning × SheetFault) → Answer K
  release_answer (Ok q) = Done
  release_answer (Err e) = Refused e.1

  abbrev pub release_numbers : Result Released (Planning × SheetFault) → Numbers
  release_numbers (Ok q) = q.numbers
  release_numbers (Err e) = e.0.numbers

  abbrev pub release_state : Result Released (Planning × SheetFault) → State
  release_state (Ok q) = released
  release_state (Err e) = planning

  -- release: the sheet comes back with a refusal, or goes on with its allowance unused
  pub record Freed (p : Planning) (ss : List Station) (nodes : List K) (l : Limits) (r : Result Released (Planning × SheetFault)) : Type 0 where
    pub any : (w : Result (Unit {0}) SheetFault) × (r ≡ release_end p w) × Weighed p.numbers ss nodes l w
    pub step : Sound G p.numbers ss nodes → Step {T = Unit {0}} G no_test p.numbers planning ss nodes (Release l) (release_answer r) (release_numbers r) (release_state r) ss nodes
    -- accepted exactly where every limit is kept
    pub accepted : Sound G p.numbers ss nodes → bad_limits (length ss) l ≡ None → ((q : Released) → r ≡ Ok q → AllLimitsKept p.numbers ss l) × (AllLimitsKept p.numbers ss l → r ≡ Ok (record { numbers = freed p.numbers }))

  -- the allowance and the limits, once a change stands in memory
  pub record Settled (m : Numbers) (ss : List Station) (nodes : List K) (l : Limits) (kg : ℕ) (r : Result ℕ SheetFault) : Type 0 where
    pub done : (used : ℕ) → r ≡ Ok used → used ≡ m.used + kg
    pub own : Sound G m ss nodes → bad_limits (length ss) l ≡ None →
        result_err r ≡ option_or (cond (nat_le (m.used + kg) m.basic.allowance) None (Some OverAllowance)) (broken_by Breaks (judgement Standing m.basic ss l.zones.now l.frames.now (polygon l.envelope.now)))

  -- a change of a station's mass on a sheet with these numbers: the allowance then used, or why it is refused
  pub record Corrected (m : Numbers) (ss : List Station) (nodes : List K) (l : Limits) (station : ℕ) (kg : ℤ) (r : Result ℕ SheetFault) (ss' : List Station) (nodes' : List K) : Type 0 where
    pub refuses : (f : SheetFault) → option_or (brought_refusal m (length ss) (length nodes) l) (edit_refusal ss (changing station kg)) ≡ Some f → r ≡ Err f
    pub done : (used : ℕ) → r ≡ Ok used → (used ≡ m.used + unsigned_abs kg) × (ss' ≡ edited (changing station kg) ss)
    pub untouched : is_some (result_err r) ≡ true → ss' ≡ ss
    pub own : Sound G m ss nodes → result_err r ≡ change_refusal l (tally m released ss) station kg
    pub tree : Sound G m ss nodes → SegmentTree G nodes' ss'
    pub beside : (i : ℕ) (d : K) → (Above i (length nodes / 2 + station) → ⊥) → slice_index_or nodes' i d ≡ slice_index_or nodes i d

  -- the numbers after a change
  abbrev pub spending : Numbers → Result ℕ SheetFault → Numbers
  spending m (Ok used) = record { n = m.n; basic = m.basic; used = used }
  spending m (Err f) = m

  abbrev pub told : Result ℕ SheetFault → Result (Unit {0}) SheetFault
  told (Ok used) = Ok tt
  told (Err f) = Err f

  -- change
  pub record Changed (m : Numbers) (ss : List Station) (nodes : List K) (l : Limits) (station : ℕ) (kg : ℤ) (r : Result (Unit {0}) SheetFault) (m' : Numbers) (ss' : List Station) (nodes' : List K) : Type 0 where
    pub any : (c : Result ℕ SheetFault) × (r ≡ told c) × (m' ≡ spending m c) × Corrected m ss nodes l station kg c ss' nodes'
    pub step : Sound G m ss nodes → Step {T = Unit {0}} G no_test m released ss nodes (Change l (record { station = station; kg = kg })) (edit_answer r) m' released ss' nodes'
    -- where the limits are fine and the edit is not refused: accepted exactly within the allowance and with every limit kept at the masses that it leaves
    pub accepted : Sound G m ss nodes → bad_limits (length ss) l ≡ None → edit_refusal ss (changing station kg) ≡ None →
        (r ≡ Ok tt → (m.used + unsigned_abs kg ≤ m.basic.allowance) × AllLimitsKept m (edited (changing station kg) ss) l)
        × (m.used + unsigned_abs kg ≤ m.basic.allowance → AllLimitsKept m (edited (changing station kg) ss) l → r ≡ Ok tt)
