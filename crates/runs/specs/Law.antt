-- The law over every run of calls: what was asked, what was answered, and what stands in memory.
use Rattle.std.specs.Prelude.{◌≡◌, ℕ, ◌+◌, ◌/◌, ◌<◌, ◌≤◌, Bool, true, cond, List, [], ◌∷◌, map, length, take, is_some, Some, None, Ok, Option, Result, nat_le, slice_index_or, unsigned_abs}
use Rattle.std.specs.Option.{option_map}
use Rattle.std.specs.Result.{result_err}
use Rattle.std.specs.List.{AllByRecursion}
use Rattle.book.specs.declared.basic.Basic.{Basic}
use Rattle.book.specs.declared.station.Station.{Station}
use Rattle.book.specs.declared.limits.Limits.{Limits}
use Rattle.book.specs.Envelopes.{polygon}
use Rattle.kinds.specs.declared.kind.Kind.{Ghosts}
use Rattle.tree.specs.Trees.{Above, SegmentTree}
use Rattle.judging.specs.declared.occasion.Occasion.TheVariants.{Standing}
use Rattle.judging.specs.Kept.{Keeps}
use Rattle.edits.specs.declared.fault.SheetFault.{SheetFault}
use Rattle.edits.specs.Edits.{edited, edit_refusal}
use Rattle.sheet.specs.declared.answer.Answer.{Answer}
use Rattle.sheet.specs.declared.answer.Answer.TheVariants.{Done}
use Rattle.sheet.specs.declared.call.Call.{Call}
use Rattle.sheet.specs.declared.call.Call.TheVariants.{Load, Unload, Shift, Range, First, Judge, Stages, Release, Change, Reopen}
use Rattle.sheet.specs.declared.correction.Correction.{Correction}
use Rattle.sheet.specs.declared.states.Sheet.{Sheet}
use Rattle.runs.specs.declared.unrun.Unrun.{Unrun}
use Rattle.runs.specs.declared.unrun.Unrun.TheVariants.{NoRoom, Refused}
use Rattle.sheet.specs.declared.numbers.Numbers.{Numbers}
use Rattle.sheet.specs.Memory.{numbers_of, state_of, tally, said, Sound}
use Rattle.sheet.specs.Opening.{opening_refusal}
use Rattle.sheet.specs.Tally.{State, Tally, planning, released, opened, changing, refusal_by, answer, step, steps, answers}

-- the stations whose masses a call may change
abbrev pub named : {T : Type 0} → Call T → List ℕ
named (Load station kg) = station ∷ []
named (Unload station kg) = station ∷ []
named (Shift from to kg) = from ∷ (to ∷ [])
named (Range from to) = []
named (First test) = []
named (Judge l) = []
named (Stages l bytes) = []
named (Release l) = []
named (Change l asked) = asked.station ∷ []
named Reopen = []

-- every limit that is brought is kept by stations
abbrev pub KeptBy : Limits → Tally → List Station → Type 0
KeptBy l t ss = Keeps Standing t.basic ss l.zones.now l.frames.now (polygon l.envelope.now)

module _ {K R T : Type 0} (G : Ghosts K R) (meets : T → R → Bool) where
  -- of any tally and any call
  pub record EveryStep : Type 0 where
    -- no call alters the reading of a node but those above a station that it names
    pub beside : (t : Tally) (c : Call T) (one other : List K) → SegmentTree G one t.stations → SegmentTree G other (step G meets t c).stations →
        (i : ℕ) (d : K) → 0 < i → i < length one → AllByRecursion (λ k. Above i (length one / 2 + k) → ⊥) (named c) → G.reading (slice_index_or one i d) ≡ G.reading (slice_index_or other i d)
    -- a release that only a broken limit could stop is accepted exactly where every limit is kept
    pub released_exactly : (t : Tally) (l : Limits) → t.state ≡ planning → refusal_by l t ≡ None →
        (answer G meets t (Release l) ≡ Done → KeptBy l t t.stations) × (KeptBy l t t.stations → answer G meets t (Release l) ≡ Done)
    -- a change that only the allowance or a broken limit could stop is accepted exactly within the allowance and where the masses that it leaves keep every limit
    pub changed_exactly : (t : Tally) (l : Limits) (c : Correction) → t.state ≡ released → refusal_by l t ≡ None → edit_refusal t.stations (changing c.station c.kg) ≡ None →
        (answer G meets t (Change l c) ≡ Done → (t.used + unsigned_abs c.kg ≤ t.basic.allowance) × KeptBy l t (edited (changing c.station c.kg) t.stations))
        × (t.used + unsigned_abs c.kg ≤ t.basic.allowance → KeptBy l t (edited (changing c.station c.kg) t.stations) → answer G meets t (Change l c) ≡ Done)

  -- a run of calls on a sheet that was opened on records
  pub record Ran (b : Basic) (ss : List Station) (cs : List (Call T)) (heard : List (Answer K)) (last : Sheet) (ss' : List Station) (nodes' : List K) : Type 0 where
    -- call by call the answers are the tally's
    pub answered : map (said G.reading) (take (length cs) heard) ≡ answers G meets (opened b ss) cs
    -- masses, state and allowance used are the tally's
    pub stands : tally (numbers_of last) (state_of last) ss' ≡ steps G meets (opened b ss) cs
    -- the nodes are the segment tree of the masses
    pub tree : SegmentTree G nodes' (steps G meets (opened b ss) cs).stations
    -- and so every node but node 0 reads as a fresh opening on them would write it
    pub fresh : (other : List K) → SegmentTree G other ss' → (i : ℕ) (d : K) → 0 < i → i < length nodes' → G.reading (slice_index_or nodes' i d) ≡ G.reading (slice_index_or other i d)

  -- calls on a sheet from any moment on
  pub record RunFrom (m : Numbers) (state : State) (ss : List Station) (cs : List (Call T)) (heard : List (Answer K)) (m' : Numbers) (state' : State) (ss' : List Station) (nodes' : List K) : Type 0 where
    pub answered : map (said G.reading) heard ≡ answers G meets (tally m state ss) cs
    pub stands : tally m' state' ss' ≡ steps G meets (tally m state ss) cs
    pub sound : Sound G m' ss' nodes'

  -- why a run is not begun: too few answers can be handed out, or the opening is refused
  abbrev pub run_refusal : ℕ → ℕ → Option SheetFault → Option Unrun
  run_refusal room asked refusal = cond (nat_le asked room) (option_map Refused refusal) (Some NoRoom)

  -- opening a sheet on records and carrying out a list of anything that is asked as calls, on anything that reads as a sheet
  pub record Begun {C S : Type 0} (asked : List C → List (Call T)) (sheet : S → Sheet) (b : Basic) (ss : List Station) (nodes : List K) (cs : List C) (before : List (Answer K)) (r : Result S Unrun) (ss' : List Station) (nodes' : List K) (after : List (Answer K)) : Type 0 where
    pub refuses : result_err r ≡ run_refusal (length before) (length cs) (opening_refusal b ss (length nodes))
    pub untouched : is_some (result_err r) ≡ true → (ss' ≡ ss) × (nodes' ≡ nodes) × (after ≡ before)
    pub ran : (last : S) → r ≡ Ok last → Ran b ss (asked cs) after (sheet last) ss' nodes'
    pub always : EveryStep

  -- opening a sheet on records and carrying out calls
  abbrev pub Replayed : Basic → List Station → List K → List (Call T) → List (Answer K) → Result Sheet Unrun → List Station → List K → List (Answer K) → Type 0
  Replayed = Begun (λ calls. calls) (λ sheet. sheet)
