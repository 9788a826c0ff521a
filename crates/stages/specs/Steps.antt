-- What one stage, a run of stages and the taking back leave in station and node memory.
use Rattle.std.specs.Prelude.{◌≡◌, ℕ, suc, ◌+◌, ◌<◌, ◌≤◌, cond, List, length, map, None, Ok, Err, Result, ◌==◌, slice_index_or}
use Rattle.std.specs.Result.{result_err}
use Rattle.book.specs.declared.basic.Basic.{Basic}
use Rattle.book.specs.declared.station.Station.{Station}
use Rattle.book.specs.Refusals.{answer, basic_refusal}
use Rattle.kinds.specs.declared.kind.Kind.{Ghosts}
use Rattle.kinds.specs.Folds.{AllLawful}
use Rattle.book.specs.declared.frame.Frame.{Frame}
use Rattle.book.specs.declared.vertex.Vertex.{Vertex}
use Rattle.book.specs.declared.zone.Zone.{Zone}
use Rattle.book.specs.Refusals.{limits_refusal}
use Rattle.tree.specs.Trees.{SegmentTree}
use Rattle.judging.specs.declared.occasion.Occasion.TheVariants.{Stage}
use Rattle.judging.specs.Judgement.{judgement}
use Rattle.edits.specs.declared.edit.Edit.{Edit}
use Rattle.edits.specs.declared.fault.SheetFault.{SheetFault}
use Rattle.edits.specs.Edits.{edited, edit_refusal, station_at, with_mass}
use Rattle.stages.specs.declared.ending.Ending.{Ending}
use Rattle.stages.specs.declared.ending.Ending.TheVariants.{AllKept, Broken, Refused}
use Rattle.stages.specs.Staging.{ending_from, ending}

-- a stage by its verdict or its refusal: on to the next record, or the end
abbrev pub step_of : ℕ → ℕ → Result (ℕ × ℕ) SheetFault → Result ℕ Ending
step_of stage next (Err f) = Err (Refused stage f)
step_of stage next (Ok v) = cond (v.0 == 0) (Ok next) (Err (Broken stage v.0 v.1))

-- the mass at each station
abbrev pub masses : List Station → List ℕ
masses ss = map (λ (s : Station). s.mass) ss

-- the same records but for their masses
pub record Alike (was ss : List Station) : Type 0 where
  pub long : length ss ≡ length was
  pub same : (k m : ℕ) → with_mass (station_at ss k) m ≡ with_mass (station_at was k) m

module _ {K R : Type 0} (G : Ghosts K R) where
  -- only masses changed, the nodes follow, and node 0 is as it was
  pub record OnlyMasses (ss : List Station) (nodes : List K) (ss' : List Station) (nodes' : List K) : Type 0 where
    pub alike : Alike ss ss'
    pub lawful : AllLawful ss → AllLawful ss'
    pub tree : AllLawful ss → SegmentTree G nodes ss → SegmentTree G nodes' ss'
    pub first_node : (d : K) → slice_index_or nodes' 0 d ≡ slice_index_or nodes 0 d

  -- every mass is again what it was: the records are those that were, and the nodes are their tree
  pub record TakenBack (was : List Station) (ss : List Station) (nodes : List K) (ss' : List Station) (nodes' : List K) : Type 0 where
    pub records : Alike was ss → ss' ≡ was
    pub tree : Alike was ss → AllLawful was → AllLawful ss → SegmentTree G nodes ss → SegmentTree G nodes' ss'
    pub first_node : (d : K) → slice_index_or nodes' 0 d ≡ slice_index_or nodes 0 d

  module _ (b : Basic) (zs : List Zone) (fs : List Frame) (vs : List Vertex) where
    -- what the judgement asks for
    pub record Ready (ss : List Station) (nodes : List K) : Type 0 where
      pub lawful : AllLawful ss
      pub basic : basic_refusal b ≡ None
      pub limits : limits_refusal (length ss) zs fs ≡ None
      pub tree : SegmentTree G nodes ss

    -- an edit carried out, and the deck after it judged
    pub record JudgedAfter (ss : List Station) (nodes : List K) (e : Edit) (r : Result (ℕ × ℕ) SheetFault) (ss' : List Station) (nodes' : List K) : Type 0 where
      pub only : OnlyMasses ss nodes ss' nodes'
      pub done : result_err r ≡ None → ss' ≡ edited e ss
      pub value : Ready ss nodes → r ≡ answer (edit_refusal ss e) (judgement Stage b (edited e ss) zs fs vs)

    module _ (bytes : List ℕ) where
      -- one stage, of a record that is there
      pub record Stepped (stage at : ℕ) (ss : List Station) (nodes : List K) (r : Result ℕ Ending) (ss' : List Station) (nodes' : List K) : Type 0 where
        pub only : OnlyMasses ss nodes ss' nodes'
        pub further : (next : ℕ) → r ≡ Ok next → (stage < 256) × (at < next)
        pub goes : (next more : ℕ) → r ≡ Ok next → Ready ss nodes → at < length bytes → stage + suc more ≡ 256 → ending_from b zs fs vs bytes (suc more) stage at ss ≡ ending_from b zs fs vs bytes more (suc stage) next ss'
        pub ends : (e : Ending) (more : ℕ) → r ≡ Err e → Ready ss nodes → at < length bytes → stage + more ≡ 256 → ending_from b zs fs vs bytes more stage at ss ≡ e

      -- the next stage where a record is left, and else the end
      pub record Turned (stage at : ℕ) (ss : List Station) (nodes : List K) (r : Result ℕ Ending) (ss' : List Station) (nodes' : List K) : Type 0 where
        pub there : at < length bytes → Stepped stage at ss nodes r ss' nodes'
        pub past : length bytes ≤ at → (r ≡ Err AllKept) × (ss' ≡ ss) × (nodes' ≡ nodes)

      -- the stages one by one
      pub record Ran (ss : List Station) (nodes : List K) (r : Ending) (ss' : List Station) (nodes' : List K) : Type 0 where
        pub only : OnlyMasses ss nodes ss' nodes'
        pub value : Ready ss nodes → r ≡ ending b zs fs vs bytes ss
