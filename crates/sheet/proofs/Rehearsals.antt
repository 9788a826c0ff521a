-- Stages on the sheet's own memory are a step of the tally.
use Rattle.std.proofs.Common.{◌≡◌, ℕ, Bool, List, sym, refl, ap, ◌∙◌, subst, Bor}
use Rattle.book.specs.declared.station.Station.{Station}
use Rattle.book.specs.declared.limits.Limits.{Limits}
use Rattle.kinds.specs.declared.kind.Kind.{Ghosts}
use Rattle.tree.specs.Trees.{SegmentTree}
use Rattle.stages.specs.declared.ending.Ending.{Ending}
use Rattle.stages.specs.declared.ending.Ending.TheVariants.{AllKept, Broken, Refused}
use Rattle.sheet.specs.declared.answer.Answer.{Answer}
use Rattle.sheet.specs.declared.call.Call.TheVariants.{Stages}
use Rattle.sheet.specs.declared.numbers.Numbers.{Numbers}
use Rattle.sheet.specs.Memory.{tally, Sound, said, Step}
use Rattle.sheet.specs.Tally.{planning, ended, ending_by, answer, left}

module _ {K R : Type 0} (G : Ghosts K R) (m : Numbers) (ss : List Station) (nodes : List K) (l : Limits) (bytes : Bor (List ℕ)) where
  ended_said : (r : Ending) → said G.reading (ended r) ≡ ended r
  ended_said AllKept = refl
  ended_said (Broken stage code place) = refl
  ended_said (Refused stage fault) = refl

  module _ {T : Type 0} (meets : T → R → Bool) where
    ended_leaves : (r : Ending) → left G meets (ended r) (tally m planning ss) (Stages l bytes) ≡ tally m planning ss
    ended_leaves AllKept = refl
    ended_leaves (Broken stage code place) = refl
    ended_leaves (Refused stage fault) = refl

    stage_step : (r : Ending) (ss' : List Station) (nodes' : List K) → ss' ≡ ss → answer G meets (tally m planning ss) (Stages l bytes) ≡ ended r → Sound G m ss nodes' → Step G meets m planning ss nodes (Stages l bytes) (ended r) m planning ss' nodes'
    stage_step r ss' nodes' same says sound = record {
      answered = ended_said r ∙ sym says;
      stands = ap (tally m planning) same ∙ sym (ap (λ (a : Answer R). left G meets a (tally m planning ss) (Stages l bytes)) says ∙ ended_leaves r);
      sound = subst (λ (xs : List Station). Sound G m xs nodes') (sym same) sound;
    }

    pub step_stages : (r : Ending) (ss' : List Station) (nodes' : List K) → ss' ≡ ss → r ≡ ending_by l (tally m planning ss) bytes.now → SegmentTree G nodes' ss → Sound G m ss nodes → Step G meets m planning ss nodes (Stages l bytes) (ended r) m planning ss' nodes'
    step_stages r ss' nodes' same value tree sound =
        stage_step r ss' nodes' same (ap ended (sym value)) (record { size = sound.size; lawful = sound.lawful; basic = sound.basic; spent = sound.spent; tree = tree })
