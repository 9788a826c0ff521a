-- When stages keep every limit, in the words of loading: calls, decks and limits.
use Rattle.std.specs.Prelude.{◌≡◌, ℕ, ◌<◌, ◌≤◌, List, [], ◌∷◌, ◌++◌, length, Some, None, Option, slice_index}
use Rattle.records.specs.declared.call.Call.{Call}
use Rattle.records.specs.declared.call.Call.TheVariants.{Load, Unload, Shift, Change}
use Rattle.records.specs.Records.{Fits, encode}
use Rattle.book.specs.declared.basic.Basic.{Basic}
use Rattle.book.specs.declared.station.Station.{Station}
use Rattle.book.specs.declared.frame.Frame.{Frame}
use Rattle.book.specs.declared.vertex.Vertex.{Vertex}
use Rattle.book.specs.declared.zone.Zone.{Zone}
use Rattle.judging.specs.declared.occasion.Occasion.TheVariants.{Stage}
use Rattle.judging.specs.Kept.{Keeps}
use Rattle.edits.specs.declared.edit.Edit.{Edit}
use Rattle.edits.specs.Edits.{loading, unloading, shifting, edited, edit_refusal}
use Rattle.stages.specs.declared.ending.Ending.TheVariants.{AllKept}
use Rattle.stages.specs.Staging.{ending}

-- a load, an unload and a shift move kilograms between stages
abbrev pub moves : Call → Option Edit
moves (Load station kg) = Some (loading station kg)
moves (Unload station kg) = Some (unloading station kg)
moves (Shift from to kg) = Some (shifting from to kg)
moves (Change station kg) = None

-- records one after the other
abbrev pub encodings : List Call → List ℕ
encodings [] = []
encodings (c ∷ cs) = encode c ++ encodings cs

abbrev pub AreBytes : List ℕ → Type 0
AreBytes bs = (i : ℕ) → slice_index bs i < 256

module _ (b : Basic) (zs : List Zone) (fs : List Frame) (vs : List Vertex) where
  -- a call that the deck does not refuse, and the deck after it keeps every limit of a stage
  pub record KeptStage (ss : List Station) (c : Call) (ss' : List Station) : Type 0 where
    pub fits : Fits c
    pub edit : Edit
    pub moved : moves c ≡ Some edit
    pub accepted : edit_refusal ss edit ≡ None
    pub after : ss' ≡ edited edit ss
    pub keeps : Keeps Stage b ss' zs fs vs

  -- one after the other, each on the deck that the one before it left
  abbrev pub KeptStages : List Station → List Call → Type 0
  KeptStages ss [] = Unit {0}
  KeptStages ss (c ∷ cs) = (ss' : List Station) × KeptStage ss c ss' × KeptStages ss' cs

  -- bytes that are the records of at most 256 calls, all of them kept
  pub record AllStagesKept (bytes : List ℕ) (ss : List Station) : Type 0 where
    pub calls : List Call
    pub few : length calls ≤ 256
    pub written : bytes ≡ encodings calls
    pub kept : KeptStages ss calls

-- the stages of any bytes end with every limit kept exactly when they are such records
pub record StagesMean : Type 0 where
  pub kept : (b : Basic) (zs : List Zone) (fs : List Frame) (vs : List Vertex) (bytes : List ℕ) (ss : List Station) → AreBytes bytes → ending b zs fs vs bytes ss ≡ AllKept → AllStagesKept b zs fs vs bytes ss
  pub only : (b : Basic) (zs : List Zone) (fs : List Frame) (vs : List Vertex) (bytes : List ℕ) (ss : List Station) → AllStagesKept b zs fs vs bytes ss → ending b zs fs vs bytes ss ≡ AllKept
