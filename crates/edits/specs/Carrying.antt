-- What carrying out an edit leaves in station and node memory.
use Rattle.std.specs.Prelude.{◌≡◌, ℕ, ◌+◌, ◌/◌, true, List, length, is_some, Some, None, Option, Result, slice_index_or}
use Rattle.std.specs.Option.{option_or}
use Rattle.std.specs.Result.{result_err}
use Rattle.book.specs.declared.station.Station.{Station}
use Rattle.kinds.specs.declared.kind.Kind.{Ghosts}
use Rattle.kinds.specs.Folds.{AllLawful}
use Rattle.tree.specs.Trees.{Above, SegmentTree}
use Rattle.edits.specs.declared.edit.Edit.{Edit}
use Rattle.edits.specs.declared.fault.SheetFault.{SheetFault}
use Rattle.edits.specs.Edits.{edited, edit_refusal, memory_refusal, put}

-- node i is above a station that is named, in a memory of m nodes
abbrev pub AboveNamed : ℕ → ℕ → Option ℕ → Type 0
AboveNamed m i None = ⊥
AboveNamed m i (Some k) = Above i (m / 2 + k)

module _ {K R : Type 0} (G : Ghosts K R) where
  -- another mass at station k: the nodes follow, and whatever they were, only those above k are written
  pub record Put (ss : List Station) (nodes : List K) (k mass : ℕ) (ss' : List Station) (nodes' : List K) : Type 0 where
    pub stations : ss' ≡ put ss k mass
    pub tree : AllLawful ss' → SegmentTree G nodes ss → SegmentTree G nodes' ss'
    pub beside : (i : ℕ) (d : K) → (Above i (length nodes / 2 + k) → ⊥) → slice_index_or nodes' i d ≡ slice_index_or nodes i d
    pub long : length nodes' ≡ length nodes

  -- at most one station's mass changed: the nodes follow, and only those above it are written
  pub record Moved (ss : List Station) (nodes : List K) (named : Option ℕ) (ss' : List Station) (nodes' : List K) : Type 0 where
    pub tree : AllLawful ss' → SegmentTree G nodes ss → SegmentTree G nodes' ss'
    pub beside : (i : ℕ) (d : K) → (AboveNamed (length nodes) i named → ⊥) → slice_index_or nodes' i d ≡ slice_index_or nodes i d
    pub long : length nodes' ≡ length nodes

  -- an edit on a sheet of n stations
  pub record Carried (n : ℕ) (ss : List Station) (nodes : List K) (e : Edit) (r : Result (Unit {0}) SheetFault) (ss' : List Station) (nodes' : List K) : Type 0 where
    pub refuses : result_err r ≡ option_or (memory_refusal n (length ss) (length nodes)) (edit_refusal ss e)
    pub done : result_err r ≡ None → ss' ≡ edited e ss
    pub untouched : is_some (result_err r) ≡ true → (ss' ≡ ss) × (nodes' ≡ nodes)
    pub lawful : AllLawful ss → AllLawful ss'
    pub tree : AllLawful ss → SegmentTree G nodes ss → SegmentTree G nodes' ss'
    -- whatever the nodes were, only those above a named station are written
    pub beside : (i : ℕ) (d : K) → (AboveNamed (length nodes) i e.off → ⊥) → (AboveNamed (length nodes) i e.onto → ⊥) → slice_index_or nodes' i d ≡ slice_index_or nodes i d
