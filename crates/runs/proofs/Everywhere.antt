-- What holds of every tally and every call: which nodes can change their reading, and when releases and changes are accepted.
use Rattle.std.proofs.Common.{◌≡◌, ℕ, ◌+◌, ◌/◌, ◌^◌, ◌<◌, ◌≤◌, Bool, true, false, eqb, List, [], length, get_or, take, drop, Some, None, Option, sym, refl, ap, ◌∙◌, subst, ⊎_elim, true≢false, arith}
use Rattle.std.proofs.lemmas.Bool.{cases_lt, eqb-true}
use Rattle.std.specs.Option.{option_or}
use Rattle.std.specs.List.{AllByRecursion}
use Rattle.book.specs.declared.station.Station.{Station}
use Rattle.book.specs.declared.limits.Limits.{Limits}
use Rattle.book.specs.Envelopes.{polygon}
use Rattle.kinds.specs.declared.kind.Kind.{Ghosts}
use Rattle.kinds.specs.Folds.{read_at}
use Rattle.tree.specs.Trees.{Place, Above, SegmentTree}
use Rattle.tree.specs.Widths.{width}
use Rattle.tree.proofs.Overs.{Laws, places_kept}
use Rattle.tree.proofs.Places.{place_of, above_under}
use Rattle.tree.proofs.Wholes.{fitting, trees_read}
use Rattle.judging.specs.declared.occasion.Occasion.TheVariants.{Standing}
use Rattle.judging.proofs.Keeping.{code_0_is_kept}
use Rattle.edits.specs.declared.edit.Edit.{Edit}
use Rattle.edits.specs.declared.fault.SheetFault.{SheetFault}
use Rattle.edits.specs.declared.fault.SheetFault.TheVariants.{NotKept}
use Rattle.edits.specs.Carrying.{AboveNamed}
use Rattle.edits.specs.Edits.{loading, unloading, shifting, lighter, heavier, edited, edit_refusal}
use Rattle.edits.proofs.Carries.{test_held}
use Rattle.stages.specs.declared.ending.Ending.{Ending}
use Rattle.stages.specs.declared.ending.Ending.TheVariants.{AllKept, Broken}
use Rattle.stages.specs.declared.ending.Ending.TheVariants as endings
use Rattle.sheet.specs.declared.answer.Answer.{Answer}
use Rattle.sheet.specs.declared.answer.Answer.TheVariants.{Done, Refused, Summary, First, Verdict, NoStage, Stopped, StageRefused, NotAdmitted}
use Rattle.sheet.specs.declared.call.Call.{Call}
use Rattle.sheet.specs.declared.call.Call.TheVariants.{Load, Unload, Shift, Range, Judge, Stages, Release, Change, Reopen}
use Rattle.sheet.specs.declared.call.Call.TheVariants as calls
use Rattle.sheet.specs.declared.numbers.Numbers.{Numbers}
use Rattle.runs.specs.Law.{named, KeptBy, EveryStep}
use Rattle.sheet.specs.Tally.{State, planning, released, Tally, changing, unless, ended, ending_by, range_refusal, refusal_by, verdict_by, broken_by, release_refusal, change_refusal, answer, answer_in, done, left}
use Rattle.sheet.proofs.Changes.{all_passed, none_refuses}
use Rattle.sheet.proofs.Corrections.{named_one}
use Rattle.sheet.proofs.Stepping.{length_edited}

abbrev is_done : {X : Type 0} → Answer X → Bool
is_done Done = true
is_done (Refused f) = false
is_done (Summary v) = false
is_done (First k) = false
is_done (Verdict code place) = false
is_done NoStage = false
is_done (Stopped stage code place) = false
is_done (StageRefused stage f) = false
is_done NotAdmitted = false

unless_done : {X : Type 0} (o : Option SheetFault) → ◌≡◌ {A = Answer X} (unless o Done) Done → o ≡ None
unless_done None e = refl
unless_done {X} (Some f) e = absurd (true≢false (sym (ap (λ (a : Answer X). is_done a) e)))

-- a release, of any tally
released_exactly_of : (l : Limits) (t : Tally) → refusal_by l t ≡ None → (release_refusal l t ≡ None → KeptBy l t t.stations) × (KeptBy l t t.stations → release_refusal l t ≡ None)
released_exactly_of l t none =
    let v = verdict_by l t t.stations in
    let at : release_refusal l t ≡ broken_by NotKept v = ap (λ (o : Option SheetFault). option_or o (broken_by NotKept v)) none in (
      λ free. code_0_is_kept.kept Standing t.basic t.stations l.zones.now l.frames.now (polygon l.envelope.now) (eqb-true v.0 0 (test_held (eqb v.0 0) (NotKept v.0) (sym at ∙ free))),
      λ kept. at ∙ ap (broken_by NotKept) (code_0_is_kept.only Standing t.basic t.stations l.zones.now l.frames.now (polygon l.envelope.now) kept),
    )

-- the places under a node that is above no named station hold what they held
kept_by_edit : (ss : List Station) (e : Edit) (m p c : ℕ) → ((k : ℕ) → e.off ≡ Some k → p ≤ k → p + c ≤ k) → ((k : ℕ) → e.onto ≡ Some k → p ≤ k → p + c ≤ k) → take c (drop p (edited e ss)) ≡ take c (drop p ss)
kept_by_edit ss e m p c off onto = by_onto e.onto onto (lighter e.off e.kg ss) ∙ by_off e.off off
  where
    by_off : (o : Option ℕ) → ((k : ℕ) → o ≡ Some k → p ≤ k → p + c ≤ k) → take c (drop p (lighter o e.kg ss)) ≡ take c (drop p ss)
    by_off None out = refl
    by_off (Some k) out = places_kept ss p c k _ (out k refl)

    by_onto : (o : Option ℕ) → ((k : ℕ) → o ≡ Some k → p ≤ k → p + c ≤ k) → (xs : List Station) → take c (drop p (heavier o e.kg xs)) ≡ take c (drop p xs)
    by_onto None out xs = refl
    by_onto (Some k) out xs = places_kept xs p c k _ (out k refl)

module _ {K R T : Type 0} (G : Ghosts K R) (laws : Laws G) (meets : T → R → Bool) where
  -- two trees of the same stations read alike
  same_stations : (ss : List Station) (one other : List K) → SegmentTree G one ss → SegmentTree G other ss → (i : ℕ) (d : K) → 0 < i → i < length one → G.reading (get_or one i d) ≡ G.reading (get_or other i d)
  same_stations ss one other t u i d low high = (trees_read G laws).fixed one other ss t u i d low high

  -- and a node above no station of an edit reads as before it
  edit_beside : (ss : List Station) (e : Edit) (one other : List K) → SegmentTree G one ss → SegmentTree G other (edited e ss) → (i : ℕ) (d : K) → 0 < i → i < length one →
      (AboveNamed (length one) i e.off → ⊥) → (AboveNamed (length one) i e.onto → ⊥) → G.reading (get_or one i d) ≡ G.reading (get_or other i d)
  edit_beside ss e one other t u i d low high off onto =
      let f = fitting (length ss) (length one) t.fitting in
      let (h, p, pl) = place_of f.height i low (omega (arith, f.twice, f.power)) in
      let pl' : Place (width (length ss)) h i p = subst (λ (w : ℕ). Place w h i p) (sym f.power) pl in
      let pl'' : Place (width (length (edited e ss))) h i p = subst (λ (n : ℕ). Place (width n) h i p) (sym (length_edited e ss)) pl' in
      let outside : (o : Option ℕ) → (AboveNamed (length one) i o → ⊥) → (k : ℕ) → o ≡ Some k → p ≤ k → p + 2 ^ h ≤ k =
      λ o out k is le.
      ⊎_elim
      (λ (under : k < p + 2 ^ h). absurd (subst (λ (x : Option ℕ). AboveNamed (length one) i x → ⊥) is out (subst (λ (w : ℕ). Above i (w + k)) (sym f.half) (above_under pl' le under))))
      (λ (past : p + 2 ^ h ≤ k). past)
      (cases_lt k (p + 2 ^ h)) in
      (trees_read G laws).under one ss t h i p d pl'
      ∙ sym (ap (read_at G.none G.single G.joined p) (kept_by_edit ss e (length one) p (2 ^ h) (outside e.off off) (outside e.onto onto)))
      ∙ sym ((trees_read G laws).under other (edited e ss) u h i p d pl'')

  -- what a call leaves: the same stations, or those of its edit
  after : (P : List Station → Type 0) (t : Tally) (c : Call T) (o : Option SheetFault) → P t.stations → P (done G meets t c).stations → P (left G meets (unless o Done) t c).stations
  after P t c None same edit = edit
  after P t c (Some f) same edit = same

  asked_leaves : (t : Tally) (c : Call T) (o : Option SheetFault) (a : Answer R) → left G meets a t c ≡ t → left G meets (unless o a) t c ≡ t
  asked_leaves t c None a is = is
  asked_leaves t c (Some f) a is = refl

  ended_leaves : (t : Tally) (c : Call T) (e : Ending) → left G meets (ended e) t c ≡ t
  ended_leaves t c AllKept = refl
  ended_leaves t c (Broken stage code place) = refl
  ended_leaves t c (endings.Refused stage fault) = refl

  module _ (t : Tally) (one other : List K) (tree : SegmentTree G one t.stations) (i : ℕ) (d : K) (low : 0 < i) (high : i < length one) where
    abbrev ReadsAlike : List Station → Type 0
    ReadsAlike xs = SegmentTree G other xs → G.reading (get_or one i d) ≡ G.reading (get_or other i d)

    alike : ReadsAlike t.stations
    alike u = same_stations t.stations one other tree u i d low high

    by_edit : (e : Edit) → (AboveNamed (length one) i e.off → ⊥) → (AboveNamed (length one) i e.onto → ⊥) → ReadsAlike (edited e t.stations)
    by_edit e off onto u = edit_beside t.stations e one other tree u i d low high off onto

    same_after : (c : Call T) (a : Answer R) → left G meets a t c ≡ t → ReadsAlike (left G meets a t c).stations
    same_after c a is = subst (λ (x : Tally). ReadsAlike x.stations) (sym is) alike

    beside_in : (state : State) (c : Call T) → AllByRecursion (λ k. Above i (length one / 2 + k) → ⊥) (named c) → ReadsAlike (left G meets (answer_in G meets state t c) t c).stations
    beside_in planning (Load k kg) out = after ReadsAlike t (Load k kg) (edit_refusal t.stations (loading k kg)) alike (by_edit (loading k kg) (λ a. a) out.0)
    beside_in planning (Unload k kg) out = after ReadsAlike t (Unload k kg) (edit_refusal t.stations (unloading k kg)) alike (by_edit (unloading k kg) out.0 (λ a. a))
    beside_in planning (Shift from to kg) out = after ReadsAlike t (Shift from to kg) (edit_refusal t.stations (shifting from to kg)) alike (by_edit (shifting from to kg) out.0 out.1.0)
    beside_in planning (Range from to) out = same_after (Range from to) _ (asked_leaves t (Range from to) (range_refusal (length t.stations) from to) _ refl)
    beside_in planning (calls.First test) out = alike
    beside_in planning (Judge l) out = same_after (Judge l) _ (asked_leaves t (Judge l) (refusal_by l t) _ refl)
    beside_in planning (Stages l bytes) out = same_after (Stages l bytes) _ (ended_leaves t (Stages l bytes) (ending_by l t bytes.now))
    beside_in planning (Release l) out = after ReadsAlike t (Release l) (release_refusal l t) alike alike
    beside_in planning (Change l c) out = alike
    beside_in planning Reopen out = alike
    beside_in released (Load k kg) out = alike
    beside_in released (Unload k kg) out = alike
    beside_in released (Shift from to kg) out = alike
    beside_in released (Range from to) out = same_after (Range from to) _ (asked_leaves t (Range from to) (range_refusal (length t.stations) from to) _ refl)
    beside_in released (calls.First test) out = alike
    beside_in released (Judge l) out = same_after (Judge l) _ (asked_leaves t (Judge l) (refusal_by l t) _ refl)
    beside_in released (Stages l bytes) out = alike
    beside_in released (Release l) out = alike
    beside_in released (Change l c) out =
        let (off, onto) = named_one (length one) i c.station c.kg out.0 in
        after ReadsAlike t (Change l c) (change_refusal l t c.station c.kg) alike (by_edit (changing c.station c.kg) off onto)
    beside_in released Reopen out = alike

  pub every_step : EveryStep G meets
  every_step = record {
    beside = λ t c one other tree u i d low high out. beside_in t one other tree i d low high t.state c out u;
    released_exactly = λ t l state none.
        let (to, from) = released_exactly_of l t none in
        let says : answer G meets t (Release l) ≡ unless (release_refusal l t) Done = ap (λ (s : State). answer_in G meets s t (Release l)) state in
        (λ done_now. to (unless_done (release_refusal l t) (sym says ∙ done_now)), λ kept. says ∙ ap (λ (o : Option SheetFault). unless o Done) (from kept));
    changed_exactly = λ t l c state none clear.
        let m : Numbers = record { n = 0; basic = t.basic; used = t.used } in
        let says : answer G meets t (Change l c) ≡ unless (change_refusal l t c.station c.kg) Done = ap (λ (s : State). answer_in G meets s t (Change l c)) state in (
          λ done_now. let (_, within, kept) = all_passed G m t.stations [] l c.station c.kg [] [] (unless_done (change_refusal l t c.station c.kg) (sym says ∙ done_now)) in (within, kept),
          λ within kept. says ∙ ap (λ (o : Option SheetFault). unless o Done) (none_refuses G m t.stations [] l c.station c.kg [] [] none clear within kept),
        );
  }
