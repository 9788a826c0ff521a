-- Verdicts on the sheet's own memory, and the calls that turn on them as steps of the tally.
use Rattle.std.proofs.Common.{◌≡◌, ℕ, Bool, eqb, List, length, is_err, Some, None, Ok, Err, Option, Result, sym, refl, ap, ◌∙◌, true≢false, arith}
use Rattle.std.proofs.lemmas.Bool.{eqb-true}
use Rattle.std.specs.Option.{option_or}
use Rattle.std.specs.Result.{result_err}
use Rattle.book.specs.declared.station.Station.{Station}
use Rattle.book.specs.Refusals as answers
use Rattle.book.specs.declared.limits.Limits.{Limits}
use Rattle.book.specs.Envelopes.{polygon}
use Rattle.kinds.specs.declared.kind.Kind.{Ghosts}
use Rattle.judging.specs.declared.occasion.Occasion.TheVariants.{Standing}
use Rattle.judging.proofs.Keeping.{code_0_is_kept}
use Rattle.edits.specs.declared.fault.SheetFault.{SheetFault}
use Rattle.edits.specs.declared.fault.SheetFault.TheVariants.{NotKept}
use Rattle.edits.proofs.Carries.{some_none, test_held}
use Rattle.sheet.specs.declared.answer.Answer.{Answer}
use Rattle.sheet.specs.declared.answer.Answer.TheVariants.{Done, Refused, Verdict}
use Rattle.sheet.specs.declared.call.Call.TheVariants.{Judge, Release}
use Rattle.sheet.specs.declared.numbers.Numbers.{Numbers}
use Rattle.sheet.specs.declared.states.Planning.{Planning}
use Rattle.sheet.specs.declared.states.Released.{Released}
use Rattle.sheet.specs.Memory.{tally, Sound, Step, no_test, judge_answer}
use Rattle.sheet.specs.Tally.{State, planning, released, unless, refusal_by, verdict_by, broken_by, release_refusal, answer, left}
use Rattle.sheet.specs.Weighing.{bad_limits, brought_refusal, AllLimitsKept, Valued, Weighed, freed, release_end, release_answer, release_numbers, release_state, Freed}
use Rattle.sheet.proofs.Stepping.{own_memory, asked}

module _ {K R : Type 0} (G : Ghosts K R) (m : Numbers) (ss : List Station) (nodes : List K) (l : Limits) where
  -- on its own memory only the limits can be refused
  pub only_limits : (state : State) → Sound G m ss nodes → brought_refusal m (length ss) (length nodes) l ≡ refusal_by l (tally m state ss)
  only_limits state sound =
      ap (λ (o : Option SheetFault). option_or o (bad_limits m.n l)) (own_memory G m ss nodes sound) ∙ ap (λ (n : ℕ). bad_limits n l) sound.size

  module _ {T : Type 0} (meets : T → R → Bool) where
    judge_asks : (state : State) → answer G meets (tally m state ss) (Judge l) ≡ unless (refusal_by l (tally m state ss)) (Verdict (verdict_by l (tally m state ss) ss).0 (verdict_by l (tally m state ss) ss).1)
    judge_asks planning = refl
    judge_asks released = refl

    pub step_judge : (state : State) (r : Result (ℕ × ℕ) SheetFault) → Valued G m ss nodes l r → Sound G m ss nodes → Step G meets m state ss nodes (Judge l) (judge_answer r) m state ss nodes
    step_judge state (Ok v) any sound =
        let none : None ≡ refusal_by l (tally m state ss) = any.refuses ∙ only_limits state sound in
        let e = any.value v refl sound in
        asked G meets m state ss nodes (Judge l) (Verdict v.0 v.1) (Verdict v.0 v.1) refl
        (judge_asks state ∙ sym (ap (λ (o : Option SheetFault). unless o (Verdict (verdict_by l (tally m state ss) ss).0 (verdict_by l (tally m state ss) ss).1)) none) ∙ ap (λ (x : ℕ × ℕ). Verdict x.0 x.1) (sym e)) refl sound
    step_judge state (Err f) any sound =
        let some : Some f ≡ refusal_by l (tally m state ss) = any.refuses ∙ only_limits state sound in
        asked G meets m state ss nodes (Judge l) (Refused f) (Refused f) refl
        (judge_asks state ∙ sym (ap (λ (o : Option SheetFault). unless o (Verdict (verdict_by l (tally m state ss) ss).0 (verdict_by l (tally m state ss) ss).1)) some)) refl sound

  -- what is refused only for a broken limit is accepted exactly where every limit is kept
  pub kept_exactly : bad_limits (length ss) l ≡ None → (release_refusal l (tally m planning ss) ≡ None → AllLimitsKept m ss l) × (AllLimitsKept m ss l → release_refusal l (tally m planning ss) ≡ None)
  kept_exactly none =
      let v = verdict_by l (tally m planning ss) ss in
      let at : release_refusal l (tally m planning ss) ≡ broken_by NotKept v = ap (λ (o : Option SheetFault). option_or o (broken_by NotKept v)) none in (
        λ free. code_0_is_kept.kept Standing m.basic ss l.zones.now l.frames.now (polygon l.envelope.now) (eqb-true v.0 0 (test_held (eqb v.0 0) (NotKept v.0) (sym at ∙ free))),
        λ kept. at ∙ ap (broken_by NotKept) (code_0_is_kept.only Standing m.basic ss l.zones.now l.frames.now (polygon l.envelope.now) kept),
      )

module _ {K R : Type 0} (G : Ghosts K R) (p : Planning) (ss : List Station) (nodes : List K) (l : Limits) where
  -- a release is a step of the tally, whichever way it was weighed
  pub step_release : {T : Type 0} (meets : T → R → Bool) (w : Result (Unit {0}) SheetFault) → Weighed G p.numbers ss nodes l w → Sound G p.numbers ss nodes →
      Step G meets p.numbers planning ss nodes (Release l) (release_answer G (release_end G p w)) (release_numbers G (release_end G p w)) (release_state G (release_end G p w)) ss nodes
  step_release meets (Ok u) any sound =
      let none : None ≡ release_refusal l (tally p.numbers planning ss) = any.own sound in
      let says : answer G meets (tally p.numbers planning ss) (Release l) ≡ Done = sym (ap (λ (o : Option SheetFault). unless o Done) none) in
      record {
        answered = sym says;
        stands = sym (ap (λ (a : Answer R). left G meets a (tally p.numbers planning ss) (Release l)) says);
        sound = record { size = sound.size; lawful = sound.lawful; basic = sound.basic; spent = omega arith; tree = sound.tree };
      }
  step_release meets (Err f) any sound =
      let some : Some f ≡ release_refusal l (tally p.numbers planning ss) = any.own sound in
      asked G meets p.numbers planning ss nodes (Release l) (Refused f) (Refused f) refl (sym (ap (λ (o : Option SheetFault). unless o Done) some)) refl sound

  pub freed_by : (w : Result (Unit {0}) SheetFault) → Weighed G p.numbers ss nodes l w → Freed G p ss nodes l (release_end G p w)
  freed_by w any = record {
    any = (w, refl, any);
    step = step_release no_test w any;
    accepted = λ sound none. exactly w (any.own sound) none;
  }
    where
      exactly : (w : Result (Unit {0}) SheetFault) → result_err w ≡ release_refusal l (tally p.numbers planning ss) → bad_limits (length ss) l ≡ None →
          ((q : Released) → release_end G p w ≡ Ok q → AllLimitsKept p.numbers ss l) × (AllLimitsKept p.numbers ss l → release_end G p w ≡ Ok (record { numbers = freed G p.numbers }))
      exactly (Ok u) own none = (λ q is. (kept_exactly G p.numbers ss nodes l none).0 (sym own), λ kept. refl)
      exactly (Err f) own none = (λ q is. absurd (true≢false (ap is_err is)), λ kept. absurd (some_none (own ∙ (kept_exactly G p.numbers ss nodes l none).1 kept)))
