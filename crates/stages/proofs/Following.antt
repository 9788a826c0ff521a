-- One stage of the definition is one step: on to the next record, or the end.
use Rattle.std.proofs.Common.{◌≡◌, ℕ, zero, suc, ◌+◌, ◌<◌, ◌≤◌, Bool, true, false, cond, eqb, leb, List, length, drop, Some, None, Ok, Err, Option, Result, sym, refl, ap, ◌∙◌, subst, arith}
use Rattle.std.proofs.lemmas.Bool.{cond-false, lt-leb}
use Rattle.std.proofs.lemmas.Bool.Decides.{nat_tests}
use Rattle.std.specs.Result.{result_err}
use Rattle.records.specs.declared.call.Call.{Call}
use Rattle.records.specs.declared.call.Call.TheVariants.{Load, Unload, Shift, Change}
use Rattle.records.specs.declared.fault.RecordFault.{RecordFault}
use Rattle.records.specs.Reading.{record_in}
use Rattle.book.specs.declared.basic.Basic.{Basic}
use Rattle.book.specs.declared.station.Station.{Station}
use Rattle.book.specs.Refusals.{answer}
use Rattle.book.specs.declared.frame.Frame.{Frame}
use Rattle.book.specs.declared.vertex.Vertex.{Vertex}
use Rattle.book.specs.declared.zone.Zone.{Zone}
use Rattle.kinds.specs.declared.kind.Kind.{Ghosts}
use Rattle.judging.specs.declared.occasion.Occasion.TheVariants.{Stage}
use Rattle.judging.specs.Judgement.{judgement}
use Rattle.edits.specs.declared.edit.Edit.{Edit}
use Rattle.edits.specs.declared.fault.SheetFault.{SheetFault}
use Rattle.edits.specs.declared.fault.SheetFault.TheVariants.{TooManyStages}
use Rattle.edits.specs.Edits.{edited, edit_refusal}
use Rattle.stages.specs.declared.ending.Ending.{Ending}
use Rattle.stages.specs.declared.ending.Ending.TheVariants.{AllKept, Broken, Refused}
use Rattle.stages.specs.Plans.{number_refusal, of_record, unless, planned}
use Rattle.stages.specs.Staging.{after_checks, after_record, ending_from}
use Rattle.stages.specs.Steps.{step_of, Ready, JudgedAfter, Stepped}
use Rattle.stages.proofs.Masses.{only_self}

-- a step, with what follows it
abbrev pub follow : Result ℕ Ending → (ℕ → Ending) → Ending
follow (Ok at) rest = rest at
follow (Err e) rest = e

cond_next : (t : Bool) (e : Ending) (next n : ℕ) → cond t (Ok next) (Err e) ≡ Ok n → next ≡ n
cond_next true e next n is = cc
cond_next false e next n is = cc

went : (stage next n : ℕ) (j : Result (ℕ × ℕ) SheetFault) → step_of stage next j ≡ Ok n → result_err j ≡ None
went stage next n (Ok v) is = refl
went stage next n (Err f) is = cc

whither : (stage next n : ℕ) (j : Result (ℕ × ℕ) SheetFault) → step_of stage next j ≡ Ok n → next ≡ n
whither stage next n (Ok v) is = cond_next (eqb v.0 0) (Broken stage v.0 v.1) next n is
whither stage next n (Err f) is = cc

cond_follow : (t : Bool) (e : Ending) (next : ℕ) (rest : ℕ → Ending) → cond t (rest next) e ≡ follow (cond t (Ok next) (Err e)) rest
cond_follow true e next rest = refl
cond_follow false e next rest = refl

-- the number of a stage
in_number : (stage : ℕ) (p : Result (Edit × ℕ) SheetFault) → stage < 256 → unless (number_refusal stage) p ≡ p
in_number stage p lt = grind (arith, nat_tests)

past_number : (stage : ℕ) (p : Result (Edit × ℕ) SheetFault) → 256 ≤ stage → unless (number_refusal stage) p ≡ Err TooManyStages
past_number stage p le = grind (arith, nat_tests)

module _ (b : Basic) (zs : List Zone) (fs : List Frame) (vs : List Vertex) (bytes : List ℕ) where
  -- what follows what a stage is to carry out
  abbrev pub after_plan : ℕ → List Station → Result (Edit × ℕ) SheetFault → (ℕ → List Station → Ending) → Ending
  after_plan stage ss (Err f) rest = Refused stage f
  after_plan stage ss (Ok p) rest = after_checks b zs fs vs bytes stage (edit_refusal ss p.0) (judgement Stage b (edited p.0 ss) zs fs vs) (rest p.1 (edited p.0 ss))

  by_call : (stage at next : ℕ) (ss : List Station) (c : Call) (rest : ℕ → List Station → Ending) → after_record b zs fs vs bytes stage at ss (Ok (c, next)) rest ≡ after_plan stage ss (of_record bytes at (Ok (c, next))) rest
  by_call stage at next ss (Load station kg) rest = refl
  by_call stage at next ss (Unload station kg) rest = refl
  by_call stage at next ss (Shift from to kg) rest = refl
  by_call stage at next ss (Change station kg) rest = refl

  by_record : (stage at : ℕ) (ss : List Station) (found : Result (Call × ℕ) RecordFault) (rest : ℕ → List Station → Ending) → after_record b zs fs vs bytes stage at ss found rest ≡ after_plan stage ss (of_record bytes at found) rest
  by_record stage at ss (Err f) rest = refl
  by_record stage at ss (Ok p) rest = by_call stage at p.1 ss p.0 rest

  by_checks : (stage next : ℕ) (o : Option SheetFault) (v : ℕ × ℕ) (rest : ℕ → Ending) → after_checks b zs fs vs bytes stage o v (rest next) ≡ follow (step_of stage next (answer o v)) rest
  by_checks stage next (Some f) v rest = refl
  by_checks stage next None v rest = cond_follow (eqb v.0 0) (Broken stage v.0 v.1) next rest

  -- a stage with a record that is there
  pub opened_record : (stage at more : ℕ) (ss : List Station) → at < length bytes → ending_from b zs fs vs bytes (suc more) stage at ss ≡ after_plan stage ss (of_record bytes at (record_in (drop at bytes) at)) (ending_from b zs fs vs bytes more (suc stage))
  opened_record stage at more ss lt =
      let found = record_in (drop at bytes) at in
      let rest = ending_from b zs fs vs bytes more (suc stage) in
      cond-false (leb (length bytes) at) AllKept (after_record b zs fs vs bytes stage at ss found rest) (lt-leb (length bytes) at lt)
      ∙ by_record stage at ss found rest

  opened : (stage at more : ℕ) (ss : List Station) → at < length bytes → stage + suc more ≡ 256 → ending_from b zs fs vs bytes (suc more) stage at ss ≡ after_plan stage ss (planned stage bytes at) (ending_from b zs fs vs bytes more (suc stage))
  opened stage at more ss lt count =
      let found = record_in (drop at bytes) at in
      let low : stage < 256 = omega arith in
      opened_record stage at more ss lt
      ∙ ap (λ (p : Result (Edit × ℕ) SheetFault). after_plan stage ss p (ending_from b zs fs vs bytes more (suc stage))) (sym (in_number stage (of_record bytes at found) low))

  pub shut : (stage at : ℕ) (ss : List Station) → at < length bytes → ending_from b zs fs vs bytes zero stage at ss ≡ Refused stage TooManyStages
  shut stage at ss lt = grind (arith, nat_tests)

  -- no bytes left
  pub all_kept : (stage at more : ℕ) (ss : List Station) → length bytes ≤ at → ending_from b zs fs vs bytes more stage at ss ≡ AllKept
  all_kept stage at zero ss le = grind (arith, nat_tests)
  all_kept stage at (suc more) ss le = grind (arith, nat_tests)

  -- a stage whose record or number is refused
  refused_ends : (stage at more : ℕ) (ss : List Station) (f : SheetFault) → planned stage bytes at ≡ Err f → at < length bytes → stage + more ≡ 256 → ending_from b zs fs vs bytes more stage at ss ≡ Refused stage f
  refused_ends stage at zero ss f is lt count =
      let high : 256 ≤ stage = omega arith in
      let past = past_number stage (of_record bytes at (record_in (drop at bytes) at)) high in
      shut stage at ss lt ∙ cc
  refused_ends stage at (suc more) ss f is lt count =
      opened stage at more ss lt count ∙ ap (λ (p : Result (Edit × ℕ) SheetFault). after_plan stage ss p (ending_from b zs fs vs bytes more (suc stage))) is

  -- a stage whose edit is carried out or refused
  opened_step : (stage at more next : ℕ) (ss : List Station) (e : Edit) → planned stage bytes at ≡ Ok (e, next) → at < length bytes → stage + suc more ≡ 256 →
      ending_from b zs fs vs bytes (suc more) stage at ss ≡ follow (step_of stage next (answer (edit_refusal ss e) (judgement Stage b (edited e ss) zs fs vs))) (λ n. ending_from b zs fs vs bytes more (suc stage) n (edited e ss))
  opened_step stage at more next ss e is lt count =
      let rest = ending_from b zs fs vs bytes more (suc stage) in
      opened stage at more ss lt count
      ∙ ap (λ (p : Result (Edit × ℕ) SheetFault). after_plan stage ss p rest) is
      ∙ by_checks stage next (edit_refusal ss e) (judgement Stage b (edited e ss) zs fs vs) (λ n. rest n (edited e ss))

  module _ {K R : Type 0} (G : Ghosts K R) (stage at : ℕ) (ss : List Station) (nodes : List K) where
    pub stepped_refused : (f : SheetFault) → Err f ≡ planned stage bytes at → Stepped G b zs fs vs bytes stage at ss nodes (Err (Refused stage f)) ss nodes
    stepped_refused f is = record {
      only = only_self G ss nodes;
      further = λ next e. cc;
      goes = λ next more e. cc;
      ends = λ x more e ready lt count. refused_ends stage at more ss f (sym is) lt count ∙ cc;
    }

    module _ (e : Edit) (next : ℕ) (is : Ok (e, next) ≡ planned stage bytes at) (later : (stage < 256) × (at < next)) (j : Result (ℕ × ℕ) SheetFault) (ss' : List Station) (nodes' : List K) (judged : JudgedAfter G b zs fs vs ss nodes e j ss' nodes') where
      by_step : (r : Result ℕ Ending) (more : ℕ) → step_of stage next j ≡ r → Ready G b zs fs vs ss nodes → at < length bytes → stage + suc more ≡ 256 → ending_from b zs fs vs bytes (suc more) stage at ss ≡ follow r (λ n. ending_from b zs fs vs bytes more (suc stage) n (edited e ss))
      by_step r more step ready lt count =
          opened_step stage at more next ss e (sym is) lt count
          ∙ ap (λ (x : Result (ℕ × ℕ) SheetFault). follow (step_of stage next x) (λ n. ending_from b zs fs vs bytes more (suc stage) n (edited e ss))) (sym (judged.value ready))
          ∙ ap (λ (x : Result ℕ Ending). follow x (λ n. ending_from b zs fs vs bytes more (suc stage) n (edited e ss))) step

      by_end : (x : Ending) (more : ℕ) → step_of stage next j ≡ Err x → Ready G b zs fs vs ss nodes → at < length bytes → stage + more ≡ 256 → ending_from b zs fs vs bytes more stage at ss ≡ x
      by_end x zero step ready lt count = let low = later.0 in absurd (omega arith)
      by_end x (suc more) step ready lt count = by_step (Err x) more step ready lt count

      pub stepped : Stepped G b zs fs vs bytes stage at ss nodes (step_of stage next j) ss' nodes'
      stepped = record {
        only = judged.only;
        further = λ n step. (later.0, subst (λ (x : ℕ). at < x) (whither stage next n j step) later.1);
        goes = λ n more step ready lt count.
            by_step (Ok n) more step ready lt count
            ∙ ap (λ (xs : List Station). ending_from b zs fs vs bytes more (suc stage) n xs) (sym (judged.done (went stage next n j step)));
        ends = by_end;
      }
