-- A change as a step of the tally, and when it is accepted.
use Rattle.std.proofs.Common.{◌≡◌, ℕ, ◌+◌, ◌≤◌, Bool, cond, eqb, leb, List, length, ℤ, nat_abs, is_err, Some, None, Ok, Err, Option, Result, sym, refl, ap, ◌∙◌, subst, true≢false}
use Rattle.std.proofs.lemmas.Bool.{leb-true, le-leb, eqb-true, cond-true}
use Rattle.std.specs.Option.{option_or}
use Rattle.std.specs.Result.{result_err}
use Rattle.book.specs.declared.station.Station.{Station}
use Rattle.book.specs.declared.limits.Limits.{Limits}
use Rattle.book.specs.Envelopes.{polygon}
use Rattle.kinds.specs.declared.kind.Kind.{Ghosts}
use Rattle.kinds.specs.Folds.{AllLawful}
use Rattle.judging.specs.declared.occasion.Occasion.TheVariants.{Standing}
use Rattle.judging.proofs.Keeping.{code_0_is_kept}
use Rattle.edits.specs.declared.fault.SheetFault.{SheetFault}
use Rattle.edits.specs.declared.fault.SheetFault.TheVariants.{OverAllowance, Breaks}
use Rattle.edits.specs.Edits.{edited, edit_refusal}
use Rattle.edits.proofs.Carries.{some_none, first_none, rest_none, test_held, lawful_edited}
use Rattle.sheet.specs.declared.answer.Answer.{Answer}
use Rattle.sheet.specs.declared.answer.Answer.TheVariants.{Done, Refused}
use Rattle.sheet.specs.declared.call.Call.TheVariants.{Change}
use Rattle.sheet.specs.declared.numbers.Numbers.{Numbers}
use Rattle.sheet.specs.Memory.{tally, Sound, Step, no_test, edit_answer}
use Rattle.sheet.specs.Tally.{released, changing, unless, refusal_by, verdict_by, broken_by, change_refusal, answer, left}
use Rattle.sheet.specs.Weighing.{bad_limits, AllLimitsKept, Corrected, spending, told, Changed}
use Rattle.sheet.proofs.Corrections.{past_limits, past_edit}
use Rattle.sheet.proofs.Stepping.{length_edited}

module _ {K R : Type 0} (G : Ghosts K R) (m : Numbers) (ss : List Station) (nodes : List K) (l : Limits) (k : ℕ) (kg : ℤ) (ss' : List Station) (nodes' : List K) where
  abbrev allowance_refusal : Option SheetFault
  allowance_refusal = cond (leb (m.used + nat_abs kg) m.basic.allowance) None (Some OverAllowance)

  abbrev breaking : Option SheetFault
  breaking = broken_by Breaks (verdict_by l (tally m released ss) (edited (changing k kg) ss))

  -- what was not refused was within every check
  pub all_passed : change_refusal l (tally m released ss) k kg ≡ None → (edit_refusal ss (changing k kg) ≡ None) × (m.used + nat_abs kg ≤ m.basic.allowance) × AllLimitsKept m (edited (changing k kg) ss) l
  all_passed none =
      let after_limits = rest_none (refusal_by l (tally m released ss)) (option_or (edit_refusal ss (changing k kg)) (option_or allowance_refusal breaking)) none in
      let after_edit = rest_none (edit_refusal ss (changing k kg)) (option_or allowance_refusal breaking) after_limits in
      let v = verdict_by l (tally m released ss) (edited (changing k kg) ss) in (
        first_none (edit_refusal ss (changing k kg)) (option_or allowance_refusal breaking) after_limits,
        leb-true _ _ (test_held (leb (m.used + nat_abs kg) m.basic.allowance) OverAllowance (first_none allowance_refusal breaking after_edit)),
        code_0_is_kept.kept Standing m.basic (edited (changing k kg) ss) l.zones.now l.frames.now (polygon l.envelope.now)
            (eqb-true v.0 0 (test_held (eqb v.0 0) (Breaks v.0) (rest_none allowance_refusal breaking after_edit))),
      )

  -- and what is within every check is not refused
  pub none_refuses : bad_limits (length ss) l ≡ None → edit_refusal ss (changing k kg) ≡ None → m.used + nat_abs kg ≤ m.basic.allowance → AllLimitsKept m (edited (changing k kg) ss) l → change_refusal l (tally m released ss) k kg ≡ None
  none_refuses fine clear within kept =
      past_limits G m ss nodes l k kg fine ∙ past_edit G m ss nodes l k kg clear
      ∙ ap (λ (o : Option SheetFault). option_or o breaking) (cond-true (leb (m.used + nat_abs kg) m.basic.allowance) None (Some OverAllowance) (le-leb _ _ within))
      ∙ ap (broken_by Breaks) (code_0_is_kept.only Standing m.basic (edited (changing k kg) ss) l.zones.now l.frames.now (polygon l.envelope.now) kept)

  pub step_change : {T : Type 0} (meets : T → R → Bool) (c : Result ℕ SheetFault) → Corrected G m ss nodes l k kg c ss' nodes' → Sound G m ss nodes →
      Step G meets m released ss nodes (Change l (record { station = k; kg = kg })) (edit_answer (told G c)) (spending G m c) released ss' nodes'
  step_change meets (Ok used) any sound =
      let none : None ≡ change_refusal l (tally m released ss) k kg = any.own sound in
      let (clear, within, kept) = all_passed (sym none) in
      let (is, now_is) = any.done used refl in
      let says : answer G meets (tally m released ss) (Change l (record { station = k; kg = kg })) ≡ Done = sym (ap (λ (o : Option SheetFault). unless o Done) none) in
      record {
        answered = sym says;
        stands = ap (λ (xs : List Station). tally (spending G m (Ok used)) released xs) now_is ∙ ap (λ (u : ℕ). tally (spending G m (Ok u)) released (edited (changing k kg) ss)) is ∙ sym (ap (λ (a : Answer R). left G meets a (tally m released ss) (Change l (record { station = k; kg = kg }))) says);
        sound = record {
          size = sound.size ∙ sym (ap length now_is ∙ length_edited (changing k kg) ss);
          lawful = subst AllLawful (sym now_is) (lawful_edited ss (changing k kg) clear sound.lawful);
          basic = sound.basic;
          spent = subst (λ (u : ℕ). u ≤ m.basic.allowance) (sym is) within;
          tree = any.tree sound;
        };
      }
  step_change meets (Err f) any sound =
      let some : Some f ≡ change_refusal l (tally m released ss) k kg = any.own sound in
      let same = any.untouched refl in
      let says : answer G meets (tally m released ss) (Change l (record { station = k; kg = kg })) ≡ Refused f = sym (ap (λ (o : Option SheetFault). unless o Done) some) in
      record {
        answered = sym says;
        stands = ap (tally m released) same ∙ sym (ap (λ (a : Answer R). left G meets a (tally m released ss) (Change l (record { station = k; kg = kg }))) says);
        sound = record {
          size = sound.size ∙ sym (ap length same);
          lawful = subst AllLawful (sym same) sound.lawful;
          basic = sound.basic;
          spent = sound.spent;
          tree = any.tree sound;
        };
      }

  pub changed_by : (c : Result ℕ SheetFault) → Corrected G m ss nodes l k kg c ss' nodes' → Changed G m ss nodes l k kg (told G c) (spending G m c) ss' nodes'
  changed_by c any = record {
    any = (c, refl, refl, any);
    step = step_change no_test c any;
    accepted = λ sound fine clear. exactly c (any.own sound) fine clear;
  }
    where
      exactly : (c : Result ℕ SheetFault) → result_err c ≡ change_refusal l (tally m released ss) k kg → bad_limits (length ss) l ≡ None → edit_refusal ss (changing k kg) ≡ None →
          (told G c ≡ Ok tt → (m.used + nat_abs kg ≤ m.basic.allowance) × AllLimitsKept m (edited (changing k kg) ss) l)
          × (m.used + nat_abs kg ≤ m.basic.allowance → AllLimitsKept m (edited (changing k kg) ss) l → told G c ≡ Ok tt)
      exactly (Ok used) own fine clear = (λ ok. let (a, b, d) = all_passed (sym own) in (b, d), λ within kept. refl)
      exactly (Err f) own fine clear = (λ ok. absurd (true≢false (ap is_err ok)), λ within kept. absurd (some_none (own ∙ none_refuses fine clear within kept)))
