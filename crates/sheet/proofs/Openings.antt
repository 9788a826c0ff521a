-- What an opening that is not refused leaves.
use Rattle.std.proofs.Common.{◌≡◌, ℕ, true, ◌&&◌, eqb, List, length, get_or, is_some, is_err, Some, None, Ok, Err, Option, Result, sym, refl, ap, ◌∙◌, subst, true≢false, arith}
use Rattle.std.proofs.ByRecursion.{All-from_get_or}
use Rattle.std.proofs.lemmas.Bool.{and_parts, eqb-true, cond-true}
use Rattle.std.specs.Option.{option_or, option_map}
use Rattle.std.specs.Result.{result_err}
use Rattle.book.specs.declared.basic.Basic.{Basic}
use Rattle.book.specs.declared.fault.BookFault.TheVariants.{StationField}
use Rattle.book.specs.declared.station.Station.{Station}
use Rattle.book.specs.Fields.{station_in, Lawful}
use Rattle.book.specs.Refusals.{First, first_failing, count_refusal, station_refusal, basic_refusal}
use Rattle.book.proofs.Bounds.{lawful}
use Rattle.book.proofs.Firsts.{names_first}
use Rattle.kinds.specs.declared.kind.Kind.{Ghosts}
use Rattle.kinds.specs.Folds.{AllLawful}
use Rattle.tree.specs.declared.misfit.Misfit.{Misfit}
use Rattle.tree.specs.declared.misfit.Misfit.TheVariants.{OtherLength}
use Rattle.tree.specs.Calls.{Filled}
use Rattle.tree.specs.Widths.{fits}
use Rattle.tree.proofs.Refusing.{ok_same}
use Rattle.edits.specs.declared.fault.SheetFault.{SheetFault}
use Rattle.edits.specs.declared.fault.SheetFault.TheVariants.{Book}
use Rattle.edits.specs.declared.fault.SheetFault.TheVariants as sheet_faults
use Rattle.edits.specs.Edits.{nowhere, memory_refusal}
use Rattle.edits.proofs.Carries.{test_held, first_none, rest_none}
use Rattle.sheet.specs.declared.states.Planning.{Planning}
use Rattle.sheet.specs.Memory.{Sound}
use Rattle.sheet.specs.Opening.{opening_refusal, first_numbers, Opened}

pub none_from_mapped : {X Y : Type 0} (f : X → Y) (o : Option X) → option_map f o ≡ None → o ≡ None
none_from_mapped f None e = refl
none_from_mapped f (Some x) e = absurd (true≢false (ap is_some e))

-- no station is refused, so each is lawful
pub all_lawful : (ss : List Station) → station_refusal ss ≡ None → AllLawful ss
all_lawful ss none =
    let first : First station_in ss None = subst (λ (o : Option ℕ). First station_in ss o) (none_from_mapped StationField (first_failing station_in 0 ss) none) (names_first station_in ss) in
    All-from_get_or Lawful ss nowhere (λ i lt. lawful (get_or ss i nowhere) (first i nowhere lt))

-- memory that is not refused is the sheet's own
pub memory_own : (n s m : ℕ) → memory_refusal n s m ≡ None → (s ≡ n) × (fits n m ≡ true)
memory_own n s m none = let (a, b) = and_parts (eqb s n) (fits n m) (test_held (eqb s n && fits n m) sheet_faults.OtherLength none) in (eqb-true s n a, b)

module _ {K R : Type 0} (G : Ghosts K R) (b : Basic) (ss : List Station) (nodes : List K) where
  pub opened_done : (nodes' : List K) (r : Result (Unit {0}) Misfit) → opening_refusal b ss (length nodes) ≡ None → Filled G nodes nodes' ss r → Opened G b ss nodes (Ok (record { numbers = first_numbers b ss })) nodes'
  opened_done nodes' r none filled =
      let p = option_map Book (count_refusal ss) in
      let q = memory_refusal (length ss) (length ss) (length nodes) in
      let s = option_map Book (station_refusal ss) in
      let t = option_map Book (basic_refusal b) in
      let none1 = rest_none p (option_or q (option_or s t)) none in
      let none2 = rest_none q (option_or s t) none1 in
      let fit = (memory_own (length ss) (length ss) (length nodes) (first_none q (option_or s t) none1)).1 in
      let good = all_lawful ss (none_from_mapped Book (station_refusal ss) (first_none s t none2)) in
      let kept : result_err r ≡ None = filled.refuses ∙ cond-true (fits (length ss) (length nodes)) None (Some OtherLength) fit in
      record {
        refuses = sym none;
        sound = λ p is. (
          sym (ap (λ (x : Planning). x.numbers) (ok_same is)),
          subst (λ (x : Planning). Sound G x.numbers ss nodes') (ok_same is) (record {
            size = refl;
            lawful = good;
            basic = none_from_mapped Book (basic_refusal b) (rest_none s t none2);
            spent = omega arith;
            tree = filled.tree kept good;
          }),
        );
        first_node = filled.first_node;
        untouched = λ some. absurd (true≢false (sym some));
      }

  pub opened_refused : (f : SheetFault) → opening_refusal b ss (length nodes) ≡ Some f → Opened G b ss nodes (Err f) nodes
  opened_refused f is = record {
    refuses = sym is;
    sound = λ m ok. absurd (true≢false (ap is_err ok));
    first_node = λ d. refl;
    untouched = λ _. refl;
  }
