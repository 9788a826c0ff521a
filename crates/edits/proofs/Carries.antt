-- An edit that is carried out, step by step, and one that is refused.
use Rattle.std.proofs.Common.{◌≡◌, ℕ, ◌+◌, ◌-◌, ◌^◌, ◌<◌, ◌≤◌, Bool, true, false, cond, eqb, leb, ◌≢◌, List, length, is_some, Some, None, Ok, Err, Option, sym, refl, ap, ◌∙◌, subst, ⊎_elim, true≢false, arith}
use Rattle.std.proofs.ByRecursion.{All-get_or, All-set}
use Rattle.std.proofs.lemmas.List.{get_or-set_other, get_or_past, set_past}
use Rattle.std.proofs.lemmas.Bool.{cases_Bool, cases_lt, cond-true, cond-false, leb-true, eq-eqb}
use Rattle.std.specs.Option.{MatchOption, option_or}
use Rattle.std.specs.Result.{result_err}
use Rattle.book.specs.declared.station.Station.{Station}
use Rattle.book.specs.Fields.{Lawful}
use Rattle.book.specs.Refusals.{answer}
use Rattle.kinds.specs.declared.kind.Kind.{Ghosts}
use Rattle.kinds.specs.Folds.{AllLawful}
use Rattle.edits.specs.declared.edit.Edit.{Edit}
use Rattle.edits.specs.declared.fault.SheetFault.{SheetFault}
use Rattle.edits.specs.declared.fault.SheetFault.TheVariants.{SameStation, TooHeavy}
use Rattle.edits.specs.Carrying.{AboveNamed, Moved, Carried}
use Rattle.edits.specs.Edits.{nowhere, station_at, with_mass, put, lighter, heavier, edited, of_named, absent, kilograms_refusal, same_refusal, holds_less, exceeds, edit_refusal, memory_refusal}

-- an answer's refusal is the one that was defined
pub refused_by : {X F : Type 0} (o : Option F) (x : X) → result_err (answer o x) ≡ o
refused_by None x = refl
refused_by (Some f) x = refl

pub some_none : {X : Type 0} {x : X} → ◌≡◌ {A = Option X} (Some x) None → ⊥
some_none e = true≢false (ap is_some e)

-- no refusal, so the test held
pub test_held : {X : Type 0} (b : Bool) (x : X) → ◌≡◌ {A = Option X} (cond b None (Some x)) None → b ≡ true
test_held b x e = ⊎_elim (λ (t : b ≡ true). t) (λ (f : b ≡ false). absurd (some_none (sym (cond-false b None (Some x) f) ∙ e))) (cases_Bool b)

pub first_none : {X : Type 0} (p q : Option X) → option_or p q ≡ None → p ≡ None
first_none None q e = refl
first_none (Some x) q e = absurd (some_none e)

pub rest_none : {X : Type 0} (p q : Option X) → option_or p q ≡ None → q ≡ None
rest_none None q e = e
rest_none (Some x) q e = absurd (some_none e)

-- the checks that an edit passed
pub record Passed (ss : List Station) (e : Edit) : Type 0 where
  pub kilograms : kilograms_refusal e.kg ≡ None
  pub apart : same_refusal e.off e.onto ≡ None
  pub holds : of_named e.off (holds_less ss e.kg) ≡ None
  pub bears : of_named e.onto (exceeds ss e.kg) ≡ None

pub passed : (ss : List Station) (e : Edit) → edit_refusal ss e ≡ None → Passed ss e
passed ss e none =
    let f5 = of_named e.off (holds_less ss e.kg) in
    let f6 = of_named e.onto (exceeds ss e.kg) in
    let r4 = option_or (same_refusal e.off e.onto) (option_or f5 f6) in
    let r3 = option_or (kilograms_refusal e.kg) r4 in
    let h2 = rest_none (of_named e.off (absent ss)) (option_or (of_named e.onto (absent ss)) r3) none in
    let h3 = rest_none (of_named e.onto (absent ss)) r3 h2 in
    let h4 = rest_none (kilograms_refusal e.kg) r4 h3 in
    let h5 = rest_none (same_refusal e.off e.onto) (option_or f5 f6) h4 in
    record {
      kilograms = first_none (kilograms_refusal e.kg) r4 h3;
      apart = first_none (same_refusal e.off e.onto) (option_or f5 f6) h4;
      holds = first_none f5 f6 h5;
      bears = rest_none f5 f6 h5;
    }

-- taking off leaves what the other station holds
pub still_bears : (ss : List Station) (kg : ℕ) (off onto : Option ℕ) → same_refusal off onto ≡ None → of_named onto (exceeds ss kg) ≡ None → of_named onto (exceeds (lighter off kg ss) kg) ≡ None
still_bears ss kg None onto apart bears = bears
still_bears ss kg (Some a) None apart bears = refl
still_bears ss kg (Some a) (Some b) apart bears =
    let ne : b ≢ a = λ e. some_none (sym (cond-true (eqb a b) (Some (SameStation b)) None (eq-eqb a b (sym e))) ∙ apart) in
    let same : station_at (lighter (Some a) kg ss) b ≡ station_at ss b = get_or-set_other ss a b _ nowhere ne in
    rw same bears

lawful_mass : (s : Station) (m : ℕ) → m ≤ 30000 → Lawful s → Lawful (with_mass s m)
lawful_mass s m le good = record {
  arm_low = good.arm_low;
  arm_high = good.arm_high;
  floor_high = good.floor_high;
  fore_high = good.fore_high;
  aft_high = good.aft_high;
  mass_high = le;
}

lawful_put : (ss : List Station) (k m : ℕ) → m ≤ 30000 → AllLawful ss → AllLawful (put ss k m)
lawful_put ss k m le all =
    ⊎_elim
    (λ (lt : k < length ss). All-set Lawful ss k _ (lawful_mass (station_at ss k) m le (All-get_or Lawful ss k nowhere lt all)) all)
    (λ (past : length ss ≤ k). subst AllLawful (sym (set_past ss k _ past)) all)
    (cases_lt k (length ss))

mass_small : (ss : List Station) (k : ℕ) → AllLawful ss → (station_at ss k).mass ≤ 30000
mass_small ss k all =
    ⊎_elim
    (λ (lt : k < length ss). (All-get_or Lawful ss k nowhere lt all).mass_high)
    (λ (past : length ss ≤ k). let e : (station_at ss k).mass ≡ 0 = ap (λ (s : Station). s.mass) (get_or_past ss k nowhere past) in omega arith)
    (cases_lt k (length ss))

pub lawful_lighter : (ss : List Station) (off : Option ℕ) (kg : ℕ) → AllLawful ss → AllLawful (lighter off kg ss)
lawful_lighter ss None kg all = all
lawful_lighter ss (Some k) kg all = let small = mass_small ss k all in lawful_put ss k ((station_at ss k).mass - kg) (omega arith) all

pub lawful_heavier : (ss : List Station) (onto : Option ℕ) (kg : ℕ) → of_named onto (exceeds ss kg) ≡ None → AllLawful ss → AllLawful (heavier onto kg ss)
lawful_heavier ss None kg bears all = all
lawful_heavier ss (Some k) kg bears all = lawful_put ss k ((station_at ss k).mass + kg) (leb-true _ _ (test_held (leb ((station_at ss k).mass + kg) 30000) (TooHeavy k) bears)) all

-- an edit that passes its checks leaves lawful stations
pub lawful_edited : (ss : List Station) (e : Edit) → edit_refusal ss e ≡ None → AllLawful ss → AllLawful (edited e ss)
lawful_edited ss e none all =
    let p = passed ss e none in
    lawful_heavier (lighter e.off e.kg ss) e.onto e.kg (still_bears ss e.kg e.off e.onto p.apart p.bears) (lawful_lighter ss e.off e.kg all)

-- kilograms off a station that is named, where what it is left is known
pub taken_off : {Q : ℕ → Type 0} (off : Option ℕ) (kg : ℕ) (ss ss' : List Station) → MatchOption off (ss' ≡ ss) Q → ((k : ℕ) → Q k → ss' ≡ put ss k ((station_at ss k).mass - kg)) → ss' ≡ lighter off kg ss
taken_off None kg ss ss' same left = same
taken_off (Some k) kg ss ss' now left = left k now

-- and onto one that bears them, where what it holds then is known
pub put_onto : {Q : ℕ → Type 0} (onto : Option ℕ) (kg : ℕ) (ss ss' : List Station) → MatchOption onto (ss' ≡ ss) Q → ((k : ℕ) → Q k → (station_at ss k).mass + kg < 2 ^ 32 → ss' ≡ put ss k ((station_at ss k).mass + kg)) →
    of_named onto (exceeds ss kg) ≡ None → ss' ≡ heavier onto kg ss
put_onto None kg ss ss' same held bears = same
put_onto (Some k) kg ss ss' now held bears =
    let le : (station_at ss k).mass + kg ≤ 30000 = leb-true _ _ (test_held (leb ((station_at ss k).mass + kg) 30000) (TooHeavy k) bears) in
    held k now (omega arith)

module _ {K R : Type 0} (G : Ghosts K R) (n : ℕ) (ss : List Station) (nodes : List K) (e : Edit) where
  pub carried_refused : (f : SheetFault) → option_or (memory_refusal n (length ss) (length nodes)) (edit_refusal ss e) ≡ Some f → Carried G n ss nodes e (Err f) ss nodes
  carried_refused f is = record {
    refuses = sym is;
    done = λ none. absurd (some_none none);
    untouched = λ _. (refl, refl);
    lawful = λ all. all;
    tree = λ all t. t;
    beside = λ i d off onto. refl;
  }

  pub carried_done : (ss1 ss2 : List Station) (nodes1 nodes2 : List K) → option_or (memory_refusal n (length ss) (length nodes)) (edit_refusal ss e) ≡ None →
      ss1 ≡ lighter e.off e.kg ss → Moved G ss nodes e.off ss1 nodes1 →
      (of_named e.onto (exceeds ss1 e.kg) ≡ None → ss2 ≡ heavier e.onto e.kg ss1) → Moved G ss1 nodes1 e.onto ss2 nodes2 →
      Carried G n ss nodes e (Ok tt) ss2 nodes2
  carried_done ss1 ss2 nodes1 nodes2 none first off second onto =
      let checks = rest_none (memory_refusal n (length ss) (length nodes)) (edit_refusal ss e) none in
      let p = passed ss e checks in
      let bears : of_named e.onto (exceeds ss1 e.kg) ≡ None =
      subst (λ (xs : List Station). of_named e.onto (exceeds xs e.kg) ≡ None) (sym first) (still_bears ss e.kg e.off e.onto p.apart p.bears) in
      let is : ss2 ≡ edited e ss = second bears ∙ ap (heavier e.onto e.kg) first in
      let good : AllLawful ss → AllLawful ss2 = λ all. subst AllLawful (sym is) (lawful_edited ss e checks all) in
      record {
        refuses = sym none;
        done = λ _. is;
        untouched = λ some. absurd (true≢false (sym some));
        lawful = good;
        tree = λ all t. onto.tree (good all) (off.tree (subst AllLawful (sym first) (lawful_lighter ss e.off e.kg all)) t);
        beside = λ i d out_off out_onto. onto.beside i d (λ a. out_onto (subst (λ (m : ℕ). AboveNamed m i e.onto) off.long a)) ∙ off.beside i d out_off;
      }

-- a check that went on found nothing, and one that stopped found its fault
pub went_on : {X F : Type 0} (o : Option F) (x y : X) → Ok y ≡ answer o x → o ≡ None
went_on o x y e = sym (refused_by o x) ∙ sym (ap result_err e)

pub stopped : {X F : Type 0} (o : Option F) (x : X) (f : F) → Err f ≡ answer o x → o ≡ Some f
stopped o x f e = sym (refused_by o x) ∙ sym (ap result_err e)
