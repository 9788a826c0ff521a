-- A whole replay: refused, or opened and run.
use Rattle.std.proofs.Common.{◌≡◌, ℕ, ◌<◌, ◌≤◌, Bool, leb, List, length, map, take, is_err, Some, Ok, Err, sym, refl, ap, ◌∙◌, subst, true≢false}
use Rattle.std.proofs.lemmas.Bool.{cond-true, cond-false, le-leb, lt-leb}
use Rattle.std.specs.Option.{option_map}
use Rattle.book.specs.declared.basic.Basic.{Basic}
use Rattle.book.specs.declared.station.Station.{Station}
use Rattle.kinds.specs.declared.kind.Kind.{Ghosts}
use Rattle.tree.specs.Trees.{SegmentTree}
use Rattle.tree.proofs.Overs.{Laws}
use Rattle.tree.proofs.Refusing.{ok_same}
use Rattle.tree.proofs.Wholes.{trees_read}
use Rattle.edits.specs.declared.fault.SheetFault.{SheetFault}
use Rattle.sheet.specs.declared.answer.Answer.{Answer}
use Rattle.sheet.specs.declared.call.Call.{Call}
use Rattle.sheet.specs.declared.numbers.Numbers.{Numbers}
use Rattle.sheet.specs.declared.states.Planning.{Planning}
use Rattle.sheet.specs.declared.states.Sheet.{Sheet}
use Rattle.runs.specs.declared.unrun.Unrun.TheVariants.{NoRoom, Refused}
use Rattle.runs.specs.Law.{Ran, RunFrom, run_refusal, Begun}
use Rattle.sheet.specs.Memory.{numbers_of, state_of, tally, said}
use Rattle.sheet.specs.Opening.{opening_refusal, Opened}
use Rattle.sheet.specs.Tally.{Tally, planning, opened, answers, steps}
use Rattle.runs.proofs.Everywhere.{every_step}

module _ {K R T C S : Type 0} (G : Ghosts K R) (laws : Laws G) (meets : T → R → Bool) (asked : List C → List (Call T)) (sheet : S → Sheet) (b : Basic) (ss : List Station) (nodes : List K) (cs : List C) (before : List (Answer K)) where
  pub begun_no_room : length before < length cs → Begun G meets asked sheet b ss nodes cs before (Err NoRoom) ss nodes before
  begun_no_room lt = record {
    refuses = sym (cond-false (leb (length cs) (length before)) (option_map Refused (opening_refusal b ss (length nodes))) (Some NoRoom) (lt-leb _ _ lt));
    untouched = λ _. (refl, refl, refl);
    ran = λ last ok. absurd (true≢false (ap is_err ok));
    always = every_step G laws meets;
  }

  module _ (room : length cs ≤ length before) where
    refusal_is : run_refusal G meets (length before) (length cs) (opening_refusal b ss (length nodes)) ≡ option_map Refused (opening_refusal b ss (length nodes))
    refusal_is = cond-true (leb (length cs) (length before)) (option_map Refused (opening_refusal b ss (length nodes))) (Some NoRoom) (le-leb _ _ room)

    pub begun_refused : (f : SheetFault) (nodes' : List K) → Opened G b ss nodes (Err f) nodes' → Begun G meets asked sheet b ss nodes cs before (Err (Refused f)) ss nodes' before
    begun_refused f nodes' began = record {
      refuses = ap (option_map Refused) began.refuses ∙ sym refusal_is;
      untouched = λ _. (refl, began.untouched refl, refl);
      ran = λ last ok. absurd (true≢false (ap is_err ok));
      always = every_step G laws meets;
    }

    pub begun_ran : (p : Planning) (nodes1 : List K) (last : S) (ss' : List Station) (nodes' : List K) (heard : List (Answer K)) → length (asked cs) ≡ length cs → Opened G b ss nodes (Ok p) nodes1 →
        RunFrom G meets p.numbers planning ss (asked cs) (take (length cs) heard) (numbers_of (sheet last)) (state_of (sheet last)) ss' nodes' → Begun G meets asked sheet b ss nodes cs before (Ok last) ss' nodes' heard
    begun_ran p nodes1 last ss' nodes' heard long began run =
        let first : tally p.numbers planning ss ≡ opened b ss = ap (λ (m : Numbers). tally m planning ss) (began.sound p refl).0 in
        let stands : tally (numbers_of (sheet last)) (state_of (sheet last)) ss' ≡ steps G meets (opened b ss) (asked cs) = run.stands ∙ ap (λ (t : Tally). steps G meets t (asked cs)) first in
        let ran : Ran G meets b ss (asked cs) heard (sheet last) ss' nodes' = record {
          answered = ap (λ (n : ℕ). map (said G.reading) (take n heard)) long ∙ run.answered ∙ ap (λ (t : Tally). answers G meets t (asked cs)) first;
          stands = stands;
          tree = subst (λ (xs : List Station). SegmentTree G nodes' xs) (ap (λ (t : Tally). t.stations) stands) run.sound.tree;
          fresh = λ other tree i d low high. (trees_read G laws).fixed nodes' other ss' run.sound.tree tree i d low high;
        } in
        record {
          refuses = ap (option_map Refused) began.refuses ∙ sym refusal_is;
          untouched = λ some. absurd (true≢false (sym some));
          ran = λ x ok. subst (λ (y : S). Ran G meets b ss (asked cs) heard (sheet y) ss' nodes') (ok_same ok) ran;
          always = every_step G laws meets;
        }
