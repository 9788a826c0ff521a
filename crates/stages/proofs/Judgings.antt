-- An edit carried out, and the deck after it judged.
use Rattle.std.proofs.Common.{◌≡◌, ℕ, true, List, length, None, Ok, Option, Result, sym, refl, ap, ◌∙◌, subst}
use Rattle.std.proofs.lemmas.Bool.{eq-eqb}
use Rattle.std.specs.Option.{option_or}
use Rattle.std.specs.Result.{result_err}
use Rattle.book.specs.declared.basic.Basic.{Basic}
use Rattle.book.specs.declared.station.Station.{Station}
use Rattle.book.specs.Refusals.{answer}
use Rattle.kinds.specs.declared.kind.Kind.{Ghosts}
use Rattle.book.specs.declared.frame.Frame.{Frame}
use Rattle.book.specs.declared.vertex.Vertex.{Vertex}
use Rattle.book.specs.declared.zone.Zone.{Zone}
use Rattle.book.specs.Refusals.{limits_refusal}
use Rattle.tree.specs.Widths.{fits}
use Rattle.judging.specs.declared.occasion.Occasion.TheVariants.{Stage}
use Rattle.judging.specs.Judgement.{judgement}
use Rattle.judging.specs.Judges.{Judges}
use Rattle.edits.specs.declared.edit.Edit.{Edit}
use Rattle.edits.specs.declared.fault.SheetFault.{SheetFault}
use Rattle.edits.specs.Carrying.{Carried}
use Rattle.edits.specs.Edits.{edited, edit_refusal, memory_refusal}
use Rattle.stages.specs.Steps.{Ready, JudgedAfter}
use Rattle.stages.proofs.Masses.{only_carried}

-- a memory that fits is not refused
memory_fits : (n m : ℕ) → fits n m ≡ true → memory_refusal n n m ≡ None
memory_fits n m fit = rw (eq-eqb n n refl, fit) refl

module _ {K R : Type 0} (G : Ghosts K R) (b : Basic) (zs : List Zone) (fs : List Frame) (vs : List Vertex) (ss : List Station) (nodes : List K) (e : Edit) (ss' : List Station) (nodes' : List K) where
  edit_only : {r : Result (Unit {0}) SheetFault} → Carried G (length ss) ss nodes e r ss' nodes' → Ready G b zs fs vs ss nodes → result_err r ≡ edit_refusal ss e
  edit_only carried ready =
      carried.refuses ∙ ap (λ (o : Option SheetFault). option_or o (edit_refusal ss e)) (memory_fits (length ss) (length nodes) ready.tree.fitting)

  pub judged_done : (v : ℕ × ℕ) → Carried G (length ss) ss nodes e (Ok tt) ss' nodes' → Judges G b ss' nodes' zs fs vs Stage v → JudgedAfter G b zs fs vs ss nodes e (Ok v) ss' nodes'
  judged_done v carried judges = record {
    only = only_carried G carried;
    done = λ none. carried.done refl;
    value = λ ready.
        let only = only_carried G carried in
        let fit = subst (λ (n : ℕ). limits_refusal n zs fs ≡ None) (sym only.alike.long) ready.limits in
        let said = judges.value (only.lawful ready.lawful) ready.basic fit (only.tree ready.lawful ready.tree) in
        let on = ap (λ (xs : List Station). judgement Stage b xs zs fs vs) (carried.done refl) in
        ap (λ (w : ℕ × ℕ). answer {F = SheetFault} None w) (said ∙ on) ∙ ap (λ (o : Option SheetFault). answer o (judgement Stage b (edited e ss) zs fs vs)) (edit_only carried ready);
  }
