-- Edits change masses only.
use Rattle.std.proofs.Common.{◌≡◌, ℕ, ◌+◌, ◌-◌, ◌/◌, List, length, is_some, Some, None, Option, Result, sym, refl, ap, ◌∙◌, subst, arith}
use Rattle.std.proofs.lemmas.List.{length-set}
use Rattle.std.proofs.lemmas.Grind.{common_steps}
use Rattle.std.specs.Result.{result_err}
use Rattle.book.specs.declared.station.Station.{Station}
use Rattle.kinds.specs.declared.kind.Kind.{Ghosts}
use Rattle.tree.specs.Trees.{Above}
use Rattle.edits.specs.declared.edit.Edit.{Edit}
use Rattle.edits.specs.declared.fault.SheetFault.{SheetFault}
use Rattle.edits.specs.Carrying.{AboveNamed, Carried}
use Rattle.edits.specs.Edits.{station_at, with_mass, put, lighter, heavier, edited}
use Rattle.stages.specs.Steps.{Alike, OnlyMasses}

pub alike_self : (ss : List Station) → Alike ss ss
alike_self ss = record { long = refl; same = λ k m. refl }

pub alike_then : {was ss ss' : List Station} → Alike was ss → Alike ss ss' → Alike was ss'
alike_then first second = record {
  long = second.long ∙ first.long;
  same = λ k m. second.same k m ∙ first.same k m;
}

-- the record at station j after a mass was put at station k
put_same : (ss : List Station) (k mass j m : ℕ) → with_mass (station_at (put ss k mass) j) m ≡ with_mass (station_at ss j) m
put_same ss k mass j m = grind (arith, common_steps)

pub alike_put : (ss : List Station) (k mass : ℕ) → Alike ss (put ss k mass)
alike_put ss k mass = record { long = length-set ss k _; same = put_same ss k mass }

alike_lighter : (ss : List Station) (off : Option ℕ) (kg : ℕ) → Alike ss (lighter off kg ss)
alike_lighter ss None kg = alike_self ss
alike_lighter ss (Some k) kg = alike_put ss k ((station_at ss k).mass - kg)

alike_heavier : (ss : List Station) (onto : Option ℕ) (kg : ℕ) → Alike ss (heavier onto kg ss)
alike_heavier ss None kg = alike_self ss
alike_heavier ss (Some k) kg = alike_put ss k ((station_at ss k).mass + kg)

pub alike_edited : (e : Edit) (ss : List Station) → Alike ss (edited e ss)
alike_edited e ss = alike_then (alike_lighter ss e.off e.kg) (alike_heavier (lighter e.off e.kg ss) e.onto e.kg)

-- node 0 is above no station
pub not_above : (j : ℕ) → Above 0 j → ⊥
not_above j a = let lt = a.0 in omega arith

none_above : (m : ℕ) (named : Option ℕ) → AboveNamed m 0 named → ⊥
none_above m None a = a
none_above m (Some k) a = not_above (m / 2 + k) a

module _ {K R : Type 0} (G : Ghosts K R) where
  pub only_self : (ss : List Station) (nodes : List K) → OnlyMasses G ss nodes ss nodes
  only_self ss nodes = record { alike = alike_self ss; lawful = λ all. all; tree = λ all t. t; first_node = λ d. refl }

  pub only_then : {ss ss1 ss2 : List Station} {nodes nodes1 nodes2 : List K} → OnlyMasses G ss nodes ss1 nodes1 → OnlyMasses G ss1 nodes1 ss2 nodes2 → OnlyMasses G ss nodes ss2 nodes2
  only_then first second = record {
    alike = alike_then first.alike second.alike;
    lawful = λ all. second.lawful (first.lawful all);
    tree = λ all t. second.tree (first.lawful all) (first.tree all t);
    first_node = λ d. second.first_node d ∙ first.first_node d;
  }

  module _ {n : ℕ} {ss : List Station} {nodes : List K} {e : Edit} {r : Result (Unit {0}) SheetFault} {ss' : List Station} {nodes' : List K} (carried : Carried G n ss nodes e r ss' nodes') where
    alike_carried : (o : Option SheetFault) → result_err r ≡ o → Alike ss ss'
    alike_carried None is = subst (λ (xs : List Station). Alike ss xs) (sym (carried.done is)) (alike_edited e ss)
    alike_carried (Some f) is = subst (λ (xs : List Station). Alike ss xs) (sym (carried.untouched (ap is_some is)).0) (alike_self ss)

    pub only_carried : OnlyMasses G ss nodes ss' nodes'
    only_carried = record {
      alike = alike_carried (result_err r) refl;
      lawful = carried.lawful;
      tree = carried.tree;
      first_node = λ d. carried.beside 0 d (none_above (length nodes) e.off) (none_above (length nodes) e.onto);
    }
