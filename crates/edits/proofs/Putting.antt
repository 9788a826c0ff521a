-- A mass that is put at a station, and the nodes after it.
use Rattle.std.proofs.Common.{◌≡◌, ℕ, ◌<◌, ◌≤◌, true, List, length, get_or, is_some, Some, None, Result, sym, refl, ap, ◌∙◌, subst, ⊎_elim}
use Rattle.std.proofs.ByRecursion.{All-get_or}
use Rattle.std.proofs.lemmas.List.{length-set, get_or-set_same, set_past}
use Rattle.std.proofs.lemmas.Bool.{cases_lt, lt-ltb, le-ltb}
use Rattle.book.specs.declared.station.Station.{Station}
use Rattle.book.specs.Fields.{Lawful}
use Rattle.kinds.specs.declared.kind.Kind.{Ghosts}
use Rattle.kinds.specs.Folds.{AllLawful}
use Rattle.tree.specs.declared.misfit.Misfit.{Misfit}
use Rattle.tree.specs.declared.misfit.Misfit.TheVariants.{NoStation}
use Rattle.tree.specs.Calls.{station_refusal, Renewed}
use Rattle.tree.specs.Trees.{SegmentTree}
use Rattle.tree.specs.Widths.{fits}
use Rattle.edits.specs.Carrying.{Put}
use Rattle.edits.specs.Edits.{nowhere, station_at, with_mass, put}

-- a station of a deck whose nodes fit is not refused, and one past it is
not_refused : (n m k : ℕ) → fits n m ≡ true → k < n → station_refusal n m k ≡ None
not_refused n m k fit lt = rw (fit, lt-ltb k n lt) refl

past_refused : (n m k : ℕ) → fits n m ≡ true → n ≤ k → station_refusal n m k ≡ Some NoStation
past_refused n m k fit le = rw (fit, le-ltb k n le) refl

module _ {K R : Type 0} (G : Ghosts K R) (ss : List Station) (nodes : List K) (k mass : ℕ) where
  pub put_done : (ss' : List Station) (nodes' : List K) → ss' ≡ put ss k mass → length nodes' ≡ length nodes → (r : Result (Unit {0}) Misfit) × Renewed G nodes nodes' ss' k r → Put G ss nodes k mass ss' nodes'
  put_done ss' nodes' is long (r, renewed) =
      let s = with_mass (station_at ss k) mass in
      record {
        stations = is;
        tree = λ (lawful : AllLawful ss') (t : SegmentTree G nodes ss).
            ⊎_elim
            (λ (lt : k < length ss).
            let same : length ss' ≡ length ss = ap length is ∙ length-set ss k s in
            let fit : fits (length ss') (length nodes) ≡ true = subst (λ (n : ℕ). fits n (length nodes) ≡ true) (sym same) t.fitting in
            let here : k < length ss' = subst (λ (n : ℕ). k < n) (sym same) lt in
            let good : Lawful s = subst Lawful (ap (λ (xs : List Station). get_or xs k nowhere) is ∙ get_or-set_same ss k s nowhere lt) (All-get_or Lawful ss' k nowhere here lawful) in
            renewed.tree (renewed.refuses ∙ not_refused (length ss') (length nodes) k fit here) ss s is good t)
            (λ (past : length ss ≤ k).
            let same : ss' ≡ ss = is ∙ set_past ss k s past in
            let refused : station_refusal (length ss') (length nodes) k ≡ Some NoStation =
            subst (λ (xs : List Station). station_refusal (length xs) (length nodes) k ≡ Some NoStation) (sym same) (past_refused (length ss) (length nodes) k t.fitting past) in
            let kept : nodes' ≡ nodes = renewed.untouched (ap is_some (renewed.refuses ∙ refused)) in
            subst (λ (xs : List Station). SegmentTree G nodes' xs) (sym same) (subst (λ (ns : List K). SegmentTree G ns ss) (sym kept) t))
            (cases_lt k (length ss));
        beside = renewed.beside;
        long = long;
      }
