-- Masses put back one by one, until the records are those that were.
use Rattle.std.proofs.Common.{◌≡◌, ℕ, ◌+◌, ◌<◌, ◌≤◌, List, length, get_or, sym, ap, ◌∙◌, subst, arith}
use Rattle.std.proofs.ByRecursion.{All-get_or, All-set}
use Rattle.std.proofs.lemmas.List.{get_or_default, length-map, same_lists}
use Rattle.std.proofs.Math.ListN.{get_or-map}
use Rattle.std.proofs.lemmas.Grind.{common_steps}
use Rattle.book.specs.declared.station.Station.{Station}
use Rattle.book.specs.Fields.{Lawful}
use Rattle.kinds.specs.declared.kind.Kind.{Ghosts}
use Rattle.kinds.specs.Folds.{AllLawful}
use Rattle.tree.specs.Trees.{SegmentTree}
use Rattle.edits.specs.Carrying.{Put}
use Rattle.edits.specs.Edits.{nowhere, station_at, with_mass}
use Rattle.stages.specs.Steps.{Alike, masses}
use Rattle.stages.proofs.Masses.{alike_then, alike_put}

-- the mass that was at a station
pub mass_was : (was : List Station) (aboard : List ℕ) (k : ℕ) → aboard ≡ masses was → get_or aboard k 0 ≡ (station_at was k).mass
mass_was was aboard k is = ap (λ (l : List ℕ). get_or l k 0) is ∙ get_or-map (λ (s : Station). s.mass) was k nowhere

pub long_was : (was : List Station) (aboard : List ℕ) → aboard ≡ masses was → length aboard ≡ length was
long_was was aboard is = ap length is ∙ length-map was (λ (s : Station). s.mass)

module _ {K R : Type 0} (G : Ghosts K R) where
  module _ (was ss : List Station) (nodes : List K) where
    -- the records before k are those that were
    pub record BackTo (k : ℕ) (ss' : List Station) (nodes' : List K) : Type 0 where
      pub alike : Alike was ss'
      pub back : (j : ℕ) → j < k → station_at ss' j ≡ station_at was j
      pub lawful : AllLawful was → AllLawful ss → AllLawful ss'
      pub tree : AllLawful was → AllLawful ss → SegmentTree G nodes ss → SegmentTree G nodes' ss'

    module _ (k mass : ℕ) (ss1 : List Station) (nodes1 : List K) (ss2 : List Station) (nodes2 : List K) (so_far : BackTo k ss1 nodes1) (is : mass ≡ (station_at was k).mass) (more : Put G ss1 nodes1 k mass ss2 nodes2) (lt : k < length was) where
      one : with_mass (station_at ss1 k) mass ≡ station_at was k
      one = so_far.alike.same k mass ∙ ap (with_mass (station_at was k)) is

      room : k < length ss1
      room = subst (λ (n : ℕ). k < n) (sym so_far.alike.long) lt

      back_here : (j : ℕ) → j < k + 1 → station_at ss2 j ≡ station_at was j
      back_here j low =
          let put_at = more.stations in
          let own = one in
          let lt1 = room in
          let before = so_far.back j in
          grind (arith, common_steps)

      good : AllLawful was → AllLawful ss → AllLawful ss2
      good first all =
          let fine : Lawful (with_mass (station_at ss1 k) mass) = subst Lawful (sym one) (All-get_or Lawful was k nowhere lt first) in
          subst AllLawful (sym more.stations) (All-set Lawful ss1 k _ fine (so_far.lawful first all))

      pub back_more : BackTo (k + 1) ss2 nodes2
      back_more = record {
        alike = alike_then so_far.alike (subst (Alike ss1) (sym more.stations) (alike_put ss1 k mass));
        back = back_here;
        lawful = good;
        tree = λ first all t. more.tree (good first all) (so_far.tree first all t);
      }

    pub back_all : (k : ℕ) (ss' : List Station) (nodes' : List K) → length was ≤ k → BackTo k ss' nodes' → ss' ≡ was
    back_all k ss' nodes' le all =
        same_lists ss' was all.alike.long
        (λ j d lt. let low : j < length was = subst (λ (n : ℕ). j < n) all.alike.long lt in get_or_default ss' j d nowhere lt ∙ all.back j (omega arith) ∙ get_or_default was j nowhere d low)
