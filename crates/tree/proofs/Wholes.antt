-- A segment tree's nodes are over the stations under them, and nodes that are so make a segment tree.
use Rattle.std.proofs.Common.{◌≡◌, ℕ, zero, suc, ◌+◌, ◌*◌, ◌/◌, ◌^◌, ◌<◌, ◌≤◌, true, eqb, leb, List, length, get_or, pos, None, sym, ap, ◌∙◌, subst, ap₂, ⊎_elim, arith}
use native.Mathlib.Nat.{pow-succ'}
use Rattle.std.proofs.lemmas.Bool.{cases_lt, and_parts, leb-true, eqb-true}
use Rattle.book.specs.declared.station.Station.{Station}
use Rattle.kinds.specs.declared.kind.Kind.{Ghosts}
use Rattle.tree.specs.Trees.{Place, part, SegmentTree, TreesRead}
use Rattle.tree.specs.Under.{Whole}
use Rattle.tree.specs.Widths.{width, deck, fits}
use Rattle.tree.proofs.Places.{at_inner, fore_child, aft_child, place_low, inner_low, leaf_place, place_of}
use Rattle.tree.proofs.Overs.{Laws, part_past, part_one, part_add}
use Rattle.tree.proofs.Widening.{widths_are_least}

-- what it says that m nodes are those of a deck of n stations
pub record Fitting (n m : ℕ) : Type 0 where
  pub some : 0 < n
  pub few : n ≤ 256
  pub twice : m ≡ 2 * width n
  pub half : m / 2 ≡ width n
  pub room : n ≤ width n
  pub height : ℕ
  pub power : width n ≡ 2 ^ height

pub fitting : (n m : ℕ) → fits n m ≡ true → Fitting n m
fitting n m e =
    let (d, q) = and_parts (deck n) (eqb m (2 * width n)) e in
    let (a, b) = and_parts (leb 1 n) (leb n 256) d in
    let few = leb-true _ _ b in
    let twice = eqb-true _ _ q in
    let w = widths_are_least n few in
    record {
      some = leb-true _ _ a;
      few = few;
      twice = twice;
      half = omega arith;
      room = w.room;
      height = w.height;
      power = w.power;
    }

-- some station, where a default is wanted
no_load : Station
no_load = record { arm = pos 0; floor = 0; fore = None; aft = None; mass = 0 }

module _ {K R : Type 0} (G : Ghosts K R) (laws : Laws G) where
  node_reads : (nodes : List K) (ss : List Station) → SegmentTree G nodes ss → (h i p : ℕ) (d : K) → Place (width (length ss)) h i p → G.reading (get_or nodes i d) ≡ part G p (2 ^ h) ss
  node_reads nodes ss t zero i p d pl =
      let at : width (length ss) + p ≡ i = omega (arith, pl.at) in
      let inside : p < width (length ss) = omega (arith, pl.inside) in
      subst (λ (x : ℕ). G.reading (get_or nodes x d) ≡ part G p 1 ss) at
      (⊎_elim
      (λ (lt : p < length ss). t.leaf p d no_load lt ∙ sym (part_one G laws p no_load ss lt))
      (λ (le : length ss ≤ p). t.past p d le inside ∙ sym (part_past G p 1 ss le))
      (cases_lt p (length ss)))
  node_reads nodes ss t (suc h) i p d pl =
      let two : 2 ^ h + 2 ^ h ≡ 2 ^ suc h = omega (arith, pow-succ' 2 h) in
      t.inner i d (place_low pl) (inner_low pl)
      ∙ ap₂ G.joined (node_reads nodes ss t h (2 * i) p d (fore_child pl)) (node_reads nodes ss t h (2 * i + 1) (p + 2 ^ h) d (aft_child pl))
      ∙ sym (part_add G laws p (2 ^ h) (2 ^ h) ss)
      ∙ ap (λ (c : ℕ). part G p c ss) two

  -- every node of a segment tree is over the stations under it
  pub whole : (nodes : List K) (ss : List Station) → SegmentTree G nodes ss → Whole G nodes (width (length ss)) ss
  whole nodes ss t h i p d pl = record { reads = node_reads nodes ss t h i p d pl; counts = t.stands h i p d pl }

  -- and nodes that are so make one
  pub tree : (nodes : List K) (ss : List Station) → fits (length ss) (length nodes) ≡ true → Whole G nodes (width (length ss)) ss → SegmentTree G nodes ss
  tree nodes ss fit all = record {
    fitting = fit;
    inner = λ i d low high.
        let f = fitting (length ss) (length nodes) fit in
        let high' : i < 2 ^ f.height = omega (arith, f.power) in
        let (h, p, pl) = place_of f.height i low (omega arith) in
        by_level i d high h p (subst (λ (w : ℕ). Place w h i p) (sym f.power) pl);
    leaf = λ k d e lt.
        let f = fitting (length ss) (length nodes) fit in
        let inside : k < width (length ss) = omega (arith, f.room) in
        let pl : Place (width (length ss)) 0 (width (length ss) + k) k = leaf_place inside in
        (all 0 (width (length ss) + k) k d pl).reads ∙ part_one G laws k e ss lt;
    past = λ k d le lt. let pl : Place (width (length ss)) 0 (width (length ss) + k) k = leaf_place lt in (all 0 (width (length ss) + k) k d pl).reads ∙ part_past G k 1 ss le;
    stands = λ h i p d pl. (all h i p d pl).counts;
  }
    where
      by_level : (i : ℕ) (d : K) → i < width (length ss) → (h p : ℕ) → Place (width (length ss)) h i p → G.reading (get_or nodes i d) ≡ G.joined (G.reading (get_or nodes (2 * i) d)) (G.reading (get_or nodes (2 * i + 1) d))
      by_level i d high zero p pl = absurd (at_inner pl high)
      by_level i d high (suc h) p pl =
          let two : 2 ^ suc h ≡ 2 ^ h + 2 ^ h = omega (arith, pow-succ' 2 h) in
          (all (suc h) i p d pl).reads
          ∙ ap (λ (c : ℕ). part G p c ss) two
          ∙ part_add G laws p (2 ^ h) (2 ^ h) ss
          ∙ sym (ap₂ G.joined (all h (2 * i) p d (fore_child pl)).reads (all h (2 * i + 1) (p + 2 ^ h) d (aft_child pl)).reads)

  pub trees_read : TreesRead G
  trees_read = record {
    under = node_reads;
    fixed = λ one other ss t u i d low high.
        let f = fitting (length ss) (length one) t.fitting in
        let (h, p, pl) = place_of f.height i low (omega (arith, f.twice, f.power)) in
        let pl' = subst (λ (w : ℕ). Place w h i p) (sym f.power) pl in
        node_reads one ss t h i p d pl' ∙ sym (node_reads other ss u h i p d pl');
  }
