-- A node joined anew from the two below it.
use Rattle.std.proofs.Common.{◌≡◌, ℕ, zero, suc, ◌+◌, ◌*◌, ◌^◌, ◌<◌, ◌≤◌, ◌≢◌, List, length, get_or, set, sym, subst, ⊎_elim, arith, rules}
use borrow.Rule.Slice.PartMut.{put_mid}
use native.Mathlib.Nat.{pow-succ'}
use Rattle.std.proofs.lemmas.List.{get_or-set_same, get_or-set_other, places}
use Rattle.std.proofs.lemmas.Nat.{pow_pos}
use Rattle.std.proofs.lemmas.Bool.{cases_eq}
use Rattle.book.specs.declared.station.Station.{Station}
use Rattle.kinds.specs.declared.kind.Kind.{Ghosts}
use Rattle.tree.specs.Trees.{Place}
use Rattle.tree.specs.Under.{Over, ChildrenJoin, Right}
use Rattle.tree.proofs.Overs.{Laws, over_join}
use Rattle.tree.proofs.Places.{at_leaf, at_inner, fore_child, aft_child}

-- the part of a list that was lent from a on
pub getD_lent : {A : Type 0} (xs ys : List A) (a n k : ℕ) (d : A) → a ≤ length xs → k < length ys → get_or (put_mid a n xs ys) (a + k) d ≡ get_or ys k d
getD_lent xs ys a n k d le lt = search (rules, places)

-- and before it nothing changed
pub getD_before_lent : {A : Type 0} (xs ys : List A) (a n k : ℕ) (d : A) → a ≤ length xs → k < a → get_or (put_mid a n xs ys) k d ≡ get_or xs k d
getD_before_lent xs ys a n k d le lt = search (rules, places)

-- right leaves are right nodes from w on
pub leaves_right : {K R : Type 0} (G : Ghosts K R) (nodes : List K) (w : ℕ) (ss : List Station) → ((k : ℕ) (d : K) → k < w → Over G (get_or nodes (w + k) d) k 1 ss) → Right G (λ j. w ≤ j) nodes w ss
leaves_right G nodes w ss leaves h j p d pl from =
    let (flat, at) = at_leaf h j p pl from in
    rw (at, flat) (leaves p d (omega (arith, pl.inside, pow_pos h)))

module _ {K R : Type 0} (G : Ghosts K R) (laws : Laws G) (nodes : List K) (w : ℕ) (ss : List Station) (few : length ss ≤ 256) (long : 2 * w ≤ length nodes) where
  -- node i written anew is over the stations under it, if the two below it are
  pub over_children : (h i p : ℕ) (v : K) → i < w → Place w h i p → ChildrenJoin G nodes i v → ((h p : ℕ) (d : K) → Place w h (2 * i) p → Over G (get_or nodes (2 * i) d) p (2 ^ h) ss) → ((h p : ℕ) (d : K) → Place w h (2 * i + 1) p → Over G (get_or nodes (2 * i + 1) d) p (2 ^ h) ss) → Over G v p (2 ^ h) ss
  over_children zero i p v lt pl j fore aft = absurd (at_inner pl lt)
  over_children (suc h) i p v lt pl (x, y, is_x, is_y, j) fore aft =
      let two : 2 ^ h + 2 ^ h ≡ 2 ^ suc h = omega (arith, pow-succ' 2 h) in
      subst (λ (c : ℕ). Over G v p c ss) two
      (over_join G laws x y v p (2 ^ h) (2 ^ h) ss few
      (subst (λ (n : K). Over G n p (2 ^ h) ss) (sym is_x) (fore h p x (fore_child pl)))
      (subst (λ (n : K). Over G n (p + 2 ^ h) (2 ^ h) ss) (sym is_y) (aft h (p + 2 ^ h) y (aft_child pl))) j)

  -- so where the nodes of P are right, and P holds of both below i, the nodes of Q are right once i is written
  pub right_more : (P Q : ℕ → Type 0) (i : ℕ) (v : K) → i < w → ChildrenJoin G nodes i v → P (2 * i) → P (2 * i + 1) → ((j : ℕ) → j ≢ i → Q j → P j) → Right G P nodes w ss → Right G Q (set nodes i v) w ss
  right_more P Q i v lt join fore aft fewer all h j p d pl q =
      ⊎_elim
      (λ (e : j ≡ i).
      rw (e, get_or-set_same nodes i v d (omega arith))
      (over_children h i p v lt (subst (λ (x : ℕ). Place w h x p) e pl) join (λ h' p' d' pl'. all h' (2 * i) p' d' pl' fore) (λ h' p' d' pl'. all h' (2 * i + 1) p' d' pl' aft)))
      (λ (ne : j ≢ i). rw (get_or-set_other nodes i j v d ne) (all h j p d pl (fewer j ne q)))
      (cases_eq j i)
