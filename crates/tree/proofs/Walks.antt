-- A range's two parts on their way up the tree: the forward one grows aft, the aft one forward, until they meet.
use Rattle.std.proofs.Common.{◌≡◌, ℕ, suc, ◌+◌, ◌-◌, ◌*◌, ◌/◌, ◌%◌, ◌^◌, ◌<◌, ◌≤◌, List, length, sym, ap, ◌∙◌, subst, add-mul, arith}
use Rattle.std.proofs.lemmas.Nat.{mul-le}
use Rattle.book.specs.declared.station.Station.{Station}
use Rattle.kinds.specs.declared.kind.Kind.{Ghosts}
use Rattle.tree.specs.Trees.{Place}
use Rattle.tree.specs.Under.{Over, Joins, JoinsNode, NodeJoins, Whole}
use Rattle.tree.proofs.Overs.{Laws, over_join}
use Rattle.tree.proofs.Places.{double}

-- at height h: fore has the first m places of from..to, aft the last n, and l..r is what is left between them
pub record Walk {K R : Type 0} (G : Ghosts K R) (w : ℕ) (ss : List Station) (from to h l r : ℕ) (fore aft : K) : Type 0 where
  pub m : ℕ
  pub b : ℕ
  pub n : ℕ
  pub at_l : l * 2 ^ h ≡ w + (from + m)
  pub at_r : r * 2 ^ h ≡ w + b
  pub order : from + m ≤ b
  pub ends : b + n ≡ to
  pub fore_over : Over G fore from m ss
  pub aft_over : Over G aft b n ss

half_up : (l h : ℕ) → l % 2 ≡ 0 → l / 2 * 2 ^ suc h ≡ l * 2 ^ h
half_up l h even =
    let e : 2 * (l / 2) ≡ l = omega arith in
    sym (double (l / 2) h) ∙ ap (λ (x : ℕ). x * 2 ^ h) e

module _ {K R : Type 0} (G : Ghosts K R) (laws : Laws G) (nodes : List K) (w : ℕ) (ss : List Station) (few : length ss ≤ 256) (whole : Whole G nodes w ss) (from to : ℕ) (within : to ≤ w) where
  -- node l goes behind the forward part
  pub step_left : (h l r : ℕ) (fore aft v : K) → l < r → JoinsNode G fore nodes l v → Walk G w ss from to h l r fore aft → Walk G w ss from to h (l + 1) r v aft
  step_left h l r fore aft v lt (x, is, j) s =
      let le : (l + 1) * 2 ^ h ≤ r * 2 ^ h = mul-le (l + 1) (2 ^ h) r (2 ^ h) (omega arith) (omega arith) in
      let e : (l + 1) * 2 ^ h ≡ w + (from + (s.m + 2 ^ h)) = omega (arith, add-mul l 1 (2 ^ h), s.at_l) in
      let pl : Place w h l (from + s.m) = record { at = s.at_l; inside = omega (arith, s.at_r, s.ends) } in
      record {
        m = s.m + 2 ^ h;
        b = s.b;
        n = s.n;
        at_l = e;
        at_r = s.at_r;
        order = omega (arith, s.at_r);
        ends = s.ends;
        fore_over = over_join G laws fore x v from s.m (2 ^ h) ss few s.fore_over (subst (λ (y : K). Over G y (from + s.m) (2 ^ h) ss) (sym is) (whole h l (from + s.m) x pl)) j;
        aft_over = s.aft_over;
      }

  -- node r - 1 goes before the aft part
  pub step_right : (h l r : ℕ) (fore aft v : K) → l < r → NodeJoins G nodes (r - 1) aft v → Walk G w ss from to h l r fore aft → Walk G w ss from to h l (r - 1) fore v
  step_right h l r fore aft v lt (x, is, j) s =
      let up : r - 1 + 1 ≡ r = omega arith in
      let le : l * 2 ^ h ≤ (r - 1) * 2 ^ h = mul-le l (2 ^ h) (r - 1) (2 ^ h) (omega arith) (omega arith) in
      let e0 : (r - 1) * 2 ^ h + 2 ^ h ≡ r * 2 ^ h = omega (arith, add-mul (r - 1) 1 (2 ^ h), ap (λ (x : ℕ). x * 2 ^ h) up) in
      let b' : s.b - 2 ^ h + 2 ^ h ≡ s.b = omega (arith, s.at_r, s.at_l) in
      let e : (r - 1) * 2 ^ h ≡ w + (s.b - 2 ^ h) = omega (arith, s.at_r, s.at_l) in
      let pl : Place w h (r - 1) (s.b - 2 ^ h) = record { at = e; inside = omega (arith, s.ends) } in
      record {
        m = s.m;
        b = s.b - 2 ^ h;
        n = 2 ^ h + s.n;
        at_l = s.at_l;
        at_r = e;
        order = omega (arith, s.at_l);
        ends = omega (arith, s.ends);
        fore_over = s.fore_over;
        aft_over = over_join G laws x aft v (s.b - 2 ^ h) (2 ^ h) s.n ss few
            (subst (λ (y : K). Over G y (s.b - 2 ^ h) (2 ^ h) ss) (sym is) (whole h (r - 1) (s.b - 2 ^ h) x pl))
            (subst (λ (y : ℕ). Over G aft y s.n ss) (sym b') s.aft_over) j;
      }

module _ {K R : Type 0} (G : Ghosts K R) (w : ℕ) (ss : List Station) (from to : ℕ) where
  pub step_up : (h l r : ℕ) (fore aft : K) → l % 2 ≡ 0 → r % 2 ≡ 0 → Walk G w ss from to h l r fore aft → Walk G w ss from to (suc h) (l / 2) (r / 2) fore aft
  step_up h l r fore aft el er s = record {
    m = s.m;
    b = s.b;
    n = s.n;
    at_l = half_up l h el ∙ s.at_l;
    at_r = half_up r h er ∙ s.at_r;
    order = s.order;
    ends = s.ends;
    fore_over = s.fore_over;
    aft_over = s.aft_over;
  }

  -- where they meet
  pub walk_ends : (h l r : ℕ) (fore aft v : K) → Laws G → length ss ≤ 256 → r ≤ l → Joins G fore aft v → Walk G w ss from to h l r fore aft → Over G v from (to - from) ss
  walk_ends h l r fore aft v laws few le j s =
      let le' : r * 2 ^ h ≤ l * 2 ^ h = mul-le r (2 ^ h) l (2 ^ h) le (omega arith) in
      let meet : s.b ≡ from + s.m = omega (arith, s.at_l, s.at_r, s.order) in
      let all : s.m + s.n ≡ to - from = omega (arith, s.ends) in
      subst (λ (x : ℕ). Over G v from x ss) all (over_join G laws fore aft v from s.m s.n ss few s.fore_over (subst (λ (x : ℕ). Over G aft x s.n ss) meet s.aft_over) j)
