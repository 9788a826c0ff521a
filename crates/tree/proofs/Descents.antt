-- The way down of a search for the first station that meets a test, from node 1 to a leaf.
use Rattle.std.proofs.Common.{◌≡◌, ℕ, zero, suc, ◌+◌, ◌-◌, ◌*◌, ◌^◌, ◌<◌, ◌≤◌, Bool, true, false, List, length, get_or, take, drop, Some, None, sym, ap, ◌∙◌, subst, ⊎_elim, zero-add, arith}
use native.Mathlib.Nat.{pow-succ'}
use Rattle.std.proofs.ByRecursion.{All-take, All-drop}
use Rattle.std.proofs.lemmas.Bool.{cases_lt, both_ways, false_from_ne_true}
use Rattle.book.specs.declared.station.Station.{Station}
use Rattle.book.specs.Fields.{Lawful}
use Rattle.kinds.specs.declared.kind.Kind.{Ghosts}
use Rattle.kinds.specs.Folds.{AllLawful, StaysMet}
use Rattle.tree.specs.Calls.{FirstMet}
use Rattle.tree.specs.Trees.{Place, among, part}
use Rattle.tree.specs.Under.{Over, JoinsNode, Whole}
use Rattle.tree.proofs.Overs.{Laws, over_join, over_none, part_add, part_past, among_le}
use Rattle.tree.proofs.Places.{at_inner, at_leaf, fore_child, aft_child}

-- at node i of height h: before has the p places before its leaves, which do not meet the test, and with its leaves they do
pub record Down {K R : Type 0} (G : Ghosts K R) (meets : R → Bool) (w : ℕ) (ss : List Station) (h i : ℕ) (before : K) : Type 0 where
  pub p : ℕ
  pub place : Place w h i p
  pub over : Over G before 0 p ss
  pub unmet : 0 < p → meets (part G 0 p ss) ≡ false
  pub met : meets (part G 0 (p + 2 ^ h) ss) ≡ true

module _ {K R : Type 0} (G : Ghosts K R) (laws : Laws G) (meets : R → Bool) (keeps : StaysMet G meets) (ss : List Station) (lawful : AllLawful ss) where
  -- what is met by the first a places is met by the first b
  stays_on : (a b : ℕ) → a ≤ b → meets (part G 0 a ss) ≡ true → meets (part G 0 b ss) ≡ true
  stays_on a b le t =
      let e : a + (b - a) ≡ b = omega arith in
      subst (λ (x : ℕ). meets (part G 0 x ss) ≡ true) e
      (subst (λ (x : R). meets x ≡ true) (sym (part_add G laws 0 a (b - a) ss))
      (keeps 0 (0 + a) (take a (drop 0 ss)) (take (b - a) (drop (0 + a) ss)) (All-take Lawful a (drop 0 ss) (All-drop Lawful 0 ss lawful)) (All-take Lawful (b - a) (drop (0 + a) ss) (All-drop Lawful (0 + a) ss lawful)) t))

  -- one place more, past the stations, makes no difference
  past_same : (p : ℕ) → length ss ≤ p → part G 0 (p + 1) ss ≡ part G 0 p ss
  past_same p past =
      let gone : part G (0 + p) 1 ss ≡ G.none = part_past G (0 + p) 1 ss (omega arith) in
      part_add G laws 0 p 1 ss ∙ ap (G.joined (part G 0 p ss)) gone ∙ laws.right (part G 0 p ss)

  pub none_met : (w : ℕ) → length ss ≤ w → meets (part G 0 w ss) ≡ false → FirstMet G meets ss None
  none_met w le f k lt = false_from_ne_true _ (λ t. both_ways _ f (stays_on (k + 1) w (omega arith) t))

  pub down_end : 0 < length ss → (w h i : ℕ) (before : K) → w ≤ i → Down G meets w ss h i before → FirstMet G meets ss (Some (i - w))
  down_end some w h i before le s =
      let (flat, at) = at_leaf h i s.p s.place le in
      let e : s.p ≡ i - w = omega arith in
      let one : s.p + 2 ^ h ≡ s.p + 1 = omega (arith, ap (λ (x : ℕ). 2 ^ x) flat) in
      let here : meets (part G 0 (s.p + 1) ss) ≡ true = subst (λ (x : ℕ). meets (part G 0 x ss) ≡ true) one s.met in
      subst (λ (x : ℕ). FirstMet G meets ss (Some x)) e (
        ⊎_elim (λ (lt : s.p < length ss). lt)
            (λ (past : length ss ≤ s.p). absurd (both_ways _ (s.unmet (omega arith)) (subst (λ (x : R). meets x ≡ true) (past_same s.p past) here)))
            (cases_lt s.p (length ss)),
        here,
        λ j lt. false_from_ne_true _ (λ t. both_ways _ (s.unmet (omega arith)) (stays_on (j + 1) s.p (omega arith) t)),
      )

-- an answer of a test on values that may stand for up to 256 stations is about their reading
abbrev pub Answers : {K R : Type 0} (G : Ghosts K R) (meets : R → Bool) → K → Bool → Type 0
Answers G meets v b = (k : ℕ) → k ≤ 256 → G.stands v k → b ≡ meets (G.reading v)

pub answered : {K R : Type 0} (G : Ghosts K R) (meets : R → Bool) (v : K) (b t : Bool) (p c : ℕ) (ss : List Station) → length ss ≤ 256 → Over G v p c ss → Answers G meets v b → b ≡ t → meets (part G p c ss) ≡ t
answered G meets v b t p c ss few o says is = sym (ap meets o.reads) ∙ sym (says (among p c ss) (omega (arith, among_le p c ss)) o.counts) ∙ is

module _ {K R : Type 0} (G : Ghosts K R) (laws : Laws G) (meets : R → Bool) (nodes : List K) (w : ℕ) (ss : List Station) (few : length ss ≤ 256) (whole : Whole G nodes w ss) where
  -- node 1 is over the whole deck
  pub root_over : (height : ℕ) (root : K) → w ≡ 2 ^ height → root ≡ get_or nodes 1 root → Over G root 0 (2 ^ height) ss
  root_over height root power is = subst (λ (x : K). Over G x 0 (2 ^ height) ss) (sym is) (whole height 1 0 root (record { at = omega arith; inside = omega arith }))

  pub down_start : (height : ℕ) (root before : K) → w ≡ 2 ^ height → root ≡ get_or nodes 1 root → G.reading before ≡ G.none → G.stands before 0 → (b : Bool) → Answers G meets root b → b ≡ true → Down G meets w ss height 1 before
  down_start height root before power is reads counts b says t =
      let o = root_over height root power is in
      record {
        p = 0;
        place = record { at = omega arith; inside = omega arith };
        over = over_none G before 0 ss reads counts;
        unmet = λ lt. absurd (omega arith);
        met = subst (λ (x : ℕ). meets (part G 0 x ss) ≡ true) (sym (zero-add (2 ^ height))) (answered G meets root b true 0 (2 ^ height) ss few o says t);
      }

  -- the forward child of i behind what stands before it
  pub more_over : (h i p : ℕ) (before more : K) → Place w (suc h) i p → Over G before 0 p ss → JoinsNode G before nodes (2 * i) more → Over G more 0 (p + 2 ^ h) ss
  more_over h i p before more pl over (x, is, j) =
      let o : Over G x p (2 ^ h) ss = subst (λ (y : K). Over G y p (2 ^ h) ss) (sym is) (whole h (2 * i) p x (fore_child pl)) in
      over_join G laws before x more 0 p (2 ^ h) ss few over (subst (λ (y : ℕ). Over G x y (2 ^ h) ss) (sym (zero-add p)) o) j

  -- into the forward child, where the test is met with it
  pub down_fore : (h i : ℕ) (before more : K) → i < w → JoinsNode G before nodes (2 * i) more → (b : Bool) → Answers G meets more b → b ≡ true → Down G meets w ss h i before → (k : ℕ) × Down G meets w ss k (2 * i) before
  down_fore zero i before more lt j b says t s = absurd (at_inner s.place lt)
  down_fore (suc h) i before more lt j b says t s = (
    h,
    record {
      p = s.p;
      place = fore_child s.place;
      over = s.over;
      unmet = s.unmet;
      met = answered G meets more b true 0 (s.p + 2 ^ h) ss few (more_over h i s.p before more s.place s.over j) says t;
    },
  )

  -- past it, where the test is not met with it
  pub down_aft : (h i : ℕ) (before more : K) → i < w → JoinsNode G before nodes (2 * i) more → (b : Bool) → Answers G meets more b → b ≡ false → Down G meets w ss h i before → (k : ℕ) × Down G meets w ss k (2 * i + 1) more
  down_aft zero i before more lt j b says f s = absurd (at_inner s.place lt)
  down_aft (suc h) i before more lt j b says f s =
      let o : Over G more 0 (s.p + 2 ^ h) ss = more_over h i s.p before more s.place s.over j in
      let e : s.p + 2 ^ suc h ≡ s.p + 2 ^ h + 2 ^ h = omega (arith, pow-succ' 2 h) in (
        h,
        record {
          p = s.p + 2 ^ h;
          place = aft_child s.place;
          over = o;
          unmet = λ lt. answered G meets more b false 0 (s.p + 2 ^ h) ss few o says f;
          met = subst (λ (x : ℕ). meets (part G 0 x ss) ≡ true) e s.met;
        },
      )
