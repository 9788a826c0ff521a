-- What an accepted call leaves and answers.
use Rattle.std.proofs.Common.{◌≡◌, ℕ, ◌+◌, ◌-◌, ◌*◌, ◌/◌, ◌^◌, ◌<◌, ◌≤◌, Bool, true, ◌≢◌, List, length, get_or, set, None, Ok, Option, sym, ap, ◌∙◌, subst, ⊎_elim, true≢false, arith}
use borrow.Rule.Slice.PartMut.{put_mid}
use Rattle.std.proofs.lemmas.List.{get_or-set_same, get_or-set_other, length-set}
use Rattle.std.proofs.lemmas.Bool.{cases_eq, cases_lt}
use Rattle.book.specs.declared.station.Station.{Station}
use Rattle.book.specs.Fields.{Lawful}
use Rattle.kinds.specs.declared.kind.Kind.{Ghosts}
use Rattle.kinds.specs.Folds.{AllLawful}
use Rattle.tree.specs.Calls.{memory_refusal, station_refusal, range_refusal, FirstMet, Filled, Renewed, Ranged, Found}
use Rattle.tree.specs.Trees.{Above, part, SegmentTree}
use Rattle.tree.specs.Under.{Over, StationLeaf, RightBeside, Whole}
use Rattle.tree.specs.Widths.{width, fits}
use Rattle.tree.proofs.Joinings.{getD_lent, getD_before_lent}
use Rattle.tree.proofs.Overs.{Laws, over_one, over_kept, among_all}
use Rattle.tree.proofs.Places.{at_leaf, above_under, above_self, above_half, above_cases}
use Rattle.tree.proofs.Refusing.{memory_kept, station_kept, range_kept, ok_same}
use Rattle.tree.proofs.Wholes.{fitting, whole, tree, trees_read}

module _ {K R : Type 0} (G : Ghosts K R) (laws : Laws G) (before : List K) where
  -- the second half of the nodes, as it was lent and given back
  abbrev pub refilled : List K → List K
  refilled lent = put_mid (length before / 2) (length before - length before / 2) before lent

  pub filled_done : (lent after : List K) (ss : List Station) → None ≡ memory_refusal (length ss) (length before) →
      length lent ≡ length before - length before / 2 → length (refilled lent) ≡ length before → length after ≡ length before →
      (AllLawful ss → length ss ≤ 256 → (k : ℕ) (d : K) → k < length lent → Over G (get_or lent k d) k 1 ss) →
      ((d : K) → get_or after 0 d ≡ get_or (refilled lent) 0 d) →
      ((xs : List Station) → length xs ≤ 256 → ((k : ℕ) (d : K) → k < length (refilled lent) / 2 → Over G (get_or (refilled lent) (length (refilled lent) / 2 + k) d) k 1 xs) → Whole G after (length (refilled lent) / 2) xs) →
      Filled G before after ss (Ok tt)
  filled_done lent after ss kept long mid same leaves first all =
      let fit = memory_kept (length ss) (length before) kept in
      let f = fitting (length ss) (length before) fit in
      let half : length (refilled lent) / 2 ≡ width (length ss) = ap (λ (n : ℕ). n / 2) mid ∙ f.half in
      record {
        refuses = kept;
        tree = λ _ lawful.
            tree G laws after ss (subst (λ (n : ℕ). fits (length ss) n ≡ true) (sym same) fit)
            (subst (λ (w : ℕ). Whole G after w ss) half (all ss f.few (λ k d lt.
            let at : length (refilled lent) / 2 + k ≡ length before / 2 + k = ap (λ (n : ℕ). n / 2 + k) mid in
            let here : k < length lent = omega arith in
            subst (λ (n : K). Over G n k 1 ss)
            (sym (ap (λ (i : ℕ). get_or (refilled lent) i d) at ∙ getD_lent before lent (length before / 2) (length before - length before / 2) k d (omega arith) here))
            (leaves lawful f.few k d here))));
        first_node = λ d.
            let some : 0 < length before / 2 = omega (arith, f.half, f.room, f.some) in
            first d ∙ getD_before_lent before lent (length before / 2) (length before - length before / 2) 0 d (omega arith) some;
        untouched = λ some. absurd (true≢false (sym some));
        reads = trees_read G laws;
      }

  -- with a leaf written, all nodes but those above it are right for the new records
  leaf_right : (old : List Station) (k : ℕ) (s : Station) (v : K) → SegmentTree G before old → k < length old → Lawful s → StationLeaf G (set old k s) k v →
      RightBeside G ((width (length old) + k) / 2) (set before (width (length old) + k) v) (width (length old)) (set old k s)
  leaf_right old k s v t lt lawful (e, leaf) h j p d pl out =
      let w = width (length old) in
      let f = fitting (length old) (length before) t.fitting in
      let new = set old k s in
      let long : k < length new = omega (arith, length-set old k s) in
      ⊎_elim
      (λ (is : j ≡ w + k).
      let (flat, at) = at_leaf h j p pl (omega arith) in
      let here : p ≡ k = omega arith in
      let (reads, counts) = leaf (subst Lawful (sym (get_or-set_same old k s e lt)) lawful) (omega (arith, f.few)) in
      rw (is, flat, here, get_or-set_same before (w + k) v d (omega (arith, f.twice, f.room))) (over_one G laws v k e new long reads counts))
      (λ (ne : j ≢ w + k).
      rw (get_or-set_other before (w + k) j v d ne)
      (over_kept G (get_or before j d) old p (2 ^ h) k s
      (λ le. ⊎_elim (λ (under : k < p + 2 ^ h). absurd (⊎_elim ne out (above_cases j (w + k) (above_under pl le under)))) (λ (past : p + 2 ^ h ≤ k). past) (cases_lt k (p + 2 ^ h)))
      (whole G laws before old t h j p d pl)))
      (cases_eq j (w + k))

  pub renewed_done : (after : List K) (ss : List Station) (k : ℕ) (v : K) → None ≡ station_refusal (length ss) (length before) k → length after ≡ length before → StationLeaf G ss k v →
      ((i : ℕ) (d : K) → (Above i ((length before / 2 + k) / 2) → ⊥) → get_or after i d ≡ get_or (set before (length before / 2 + k) v) i d) →
      ((w : ℕ) (xs : List Station) → length (set before (length before / 2 + k) v) ≡ 2 * w → length xs ≤ 256 → RightBeside G ((length before / 2 + k) / 2) (set before (length before / 2 + k) v) w xs → Whole G after w xs) →
      Renewed G before after ss k (Ok tt)
  renewed_done after ss k v kept same leaf beside all =
      let (fit, lt) = station_kept (length ss) (length before) k kept in
      let f = fitting (length ss) (length before) fit in
      let at = length before / 2 + k in
      record {
        refuses = kept;
        tree = λ _ old s is lawful t.
            let long : length old ≡ length ss = sym (ap length is ∙ length-set old k s) in
            let w : length before / 2 ≡ width (length old) = f.half ∙ ap width (sym long) in
            let right = subst (λ (x : ℕ). RightBeside G ((x + k) / 2) (set before (x + k) v) (width (length old)) (set old k s)) (sym w)
            (leaf_right old k s v t (omega arith) lawful (subst (λ (xs : List Station). StationLeaf G xs k v) is leaf)) in
            let now = all (width (length old)) ss (length-set before at v ∙ f.twice ∙ ap (λ (n : ℕ). 2 * width n) (sym long)) f.few (subst (λ (xs : List Station). RightBeside G (at / 2) (set before at v) (width (length old)) xs) (sym is) right) in
            tree G laws after ss (subst (λ (n : ℕ). fits (length ss) n ≡ true) (sym same) fit) (subst (λ (n : ℕ). Whole G after (width n) ss) long now);
        beside = λ i d out.
            let ne : i ≢ at = λ e. out (subst (λ (x : ℕ). Above i x) e (above_self i (omega (arith, f.half, f.room, f.some)))) in
            beside i d (λ a. out (above_half i at a)) ∙ get_or-set_other before at i v d ne;
        untouched = λ some. absurd (true≢false (sym some));
      }

-- the leaf of a station is a node, and so is the other one of its pair
pub leaf_room : (n m k : ℕ) → None ≡ station_refusal n m k → (m / 2 + k < m) × (2 * ((m / 2 + k) / 2) + 1 < m)
leaf_room n m k kept =
    let (fit, lt) = station_kept n m k kept in
    let f = fitting n m fit in
    let even : m ≡ 2 * width n = f.twice in
    let room : n ≤ width n = f.room in
    (omega arith, omega arith)

-- a range that is admitted lies under the leaves
pub range_room : (n m from to : ℕ) → None ≡ range_refusal n m from to → (from ≤ to) × (to ≤ m / 2)
range_room n m from to kept =
    let (fit, lt, le) = range_kept n m from to kept in
    let f = fitting n m fit in
    (omega arith, omega (arith, f.half, f.room))

module _ {K R : Type 0} (G : Ghosts K R) (laws : Laws G) (nodes : List K) where
  pub ranged_done : (n from to : ℕ) (v : K) → None ≡ range_refusal n (length nodes) from to → ((ss : List Station) → length ss ≤ 256 → Whole G nodes (length nodes / 2) ss → Over G v from (to - from) ss) → Ranged G nodes n from to (Ok v)
  ranged_done n from to v kept all =
      let (fit, lt, le) = range_kept n (length nodes) from to kept in
      let f = fitting n (length nodes) fit in
      record {
        refuses = kept;
        reads = λ x is ss long t.
            let w : width (length ss) ≡ length nodes / 2 = ap width long ∙ sym f.half in
            let o = all ss (omega (arith, f.few)) (subst (λ (y : ℕ). Whole G nodes y ss) w (whole G laws nodes ss t)) in
            subst (λ (y : K). (G.reading y ≡ part G from (to - from) ss) × G.stands y (to - from)) (ok_same is) (o.reads, subst (G.stands v) (among_all from (to - from) ss (omega arith)) o.counts);
      }

  pub found_done : (meets : R → Bool) (n : ℕ) (o : Option ℕ) → None ≡ memory_refusal n (length nodes) →
      ((ss : List Station) (height : ℕ) → 0 < length ss → length ss ≤ 256 → AllLawful ss → length ss ≤ 2 ^ height → length nodes ≡ 2 * 2 ^ height → Whole G nodes (2 ^ height) ss → FirstMet G meets ss o) →
      Found G meets nodes n (Ok o)
  found_done meets n o kept all =
      let f = fitting n (length nodes) (memory_kept n (length nodes) kept) in
      record {
        refuses = kept;
        first = λ x is ss long lawful t.
            let w : width (length ss) ≡ 2 ^ f.height = ap width long ∙ f.power in
            subst (λ (y : Option ℕ). FirstMet G meets ss y) (ok_same is)
            (all ss f.height (omega (arith, f.some)) (omega (arith, f.few)) lawful (omega (arith, f.room, f.power)) (f.twice ∙ ap (λ (y : ℕ). 2 * y) f.power)
            (subst (λ (y : ℕ). Whole G nodes y ss) w (whole G laws nodes ss t)));
      }
