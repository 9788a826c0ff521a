-- Values over neighbouring stations: what joining makes of them, and what a record elsewhere leaves.
use Rattle.std.proofs.Common.{◌≡◌, ℕ, zero, suc, ◌+◌, ◌<◌, ◌≤◌, List, [], ◌∷◌, length, get_or, take, drop, set, sym, refl, ap, ◌∙◌, subst, ap₂, add-zero, suc-add, zero-add, arith, length-drop, length-take}
use lib.Seq.{take-nil}
use Rattle.std.proofs.lemmas.List.{drop-drop, drop_all, drop_more}
use Rattle.book.specs.declared.station.Station.{Station}
use Rattle.kinds.specs.declared.kind.Kind.{Ghosts}
use Rattle.kinds.specs.Folds.{read_at}
use Rattle.tree.specs.Trees.{among, part}
use Rattle.tree.specs.Under.{Over, Joins}

-- a kind's laws
-- (each answer writes it out of its own goal's record of bounds, which no shared lemma can name)
pub record Laws {K R : Type 0} (G : Ghosts K R) : Type 0 where
  pub left : (x : R) → G.joined G.none x ≡ x
  pub right : (x : R) → G.joined x G.none ≡ x
  pub assoc : (x y z : R) → G.joined (G.joined x y) z ≡ G.joined x (G.joined y z)

pub among_add : (a c d : ℕ) (ss : List Station) → among a (c + d) ss ≡ among a c ss + among (a + c) d ss
among_add a c d ss = simp (length-take, length-drop) (omega arith)

pub among_le : (a c : ℕ) (ss : List Station) → among a c ss ≤ length ss
among_le a c ss = simp (length-take, length-drop) (omega arith)

pub among_all : (a c : ℕ) (ss : List Station) → a + c ≤ length ss → among a c ss ≡ c
among_all a c ss le = simp (length-take, length-drop) (omega arith)

-- a record written at k leaves the c places from p on, where k is not among them
pub places_kept : (ss : List Station) (p c k : ℕ) (s : Station) → (p ≤ k → p + c ≤ k) → take c (drop p (set ss k s)) ≡ take c (drop p ss)
places_kept [] p c k s out = refl
places_kept (x ∷ xs) zero zero k s out = refl
places_kept (x ∷ xs) zero (suc c) zero s out = absurd (let h = out (omega arith) in omega arith)
places_kept (x ∷ xs) zero (suc c) (suc k) s out = ap (λ (l : List Station). x ∷ l) (places_kept xs zero c k s (λ le. let h = out (omega arith) in omega arith))
places_kept (x ∷ xs) (suc p) c zero s out = refl
places_kept (x ∷ xs) (suc p) c (suc k) s out = places_kept xs p c k s (λ le. let h = out (omega arith) in omega arith)

module _ {K R : Type 0} (G : Ghosts K R) where
  -- a place past the last station holds none
  pub part_past : (a c : ℕ) (ss : List Station) → length ss ≤ a → part G a c ss ≡ G.none
  part_past a c ss past = ap (read_at G.none G.single G.joined a) (ap (take c) (drop_all a ss past) ∙ take-nil c)

  -- and no place at all holds none
  pub over_none : (v : K) (a : ℕ) (ss : List Station) → G.reading v ≡ G.none → G.stands v 0 → Over G v a 0 ss
  over_none v a ss reads counts = record { reads = reads; counts = counts }

  pub over_kept : (v : K) (ss : List Station) (p c k : ℕ) (s : Station) → (p ≤ k → p + c ≤ k) → Over G v p c ss → Over G v p c (set ss k s)
  over_kept v ss p c k s out o =
      let e = places_kept ss p c k s out in
      record {
        reads = o.reads ∙ sym (ap (read_at G.none G.single G.joined p) e);
        counts = subst (λ (xs : List Station). G.stands v (length xs)) (sym e) o.counts;
      }

module _ {K R : Type 0} (G : Ghosts K R) (laws : Laws G) where
  pub part_one : (a : ℕ) (e : Station) (ss : List Station) → a < length ss → part G a 1 ss ≡ G.single a (get_or ss a e)
  part_one a e ss within =
      ap (λ (xs : List Station). read_at G.none G.single G.joined a (take 1 xs)) (drop_more ss a e within) ∙ laws.right (G.single a (get_or ss a e))

  pub over_one : (v : K) (a : ℕ) (e : Station) (ss : List Station) → a < length ss → G.reading v ≡ G.single a (get_or ss a e) → G.stands v 1 → Over G v a 1 ss
  over_one v a e ss within reads counts = record {
    reads = reads ∙ sym (part_one a e ss within);
    counts = subst (G.stands v) (sym (among_all a 1 ss (omega arith))) counts;
  }

  read_add : (c d i : ℕ) (xs : List Station) → read_at G.none G.single G.joined i (take (c + d) xs) ≡ G.joined (read_at G.none G.single G.joined i (take c xs)) (read_at G.none G.single G.joined (i + c) (take d (drop c xs)))
  read_add zero d i xs = rw (zero-add d, add-zero i) (sym (laws.left (read_at G.none G.single G.joined i (take d xs))))
  read_add (suc c) d i [] = rw (suc-add c d, take-nil {A = Station} d) (sym (laws.left G.none))
  read_add (suc c) d i (x ∷ xs) =
      let e : i + suc c ≡ suc i + c = omega arith in
      rw (suc-add c d, e)
      (ap (G.joined (G.single i x)) (read_add c d (suc i) xs)
      ∙ sym (laws.assoc (G.single i x) (read_at G.none G.single G.joined (suc i) (take c xs)) (read_at G.none G.single G.joined (suc i + c) (take d (drop c xs)))))

  -- neighbouring parts joined are one part
  pub part_add : (a c d : ℕ) (ss : List Station) → part G a (c + d) ss ≡ G.joined (part G a c ss) (part G (a + c) d ss)
  part_add a c d ss =
      read_add c d a (drop a ss) ∙ ap (λ (xs : List Station). G.joined (part G a c ss) (read_at G.none G.single G.joined (a + c) (take d xs))) (drop-drop c a ss)

  pub over_join : (fore aft v : K) (a c d : ℕ) (ss : List Station) → length ss ≤ 256 → Over G fore a c ss → Over G aft (a + c) d ss → Joins G fore aft v → Over G v a (c + d) ss
  over_join fore aft v a c d ss few f b j =
      let few' : among a c ss + among (a + c) d ss ≤ 256 = omega (arith, among_add a c d ss, among_le a (c + d) ss) in
      let both = j (among a c ss) (among (a + c) d ss) f.counts b.counts few' in
      record {
        reads = both.0 ∙ ap₂ G.joined f.reads b.reads ∙ sym (part_add a c d ss);
        counts = subst (G.stands v) (sym (among_add a c d ss)) both.1;
      }
