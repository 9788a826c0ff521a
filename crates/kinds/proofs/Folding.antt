-- Readings carried from one kind to another, and from a pair to its sides; stations joined one more at the front.
use Rattle.std.proofs.Common.{◌≡◌, ℕ, suc, ◌+◌, ◌-◌, ◌<◌, ◌≤◌, min, Bool, true, false, ltb, List, [], ◌∷◌, length, get_or, drop, sym, refl, ap, ◌∙◌, arith}
use Rattle.std.proofs.lemmas.Bool.{ltb-true, ltb-false}
use Rattle.std.proofs.lemmas.List.{drop_all, drop_more}
use Rattle.book.specs.declared.station.Station.{Station}
use Rattle.kinds.specs.Folds.{read_at}

-- what keeps empty, station and joining keeps what stations read as
pub read_carried : {R S : Type 0} (f : R → S) (none : R) (single : ℕ → Station → R) (joined : R → R → R) (none' : S) (single' : ℕ → Station → S) (joined' : S → S → S) → f none ≡ none' → ((n : ℕ) (s : Station) → f (single n s) ≡ single' n s) → ((x y : R) → f (joined x y) ≡ joined' (f x) (f y)) → (n : ℕ) (xs : List Station) → f (read_at none single joined n xs) ≡ read_at none' single' joined' n xs
read_carried f none single joined none' single' joined' a b c n [] = a
read_carried f none single joined none' single' joined' a b c n (x ∷ xs) =
    let p = b n x in
    let q = read_carried f none single joined none' single' joined' a b c (suc n) xs in
    c (single n x) (read_at none single joined (suc n) xs) ∙ cc

-- the deck from the lesser of a place and the deck's end on is the deck from that place on
module _ {R : Type 0} (none : R) (single : ℕ → Station → R) (joined : R → R → R) (ss : List Station) where
  pub from_end : (i from : ℕ) → i ≡ min from (length ss) → (drop i ss ≡ drop from ss) × (read_at none single joined i (drop i ss) ≡ read_at none single joined from (drop from ss))
  from_end i from e = by (ltb from (length ss)) refl
    where
      by : (b : Bool) → ltb from (length ss) ≡ b → (drop i ss ≡ drop from ss) × (read_at none single joined i (drop i ss) ≡ read_at none single joined from (drop from ss))
      by true h =
          let l : from < length ss = ltb-true _ _ h in
          let p : i ≡ from = omega arith in
          (ap (λ (k : ℕ). drop k ss) p, ap (λ (k : ℕ). read_at none single joined k (drop k ss)) p)
      by false h =
          let l : length ss ≤ from = ltb-false _ _ h in
          let p = drop_all i ss (omega arith) in
          let q = drop_all from ss l in
          (p ∙ sym q, ap (read_at none single joined i) p ∙ sym (ap (read_at none single joined from) q))

  -- one station more at the front
  pub from_front : (i : ℕ) (d : Station) → 0 < i → i ≤ length ss → (read_at none single joined (i - 1) (drop (i - 1) ss) ≡ joined (single (i - 1) (get_or ss (i - 1) d)) (read_at none single joined i (drop i ss))) × (length (drop (i - 1) ss) ≡ 1 + length (drop i ss))
  from_front i d l h =
      let lt : i - 1 < length ss = omega arith in
      let e : i - 1 + 1 ≡ i = omega arith in
      let f : suc (i - 1) ≡ i = omega arith in
      let p : drop (i - 1) ss ≡ get_or ss (i - 1) d ∷ drop i ss = drop_more ss (i - 1) d lt ∙ ap (λ (k : ℕ). get_or ss (i - 1) d ∷ drop k ss) e in (
        ap (read_at none single joined (i - 1)) p ∙ ap (λ (k : ℕ). joined (single (i - 1) (get_or ss (i - 1) d)) (read_at none single joined k (drop i ss))) f,
        ap length p ∙ omega arith,
      )

-- of pairs joined side by side, each side is carried by itself
module _ {R S : Type 0} where
  pub one_side : (none : R × S) (single : ℕ → Station → R × S) (joined : R × S → R × S → R × S) (n : ℕ) (ss : List Station) → ((x y : R × S) → (joined x y).0 ≡ (joined (x.0, none.1) (y.0, none.1)).0) → (read_at none single joined n ss).0 ≡ read_at none.0 (λ k s. (single k s).0) (λ x y. (joined (x, none.1) (y, none.1)).0) n ss
  one_side none single joined n ss apart = read_carried (λ (p : R × S). p.0) none single joined none.0 (λ k s. (single k s).0) (λ x y. (joined (x, none.1) (y, none.1)).0) refl (λ k s. refl) apart n ss

  pub other_side : (none : R × S) (single : ℕ → Station → R × S) (joined : R × S → R × S → R × S) (n : ℕ) (ss : List Station) → ((x y : R × S) → (joined x y).1 ≡ (joined (none.0, x.1) (none.0, y.1)).1) → (read_at none single joined n ss).1 ≡ read_at none.1 (λ k s. (single k s).1) (λ x y. (joined (none.0, x) (none.0, y)).1) n ss
  other_side none single joined n ss apart = read_carried (λ (p : R × S). p.1) none single joined none.1 (λ k s. (single k s).1) (λ x y. (joined (none.0, x) (none.0, y)).1) refl (λ k s. refl) apart n ss
