-- Where the nodes of a tree lie: heights, first leaves, children, and which nodes are above a leaf.
use Rattle.std.proofs.Common.{◌≡◌, ℕ, zero, suc, ◌+◌, ◌-◌, ◌*◌, ◌/◌, ◌^◌, ◌<◌, ◌≤◌, ◌⊎◌, sym, refl, ap, ◌∙◌, inl, inr, ⊎_elim, mul_assoc, mul_comm, add-mul, zero-mul, arith}
use native.Mathlib.Nat.{zero-div, pow-succ', div-div-eq-div-mul}
use Rattle.std.proofs.lemmas.Nat.{mul-le, pow_pos, shr_le, div-mul-add}
use Rattle.std.proofs.lemmas.Bool.{cases_lt}
use Rattle.tree.specs.Trees.{Place, Above}

-- a product with something in it has something in each factor
pub factor_pos : (i q n : ℕ) → i * q ≡ n → 0 < n → 0 < i
factor_pos i q n e pos =
    ⊎_elim (λ (h : 0 < i). h)
    (λ (h : i ≤ 0). let z : i ≡ 0 = omega arith in absurd (omega (arith, e, ap (λ (x : ℕ). x * q) z, zero-mul q)))
    (cases_lt 0 i)

pub double : (i h : ℕ) → 2 * i * 2 ^ h ≡ i * 2 ^ suc h
double i h = ap (λ (x : ℕ). x * 2 ^ h) (mul_comm 2 i) ∙ mul_assoc i 2 (2 ^ h) ∙ ap (λ (x : ℕ). i * x) (sym (pow-succ' 2 h))

module _ {w : ℕ} where
  -- a node from w on is a leaf
  pub at_leaf : (h i p : ℕ) → Place w h i p → w ≤ i → (h ≡ 0) × (i ≡ w + p)
  at_leaf zero i p pl le = (refl, omega (arith, pl.at))
  at_leaf (suc h) i p pl le =
      let two : 2 ≤ 2 ^ suc h = omega (arith, pow-succ' 2 h, pow_pos h) in
      absurd (omega (arith, mul-le w 2 i (2 ^ suc h) le two, pl.at, pl.inside, pow_pos (suc h)))

  -- a node below w is none
  pub at_inner : {i p : ℕ} → Place w 0 i p → i < w → ⊥
  at_inner pl lt = omega (arith, pl.at)

  pub fore_child : {h i p : ℕ} → Place w (suc h) i p → Place w h (2 * i) p
  fore_child {h} {i} {p} pl = record { at = double i h ∙ pl.at; inside = omega (arith, pl.inside, pow-succ' 2 h) }

  pub aft_child : {h i p : ℕ} → Place w (suc h) i p → Place w h (2 * i + 1) (p + 2 ^ h)
  aft_child {h} {i} {p} pl = record {
    at = omega (arith, add-mul (2 * i) 1 (2 ^ h), double i h, pl.at);
    inside = omega (arith, pl.inside, pow-succ' 2 h);
  }

  pub place_low : {h i p : ℕ} → Place w h i p → 0 < i
  place_low {h} {i} {p} pl = factor_pos i (2 ^ h) (w + p) pl.at (omega (arith, pl.inside, pow_pos h))

  -- an inner node's level
  pub inner_low : {h i p : ℕ} → Place w (suc h) i p → i < w
  inner_low {h} {i} {p} pl =
      ⊎_elim (λ (lt : i < w). lt) (λ (le : w ≤ i). absurd (let z = (at_leaf (suc h) i p pl le).0 in omega arith)) (cases_lt i w)

  -- a node whose leaves hold the k-th is above it
  pub above_under : {h i p k : ℕ} → Place w h i p → p ≤ k → k < p + 2 ^ h → Above i (w + k)
  above_under {h} {i} {p} {k} pl from to =
      let e : w + k ≡ i * 2 ^ h + (k - p) = omega (arith, pl.at) in
      (place_low pl, (h, ap (λ (x : ℕ). x / 2 ^ h) e ∙ div-mul-add i (2 ^ h) (k - p) (omega arith)))

  pub leaf_place : {k : ℕ} → k < w → Place w 0 (w + k) k
  leaf_place {k} lt = record { at = omega arith; inside = omega arith }

-- every node but node 0 has its place
pub place_of : (height i : ℕ) → 0 < i → i < 2 * 2 ^ height → (h : ℕ) × (p : ℕ) × Place (2 ^ height) h i p
place_of zero i low high = (0, 0, record { at = omega arith; inside = omega arith })
place_of (suc height) i low high =
    ⊎_elim
    (λ (lt : i < 2 ^ suc height).
    let (h, p, pl) = place_of height i low (omega (arith, pow-succ' 2 height)) in (
      suc h,
      2 * p,
      record {
        at = sym (double i h) ∙ mul_assoc 2 i (2 ^ h) ∙ omega (arith, pl.at, pow-succ' 2 height);
        inside = omega (arith, pl.inside, pow-succ' 2 height, pow-succ' 2 h);
      },
    ))
    (λ (le : 2 ^ suc height ≤ i). (0, i - 2 ^ suc height, record { at = omega arith; inside = omega (arith, high) }))
    (cases_lt i (2 ^ suc height))

pub above_self : (i : ℕ) → 0 < i → Above i i
above_self i low = (low, (0, omega arith))

pub above_half : (j i : ℕ) → Above j (i / 2) → Above j i
above_half j i (low, (h, e)) = (low, (suc h, ap (λ (x : ℕ). i / x) (pow-succ' 2 h) ∙ sym (div-div-eq-div-mul i 2 (2 ^ h)) ∙ e))

pub above_cases : (j i : ℕ) → Above j i → (j ≡ i) ⊎ Above j (i / 2)
above_cases j i (low, (zero, e)) = inl (omega arith)
above_cases j i (low, (suc h, e)) = inr (low, (h, div-div-eq-div-mul i 2 (2 ^ h) ∙ ap (λ (x : ℕ). i / x) (sym (pow-succ' 2 h)) ∙ e))

pub above_none : (j : ℕ) → Above j 0 → ⊥
above_none j (low, (h, e)) = omega (arith, zero-div (2 ^ h))

pub above_le : (i j : ℕ) → Above i j → i ≤ j
above_le i j (low, (h, e)) = omega (arith, shr_le j h)
