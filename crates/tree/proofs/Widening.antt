-- The width is the least power of two that is at least the number of stations.
use Rattle.std.proofs.Common.{◌≡◌, ℕ, zero, suc, ◌+◌, ◌*◌, ◌/◌, ◌^◌, ◌<◌, ◌≤◌, max, leb, sym, refl, ap, subst, ⊎_elim, arith}
use native.Mathlib.Nat.{pow-succ'}
use Rattle.std.proofs.lemmas.Nat.{pow_below, pow_pos}
use Rattle.std.proofs.lemmas.Bool.{leb-true, leb-false, cases_lt, cond_both}
use Rattle.tree.specs.Widths.{doubled, width, IsWidth, WidthsAreLeast}

-- a power that is no more than another is no more than half of it, or it is that one
half_or_same : (i k : ℕ) → 2 ^ i < 2 ^ k → 2 ^ i ≤ 2 ^ k / 2
half_or_same i zero lt = absurd (omega (arith, pow_pos i))
half_or_same i (suc k) lt =
    ⊎_elim
    (λ (below : k < i). absurd (omega (arith, ups k i below)))
    (λ (le : i ≤ k). ⊎_elim (λ (l : i < k). omega (arith, pow_below i k l, pow-succ' 2 k)) (λ (g : k ≤ i). let e : i ≡ k = omega arith in omega (arith, pow-succ' 2 k, ap (λ (x : ℕ). 2 ^ x) e)) (cases_lt i k))
    (cases_lt k i)
  where
    ups : (k i : ℕ) → k < i → 2 ^ suc k ≤ 2 ^ i
    ups k i below = ⊎_elim (λ (l : suc k < i). omega (arith, pow_below (suc k) i l)) (λ (g : i ≤ suc k). let e : i ≡ suc k = omega arith in omega (arith, ap (λ (x : ℕ). 2 ^ x) e)) (cases_lt (suc k) i)

-- the test of one doubling
by_test : (w more n : ℕ) → (n ≤ w → IsWidth n w) → (w < n → IsWidth n (doubled more (2 * w) n)) → IsWidth n (doubled (suc more) w n)
by_test w more n kept doubles = cond_both (leb n w) w (doubled more (2 * w) n) (λ (x : ℕ). IsWidth n x) (λ e. kept (leb-true _ _ e)) (λ e. doubles (leb-false _ _ e))

-- from 2 ^ i on, where every lesser power is below n
from_power : (more i n : ℕ) → n ≤ 2 ^ (i + more) → ((k : ℕ) → n ≤ 2 ^ k → 2 ^ i ≤ 2 ^ k) → IsWidth n (doubled more (2 ^ i) n)
from_power zero i n room least = record {
  height = i;
  power = refl;
  room = subst (λ (x : ℕ). n ≤ 2 ^ x) (omega arith) room;
  least = least;
}
from_power (suc more) i n room least =
    let two : 2 ^ suc i ≡ 2 * 2 ^ i = pow-succ' 2 i in
    by_test (2 ^ i) more n (λ le. record { height = i; power = refl; room = le; least = least })
    (λ (up : 2 ^ i < n).
    subst (λ (w : ℕ). IsWidth n (doubled more w n)) two
    (from_power more (suc i) n (subst (λ (x : ℕ). n ≤ 2 ^ x) (omega arith) room)
    (λ k le. let h : 2 ^ i < 2 ^ k = omega arith in omega (arith, half_or_same i k h, pow-succ' 2 i))))

pub widths_are_least : WidthsAreLeast
unfolding width
widths_are_least n few = from_power 8 0 n few (λ k le. omega (arith, pow_pos k))

-- a power of two that is at least n, half of which is not, is the width
pub width_is : (n r k : ℕ) → n ≤ 256 → r ≡ 2 ^ k → n ≤ r → r / 2 < max 1 n → r ≡ width n
width_is n r k few power room half =
    let w = widths_are_least n few in
    let low : width n ≤ r = subst (λ (x : ℕ). width n ≤ x) (sym power) (w.least k (subst (λ (x : ℕ). n ≤ x) power room)) in
    ⊎_elim
    (λ (lt : width n < r).
    let h : width n ≤ 2 ^ k / 2 = subst (λ (x : ℕ). x ≤ 2 ^ k / 2) (sym w.power) (half_or_same w.height k (subst (λ (x : ℕ). x < 2 ^ k) w.power (subst (λ (x : ℕ). width n < x) power lt))) in
    let q : 0 < width n = subst (λ (x : ℕ). 0 < x) (sym w.power) (pow_pos w.height) in
    absurd (omega (arith, ap (λ (x : ℕ). x / 2) power, w.room)))
    (λ (le : r ≤ width n). omega arith)
    (cases_lt (width n) r)

pub width_few : (n : ℕ) → n ≤ 256 → width n ≤ 256
width_few n few = (widths_are_least n few).least 8 few
