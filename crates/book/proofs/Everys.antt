-- What a test of each number below another says.
use Rattle.std.proofs.Common.{◌≡◌, ℕ, zero, suc, ◌<◌, Bool, true, false, ◌⊎◌, length, MatchBool, Decides, sym, refl, ap, ◌∙◌, subst, inl, inr, zero-add, arith}
use Rattle.std.specs.List.{range_with_len, AllWithin, HoldsAt}
use Rattle.std.proofs.lemmas.Bool.{and_from, and_left, and_right}
use Rattle.std.proofs.lemmas.Bool.Decides.{Decides-below_and}
use Rattle.std.proofs.lemmas.List.FromFn.{length-range_with_len, get_or-range_with_len}
use Rattle.book.specs.Polygons.{every}

every_true : (p : ℕ → Bool) (n : ℕ) → ((k : ℕ) → k < n → p k ≡ true) → every n p ≡ true
every_true p zero each = refl
every_true p (suc n) each = and_from (p n) (every n p) (each n (omega arith)) (every_true p n (λ k l. each k (omega arith)))

last_or : (k n : ℕ) → k < suc n → (k ≡ n) ⊎ (k < n)
last_or k n h = grind arith

every_false : (p : ℕ → Bool) (n k : ℕ) → k < n → p k ≡ false → every n p ≡ false
every_false p zero k l h = absurd (omega arith)
every_false p (suc n) k l h =
    elim (last_or k n l) [
      | inl e ↦ and_left (p n) (every n p) (ap p (sym e) ∙ h)
      | inr m ↦ and_right (p n) (every n p) (every_false p n k m h)
    ]

-- what `all` over the numbers below n has answered
pub every_of_all : (p : ℕ → Bool) (n : ℕ) (r : Bool) → MatchBool r (AllWithin (λ k. p k ≡ true) (range_with_len 0 n) 0 (length (range_with_len 0 n))) ((k : ℕ) × (k < length (range_with_len 0 n)) × HoldsAt (λ k. p k ≡ false) (range_with_len 0 n) k) → r ≡ every n p
every_of_all p n true each =
    sym (every_true p n (λ k l. subst (λ (j : ℕ). p j ≡ true) (get_or-range_with_len 0 n k 0 l ∙ zero-add k) (each k 0 (omega arith) (rw length-range_with_len l))))
every_of_all p n false some =
    let l : some.0 < n = rw length-range_with_len at some.1 in
    sym (every_false p n some.0 l (subst (λ (j : ℕ). p j ≡ false) (get_or-range_with_len 0 n some.0 0 l ∙ zero-add some.0) (some.2 0)))

-- it decides what holds of each number below n
pub every_decides : (p : ℕ → Bool) (P : ℕ → Type 0) (n : ℕ) → ((k : ℕ) → Decides (p k) (P k)) → Decides (every n p) ((k : ℕ) → k < n → P k)
every_decides p P n each = Decides-below_and p P (λ m. every m p) each refl (λ m. refl) n
