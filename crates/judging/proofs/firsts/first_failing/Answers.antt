use Rattle.std.proofs.Common.{◌≡◌, ℕ, ◌<◌, Bool, true, false, List, [], ◌∷◌, length, get_or, Option, Some, None, MatchOption, sym, refl, ap, ◌∙◌, zero-add, arith, rules}
use Rattle.std.proofs.lemmas.List.{get_or_default}
use Rattle.std.proofs.lemmas.Iterator.{YieldsList-from_slice, IsFirst-from_position}
use Rattle.std.specs.List.{AllWithin, HoldsAt}
use Rattle.book.specs.Refusals.{first_failing}
use Rattle.judging.proofs.Passing.{found_first, none_first}
use Rattle.judging.proofs.firsts.first_failing.Goals as goal

-- what is known of a call at an entry of the list
abbrev At : {X : Type 0} → (X → Bool) → List X → Bool → X → Type 0
At test xs b y = (i : ℕ) → i < length xs → y ≡ get_or xs i y → b ≡ test y

module _ {X : Type 0} (test : X → Bool) (xs : List X) where
  at : (b : Bool) (k : ℕ) (d : X) → k < length xs → At test xs b (get_or xs k d) → b ≡ test (get_or xs k d)
  at b k d l h = h k l (get_or_default xs k d (get_or xs k d) l)

first : {X : Type 0} (test : X → Bool) (xs : List X) (r : Option ℕ) → MatchOption r (AllWithin (At test xs true) xs 0 (length xs)) (λ i. (i < length xs) × HoldsAt (At test xs false) xs i × AllWithin (At test xs true) xs 0 i) → r ≡ first_failing test 0 xs
first test [] None h = refl
first test (x ∷ xs) None h = none_first test 0 (x ∷ xs) x (λ k l. sym (at test (x ∷ xs) true k x l (h k x (omega arith) l)))
first test [] (Some i) h = absurd (omega (arith, h.0))
first test (x ∷ xs) (Some i) h =
    ap Some (sym (zero-add i))
    ∙ found_first test 0 i (x ∷ xs) x h.0
    (λ k l. sym (at test (x ∷ xs) true k x (omega (arith, h.0)) (h.2 k x (omega arith) l)))
    (sym (at test (x ∷ xs) false i x h.0 (h.1 x)))

pub returns : goal.returns
returns g c test says =
    let xs = c.args.entries.now in
    first test xs _ (IsFirst-from_position _ _ _ (At test xs false) (At test xs true) c.position.ensures.ran (YieldsList-from_slice xs cc)
    (λ x q k i l e. let s = says x i false l e in search rules)
    (λ x q k. (search rules, λ i l e. let s = says x i true l e in search rules)))
