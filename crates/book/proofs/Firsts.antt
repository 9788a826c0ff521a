-- The first entry that fails a test, and what an answer says.
use Rattle.std.proofs.Common.{◌≡◌, ℕ, zero, suc, ◌+◌, ◌<◌, Bool, true, false, cond, List, [], ◌∷◌, length, get_or, drop, Some, None, Option, MatchOption, sym, refl, ap, ◌∙◌, add-zero, zero-add, add-one, arith}
use Rattle.std.specs.List.{AllWithin, HoldsAt}
use Rattle.std.proofs.lemmas.List.{drop_more}
use Rattle.std.proofs.lemmas.Bool.{cond-true, cond-false}
use Rattle.book.specs.Refusals.{first_failing, First, NamesFirst}

-- none fails: each passes
pub all_pass : {X : Type 0} (test : X → Bool) (n : ℕ) (xs : List X) → first_failing test n xs ≡ None → (i : ℕ) (d : X) → i < length xs → test (get_or xs i d) ≡ true
all_pass test n [] e i d l = absurd (omega arith)
all_pass test n (x ∷ xs) e i d l = by (test x) refl i l (λ h. all_pass test (suc n) xs (sym (cond-true (test x) _ _ h) ∙ e))
  where
    by : (b : Bool) → test x ≡ b → (j : ℕ) → j < suc (length xs) → (b ≡ true → (k : ℕ) (c : _) → k < length xs → test (get_or xs k c) ≡ true) → test (get_or (x ∷ xs) j d) ≡ true
    by true h zero m rest = h
    by true h (suc j) m rest = rest refl j d (omega arith)
    by false h j m rest = let z : ◌≡◌ {A = Option ℕ} (Some n) None = sym (cond-false (test x) _ _ h) ∙ e in let w : ◌≡◌ {A = ℕ} 0 1 = cc in absurd (omega arith)

pub none_fails : {X : Type 0} (test : X → Bool) (n : ℕ) (xs : List X) (d : X) → ((i : ℕ) → i < length xs → test (get_or xs i d) ≡ true) → first_failing test n xs ≡ None
none_fails test n [] d h = refl
none_fails test n (x ∷ xs) d h =
    cond-true (test x) _ _ (h 0 (omega arith)) ∙ none_fails test (suc n) xs d (λ i l. h (suc i) (omega arith))

-- one that fails: it is there, and each before it passes
record Found {X : Type 0} (test : X → Bool) (n : ℕ) (xs : List X) (k : ℕ) : Type 0 where
  at : ℕ
  place : k ≡ n + at
  inside : at < length xs
  out : (d : X) → test (get_or xs at d) ≡ false
  before : (i : ℕ) (d : X) → i < at → test (get_or xs i d) ≡ true

earlier : {X : Type 0} (test : X → Bool) (x : X) (xs : List X) (j : ℕ) → test x ≡ true → ((i : ℕ) (d : X) → i < j → test (get_or xs i d) ≡ true) → (i : ℕ) (d : X) → i < suc j → test (get_or (x ∷ xs) i d) ≡ true
earlier test x xs j h rest zero d l = h
earlier test x xs j h rest (suc i) d l = rest i d (omega arith)

found_in : {X : Type 0} (test : X → Bool) (n : ℕ) (x : X) (xs : List X) (k : ℕ) (b : Bool) → test x ≡ b → cond b (first_failing test (suc n) xs) (Some n) ≡ Some k → (b ≡ true → first_failing test (suc n) xs ≡ Some k → Found test (suc n) xs k) → Found test n (x ∷ xs) k
found_in test n x xs k true h e rest =
    let f = rest refl e in
    record { at = suc f.at; place = omega (arith, f.place); inside = omega (arith, f.inside); out = f.out; before = earlier test x xs f.at h f.before }
found_in test n x xs k false h e rest =
    let z : n ≡ k = cc in
    record { at = 0; place = omega arith; inside = omega arith; out = λ d. h; before = λ i d l. absurd (omega arith) }

found : {X : Type 0} (test : X → Bool) (n : ℕ) (xs : List X) (k : ℕ) → first_failing test n xs ≡ Some k → Found test n xs k
found test n [] k e = let z : ◌≡◌ {A = ℕ} 0 1 = cc in absurd (omega arith)
found test n (x ∷ xs) k e = found_in test n x xs k (test x) refl e (λ _ r. found test (suc n) xs k r)

says : {X : Type 0} (test : X → Bool) (xs : List X) (o : Option ℕ) → first_failing test 0 xs ≡ o → First test xs o
says test xs None e = all_pass test 0 xs e
says test xs (Some k) e =
    let f = found test 0 xs k e in
    let p : f.at ≡ k = omega (arith, f.place) in
    (omega (arith, f.inside), (λ d. ap (λ (j : ℕ). test (get_or xs j d)) (sym p) ∙ f.out d), (λ i d l. f.before i d (omega arith)))

-- the only answer that means that
counted : {X : Type 0} (test : X → Bool) (n : ℕ) (xs : List X) (k : ℕ) → k < length xs → ((d : X) → test (get_or xs k d) ≡ false) → ((i : ℕ) (d : X) → i < k → test (get_or xs i d) ≡ true) → first_failing test n xs ≡ Some (n + k)
counted test n [] k l out before = absurd (omega arith)
counted test n (x ∷ xs) zero l out before = cond-false (test x) _ _ (out x) ∙ ap Some (sym (add-zero n))
counted test n (x ∷ xs) (suc k) l out before =
    cond-true (test x) _ _ (before 0 x (omega arith)) ∙ counted test (suc n) xs k (omega arith) out (λ i d m. before (suc i) d (omega arith)) ∙ ap Some (omega arith)

pub is_first : {X : Type 0} (test : X → Bool) (xs : List X) (o : Option ℕ) → MatchOption o (AllWithin (λ x. test x ≡ true) xs 0 (length xs)) (λ i. (i < length xs) × HoldsAt (λ x. test x ≡ false) xs i × AllWithin (λ x. test x ≡ true) xs 0 i) → o ≡ first_failing test 0 xs
is_first test [] None each = refl
is_first test (x ∷ xs) None each = sym (none_fails test 0 (x ∷ xs) x (λ i l. each i x (omega arith) l))
is_first test xs (Some k) found = sym (counted test 0 xs k found.0 found.1 (λ i d l. found.2 i d (omega arith) l) ∙ ap Some (zero-add k))

pub names_first : {X : Type 0} (test : X → Bool) (xs : List X) → NamesFirst test xs
names_first test xs = says test xs (first_failing test 0 xs) refl
