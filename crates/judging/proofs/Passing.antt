-- The first and the last entry that fail a test: each passes where there is none, and the steps of a search for the last.
use Rattle.std.proofs.Common.{◌≡◌, ℕ, zero, suc, ◌+◌, ◌<◌, Bool, true, false, cond, List, [], ◌∷◌, length, get_or, drop, Some, None, Option, sym, refl, ap, ◌∙◌, add-zero, add-one, arith}
use Rattle.std.proofs.lemmas.List.{drop_more}
use Rattle.std.proofs.lemmas.Bool.{cond-true, cond-false}
use Rattle.std.specs.Option.{option_or}
use Rattle.std.specs.List.{AllByRecursion}
use Rattle.book.specs.Refusals.{first_failing}
use Rattle.judging.specs.Spots.{last_failing}

pub neither : {X : Type 0} (a b : Option X) → option_or a b ≡ None → (a ≡ None) × (b ≡ None)
neither None b e = (refl, e)
neither (Some x) b e = absurd cc

-- an answer only where a test fails, so it held
passed : (b : Bool) (n : ℕ) → cond b None (Some n) ≡ None → b ≡ true
passed true n e = refl
passed false n e = absurd cc

module _ {X : Type 0} (test : X → Bool) where
  abbrev pub Passes : X → Type 0
  Passes x = test x ≡ true

  pub first_all : (n : ℕ) (xs : List X) → first_failing test n xs ≡ None → AllByRecursion Passes xs
  first_all n [] e = tt
  first_all n (x ∷ xs) e = by (test x) refl e (first_all (suc n) xs)
    where
      by : (b : Bool) → test x ≡ b → cond b (first_failing test (suc n) xs) (Some n) ≡ None → (first_failing test (suc n) xs ≡ None → AllByRecursion Passes xs) → AllByRecursion Passes (x ∷ xs)
      by true h e rest = (h, rest e)
      by false h e rest = absurd cc

  pub all_first : (n : ℕ) (xs : List X) → AllByRecursion Passes xs → first_failing test n xs ≡ None
  all_first n [] h = refl
  all_first n (x ∷ xs) (h, rest) = cond-true (test x) _ _ h ∙ all_first (suc n) xs rest

  -- the first that fails, by its place: each before it passes
  pub found_first : (n i : ℕ) (xs : List X) (d : X) → i < length xs → ((k : ℕ) → k < i → test (get_or xs k d) ≡ true) → test (get_or xs i d) ≡ false → Some (n + i) ≡ first_failing test n xs
  found_first n i [] d l before h = absurd (omega arith)
  found_first n zero (x ∷ xs) d l before h = ap Some (add-zero n) ∙ sym (cond-false (test x) _ _ h)
  found_first n (suc i) (x ∷ xs) d l before h =
      let m : n + suc i ≡ suc n + i = omega arith in
      ap Some m ∙ found_first (suc n) i xs d (omega arith) (λ k b. before (suc k) (omega arith)) h ∙ sym (cond-true (test x) _ _ (before 0 (omega arith)))

  pub none_first : (n : ℕ) (xs : List X) (d : X) → ((k : ℕ) → k < length xs → test (get_or xs k d) ≡ true) → None ≡ first_failing test n xs
  none_first n [] d all = refl
  none_first n (x ∷ xs) d all = none_first (suc n) xs d (λ k b. all (suc k) (omega arith)) ∙ sym (cond-true (test x) _ _ (all 0 (omega arith)))

  pub last_all : (n : ℕ) (xs : List X) → last_failing test n xs ≡ None → AllByRecursion Passes xs
  last_all n [] e = tt
  last_all n (x ∷ xs) e =
      let p = neither (last_failing test (suc n) xs) (cond (test x) None (Some n)) e in
      (passed (test x) n p.1, last_all (suc n) xs p.0)

  pub all_last : (n : ℕ) (xs : List X) → AllByRecursion Passes xs → last_failing test n xs ≡ None
  all_last n [] h = refl
  all_last n (x ∷ xs) (h, rest) = ap (λ (o : Option ℕ). option_or o (cond (test x) None (Some n))) (all_last (suc n) xs rest) ∙ cond-true (test x) _ _ h

  -- the last from place j on is the last of all
  last_from : (n j k : ℕ) (xs : List X) → last_failing test (n + j) (drop j xs) ≡ Some k → last_failing test n xs ≡ Some k
  last_from n zero k xs e = ap (λ (m : ℕ). last_failing test m xs) (sym (add-zero n)) ∙ e
  last_from n (suc j) k [] e = e
  last_from n (suc j) k (x ∷ xs) e =
      let m : suc n + j ≡ n + suc j = omega arith in
      ap (λ (o : Option ℕ). option_or o (cond (test x) None (Some n))) (last_from (suc n) j k xs (ap (λ (m : ℕ). last_failing test m (drop j xs)) m ∙ e))

  -- a search from the tail that has come to place j
  module _ (xs : List X) (j : ℕ) (d : X) (below : j < length xs) (rest : last_failing test (suc j) (drop (suc j) xs) ≡ None) where
    here : last_failing test j (drop j xs) ≡ cond (test (get_or xs j d)) None (Some j)
    here =
        ap (last_failing test j) (drop_more xs j d below)
        ∙ ap (λ (o : Option ℕ). option_or o (cond (test (get_or xs j d)) None (Some j))) (ap (λ (k : ℕ). last_failing test (suc j) (drop k xs)) (add-one j) ∙ rest)

    pub last_more : true ≡ test (get_or xs j d) → last_failing test j (drop j xs) ≡ None
    last_more h = here ∙ cond-true (test (get_or xs j d)) _ _ (sym h)

    pub last_stop : false ≡ test (get_or xs j d) → Some j ≡ last_failing test 0 xs
    last_stop h = sym (last_from 0 j j xs (ap (λ (m : ℕ). last_failing test m (drop j xs)) (omega arith) ∙ here ∙ cond-false (test (get_or xs j d)) _ _ (sym h)))
