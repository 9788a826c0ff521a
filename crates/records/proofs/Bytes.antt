-- Numbers in two and in four bytes that were read are written as those bytes.
use Rattle.std.proofs.Common.{◌≡◌, ℕ, zero, suc, ◌+◌, ◌<◌, ◌≤◌, List, [], ◌∷◌, length, get_or, take, drop, ap, ◌∙◌, arith, add-zero, length-drop}
use Rattle.std.proofs.lemmas.List.{get_or-drop, get_or-take, get_or_past, length-take-le}
use Rattle.std.proofs.lemmas.Nat.{le_bytes_2, le_bytes_4}
use Rattle.records.specs.Records.{two, four}
use Rattle.records.specs.Reading.{word, dword}

-- each number is a byte
abbrev pub Bytes : List ℕ → Type 0
Bytes bs = (i : ℕ) → get_or bs i 0 < 256

pub bytes_drop : (n : ℕ) (bs : List ℕ) → Bytes bs → Bytes (drop n bs)
bytes_drop n bs h i = rw get_or-drop (h (n + i))

-- the n bytes from `at` on
module _ (bs : List ℕ) (at n : ℕ) (h : Bytes bs) (l : at + n ≤ length bs) where
  long : length (take n (drop at bs)) ≡ n
  long = length-take-le n (drop at bs) (omega (arith, length-drop at bs))

  bytes : Bytes (take n (drop at bs))
  bytes i = grind (arith, get_or-take, get_or_past, long, bytes_drop at bs h i)

  at_part : (i : ℕ) → i < n → get_or (take n (drop at bs)) i 0 ≡ get_or bs (at + i) 0
  at_part i k = get_or-take n (drop at bs) i 0 k ∙ get_or-drop at bs i 0

pub word_taken : (bs : List ℕ) (at : ℕ) → Bytes bs → at + 2 ≤ length bs → two (word bs at) ≡ take 2 (drop at bs)
word_taken bs at h l =
    let z = ap (λ (k : ℕ). get_or bs k 0) (add-zero at) in
    let p = at_part bs at 2 h l 0 (omega arith) in
    let q = at_part bs at 2 h l 1 (omega arith) in
    le_bytes_2 (take 2 (drop at bs)) (word bs at) (long bs at 2 h l) (bytes bs at 2 h l) (cc)

pub dword_taken : (bs : List ℕ) (at : ℕ) → Bytes bs → at + 4 ≤ length bs → four (dword bs at) ≡ take 4 (drop at bs)
dword_taken bs at h l =
    let z = ap (λ (k : ℕ). get_or bs k 0) (add-zero at) in
    let p = at_part bs at 4 h l 0 (omega arith) in
    let q = at_part bs at 4 h l 1 (omega arith) in
    let r = at_part bs at 4 h l 2 (omega arith) in
    let s = at_part bs at 4 h l 3 (omega arith) in
    le_bytes_4 (take 4 (drop at bs)) (dword bs at) (long bs at 4 h l) (bytes bs at 4 h l) (cc)

-- the same at any place, also past the end, where each byte reads as 0

none : Bytes []
none i = omega arith

in_front : (b : ℕ) (bs : List ℕ) → b < 256 → Bytes bs → Bytes (b ∷ bs)
in_front b bs l h zero = l
in_front b bs l h (suc i) = h i

pub two_word : (bs : List ℕ) (at : ℕ) → Bytes bs → two (word bs at) ≡ get_or bs at 0 ∷ get_or bs (at + 1) 0 ∷ []
two_word bs at h =
    word_taken (get_or bs at 0 ∷ get_or bs (at + 1) 0 ∷ []) 0
    (search (in_front, none, h))
    (omega arith)

pub four_dword : (bs : List ℕ) (at : ℕ) → Bytes bs → four (dword bs at) ≡ get_or bs at 0 ∷ get_or bs (at + 1) 0 ∷ get_or bs (at + 2) 0 ∷ get_or bs (at + 3) 0 ∷ []
four_dword bs at h =
    dword_taken (get_or bs at 0 ∷ get_or bs (at + 1) 0 ∷ get_or bs (at + 2) 0 ∷ get_or bs (at + 3) 0 ∷ []) 0
    (search (in_front, none, h))
    (omega arith)
