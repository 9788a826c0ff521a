-- What stations read as when they are joined nose to tail.
use Rattle.std.specs.Prelude.{◌≡◌, ℕ, suc, ◌≤◌, Bool, true, List, [], ◌∷◌, length, drop}
use Rattle.std.specs.List.{AllByRecursion}
use Rattle.book.specs.declared.station.Station.{Station}
use Rattle.book.specs.Fields.{Lawful}
use Rattle.kinds.specs.declared.kind.Kind.{Ghosts}

-- stations numbered from n on, by a kind's empty reading, its reading of one station and its joining
abbrev pub read_at : {R : Type 0} → R → (ℕ → Station → R) → (R → R → R) → ℕ → List Station → R
read_at none single joined n [] = none
read_at none single joined n (s ∷ ss) = joined (single n s) (read_at none single joined (suc n) ss)

abbrev pub AllLawful : List Station → Type 0
AllLawful ss = AllByRecursion Lawful ss

-- what is said of a deck of at most 256 stations, all in their limits
abbrev pub OnDeck : List Station → Type 0 → Type 0
OnDeck ss P = AllLawful ss → length ss ≤ 256 → P

module _ {K R : Type 0} (G : Ghosts K R) where
  -- the same of a kind: stations numbered from n on
  abbrev pub reading_at : ℕ → List Station → R
  reading_at n ss = read_at G.none G.single G.joined n ss

  -- v is the summary of the deck from a place on: it reads as its stations, and may stand for as many
  abbrev pub JoinedFrom : List Station → ℕ → K → Type 0
  JoinedFrom ss from v = OnDeck ss ((G.reading v ≡ reading_at from (drop from ss)) × G.stands v (length (drop from ss)))

  -- a test that lawful stations meet is met by them with any lawful stations aft
  abbrev pub StaysMet : (R → Bool) → Type 0
  StaysMet meets = (m n : ℕ) (xs ys : List Station) → AllLawful xs → AllLawful ys → meets (reading_at m xs) ≡ true → meets (G.joined (reading_at m xs) (reading_at n ys)) ≡ true
