-- The spots of a deck, one by one, and the masses before and aft of each.
use Rattle.std.proofs.Common.{◌≡◌, ℕ, zero, suc, ◌+◌, ◌*◌, ◌<◌, ◌≤◌, List, [], ◌∷◌, ◌++◌, length, get_or, take, drop, sym, refl, ap, ◌∙◌, subst, arith}
use Rattle.std.proofs.lemmas.List.{append-nil, append_assoc}
use Rattle.std.specs.List.{AllByRecursion}
use Rattle.book.specs.declared.station.Station.{Station}
use Rattle.book.specs.Sums.{mass_of}
use Rattle.kinds.specs.Folds.{AllLawful}
use Rattle.judging.specs.Spots.{Spot, spots_from}

abbrev spot : List Station → Station → List Station → Spot
spot f s b = record { front = f; here = s; back = b }

pub spots_long : (front ss : List Station) → length (spots_from front ss) ≡ length ss
spots_long front [] = refl
spots_long front (s ∷ ss) = ap suc (spots_long (front ++ (s ∷ [])) ss)

pub spot_at : (front ss : List Station) (i : ℕ) (d : Spot) (e : Station) → i < length ss → get_or (spots_from front ss) i d ≡ spot (front ++ take i ss) (get_or ss i e) (drop (suc i) ss)
spot_at front [] i d e l = absurd (omega arith)
spot_at front (s ∷ ss) zero d e l = ap (λ (f : List Station). spot f s ss) (sym (append-nil front))
spot_at front (s ∷ ss) (suc i) d e l =
    spot_at (front ++ (s ∷ [])) ss i d e (omega arith) ∙ ap (λ (f : List Station). spot f (get_or ss i e) (drop (suc i) ss)) (append_assoc front (s ∷ []) (take i ss))

-- what holds at each spot holds at each way to part the deck, and the other way
pub at_parting : (P : Spot → Type 0) (front ss : List Station) → AllByRecursion P (spots_from front ss) → (f : List Station) (s : Station) (b : List Station) → ss ≡ f ++ (s ∷ b) → P (spot (front ++ f) s b)
at_parting P front [] all [] s b e = absurd cc
at_parting P front [] all (x ∷ f) s b e = absurd cc
at_parting P front (t ∷ ss) (here, all) [] s b e =
    let p : spot front t ss ≡ spot (front ++ []) s b = let n = append-nil front in cc in
    subst P p here
at_parting P front (t ∷ ss) (here, all) (x ∷ f) s b e =
    let r : ss ≡ f ++ (s ∷ b) = cc in
    let x-is : t ≡ x = cc in
    let p : spot ((front ++ (t ∷ [])) ++ f) s b ≡ spot (front ++ (x ∷ f)) s b = let n = append_assoc front (t ∷ []) f in cc in
    subst P p (at_parting P (front ++ (t ∷ [])) ss all f s b r)

pub from_partings : (P : Spot → Type 0) (front ss : List Station) → ((f : List Station) (s : Station) (b : List Station) → ss ≡ f ++ (s ∷ b) → P (spot (front ++ f) s b)) → AllByRecursion P (spots_from front ss)
from_partings P front [] each = tt
from_partings P front (t ∷ ss) each = (
  subst (λ (f : List Station). P (spot f t ss)) (append-nil front) (each [] t ss refl),
  from_partings P (front ++ (t ∷ [])) ss (λ f s b e.
      subst (λ (l : List Station). P (spot l s b)) (sym (append_assoc front (t ∷ []) f)) (each (t ∷ f) s b (ap (λ (l : List Station). t ∷ l) e))),
)

pub mass_push : (xs : List Station) (s : Station) → mass_of (xs ++ (s ∷ [])) ≡ mass_of xs + s.mass
mass_push [] s = omega arith
mass_push (x ∷ xs) s = let h = mass_push xs s in omega arith

pub mass_most : (xs : List Station) → AllLawful xs → mass_of xs ≤ 30000 * length xs
mass_most [] all = omega arith
mass_most (x ∷ xs) (l, all) = let h = mass_most xs all in omega (arith, l.mass_high)
