-- The code is 0 exactly when every limit is kept.
use Rattle.std.proofs.Common.{◌≡◌, ℕ, suc, ◌≤◌, Bool, true, false, List, [], ◌∷◌, ◌++◌, ℤ, pos, ◌≤ℤ◌, Some, None, Option, unwrap_or, refl, ap, ◌∙◌, arith}
use lib.Signed.{le_z}
use Rattle.std.proofs.ByRecursion.{All-weaker}
use Rattle.std.proofs.lemmas.Int.{ints}
use Rattle.std.proofs.lemmas.Bool.{leb-true, le-leb}
use Rattle.std.specs.Option.{option_or}
use Rattle.std.specs.List.{AllByRecursion}
use Rattle.book.specs.declared.basic.Basic.{Basic}
use Rattle.book.specs.declared.station.Station.{Station}
use Rattle.book.specs.declared.totals.Totals.{Totals}
use Rattle.book.specs.Refusals.{first_failing}
use Rattle.book.specs.Sums.{mass_of, totals_of, tip_kept}
use Rattle.kinds.specs.Direct.{fore_margin, aft_margin, Borne}
use Rattle.book.specs.declared.frame.Frame.{Frame}
use Rattle.book.specs.declared.vertex.Vertex.{Vertex}
use Rattle.book.specs.declared.zone.Zone.{Zone}
use Rattle.book.specs.Polygons.{within}
use Rattle.book.proofs.Shapes.{within_means}
use Rattle.judging.specs.declared.occasion.Occasion.{Occasion}
use Rattle.judging.specs.declared.occasion.Occasion.TheVariants.{Standing, Stage}
use Rattle.judging.specs.Bending.{bending, frame_kept}
use Rattle.judging.specs.Judgement.{zone_stations, zone_kept, point, at_place, whole, closing, broken, judgement}
use Rattle.judging.specs.Kept.{Closes, Keeps, Code0IsKept}
use Rattle.judging.specs.Spots.{spots_from, spots, last_failing, floor_kept, fore_kept, aft_kept}
use Rattle.judging.proofs.Passing.{Passes, first_all, all_first, last_all, all_last}
use Rattle.judging.proofs.Placing.{at_parting, from_partings}
use Rattle.judging.proofs.Summing.{margin_above, above_margin}

abbrev Said : Type 0
Said = Option (ℕ × ℕ)

-- a code of 0: this limit is not broken, nor is one after it
unbroken : (code : ℕ) (o : Option ℕ) (rest : Said) → (unwrap_or (option_or (at_place (suc code) o) rest) (0, 0)).0 ≡ 0 → (o ≡ None) × ((unwrap_or rest (0, 0)).0 ≡ 0)
unbroken code None rest e = (refl, e)
unbroken code (Some k) rest e = absurd (omega arith)

whole_kept : (code : ℕ) (k : Bool) → (unwrap_or (whole (suc code) k) (0, 0)).0 ≡ 0 → k ≡ true
whole_kept code true e = refl
whole_kept code false e = absurd (omega arith)

-- and the other way
next : (code : ℕ) (o : Option ℕ) (rest : Said) → o ≡ None → rest ≡ None → option_or (at_place code o) rest ≡ None
next code o rest e f = ap (λ (x : Option ℕ). option_or (at_place code x) rest) e ∙ f

at_most : (a b : ℤ) → le_z a b ≡ true → a ≤ℤ b
at_most a b h = grind (arith, ints)

most_at : (a b : ℤ) → a ≤ℤ b → le_z a b ≡ true
most_at a b h = grind (arith, ints)

floors_borne : (front ss : List Station) → AllByRecursion (Passes floor_kept) (spots_from front ss) → AllByRecursion Borne ss
floors_borne front [] all = tt
floors_borne front (s ∷ ss) (h, all) = (leb-true _ _ h, floors_borne (front ++ (s ∷ [])) ss all)

borne_floors : (front ss : List Station) → AllByRecursion Borne ss → AllByRecursion (Passes floor_kept) (spots_from front ss)
borne_floors front [] all = tt
borne_floors front (s ∷ ss) (h, all) = (le-leb _ _ h, borne_floors (front ++ (s ∷ [])) ss all)

closed : (o : Occasion) (b : Basic) (t : Totals) (vs : List Vertex) → (unwrap_or (closing o b t vs) (0, 0)).0 ≡ 0 → Closes o b t vs
closed Standing b t vs e = (within_means vs (point t) refl).0 (whole_kept 5 (within vs (point t)) e)
closed Stage b t vs e = at_most _ _ (whole_kept 6 (tip_kept b t) e)

closes_none : (o : Occasion) (b : Basic) (t : Totals) (vs : List Vertex) → Closes o b t vs → closing o b t vs ≡ None
closes_none Standing b t vs h = ap (whole 6) ((within_means vs (point t) refl).1 h)
closes_none Stage b t vs h = ap (whole 7) (most_at _ _ h)

module _ (o : Occasion) (b : Basic) (ss : List Station) (zs : List Zone) (fs : List Frame) (vs : List Vertex) where
  keeps : (judgement o b ss zs fs vs).0 ≡ 0 → Keeps o b ss zs fs vs
  unfolding judgement
  keeps e =
      let p = unbroken 0 (first_failing floor_kept 0 (spots ss)) _ e in
      let q = unbroken 1 (first_failing fore_kept 0 (spots ss)) _ p.1 in
      let r = unbroken 2 (last_failing aft_kept 0 (spots ss)) _ q.1 in
      let s = unbroken 3 (first_failing (zone_kept ss) 0 zs) _ r.1 in
      let t = unbroken 4 (first_failing (frame_kept ss) 0 fs) (closing o b (totals_of b ss) vs) s.1 in
      record {
        floors = floors_borne [] ss (first_all floor_kept 0 (spots ss) p.0);
        fores = λ f x g is. margin_above (fore_margin f x g) (at_parting (Passes fore_kept) [] ss (first_all fore_kept 0 (spots ss) q.0) f x g is);
        afts = λ f x g is. margin_above (aft_margin f x g) (at_parting (Passes aft_kept) [] ss (last_all aft_kept 0 (spots ss) r.0) f x g is);
        zones = All-weaker (Passes (zone_kept ss)) (λ z. mass_of (zone_stations z ss) ≤ z.limit) (λ z h. leb-true _ _ h) zs (first_all (zone_kept ss) 0 zs s.0);
        frames = All-weaker (Passes (frame_kept ss)) (λ f. bending f ss ≤ℤ pos f.limit) (λ f h. at_most _ _ h) fs (first_all (frame_kept ss) 0 fs t.0);
        closes = closed o b (totals_of b ss) vs t.1;
      }

  none : Keeps o b ss zs fs vs → broken o b ss zs fs vs ≡ None
  none k =
      next 1 (first_failing floor_kept 0 (spots ss)) _ (all_first floor_kept 0 (spots ss) (borne_floors [] ss k.floors))
      (next 2 (first_failing fore_kept 0 (spots ss)) _ (all_first fore_kept 0 (spots ss) (from_partings (Passes fore_kept) [] ss (λ f x g is. above_margin (fore_margin f x g) (k.fores f x g is))))
      (next 3 (last_failing aft_kept 0 (spots ss)) _ (all_last aft_kept 0 (spots ss) (from_partings (Passes aft_kept) [] ss (λ f x g is. above_margin (aft_margin f x g) (k.afts f x g is))))
      (next 4 (first_failing (zone_kept ss) 0 zs) _ (all_first (zone_kept ss) 0 zs (All-weaker (λ z. mass_of (zone_stations z ss) ≤ z.limit) (Passes (zone_kept ss)) (λ z h. le-leb _ _ h) zs k.zones))
      (next 5 (first_failing (frame_kept ss) 0 fs) _ (all_first (frame_kept ss) 0 fs (All-weaker (λ f. bending f ss ≤ℤ pos f.limit) (Passes (frame_kept ss)) (λ f h. most_at _ _ h) fs k.frames))
      (closes_none o b (totals_of b ss) vs k.closes)))))

  kept_none : Keeps o b ss zs fs vs → judgement o b ss zs fs vs ≡ (0, 0)
  unfolding judgement
  kept_none k = ap (λ (x : Said). unwrap_or x (0, 0)) (none k)

pub code_0_is_kept : Code0IsKept
code_0_is_kept = record { kept = keeps; only = kept_none }
