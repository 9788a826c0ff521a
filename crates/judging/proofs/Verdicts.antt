-- The verdict of the first broken limit is the judgement.
use Rattle.std.proofs.Common.{◌≡◌, ℕ, true, false, cond, List, length, Some, None, Option, Result, unwrap_or, refl, ap, ◌∙◌}
use Rattle.std.specs.Option.{option_map, option_or}
use Rattle.std.specs.Result.{result_err}
use Rattle.book.specs.declared.basic.Basic.{Basic}
use Rattle.book.specs.declared.station.Station.{Station}
use Rattle.book.specs.declared.totals.Totals.{Totals}
use Rattle.book.specs.Refusals.{answer, first_failing, basic_refusal, zone_refusal, frame_refusal}
use Rattle.book.specs.Sums.{totals_of, tip_kept}
use Rattle.book.specs.declared.frame.Frame.{Frame}
use Rattle.book.specs.declared.vertex.Vertex.{Vertex}
use Rattle.book.specs.declared.zone.Zone.{Zone}
use Rattle.book.specs.Polygons.{within}
use Rattle.judging.specs.declared.breach.Breach.{Breach}
use Rattle.judging.specs.declared.breach.Breach.TheVariants.{OverFloor, PastFore, PastAft, OverZone, OverFrame, OutOfTrim, OnItsTail}
use Rattle.judging.specs.declared.occasion.Occasion.{Occasion}
use Rattle.judging.specs.declared.occasion.Occasion.TheVariants.{Standing, Stage}
use Rattle.kinds.specs.declared.kind.Kind.{Ghosts}
use Rattle.judging.specs.declared.deck.Deck.{Deck}
use Rattle.judging.specs.Bending.{frame_kept}
use Rattle.judging.specs.Decks.{Sound}
use Rattle.judging.specs.Judges.{Judges}
use Rattle.judging.proofs.Keeping.{code_0_is_kept}
use Rattle.book.proofs.Shapes.{neither}
use Rattle.judging.specs.Breaches.{closing_breach, first_breach, verdict}
use Rattle.judging.specs.Judgement.{zone_kept, point, at_place, closing, broken, judgement}
use Rattle.judging.specs.Spots.{spots, last_failing, floor_kept, fore_kept, aft_kept}

-- one limit and those after it
then : (F : ℕ → Breach) (code : ℕ) → ((k : ℕ) → verdict (F k) ≡ (code, k)) → (o : Option ℕ) (rest : Option Breach) (said : Option (ℕ × ℕ)) → option_map verdict rest ≡ said → option_map verdict (option_or (option_map F o) rest) ≡ option_or (at_place code o) said
then F code is None rest said e = e
then F code is (Some k) rest said e = ap Some (is k)

closings : (o : Occasion) (b : Basic) (t : Totals) (vs : List Vertex) → option_map verdict (closing_breach o b t vs) ≡ closing o b t vs
closings Standing b t vs = elim (within vs (point t)) as (λ k. option_map verdict (cond k None (Some OutOfTrim)) ≡ cond k None (Some (6, 0))) [ true ↦ refl | false ↦ refl ]
closings Stage b t vs = elim (tip_kept b t) as (λ k. option_map verdict (cond k None (Some OnItsTail)) ≡ cond k None (Some (7, 0))) [ true ↦ refl | false ↦ refl ]

same : (o : Occasion) (b : Basic) (ss : List Station) (zs : List Zone) (fs : List Frame) (vs : List Vertex) → option_map verdict (first_breach o b ss zs fs vs) ≡ broken o b ss zs fs vs
same o b ss zs fs vs =
    then OverFloor 1 (λ k. refl) (first_failing floor_kept 0 (spots ss)) _ _
    (then PastFore 2 (λ k. refl) (first_failing fore_kept 0 (spots ss)) _ _
    (then PastAft 3 (λ k. refl) (last_failing aft_kept 0 (spots ss)) _ _
    (then OverZone 4 (λ k. refl) (first_failing (zone_kept ss) 0 zs) _ _
    (then OverFrame 5 (λ k. refl) (first_failing (frame_kept ss) 0 fs) _ _ (closings o b (totals_of b ss) vs)))))

err_part : (o : Option Breach) → result_err (answer o (tt {0})) ≡ o
err_part None = refl
err_part (Some x) = refl

pub judges : (o : Occasion) (b : Basic) (ss : List Station) (zs : List Zone) (fs : List Frame) (vs : List Vertex) {checked : Result (Unit {0}) Breach} → checked ≡ answer (first_breach o b ss zs fs vs) tt → unwrap_or (option_map verdict (result_err checked)) (0, 0) ≡ judgement o b ss zs fs vs
unfolding judgement
judges o b ss zs fs vs e =
    ap (λ (r : Result (Unit {0}) Breach). unwrap_or (option_map verdict (result_err r)) (0, 0)) e
    ∙ ap (λ (x : Option Breach). unwrap_or (option_map verdict x) (0, 0)) (err_part (first_breach o b ss zs fs vs))
    ∙ ap (λ (x : Option (ℕ × ℕ)). unwrap_or x (0, 0)) (same o b ss zs fs vs)

-- the verdict of a deck that was checked against every limit is what a call of the judgement answers
pub judged : {K R : Type 0} (G : Ghosts K R) (b : Basic) (d : Deck K) (zs : List Zone) (fs : List Frame) (vs : List Vertex) (o : Occasion) {r : ℕ × ℕ} {checked : Result (Unit {0}) Breach} → r ≡ unwrap_or (option_map verdict (result_err checked)) (0, 0) → (Sound G d → basic_refusal b ≡ None → zone_refusal (length d.stations.now) zs ≡ None → checked ≡ answer (first_breach o b d.stations.now zs fs vs) tt) → Judges G b d.stations.now d.nodes.now zs fs vs o r
judged G b d zs fs vs o is says = record {
  value = λ all basic limits tree.
      is ∙ judges o b d.stations.now zs fs vs (says (record { lawful = all; tree = tree }) basic (neither (zone_refusal (length d.stations.now) zs) (frame_refusal fs) limits).0);
  means = code_0_is_kept;
}
