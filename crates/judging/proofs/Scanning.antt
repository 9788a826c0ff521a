-- A scan along a deck: the stations that are still to come on its way, and what it finds from the nose and from the tail.
use Rattle.std.proofs.Common.{◌≡◌, ℕ, zero, suc, ◌+◌, ◌-◌, ◌*◌, ◌^◌, ◌<◌, ◌≤◌, min, Bool, true, false, cond, List, [], ◌∷◌, ◌++◌, reverse, length, get_or, take, drop, Bor, Some, None, Option, pos, sym, refl, ap, ◌∙◌, add-one, arith, length-append, length-drop}
use Rattle.std.proofs.ByRecursion.{All-get_or, All-drop}
use Rattle.std.proofs.lemmas.Bool.{cond-true, cond-false}
use Rattle.std.proofs.lemmas.List.{take_more, take_all, drop_more, drop_all, reverse-append}
use Rattle.std.specs.Iterator.{AlwaysYields}
use Rattle.std.specs.Option.{option_map}
use Rattle.book.specs.declared.station.Station.{Station}
use Rattle.book.specs.Fields.{Lawful}
use Rattle.book.specs.Refusals.{first_failing}
use Rattle.book.specs.Sums.{mass_of}
use Rattle.kinds.specs.Folds.{AllLawful}
use Rattle.kinds.specs.Loads.{left_of}
use Rattle.judging.specs.Spots.{Spot, spots_from, spots, last_failing, margin_kept, fore_kept, aft_kept}
use Rattle.judging.specs.Steps.{first_past}
use Rattle.judging.proofs.Passing.{last_more, last_stop}
use Rattle.judging.proofs.Placing.{spots_long, spot_at, mass_push, mass_most}

-- the way from w, after n stations whose masses are carried
module _ {W : Type 0} (steps : W → Option (Bor Station) → W → Type 0) (limit : Station → Option ℕ) (ss : List Station) where
  pub record OnWay (n carried : ℕ) (w : W) : Type 0 where
    pub rest : List Station
    pub left : AlwaysYields steps (λ x. x.now) w rest
    pub same : first_past limit n carried rest ≡ first_past limit 0 0 ss

  module _ (n carried : ℕ) (w u : W) where
    none_left : (rest : List Station) → AlwaysYields steps (λ x. x.now) w rest → steps w None u → first_past limit n carried rest ≡ None
    none_left [] left step = refl
    none_left (s ∷ rest) left step = absurd (left.0 u step)

    pub way_ends : OnWay n carried w → steps w None u → None ≡ first_past limit 0 0 ss
    way_ends on step = sym (none_left on.rest on.left step) ∙ on.same

    -- one station more
    module _ (x : Bor Station) (step : steps w (Some x) u) (more : ℕ) (is : more ≡ min (carried + x.now.mass) (2 ^ 32 - 1)) where
      next : (rest : List Station) → AlwaysYields steps (λ x. x.now) w rest → (back : List Station) × AlwaysYields steps (λ x. x.now) u back × (first_past limit n carried rest ≡ cond (margin_kept (left_of (limit x.now) more)) (first_past limit (suc n) more back) (Some n))
      next [] left = absurd (left x u step)
      next (s ∷ rest) left =
          let h = left.1 x u step in (
            rest,
            h.1,
            ap (λ (t : Station). first_past limit n carried (t ∷ rest)) (sym h.0)
                ∙ ap (λ (m : ℕ). cond (margin_kept (left_of (limit x.now) m)) (first_past limit (suc n) m rest) (Some n)) (sym is),
          )

      pub way_more : (m : ℕ) → m ≡ n + 1 → OnWay n carried w → true ≡ margin_kept (left_of (limit x.now) more) → OnWay m more u
      way_more m e on h =
          let k = next on.rest on.left in
          let suc-n : m ≡ suc n = omega arith in
          record {
            rest = k.0;
            left = k.1;
            same = ap (λ (j : ℕ). first_past limit j more k.0) suc-n ∙ sym (k.2 ∙ cond-true _ _ _ (sym h)) ∙ on.same;
          }

      pub way_stops : OnWay n carried w → false ≡ margin_kept (left_of (limit x.now) more) → Some n ≡ first_past limit 0 0 ss
      way_stops on h = sym ((next on.rest on.left).2 ∙ cond-false _ _ _ (sym h)) ∙ on.same

-- what is found is on the way
pub past_within : (limit : Station → Option ℕ) (n carried k : ℕ) (ss : List Station) → first_past limit n carried ss ≡ Some k → k < n + length ss
past_within limit n carried k [] e = absurd cc
past_within limit n carried k (s ∷ ss) e =
    let more = min (carried + s.mass) (2 ^ 32 - 1) in
    by (margin_kept (left_of (limit s) more)) e (past_within limit (suc n) more k ss)
  where
    by : (b : Bool) → cond b (first_past limit (suc n) (min (carried + s.mass) (2 ^ 32 - 1)) ss) (Some n) ≡ Some k → (first_past limit (suc n) (min (carried + s.mass) (2 ^ 32 - 1)) ss ≡ Some k → k < suc n + length ss) → k < n + suc (length ss)
    by true e rest = let h = rest e in omega arith
    by false e rest = let z : n ≡ k = cc in omega arith

-- what is carried and a station's mass added within 32 bits lose nothing
added : (xs : List Station) (carried mass more : ℕ) → length xs ≤ 256 → mass_of xs ≤ 30000 * length xs → carried ≡ mass_of xs → mass ≤ 30000 → more ≡ min (carried + mass) (2 ^ 32 - 1) → more ≡ mass_of xs + mass
added xs carried mass more few low is small e = omega arith

-- from the nose: the stations of `front` were passed
nose_from : (front ss : List Station) (n carried : ℕ) → carried ≡ mass_of front → mass_of front ≤ 30000 * length front → AllLawful ss → length front + length ss ≤ 256 → first_past (λ s. s.fore) n carried ss ≡ first_failing fore_kept n (spots_from front ss)
nose_from front [] n carried is low all few = refl
nose_from front (s ∷ ss) n carried is low (l, all) few =
    let more = min (carried + s.mass) (2 ^ 32 - 1) in
    let sum : more ≡ mass_of front + s.mass = added front carried s.mass more (omega arith) low is l.mass_high refl in
    let push = mass_push front s in
    let long = length-append front (s ∷ []) in
    ap (λ (r : Option ℕ). cond (margin_kept (left_of s.fore more)) r (Some n)) (nose_from (front ++ (s ∷ [])) ss (suc n) more (sum ∙ sym push) (omega (arith, l.mass_high)) all (omega arith))
    ∙ ap (λ (m : ℕ). cond (margin_kept (left_of s.fore m)) (first_failing fore_kept (suc n) (spots_from (front ++ (s ∷ [])) ss)) (Some n)) sum

pub nose_scan : (ss : List Station) → AllLawful ss → length ss ≤ 256 → first_past (λ s. s.fore) 0 0 ss ≡ first_failing fore_kept 0 (spots ss)
nose_scan ss all few = nose_from [] ss 0 0 refl (omega arith) all (omega arith)

-- from the tail: the mass from station i on is carried, and no station from it on is past its aft limit
record FromTail (ss : List Station) (i carried : ℕ) : Type 0 where
  sum : carried ≡ mass_of (drop i ss)
  none : last_failing aft_kept i (drop i (spots ss)) ≡ None

tail_begins : (ss : List Station) (i : ℕ) → length ss ≤ i → FromTail ss i 0
tail_begins ss i over = record {
  sum = sym (ap mass_of (drop_all i ss over));
  none = ap (last_failing aft_kept i) (drop_all i (spots ss) (omega (arith, spots_long [] ss)));
}

nobody : Station
nobody = record { arm = pos 0; floor = 0; fore = None; aft = None; mass = 0 }

nowhere : Spot
nowhere = record { front = []; here = nobody; back = [] }

module _ (ss : List Station) (all : AllLawful ss) (few : length ss ≤ 256) where
  -- one station more, at i
  module _ (i : ℕ) (below : i < length ss) (carried more : ℕ) (is : more ≡ min (carried + (get_or ss i nobody).mass) (2 ^ 32 - 1)) (so_far : FromTail ss (suc i) carried) where
    on : i < length (spots ss)
    on = omega (arith, spots_long [] ss)

    aft_sum : more ≡ (get_or ss i nobody).mass + mass_of (drop (suc i) ss)
    aft_sum =
        let light = (All-get_or Lawful ss i nobody below all).mass_high in
        let h = added (drop (suc i) ss) carried _ more (omega (arith, length-drop (suc i) ss)) (mass_most (drop (suc i) ss) (All-drop Lawful (suc i) ss all)) so_far.sum light is in
        omega arith

    aft_here : {r : Bool} → r ≡ margin_kept (left_of (get_or ss i nobody).aft more) → r ≡ aft_kept (get_or (spots ss) i nowhere)
    aft_here h = h ∙ ap (λ (m : ℕ). margin_kept (left_of (get_or ss i nobody).aft m)) aft_sum ∙ sym (ap aft_kept (spot_at [] ss i nowhere nobody below))

    tail_more : true ≡ margin_kept (left_of (get_or ss i nobody).aft more) → FromTail ss i more
    tail_more h = record {
      sum = aft_sum ∙ sym (ap mass_of (drop_more ss i nobody below) ∙ ap (λ (k : ℕ). (get_or ss i nobody).mass + mass_of (drop k ss)) (add-one i));
      none = last_more aft_kept (spots ss) i nowhere on so_far.none (aft_here h);
    }

    tail_stops : false ≡ margin_kept (left_of (get_or ss i nobody).aft more) → Some i ≡ last_failing aft_kept 0 (spots ss)
    tail_stops h = last_stop aft_kept (spots ss) i nowhere on so_far.none (aft_here h)

  abbrev pub place : ℕ → ℕ
  place k = length ss - k - 1

  abbrev pub found : ℕ → ℕ → List Station → Option ℕ
  found n carried rs = option_map place (first_past (λ s. s.aft) n carried rs)

  -- the stations before i are still to come
  tail_from : (i n carried : ℕ) → n + i ≡ length ss → FromTail ss i carried → found n carried (reverse (take i ss)) ≡ last_failing aft_kept 0 (spots ss)
  tail_from zero n carried e so_far = sym so_far.none
  tail_from (suc i) n carried e so_far =
      ap (λ (rs : List Station). found n carried rs) turned ∙ by (margin_kept (left_of x.aft more)) refl (tail_from i (suc n) more (omega arith))
    where
      x : Station
      x = get_or ss i nobody

      more : ℕ
      more = min (carried + x.mass) (2 ^ 32 - 1)

      below : i < length ss
      below = omega arith

      turned : reverse (take (suc i) ss) ≡ x ∷ reverse (take i ss)
      turned = ap (λ (k : ℕ). reverse (take k ss)) (sym (add-one i)) ∙ ap reverse (take_more ss i nobody below) ∙ reverse-append (take i ss) (x ∷ [])

      by : (b : Bool) → b ≡ margin_kept (left_of x.aft more) → (FromTail ss i more → found (suc n) more (reverse (take i ss)) ≡ last_failing aft_kept 0 (spots ss)) → option_map place (cond b (first_past (λ s. s.aft) (suc n) more (reverse (take i ss))) (Some n)) ≡ last_failing aft_kept 0 (spots ss)
      by true h rest = rest (tail_more i below carried more refl so_far h)
      by false h rest = let p : place n ≡ i = omega arith in ap Some p ∙ tail_stops i below carried more refl so_far h

  pub tail_scan : found 0 0 (reverse ss) ≡ last_failing aft_kept 0 (spots ss)
  tail_scan =
      ap (λ (l : List Station). found 0 0 (reverse l)) (sym (take_all (length ss) ss (omega arith)))
      ∙ tail_from (length ss) 0 0 (omega arith) (tail_begins ss (length ss) (omega arith))
