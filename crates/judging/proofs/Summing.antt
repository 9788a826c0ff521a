-- What a deck's house summary says of its stations, as the judgement has it.
use Rattle.std.proofs.Common.{◌≡◌, ℕ, suc, ◌-◌, ◌*◌, ◌≤◌, Bool, true, false, cond, ltb, leb, List, [], ◌∷◌, ◌++◌, length, ℤ, pos, ◌+ℤ◌, Some, None, Option, sym, refl, ◌∙◌, subst, arith}
use Rattle.std.proofs.lemmas.Int.{ints}
use Rattle.std.proofs.lemmas.Bool.{ltb-true, ltb-false, lt-leb, le-leb, cond-true, cond-false}
use Rattle.std.specs.Option.{option_or}
use Rattle.book.specs.declared.basic.Basic.{Basic}
use Rattle.book.specs.declared.fault.BookFault.TheVariants.{BasicField}
use Rattle.book.specs.declared.station.Station.{Station}
use Rattle.book.specs.declared.totals.Totals.{Totals}
use Rattle.book.specs.Fields.{basic_in}
use Rattle.book.specs.Refusals.{first_failing, basic_refusal}
use Rattle.book.specs.Spans.{Span}
use Rattle.book.specs.Sums.{mass_of, moment_of, totals_of}
use Rattle.book.proofs.Products.{span_moment}
use Rattle.book.proofs.Shapes.{kept}
use Rattle.kinds.specs.Direct.{Above, IsLeast}
use Rattle.kinds.specs.Folds.{AllLawful}
use Rattle.kinds.specs.Houses.{house_at}
use Rattle.kinds.specs.Tests.{below_zero}
use Rattle.kinds.proofs.Ints.{Near, held}
use Rattle.kinds.proofs.Parts.{moments_by}
use Rattle.kinds.proofs.Rows.{summary}
use Rattle.judging.specs.Spots.{spots_from, margin_kept, floor_kept}
use Rattle.judging.specs.Steps.{place_of, load_of, held_totals}
use Rattle.judging.proofs.Placing.{mass_most}

-- mass and moment are the stations' own
pub house_load : (n : ℕ) (ss : List Station) → (house_at n ss).moments ≡ load_of ss
house_load n ss = let s = summary n ss in moments_by s.mass s.moment

-- the first station over its floor is the first whose floor does not bear its load
pub first_floor : (n : ℕ) (front ss : List Station) → place_of (house_at n ss).floors.first ≡ first_failing floor_kept n (spots_from front ss)
first_floor n front [] = refl
first_floor n front (s ∷ ss) = by (ltb s.floor s.mass) refl (first_floor (suc n) (front ++ (s ∷ [])) ss)
  where
    rest : Option ℕ
    rest = first_failing floor_kept (suc n) (spots_from (front ++ (s ∷ [])) ss)

    by : (b : Bool) → ltb s.floor s.mass ≡ b → place_of (house_at (suc n) ss).floors.first ≡ rest → place_of (option_or (cond b (Some (record { station = n; excess = s.mass - s.floor })) None) (house_at (suc n) ss).floors.first) ≡ cond (leb s.mass s.floor) rest (Some n)
    by true h ih = sym (cond-false (leb s.mass s.floor) _ _ (lt-leb _ _ (ltb-true _ _ h)))
    by false h ih = ih ∙ sym (cond-true (leb s.mass s.floor) _ _ (le-leb _ _ (ltb-false _ _ h)))

-- a margin is kept where it is absent or at least 0
pub margin_above : (o : Option ℤ) → margin_kept o ≡ true → Above (pos 0) o
margin_above None h = tt
margin_above (Some m) h = grind (arith, ints)

pub above_margin : (o : Option ℤ) → Above (pos 0) o → margin_kept o ≡ true
above_margin None h = refl
above_margin (Some m) h = grind (arith, ints)

above_both : (m : ℤ) (o : Option ℤ) → below_zero (Some m) ≡ false → Above m o → Above (pos 0) o
above_both m None h k = tt
above_both m (Some v) h k = grind (arith, ints)

-- if the least margin is not below 0, none is
pub least_above : (margin : List Station → Station → List Station → Option ℤ) (ss : List Station) (o : Option ℤ) → IsLeast margin ss o → below_zero o ≡ false → (f : List Station) (s : Station) (b : List Station) → ss ≡ f ++ (s ∷ b) → Above (pos 0) (margin f s b)
least_above margin ss None least h f s b e = subst (Above (pos 0)) (sym (least f s b e)) tt
least_above margin ss (Some m) least h f s b e = above_both m (margin f s b) h (least.1 f s b e)

-- totals: nothing is held back

moment_more : (k : ℕ) (p q : ℤ) → Span p 240000000 → Span q (240000000 * k) → Span (p +ℤ q) (240000000 * suc k)
moment_more k p q s t = (omega (arith, ints, s.0, t.0), omega (arith, ints, s.1, t.1))

pub moment_most : (ss : List Station) → AllLawful ss → Span (moment_of ss) (240000000 * length ss)
moment_most [] all = (omega (arith, ints), omega (arith, ints))
moment_most (s ∷ ss) (l, all) = moment_more (length ss) _ _ (span_moment s.mass s.arm l.mass_high (l.arm_low, l.arm_high)) (moment_most ss all)

pub record Small (b : Basic) : Type 0 where
  pub mass_high : b.mass ≤ 500000
  pub moment_in : Span b.moment 4000000000

pub small : (b : Basic) → basic_refusal b ≡ None → Small b
small b e = let h = kept (basic_in b) BasicField e in record { mass_high = grind (arith, ints); moment_in = (grind (arith, ints), grind (arith, ints)) }

near_moment : (b m : ℤ) (k : ℕ) → k ≤ 256 → Span b 4000000000 → Span m (240000000 * k) → Near (b +ℤ m)
near_moment b m k few s t = record { low = omega (arith, ints, s.0, t.0); high = omega (arith, ints, s.1, t.1) }

near_mass : (b m k : ℕ) → k ≤ 256 → b ≤ 500000 → m ≤ 30000 * k → Near (pos b +ℤ pos m)
near_mass b m k few s t = record { low = omega (arith, ints); high = omega (arith, ints) }

totals_by : {m m' n n' : ℤ} → m ≡ m' → n ≡ n' → ◌≡◌ {A = Totals} (record { mass = m; moment = n }) (record { mass = m'; moment = n' })
totals_by p q = cc

pub totals_held : (b : Basic) (ss : List Station) → basic_refusal b ≡ None → AllLawful ss → length ss ≤ 256 → held_totals b (load_of ss) ≡ totals_of b ss
totals_held b ss e all few =
    let s = small b e in
    totals_by
    (held (pos b.mass +ℤ pos (mass_of ss)) (near_mass b.mass (mass_of ss) (length ss) few s.mass_high (mass_most ss all)))
    (held (b.moment +ℤ moment_of ss) (near_moment b.moment (moment_of ss) (length ss) few s.moment_in (moment_most ss all)))
