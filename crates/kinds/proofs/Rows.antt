-- What the joined readings come to: the direct sums, least margins and first station over its floor.
use Rattle.std.proofs.Common.{◌≡◌, ℕ, suc, ◌+◌, ◌-◌, Bool, true, false, cond, ltb, List, [], ◌∷◌, ◌++◌, ℤ, pos, ◌+ℤ◌, ◌-ℤ◌, ◌*ℤ◌, ◌≤ℤ◌, Some, None, Option, sym, refl, ap, ◌∙◌, subst, zero-add, arith}
use lib.Signed.{≤ℤ_refl}
use Rattle.std.specs.Int.{int_min}
use Rattle.std.specs.Option.{option_or}
use Rattle.std.proofs.lemmas.Int.{ints, clamps, by_lt_z}
use Rattle.std.proofs.lemmas.Bool.{ltb-true, ltb-false}
use Rattle.book.specs.declared.station.Station.{Station}
use Rattle.book.specs.Sums.{mass_of, moment_of}
use Rattle.kinds.specs.declared.floor_record.FloorRecord.{FloorRecord}
use Rattle.kinds.specs.declared.floor_record.Over.{Over}
use Rattle.kinds.specs.declared.house.House.{House}
use Rattle.kinds.specs.declared.mass_moment.MassMoment.{MassMoment}
use Rattle.kinds.specs.declared.running_load.RunningLoad.{RunningLoad}
use Rattle.kinds.specs.Direct.{fore_margin, aft_margin, Above, IsLeast, IsFirstOver, Summary}
use Rattle.kinds.specs.Floors.{no_floor, one_floor, both_floors}
use Rattle.kinds.specs.Houses.{no_house, one_house, both_houses, house_at}
use Rattle.kinds.specs.Loads.{left_of, taken, least_of, no_load, one_load, both_loads}
use Rattle.kinds.specs.Meaning.{moments_at, loads_at, floors_at, KindsMean}
use Rattle.kinds.specs.Moments.{no_moment, one_moment, both_moments}
use Rattle.kinds.proofs.Folding.{read_carried}

abbrev MarginAt : Type 0
MarginAt = List Station → Station → List Station → Option ℤ

-- a place in a row is its first station or one further on
placed_by : (margin : MarginAt) (P : Option ℤ → Type 0) (s : Station) (ss : List Station) → P (margin [] s ss) → ((f : List Station) (t : Station) (b : List Station) → ss ≡ f ++ (t ∷ b) → P (margin (s ∷ f) t b)) → (f : List Station) (t : Station) (b : List Station) → s ∷ ss ≡ f ++ (t ∷ b) → P (margin f t b)
placed_by margin P s ss head tail [] t b q =
    let e : margin [] s ss ≡ margin [] t b = cc in
    subst P e head
placed_by margin P s ss head tail (x ∷ f) t b q =
    let r : ss ≡ f ++ (t ∷ b) = cc in
    let e : margin (s ∷ f) t b ≡ margin (x ∷ f) t b = cc in
    subst P e (tail f t b r)

above_weak : (a b : ℤ) (o : Option ℤ) → a ≤ℤ b → Above b o → Above a o
above_weak a b o h k = grind (arith, ints)

above_off : (m t : ℤ) (o : Option ℤ) → Above m o → Above (m -ℤ t) (taken o t)
above_off m t o k = grind (arith, ints)

-- the least of a row is the lesser of its first station's margin and the least of the others
least_at : (margin : MarginAt) (s : Station) (ss : List Station) (p o : Option ℤ) → margin [] s ss ≡ p → IsLeast (λ f. margin (s ∷ f)) ss o → IsLeast margin (s ∷ ss) (least_of p o)
least_at margin s ss None None e h = placed_by margin (λ o. o ≡ None) s ss e h
least_at margin s ss None (Some m) e (r, b) =
    ((s ∷ r.0, r.1, r.2, ap (λ l. s ∷ l) r.3, r.4), placed_by margin (Above m) s ss (subst (Above m) (sym e) tt) b)
least_at margin s ss (Some x) None e h =
    (([], s, ss, refl, e), placed_by margin (Above x) s ss (subst (Above x) (sym e) (≤ℤ_refl x)) (λ f t b q. subst (Above x) (sym (h f t b q)) tt))
least_at margin s ss (Some x) (Some m) e (r, b) =
    let P : ℤ → Type 0 = λ z. IsLeast margin (s ∷ ss) (Some z) in
    by_lt_z m x
    (λ lt.
    let is : m ≡ int_min x m = omega (arith, ints, clamps) in
    let le : m ≤ℤ x = omega (arith, ints) in
    subst P is ((s ∷ r.0, r.1, r.2, ap (λ l. s ∷ l) r.3, r.4), placed_by margin (Above m) s ss (subst (Above m) (sym e) le) b))
    (λ ge.
    let is : x ≡ int_min x m = omega (arith, ints, clamps) in
    subst P is (([], s, ss, refl, e), placed_by margin (Above x) s ss (subst (Above x) (sym e) (≤ℤ_refl x)) (λ f t d q. above_weak x m (margin (s ∷ f) t d) ge (b f t d q))))

-- every margin lowered alike lowers the least
least_off : (margin lower : MarginAt) (w : ℤ) → ((f : List Station) (t : Station) (b : List Station) → lower f t b ≡ taken (margin f t b) w) → (xs : List Station) (o : Option ℤ) → IsLeast margin xs o → IsLeast lower xs (taken o w)
least_off margin lower w e xs None h = λ f t b q. e f t b ∙ ap (λ o. taken o w) (h f t b q)
least_off margin lower w e xs (Some m) (r, k) =
    ((r.0, r.1, r.2, r.3, e r.0 r.1 r.2 ∙ ap (λ o. taken o w) r.4), λ f t b q. subst (Above (m -ℤ w)) (sym (e f t b)) (above_off m w (margin f t b) (k f t b q)))

none_of_none : (margin : MarginAt) (f : List Station) (t : Station) (b : List Station) → [] ≡ f ++ (t ∷ b) → margin f t b ≡ None
none_of_none margin [] t b q = cc
none_of_none margin (x ∷ f) t b q = cc

left_more : (o : Option ℕ) (a b c : ℕ) → left_of o ((a + b) + c) ≡ taken (left_of o (b + c)) (pos a)
left_more o a b c = grind (arith, ints)

left_both : (o : Option ℕ) (a b : ℕ) → taken (left_of o a) (pos b) ≡ left_of o (a + b)
left_both o a b = grind (arith, ints)

-- the first station over its floor is this one, or the first of the others
first_after : (n : ℕ) (s : Station) (ss : List Station) (o : Option Over) → ltb s.floor s.mass ≡ false → IsFirstOver (suc n) ss o → IsFirstOver n (s ∷ ss) o
first_after n s ss None h f = (ltb-false _ _ h, f)
first_after n s ss (Some o) h (f, t, b, e, all, over, place, excess) =
    (s ∷ f, t, b, ap (λ l. s ∷ l) e, (ltb-false _ _ h, all), over, omega arith, excess)

first_at : (n : ℕ) (s : Station) (ss : List Station) (o : Option Over) (b : Bool) → ltb s.floor s.mass ≡ b → IsFirstOver (suc n) ss o → IsFirstOver n (s ∷ ss) (option_or (cond b (Some (record { station = n; excess = s.mass - s.floor })) None) o)
first_at n s ss o true h f = ([], s, ss, refl, tt, ltb-true _ _ h, omega arith, refl)
first_at n s ss o false h f = first_after n s ss o h f

pub summary : (n : ℕ) (ss : List Station) → Summary n ss (house_at n ss)
summary n [] = record { mass = refl; moment = refl; total = refl; fore = none_of_none fore_margin; aft = none_of_none aft_margin; floor = tt }
summary n (s ∷ ss) =
    let ih = summary (suc n) ss in
    let o = (house_at (suc n) ss).load in
    record {
      mass = ap (λ (z : ℤ). pos s.mass +ℤ z) ih.mass;
      moment = ap (λ (z : ℤ). (pos s.mass *ℤ s.arm) +ℤ z) ih.moment;
      total = ap (λ (z : ℤ). pos s.mass +ℤ z) ih.total;
      fore =
          least_at fore_margin s ss (left_of s.fore s.mass) (taken o.fore (pos s.mass))
          (ap (left_of s.fore) (zero-add s.mass))
          (least_off fore_margin (λ f. fore_margin (s ∷ f)) (pos s.mass) (λ f t b. left_more t.fore s.mass (mass_of f) t.mass) ss o.fore ih.fore);
      aft =
          least_at aft_margin s ss (taken (left_of s.aft s.mass) o.total) o.aft
          (sym (ap (taken (left_of s.aft s.mass)) ih.total ∙ left_both s.aft s.mass (mass_of ss)))
          ih.aft;
      floor = first_at n s ss (house_at (suc n) ss).floors.first (ltb s.floor s.mass) refl ih.floor;
    }

-- the parts of a house summary are the summaries of its parts

moments_in : (n : ℕ) (ss : List Station) → (house_at n ss).moments ≡ moments_at n ss
moments_in = read_carried (λ (h : House). h.moments) no_house one_house both_houses no_moment (λ _ s. one_moment s) both_moments refl (λ n s. refl) (λ x y. refl)

loads_in : (n : ℕ) (ss : List Station) → (house_at n ss).load ≡ loads_at n ss
loads_in = read_carried (λ (h : House). h.load) no_house one_house both_houses no_load (λ _ s. one_load s) both_loads refl (λ n s. refl) (λ x y. refl)

floors_in : (n : ℕ) (ss : List Station) → (house_at n ss).floors ≡ floors_at n ss
floors_in = read_carried (λ (h : House). h.floors) no_house one_house both_houses no_floor one_floor both_floors refl (λ n s. refl) (λ x y. refl)

pub kinds_mean : KindsMean
kinds_mean =
    record {
      masses = λ n ss. subst (λ (x : MassMoment). x.mass ≡ pos (mass_of ss)) (moments_in n ss) (summary n ss).mass;
      moments = λ n ss. subst (λ (x : MassMoment). x.moment ≡ moment_of ss) (moments_in n ss) (summary n ss).moment;
      totals = λ n ss. subst (λ (x : RunningLoad). x.total ≡ pos (mass_of ss)) (loads_in n ss) (summary n ss).total;
      fores = λ n ss. subst (λ (x : RunningLoad). IsLeast fore_margin ss x.fore) (loads_in n ss) (summary n ss).fore;
      afts = λ n ss. subst (λ (x : RunningLoad). IsLeast aft_margin ss x.aft) (loads_in n ss) (summary n ss).aft;
      floors = λ n ss. subst (λ (x : FloorRecord). IsFirstOver n ss x.first) (floors_in n ss) (summary n ss).floor;
      houses = summary;
    }
