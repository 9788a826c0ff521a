-- Why joining running loads and house summaries is associative, and empty changes no house summary. This is proof
-- alone: it stands here because a law of an impl can cite specs/ and the library, and nothing of proofs/.
use Rattle.std.specs.Prelude.{◌≡◌, ℤ, ◌+ℤ◌, Some, None, Option, refl}
use Rattle.std.proofs.Common.{ap, arith, rules}
use Rattle.std.proofs.Math.IntN.{+ℤ_assoc}
use Rattle.std.proofs.lemmas.Int.{ints, clamps}
use Rattle.kinds.specs.declared.floor_record.FloorRecord.{FloorRecord}
use Rattle.kinds.specs.declared.house.House.{House}
use Rattle.kinds.specs.declared.mass_moment.MassMoment.{MassMoment}
use Rattle.kinds.specs.declared.running_load.RunningLoad.{RunningLoad}
use Rattle.kinds.specs.Houses.{no_house, both_houses}
use Rattle.kinds.specs.Loads.{least_of, taken, both_loads}

least_assoc : (a b c : Option ℤ) → least_of (least_of a b) c ≡ least_of a (least_of b c)
least_assoc a b c = grind (arith, ints, clamps)

taken_least : (a b : Option ℤ) (t : ℤ) → taken (least_of a b) t ≡ least_of (taken a t) (taken b t)
taken_least a b t = grind (arith, ints, clamps)

-- a sum taken off is its parts taken off, in either order
taken_aft : (a : Option ℤ) (s t : ℤ) → taken a (s +ℤ t) ≡ taken (taken a t) s
taken_aft None s t = refl
taken_aft (Some m) s t = ap Some (omega (arith, ints))

taken_fore : (a : Option ℤ) (s t : ℤ) → taken a (s +ℤ t) ≡ taken (taken a s) t
taken_fore None s t = refl
taken_fore (Some m) s t = ap Some (omega (arith, ints))

abbrev load : ℤ → Option ℤ → Option ℤ → RunningLoad
load t f a = record { total = t; fore = f; aft = a }

pub load_by : {t t' : ℤ} {f f' a a' : Option ℤ} → t ≡ t' → f ≡ f' → a ≡ a' → load t f a ≡ load t' f' a'
load_by p q r = cc

pub loads_assoc : (x y z : RunningLoad) → both_loads (both_loads x y) z ≡ both_loads x (both_loads y z)
loads_assoc x y z = load_by (simp +ℤ_assoc) (simp (taken_aft, taken_least, least_assoc)) (simp (taken_fore, taken_least, least_assoc))

abbrev house : MassMoment → RunningLoad → FloorRecord → House
house m l f = record { moments = m; load = l; floors = f }

pub house_by : {m m' : MassMoment} {l l' : RunningLoad} {f f' : FloorRecord} → m ≡ m' → l ≡ l' → f ≡ f' → house m l f ≡ house m' l' f'
house_by p q r = cc

pub house_right : (x : House) → both_houses x no_house ≡ x
house_right x = search (rules, house_by)

pub house_assoc : (x y z : House) → both_houses (both_houses x y) z ≡ both_houses x (both_houses y z)
house_assoc x y z = house_by (simp +ℤ_assoc) (loads_assoc x.load y.load z.load) (search rules)
