-- Values that may stand for so many stations, each at most 256: what is held within 64 bits is exact, and joined they may stand for as many together.
use Rattle.std.proofs.Common.{◌≡◌, ℕ, ◌+◌, ◌*◌, ◌≤◌, ℤ, pos, ◌+ℤ◌, ◌-ℤ◌, ◌≤ℤ◌, Some, None, Option, refl, ap, add_comm, arith}
use Rattle.std.proofs.lemmas.Int.{ints, clamps}
use Rattle.book.specs.declared.station.Station.{Station}
use Rattle.book.specs.Fields.{Lawful}
use Rattle.book.specs.Fields as fields
use Rattle.book.proofs.Products.{span_moment}
use Rattle.kinds.specs.declared.mass_moment.MassMoment.{MassMoment}
use Rattle.kinds.specs.declared.running_load.RunningLoad.{RunningLoad}
use Rattle.kinds.specs.Laws.{load_by}
use Rattle.kinds.specs.Loads.{least_of, taken, sunk, left_of, one_load, both_loads, held_loads, Margin, Bounded}
use Rattle.kinds.specs.Moments.{one_moment, both_moments, held_moments, Within}
use Rattle.kinds.proofs.Ints.{held}

-- mass and moment

abbrev moments : ℤ → ℤ → MassMoment
moments m n = record { mass = m; moment = n }

pub moments_by : {m m' n n' : ℤ} → m ≡ m' → n ≡ n' → moments m n ≡ moments m' n'
moments_by p q = cc

pub moments_held : (x y : MassMoment) (j k : ℕ) → Within x j → Within y k → j + k ≤ 256 → held_moments x y ≡ both_moments x y
moments_held x y j k a b h =
    moments_by
    (held (x.mass +ℤ y.mass) (record { low = omega (arith, ints); high = omega (arith, ints) }))
    (held (x.moment +ℤ y.moment) (record { low = omega (arith, ints); high = omega (arith, ints) }))

pub moments_join : (x y : MassMoment) (j k : ℕ) → Within x j → Within y k → Within (both_moments x y) (j + k)
moments_join x y j k a b =
    record { mass_low = omega (arith, ints); mass_high = omega (arith, ints); moment_low = omega (arith, ints); moment_high = omega (arith, ints) }

pub moments_single : (s : Station) → Lawful s → Within (one_moment s) 1
moments_single s l =
    let p = span_moment s.mass s.arm l.mass_high (l.arm_low, l.arm_high) in
    record { mass_low = omega (arith, ints); mass_high = omega (arith, ints, l.mass_high); moment_low = p.0; moment_high = p.1 }

-- margins

-- taking off in 64 bits loses nothing
off : (o : Option ℤ) (t : ℤ) (k : ℕ) → k ≤ 256 → Margin o k → pos 0 ≤ℤ t → t ≤ℤ pos 10000000 → sunk o t ≡ taken o t
off None t k h m low high = refl
off (Some x) t k h (ml, mh) low high = ap Some (held (x -ℤ t) (record { low = omega (arith, ints); high = omega (arith, ints) }))

margin_off : (o : Option ℤ) (t : ℤ) (j k : ℕ) → Margin o k → pos 0 ≤ℤ t → t ≤ℤ pos (30000 * j) → Margin (taken o t) (j + k)
margin_off o t j k m low high = grind (arith, ints)

margin_more : (o : Option ℤ) (j k : ℕ) → j ≤ k → Margin o j → Margin o k
margin_more o j k h m = grind (arith, ints)

margin_least : (a b : Option ℤ) (k : ℕ) → Margin a k → Margin b k → Margin (least_of a b) k
margin_least a b k m n = grind (arith, ints, clamps)

margin_single : (o : Option ℕ) (m : ℕ) → fields.Limit o → m ≤ 30000 → Margin (left_of o m) 1
margin_single o m l h = grind (arith, ints)

-- running load

pub loads_held : (x y : RunningLoad) (j k : ℕ) → Bounded x j → Bounded y k → j + k ≤ 256 → held_loads x y ≡ both_loads x y
loads_held x y j k a b h =
    load_by
    (held (x.total +ℤ y.total) (record { low = omega (arith, ints); high = omega (arith, ints) }))
    (ap (least_of x.fore) (off y.fore x.total k (omega arith) b.fore_in a.total_low (omega (arith, ints))))
    (ap (λ (o : Option ℤ). least_of o y.aft) (off x.aft y.total j (omega arith) a.aft_in b.total_low (omega (arith, ints))))

pub loads_join : (x y : RunningLoad) (j k : ℕ) → Bounded x j → Bounded y k → Bounded (both_loads x y) (j + k)
loads_join x y j k a b =
    record {
      total_low = omega (arith, ints);
      total_high = omega (arith, ints);
      fore_in = margin_least x.fore (taken y.fore x.total) (j + k) (margin_more x.fore j (j + k) (omega arith) a.fore_in) (margin_off y.fore x.total j k b.fore_in a.total_low a.total_high);
      aft_in = margin_least (taken x.aft y.total) y.aft (j + k) (rw (add_comm j k) (margin_off x.aft y.total k j a.aft_in b.total_low b.total_high)) (margin_more y.aft k (j + k) (omega arith) b.aft_in);
    }

pub loads_single : (s : Station) → Lawful s → Bounded (one_load s) 1
loads_single s l =
    record {
      total_low = omega (arith, ints);
      total_high = omega (arith, ints, l.mass_high);
      fore_in = margin_single s.fore s.mass l.fore_high l.mass_high;
      aft_in = margin_single s.aft s.mass l.aft_high l.mass_high;
    }
