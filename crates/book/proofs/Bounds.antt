-- What a passed test says of a vertex and of a station.
use Rattle.std.proofs.Common.{◌≡◌, ℕ, Bool, true, false, ◌&&◌, T, leb, ℤ, pos, neg_ℤ, ◌≤ℤ◌, Some, None, Option, sym, refl, subst, arith}
use lib.Signed.{le_z}
use Rattle.std.proofs.lemmas.Int.{ints}
use Rattle.std.proofs.lemmas.Bool.{and_parts, leb-true}
use Rattle.book.specs.declared.vertex.Vertex.{Vertex}
use Rattle.book.specs.declared.station.Station.{Station}
use Rattle.book.specs.Fields.{arm_in, limit_in, vertex_in, station_in, Limit, Lawful}
use Rattle.book.specs.Envelopes.{InLimits}

at_most : {a b : ℤ} → le_z a b ≡ true → a ≤ℤ b
at_most {a} {b} h = record { le = subst T (sym h) tt }

pub in_limits : (v : Vertex) → vertex_in v ≡ true → InLimits v
in_limits v h = record { mass_low = grind (arith, ints); mass_high = grind (arith, ints); moment_low = grind (arith, ints); moment_high = grind (arith, ints) }

pub from_limits : (v : Vertex) → InLimits v → vertex_in v ≡ true
from_limits v h = grind (arith, ints)

limited : (o : Option ℕ) → limit_in o ≡ true → Limit o
limited None h = tt
limited (Some n) h = leb-true _ _ h

-- the parts of a test of five
parts : (a b c d e : Bool) → (a && b && c && d && e) ≡ true → (a ≡ true) × (b ≡ true) × (c ≡ true) × (d ≡ true) × (e ≡ true)
parts true true true true true h = (refl, refl, refl, refl, refl)
parts true true true true false h = let z : ◌≡◌ {A = ℕ} 0 1 = cc in absurd (omega arith)
parts true true true false e h = let z : ◌≡◌ {A = ℕ} 0 1 = cc in absurd (omega arith)
parts true true false d e h = let z : ◌≡◌ {A = ℕ} 0 1 = cc in absurd (omega arith)
parts true false c d e h = let z : ◌≡◌ {A = ℕ} 0 1 = cc in absurd (omega arith)
parts false b c d e h = let z : ◌≡◌ {A = ℕ} 0 1 = cc in absurd (omega arith)

pub lawful : (s : Station) → station_in s ≡ true → Lawful s
lawful s h =
    let p = parts (arm_in s.arm) (leb s.floor 30000) (limit_in s.fore) (limit_in s.aft) (leb s.mass 30000) h in
    let q = and_parts (le_z (neg_ℤ (pos 8000)) s.arm) (le_z s.arm (pos 8000)) p.0 in
    record {
      arm_low = at_most q.0;
      arm_high = at_most q.1;
      floor_high = leb-true _ _ p.1;
      fore_high = limited s.fore p.2;
      aft_high = limited s.aft p.3;
      mass_high = leb-true _ _ p.4;
    }
