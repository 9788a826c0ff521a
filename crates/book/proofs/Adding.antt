-- The sums over the stations so far.
use Rattle.std.proofs.Common.{◌≡◌, ℕ, ◌+◌, ◌*◌, ◌<◌, ◌≤◌, leb, List, ◌∷◌, length, get_or, drop, ℤ, pos, ◌+ℤ◌, ◌*ℤ◌, neg_ℤ, ◌≤ℤ◌, None, ap, subst, arith, w64, SFits}
use Rattle.std.proofs.lemmas.Int.{ints}
use Rattle.std.proofs.lemmas.List.{drop_all}
use Rattle.book.specs.declared.basic.Basic.{Basic}
use Rattle.book.specs.declared.station.Station.{Station}
use Rattle.std.proofs.lemmas.Bool.{and_parts, leb-true}
use Rattle.std.specs.Option.{option_or}
use Rattle.book.specs.declared.fault.BookFault.TheVariants.{StationCount, StationField}
use Rattle.book.specs.Fields.{station_in, Lawful}
use Rattle.book.specs.Refusals.{first_failing, count_refusal, station_refusal, basic_refusal, book_refusal}
use Rattle.book.specs.Spans.{Span}
use Rattle.book.specs.Sums.{mass_of, moment_of}
use Rattle.book.proofs.Bounds.{lawful}
use Rattle.book.proofs.Firsts.{all_pass}
use Rattle.book.proofs.Products.{span_moment}
use Rattle.book.proofs.Shapes.{neither, kept, unmapped}

-- mass and moment hold the basic record's and those of the first i stations, so that what is left makes up the whole
pub record Added (b : Basic) (ss : List Station) (i : ℕ) (mass moment : ℤ) : Type 0 where
  pub masses : mass +ℤ pos (mass_of (drop i ss)) ≡ pos (b.mass + mass_of ss)
  pub moments : moment +ℤ moment_of (drop i ss) ≡ b.moment +ℤ moment_of ss
  pub mass_low : pos 0 ≤ℤ mass
  pub mass_high : mass ≤ℤ pos (500000 + i * 30000)
  pub moment_low : neg_ℤ (pos (4000000000 + i * 240000000)) ≤ℤ moment
  pub moment_high : moment ≤ℤ pos (4000000000 + i * 240000000)

-- what the checks of a book have shown
pub record Passed (b : Basic) (ss : List Station) : Type 0 where
  pub few : length ss ≤ 256
  pub lawful : (i : ℕ) (d : Station) → i < length ss → Lawful (get_or ss i d)

pub passed : (b : Basic) (ss : List Station) → book_refusal b ss ≡ None → Passed b ss
passed b ss e =
    let p = neither (count_refusal ss) (option_or (station_refusal ss) (basic_refusal b)) e in
    let q = neither (station_refusal ss) (basic_refusal b) p.1 in
    let n = and_parts (leb 1 (length ss)) (leb (length ss) 256) (kept _ StationCount p.0) in
    let each = all_pass station_in 0 ss (unmapped StationField (first_failing station_in 0 ss) q.0) in
    record { few = leb-true _ _ n.1; lawful = λ i d l. lawful (get_or ss i d) (each i d l) }

-- one part moved from what is left to what is added
moved : (sum part rest left whole : ℤ) → left ≡ part +ℤ rest → sum +ℤ left ≡ whole → (sum +ℤ part) +ℤ rest ≡ whole
moved sum part rest left whole e h = omega (arith, ints)

lower : (z p : ℤ) (i : ℕ) → neg_ℤ (pos (4000000000 + i * 240000000)) ≤ℤ z → Span p 240000000 → neg_ℤ (pos (4000000000 + (i + 1) * 240000000)) ≤ℤ (z +ℤ p)
lower z p i h s = omega (arith, ints, s.0)

higher : (z p : ℤ) (i : ℕ) → z ≤ℤ pos (4000000000 + i * 240000000) → Span p 240000000 → (z +ℤ p) ≤ℤ pos (4000000000 + (i + 1) * 240000000)
higher z p i h s = omega (arith, ints, s.1)

all_in : (sum left whole : ℤ) → left ≡ pos 0 → sum +ℤ left ≡ whole → sum ≡ whole
all_in sum left whole e h = omega (arith, ints)

module _ (b : Basic) (ss : List Station) (i : ℕ) (mass moment : ℤ) (so_far : Added b ss i mass moment) where
  pub added_more : (s : Station) → Lawful s → drop i ss ≡ s ∷ drop (i + 1) ss → Added b ss (i + 1) (mass +ℤ pos s.mass) (moment +ℤ (pos s.mass *ℤ s.arm))
  added_more s ok e =
      let m : mass_of (drop i ss) ≡ s.mass + mass_of (drop (i + 1) ss) = ap mass_of e in
      let p : Span (pos s.mass *ℤ s.arm) 240000000 = span_moment s.mass s.arm ok.mass_high (ok.arm_low, ok.arm_high) in
      record {
        masses = omega (arith, ints, so_far.masses);
        moments = moved moment (pos s.mass *ℤ s.arm) (moment_of (drop (i + 1) ss)) (moment_of (drop i ss)) _ (ap moment_of e) so_far.moments;
        mass_low = omega (arith, ints, so_far.mass_low);
        mass_high = omega (arith, ints, so_far.mass_high, ok.mass_high);
        moment_low = lower moment _ i so_far.moment_low p;
        moment_high = higher moment _ i so_far.moment_high p;
      }

  pub added_all : length ss ≤ i → (mass ≡ pos (b.mass + mass_of ss)) × (moment ≡ b.moment +ℤ moment_of ss)
  added_all l =
      let m : mass_of (drop i ss) ≡ 0 = ap mass_of (drop_all i ss l) in
      let z : moment_of (drop i ss) ≡ pos 0 = ap moment_of (drop_all i ss l) in
      (omega (arith, ints, so_far.masses), all_in moment (moment_of (drop i ss)) _ z so_far.moments)

-- the sums stay far within their type
pub mass_fits : (z : ℤ) (i m : ℕ) → i < 256 → m ≤ 30000 → pos 0 ≤ℤ z → z ≤ℤ pos (500000 + i * 30000) → SFits w64 (z +ℤ pos m)
mass_fits z i m l h a b = omega (arith, ints)

pub moment_fits : (z p : ℤ) (i : ℕ) → i < 256 → Span p 240000000 → neg_ℤ (pos (4000000000 + i * 240000000)) ≤ℤ z → z ≤ℤ pos (4000000000 + i * 240000000) → SFits w64 (z +ℤ p)
moment_fits z p i l s a b = omega (arith, ints, s.0, s.1)

pub added_as : {b : Basic} {ss : List Station} {i : ℕ} {mass mass' moment moment' : ℤ} → mass ≡ mass' → moment ≡ moment' → Added b ss i mass moment → Added b ss i mass' moment'
added_as {b} {ss} {i} {mass} {mass'} {moment} p q a = subst (λ (z : ℤ). Added b ss i mass' z) q (subst (λ (z : ℤ). Added b ss i z moment) p a)
