-- What a refused call leaves, and what an accepted one was asked.
use Rattle.std.proofs.Common.{◌≡◌, ℕ, ◌<◌, ◌≤◌, Bool, true, false, cond, ◌&&◌, ltb, leb, List, length, Some, None, Ok, Err, Option, Result, sym, refl, ap, ◌∙◌, ⊎_elim}
use Rattle.std.proofs.lemmas.Bool.{cases_Bool, cond-false, and_parts, leb-true, ltb-true}
use Rattle.std.proofs.lemmas.Option.{none-some}
use Rattle.std.specs.Option.{option_or}
use Rattle.std.specs.Result.{result_unwrap_or}
use Rattle.book.specs.declared.station.Station.{Station}
use Rattle.kinds.specs.declared.kind.Kind.{Ghosts}
use Rattle.tree.specs.declared.misfit.Misfit.{Misfit}
use Rattle.tree.specs.declared.misfit.Misfit.TheVariants.{OtherLength, NoStation, NoRange}
use Rattle.tree.specs.Calls.{memory_refusal, station_refusal, range_refusal, Filled}
use Rattle.tree.specs.Widths.{fits}
use Rattle.tree.proofs.Overs.{Laws}
use Rattle.tree.proofs.Wholes.{trees_read}

-- no refusal, so the test held
test_held : {X : Type 0} (b : Bool) (x : X) → ◌≡◌ {A = Option X} None (cond b None (Some x)) → b ≡ true
test_held b x e = ⊎_elim (λ (t : b ≡ true). t) (λ (f : b ≡ false). absurd (none-some x (e ∙ cond-false b None (Some x) f))) (cases_Bool b)

-- and so did both of two
neither : {X : Type 0} (p q : Option X) → None ≡ option_or p q → (None ≡ p) × (None ≡ q)
neither None q e = (refl, e)
neither (Some x) q e = absurd (none-some x e)

pub memory_kept : (n m : ℕ) → None ≡ memory_refusal n m → fits n m ≡ true
memory_kept n m e = test_held (fits n m) OtherLength e

pub station_kept : (n m k : ℕ) → None ≡ station_refusal n m k → (fits n m ≡ true) × (k < n)
station_kept n m k e =
    let (a, b) = neither (memory_refusal n m) (cond (ltb k n) None (Some NoStation)) e in
    (memory_kept n m a, ltb-true k n (test_held (ltb k n) NoStation b))

pub range_kept : (n m from to : ℕ) → None ≡ range_refusal n m from to → (fits n m ≡ true) × (from < to) × (to ≤ n)
range_kept n m from to e =
    let (a, b) = neither (memory_refusal n m) (cond (ltb from to && leb to n) None (Some NoRange)) e in
    let (l, h) = and_parts (ltb from to) (leb to n) (test_held (ltb from to && leb to n) NoRange b) in
    (memory_kept n m a, ltb-true from to l, leb-true to n h)

-- an accepted call has one answer
pub ok_same : {X E : Type 0} {x y : X} → ◌≡◌ {A = Result X E} (Ok x) (Ok y) → x ≡ y
ok_same {X} {E} {x} {y} e = ap (λ (r : Result X E). result_unwrap_or r x) e

module _ {K R : Type 0} (G : Ghosts K R) where
  pub filled_refused : (laws : Laws G) (before : List K) (ss : List Station) (e : Misfit) → Some e ≡ memory_refusal (length ss) (length before) → Filled G before before ss (Err e)
  filled_refused laws before ss e is = record {
    refuses = is;
    tree = λ none. absurd (none-some e (sym none));
    first_node = λ d. refl;
    untouched = λ _. refl;
    reads = trees_read G laws;
  }
