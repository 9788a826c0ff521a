use Rattle.std.proofs.Common.{◌≡◌, ℕ, ◌+◌, ◌<◌, List, length, get_or, ℤ, pos, ◌+ℤ◌, ◌*ℤ◌, None, sym, refl, ap, ◌∙◌, subst, arith, w64, SFits, to_z, of_z}
use Rattle.std.proofs.lemmas.List.{drop_more}
use Rattle.std.proofs.lemmas.Int.{to_z-of_z}
use Rattle.book.specs.declared.basic.Basic.{Basic}
use Rattle.book.specs.declared.station.Station.{Station}
use Rattle.book.specs.Refusals.{book_refusal}
use Rattle.book.specs.Spans.{Span}
use Rattle.book.proofs.Adding.{Added, passed, added_as, added_more, mass_fits, moment_fits}
use Rattle.book.proofs.Products.{span_moment}
use Rattle.book.proofs.totals.summed.Goals as goal

-- one turn: the sums before it fit with station i added, and hold what is added after it
module _ (b : Basic) (ss : List Station) (i : ℕ) (d : Station) (checked : book_refusal b ss ≡ None) (below : i < length ss)
    (mass moment : ℤ) (so_far : Added b ss i mass moment) (m r : ℤ) (m_is : m ≡ pos (get_or ss i d).mass) (r_is : r ≡ pos (get_or ss i d).mass *ℤ (get_or ss i d).arm) where
  more_mass : SFits w64 (mass +ℤ m)
  more_mass =
      let p = passed b ss checked in
      let l : i < 256 = omega (arith, p.few) in
      subst (λ (z : ℤ). SFits w64 (mass +ℤ z)) (sym m_is) (mass_fits mass i _ l (p.lawful i d below).mass_high so_far.mass_low so_far.mass_high)

  more_moment : SFits w64 (moment +ℤ r)
  more_moment =
      let p = passed b ss checked in
      let ok = p.lawful i d below in
      let l : i < 256 = omega (arith, p.few) in
      let s = span_moment (get_or ss i d).mass (get_or ss i d).arm ok.mass_high (ok.arm_low, ok.arm_high) in
      moment_fits moment r i l (subst (λ (z : ℤ). Span z 240000000) (sym r_is) s) so_far.moment_low so_far.moment_high

  turned : Added b ss (i + 1) (to_z w64 (of_z w64 (mass +ℤ m))) (to_z w64 (of_z w64 (moment +ℤ r)))
  turned =
      added_as
      (sym (to_z-of_z w64 _ more_mass ∙ ap (λ (z : ℤ). mass +ℤ z) m_is))
      (sym (to_z-of_z w64 _ more_moment ∙ ap (λ (z : ℤ). moment +ℤ z) r_is))
      (added_more b ss i mass moment so_far (get_or ss i d) ((passed b ss checked).lawful i d below) (drop_more ss i d below))

-- a result as the sums see it
seen : (r z : ℤ) → SFits w64 r → r ≡ z → to_z w64 (of_z w64 r) ≡ z
seen r z f e = to_z-of_z w64 r f ∙ e

pub overflow_add-moment : goal.overflow_add-moment
overflow_add-moment c =
    more_moment _ _ c.loop-station.station-index _ c.requires c.loop-station-test.true _ _ c.loop-station.invariant _ _ refl
    (seen c.moment-moment.result _ (record { sfits = c.moment-moment.type_inv }) c.moment-moment.ensures)

pub loop-station-preserved : goal.loop-station-preserved
loop-station-preserved c =
    turned _ _ c.loop-station.station-index _ c.requires c.loop-station-test.true _ _ c.loop-station.invariant _ _
    (seen c.from-mass-in-loop-station.result _ (record { sfits = c.from-mass-in-loop-station.type_inv }) c.from-mass-in-loop-station.ensures)
    (seen c.moment-moment.result _ (record { sfits = c.moment-moment.type_inv }) c.moment-moment.ensures)
