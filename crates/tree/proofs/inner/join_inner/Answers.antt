use Rattle.std.proofs.Common.{ℕ, ◌-◌, ◌*◌, ◌/◌, ◌<◌, ◌≤◌, ◌≢◌, length, refl, ◌∙◌, arith}
use Rattle.std.proofs.lemmas.List.{get_or-set_other}
use Rattle.tree.proofs.Joinings.{leaves_right, right_more}
use Rattle.tree.proofs.Overs.{Laws}
use Rattle.tree.proofs.Places.{place_low}
use Rattle.tree.proofs.inner.join_inner.Goals as goal

-- at first the leaves are right
pub loop-i-init : goal.loop-i-init
loop-i-init g c = (λ d. refl, λ ss few leaves. leaves_right g.K.Kind c.args.nodes.now (length c.args.nodes.now / 2) ss leaves)

pub loop-i-preserved : goal.loop-i-preserved
loop-i-preserved g c =
    let G = g.K.Kind in
    let laws : Laws G = record { left = g.met.K.Kind.left; right = g.met.K.Kind.right; assoc = g.met.K.Kind.assoc } in
    let n = c.loop-i.nodes in
    let i = c.loop-i.i - 1 in
    let v = c.children_joined.result in
    let w = length c.args.nodes.now / 2 in
    let low : 1 < c.loop-i.i = c.loop-i-test.true in
    let long : 2 * w ≤ length n = omega (arith, c.loop-i.auto.nodes) in
    let high : i < w = omega (arith, c.loop-i.auto.i) in
    let ne : 0 ≢ i = λ e. omega arith in (
      λ d. get_or-set_other n i 0 v d ne ∙ c.loop-i.invariant.0 d,
      λ ss few leaves.
          right_more G laws n w ss few long (λ (j : ℕ). c.loop-i.i ≤ j) (λ (j : ℕ). i ≤ j) i v high c.children_joined.ensures
          (omega arith) (omega arith) (λ j other from. omega arith) (c.loop-i.invariant.1 ss few leaves),
    )

pub returns : goal.returns
returns g c = record {
  first = c.loop-i.invariant.0;
  whole = λ ss few leaves h i p d pl. let low = place_low pl in c.loop-i.invariant.1 ss few leaves h i p d pl (omega (arith, c.loop-i-test.false));
}
