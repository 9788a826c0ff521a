use Rattle.std.proofs.Common.{◌≡◌, ℕ, ◌+◌, ◌*◌, ◌/◌, ◌<◌, ◌≢◌, length, sym, ◌∙◌, subst, ⊎_elim, arith}
use Rattle.std.proofs.lemmas.List.{get_or-set_other, length-set}
use Rattle.tree.specs.Trees.{Above}
use Rattle.tree.proofs.Joinings.{right_more}
use Rattle.tree.proofs.Overs.{Laws}
use Rattle.tree.proofs.Places.{above_self, above_half, above_cases, above_none, above_le}
use Rattle.tree.proofs.inner.renew_above.Goals as goal

pub loop-i-preserved : goal.loop-i-preserved
loop-i-preserved g c =
    let G = g.K.Kind in
    let laws : Laws G = record { left = g.met.K.Kind.left; right = g.met.K.Kind.right; assoc = g.met.K.Kind.assoc } in
    let n = c.loop-i.nodes in
    let i = c.loop-i.i in
    let v = c.children_joined.result in
    let low : 0 < i = c.loop-i-test.true in
    let (room, up, same, right) = c.loop-i.invariant in
    let half = c.parent-i-in-loop-i.ensures in
    let to-half : (j : ℕ) → Above j c.parent-i-in-loop-i.result → Above j (i / 2) = λ j a. subst (λ (x : ℕ). Above j x) half a in (
      omega (arith, half, length-set n i v),
      λ j a. up j (above_half j i (to-half j a)),
      λ j d out.
          let ne : j ≢ i = λ e. out (up j (subst (λ (x : ℕ). Above j x) e (above_self j (omega arith)))) in
          get_or-set_other n i j v d ne ∙ same j d out,
      λ w ss long few all.
          let long' : length n ≡ 2 * w = sym (length-set n i v) ∙ long in
          right_more G laws n w ss few (omega arith) (λ (j : ℕ). Above j i → ⊥) (λ (j : ℕ). Above j c.parent-i-in-loop-i.result → ⊥) i v (omega arith) c.children_joined.ensures
          (λ a. omega (arith, above_le (2 * i) i a)) (λ a. omega (arith, above_le (2 * i + 1) i a))
          (λ j ne out a. ⊎_elim ne (λ (b : Above j (i / 2)). out (subst (λ (x : ℕ). Above j x) (sym half) b)) (above_cases j i a))
          (right w ss long' few all),
    )

pub returns : goal.returns
returns g c =
    let from = c.parent-i.ensures in
    let out : (j : ℕ) → Above j c.loop-i.i → ⊥ = λ j a. above_none j (subst (λ (x : ℕ). Above j x) (omega arith) a) in
    let (room, up, same, right) = c.loop-i.invariant in
    record {
      beside = λ j d away. same j d (λ a. away (subst (λ (x : ℕ). Above j x) from a));
      whole = λ w ss long few all h j p d pl.
          right w ss (c.loop-i.auto.nodes ∙ long) few (λ h' j' p' d' pl' away. all h' j' p' d' pl' (λ a. away (subst (λ (x : ℕ). Above j' x) (sym from) a))) h j p d pl (out j);
    }
