use Rattle.std.proofs.Common.{◌+◌, ◌/◌, ◌<◌, ◌≤◌, length, get_or, ◌∙◌, subst, ℕ}
use Rattle.stages.proofs.Masses.{not_above}
use Rattle.stages.proofs.Restoring.{mass_was, long_was, back_more, back_all}
use Rattle.stages.proofs.back.take_back.Goals as goal

pub loop-k-preserved : goal.loop-k-preserved
loop-k-preserved g c =
    let k = c.loop-k.k in
    let put = c.put_back.ensures in (
      λ d. put.beside 0 d (not_above (length c.loop-k.nodes / 2 + k)) ∙ c.loop-k.invariant.0 d,
      λ was is alike.
          back_more g.K.Kind was c.args.stations.now c.args.nodes.now k (get_or c.args.aboard.now k 0) c.loop-k.stations c.loop-k.nodes c.put_back.new.stations c.put_back.new.nodes
          (c.loop-k.invariant.1 was is alike) (mass_was was _ k is) put (subst (λ (n : ℕ). k < n) (long_was was _ is) c.loop-k-test.true),
    )

pub returns : goal.returns
returns g c = λ was is. record {
  records = λ alike.
      back_all g.K.Kind was c.args.stations.now c.args.nodes.now c.loop-k.k c.loop-k.stations c.loop-k.nodes (subst (λ (n : ℕ). n ≤ c.loop-k.k) (long_was was _ is) c.loop-k-test.false) (c.loop-k.invariant.1 was is alike);
  tree = λ alike first all t. (c.loop-k.invariant.1 was is alike).tree first all t;
  first_node = c.loop-k.invariant.0;
}
