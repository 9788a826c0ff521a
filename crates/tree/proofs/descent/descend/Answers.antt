use Rattle.std.proofs.Common.{◌≡◌, ℕ, ◌/◌, ◌^◌, false, length, sym, refl, subst, arith}
use Rattle.tree.specs.Under.{Whole}
use Rattle.tree.proofs.Descents.{answered, none_met, root_over, down_start, down_fore, down_aft, down_end}
use Rattle.tree.proofs.Overs.{Laws}
use Rattle.tree.proofs.descent.descend.Given as given
use Rattle.tree.proofs.descent.descend.Goals as goal

laws : (g : given.Over) → Laws g.T.Of.Kind
laws g = record { left = g.met.T.Of.Kind.left; right = g.met.T.Of.Kind.right; assoc = g.met.T.Of.Kind.assoc }

pub returns-then-not-met : goal.returns-then-not-met
returns-then-not-met g c ss height some few lawful room long whole =
    let G = g.T.Of.Kind in
    let meets = g.T.Test.meets c.args.test.now in
    let root = root_over G (laws g) meets c.args.nodes.now (2 ^ height) ss few whole height c.index-nodes-1.result refl c.index-nodes-1.is in
    none_met G (laws g) meets c.met.ensures.keeps ss lawful (2 ^ height) room
    (answered G meets c.index-nodes-1.result c.met.result false 0 (2 ^ height) ss few root c.met.ensures.answers c.if-not-met.true)

pub loop-i-init : goal.loop-i-init
loop-i-init g c = (
  omega arith,
  omega arith,
  λ ss height few power whole. (
    height,
    down_start g.T.Of.Kind (laws g) (g.T.Test.meets c.args.test.now) c.args.nodes.now (length c.args.nodes.now / 2) ss few whole height c.index-nodes-1.result c.empty-before.result
        power c.index-nodes-1.is c.empty-before.ensures.0 c.empty-before.ensures.1 c.met.result c.met.ensures.answers c.if-not-met.false,
  ),
)

pub loop-i-preserved-then-not-met-2 : goal.loop-i-preserved-then-not-met-2
loop-i-preserved-then-not-met-2 g c = (
  omega arith,
  omega arith,
  λ ss height few power whole.
      let (h, s) = c.loop-i.invariant.2 ss height few power whole in
      down_aft g.T.Of.Kind (laws g) (g.T.Test.meets c.args.test.now) c.args.nodes.now (length c.args.nodes.now / 2) ss few whole h c.loop-i.i c.loop-i.before c.onto_fore-more.result
      c.loop-i-test.true c.onto_fore-more.ensures c.met-in-loop-i.result c.met-in-loop-i.ensures.answers c.if-not-met-2.true s,
)

pub loop-i-preserved : goal.loop-i-preserved
loop-i-preserved g c = (
  omega arith,
  omega arith,
  λ ss height few power whole.
      let (h, s) = c.loop-i.invariant.2 ss height few power whole in
      down_fore g.T.Of.Kind (laws g) (g.T.Test.meets c.args.test.now) c.args.nodes.now (length c.args.nodes.now / 2) ss few whole h c.loop-i.i c.loop-i.before c.onto_fore-more.result
      c.loop-i-test.true c.onto_fore-more.ensures c.met-in-loop-i.result c.met-in-loop-i.ensures.answers c.if-not-met-2.false s,
)

pub returns : goal.returns
returns g c ss height some few lawful room long whole =
    let w = length c.args.nodes.now / 2 in
    let power : 2 ^ height ≡ w = omega arith in
    let (h, s) = c.loop-i.invariant.2 ss height few (sym power) (subst (λ (x : ℕ). Whole g.T.Of.Kind c.args.nodes.now x ss) power whole) in
    down_end g.T.Of.Kind (laws g) (g.T.Test.meets c.args.test.now) c.met.ensures.keeps ss lawful some w h c.loop-i.i c.loop-i.before c.loop-i-test.false s
