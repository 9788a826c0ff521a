use Rattle.std.proofs.Common.{◌≡◌, suc, ◌/◌, ◌%◌, ◌<◌, ◌≤◌, length, arith}
use Rattle.tree.proofs.Overs.{Laws, over_none}
use Rattle.tree.proofs.Walks.{Walk, step_left, step_right, step_up, walk_ends}
use Rattle.tree.proofs.spans.span.Given as given
use Rattle.tree.proofs.spans.span.Goals as goal
use Rattle.tree.proofs.spans.span.Goals.{then-l-eq1, else-l-eq1, then-r-eq1, else-r-eq1}

laws : (g : given.Over) → Laws g.K.Kind
laws g = record { left = g.met.K.Kind.left; right = g.met.K.Kind.right; assoc = g.met.K.Kind.assoc }

pub loop-l-init : goal.loop-l-init
loop-l-init g c = (
  omega arith,
  omega arith,
  λ ss few whole. (
    0,
    record {
      m = 0;
      b = c.args.to;
      n = 0;
      at_l = omega arith;
      at_r = omega arith;
      order = omega arith;
      ends = omega arith;
      fore_over = over_none g.K.Kind c.empty-fore.result c.args.from ss c.empty-fore.ensures.0 c.empty-fore.ensures.1;
      aft_over = over_none g.K.Kind c.empty-aft.result c.args.to ss c.empty-aft.ensures.0 c.empty-aft.ensures.1;
    },
  ),
)

pub loop-l-preserved : goal.loop-l-preserved
loop-l-preserved g c =
    let G = g.K.Kind in
    let nodes = c.args.nodes.now in
    let w = length nodes / 2 in
    let from = c.args.from in
    let to = c.args.to in
    let l0 = c.loop-l.l in
    let r0 = c.loop-l.r in
    let l1 = c.if-l-eq1.l in
    let r1 = c.if-r-eq1.r in
    let within : to ≤ w = c.requires.to_in_bounds in
    let even-l : (l1 % 2 ≡ 0) × (l1 ≤ r0) =
    elim c.if-l-eq1.branch [
      | then-l-eq1 t ↦ (omega (arith, t.l-is, t.if-l-eq1.true), omega (arith, t.l-is))
      | else-l-eq1 t ↦ (omega (arith, t.l-is, t.if-l-eq1.false), omega (arith, t.l-is))
    ] in
    let even-r : (r1 % 2 ≡ 0) × (l1 ≤ r1) × (r1 ≤ r0) =
    elim c.if-r-eq1.branch [
      | then-r-eq1 t ↦ (omega (arith, t.r-is, t.if-r-eq1.true), omega (arith, t.r-is, t.if-r-eq1.true), omega (arith, t.r-is))
      | else-r-eq1 t ↦ (omega (arith, t.r-is, t.if-r-eq1.false), omega (arith, t.r-is), omega (arith, t.r-is))
    ] in (
      omega arith,
      omega arith,
      λ ss few whole.
          let (h, s) = c.loop-l.invariant.2 ss few whole in
          let s1 : Walk G w ss from to h l1 r0 c.if-l-eq1.fore c.loop-l.aft =
          elim c.if-l-eq1.branch [
            | then-l-eq1 t ↦ rw (t.l-is, t.fore-is) (step_left G (laws g) nodes w ss few whole from to within h l0 r0 c.loop-l.fore c.loop-l.aft t.onto_fore-fore.result c.loop-l-test.true t.onto_fore-fore.ensures s)
            | else-l-eq1 t ↦ rw (t.l-is, t.fore-is) s
          ] in
          let s2 : Walk G w ss from to h l1 r1 c.if-l-eq1.fore c.if-r-eq1.aft =
          elim c.if-r-eq1.branch [
            | then-r-eq1 t ↦
                let lt : l1 < r0 = omega (arith, t.if-r-eq1.true, even-l.0, even-l.1) in
                rw (t.r-is, t.aft-is) (step_right G (laws g) nodes w ss few whole from to within h l1 r0 c.if-l-eq1.fore c.loop-l.aft t.onto_aft-aft.result lt t.onto_aft-aft.ensures s1)
            | else-r-eq1 t ↦ rw (t.r-is, t.aft-is) s1
          ] in
          (suc h, step_up G w ss from to h l1 r1 c.if-l-eq1.fore c.if-r-eq1.aft even-l.0 even-r.0 s2),
    )

pub returns : goal.returns
returns g c ss few whole =
    let (h, s) = c.loop-l.invariant.2 ss few whole in
    walk_ends g.K.Kind (length c.args.nodes.now / 2) ss c.args.from c.args.to h c.loop-l.l c.loop-l.r c.loop-l.fore c.loop-l.aft c.join.result
    (laws g) few c.loop-l-test.false c.join.ensures s
