use Rattle.std.proofs.Common.{ℕ, Some, Option, ap, ◌∙◌, rules}
use Rattle.kinds.specs.Loads.{left_of}
use Rattle.judging.specs.Spots.{margin_kept}
use Rattle.judging.proofs.Scanning.{way_more, way_stops, way_ends}
use Rattle.judging.proofs.running.first_past.Goals as goal

pub returns-then-not-bears : goal.returns-then-not-bears
returns-then-not-bears g c limit ss gives says =
    let step = c.in-Some.ensures.steps in
    let m = says _ _ c.limit.ensures in
    ap Some step.1
    ∙ way_stops _ limit ss _ _ _ _ _ step.0 _ c.with_station-carried.ensures (c.loop-passed.invariant.on limit ss gives says)
    (c.if-not-bears.ensures ∙ ap (λ (o : Option ℕ). margin_kept (left_of o c.with_station-carried.result)) m)

pub loop-passed-preserved : goal.loop-passed-preserved
loop-passed-preserved g c = record {
  can = search rules;
  finite = search rules;
  on = λ limit ss gives says.
      let step = c.in-Some.ensures.steps in
      let m = says _ _ c.limit.ensures in
      way_more _ limit ss _ _ _ _ _ step.0 _ c.with_station-carried.ensures _ step.2 (c.loop-passed.invariant.on limit ss gives says)
      (c.if-not-bears.ensures ∙ ap (λ (o : Option ℕ). margin_kept (left_of o c.with_station-carried.result)) m);
}

pub returns : goal.returns
returns g c limit ss gives says = way_ends _ limit ss _ _ _ _ (c.loop-passed.invariant.on limit ss gives says) c.in-None.ensures.steps.0
