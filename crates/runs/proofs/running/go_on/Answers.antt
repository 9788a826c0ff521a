use Rattle.std.proofs.Common.{◌≡◌, ◌<◌, map, length, sym, ap, ◌∙◌, arith}
use lib.ListN.{length-map}
use Rattle.std.proofs.lemmas.List.{get_or-map}
use Rattle.runs.proofs.Histories.{run_more}
use Rattle.runs.proofs.running.go_on.Goals as goal

pub loop-i-preserved : goal.loop-i-preserved
loop-i-preserved g c sound =
    let old = c.loop-i.invariant sound in
    let calls = c.args.calls.now in
    let one = g.S.Steps.one in
    let taken : c.loop-i.i < length calls = c.loop-i-test.true in
    let long : length (map one calls) ≡ length calls = length-map calls one in
    let room : c.loop-i.i < length c.loop-i.answers = omega (arith, c.loop-i.auto.answers, c.requires) in
    let here : one c.index-calls-i.result ≡ _ = ap one c.index-calls-i.is ∙ sym (get_or-map one calls c.loop-i.i c.index-calls-i.result (one c.index-calls-i.result) taken) in
    run_more g.T.Of.Kind g.T.Test.meets {ss2 = c.step.new.stations} {n2 = c.step.new.nodes} (map one calls) c.loop-i.answers c.loop-i.i (one c.index-calls-i.result) here (omega arith) room old (c.step.ensures old.sound)
