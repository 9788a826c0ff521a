use Rattle.std.proofs.Common.{inl, inr, refl, ◌∙◌}
use Rattle.edits.specs.Edits.{loading, unloading, shifting}
use Rattle.sheet.specs.declared.call.Call.TheVariants.{Load, Unload, Shift, Reopen}
use Rattle.sheet.specs.Tally.{planning}
use Rattle.sheet.proofs.Rehearsals.{step_stages}
use Rattle.sheet.proofs.Stepping.{step_as, step_edit, step_range, step_barred}
use Rattle.sheet.proofs.Verdicts.{step_judge}
use Rattle.runs.proofs.carrying.plan.Goals as goal
use Rattle.runs.proofs.carrying.plan.Goals.{in-Load, in-Unload, in-Shift, in-Range, in-First, in-Judge, in-Stages, in-Change}

pub returns : goal.returns
returns g c sound =
    let G = g.T.Of.Kind in
    let meets = g.T.Test.meets in
    let m = c.args.sheet.numbers in
    let ss = c.args.stations.now in
    let nodes = c.args.nodes.now in
    elim c.match-call.branch [
      | in-Load w ↦
          step_as G meets w.in-Load.is (w.answer-is ∙ w.edit_said-answer.ensures) w.stations-is w.nodes-is
          (step_edit G meets m ss nodes (loading w.in-Load.station w.in-Load.kg) w.load.result w.load.new.stations w.load.new.nodes w.load.ensures.any (Load w.in-Load.station w.in-Load.kg) refl sound)
      | in-Unload w ↦
          step_as G meets w.in-Unload.is (w.answer-is ∙ w.edit_said-answer-in-Unload.ensures) w.stations-is w.nodes-is
          (step_edit G meets m ss nodes (unloading w.in-Unload.station w.in-Unload.kg) w.unload.result w.unload.new.stations w.unload.new.nodes w.unload.ensures.any (Unload w.in-Unload.station w.in-Unload.kg) refl sound)
      | in-Shift w ↦
          step_as G meets w.in-Shift.is (w.answer-is ∙ w.edit_said-answer-in-Shift.ensures) w.stations-is w.nodes-is
          (step_edit G meets m ss nodes (shifting w.in-Shift.from w.in-Shift.to w.in-Shift.kg) w.shift.result w.shift.new.stations w.shift.new.nodes w.shift.ensures.any (Shift w.in-Shift.from w.in-Shift.to w.in-Shift.kg) refl sound)
      | in-Range w ↦
          step_as G meets w.in-Range.is (w.answer-is ∙ w.range_said-answer.ensures) w.stations-is w.nodes-is
          (step_range G meets m planning ss nodes w.in-Range.from w.in-Range.to w.range.result w.range.ensures.any sound)
      | in-First w ↦
          step_as G meets w.in-First.is (w.answer-is ∙ w.first_said-answer.ensures) w.stations-is w.nodes-is (w.first.ensures.step sound)
      | in-Judge w ↦
          step_as G meets w.in-Judge.is (w.answer-is ∙ w.judge_said-answer.ensures) w.stations-is w.nodes-is
          (step_judge G m ss nodes w.in-Judge.limits meets planning w.judge.result w.judge.ensures.any sound)
      | in-Stages w ↦
          step_as G meets w.in-Stages.is (w.answer-is ∙ w.stages_said-answer.ensures) w.stations-is w.nodes-is
          (step_stages G m ss nodes w.in-Stages.limits w.in-Stages.bytes meets w.stages.result w.stages.new.stations w.stages.new.nodes w.stages.ensures.records (w.stages.ensures.value sound) (w.stages.ensures.tree sound) sound)
      | in-Change w ↦
          elim w.in-Change.is [
            | inl (l, asked, is) ↦ step_as G meets is w.answer-is w.stations-is w.nodes-is (step_barred G meets m planning ss nodes _ refl sound)
            | inr is ↦ step_as G meets is w.answer-is w.stations-is w.nodes-is (step_barred G meets m planning ss nodes Reopen refl sound)
          ]
    ]
