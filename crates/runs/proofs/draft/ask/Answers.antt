use Rattle.std.proofs.Common.{refl, ap}
use Rattle.edits.specs.Edits.{shifting}
use Rattle.sheet.specs.declared.call.Call.TheVariants.{Shift}
use Rattle.runs.specs.Drafts.{call_of}
use Rattle.sheet.proofs.Stepping.{step_as, step_edit}
use Rattle.runs.proofs.draft.ask.Goals as goal

pub returns-in-Shift : goal.returns-in-Shift
returns-in-Shift g c sound =
    step_as g.T.Of.Kind g.T.Test.meets (ap call_of c.in-Shift.is) c.edit_said-in-Shift.ensures refl refl
    (step_edit g.T.Of.Kind g.T.Test.meets c.args.sheet.now.numbers c.args.stations.now c.args.nodes.now (shifting c.in-Shift.from c.in-Shift.to c.in-Shift.kg) c.shift.result c.shift.new.stations c.shift.new.nodes c.shift.ensures.any (Shift c.in-Shift.from c.in-Shift.to c.in-Shift.kg) refl sound)
