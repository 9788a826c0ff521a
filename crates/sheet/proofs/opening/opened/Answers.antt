use Rattle.std.proofs.Common.{length}
use Rattle.std.proofs.lemmas.Result.{err_from_is_err_and}
use Rattle.edits.proofs.Carries.{went_on, stopped}
use Rattle.sheet.specs.Opening.{opening_refusal}
use Rattle.sheet.proofs.Openings.{opened_done, opened_refused}
use Rattle.sheet.proofs.opening.opened.Goals as goal

pub returns-in_err-check_opening : goal.returns-in_err-check_opening
returns-in_err-check_opening g c =
    let ss = c.args.stations.now in
    let nodes = c.args.nodes.now in
    let (f, is, from) = err_from_is_err_and c.from_residual.result c.from_residual.ensures.1 in
    rw (is, from) (opened_refused g.K.Kind c.args.basic ss nodes _ (stopped (opening_refusal c.args.basic ss (length nodes)) tt _ c.in_err-check_opening.ensures))

pub returns : goal.returns
returns g c =
    let ss = c.args.stations.now in
    let nodes = c.args.nodes.now in
    opened_done g.K.Kind c.args.basic ss nodes c.fill.new.nodes c.fill.result (went_on (opening_refusal c.args.basic ss (length nodes)) tt tt c.in_ok-check_opening.ensures) c.fill.ensures
