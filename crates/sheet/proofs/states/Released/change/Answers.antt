use Rattle.std.proofs.Common.{Ok, Err}
use Rattle.std.proofs.lemmas.Result.{err_from_is_err_and}
use Rattle.sheet.proofs.Changes.{changed_by}
use Rattle.sheet.proofs.states.Released.change.Goals as goal

pub returns-in_err-self : goal.returns-in_err-self
returns-in_err-self g c =
    let (f, is, from) = err_from_is_err_and c.from_residual.result c.from_residual.ensures.1 in
    rw (is, from)
    (changed_by g.J.Kind c.args.self.now.numbers c.args.stations.now c.args.nodes.now c.args.limits.now c.args.asked.now.station c.args.asked.now.kg c.correct.new.stations c.correct.new.nodes (Err _) c.in_err-self.ensures)

pub returns : goal.returns
returns g c =
    changed_by g.J.Kind c.args.self.now.numbers c.args.stations.now c.args.nodes.now c.args.limits.now c.args.asked.now.station c.args.asked.now.kg c.correct.new.stations c.correct.new.nodes (Ok c.in_ok-self.field-0) c.in_ok-self.ensures
