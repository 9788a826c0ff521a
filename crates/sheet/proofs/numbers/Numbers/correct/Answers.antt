use Rattle.std.proofs.Common.{◌≡◌, length, sym, ◌∙◌, rules}
use Rattle.std.proofs.lemmas.Result.{err_from_is_err_and}
use Rattle.edits.proofs.Carries.{went_on, stopped}
use Rattle.sheet.specs.Weighing.{brought_refusal}
use Rattle.sheet.proofs.Corrections.{corrected_unbrought, corrected_unedited, corrected_stands, corrected_back, carried_as, settled_as, put_as}
use Rattle.sheet.proofs.numbers.Numbers.correct.Goals as goal

pub returns-in_err-check_brought : goal.returns-in_err-check_brought
returns-in_err-check_brought g c =
    let ss = c.args.stations.now in
    let nodes = c.args.nodes.now in
    let m = c.args.self.now in
    let l = c.args.limits.now in
    let (f, is, from) = err_from_is_err_and c.from_residual.result c.from_residual.ensures.1 in
    rw (is, from) (corrected_unbrought g.J.Kind m ss nodes l c.args.asked.now.station c.args.asked.now.kg _ (stopped (brought_refusal m (length ss) (length nodes) l) tt _ c.in_err-check_brought.ensures))

pub returns-in_err-carry_out : goal.returns-in_err-carry_out
returns-in_err-carry_out g c =
    let ss = c.args.stations.now in
    let nodes = c.args.nodes.now in
    let m = c.args.self.now in
    let l = c.args.limits.now in
    let (f, is, from) = err_from_is_err_and c.from_residual-in_err-carry_out.result c.from_residual-in_err-carry_out.ensures.1 in
    rw (is, from)
    (corrected_unedited g.J.Kind m ss nodes l c.args.asked.now.station c.args.asked.now.kg
    (went_on (brought_refusal m (length ss) (length nodes) l) tt tt c.in_ok-check_brought.ensures) _ c.carry_out.new.stations c.carry_out.new.nodes
    (carried_as c.edit.ensures c.in_err-carry_out.ensures))

pub returns-then-is_err : goal.returns-then-is_err
returns-then-is_err g c =
    let ss = c.args.stations.now in
    let nodes = c.args.nodes.now in
    let m = c.args.self.now in
    let l = c.args.limits.now in
    let long : length c.carry_out.new.nodes ≡ length nodes = search rules in
    corrected_back g.J.Kind m ss nodes l c.args.asked.now.station c.args.asked.now.kg
    (went_on (brought_refusal m (length ss) (length nodes) l) tt tt c.in_ok-check_brought.ensures) c.carry_out.new.stations c.carry_out.new.nodes
    (carried_as c.edit.ensures c.in_ok-carry_out.ensures) c.settle-settled.result (settled_as c.size.ensures c.settle-settled.ensures)
    (sym c.is_err.ensures.value ∙ c.if-is_err.true) c.take_back.new.stations c.take_back.new.nodes long (put_as c.mass_at-before.ensures c.take_back.ensures)

pub returns-else-is_err : goal.returns-else-is_err
returns-else-is_err g c =
    let ss = c.args.stations.now in
    let nodes = c.args.nodes.now in
    let m = c.args.self.now in
    let l = c.args.limits.now in
    corrected_stands g.J.Kind m ss nodes l c.args.asked.now.station c.args.asked.now.kg
    (went_on (brought_refusal m (length ss) (length nodes) l) tt tt c.in_ok-check_brought.ensures) c.carry_out.new.stations c.carry_out.new.nodes
    (carried_as c.edit.ensures c.in_ok-carry_out.ensures) c.settle-settled.result (settled_as c.size.ensures c.settle-settled.ensures)
    (sym c.is_err.ensures.value ∙ c.if-is_err.false)
