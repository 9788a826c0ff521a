use Rattle.std.proofs.Common.{◌≡◌, ◌+◌, ◌-◌, length, ◌∙◌, ap, rules}
use Rattle.std.proofs.lemmas.Result.{err_from_is_err_and}
use Rattle.std.specs.Option.{option_or}
use Rattle.edits.specs.Edits.{station_at, put, edit_refusal, memory_refusal}
use Rattle.edits.proofs.Carries.{carried_refused, carried_done, taken_off, put_onto, went_on, stopped}
use Rattle.edits.proofs.carrying.carry_out.Goals as goal

pub returns-in_err-check : goal.returns-in_err-check
returns-in_err-check g c =
    let ss = c.args.stations.now in
    let nodes = c.args.nodes.now in
    let e = c.args.edit.now in
    let (f, is, from) = err_from_is_err_and c.from_residual.result c.from_residual.ensures.1 in
    rw (is, from) (carried_refused g.K.Kind c.args.n ss nodes e _ (stopped (option_or (memory_refusal c.args.n (length ss) (length nodes)) (edit_refusal ss e)) tt _ c.in_err-check.ensures))

pub returns : goal.returns
returns g c =
    let ss = c.args.stations.now in
    let nodes = c.args.nodes.now in
    let e = c.args.edit.now in
    let less = c.reweigh.new.stations in
    let none = went_on (option_or (memory_refusal c.args.n (length ss) (length nodes)) (edit_refusal ss e)) tt tt c.in_ok-check.ensures in
    let first = taken_off e.off e.kg ss less c.reweigh.ensures.stations (λ k q. let (m, p, is) = q in let kept : m ≡ (station_at ss k).mass - e.kg = search rules in is ∙ ap (put ss k) kept) in
    carried_done g.K.Kind c.args.n ss nodes e less c.reweigh-2.new.stations c.reweigh.new.nodes c.reweigh-2.new.nodes none first c.reweigh.ensures.nodes
    (put_onto e.onto e.kg less c.reweigh-2.new.stations c.reweigh-2.ensures.stations (λ k q fits. let (m, p, is) = q in let sum : m ≡ (station_at less k).mass + e.kg = search rules in is ∙ ap (put less k) sum))
    c.reweigh-2.ensures.nodes
