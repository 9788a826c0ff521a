use Rattle.std.proofs.Common.{◌≡◌, ◌-◌, ◌/◌, length, rules}
use Rattle.std.proofs.lemmas.List.{places}
use Rattle.std.proofs.lemmas.Result.{err_from_is_err_and}
use Rattle.tree.proofs.Accepting.{filled_done, refilled}
use Rattle.tree.proofs.Overs.{Laws}
use Rattle.tree.proofs.Refusing.{filled_refused}
use Rattle.tree.proofs.calls.filled.Given as given
use Rattle.tree.proofs.calls.filled.Goals as goal

laws : (g : given.Over) → Laws g.K.Kind
laws g = record { left = g.met.K.Kind.left; right = g.met.K.Kind.right; assoc = g.met.K.Kind.assoc }

pub returns-in_err-check_memory : goal.returns-in_err-check_memory
returns-in_err-check_memory g c =
    let (e, is, from) = err_from_is_err_and c.from_residual.result c.from_residual.ensures.1 in
    rw (is, from) (filled_refused g.K.Kind (laws g) c.args.nodes.now c.args.stations.now _ c.in_err-check_memory.ensures)

pub returns : goal.returns
returns g c =
    let before = c.args.nodes.now in
    let lent = c.write_leaves.new.leaves in
    let after = c.join_inner.new.nodes in
    let long : length lent ≡ length before - length before / 2 = search (rules, places) in
    let same : length after ≡ length before = search (rules, places) in
    let mid : length (refilled g.K.Kind (laws g) before lent) ≡ length before = search (rules, places) in
    filled_done g.K.Kind (laws g) before lent after c.args.stations.now c.in_ok-check_memory.ensures long mid same
    c.write_leaves.ensures c.join_inner.ensures.first c.join_inner.ensures.whole
