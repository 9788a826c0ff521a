use Rattle.std.proofs.Common.{◌∙◌}
use Rattle.kinds.proofs.Parts.{loads_held, loads_join}
use Rattle.kinds.proofs.running_load.RunningLoadKind.join.Goals as goal

pub returns : goal.returns
returns c j k a b h =
    let x = c.args.self in
    let y = c.args.aft in
    let e = c.both.ensures ∙ loads_held x y j k a b h in
    (e, rw e (loads_join x y j k a b))
