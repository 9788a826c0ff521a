use Rattle.std.proofs.Common.{◌∙◌}
use Rattle.kinds.proofs.Parts.{moments_held, moments_join}
use Rattle.kinds.proofs.mass_moment.MassMomentKind.join.Goals as goal

pub returns : goal.returns
returns c j k a b h =
    let x = c.args.self in
    let y = c.args.aft in
    let e = c.both.ensures ∙ moments_held x y j k a b h in
    (e, rw e (moments_join x y j k a b))
