use Rattle.std.proofs.Common.{refl, ◌∙◌}
use Rattle.kinds.specs.Laws.{house_by}
use Rattle.kinds.proofs.Parts.{moments_held, moments_join, loads_held, loads_join}
use Rattle.kinds.proofs.house.HouseKind.join.Goals as goal

pub returns : goal.returns
returns c j k a b h =
    let x = c.args.self in
    let y = c.args.aft in
    let m = moments_held x.moments y.moments j k a.moments_in b.moments_in h in
    let l = loads_held x.load y.load j k a.load_in b.load_in h in
    let e = c.both.ensures ∙ house_by m l refl in
    (e, rw e (record { moments_in = moments_join x.moments y.moments j k a.moments_in b.moments_in; load_in = loads_join x.load y.load j k a.load_in b.load_in }))
