use Rattle.kinds.proofs.beside.BesideKind.join.Goals as goal

pub returns : goal.returns
returns g c j k a b h =
    let m = c.joined.ensures j k a.0 b.0 h in
    let n = c.joined-2.ensures j k a.1 b.1 h in
    let p = m.0 in
    let q = n.0 in
    (cc, (m.1, n.1))
