use Rattle.std.proofs.Common.{refl}
use Rattle.records.proofs.Exacts.{stands_written}
use Rattle.records.proofs.round_trip.echo.Goals as goal

pub returns : goal.returns
returns c =
    let d = c.in_ok-write_front.ensures in
    let e = c.read.ensures.exactly.complete _ _ (stands_written d.0 d.1) in
    rw e (refl, d.1)
