use Rattle.std.proofs.lemmas.Result.{err_from_is_err_and}
use Rattle.records.proofs.Puts.{finished, refused}
use Rattle.records.proofs.writer.put_call.Goals as goal

pub returns-in_err-put_fields : goal.returns-in_err-put_fields
returns-in_err-put_fields c =
    let p = err_from_is_err_and c.from_residual.result c.from_residual.ensures.1 in
    rw (p.1, p.2) (refused c.in_err-put_fields.ensures c.drop-mark.ensures)

pub returns : goal.returns
returns c = finished c.in_ok-put_fields.ensures c.drop-mark-2.ensures
