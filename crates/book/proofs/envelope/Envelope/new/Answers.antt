use Rattle.std.proofs.Common.{sym, ◌∙◌}
use Rattle.std.proofs.lemmas.Result.{err_from_is_err_and}
use Rattle.book.proofs.Shapes.{is_envelope, answered, exactly_envelopes}
use Rattle.book.proofs.envelope.Envelope.new.Goals as goal

pub returns-in_err-check_vertices-clause-exactly :
    goal.returns-in_err-check_vertices-clause-exactly
returns-in_err-check_vertices-clause-exactly c = let p = err_from_is_err_and c.from_residual.result c.from_residual.ensures.1 in
    rw p.1 (exactly_envelopes c.args.given.now (sym c.in_err-check_vertices.was ∙ c.check_vertices.ensures))

pub holding-requires : goal.holding-requires
holding-requires c = is_envelope c.args.given.now (answered _ _ _ (sym c.in_ok-check_vertices.was ∙ c.check_vertices.ensures))
