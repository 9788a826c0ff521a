use Rattle.std.proofs.Common.{◌≡◌, ℕ, ◌<◌, List, [], length, get_or, map, sym, arith}
use Rattle.std.proofs.Math.ListN.{get_or-map, length-map}
use Rattle.std.proofs.lemmas.Result.{err_from_is_err_and}
use Rattle.std.specs.Borrow.{Bor}
use Rattle.records.proofs.Puts.{put_more, put_short}
use Rattle.records.proofs.writer.put_all.Goals as goal

-- the field of this turn
the_field : (fields : List (Bor (List ℕ))) (i : ℕ) → (get_or fields i (record { ref_ptr = (0, 0); now = [] })).now ≡ get_or (map (λ (b : Bor (List ℕ)). b.now) fields) i []
the_field fields i = sym (get_or-map (λ (b : Bor (List ℕ)). b.now) fields i _)

pub returns-in_err-put : goal.returns-in_err-put
returns-in_err-put c =
    let p = err_from_is_err_and c.from_residual.result c.from_residual.ensures.1 in
    let i = c.loop-field.field-index in
    let l : i < length (map (λ (b : Bor (List ℕ)). b.now) c.args.fields.now) = rw length-map (omega arith) in
    rw (p.1, p.2) (put_short _ i (the_field c.args.fields.now i) l c.loop-field.invariant c.in_err-put.ensures)

pub loop-field-preserved : goal.loop-field-preserved
loop-field-preserved c =
    let i = c.loop-field.field-index in
    let l : i < length (map (λ (b : Bor (List ℕ)). b.now) c.args.fields.now) = rw length-map (omega arith) in
    put_more _ i (the_field c.args.fields.now i) l c.loop-field.invariant c.in_ok-put.ensures
