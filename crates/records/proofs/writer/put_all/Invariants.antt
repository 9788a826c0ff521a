use Rattle.std.proofs.Common.{map}
use Rattle.records.proofs.Puts.{Begun}
use Rattle.records.proofs.writer.put_all.Given as goal

abbrev pub invariant-loop-field : goal.invariant-loop-field
invariant-loop-field l = Begun l.field-index (map (λ field. field.now) l.fields) l.initial.out l.initial.place.at l.out l.place.at
