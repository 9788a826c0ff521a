-- What a book's limits say of its totals. Assumes nothing.
use Rattle.std.specs.Prelude.{Option, vec_items, vec_len}
use Rattle.std.specs.Option.{option_or}
use Rattle.book.specs.declared.fault.BookFault.{BookFault}
use Rattle.book.specs.declared.totals.Totals.{Totals}
use Rattle.book.specs.Polygons.{within}
use Rattle.book.specs.Refusals.{limits_refusal, vertex_refusal}
use Rattle.book.specs.Sums.{tip_kept}
use Rattle.listing.specs.declared.book_text.BookText.{BookText}
use Rattle.listing.specs.declared.kept.Kept.{Kept}
use Rattle.listing.specs.declared.lists.Lists.{Lists}

-- the envelope first, then the zones, then the frames
abbrev pub judging_refusal : Lists → Option BookFault
judging_refusal l = option_or (vertex_refusal (vec_items l.vertices)) (limits_refusal (vec_len l.stations) (vec_items l.zones) (vec_items l.frames))

abbrev pub kept_at : BookText → Totals → Kept
kept_at b t = record { trim = within (vec_items b.lists.vertices) (record { mass = t.mass; moment = t.moment }); tip = tip_kept b.basic t }
