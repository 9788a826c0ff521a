-- What an envelope holds, and what every one that exists keeps.
use Rattle.std.specs.Prelude.{List, take, Result}
use Rattle.std.specs.Result.{result_map_both}
use Rattle.book.specs.declared.envelope.Envelope.{Envelope}
use Rattle.book.specs.declared.fault.BookFault.{BookFault}
use Rattle.book.specs.declared.vertex.Vertex.{Vertex}
pub use Rattle.book.specs.Polygons.{InLimits, IsEnvelope}

-- the vertices of an envelope
abbrev pub polygon : Envelope → List Vertex
polygon e = take e.count e.vertices

abbrev pub polygon_in : Result Envelope BookFault → Result (List Vertex) BookFault
polygon_in r = result_map_both polygon (λ f. f) r
