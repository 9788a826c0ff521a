-- The number, the layer and the place that each fault of a book has. A record's fault keeps its own.
use Rattle.std.specs.Prelude.{ℕ}
use Rattle.records.specs.Faults.{fault_number, fault_layer, fault_place}
use Rattle.book.specs.declared.fault.BookFault.{BookFault}
use Rattle.book.specs.declared.fault.BookFault.TheVariants.{Record, StationCount, StationField, BasicField, ZoneCount, ZoneField, FrameCount, FrameField, VertexCount, VertexField, NotConvex}

abbrev pub book_number : BookFault → ℕ
book_number (Record f) = fault_number f
book_number StationCount = 3
book_number (StationField station) = 4
book_number BasicField = 5
book_number ZoneCount = 6
book_number (ZoneField zone) = 6
book_number FrameCount = 7
book_number (FrameField frame) = 7
book_number VertexCount = 8
book_number (VertexField vertex) = 8
book_number NotConvex = 8

abbrev pub book_layer : BookFault → ℕ
book_layer (Record f) = fault_layer f
book_layer StationCount = 2
book_layer (StationField station) = 2
book_layer BasicField = 2
book_layer ZoneCount = 2
book_layer (ZoneField zone) = 2
book_layer FrameCount = 2
book_layer (FrameField frame) = 2
book_layer VertexCount = 2
book_layer (VertexField vertex) = 2
book_layer NotConvex = 2

abbrev pub book_place : BookFault → ℕ
book_place (Record f) = fault_place f
book_place StationCount = 0
book_place (StationField station) = station
book_place BasicField = 0
book_place ZoneCount = 0
book_place (ZoneField zone) = zone
book_place FrameCount = 0
book_place (FrameField frame) = frame
book_place VertexCount = 0
book_place (VertexField vertex) = vertex
book_place NotConvex = 0
