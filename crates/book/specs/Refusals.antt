-- Which refusal a book earns: the first in the order of the checks, by its first entry at fault.
use Rattle.std.specs.Prelude.{◌≡◌, ℕ, suc, ◌<◌, Bool, true, false, cond, ◌&&◌, List, [], ◌∷◌, length, Some, None, Ok, Err, Option, Result, nat_le, slice_index_or}
use Rattle.std.specs.Borrow.{Bor}
use Rattle.std.specs.Fn.{Shared, Once, FnReturnsAt, FnOnceReturns}
use Rattle.std.specs.Option.{option_map, option_or}
use Rattle.book.specs.declared.basic.Basic.{Basic}
use Rattle.book.specs.declared.fault.BookFault.{BookFault}
use Rattle.book.specs.declared.fault.BookFault.TheVariants.{StationCount, StationField, BasicField, ZoneCount, ZoneField, FrameCount, FrameField, VertexCount, VertexField, NotConvex}
use Rattle.book.specs.declared.frame.Frame.{Frame}
use Rattle.book.specs.declared.station.Station.{Station}
use Rattle.book.specs.declared.vertex.Vertex.{Vertex}
use Rattle.book.specs.declared.zone.Zone.{Zone}
use Rattle.book.specs.Fields.{station_in, basic_in, zone_in, frame_in, vertex_in}
use Rattle.book.specs.Polygons.{convex}

-- a refusal if there is one, else x
abbrev pub answer : {X F : Type 0} → Option F → X → Result X F
answer None x = Ok x
answer (Some f) x = Err f

-- the first entry, counted from n, that does not pass the test
abbrev pub first_failing : {X : Type 0} → (X → Bool) → ℕ → List X → Option ℕ
first_failing test n [] = None
first_failing test n (x ∷ xs) = cond (test x) (first_failing test (suc n) xs) (Some n)

-- what an answer of that means: each entry passes, or k is the first that does not
abbrev pub First : {X : Type 0} → (X → Bool) → List X → Option ℕ → Type 0
First {X} test xs None = (i : ℕ) (d : X) → i < length xs → test (slice_index_or xs i d) ≡ true
First {X} test xs (Some k) = (k < length xs) × ((d : X) → test (slice_index_or xs k d) ≡ false) × ((i : ℕ) (d : X) → i < k → test (slice_index_or xs i d) ≡ true)

-- a closure answers at each entry what the test says, and makes of each place the fault that names it
abbrev pub Computes : {F X : Type 0} → Shared F (Bor X × Unit {0}) Bool → F → (X → Bool) → Type 0
Computes {F} {X} g f test = (x : X) (r : Bool) → FnReturnsAt g f x r → r ≡ test x

abbrev pub Names : {F : Type 0} → Once F (ℕ × Unit {0}) BookFault → F → (ℕ → BookFault) → Type 0
Names g f named = (k : ℕ) (e : BookFault) → FnOnceReturns g f (k, tt) e → e ≡ named k

abbrev pub NamesFirst : {X : Type 0} → (X → Bool) → List X → Type 0
NamesFirst test xs = First test xs (first_failing test 0 xs)

-- a fault unless the test holds
abbrev pub unless : Bool → BookFault → Option BookFault
unless b f = cond b None (Some f)

abbrev pub count_refusal : List Station → Option BookFault
count_refusal ss = unless (nat_le 1 (length ss) && nat_le (length ss) 256) StationCount

abbrev pub station_refusal : List Station → Option BookFault
station_refusal ss = option_map StationField (first_failing station_in 0 ss)

abbrev pub basic_refusal : Basic → Option BookFault
basic_refusal b = unless (basic_in b) BasicField

-- the records of a book: how many stations, then each station, then the basic record
abbrev pub book_refusal : Basic → List Station → Option BookFault
book_refusal b ss = option_or (count_refusal ss) (option_or (station_refusal ss) (basic_refusal b))

-- zones on a deck of n stations: the whole list before its entries
abbrev pub zone_refusal : ℕ → List Zone → Option BookFault
zone_refusal n zs = option_or (unless (nat_le (length zs) 32) ZoneCount) (option_map ZoneField (first_failing (zone_in n) 0 zs))

abbrev pub frame_refusal : List Frame → Option BookFault
frame_refusal fs = option_or (unless (nat_le (length fs) 32) FrameCount) (option_map FrameField (first_failing frame_in 0 fs))

abbrev pub limits_refusal : ℕ → List Zone → List Frame → Option BookFault
limits_refusal n zs fs = option_or (zone_refusal n zs) (frame_refusal fs)

-- vertices: how many, then each vertex, then the property of them all
abbrev pub vertex_refusal : List Vertex → Option BookFault
vertex_refusal vs =
    option_or (unless (nat_le 3 (length vs) && nat_le (length vs) 16) VertexCount)
    (option_or (option_map VertexField (first_failing vertex_in 0 vs)) (unless (convex vs) NotConvex))
