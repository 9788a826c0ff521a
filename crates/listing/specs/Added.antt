-- What the lists of a book are after an entry was added. Assumes nothing.
use Rattle.std.specs.Prelude.{◌≡◌, ℕ, List, [], ◌∷◌, ◌++◌, Some, vec_items, vec_len}
use Rattle.listing.specs.declared.entry.Entry.{Entry}
use Rattle.listing.specs.declared.entry.Entry.TheVariants.{Basic, Station, Zone, Frame, Vertex}
use Rattle.listing.specs.declared.lists.Lists.{Lists}
use Rattle.listing.specs.declared.lists.Numbered.{Numbered}

-- ys is xs with x at its end
abbrev Grown : {X : Type 0} → List X → X → List X → Type 0
Grown xs x ys = ys ≡ xs ++ x ∷ []

-- an entry with its number among those of its kind
abbrev numbered : ℕ → Entry → Numbered
numbered n e = record { number = n; entry = e }

-- The entry stands at the end of the list of its kind and of the list of all, its number is its place in the first,
-- and every other list is as it was.
abbrev pub Added : Lists → Entry → Lists → Type 0
Added l (Basic b) m =
    (m.basic ≡ Some b) × (m.stations ≡ l.stations) × (m.zones ≡ l.zones) × (m.frames ≡ l.frames) × (m.vertices ≡ l.vertices)
    × Grown (vec_items l.entries) (numbered 0 (Basic b)) (vec_items m.entries)
Added l (Station s) m =
    (m.basic ≡ l.basic) × Grown (vec_items l.stations) s (vec_items m.stations) × (m.zones ≡ l.zones) × (m.frames ≡ l.frames) × (m.vertices ≡ l.vertices)
    × Grown (vec_items l.entries) (numbered (vec_len l.stations) (Station s)) (vec_items m.entries)
Added l (Zone z) m =
    (m.basic ≡ l.basic) × (m.stations ≡ l.stations) × Grown (vec_items l.zones) z (vec_items m.zones) × (m.frames ≡ l.frames) × (m.vertices ≡ l.vertices)
    × Grown (vec_items l.entries) (numbered (vec_len l.zones) (Zone z)) (vec_items m.entries)
Added l (Frame f) m =
    (m.basic ≡ l.basic) × (m.stations ≡ l.stations) × (m.zones ≡ l.zones) × Grown (vec_items l.frames) f (vec_items m.frames) × (m.vertices ≡ l.vertices)
    × Grown (vec_items l.entries) (numbered (vec_len l.frames) (Frame f)) (vec_items m.entries)
Added l (Vertex v) m =
    (m.basic ≡ l.basic) × (m.stations ≡ l.stations) × (m.zones ≡ l.zones) × (m.frames ≡ l.frames) × Grown (vec_items l.vertices) v (vec_items m.vertices)
    × Grown (vec_items l.entries) (numbered (vec_len l.vertices) (Vertex v)) (vec_items m.entries)
