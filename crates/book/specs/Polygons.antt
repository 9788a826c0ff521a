-- The envelope as a polygon of mass and moment, its vertices in order round it.
use Rattle.std.specs.Prelude.{◌≡◌, ℕ, zero, suc, ◌+◌, ◌<◌, ◌≤◌, Bool, true, cond, ◌&&◌, List, length, ℤ, pos, neg_ℤ, ◌-ℤ◌, ◌*ℤ◌, ◌≤ℤ◌, ◌<ℤ◌, ◌==◌, ◌≢◌, int_le, int_lt, slice_index_or}
use Rattle.book.specs.declared.vertex.Vertex.{Vertex}
use Rattle.book.specs.Fields.{vertex_in}

-- above 0 where p lies strictly left of the line from a to b, and 0 on it
abbrev pub turn : Vertex → Vertex → Vertex → ℤ
turn a b p = ((b.mass -ℤ a.mass) *ℤ (p.moment -ℤ a.moment)) -ℤ ((b.moment -ℤ a.moment) *ℤ (p.mass -ℤ a.mass))

abbrev pub origin : Vertex
origin = record { mass = pos 0; moment = pos 0 }

abbrev pub corner : List Vertex → ℕ → Vertex
corner vs i = slice_index_or vs i origin

-- the vertex after i, of n in a ring
abbrev pub after : ℕ → ℕ → ℕ
after n i = cond (i + 1 == n) 0 (i + 1)

-- the edge from vertex i to the next, seen from p
abbrev pub edge : List Vertex → ℕ → Vertex → ℤ
edge vs i p = turn (corner vs i) (corner vs (after (length vs) i)) p

-- p holds of each number below n
abbrev pub every : ℕ → (ℕ → Bool) → Bool
every zero p = true
every (suc n) p = p n && every n p

-- vertex k is one of the edge's own, or lies strictly left of it
abbrev pub left_of : List Vertex → ℕ → ℕ → Bool
left_of vs i k = cond (k == i) true (cond (k == after (length vs) i) true (int_lt (pos 0) (edge vs i (corner vs k))))

abbrev pub convex : List Vertex → Bool
convex vs = every (length vs) (λ i. every (length vs) (left_of vs i))

-- p lies on or left of each edge
abbrev pub within : List Vertex → Vertex → Bool
within vs p = every (length vs) (λ i. int_le (pos 0) (edge vs i p))

-- the same as plain statements: of each edge every other vertex lies strictly left,
abbrev pub Convex : List Vertex → Type 0
Convex vs = (i k : ℕ) → i < length vs → k < length vs → (k ≢ i) → (k ≢ after (length vs) i) → pos 0 <ℤ edge vs i (corner vs k)

-- and the point lies on it or left
abbrev pub Within : List Vertex → Vertex → Type 0
Within vs p = (i : ℕ) → i < length vs → pos 0 ≤ℤ edge vs i p

-- every vertex has its fields in their limits
abbrev pub AllIn : List Vertex → Type 0
AllIn vs = (i : ℕ) → i < length vs → vertex_in (corner vs i) ≡ true

-- a mass of 0 to a million, and a moment of at most ten thousand million either way
pub record InLimits (v : Vertex) : Type 0 where
  pub mass_low : pos 0 ≤ℤ v.mass
  pub mass_high : v.mass ≤ℤ pos 1000000
  pub moment_low : neg_ℤ (pos 10000000000) ≤ℤ v.moment
  pub moment_high : v.moment ≤ℤ pos 10000000000

-- 3 to 16 vertices in their limits, and of each edge every other vertex lies strictly left
pub record IsEnvelope (vs : List Vertex) : Type 0 where
  pub least : 3 ≤ length vs
  pub most : length vs ≤ 16
  pub limits : (i : ℕ) → i < length vs → InLimits (corner vs i)
  pub convex : Convex vs
