-- The width of a deck's tree: the least power of two that is at least the number of its stations.
use Rattle.std.specs.Prelude.{◌≡◌, ℕ, zero, suc, ◌*◌, ◌^◌, ◌≤◌, Bool, cond, ◌&&◌, ◌==◌, nat_le}

-- the first of w, 2 × w, 4 × w and so on that is at least n, or the one after so many that are not
abbrev pub doubled : ℕ → ℕ → ℕ → ℕ
doubled zero w n = w
doubled (suc more) w n = cond (nat_le n w) w (doubled more (2 * w) n)

-- of a deck of up to 256 stations
unfoldable pub width : ℕ → ℕ
width n = doubled 8 1 n

-- a deck has 1 to 256 stations
abbrev pub deck : ℕ → Bool
deck n = nat_le 1 n && nat_le n 256

-- m nodes are the node memory of a deck of n stations: twice its width
abbrev pub fits : ℕ → ℕ → Bool
fits n m = deck n && m == 2 * width n

-- w is the least power of two that is at least n
pub record IsWidth (n w : ℕ) : Type 0 where
  pub height : ℕ
  pub power : w ≡ 2 ^ height
  pub room : n ≤ w
  pub least : (k : ℕ) → n ≤ 2 ^ k → w ≤ 2 ^ k

abbrev pub WidthsAreLeast : Type 0
WidthsAreLeast = (n : ℕ) → n ≤ 256 → IsWidth n (width n)
