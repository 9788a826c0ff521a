-- The stations on one side of a frame as a part of the deck, and their bending by mass and moment.
use Rattle.std.proofs.Common.{◌≡◌, ℕ, zero, suc, ◌+◌, ◌-◌, ◌≤◌, Bool, List, [], ◌∷◌, ◌++◌, reverse, length, take, drop, ℤ, pos, ◌+ℤ◌, ◌-ℤ◌, ◌*ℤ◌, sym, refl, ap, ◌∙◌, suc-add, zero-add, arith, length-drop}
use lib.IntN.{zero-*ℤ, *ℤ-zero, suc_ℤ-*ℤ, *ℤ_comm}
use lib.Signed.{lt_z}
use Rattle.std.proofs.lemmas.List.{take-append-drop, reverse-append, reverse-reverse, length-reverse, drop_at, take_rest}
use Rattle.std.proofs.lemmas.Int.{ints}
use Rattle.std.proofs.lemmas.List.Sums.{prefix_len-le-length}
use Rattle.std.specs.List.{suffix_len}
use Rattle.book.specs.declared.station.Station.{Station}
use Rattle.book.specs.Sums.{mass_of, moment_of}
use Rattle.book.specs.declared.frame.Frame.{Frame}
use Rattle.book.specs.declared.frame.Side.{Side}
use Rattle.book.specs.declared.frame.Side.TheVariants.{Fore, Aft}
use Rattle.judging.specs.Bending.{back_while, moment_ahead, moment_behind, side_bending}
use Rattle.judging.specs.Steps.{load_of, count_ahead, count_aft, on_side, bent}

module _ (test : Station → Bool) where
  pub back_drop : (ss : List Station) → back_while test ss ≡ drop (length ss - suffix_len test ss) ss
  back_drop ss =
      let k = suffix_len test ss in
      let rs = reverse ss in
      let parts : ss ≡ reverse (drop k rs) ++ reverse (take k rs) = sym (reverse-reverse ss) ∙ ap reverse (sym (take-append-drop k rs)) ∙ reverse-append (take k rs) (drop k rs) in
      let long : length (reverse (drop k rs)) ≡ length ss - k = length-reverse (drop k rs) ∙ length-drop k rs ∙ ap (λ (n : ℕ). n - k) (length-reverse ss) in
      sym (ap (drop (length ss - k)) parts ∙ drop_at (reverse (drop k rs)) (reverse (take k rs)) (length ss - k) long)

-- products

apart_more : (p q r a b x y z : ℤ) → p ≡ q -ℤ r → x ≡ p +ℤ (a -ℤ b) → y ≡ q +ℤ a → z ≡ r +ℤ b → x ≡ y -ℤ z
apart_more p q r a b x y z e f g h = omega (arith, ints)

times_apart : (m : ℕ) (a b : ℤ) → pos m *ℤ (a -ℤ b) ≡ (pos m *ℤ a) -ℤ (pos m *ℤ b)
times_apart zero a b = rw (zero-*ℤ (a -ℤ b), zero-*ℤ a, zero-*ℤ b) refl
times_apart (suc m) a b =
    apart_more (pos m *ℤ (a -ℤ b)) (pos m *ℤ a) (pos m *ℤ b) a b _ _ _ (times_apart m a b) (suc_ℤ-*ℤ (pos m) (a -ℤ b)) (suc_ℤ-*ℤ (pos m) a) (suc_ℤ-*ℤ (pos m) b)

sum_more : (p q r x y z : ℤ) → p ≡ q +ℤ r → y ≡ p +ℤ x → z ≡ q +ℤ x → y ≡ z +ℤ r
sum_more p q r x y z e f g = omega (arith, ints)

sum_none : (z r : ℤ) → z ≡ pos 0 → r ≡ z +ℤ r
sum_none z r e = omega (arith, ints)

sum_times : (m n : ℕ) (x : ℤ) → pos (m + n) *ℤ x ≡ (pos m *ℤ x) +ℤ (pos n *ℤ x)
sum_times zero n x = ap (λ (k : ℕ). pos k *ℤ x) (zero-add n) ∙ sum_none (pos 0 *ℤ x) (pos n *ℤ x) (zero-*ℤ x)
sum_times (suc m) n x =
    ap (λ (k : ℕ). pos k *ℤ x) (suc-add m n)
    ∙ sum_more (pos (m + n) *ℤ x) (pos m *ℤ x) (pos n *ℤ x) x _ _ (sum_times m n x) (suc_ℤ-*ℤ (pos (m + n)) x) (suc_ℤ-*ℤ (pos m) x)

times_sum : (x : ℤ) (m n : ℕ) → x *ℤ pos (m + n) ≡ (pos m *ℤ x) +ℤ (x *ℤ pos n)
times_sum x m n = *ℤ_comm x (pos (m + n)) ∙ sum_times m n x ∙ ap (λ (z : ℤ). (pos m *ℤ x) +ℤ z) (*ℤ_comm (pos n) x)

-- one station more on either side
ahead_more : (bend rest whole u v y w : ℤ) → bend ≡ u -ℤ v → rest ≡ y -ℤ w → whole ≡ u +ℤ y → bend +ℤ rest ≡ whole -ℤ (v +ℤ w)
ahead_more bend rest whole u v y w p q r = omega (arith, ints)

behind_more : (bend rest whole u v y w : ℤ) → bend ≡ v -ℤ u → rest ≡ w -ℤ y → whole ≡ u +ℤ y → bend +ℤ rest ≡ (v +ℤ w) -ℤ whole
behind_more bend rest whole u v y w p q r = omega (arith, ints)

none_ahead : (z : ℤ) → z ≡ pos 0 → pos 0 ≡ z -ℤ pos 0
none_ahead z e = omega (arith, ints)

none_behind : (z : ℤ) → z ≡ pos 0 → pos 0 ≡ pos 0 -ℤ z
none_behind z e = omega (arith, ints)

ahead_is : (x : ℤ) (ss : List Station) → moment_ahead x ss ≡ (x *ℤ pos (mass_of ss)) -ℤ moment_of ss
ahead_is x [] = none_ahead (x *ℤ pos 0) (*ℤ-zero x)
ahead_is x (s ∷ ss) =
    ahead_more _ _ (x *ℤ pos (s.mass + mass_of ss)) (pos s.mass *ℤ x) (pos s.mass *ℤ s.arm) (x *ℤ pos (mass_of ss)) (moment_of ss)
    (times_apart s.mass x s.arm) (ahead_is x ss) (times_sum x s.mass (mass_of ss))

behind_is : (x : ℤ) (ss : List Station) → moment_behind x ss ≡ moment_of ss -ℤ (x *ℤ pos (mass_of ss))
behind_is x [] = none_behind (x *ℤ pos 0) (*ℤ-zero x)
behind_is x (s ∷ ss) =
    behind_more _ _ (x *ℤ pos (s.mass + mass_of ss)) (pos s.mass *ℤ x) (pos s.mass *ℤ s.arm) (x *ℤ pos (mass_of ss)) (moment_of ss)
    (times_apart s.mass s.arm x) (behind_is x ss) (times_sum x s.mass (mass_of ss))

-- mass and moment of the stations on a side give the bending
pub side_bent : (side : Side) (x : ℤ) (ss : List Station) → bent side x (load_of (on_side side x ss)) ≡ side_bending side x ss
side_bent Fore x ss = sym (ahead_is x (on_side Fore x ss))
side_bent Aft x ss = sym (behind_is x (on_side Aft x ss))

-- the parts of the deck that are asked for
module _ (f : Frame) (ss : List Station) (k : ℕ) where
  pub ahead_part : k ≡ count_ahead f ss → take (k - 0) (drop 0 ss) ≡ on_side Fore f.arm ss
  ahead_part is =
      let e : k - 0 ≡ count_ahead f ss = omega arith in
      ap (λ (n : ℕ). take n ss) e

  pub aft_part : k ≡ length ss - count_aft f ss → take (length ss - k) (drop k ss) ≡ on_side Aft f.arm ss
  aft_part is = take_rest ss k ∙ ap (λ (n : ℕ). drop n ss) is ∙ sym (back_drop (λ s. lt_z f.arm s.arm) ss)

pub ahead_on_deck : (f : Frame) (ss : List Station) → count_ahead f ss ≤ length ss
ahead_on_deck f ss = prefix_len-le-length (λ s. lt_z s.arm f.arm) ss
