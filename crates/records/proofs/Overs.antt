-- Bytes laid over a memory: one piece after another is one piece, and nothing else changes.
use Rattle.std.proofs.Common.{◌≡◌, ℕ, ◌+◌, ◌≤◌, List, ◌++◌, length, take, drop, sym, refl, ap, ◌∙◌, arith, length-append}
use lib.Seq.{paste}
use Rattle.std.proofs.lemmas.List.Edits.{paste_all, paste-paste, length-paste}
use Rattle.records.specs.Writing.{over}

pub over_over : (xs : List ℕ) (at : ℕ) (ys zs : List ℕ) → at ≤ length xs → over (over xs at ys) (at + length ys) zs ≡ over xs at (ys ++ zs)
over_over xs at ys zs h =
    sym (paste_all (over xs at ys) (at + length ys) zs (length zs) refl)
    ∙ ap (λ (d : List ℕ). paste d (at + length ys) zs (length zs)) (sym (paste_all xs at ys (length ys) refl))
    ∙ paste-paste xs at ys zs (length ys) (length zs) refl refl h
    ∙ paste_all xs at (ys ++ zs) (length ys + length zs) (sym (length-append ys zs))
    ∙ ap (λ (n : ℕ). take at xs ++ ((ys ++ zs) ++ drop (at + n) xs)) (sym (length-append ys zs))

pub length_over : (xs : List ℕ) (at : ℕ) (bs : List ℕ) → at + length bs ≤ length xs → length (over xs at bs) ≡ length xs
length_over xs at bs h = ap length (sym (paste_all xs at bs (length bs) refl)) ∙ length-paste xs at bs (length bs) h (omega arith)
