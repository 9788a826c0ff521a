-- The forms of a record: their kind numbers and the lengths that they carry.
use Rattle.std.specs.Prelude.{ℕ, cond, Some, None, Option, ◌==◌}
use Rattle.records.specs.declared.form.Form.{Form}
use Rattle.records.specs.declared.form.Form.TheVariants.{Load, Unload, Shift, Change}

abbrev pub kind_of : Form → ℕ
kind_of Load = 1
kind_of Unload = 2
kind_of Shift = 3
kind_of Change = 4

-- the form that has the kind number n
abbrev pub form_of_kind : ℕ → Option Form
form_of_kind n = cond (n == 1) (Some Load) (cond (n == 2) (Some Unload) (cond (n == 3) (Some Shift) (cond (n == 4) (Some Change) None)))

-- what a record gives as its length: two bytes of kind, then two for each station and four for the kilograms
abbrev pub counted_of : Form → ℕ
counted_of Load = 8
counted_of Unload = 8
counted_of Shift = 10
counted_of Change = 8
