-- How a call is written as a record.
use Rattle.std.specs.Prelude.{ℕ, ◌/◌, ◌%◌, ◌^◌, ◌<◌, List, [], ◌∷◌, ◌++◌, FitsSigned}
use Rattle.std.proofs.Common.{of_z}
use Rattle.std.specs.Int.{w32}
use Rattle.records.specs.declared.call.Call.{Call}
use Rattle.records.specs.declared.call.Call.TheVariants.{Load, Unload, Shift, Change}
use Rattle.records.specs.declared.form.Form.{Form}
use Rattle.records.specs.declared.form.Form.TheVariants as forms
use Rattle.records.specs.Forms.{kind_of, counted_of}

abbrev pub form_of : Call → Form
form_of (Load station kg) = forms.Load
form_of (Unload station kg) = forms.Unload
form_of (Shift from to kg) = forms.Shift
form_of (Change station kg) = forms.Change

-- each field lies in its width: stations in 16 bits, kilograms in 32
abbrev pub Fits : Call → Type 0
Fits (Load station kg) = (station < 2 ^ 16) × (kg < 2 ^ 32)
Fits (Unload station kg) = (station < 2 ^ 16) × (kg < 2 ^ 32)
Fits (Shift from to kg) = (from < 2 ^ 16) × (to < 2 ^ 16) × (kg < 2 ^ 32)
Fits (Change station kg) = (station < 2 ^ 16) × FitsSigned w32 kg

-- a number in two bytes, and in four, the lowest first
abbrev pub two : ℕ → List ℕ
two n = n % 256 ∷ n / 256 % 256 ∷ []

abbrev pub four : ℕ → List ℕ
four n = n % 256 ∷ n / 256 % 256 ∷ n / 65536 % 256 ∷ n / 16777216 % 256 ∷ []

-- the fields of the body; signed kilograms go by their two's complement
abbrev pub body_of : Call → List (List ℕ)
body_of (Load station kg) = two station ∷ four kg ∷ []
body_of (Unload station kg) = two station ∷ four kg ∷ []
body_of (Shift from to kg) = two from ∷ two to ∷ four kg ∷ []
body_of (Change station kg) = two station ∷ four (of_z w32 kg) ∷ []

-- all fields of a record: its length, its kind, its body
abbrev pub fields_of : Call → List (List ℕ)
fields_of c = two (counted_of (form_of c)) ∷ two (kind_of (form_of c)) ∷ body_of c

-- fields one after another
abbrev pub together : List (List ℕ) → List ℕ
together [] = []
together (f ∷ fs) = f ++ together fs

-- the bytes of a call
abbrev pub encode : Call → List ℕ
encode c = together (fields_of c)
