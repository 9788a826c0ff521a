-- What a reader answers on any bytes.
use Rattle.std.specs.Prelude.{◌≡◌, ℕ, ◌+◌, ◌*◌, cond, List, ◌++◌, length, drop, Some, None, Ok, Err, Option, Result, ◌==◌, nat_lt, slice_index}
use Rattle.std.proofs.Common.{to_z}
use Rattle.std.specs.Int.{w32}
use Rattle.records.specs.declared.call.Call.{Call}
use Rattle.records.specs.declared.call.Call.TheVariants.{Load, Unload, Shift, Change}
use Rattle.records.specs.declared.fault.RecordFault.{RecordFault}
use Rattle.records.specs.declared.fault.RecordFault.TheVariants.{Short, UnknownKind, WrongLength}
use Rattle.records.specs.declared.form.Form.{Form}
use Rattle.records.specs.declared.form.Form.TheVariants as forms
use Rattle.records.specs.Forms.{form_of_kind, counted_of}
use Rattle.records.specs.Records.{Fits, encode}

-- the numbers in the two and in the four bytes from `at` on, the lowest byte first
abbrev pub word : List ℕ → ℕ → ℕ
word bs at = slice_index bs at + slice_index bs (at + 1) * 256

abbrev pub dword : List ℕ → ℕ → ℕ
dword bs at = slice_index bs at + slice_index bs (at + 1) * 256 + slice_index bs (at + 2) * 65536 + slice_index bs (at + 3) * 16777216

-- the call that a body of this form holds
abbrev pub call_in : Form → List ℕ → Call
call_in forms.Load bs = Load (word bs 0) (dword bs 2)
call_in forms.Unload bs = Unload (word bs 0) (dword bs 2)
call_in forms.Shift bs = Shift (word bs 0) (word bs 2) (dword bs 4)
call_in forms.Change bs = Change (word bs 0) (to_z w32 (dword bs 2))

-- a record of length n, all of whose bytes are there, and whose first byte stands at `at`
abbrev pub of_form : Option Form → ℕ → List ℕ → ℕ → Result (Call × ℕ) RecordFault
of_form None n body at = Err (UnknownKind at)
of_form (Some f) n body at = cond (n == counted_of f) (Ok (call_in f body, at + (2 + n))) (Err (WrongLength at))

-- a record of length n and kind k, with the bytes that follow its header; the length counts the kind's two bytes
abbrev pub of_header : ℕ → ℕ → List ℕ → ℕ → Result (Call × ℕ) RecordFault
of_header n k body at = cond (nat_lt (2 + length body) n) (Err (Short at)) (of_form (form_of_kind k) n body at)

-- the record that begins the bytes `bs`, of which the first stands at `at`: what is wrong with it first, or its call and where the next begins
abbrev pub record_in : List ℕ → ℕ → Result (Call × ℕ) RecordFault
record_in bs at = cond (nat_lt (length bs) 4) (Err (Short at)) (of_header (word bs 0) (word bs 2) (drop 4 bs) at)

-- the bytes, of which the first stands at `at`, are the encoding of c and then anything, and the next record begins after it
abbrev pub Stands : List ℕ → ℕ → Call → ℕ → Type 0
Stands bs at c next = Fits c × (next ≡ at + length (encode c)) × ((rest : List ℕ) × (bs ≡ encode c ++ rest))

-- a call is answered exactly where its encoding stands: a written call reads back as its call,
-- and each accepted record is how its call is written
pub record Exactly (bs : List ℕ) (at : ℕ) (r : Result (Call × ℕ) RecordFault) : Type 0 where
  pub sound : (c : Call) (next : ℕ) → r ≡ Ok (c, next) → Stands bs at c next
  pub complete : (c : Call) (next : ℕ) → Stands bs at c next → r ≡ Ok (c, next)
