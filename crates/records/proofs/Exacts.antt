-- What the reader answers is exactly what a writer wrote.
use Rattle.std.proofs.Common.{◌≡◌, ℕ, ◌+◌, ◌-◌, ◌^◌, ◌<◌, ◌≤◌, List, [], ◌++◌, length, take, drop, Some, None, Ok, Option, Result, sym, refl, ap, ◌∙◌, subst, arith, w32, SFits, to_z, of_z}
use mir.ValLaws.{of_z_fits}
use Rattle.std.proofs.Math.Seq.{take-add}
use Rattle.std.proofs.lemmas.List.{append-nil, drop-drop, take-append-drop}
use Rattle.std.proofs.lemmas.Nat.{from_le_bytes-to_le_bytes_2, from_le_bytes-to_le_bytes_4}
use Rattle.std.proofs.lemmas.Int.{ints, to_z-of_z, of_z-to_z}
use Rattle.std.proofs.lemmas.Bool.Decides.{nat_tests}
use Rattle.records.specs.declared.call.Call.{Call}
use Rattle.records.specs.declared.call.Call.TheVariants.{Load, Unload, Shift, Change}
use Rattle.records.specs.declared.fault.RecordFault.{RecordFault}
use Rattle.records.specs.declared.form.Form.{Form}
use Rattle.records.specs.declared.form.Form.TheVariants as forms
use Rattle.records.specs.Forms.{form_of_kind, kind_of, counted_of}
use Rattle.records.specs.Records.{form_of, Fits, two, four, body_of, together, encode}
use Rattle.records.specs.Reading.{word, dword, call_in, of_form, record_in, Stands, Exactly}
use Rattle.records.specs.Writing.{Finished}
use Rattle.records.proofs.Bytes.{Bytes, bytes_drop, word_taken, dword_taken}

-- a record written and then read

call_back : (c : Call) (rest : List ℕ) → Fits c → call_in (form_of c) (together (body_of c) ++ rest) ≡ c
call_back (Load s k) rest v = let p = from_le_bytes-to_le_bytes_2 s v.0 in let q = from_le_bytes-to_le_bytes_4 k v.1 in cc
call_back (Unload s k) rest v = let p = from_le_bytes-to_le_bytes_2 s v.0 in let q = from_le_bytes-to_le_bytes_4 k v.1 in cc
call_back (Shift f t k) rest v = let p = from_le_bytes-to_le_bytes_2 f v.0 in let r = from_le_bytes-to_le_bytes_2 t v.1 in let q = from_le_bytes-to_le_bytes_4 k v.2 in cc
call_back (Change s k) rest v =
    let p = from_le_bytes-to_le_bytes_2 s v.0 in
    let q = from_le_bytes-to_le_bytes_4 (of_z w32 k) (of_z_fits w32 k v.1).fits in
    let z = to_z-of_z w32 k v.1 in
    cc

long : (c : Call) → length (encode c) ≡ 2 + counted_of (form_of c)
long (Load s k) = refl
long (Unload s k) = refl
long (Shift f t k) = refl
long (Change s k) = refl

front_back : (c : Call) (rest : List ℕ) (at : ℕ) → Fits c → record_in (encode c ++ rest) at ≡ Ok (c, at + length (encode c))
front_back (Load s k) rest at v = grind (arith, nat_tests, call_back (Load s k) rest v)
front_back (Unload s k) rest at v = grind (arith, nat_tests, call_back (Unload s k) rest v)
front_back (Shift f t k) rest at v = grind (arith, nat_tests, call_back (Shift f t k) rest v)
front_back (Change s k) rest at v = grind (arith, nat_tests, call_back (Change s k) rest v)

complete : (bs : List ℕ) (at : ℕ) (c : Call) (next : ℕ) → Stands bs at c next → record_in bs at ≡ Ok (c, next)
complete bs at c next s = ap (λ (l : List ℕ). record_in l at) s.2.1 ∙ front_back c s.2.0 at s.0 ∙ ap (λ (k : ℕ). Ok (c, k)) (sym s.1)

-- a record that was accepted

word_fits : (bs : List ℕ) (at : ℕ) → Bytes bs → word bs at < 2 ^ 16
word_fits bs at h = omega (arith, h at, h (at + 1))

dword_fits : (bs : List ℕ) (at : ℕ) → Bytes bs → dword bs at < 2 ^ 32
dword_fits bs at h = omega (arith, h at, h (at + 1), h (at + 2), h (at + 3))

signed_fits : (n : ℕ) → n < 2 ^ 32 → SFits w32 (to_z w32 n)
signed_fits n h = omega (arith, ints)

call_fits : (f : Form) (bs : List ℕ) → Bytes bs → Fits (call_in f bs)
call_fits forms.Load bs h = (word_fits bs 0 h, dword_fits bs 2 h)
call_fits forms.Unload bs h = (word_fits bs 0 h, dword_fits bs 2 h)
call_fits forms.Shift bs h = (word_fits bs 0 h, word_fits bs 2 h, dword_fits bs 4 h)
call_fits forms.Change bs h = (word_fits bs 0 h, signed_fits (dword bs 2) (dword_fits bs 2 h))

form_back : (f : Form) (bs : List ℕ) → form_of (call_in f bs) ≡ f
form_back forms.Load bs = refl
form_back forms.Unload bs = refl
form_back forms.Shift bs = refl
form_back forms.Change bs = refl

-- the body of the call that was read is the bytes that it was read from
six : (bs : List ℕ) (at : ℕ) → Bytes bs → at + 6 ≤ length bs → two (word bs at) ++ (four (dword bs (at + 2)) ++ []) ≡ take 6 (drop at bs)
six bs at h l =
    ap (λ (r : List ℕ). r ++ (four (dword bs (at + 2)) ++ [])) (word_taken bs at h (omega arith))
    ∙ ap (λ (r : List ℕ). take 2 (drop at bs) ++ r) (append-nil (four (dword bs (at + 2))) ∙ dword_taken bs (at + 2) h (omega arith))
    ∙ ap (λ (r : List ℕ). take 2 (drop at bs) ++ take 4 r) (sym (drop-drop 2 at bs))
    ∙ sym (take-add 2 4 (drop at bs))

body_back : (f : Form) (bs : List ℕ) → Bytes bs → counted_of f - 2 ≤ length bs → together (body_of (call_in f bs)) ≡ take (counted_of f - 2) bs
body_back forms.Load bs h l = six bs 0 h l
body_back forms.Unload bs h l = six bs 0 h l
body_back forms.Shift bs h l =
    ap (λ (r : List ℕ). r ++ (two (word bs 2) ++ (four (dword bs 4) ++ []))) (word_taken bs 0 h (omega arith))
    ∙ ap (λ (r : List ℕ). take 2 bs ++ r) (six bs 2 h l)
    ∙ sym (take-add 2 6 bs)
body_back forms.Change bs h l = ap (λ (n : ℕ). two (word bs 0) ++ (four n ++ [])) (of_z-to_z w32 (dword bs 2) (dword_fits bs 2 h)) ∙ six bs 0 h l

kind_back : (k : ℕ) (f : Form) → form_of_kind k ≡ Some f → k ≡ kind_of f
kind_back k forms.Load e = grind (arith, nat_tests)
kind_back k forms.Unload e = grind (arith, nat_tests)
kind_back k forms.Shift e = grind (arith, nat_tests)
kind_back k forms.Change e = grind (arith, nat_tests)

abbrev Answer : Type 0
Answer = Result (Call × ℕ) RecordFault

record Accepted (n : ℕ) (o : Option Form) (body : List ℕ) (at : ℕ) (c : Call) (next : ℕ) : Type 0 where
  form : Form
  kind : o ≡ Some form
  count : n ≡ counted_of form
  call : c ≡ call_in form body
  after : next ≡ at + (2 + n)

accepted : (n : ℕ) (o : Option Form) (body : List ℕ) (at : ℕ) (c : Call) (next : ℕ) → of_form o n body at ≡ Ok (c, next) → Accepted n o body at c next
accepted n None body at c next e = cc
accepted n (Some f) body at c next e = record { form = f; kind = refl; count = grind (arith, nat_tests); call = grind (arith, nat_tests); after = grind (arith, nat_tests) }

-- the bytes of a header and of the body after it
header_back : (bs : List ℕ) (f : Form) → Bytes bs → 4 ≤ length bs → word bs 0 ≡ counted_of f → word bs 2 ≡ kind_of f → two (counted_of f) ++ two (kind_of f) ≡ take 4 bs
header_back bs f h l n k =
    ap (λ (r : List ℕ). r ++ two (kind_of f)) (ap two (sym n) ∙ word_taken bs 0 h (omega arith))
    ∙ ap (λ (r : List ℕ). take 2 bs ++ r) (ap two (sym k) ∙ word_taken bs 2 h l)
    ∙ sym (take-add 2 2 bs)

record Front (bs : List ℕ) (at : ℕ) (c : Call) (next : ℕ) : Type 0 where
  whole : 4 ≤ length bs
  enough : word bs 0 ≤ 2 + length (drop 4 bs)
  rest : of_form (form_of_kind (word bs 2)) (word bs 0) (drop 4 bs) at ≡ Ok (c, next)

front_accepts : (bs : List ℕ) (at : ℕ) (c : Call) (next : ℕ) → record_in bs at ≡ Ok (c, next) → Front bs at c next
front_accepts bs at c next e = record { whole = grind (arith, nat_tests); enough = grind (arith, nat_tests); rest = grind (arith, nat_tests) }

front_sound : (bs : List ℕ) (at : ℕ) (c : Call) (next : ℕ) → Bytes bs → record_in bs at ≡ Ok (c, next) → Stands bs at c next
front_sound bs at c next h e =
    let w = front_accepts bs at c next e in
    let body = drop 4 bs in
    let a = accepted (word bs 0) (form_of_kind (word bs 2)) body at c next w.rest in
    let f = a.form in
    let g = bytes_drop 4 bs h in
    let n : counted_of f - 2 ≤ length body = omega (arith, w.enough, a.count) in
    let same : form_of (call_in f body) ≡ f = form_back f body in
    let size : at + (2 + word bs 0) ≡ at + length (encode (call_in f body)) =
    ap (λ (k : ℕ). at + (2 + k)) (a.count ∙ ap counted_of (sym same)) ∙ ap (λ (k : ℕ). at + k) (sym (long (call_in f body))) in
    let rest = drop (counted_of f - 2) body in
    let bytes : bs ≡ encode (call_in f body) ++ rest =
    sym (take-append-drop 4 bs)
    ∙ ap (λ (l : List ℕ). take 4 bs ++ l) (sym (take-append-drop (counted_of f - 2) body))
    ∙ ap (λ (l : List ℕ). take 4 bs ++ (l ++ rest)) (sym (body_back f body g n))
    ∙ ap (λ (l : List ℕ). l ++ (together (body_of (call_in f body)) ++ rest)) (sym (header_back bs f h w.whole a.count (kind_back (word bs 2) f a.kind)))
    ∙ ap (λ (k : Form). (two (counted_of k) ++ two (kind_of k)) ++ (together (body_of (call_in f body)) ++ rest)) (sym same)
    in
    subst (λ (x : Call). Stands bs at x next) (sym a.call)
    (call_fits f body g, a.after ∙ size, (rest, bytes))

pub exact : (bs : List ℕ) (at : ℕ) (r : Answer) → Bytes bs → r ≡ record_in bs at → Exactly bs at r
exact bs at r h e =
    record { sound = λ c next k. front_sound bs at c next h (sym e ∙ k); complete = λ c next s. e ∙ complete bs at c next s }

-- what was written at the front stands there
pub stands_written : {before after : List ℕ} {c : Call} {end : ℕ} → Fits c → Finished before 0 c after end → Stands after 0 c end
stands_written {before} {after} {c} v d = (v, d.place, (drop (0 + length (encode c)) before, d.bytes))
