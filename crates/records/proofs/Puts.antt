-- Fields put one by one: two runs of puts are one run, and a whole record is its encoding.
use Rattle.std.proofs.Common.{◌≡◌, ℕ, ◌+◌, ◌<◌, ◌≤◌, Bool, true, false, eqb, List, [], ◌∷◌, ◌++◌, length, get_or, take, drop, Ok, Err, Result, sym, refl, ap, ◌∙◌, subst, arith, length-append}
use Rattle.std.proofs.lemmas.List.{append_assoc, take_more, take-append-drop}
use Rattle.std.proofs.lemmas.Bool.Decides.{nat_tests}
use Rattle.std.proofs.lemmas.Bool.{eqb-true, eqb-false}
use Rattle.records.specs.declared.call.Call.{Call}
use Rattle.records.specs.declared.fault.RecordFault.{RecordFault}
use Rattle.records.specs.declared.fault.RecordFault.TheVariants.{NoRoom}
use Rattle.records.specs.Records.{fields_of, together, encode}
use Rattle.records.specs.Writing.{over, fitting, room_to, Put, Finished, Refused}
use Rattle.records.proofs.Overs.{over_over, length_over}

together_append : (fs gs : List (List ℕ)) → together (fs ++ gs) ≡ together fs ++ together gs
together_append [] gs = refl
together_append (f ∷ fs) gs = ap (λ (l : List ℕ). f ++ l) (together_append fs gs) ∙ sym (append_assoc f (together fs) (together gs))

-- fields that all fit, and then others
pub fit_then : (size at : ℕ) (fs gs : List (List ℕ)) → at + length (together fs) ≤ size → fitting size at (fs ++ gs) ≡ together fs ++ fitting size (at + length (together fs)) gs
fit_then size at [] gs h = ap (λ (n : ℕ). fitting size n gs) (omega arith)
fit_then size at (f ∷ fs) gs h = grind (arith, nat_tests, append_assoc, length-append, fit_then size (at + length f) fs gs)

pub fit_all : (size at : ℕ) (fs : List (List ℕ)) → at + length (together fs) ≤ size → fitting size at fs ≡ together fs
fit_all size at [] h = refl
fit_all size at (f ∷ fs) h = grind (arith, nat_tests, length-append, fit_all size (at + length f) fs)

-- fields that do not all fit, whatever follows them
fit_past : (size at : ℕ) (gs : List (List ℕ)) → size < at → fitting size at gs ≡ []
fit_past size at [] h = refl
fit_past size at (g ∷ gs) h = grind (arith, nat_tests)

pub fit_stop : (size at : ℕ) (fs gs : List (List ℕ)) → size < at + length (together fs) → fitting size at (fs ++ gs) ≡ fitting size at fs
fit_stop size at [] gs h = fit_past size at gs (omega arith)
fit_stop size at (f ∷ fs) gs h = grind (arith, nat_tests, length-append, fit_stop size (at + length f) fs gs)

-- an answer says whether there was room
ok_room : (at n : ℕ) → Ok tt ≡ room_to at n → at ≤ n
ok_room at n h = grind (arith, nat_tests)

err_full : (f : RecordFault) (at n : ℕ) → Err f ≡ room_to at n → (f ≡ NoRoom) × (n < at)
err_full f at n h = (grind (arith, nat_tests), grind (arith, nat_tests))

pub put_as : {fs gs : List (List ℕ)} {xs ys : List ℕ} {at to : ℕ} {r : Result (Unit {0}) RecordFault} → fs ≡ gs → Put fs xs at ys to r → Put gs xs at ys to r
put_as {xs = xs} {ys} {at} {to} {r} e p = subst (λ (l : List (List ℕ)). Put l xs at ys to r) e p

-- a run that was put whole, and then another
pub put_then : {fs gs : List (List ℕ)} {xs ys zs : List ℕ} {at to end : ℕ} {r : Result (Unit {0}) RecordFault} → Put fs xs at ys to (Ok tt) → Put gs ys to zs end r → Put (fs ++ gs) xs at zs end r
put_then {fs} {gs} {xs} {ys} {zs} {at} {to} {end} {r} p q =
    let room : at + length (together fs) ≤ length xs = ok_room _ _ p.answer in
    let all : fitting (length xs) at fs ≡ together fs = fit_all (length xs) at fs room in
    let laid : ys ≡ over xs at (together fs) = p.bytes ∙ ap (over xs at) all in
    let long : length ys ≡ length xs = ap length laid ∙ length_over xs at (together fs) room in
    let came : to ≡ at + length (together fs) = p.place ∙ ap (λ (l : List ℕ). at + length l) all in
    let rest : List ℕ = fitting (length xs) (at + length (together fs)) gs in
    let same : fitting (length ys) to gs ≡ rest = ap (λ (n : ℕ). fitting n to gs) long ∙ ap (λ (n : ℕ). fitting (length xs) n gs) came in
    let both : fitting (length xs) at (fs ++ gs) ≡ together fs ++ rest = fit_then (length xs) at fs gs room in
    let size : length (together fs ++ rest) ≡ length (together fs) + length rest = length-append (together fs) rest in
    let whole : length (together (fs ++ gs)) ≡ length (together fs) + length (together gs) = ap length (together_append fs gs) ∙ length-append (together fs) (together gs) in
    let n : to + length (together gs) ≡ at + length (together (fs ++ gs)) = omega arith in
    let low : at ≤ length xs = omega arith in
    record {
      answer =
          q.answer
          ∙ ap (λ (k : ℕ). room_to k (length ys)) n
          ∙ ap (room_to (at + length (together (fs ++ gs)))) long;
      place =
          let s : length (fitting (length ys) to gs) ≡ length rest = ap length same in
          let t : length (fitting (length xs) at (fs ++ gs)) ≡ length (together fs) + length rest = ap length both ∙ size in
          omega (arith, q.place);
      bytes =
          q.bytes
          ∙ ap (over ys to) same
          ∙ ap (λ (l : List ℕ). over l to rest) laid
          ∙ ap (λ (k : ℕ). over (over xs at (together fs)) k rest) came
          ∙ over_over xs at (together fs) rest low
          ∙ ap (over xs at) (sym both);
    }

-- a run that stopped stays so, whatever was to follow
pub put_stop : {fs : List (List ℕ)} {xs ys : List ℕ} {at to : ℕ} {f : RecordFault} (gs : List (List ℕ)) → Put fs xs at ys to (Err f) → Put (fs ++ gs) xs at ys to (Err f)
put_stop {fs} {xs} {ys} {at} {to} {f} gs p =
    let no : (f ≡ NoRoom) × (length xs < at + length (together fs)) = err_full f _ _ p.answer in
    let same : fitting (length xs) at (fs ++ gs) ≡ fitting (length xs) at fs = fit_stop (length xs) at fs gs no.1 in
    let whole : length (together (fs ++ gs)) ≡ length (together fs) + length (together gs) = ap length (together_append fs gs) ∙ length-append (together fs) (together gs) in
    let full : length xs < at + length (together (fs ++ gs)) = omega (arith, no.1) in
    record {
      answer = grind (arith, nat_tests, no.0);
      place = p.place ∙ ap (λ (l : List ℕ). at + length l) (sym same);
      bytes = p.bytes ∙ ap (over xs at) (sym same);
    }

-- the first i of the fields fs were put, one by one
pub record Begun (i : ℕ) (fs : List (List ℕ)) (xs : List ℕ) (at : ℕ) (ys : List ℕ) (to : ℕ) : Type 0 where
  pub none : i ≡ 0 → (ys ≡ xs) × (to ≡ at)
  pub some : 0 < i → Put (take i fs) xs at ys to (Ok tt)

-- and then the next of them, which is f
put_next : {f : List ℕ} (fs : List (List ℕ)) (i : ℕ) {xs ys zs : List ℕ} {at to end : ℕ} {r : Result (Unit {0}) RecordFault} → f ≡ get_or fs i [] → i < length fs → Begun i fs xs at ys to → Put (f ∷ []) ys to zs end r → Put (take (i + 1) fs) xs at zs end r
put_next {f} fs i {xs} {ys} {zs} {at} {to} {end} {r} e l b p = by (eqb i 0) refl
  where
    more : take i fs ++ f ∷ [] ≡ take (i + 1) fs
    more = ap (λ (g : List ℕ). take i fs ++ g ∷ []) e ∙ sym (take_more fs i [] l)

    by : (c : Bool) → eqb i 0 ≡ c → Put (take (i + 1) fs) xs at zs end r
    by true h =
        let z : i ≡ 0 = eqb-true _ _ h in
        let n = b.none z in
        put_as (ap (λ (k : ℕ). take k fs ++ f ∷ []) (sym z) ∙ more) (rw (n.0, n.1) at p)
    by false h = put_as more (put_then (b.some (omega (arith, eqb-false _ _ h))) p)

pub put_more : {f : List ℕ} (fs : List (List ℕ)) (i : ℕ) {xs ys zs : List ℕ} {at to end : ℕ} → f ≡ get_or fs i [] → i < length fs → Begun i fs xs at ys to → Put (f ∷ []) ys to zs end (Ok tt) → Begun (i + 1) fs xs at zs end
put_more fs i e l b p = record { none = λ z. absurd (omega arith); some = λ _. put_next fs i e l b p }

-- a run that stopped at one of the fields is the run of all of them
pub put_short : {f : List ℕ} (fs : List (List ℕ)) (i : ℕ) {xs ys zs : List ℕ} {at to end : ℕ} {g : RecordFault} → f ≡ get_or fs i [] → i < length fs → Begun i fs xs at ys to → Put (f ∷ []) ys to zs end (Err g) → Put fs xs at zs end (Err g)
put_short fs i e l b p = put_as (take-append-drop (i + 1) fs) (put_stop (drop (i + 1) fs) (put_next fs i e l b p))

-- all fields of a record
pub finished : {c : Call} {xs ys : List ℕ} {at to to' : ℕ} → Put (fields_of c) xs at ys to (Ok tt) → to' ≡ to → Finished xs at c ys to'
finished {c} {xs} {ys} {at} p e =
    let room : at + length (encode c) ≤ length xs = ok_room _ _ p.answer in
    let all : fitting (length xs) at (fields_of c) ≡ encode c = fit_all (length xs) at (fields_of c) room in
    record { room = room; place = e ∙ p.place ∙ ap (λ (l : List ℕ). at + length l) all; bytes = p.bytes ∙ ap (over xs at) all }

pub refused : {c : Call} {xs ys : List ℕ} {at to to' : ℕ} {f : RecordFault} → Put (fields_of c) xs at ys to (Err f) → to' ≡ at → Refused xs at c f ys to'
refused {c} {xs} {ys} {at} {f = f} p e =
    let no : (f ≡ NoRoom) × (length xs < at + length (encode c)) = err_full f _ _ p.answer in
    record { fault = no.0; full = no.1; place = e; bytes = p.bytes }
