-- Records one after the other are bytes.
use Rattle.std.proofs.Common.{ℕ, zero, suc, ◌+◌, ◌/◌, ◌%◌, ◌<◌, List, [], ◌∷◌, length, drop, sym, subst, arith, w32, of_z}
use Rattle.std.proofs.ByRecursion.{All-append}
use Rattle.std.proofs.lemmas.List.{get_or-drop}
use Rattle.std.specs.List.{AllByRecursion}
use Rattle.records.specs.declared.call.Call.{Call}
use Rattle.records.specs.declared.call.Call.TheVariants.{Load, Unload, Shift, Change}
use Rattle.records.specs.Records.{two, four, fields_of, together, encode}
use Rattle.stages.specs.Meaning.{encodings, AreBytes}

pub bytes_from : (bs : List ℕ) (at : ℕ) → AreBytes bs → AreBytes (drop at bs)
bytes_from bs at all i = subst (λ (n : ℕ). n < 256) (sym (get_or-drop at bs i 0)) (all (at + i))

abbrev pub Small : List ℕ → Type 0
Small bs = AllByRecursion (λ n. n < 256) bs

pub bytes_small : (bs : List ℕ) → Small bs → AreBytes bs
bytes_small [] small i = omega arith
bytes_small (x ∷ bs) small zero = small.0
bytes_small (x ∷ bs) small (suc i) = bytes_small bs small.1 i

low : (n : ℕ) → n % 256 < 256
low n = omega arith

small_two : (n : ℕ) → Small (two n)
small_two n = (low n, (low (n / 256), tt))

small_four : (n : ℕ) → Small (four n)
small_four n = (low n, (low (n / 256), (low (n / 65536), (low (n / 16777216), tt))))

small_together : (fields : List (List ℕ)) → AllByRecursion Small fields → Small (together fields)
small_together [] all = tt
small_together (f ∷ fields) all = All-append (λ n. n < 256) f (together fields) all.0 (small_together fields all.1)

small_fields : (c : Call) → AllByRecursion Small (fields_of c)
small_fields (Load station kg) = (small_two 8, (small_two 1, (small_two station, (small_four kg, tt))))
small_fields (Unload station kg) = (small_two 8, (small_two 2, (small_two station, (small_four kg, tt))))
small_fields (Shift from to kg) = (small_two 10, (small_two 3, (small_two from, (small_two to, (small_four kg, tt)))))
small_fields (Change station kg) = (small_two 8, (small_two 4, (small_two station, (small_four (of_z w32 kg), tt))))

pub small_encodings : (cs : List Call) → Small (encodings cs)
small_encodings [] = tt
small_encodings (c ∷ cs) = All-append (λ n. n < 256) (encode c) (encodings cs) (small_together (fields_of c) (small_fields c)) (small_encodings cs)

pub some_bytes : (c : Call) → 0 < length (encode c)
some_bytes (Load station kg) = omega arith
some_bytes (Unload station kg) = omega arith
some_bytes (Shift from to kg) = omega arith
some_bytes (Change station kg) = omega arith
