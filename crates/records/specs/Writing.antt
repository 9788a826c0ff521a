-- What a writer leaves in the caller's memory.
use Rattle.std.specs.Prelude.{◌≡◌, ℕ, ◌+◌, ◌<◌, ◌≤◌, cond, List, [], ◌∷◌, ◌++◌, length, take, drop, Ok, Err, Result, nat_le}
use Rattle.records.specs.declared.call.Call.{Call}
use Rattle.records.specs.declared.fault.RecordFault.{RecordFault}
use Rattle.records.specs.declared.fault.RecordFault.TheVariants.{NoRoom}
use Rattle.records.specs.Records.{fields_of, together, encode}

-- `before` with `bs` at `at`, and every other byte as it was
abbrev pub over : List ℕ → ℕ → List ℕ → List ℕ
over before at bs = take at before ++ (bs ++ drop (at + length bs) before)

-- the fields that are put one after another from `at` on before one would end past `size`
abbrev pub fitting : ℕ → ℕ → List (List ℕ) → List ℕ
fitting size at [] = []
fitting size at (f ∷ fs) = cond (nat_le (at + length f) size) (f ++ fitting size (at + length f) fs) []

-- the record of c was finished at `at`
pub record Finished (before : List ℕ) (at : ℕ) (c : Call) (after : List ℕ) (to : ℕ) : Type 0 where
  pub room : at + length (encode c) ≤ length before
  pub place : to ≡ at + length (encode c)
  pub bytes : after ≡ over before at (encode c)

-- there was no room for the record of c at `at`: the place is as it was, and past it stand the fields that fitted
pub record Refused (before : List ℕ) (at : ℕ) (c : Call) (f : RecordFault) (after : List ℕ) (to : ℕ) : Type 0 where
  pub fault : f ≡ NoRoom
  pub full : length before < at + length (encode c)
  pub place : to ≡ at
  pub bytes : after ≡ over before at (fitting (length before) at (fields_of c))

-- whether bytes that end at `end` fit into `size`
abbrev pub room_to : ℕ → ℕ → Result (Unit {0}) RecordFault
room_to end size = cond (nat_le end size) (Ok tt) (Err NoRoom)

-- the fields fs were put at `at` one by one, as far as there was room
pub record Put (fs : List (List ℕ)) (before : List ℕ) (at : ℕ) (after : List ℕ) (to : ℕ) (r : Result (Unit {0}) RecordFault) : Type 0 where
  pub answer : r ≡ room_to (at + length (together fs)) (length before)
  pub place : to ≡ at + length (fitting (length before) at fs)
  pub bytes : after ≡ over before at (fitting (length before) at fs)
