-- What a line says by its words, and what its fields keep while they are read. Assumes nothing.
use Rattle.std.specs.Prelude.{◌≡◌, ℕ, ◌<◌, ◌++◌, List, Some, None, Option, length, codes}
use Rattle.std.specs.Char.{is_whitespace, is_not_whitespace}
use Rattle.std.specs.Str.{NoCharPasses, EmptyOrStartsWithPassing}
use Rattle.std.specs.Str.Iter.{split_whitespace_rest}
use Rattle.records.specs.declared.call.Call.{Call}
use Rattle.records.specs.declared.call.Call.TheVariants.{Load, Unload, Shift, Change}
use Rattle.listing.specs.declared.entry.Entry.{Entry}
use Rattle.listing.specs.declared.entry.Entry.TheVariants.{Basic, Station, Zone, Frame, Vertex}
use Rattle.listing.specs.declared.fields.Fields.{Fields}

-- the first word of a text: nothing but blanks stands before it, no blank in it, and a blank or nothing after it
abbrev pub FirstWord : List ℕ → List ℕ → Type 0
FirstWord text word = (gap rest : List ℕ) × (text ≡ gap ++ (word ++ rest)) × (0 < length word) × NoCharPasses is_not_whitespace gap × NoCharPasses is_whitespace word × ((more : List ℕ) × EmptyOrStartsWithPassing is_whitespace rest more)

-- the next word of what is left of the line
abbrev pub WordOf : Fields → List ℕ → Type 0
WordOf fields word = FirstWord (split_whitespace_rest fields.rest) word

-- nothing but blanks is told, or what its first word says
abbrev pub Says : {L : Type 0} → (List ℕ → L → Type 0) → List ℕ → Option L → Type 0
Says says told None = NoCharPasses is_not_whitespace told
Says says told (Some said) = (first : List ℕ) × FirstWord told first × says first said

-- the word by which a call is asked for
abbrev pub call_word : Call → List ℕ
call_word (Load station kg) = codes "load"
call_word (Unload station kg) = codes "unload"
call_word (Shift from to kg) = codes "shift"
call_word (Change station kg) = codes "change"

-- the word that begins an entry's line
abbrev pub entry_word : Entry → List ℕ
entry_word (Basic basic) = codes "basic"
entry_word (Station station) = codes "station"
entry_word (Zone zone) = codes "zone"
entry_word (Frame frame) = codes "frame"
entry_word (Vertex vertex) = codes "vertex"
