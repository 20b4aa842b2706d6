-- The messages of the refusals, by their numbers (CM1 of the specification), and the call that writes one (IC9).
use Rattle.std.specs.Prelude.{List, [], ◌∷◌, ℕ, zero, suc, ◌+◌, get_or}
use Prim.Native.Char.{code}
use Prim.Native.String.{String, len, char_at}
use Rattle.coxeter.specs.Calls.{Outcome, writes}

-- Helper of IC9: the ASCII codes of l characters of a text from place i on
unfoldable pub codes_from : String → ℕ → ℕ → List ℕ
codes_from t zero i = []
codes_from t (suc l) i = code (char_at t i) ∷ codes_from t l (i + 1)

-- Helper of IC9: the codes of all characters
unfoldable pub codes : String → List ℕ
codes t = codes_from t (len t) 0

-- CM1: the table, in the order of the numbers
unfoldable pub messages : List String
messages =
    "The book is too short or too long: a book has either no bytes or from 2 to 65,535 bytes." ∷
    "The book is too short for the number of presets that its last two bytes give." ∷
    "The book's records and offsets do not fit together: the records must follow one another from byte 0 up to the offsets, and each offset must be where its record begins." ∷
    "There is no preset with this number in the book: presets are numbered from 0." ∷
    "The kind must be 1 (A), 2 (B) or 3 (D)." ∷
    "The rank is out of range for its kind: 1 to 63 for A, 2 to 64 for B, 4 to 64 for D, and in a book of the first edition at most 31 for A and 32 for B and D." ∷
    "The word is too long: a word has at most 4,096 letters." ∷
    "A letter of the word is out of range: every letter must be at least 1 and at most the rank." ∷
    "The window has the wrong number of entries: kind A has one more than the rank, kinds B and D have as many as the rank." ∷
    "An entry of the window is wrong: the sizes must be the numbers from 1 to the number of entries, each of them once, and in kind A no entry may be negative." ∷
    "The window has an odd number of negative entries: in kind D the number must be even." ∷
    "The place is past the end of the word: places are counted from 0, one for each letter." ∷
    "The new book would be too long: a book has at most 65,535 bytes." ∷
    "An output is too short for what the call writes to it." ∷
    "One of the three output lists is too short: each needs room for every step of the rewriting." ∷
    "The set of allowed steps has a step above the rank: bit 0 stands for step 1, and only the bits of steps up to the rank may be set." ∷
    "The lane count in the record is wrong: it must be one more than the rank for kind A, and the rank for kinds B and D." ∷
    "The book cannot be converted to the first edition: one of its records has more than 32 lanes." ∷
    "The second window cannot be reached from the first with the allowed steps." ∷
    "The rank is too high for a delay table: at most 19 for kind A, and at most 16 for kinds B and D." ∷
    "A preset of kind A and rank 1 cannot be appended: books that have one are read, but get no new one." ∷
    []

-- IC9: the message of a refusal. A number that is none has no message
unfoldable pub message : ℕ → List ℕ
message zero = []
message (suc k) = codes (get_or messages k "")

-- IC9: the message goes to the output
unfoldable pub refusal_message : ℕ → List ℕ → Outcome ℕ
refusal_message k out = writes 0 (message k) out
