-- How the words of a line are read from the left, one step after another.
use Rattle.std.specs.Prelude.{◌≡◌, ℕ, nat_lt, nat_le, Bool, true, false, ◌&&◌, if◌then◌else◌}
use Rattle.std.specs.Prelude.{List, [], ◌∷◌, Option, Some, None, Result, Ok, Err}
use Rattle.std.specs.Str.{bytes_eq}
use Rattle.base.specs.Steps.{◌>>=◌}
use Rattle.base.specs.Numbers.{number_of}
use Rattle.drill_words.specs.declared.word_fault.WordFault.{WordFault}
use Rattle.drill_words.specs.declared.word_fault.WordFault.TheVariants.{BadWord, BadNumber}
use Rattle.drill_words.specs.declared.word_fault.WordFault.TheVariants.{NoSuchClient}
use Rattle.drill_words.specs.Hash.{hash_of_word}

-- A step reads a value from the first words, and leaves the words after them, or finds a fault.
abbrev pub Read : Type 0 → Type 0
Read A = Result (A × List (List ℕ)) WordFault

-- A call that takes words from a cursor does this step: it returns the value, and the cursor has
-- the words after it.
abbrev pub Takes : {A : Type 0} → Result A WordFault → List (List ℕ) → Read A → Type 0
Takes (Ok value) rest read = read ≡ Ok (value, rest)
Takes (Err fault) rest read = read ≡ Err fault

-- The first word, which has to be there, read so.
abbrev pub word_at : {A : Type 0} → (List ℕ → Result A WordFault) → List (List ℕ) → Read A
word_at read [] = Err BadWord
word_at read (word ∷ rest) = read word >>= λ value. Ok (value, rest)

-- The words after this one, which has to be first.
unfoldable pub after_word : List ℕ → List (List ℕ) → Result (List (List ℕ)) WordFault
after_word text [] = Err BadWord
after_word text (word ∷ rest) = if bytes_eq word text then Ok rest else Err BadWord

-- A number in a range.
abbrev pub in_range : ℕ → ℕ → Option ℕ → Result ℕ WordFault
in_range least most None = Err BadNumber
in_range least most (Some number) =
    if nat_le least number && nat_le number most then Ok number else Err BadNumber

unfoldable pub number_at : ℕ → ℕ → List (List ℕ) → Read ℕ
number_at least most = word_at λ word. in_range least most (number_of word)

-- The number of a client of the match.
abbrev pub below : ℕ → Option ℕ → Result ℕ WordFault
below clients None = Err BadNumber
below clients (Some number) = if nat_lt number clients then Ok number else Err NoSuchClient

abbrev pub client_of : ℕ → List ℕ → Result ℕ WordFault
client_of clients word = below clients (number_of word)

unfoldable pub client_at : ℕ → List (List ℕ) → Read ℕ
client_at clients = word_at (client_of clients)

-- A word that has to be known.
abbrev pub known : {A : Type 0} → Option A → Result A WordFault
known None = Err BadWord
known (Some value) = Ok value

-- A hash. Any other word in its place is a bad word.
unfoldable pub hash_at : List (List ℕ) → Read ℕ
hash_at = word_at λ word. known (hash_of_word word)

-- No word is left.
abbrev pub none_left : List (List ℕ) → Bool
none_left [] = true
none_left (word ∷ rest) = false

-- The value, where no word is left after it.
abbrev pub at_end : {A : Type 0} → A → List (List ℕ) → Result A WordFault
at_end value rest = if none_left rest then Ok value else Err BadWord
