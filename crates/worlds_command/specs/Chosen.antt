-- The numbers of frames whose worlds are printed.
use Rattle.std.specs.Prelude.{ℕ, zero, suc, ◌+◌, ◌-◌, ◌%◌, ◌==◌, ◌&&◌, ◌||◌, nat_le, nat_lt, max}
use Rattle.std.specs.Prelude.{Bool, if◌then◌else◌, List, [], ◌++◌, Option, unwrap_or}
use Rattle.worlds_command.specs.declared.chosen.Chosen.{Chosen}

-- Those asked for, of a replay of so many frames: up to its last frame where none is named.
abbrev pub chosen_of : (from : ℕ) → (to : Option ℕ) → (every frames : ℕ) → Chosen
chosen_of from to every frames =
    record { from = from; last = unwrap_or to frames; every = every }

-- More frames are asked for than there are.
abbrev pub is_beyond : Chosen → (frames : ℕ) → Bool
is_beyond chosen frames = nat_lt frames chosen.from || nat_lt frames chosen.last

-- The number is one of those from the first on in steps, up to the last. Steps of 0 are steps of 1.
abbrev pub is_chosen : Chosen → ℕ → Bool
is_chosen chosen n =
    nat_le chosen.from n && nat_le n chosen.last
    && ((n - chosen.from) % max chosen.every 1 == 0)

-- The text of a number, if it is chosen.
abbrev pub text_if_chosen : (ℕ → List ℕ) → Chosen → ℕ → List ℕ
text_if_chosen text chosen n = if is_chosen chosen n then text n else []

abbrev pub count_if_chosen : Chosen → ℕ → ℕ
count_if_chosen chosen n = if is_chosen chosen n then 1 else 0

-- The texts of the chosen ones among so many numbers from a number on, by rising number.
abbrev pub texts_from : (ℕ → List ℕ) → Chosen → (n count : ℕ) → List ℕ
texts_from text chosen n zero = []
texts_from text chosen n (suc count) =
    text_if_chosen text chosen n ++ texts_from text chosen (n + 1) count

-- How many of them are chosen.
abbrev pub count_from : Chosen → (n count : ℕ) → ℕ
count_from chosen n zero = 0
count_from chosen n (suc count) = count_if_chosen chosen n + count_from chosen (n + 1) count
