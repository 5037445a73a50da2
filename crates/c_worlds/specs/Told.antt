-- What calls answer and write of what is told: a value, or a code.
use Rattle.std.specs.Prelude.{ℕ, nat_lt, if◌then◌else◌, List, ◌++◌, length, drop, Result, Ok, Err}
use Rattle.c_objects.specs.declared.code.TheConstants.{OK, NO_ROOM}

-- One value, written where there is one.
abbrev pub one_code : {A : Type 0} → Result A ℕ → ℕ
one_code (Ok value) = OK
one_code (Err code) = code

abbrev pub one_out : {A : Type 0} → Result A ℕ → (old : A) → A
one_out (Ok value) old = value
one_out (Err code) old = old

-- Values in front, and behind them what stood there, where all have room; else what stood there.
abbrev pub written : {A : Type 0} → (values old : List A) → List A
written values old =
    if nat_lt (length old) (length values) then old else values ++ drop (length values) old

abbrev pub room_code : (room count : ℕ) → ℕ
room_code room count = if nat_lt room count then NO_ROOM else OK

-- Many values, for an array of so many places.
abbrev pub list_code : {A : Type 0} → Result (List A) ℕ → (room : ℕ) → ℕ
list_code (Ok values) room = room_code room (length values)
list_code (Err code) room = code

abbrev pub list_out : {A : Type 0} → Result (List A) ℕ → (old : List A) → List A
list_out (Ok values) old = written values old
list_out (Err code) old = old

-- How many places they take, also where there is no room.
abbrev pub list_needed : {A : Type 0} → Result (List A) ℕ → (old : ℕ) → ℕ
list_needed (Ok values) old = length values
list_needed (Err code) old = old
