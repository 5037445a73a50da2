-- The sequence of MT19937: one endless sequence of 32-bit words by two recurrences, and the
-- tempering of each word.
use Rattle.std.specs.Prelude.{ℕ, zero, suc, ◌+◌, ◌-◌, ◌*◌, ◌/◌, ◌%◌, ◌^◌, nat_lt, ◌==◌}
use Rattle.std.specs.Prelude.{if◌then◌else◌, bit_and, bit_or, bit_xor}

-- The recurrence of the seeding: the word at place i from the word before it.
unfoldable pub seeding_step : ℕ → ℕ → ℕ
seeding_step x i = (1812433253 * bit_xor x (x / 2 ^ 30) + i) % 2 ^ 32

-- The top bit of one word joined with the low 31 bits of another.
abbrev pub joined : ℕ → ℕ → ℕ
joined upper lower = bit_or (bit_and upper 0x8000_0000) (bit_and lower 0x7fff_ffff)

-- The matrix's last row, which an odd word takes in.
abbrev pub matrix_row : ℕ → ℕ
matrix_row y = if y % 2 == 1 then 0x9908_b0df else 0

-- The recurrence of the twist, from the words 397 places, 0 places and 1 place after the oldest.
unfoldable pub twisted_of : ℕ → ℕ → ℕ → ℕ
twisted_of far upper lower =
    bit_xor (bit_xor far (joined upper lower / 2)) (matrix_row (joined upper lower))

-- The word at place i, from the words at the places before it.
abbrev pub next_x : ℕ → (ℕ → ℕ) → ℕ → ℕ
next_x seed x i =
    if i == 0 then seed
    else (if nat_lt i 624 then seeding_step (x (i - 1)) i
    else twisted_of (x (i - 227)) (x (i - 624)) (x (i - 623)))

-- The word at place i. The depth is above i and bounds how often an earlier word is asked for.
abbrev pub x_bounded : ℕ → ℕ → ℕ → ℕ
x_bounded zero seed i = 0
x_bounded (suc depth) seed i = next_x seed (x_bounded depth seed) i

-- The word at place i of the sequence of a seed.
unfoldable pub x_of : ℕ → ℕ → ℕ
x_of seed i = x_bounded (suc i) seed i

-- The steps of the tempering.
abbrev pub temper_11 : ℕ → ℕ
temper_11 y = bit_xor y (y / 2 ^ 11)

abbrev pub temper_7 : ℕ → ℕ
temper_7 y = bit_xor y (bit_and (y * 2 ^ 7 % 2 ^ 32) 0x9d2c_5680)

abbrev pub temper_15 : ℕ → ℕ
temper_15 y = bit_xor y (bit_and (y * 2 ^ 15 % 2 ^ 32) 0xefc6_0000)

abbrev pub temper_18 : ℕ → ℕ
temper_18 y = bit_xor y (y / 2 ^ 18)

unfoldable pub tempered_of : ℕ → ℕ
tempered_of y = temper_18 (temper_15 (temper_7 (temper_11 y)))

-- The k-th random word, k from 0: the sequence's words from the 624th on, tempered.
unfoldable pub word_of : ℕ → ℕ → ℕ
word_of seed k = tempered_of (x_of seed (k + 624))

-- A draw below m.
abbrev pub draw_of : ℕ → ℕ → ℕ → ℕ
draw_of seed k m = word_of seed k % 2147483647 % m
