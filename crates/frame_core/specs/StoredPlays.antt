-- How a client's plays are stored: a place for each, and apart those that have orders.
use Rattle.std.specs.Prelude.{◌≡◌, ℕ, zero, suc, ◌⊎◌, nat_le, Bool}
use Rattle.std.specs.Prelude.{List, [], ◌∷◌, ◌++◌, length, map, slice_index_or}
use Rattle.game_orders.specs.declared.order.Order.{Order}
use Rattle.game_orders.specs.declared.entry.Entry.{Entry}
use Rattle.game_orders.specs.declared.entry.Entry.TheVariants.{Play, Leave}

-- The orders of an entry, which are those of a play.
abbrev pub orders_of : Entry → List Order
orders_of (Play orders) = orders
orders_of Leave = []

-- The orders of the play at a place: none at 0, and after it those of the plays that have orders.
abbrev pub play_at : List Entry → ℕ → List Order
play_at full zero = []
play_at full (suc k) = orders_of (slice_index_or full k Leave)

-- The plays at these places.
abbrev pub plays_at : List Entry → List ℕ → List (List Order)
plays_at full places = map (play_at full) places

-- There is such a place beside so many plays that have orders.
abbrev pub is_place : ℕ → ℕ → Bool
is_place size place = nat_le place size

-- No entry is a departure.
abbrev pub ArePlays : List Entry → Type 0
ArePlays [] = Unit {0}
ArePlays (Play orders ∷ rest) = ArePlays rest
ArePlays (Leave ∷ rest) = ⊥

-- A play was kept at this place: one without orders at 0, any other last.
abbrev pub Keeps : List Entry → List Entry → List Order → ℕ → Type 0
Keeps old new orders place =
    ((orders ≡ []) × (new ≡ old) × (place ≡ 0))
    ⊎ ((new ≡ old ++ Play orders ∷ []) × (place ≡ suc (length old)))
