-- What a player plays, frame by frame.
use Rattle.std.specs.Prelude.{ℕ, nat_lt, if◌then◌else◌, List, [], length, slice_index_or}
use Rattle.game_orders.specs.declared.order.Order.{Order}

-- How many frames a player plays, and the orders of each: by the world that it holds when it seals
-- the frame, its client, and the number of the frame.
pub record Plays (W : Type 0) : Type 0 where
  pub frames : ℕ
  pub orders : W → ℕ → ℕ → List Order

-- The same, from its parts.
abbrev pub plays_by : {W : Type 0} → ℕ → (W → ℕ → ℕ → List Order) → Plays W
plays_by frames orders = record { frames = frames; orders = orders }

-- A script says what is played, whatever the world is, and whoever plays it.
abbrev pub scripted : {W : Type 0} → List (List Order) → Plays W
scripted script =
    record { frames = length script; orders = λ world client n. slice_index_or script n [] }

-- What a rule orders in a world for a client that the world has. For another it orders nothing.
abbrev pub own_orders :
    {W : Type 0} → (W → ℕ) → (W → ℕ → List Order) → W → ℕ → List Order
own_orders clients_of ordered world client =
    if nat_lt client (clients_of world) then ordered world client else []

-- A bot plays so many frames, each by the world that it holds then.
abbrev pub bot_plays : {W : Type 0} → (W → ℕ) → (W → ℕ → List Order) → ℕ → Plays W
bot_plays clients_of ordered frames =
    record {
      frames = frames;
      orders = λ world client n. own_orders clients_of ordered world client;
    }
