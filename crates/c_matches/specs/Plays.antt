-- What a bot plays, as C hands it over.
use Rattle.std.specs.Prelude.{ℕ, nat_lt, if◌then◌else◌, List, ◌++◌, length, drop, Result, Ok, Err}
use Rattle.game_orders.specs.declared.entry.Entry.TheVariants.{Play}
use Rattle.game_orders.specs.declared.order.Order.{Order}
use Rattle.game_bots.specs.GameOrders.{game_orders}
use Rattle.replay_file.specs.PartBytes.{entry_bytes}
use Rattle.tick_core.specs.Game.{GameState, game_clients}
use Rattle.c_objects.specs.declared.code.TheConstants.{BAD_ARGUMENT}
use Rattle.c_matches.specs.declared.plays.CPlay.{CPlay}

-- The bytes of a play in a frame.
abbrev pub play_bytes : List Order → List ℕ
play_bytes orders = entry_bytes (Play orders)

-- What a client orders that is a bot.
abbrev pub bot_told : (client : ℕ) → GameState → Result (List ℕ) ℕ
bot_told client game =
    if nat_lt client (game_clients game) then Ok (play_bytes (game_orders game client))
    else Err BAD_ARGUMENT

-- The bytes in front, and behind them what stood there.
abbrev pub play_with : List ℕ → CPlay → CPlay
play_with bytes old =
    record { len = length bytes; bytes = bytes ++ drop (length bytes) old.bytes }

-- What is written of what is told.
abbrev pub play_out : Result (List ℕ) ℕ → (old : CPlay) → CPlay
play_out (Ok bytes) old = play_with bytes old
play_out (Err code) old = old
