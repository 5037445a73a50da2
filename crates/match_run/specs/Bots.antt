-- A match of scripts and bots: what each bot plays, and the world that the frames make.
use Rattle.std.specs.Prelude.{◌≡◌, ℕ, zero, suc, ◌+◌, ◌<◌, ◌≤◌, true, List, ◌++◌, length, map}
use Rattle.std.specs.Prelude.{Some}
use Rattle.std.specs.List.{range_with_len}
use Rattle.game_orders.specs.declared.order.Order.{Order}
use Rattle.game_orders.specs.declared.entry.Entry.{Entry}
use Rattle.game_orders.specs.declared.entry.Entry.TheVariants.{Play, Leave}
use Rattle.frame_core.specs.Column.{Column, column_of, entry_at}
use Rattle.frame_core.specs.Ready.{frame_at}
use Rattle.frame_core.specs.World.{world_at}
use Rattle.drill_words.specs.Scripts.{plays_of}
use Rattle.match_run.specs.Local.{script_column, script_columns, frames_of}

-- A match: what a frame makes of a world, what a bot that is client c orders in a world, the world
-- before the first frame, what each of the first clients plays, and the number of bots. Bots are
-- the clients after those.
pub record BotMatch (W : Type 0) : Type 0 where
  pub after : W → List Entry → W
  pub orders : W → (c : ℕ) → List Order
  pub start : W
  pub scripts : List (List (List Order))
  pub bots : ℕ

-- The bots' entries in the frame that comes after a world.
abbrev pub bot_entries : {W : Type 0} → BotMatch W → W → List Entry
bot_entries m w = map (λ (c : ℕ). Play (m.orders w c)) (range_with_len (length m.scripts) m.bots)

-- The world after n frames. In each the scripts' clients play, or have left at their scripts' ends,
-- and the bots play by the world before it.
abbrev pub world_after : {W : Type 0} → BotMatch W → ℕ → W
world_after m zero = m.start
world_after m (suc n) =
    m.after (world_after m n)
    (frame_at (script_columns m.scripts) n ++ bot_entries m (world_after m n))

-- What a bot that is client c plays in the first n frames.
abbrev pub bot_plays : {W : Type 0} → BotMatch W → (n c : ℕ) → List (List Order)
bot_plays m n c = map (λ (k : ℕ). m.orders (world_after m k) c) (range_with_len 0 n)

-- Its column at the end: it plays as many frames as the longest script has, and leaves.
abbrev pub bot_column : {W : Type 0} → BotMatch W → (c : ℕ) → Column
bot_column m c = record { plays = bot_plays m (frames_of m.scripts) c; left = true }

-- The columns of the match at its end: the scripts, each left at its end, and the bots'.
abbrev pub match_columns : {W : Type 0} → BotMatch W → List Column
match_columns m =
    script_columns m.scripts ++ map (bot_column m) (range_with_len (length m.scripts) m.bots)

-- The world that the frames of all these columns make.
abbrev pub match_world : {W : Type 0} → BotMatch W → W
match_world m = world_at m.after m.start (match_columns m) (frames_of m.scripts)

-- What columns of such a match are. Each client of a script plays it, and leaves at its end. Each
-- bot plays, in each frame that the longest script has, what it orders in the world that the agreed
-- frames before it make, and leaves then.
pub record IsPlayed {W : Type 0} (m : BotMatch W) (columns : List Column) : Type 0 where
  pub clients : length columns ≡ length m.scripts + m.bots
  pub scripts : (c : ℕ) → c < length m.scripts →
      column_of columns c ≡ script_column (plays_of m.scripts c)
  pub bots : (c n : ℕ) → length m.scripts ≤ c → c < length columns → n < frames_of m.scripts →
      entry_at (column_of columns c) n
      ≡ Some (Play (m.orders (world_at m.after m.start columns n) c))
  pub ends : (c : ℕ) → length m.scripts ≤ c → c < length columns →
      entry_at (column_of columns c) (frames_of m.scripts) ≡ Some Leave
