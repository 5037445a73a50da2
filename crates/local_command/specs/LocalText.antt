-- The text of the command `local`.
use Rattle.std.specs.Prelude.{ℕ, List, ◌+◌, ◌++◌, length, false, Result, Ok, Err, codes, nat_le}
use Rattle.std.specs.Prelude.{if◌then◌else◌}
use Rattle.std.specs.Fmt.{decimal}
use Rattle.game_orders.specs.declared.limits.TheConstants.{MAX_CLIENTS}
use Rattle.game_orders.specs.declared.order.Order.{Order}
use Rattle.game_orders.specs.declared.entry.Entry.{Entry}
use Rattle.frame_core.specs.declared.summary.Summary.{Summary}
use Rattle.drill_words.specs.declared.drill_fault.DrillFault.{DrillFault}
use Rattle.drill_words.specs.DrillFault.{cause_of, line_of}
use Rattle.drill_words.specs.Script.{ScriptPlain, read_script_of}
use Rattle.drill.specs.Report.{column_lines}
use Rattle.drill.specs.Text.{world_text, end_line}
use Rattle.match_run.specs.Local.{frames_of}
use Rattle.match_run.specs.Bots.{BotMatch, match_columns, match_world}
use Rattle.game_model.specs.Setup.{Setup}
use Rattle.tick_core.specs.Game.{game_start, game_after, game_hash, game_summary}
use Rattle.game_bots.specs.GameOrders.{game_orders}
use Rattle.command_answers.specs.Reply.{Reply, refusal}
use Rattle.command_answers.specs.Step.{Step}

-- The beginning of the line of a local match's world: its number of frames.
unfoldable pub local_head : ℕ → List ℕ
local_head frames = codes "local frames " ++ decimal frames

-- The lines of a local match: each client's column, which is its script, left at its end, or what
-- the bot orders in the worlds of the match; the world after the frames of these columns, as many as
-- the longest script has; and the end.
abbrev pub local_lines : {W : Type 0} → (W → ℕ) → (W → Summary) → BotMatch W → List ℕ
local_lines hash summary m =
    column_lines 0 (match_columns m)
    ++ local_head (frames_of m.scripts)
    ++ world_text hash summary (match_world m)
    ++ end_line

-- The refusal of a script with more clients than a match can have beside the bots.
abbrev pub too_many_clients : (name : List ℕ) → Reply
too_many_clients name = refusal name 0 (codes "TooManyClients")

-- The lines of the match of a script and so many bots over worlds that `made` has of a seed and a
-- number of clients, if it has no more clients than a match can have.
abbrev pub match_step :
    {W : Type 0} → (W → List Entry → W) → (W → ℕ) → (W → Summary) → (W → ℕ → List Order) →
    (made : ℕ → ℕ → W) → (name : List ℕ) → (bots : ℕ) → ScriptPlain → Step (List ℕ)
match_step after hash summary orders made name bots script =
    if nat_le (length script.scripts + bots) MAX_CLIENTS
    then Ok
    (local_lines hash summary (record {
      after = after;
      orders = orders;
      start = made script.seed (length script.scripts + bots);
      scripts = script.scripts;
      bots = bots;
    }))
    else Err (too_many_clients name)

-- The same, or the refusal of the script's first fault.
abbrev pub script_step :
    {W : Type 0} → (W → List Entry → W) → (W → ℕ) → (W → Summary) → (W → ℕ → List Order) →
    (made : ℕ → ℕ → W) → (name : List ℕ) → (bots : ℕ) → Result ScriptPlain DrillFault →
    Step (List ℕ)
script_step after hash summary orders made name bots (Ok script) =
    match_step after hash summary orders made name bots script
script_step after hash summary orders made name bots (Err fault) =
    Err (refusal name (line_of fault) (cause_of fault))

-- The lines over games of a setup, by the script that these bytes write.
abbrev pub local_step : Setup → (name bytes : List ℕ) → (bots : ℕ) → Step (List ℕ)
local_step setup name bytes bots =
    script_step game_after game_hash game_summary game_orders (game_start setup) name bots
    (read_script_of false bytes)
