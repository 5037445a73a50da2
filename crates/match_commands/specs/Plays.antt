-- The answer to the command `play`.
use Rattle.std.specs.Prelude.{◌≡◌, ℕ, List, [], Result, Ok, Err, unwrap_or}
use Rattle.std.specs.Global.{Vec}
use Rattle.base.specs.Steps.{◌>>=◌}
use Rattle.game_io.specs.NetState.{NetState}
use Rattle.game_io.specs.SinkState.{SinkState}
use Rattle.game_model.specs.Setup.{Setup}
use Rattle.game_orders.specs.declared.order.Order.{Order}
use Rattle.game_bots.specs.GameOrders.{game_orders}
use Rattle.tick_core.specs.Game.{GameState, game_start, game_after, game_clients, game_hash}
use Rattle.tick_core.specs.Game.{game_summary}
use Rattle.match_net.specs.Plays.{Plays, bot_plays, scripted}
use Rattle.match_net.specs.Stages.{Terms, terms_from}
use Rattle.command_words.specs.RequestPlain.{BotPlain, MatchPlain}
use Rattle.command_answers.specs.Contents.{Contents}
use Rattle.command_answers.specs.declared.stop.Stop.{Stop}
use Rattle.command_answers.specs.Step.{Step}
use Rattle.command_answers.specs.Stop.{PrintsStop}
use Rattle.command_answers.specs.WantedFiles.{rules_and_map, with_script}
use Rattle.link_commands.specs.Links.{WithLinks, RunsLinked, causes_by}
use Rattle.link_commands.specs.Plays.{PlaysBy, LinkFailed, IsPlayDone}
use Rattle.link_commands.specs.SoloScript.{solo_step}
use Rattle.rule_commands.specs.Numbers.{numbered_setup_step}

-- What a player plays by: the rules and the map, their number, and what it plays, a script or what
-- a bot orders.
pub record PlayMeans : Type 0 where
  pub setup : Setup
  pub number : ℕ
  pub plays : Plays GameState

-- The same as the terms of a match, whose worlds begin as the opening game.
abbrev pub terms_of : PlayMeans → Terms GameState
terms_of means =
    terms_from (game_start means.setup) game_after game_hash means.number means.plays

-- What the files hold, or the first fault: those of the rules come before those of the map, and
-- these before those of the script.
abbrev pub play_step : MatchPlain → Contents → Step PlayMeans
play_step query contents = do
  made ← numbered_setup_step query.rules query.map_file contents
  script ← solo_step query.file (unwrap_or contents.script [])
  Ok (record { setup = made.0; number = made.1; plays = scripted script })

-- A bot plays so many frames over these, each by the world that it holds when it seals the frame.
abbrev pub bot_means : (frames : ℕ) → Setup × ℕ → PlayMeans
bot_means frames made =
    record {
      setup = made.0;
      number = made.1;
      plays = bot_plays game_clients game_orders frames;
    }

-- The same for a bot: the first fault is one of the rules, or else of the map.
abbrev pub bot_step : BotPlain → Contents → Step PlayMeans
bot_step query contents = do
  made ← numbered_setup_step query.rules query.map_file contents
  Ok (bot_means query.frames made)

-- What the code plays by where it plays a script.
abbrev pub play_means : Setup × ℕ × Vec (List Order) → PlayMeans
play_means made =
    record { setup = made.0; number = made.1; plays = scripted made.2.items }

-- A match was played by what was made in code, or why the command ended before is printed: the net
-- is as it was.
abbrev pub PlaysFrom :
    {M : Type 0} → (M → PlayMeans) → Result M Stop → ℕ → (old new : NetState) →
    (before after : SinkState) → Type 0
PlaysFrom means (Ok made) status old new before after =
    PlaysBy game_hash game_summary (terms_of (means made)) status old new before after
PlaysFrom means (Err stop) status old new before after =
    PrintsStop stop status before after × (new ≡ old)

-- A match was played, with the console as it was.
abbrev pub PlaysOver : ℕ → (old new : WithLinks) → PlayMeans → Type 0
PlaysOver status old new means =
    PlaysBy game_hash game_summary (terms_of means) status old.net new.net old.sink new.sink
    × (new.console ≡ old.console)

-- A run of `play` by a bot.
abbrev pub RunsBot : BotPlain → ℕ → (old new : WithLinks) → Type 0
RunsBot query status old new =
    RunsLinked (rules_and_map query.rules query.map_file) (bot_step query)
    (PlaysOver status old new) IsPlayDone status
    (causes_by (LinkFailed old.net new.net) old new) old new

-- A run of `play` by a script.
abbrev pub RunsPlay : MatchPlain → ℕ → (old new : WithLinks) → Type 0
RunsPlay query status old new =
    RunsLinked (with_script query.file (rules_and_map query.rules query.map_file)) (play_step query)
    (PlaysOver status old new) IsPlayDone status
    (causes_by (LinkFailed old.net new.net) old new) old new
