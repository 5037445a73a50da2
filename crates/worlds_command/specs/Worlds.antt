-- The text of the command `worlds`, or its refusal.
use Rattle.std.specs.Prelude.{ℕ, ◌+◌, if◌then◌else◌, List, ◌++◌, Option, Result, Ok, Err, codes}
use Rattle.std.specs.Fmt.{decimal}
use Rattle.base.specs.Steps.{◌>>=◌}
use Rattle.command_answers.specs.declared.statuses.TheConstants.{DONE, FAULT_WRITE, OUT_OF_MEMORY}
use Rattle.command_answers.specs.Reply.{refusal}
use Rattle.command_answers.specs.Step.{Step}
use Rattle.drill.specs.Text.{end_line}
use Rattle.drill_words.specs.Hash.{hash_digits}
use Rattle.game_model.specs.Setup.{Setup}
use Rattle.replay_commands.specs.Refusals.{read_step}
use Rattle.replay_file.specs.declared.replay.Replay.{Replay}
use Rattle.replay_file.specs.Reading.{read_of}
use Rattle.replay_run.specs.Playing.{played}
use Rattle.replay_run.specs.Rerun.{frame_count}
use Rattle.tick_core.specs.Game.{GameState, game_after, game_hash, game_start}
use Rattle.world_text.specs.WorldText.{world_text}
use Rattle.world_text.specs.declared.print_fault.PrintFault.{PrintFault}
use Rattle.world_text.specs.declared.print_fault.PrintFault.TheVariants.{Write, NoMemory}
use Rattle.worlds_command.specs.Chosen.{chosen_of, count_from, is_beyond, texts_from}
use Rattle.worlds_command.specs.declared.chosen.Chosen.{Chosen}
use Rattle.worlds_command.specs.SetupLines.{setup_lines}

-- The line of a world: how many frames came before it, and its hash.
unfoldable pub frames_line : (frames hash : ℕ) → List ℕ
frames_line frames hash =
    codes "frames " ++ decimal frames ++ codes " hash " ++ hash_digits hash ++ codes "\n"

-- Its line, and its text.
abbrev pub game_lines : (frames : ℕ) → GameState → List ℕ
game_lines frames game = frames_line frames (game_hash game) ++ world_text game.world

-- The game after the first n frames of a replay.
abbrev pub game_at : Setup → Replay → (n : ℕ) → GameState
game_at setup r n = played game_after (game_start setup r.seed r.clients) r n

-- The lines of the world after n frames.
abbrev pub lines_at : Setup → Replay → (n : ℕ) → List ℕ
lines_at setup r n = game_lines n (game_at setup r n)

-- The last lines: how many worlds were printed, and `end`.
unfoldable pub last_lines : ℕ → List ℕ
last_lines count = codes "worlds " ++ decimal count ++ codes "\n" ++ end_line

-- The text of a replay: the kinds and the map, the chosen worlds by rising number of frames, and
-- the last lines.
unfoldable pub worlds_text : Setup → Replay → Chosen → List ℕ
worlds_text setup r chosen =
    setup_lines setup
    ++ (texts_from (lines_at setup r) chosen 0 (chosen.last + 1)
    ++ last_lines (count_from chosen 0 (chosen.last + 1)))

-- The replay of a file of this name with the chosen numbers, or its refusal where they are beyond
-- its frames.
abbrev pub fitting_step : (name : List ℕ) → Replay → Chosen → Step (Replay × Chosen)
fitting_step name r chosen =
    if is_beyond chosen (frame_count r) then Err (refusal name 0 (codes "TooFewFrames"))
    else Ok (r, chosen)

-- The replay of the bytes of a file with this name, for a match with these rules, and the numbers
-- that are asked for, or the first fault: those of the file come before that of the numbers.
abbrev pub chosen_step :
    (name : List ℕ) → (from : ℕ) → (to : Option ℕ) → (every rules : ℕ) → (bytes : List ℕ) →
    Step (Replay × Chosen)
chosen_step name from to every rules bytes = do
  r ← read_step name (read_of rules bytes)
  fitting_step name r (chosen_of from to every (frame_count r))

-- The text over these bytes, or the first fault.
abbrev pub worlds_step :
    (name : List ℕ) → (from : ℕ) → (to : Option ℕ) → (every rules : ℕ) → Setup →
    (bytes : List ℕ) → Step (List ℕ)
worlds_step name from to every rules setup bytes = do
  made ← chosen_step name from to every rules bytes
  Ok (worlds_text setup made.0 made.1)

-- The status of a text that was printed, or why it was not.
abbrev pub status_of : {T : Type 0} → Result T PrintFault → ℕ
status_of (Ok done) = DONE
status_of (Err Write) = FAULT_WRITE
status_of (Err NoMemory) = OUT_OF_MEMORY
