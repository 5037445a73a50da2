-- The reply to `compare`.
use Rattle.std.specs.Prelude.{ℕ, ◌==◌, if◌then◌else◌, List, ◌++◌, length, Ok}
use Rattle.base.specs.Steps.{◌>>=◌}
use Rattle.command_answers.specs.declared.statuses.TheConstants.{DONE, MARK_DIFFERS}
use Rattle.command_answers.specs.Reply.{Reply, printed}
use Rattle.command_answers.specs.Step.{Step}
use Rattle.command_answers.specs.WantedFiles.{begins_save}
use Rattle.game_model.specs.Setup.{Setup}
use Rattle.game_save.specs.ReadSave.{read_save_of}
use Rattle.replay_commands.specs.Refusals.{read_step}
use Rattle.replay_file.specs.Reading.{read_of}
use Rattle.replay_commands.specs.SaveRefusals.{read_save_step}
use Rattle.compare_command.specs.Difference.{Difference}
use Rattle.compare_command.specs.Found.{FoundState}
use Rattle.compare_command.specs.Lines.{last_lines, lines_of}
use Rattle.compare_command.specs.Replays.{replay_differences}
use Rattle.compare_command.specs.Saves.{save_differences}

-- The status, by the number of differences: `DONE` for none.
abbrev pub status_of : ℕ → ℕ
status_of count = if count == 0 then DONE else MARK_DIFFERS

-- The reply with these lines of so many differences.
abbrev pub found_reply : FoundState → Reply
found_reply found = printed (status_of found.count) (found.text ++ last_lines found.count)

-- The reply with these differences: the line of each, and the last lines.
abbrev pub compared_reply : List Difference → Reply
compared_reply differences =
    found_reply (record { text = lines_of differences; count = length differences })

-- The reply over the bytes of two saves of files with these names, or the first refusal, of this
-- setup and with this rules number. All faults of the first file come before those of the second.
abbrev pub saves_step :
    (first second : List ℕ) → (rules : ℕ) → Setup → (bytes others : List ℕ) → Step Reply
saves_step first second rules setup bytes others = do
  a ← read_save_step first (read_save_of rules setup bytes)
  b ← read_save_step second (read_save_of rules setup others)
  Ok (compared_reply (save_differences a b))

-- The same of two replays.
abbrev pub replays_step :
    (first second : List ℕ) → (rules : ℕ) → (bytes others : List ℕ) → Step Reply
replays_step first second rules bytes others = do
  r ← read_step first (read_of rules bytes)
  s ← read_step second (read_of rules others)
  Ok (compared_reply (replay_differences r s))

-- The reply over the bytes of two files: both are saves where the first begins as one, else both
-- are replays.
abbrev pub compare_step :
    (first second : List ℕ) → (rules : ℕ) → Setup → (bytes others : List ℕ) → Step Reply
compare_step first second rules setup bytes others =
    if begins_save bytes then saves_step first second rules setup bytes others
    else replays_step first second rules bytes others
