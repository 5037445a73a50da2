-- The file in which a match that was served is recorded.
use Rattle.std.specs.Prelude.{◌≡◌, ℕ, ◌⊎◌, List, Some}
use Rattle.base.specs.Cause.{Increased}
use Rattle.frame_core.specs.Column.{Column}
use Rattle.frame_core.specs.Match.{Match}
use Rattle.frame_table.specs.declared.pass.Pass.{Pass}
use Rattle.frame_table.specs.declared.table.FrameTable.{FrameTable}
use Rattle.game_io.specs.DiskState.{DiskState}
use Rattle.game_io.specs.NetState.{NetState}
use Rattle.game_io.specs.SinkState.{SinkState}
use Rattle.game_io.specs.SourceState.{SourceState}
use Rattle.match_net.specs.declared.invite.Invite.{Invite}
use Rattle.match_run.specs.Local.{longest}
use Rattle.match_serve.specs.declared.link_end.LinkEnd.{LinkEnd}
use Rattle.match_serve.specs.Passes.{columns_of}
use Rattle.match_serve.specs.Serve.{ServesMatch}
use Rattle.replay_file.specs.declared.replay.Replay.{Replay}
use Rattle.replay_file.specs.FirstFault.{Spells}
use Rattle.replay_file.specs.ReplayBytes.{replay_bytes}
use Rattle.replay_run.specs.Recording.{replay_of}
use Rattle.server_core.specs.Board.{BoardState}
use Rattle.command_answers.specs.declared.statuses.TheConstants.{OUT_OF_MEMORY}
use Rattle.command_answers.specs.Causes.{Causes, causes_of}
use Rattle.command_answers.specs.Printing.{MayPrintReply}
use Rattle.command_answers.specs.Reply.{Reply}
use Rattle.command_answers.specs.Writing.{AnswersReply}
use Rattle.link_commands.specs.Links.{WithLinks, environment_of}
use Rattle.link_commands.specs.PlayText.{link_fault}
use Rattle.serve_command.specs.ServeText.{served_reply}

-- The replay of the match with these columns: all frames that the server ticked, as many as the
-- longest column has, and after each a mark with the hash of the agreed world there.
abbrev pub served_replay : {W : Type 0} → Match W → Invite → List Column → Replay
served_replay of_match invite columns =
    replay_of of_match invite.rules invite.seed columns (longest columns)

-- Its bytes.
unfoldable pub served_record : {W : Type 0} → Match W → Invite → List Column → List ℕ
served_record of_match invite columns = replay_bytes (served_replay of_match invite columns)

-- The answer where the match is recorded in the file of this name: that of a match that is not, and
-- after its text these bytes.
abbrev pub recorded_reply :
    {W : Type 0} → Match W → Invite → (name : List ℕ) → List Column → List LinkEnd → W →
    BoardState → Reply
recorded_reply of_match invite name columns ends world board =
    record (served_reply of_match.hash of_match.summary columns ends world board) {
      write = Some (record { name = name; bytes = served_record of_match invite columns });
    }

-- No file changed, or bytes were made, which `read_replay` reads.
abbrev pub IsSpelled :
    {W : Type 0} → Match W → Invite → List Column → (old new : DiskState) → Type 0
IsSpelled of_match invite columns old new =
    (new.files ≡ old.files)
    ⊎ Spells invite.rules (served_record of_match invite columns)
    (served_replay of_match invite columns)

-- The match was served to its end, its answer printed, and then its file written: the text is of the
-- columns, the ends of the links, the world and the board that the serving handed back.
pub record RecordsOut {W : Type 0} (of_match : Match W) (invite : Invite) (name : List ℕ)
    (status : ℕ) (old new : NetState) (console_old console_new : SourceState)
    (disk_old disk_new : DiskState) (before after : SinkState) : Type 0 where
  pub world : W
  pub steps : ℕ
  pub table : FrameTable
  pub pass : Pass
  pub board : BoardState
  pub ends : List LinkEnd
  pub taken : List ℕ
  pub serves :
      ServesMatch of_match invite old.coming console_old console_new new world steps table pass
      board ends taken
  pub ticked : longest (columns_of pass) ≡ steps
  pub answers :
      AnswersReply (recorded_reply of_match invite name (columns_of pass) ends world board) status
      disk_old disk_new before after
  pub spelled : IsSpelled of_match invite (columns_of pass) disk_old disk_new

-- The match was served to its end; or memory ran out, and nothing was printed; or the net failed,
-- and that was printed. No file changed but in the first case.
abbrev pub RecordsBy :
    {W : Type 0} → Match W → Invite → (name : List ℕ) → ℕ → (old new : NetState) →
    (console_old console_new : SourceState) → (disk_old disk_new : DiskState) →
    (before after : SinkState) → Type 0
RecordsBy of_match invite name status old new console_old console_new disk_old disk_new before after =
    RecordsOut of_match invite name status old new console_old console_new disk_old disk_new before
    after
    ⊎ (((status ≡ OUT_OF_MEMORY)
    × (after.written ≡ before.written)
    × (disk_new.files ≡ disk_old.files))
    ⊎ (Increased old.faults new.faults
    × MayPrintReply link_fault status before after
    × (disk_new.files ≡ disk_old.files)))

-- The causes of a command that writes the file of this name, and that ends by a fault of its net
-- where this is so.
abbrev pub recording_causes :
    (name : List ℕ) → (net_failed : Type 0) → (old new : WithLinks) → Causes
recording_causes name net_failed old new =
    record (causes_of (Some name) (environment_of old) (environment_of new)) { net = net_failed }
