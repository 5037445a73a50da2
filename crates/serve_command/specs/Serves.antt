-- A match that is served over the links of a net, and what is printed of it.
use Rattle.std.specs.Prelude.{◌≡◌, ℕ, ◌⊎◌, List}
use Rattle.base.specs.Cause.{Increased}
use Rattle.frame_core.specs.Match.{Match}
use Rattle.frame_table.specs.declared.pass.Pass.{Pass}
use Rattle.frame_table.specs.declared.table.FrameTable.{FrameTable}
use Rattle.game_io.specs.NetState.{NetState}
use Rattle.game_io.specs.SinkState.{SinkState}
use Rattle.game_io.specs.SourceState.{SourceState}
use Rattle.match_net.specs.declared.invite.Invite.{Invite}
use Rattle.match_serve.specs.declared.link_end.LinkEnd.{LinkEnd}
use Rattle.match_serve.specs.Passes.{columns_of}
use Rattle.match_serve.specs.Serve.{ServesMatch}
use Rattle.server_core.specs.Board.{BoardState}
use Rattle.command_answers.specs.declared.statuses.TheConstants.{DONE, OUT_OF_MEMORY}
use Rattle.command_answers.specs.Printing.{MayPrintReply}
use Rattle.link_commands.specs.PlayText.{link_fault}
use Rattle.serve_command.specs.ServeText.{served_reply}

-- The match was served to its end, and its answer printed: the text is of the columns, the ends of
-- the links, the world and the board that the serving handed back.
pub record ServesOut {W : Type 0} (of_match : Match W) (invite : Invite) (status : ℕ)
    (old new : NetState) (console_old console_new : SourceState) (before after : SinkState) :
    Type 0 where
  pub world : W
  pub steps : ℕ
  pub table : FrameTable
  pub pass : Pass
  pub board : BoardState
  pub ends : List LinkEnd
  pub taken : List ℕ
  pub serves :
      ServesMatch of_match invite old.coming console_old console_new new world steps table pass
      board ends taken
  pub prints :
      MayPrintReply
      (served_reply of_match.hash of_match.summary (columns_of pass) ends world board)
      status before after

-- The match was served to its end; or memory ran out, and nothing was printed; or the net failed,
-- and that was printed.
abbrev pub ServesBy :
    {W : Type 0} → Match W → Invite → ℕ → (old new : NetState) →
    (console_old console_new : SourceState) → (before after : SinkState) → Type 0
ServesBy of_match invite status old new console_old console_new before after =
    ServesOut of_match invite status old new console_old console_new before after
    ⊎ (((status ≡ OUT_OF_MEMORY) × (after.written ≡ before.written))
    ⊎ (Increased old.faults new.faults × MayPrintReply link_fault status before after))

-- The net's count of faults rose. The faults of links change no status.
abbrev pub NetFailed : (old new : NetState) → Type 0
NetFailed old new = Increased old.faults new.faults

abbrev pub IsServeDone : ℕ → Type 0
IsServeDone status = status ≡ DONE
