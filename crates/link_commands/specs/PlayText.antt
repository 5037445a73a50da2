-- What `play` answers by how the match ended: its status and its text.
use Rattle.std.specs.Prelude.{ℕ, List, [], ◌++◌, Option, None, Some, codes}
use Rattle.std.specs.Fmt.{decimal}
use Rattle.frame_core.specs.declared.summary.Summary.{Summary}
use Rattle.drill.specs.Text.{world_text, end_line}
use Rattle.match_net.specs.declared.play_end.PlayEnd.{PlayEnd}
use Rattle.match_net.specs.declared.play_end.PlayEnd.TheVariants as end
use Rattle.command_answers.specs.declared.statuses.TheConstants.{REFUSED_FILE, FAULT_READ}
use Rattle.command_answers.specs.Reply.{Reply, done, printed}
use Rattle.link_commands.specs.CauseNames.{play_name}

-- The beginning of the player's line: its client, and how many frames it has ticked.
unfoldable pub play_head : (client frames : ℕ) → List ℕ
play_head client frames = codes "play " ++ decimal client ++ codes " frames " ++ decimal frames

-- The player's line, with its world. A player that was not welcomed has none.
abbrev pub play_line :
    {W : Type 0} → (W → ℕ) → (W → Summary) → (client frames : ℕ) → Option W → List ℕ
play_line hash summary client frames None = []
play_line hash summary client frames (Some world) =
    play_head client frames ++ world_text hash summary world

-- The line where the server refused the player, and where the bytes of the link were refused.
unfoldable pub server_refusal : (code : ℕ) → List ℕ
server_refusal code = codes "refused server " ++ decimal code ++ codes "\n"

unfoldable pub link_refusal : (at : ℕ) → (cause : List ℕ) → List ℕ
link_refusal at cause =
    codes "refused link " ++ decimal at ++ codes " " ++ cause ++ codes "\n"

-- The answer where the net or the link failed.
abbrev pub link_fault : Reply
link_fault = printed FAULT_READ (codes "fault link\n")

-- The answer by the end of the match. A refusal of the bytes is printed with the world that the
-- player has by then, if it was welcomed.
abbrev pub played_reply :
    {W : Type 0} → (W → ℕ) → (W → Summary) → PlayEnd → (client frames : ℕ) → Option W → Reply
played_reply hash summary end.Over client frames sim =
    done (play_line hash summary client frames sim ++ end_line)
played_reply hash summary (end.Refused code) client frames sim =
    printed REFUSED_FILE (server_refusal code)
played_reply hash summary (end.BadLink at why) client frames sim =
    printed REFUSED_FILE
    (link_refusal at (play_name why) ++ play_line hash summary client frames sim)
played_reply hash summary end.Lost client frames sim = link_fault
