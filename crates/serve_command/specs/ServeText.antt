-- What `serve` answers: its status and its text.
use Rattle.std.specs.Prelude.{ℕ, ◌+◌, Bool, true, false, if◌then◌else◌, List, [], ◌∷◌, ◌++◌, codes}
use Rattle.std.specs.Fmt.{decimal}
use Rattle.std.specs.List.{list_any}
use Rattle.drill.specs.Report.{column_lines, alarm_lines}
use Rattle.drill.specs.Text.{server_head, world_text, end_line}
use Rattle.frame_core.specs.declared.summary.Summary.{Summary}
use Rattle.frame_core.specs.Column.{Column}
use Rattle.match_run.specs.Local.{longest}
use Rattle.match_serve.specs.declared.link_end.LinkEnd.{LinkEnd}
use Rattle.match_serve.specs.declared.link_end.LinkEnd.TheVariants as end
use Rattle.server_core.specs.Board.{BoardState}
use Rattle.command_answers.specs.declared.statuses.TheConstants.{DONE, OUT_OF_MEMORY}
use Rattle.command_answers.specs.Reply.{Reply, printed}
use Rattle.serve_command.specs.ReadCauses.{read_name}

-- How a link ended.
abbrev pub end_text : LinkEnd → List ℕ
end_text end.Ended = codes "ended"
end_text (end.Refused cause) = codes "refused " ++ read_name cause
end_text (end.Kicked at) = codes "kicked " ++ decimal at
end_text end.Lost = codes "lost"
end_text end.Memory = codes "memory"

-- The line of the link of client c.
unfoldable pub link_line : ℕ → LinkEnd → List ℕ
link_line c how = codes "link " ++ decimal c ++ codes " " ++ end_text how ++ codes "\n"

-- The lines of the links from client c on.
abbrev pub link_lines : ℕ → List LinkEnd → List ℕ
link_lines c [] = []
link_lines c (how ∷ rest) = link_line c how ++ link_lines (c + 1) rest

-- The text: the columns, how each link ended, the world after the last frame, the alarms and the
-- end.
abbrev pub served_text :
    {W : Type 0} → (W → ℕ) → (W → Summary) → List Column → List LinkEnd → W → BoardState → List ℕ
served_text hash summary columns ends world board =
    column_lines 0 columns ++ link_lines 0 ends ++ server_head (longest columns)
    ++ world_text hash summary world ++ alarm_lines board.wanted 0 board.reports ++ end_line

-- Memory ran out for a link.
abbrev pub is_memory : LinkEnd → Bool
is_memory end.Ended = false
is_memory (end.Refused cause) = false
is_memory (end.Kicked at) = false
is_memory end.Lost = false
is_memory end.Memory = true

-- No other end of a link changes the status.
abbrev pub served_status : List LinkEnd → ℕ
served_status ends = if list_any is_memory ends then OUT_OF_MEMORY else DONE

abbrev pub served_reply :
    {W : Type 0} → (W → ℕ) → (W → Summary) → List Column → List LinkEnd → W → BoardState → Reply
served_reply hash summary columns ends world board =
    printed (served_status ends) (served_text hash summary columns ends world board)
