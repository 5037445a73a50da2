-- The printed words of a report.
use Rattle.std.specs.Prelude.{ℕ, ◌+◌, Bool, true, false}
use Rattle.std.specs.Prelude.{List, [], ◌∷◌, ◌++◌, codes}
use Rattle.std.specs.Fmt.{decimal}
use Rattle.drill_words.specs.Hash.{hash_digits}
use Rattle.frame_core.specs.declared.tick_answer.TickAnswer.{TickAnswer}
use Rattle.frame_core.specs.declared.tick_answer.TickAnswer.TheVariants.{Ticked, NotYet, Over}
use Rattle.frame_core.specs.declared.summary.Summary.{Summary}
use Rattle.frame_core.specs.declared.leaving.Leaving.{Leaving}
use Rattle.frame_core.specs.declared.leaving.Leaving.TheVariants as leave
use Rattle.server_core.specs.declared.reported.Reported.{Reported as ReportAnswer}
use Rattle.server_core.specs.declared.reported.Reported.TheVariants as report
use Rattle.server_core.specs.declared.alarm.Alarm.{Alarm}
use Rattle.peer_core.specs.declared.seal_fault.SealFault.{SealFault}
use Rattle.peer_core.specs.declared.seal_fault.SealFault.TheVariants.{TooEarly, LeftAlready}
use Rattle.peer_core.specs.declared.seal_fault.SealFault.TheVariants.{MatchFull}
use Rattle.drill.specs.declared.entering.Entering.{Entering}
use Rattle.drill.specs.declared.entering.Entering.TheVariants.{Fixed, Repeat, Conflict, Left, Ahead}
use Rattle.drill.specs.declared.entering.Entering.TheVariants.{Full}
use Rattle.drill.specs.declared.outcome.Outcome.{Outcome}
use Rattle.drill.specs.declared.outcome.Outcome.TheVariants.{Sealed, NotSealed, NoPacket, Entered}
use Rattle.drill.specs.declared.outcome.Outcome.TheVariants.{Reported, Leaves, NoEntry}
use Rattle.drill.specs.declared.outcome.Outcome.TheVariants.{Arrived, Repeated, Ticking, ReportSent}
use Rattle.drill.specs.declared.outcome.Outcome.TheVariants.{NoFrame, ByeSent}

-- A client's frame after a word.
abbrev pub place_text : List ℕ → ℕ → ℕ → List ℕ
place_text word client frame = word ++ codes " " ++ decimal client ++ codes " " ++ decimal frame

-- Why a peer could not seal.
abbrev pub seal_fault_text : SealFault → List ℕ
seal_fault_text TooEarly = codes "too early"
seal_fault_text LeftAlready = codes "left already"
seal_fault_text MatchFull = codes "match full"

-- What a column answered to orders.
abbrev pub entering_text : ℕ → ℕ → Entering → List ℕ
entering_text client frame Fixed = place_text (codes "entry") client frame
entering_text client frame Repeat = place_text (codes "repeat") client frame
entering_text client frame Conflict = place_text (codes "conflict") client frame
entering_text client frame (Left at) = place_text (codes "left") client at
entering_text client frame (Ahead length) =
    place_text (codes "ahead") client frame ++ codes " " ++ decimal length
entering_text client frame Full = codes "full " ++ decimal client

-- What the board answered to a report.
abbrev pub reported_text : ℕ → ℕ → ReportAnswer → List ℕ
reported_text client frame report.Kept = place_text (codes "report") client frame
reported_text client frame report.Repeat = place_text (codes "report repeated") client frame
reported_text client frame report.Beyond = place_text (codes "report beyond") client frame

-- What a column answered to a departure.
abbrev pub leaving_text : ℕ → Leaving → List ℕ
leaving_text client (leave.Fixed at) = place_text (codes "leave") client at
leaving_text client (leave.Already at) = place_text (codes "already") client at

-- What the tick of a peer or of the server answered.
abbrev pub tick_text : TickAnswer → List ℕ
tick_text (Ticked frame) = codes "ticked " ++ decimal frame
tick_text (NotYet client) = codes "not yet " ++ decimal client
tick_text Over = codes "over"

-- The result of an event.
abbrev pub outcome_text : Outcome → List ℕ
outcome_text (Sealed frame) = codes "sealed " ++ decimal frame
outcome_text (NotSealed fault) = seal_fault_text fault
outcome_text NoPacket = codes "no packet"
outcome_text (Entered client frame entering) = entering_text client frame entering
outcome_text (Reported client frame reported) = reported_text client frame reported
outcome_text (Leaves client leaving) = leaving_text client leaving
outcome_text NoEntry = codes "no entry"
outcome_text (Arrived client frame) = place_text (codes "kept") client frame
outcome_text (Repeated client frame) = place_text (codes "repeat") client frame
outcome_text (Ticking answer) = tick_text answer
outcome_text (ReportSent frame) = codes "sent " ++ decimal frame
outcome_text NoFrame = codes "no frame"
outcome_text ByeSent = codes "bye"

-- The line of the event of this number.
unfoldable pub outcome_line : ℕ → Outcome → List ℕ
outcome_line number outcome = decimal number ++ codes " " ++ outcome_text outcome ++ codes "\n"

-- The lines of the events from this number on.
abbrev pub outcome_lines : ℕ → List Outcome → List ℕ
outcome_lines number [] = []
outcome_lines number (outcome ∷ rest) = outcome_line number outcome ++ outcome_lines (number + 1) rest

-- The cash of each client, each after a space.
abbrev pub cash_text : List ℕ → List ℕ
cash_text [] = []
cash_text (cash ∷ rest) = codes " " ++ decimal cash ++ cash_text rest

-- A world's hash, its number of actors and the cash of its clients.
unfoldable pub world_text : {W : Type 0} → (W → ℕ) → (W → Summary) → W → List ℕ
world_text hash summary world =
    codes " hash " ++ hash_digits (hash world) ++ codes " actors " ++ decimal (summary world).actors
    ++ codes " cash" ++ cash_text (summary world).cash ++ codes "\n"

-- Whether a client is in the match still.
abbrev pub state_text : Bool → List ℕ
state_text true = codes " left\n"
state_text false = codes " playing\n"

-- The line of a client's column: its number of plays, and whether the client left.
unfoldable pub column_line : ℕ → ℕ → Bool → List ℕ
column_line client length left =
    codes "column " ++ decimal client ++ codes " " ++ decimal length ++ state_text left

-- The beginning of a peer's line: its counts of ticked and sealed frames.
unfoldable pub peer_head : ℕ → ℕ → ℕ → List ℕ
peer_head peer ticked sealed =
    codes "peer " ++ decimal peer ++ codes " frames " ++ decimal ticked ++ codes " sealed "
    ++ decimal sealed

-- The beginning of the server's line: its count of ticked frames.
unfoldable pub server_head : ℕ → List ℕ
server_head ticked = codes "server frames " ++ decimal ticked

-- The line of a client's alarm: the frame, the hash that the client reported and the one that was
-- wanted.
unfoldable pub alarm_line : ℕ → Alarm → List ℕ
alarm_line client alarm =
    codes "alarm " ++ decimal client ++ codes " frame " ++ decimal alarm.frame
    ++ codes " got " ++ hash_digits alarm.got ++ codes " want " ++ hash_digits alarm.want ++ codes "\n"

-- The last line of a report.
unfoldable pub end_line : List ℕ
end_line = codes "end\n"
