-- What the calls of a server answer, of what the objects hold.
use Rattle.std.specs.Prelude.{ℕ, nat_lt, if◌then◌else◌, List, length, Option, None, Some}
use Rattle.std.specs.Prelude.{Result, Ok, Err}
use Rattle.game_orders.specs.declared.entry.Entry as entries
use Rattle.frame_core.specs.declared.leaving.Leaving.{Leaving}
use Rattle.frame_core.specs.declared.leaving.Leaving.TheVariants.{Already, Fixed as FixedAt}
use Rattle.frame_core.specs.declared.put.Put.{Put}
use Rattle.frame_core.specs.declared.put.Put.TheVariants.{Fixed, Repeat, Conflict, Left, Ahead}
use Rattle.frame_core.specs.declared.put.Put.TheVariants.{Full}
use Rattle.frame_core.specs.Column.{column_of, entry_at, leave_answer}
use Rattle.frame_core.specs.Ready.{ready_at}
use Rattle.frame_core.specs.Tick.{tick_answer}
use Rattle.order_packets.specs.declared.down.Down.TheVariants as down
use Rattle.order_packets.specs.declared.up.Up.{Up}
use Rattle.order_packets.specs.PacketBytes.{down_bytes}
use Rattle.server_core.specs.declared.alarm.Alarm.{Alarm}
use Rattle.server_core.specs.declared.reported.Reported.{Reported}
use Rattle.server_core.specs.declared.reported.Reported.TheVariants as reported
use Rattle.server_core.specs.declared.up_answer.UpAnswer.{UpAnswer}
use Rattle.server_core.specs.declared.up_answer.UpAnswer.TheVariants as answered
use Rattle.server_core.specs.Alarm.{alarm_of}
use Rattle.server_core.specs.Board.{reports_of}
use Rattle.server_core.specs.Server.{ServerState, fresh_server, packet_answer}
use Rattle.server_core.specs.Server.{after_packet, after_drop, after_tick}
use Rattle.setup_files.specs.declared.making.Made.{Made}
use Rattle.tick_core.specs.Game.{GameState, game_start, game_after, game_hash}
use Rattle.c_objects.specs.declared.code.TheConstants as code
use Rattle.c_objects.specs.declared.kept.Kept.{Kept}
use Rattle.c_objects.specs.declared.kept.Kept.TheVariants as kept
use Rattle.c_worlds.specs.Held.{made_in}
use Rattle.c_worlds.specs.Worlds.{are_clients}
use Rattle.c_matches.specs.declared.answer.Answer.{Answer}
use Rattle.c_matches.specs.declared.server_frames.CAlarm.{CAlarm}
use Rattle.c_matches.specs.Answers.{only, telling, answer_by}
use Rattle.c_matches.specs.Held.{server_in, with_server}
use Rattle.c_matches.specs.Packets.{up_in}
use Rattle.c_matches.specs.Ticks.{ticked_answer}

-- A server of the game.
abbrev pub GameServer : Type 0
GameServer = ServerState GameState

-- ---- making one

abbrev pub code_with : Option Made → (clients : ℕ) → ℕ
code_with None clients = code.WRONG_OBJECT
code_with (Some made) clients = if are_clients clients then code.OK else code.BAD_ARGUMENT

abbrev pub create_code : (object setup : Option Kept) → (clients : ℕ) → ℕ
create_code None setup clients = code_with (made_in setup) clients
create_code (Some held) setup clients = code.WRONG_OBJECT

-- The server before its first call, over the opening world.
abbrev pub fresh_of : Made → (clients seed : ℕ) → GameServer
fresh_of made clients seed = fresh_server clients (game_start made.maker seed clients)

abbrev pub opening_server : Made → (clients seed : ℕ) → Kept
opening_server made clients seed = kept.Server (fresh_of made clients seed)

abbrev pub made_with : Option Made → (clients seed : ℕ) → Option Kept
made_with None clients seed = None
made_with (Some made) clients seed =
    if are_clients clients then Some (opening_server made clients seed) else None

abbrev pub created : (object setup : Option Kept) → (clients seed : ℕ) → Option Kept
created None setup clients seed = made_with (made_in setup) clients seed
created (Some held) setup clients seed = Some held

-- ---- taking a packet of a client

abbrev pub put_answer_of : Put → Answer
put_answer_of Fixed = only code.OK
put_answer_of Repeat = only code.REPEAT
put_answer_of (Conflict entry) = only code.CONFLICT
put_answer_of (Left frame) = telling code.LEFT frame
put_answer_of (Ahead plays) = telling code.AHEAD plays
put_answer_of Full = only code.FULL

abbrev pub report_answer_of : Reported → Answer
report_answer_of reported.Kept = only code.OK
report_answer_of reported.Repeat = only code.REPEAT
report_answer_of reported.Beyond = only code.NO_FRAME

abbrev pub leaving_answer : Leaving → Answer
leaving_answer (FixedAt frame) = telling code.OK frame
leaving_answer (Already frame) = telling code.LEFT frame

abbrev pub taken_answer : UpAnswer → Answer
taken_answer (answered.Entry put) = put_answer_of put
taken_answer (answered.Report report) = report_answer_of report
taken_answer (answered.Bye leaving) = leaving_answer leaving
taken_answer answered.Ignored = only code.IGNORED

abbrev pub packet_told : (client : ℕ) → Option Up → GameServer → Answer
packet_told client None server = only code.BAD_BYTES
packet_told client (Some packet) server =
    taken_answer (packet_answer server.columns server.reports client packet)

abbrev pub packet_taken : (client : ℕ) → Option Up → GameServer → GameServer
packet_taken client None server = server
packet_taken client (Some packet) server = after_packet server client packet

abbrev pub up_answer : (client : ℕ) → Option Up → GameServer → Answer
up_answer client packet server =
    if nat_lt client (length server.columns) then packet_told client packet server
    else only code.BAD_ARGUMENT

abbrev pub up_after : (client : ℕ) → Option Up → GameServer → GameServer
up_after client packet server =
    if nat_lt client (length server.columns) then packet_taken client packet server else server

abbrev pub received_answer : (client : ℕ) → (bytes : List ℕ) → Option Kept → Answer
received_answer client bytes object =
    answer_by (server_in object) (up_answer client (up_in bytes))

abbrev pub received : (client : ℕ) → (bytes : List ℕ) → Option Kept → Option Kept
received client bytes object = with_server object (up_after client (up_in bytes))

-- ---- letting a client leave

abbrev pub drop_answer : (client : ℕ) → GameServer → Answer
drop_answer client server =
    if nat_lt client (length server.columns)
    then leaving_answer (leave_answer (column_of server.columns client))
    else only code.BAD_ARGUMENT

abbrev pub drop_after : (client : ℕ) → GameServer → GameServer
drop_after client server =
    if nat_lt client (length server.columns) then after_drop server client else server

abbrev pub dropped_answer : (client : ℕ) → Option Kept → Answer
dropped_answer client object = answer_by (server_in object) (drop_answer client)

abbrev pub dropped : (client : ℕ) → Option Kept → Option Kept
dropped client object = with_server object (drop_after client)

-- ---- the entry of a client at a frame

abbrev pub entry_bytes : (client frame : ℕ) → Option entries.Entry → Result (List ℕ) ℕ
entry_bytes client frame None = Err code.NONE
entry_bytes client frame (Some entry) = Ok (down_bytes (down.Entry client frame entry))

abbrev pub entry_told : (client frame : ℕ) → GameServer → Result (List ℕ) ℕ
entry_told client frame server =
    if nat_lt client (length server.columns)
    then entry_bytes client frame (entry_at (column_of server.columns client) frame)
    else Err code.BAD_ARGUMENT

-- ---- ticking it

abbrev pub server_tick_answer : GameServer → Answer
server_tick_answer server =
    ticked_answer (tick_answer (ready_at server.columns server.ticked) server.ticked)

abbrev pub tick_answer_of : Option Kept → Answer
tick_answer_of object = answer_by (server_in object) server_tick_answer

abbrev pub ticked : Option Kept → Option Kept
ticked object = with_server object (after_tick game_after game_hash)

-- ---- the alarm of a client

abbrev pub c_alarm_of : Option Alarm → Result CAlarm ℕ
c_alarm_of None = Err code.NONE
c_alarm_of (Some alarm) =
    Ok (record { frame = alarm.frame; got = alarm.got; want = alarm.want })

abbrev pub alarm_told : (client : ℕ) → GameServer → Result CAlarm ℕ
alarm_told client server =
    if nat_lt client (length server.columns)
    then c_alarm_of (alarm_of (reports_of server.reports client) server.marks)
    else Err code.BAD_ARGUMENT
