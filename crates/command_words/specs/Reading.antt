-- The request that the arguments of a command line name.
use Rattle.std.specs.Prelude.{◌≡◌, ◌⊎◌, ℕ, ◌+◌, ◌-◌, ◌&&◌, ◌==◌, Bool, true, not, nat_le}
use Rattle.std.specs.Prelude.{if◌then◌else◌, List, [], ◌∷◌, length, Option, None, Some, codes}
use Rattle.std.specs.Prelude.{false, option_map, option_and_then, unwrap_or}
use Rattle.std.specs.Option.{IsSomeAnd, option_map_or}
use Rattle.std.specs.Str.{bytes_eq}
use Rattle.std.specs.Str.Parse.{digits_value, without_leading_plus}
use Rattle.clap.specs.Walk.{Row, Text, all_of, first_of, one_of, is_empty}
use Rattle.clap.specs.Simple.{subcommand_of}
use Rattle.clap.specs.ValueTests.{is_unsigned_in}
use Rattle.clap.specs.Faults.{fault_of}
use Rattle.game_orders.specs.declared.limits.TheConstants.{MAX_CLIENTS, MAX_FRAMES, MAX_LAG}
use Rattle.command_words.specs.declared.TheConstants.{MAX_BOTS, MAX_FILES}
use Rattle.command_words.specs.declared.host.HostOptions.{HostOptions}
use Rattle.command_words.specs.declared.host.TheConstants.{MAX_SECONDS}
use Rattle.command_words.specs.declared.port_range.PortRange.{PortRange}
use Rattle.command_words.specs.declared.port_range.TheConstants.{MAX_PORT}
use Rattle.command_words.specs.declared.serve_query.TheConstants.{DEFAULT_LAG, DEFAULT_SEED}
use Rattle.command_words.specs.declared.world_range.TheConstants.{DEFAULT_EVERY, DEFAULT_FROM}
use Rattle.base.specs.Numbers.{number_of as digits_of}
use Rattle.rule_values.specs.Cells.{cell_of}
use Rattle.rule_values.specs.Parts.{parts_at}
use Rattle.world_units.specs.declared.cell.CPos.{CPos}
use Rattle.command_words.specs.RequestPlain.{RequestPlain, Drill, Yaml, Check, Route, Make}
use Rattle.command_words.specs.RequestPlain.{Local, Serve, Play, Replay, Migrate}
use Rattle.command_words.specs.RequestPlain.{Save, Continue, View, Worlds, Compare}
use Rattle.command_words.specs.RequestPlain.{Datagrams, PlayBot}
use Rattle.command_words.specs.RequestPlain.{MatchPlain, RoutePlain, ServePlain, RangePlain}
use Rattle.command_words.specs.Commands.{lockstep_app}
use Rattle.command_words.specs.Player.{PlayerPlain, Script, Bot}

-- `clap` accepts the arguments as a command line of `lockstep`.
unfoldable pub is_accepted : List Text → Bool
is_accepted words = is_empty (fault_of lockstep_app words)

-- So many positional arguments are allowed, where a command takes at least so many.
abbrev pub is_allowed : (least count : ℕ) → Bool
is_allowed least count = nat_le least count && nat_le count MAX_FILES

abbrev pub allowed : ℕ → List Text → Option (List Text)
allowed least names = if is_allowed least (length names) then Some names else None

-- The positional arguments; there are none where no use of them was found.
abbrev pub all_names : List Row → List Text
all_names found = unwrap_or (all_of (codes "names") found) []

-- The positional arguments, where their number is allowed.
unfoldable pub names_in : ℕ → List Row → Option (List Text)
names_in least found = allowed least (all_names found)

-- The number that a text writes, as Rust reads a `u32`: a plus may stand before its digits.
abbrev pub number_of : Text → Option ℕ
number_of text =
    if is_unsigned_in 0 4294967295 text
    then Some (digits_value 10 (without_leading_plus text)) else None

-- The number that an option writes, where it is given and writes one.
unfoldable pub number_in : Text → List Row → Option ℕ
number_in name found = option_and_then number_of (one_of name found)

-- A number from 1 to this one.
abbrev pub up_to : (most number : ℕ) → Option ℕ
up_to most number = if nat_le 1 number && nat_le number most then Some number else None

-- The number that an option writes, where it is given and writes one from 1 to `most`.
unfoldable pub count_in : (most : ℕ) → Text → List Row → Option ℕ
count_in most name found = option_and_then (up_to most) (number_in name found)

-- The same, where the option may be left out for a number.
unfoldable pub count_or : (default most : ℕ) → Text → List Row → Option ℕ
count_or default most name found = up_to most (unwrap_or (number_in name found) default)

-- A number from 1 on.
abbrev pub from_one : ℕ → Option ℕ
from_one number = if nat_le 1 number then Some number else None

-- The number that an option writes, where it writes one from 1 on; it may be left out for another
-- one.
unfoldable pub step_or : (default : ℕ) → Text → List Row → Option ℕ
step_or default name found = from_one (unwrap_or (number_in name found) default)

-- A number up to this one.
abbrev pub at_most : (most number : ℕ) → Option ℕ
at_most most number = if nat_le number most then Some number else None

-- The number of bots, up to `MAX_BOTS`; there are none where none are asked for.
unfoldable pub bots_in : List Row → Option ℕ
bots_in found = at_most MAX_BOTS (unwrap_or (number_in (codes "bots") found) 0)

abbrev pub to_cell : ℕ × ℕ → CPos
to_cell at = record { x = at.0; y = at.1 }

-- The cell that an option writes, where it is given and writes one.
unfoldable pub cell_in : Text → List Row → Option CPos
cell_in name found = option_map to_cell (option_and_then cell_of (first_of name found))

-- The match by what the file of this option holds.
unfoldable pub match_in : (option : Text) (found : List Row) → Option MatchPlain
match_in option found =
    option_and_then (λ file.
    option_map (λ rules. record {
      file = file;
      map_file = first_of (codes "map") found;
      rules = rules;
    })
    (names_in 0 found))
    (first_of option found)

-- The request to play a script on threads of this machine: which, and beside how many bots.
unfoldable pub local_in : List Row → Option RequestPlain
local_in found =
    option_and_then (λ bots.
    option_map (λ query. Local query bots) (match_in (codes "script") found))
    (bots_in found)

-- The request to migrate a replay: which, and what file the migrated one is written to.
unfoldable pub migrate_in : List Row → Option RequestPlain
migrate_in found =
    option_and_then (λ to. option_map (λ query. Migrate query to) (match_in (codes "file") found))
    (first_of (codes "to") found)

-- The request to write a save of a replay: after how many frames, and to what file.
unfoldable pub save_in : List Row → Option RequestPlain
save_in found =
    option_and_then (λ frames.
    option_and_then (λ to.
    option_map (λ query. Save query frames to) (match_in (codes "file") found))
    (first_of (codes "to") found))
    (number_in (codes "frames") found)

-- The request to run the later frames of a replay: which, and the save to start from.
unfoldable pub continue_in : List Row → Option RequestPlain
continue_in found =
    option_and_then (λ save.
    option_map (λ query. Continue query save) (match_in (codes "file") found))
    (first_of (codes "save") found)

-- The request to show what a client has seen of a replay.
unfoldable pub view_in : List Row → Option RequestPlain
view_in found =
    option_and_then (λ client.
    option_map (λ query. View query client) (match_in (codes "file") found))
    (number_in (codes "client") found)

-- The worlds that are asked for.
unfoldable pub range_in : List Row → Option RangePlain
range_in found =
    option_map (λ every. record {
      from = unwrap_or (number_in (codes "from") found) DEFAULT_FROM;
      to = number_in (codes "to") found;
      every = every;
    })
    (step_or DEFAULT_EVERY (codes "every") found)

-- The request to print worlds of a replay.
unfoldable pub worlds_in : List Row → Option RequestPlain
worlds_in found =
    option_and_then (λ range.
    option_map (λ query. Worlds query range) (match_in (codes "file") found))
    (range_in found)

-- The request to compare two saves or two replays: the first, and the second.
unfoldable pub compare_in : List Row → Option RequestPlain
compare_in found =
    option_and_then (λ second.
    option_map (λ query. Compare query second) (match_in (codes "file") found))
    (first_of (codes "with") found)

-- The option without a value is given.
unfoldable pub has_flag : Text → List Row → Bool
has_flag name found =
    option_map_or (λ value. bytes_eq value (codes "true")) (first_of name found) false

-- `--script` stands alone, or `--bot` and `--frames` stand without it.
abbrev pub player_of :
    (script : Option Text) → (bot : Bool) → (frames : Option ℕ) → Option PlayerPlain
player_of (Some file) false None = Some (Script file)
player_of None true (Some frames) = Some (Bot frames)
player_of script bot frames = None

unfoldable pub player_in : List Row → Option PlayerPlain
player_in found =
    player_of (first_of (codes "script") found) (has_flag (codes "bot") found)
    (number_in (codes "frames") found)

-- The request of a player at a server: with a log or without one, over which map and rules.
abbrev pub played_by :
    (at : Text) → (is_quiet : Bool) → (map_file : Option Text) → (rules : List Text) →
    PlayerPlain → Option RequestPlain
played_by at is_quiet map_file rules (Script file) =
    Some (Play (record { file = file; map_file = map_file; rules = rules }) at is_quiet)
played_by at is_quiet map_file rules (Bot frames) =
    option_map (λ frames. PlayBot (record {
      at = at;
      frames = frames;
      is_quiet = is_quiet;
      map_file = map_file;
      rules = rules;
    }))
    (at_most MAX_FRAMES frames)

-- The request to play over a link: who plays, and where the server is.
unfoldable pub play_in : List Row → Option RequestPlain
play_in found =
    option_and_then (λ at.
    option_and_then (λ player.
    option_and_then (λ rules.
    played_by at (has_flag (codes "quiet") found) (first_of (codes "map") found) rules player)
    (names_in 0 found))
    (player_in found))
    (first_of (codes "at") found)

-- What the value of an option makes, which may be left out: then there is nothing, else it has to
-- make something.
abbrev pub optional : {S T : Type 0} → (S → Option T) → Option S → Option (Option T)
optional make None = Some None
optional make (Some value) = option_map (λ made. Some made) (make value)

-- The seconds that an option writes, 1 to MAX_SECONDS, if it is given.
unfoldable pub seconds_in : Text → List Row → Option (Option ℕ)
seconds_in name found = optional (up_to MAX_SECONDS) (number_in name found)

-- The ports from one number to another, both from 1 to MAX_PORT: as many as there are clients, or
-- more.
abbrev pub range_of : (clients first last : ℕ) → Option PortRange
range_of clients first last =
    if nat_le 1 first && (nat_le first last && (nat_le last MAX_PORT
    && nat_le clients (last - first + 1)))
    then Some (record { first = first; last = last }) else None

-- The same of two numbers in digits, with a minus (45) between them.
unfoldable pub ports_of : (clients : ℕ) → Text → Option PortRange
ports_of clients text =
    option_and_then (λ parts.
    option_and_then (λ first.
    option_and_then (λ last. range_of clients first last)
    (digits_of parts.1))
    (digits_of parts.0))
    (parts_at 45 text)

-- The ports of so many clients, if they are given.
unfoldable pub ports_in : (clients : ℕ) → List Row → Option (Option PortRange)
ports_in clients found = optional (ports_of clients) (first_of (codes "udp-ports") found)

-- What is said of the log, the clocks and the ports of a match of so many clients.
unfoldable pub host_in : (clients : ℕ) → List Row → Option HostOptions
host_in clients found =
    option_and_then (λ patience.
    option_and_then (λ lobby.
    option_map (λ ports. record {
      is_quiet = has_flag (codes "quiet") found;
      patience = patience;
      lobby = lobby;
      udp_ports = ports;
    })
    (ports_in clients found))
    (seconds_in (codes "lobby") found))
    (seconds_in (codes "patience") found)

-- The match that is to be served.
unfoldable pub serve_in : List Row → Option ServePlain
serve_in found =
    option_and_then (λ at.
    option_and_then (λ clients.
    option_and_then (λ lag.
    option_and_then (λ host.
    option_map (λ rules. record {
      at = at;
      clients = clients;
      lag = lag;
      seed = unwrap_or (number_in (codes "seed") found) DEFAULT_SEED;
      host = host;
      record_file = first_of (codes "record") found;
      map_file = first_of (codes "map") found;
      rules = rules;
    })
    (names_in 0 found))
    (host_in clients found))
    (count_or DEFAULT_LAG MAX_LAG (codes "lag") found))
    (count_in MAX_CLIENTS (codes "clients") found))
    (first_of (codes "at") found)

-- The route that is asked for.
unfoldable pub route_in : List Row → Option RoutePlain
route_in found =
    option_and_then (λ map_file.
    option_and_then (λ kind.
    option_and_then (λ from.
    option_and_then (λ to.
    option_map (λ rules. record {
      map_file = map_file;
      kind = kind;
      from = from;
      to = to;
      rules = rules;
    })
    (names_in 1 found))
    (cell_in (codes "to") found))
    (cell_in (codes "from") found))
    (first_of (codes "kind") found))
    (first_of (codes "map") found)

-- The request of a command, with what was found after it.
unfoldable pub command_request : Text → List Row → Option RequestPlain
command_request command found =
    if bytes_eq command (codes "drill")
    then option_map (λ query. Drill query (first_of (codes "record") found))
    (match_in (codes "script") found)
    else if bytes_eq command (codes "yaml") then option_map Yaml (names_in 1 found)
    else if bytes_eq command (codes "check")
    then option_map (Check (first_of (codes "map") found)) (names_in 1 found)
    else if bytes_eq command (codes "route") then option_map Route (route_in found)
    else if bytes_eq command (codes "make")
    then option_map Make (number_in (codes "number") found)
    else if bytes_eq command (codes "local") then local_in found
    else if bytes_eq command (codes "serve") then option_map Serve (serve_in found)
    else if bytes_eq command (codes "play") then play_in found
    else if bytes_eq command (codes "replay")
    then option_map Replay (match_in (codes "file") found)
    else if bytes_eq command (codes "migrate") then migrate_in found
    else if bytes_eq command (codes "save") then save_in found
    else if bytes_eq command (codes "continue") then continue_in found
    else if bytes_eq command (codes "view") then view_in found
    else if bytes_eq command (codes "worlds") then worlds_in found
    else if bytes_eq command (codes "compare") then compare_in found
    else if bytes_eq command (codes "datagrams")
    then option_map Datagrams (first_of (codes "script") found)
    else None

-- The request of the command that the arguments name, if they name one.
abbrev pub found_request : Option (Text × List Row) → Option RequestPlain
found_request = option_and_then (λ command. command_request command.0 command.1)

-- The request that the arguments name; the first of them is the program's name. They name none
-- where `clap`'s definition of the command line does not accept them, where the number of
-- positional arguments is not allowed, where a cell of `route` is none, where `play` has no player,
-- or two, and where the ports of `serve` are none, or fewer than its clients.
unfoldable pub request_of : List Text → Option RequestPlain
request_of words =
    if is_accepted words then found_request (subcommand_of lockstep_app words) else None

-- How many positional arguments a command takes at least, if it takes some.
abbrev pub least_names : Text → Option ℕ
least_names command =
    if bytes_eq command (codes "drill") then Some 0
    else if bytes_eq command (codes "yaml") then Some 1
    else if bytes_eq command (codes "check") then Some 1
    else if bytes_eq command (codes "route") then Some 1
    else if bytes_eq command (codes "local") then Some 0
    else if bytes_eq command (codes "serve") then Some 0
    else if bytes_eq command (codes "play") then Some 0
    else if bytes_eq command (codes "replay") then Some 0
    else if bytes_eq command (codes "migrate") then Some 0
    else if bytes_eq command (codes "save") then Some 0
    else if bytes_eq command (codes "continue") then Some 0
    else if bytes_eq command (codes "view") then Some 0
    else if bytes_eq command (codes "worlds") then Some 0
    else if bytes_eq command (codes "compare") then Some 0
    else None

-- The command takes positional arguments, and their number is not allowed.
abbrev pub NamesRefused : Option (Text × List Row) → Type 0
NamesRefused None = ⊥
NamesRefused (Some command) =
    IsSomeAnd (least_names command.0) (λ least. names_in least command.1 ≡ None)

-- The command is `route`, and `--from` or `--to` writes no cell.
abbrev pub CellRefused : Option (Text × List Row) → Type 0
CellRefused None = ⊥
CellRefused (Some command) =
    (command.0 ≡ codes "route")
    × ((cell_in (codes "from") command.1 ≡ None) ⊎ (cell_in (codes "to") command.1 ≡ None))

-- The command is `play`, and neither does `--script` stand alone, nor `--bot` and `--frames`
-- without it.
abbrev pub PlayerRefused : Option (Text × List Row) → Type 0
PlayerRefused None = ⊥
PlayerRefused (Some command) = (command.0 ≡ codes "play") × (player_in command.1 ≡ None)

-- The command is `serve`, and `--udp-ports` writes no ports, or fewer than there are clients.
abbrev pub PortsRefused : Option (Text × List Row) → Type 0
PortsRefused None = ⊥
PortsRefused (Some command) =
    (command.0 ≡ codes "serve")
    × IsSomeAnd (count_in MAX_CLIENTS (codes "clients") command.1)
    (λ clients. ports_in clients command.1 ≡ None)

-- An argument that is a value as it stands: it does not begin with `-` (45), or it is `-` alone.
abbrev pub is_plain : Text → Bool
is_plain [] = true
is_plain (first ∷ []) = true
is_plain (first ∷ second ∷ rest) = not (first == 45)
