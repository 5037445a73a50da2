-- A request as plain data: names are lists of bytes.
use Rattle.std.specs.Prelude.{◌≡◌, ℕ, ◌≤◌, Bool, List, [], length, Option, None, Some, option_map}
use Rattle.std.specs.Prelude.{IfSome}
use Rattle.std.specs.Borrow.{Bor}
use Rattle.world_units.specs.declared.cell.CPos.{CPos}
use Rattle.game_orders.specs.declared.limits.TheConstants.{MAX_CLIENTS, MAX_FRAMES}
use Rattle.command_words.specs.declared.TheConstants.{MAX_BOTS, MAX_FILES}
use Rattle.command_words.specs.declared.bot_query.BotQuery.{BotQuery}
use Rattle.command_words.specs.declared.host.HostOptions.{HostOptions}
use Rattle.command_words.specs.declared.host.TheConstants.{MAX_SECONDS}
use Rattle.command_words.specs.declared.match_query.MatchQuery.{MatchQuery}
use Rattle.command_words.specs.declared.port_range.PortRange.{PortRange}
use Rattle.command_words.specs.declared.route_query.RouteQuery.{RouteQuery}
use Rattle.command_words.specs.declared.serve_query.ServeQuery.{ServeQuery}
use Rattle.command_words.specs.declared.world_range.WorldRange.{WorldRange}
use Rattle.command_words.specs.declared.request.Request.{Request}
use Rattle.command_words.specs.declared.request.Request.TheVariants as request

-- A match by what a file holds: a drill, a script, a replay or a save.
pub record MatchPlain : Type 0 where
  pub file : List ℕ
  pub map_file : Option (List ℕ)
  pub rules : List (List ℕ)

-- A match without a map and rules.
abbrev pub match_alone : List ℕ → MatchPlain
match_alone file = record { file = file; map_file = None; rules = [] }

-- A route that is asked for.
pub record RoutePlain : Type 0 where
  pub map_file : List ℕ
  pub kind : List ℕ
  pub from : CPos
  pub to : CPos
  pub rules : List (List ℕ)

-- A match that is served: where, to how many clients, by which lag and seed, by which clocks and
-- ports, to which file its replay is written, if to one, and over which map and rules.
pub record ServePlain : Type 0 where
  pub at : List ℕ
  pub clients : ℕ
  pub lag : ℕ
  pub seed : ℕ
  pub host : HostOptions
  pub record_file : Option (List ℕ)
  pub map_file : Option (List ℕ)
  pub rules : List (List ℕ)

-- Which worlds of a replay are asked for: those after so many frames, from this one on, up to that
-- one or the end, one for each so many frames.
pub record RangePlain : Type 0 where
  pub from : ℕ
  pub to : Option ℕ
  pub every : ℕ

-- A match over a link that a bot plays: at which server, how many frames, with a log or without one,
-- over which map and rules.
pub record BotPlain : Type 0 where
  pub at : List ℕ
  pub frames : ℕ
  pub is_quiet : Bool
  pub map_file : Option (List ℕ)
  pub rules : List (List ℕ)

pub data RequestPlain : Type 0 where
  Drill : MatchPlain → («record» : Option (List ℕ)) → RequestPlain
  Yaml : (files : List (List ℕ)) → RequestPlain
  Check : (map_file : Option (List ℕ)) → (rules : List (List ℕ)) → RequestPlain
  Route : RoutePlain → RequestPlain
  Make : (number : ℕ) → RequestPlain
  Local : MatchPlain → (bots : ℕ) → RequestPlain
  Serve : ServePlain → RequestPlain
  Play : MatchPlain → (at : List ℕ) → (is_quiet : Bool) → RequestPlain
  PlayBot : BotPlain → RequestPlain
  Replay : MatchPlain → RequestPlain
  Migrate : MatchPlain → (to : List ℕ) → RequestPlain
  Save : MatchPlain → (frames : ℕ) → (to : List ℕ) → RequestPlain
  Continue : MatchPlain → (save : List ℕ) → RequestPlain
  View : MatchPlain → (client : ℕ) → RequestPlain
  Worlds : MatchPlain → RangePlain → RequestPlain
  Compare : MatchPlain → (second : List ℕ) → RequestPlain
  Datagrams : (script : List ℕ) → RequestPlain

abbrev pub plain_name : Option (Bor (List ℕ)) → Option (List ℕ)
plain_name = option_map (λ name. name.now)

abbrev pub plain_match : MatchQuery → MatchPlain
plain_match query =
    record {
      file = query.file.now;
      map_file = plain_name query.map_file;
      rules = query.rules;
    }

abbrev pub plain_route : RouteQuery → RoutePlain
plain_route query =
    record {
      map_file = query.map_file.now;
      kind = query.kind.now;
      from = query.from;
      to = query.to;
      rules = query.rules;
    }

abbrev pub plain_serve : ServeQuery → ServePlain
plain_serve query =
    record {
      at = query.at.now;
      clients = query.clients;
      lag = query.lag;
      seed = query.seed;
      host = query.host;
      record_file = plain_name query.record_file;
      map_file = plain_name query.map_file;
      rules = query.rules;
    }

abbrev pub plain_bot : BotQuery → BotPlain
plain_bot query =
    record {
      at = query.at.now;
      frames = query.frames;
      is_quiet = query.is_quiet;
      map_file = plain_name query.map_file;
      rules = query.rules;
    }

abbrev pub plain_range : WorldRange → RangePlain
plain_range range = record { from = range.from; to = range.to; every = range.every }

-- The plain form of a request.
abbrev pub plain_of : Request → RequestPlain
plain_of (request.Drill query recorded) = Drill (plain_match query) (plain_name recorded)
plain_of (request.Yaml files) = Yaml files
plain_of (request.Check map_file rules) = Check (plain_name map_file) rules
plain_of (request.Route query) = Route (plain_route query)
plain_of (request.Make number) = Make number
plain_of (request.Local query bots) = Local (plain_match query) bots
plain_of (request.Serve query) = Serve (plain_serve query)
plain_of (request.Play query at is_quiet) = Play (plain_match query) at.now is_quiet
plain_of (request.PlayBot query) = PlayBot (plain_bot query)
plain_of (request.Replay query) = Replay (plain_match query)
plain_of (request.Migrate query to) = Migrate (plain_match query) to.now
plain_of (request.Save query frames to) = Save (plain_match query) frames to.now
plain_of (request.Continue query save) = Continue (plain_match query) save.now
plain_of (request.View query client) = View (plain_match query) client
plain_of (request.Worlds query range) = Worlds (plain_match query) (plain_range range)
plain_of (request.Compare query second) = Compare (plain_match query) second.now
plain_of (request.Datagrams script) = Datagrams script.now

-- A match has at most `MAX_FILES` rule files.
abbrev pub HasFewFiles : MatchQuery → Type 0
HasFewFiles query = length query.rules ≤ MAX_FILES

-- A match that is served has as many clients as a match may have.
abbrev pub IsCount : ℕ → Type 0
IsCount clients = (1 ≤ clients) × (clients ≤ MAX_CLIENTS)

-- So many seconds a clock may have.
abbrev pub AreSeconds : ℕ → Type 0
AreSeconds seconds = (1 ≤ seconds) × (seconds ≤ MAX_SECONDS)

-- The ports are in order, and none of them is 0.
abbrev pub IsInOrder : PortRange → Type 0
IsInOrder ports = (1 ≤ ports.first) × (ports.first ≤ ports.last)

-- The numbers of the clocks and of the ports are within their bounds.
pub record FitsHost (host : HostOptions) : Type 0 where
  pub patience : IfSome host.patience AreSeconds
  pub lobby : IfSome host.lobby AreSeconds
  pub ports : IfSome host.udp_ports IsInOrder

-- The request has at most `MAX_FILES` positional arguments, and its numbers are within their
-- bounds.
abbrev pub IsWithinBounds : Request → Type 0
IsWithinBounds (request.Drill query recorded) = HasFewFiles query
IsWithinBounds (request.Yaml files) = length files ≤ MAX_FILES
IsWithinBounds (request.Check map_file rules) = length rules ≤ MAX_FILES
IsWithinBounds (request.Route query) = length query.rules ≤ MAX_FILES
IsWithinBounds (request.Make number) = Unit {0}
IsWithinBounds (request.Local query bots) = HasFewFiles query × (bots ≤ MAX_BOTS)
IsWithinBounds (request.Serve query) =
    (length query.rules ≤ MAX_FILES) × IsCount query.clients × FitsHost query.host
IsWithinBounds (request.Play query at is_quiet) = HasFewFiles query
IsWithinBounds (request.PlayBot query) =
    (length query.rules ≤ MAX_FILES) × (query.frames ≤ MAX_FRAMES)
IsWithinBounds (request.Replay query) = HasFewFiles query
IsWithinBounds (request.Migrate query to) = HasFewFiles query
IsWithinBounds (request.Save query frames to) = HasFewFiles query
IsWithinBounds (request.Continue query save) = HasFewFiles query
IsWithinBounds (request.View query client) = HasFewFiles query
IsWithinBounds (request.Worlds query range) = HasFewFiles query × (1 ≤ range.every)
IsWithinBounds (request.Compare query second) = HasFewFiles query
IsWithinBounds (request.Datagrams script) = Unit {0}

-- The request is the one that was read, and within its bounds.
abbrev pub IsRead : Option RequestPlain → Request → Type 0
IsRead read request = (read ≡ Some (plain_of request)) × IsWithinBounds request
