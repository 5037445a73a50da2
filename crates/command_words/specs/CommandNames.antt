-- The argument that names a command.
use Rattle.std.specs.Prelude.{List, ℕ, codes}
use Rattle.command_words.specs.RequestPlain.{RequestPlain, Drill, Yaml, Check, Route, Make}
use Rattle.command_words.specs.RequestPlain.{Local, Serve, Play, Replay, Migrate}
use Rattle.command_words.specs.RequestPlain.{Save, Continue, View, Worlds, Compare}
use Rattle.command_words.specs.RequestPlain.{Datagrams, PlayBot}

-- The command of a request.
abbrev pub command_of : RequestPlain → List ℕ
command_of (Drill query recorded) = codes "drill"
command_of (Yaml files) = codes "yaml"
command_of (Check map_file rules) = codes "check"
command_of (Route query) = codes "route"
command_of (Make number) = codes "make"
command_of (Local query bots) = codes "local"
command_of (Serve query) = codes "serve"
command_of (Play query at is_quiet) = codes "play"
command_of (PlayBot query) = codes "play"
command_of (Replay query) = codes "replay"
command_of (Migrate query to) = codes "migrate"
command_of (Save query frames to) = codes "save"
command_of (Continue query save) = codes "continue"
command_of (View query client) = codes "view"
command_of (Worlds query range) = codes "worlds"
command_of (Compare query second) = codes "compare"
command_of (Datagrams script) = codes "datagrams"
