-- What the arguments say of the log, the clocks and the ports of a match over links.
use Rattle.std.specs.Prelude.{false, Option, None, Some}
use Rattle.command_words.specs.declared.host.HostOptions.{HostOptions}
use Rattle.command_words.specs.RequestPlain.{RequestPlain, Serve, Play, PlayBot}

-- None of the options is given.
abbrev pub no_options : HostOptions
no_options = record { is_quiet = false; patience = None; lobby = None; udp_ports = None }

-- What a request says of them: `serve` may say all, `play` only that nothing is logged.
abbrev pub options_of : RequestPlain → HostOptions
options_of (Serve query) = query.host
options_of (Play query at is_quiet) = record no_options { is_quiet = is_quiet }
options_of (PlayBot query) = record no_options { is_quiet = query.is_quiet }
options_of request = no_options

-- The same of the request that arguments name, if they name one.
abbrev pub options_in : Option RequestPlain → HostOptions
options_in None = no_options
options_in (Some request) = options_of request
