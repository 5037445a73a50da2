-- The command line as it is given to the library `clap`: one definition a command, and the one
-- level above them. `clap`'s own definitions decide what is accepted, and what the arguments then
-- name.
use Rattle.std.specs.Prelude.{ℕ, Some, pos, true, codes}
use Rattle.clap.specs.Walk.{Rule, Text}
use Rattle.clap.specs.Simple.{App, new_app, new_rule, on_top, with_rule, with_subcommand}
use Rattle.clap.specs.declared.builder.action.ArgAction.TheVariants.{Append, SetTrue}
use Rattle.clap.specs.declared.builder.value_parser.ValueParser.TheVariants.{Signed}
use Rattle.game_orders.specs.declared.limits.TheConstants.{MAX_CLIENTS, MAX_FRAMES, MAX_LAG}
use Rattle.command_words.specs.declared.TheConstants.{MAX_BOTS}
use Rattle.command_words.specs.declared.host.TheConstants.{MAX_SECONDS}

-- `--NAME VALUE`, which may be left out.
abbrev pub option_named : Text → Rule
option_named name = record (new_rule name) { long = Some name }

-- `--NAME` alone, which may be left out.
abbrev pub flag_named : Text → Rule
flag_named name = record (option_named name) { action = Some SetTrue }

-- `--NAME VALUE`, which is required.
abbrev pub required_option : Text → Rule
required_option name = record (option_named name) { required = true }

-- The value is a number that `clap`'s parser of `u32` takes, within these bounds.
abbrev pub within : (least most : ℕ) → Rule → Rule
within least most rule = record rule { parser = Some (Signed (pos least) (pos most)) }

-- `--NAME N`, which may be left out, and the same where it is required.
abbrev pub number_option : Text → (least most : ℕ) → Rule
number_option name least most = within least most (option_named name)

abbrev pub required_number : Text → (least most : ℕ) → Rule
required_number name least most = within least most (required_option name)

-- The positional arguments: names of files, any number of them.
abbrev pub file_names : Rule
file_names = record (new_rule (codes "names")) { action = Some Append }

-- `COMMAND --OPTION FILE --map FILE`, so far: a match is played over a file, and a map, if one is
-- named.
unfoldable pub played_app : (command option : Text) → App
played_app command option =
    with_rule
    (with_rule (new_app command) (required_option option))
    (option_named (codes "map"))

-- `drill --script FILE --map FILE --record FILE RULES`, where the map and the record may be left
-- out.
unfoldable pub drill_app : App
drill_app =
    with_rule
    (with_rule (played_app (codes "drill") (codes "script")) (option_named (codes "record")))
    file_names

-- `yaml FILES`.
unfoldable pub yaml_app : App
yaml_app = with_rule (new_app (codes "yaml")) file_names

-- `check --map FILE RULES`, where the map may be left out.
unfoldable pub check_app : App
check_app =
    with_rule (with_rule (new_app (codes "check")) (option_named (codes "map"))) file_names

-- `route --map FILE --kind NAME`, so far.
unfoldable pub routed_app : App
routed_app =
    with_rule
    (with_rule (new_app (codes "route")) (required_option (codes "map")))
    (required_option (codes "kind"))

-- The same with `--from X,Y --to X,Y`.
unfoldable pub ends_app : App
ends_app =
    with_rule
    (with_rule routed_app (required_option (codes "from")))
    (required_option (codes "to"))

-- `route --map FILE --kind NAME --from X,Y --to X,Y RULES`.
unfoldable pub route_app : App
route_app = with_rule ends_app file_names

-- `make --number N`.
unfoldable pub make_app : App
make_app = with_rule (new_app (codes "make")) (required_number (codes "number") 0 4294967295)

-- `local --script FILE --map FILE --bots N RULES`, where the map and the bots may be left out.
unfoldable pub local_app : App
local_app =
    with_rule
    (with_rule
    (played_app (codes "local") (codes "script"))
    (number_option (codes "bots") 0 MAX_BOTS))
    file_names

-- `serve --at ADDRESS --clients N`, so far.
unfoldable pub hosted_app : App
hosted_app =
    with_rule
    (with_rule (new_app (codes "serve")) (required_option (codes "at")))
    (required_number (codes "clients") 1 MAX_CLIENTS)

-- The same with `--lag N --seed N`, which may be left out.
unfoldable pub timed_app : App
timed_app =
    with_rule
    (with_rule hosted_app (number_option (codes "lag") 1 MAX_LAG))
    (number_option (codes "seed") 0 4294967295)

-- The same with `--patience SECONDS --lobby SECONDS`, which may be left out.
unfoldable pub clocked_app : App
clocked_app =
    with_rule
    (with_rule timed_app (number_option (codes "patience") 1 MAX_SECONDS))
    (number_option (codes "lobby") 1 MAX_SECONDS)

-- The same with `--quiet --udp-ports A-B`, which may be left out. That A and B are ports, with room
-- for the clients, is tested beside `clap`.
unfoldable pub bound_app : App
bound_app =
    with_rule
    (with_rule clocked_app (flag_named (codes "quiet")))
    (option_named (codes "udp-ports"))

-- The same with `--record FILE --map FILE`, which may be left out.
unfoldable pub recorded_app : App
recorded_app =
    with_rule
    (with_rule bound_app (option_named (codes "record")))
    (option_named (codes "map"))

-- `serve` with all its options, and RULES.
unfoldable pub serve_app : App
serve_app = with_rule recorded_app file_names

-- `play --at ADDRESS --script FILE`, so far.
unfoldable pub dialed_app : App
dialed_app =
    with_rule
    (with_rule (new_app (codes "play")) (required_option (codes "at")))
    (option_named (codes "script"))

-- The same with `--bot --frames N`.
unfoldable pub manned_app : App
manned_app =
    with_rule
    (with_rule dialed_app (flag_named (codes "bot")))
    (number_option (codes "frames") 0 MAX_FRAMES)

-- The same with `--quiet --map FILE`.
unfoldable pub quiet_app : App
quiet_app =
    with_rule (with_rule manned_app (flag_named (codes "quiet"))) (option_named (codes "map"))

-- `play --at ADDRESS --script FILE --bot --frames N --quiet --map FILE RULES`, where all but the
-- address may be left out. That `--script` stands alone, or `--bot` and `--frames` without it, is
-- tested beside `clap`.
unfoldable pub play_app : App
play_app = with_rule quiet_app file_names

-- `replay --file FILE --map FILE RULES`, where the map may be left out.
unfoldable pub replay_app : App
replay_app = with_rule (played_app (codes "replay") (codes "file")) file_names

-- `migrate --file FILE --map FILE --to FILE RULES`, where the map may be left out.
unfoldable pub migrate_app : App
migrate_app =
    with_rule
    (with_rule (played_app (codes "migrate") (codes "file")) (required_option (codes "to")))
    file_names

-- `save --file FILE --map FILE --frames N`, so far.
unfoldable pub framed_app : App
framed_app =
    with_rule
    (played_app (codes "save") (codes "file"))
    (required_number (codes "frames") 0 4294967295)

-- `save --file FILE --map FILE --frames N --to FILE RULES`, where the map may be left out.
unfoldable pub save_app : App
save_app = with_rule (with_rule framed_app (required_option (codes "to"))) file_names

-- `continue --file FILE --map FILE --save FILE RULES`, where the map may be left out.
unfoldable pub continue_app : App
continue_app =
    with_rule
    (with_rule (played_app (codes "continue") (codes "file")) (required_option (codes "save")))
    file_names

-- `view --file FILE --map FILE --client N RULES`, where the map may be left out.
unfoldable pub view_app : App
view_app =
    with_rule
    (with_rule
    (played_app (codes "view") (codes "file"))
    (required_number (codes "client") 0 4294967295))
    file_names

-- `worlds --file FILE --map FILE --from N --to N`, so far.
unfoldable pub ranged_app : App
ranged_app =
    with_rule
    (with_rule
    (played_app (codes "worlds") (codes "file"))
    (number_option (codes "from") 0 4294967295))
    (number_option (codes "to") 0 4294967295)

-- `worlds --file FILE --map FILE --from N --to N --every N RULES`, where all but the file may be
-- left out.
unfoldable pub worlds_app : App
worlds_app =
    with_rule (with_rule ranged_app (number_option (codes "every") 1 4294967295)) file_names

-- `compare --file FILE --map FILE --with FILE RULES`, where the map may be left out.
unfoldable pub compare_app : App
compare_app =
    with_rule
    (with_rule (played_app (codes "compare") (codes "file")) (required_option (codes "with")))
    file_names

-- `datagrams --script FILE`.
unfoldable pub datagrams_app : App
datagrams_app = with_rule (new_app (codes "datagrams")) (required_option (codes "script"))

-- A command that one of its subcommands must follow. It has no subcommand and no option for help or
-- the version.
unfoldable pub bare_app : App
bare_app = on_top (λ shape. record shape {
  disable_help_flag = true;
  disable_help_subcommand = true;
  disable_version_flag = true;
  subcommand_required = true;
}) (new_app (codes "lockstep"))

-- The command line with its first commands.
unfoldable pub first_app : App
first_app =
    with_subcommand (with_subcommand bare_app drill_app.top) yaml_app.top

-- The same with those that ask about rules and maps.
unfoldable pub asking_app : App
asking_app = with_subcommand (with_subcommand first_app check_app.top) route_app.top

-- The same with those that play made matches and scripts.
unfoldable pub playing_app : App
playing_app = with_subcommand (with_subcommand asking_app make_app.top) local_app.top

-- The same with those over links.
unfoldable pub linked_app : App
linked_app = with_subcommand (with_subcommand playing_app serve_app.top) play_app.top

-- The same with those that run a replay.
unfoldable pub replaying_app : App
replaying_app = with_subcommand (with_subcommand linked_app replay_app.top) migrate_app.top

-- The same with those that write a save and go on from it.
unfoldable pub saving_app : App
saving_app = with_subcommand (with_subcommand replaying_app save_app.top) continue_app.top

-- The same with those that show worlds of a replay.
unfoldable pub showing_app : App
showing_app = with_subcommand (with_subcommand saving_app view_app.top) worlds_app.top

-- The whole command line, with the one that compares two files and the one that runs links over
-- datagrams.
unfoldable pub lockstep_app : App
lockstep_app = with_subcommand (with_subcommand showing_app compare_app.top) datagrams_app.top
