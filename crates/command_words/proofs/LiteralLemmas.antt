-- The definition of the command line at arguments that are literals but for the names in them.
use Rattle.std.proofs.Common.{◌≡◌, ◌==◌, Bool, true, false, [], ◌∷◌, ◌++◌, Some, None, codes, refl}
use Rattle.clap.specs.Walk.{Text}
use Rattle.clap.proofs.OnLiterals.{clap_on_literals}
use Rattle.clap.proofs.SimpleLemmas.{is_false}
use Rattle.command_words.specs.RequestPlain.{Drill, Replay, Migrate, Save, Continue, View, Worlds, Compare, Datagrams, PlayBot, Route, Make, Local, Serve, Play, match_alone}
use Rattle.base.specs.Numbers.{number_of}
use Rattle.rule_values.specs.Cells.{cell_of, coordinate_of}
use Rattle.rule_values.specs.Parts.{parts_at}
use Rattle.command_words.specs.HostOptions.{no_options}
use Rattle.command_words.specs.Reading.{request_of, is_plain}
use Rattle.command_words.proofs.OnCommands.{all_commands, request_on_literals}

pub script_after_equals : (program script : Text) → request_of (program ∷ codes "drill" ∷ (codes "--script=" ++ script) ∷ []) ≡ Some (Drill (match_alone script) None)
unfolding request_on_literals all_commands clap_on_literals
script_after_equals program script = refl

pub record_after_equals : (program script written : Text)
    → request_of (program ∷ codes "drill" ∷ (codes "--script=" ++ script) ∷ (codes "--record=" ++ written) ∷ []) ≡ Some (Drill (match_alone script) (Some written))
unfolding request_on_literals all_commands clap_on_literals
record_after_equals program script written = refl

pub replay_after_equals : (program file : Text) → request_of (program ∷ codes "replay" ∷ (codes "--file=" ++ file) ∷ []) ≡ Some (Replay (match_alone file))
unfolding request_on_literals all_commands clap_on_literals
replay_after_equals program file = refl

pub migrated_files_after_equals : (program file to : Text)
    → request_of (program ∷ codes "migrate" ∷ (codes "--file=" ++ file) ∷ (codes "--to=" ++ to) ∷ []) ≡ Some (Migrate (match_alone file) to)
unfolding request_on_literals all_commands clap_on_literals
migrated_files_after_equals program file to = refl

pub save_with_options : (program file to : Text)
    → request_of (program ∷ codes "save" ∷ (codes "--to=" ++ to) ∷ codes "--frames=4294967295" ∷ (codes "--file=" ++ file) ∷ []) ≡ Some (Save (match_alone file) 4294967295 to)
unfolding request_on_literals all_commands clap_on_literals
save_with_options program file to = refl

pub continue_after_equals : (program save file : Text)
    → request_of (program ∷ codes "continue" ∷ (codes "--save=" ++ save) ∷ (codes "--file=" ++ file) ∷ []) ≡ Some (Continue (match_alone file) save)
unfolding request_on_literals all_commands clap_on_literals
continue_after_equals program save file = refl

pub view_of_a_client : (program file : Text)
    → request_of (program ∷ codes "view" ∷ (codes "--file=" ++ file) ∷ codes "--client=4294967295" ∷ []) ≡ Some (View (match_alone file) 4294967295)
unfolding request_on_literals all_commands clap_on_literals
view_of_a_client program file = refl

pub worlds_without_options : (program file : Text)
    → request_of (program ∷ codes "worlds" ∷ (codes "--file=" ++ file) ∷ []) ≡ Some (Worlds (match_alone file) (record { from = 0; to = None; every = 1 }))
unfolding request_on_literals all_commands clap_on_literals
worlds_without_options program file = refl

pub worlds_with_options : (program file map_file : Text)
    → request_of (program ∷ codes "worlds" ∷ codes "--every=64" ∷ codes "--to=4294967295" ∷ codes "--from=7" ∷ (codes "--map=" ++ map_file) ∷ (codes "--file=" ++ file) ∷ [])
    ≡ Some (Worlds (record { file = file; map_file = Some map_file; rules = [] }) (record { from = 7; to = Some 4294967295; every = 64 }))
unfolding request_on_literals all_commands clap_on_literals
worlds_with_options program file map_file = refl

pub compare_after_equals : (program first second : Text)
    → request_of (program ∷ codes "compare" ∷ (codes "--with=" ++ second) ∷ (codes "--file=" ++ first) ∷ []) ≡ Some (Compare (match_alone first) second)
unfolding request_on_literals all_commands clap_on_literals
compare_after_equals program first second = refl

pub local_after_equals : (program script : Text) → request_of (program ∷ codes "local" ∷ (codes "--script=" ++ script) ∷ []) ≡ Some (Local (match_alone script) 0)
unfolding request_on_literals all_commands clap_on_literals
local_after_equals program script = refl

pub local_with_bots : (program script : Text)
    → request_of (program ∷ codes "local" ∷ (codes "--script=" ++ script) ∷ codes "--bots=15" ∷ []) ≡ Some (Local (match_alone script) 15)
unfolding request_on_literals all_commands clap_on_literals
local_with_bots program script = refl

pub datagrams_after_equals : (program script : Text) → request_of (program ∷ codes "datagrams" ∷ (codes "--script=" ++ script) ∷ []) ≡ Some (Datagrams script)
unfolding request_on_literals all_commands clap_on_literals
datagrams_after_equals program script = refl

pub play_after_equals : (program at script : Text)
    → request_of (program ∷ codes "play" ∷ (codes "--at=" ++ at) ∷ (codes "--script=" ++ script) ∷ []) ≡ Some (Play (match_alone script) at false)
unfolding request_on_literals all_commands clap_on_literals
play_after_equals program at script = refl

pub play_quietly : (program at script : Text)
    → request_of (program ∷ codes "play" ∷ codes "--quiet" ∷ (codes "--at=" ++ at) ∷ (codes "--script=" ++ script) ∷ []) ≡ Some (Play (match_alone script) at true)
unfolding request_on_literals all_commands clap_on_literals
play_quietly program at script = refl

pub play_quietly_twice : (program at script : Text)
    → request_of (program ∷ codes "play" ∷ codes "--quiet" ∷ (codes "--at=" ++ at) ∷ codes "--quiet" ∷ (codes "--script=" ++ script) ∷ []) ≡ None
unfolding request_on_literals all_commands clap_on_literals
play_quietly_twice program at script = refl

pub play_by_a_bot : (program at : Text)
    → request_of (program ∷ codes "play" ∷ codes "--bot" ∷ codes "--frames=262144" ∷ (codes "--at=" ++ at) ∷ [])
    ≡ Some (PlayBot (record { at = at; frames = 262144; is_quiet = false; map_file = None; rules = [] }))
unfolding request_on_literals all_commands clap_on_literals
play_by_a_bot program at = refl

pub play_by_both : (program at script : Text)
    → request_of (program ∷ codes "play" ∷ codes "--bot" ∷ codes "--frames=1" ∷ (codes "--script=" ++ script) ∷ (codes "--at=" ++ at) ∷ []) ≡ None
unfolding request_on_literals all_commands clap_on_literals
play_by_both program at script = refl

pub play_without_frames : (program at : Text) → request_of (program ∷ codes "play" ∷ codes "--bot" ∷ (codes "--at=" ++ at) ∷ []) ≡ None
unfolding request_on_literals all_commands clap_on_literals
play_without_frames program at = refl

pub serve_without_options : (program at : Text)
    → request_of (program ∷ codes "serve" ∷ (codes "--at=" ++ at) ∷ codes "--clients=16" ∷ [])
    ≡ Some (Serve (record { at = at; clients = 16; lag = 2; seed = 1; host = no_options; record_file = None; map_file = None; rules = [] }))
unfolding request_on_literals all_commands clap_on_literals
serve_without_options program at = refl

pub serve_with_options : (program at written map_file : Text)
    → request_of (program ∷ codes "serve" ∷ (codes "--map=" ++ map_file) ∷ codes "--lobby=86400" ∷ codes "--seed=4294967295" ∷ codes "--udp-ports=7071-7073" ∷ codes "--lag=64"
    ∷ codes "--quiet" ∷ codes "--clients=3" ∷ (codes "--record=" ++ written) ∷ codes "--patience=1" ∷ (codes "--at=" ++ at) ∷ [])
    ≡ Some (Serve (record {
      at = at;
      clients = 3;
      lag = 64;
      seed = 4294967295;
      host = record { is_quiet = true; patience = Some 1; lobby = Some 86400; udp_ports = Some (record { first = 7071; last = 7073 }) };
      record_file = Some written;
      map_file = Some map_file;
      rules = [];
    }))
unfolding request_on_literals all_commands clap_on_literals number_of parts_at
serve_with_options program at written map_file = refl

pub serve_without_room : (program at : Text)
    → request_of (program ∷ codes "serve" ∷ (codes "--at=" ++ at) ∷ codes "--clients=3" ∷ codes "--udp-ports=7071-7072" ∷ []) ≡ None
unfolding request_on_literals all_commands clap_on_literals number_of parts_at
serve_without_room program at = refl

pub serve_without_patience : (program at : Text)
    → request_of (program ∷ codes "serve" ∷ (codes "--at=" ++ at) ∷ codes "--clients=3" ∷ codes "--patience=0" ∷ []) ≡ None
unfolding request_on_literals all_commands clap_on_literals
serve_without_patience program at = refl

pub serve_for_ever : (program at : Text)
    → request_of (program ∷ codes "serve" ∷ (codes "--at=" ++ at) ∷ codes "--clients=3" ∷ codes "--lobby=86401" ∷ []) ≡ None
unfolding request_on_literals all_commands clap_on_literals
serve_for_ever program at = refl

pub route_with_options : (program map_file kind : Text)
    → request_of (program ∷ codes "route" ∷ codes "r" ∷ (codes "--kind=" ++ kind) ∷ codes "--to=3,4" ∷ codes "--from=1,2"
    ∷ (codes "--map=" ++ map_file) ∷ [])
    ≡ Some (Route (record { map_file = map_file; kind = kind; from = record { x = 1; y = 2 }; to = record { x = 3; y = 4 }; rules = codes "r" ∷ [] }))
unfolding request_on_literals all_commands clap_on_literals cell_of coordinate_of parts_at number_of
route_with_options program map_file kind = refl

pub make_of_a_number : (program : Text) → request_of (program ∷ codes "make" ∷ codes "--number=4294967295" ∷ []) ≡ Some (Make 4294967295)
unfolding request_on_literals all_commands clap_on_literals
make_of_a_number program = refl

pub map_after_equals : (program script map_file : Text)
    → request_of (program ∷ codes "drill" ∷ (codes "--map=" ++ map_file) ∷ (codes "--script=" ++ script) ∷ [])
    ≡ Some (Drill (record { file = script; map_file = Some map_file; rules = [] }) None)
unfolding request_on_literals all_commands clap_on_literals
map_after_equals program script map_file = refl

pub script_in_a_word : (program script : Text) → is_plain script ≡ true → request_of (program ∷ codes "drill" ∷ codes "--script" ∷ script ∷ []) ≡ Some (Drill (match_alone script) None)
unfolding request_on_literals all_commands clap_on_literals
script_in_a_word program [] plain = refl
script_in_a_word program (first ∷ []) plain = by_hyphen (first == 45) refl
  where
    by_hyphen : (hyphen : Bool) → (first == 45) ≡ hyphen → request_of (program ∷ codes "drill" ∷ codes "--script" ∷ (first ∷ []) ∷ []) ≡ Some (Drill (match_alone (first ∷ [])) None)
    by_hyphen true is = simp is refl
    by_hyphen false is = simp is refl
script_in_a_word program (first ∷ second ∷ rest) plain =
    let other : (first == 45) ≡ false = is_false _ plain in
    simp other refl

pub no_words : request_of [] ≡ None
unfolding request_on_literals all_commands clap_on_literals
no_words = refl

pub alone : (program : Text) → request_of (program ∷ []) ≡ None
unfolding request_on_literals all_commands clap_on_literals
alone program = refl
