-- Accepted arguments name a request, but for the number of positional arguments, and for cells,
-- players and ports that are none.
use Rattle.std.proofs.Common.{◌≡◌, ◌<◌, ◌≤◌, ◌⊎◌, ◌∙◌, ◌||◌, ◌&&◌, true≢false, ap, sym, subst, arith, inl, inr, ℕ, Bool, true, false, not, cond, List, [], ◌∷◌, Option, Some, None, is_some, codes, refl}
use Rattle.std.specs.Prelude.{◌^◌, find, option_map, option_and_then, unwrap_or, pos}
use Rattle.std.proofs.lemmas.Bool.{le-leb}
use Rattle.std.proofs.lemmas.Option.{none-some}
use Rattle.std.specs.List.{list_any}
use Rattle.std.specs.Option.{option_map_or}
use Rattle.clap.specs.Walk.{Row, Rule, Text, settled, finished, nothing_held, walk, walk_from, rows_after, first_of, one_of, answers_to}
use Rattle.clap.specs.Simple.{Shape, new_shape, filled, with_index, built, entered, rows_at, names_of, label_of, argument_words, subcommand_of}
use Rattle.clap.specs.Takes.{is_given}
use Rattle.clap.specs.Lexer.{without_minus}
use Rattle.clap.specs.Values.{read_as}
use Rattle.clap.specs.ValueTests.{is_signed_in}
use Rattle.clap.specs.Kinds.{or_else}
use Rattle.clap.specs.Faults.{walk_fault, settle_fault, defaults_fault, check_fault, level_fault, entered_fault, fault_of}
use Rattle.clap.specs.declared.error.kind.ErrorKind.TheVariants.{MissingRequiredArgument}
use Rattle.clap.proofs.SimpleLemmas.{is_nil}
use Rattle.clap.proofs.WalkLemmas.{both}
use Rattle.world_units.specs.declared.cell.CPos.{CPos}
use Rattle.command_words.specs.RequestPlain.{Check, Compare, Continue, Datagrams, Drill, Local, Make, Migrate, Replay, RequestPlain, Save, View, Worlds, Yaml}
use Rattle.command_words.specs.Player.{PlayerPlain, Script, Bot}
use Rattle.command_words.specs.Commands.{option_named, required_option, flag_named, number_option, required_number, bare_app, lockstep_app}
use Rattle.command_words.specs.Reading.{is_accepted, command_request, names_in, cell_in, number_of, number_in, up_to, count_in, count_or, optional, seconds_in, ports_in, host_in, from_one, step_or, at_most, bots_in, match_in, local_in, play_in, serve_in, migrate_in, route_in, save_in, continue_in, view_in, range_in, worlds_in, compare_in, has_flag, player_of, player_in, played_by, found_request, request_of, NamesRefused, CellRefused, PlayerRefused, PortsRefused}
use Rattle.game_orders.specs.declared.limits.TheConstants.{MAX_CLIENTS, MAX_FRAMES, MAX_LAG}
use Rattle.command_words.specs.declared.TheConstants.{MAX_BOTS}
use Rattle.command_words.specs.declared.host.HostOptions.{HostOptions}
use Rattle.command_words.specs.declared.host.TheConstants.{MAX_SECONDS}
use Rattle.command_words.specs.declared.port_range.PortRange.{PortRange}
use Rattle.command_words.specs.declared.serve_query.TheConstants.{DEFAULT_LAG}
use Rattle.command_words.specs.declared.world_range.TheConstants.{DEFAULT_EVERY}
use Rattle.command_words.proofs.OnCommands.{all_commands}
use Rattle.command_words.proofs.NumberLemmas.{Written, let_through}
use Rattle.command_words.proofs.PlainWordsLemmas.{map_rule, names_rule, names_rules, names_shape}
use Rattle.command_words.proofs.FoundValuesLemmas.{Full, AllWant, Shortless, HasRow, reading_at, first_none, second_none, some_kind, settle_full, walk_full, defaults_full, given_row, given_first, given_one, Found, found_or_not, nothing, something}

-- A command with these arguments, as the parse has it.
abbrev shape_with : Text → List Rule → Shape
shape_with command rules = record (new_shape command) {
  rules = rules;
  disable_help_flag = true;
  disable_help_subcommand = true;
  disable_version_flag = true;
  is_built = true;
}

abbrev wanted_rule : Text → Rule
wanted_rule name = with_index 1 (filled (required_option name))

abbrev record_rule : Rule
record_rule = with_index 1 (filled (option_named (codes "record")))

abbrev drill_shape : Shape
drill_shape = shape_with (codes "drill") (wanted_rule (codes "script") ∷ map_rule ∷ record_rule ∷ names_rule ∷ [])

abbrev route_shape : Shape
route_shape =
    shape_with (codes "route")
    (wanted_rule (codes "map") ∷ wanted_rule (codes "kind") ∷ wanted_rule (codes "from") ∷ wanted_rule (codes "to")
    ∷ names_rule ∷ [])

abbrev make_shape : Shape
make_shape = shape_with (codes "make") (with_index 1 (filled (required_number (codes "number") 0 4294967295)) ∷ [])

abbrev local_shape : Shape
local_shape =
    shape_with (codes "local") (wanted_rule (codes "script") ∷ map_rule ∷ with_index 1 (filled (number_option (codes "bots") 0 MAX_BOTS)) ∷ names_rule ∷ [])

abbrev serve_shape : Shape
serve_shape =
    shape_with (codes "serve")
    (wanted_rule (codes "at") ∷ with_index 1 (filled (required_number (codes "clients") 1 MAX_CLIENTS))
    ∷ with_index 1 (filled (number_option (codes "lag") 1 MAX_LAG)) ∷ with_index 1 (filled (number_option (codes "seed") 0 4294967295))
    ∷ with_index 1 (filled (number_option (codes "patience") 1 MAX_SECONDS)) ∷ with_index 1 (filled (number_option (codes "lobby") 1 MAX_SECONDS))
    ∷ with_index 1 (filled (flag_named (codes "quiet"))) ∷ with_index 1 (filled (option_named (codes "udp-ports")))
    ∷ record_rule ∷ map_rule ∷ names_rule ∷ [])

abbrev play_shape : Shape
play_shape =
    shape_with (codes "play")
    (wanted_rule (codes "at") ∷ with_index 1 (filled (option_named (codes "script"))) ∷ with_index 1 (filled (flag_named (codes "bot")))
    ∷ with_index 1 (filled (number_option (codes "frames") 0 MAX_FRAMES)) ∷ with_index 1 (filled (flag_named (codes "quiet"))) ∷ map_rule ∷ names_rule ∷ [])

abbrev replay_shape : Shape
replay_shape = shape_with (codes "replay") (wanted_rule (codes "file") ∷ map_rule ∷ names_rule ∷ [])

abbrev migrate_shape : Shape
migrate_shape = shape_with (codes "migrate") (wanted_rule (codes "file") ∷ map_rule ∷ wanted_rule (codes "to") ∷ names_rule ∷ [])

abbrev save_shape : Shape
save_shape =
    shape_with (codes "save")
    (wanted_rule (codes "file") ∷ map_rule ∷ with_index 1 (filled (required_number (codes "frames") 0 4294967295)) ∷ wanted_rule (codes "to") ∷ names_rule ∷ [])

abbrev continue_shape : Shape
continue_shape = shape_with (codes "continue") (wanted_rule (codes "file") ∷ map_rule ∷ wanted_rule (codes "save") ∷ names_rule ∷ [])

abbrev view_shape : Shape
view_shape =
    shape_with (codes "view")
    (wanted_rule (codes "file") ∷ map_rule ∷ with_index 1 (filled (required_number (codes "client") 0 4294967295)) ∷ names_rule ∷ [])

abbrev worlds_shape : Shape
worlds_shape =
    shape_with (codes "worlds")
    (wanted_rule (codes "file") ∷ map_rule ∷ with_index 1 (filled (number_option (codes "from") 0 4294967295))
    ∷ with_index 1 (filled (number_option (codes "to") 0 4294967295)) ∷ with_index 1 (filled (number_option (codes "every") 1 4294967295)) ∷ names_rule ∷ [])

abbrev compare_shape : Shape
compare_shape = shape_with (codes "compare") (wanted_rule (codes "file") ∷ map_rule ∷ wanted_rule (codes "with") ∷ names_rule ∷ [])

abbrev datagrams_shape : Shape
datagrams_shape = shape_with (codes "datagrams") (wanted_rule (codes "script") ∷ [])

-- The commands, as the parse has them.
abbrev command_shapes : List Shape
command_shapes =
    drill_shape ∷ names_shape false (codes "yaml") ∷ names_shape true (codes "check") ∷ route_shape ∷ make_shape ∷ local_shape
    ∷ serve_shape ∷ play_shape ∷ replay_shape ∷ migrate_shape ∷ save_shape ∷ continue_shape ∷ view_shape ∷ worlds_shape ∷ compare_shape ∷ datagrams_shape ∷ []

-- What is known of an argument: it has a row, if it has to be there; else nothing was found of it, or its row.
abbrev IsFound : (required : Bool) → List Rule → Text → List Row → Type 0
IsFound true c name rows = HasRow c name rows
IsFound false c name rows = Found c name rows

abbrev AllFound : (c rules : List Rule) → List Row → Type 0
AllFound c [] rows = Unit {0}
AllFound c (a ∷ rest) rows = IsFound a.required c a.id rows × AllFound c rest rows

-- None of two tests is met.
record AreFalse (a b : Bool) : Type 0 where
  first : a ≡ false
  second : b ≡ false

neither : (a b : Bool) → (a || b) ≡ false → AreFalse a b
neither true b none = absurd (true≢false none)
neither false b none = record { first = refl; second = none }

rule_found : (required given : Bool) (c : List Rule) (name : Text) (rows : List Row) → Full c rows → is_given name rows ≡ given → (required && not given) ≡ false
    → IsFound required c name rows
rule_found true true c name rows full is none = given_row c name rows full is
rule_found true false c name rows full is none = absurd (true≢false none)
rule_found false given c name rows full is none = found_or_not c name rows full

all_found : (c rules : List Rule) (rows : List Row) → Full c rows → list_any (λ (a : Rule). a.required && not (is_given a.id rows)) rules ≡ false → AllFound c rules rows
all_found c [] rows full none = tt
all_found c (a ∷ rest) rows full none =
    let parts = neither (a.required && not (is_given a.id rows)) (list_any (λ (a : Rule). a.required && not (is_given a.id rows)) rest) none in
    (rule_found a.required (is_given a.id rows) c a.id rows full refl parts.first, all_found c rest rows full parts.second)

none_missing : (missing : Bool) → cond missing (MissingRequiredArgument ∷ []) [] ≡ [] → missing ≡ false
none_missing true quiet = absurd (some_kind MissingRequiredArgument [] quiet)
none_missing false quiet = refl

-- What is known of the rows that a command without a fault has found.
rows_found : (command : Text) (rules : List Rule) (words : List Text) → AllWant rules rules → Shortless rules
    → level_fault (shape_with command rules) [] nothing_held words false [] ≡ [] → AllFound rules rules (rows_after rules [] words)
rows_found command rules words all shortless quiet =
    let s = shape_with command rules in
    let rows = rows_after rules [] words in
    let end = (walk rules [] nothing_held words).held in
    let walks = walk_fault s [] (walk_from nothing_held) words in
    let settles = settle_fault rules s.args_override_self end in
    let defaults = defaults_fault (settled rules end).rows rules in
    let checks = check_fault s (finished rules end) false in
    let later : or_else settles (or_else defaults checks) ≡ [] = second_none walks (or_else settles (or_else defaults checks)) quiet in
    let full_end : Full rules end.rows = walk_full s [] (walk_from nothing_held) words all shortless tt (first_none walks (or_else settles (or_else defaults checks)) quiet) in
    all_found rules rules rows
    (defaults_full rules (settled rules end).rows rules all (settle_full rules s.args_override_self end all full_end (first_none settles (or_else defaults checks) later))
    (first_none defaults checks (second_none settles (or_else defaults checks) later)))
    (none_missing (list_any (λ (a : Rule). a.required && not (is_given a.id rows)) rules) (second_none defaults checks (second_none settles (or_else defaults checks) later)))

-- A command has a request, or refuses the number of its names, a cell, a player or ports.
abbrev HasRequest : Option (Text × List Row) → Type 0
HasRequest found = (is_some (found_request found) ≡ true) ⊎ (NamesRefused found ⊎ (CellRefused found ⊎ (PlayerRefused found ⊎ PortsRefused found)))

-- The same of a command with these arguments, whatever was found of them.
abbrev GivesRequest : Text → List Rule → Type 0
GivesRequest command rules = (rows : List Row) → AllFound rules rules rows → HasRequest (Some (command, rows))

-- What is made of a value that is there.
made_is : {T : Type 0} (make : T → RequestPlain) (value : Option T) → is_some value ≡ true → is_some (option_map make value) ≡ true
made_is make None there = cc
made_is make (Some value) there = refl

-- What follows from a value that is there.
then_is : {T : Type 0} (next : T → Option RequestPlain) (value : Option T) → is_some value ≡ true → ((value : T) → is_some (next value) ≡ true)
    → is_some (option_and_then next value) ≡ true
then_is next None there each = cc
then_is next (Some value) there each = each value

-- A match is named where its option is there, or the number of its rule files is not allowed.
match_is : (c : List Rule) (option : Text) (rows : List Row) → HasRow c option rows → (is_some (match_in option rows) ≡ true) ⊎ (names_in 0 rows ≡ None)
unfolding match_in
match_is c option rows has = go (first_of option rows) (names_in 0 rows) refl refl (given_first c option rows has)
  where
    go : (file : Option Text) (names : Option (List Text)) → first_of option rows ≡ file → names_in 0 rows ≡ names → is_some file ≡ true
        → (is_some (match_in option rows) ≡ true) ⊎ (names_in 0 rows ≡ None)
    go None names a b there = cc
    go (Some file) None a b there = inr b
    go (Some file) (Some names) a b there = inl (rw (a, b) refl)

drill_request : GivesRequest (codes "drill") drill_shape.rules
unfolding command_request
drill_request rows found = elim (match_is drill_shape.rules (codes "script") rows found.0) [
  | inl named ↦ inl (made_is (λ query. Drill query (first_of (codes "record") rows)) (match_in (codes "script") rows) named)
  | inr none ↦ inr (inl none)
]

replay_request : GivesRequest (codes "replay") replay_shape.rules
unfolding command_request
replay_request rows found = elim (match_is replay_shape.rules (codes "file") rows found.0) [
  | inl named ↦ inl (made_is Replay (match_in (codes "file") rows) named)
  | inr none ↦ inr (inl none)
]

migrate_request : GivesRequest (codes "migrate") migrate_shape.rules
unfolding command_request migrate_in
migrate_request rows found = elim (match_is migrate_shape.rules (codes "file") rows found.0) [
  | inl named ↦ inl (then_is _ (first_of (codes "to") rows) (given_first migrate_shape.rules (codes "to") rows found.1.1.0)
      (λ to. made_is (λ query. Migrate query to) (match_in (codes "file") rows) named))
  | inr none ↦ inr (inl none)
]

names_request : (rows : List Row) (make : List Text → RequestPlain) → (is_some (option_map make (names_in 1 rows)) ≡ true) ⊎ (names_in 1 rows ≡ None)
names_request rows make = go (names_in 1 rows) refl
  where
    go : (names : Option (List Text)) → names_in 1 rows ≡ names → (is_some (option_map make (names_in 1 rows)) ≡ true) ⊎ (names_in 1 rows ≡ None)
    go None is = inr is
    go (Some names) is = inl (rw is refl)

yaml_request : GivesRequest (codes "yaml") (names_rules false)
unfolding command_request
yaml_request rows found = elim (names_request rows Yaml) [
  | inl named ↦ inl named
  | inr none ↦ inr (inl none)
]

check_request : GivesRequest (codes "check") (names_rules true)
unfolding command_request
check_request rows found = elim (names_request rows (Check (first_of (codes "map") rows))) [
  | inl named ↦ inl named
  | inr none ↦ inr (inl none)
]

-- A route is named, or the number of its rule files is not allowed, or a cell is none.
route_is : (rows : List Row) (map_file kind : Option Text) (from to : Option CPos) (names : Option (List Text))
    → first_of (codes "map") rows ≡ map_file → first_of (codes "kind") rows ≡ kind → cell_in (codes "from") rows ≡ from → cell_in (codes "to") rows ≡ to → names_in 1 rows ≡ names
    → is_some map_file ≡ true → is_some kind ≡ true → HasRequest (Some (codes "route", rows))
unfolding command_request route_in
route_is rows None kind from to names a b c d e there there' = cc
route_is rows (Some map_file) None from to names a b c d e there there' = cc
route_is rows (Some map_file) (Some kind) None to names a b c d e there there' = inr (inr (inl (refl, inl c)))
route_is rows (Some map_file) (Some kind) (Some from) None names a b c d e there there' = inr (inr (inl (refl, inr d)))
route_is rows (Some map_file) (Some kind) (Some from) (Some to) None a b c d e there there' = inr (inl e)
route_is rows (Some map_file) (Some kind) (Some from) (Some to) (Some names) a b c d e there there' = inl (rw (a, b, c, d, e) refl)

route_request : GivesRequest (codes "route") route_shape.rules
unfolding command_request
route_request rows found =
    route_is rows (first_of (codes "map") rows) (first_of (codes "kind") rows) (cell_in (codes "from") rows) (cell_in (codes "to") rows) (names_in 1 rows)
    refl refl refl refl refl (given_first route_shape.rules (codes "map") rows found.0) (given_first route_shape.rules (codes "kind") rows found.1.0)

-- The number of a row whose argument takes one within these bounds.
row_number : (c : List Rule) (name : Text) (rows : List Row) (least most : ℕ) (has : HasRow c name rows) → most < 2 ^ 32
    → is_signed_in (pos least) (pos most) has.first ≡ true → read_as (reading_at c name) has.first ≡ without_minus has.first
    → Written least most (number_in name rows)
unfolding number_in
row_number c name rows least most has fits passes reads =
    subst (λ (text : Option Text). Written least most (option_and_then number_of text)) (sym (given_one c name rows has ∙ ap Some reads))
    (let_through least most has.first fits passes)

-- A number that is written is there.
number_there : (least most : ℕ) (number : Option ℕ) → Written least most number → is_some number ≡ true
number_there least most number written = rw written.is refl

make_request : GivesRequest (codes "make") make_shape.rules
unfolding command_request
make_request rows found =
    let has : HasRow make_shape.rules (codes "number") rows = found.0 in
    inl (made_is Make (number_in (codes "number") rows)
    (number_there 0 4294967295 (number_in (codes "number") rows)
    (row_number make_shape.rules (codes "number") rows 0 4294967295 has (omega arith)
    (both (is_signed_in (pos 0) (pos 4294967295) has.first) _ has.passes).0 refl)))

-- No number is read where nothing was found.
no_number : (rows : List Row) → one_of (codes "frames") rows ≡ None → number_in (codes "frames") rows ≡ None
unfolding number_in
no_number rows none = rw none refl

some_is : {T : Type 0} {a b : T} → Some a ≡ Some b → a ≡ b
some_is e = cc

-- A number within a bound is one.
bounded : (most : ℕ) (number : Option ℕ) → Written 0 most number → is_some (at_most most (unwrap_or number 0)) ≡ true
bounded most number written = rw (written.is, le-leb written.value most written.below) refl

bots_there : (rows : List Row) → Found local_shape.rules (codes "bots") rows → is_some (bots_in rows) ≡ true
unfolding bots_in number_in
bots_there rows (nothing none) = rw none refl
bots_there rows (something has) =
    bounded MAX_BOTS (number_in (codes "bots") rows)
    (row_number local_shape.rules (codes "bots") rows 0 MAX_BOTS has (omega arith)
    (both (is_signed_in (pos 0) (pos MAX_BOTS) has.first) _ has.passes).0 refl)

local_request : GivesRequest (codes "local") local_shape.rules
unfolding command_request local_in
local_request rows found = elim (match_is local_shape.rules (codes "script") rows found.0) [
  | inl named ↦ inl (then_is _ (bots_in rows) (bots_there rows found.1.1.0) (λ bots. made_is (λ query. Local query bots) (match_in (codes "script") rows) named))
  | inr none ↦ inr (inl none)
]

-- A number of frames that is written is within its bound.
frames_bound : (rows : List Row) → Found play_shape.rules (codes "frames") rows → (frames : ℕ) → number_in (codes "frames") rows ≡ Some frames
    → at_most MAX_FRAMES frames ≡ Some frames
frames_bound rows (nothing none) frames is = absurd (none-some frames (sym (no_number rows none) ∙ is))
frames_bound rows (something has) frames is =
    within MAX_FRAMES frames
    (row_number play_shape.rules (codes "frames") rows 0 MAX_FRAMES has (omega arith)
    (both (is_signed_in (pos 0) (pos MAX_FRAMES) has.first) _ has.passes).0 refl) is
  where
    within : (most frames : ℕ) → Written 0 most (number_in (codes "frames") rows) → number_in (codes "frames") rows ≡ Some frames → at_most most frames ≡ Some frames
    within most frames written is =
        let same : written.value ≡ frames = some_is (sym written.is ∙ is) in
        let below : frames ≤ most = subst (λ (n : ℕ). n ≤ most) same written.below in
        rw (le-leb frames most below) refl

-- A bot plays as many frames as are written.
bot_frames : (script : Option Text) (bot : Bool) (written : Option ℕ) (frames : ℕ) → player_of script bot written ≡ Some (Bot frames) → written ≡ Some frames
bot_frames None true (Some written) frames is = cc
bot_frames None true None frames is = cc
bot_frames None false written frames is = cc
bot_frames (Some file) true written frames is = cc
bot_frames (Some file) false None frames is = cc
bot_frames (Some file) false (Some written) frames is = cc

player_there : (rows : List Row) → Found play_shape.rules (codes "frames") rows → (at : Text) (rules : List Text) (player : PlayerPlain) → player_in rows ≡ Some player
    → is_some (played_by at (has_flag (codes "quiet") rows) (first_of (codes "map") rows) rules player) ≡ true
unfolding player_in
player_there rows found at rules (Script file) is = refl
player_there rows found at rules (Bot frames) is =
    rw (frames_bound rows found frames
    (bot_frames (first_of (codes "script") rows) (has_flag (codes "bot") rows) (number_in (codes "frames") rows) frames is)) refl

-- A match over a link is played, or there is no one player, or the number of its rule files is not allowed.
play_is : (rows : List Row) (at : Option Text) (player : Option PlayerPlain) (names : Option (List Text))
    → first_of (codes "at") rows ≡ at → player_in rows ≡ player → names_in 0 rows ≡ names → is_some at ≡ true
    → ((at : Text) (rules : List Text) (player : PlayerPlain) → player_in rows ≡ Some player → is_some (played_by at (has_flag (codes "quiet") rows) (first_of (codes "map") rows) rules player) ≡ true)
    → HasRequest (Some (codes "play", rows))
unfolding command_request play_in
play_is rows None player names a b c there each = cc
play_is rows (Some at) None names a b c there each = inr (inr (inr (inl (refl, b))))
play_is rows (Some at) (Some player) None a b c there each = inr (inl c)
play_is rows (Some at) (Some player) (Some names) a b c there each = inl (rw (a, b, c) (each at names player b))

play_request : GivesRequest (codes "play") play_shape.rules
play_request rows found =
    play_is rows (first_of (codes "at") rows) (player_in rows) (names_in 0 rows) refl refl refl (given_first play_shape.rules (codes "at") rows found.0)
    (player_there rows found.1.1.1.0)

save_request : GivesRequest (codes "save") save_shape.rules
unfolding command_request save_in
save_request rows found =
    let has : HasRow save_shape.rules (codes "frames") rows = found.1.1.0 in
    elim (match_is save_shape.rules (codes "file") rows found.0) [
      | inl named ↦ inl (then_is _ (number_in (codes "frames") rows)
          (number_there 0 4294967295 (number_in (codes "frames") rows)
          (row_number save_shape.rules (codes "frames") rows 0 4294967295 has (omega arith)
          (both (is_signed_in (pos 0) (pos 4294967295) has.first) _ has.passes).0 refl))
          (λ frames. then_is _ (first_of (codes "to") rows) (given_first save_shape.rules (codes "to") rows found.1.1.1.0)
          (λ to. made_is (λ query. Save query frames to) (match_in (codes "file") rows) named)))
      | inr none ↦ inr (inl none)
    ]

continue_request : GivesRequest (codes "continue") continue_shape.rules
unfolding command_request continue_in
continue_request rows found = elim (match_is continue_shape.rules (codes "file") rows found.0) [
  | inl named ↦ inl (then_is _ (first_of (codes "save") rows) (given_first continue_shape.rules (codes "save") rows found.1.1.0)
      (λ save. made_is (λ query. Continue query save) (match_in (codes "file") rows) named))
  | inr none ↦ inr (inl none)
]

view_request : GivesRequest (codes "view") view_shape.rules
unfolding command_request view_in
view_request rows found =
    let has : HasRow view_shape.rules (codes "client") rows = found.1.1.0 in
    elim (match_is view_shape.rules (codes "file") rows found.0) [
      | inl named ↦ inl (then_is _ (number_in (codes "client") rows)
          (number_there 0 4294967295 (number_in (codes "client") rows)
          (row_number view_shape.rules (codes "client") rows 0 4294967295 has (omega arith)
          (both (is_signed_in (pos 0) (pos 4294967295) has.first) _ has.passes).0 refl))
          (λ client. made_is (λ query. View query client) (match_in (codes "file") rows) named))
      | inr none ↦ inr (inl none)
    ]

-- A number from 1 on is a step.
stepped_or : (default most : ℕ) (number : Option ℕ) → Written 1 most number → is_some (from_one (unwrap_or number default)) ≡ true
stepped_or default most number written = rw (written.is, le-leb 1 written.value written.above) refl

every_there : (rows : List Row) → Found worlds_shape.rules (codes "every") rows → is_some (step_or DEFAULT_EVERY (codes "every") rows) ≡ true
unfolding step_or number_in
every_there rows (nothing none) = rw none refl
every_there rows (something has) =
    stepped_or DEFAULT_EVERY 4294967295 (number_in (codes "every") rows)
    (row_number worlds_shape.rules (codes "every") rows 1 4294967295 has (omega arith)
    (both (is_signed_in (pos 1) (pos 4294967295) has.first) _ has.passes).0 refl)

range_there : (rows : List Row) → is_some (step_or DEFAULT_EVERY (codes "every") rows) ≡ true → is_some (range_in rows) ≡ true
unfolding range_in
range_there rows there = go (step_or DEFAULT_EVERY (codes "every") rows) refl there
  where
    go : (every : Option ℕ) → step_or DEFAULT_EVERY (codes "every") rows ≡ every → is_some every ≡ true → is_some (range_in rows) ≡ true
    go None is there = cc
    go (Some every) is there = rw is refl

worlds_request : GivesRequest (codes "worlds") worlds_shape.rules
unfolding command_request worlds_in
worlds_request rows found = elim (match_is worlds_shape.rules (codes "file") rows found.0) [
  | inl named ↦ inl (then_is _ (range_in rows) (range_there rows (every_there rows found.1.1.1.1.0))
      (λ range. made_is (λ query. Worlds query range) (match_in (codes "file") rows) named))
  | inr none ↦ inr (inl none)
]

compare_request : GivesRequest (codes "compare") compare_shape.rules
unfolding command_request compare_in
compare_request rows found = elim (match_is compare_shape.rules (codes "file") rows found.0) [
  | inl named ↦ inl (then_is _ (first_of (codes "with") rows) (given_first compare_shape.rules (codes "with") rows found.1.1.0)
      (λ second. made_is (λ query. Compare query second) (match_in (codes "file") rows) named))
  | inr none ↦ inr (inl none)
]

datagrams_request : GivesRequest (codes "datagrams") datagrams_shape.rules
unfolding command_request
datagrams_request rows found =
    inl (made_is Datagrams (first_of (codes "script") rows) (given_first datagrams_shape.rules (codes "script") rows found.0))

-- A number within the bounds of a count is one.
counted : (most : ℕ) (number : Option ℕ) → Written 1 most number → is_some (option_and_then (up_to most) number) ≡ true
counted most number written =
    rw (written.is, le-leb 1 written.value written.above, le-leb written.value most written.below) refl

counted_or : (default most : ℕ) (number : Option ℕ) → Written 1 most number → is_some (up_to most (unwrap_or number default)) ≡ true
counted_or default most number written =
    rw (written.is, le-leb 1 written.value written.above, le-leb written.value most written.below) refl

clients_there : (rows : List Row) → HasRow serve_shape.rules (codes "clients") rows → is_some (count_in MAX_CLIENTS (codes "clients") rows) ≡ true
unfolding count_in
clients_there rows has =
    counted MAX_CLIENTS (number_in (codes "clients") rows)
    (row_number serve_shape.rules (codes "clients") rows 1 MAX_CLIENTS has (omega arith)
    (both (is_signed_in (pos 1) (pos MAX_CLIENTS) has.first) _ has.passes).0 refl)

lag_there : (rows : List Row) → Found serve_shape.rules (codes "lag") rows → is_some (count_or DEFAULT_LAG MAX_LAG (codes "lag") rows) ≡ true
unfolding count_or number_in
lag_there rows (nothing none) = rw none refl
lag_there rows (something has) =
    counted_or DEFAULT_LAG MAX_LAG (number_in (codes "lag") rows)
    (row_number serve_shape.rules (codes "lag") rows 1 MAX_LAG has (omega arith)
    (both (is_signed_in (pos 1) (pos MAX_LAG) has.first) _ has.passes).0 refl)

-- Seconds within the bounds of a clock are some.
seconds_are : (most : ℕ) (number : Option ℕ) → Written 1 most number → is_some (optional (up_to most) number) ≡ true
seconds_are most number written =
    rw (written.is, le-leb 1 written.value written.above, le-leb written.value most written.below) refl

patience_there : (rows : List Row) → Found serve_shape.rules (codes "patience") rows → is_some (seconds_in (codes "patience") rows) ≡ true
unfolding seconds_in number_in
patience_there rows (nothing none) = rw none refl
patience_there rows (something has) =
    seconds_are MAX_SECONDS (number_in (codes "patience") rows)
    (row_number serve_shape.rules (codes "patience") rows 1 MAX_SECONDS has (omega arith)
    (both (is_signed_in (pos 1) (pos MAX_SECONDS) has.first) _ has.passes).0 refl)

lobby_there : (rows : List Row) → Found serve_shape.rules (codes "lobby") rows → is_some (seconds_in (codes "lobby") rows) ≡ true
unfolding seconds_in number_in
lobby_there rows (nothing none) = rw none refl
lobby_there rows (something has) =
    seconds_are MAX_SECONDS (number_in (codes "lobby") rows)
    (row_number serve_shape.rules (codes "lobby") rows 1 MAX_SECONDS has (omega arith)
    (both (is_signed_in (pos 1) (pos MAX_SECONDS) has.first) _ has.passes).0 refl)

-- What is said of log, clocks and ports is there, where the ports are.
host_is : (rows : List Row) (clients : ℕ) (patience lobby : Option (Option ℕ)) (ports : Option (Option PortRange))
    → seconds_in (codes "patience") rows ≡ patience → seconds_in (codes "lobby") rows ≡ lobby → ports_in clients rows ≡ ports
    → is_some patience ≡ true → is_some lobby ≡ true → (is_some (host_in clients rows) ≡ true) ⊎ (ports_in clients rows ≡ None)
unfolding host_in
host_is rows clients None lobby ports a b c there there' = cc
host_is rows clients (Some patience) None ports a b c there there' = cc
host_is rows clients (Some patience) (Some lobby) None a b c there there' = inr c
host_is rows clients (Some patience) (Some lobby) (Some ports) a b c there there' = inl (rw (a, b, c) refl)

host_there : (rows : List Row) (clients : ℕ) → Found serve_shape.rules (codes "patience") rows → Found serve_shape.rules (codes "lobby") rows
    → (is_some (host_in clients rows) ≡ true) ⊎ (ports_in clients rows ≡ None)
host_there rows clients patience lobby =
    host_is rows clients (seconds_in (codes "patience") rows) (seconds_in (codes "lobby") rows) (ports_in clients rows) refl refl refl
    (patience_there rows patience) (lobby_there rows lobby)

-- The ports of a match are refused.
ports_refused : (rows : List Row) (clients : ℕ) → count_in MAX_CLIENTS (codes "clients") rows ≡ Some clients → ports_in clients rows ≡ None → PortsRefused (Some (codes "serve", rows))
ports_refused rows clients is none = rw is (refl, none)

-- A match to be served is named, or the number of its rule files is not allowed, or its ports are not.
serve_is : (rows : List Row) (at : Option Text) (clients lag : Option ℕ) (names : Option (List Text))
    → first_of (codes "at") rows ≡ at → count_in MAX_CLIENTS (codes "clients") rows ≡ clients → count_or DEFAULT_LAG MAX_LAG (codes "lag") rows ≡ lag
    → names_in 0 rows ≡ names → is_some at ≡ true → is_some clients ≡ true → is_some lag ≡ true
    → ((clients : ℕ) → (is_some (host_in clients rows) ≡ true) ⊎ (ports_in clients rows ≡ None))
    → HasRequest (Some (codes "serve", rows))
unfolding command_request serve_in
serve_is rows None clients lag names a b c d there there' there'' each = cc
serve_is rows (Some at) None lag names a b c d there there' there'' each = cc
serve_is rows (Some at) (Some clients) None names a b c d there there' there'' each = cc
serve_is rows (Some at) (Some clients) (Some lag) None a b c d there there' there'' each = inr (inl d)
serve_is rows (Some at) (Some clients) (Some lag) (Some names) a b c d there there' there'' each =
    go (host_in clients rows) refl (each clients)
  where
    go : (host : Option HostOptions) → host_in clients rows ≡ host → (is_some host ≡ true) ⊎ (ports_in clients rows ≡ None) → HasRequest (Some (codes "serve", rows))
    go (Some host) e is = inl (rw (a, b, c, d, e) refl)
    go None e (inl is) = cc
    go None e (inr none) = inr (inr (inr (inr (ports_refused rows clients b none))))

serve_request : GivesRequest (codes "serve") serve_shape.rules
serve_request rows found =
    serve_is rows (first_of (codes "at") rows) (count_in MAX_CLIENTS (codes "clients") rows) (count_or DEFAULT_LAG MAX_LAG (codes "lag") rows) (names_in 0 rows)
    refl refl refl refl (given_first serve_shape.rules (codes "at") rows found.0) (clients_there rows found.1.0) (lag_there rows found.1.1.0)
    (λ clients. host_there rows clients found.1.1.1.1.0 found.1.1.1.1.1.0)

-- Each of the commands, where its words have no fault.
abbrev AsksBy : Shape → Type 0
AsksBy s = (words : List Text) → level_fault s [] nothing_held words false [] ≡ [] → HasRequest (Some (rows_at s words))

abbrev AllAsk : List Shape → Type 0
AllAsk [] = Unit {0}
AllAsk (s ∷ shapes) = AsksBy s × AllAsk shapes

asks_by : (command : Text) (rules : List Rule) → AllWant rules rules → Shortless rules → GivesRequest command rules → AsksBy (shape_with command rules)
asks_by command rules all shortless gives words quiet = gives (rows_after rules [] words) (rows_found command rules words all shortless quiet)

-- One more of them.
also : {A B : Type 0} → A → B → A × B
also a b = (a, b)

all_ask : AllAsk command_shapes
all_ask =
    also (asks_by (codes "drill") drill_shape.rules ((refl, refl), ((refl, refl), ((refl, refl), ((refl, refl), tt)))) (λ x. refl) drill_request)
    (also (asks_by (codes "yaml") (names_rules false) ((refl, refl), tt) (λ x. refl) yaml_request)
    (also (asks_by (codes "check") (names_rules true) ((refl, refl), ((refl, refl), tt)) (λ x. refl) check_request)
    (also (asks_by (codes "route") route_shape.rules ((refl, refl), ((refl, refl), ((refl, refl), ((refl, refl), ((refl, refl), tt))))) (λ x. refl) route_request)
    (also (asks_by (codes "make") make_shape.rules ((refl, refl), tt) (λ x. refl) make_request)
    (also (asks_by (codes "local") local_shape.rules ((refl, refl), ((refl, refl), ((refl, refl), ((refl, refl), tt)))) (λ x. refl) local_request)
    (also (asks_by (codes "serve") serve_shape.rules ((refl, refl), ((refl, refl), ((refl, refl), ((refl, refl), ((refl, refl), ((refl, refl), ((refl, refl), ((refl, refl), ((refl, refl), ((refl, refl), ((refl, refl), tt))))))))))) (λ x. refl) serve_request)
    (also (asks_by (codes "play") play_shape.rules ((refl, refl), ((refl, refl), ((refl, refl), ((refl, refl), ((refl, refl), ((refl, refl), ((refl, refl), tt))))))) (λ x. refl) play_request)
    (also (asks_by (codes "replay") replay_shape.rules ((refl, refl), ((refl, refl), ((refl, refl), tt))) (λ x. refl) replay_request)
    (also (asks_by (codes "migrate") migrate_shape.rules ((refl, refl), ((refl, refl), ((refl, refl), ((refl, refl), tt)))) (λ x. refl) migrate_request)
    (also (asks_by (codes "save") save_shape.rules ((refl, refl), ((refl, refl), ((refl, refl), ((refl, refl), ((refl, refl), tt))))) (λ x. refl) save_request)
    (also (asks_by (codes "continue") continue_shape.rules ((refl, refl), ((refl, refl), ((refl, refl), ((refl, refl), tt)))) (λ x. refl) continue_request)
    (also (asks_by (codes "view") view_shape.rules ((refl, refl), ((refl, refl), ((refl, refl), ((refl, refl), tt)))) (λ x. refl) view_request)
    (also (asks_by (codes "worlds") worlds_shape.rules ((refl, refl), ((refl, refl), ((refl, refl), ((refl, refl), ((refl, refl), ((refl, refl), tt)))))) (λ x. refl) worlds_request)
    (also (asks_by (codes "compare") compare_shape.rules ((refl, refl), ((refl, refl), ((refl, refl), ((refl, refl), tt)))) (λ x. refl) compare_request)
    (also (asks_by (codes "datagrams") datagrams_shape.rules ((refl, refl), tt) (λ x. refl) datagrams_request) tt)))))))))))))))

-- The command of this name, of some commands.
abbrev command_at : Text → List Shape → Option Shape
command_at name = find (λ s. answers_to name (label_of s))

request_at : (name : Text) (words : List Text) (shapes : List Shape) → AllAsk shapes
    → option_map_or (λ s. level_fault s [] nothing_held words false []) (command_at name shapes) [] ≡ []
    → is_some (option_map (λ s. rows_at s words) (command_at name shapes)) ≡ true
    → HasRequest (option_map (λ s. rows_at s words) (command_at name shapes))
request_at name words [] all quiet there = cc
request_at name words (s ∷ shapes) all quiet there = go (answers_to name (label_of s)) quiet there (request_at name words shapes all.1)
  where
    go : (b : Bool) → option_map_or (λ s. level_fault s [] nothing_held words false []) (cond b (Some s) (command_at name shapes)) [] ≡ []
        → is_some (option_map (λ s. rows_at s words) (cond b (Some s) (command_at name shapes))) ≡ true
        → (option_map_or (λ s. level_fault s [] nothing_held words false []) (command_at name shapes) [] ≡ []
        → is_some (option_map (λ s. rows_at s words) (command_at name shapes)) ≡ true
        → HasRequest (option_map (λ s. rows_at s words) (command_at name shapes)))
        → HasRequest (option_map (λ s. rows_at s words) (cond b (Some s) (command_at name shapes)))
    go true quiet there later = all.0 words quiet
    go false quiet there later = later quiet there

-- One of the commands has to be there.
some_command : (rows : List Row) (has : Bool) → check_fault bare_app.top rows has ≡ [] → has ≡ true
unfolding bare_app
some_command rows true checks = refl
some_command rows false checks = absurd (some_kind _ _ checks)

stop_request : (stop : Option (Text × List Text)) (rows : List Row) → entered_fault (built lockstep_app) stop ≡ []
    → check_fault (built lockstep_app).top rows (is_some (entered (built lockstep_app) stop)) ≡ []
    → HasRequest (entered (built lockstep_app) stop)
unfolding all_commands
stop_request None rows quiet checks = absurd (some_kind _ _ checks)
stop_request (Some p) rows quiet checks =
    request_at p.0 p.1 command_shapes all_ask quiet
    (some_command rows (is_some (option_map (λ s. rows_at s p.1) (command_at p.0 command_shapes))) checks)

quiet_request : (words : List Text) → fault_of lockstep_app words ≡ [] → HasRequest (subcommand_of lockstep_app words)
quiet_request words quiet =
    let app = built lockstep_app in
    let words_after = argument_words lockstep_app words in
    let end = walk app.top.rules (names_of app) nothing_held words_after in
    let walks = walk_fault app.top (names_of app) (walk_from nothing_held) words_after in
    let below = entered_fault app end.stopped in
    let settles = settle_fault app.top.rules app.top.args_override_self end.held in
    let defaults = defaults_fault (settled app.top.rules end.held).rows app.top.rules in
    let checks = check_fault app.top (finished app.top.rules end.held) (is_some (entered app end.stopped)) in
    let later : or_else below (or_else settles (or_else defaults checks)) ≡ [] = second_none walks (or_else below (or_else settles (or_else defaults checks))) quiet in
    stop_request end.stopped (finished app.top.rules end.held) (first_none below (or_else settles (or_else defaults checks)) later)
    (second_none defaults checks (second_none settles (or_else defaults checks) (second_none below (or_else settles (or_else defaults checks)) later)))

no_fault : (words : List Text) → is_accepted words ≡ true → fault_of lockstep_app words ≡ []
unfolding is_accepted
no_fault words accepted = is_nil (fault_of lockstep_app words) accepted

by_request : (words : List Text) → is_accepted words ≡ true → HasRequest (subcommand_of lockstep_app words)
    → (is_some (request_of words) ≡ true)
    ⊎ (NamesRefused (subcommand_of lockstep_app words) ⊎ (CellRefused (subcommand_of lockstep_app words)
    ⊎ (PlayerRefused (subcommand_of lockstep_app words) ⊎ PortsRefused (subcommand_of lockstep_app words))))
unfolding request_of
by_request words accepted found = rw accepted found

pub accepted_request : (words : List Text) → is_accepted words ≡ true → (is_some (request_of words) ≡ true)
    ⊎ (NamesRefused (subcommand_of lockstep_app words) ⊎ (CellRefused (subcommand_of lockstep_app words)
    ⊎ (PlayerRefused (subcommand_of lockstep_app words) ⊎ PortsRefused (subcommand_of lockstep_app words))))
accepted_request words accepted = by_request words accepted (quiet_request words (no_fault words accepted))
