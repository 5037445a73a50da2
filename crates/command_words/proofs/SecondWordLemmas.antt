-- The second word of a command line is the command of the request that it names.
use Rattle.std.proofs.Common.{◌≡◌, ◌∙◌, ◌||◌, ap, sym, subst, refl, Bool, true, false, cond, true≢false, ℕ, zero, suc, List, [], ◌∷◌, map, length, Option, Some, None, is_some, codes}
use Rattle.std.proofs.lemmas.Option.{none-some}
use Rattle.std.proofs.lemmas.Slice.Eq.{bytes_eq-Decides}
use Rattle.std.specs.Prelude.{find, fold, option_map, option_and_then, slice_get, IfSome}
use Rattle.std.specs.List.{list_all}
use Rattle.std.specs.Option.{option_map_or}
use Rattle.std.specs.Str.{bytes_eq, chars}
use Rattle.clap.specs.Lexer.{long_of, short_of}
use Rattle.clap.specs.Walk.{Held, Names, Row, Text, Step, Walk, answers_to, nothing_held, walk, walk_from, walked, after_step, subcommand_met, subcommand_or_other, long_or_other, short_or_plain, after_flag, bundle_met, bundle_step, first_of, finished, settled, is_empty}
use Rattle.clap.specs.Walk.{idle, plain, trailing}
use Rattle.clap.specs.Simple.{Shape, built, entered, rows_at, label_of, names_of, subcommand_of}
use Rattle.clap.specs.Kinds.{Kinds, or_else}
use Rattle.clap.specs.Faults.{flag_word_fault, flags_fault, bundle_fault, bundle_step_fault, other_fault, step_fault, stray_fault, turn_fault, walk_fault, settle_fault, defaults_fault, check_fault, entered_fault, fault_of}
use Rattle.clap.specs.declared.error.kind.ErrorKind.TheVariants.{UnknownArgument, InvalidSubcommand}
use Rattle.clap.proofs.SimpleLemmas.{is_nil}
use Rattle.clap.proofs.WalkLemmas.{both, walk_stopped}
use Rattle.command_words.specs.CommandNames.{command_of}
use Rattle.command_words.specs.Commands.{lockstep_app}
use Rattle.command_words.specs.RequestPlain.{RequestPlain, Drill, Yaml, Check, Route, Make, Local, Serve, Replay, Migrate, Save, Continue, View, Worlds, Compare, Datagrams, PlayBot}
use Rattle.command_words.specs.Player.{PlayerPlain, Script, Bot}
use Rattle.game_orders.specs.declared.limits.TheConstants.{MAX_FRAMES}
use Rattle.command_words.specs.Reading.{at_most, has_flag, player_in, played_by, is_accepted, command_request, names_in, number_in, bots_in, match_in, local_in, play_in, serve_in, migrate_in, route_in, save_in, continue_in, view_in, range_in, worlds_in, compare_in, found_request, request_of}
use Rattle.command_words.proofs.OnCommands.{all_commands}
use Rattle.command_words.proofs.LiteralLemmas.{no_words, alone}
use Rattle.command_words.proofs.FoundValuesLemmas.{first_none, some_kind}

-- ---- the request of a command

-- The request, if there is one, is one of this command.
abbrev IsOf : Text → Option RequestPlain → Type 0
IsOf command request = IfSome request (λ request. command_of request ≡ command)

made_of : {T : Type 0} (make : T → RequestPlain) (command : Text) → ((value : T) → command_of (make value) ≡ command) → (value : Option T) → IsOf command (option_map make value)
made_of make command each None = tt
made_of make command each (Some value) = each value

-- A command that is this one has its request, and any other one the rest.
by_name : (command name : Text) (first rest : Option RequestPlain) → IsOf name first → IsOf command rest → IsOf command (cond (bytes_eq command name) first rest)
by_name command name first rest own others = go (bytes_eq command name) refl
  where
    go : (b : Bool) → bytes_eq command name ≡ b → IsOf command (cond b first rest)
    go true same = subst (λ n. IsOf n first) (sym ((bytes_eq-Decides command name).0 same)) own
    go false same = others

then_of : {T : Type 0} (next : T → Option RequestPlain) (command : Text) → ((value : T) → IsOf command (next value)) → (value : Option T) → IsOf command (option_and_then next value)
then_of next command each None = tt
then_of next command each (Some value) = each value

local_of : (found : List Row) → IsOf (codes "local") (local_in found)
unfolding local_in
local_of found =
    then_of _ (codes "local") (λ bots. made_of (λ query. Local query bots) (codes "local") (λ query. refl) (match_in (codes "script") found)) (bots_in found)

played_of : (at : Text) (is_quiet : Bool) (map_file : Option Text) (rules : List Text) (player : PlayerPlain) → IsOf (codes "play") (played_by at is_quiet map_file rules player)
played_of at is_quiet map_file rules (Script file) = refl
played_of at is_quiet map_file rules (Bot frames) =
    made_of (λ frames. PlayBot (record { at = at; frames = frames; is_quiet = is_quiet; map_file = map_file; rules = rules })) (codes "play") (λ frames. refl) (at_most MAX_FRAMES frames)

play_of : (found : List Row) → IsOf (codes "play") (play_in found)
unfolding play_in
play_of found =
    then_of _ (codes "play") (λ at. then_of _ (codes "play") (λ player. then_of _ (codes "play")
    (λ rules. played_of at (has_flag (codes "quiet") found) (first_of (codes "map") found) rules player) (names_in 0 found)) (player_in found)) (first_of (codes "at") found)

migrate_of : (found : List Row) → IsOf (codes "migrate") (migrate_in found)
unfolding migrate_in
migrate_of found =
    then_of _ (codes "migrate") (λ to. made_of (λ query. Migrate query to) (codes "migrate") (λ query. refl) (match_in (codes "file") found)) (first_of (codes "to") found)

save_of : (found : List Row) → IsOf (codes "save") (save_in found)
unfolding save_in
save_of found =
    then_of _ (codes "save") (λ frames. then_of _ (codes "save")
    (λ to. made_of (λ query. Save query frames to) (codes "save") (λ query. refl) (match_in (codes "file") found)) (first_of (codes "to") found)) (number_in (codes "frames") found)

continue_of : (found : List Row) → IsOf (codes "continue") (continue_in found)
unfolding continue_in
continue_of found =
    then_of _ (codes "continue") (λ save. made_of (λ query. Continue query save) (codes "continue") (λ query. refl) (match_in (codes "file") found))
    (first_of (codes "save") found)

view_of : (found : List Row) → IsOf (codes "view") (view_in found)
unfolding view_in
view_of found =
    then_of _ (codes "view") (λ client. made_of (λ query. View query client) (codes "view") (λ query. refl) (match_in (codes "file") found))
    (number_in (codes "client") found)

worlds_of : (found : List Row) → IsOf (codes "worlds") (worlds_in found)
unfolding worlds_in
worlds_of found =
    then_of _ (codes "worlds") (λ range. made_of (λ query. Worlds query range) (codes "worlds") (λ query. refl) (match_in (codes "file") found)) (range_in found)

compare_of : (found : List Row) → IsOf (codes "compare") (compare_in found)
unfolding compare_in
compare_of found =
    then_of _ (codes "compare") (λ second. made_of (λ query. Compare query second) (codes "compare") (λ query. refl) (match_in (codes "file") found))
    (first_of (codes "with") found)

request_is_of : (command : Text) (found : List Row) → IsOf command (command_request command found)
unfolding command_request
request_is_of command found =
    by_name command (codes "drill") _ _ (made_of (λ query. Drill query (first_of (codes "record") found)) (codes "drill") (λ query. refl) (match_in (codes "script") found))
    (by_name command (codes "yaml") _ _ (made_of Yaml (codes "yaml") (λ names. refl) (names_in 1 found))
    (by_name command (codes "check") _ _ (made_of (Check (first_of (codes "map") found)) (codes "check") (λ names. refl) (names_in 1 found))
    (by_name command (codes "route") _ _ (made_of Route (codes "route") (λ query. refl) (route_in found))
    (by_name command (codes "make") _ _ (made_of Make (codes "make") (λ number. refl) (number_in (codes "number") found))
    (by_name command (codes "local") _ _ (local_of found)
    (by_name command (codes "serve") _ _ (made_of Serve (codes "serve") (λ query. refl) (serve_in found))
    (by_name command (codes "play") _ _ (play_of found)
    (by_name command (codes "replay") _ _ (made_of Replay (codes "replay") (λ query. refl) (match_in (codes "file") found))
    (by_name command (codes "migrate") _ _ (migrate_of found)
    (by_name command (codes "save") _ _ (save_of found)
    (by_name command (codes "continue") _ _ (continue_of found)
    (by_name command (codes "view") _ _ (view_of found)
    (by_name command (codes "worlds") _ _ (worlds_of found)
    (by_name command (codes "compare") _ _ (compare_of found)
    (by_name command (codes "datagrams") _ _ (made_of Datagrams (codes "datagrams") (λ script. refl) (first_of (codes "script") found)) tt)))))))))))))))

-- ---- the first word, where only commands stand

-- The level above the commands, which has no arguments of its own.
abbrev above : Shape → Shape
above s = record s { rules = [] }

-- The fault of a first word that is met as this.
abbrev met_fault : Shape → Kinds → Held × Step → Kinds
met_fault s kinds met = or_else kinds (step_fault (above s) 1 met.0 met.1)

-- A word that is no command and no flag.
no_stray : (s : Shape) → stray_fault (above s) ≡ [] → ⊥
no_stray s quiet = go s.is_leaf quiet
  where
    go : (b : Bool) → cond b (UnknownArgument ∷ []) (UnknownArgument ∷ InvalidSubcommand ∷ []) ≡ [] → ⊥
    go true quiet = some_kind _ _ quiet
    go false quiet = some_kind _ _ quiet

no_flags : (s : Shape) (word flags : Text) (k : ℕ) (h : Held)
    → met_fault s (flags_fault [] s.args_override_self k flags 0 h) (after_flag [] idle word (bundle_met [] k flags 0 plain h).0 (bundle_met [] k flags 0 plain h).1) ≡ [] → ⊥
unfolding flags_fault bundle_met
no_flags s word flags zero h quiet = no_stray s quiet
no_flags s word flags (suc k) h quiet = go (slice_get (chars flags) 0) quiet
  where
    go : (first : Option ℕ)
        → met_fault s (bundle_step_fault [] s.args_override_self first flags 0 h (flags_fault [] s.args_override_self k))
        (after_flag [] idle word (bundle_step [] first flags 0 plain h (bundle_met [] k)).0 (bundle_step [] first flags 0 plain h (bundle_met [] k)).1) ≡ [] → ⊥
    go None quiet = no_stray s quiet
    go (Some x) quiet = some_kind _ _ quiet

no_other : (s : Shape) (word : Text)
    → met_fault s (flag_word_fault [] s.args_override_self (long_of word) word nothing_held) (long_or_other [] idle word (long_of word) nothing_held) ≡ [] → ⊥
no_other s word quiet = by_long (long_of word) quiet
  where
    by_short : (flags : Option Text)
        → met_fault s (option_map_or (λ flags. bundle_fault [] s.args_override_self flags nothing_held) flags []) (short_or_plain [] idle word flags nothing_held) ≡ [] → ⊥
    by_short None quiet = no_stray s quiet
    by_short (Some flags) quiet = no_flags s word flags (length flags) nothing_held quiet

    by_long : (long : Option (Text × Option Text))
        → met_fault s (flag_word_fault [] s.args_override_self long word nothing_held) (long_or_other [] idle word long nothing_held) ≡ [] → ⊥
    by_long None quiet = by_short (short_of word) quiet
    by_long (Some p) quiet = some_kind _ _ quiet

-- After `--` no command is met.
abbrev trailing_walk : Walk
trailing_walk = record (walk_from nothing_held) { is_trailing = true }

trailing_ends : (names : Names) (words : List Text) → (fold (walked [] names) trailing_walk words).stopped ≡ None
unfolding walked
trailing_ends names [] = refl
trailing_ends names (word ∷ words) = trailing_ends names words

-- The walk after a first word that names this command, if it names one.
abbrev after_first : Text → Option Text → Walk
after_first word named =
    after_step [] word (walk_from nothing_held) (subcommand_or_other [] named idle 1 word nothing_held).0
    (subcommand_or_other [] named idle 1 word nothing_held).1

-- Where the walk stops: at the command that the first word names, or nowhere.
stops_at : (s : Shape) (names : Names) (word : Text) (words : List Text)
    → walk_fault (above s) names (walk_from nothing_held) (word ∷ words) ≡ []
    → (walk [] names nothing_held (word ∷ words)).stopped ≡ option_map (λ name. (name, words)) (subcommand_met names idle word)
unfolding walked walk_fault
stops_at s names word words quiet =
    go (subcommand_met names idle word)
    (first_none (turn_fault (above s) names (walk_from nothing_held) word) (walk_fault (above s) names (walked [] names (walk_from nothing_held) word) words) quiet)
  where
    by_dashes : (b : Bool)
        → met_fault s (cond b [] (flag_word_fault [] s.args_override_self (long_of word) word nothing_held)) (cond b (nothing_held, trailing 1) (long_or_other [] idle word (long_of word) nothing_held)) ≡ []
        → (fold (walked [] names) (after_step [] word (walk_from nothing_held) (cond b (nothing_held, trailing 1) (long_or_other [] idle word (long_of word) nothing_held)).0 (cond b (nothing_held, trailing 1) (long_or_other [] idle word (long_of word) nothing_held)).1) words).stopped ≡ None
    by_dashes true quiet = trailing_ends names words
    by_dashes false quiet = absurd (no_other s word quiet)

    go : (named : Option Text)
        → met_fault s (other_fault (above s) named word nothing_held) (subcommand_or_other [] named idle 1 word nothing_held) ≡ []
        → (fold (walked [] names) (after_first word named) words).stopped ≡ option_map (λ name. (name, words)) named
    go None quiet = by_dashes (bytes_eq word (45 ∷ 45 ∷ [])) quiet
    go (Some name) quiet = sym (ap (λ (end : Walk). end.stopped) (walk_stopped [] names (walk_from nothing_held) name [] words))

-- ---- commands have one name each

abbrev HaveOneName : List Shape → Type 0
HaveOneName [] = Unit {0}
HaveOneName (s ∷ shapes) = (s.aliases ≡ []) × HaveOneName shapes

one_name : (shapes : List Shape) → list_all (λ (s : Shape). is_empty s.aliases) shapes ≡ true → HaveOneName shapes
one_name [] none = tt
one_name (s ∷ shapes) none =
    let parts = both (is_empty s.aliases) (list_all (λ (s : Shape). is_empty s.aliases) shapes) none in
    (is_nil s.aliases parts.0, one_name shapes parts.1)

answers : (word name : Text) (aliases : List Text) → aliases ≡ [] → answers_to word (name, aliases) ≡ true → name ≡ word
answers word name [] one is = go (bytes_eq name word) refl is
  where
    go : (b : Bool) → bytes_eq name word ≡ b → (b || false) ≡ true → name ≡ word
    go true same is = (bytes_eq-Decides name word).0 same
    go false same is = absurd (true≢false (sym is))
answers word name (alias ∷ aliases) one is = cc

name_met : (shapes : List Shape) → HaveOneName shapes → (word : Text) → IfSome (option_map (λ s. s.0) (find (answers_to word) (map label_of shapes))) (λ name. name ≡ word)
name_met [] one word = tt
name_met (s ∷ shapes) one word = go (answers_to word (label_of s)) refl (name_met shapes one.1 word)
  where
    go : (b : Bool) → answers_to word (label_of s) ≡ b → IfSome (option_map (λ s. s.0) (find (answers_to word) (map label_of shapes))) (λ name. name ≡ word)
        → IfSome (option_map (λ s. s.0) (cond b (Some (label_of s)) (find (answers_to word) (map label_of shapes)))) (λ name. name ≡ word)
    go true is later = answers word s.name s.aliases one.0 is
    go false is later = later

name_entered : (shapes : List Shape) → HaveOneName shapes → (name : Text) (words : List Text)
    → IfSome (option_map (λ s. rows_at s words) (find (λ s. answers_to name (label_of s)) shapes)) (λ found. found.0 ≡ name)
name_entered [] one name words = tt
name_entered (s ∷ shapes) one name words = go (answers_to name (label_of s)) refl (name_entered shapes one.1 name words)
  where
    go : (b : Bool) → answers_to name (label_of s) ≡ b
        → IfSome (option_map (λ s. rows_at s words) (find (λ s. answers_to name (label_of s)) shapes)) (λ found. found.0 ≡ name)
        → IfSome (option_map (λ s. rows_at s words) (cond b (Some s) (find (λ s. answers_to name (label_of s)) shapes))) (λ found. found.0 ≡ name)
    go true is later = answers name s.name s.aliases one.0 is
    go false is later = later

found_of : (word name : Text) → name ≡ word → (found : Option (Text × List Row)) → IfSome found (λ found. found.0 ≡ name) → IsOf word (found_request found)
found_of word name same None is = tt
found_of word name same (Some found) is = subst (λ n. IsOf n (command_request found.0 found.1)) (is ∙ same) (request_is_of found.0 found.1)

-- What is asked for below the command that a word names, if it names one.
named_of : (shapes : List Shape) → HaveOneName shapes → (word : Text) (words : List Text) (named : Option Text) → IfSome named (λ name. name ≡ word)
    → IsOf word (found_request (option_and_then (λ (p : Text × List Text). option_map (λ s. rows_at s p.1) (find (λ s. answers_to p.0 (label_of s)) shapes)) (option_map (λ name. (name, words)) named)))
named_of shapes one word words None same = tt
named_of shapes one word words (Some name) same =
    found_of word name same (option_map (λ s. rows_at s words) (find (λ s. answers_to name (label_of s)) shapes)) (name_entered shapes one name words)

-- ---- the whole command line

all_one_name : HaveOneName (built lockstep_app).subs
unfolding all_commands
all_one_name = one_name (built lockstep_app).subs refl

quiet_walk : (program word : Text) (words : List Text) → fault_of lockstep_app (program ∷ word ∷ words) ≡ []
    → walk_fault (above (built lockstep_app).top) (names_of (built lockstep_app)) (walk_from nothing_held) (word ∷ words) ≡ []
unfolding all_commands
quiet_walk program word words quiet =
    let app = built lockstep_app in
    let end = walk app.top.rules (names_of app) nothing_held (word ∷ words) in
    first_none (walk_fault app.top (names_of app) (walk_from nothing_held) (word ∷ words))
    (or_else (entered_fault app end.stopped)
    (or_else (settle_fault app.top.rules app.top.args_override_self end.held)
    (or_else (defaults_fault (settled app.top.rules end.held).rows app.top.rules)
    (check_fault app.top (finished app.top.rules end.held) (is_some (entered app end.stopped))))))
    quiet

accepted_of : (program word : Text) (words : List Text) → is_accepted (program ∷ word ∷ words) ≡ true → IsOf word (found_request (subcommand_of lockstep_app (program ∷ word ∷ words)))
unfolding is_accepted all_commands
accepted_of program word words accepted =
    let app = built lockstep_app in
    subst (λ stop. IsOf word (found_request (entered app stop)))
    (sym (stops_at app.top (names_of app) word words (quiet_walk program word words (is_nil (fault_of lockstep_app (program ∷ word ∷ words)) accepted))))
    (named_of app.subs all_one_name word words (subcommand_met (names_of app) idle word) (name_met app.subs all_one_name word))

pub command_comes_second : (words : List Text) (request : RequestPlain) → request_of words ≡ Some request → slice_get words 1 ≡ Some (command_of request)
unfolding request_of
command_comes_second [] request names = absurd (none-some request (sym no_words ∙ names))
command_comes_second (program ∷ []) request names = absurd (none-some request (sym (alone program) ∙ names))
command_comes_second (program ∷ word ∷ words) request names = go (is_accepted (program ∷ word ∷ words)) refl names
  where
    go : (b : Bool) → is_accepted (program ∷ word ∷ words) ≡ b → cond b (found_request (subcommand_of lockstep_app (program ∷ word ∷ words))) None ≡ Some request → Some word ≡ Some (command_of request)
    go true is names = ap (λ w. Some w) (sym (subst (IsOf word) names (accepted_of program word words is)))
    go false is names = absurd (none-some request names)
