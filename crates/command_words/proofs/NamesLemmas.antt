-- Arguments that are all names, after a command that takes names.
use Rattle.std.proofs.Common.{◌≡◌, ◌∙◌, ap, ap₂, sym, refl, true, false, List, [], ◌∷◌, Option, Some, None, codes, is_some}
use Rattle.std.specs.Prelude.{option_map, if◌then◌else◌}
use Rattle.std.specs.List.{All}
use Rattle.clap.specs.Walk.{Row, Text, Walk, walked, walk_from, nothing_held, settled, finished, is_empty}
use Rattle.clap.specs.Simple.{App, built, entered, names_of, subcommand_of}
use Rattle.clap.specs.Kinds.{Kinds, or_else}
use Rattle.clap.specs.Faults.{walk_fault, entered_fault, settle_fault, defaults_fault, check_fault, fault_of}
use Rattle.clap.proofs.WalkLemmas.{walk_stopped}
use Rattle.clap.proofs.FaultLemmas.{stopped_fault}
use Rattle.clap.proofs.OnLiterals.{clap_on_literals}
use Rattle.command_words.specs.RequestPlain.{Yaml, Check}
use Rattle.command_words.specs.Commands.{lockstep_app}
use Rattle.command_words.specs.Reading.{is_accepted, command_request, names_in, found_request, request_of, allowed}
use Rattle.command_words.proofs.OnCommands.{all_commands, request_on_literals}
use Rattle.command_words.proofs.PlainWordsLemmas.{IsPlain, level_quiet, rows_found, found_names}

-- The walk of the whole command line, which stopped at a command.
abbrev stopped : Text → List Text → Walk
stopped command words = record (walk_from nothing_held) { stopped = Some (command, words) }

-- The fault of a command line, by where its walk ended and the fault in it.
above_fault : App → Walk → Kinds → Kinds
above_fault app end kinds = or_else kinds (or_else (entered_fault app end.stopped)
    (or_else (settle_fault app.top.rules app.top.args_override_self end.held)
    (or_else (defaults_fault (settled app.top.rules end.held).rows app.top.rules)
    (check_fault app.top (finished app.top.rules end.held) (is_some (entered app end.stopped))))))

yaml_quiet : (program word : Text) (words : List Text) → All IsPlain (word ∷ words) → fault_of lockstep_app (program ∷ codes "yaml" ∷ word ∷ words) ≡ []
unfolding above_fault all_commands walked walk_fault defaults_fault
yaml_quiet program word words plain =
    let app = built lockstep_app in
    ap₂ (above_fault app)
    (sym (walk_stopped app.top.rules (names_of app) (walk_from nothing_held) (codes "yaml") [] (word ∷ words)))
    (stopped_fault app.top (names_of app) (walk_from nothing_held) (codes "yaml", []) (word ∷ words))
    ∙ ap (λ (kinds : Kinds). or_else kinds []) (level_quiet false (codes "yaml") word words plain)

yaml_found : (program word : Text) (words : List Text) → All IsPlain (word ∷ words)
    → subcommand_of lockstep_app (program ∷ codes "yaml" ∷ word ∷ words) ≡ Some (codes "yaml", found_names (word ∷ words))
unfolding all_commands walked
yaml_found program word words plain =
    let app = built lockstep_app in
    ap (λ (end : Walk). entered app end.stopped)
    (sym (walk_stopped app.top.rules (names_of app) (walk_from nothing_held) (codes "yaml") [] (word ∷ words)))
    ∙ ap (λ (rows : List Row). Some (codes "yaml", rows)) (rows_found false word words plain)

yaml_named : (word : Text) (words : List Text) → found_request (Some (codes "yaml", found_names (word ∷ words))) ≡ option_map Yaml (allowed 1 (word ∷ words))
unfolding command_request names_in
yaml_named word words = refl

yaml_nothing : (program : Text) → request_of (program ∷ codes "yaml" ∷ []) ≡ None
unfolding request_on_literals all_commands clap_on_literals
yaml_nothing program = refl

pub yaml_names : (program : Text) (names : List Text) → All IsPlain names → request_of (program ∷ codes "yaml" ∷ names) ≡ option_map Yaml (allowed 1 names)
unfolding request_of is_accepted
yaml_names program [] plain = yaml_nothing program
yaml_names program (word ∷ words) plain =
    ap₂ (λ (kinds : Kinds) (found : Option (Text × List Row)). if is_empty kinds then found_request found else None)
    (yaml_quiet program word words plain) (yaml_found program word words plain)
    ∙ yaml_named word words

check_quiet : (program word : Text) (words : List Text) → All IsPlain (word ∷ words) → fault_of lockstep_app (program ∷ codes "check" ∷ word ∷ words) ≡ []
unfolding above_fault all_commands walked walk_fault defaults_fault
check_quiet program word words plain =
    let app = built lockstep_app in
    ap₂ (above_fault app)
    (sym (walk_stopped app.top.rules (names_of app) (walk_from nothing_held) (codes "check") [] (word ∷ words)))
    (stopped_fault app.top (names_of app) (walk_from nothing_held) (codes "check", []) (word ∷ words))
    ∙ ap (λ (kinds : Kinds). or_else kinds []) (level_quiet true (codes "check") word words plain)

check_found : (program word : Text) (words : List Text) → All IsPlain (word ∷ words)
    → subcommand_of lockstep_app (program ∷ codes "check" ∷ word ∷ words) ≡ Some (codes "check", found_names (word ∷ words))
unfolding all_commands walked
check_found program word words plain =
    let app = built lockstep_app in
    ap (λ (end : Walk). entered app end.stopped)
    (sym (walk_stopped app.top.rules (names_of app) (walk_from nothing_held) (codes "check") [] (word ∷ words)))
    ∙ ap (λ (rows : List Row). Some (codes "check", rows)) (rows_found true word words plain)

check_named : (word : Text) (words : List Text) → found_request (Some (codes "check", found_names (word ∷ words))) ≡ option_map (Check None) (allowed 1 (word ∷ words))
unfolding command_request names_in
check_named word words = refl

check_nothing : (program : Text) → request_of (program ∷ codes "check" ∷ []) ≡ None
unfolding request_on_literals all_commands clap_on_literals
check_nothing program = refl

pub check_names : (program : Text) (names : List Text) → All IsPlain names → request_of (program ∷ codes "check" ∷ names) ≡ option_map (Check None) (allowed 1 names)
unfolding request_of is_accepted
check_names program [] plain = check_nothing program
check_names program (word ∷ words) plain =
    ap₂ (λ (kinds : Kinds) (found : Option (Text × List Row)). if is_empty kinds then found_request found else None)
    (check_quiet program word words plain) (check_found program word words plain)
    ∙ check_named word words
