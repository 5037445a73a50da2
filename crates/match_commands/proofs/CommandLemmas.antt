-- The second word of a command line tells which of the two top calls runs it.
use Rattle.std.proofs.Common.{◌≡◌, ◌∙◌, ap, sym, refl, List, ℕ, Bool, Some, is_some, map}
use Rattle.std.proofs.lemmas.Option.{slice_get-map}
use Rattle.std.specs.Prelude.{option_map, slice_get}
use Rattle.command_words.specs.CommandNames.{command_of}
use Rattle.command_words.specs.Reading.{request_of}
use Rattle.command_words.specs.RequestPlain.{RequestPlain, Drill, Yaml, Check, Route, Make, Local, Serve, Play, Replay, Migrate, Save, Continue, View, Worlds, Compare, Datagrams, PlayBot}
use Rattle.command_words.proofs.SecondWordLemmas.{command_comes_second}
use Rattle.match_commands.specs.TopCalls.{waiting, names_waiting}

command_waits : (request : RequestPlain) → names_waiting (Some (command_of request)) ≡ is_some (waiting request)
command_waits (Drill query record_file) = refl
command_waits (Yaml names) = refl
command_waits (Check map_file names) = refl
command_waits (Route query) = refl
command_waits (Make number) = refl
command_waits (Local query bots) = refl
command_waits (Serve query) = refl
command_waits (Play query at is_quiet) = refl
command_waits (PlayBot query) = refl
command_waits (Replay query) = refl
command_waits (Migrate query to) = refl
command_waits (Save query frames to) = refl
command_waits (Continue query save) = refl
command_waits (View query client) = refl
command_waits (Worlds query range) = refl
command_waits (Compare query second) = refl
command_waits (Datagrams script) = refl

-- What the second of some words tells, seen by `view`, is right of the request that they name.
pub second_tells :
    {T : Type 0} (view : T → List ℕ) (words : List T) (result : Bool) → result ≡ names_waiting (option_map view (slice_get words 1)) →
    (request : RequestPlain) → request_of (map view words) ≡ Some request → result ≡ is_some (waiting request)
second_tells view words result told request named =
    told
    ∙ ap names_waiting (sym (slice_get-map view words 1) ∙ command_comes_second (map view words) request named)
    ∙ command_waits request
