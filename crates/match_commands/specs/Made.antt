-- The answer to the command `make`: the made match over the sample rules and the sample map.
use Rattle.std.specs.Prelude.{ℕ, List, [], ◌∷◌, ◌++◌, Some, Ok, length, codes}
use Rattle.std.specs.Fmt.{decimal}
use Rattle.base.specs.Steps.{◌>>=◌}
use Rattle.frame_core.specs.Match.{Match}
use Rattle.game_model.specs.Setup.{Setup}
use Rattle.map_grid.specs.declared.sample.TheConstants.{SAMPLE_MAP}
use Rattle.rule_traits.specs.declared.sample.TheConstants.{SAMPLE_RULES}
use Rattle.drill_words.specs.Drill.{DrillPlain}
use Rattle.drill_words.specs.declared.event.Event.{Event}
use Rattle.drill.specs.MadeDrill.{made_drill_of}
use Rattle.drill.specs.Record.{record_of}
use Rattle.drill.specs.Report.{closing}
use Rattle.drill.specs.Shown.{shown_server, shown_peers}
use Rattle.command_answers.specs.Step.{Step}
use Rattle.rule_commands.specs.Setups.{setup_step}
use Rattle.replay_commands.specs.Matches.{game_match}

-- The sample rules and the sample map that are built into the program, read as files are.
abbrev pub sample_step : Step Setup
sample_step =
    setup_step (codes "sample rules" ∷ []) (SAMPLE_RULES.now ∷ []) (Some (codes "sample map"))
    (Some SAMPLE_MAP.now)

-- The report of a match from its first line of a column on.
abbrev pub closing_of : {W : Type 0} → Match W → List Event → List ℕ
closing_of m events =
    closing m.hash m.summary (shown_server m (record_of m events))
    (shown_peers m (record_of m events))

-- The first line: the number of events.
unfoldable pub made_line : ℕ → List ℕ
made_line events = codes "made " ++ decimal events ++ codes " events\n"

-- The number of the drill's events, and the end of its report.
unfoldable pub made_text : Setup → DrillPlain → List ℕ
made_text setup drill =
    made_line (length drill.events) ++ closing_of (game_match setup drill) drill.events

abbrev pub make_step : ℕ → Step (List ℕ)
make_step number = do
  setup ← sample_step
  Ok (made_text setup (made_drill_of number))
