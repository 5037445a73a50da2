-- The report of a drill that was read, and its record, or why there is none.
use Rattle.std.proofs.Common.{◌≡◌, ◌≤◌, ℕ, List, Option, Some, Result, Ok, Err, refl, sym, subst, inr, ◌∙◌}
use Rattle.base.specs.Steps.{◌>>=◌}
use Rattle.drill_words.specs.declared.drill.Drill.{Drill}
use Rattle.drill_words.specs.Drill.{DrillPlain, plain_of}
use Rattle.game_io.specs.DiskState.{DiskState}
use Rattle.game_io.specs.SinkState.{SinkState}
use Rattle.game_model.specs.Setup.{Setup}
use Rattle.command_answers.specs.declared.stop.Stop.{Stop}
use Rattle.command_answers.proofs.CausesLemmas.{done_settled}
use Rattle.command_answers.specs.Reply.{done}
use Rattle.command_answers.specs.Step.{Step, replied}
use Rattle.command_answers.specs.Stop.{ReturnsStep}
use Rattle.match_commands.specs.Drills.{drill_report, recording_reply, PrintsReport, RecordsDrill}
use Rattle.match_commands.proofs.RequestLemmas.{Printed, alone_printed, stop_printed}
use Rattle.match_commands.proofs.AnswerLemmas.{reply_printed}

pub report_printed :
    (written : Option (List ℕ)) (made : Result (Setup × Drill) Stop) (step : Step (Setup × DrillPlain)) (status : ℕ) (d d' : DiskState) (s s' : SinkState) →
    d'.files ≡ d.files → ReturnsStep made (λ made. (made.0, plain_of made.1)) step → PrintsReport made status s s' →
    Printed written (replied (step >>= λ made. Ok (done (drill_report made.0 made.1)))) status d d' s s'
report_printed written (Ok made) step status d d' s s' same returns prints =
    subst (λ step. Printed written (replied (step >>= λ made. Ok (done (drill_report made.0 made.1)))) status d d' s s') (sym returns)
    (alone_printed written (done (drill_report made.0 (plain_of made.1))) status d d' s s' done_settled refl same prints)
report_printed written (Err stop) step status d d' s s' same returns prints =
    stop_printed written stop step (λ made. Ok (done (drill_report made.0 made.1))) status d d' s s' same returns prints

-- The same for a drill that is recorded. Files were read before, at `d`.
pub record_printed :
    (name : List ℕ) (made : Result (Setup × Drill × ℕ) Stop) (step : Step (Setup × DrillPlain × ℕ)) (status : ℕ) (d d1 d' : DiskState) (s s' : SinkState) →
    d1.files ≡ d.files → d.faults ≤ d1.faults → ReturnsStep made (λ made. (made.0, plain_of made.1, made.2)) step →
    RecordsDrill name made status d1 d' s s' →
    Printed (Some name) (replied (step >>= λ made. Ok (recording_reply name made.2 made.0 made.1))) status d d' s s'
record_printed name (Ok made) step status d d1 d' s s' same later returns prints =
    subst (λ step. Printed (Some name) (replied (step >>= λ made. Ok (recording_reply name made.2 made.0 made.1))) status d d' s s') (sym returns)
    (reply_printed (Some name) (recording_reply name made.2 made.0 (plain_of made.1)) status d d1 d' s s' same later
    (record { settled = done_settled; named = inr refl }) prints)
record_printed name (Err stop) step status d d1 d' s s' same later returns prints =
    stop_printed (Some name) stop step (λ made. Ok (recording_reply name made.2 made.0 made.1)) status d d' s s' (prints.1 ∙ same) returns prints.0
