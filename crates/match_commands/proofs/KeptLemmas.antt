-- What was written keeps its match, over plain values.
use Rattle.std.proofs.Common.{◌≡◌, ◌≢◌, ℕ, List, Option, None, Some, Result, Ok, Err, IfSome, IfOk, sym, ap, subst, ◌∙◌, inl, inr, arith}
use Rattle.std.specs.Prelude.{option_and_then}
use Rattle.base.specs.Steps.{◌>>=◌}
use Rattle.command_words.specs.RequestPlain.{RequestPlain, MatchPlain, Drill}
use Rattle.drill_words.specs.declared.drill.Drill as words
use Rattle.drill_words.specs.Drill.{DrillPlain, plain_of}
use Rattle.game_io.specs.DiskState.{DiskState}
use Rattle.game_io.specs.Files.{Files}
use Rattle.game_io.specs.SinkState.{SinkState}
use Rattle.game_model.specs.Setup.{Setup}
use Rattle.command_answers.specs.declared.answer.Answer.{Answer}
use Rattle.command_answers.specs.declared.statuses.TheConstants.{DONE, OUT_OF_MEMORY}
use Rattle.command_answers.specs.declared.stop.Stop.{Stop}
use Rattle.command_answers.specs.declared.stop.Stop.TheVariants.{Refused, ReadFault, NoMemory}
use Rattle.command_answers.specs.Answer.{reply_of}
use Rattle.command_answers.specs.Contents.{Contents, contents_of}
use Rattle.command_answers.specs.FileWrite.{FileWrite}
use Rattle.command_answers.proofs.OptionLemmas.{map_some}
use Rattle.command_answers.specs.Reply.{Reply}
use Rattle.command_answers.specs.Step.{Step, replied}
use Rattle.command_answers.specs.Stop.{PrintsStop, ReturnsStep}
use Rattle.command_answers.specs.WantedFiles.{WantedFiles}
use Rattle.command_answers.specs.Writing.{PrintsAnswer}
use Rattle.replay_commands.specs.Records.{drill_record, ReplaysDrill}
use Rattle.match_commands.specs.Drills.{numbered_step, recording_reply, RecordReplays}
use Rattle.match_commands.specs.KeptMatches.{IsOfWritten, KeepsDrill, KeepsIfDone}
use Rattle.match_commands.specs.Request.{wanted, given_reply}

-- A step has one value.
one_value : {T : Type 0} (step : Step T) (value other : T) → step ≡ Ok value → step ≡ Ok other → value ≡ other
one_value (Ok found) value other is also =
    let first : found ≡ value = cc in
    let second : found ≡ other = cc in
    sym first ∙ second
one_value (Err reply) value other is also = absurd cc

-- A command that stopped is not done.
pub stopped_short : (stop : Stop) (status : ℕ) (s s' : SinkState) → PrintsStop stop status s s' → status ≢ DONE
stopped_short (Refused name place cause) status s s' (inl (inl wrote)) done = absurd (omega (arith, wrote.0, done))
stopped_short (Refused name place cause) status s s' (inl (inr cut)) done = absurd (omega (arith, cut.0, done))
stopped_short (Refused name place cause) status s s' (inr memory) done = absurd (omega (arith, memory.0, done))
stopped_short ReadFault status s s' (inl wrote) done = absurd (omega (arith, wrote.0, done))
stopped_short ReadFault status s s' (inr cut) done = absurd (omega (arith, cut.0, done))
stopped_short NoMemory status s s' memory done = absurd (omega (arith, memory.0, done))

-- The files were read, and of the reply to their contents this holds.
pub kept_over :
    (Keeps : Contents → Option FileWrite → Type 0) (request : RequestPlain) (all : WantedFiles) (contents : Contents) (observable : Option Files) →
    wanted request ≡ all → IfSome observable (λ files. contents_of all files ≡ Ok contents) →
    Keeps contents (given_reply request contents).write → IsOfWritten Keeps request observable
kept_over Keeps request all contents observable wants read keeps = map_some observable _ _ each read
  where
    each : (files : Files) → contents_of all files ≡ Ok contents → (other : Contents) → contents_of (wanted request) files ≡ Ok other →
        Keeps other (given_reply request other).write
    each files found other is =
        let same = one_value (contents_of all files) contents other found (ap (λ wants. contents_of wants files) (sym wants) ∙ is) in
        subst (λ (contents : Contents). Keeps contents (given_reply request contents).write) same keeps

-- An answer was printed and its file written, or the stop before it was printed.
pub answer_kept :
    (Keeps : Option FileWrite → Type 0) (answer : Result Answer Stop) (step : Step Reply) (status : ℕ) (d d' : DiskState) (s s' : SinkState) →
    ReturnsStep answer reply_of step → IfOk answer (λ answer. Keeps (reply_of answer).write) → PrintsAnswer answer status d d' s s' →
    status ≡ DONE → Keeps (replied step).write
answer_kept Keeps (Ok answer) step status d d' s s' returns keeps prints done =
    subst (λ (step : Step Reply). Keeps (replied step).write) (sym returns) keeps
answer_kept Keeps (Err stop) step status d d' s s' returns keeps prints done =
    absurd (stopped_short stop status s s' prints.0 done)

-- What is so over what was made is so over whatever is the same.
pub made_kept :
    (Keeps : Setup × ℕ → Option FileWrite → Type 0) (answer : Result Answer Stop) (step : Step (Setup × ℕ)) (made : Setup × ℕ) →
    step ≡ Ok made → IfOk answer (λ answer. Keeps made (reply_of answer).write) →
    IfOk answer (λ answer. (other : Setup × ℕ) → step ≡ Ok other → Keeps other (reply_of answer).write)
made_kept Keeps (Ok answer) step made is keeps = λ other also.
    subst (λ (made : Setup × ℕ). Keeps made (reply_of answer).write) (one_value step made other is also) keeps
made_kept Keeps (Err stop) step made is keeps = tt

-- The record of a drill is that of its reply.
pub record_kept :
    (query : MatchPlain) (name : List ℕ) (contents : Contents) (made : Result (Setup × words.Drill × ℕ) Stop) →
    ReturnsStep made (λ made. (made.0, plain_of made.1, made.2)) (numbered_step query contents) → RecordReplays made →
    KeepsDrill query contents (given_reply (Drill query (Some name)) contents).write
record_kept query name contents (Ok made) returns replays = λ other is.
    let all : Setup × DrillPlain × ℕ = (made.0, plain_of made.1, made.2) in
    let same = one_value (numbered_step query contents) all other returns is in
    subst
    (λ (step : Step (Setup × DrillPlain × ℕ)). IfSome (replied (step >>= λ made. Ok (recording_reply name made.2 made.0 made.1))).write
    (λ file. ReplaysDrill other.2 other.0 other.1 file.bytes))
    (sym is)
    (subst (λ (made : Setup × DrillPlain × ℕ). ReplaysDrill made.2 made.0 made.1 (drill_record made.2 made.0 made.1)) same replays)
record_kept query name contents (Err stop) returns replays = absurd replays

-- The words name a request, whose file keeps its match.
pub named_keeps :
    (own : RequestPlain → Option RequestPlain) (named : Option RequestPlain) (request : RequestPlain) (status : ℕ) (observable : Option Files) →
    named ≡ Some request → KeepsIfDone (own request) status observable → KeepsIfDone (option_and_then own named) status observable
named_keeps own named request status observable is keeps =
    subst (λ (named : Option RequestPlain). KeepsIfDone (option_and_then own named) status observable) (sym is) keeps

pub refused_keeps :
    (own : RequestPlain → Option RequestPlain) (named : Option RequestPlain) (status : ℕ) (observable : Option Files) →
    named ≡ None → KeepsIfDone (option_and_then own named) status observable
refused_keeps own named status observable is =
    subst (λ (named : Option RequestPlain). KeepsIfDone (option_and_then own named) status observable) (sym is) (λ done. tt)

-- No command is done where memory ran out.
pub memory_keeps : (request : Option RequestPlain) (observable : Option Files) → KeepsIfDone request OUT_OF_MEMORY observable
memory_keeps request observable = λ done. absurd (omega (arith, done))
