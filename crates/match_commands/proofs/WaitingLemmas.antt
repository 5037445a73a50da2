-- What is known of a run of `play`, over plain values.
use Rattle.std.specs.Prelude.{option_and_then}
use Rattle.std.proofs.Common.{◌≡◌, ◌≤◌, ◌⊎◌, ℕ, List, Option, None, Some, Result, Ok, Err, IsOk, IfSome, IfNone, refl, sym, ap, subst, inl, inr, arith, ◌∙◌}
use Rattle.base.specs.Cause.{Increased}
use Rattle.base.specs.Steps.{◌>>=◌}
use Rattle.game_model.specs.Setup.{Setup}
use Rattle.tick_core.specs.Game.{game_hash, game_summary}
use Rattle.game_io.specs.DiskState.{DiskState}
use Rattle.game_io.specs.Files.{Files}
use Rattle.game_io.specs.NetState.{NetState}
use Rattle.game_io.specs.SinkState.{SinkState}
use Rattle.game_io.specs.SourceState.{SourceState}
use Rattle.command_words.specs.RequestPlain.{RequestPlain, ServePlain, Drill, Yaml, Check, Route, Make, Local, Serve, Play, Replay, Migrate, Save, Continue, View, Worlds, Compare, Datagrams, PlayBot}
use Rattle.command_answers.specs.declared.statuses.TheConstants.{OUT_OF_MEMORY}
use Rattle.command_answers.specs.declared.stop.Stop.{Stop}
use Rattle.command_answers.specs.declared.stop.Stop.TheVariants.{NoMemory, ReadFault, Refused}
use Rattle.command_answers.specs.Causes.{Causes}
use Rattle.command_answers.proofs.CausesLemmas.{HasCauses, at_memory}
use Rattle.command_answers.specs.Environment.{environment}
use Rattle.command_answers.specs.Step.{Step}
use Rattle.command_answers.specs.Contents.{Contents, contents_of, AreContents, IsFirstThere}
use Rattle.command_answers.specs.Stop.{IsReadStop, IsOpaqueStop, PrintsStop, ReturnsStep}
use Rattle.command_answers.specs.WantedFiles.{WantedFiles, in_order, rules_and_map, with_script}
use Rattle.link_commands.specs.Links.{WithLinks, with_links, Begins, EndsBefore, causes_by}
use Rattle.link_commands.proofs.LinkLemmas.{IsCaused, linked_given, linked_stopped, stop_begins, stop_caused}
use Rattle.link_commands.specs.Plays.{LinkFailed, IsPlayDone}
use Rattle.link_commands.proofs.PlayLemmas.{plays_caused}
use Rattle.match_commands.specs.Plays.{PlayMeans, bot_means, bot_step, play_step, terms_of, PlaysFrom, PlaysOver}
use Rattle.serve_command.specs.Serves.{NetFailed, IsServeDone}
use Rattle.serve_command.proofs.ServeLemmas.{serves_caused}
use Rattle.match_commands.specs.Run.{ProgramRun}
use Rattle.match_commands.specs.Serves.{served_match, invite_of, serve_step, RunsServe, RunsServing, ServesAs, ServesFrom, ServesOver}
use Rattle.match_commands.specs.TopCalls.{waiting}
use Rattle.match_commands.specs.Waiting.{RunsWaiting}
use Rattle.match_commands.proofs.RecordedLemmas.{recorded_given, recorded_stopped, since}
use Rattle.match_commands.proofs.RequestLemmas.{request_stopped}
use Rattle.match_commands.proofs.RunLemmas.{request_runs}
use Rattle.match_commands.proofs.ServedReplaysLemmas.{IsRecordLaw}

-- From what the code plays by, or why it ended before it had that.
pub play_begins :
    {M : Type 0} (means : M → PlayMeans) (made : Result M Stop) (step : Step PlayMeans) (status : ℕ) (old new : WithLinks) →
    new.console ≡ old.console → ReturnsStep made means step → PlaysFrom means made status old.net new.net old.sink new.sink →
    Begins step (PlaysOver status old new) status old new ⊎ EndsBefore status old new
play_begins means (Ok made) step status old new same returns plays =
    inl (subst (λ step. Begins step (PlaysOver status old new) status old new) (sym returns) (plays, same))
play_begins means (Err stop) step status old new same returns plays =
    stop_begins stop step (PlaysOver status old new) status old new returns plays.0 (plays.1, same)

pub play_caused :
    {M : Type 0} (means : M → PlayMeans) (made : Result M Stop) (step : Step PlayMeans) (status : ℕ) (old new : WithLinks) →
    ReturnsStep made means step → PlaysFrom means made status old.net new.net old.sink new.sink →
    IsCaused IsPlayDone (IsOk step) status (causes_by (LinkFailed old.net new.net) old new)
play_caused means (Ok made) step status old new returns plays = plays_caused game_hash game_summary (terms_of (means made)) (IsOk step) status old new plays
play_caused means (Err stop) step status old new returns plays = stop_caused stop step IsPlayDone status old new _ returns plays.0

-- What a bot plays by follows from what it stands on.
pub bot_returns :
    (frames : ℕ) (made : Result (Setup × ℕ) Stop) (step : Step (Setup × ℕ)) → ReturnsStep made (λ made. made) step →
    ReturnsStep made (bot_means frames) (step >>= λ made. Ok (bot_means frames made))
bot_returns frames (Ok made) step returns = ap (λ (step : Step (Setup × ℕ)). step >>= λ made. Ok (bot_means frames made)) returns
bot_returns frames (Err (Refused name place cause)) step returns = ap (λ (step : Step (Setup × ℕ)). step >>= λ made. Ok (bot_means frames made)) returns
bot_returns frames (Err ReadFault) step returns = returns
bot_returns frames (Err NoMemory) step returns = returns

pub serve_begins :
    (query : ServePlain) (made : Result (Setup × ℕ) Stop) (step : Step (Setup × ℕ)) (status : ℕ) (old new : WithLinks) →
    ReturnsStep made (λ made. made) step → ServesFrom query made status old new →
    Begins step (ServesOver query status old new) status old new ⊎ EndsBefore status old new
serve_begins query (Ok made) step status old new returns serves =
    inl (subst (λ step. Begins step (ServesOver query status old new) status old new) (sym returns) serves)
serve_begins query (Err stop) step status old new returns serves =
    stop_begins stop step (ServesOver query status old new) status old new returns serves.0 serves.1

pub serve_caused :
    (query : ServePlain) (made : Result (Setup × ℕ) Stop) (step : Step (Setup × ℕ)) (status : ℕ) (old new : WithLinks) →
    ReturnsStep made (λ made. made) step → ServesFrom query made status old new →
    IsCaused IsServeDone (IsOk step) status (causes_by (NetFailed old.net new.net) old new)
serve_caused query (Ok made) step status old new returns serves =
    serves_caused (served_match query made.0) (invite_of query made.1) (IsOk step) status old new serves
serve_caused query (Err stop) step status old new returns serves = stop_caused stop step IsServeDone status old new _ returns serves.0

-- ---- `serve`, by the file that its match is recorded in, if one is named

pub serves_by :
    (record_file : Option (List ℕ)) (query : ServePlain) (made : Result (Setup × ℕ) Stop) (status : ℕ) (old new : WithLinks) → query.record_file ≡ record_file →
    ServesAs record_file query made status old new → ServesAs query.record_file query made status old new
serves_by record_file query made status old new is serves = subst (λ (file : Option (List ℕ)). ServesAs file query made status old new) (sym is) serves

serves_since :
    (query : ServePlain) (made : Result (Setup × ℕ) Stop) (status : ℕ) (old new : WithLinks) (read : DiskState) →
    ServesFrom query made status (since read old) new → ServesFrom query made status old new
serves_since query (Ok made) status old new read serves = serves
serves_since query (Err stop) status old new read serves = serves

-- The rules and the map were read.
pub serving_given :
    IsRecordLaw → (record_file : Option (List ℕ)) (query : ServePlain) (all : WantedFiles) (contents : Contents) (made : Result (Setup × ℕ) Stop) (status : ℕ)
    (old new : WithLinks) (read : DiskState) →
    rules_and_map query.rules query.map_file ≡ all → read.files ≡ old.disk.files → old.disk.faults ≤ read.faults →
    read.faults ≤ new.disk.faults → old.sink.faults ≤ new.sink.faults →
    IfSome old.disk.files (λ files. contents_of all files ≡ Ok contents) → IfNone old.disk.files (AreContents all contents) →
    ReturnsStep made (λ made. made) (serve_step query contents) → ServesAs record_file query made status (since read old) new →
    RunsServing record_file query status old new
serving_given law (Some name) query all contents made status old new read wants same later since_read later' observable opaque returns serves =
    recorded_given law query name all contents made status old new read wants same later since_read later' observable opaque returns serves
serving_given law None query all contents made status old new read wants same later since_read later' observable opaque returns serves =
    let over = serves_since query made status old new read serves.0 in
    linked_given (rules_and_map query.rules query.map_file) all (serve_step query) (ServesOver query status old new) IsServeDone contents status _ old new
    wants (ap (λ (disk : DiskState). disk.files) serves.1 ∙ same) (omega (arith, later, since_read)) later' observable opaque
    (serve_begins query made (serve_step query contents) status old new returns over)
    (serve_caused query made (serve_step query contents) status old new returns over)

-- One of them was not.
pub serving_stopped :
    (record_file : Option (List ℕ)) (query : ServePlain) (all : WantedFiles) (stop : Stop) (status : ℕ) (d d' : DiskState) (s s' : SinkState)
    (net : NetState) (console : SourceState) →
    rules_and_map query.rules query.map_file ≡ all → d'.files ≡ d.files → d.faults ≤ d'.faults → s.faults ≤ s'.faults →
    IfSome d.files (λ files. IsReadStop stop (contents_of all files) (IsFirstThere (in_order all) files × Increased d.faults d'.faults)) →
    IfNone d.files (IsOpaqueStop stop (in_order all) (Increased d.faults d'.faults)) →
    PrintsStop stop status s s' → RunsServing record_file query status (with_links d s net console) (with_links d' s' net console)
serving_stopped (Some name) query all stop status d d' s s' net console wants same later later' observable opaque prints =
    recorded_stopped query name all stop status d d' s s' net console wants same later later' observable opaque prints
serving_stopped None query all stop status d d' s s' net console wants same later later' observable opaque prints =
    let old = with_links d s net console in
    let new = with_links d' s' net console in
    linked_stopped (rules_and_map query.rules query.map_file) all (serve_step query) (ServesOver query status old new) IsServeDone
    stop status (NetFailed net net) old new wants same later later' observable opaque prints (refl, refl)

-- ---- the request that the words name

pub named_waits :
    (named : Option RequestPlain) (request : RequestPlain) (status : ℕ) (old new : WithLinks) →
    named ≡ Some request → RunsWaiting (waiting request) status old new →
    RunsWaiting (option_and_then waiting named) status old new
named_waits named request status old new is runs =
    subst (λ named. RunsWaiting (option_and_then waiting named) status old new) (sym is) runs

-- ---- memory ran out before anything was done

unread_observable : (o : Option Files) (stop : Files → Type 0) → ((files : Files) → stop files) → IfSome o stop
unread_observable None stop all = tt
unread_observable (Some files) stop all = all files

unread_opaque : (o : Option Files) (stop : Type 0) → stop → IfNone o stop
unread_opaque None stop is = is
unread_opaque (Some files) stop is = tt

none_runs : (d : DiskState) (s : SinkState) (causes : Causes) → ProgramRun None OUT_OF_MEMORY causes (environment d s) (environment d s)
none_runs d s causes =
    let has : HasCauses OUT_OF_MEMORY (causes.read ⊎ causes.net) (causes.sink ⊎ causes.write) = at_memory OUT_OF_MEMORY _ _ refl in
    record {
      refused = inr (refl, (refl, refl));
      only_refused = λ e. refl;
      observable = tt;
      opaque = tt;
      complete = λ quiet. tt;
      sound = tt;
      read = has.read;
      write = has.write;
      files = refl;
      later = (omega arith, omega arith);
    }

none_waits : (d : DiskState) (s : SinkState) (net : NetState) (console : SourceState) →
    RunsWaiting None OUT_OF_MEMORY (with_links d s net console) (with_links d s net console)
none_waits d s net console = (none_runs d s _, (refl, refl))

serve_waits : (query : ServePlain) (d : DiskState) (s : SinkState) (net : NetState) (console : SourceState) →
    RunsServe query OUT_OF_MEMORY (with_links d s net console) (with_links d s net console)
serve_waits query d s net console =
    serving_stopped query.record_file query (rules_and_map query.rules query.map_file) NoMemory OUT_OF_MEMORY d d s s net console
    refl refl (omega arith) (omega arith) (unread_observable d.files _ (λ files. tt)) (unread_opaque d.files _ tt) (refl, refl)

request_waits : (request : RequestPlain) (d : DiskState) (s : SinkState) (net : NetState) (console : SourceState) →
    RunsWaiting (waiting request) OUT_OF_MEMORY (with_links d s net console) (with_links d s net console)
request_waits (Drill query written) d s net console = none_waits d s net console
request_waits (Yaml names) d s net console = none_waits d s net console
request_waits (Check map_file names) d s net console = none_waits d s net console
request_waits (Route query) d s net console = none_waits d s net console
request_waits (Make number) d s net console = none_waits d s net console
request_waits (Replay query) d s net console = none_waits d s net console
request_waits (Migrate query to) d s net console = none_waits d s net console
request_waits (Save query frames to) d s net console = none_waits d s net console
request_waits (Continue query save) d s net console = none_waits d s net console
request_waits (View query client) d s net console = none_waits d s net console
request_waits (Worlds query range) d s net console = none_waits d s net console
request_waits (Compare query second) d s net console = none_waits d s net console
request_waits (Datagrams script) d s net console = none_waits d s net console
request_waits (Serve query) d s net console = serve_waits query d s net console
request_waits (Local query bots) d s net console = (
  request_runs (Local query bots) OUT_OF_MEMORY _ (environment d s) (environment d s)
      (request_stopped (Local query bots) NoMemory OUT_OF_MEMORY d d s s refl (omega arith) (omega arith)
      (unread_observable d.files _ (λ files. tt)) (unread_opaque d.files _ tt) (refl, refl)),
  (refl, refl),
)
request_waits (PlayBot query) d s net console =
    let all = rules_and_map query.rules query.map_file in
    let old = with_links d s net console in
    linked_stopped all all (bot_step query) (PlaysOver OUT_OF_MEMORY old old) IsPlayDone NoMemory OUT_OF_MEMORY (LinkFailed net net) old old
    refl refl (omega arith) (omega arith) (unread_observable d.files _ (λ files. tt)) (unread_opaque d.files _ tt) (refl, refl) (refl, refl)
request_waits (Play query at is_quiet) d s net console =
    let all = with_script query.file (rules_and_map query.rules query.map_file) in
    let old = with_links d s net console in
    linked_stopped all all (play_step query) (PlaysOver OUT_OF_MEMORY old old) IsPlayDone NoMemory OUT_OF_MEMORY (LinkFailed net net) old old
    refl refl (omega arith) (omega arith) (unread_observable d.files _ (λ files. tt)) (unread_opaque d.files _ tt) (refl, refl) (refl, refl)

pub memory_waits :
    (named : Option RequestPlain) (d : DiskState) (s : SinkState) (net : NetState) (console : SourceState) →
    RunsWaiting (option_and_then waiting named) OUT_OF_MEMORY (with_links d s net console) (with_links d s net console)
memory_waits None d s net console = none_waits d s net console
memory_waits (Some request) d s net console = request_waits request d s net console
