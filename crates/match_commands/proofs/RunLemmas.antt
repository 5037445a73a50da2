-- A whole run: from the request that the words name, or that they name none.
use Rattle.std.specs.Prelude.{◌==◌, option_and_then, unwrap_or, if◌then◌else◌, nat_lt, length}
use Rattle.std.proofs.Common.{◌≡◌, ◌⊎◌, ℕ, Bool, true, false, List, [], Option, None, Some, Ok, Err, IsOk, IfSome, IfNone, ◌≢◌, refl, sym, subst, inl, inr, arith}
use Rattle.command_words.specs.RequestPlain.{RequestPlain, MatchPlain, Drill, Yaml, Check, Route, Make, Local, Serve, Play, Replay, Migrate, Save, Continue, View, Worlds, Compare, Datagrams, PlayBot}
use Rattle.game_io.specs.Files.{Files}
use Rattle.command_answers.specs.declared.statuses.TheConstants.{DONE, REFUSED_FILE, OUT_OF_MEMORY, MARK_DIFFERS}
use Rattle.base.specs.Steps.{◌>>=◌}
use Rattle.command_answers.specs.Step.{Step, replied}
use Rattle.command_answers.specs.Contents.{Contents, contents_of}
use Rattle.command_answers.specs.WantedFiles.{begins_save}
use Rattle.rule_commands.specs.RuleFiles.{yaml_step}
use Rattle.rule_commands.specs.Checks.{check_step}
use Rattle.rule_commands.specs.Routes.{route_step}
use Rattle.match_commands.specs.Drills.{drill_step, prepared_step, numbered_step}
use Rattle.match_commands.specs.Locals.{local_match_step}
use Rattle.drill.specs.MadeDrill.{made_drill_of}
use Rattle.rule_commands.specs.SampleSetup.{sample_setup}
use Rattle.match_commands.specs.Made.{make_step, made_text}
use Rattle.match_commands.proofs.SampleLemmas.{make_is}
use Rattle.match_commands.proofs.DatagramLemmas.{datagrams_done}
use Rattle.rule_commands.specs.Numbers.{numbered_setup_step}
use Rattle.game_model.specs.Setup.{Setup}
use Rattle.replay_file.specs.declared.replay.Replay as file
use Rattle.replay_file.specs.Reading.{read_of}
use Rattle.replay_run.specs.declared.difference.Difference as mark
use Rattle.replay_run.specs.Rerun.{difference_of, replayed_from}
use Rattle.replay_commands.specs.Refusals.{read_step}
use Rattle.game_save.specs.ReadSave.{read_save_of}
use Rattle.save_commands.specs.Refusals.{of_match, with_frames}
use Rattle.replay_commands.specs.SaveRefusals.{read_save_step}
use Rattle.save_commands.specs.Saves.{resumed_rerun}
use Rattle.match_commands.specs.Compared.{first_step}
use Rattle.match_commands.specs.Worlds.{told_worlds}
use Rattle.compare_command.specs.Comparing.{compare_step, compared_reply, saves_step, replays_step}
use Rattle.compare_command.specs.Difference.{Difference}
use Rattle.compare_command.specs.Replays.{replay_differences}
use Rattle.compare_command.specs.Saves.{save_differences}
use Rattle.view_command.specs.Views.{no_such_client, view_text}
use Rattle.replay_commands.specs.Replays.{game_rerun, mark_status, migrated_reply}
use Rattle.command_answers.specs.Reply.{Reply, done, read_fault}
use Rattle.command_answers.specs.Outcome.{IsPrinted, IsAnswered}
use Rattle.command_answers.specs.Causes.{Causes, causes_of, IsQuiet}
use Rattle.command_answers.specs.Environment.{Environment}
use Rattle.match_commands.specs.Request.{IsFaultless, written_by, wanted, answer_of, given_reply, text_reply}
use Rattle.match_commands.specs.Run.{ProgramRun, RunsRequest, IsAnswerStatus, IsSound, IsObservableAnswer, IsOpaqueAnswer}
use Rattle.command_answers.proofs.OptionLemmas.{map_some}

-- A command that prints a text and has it is done.
text_done : (step : Step (List ℕ)) → IsOk (text_reply step) → (replied (text_reply step)).status ≡ DONE
text_done (Ok text) ok = refl
text_done (Err reply) ok = absurd cc

-- The status of a command on a replay.
replayed_done : {T : Type 0} (step : Step T) (next : T → Step Reply) (Done : ℕ → Type 0) →
    ((value : T) → IsOk (next value) → Done (replied (next value)).status) →
    IsOk (step >>= next) → Done (replied (step >>= next)).status
replayed_done (Ok value) next Done follows ok = follows value ok
replayed_done (Err reply) next Done follows ok = absurd cc

abbrev IsReplayDone : ℕ → Type 0
IsReplayDone status = (status ≡ DONE) ⊎ (status ≡ MARK_DIFFERS)

mark_done : (difference : Option mark.Difference) → IsReplayDone (mark_status difference)
mark_done None = inl refl
mark_done (Some d) = inr refl

migrate_done : (setup : Setup) (to : List ℕ) (r : file.Replay) (difference : Option mark.Difference) → IsReplayDone (migrated_reply setup to r difference).status
migrate_done setup to r None = inl refl
migrate_done setup to r (Some d) = inr refl

drill_done :
    (query : MatchPlain) (record_file : Option (List ℕ)) (contents : Contents) →
    IsOk (drill_step query record_file contents) → (replied (drill_step query record_file contents)).status ≡ DONE
drill_done query None contents =
    replayed_done (prepared_step query contents) _ (λ status. status ≡ DONE) (λ made ok. refl)
drill_done query (Some name) contents =
    replayed_done (numbered_step query contents) _ (λ status. status ≡ DONE) (λ made ok. refl)

client_done :
    (setup : Setup) (r : file.Replay) (client : ℕ) (is : Bool) →
    IsOk (if is then Ok (done (view_text setup r client)) else Err no_such_client) →
    (replied (if is then Ok (done (view_text setup r client)) else Err no_such_client)).status ≡ DONE
client_done setup r client true ok = refl
client_done setup r client false ok = absurd cc

-- The status of `compare`.
compared_done : (differences : List Difference) → IsReplayDone (compared_reply differences).status
compared_done differences = go (length differences == 0)
  where
    go : (none : Bool) → IsReplayDone (if none then DONE else MARK_DIFFERS)
    go true = inl refl
    go false = inr refl

compare_done :
    (first second : List ℕ) (rules : ℕ) (setup : Setup) (others bytes : List ℕ) →
    IsOk (compare_step first second rules setup bytes others) → IsReplayDone (replied (compare_step first second rules setup bytes others)).status
compare_done first second rules setup others bytes = go (begins_save bytes)
  where
    go : (saves : Bool)
        → IsOk (if saves then saves_step first second rules setup bytes others else replays_step first second rules bytes others)
        → IsReplayDone (replied (if saves then saves_step first second rules setup bytes others else replays_step first second rules bytes others)).status
    go true ok =
        replayed_done (read_save_step first (read_save_of rules setup bytes)) _ IsReplayDone
        (λ a. replayed_done (read_save_step second (read_save_of rules setup others)) _ IsReplayDone
        (λ b ok. compared_done (save_differences a b))) ok
    go false ok =
        replayed_done (read_step first (read_of rules bytes)) _ IsReplayDone
        (λ r. replayed_done (read_step second (read_of rules others)) _ IsReplayDone
        (λ s ok. compared_done (replay_differences r s))) ok

given_done :
    (request : RequestPlain) (contents : Contents) → IsOk (answer_of request contents) → IsAnswerStatus request (given_reply request contents).status
given_done (Drill query record_file) contents ok = drill_done query record_file contents ok
given_done (Yaml names) contents ok = text_done (yaml_step names contents.rules) ok
given_done (Check map_file names) contents ok = text_done (check_step names map_file contents) ok
given_done (Route query) contents ok = text_done (route_step query contents) ok
given_done (Make number) contents ok = text_done (make_step number) ok
given_done (Local query bots) contents ok = text_done (local_match_step query bots contents) ok
given_done (Serve query) contents ok = refl
given_done (Play query at is_quiet) contents ok = refl
given_done (PlayBot query) contents ok = refl
given_done (Replay query) contents ok =
    replayed_done (numbered_setup_step query.rules query.map_file contents) _ IsReplayDone
    (λ made. replayed_done (read_step query.file (read_of made.1 (unwrap_or contents.replay []))) _ IsReplayDone
    (λ r ok. mark_done (difference_of (game_rerun made.0 r) r))) ok
given_done (Migrate query to) contents ok =
    replayed_done (numbered_setup_step query.rules query.map_file contents) _ IsReplayDone
    (λ made. replayed_done (read_step query.file (read_of made.1 (unwrap_or contents.replay []))) _ IsReplayDone
    (λ r ok. migrate_done made.0 to r (difference_of (game_rerun made.0 r) r))) ok
given_done (Save query frames to) contents ok =
    replayed_done (numbered_setup_step query.rules query.map_file contents) _ (λ status. status ≡ DONE)
    (λ made. replayed_done (read_step query.file (read_of made.1 (unwrap_or contents.replay []))) _ (λ status. status ≡ DONE)
    (λ r. replayed_done (with_frames query.file frames r) _ (λ status. status ≡ DONE) (λ long ok. refl))) ok
given_done (Continue query save) contents ok =
    replayed_done (numbered_setup_step query.rules query.map_file contents) _ IsReplayDone
    (λ made. replayed_done (read_save_step save (read_save_of made.1 made.0 (unwrap_or contents.first []))) _ IsReplayDone
    (λ saved. replayed_done (read_step query.file (read_of made.1 (unwrap_or contents.replay []))) _ IsReplayDone
    (λ r. replayed_done (of_match query.file saved r) _ IsReplayDone
    (λ same. replayed_done (with_frames query.file saved.frames same) _ IsReplayDone
    (λ long ok. mark_done (replayed_from (resumed_rerun made.0 saved) saved.frames long).difference))))) ok
given_done (View query client) contents ok =
    replayed_done (numbered_setup_step query.rules query.map_file contents) _ (λ status. status ≡ DONE)
    (λ made. replayed_done (read_step query.file (read_of made.1 (unwrap_or contents.replay []))) _ (λ status. status ≡ DONE)
    (λ r ok. client_done made.0 r client (nat_lt client r.clients) ok)) ok
given_done (Worlds query range) contents ok = text_done (told_worlds query range contents) ok
given_done (Compare query second) contents ok =
    replayed_done (first_step query.file (unwrap_or contents.first [])) _ IsReplayDone
    (λ first. replayed_done (numbered_setup_step query.rules query.map_file contents) _ IsReplayDone
    (λ made. compare_done query.file second made.1 made.0 (unwrap_or contents.replay []) first)) ok
given_done (Datagrams script) contents ok = datagrams_done script (unwrap_or contents.script []) ok

read_done :
    (request : RequestPlain) (step : Step Contents) → IsOk (step >>= answer_of request) → IsAnswerStatus request (replied (step >>= answer_of request)).status
read_done request (Ok contents) ok = given_done request contents ok
read_done request (Err reply) ok = absurd cc

-- Where nothing failed and the files are without a fault, the command is done, or memory ran out.
complete_of :
    (request : RequestPlain) (files : Files) (status : ℕ) (causes : Causes) (old new : Environment) →
    IsQuiet causes → IsObservableAnswer request files status causes old new → IsFaultless request files →
    IsAnswerStatus request status ⊎ (status ≡ OUT_OF_MEMORY)
complete_of request files status causes old new quiet (inl (inl (inl complete))) faultless =
    inl (subst (IsAnswerStatus request) (sym complete.0) (read_done request (contents_of (wanted request) files) faultless))
complete_of request files status causes old new quiet (inl (inl (inr (inl cut)))) faultless = absurd (quiet.sink cut.1)
complete_of request files status causes old new quiet (inl (inl (inr (inr cut)))) faultless = absurd (quiet.write cut.1)
complete_of request files status causes old new quiet (inl (inr memory)) faultless = inr memory.0
complete_of request files status causes old new quiet (inr fault) faultless = absurd (quiet.read fault.1)

-- ---- the status of `make`

done_sound : (text : List ℕ) (status : ℕ) (causes : Causes) (old new : Environment) → IsAnswered (done text) status causes old new → status ≢ REFUSED_FILE
done_sound text status causes old new (inl (inl complete)) refused = absurd (omega (arith, complete.0, refused))
done_sound text status causes old new (inl (inr (inl cut))) refused = absurd (omega (arith, cut.0, refused))
done_sound text status causes old new (inl (inr (inr cut))) refused = absurd (omega (arith, cut.0, refused))
done_sound text status causes old new (inr memory) refused = absurd (omega (arith, memory.0, refused))

answered_sound :
    (number status : ℕ) (causes : Causes) (old new : Environment) →
    IsAnswered (replied (text_reply (make_step number))) status causes old new → status ≢ REFUSED_FILE
answered_sound number status causes old new answered =
    done_sound (made_text sample_setup (made_drill_of number)) status causes old new
    (subst (λ step. IsAnswered (replied (text_reply step)) status causes old new) (make_is number) answered)

observable_sound :
    (number : ℕ) (files : Files) (status : ℕ) (causes : Causes) (old new : Environment) →
    IsObservableAnswer (Make number) files status causes old new → status ≢ REFUSED_FILE
observable_sound number files status causes old new (inl answered) = answered_sound number status causes old new answered
observable_sound number files status causes old new (inr fault) = absurd fault.0

read_sound :
    (status : ℕ) (causes : Causes) (old new : Environment) → IsPrinted read_fault status causes old new → status ≢ REFUSED_FILE
read_sound status causes old new (inl complete) refused = absurd (omega (arith, complete.0, refused))
read_sound status causes old new (inr (inl cut)) refused = absurd (omega (arith, cut.0, refused))
read_sound status causes old new (inr (inr cut)) refused = absurd (omega (arith, cut.0, refused))

opaque_sound :
    (number status : ℕ) (causes : Causes) (old new : Environment) →
    IsOpaqueAnswer (Make number) status causes old new → status ≢ REFUSED_FILE
opaque_sound number status causes old new (inl given) = answered_sound number status causes old new given.1.1
opaque_sound number status causes old new (inr (inl (rose, inl unread))) = absurd unread.1.0
opaque_sound number status causes old new (inr (inl (rose, inr fault))) = read_sound status causes old new fault
opaque_sound number status causes old new (inr (inr memory)) = λ refused. absurd (omega (arith, memory.0, refused))

-- A disk is observable, or it is opaque.
by_disk :
    (files : Option Files) (P : Files → Type 0) (Q R : Type 0) →
    ((files : Files) → P files → R) → (Q → R) → IfSome files P → IfNone files Q → R
by_disk None P Q R one other observable opaque = other opaque
by_disk (Some files) P Q R one other observable opaque = one files observable

request_sound :
    (request : RequestPlain) (status : ℕ) (causes : Causes) (old new : Environment) →
    RunsRequest request status causes old new → IsSound request status
request_sound (Make number) status causes old new runs =
    by_disk old.disk.files (λ files. IsObservableAnswer (Make number) files status causes old new)
    (IsOpaqueAnswer (Make number) status causes old new) (status ≢ REFUSED_FILE)
    (λ files answer. observable_sound number files status causes old new answer)
    (λ answer. opaque_sound number status causes old new answer) runs.observable runs.opaque
request_sound (Drill query record_file) status causes old new runs = tt
request_sound (Yaml names) status causes old new runs = tt
request_sound (Check map_file names) status causes old new runs = tt
request_sound (Route query) status causes old new runs = tt
request_sound (Local query bots) status causes old new runs = tt
request_sound (Serve query) status causes old new runs = tt
request_sound (Play query at is_quiet) status causes old new runs = tt
request_sound (PlayBot query) status causes old new runs = tt
request_sound (Replay query) status causes old new runs = tt
request_sound (Migrate query to) status causes old new runs = tt
request_sound (Save query frames to) status causes old new runs = tt
request_sound (Continue query save) status causes old new runs = tt
request_sound (View query client) status causes old new runs = tt
request_sound (Worlds query range) status causes old new runs = tt
request_sound (Compare query second) status causes old new runs = tt
request_sound (Datagrams script) status causes old new runs = tt

-- The words name a request, which was run.
pub request_runs :
    (request : RequestPlain) (status : ℕ) (causes : Causes) (old new : Environment) →
    RunsRequest request status causes old new → ProgramRun (Some request) status causes old new
request_runs request status causes old new runs = record {
  refused = tt;
  only_refused = λ e. absurd (runs.accepted e);
  observable = runs.observable;
  opaque = runs.opaque;
  complete = λ quiet. map_some old.disk.files _ _
      (λ files answer. complete_of request files status causes old new quiet answer) runs.observable;
  sound = request_sound request status causes old new runs;
  read = runs.read;
  write = runs.write;
  files = runs.files;
  later = runs.later;
}

-- The causes of a run of this request, if the words name one.
abbrev run_causes : Option RequestPlain → (old new : Environment) → Causes
run_causes request = causes_of (option_and_then written_by request)

-- The words name a request, which was run or refused by the call whose own requests are these.
pub named_runs :
    (own : RequestPlain → Option RequestPlain) (named : Option RequestPlain) (request : RequestPlain) (status : ℕ) (old new : Environment) →
    named ≡ Some request → ProgramRun (own request) status (run_causes (own request) old new) old new →
    ProgramRun (option_and_then own named) status (run_causes (option_and_then own named) old new) old new
named_runs own named request status old new is runs =
    subst (λ named. ProgramRun (option_and_then own named) status (run_causes (option_and_then own named) old new) old new) (sym is) runs
