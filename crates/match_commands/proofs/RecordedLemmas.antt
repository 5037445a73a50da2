-- What is known of a run of `serve` that records its match, over plain values.
use Rattle.std.proofs.Common.{◌≡◌, ◌≤◌, ◌⊎◌, ◌∙◌, ℕ, List, Some, Result, Ok, Err, IsOk, IfSome, IfNone, refl, sym, subst, inl, inr, arith}
use Rattle.base.specs.Cause.{Increased}
use Rattle.game_io.specs.DiskState.{DiskState}
use Rattle.game_io.specs.NetState.{NetState}
use Rattle.game_io.specs.SinkState.{SinkState}
use Rattle.game_io.specs.SourceState.{SourceState}
use Rattle.game_model.specs.Setup.{Setup}
use Rattle.command_words.specs.RequestPlain.{ServePlain}
use Rattle.command_answers.specs.declared.stop.Stop.{Stop}
use Rattle.command_answers.specs.Contents.{Contents, contents_of, AreContents, IsFirstThere}
use Rattle.command_answers.specs.FileWrite.{OnlyChanges}
use Rattle.command_answers.specs.Step.{Step}
use Rattle.command_answers.specs.Stop.{IsReadStop, IsOpaqueStop, PrintsStop, ReturnsStep}
use Rattle.command_answers.specs.WantedFiles.{WantedFiles, in_order, rules_and_map}
use Rattle.link_commands.specs.Links.{WithLinks, with_links, Begins, EndsBefore}
use Rattle.link_commands.proofs.LinkLemmas.{IsCaused, linked_given, linked_stopped, stop_begins, stop_caused}
use Rattle.serve_command.specs.Records.{recording_causes}
use Rattle.serve_command.proofs.RecordsLemmas.{records_caused, records_changes, widen_caused, widen_runs}
use Rattle.serve_command.specs.Serves.{NetFailed, IsServeDone}
use Rattle.match_commands.specs.Serves.{served_match, invite_of, serve_step, HasRecorded, RecordsFrom, RecordsOver, RunsRecorded}
use Rattle.match_commands.proofs.ServedReplaysLemmas.{IsRecordLaw, record_replayed}

-- Once the files were read, and before the record is written.
abbrev pub since : DiskState → WithLinks → WithLinks
since read all = record all { disk = read }

begins_of :
    (query : ServePlain) (name : List ℕ) (made : Result (Setup × ℕ) Stop) (step : Step (Setup × ℕ)) (status : ℕ) (old new : WithLinks) (read : DiskState) →
    ReturnsStep made (λ made. made) step → RecordsFrom query name made status (since read old) new →
    Begins step (RecordsOver query name status (since read old) new) status old (since read new) ⊎ EndsBefore status old (since read new)
begins_of query name (Ok made) step status old new read returns records =
    inl (subst (λ step. Begins step (RecordsOver query name status (since read old) new) status old (since read new)) (sym returns) records)
begins_of query name (Err stop) step status old new read returns records =
    stop_begins stop step (RecordsOver query name status (since read old) new) status old (since read new) returns records.0 records.1

caused_of :
    (query : ServePlain) (name : List ℕ) (made : Result (Setup × ℕ) Stop) (step : Step (Setup × ℕ)) (status : ℕ) (old new : WithLinks) (read : DiskState) →
    old.disk.faults ≤ read.faults → ReturnsStep made (λ made. made) step → RecordsFrom query name made status (since read old) new →
    IsCaused IsServeDone (IsOk step) status (recording_causes name (NetFailed old.net new.net) old new)
caused_of query name (Ok made) step status old new read later returns records =
    records_caused (served_match query made.0) (invite_of query made.1) name (IsOk step) status old new read later records
caused_of query name (Err stop) step status old new read later returns records =
    widen_caused name IsServeDone (IsOk step) status (NetFailed old.net new.net) old new
    (stop_caused stop step IsServeDone status old new (NetFailed old.net new.net) returns records.0)

changes_of :
    (query : ServePlain) (name : List ℕ) (made : Result (Setup × ℕ) Stop) (status : ℕ) (old new : WithLinks) (read : DiskState) →
    read.files ≡ old.disk.files → RecordsFrom query name made status (since read old) new → OnlyChanges (Some name) old.disk.files new.disk.files
changes_of query name (Ok made) status old new read same records =
    subst (λ files. OnlyChanges (Some name) files new.disk.files) same
    (records_changes (served_match query made.0) (invite_of query made.1) name status old new read records)
changes_of query name (Err stop) status old new read same records = inl (records.2 ∙ same)

ended_of :
    IsRecordLaw → (query : ServePlain) (name : List ℕ) (made : Result (Setup × ℕ) Stop) (status : ℕ) (old new : WithLinks) (read : DiskState) →
    read.files ≡ old.disk.files → RecordsFrom query name made status (since read old) new →
    (new.disk.files ≡ old.disk.files) ⊎ HasRecorded query name status (since read old) new
ended_of law query name (Ok made) status old new read same (inl out) = inr (made, (out, record_replayed law query name status (since read old) new made out))
ended_of law query name (Ok made) status old new read same (inr (inl memory)) = inl (memory.2 ∙ same)
ended_of law query name (Ok made) status old new read same (inr (inr failed)) = inl (failed.2 ∙ same)
ended_of law query name (Err stop) status old new read same records = inl (records.2 ∙ same)

-- The rules and the map were read.
pub recorded_given :
    IsRecordLaw → (query : ServePlain) (name : List ℕ) (all : WantedFiles) (contents : Contents) (made : Result (Setup × ℕ) Stop) (status : ℕ) (old new : WithLinks) (read : DiskState) →
    rules_and_map query.rules query.map_file ≡ all → read.files ≡ old.disk.files → old.disk.faults ≤ read.faults →
    read.faults ≤ new.disk.faults → old.sink.faults ≤ new.sink.faults →
    IfSome old.disk.files (λ files. contents_of all files ≡ Ok contents) → IfNone old.disk.files (AreContents all contents) →
    ReturnsStep made (λ made. made) (serve_step query contents) → RecordsFrom query name made status (since read old) new →
    RunsRecorded query name status old new
recorded_given law query name all contents made status old new read wants same later since_read later' observable opaque returns records = record {
  read = read;
  runs = linked_given (rules_and_map query.rules query.map_file) all (serve_step query) (RecordsOver query name status (since read old) new) IsServeDone
      contents status (recording_causes name (NetFailed old.net new.net) old new) old (since read new) wants same later later' observable opaque
      (begins_of query name made (serve_step query contents) status old new read returns records)
      (caused_of query name made (serve_step query contents) status old new read later returns records);
  files = changes_of query name made status old new read same records;
  ended = ended_of law query name made status old new read same records;
  later = (omega (arith, later, since_read), later');
}

-- One of them was not.
pub recorded_stopped :
    (query : ServePlain) (name : List ℕ) (all : WantedFiles) (stop : Stop) (status : ℕ) (d d' : DiskState) (s s' : SinkState) (net : NetState) (console : SourceState) →
    rules_and_map query.rules query.map_file ≡ all → d'.files ≡ d.files → d.faults ≤ d'.faults → s.faults ≤ s'.faults →
    IfSome d.files (λ files. IsReadStop stop (contents_of all files) (IsFirstThere (in_order all) files × Increased d.faults d'.faults)) →
    IfNone d.files (IsOpaqueStop stop (in_order all) (Increased d.faults d'.faults)) →
    PrintsStop stop status s s' → RunsRecorded query name status (with_links d s net console) (with_links d' s' net console)
recorded_stopped query name all stop status d d' s s' net console wants same later later' observable opaque prints =
    let old = with_links d s net console in
    let new = with_links d' s' net console in
    record {
      read = d';
      runs = widen_runs name (rules_and_map query.rules query.map_file) (serve_step query) (RecordsOver query name status (since d' old) new) IsServeDone
          status (NetFailed net net) old new
          (linked_stopped (rules_and_map query.rules query.map_file) all (serve_step query) (RecordsOver query name status (since d' old) new) IsServeDone
          stop status (NetFailed net net) old new wants same later later' observable opaque prints (refl, refl));
      files = inl same;
      ended = inl same;
      later = (later, later');
    }
