-- What is known of a match that was served and recorded, over plain values.
use Rattle.std.proofs.Common.{◌≡◌, ◌<◌, ◌≤◌, ◌⊎◌, ◌∙◌, ℕ, zero, suc, List, [], ◌∷◌, length, Some, refl, inl, inr, arith}
use Rattle.base.specs.Cause.{Increased}
use Rattle.frame_core.specs.Column.{Column, column_of, length_of}
use Rattle.frame_core.specs.Match.{Match}
use Rattle.game_io.specs.DiskState.{DiskState}
use Rattle.match_net.specs.declared.invite.Invite.{Invite}
use Rattle.match_run.specs.Local.{longest}
use Rattle.match_serve.specs.Passes.{columns_of}
use Rattle.match_serve.specs.Serve.{IsGreatest}
use Rattle.command_answers.specs.declared.statuses.TheConstants.{OUT_OF_MEMORY}
use Rattle.command_answers.specs.Causes.{IsQuiet, causes_of}
use Rattle.command_answers.proofs.CausesLemmas.{at_memory, at_read, at_write, answered_changes}
use Rattle.command_answers.specs.Contents.{Contents}
use Rattle.command_answers.specs.Environment.{environment}
use Rattle.command_answers.specs.FileWrite.{OnlyChanges}
use Rattle.command_answers.specs.Outcome.{IsAnswered}
use Rattle.command_answers.specs.Reply.{Reply}
use Rattle.command_answers.specs.Step.{Step}
use Rattle.command_answers.specs.WantedFiles.{WantedFiles}
use Rattle.link_commands.specs.Links.{WithLinks, RunsLinked, causes_by}
use Rattle.link_commands.proofs.LinkLemmas.{IsCaused, printed_causes}
use Rattle.link_commands.specs.PlayText.{link_fault}
use Rattle.serve_command.specs.Records.{recorded_reply, recording_causes, RecordsBy}
use Rattle.serve_command.proofs.ServeLemmas.{served_of, two_causes}
use Rattle.serve_command.specs.Serves.{IsServeDone, NetFailed}

-- ---- the longest column

longest_most :
    (columns : List Column) (n : ℕ) → ((c : ℕ) → c < length columns → length_of (column_of columns c) ≤ n) → longest columns ≤ n
longest_most [] n each = omega arith
longest_most (column ∷ columns) n each =
    let here = each 0 (omega arith) in
    let rest = longest_most columns n (λ c below. each (suc c) (omega arith)) in
    grind (arith, here, rest)

longest_least : (columns : List Column) (c : ℕ) → c < length columns → length_of (column_of columns c) ≤ longest columns
longest_least [] c below = absurd (omega arith)
longest_least (column ∷ columns) zero below = grind arith
longest_least (column ∷ columns) (suc c) below =
    let rest = longest_least columns c (omega (arith, below)) in
    grind (arith, rest)

reached_least :
    (clients : ℕ) (columns : List Column) (n : ℕ) → length columns ≡ clients →
    (n ≡ 0) ⊎ ((c : ℕ) × (c < clients) × (n ≤ length_of (column_of columns c))) → n ≤ longest columns
reached_least clients columns n count (inl none) = omega (arith, none)
reached_least clients columns n count (inr (c, below, at)) =
    let least = longest_least columns c (omega (arith, below, count)) in
    omega (arith, at, least)

-- The greatest number of plays is that of the longest column.
pub greatest_longest :
    (clients : ℕ) (columns : List Column) (n : ℕ) → length columns ≡ clients → IsGreatest clients columns n → longest columns ≡ n
greatest_longest clients columns n count greatest =
    let most = longest_most columns n (λ c below. greatest.most c (omega (arith, below, count))) in
    let least = reached_least clients columns n count greatest.reached in
    omega (arith, most, least)

-- ---- what is known of a match that was recorded

rose_since : (a b c : ℕ) → a ≤ b → Increased b c → Increased a c
rose_since a b c later rose = omega arith

-- The causes of the status, over the disk `read` before the file was written, and the status where
-- nothing failed.
answered_caused :
    (name : List ℕ) (reply : Reply) (fine : Type 0) (status : ℕ) (old new : WithLinks) (read : DiskState) →
    old.disk.faults ≤ read.faults → (status ≡ reply.status → (IsServeDone status) ⊎ (status ≡ OUT_OF_MEMORY)) →
    IsAnswered reply status (causes_of (Some name) (environment read old.sink) (environment new.disk new.sink))
    (environment read old.sink) (environment new.disk new.sink) →
    IsCaused IsServeDone fine status (recording_causes name (NetFailed old.net new.net) old new)
answered_caused name reply fine status old new read later own (inl (inl complete)) = record {
  has = two_causes status _ _ (own complete.0);
  done = λ quiet fine. own complete.0;
}
answered_caused name reply fine status old new read later own (inl (inr (inl cut))) = record {
  has = at_write status _ _ (inl cut.1) cut.0;
  done = λ quiet fine. absurd (quiet.sink cut.1);
}
answered_caused name reply fine status old new read later own (inl (inr (inr cut))) =
    let rose = rose_since old.disk.faults read.faults new.disk.faults later cut.1.1 in
    record {
      has = at_write status _ _ (inr (cut.1.0, rose)) cut.0;
      done = λ quiet fine. absurd (quiet.write (cut.1.0, rose));
    }
answered_caused name reply fine status old new read later own (inr memory) = record {
  has = at_memory status _ _ memory.0;
  done = λ quiet fine. inr memory.0;
}

pub records_caused :
    {W : Type 0} (of_match : Match W) (invite : Invite) (name : List ℕ) (fine : Type 0) (status : ℕ) (old new : WithLinks) (read : DiskState) →
    old.disk.faults ≤ read.faults →
    RecordsBy of_match invite name status old.net new.net old.console new.console read new.disk old.sink new.sink →
    IsCaused IsServeDone fine status (recording_causes name (NetFailed old.net new.net) old new)
records_caused of_match invite name fine status old new read later (inl out) =
    answered_caused name (recorded_reply of_match invite name (columns_of out.pass) out.ends out.world out.board) fine status old new read later
    (λ e. served_of out.ends status e) out.answers
records_caused of_match invite name fine status old new read later (inr (inl memory)) = record {
  has = at_memory status _ _ memory.0;
  done = λ quiet fine. inr memory.0;
}
records_caused of_match invite name fine status old new read later (inr (inr failed)) = record {
  has = printed_causes link_fault status old.sink new.sink _ _ (λ e. at_read status _ _ (inr failed.0) e) failed.1;
  done = λ quiet fine. absurd (quiet.net failed.0);
}

-- Only the file of the record changed.
pub records_changes :
    {W : Type 0} (of_match : Match W) (invite : Invite) (name : List ℕ) (status : ℕ) (old new : WithLinks) (read : DiskState) →
    RecordsBy of_match invite name status old.net new.net old.console new.console read new.disk old.sink new.sink →
    OnlyChanges (Some name) read.files new.disk.files
records_changes of_match invite name status old new read (inl out) =
    answered_changes (recorded_reply of_match invite name (columns_of out.pass) out.ends out.world out.board) status
    (causes_of (Some name) (environment read old.sink) (environment new.disk new.sink))
    (environment read old.sink) (environment new.disk new.sink) out.answers
records_changes of_match invite name status old new read (inr (inl memory)) = inl memory.2
records_changes of_match invite name status old new read (inr (inr failed)) = inl failed.2

-- ---- what writes no file has the causes of what writes one, too

narrow : (name : List ℕ) (failed : Type 0) (old new : WithLinks) → IsQuiet (recording_causes name failed old new) → IsQuiet (causes_by failed old new)
narrow name failed old new quiet =
    record { read = quiet.read; write = λ rose. quiet.write (refl, rose.1); sink = quiet.sink; net = quiet.net }

widen : (name : List ℕ) (failed : Type 0) (old new : WithLinks) →
    (causes_by failed old new).sink ⊎ (causes_by failed old new).write →
    (recording_causes name failed old new).sink ⊎ (recording_causes name failed old new).write
widen name failed old new (inl sink) = inl sink
widen name failed old new (inr rose) = inr (refl, rose.1)

pub widen_caused :
    (name : List ℕ) (Done : ℕ → Type 0) (fine : Type 0) (status : ℕ) (failed : Type 0) (old new : WithLinks) →
    IsCaused Done fine status (causes_by failed old new) → IsCaused Done fine status (recording_causes name failed old new)
widen_caused name Done fine status failed old new caused = record {
  has = record {
    accepted = caused.has.accepted;
    read = caused.has.read;
    write = λ e. widen name failed old new (caused.has.write e);
  };
  done = λ quiet fine. caused.done (narrow name failed old new quiet) fine;
}

pub widen_runs :
    {T : Type 0} (name : List ℕ) (wants : WantedFiles) (start : Contents → Step T) (Goes : T → Type 0) (Done : ℕ → Type 0)
    (status : ℕ) (failed : Type 0) (old new : WithLinks) →
    RunsLinked wants start Goes Done status (causes_by failed old new) old new →
    RunsLinked wants start Goes Done status (recording_causes name failed old new) old new
widen_runs name wants start Goes Done status failed old new runs = record {
  observable = runs.observable;
  opaque = runs.opaque;
  accepted = runs.accepted;
  read = runs.read;
  write = λ e. widen name failed old new (runs.write e);
  complete = λ quiet. runs.complete (narrow name failed old new quiet);
  files = runs.files;
  later = runs.later;
}
