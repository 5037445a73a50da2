-- A whole run of a command over links, over plain values.
use Rattle.std.proofs.Common.{◌≡◌, ◌≤◌, ◌⊎◌, ℕ, List, [], Option, None, Some, Result, Ok, Err, IsOk, IfOk, IfSome, IfNone, refl, sym, ap, subst, inl, inr, ◌∙◌}
use Rattle.base.specs.Cause.{Increased}
use Rattle.base.specs.Steps.{◌>>=◌}
use Rattle.base.specs.Written.{WrotePrefix}
use Rattle.base.proofs.WrittenLemmas.{Wrote-nil}
use Rattle.game_io.specs.Files.{Files}
use Rattle.game_io.specs.SinkState.{SinkState}
use Rattle.command_answers.specs.declared.answer.Answer.{Answer}
use Rattle.command_answers.specs.declared.statuses.TheConstants.{OUT_OF_MEMORY}
use Rattle.command_answers.specs.declared.stop.Stop.{Stop}
use Rattle.command_answers.specs.declared.stop.Stop.TheVariants.{Refused, ReadFault, NoMemory}
use Rattle.command_answers.specs.Answer.{reply_of}
use Rattle.command_answers.specs.Causes.{Causes, IsQuiet}
use Rattle.command_answers.proofs.CausesLemmas.{HasCauses, IsSettled, file_settled, at_memory, at_write, at_read}
use Rattle.command_answers.specs.Contents.{Contents, contents_of, IsFirstThere, AreContents, IsUnread}
use Rattle.command_answers.proofs.OptionLemmas.{map_some, map_none}
use Rattle.command_answers.specs.Printing.{PrintsReply, MayPrintReply}
use Rattle.command_answers.specs.Reply.{Reply, refusal, read_fault}
use Rattle.command_answers.specs.Step.{Step}
use Rattle.command_answers.specs.Stop.{IsReadStop, IsStepStop, IsOpaqueStop, PrintsStop}
use Rattle.command_answers.specs.WantedFiles.{WantedFiles, in_order}
use Rattle.link_commands.specs.Links.{WithLinks, RunsLinked, Begins, EndsBefore, IsApart, IsObservableStart, IsOpaqueStart, MadePrints, causes_by}

-- ---- printed replies

pub nothing_printed : (old new : Option (List ℕ)) (text : List ℕ) → new ≡ old → WrotePrefix old new text
nothing_printed old new text same = record { prefix = []; rest = text; whole = refl; wrote = same ∙ Wrote-nil old }

-- An answer in code that is this reply.
pub made_prints :
    {E : Type 0} (answer : Result Answer E) (reply : Reply) (status : ℕ) (s s' : SinkState) →
    IfOk answer (λ answer. reply_of answer ≡ reply) → MadePrints answer status s s' → MayPrintReply reply status s s'
made_prints (Ok answer) reply status s s' is prints = inl (subst (λ reply. PrintsReply reply status s s') is prints)
made_prints (Err memory) reply status s s' is prints = inr (prints.0, nothing_printed s.written s'.written reply.text prints.1)

-- The causes of a printed reply, whose own status has some cause.
pub printed_causes :
    (reply : Reply) (status : ℕ) (s s' : SinkState) (R W : Type 0) →
    ((status ≡ reply.status) → HasCauses status R (Increased s.faults s'.faults ⊎ W)) →
    MayPrintReply reply status s s' → HasCauses status R (Increased s.faults s'.faults ⊎ W)
printed_causes reply status s s' R W own (inl (inl wrote)) = own wrote.0
printed_causes reply status s s' R W own (inl (inr cut)) = at_write status _ _ (inl cut.1) cut.0
printed_causes reply status s s' R W own (inr memory) = at_memory status _ _ memory.0

pub settled_causes : (status settled : ℕ) (R W : Type 0) → IsSettled settled → status ≡ settled → HasCauses status R W
settled_causes status settled R W is e =
    record {
      accepted = λ f. is.accepted (sym e ∙ f);
      read = λ f. absurd (is.read (sym e ∙ f));
      write = λ f. absurd (is.write (sym e ∙ f));
    }

-- ---- what is known of a run, whatever it did

-- The causes of its status, and where nothing failed its status.
pub record IsCaused (Done : ℕ → Type 0) (fine : Type 0) (status : ℕ) (causes : Causes) : Type 0 where
  pub has : HasCauses status (causes.read ⊎ causes.net) (causes.sink ⊎ causes.write)
  pub done : IsQuiet causes → fine → Done status ⊎ (status ≡ OUT_OF_MEMORY)

-- The files were read, and what is so with their contents.
pub linked_given :
    {T : Type 0} (wants all : WantedFiles) (start : Contents → Step T) (Goes : T → Type 0) (Done : ℕ → Type 0) (contents : Contents)
    (status : ℕ) (causes : Causes) (old new : WithLinks) →
    wants ≡ all → new.disk.files ≡ old.disk.files → old.disk.faults ≤ new.disk.faults → old.sink.faults ≤ new.sink.faults →
    IfSome old.disk.files (λ files. contents_of all files ≡ Ok contents) →
    IfNone old.disk.files (AreContents all contents) →
    Begins (start contents) Goes status old new ⊎ EndsBefore status old new →
    IsCaused Done (IsOk (start contents)) status causes →
    RunsLinked wants start Goes Done status causes old new
linked_given wants all start Goes Done contents status causes old new wants_all same later later' observable opaque begins caused = record {
  observable = map_some old.disk.files _ _ (λ files read. observable_start files (over files read) begins) observable;
  opaque = map_none old.disk.files (λ given. opaque_start (subst (λ wanted. AreContents wanted contents) (sym wants_all) given) begins) opaque;
  accepted = caused.has.accepted;
  read = caused.has.read;
  write = caused.has.write;
  complete = λ quiet. map_some old.disk.files _ _
      (λ files read fine. caused.done quiet (subst IsOk (over files read) fine)) observable;
  files = same;
  later = (later, later');
} where
  over : (files : Files) → contents_of all files ≡ Ok contents → (contents_of wants files >>= start) ≡ start contents
  over files read = ap (λ wanted. contents_of wanted files >>= start) wants_all ∙ ap (λ step. step >>= start) read

  observable_start : (files : Files) → (contents_of wants files >>= start) ≡ start contents →
      Begins (start contents) Goes status old new ⊎ EndsBefore status old new → IsObservableStart wants start Goes files status old new
  observable_start files is (inl begins) = inl (subst (λ step. Begins step Goes status old new) (sym is) begins)
  observable_start files is (inr before) = inr (inl before)

  opaque_start : AreContents wants contents → Begins (start contents) Goes status old new ⊎ EndsBefore status old new →
      IsOpaqueStart wants start Goes status old new
  opaque_start given (inl begins) = inl (contents, (given, begins))
  opaque_start given (inr before) = inr (inl before)

-- A stop at what the command makes of the contents.
pub stop_begins :
    {T : Type 0} (stop : Stop) (step : Step T) (Goes : T → Type 0) (status : ℕ) (old new : WithLinks) →
    IsStepStop stop step → PrintsStop stop status old.sink new.sink → IsApart old new →
    Begins step Goes status old new ⊎ EndsBefore status old new
stop_begins (Refused name place cause) step Goes status old new stops prints apart =
    inl (subst (λ step. Begins step Goes status old new) (sym stops) (prints, apart))
stop_begins ReadFault step Goes status old new stops prints apart = absurd stops
stop_begins NoMemory step Goes status old new stops prints apart = inr (prints.0, prints.1, apart)

not_ok : {T : Type 0} (step : Step T) (reply : Reply) → step ≡ Err reply → IsOk step → ⊥
not_ok (Ok value) reply is ok = absurd cc
not_ok (Err reply') reply is ok = absurd cc

pub stop_caused :
    {T : Type 0} (stop : Stop) (step : Step T) (Done : ℕ → Type 0) (status : ℕ) (old new : WithLinks) (net_failed : Type 0) →
    IsStepStop stop step → PrintsStop stop status old.sink new.sink →
    IsCaused Done (IsOk step) status (causes_by net_failed old new)
stop_caused (Refused name place cause) step Done status old new net_failed stops prints =
    record {
      has = printed_causes (refusal name.now place cause.now) status old.sink new.sink _ _
          (λ e. settled_causes status _ _ _ file_settled e) prints;
      done = λ quiet fine. absurd (not_ok step _ stops fine);
    }
stop_caused ReadFault step Done status old new net_failed stops prints = absurd stops
stop_caused NoMemory step Done status old new net_failed stops prints =
    record { has = at_memory status _ _ prints.0; done = λ quiet fine. inr prints.0 }

-- ---- a file was not read

rose_of : {R : Type 0} (o : Option Files) (There : Files → Type 0) → IfSome o (λ files. There files × R) → IfNone o R → R
rose_of None There observable opaque = opaque
rose_of (Some files) There observable opaque = observable.1

pub linked_stopped :
    {T : Type 0} (wants all : WantedFiles) (start : Contents → Step T) (Goes : T → Type 0) (Done : ℕ → Type 0) (stop : Stop)
    (status : ℕ) (net_failed : Type 0) (old new : WithLinks) →
    wants ≡ all → new.disk.files ≡ old.disk.files → old.disk.faults ≤ new.disk.faults → old.sink.faults ≤ new.sink.faults →
    IfSome old.disk.files (λ files. IsReadStop stop (contents_of all files)
    (IsFirstThere (in_order all) files × Increased old.disk.faults new.disk.faults)) →
    IfNone old.disk.files (IsOpaqueStop stop (in_order all) (Increased old.disk.faults new.disk.faults)) →
    PrintsStop stop status old.sink new.sink → IsApart old new →
    RunsLinked wants start Goes Done status (causes_by net_failed old new) old new
linked_stopped wants all start Goes Done (Refused name place cause) status net_failed old new wants_all same later later' observable opaque prints apart = record {
  observable = map_some old.disk.files _ _ (λ files read. inl (refused files (over files read))) observable;
  opaque = map_none old.disk.files
      (λ unread. inr (inr (unread.0, apart, inl (reply, (subst (λ wanted. IsUnread (in_order wanted) reply) (sym wants_all) unread.1, prints))))) opaque;
  accepted = causes.accepted;
  read = causes.read;
  write = causes.write;
  complete = λ quiet. map_some old.disk.files _ _ (λ files read fine. absurd (not_ok _ reply (over files read) fine)) observable;
  files = same;
  later = (later, later');
} where
  reply : Reply
  reply = refusal name.now place cause.now

  over : (files : Files) → contents_of all files ≡ Err reply → (contents_of wants files >>= start) ≡ Err reply
  over files read = ap (λ wanted. contents_of wanted files >>= start) wants_all ∙ ap (λ step. step >>= start) read

  refused : (files : Files) → (contents_of wants files >>= start) ≡ Err reply → Begins (contents_of wants files >>= start) Goes status old new
  refused files is = subst (λ step. Begins step Goes status old new) (sym is) (prints, apart)

  causes : HasCauses status (Increased old.disk.faults new.disk.faults ⊎ net_failed)
      (Increased old.sink.faults new.sink.faults ⊎ (causes_by net_failed old new).write)
  causes = printed_causes reply status old.sink new.sink _ _ (λ e. settled_causes status _ _ _ file_settled e) prints
linked_stopped wants all start Goes Done ReadFault status net_failed old new wants_all same later later' observable opaque prints apart = record {
  observable = map_some old.disk.files _ _
      (λ files read. inr (inr (subst (λ wanted. IsFirstThere (in_order wanted) files) (sym wants_all) read.0, read.1, prints, apart))) observable;
  opaque = map_none old.disk.files (λ rose. inr (inr (rose, apart, inr prints))) opaque;
  accepted = causes.accepted;
  read = causes.read;
  write = causes.write;
  complete = λ quiet. map_some old.disk.files _ _ (λ files read fine. absurd (quiet.read rose)) observable;
  files = same;
  later = (later, later');
} where
  rose : Increased old.disk.faults new.disk.faults
  rose = rose_of old.disk.files (IsFirstThere (in_order all)) observable opaque

  causes : HasCauses status (Increased old.disk.faults new.disk.faults ⊎ net_failed)
      (Increased old.sink.faults new.sink.faults ⊎ (causes_by net_failed old new).write)
  causes = printed_causes read_fault status old.sink new.sink _ _ (λ e. at_read status _ _ (inl rose) e) (inl prints)
linked_stopped wants all start Goes Done NoMemory status net_failed old new wants_all same later later' observable opaque prints apart = record {
  observable = map_some old.disk.files _ _ (λ files read. inr (inl before)) observable;
  opaque = map_none old.disk.files (λ unread. inr (inl before)) opaque;
  accepted = causes.accepted;
  read = causes.read;
  write = causes.write;
  complete = λ quiet. map_some old.disk.files _ _ (λ files read fine. inr prints.0) observable;
  files = same;
  later = (later, later');
} where
  before : EndsBefore status old new
  before = (prints.0, prints.1, apart)

  causes : HasCauses status (Increased old.disk.faults new.disk.faults ⊎ net_failed)
      (Increased old.sink.faults new.sink.faults ⊎ (causes_by net_failed old new).write)
  causes = at_memory status _ _ prints.0
