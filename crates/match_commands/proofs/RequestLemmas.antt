-- A whole request, over plain values.
use Rattle.std.proofs.Common.{◌≡◌, ◌≤◌, ◌⊎◌, ℕ, List, [], map, Option, None, Some, Result, Ok, Err, IfSome, IfNone, IsSome, refl, sym, ap, subst, inl, inr, append-nil}
use Rattle.std.specs.Global.{Vec}
use Rattle.base.specs.Cause.{Increased}
use Rattle.base.specs.Steps.{◌>>=◌}
use Rattle.command_words.specs.RequestPlain.{RequestPlain}
use Rattle.game_io.specs.Files.{Files}
use Rattle.game_io.specs.DiskState.{DiskState}
use Rattle.game_io.specs.SinkState.{SinkState}
use Rattle.command_answers.specs.declared.statuses.TheConstants.{OUT_OF_MEMORY}
use Rattle.command_answers.specs.declared.stop.Stop.{Stop}
use Rattle.command_answers.specs.declared.stop.Stop.TheVariants.{Refused, ReadFault, NoMemory}
use Rattle.command_answers.specs.FileWrite.{OnlyChanges}
use Rattle.command_answers.specs.Reply.{Reply, done, refusal, read_fault}
use Rattle.command_answers.specs.Step.{Step, replied}
use Rattle.command_answers.specs.Causes.{causes_of}
use Rattle.command_answers.specs.Environment.{environment}
use Rattle.command_answers.specs.Outcome.{IsPrinted, IsAnswered}
use Rattle.command_answers.specs.Printing.{PrintsReply, MayPrintReply}
use Rattle.command_answers.specs.WantedFiles.{WantedFiles, no_files, in_order, rule_file}
use Rattle.command_answers.specs.Contents.{Contents, contents_of, read_after, IsFirstThere, AreWithinLimits, AreContents}
use Rattle.match_commands.specs.Request.{wanted, written_by, answer_of, text_reply, given_reply, reply_to}
use Rattle.match_commands.specs.Run.{RunsRequest}
use Rattle.command_answers.specs.Stop.{IsReadStop, IsStepStop, IsOpaqueStop, ReturnsStep, PrintsStop, PrintsText}
use Rattle.command_answers.proofs.OptionLemmas.{map_some, map_none}
use Rattle.command_answers.proofs.CausesLemmas.{HasCauses, IsSettled, done_settled, file_settled, at_memory, at_write, at_read, answered_causes, none_changes}
use Rattle.command_answers.proofs.OutcomeLemmas.{printed_outcome, answered_outcome, memory_outcome}

-- What was printed and written for a command: the reply, the causes of the status, and the files that changed. `written` is
-- the file that its request names to be written.
pub record Printed (written : Option (List ℕ)) (reply : Reply) (status : ℕ) (d d' : DiskState) (s s' : SinkState) : Type 0 where
  pub answered : IsAnswered reply status (causes_of written (environment d s) (environment d' s')) (environment d s) (environment d' s')
  pub causes : HasCauses status (Increased d.faults d'.faults) (Increased s.faults s'.faults ⊎ (IsSome written × Increased d.faults d'.faults))
  pub files : OnlyChanges written d.files d'.files

-- A reply without a file.
pub alone_printed :
    (written : Option (List ℕ)) (reply : Reply) (status : ℕ) (d d' : DiskState) (s s' : SinkState) →
    IsSettled reply.status → reply.write ≡ None → d'.files ≡ d.files → MayPrintReply reply status s s' →
    Printed written reply status d d' s s'
alone_printed written reply status d d' s s' settled none same prints =
    let answered = answered_outcome reply status written d d' s s' none same prints in
    record {
      answered = answered;
      causes = answered_causes reply status (causes_of written (environment d s) (environment d' s')) (environment d s) (environment d' s') settled answered;
      files = none_changes written d.files d'.files same;
    }

pub memory_printed :
    (written : Option (List ℕ)) (reply : Reply) (status : ℕ) (d d' : DiskState) (s s' : SinkState) →
    d'.files ≡ d.files → (status ≡ OUT_OF_MEMORY) × (s'.written ≡ s.written) → Printed written reply status d d' s s'
memory_printed written reply status d d' s s' same memory = record {
  answered = inr (memory_outcome reply status d d' s s' memory.0 same memory.1);
  causes = at_memory status _ _ memory.0;
  files = none_changes written d.files d'.files same;
}

-- A stop before the reply, at a step that has this reply or refuses for it.
pub stop_printed :
    {T : Type 0} (written : Option (List ℕ)) (stop : Stop) (step : Step T) (next : T → Step Reply) (status : ℕ) (d d' : DiskState) (s s' : SinkState) →
    d'.files ≡ d.files → IsStepStop stop step → PrintsStop stop status s s' →
    Printed written (replied (step >>= next)) status d d' s s'
stop_printed written (Refused name place cause) step next status d d' s s' same stops prints =
    subst (λ step. Printed written (replied (step >>= next)) status d d' s s') (sym stops)
    (alone_printed written (refusal name.now place cause.now) status d d' s s' file_settled refl same prints)
stop_printed written ReadFault step next status d d' s s' same stops prints = absurd stops
stop_printed written NoMemory step next status d d' s s' same stops prints =
    memory_printed written (replied (step >>= next)) status d d' s s' same prints

-- The text of a command, which is a step's, or the step's refusal.
pub text_printed :
    (written : Option (List ℕ)) (text : Result (Vec ℕ) Stop) (step : Step (List ℕ)) (status : ℕ) (d d' : DiskState) (s s' : SinkState) →
    d'.files ≡ d.files → ReturnsStep text (λ text. text.items) step → PrintsText text status s s' →
    Printed written (replied (text_reply step)) status d d' s s'
text_printed written (Ok text) step status d d' s s' same returns prints =
    subst (λ step. Printed written (replied (text_reply step)) status d d' s s') (sym returns)
    (alone_printed written (done text.items) status d d' s s' done_settled refl same (inl prints))
text_printed written (Err stop) step status d d' s s' same returns prints =
    stop_printed written stop step (λ text. Ok (done text)) status d d' s s' same returns prints

-- All files were read, and the answer to their contents was printed.
pub request_given :
    (request : RequestPlain) (contents : Contents) (status : ℕ) (d d' : DiskState) (s s' : SinkState) →
    d.faults ≤ d'.faults → s.faults ≤ s'.faults →
    IfSome d.files (λ files. contents_of (wanted request) files ≡ Ok contents) →
    IfNone d.files (AreContents (wanted request) contents) →
    Printed (written_by request) (given_reply request contents) status d d' s s' →
    RunsRequest request status (causes_of (written_by request) (environment d s) (environment d' s')) (environment d s) (environment d' s')
request_given request contents status d d' s s' later later' observable opaque printed = record {
  observable = map_some d.files _ _ (λ files read. inl (answer files read)) observable;
  opaque = map_none d.files (λ given. inl (contents, (given, printed.answered))) opaque;
  accepted = printed.causes.accepted;
  read = λ e. inl (printed.causes.read e);
  write = printed.causes.write;
  files = printed.files;
  later = (later, later');
} where
  answer : (files : Files) → contents_of (wanted request) files ≡ Ok contents →
      IsAnswered (reply_to request files) status (causes_of (written_by request) (environment d s) (environment d' s')) (environment d s) (environment d' s')
  answer files read =
      subst (λ step. IsAnswered (replied (step >>= answer_of request)) status (causes_of (written_by request) (environment d s) (environment d' s')) (environment d s) (environment d' s'))
      (sym read) printed.answered

-- The count of faults rose, whether the disk is observable or opaque.
rose_of : {R : Type 0} (o : Option Files) (There : Files → Type 0) → IfSome o (λ files. There files × R) → IfNone o R → R
rose_of None There observable opaque = opaque
rose_of (Some files) There observable opaque = observable.1

-- Some file was not read, and the stop was printed.
pub request_stopped :
    (request : RequestPlain) (stop : Stop) (status : ℕ) (d d' : DiskState) (s s' : SinkState) →
    d'.files ≡ d.files → d.faults ≤ d'.faults → s.faults ≤ s'.faults →
    IfSome d.files (λ files. IsReadStop stop (contents_of (wanted request) files)
    (IsFirstThere (in_order (wanted request)) files × Increased d.faults d'.faults)) →
    IfNone d.files (IsOpaqueStop stop (in_order (wanted request)) (Increased d.faults d'.faults)) →
    PrintsStop stop status s s' →
    RunsRequest request status (causes_of (written_by request) (environment d s) (environment d' s')) (environment d s) (environment d' s')
request_stopped request (Refused name place cause) status d d' s s' same later later' observable opaque prints = record {
  observable = map_some d.files _ _ (λ files read. inl (answer files read)) observable;
  opaque = map_none d.files (λ unread. inr (inl (unread.0, inl (reply, (unread.1, printed.answered))))) opaque;
  accepted = printed.causes.accepted;
  read = λ e. inl (printed.causes.read e);
  write = printed.causes.write;
  files = printed.files;
  later = (later, later');
} where
  reply : Reply
  reply = refusal name.now place cause.now

  printed : Printed (written_by request) reply status d d' s s'
  printed = alone_printed (written_by request) reply status d d' s s' file_settled refl same prints

  answer : (files : Files) → contents_of (wanted request) files ≡ Err reply →
      IsAnswered (reply_to request files) status (causes_of (written_by request) (environment d s) (environment d' s')) (environment d s) (environment d' s')
  answer files read =
      subst (λ step. IsAnswered (replied (step >>= answer_of request)) status (causes_of (written_by request) (environment d s) (environment d' s')) (environment d s) (environment d' s'))
      (sym read) printed.answered
request_stopped request ReadFault status d d' s s' same later later' observable opaque prints = record {
  observable = map_some d.files _ _ (λ files read. inr (read.0, read.1, outcome)) observable;
  opaque = map_none d.files (λ rose. inr (inl (rose, inr outcome))) opaque;
  accepted = (causes prints).accepted;
  read = λ e. inl ((causes prints).read e);
  write = (causes prints).write;
  files = none_changes (written_by request) d.files d'.files same;
  later = (later, later');
} where
  outcome : IsPrinted read_fault status (causes_of (written_by request) (environment d s) (environment d' s')) (environment d s) (environment d' s')
  outcome = printed_outcome read_fault status (written_by request) d d' s s' refl same prints

  rose : Increased d.faults d'.faults
  rose = rose_of d.files (IsFirstThere (in_order (wanted request))) observable opaque

  causes : PrintsReply read_fault status s s' → HasCauses status (Increased d.faults d'.faults) (Increased s.faults s'.faults ⊎ (IsSome (written_by request) × Increased d.faults d'.faults))
  causes (inl wrote) = at_read status _ _ rose wrote.0
  causes (inr cut) = at_write status _ _ (inl cut.1) cut.0
request_stopped request NoMemory status d d' s s' same later later' observable opaque prints = record {
  observable = map_some d.files _ _ (λ files read. inl (memory_printed (written_by request) (reply_to request files) status d d' s s' same prints).answered) observable;
  opaque = map_none d.files (λ unread. inr (inr (prints.0, (same, prints.1)))) opaque;
  accepted = causes.accepted;
  read = λ e. inl (causes.read e);
  write = causes.write;
  files = none_changes (written_by request) d.files d'.files same;
  later = (later, later');
} where
  causes : HasCauses status (Increased d.faults d'.faults) (Increased s.faults s'.faults ⊎ (IsSome (written_by request) × Increased d.faults d'.faults))
  causes = at_memory status _ _ prints.0

-- ---- rule files

-- The files of a command that wants rules alone, and their contents.
abbrev pub rules_alone : List (List ℕ) → WantedFiles
rules_alone names = record no_files { rules = map rule_file names }

abbrev pub rule_contents : List (List ℕ) → Contents
rule_contents rules = record { rules = rules; map_file = None; first = None; script = None; replay = None }

rules_in_order : (names : List (List ℕ)) → in_order (rules_alone names) ≡ map rule_file names
rules_in_order names = append-nil (map rule_file names)

pub rules_observable :
    (names contents : List (List ℕ)) (o : Option Files) →
    IfSome o (λ files. read_after [] (map rule_file names) files ≡ Ok contents) →
    IfSome o (λ files. contents_of (rules_alone names) files ≡ Ok (rule_contents contents))
rules_observable names contents o =
    map_some o _ _ (λ files read. ap (λ step. step >>= λ rules. Ok (rule_contents rules)) read)

pub rules_opaque :
    (names contents : List (List ℕ)) (o : Option Files) →
    IfNone o (AreWithinLimits (map rule_file names) contents) →
    IfNone o (AreContents (rules_alone names) (rule_contents contents))
rules_opaque names contents o =
    map_none o (λ given. record { rules = given; map_file = tt; first = tt; script = tt; replay = tt })

rules_stop :
    (names : List (List ℕ)) (stop : Stop) (files : Files) (R : Type 0) →
    IsReadStop stop (read_after [] (map rule_file names) files) (IsFirstThere (map rule_file names) files × R) →
    IsReadStop stop (contents_of (rules_alone names) files) (IsFirstThere (in_order (rules_alone names)) files × R)
rules_stop names (Refused name place cause) files R stops = ap (λ step. step >>= λ rules. Ok (rule_contents rules)) stops
rules_stop names ReadFault files R stops = (subst (λ all. IsFirstThere all files) (sym (rules_in_order names)) stops.0, stops.1)
rules_stop names NoMemory files R stops = tt

pub rules_stop_observable :
    (names : List (List ℕ)) (stop : Stop) (R : Type 0) (o : Option Files) →
    IfSome o (λ files. IsReadStop stop (read_after [] (map rule_file names) files) (IsFirstThere (map rule_file names) files × R)) →
    IfSome o (λ files. IsReadStop stop (contents_of (rules_alone names) files) (IsFirstThere (in_order (rules_alone names)) files × R))
rules_stop_observable names stop R o = map_some o _ _ (λ files stops. rules_stop names stop files R stops)

pub rules_stop_opaque :
    (names : List (List ℕ)) (stop : Stop) (R : Type 0) (o : Option Files) →
    IfNone o (IsOpaqueStop stop (map rule_file names) R) → IfNone o (IsOpaqueStop stop (in_order (rules_alone names)) R)
rules_stop_opaque names stop R o = map_none o (λ stops. subst (λ all. IsOpaqueStop stop all R) (sym (rules_in_order names)) stops)

-- ---- the commands

-- Rule files were read, and the command's text was printed.
pub rules_given :
    (request : RequestPlain) (names contents : List (List ℕ)) (text : Result (Vec ℕ) Stop) (step : Step (List ℕ)) (status : ℕ) (d d' : DiskState) (s s' : SinkState) →
    wanted request ≡ rules_alone names →
    d'.files ≡ d.files → d.faults ≤ d'.faults → s.faults ≤ s'.faults →
    IfSome d.files (λ files. read_after [] (map rule_file names) files ≡ Ok contents) →
    IfNone d.files (AreWithinLimits (map rule_file names) contents) →
    ReturnsStep text (λ text. text.items) step → answer_of request (rule_contents contents) ≡ text_reply step →
    PrintsText text status s s' →
    RunsRequest request status (causes_of (written_by request) (environment d s) (environment d' s')) (environment d s) (environment d' s')
rules_given request names contents text step status d d' s s' wants same later later' observable opaque returns answers prints =
    request_given request (rule_contents contents) status d d' s s' later later'
    (subst (λ wanted. IfSome d.files (λ files. contents_of wanted files ≡ Ok (rule_contents contents))) (sym wants)
    (rules_observable names contents d.files observable))
    (subst (λ wanted. IfNone d.files (AreContents wanted (rule_contents contents))) (sym wants)
    (rules_opaque names contents d.files opaque))
    (subst (λ answer. Printed (written_by request) (replied answer) status d d' s s') (sym answers)
    (text_printed (written_by request) text step status d d' s s' same returns prints))

-- A rule file was not read.
pub rules_stopped :
    (request : RequestPlain) (names : List (List ℕ)) (stop : Stop) (status : ℕ) (d d' : DiskState) (s s' : SinkState) →
    wanted request ≡ rules_alone names →
    d'.files ≡ d.files → d.faults ≤ d'.faults → s.faults ≤ s'.faults →
    IfSome d.files (λ files. IsReadStop stop (read_after [] (map rule_file names) files)
    (IsFirstThere (map rule_file names) files × Increased d.faults d'.faults)) →
    IfNone d.files (IsOpaqueStop stop (map rule_file names) (Increased d.faults d'.faults)) →
    PrintsStop stop status s s' →
    RunsRequest request status (causes_of (written_by request) (environment d s) (environment d' s')) (environment d s) (environment d' s')
rules_stopped request names stop status d d' s s' wants same later later' observable opaque prints =
    request_stopped request stop status d d' s s' same later later'
    (subst (λ wanted. IfSome d.files (λ files. IsReadStop stop (contents_of wanted files) (IsFirstThere (in_order wanted) files × Increased d.faults d'.faults)))
    (sym wants) (rules_stop_observable names stop (Increased d.faults d'.faults) d.files observable))
    (subst (λ wanted. IfNone d.files (IsOpaqueStop stop (in_order wanted) (Increased d.faults d'.faults)))
    (sym wants) (rules_stop_opaque names stop (Increased d.faults d'.faults) d.files opaque))
    prints
