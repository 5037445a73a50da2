-- The commands over rules and a map, and over a script after them.
use Rattle.std.proofs.Common.{◌≡◌, ◌≤◌, ℕ, List, [], Option, None, Some, Ok, Result, IfSome, IfNone, refl, sym, subst, arith}
use Rattle.std.specs.Global.{Vec}
use Rattle.base.specs.Cause.{Increased}
use Rattle.command_words.specs.RequestPlain.{RequestPlain}
use Rattle.game_io.specs.Files.{Files}
use Rattle.game_io.specs.DiskState.{DiskState}
use Rattle.game_io.specs.SinkState.{SinkState}
use Rattle.command_answers.specs.declared.stop.Stop.{Stop}
use Rattle.command_answers.specs.Step.{Step, replied}
use Rattle.command_answers.specs.WantedFiles.{WantedFiles, no_files, in_order}
use Rattle.command_answers.specs.Contents.{Contents, contents_of, IsFirstThere, AreContents}
use Rattle.command_answers.specs.Causes.{causes_of}
use Rattle.command_answers.specs.Environment.{environment}
use Rattle.command_answers.specs.Stop.{IsReadStop, IsOpaqueStop, ReturnsStep, PrintsStop, PrintsText}
use Rattle.match_commands.specs.Request.{wanted, written_by, answer_of, given_reply, text_reply}
use Rattle.match_commands.specs.Run.{RunsRequest}
use Rattle.match_commands.proofs.RequestLemmas.{Printed, request_given, request_stopped, text_printed}

-- The contents of no files.
abbrev pub no_contents : Contents
no_contents = record { rules = []; map_file = None; first = None; script = None; replay = None }

-- The files were read, and the answer to their contents was printed.
pub all_given :
    (request : RequestPlain) (all : WantedFiles) (contents : Contents) (status : ℕ) (d d' : DiskState) (s s' : SinkState) →
    wanted request ≡ all → d.faults ≤ d'.faults → s.faults ≤ s'.faults →
    IfSome d.files (λ files. contents_of all files ≡ Ok contents) →
    IfNone d.files (AreContents all contents) →
    Printed (written_by request) (given_reply request contents) status d d' s s' →
    RunsRequest request status (causes_of (written_by request) (environment d s) (environment d' s')) (environment d s) (environment d' s')
all_given request all contents status d d' s s' wants later later' observable opaque printed =
    request_given request contents status d d' s s' later later'
    (subst (λ wanted. IfSome d.files (λ files. contents_of wanted files ≡ Ok contents)) (sym wants) observable)
    (subst (λ wanted. IfNone d.files (AreContents wanted contents)) (sym wants) opaque)
    printed

-- The same for a command that prints a text.
pub files_given :
    (request : RequestPlain) (all : WantedFiles) (contents : Contents) (text : Result (Vec ℕ) Stop) (step : Step (List ℕ)) (status : ℕ) (d d' : DiskState) (s s' : SinkState) →
    wanted request ≡ all →
    d'.files ≡ d.files → d.faults ≤ d'.faults → s.faults ≤ s'.faults →
    IfSome d.files (λ files. contents_of all files ≡ Ok contents) →
    IfNone d.files (AreContents all contents) →
    ReturnsStep text (λ text. text.items) step → answer_of request contents ≡ text_reply step →
    PrintsText text status s s' →
    RunsRequest request status (causes_of (written_by request) (environment d s) (environment d' s')) (environment d s) (environment d' s')
files_given request all contents text step status d d' s s' wants same later later' observable opaque returns answers prints =
    all_given request all contents status d d' s s' wants later later' observable opaque
    (subst (λ answer. Printed (written_by request) (replied answer) status d d' s s') (sym answers)
    (text_printed (written_by request) text step status d d' s s' same returns prints))

-- A command that reads no files and prints a text.
pub nothing_read :
    (request : RequestPlain) (text : Result (Vec ℕ) Stop) (step : Step (List ℕ)) (status : ℕ) (d : DiskState) (s s' : SinkState) →
    wanted request ≡ no_files → s.faults ≤ s'.faults →
    ReturnsStep text (λ text. text.items) step → answer_of request no_contents ≡ text_reply step →
    PrintsText text status s s' →
    RunsRequest request status (causes_of (written_by request) (environment d s) (environment d s')) (environment d s) (environment d s')
nothing_read request text step status d s s' wants later' returns answers prints =
    files_given request no_files no_contents text step status d d s s' wants refl (omega arith) later'
    (observable d.files) (opaque d.files) returns answers prints where
      observable : (o : Option Files) → IfSome o (λ files. contents_of no_files files ≡ Ok no_contents)
      observable None = tt
      observable (Some files) = refl

      opaque : (o : Option Files) → IfNone o (AreContents no_files no_contents)
      opaque None = record { rules = tt; map_file = tt; first = tt; script = tt; replay = tt }
      opaque (Some files) = tt

-- One of them was not.
pub files_stopped :
    (request : RequestPlain) (all : WantedFiles) (stop : Stop) (status : ℕ) (d d' : DiskState) (s s' : SinkState) →
    wanted request ≡ all →
    d'.files ≡ d.files → d.faults ≤ d'.faults → s.faults ≤ s'.faults →
    IfSome d.files (λ files. IsReadStop stop (contents_of all files)
    (IsFirstThere (in_order all) files × Increased d.faults d'.faults)) →
    IfNone d.files (IsOpaqueStop stop (in_order all) (Increased d.faults d'.faults)) →
    PrintsStop stop status s s' →
    RunsRequest request status (causes_of (written_by request) (environment d s) (environment d' s')) (environment d s) (environment d' s')
files_stopped request all stop status d d' s s' wants same later later' observable opaque prints =
    request_stopped request stop status d d' s s' same later later'
    (subst (λ wanted. IfSome d.files (λ files. IsReadStop stop (contents_of wanted files) (IsFirstThere (in_order wanted) files × Increased d.faults d'.faults))) (sym wants) observable)
    (subst (λ wanted. IfNone d.files (IsOpaqueStop stop (in_order wanted) (Increased d.faults d'.faults))) (sym wants) opaque)
    prints
