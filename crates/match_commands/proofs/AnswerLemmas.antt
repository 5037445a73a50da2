-- The answer of a command that may write a file.
use Rattle.std.proofs.Common.{◌≡◌, ◌≤◌, ◌⊎◌, ℕ, Bool, true, false, List, Option, None, Some, Result, Ok, Err, IsSome, [], codes, refl, sym, subst, inl, inr, ◌∙◌}
use Rattle.std.specs.Prelude.{◌==◌, unwrap_or, if◌then◌else◌, nat_lt, length}
use Rattle.base.specs.Steps.{◌>>=◌}
use Rattle.command_words.specs.RequestPlain.{MatchPlain, RangePlain}
use Rattle.game_io.specs.DiskState.{DiskState}
use Rattle.game_io.specs.SinkState.{SinkState}
use Rattle.game_model.specs.Setup.{Setup}
use Rattle.replay_file.specs.declared.replay.Replay.{Replay}
use Rattle.replay_file.specs.declared.replay_fault.ReplayFault.{ReplayFault}
use Rattle.replay_file.specs.Fault.{cause_of, place_of}
use Rattle.replay_file.specs.Reading.{read_of}
use Rattle.replay_run.specs.declared.difference.Difference as mark
use Rattle.replay_run.specs.Rerun.{difference_of}
use Rattle.command_answers.specs.declared.answer.Answer.{Answer}
use Rattle.command_answers.specs.declared.statuses.TheConstants.{DONE, MARK_DIFFERS}
use Rattle.command_answers.specs.declared.stop.Stop.{Stop}
use Rattle.command_answers.specs.Answer.{reply_of}
use Rattle.command_answers.specs.Causes.{causes_of}
use Rattle.command_answers.specs.Contents.{Contents}
use Rattle.command_answers.proofs.CausesLemmas.{IsSettled, done_settled, file_settled, mark_settled, answered_causes, answered_changes, none_changes}
use Rattle.command_answers.specs.FileWrite.{name_of, OnlyChanges}
use Rattle.command_answers.specs.Outcome.{IsAnswered}
use Rattle.command_answers.specs.Environment.{Environment, environment}
use Rattle.command_answers.specs.Printing.{MayPrintReply}
use Rattle.command_answers.specs.Reply.{Reply, done, refusal}
use Rattle.command_answers.specs.Step.{Step, ended, replied}
use Rattle.command_answers.specs.Stop.{ReturnsStep}
use Rattle.command_answers.specs.WantedFiles.{begins_save}
use Rattle.command_answers.specs.Writing.{AnswersReply, PrintsAnswer}
use Rattle.compare_command.specs.Comparing.{compared_reply, saves_step, replays_step}
use Rattle.compare_command.specs.Difference.{Difference}
use Rattle.compare_command.specs.Replays.{replay_differences}
use Rattle.compare_command.specs.Saves.{save_differences}
use Rattle.command_answers.proofs.WritingLemmas.{answered_since}
use Rattle.replay_commands.specs.Refusals.{read_step}
use Rattle.replay_commands.specs.Replays.{game_rerun, mark_status, migrated_reply, migrate_reply, replay_reply, replayed_reply}
use Rattle.replay_run.specs.declared.replayed.Replayed.{Replayed}
use Rattle.replay_run.specs.Rerun.{replayed_from}
use Rattle.game_save.specs.ReadSave.{read_save_of}
use Rattle.save_commands.specs.Refusals.{of_match, with_frames}
use Rattle.replay_commands.specs.SaveRefusals.{read_save_step}
use Rattle.save_commands.specs.Saves.{resumed_rerun, save_bytes_at, saved_reply}
use Rattle.tick_core.specs.Game.{GameState}
use Rattle.match_commands.specs.Compared.{compared_step, first_step}
use Rattle.match_commands.specs.Replayed.{migrated_step, replayed_step}
use Rattle.rule_commands.specs.Numbers.{numbered_setup_step}
use Rattle.match_commands.specs.Saves.{continued_step, saved_step}
use Rattle.match_commands.specs.Views.{viewed_step}
use Rattle.match_commands.specs.Worlds.{worlds_over, PrintsWorlds}
use Rattle.match_commands.specs.Request.{text_reply}
use Rattle.replay_run.specs.Rerun.{frame_count}
use Rattle.view_command.specs.Views.{no_such_client, view_text}
use Rattle.worlds_command.specs.Chosen.{chosen_of, is_beyond}
use Rattle.worlds_command.specs.Worlds.{chosen_step}
use Rattle.match_commands.proofs.RequestLemmas.{Printed, alone_printed, stop_printed}

-- A reply to a request that names the file `written` to be written, if it names one.
pub record Fits (written : Option (List ℕ)) (reply : Reply) : Type 0 where
  pub settled : IsSettled reply.status
  pub named : (name_of reply.write ≡ None) ⊎ (name_of reply.write ≡ written)

-- ---- a reply that was answered

never : {P : Type 0} (name : Option (List ℕ)) → name ≡ None → IsSome name → P
never None none named = absurd cc
never (Some name) none named = absurd cc

-- The causes of a reply are those of its request.
answered_as :
    (written : Option (List ℕ)) (reply : Reply) (status : ℕ) (old new : Environment) →
    (name_of reply.write ≡ None) ⊎ (name_of reply.write ≡ written) →
    IsAnswered reply status (causes_of (name_of reply.write) old new) old new →
    IsAnswered reply status (causes_of written old new) old new
answered_as written reply status old new (inr is) answered =
    subst (λ name. IsAnswered reply status (causes_of name old new) old new) is answered
answered_as written reply status old new (inl none) (inl (inl complete)) = inl (inl complete)
answered_as written reply status old new (inl none) (inl (inr (inl cut))) = inl (inr (inl cut))
answered_as written reply status old new (inl none) (inl (inr (inr cut))) =
    never (name_of reply.write) none cut.1.0
answered_as written reply status old new (inl none) (inr memory) = inr memory

changes_as :
    (written : Option (List ℕ)) (reply : Reply) (status : ℕ) (old new : Environment) →
    (name_of reply.write ≡ None) ⊎ (name_of reply.write ≡ written) →
    IsAnswered reply status (causes_of written old new) old new → OnlyChanges written old.disk.files new.disk.files
changes_as written reply status old new (inr is) answered =
    subst (λ name. OnlyChanges name old.disk.files new.disk.files) is
    (answered_changes reply status (causes_of written old new) old new answered)
changes_as written reply status old new (inl none) answered =
    none_changes written old.disk.files new.disk.files
    (subst (λ name. OnlyChanges name old.disk.files new.disk.files) none
    (answered_changes reply status (causes_of written old new) old new answered))

-- Files were read before, at `d`.
pub reply_printed :
    (written : Option (List ℕ)) (reply : Reply) (status : ℕ) (d d1 d' : DiskState) (s s' : SinkState) →
    d1.files ≡ d.files → d.faults ≤ d1.faults → Fits written reply → AnswersReply reply status d1 d' s s' →
    Printed written reply status d d' s s'
reply_printed written reply status d d1 d' s s' same later fits answers =
    let old = environment d s in
    let new = environment d' s' in
    let answered : IsAnswered reply status (causes_of written old new) old new =
    answered_as written reply status old new fits.named (answered_since reply status (name_of reply.write) d d1 d' s s' same later answers) in
    record {
      answered = answered;
      causes = answered_causes reply status (causes_of written old new) old new fits.settled answered;
      files = changes_as written reply status old new fits.named answered;
    }

-- ---- the steps of a command

-- Each reply of a step fits.
abbrev pub AllFit : Option (List ℕ) → Step Reply → Type 0
AllFit written step = (reply : Reply) → step ≡ Ok reply → Fits written reply

pub bind_fits :
    {T : Type 0} (written : Option (List ℕ)) (step : Step T) (next : T → Step Reply) → ((value : T) → AllFit written (next value)) →
    AllFit written (step >>= next)
bind_fits written (Ok value) next fits = fits value
bind_fits written (Err refused) next fits = λ reply is. absurd cc

pub ok_fits : (written : Option (List ℕ)) (reply : Reply) → Fits written reply → AllFit written (Ok reply)
ok_fits written reply fits = λ other is. let same : reply ≡ other = cc in subst (λ reply. Fits written reply) same fits

pub answer_printed :
    (written : Option (List ℕ)) (answer : Result Answer Stop) (step : Step Reply) (status : ℕ) (d d1 d' : DiskState) (s s' : SinkState) →
    d1.files ≡ d.files → d.faults ≤ d1.faults → AllFit written step → ReturnsStep answer reply_of step → PrintsAnswer answer status d1 d' s s' →
    Printed written (replied step) status d d' s s'
answer_printed written (Ok answer) step status d d1 d' s s' same later fits returns prints =
    subst (λ step. Printed written (replied step) status d d' s s') (sym returns)
    (reply_printed written (reply_of answer) status d d1 d' s s' same later (fits (reply_of answer) returns) prints)
answer_printed written (Err stop) step status d d1 d' s s' same later fits returns prints =
    subst (λ reply. Printed written reply status d d' s s') (whole step)
    (stop_printed written stop step (λ reply. Ok reply) status d d' s s' (prints.1 ∙ same) returns prints.0)
  where
    whole : (step : Step Reply) → replied (step >>= λ reply. Ok reply) ≡ replied step
    whole (Ok reply) = refl
    whole (Err reply) = refl

-- ---- the commands on replays

pub status_settled : (difference : Option mark.Difference) → IsSettled (mark_status difference)
status_settled None = done_settled
status_settled (Some d) = mark_settled

pub marks_fit : (given : Replayed GameState) → Fits None (replayed_reply given)
marks_fit given = record { settled = status_settled given.difference; named = inl refl }

pub replay_fits : (setup : Setup) (r : Replay) → Fits None (replay_reply setup r)
replay_fits setup r = record { settled = status_settled (difference_of (game_rerun setup r) r); named = inl refl }

migrated_fits : (setup : Setup) (to : List ℕ) (r : Replay) (difference : Option mark.Difference) → Fits (Some to) (migrated_reply setup to r difference)
migrated_fits setup to r None = record { settled = done_settled; named = inr refl }
migrated_fits setup to r (Some d) = record { settled = mark_settled; named = inl refl }

pub migrate_fits : (setup : Setup) (to : List ℕ) (r : Replay) → Fits (Some to) (migrate_reply setup to r)
migrate_fits setup to r = migrated_fits setup to r (difference_of (game_rerun setup r) r)

pub replayed_fits : (query : MatchPlain) (contents : Contents) → AllFit None (replayed_step query contents)
replayed_fits query contents =
    bind_fits None (numbered_setup_step query.rules query.map_file contents) _ (λ made.
    bind_fits None (read_step query.file (read_of made.1 (unwrap_or contents.replay []))) _ (λ r.
    ok_fits None (replay_reply made.0 r) (replay_fits made.0 r)))

pub all_migrated_fits : (query : MatchPlain) (to : List ℕ) (contents : Contents) → AllFit (Some to) (migrated_step query to contents)
all_migrated_fits query to contents =
    bind_fits (Some to) (numbered_setup_step query.rules query.map_file contents) _ (λ made.
    bind_fits (Some to) (read_step query.file (read_of made.1 (unwrap_or contents.replay []))) _ (λ r.
    ok_fits (Some to) (migrate_reply made.0 to r) (migrate_fits made.0 to r)))

-- ---- the commands on saves

pub saved_fits : (query : MatchPlain) (frames : ℕ) (to : List ℕ) (contents : Contents) → AllFit (Some to) (saved_step query frames to contents)
saved_fits query frames to contents =
    bind_fits (Some to) (numbered_setup_step query.rules query.map_file contents) _ (λ made.
    bind_fits (Some to) (read_step query.file (read_of made.1 (unwrap_or contents.replay []))) _ (λ r.
    bind_fits (Some to) (with_frames query.file frames r) _ (λ long.
    ok_fits (Some to) (saved_reply to frames (save_bytes_at made.1 frames made.0 long)) (record { settled = done_settled; named = inr refl }))))

pub continued_fits : (query : MatchPlain) (save : List ℕ) (contents : Contents) → AllFit None (continued_step query save contents)
continued_fits query save contents =
    bind_fits None (numbered_setup_step query.rules query.map_file contents) _ (λ made.
    bind_fits None (read_save_step save (read_save_of made.1 made.0 (unwrap_or contents.first []))) _ (λ saved.
    bind_fits None (read_step query.file (read_of made.1 (unwrap_or contents.replay []))) _ (λ r.
    bind_fits None (of_match query.file saved r) _ (λ same.
    bind_fits None (with_frames query.file saved.frames same) _ (λ long.
    ok_fits None (replayed_reply (replayed_from (resumed_rerun made.0 saved) saved.frames long))
    (marks_fit (replayed_from (resumed_rerun made.0 saved) saved.frames long)))))))

-- ---- `compare`

compared_settled : (none : Bool) → IsSettled (if none then DONE else MARK_DIFFERS)
compared_settled true = done_settled
compared_settled false = mark_settled

compared_reply_fits : (differences : List Difference) → AllFit None (Ok (compared_reply differences))
compared_reply_fits differences =
    ok_fits None (compared_reply differences) (record { settled = compared_settled (length differences == 0); named = inl refl })

pub compared_fits : (query : MatchPlain) (second : List ℕ) (contents : Contents) → AllFit None (compared_step query second contents)
compared_fits query second contents =
    bind_fits None (first_step query.file (unwrap_or contents.first [])) _ (λ first.
    bind_fits None (numbered_setup_step query.rules query.map_file contents) _ (λ made.
    both_kinds first (unwrap_or contents.replay []) made.1 made.0 (begins_save first)))
  where
    both_kinds : (bytes others : List ℕ) (rules : ℕ) (setup : Setup) (saves : Bool)
        → AllFit None (if saves then saves_step query.file second rules setup bytes others else replays_step query.file second rules bytes others)
    both_kinds bytes others rules setup true =
        bind_fits None (read_save_step query.file (read_save_of rules setup bytes)) _ (λ a.
        bind_fits None (read_save_step second (read_save_of rules setup others)) _ (λ b. compared_reply_fits (save_differences a b)))
    both_kinds bytes others rules setup false =
        bind_fits None (read_step query.file (read_of rules bytes)) _ (λ r.
        bind_fits None (read_step second (read_of rules others)) _ (λ s. compared_reply_fits (replay_differences r s)))

-- ---- `view`

pub viewed_fits : (query : MatchPlain) (client : ℕ) (contents : Contents) → AllFit None (viewed_step query client contents)
viewed_fits query client contents =
    bind_fits None (numbered_setup_step query.rules query.map_file contents) _ (λ made.
    bind_fits None (read_step query.file (read_of made.1 (unwrap_or contents.replay []))) _ (λ r.
    choice (nat_lt client r.clients) (view_text made.0 r client)))
  where
    choice : (is : Bool) (text : List ℕ) → AllFit None (if is then Ok (done text) else Err no_such_client)
    choice true text = ok_fits None (done text) (record { settled = done_settled; named = inl refl })
    choice false text = λ reply is. absurd cc

-- ---- `worlds`

-- A refusal of this step is settled, and writes no file.
abbrev pub IsRefusedAlone : {T : Type 0} → Step T → Type 0
IsRefusedAlone step = (reply : Reply) → step ≡ Err reply → IsSettled reply.status × (reply.write ≡ None)

-- A step that ends in a text, or in such a refusal, and was printed.
ended_printed :
    (step : Step (List ℕ)) (status : ℕ) (d d' : DiskState) (s s' : SinkState) →
    d'.files ≡ d.files → IsRefusedAlone step → MayPrintReply (ended step done) status s s' →
    Printed None (replied (text_reply step)) status d d' s s'
ended_printed (Ok text) status d d' s s' same alone prints =
    alone_printed None (done text) status d d' s s' done_settled refl same prints
ended_printed (Err reply) status d d' s s' same alone prints =
    alone_printed None reply status d d' s s' (alone reply refl).0 (alone reply refl).1 same prints

file_alone : (name : List ℕ) (place : ℕ) (cause : List ℕ) (reply : Reply) → refusal name place cause ≡ reply → IsSettled reply.status × (reply.write ≡ None)
file_alone name place cause reply is = subst (λ (reply : Reply). IsSettled reply.status × (reply.write ≡ None)) is (file_settled, refl)

read_alone : (name : List ℕ) (read : Result Replay ReplayFault) → IsRefusedAlone (read_step name read)
read_alone name (Ok r) reply is = absurd cc
read_alone name (Err fault) reply is =
    let same : refusal name (unwrap_or (place_of fault) 0) (cause_of fault) ≡ reply = cc in
    file_alone name (unwrap_or (place_of fault) 0) (cause_of fault) reply same

choice_alone : {T : Type 0} (name : List ℕ) (is : Bool) (value : T) → IsRefusedAlone (if is then Err (refusal name 0 (codes "TooFewFrames")) else Ok value)
choice_alone name true value reply is =
    let same : refusal name 0 (codes "TooFewFrames") ≡ reply = cc in file_alone name 0 (codes "TooFewFrames") reply same
choice_alone name false value reply is = absurd cc

bind_alone :
    {T U : Type 0} (step : Step T) (next : T → Step U) → IsRefusedAlone step → ((value : T) → IsRefusedAlone (next value)) → IsRefusedAlone (step >>= next)
bind_alone (Ok value) next first follows = follows value
bind_alone (Err reply) next first follows = λ other is. let same : reply ≡ other = cc in
    subst (λ (reply : Reply). IsSettled reply.status × (reply.write ≡ None)) same (first reply refl)

worlds_alone : (query : MatchPlain) (range : RangePlain) (bytes : List ℕ) (made : Setup × ℕ) → IsRefusedAlone (worlds_over query range bytes made)
worlds_alone query range bytes made =
    bind_alone (chosen_step query.file range.from range.to range.every made.1 bytes) _
    (bind_alone (read_step query.file (read_of made.1 bytes)) _ (read_alone query.file (read_of made.1 bytes))
    (λ r. choice_alone query.file (is_beyond (chosen_of range.from range.to range.every (frame_count r)) (frame_count r))
    (r, chosen_of range.from range.to range.every (frame_count r))))
    (λ found reply is. absurd cc)

text_after : {T : Type 0} (step : Step T) (next : T → Step (List ℕ)) → replied (step >>= λ value. text_reply (next value)) ≡ replied (text_reply (step >>= next))
text_after (Ok value) next = refl
text_after (Err reply) next = refl

-- The worlds of a replay, or why the command ended before them.
pub worlds_printed :
    (query : MatchPlain) (range : RangePlain) (bytes : List ℕ) (made : Result (Setup × ℕ) Stop) (step : Step (Setup × ℕ)) (status : ℕ) (d d' : DiskState) (s s' : SinkState) →
    d'.files ≡ d.files → ReturnsStep made (λ made. made) step → PrintsWorlds query range bytes made status s s' →
    Printed None (replied (text_reply (step >>= worlds_over query range bytes))) status d d' s s'
worlds_printed query range bytes (Ok made) step status d d' s s' same returns prints =
    subst (λ step. Printed None (replied (text_reply (step >>= worlds_over query range bytes))) status d d' s s') (sym returns)
    (ended_printed (worlds_over query range bytes made) status d d' s s' same (worlds_alone query range bytes made) prints)
worlds_printed query range bytes (Err stop) step status d d' s s' same returns prints =
    subst (λ reply. Printed None reply status d d' s s') (text_after step (worlds_over query range bytes))
    (stop_printed None stop step (λ made. text_reply (worlds_over query range bytes made)) status d d' s s' same returns prints)
