-- The record of a served match, run again.
use Rattle.std.proofs.Common.{◌≡◌, ◌∙◌, ◌⊎◌, ℕ, List, Result, Ok, sym, ap, ap₂, inl, inr}
use Rattle.base.specs.Steps.{◌>>=◌}
use Rattle.frame_core.specs.Column.{Column}
use Rattle.frame_core.specs.Match.{Match, agreed_world}
use Rattle.game_model.specs.Setup.{Setup}
use Rattle.replay_file.specs.declared.replay.Replay.{Replay}
use Rattle.replay_file.specs.declared.replay_fault.ReplayFault.{ReplayFault}
use Rattle.replay_file.proofs.ReadingLemmas.{spelled_read}
use Rattle.replay_run.specs.declared.replayed.Replayed.{Replayed}
use Rattle.replay_run.specs.RecordLaws.{agreed_replayed, rerun_of}
use Rattle.replay_run.specs.Recording.{replay_of}
use Rattle.replay_run.specs.Rerun.{replayed}
use Rattle.tick_core.specs.Game.{GameState}
use Rattle.command_answers.specs.Reply.{Reply, done}
use Rattle.command_answers.specs.Step.{Step}
use Rattle.command_words.specs.RequestPlain.{ServePlain}
use Rattle.link_commands.specs.Links.{WithLinks}
use Rattle.match_run.specs.Local.{longest}
use Rattle.match_serve.specs.Passes.{columns_of}
use Rattle.replay_commands.specs.Refusals.{read_step}
use Rattle.replay_commands.specs.Replays.{game_first_hash, replay_reply, replayed_reply}
use Rattle.serve_command.specs.Records.{RecordsOut, served_record, served_replay}
use Rattle.match_commands.specs.Serves.{invite_of, served_match, without_marks, ReplaysServed}

-- The law of records.
abbrev pub IsRecordLaw : Type 0
IsRecordLaw =
    (m : Match GameState) (first_hash : GameState → ℕ) (rules seed : ℕ) (columns : List Column) (n : ℕ) →
    replayed (rerun_of m first_hash) (replay_of m rules seed columns n) ≡ agreed_replayed m columns n

-- The reply to `replay` of a file with this name, by what was read of it, by what the replay gave, and by the frames and the world in the end.
abbrev over_read : (file : List ℕ) → Setup → Result Replay ReplayFault → Step Reply
over_read file setup read = read_step file read >>= λ r. Ok (replay_reply setup r)

abbrev over_given : Replayed GameState → Step Reply
over_given given = Ok (replayed_reply given)

abbrev over_end : ℕ → GameState → Step Reply
over_end frames world = Ok (done (without_marks frames world))

-- Where bytes were made, they are replayed.
pub record_replayed :
    IsRecordLaw → (query : ServePlain) (name : List ℕ) (status : ℕ) (old new : WithLinks) (made : Setup × ℕ)
    (out : RecordsOut (served_match query made.0) (invite_of query made.1) name status old.net new.net old.console new.console
    old.disk new.disk old.sink new.sink) →
    (new.disk.files ≡ old.disk.files) ⊎ ReplaysServed query made (columns_of out.pass) out.steps out.world
record_replayed law query name status old new made out =
    let m = served_match query made.0 in
    let invite = invite_of query made.1 in
    let columns = columns_of out.pass in
    let count = longest columns in
    elim out.spelled [
      | inl same ↦ inl same
      | inr spells ↦ inr (λ file.
          ap (over_read file made.0)
          (spelled_read made.1 (served_record m invite columns) (served_replay m invite columns) spells)
          ∙ ap over_given (law m game_first_hash made.1 query.seed columns count)
          ∙ ap₂ over_end out.ticked (ap (agreed_world m columns) out.ticked ∙ sym out.serves.at.is))
    ]
