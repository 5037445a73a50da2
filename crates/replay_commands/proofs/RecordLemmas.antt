-- The record of a drill.
use Rattle.std.specs.Prelude.{◌≡◌, ℕ, List, length, Result, Ok, Err, IfOk}
use Rattle.std.specs.Global.{Vec}
use Rattle.std.proofs.Common.{refl, sym, ap, subst, ◌∙◌}
use Rattle.base.specs.Steps.{◌>>=◌}
use Rattle.command_answers.specs.Reply.{Reply}
use Rattle.command_answers.specs.Step.{Step}
use Rattle.drill.specs.declared.drilled.Drilled.{Drilled}
use Rattle.drill.specs.Drilled.{IsLeftBy}
use Rattle.drill_words.specs.Drill.{DrillPlain}
use Rattle.frame_core.specs.Column.{Column}
use Rattle.frame_core.specs.Match.{Match}
use Rattle.game_model.specs.Setup.{Setup}
use Rattle.replay_file.specs.declared.replay.Replay.{Replay}
use Rattle.replay_file.specs.declared.replay_fault.ReplayFault.{ReplayFault}
use Rattle.replay_file.specs.FirstFault.{Spells}
use Rattle.replay_file.proofs.ReadingLemmas.{spelled_read}
use Rattle.replay_run.specs.declared.replayed.Replayed.{Replayed}
use Rattle.replay_run.specs.RecordLaws.{agreed_replayed, rerun_of}
use Rattle.replay_run.specs.Recording.{replay_of}
use Rattle.replay_run.specs.Rerun.{replayed}
use Rattle.server_core.specs.Served.{agreed_marks}
use Rattle.server_core.specs.Server.{ServerState}
use Rattle.tick_core.specs.Game.{GameState}
use Rattle.replay_commands.specs.Matches.{game_match}
use Rattle.replay_commands.specs.Records.{drill_record, drill_replay, progress_of, recorded_reply}
use Rattle.replay_commands.specs.Records.{ReplaysDrill}
use Rattle.replay_commands.specs.Refusals.{read_step}
use Rattle.replay_commands.specs.Replays.{game_first_hash, replay_reply, replayed_reply}

-- The replay that a server with these columns and this count of frames has of a match.
abbrev server_replay : Match GameState → (rules seed : ℕ) → ServerState GameState → Replay
server_replay m rules seed server = replay_of m rules seed server.columns server.ticked

-- What is written of the server that a drill left spells the replay of the drill.
pub record_written :
    {E : Type 0} (rules : ℕ) (setup : Setup) (drill : DrillPlain) (left : Drilled GameState)
    (result : Result (Vec ℕ) E) →
    ((m : Match GameState) → m.clients ≡ length left.server.columns →
    left.server.marks ≡ agreed_marks m left.server.columns left.server.ticked →
    IfOk result (λ bytes. Spells rules bytes.items (server_replay m rules drill.seed left.server)))
    → IsLeftBy (game_match setup drill) drill.events left →
    IfOk result (λ bytes. Spells rules bytes.items (drill_replay rules setup drill))
record_written rules setup drill left result written is =
    let m = game_match setup drill in
    let marks : left.server.marks ≡ agreed_marks m left.server.columns left.server.ticked =
    subst (λ (s : ServerState GameState). s.marks ≡ agreed_marks m s.columns s.ticked)
    (sym is.server) refl in
    subst (λ (s : ServerState GameState).
    IfOk result (λ bytes. Spells rules bytes.items (server_replay m rules drill.seed s)))
    is.server (written m (sym is.columns) marks)

-- The bytes are those of the record.
pub record_is :
    {E : Type 0} (rules : ℕ) (setup : Setup) (drill : DrillPlain) (result : Result (Vec ℕ) E) →
    IfOk result (λ bytes. Spells rules bytes.items (drill_replay rules setup drill)) →
    IfOk result (λ bytes. bytes.items ≡ drill_record rules setup drill)
unfolding drill_record
record_is rules setup drill (Ok bytes) spells = spells.spelled
record_is rules setup drill (Err error) spells = tt

-- The reply by what was read.
abbrev replies : List ℕ → Setup → Result Replay ReplayFault → Step Reply
replies name setup read = read_step name read >>= λ r. Ok (replay_reply setup r)

abbrev replies_given : Replayed GameState → Step Reply
replies_given given = Ok (replayed_reply given)

-- The bytes are replayed with the reply of the record.
pub record_again :
    {E : Type 0} (rules : ℕ) (setup : Setup) (drill : DrillPlain) (result : Result (Vec ℕ) E) →
    ((m : Match GameState) (first_hash : GameState → ℕ) (rules seed : ℕ) (columns : List Column)
    (n : ℕ) →
    replayed (rerun_of m first_hash) (replay_of m rules seed columns n)
    ≡ agreed_replayed m columns n) →
    IfOk result (λ bytes. Spells rules bytes.items (drill_replay rules setup drill)) →
    IfOk result (λ bytes. ReplaysDrill rules setup drill bytes.items)
unfolding recorded_reply
record_again rules setup drill (Ok bytes) law spells = λ name.
    let p = progress_of setup drill in
    ap (replies name setup)
    (spelled_read rules bytes.items (drill_replay rules setup drill) spells)
    ∙ ap replies_given
    (law (game_match setup drill) game_first_hash rules drill.seed p.columns p.ticked)
record_again rules setup drill (Err error) law spells = tt
