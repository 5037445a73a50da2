use Rattle.std.proofs.Common.{ap, subst, ◌∙◌, ◌≡◌}
use Rattle.std.specs.Prelude.{IfOk}
use Rattle.command_answers.specs.Answer.{reply_of}
use Rattle.replay_commands.specs.Replays.{game_first_hash, replayed_reply}
use Rattle.replay_run.specs.declared.replayed.Replayed.{Replayed}
use Rattle.replay_run.specs.Rerun.{replayed_from, rerun_over}
use Rattle.tick_core.specs.Game.{GameState, game_after, game_hash, game_summary}
use Rattle.save_commands.specs.Saves.{resumed_game, resumed_rerun}
use Rattle.save_commands.proofs.continuing.answer_continue.Goals as goal

pub returns : goal.returns
returns c =
    let saved = c.args.saved.now in
    let game : c.of.result ≡ resumed_game c.args.maker.now saved =
    c.of.ensures ∙ c.in_ok-game.ensures in
    let run :
    c.run_replay_from-run.result
    ≡ replayed_from (resumed_rerun c.args.maker.now saved) saved.frames c.args.r.now =
    c.run_replay_from-run.ensures
    ∙ ap (λ (g : GameState).
    replayed_from (rerun_over game_after game_hash game_first_hash game_summary g) saved.frames
    c.args.r.now) game in
    subst (λ (given : Replayed GameState).
    IfOk c.replayed_answer.result (λ answer. reply_of answer ≡ replayed_reply given))
    run c.replayed_answer.ensures
