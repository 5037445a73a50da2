use Rattle.std.proofs.Common.{ap, ◌∙◌, ◌≡◌, arith}
use Rattle.replay_run.specs.Playing.{played}
use Rattle.replay_run.proofs.RerunLemmas.{few_in_all}
use Rattle.game_model.specs.Setup.{Setup}
use Rattle.tick_core.specs.Game.{GameState, game_after, game_start}
use Rattle.save_commands.specs.Saves.{game_at}
use Rattle.save_commands.proofs.SaveLemmas.{read_there, saves_there}
use Rattle.save_commands.proofs.saves.save_after.Goals as goal

pub save_of-requires : goal.save_of-requires
save_of-requires c =
    omega (
      arith,
      c.world_after-game.ensures.made,
      c.requires.few,
      few_in_all c.args.r.now c.requires.valid,
    )

pub returns-clause-saves : goal.returns-clause-saves
returns-clause-saves c =
    let there : c.world_after-game.result ≡ game_at c.args.maker.now c.args.r.now c.args.frames =
    c.world_after-game.ensures.world
    ∙ ap (λ (g : GameState). played game_after g c.args.r.now c.args.frames) c.in_ok-opening.ensures.world
    ∙ ap (λ (s : Setup). played game_after (game_start s c.args.r.now.seed c.args.r.now.clients) c.args.r.now c.args.frames)
    c.in_ok-without_kept_hashes.ensures in
    saves_there c.save_of.result c.args.r.now.rules c.args.maker.now c.args.frames c.args.r.now
    c.world_after-game.result there c.save_of.ensures.saves

pub returns-clause-again : goal.returns-clause-again
returns-clause-again c =
    let there : c.world_after-game.result ≡ game_at c.args.maker.now c.args.r.now c.args.frames =
    c.world_after-game.ensures.world
    ∙ ap (λ (g : GameState). played game_after g c.args.r.now c.args.frames) c.in_ok-opening.ensures.world
    ∙ ap (λ (s : Setup). played game_after (game_start s c.args.r.now.seed c.args.r.now.clients) c.args.r.now c.args.frames)
    c.in_ok-without_kept_hashes.ensures in
    read_there c.save_of.result c.args.r.now.rules c.args.maker.now c.args.frames c.args.r.now
    c.world_after-game.result there c.save_of.ensures.again
