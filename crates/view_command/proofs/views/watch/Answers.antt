use Rattle.std.proofs.Common.{◌≡◌, ℕ, true, false, sym, ap, subst, ◌∙◌}
use Rattle.game_model.specs.declared.world.World.{World}
use Rattle.game_model.specs.Setup.{Setup}
use Rattle.replay_file.specs.declared.replay.Replay.{Replay}
use Rattle.replay_run.specs.Playing.{IsPlayback, PlaybackState, PlaysOn}
use Rattle.shroud.specs.ShroudState.{ShroudState, updated}
use Rattle.tick_core.specs.Game.{GameState, game_after}
use Rattle.view_command.specs.Views.{world_after}
use Rattle.view_command.specs.Watching.{HasWatched}
use Rattle.view_command.proofs.WatchingLemmas.{watch_begins, watch_goes_on, watch_ends, world_is, fewer_left, goes_further}
use Rattle.view_command.proofs.views.watch.Goals as goal

pub loop-shroud-init : goal.loop-shroud-init
loop-shroud-init c =
    let setup : Setup = c.args.game.setup in
    let r : Replay = c.args.r.now in
    let p : PlaybackState GameState = c.begin-playback.result in
    let plays : IsPlayback game_after c.args.game r p = c.begin-playback.ensures.plays in
    let lent : c.world.result.now ≡ p.world = c.world.ensures.world in
    let none : p.frames ≡ 0 =
    ap {B = ℕ} (λ (q : PlaybackState GameState). q.frames) c.begin-playback.ensures.begins in
    let world : c.world.result.now.world ≡ world_after setup r 0 =
    ap {B = World} (λ (g : GameState). g.world) lent
    ∙ world_is setup r c.args.game p c.requires.opens plays
    ∙ ap (λ (n : ℕ). world_after setup r n) none in
    let new : ShroudState = c.follow.new.shroud in
    let is : new ≡ updated c.args.shroud.now c.world.result.now.world.actors new.touched =
    c.follow.ensures in (
      plays,
      subst (λ (n : ℕ). HasWatched setup r n new) (sym none)
          (watch_begins setup r c.args.shroud.now new c.world.result.now.world c.requires.shrouded world
          is),
    )

pub loop-shroud-preserved : goal.loop-shroud-preserved
loop-shroud-preserved c =
    let setup : Setup = c.args.game.setup in
    let r : Replay = c.args.r.now in
    let old : PlaybackState GameState = c.loop-shroud.playback in
    let p : PlaybackState GameState = c.step.new.self in
    let on : PlaysOn game_after old p true = c.loop-shroud-test.ensures.step in
    let plays : IsPlayback game_after c.args.game r p =
    c.step.ensures.plays c.args.game r c.loop-shroud.invariant.0 in
    let lent : c.world-in-loop-shroud.result.now ≡ p.world = c.world-in-loop-shroud.ensures.world in
    let world : c.world-in-loop-shroud.result.now.world ≡ world_after setup r p.frames =
    ap {B = World} (λ (g : GameState). g.world) lent
    ∙ world_is setup r c.args.game p c.requires.opens plays in
    let new : ShroudState = c.follow-in-loop-shroud.new.shroud in
    let is : new ≡ updated c.loop-shroud.shroud c.world-in-loop-shroud.result.now.world.actors new.touched =
    c.follow-in-loop-shroud.ensures in (
      plays,
      watch_goes_on setup r old.frames p.frames c.loop-shroud.shroud new
          c.world-in-loop-shroud.result.now.world c.loop-shroud.invariant.1 (goes_further old p on)
          world is,
    )

pub loop-shroud-smaller : goal.loop-shroud-smaller
loop-shroud-smaller c =
    fewer_left c.loop-shroud.playback c.step.new.self c.loop-shroud-test.ensures.step

pub returns-clause-watched : goal.returns-clause-watched
returns-clause-watched c =
    let old : PlaybackState GameState = c.loop-shroud.playback in
    let on : PlaysOn game_after old c.step.new.self false = c.loop-shroud-test.ensures.step in
    watch_ends c.args.game.setup c.args.r.now c.args.game old c.loop-shroud.shroud c.loop-shroud.invariant.0 on.0
    c.loop-shroud.invariant.1
