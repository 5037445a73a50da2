use Rattle.std.proofs.Common.{◌≡◌, ℕ, List, ap, ap₂, subst, ◌∙◌}
use Rattle.std.specs.Prelude.{string_bytes, IfOk}
use Rattle.game_model.specs.declared.map.Map.{Map}
use Rattle.game_model.specs.Setup.{Setup}
use Rattle.replay_file.specs.declared.replay.Replay.{Replay}
use Rattle.replay_run.specs.Rerun.{frame_count}
use Rattle.shroud.specs.Grids.{flag_of}
use Rattle.shroud.specs.ShroudState.{ShroudState}
use Rattle.tick_core.specs.Game.{GameState}
use Rattle.view_command.specs.ViewText.{view_lines}
use Rattle.view_command.specs.Views.{view_text}
use Rattle.view_command.specs.Watching.{HasWatched}
use Rattle.view_command.proofs.WatchingLemmas.{watched_text}
use Rattle.view_command.proofs.views.text_of.Goals as goal

pub returns : goal.returns
returns c =
    let setup : Setup = c.args.maker.now in
    let r : Replay = c.args.r.now in
    let s : ShroudState = c.watch-frames.new.shroud in
    let client : ℕ = c.args.client in
    let frames : ℕ = c.watch-frames.result in
    let stands : c.in_ok-game.game.setup ≡ setup =
    ap {B = Setup} (λ (g : GameState). g.setup) c.in_ok-game.ensures.opens in
    let has : HasWatched setup r (frame_count r) s =
    subst (λ (m : Setup). HasWatched m r (frame_count r) s) stands c.watch-frames.ensures.watched in
    let all : frames ≡ frame_count r = c.watch-frames.ensures.frames in
    let width : c.deref.result.now.width ≡ setup.map.width =
    ap {B = ℕ} (λ (m : Map). m.width) (c.deref.ensures ∙ c.map.ensures) in
    let height : c.deref-2.result.now.height ≡ setup.map.height =
    ap {B = ℕ} (λ (m : Map). m.height) (c.deref-2.ensures ∙ c.map-2.ensures) in
    let same :
    view_lines (flag_of s.seen client) (flag_of s.explored client) client frames
    c.deref.result.now.width c.deref-2.result.now.height
    ≡ view_text setup r client =
    ap₂ (λ (w h : ℕ). view_lines (flag_of s.seen client) (flag_of s.explored client) client frames w h)
    width height
    ∙ watched_text setup r s client frames has c.requires.client all in
    subst (λ (t : List ℕ). IfOk c.shown_text.result (λ text. string_bytes text ≡ t)) same
    c.shown_text.ensures
