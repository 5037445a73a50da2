-- The save of the game after some frames of a replay.
use Rattle.std.specs.Prelude.{◌≡◌, ℕ, Result, Ok, Err, IfOk}
use Rattle.std.specs.Global.{Vec}
use Rattle.std.proofs.Common.{sym, ap, ◌∙◌}
use Rattle.game_model.specs.Setup.{Setup}
use Rattle.game_save.specs.declared.saved.Saved.{Saved}
use Rattle.game_save.specs.ReadSave.{read_save_of}
use Rattle.game_save.specs.SaveBytes.{save_bytes}
use Rattle.replay_file.specs.declared.replay.Replay.{Replay}
use Rattle.tick_core.specs.Game.{GameState}
use Rattle.save_commands.specs.Saves.{game_at, save_bytes_at, saved_at, saved_of}
use Rattle.save_commands.proofs.GameLemmas.{game_kept}

-- The bytes are those of the game there.
pub saves_there :
    {E : Type 0} (result : Result (Vec ℕ) E) (rules : ℕ) (setup : Setup) (frames : ℕ) (r : Replay)
    (game : GameState) → game ≡ game_at setup r frames →
    IfOk result (λ bytes. bytes.items ≡ save_bytes rules game.steps game.world) →
    IfOk result (λ bytes. bytes.items ≡ save_bytes_at rules frames setup r)
saves_there (Ok bytes) rules setup frames r game is saves =
    saves
    ∙ ap (λ (g : GameState). save_bytes rules g.steps g.world) is
    ∙ ap (λ (n : ℕ). save_bytes rules n (game_at setup r frames).world)
    (game_kept setup r frames).steps
saves_there (Err error) rules setup frames r game is saves = tt

-- They are read as the world there.
pub read_there :
    {E : Type 0} (result : Result (Vec ℕ) E) (rules : ℕ) (setup : Setup) (frames : ℕ) (r : Replay)
    (game : GameState) → game ≡ game_at setup r frames →
    IfOk result (λ bytes. read_save_of rules game.setup bytes.items ≡ Ok (saved_of game)) →
    IfOk result (λ bytes. read_save_of rules setup bytes.items ≡ Ok (saved_at setup frames r))
read_there (Ok bytes) rules setup frames r game is again =
    let there : GameState = game_at setup r frames in
    let kept = game_kept setup r frames in
    ap (λ (s : Setup). read_save_of rules s bytes.items)
    (sym kept.stands ∙ ap (λ (g : GameState). g.setup) (sym is))
    ∙ again
    ∙ ap (λ (g : GameState). Ok (saved_of g)) is
    ∙ ap (λ (n : ℕ). Ok (saved_with n there)) kept.steps
  where
    saved_with : ℕ → GameState → Saved
    saved_with n g = record { frames = n; world = g.world }
read_there (Err error) rules setup frames r game is again = tt
