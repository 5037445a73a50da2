-- What the frames of a match leave as it is: what the game stands on, its clients and its seed.
use Rattle.std.specs.Prelude.{◌≡◌, ℕ, zero, suc, ◌+◌, List}
use Rattle.std.proofs.Common.{refl, sym, ap, ap₂, ◌∙◌, arith}
use Rattle.std.proofs.lemmas.List.{length-replicate}
use Rattle.game_model.specs.declared.world.World.{World}
use Rattle.game_model.specs.Setup.{Setup}
use Rattle.game_model.specs.World.{clients_of, start_of}
use Rattle.game_orders.specs.declared.entry.Entry.{Entry}
use Rattle.game_tick.proofs.KeepsLemmas.{tick_keeps}
use Rattle.frame_core.specs.Fold.{folded}
use Rattle.replay_file.specs.declared.replay.Replay.{Replay}
use Rattle.replay_run.specs.Rerun.{frame_in}
use Rattle.tick_core.specs.Game.{GameState, game_after, game_start}
use Rattle.save_commands.specs.Saves.{game_at}

-- What holds of a game of this match after so many frames.
pub record IsOfMatch (setup : Setup) (seed clients n : ℕ) (game : GameState) : Type 0 where
  pub stands : game.setup ≡ setup
  pub steps : game.steps ≡ n
  pub drawn : game.world.seed ≡ seed
  pub count : clients_of game.world ≡ clients

started : (setup : Setup) (seed clients : ℕ) →
    IsOfMatch setup seed clients 0 (game_start setup seed clients)
unfolding start_of
started setup seed clients =
    record {
      stands = refl;
      steps = refl;
      drawn = refl;
      count = length-replicate clients setup.map.cash;
    }

folded_kept :
    (setup : Setup) (seed clients : ℕ) (frames : ℕ → List Entry) (n : ℕ) →
    IsOfMatch setup seed clients n (folded game_after (game_start setup seed clients) frames n)
folded_kept setup seed clients frames zero = started setup seed clients
folded_kept setup seed clients frames (suc n) =
    let game : GameState = folded game_after (game_start setup seed clients) frames n in
    let before : IsOfMatch setup seed clients n game = folded_kept setup seed clients frames n in
    let keeps = tick_keeps game.setup game.world (frames n) in
    record {
      stands = before.stands;
      steps = omega (arith, before.steps);
      drawn = keeps.seed ∙ before.drawn;
      count = keeps.cash.clients ∙ before.count;
    }

pub game_kept :
    (setup : Setup) (r : Replay) (n : ℕ) →
    IsOfMatch setup r.seed r.clients n (game_at setup r n)
game_kept setup r n = folded_kept setup r.seed r.clients (frame_in r.parts) n

abbrev game_with : Setup → World → ℕ → GameState
game_with setup world steps = record { setup = setup; world = world; steps = steps }

pub same_game :
    (a b : GameState) → a.setup ≡ b.setup → a.world ≡ b.world → a.steps ≡ b.steps → a ≡ b
same_game a b setup world steps =
    ap₂ (λ (s : Setup) (w : World). game_with s w a.steps) setup world
    ∙ ap (game_with b.setup b.world) steps

-- The game that goes on from the world there is the game there.
pub resumed_is :
    (setup : Setup) (r : Replay) (n : ℕ) →
    game_with setup (game_at setup r n).world n ≡ game_at setup r n
resumed_is setup r n =
    let kept = game_kept setup r n in
    same_game (game_with setup (game_at setup r n).world n) (game_at setup r n)
    (sym kept.stands) refl (sym kept.steps)
