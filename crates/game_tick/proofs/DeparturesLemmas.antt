-- Proofs about departures.
use Rattle.std.specs.Prelude.{◌≡◌, ℕ, zero, suc, ◌⊎◌, ◌↔◌, Bool, true, List, [], ◌∷◌, length, Some}
use Rattle.std.specs.Prelude.{refl, slice_get}
use Rattle.std.proofs.Common.{◌∙◌, ap, inl, inr}
use Rattle.game_orders.specs.declared.entry.Entry.{Entry}
use Rattle.game_orders.specs.declared.entry.Entry.TheVariants.{Play, Leave}
use Rattle.game_model.specs.declared.world.World.{World}
use Rattle.game_model.specs.Flags.{is_gone}
use Rattle.game_model.specs.Setup.{Setup}
use Rattle.game_model.specs.ValidWorld.{IsWorldWithin}
use Rattle.game_tick.specs.Departures.{gone_after, with_departures}

pub length-gone_after :
    (flags : List Bool) (frame : List Entry) → length (gone_after flags frame) ≡ length flags
length-gone_after [] frame = refl
length-gone_after (before ∷ flags) [] = refl
length-gone_after (before ∷ flags) (entry ∷ entries) = ap suc (length-gone_after flags entries)

-- Who has departed after a frame had departed before or departs in it.
pub gone_after_tells :
    (flags : List Bool) (frame : List Entry) (c : ℕ) →
    (is_gone (gone_after flags frame) c ≡ true) ↔
    ((is_gone flags c ≡ true) ⊎ (slice_get frame c ≡ Some Leave))
gone_after_tells [] frame c = ((λ is. inl is), (λ either. refl))
gone_after_tells (before ∷ flags) [] c = ((λ is. inl is), before_only) where
  none : List Entry
  none = []

  before_only :
      ((is_gone (before ∷ flags) c ≡ true) ⊎ (slice_get none c ≡ Some Leave)) →
      is_gone (before ∷ flags) c ≡ true
  before_only (inl is) = is
  before_only (inr never) = absurd cc
gone_after_tells (before ∷ flags) (Play orders ∷ entries) zero = ((λ is. inl is), before_only) where
  before_only : ((before ≡ true) ⊎ (Some (Play orders) ≡ Some Leave)) → before ≡ true
  before_only (inl is) = is
  before_only (inr never) = absurd cc
gone_after_tells (before ∷ flags) (Leave ∷ entries) zero = ((λ is. inr refl), (λ either. refl))
gone_after_tells (before ∷ flags) (entry ∷ entries) (suc c) = gone_after_tells flags entries c

-- Departures keep a world valid.
pub departures_valid :
    (setup : Setup) (least most draws : ℕ) (w : World) (frame : List Entry) →
    IsWorldWithin setup least most draws w →
    IsWorldWithin setup least most draws (with_departures w frame)
departures_valid setup least most draws w frame valid =
    record {
      ore = valid.ore;
      least_tick = valid.least_tick;
      most_tick = valid.most_tick;
      drawn = valid.drawn;
      pace = valid.pace;
      clients =
          record {
            least = valid.clients.least;
            most = valid.clients.most;
            flags = length-gone_after w.gone frame ∙ valid.clients.flags;
          };
      cash = valid.cash;
      actors = valid.actors;
      health = valid.health;
    }
