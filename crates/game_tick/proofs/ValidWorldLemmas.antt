-- Proofs about valid worlds: their bounds, and lists of which some actors are removed.
use Rattle.std.specs.Prelude.{◌≢◌, ℕ, suc, ◌<◌, ◌≤◌, Bool, true, false, cond, List, [], ◌∷◌, length}
use Rattle.std.specs.List.{filter}
use Rattle.std.proofs.Common.{arith}
use Rattle.std.proofs.lemmas.List.Elements.{All-filter}
use Rattle.std.proofs.lemmas.List.Kept.{AllPairs-filter}
use Rattle.game_model.specs.declared.actor.Actor.{Actor}
use Rattle.game_model.specs.declared.world.World.{World}
use Rattle.game_model.specs.Setup.{Setup}
use Rattle.game_model.specs.ValidWorld.{IsSoundActor, IsWorldWithin, StepReady}

-- Wider bounds.
pub wider :
    (setup : Setup) (least most draws low high more : ℕ) (w : World) →
    IsWorldWithin setup least most draws w → low ≤ least → most ≤ high → draws ≤ more →
    IsWorldWithin setup low high more w
wider setup least most draws low high more w valid lower higher drawn =
    record {
      ore = valid.ore;
      least_tick = omega (arith, valid.least_tick);
      most_tick = omega (arith, valid.most_tick);
      drawn = omega (arith, valid.drawn);
      pace = valid.pace;
      clients = valid.clients;
      cash = valid.cash;
      actors = valid.actors;
      health = valid.health;
    }

either_kept :
    (keep : Bool) (x : Actor) (kept xs : List Actor) → length kept ≤ length xs →
    length (cond keep (x ∷ kept) kept) ≤ suc (length xs)
either_kept true x kept xs fewer = omega arith
either_kept false x kept xs fewer = omega arith

length-filter-le : (p : Actor → Bool) (xs : List Actor) → length (filter p xs) ≤ length xs
length-filter-le p [] = omega arith
length-filter-le p (x ∷ xs) = either_kept (p x) x (filter p xs) xs (length-filter-le p xs)

-- Actors of whom some are removed are as ready.
pub filter_ready :
    (setup : Setup) (clients next_id : ℕ) (p : Actor → Bool) (actors : List Actor) →
    StepReady setup clients next_id actors → StepReady setup clients next_id (filter p actors)
filter_ready setup clients next_id p actors ready =
    record {
      each = All-filter p (IsSoundActor setup clients next_id) actors ready.each;
      rise = AllPairs-filter (λ (a b : Actor). a.id < b.id) p actors ready.rise;
      apart = AllPairs-filter (λ (a b : Actor). a.cell ≢ b.cell) p actors ready.apart;
      count = omega (arith, length-filter-le p actors, ready.count);
      next = ready.next;
    }
