-- Worlds that are compared by their byte lists, where those may stand in any order.
use Rattle.std.specs.Prelude.{◌≡◌, ◌≢◌, ◌<◌, ℕ, List, length}
use Rattle.std.specs.List.{All, AllPairs}
use Rattle.game_model.specs.declared.actor.Actor.{Actor}
use Rattle.game_model.specs.declared.world.World.{World}
use Rattle.game_model.specs.World.{head_of}
use Rattle.sync_hash.specs.FitsFields.{FitsFields}
use Rattle.sync_hash.specs.HashedBytes.{actor_bytes, header_bytes}

-- The bytes of a world's header.
abbrev pub header_of : World → List ℕ
header_of w = header_bytes (head_of w) (length w.actors)

-- Two worlds of one size. In each the numbers fit their fields and ids rise.
pub record AreComparable (w v : World) : Type 0 where
  pub fits : FitsFields w
  pub other_fits : FitsFields v
  pub rise : AllPairs (λ (a b : Actor). a.id < b.id) w.actors
  pub other_rise : AllPairs (λ (a b : Actor). a.id < b.id) v.actors
  pub width : w.ore.width ≡ v.ore.width
  pub height : w.ore.height ≡ v.ore.height

-- No actor of the world has these bytes.
abbrev pub IsNoActorOf : List ℕ → World → Type 0
IsNoActorOf bytes w = All (λ (a : Actor). actor_bytes a ≢ bytes) w.actors
