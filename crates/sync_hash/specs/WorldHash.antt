-- The hash of a world.
use Rattle.std.specs.Prelude.{◌≡◌, ℕ, ◌%◌, ◌^◌, length}
use Rattle.std.specs.List.{sum_by}
use Rattle.game_model.specs.declared.world.Head.{Head}
use Rattle.game_model.specs.declared.world.World.{World}
use Rattle.game_model.specs.Grid.{Grid}
use Rattle.game_model.specs.World.{head_of}
use Rattle.sync_hash.specs.Fnv.{fnv_of}
use Rattle.sync_hash.specs.HashedBytes.{parts_of, parts_of_1}
use Rattle.sync_hash.specs.Kept.{actor_number}

-- The sum of the FNV-1a numbers of all its byte lists, modulo 2^64.
unfoldable pub hash_of : World → ℕ
hash_of w = sum_by fnv_of (parts_of w) % 2 ^ 64

-- The hash of the first version, whose header has no pace: that of marks in replays of version 1.
unfoldable pub hash_of_1 : World → ℕ
hash_of_1 w = sum_by fnv_of (parts_of_1 w) % 2 ^ 64

-- The world has this head and this ore, and so many actors, whose numbers have this sum.
pub record IsLent (w : World) (lent : Head) (count total : ℕ) (cells : Grid ℕ) : Type 0 where
  pub head : lent ≡ head_of w
  pub actors : count ≡ length w.actors
  pub sum : total ≡ sum_by actor_number w.actors % 2 ^ 64
  pub ore : cells ≡ w.ore
