-- A save: the bytes of a world after so many frames, in which a value stands as it is hashed.
use Rattle.std.specs.Prelude.{ℕ, List, [], ◌∷◌, ◌++◌, length}
use Rattle.std.specs.List.{flat_map}
use Rattle.wire_bytes.specs.Field.{field_bytes}
use Rattle.sync_hash.specs.HashedBytes.{actor_bytes, header_bytes}
use Rattle.game_model.specs.declared.actor.Actor.{Actor}
use Rattle.game_model.specs.declared.world.World.{World}
use Rattle.game_model.specs.World.{head_of}
use Rattle.game_save.specs.declared.limits.TheConstants.{MAGIC, VERSION}

-- The first four bytes: LSSV, as a number of four bytes, the lowest first.
abbrev pub magic_bytes : List ℕ
magic_bytes = field_bytes 4 MAGIC

-- What stands before the world: `LSSV`, version, rules number and number of frames.
unfoldable pub opening_bytes : (number frames : ℕ) → List ℕ
opening_bytes number frames =
    magic_bytes ++ (field_bytes 2 VERSION ++ (field_bytes 8 number ++ field_bytes 4 frames))

-- The bytes of actors, one after the other.
abbrev pub actors_bytes : List Actor → List ℕ
actors_bytes actors = flat_map actor_bytes actors

-- The bytes of a world: its size, its header, its actors by rising id, and the ore of each cell,
-- row by row.
unfoldable pub world_bytes : World → List ℕ
world_bytes w =
    (w.ore.width ∷ w.ore.height ∷ [])
    ++ (header_bytes (head_of w) (length w.actors) ++ (actors_bytes w.actors ++ w.ore.cells))

-- The save of a world after so many frames, under rules with this number.
unfoldable pub save_bytes : (number frames : ℕ) → World → List ℕ
save_bytes number frames w = opening_bytes number frames ++ world_bytes w
