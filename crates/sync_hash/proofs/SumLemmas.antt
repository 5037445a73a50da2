-- The hash of a world is made of the sums of its parts.
use Rattle.std.proofs.Common.{◌≡◌, ℕ, ◌+◌, ◌%◌, ◌^◌, length, sym, ap, ap₂, ◌∙◌, arith}
use Rattle.std.specs.List.{sum_by}
use Rattle.game_model.specs.declared.world.Head.{Head}
use Rattle.game_model.specs.declared.world.World.{World}
use Rattle.game_model.specs.Grid.{Grid}
use Rattle.game_model.specs.World.{head_of}
use Rattle.sync_hash.specs.Fnv.{fnv_of}
use Rattle.sync_hash.specs.HashedBytes.{header_bytes, header_bytes_1}
use Rattle.sync_hash.proofs.KeptLemmas.{kept_hash, kept_hash_1, parts_sum}
use Rattle.sync_hash.specs.WorldHash.{hash_of, hash_of_1, IsLent}
use Rattle.sync_hash.specs.Kept.{Kept, IsKeptOf, cell_numbers, hash_with, hash_with_1, parts_number, sum_of}

-- A header's number and the sums of the two other parts, each modulo 2^64.
pub mod_parts :
    (header a o actors ore : ℕ) → actors ≡ a % 2 ^ 64 → ore ≡ o % 2 ^ 64 →
    ((header + actors) % 2 ^ 64 + ore) % 2 ^ 64 ≡ (header + (a + o)) % 2 ^ 64
mod_parts header a o actors ore is_actors is_ore = omega arith

-- The hash of a world, of its header's number.
pub world_hash_is :
    (w : World) (header hash : ℕ) → header ≡ fnv_of (header_bytes (head_of w) (length w.actors)) →
    hash ≡ (header + parts_number w) % 2 ^ 64 → hash ≡ hash_of w
unfolding hash_of
world_hash_is w header hash is_header is_hash =
    is_hash ∙ ap (λ n. (n + parts_number w) % 2 ^ 64) is_header
    ∙ ap (λ n. n % 2 ^ 64) (sym (parts_sum (header_bytes (head_of w) (length w.actors)) w))

-- The same in the first version.
pub world_hash_1_is :
    (w : World) (header hash : ℕ) → header ≡ fnv_of (header_bytes_1 (head_of w) (length w.actors)) →
    hash ≡ (header + parts_number w) % 2 ^ 64 → hash ≡ hash_of_1 w
unfolding hash_of_1
world_hash_1_is w header hash is_header is_hash =
    is_hash ∙ ap (λ n. (n + parts_number w) % 2 ^ 64) is_header
    ∙ ap (λ n. n % 2 ^ 64) (sym (parts_sum (header_bytes_1 (head_of w) (length w.actors)) w))

-- The sum of a header's number, of a given sum and of that of the ore, for a world that has these.
lent_parts :
    (w : World) (head : Head) (actors sum : ℕ) (ore : Grid ℕ) (header ores : ℕ) → IsLent w head actors sum ore →
    ores ≡ sum_by (λ n. n) (cell_numbers ore.width 0 ore.cells) % 2 ^ 64 →
    ((header + sum) % 2 ^ 64 + ores) % 2 ^ 64 ≡ (header + parts_number w) % 2 ^ 64
lent_parts w head actors sum ore header ores is is_ores =
    mod_parts header _ _ sum ores is.sum
    (is_ores ∙ ap (λ (g : Grid ℕ). sum_by (λ n. n) (cell_numbers g.width 0 g.cells) % 2 ^ 64) is.ore)

pub lent_is :
    (w : World) (head : Head) (actors sum : ℕ) (ore : Grid ℕ) (header ores : ℕ) → IsLent w head actors sum ore →
    header ≡ fnv_of (header_bytes head actors) →
    ores ≡ sum_by (λ n. n) (cell_numbers ore.width 0 ore.cells) % 2 ^ 64 →
    ((header + sum) % 2 ^ 64 + ores) % 2 ^ 64 ≡ hash_of w
lent_is w head actors sum ore header ores is is_header is_ores =
    world_hash_is w header _ (is_header ∙ ap₂ (λ h n. fnv_of (header_bytes h n)) is.head is.actors)
    (lent_parts w head actors sum ore header ores is is_ores)

-- The same in the first version.
pub lent_1_is :
    (w : World) (head : Head) (actors sum : ℕ) (ore : Grid ℕ) (header ores : ℕ) → IsLent w head actors sum ore →
    header ≡ fnv_of (header_bytes_1 head actors) →
    ores ≡ sum_by (λ n. n) (cell_numbers ore.width 0 ore.cells) % 2 ^ 64 →
    ((header + sum) % 2 ^ 64 + ores) % 2 ^ 64 ≡ hash_of_1 w
lent_1_is w head actors sum ore header ores is is_header is_ores =
    world_hash_1_is w header _ (is_header ∙ ap₂ (λ h n. fnv_of (header_bytes_1 h n)) is.head is.actors)
    (lent_parts w head actors sum ore header ores is is_ores)

-- A header's number and the sum of what is kept of a world are its hash.
mod_sum : (header s sum : ℕ) → sum ≡ s % 2 ^ 64 → (header + sum) % 2 ^ 64 ≡ (header + s) % 2 ^ 64
mod_sum header s sum is = omega arith

pub hash_kept :
    (kept : Kept) (w : World) (head : Head) (header sum count : ℕ) → count ≡ length kept.actors →
    header ≡ fnv_of (header_bytes head count) → sum ≡ sum_of kept % 2 ^ 64 → IsKeptOf kept w.actors w.ore →
    head ≡ head_of w → (header + sum) % 2 ^ 64 ≡ hash_of w
unfolding hash_with
hash_kept kept w head header sum count many is_header is_sum is same =
    mod_sum header (sum_of kept) sum is_sum
    ∙ ap (λ n. (n + sum_of kept) % 2 ^ 64) (is_header ∙ ap (λ n. fnv_of (header_bytes head n)) many)
    ∙ ap (λ h. (fnv_of (header_bytes h (length kept.actors)) + sum_of kept) % 2 ^ 64) same
    ∙ kept_hash kept w is

-- The same in the first version.
pub hash_1_kept :
    (kept : Kept) (w : World) (head : Head) (header sum count : ℕ) → count ≡ length kept.actors →
    header ≡ fnv_of (header_bytes_1 head count) → sum ≡ sum_of kept % 2 ^ 64 → IsKeptOf kept w.actors w.ore →
    head ≡ head_of w → (header + sum) % 2 ^ 64 ≡ hash_of_1 w
unfolding hash_with_1
hash_1_kept kept w head header sum count many is_header is_sum is same =
    mod_sum header (sum_of kept) sum is_sum
    ∙ ap (λ n. (n + sum_of kept) % 2 ^ 64) (is_header ∙ ap (λ n. fnv_of (header_bytes_1 head n)) many)
    ∙ ap (λ h. (fnv_of (header_bytes_1 h (length kept.actors)) + sum_of kept) % 2 ^ 64) same
    ∙ kept_hash_1 kept w is
