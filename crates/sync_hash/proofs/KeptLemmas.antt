-- What is kept of a world stays that of the world as it changes, and gives its hash.
use Rattle.std.proofs.Common.{◌≡◌, ℕ, zero, suc, ◌+◌, ◌%◌, ◌^◌, ◌<◌, ◌==◌, Bool, true, false, List}
use Rattle.std.proofs.Common.{[], ◌∷◌, ◌++◌, length, map, refl, sym, ap, ap₂, ◌∙◌, arith}
use Rattle.std.specs.Prelude.{nat_lt, not, slice_set}
use Rattle.std.specs.List.{All, AllPairs, filter, sum_by}
use Rattle.std.proofs.lemmas.Bool.Decides.{nat_tests}
use Rattle.std.proofs.lemmas.List.{length-map}
use Rattle.std.proofs.lemmas.Nat.{mod-mul-add, div-mul-add}
use Rattle.std.proofs.lemmas.List.Elements.{All-head, All-tail}
use Rattle.std.proofs.lemmas.List.Sums.{sum_by-cons, sum_by-append}
use Rattle.game_model.specs.declared.actor.Actor.{Actor}
use Rattle.game_model.specs.declared.world.World.{World}
use Rattle.game_model.proofs.StartLemmas.{pairs_head, pairs_tail}
use Rattle.game_model.specs.Grid.{place_of}
use Rattle.game_model.specs.World.{head_of}
use Rattle.world_units.specs.declared.cell.CPos.{CPos}
use Rattle.sync_hash.specs.declared.actor_number.ActorNumber.{ActorNumber}
use Rattle.sync_hash.specs.Fnv.{fnv_of}
use Rattle.sync_hash.specs.HashedBytes.{actor_bytes, cell_at, header_bytes, header_bytes_1}
use Rattle.sync_hash.specs.HashedBytes.{ore_bytes, ore_parts, parts_of, parts_after_header}
use Rattle.sync_hash.specs.WorldHash.{hash_of, hash_of_1}
use Rattle.sync_hash.specs.Kept.{Kept, IsKeptOf, actor_number, cell_number, cell_numbers, hash_with, kept_of}
use Rattle.sync_hash.specs.Kept.{hash_with_1, numbered, numbers_of, numbers_sum, sum_of, with_number, with_numbers}
use Rattle.sync_hash.specs.Kept.{without_number}

-- A number below those of the actors that follow stays the first.
first_stays :
    (x : ActorNumber) (l : List ActorNumber) (actors : List Actor) →
    All (λ (a : Actor). x.id < a.id) actors → with_numbers (x ∷ l) actors ≡ x ∷ with_numbers l actors
first_stays x l [] above = refl
first_stays x l (a ∷ actors) above =
    let P : Actor → Type 0 = λ b. x.id < b.id in
    let less : x.id < a.id = All-head P a actors above in
    let lower : nat_lt x.id a.id ≡ true = grind (arith, nat_tests) in
    let next : with_number (x ∷ l) a.id (actor_number a) ≡ x ∷ with_number l a.id (actor_number a) = rw lower refl in
    ap (λ kept. with_numbers kept actors) next
    ∙ first_stays x (with_number l a.id (actor_number a)) actors (All-tail P a actors above)

-- The numbers of actors whose ids rise are those of the actors, one after the other.
pub rising_numbers :
    (actors : List Actor) → AllPairs (λ (a b : Actor). a.id < b.id) actors →
    numbers_of actors ≡ map numbered actors
rising_numbers [] rise = refl
rising_numbers (a ∷ actors) rise =
    let R : Actor → Actor → Type 0 = λ b c. b.id < c.id in
    first_stays (numbered a) [] actors (pairs_head R a actors rise)
    ∙ ap (λ l. numbered a ∷ l) (rising_numbers actors (pairs_tail R a actors rise))

-- What a hasher begins with is that of the world.
pub kept_begins :
    (width height : ℕ) (w : World) → w.ore.width ≡ width → w.ore.height ≡ height →
    AllPairs (λ (a b : Actor). a.id < b.id) w.actors → IsKeptOf (kept_of width height w) w.actors w.ore
kept_begins width height w across down rise =
    record {
      width = sym across;
      height = sym down;
      numbers = rising_numbers w.actors rise;
      cells = ap (λ n. cell_numbers n 0 w.ore.cells) (sym across);
    }

-- The number of an actor that is gone goes with it.
pub without_numbered :
    (actors : List Actor) (id : ℕ) →
    without_number (map numbered actors) id ≡ map numbered (filter (λ (a : Actor). not (a.id == id)) actors)
without_numbered [] id = refl
without_numbered (a ∷ actors) id = by_same (a.id == id) refl (without_numbered actors id) where
  by_same :
      (same : Bool) → (a.id == id) ≡ same →
      without_number (map numbered actors) id ≡ map numbered (filter (λ (x : Actor). not (x.id == id)) actors) →
      without_number (map numbered (a ∷ actors)) id ≡ map numbered (filter (λ (x : Actor). not (x.id == id)) (a ∷ actors))
  by_same true is rest = rw is rest
  by_same false is rest = rw is (ap (λ l. numbered a ∷ l) rest)

sum_numbered : (actors : List Actor) → numbers_sum (map numbered actors) ≡ sum_by actor_number actors
sum_numbered [] = refl
sum_numbered (a ∷ actors) =
    omega (arith, sum_numbered actors, sum_by-cons (λ (x : ActorNumber). x.number) (numbered a) (map numbered actors), sum_by-cons actor_number a actors)

-- The sum over a world's byte lists is that of the numbers of its header, its actors and its cells.
actors_sum : (actors : List Actor) → sum_by fnv_of (map actor_bytes actors) ≡ sum_by actor_number actors
actors_sum [] = refl
actors_sum (a ∷ actors) =
    omega (arith, actors_sum actors, sum_by-cons fnv_of (actor_bytes a) (map actor_bytes actors), sum_by-cons actor_number a actors)

ore_sum :
    (width place : ℕ) (cells : List ℕ) →
    sum_by fnv_of (ore_parts width place cells) ≡ sum_by (λ n. n) (cell_numbers width place cells)
ore_sum width place [] = refl
ore_sum width place (ore ∷ cells) = by_ore (ore == 0) refl (ore_sum width (place + 1) cells) where
  by_ore :
      (none : Bool) → (ore == 0) ≡ none →
      sum_by fnv_of (ore_parts width (place + 1) cells) ≡ sum_by (λ n. n) (cell_numbers width (place + 1) cells) →
      sum_by fnv_of (ore_parts width place (ore ∷ cells)) ≡ sum_by (λ n. n) (cell_numbers width place (ore ∷ cells))
  by_ore true is rest = rw is (omega (arith, rest, sum_by-cons (λ n. n) 0 (cell_numbers width (place + 1) cells)))
  by_ore false is rest =
      let p = cell_at width place in
      rw is (omega (arith, rest, sum_by-cons fnv_of (ore_bytes p ore) (ore_parts width (place + 1) cells), sum_by-cons (λ n. n) (fnv_of (ore_bytes p ore)) (cell_numbers width (place + 1) cells)))

pub parts_sum :
    (header : List ℕ) (w : World) →
    sum_by fnv_of (header ∷ parts_after_header w)
    ≡ fnv_of header
    + (sum_by actor_number w.actors + sum_by (λ n. n) (cell_numbers w.ore.width 0 w.ore.cells))
parts_sum header w =
    let actors = map actor_bytes w.actors in
    let cells = ore_parts w.ore.width 0 w.ore.cells in
    omega (arith, sum_by-cons fnv_of header (actors ++ cells), sum_by-append fnv_of actors cells, actors_sum w.actors, ore_sum w.ore.width 0 w.ore.cells)

pub world_sum :
    (w : World) →
    sum_by fnv_of (parts_of w)
    ≡ fnv_of (header_bytes (head_of w) (length w.actors))
    + (sum_by actor_number w.actors + sum_by (λ n. n) (cell_numbers w.ore.width 0 w.ore.cells))
world_sum w = parts_sum (header_bytes (head_of w) (length w.actors)) w

-- With the number of a header, what is kept of a world is the sum over its byte lists.
kept_sum :
    (header : ℕ → List ℕ) (kept : Kept) (w : World) → IsKeptOf kept w.actors w.ore →
    fnv_of (header (length kept.actors)) + sum_of kept
    ≡ sum_by fnv_of (header (length w.actors) ∷ parts_after_header w)
kept_sum header kept w is =
    let first : fnv_of (header (length kept.actors)) ≡ fnv_of (header (length w.actors)) =
    ap (λ n. fnv_of (header n)) (ap length is.numbers ∙ length-map w.actors numbered) in
    let actors : numbers_sum kept.actors ≡ sum_by actor_number w.actors =
    ap numbers_sum is.numbers ∙ sum_numbered w.actors in
    let cells = ap (sum_by (λ n. n)) is.cells in
    ap₂ (λ a b. a + b) first (ap₂ (λ a b. a + b) actors cells)
    ∙ sym (parts_sum (header (length w.actors)) w)

-- A hasher that keeps the numbers of a world gives its hash, and that of the first version.
pub kept_hash : (kept : Kept) (w : World) → IsKeptOf kept w.actors w.ore → hash_with kept (head_of w) ≡ hash_of w
unfolding hash_with hash_of
kept_hash kept w is = ap (λ n. n % 2 ^ 64) (kept_sum (header_bytes (head_of w)) kept w is)

pub kept_hash_1 :
    (kept : Kept) (w : World) → IsKeptOf kept w.actors w.ore →
    hash_with_1 kept (head_of w) ≡ hash_of_1 w
unfolding hash_with_1 hash_of_1
kept_hash_1 kept w is = ap (λ n. n % 2 ^ 64) (kept_sum (header_bytes_1 (head_of w)) kept w is)

-- The cell that is set at a place is the cell of the place.
cell_set :
    (width place : ℕ) (cells : List ℕ) (i ore : ℕ) →
    cell_numbers width place (slice_set cells i ore)
    ≡ slice_set (cell_numbers width place cells) i (cell_number (cell_at width (place + i)) ore)
cell_set width place [] i ore = refl
cell_set width place (x ∷ cells) zero ore =
    ap (λ p. cell_number (cell_at width p) ore ∷ cell_numbers width (place + 1) cells) (omega arith)
cell_set width place (x ∷ cells) (suc i) ore =
    ap (λ l. cell_number (cell_at width place) x ∷ l)
    (cell_set width (place + 1) cells i ore
    ∙ ap (λ p. slice_set (cell_numbers width (place + 1) cells) i (cell_number (cell_at width p) ore)) (omega arith))

abbrev the_cell : ℕ → ℕ → CPos
the_cell a b = record { x = a; y = b }

same_place : (width : ℕ) (p : CPos) → p.x < width → cell_at width (place_of width p) ≡ p
same_place width p within =
    ap₂ (λ (a b : ℕ). the_cell a b) (mod-mul-add p.y width p.x within) (div-mul-add p.y width p.x within)

-- Setting the number of a cell gives the numbers of the ore with that cell set.
pub ore_numbered :
    (width : ℕ) (cells : List ℕ) (p : CPos) (ore : ℕ) → p.x < width →
    slice_set (cell_numbers width 0 cells) (place_of width p) (cell_number p ore)
    ≡ cell_numbers width 0 (slice_set cells (place_of width p) ore)
ore_numbered width cells p ore within =
    sym (cell_set width 0 cells (place_of width p) ore
    ∙ ap (λ q. slice_set (cell_numbers width 0 cells) (place_of width p) (cell_number q ore)) (ap (cell_at width) (omega arith) ∙ same_place width p within))
