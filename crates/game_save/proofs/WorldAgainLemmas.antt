-- Fields that were written are read: actors, the world, the save.
use Rattle.std.proofs.Common.{◌≡◌, ◌≢◌, ℕ, suc, ◌+◌, ◌*◌, ◌^◌, ◌<◌, ◌≤◌, Bool, true, false}
use Rattle.std.proofs.Common.{List, [], ◌∷◌, ◌++◌, length, Option, Some, None, Result, Ok, nat_lt}
use Rattle.std.proofs.Common.{refl, sym, ap, ap₂, subst, ◌∙◌, arith, append_assoc, inl, inr}
use Rattle.std.specs.List.{All, AllPairs, flat_map, zip}
use Rattle.std.specs.Option.{IsSomeAnd}
use Rattle.std.proofs.lemmas.Bool.{lt-ltb, eq-eqb}
use Rattle.std.proofs.lemmas.List.{append-nil}
use Rattle.std.proofs.lemmas.List.Elements.{All-head, All-tail}
use Rattle.wire_bytes.specs.Field.{field_bytes}
use Rattle.world_units.specs.declared.angle.TheConstants.{FULL_TURN}
use Rattle.world_units.specs.declared.cell.CPos.{CPos}
use Rattle.world_units.specs.Cells.{same_cell}
use Rattle.world_units.specs.CellEquality.{cell_decides}
use Rattle.rule_traits.specs.declared.kind.Kind.{Kind}
use Rattle.rule_traits.specs.Rules.{kind_at}
use Rattle.game_orders.specs.declared.limits.TheConstants.{MAX_CLIENTS, MAX_FRAMES}
use Rattle.game_model.specs.declared.actor.Actor.{Actor}
use Rattle.game_model.specs.declared.limits.TheConstants.{MAX_ACTORS, MAX_CASH, MAX_DRAWS, MAX_ORE, MAX_PACE}
use Rattle.game_model.specs.declared.map.Map.{Map}
use Rattle.game_model.specs.declared.world.Head.{Head}
use Rattle.game_model.specs.declared.world.World.{World}
use Rattle.game_model.specs.Grid.{Grid, IsOn}
use Rattle.game_model.specs.Setup.{Setup}
use Rattle.game_model.proofs.StartLemmas.{pairs_head, pairs_tail}
use Rattle.game_model.specs.ValidMap.{IsOreOf, IsOwner}
use Rattle.game_model.specs.ValidWorld.{IsBodyOf, IsHealthOf, IsSavedWorld, IsSoundActor, IsValidWorld, StepReady, IsHealthy}
use Rattle.game_model.specs.World.{head_of, is_occupied}
use Rattle.sync_hash.specs.FitsFields.{ActorFits, FitsFields}
use Rattle.sync_hash.specs.HashedBytes.{actor_bytes, client_bytes, clients_bytes, flag_byte, header_bytes}
use Rattle.game_save.specs.declared.clients.Clients.{Clients}
use Rattle.game_save.specs.declared.limits.TheConstants.{MAGIC, VERSION}
use Rattle.game_save.specs.declared.save_fault.SaveFault.{SaveFault}
use Rattle.game_save.specs.declared.saved.Saved.{Saved}
use Rattle.game_save.specs.ActorReading.{actor_in, free_cell_in, id_from, is_owner, owner_in, placed_in}
use Rattle.game_save.specs.Fields.{each_after}
use Rattle.game_save.specs.ReadSave.{magic_in, opening_in, read_save_of, version_in}
use Rattle.game_save.specs.SaveBytes.{actors_bytes, opening_bytes, save_bytes, world_bytes}
use Rattle.game_save.specs.WorldReading.{actors_in, cash_in, client_in, clients_after, clients_in, gone_in, head_in, next_ore}
use Rattle.game_save.specs.WorldReading.{no_clients, ore_in, size_in, with_client, world_in}
use Rattle.game_save.proofs.BodyAgainLemmas.{BodyFits, body_again, byte_again, each_again, field_again, from_leg, in_middle}
use Rattle.game_save.proofs.BodyAgainLemmas.{left_of, one_of, range_again, range_byte}

-- An owner.
owner_by :
    (few : Bool) (clients owner : ℕ) → nat_lt owner clients ≡ few → IsOwner clients owner →
    is_owner clients owner ≡ true
owner_by true clients owner is any = rw is refl
owner_by false clients owner is (inl below) =
    let yes : nat_lt owner clients ≡ true = lt-ltb owner clients below in
    absurd cc
owner_by false clients owner is (inr nobody) = rw (is, nobody) refl

owner_again :
    (t clients owner : ℕ) (rest : List ℕ) → IsOwner clients owner →
    owner_in clients (left_of t (owner ∷ rest)) ≡ Ok (owner, left_of t rest)
unfolding owner_in
owner_again t clients owner rest is =
    rw (byte_again t owner rest, owner_by (nat_lt owner clients) clients owner refl is) refl

free_cell_again :
    (t : ℕ) (map : Map) (held : List Actor) (p : CPos) (rest : List ℕ) →
    IsOn map.width map.height p → is_occupied held p ≡ false →
    free_cell_in map held (left_of t (p.x ∷ (p.y ∷ rest))) ≡ Ok (p, left_of t rest)
unfolding free_cell_in
free_cell_again t map held p rest is free =
    rw (
      range_byte t 0 map.width p.x (p.y ∷ rest) (omega arith) is.column,
      range_byte t 0 map.height p.y rest (omega arith) is.row,
      free,
    ) refl

-- What follows the kind.
abbrev from_owner : Actor → List ℕ → List ℕ
from_owner a rest =
    a.body.owner ∷ (a.cell.x ∷ (a.cell.y ∷ (field_bytes 2 a.body.facing ++ from_leg a.body rest)))

placed_again :
    (t : ℕ) (setup : Setup) (clients : ℕ) (kind : Kind) (held : List Actor) (a : Actor)
    (rest : List ℕ) → IsOwner clients a.body.owner → IsOn setup.map.width setup.map.height a.cell →
    is_occupied held a.cell ≡ false → a.body.facing < FULL_TURN → a.body.facing < 2 ^ 16 →
    IsBodyOf setup kind a.body → IsHealthOf a.body.health kind → BodyFits a.body →
    placed_in setup clients kind held (left_of t (from_owner a rest))
    ≡ Ok ((a.cell, a.body), left_of t rest)
unfolding placed_in
placed_again t setup clients kind held a rest owner on free turn facing is well fits =
    rw (
      owner_again t clients a.body.owner
          (a.cell.x ∷ (a.cell.y ∷ (field_bytes 2 a.body.facing ++ from_leg a.body rest))) owner,
      free_cell_again t setup.map held a.cell (field_bytes 2 a.body.facing ++ from_leg a.body rest)
          on free,
      range_again t 2 0 FULL_TURN a.body.facing (from_leg a.body rest) facing (omega arith) turn,
      body_again t setup kind a.body rest is well fits,
    ) refl

-- An actor.
actor_by :
    (t : ℕ) (setup : Setup) (clients next_id : ℕ) (held : List Actor) (a : Actor)
    (rest : List ℕ) (found : Option Kind) → kind_at setup.rules a.kind ≡ found →
    IsSomeAnd found (λ kind. IsBodyOf setup kind a.body) → IsSomeAnd found (IsHealthOf a.body.health) →
    IsSoundActor setup clients next_id a → ActorFits a → id_from 1 held ≤ a.id →
    is_occupied held a.cell ≡ false →
    actor_in setup clients next_id held
    (left_of t (field_bytes 4 a.id ++ (field_bytes 2 a.kind ++ from_owner a rest)))
    ≡ Ok (a, left_of t rest)
unfolding actor_in
actor_by t setup clients next_id held a rest None is body well sound fits rises free = elim body [ ]
actor_by t setup clients next_id held a rest (Some kind) is body well sound fits rises free =
    let small : BodyFits a.body =
    record {
      leg = fits.leg;
      health = fits.health;
      load = fits.load;
      reload = fits.reload;
      acts = fits.acts;
      builds = fits.builds;
    } in
    rw (
      range_again t 4 (id_from 1 held) next_id a.id (field_bytes 2 a.kind ++ from_owner a rest)
          fits.id rises sound.most_id,
      field_again t 2 a.kind (from_owner a rest) fits.kind,
      is,
      placed_again t setup clients kind held a rest sound.owner sound.cell free sound.facing
          fits.facing body well small,
    ) refl

actor_parts :
    (a : Actor) (rest : List ℕ) →
    actor_bytes a ++ rest ≡ field_bytes 4 a.id ++ (field_bytes 2 a.kind ++ from_owner a rest)
unfolding actor_bytes
actor_parts a rest = simp append_assoc refl

actor_again :
    (t : ℕ) (setup : Setup) (clients next_id : ℕ) (held : List Actor) (a : Actor)
    (rest : List ℕ) → IsSoundActor setup clients next_id a → IsHealthy setup.rules a →
    ActorFits a → id_from 1 held ≤ a.id → is_occupied held a.cell ≡ false →
    actor_in setup clients next_id held (left_of t (actor_bytes a ++ rest)) ≡ Ok (a, left_of t rest)
actor_again t setup clients next_id held a rest sound well fits rises free =
    ap (λ (bs : List ℕ). actor_in setup clients next_id held (left_of t bs)) (actor_parts a rest)
    ∙ actor_by t setup clients next_id held a rest (kind_at setup.rules a.kind) refl sound.body well
    sound fits rises free

-- An id is above those before it.
above_front :
    (least : ℕ) (front : List Actor) (a : Actor) (back : List Actor) → least ≤ a.id →
    AllPairs (λ (b c : Actor). b.id < c.id) (front ++ (a ∷ back)) → id_from least front ≤ a.id
above_front least [] a back low rise = low
above_front least (b ∷ front) a back low rise =
    let more : b.id < a.id =
    in_middle (λ (c : Actor). b.id < c.id) front a back
    (pairs_head (λ (d c : Actor). d.id < c.id) b (front ++ (a ∷ back)) rise) in
    above_front (b.id + 1) front a back (omega arith)
    (pairs_tail (λ (d c : Actor). d.id < c.id) b (front ++ (a ∷ back)) rise)

-- Its cell is that of none before it.
other_cell : (b : Bool) (q p : CPos) → same_cell q p ≡ b → q ≢ p → same_cell q p ≡ false
other_cell true q p is apart = absurd (apart ((cell_decides q p).0 is))
other_cell false q p is apart = is

free_front :
    (front : List Actor) (a : Actor) (back : List Actor) →
    AllPairs (λ (b c : Actor). b.cell ≢ c.cell) (front ++ (a ∷ back)) →
    is_occupied front a.cell ≡ false
free_front [] a back apart = refl
free_front (b ∷ front) a back apart =
    let other : b.cell ≢ a.cell =
    in_middle (λ (c : Actor). b.cell ≢ c.cell) front a back
    (pairs_head (λ (d c : Actor). d.cell ≢ c.cell) b (front ++ (a ∷ back)) apart) in
    rw (other_cell (same_cell b.cell a.cell) b.cell a.cell refl other)
    (free_front front a back
    (pairs_tail (λ (d c : Actor). d.cell ≢ c.cell) b (front ++ (a ∷ back)) apart))

-- The actors.
each_actor_again :
    (t : ℕ) (setup : Setup) (clients next_id : ℕ) (actors : List Actor) (rest : List ℕ) →
    StepReady setup clients next_id actors → All (IsHealthy setup.rules) actors →
    All ActorFits actors →
    each_after (actor_in setup clients next_id) [] (length actors)
    (left_of t (actors_bytes actors ++ rest))
    ≡ Ok (actors, left_of t rest)
each_actor_again t setup clients next_id actors rest ready well fit =
    each_again (actor_in setup clients next_id) actor_bytes t actors [] actors rest refl
    (λ front a back more same.
    let sound : IsSoundActor setup clients next_id a =
    one_of (IsSoundActor setup clients next_id) actors front a back same ready.each in
    actor_again t setup clients next_id front a more sound
    (one_of (IsHealthy setup.rules) actors front a back same well)
    (one_of ActorFits actors front a back same fit)
    (above_front 1 front a back sound.least_id
    (subst (λ (xs : List Actor). AllPairs (λ (b c : Actor). b.id < c.id) xs) (sym same) ready.rise))
    (free_front front a back
    (subst (λ (xs : List Actor). AllPairs (λ (b c : Actor). b.cell ≢ c.cell) xs) (sym same)
    ready.apart)))

-- The clients.
gone_again :
    (t : ℕ) (gone : Bool) (rest : List ℕ) →
    gone_in (left_of t (flag_byte gone ∷ rest)) ≡ Ok (gone, left_of t rest)
unfolding gone_in
gone_again t true rest = rw (range_byte t 0 2 1 rest (omega arith) (omega arith)) refl
gone_again t false rest = rw (range_byte t 0 2 0 rest (omega arith) (omega arith)) refl

each_client_again :
    (t : ℕ) (held : Clients) (cash : List ℕ) (gone : List Bool) (rest : List ℕ) →
    length gone ≡ length cash → All (λ amount. amount ≤ MAX_CASH) cash →
    clients_after held (length cash) (left_of t (flat_map client_bytes (zip cash gone) ++ rest))
    ≡ Ok (record { cash = held.cash ++ cash; gone = held.gone ++ gone }, left_of t rest)
unfolding clients_after client_in
each_client_again t held [] [] rest same most =
    ap₂ (λ (cs : List ℕ) (gs : List Bool). Ok (record { cash = cs; gone = gs }, left_of t rest))
    (sym (append-nil held.cash)) (sym (append-nil held.gone))
each_client_again t held [] (g ∷ gs) rest same most = absurd (omega arith)
each_client_again t held (x ∷ xs) [] rest same most = absurd (omega arith)
each_client_again t held (x ∷ xs) (g ∷ gs) rest same most =
    let others : List ℕ = flat_map client_bytes (zip xs gs) ++ rest in
    let few : x ≤ MAX_CASH = All-head (λ amount. amount ≤ MAX_CASH) x xs most in
    let parts : flat_map client_bytes (zip (x ∷ xs) (g ∷ gs)) ++ rest
    ≡ field_bytes 4 x ++ (flag_byte g ∷ others) =
    append_assoc (client_bytes (x, g)) (flat_map client_bytes (zip xs gs)) rest
    ∙ append_assoc (field_bytes 4 x) (flag_byte g ∷ []) others in
    let first : cash_in (left_of t (field_bytes 4 x ++ (flag_byte g ∷ others)))
    ≡ Ok (x, left_of t (flag_byte g ∷ others)) =
    range_again t 4 0 (MAX_CASH + 1) x (flag_byte g ∷ others) (omega arith) (omega arith)
    (omega arith) in
    ap (λ (bs : List ℕ). clients_after held (suc (length xs)) (left_of t bs)) parts
    ∙ rw (first, gone_again t g others)
    (each_client_again t (with_client held x g) xs gs rest (omega arith)
    (All-tail (λ amount. amount ≤ MAX_CASH) x xs most)
    ∙ ap₂ (λ (cs : List ℕ) (fs : List Bool).
    Ok (record { cash = cs; gone = fs }, left_of t rest)) (append_assoc held.cash (x ∷ []) xs)
    (append_assoc held.gone (g ∷ []) gs))

clients_again :
    (t : ℕ) (cash : List ℕ) (gone : List Bool) (rest : List ℕ) → 1 ≤ length cash →
    length cash ≤ MAX_CLIENTS → length gone ≡ length cash → All (λ amount. amount ≤ MAX_CASH) cash →
    clients_in (left_of t (length cash ∷ (flat_map client_bytes (zip cash gone) ++ rest)))
    ≡ Ok (record { cash = cash; gone = gone }, left_of t rest)
unfolding clients_in
clients_again t cash gone rest some few same most =
    rw (
    range_byte t 1 (MAX_CLIENTS + 1) (length cash) (flat_map client_bytes (zip cash gone) ++ rest)
    some (omega arith)
    ) (each_client_again t no_clients cash gone rest same most)

-- The head and the number of actors.
header_parts :
    (head : Head) (actors : ℕ) (rest : List ℕ) →
    header_bytes head actors ++ rest
    ≡ field_bytes 4 head.tick
    ++ (field_bytes 4 head.seed
    ++ (field_bytes 8 head.drawn
    ++ (field_bytes 4 head.next_id
    ++ (head.pace
    ∷ (length head.cash ∷ (clients_bytes head ++ (field_bytes 4 actors ++ rest)))))))
header_parts head actors rest = simp append_assoc refl

-- Each number of a head fits its field.
record HeadFits (head : Head) : Type 0 where
  tick : head.tick < 2 ^ 32
  seed : head.seed < 2 ^ 32
  drawn : head.drawn < 2 ^ 64
  next_id : head.next_id < 2 ^ 32

head_again :
    (t : ℕ) (setup : Setup) (frames : ℕ) (w : World) (rest : List ℕ) →
    IsValidWorld setup frames w → HeadFits (head_of w) →
    head_in frames (left_of t (header_bytes (head_of w) (length w.actors) ++ rest))
    ≡ Ok (head_of w, left_of t (field_bytes 4 (length w.actors) ++ rest))
unfolding head_in
head_again t setup frames w rest is fits =
    let from_count : List ℕ = field_bytes 4 (length w.actors) ++ rest in
    let from_clients : List ℕ =
    length w.cash ∷ (flat_map client_bytes (zip w.cash w.gone) ++ from_count) in
    let from_next : List ℕ = field_bytes 4 w.next_id ++ (w.pace ∷ from_clients) in
    let from_drawn : List ℕ = field_bytes 8 w.drawn ++ from_next in
    ap (λ (bs : List ℕ). head_in frames (left_of t bs))
    (header_parts (head_of w) (length w.actors) rest)
    ∙ rw (
      range_again t 4 frames (MAX_PACE * frames + 1) w.tick (field_bytes 4 w.seed ++ from_drawn)
          fits.tick is.least_tick (omega (arith, is.most_tick)),
      field_again t 4 w.seed from_drawn fits.seed,
      range_again t 8 0 (MAX_DRAWS * frames + 1) w.drawn from_next fits.drawn (omega arith)
          (omega (arith, is.drawn)),
      range_again t 4 1 (2 ^ 32) w.next_id (w.pace ∷ from_clients) fits.next_id is.actors.next
          fits.next_id,
      range_byte t 1 (MAX_PACE + 1) w.pace from_clients is.pace.least (omega (arith, is.pace.most)),
      clients_again t w.cash w.gone from_count is.clients.least is.clients.most is.clients.flags
          is.cash,
    ) refl

-- The actors with their number.
actors_again :
    (t : ℕ) (setup : Setup) (head : Head) (actors : List Actor) (rest : List ℕ) →
    StepReady setup (length head.cash) head.next_id actors → All (IsHealthy setup.rules) actors →
    All ActorFits actors →
    actors_in setup head (left_of t (field_bytes 4 (length actors) ++ (actors_bytes actors ++ rest)))
    ≡ Ok (actors, left_of t rest)
unfolding actors_in
actors_again t setup head actors rest ready well fit =
    rw (
    range_again t 4 0 (MAX_ACTORS + 1) (length actors) (actors_bytes actors ++ rest)
    (omega (arith, ready.count)) (omega arith) (omega (arith, ready.count))
    ) (each_actor_again t setup (length head.cash) head.next_id actors rest ready well fit)

-- The ore.

as_bytes : (cells : List ℕ) → flat_map (λ (byte : ℕ). byte ∷ []) cells ≡ cells
as_bytes [] = refl
as_bytes (byte ∷ cells) = ap (λ (bs : List ℕ). byte ∷ bs) (as_bytes cells)

ore_again :
    (t width height : ℕ) (ore : Grid ℕ) (rest : List ℕ) → IsOreOf width height ore →
    ore_in width height (left_of t (ore.cells ++ rest)) ≡ Ok (ore, left_of t rest)
unfolding ore_in
ore_again t width height ore rest is =
    let many : width * height ≡ length ore.cells =
    ap₂ (λ (w h : ℕ). w * h) (sym is.size.width) (sym is.size.height) ∙ sym is.whole.cells in
    let cells : each_after next_ore [] (length ore.cells)
    (left_of t (flat_map (λ (byte : ℕ). byte ∷ []) ore.cells ++ rest))
    ≡ Ok (ore.cells, left_of t rest) =
    each_again next_ore (λ (byte : ℕ). byte ∷ []) t ore.cells [] ore.cells rest refl
    (λ front bales back more same.
    let few : bales ≤ MAX_ORE =
    one_of (λ bales. bales ≤ MAX_ORE) ore.cells front bales back same is.most in
    range_byte t 0 (MAX_ORE + 1) bales more (omega arith) (omega arith)) in
    let all : each_after next_ore [] (width * height) (left_of t (ore.cells ++ rest))
    ≡ Ok (ore.cells, left_of t rest) =
    ap₂ (λ (n : ℕ) (bs : List ℕ). each_after next_ore [] n (left_of t (bs ++ rest))) many
    (sym (as_bytes ore.cells))
    ∙ cells in
    rw all
    (ap₂ (λ (w h : ℕ). Ok (record { width = w; height = h; cells = ore.cells }, left_of t rest))
    (sym is.size.width) (sym is.size.height))

-- The size.
size_again :
    (t : ℕ) (map : Map) (width height : ℕ) (rest : List ℕ) → width ≡ map.width →
    height ≡ map.height →
    size_in map (left_of t (width ∷ (height ∷ rest))) ≡ Ok (height, left_of t rest)
unfolding size_in
size_again t map width height rest across down =
    rw (
    range_byte t map.width (map.width + 1) width (height ∷ rest) (omega arith) (omega arith)
    ) (range_byte t map.height (map.height + 1) height rest (omega arith) (omega arith))

-- The world.
world_again :
    (t : ℕ) (setup : Setup) (frames : ℕ) (w : World) → IsValidWorld setup frames w → FitsFields w →
    world_in setup frames (left_of t (world_bytes w)) ≡ Ok (w, left_of t [])
unfolding world_in world_bytes
world_again t setup frames w is fits =
    let from_actors : List ℕ = actors_bytes w.actors ++ w.ore.cells in
    let head : HeadFits (head_of w) =
    record { tick = fits.tick; seed = fits.seed; drawn = fits.drawn; next_id = fits.next_id } in
    let ore : ore_in setup.map.width setup.map.height (left_of t w.ore.cells) ≡ Ok (w.ore, left_of t []) =
    ap (λ (bs : List ℕ). ore_in setup.map.width setup.map.height (left_of t bs))
    (sym (append-nil w.ore.cells))
    ∙ ore_again t setup.map.width setup.map.height w.ore [] is.ore in
    rw (
      size_again t setup.map w.ore.width w.ore.height
          (header_bytes (head_of w) (length w.actors) ++ from_actors) is.ore.size.width
          is.ore.size.height,
      head_again t setup frames w from_actors is head,
      actors_again t setup (head_of w) w.actors w.ore.cells is.actors is.health fits.actors,
      ore,
    ) refl

-- What stands before the world.
magic_again :
    (t : ℕ) (rest : List ℕ) →
    magic_in (left_of t (field_bytes 4 MAGIC ++ rest)) ≡ Ok (MAGIC, left_of t rest)
unfolding magic_in
magic_again t rest =
    rw (field_again t 4 MAGIC rest (omega arith)) refl

version_again :
    (t : ℕ) (rest : List ℕ) →
    version_in (left_of t (field_bytes 2 VERSION ++ rest)) ≡ Ok (VERSION, left_of t rest)
unfolding version_in
version_again t rest = rw (field_again t 2 VERSION rest (omega arith)) refl

opening_parts :
    (number frames : ℕ) (rest : List ℕ) →
    opening_bytes number frames ++ rest
    ≡ field_bytes 4 MAGIC
    ++ (field_bytes 2 VERSION ++ (field_bytes 8 number ++ (field_bytes 4 frames ++ rest)))
unfolding opening_bytes
opening_parts number frames rest = simp append_assoc refl

opening_again :
    (t here frames : ℕ) (rest : List ℕ) → here < 2 ^ 64 → frames ≤ MAX_FRAMES →
    opening_in here (left_of t (opening_bytes here frames ++ rest)) ≡ Ok (frames, left_of t rest)
unfolding opening_in
opening_again t here frames rest fits few =
    let from_frames : List ℕ = field_bytes 4 frames ++ rest in
    let from_rules : List ℕ = field_bytes 8 here ++ from_frames in
    ap (λ (bs : List ℕ). opening_in here (left_of t bs)) (opening_parts here frames rest)
    ∙ rw (
      magic_again t (field_bytes 2 VERSION ++ from_rules),
      version_again t from_rules,
      field_again t 8 here from_frames fits,
      eq-eqb here here refl,
      range_again t 4 0 (MAX_FRAMES + 1) frames rest (omega arith) (omega arith) (omega arith),
    ) refl

-- Reading a save gives the world and its frames.
pub save_again :
    (here frames : ℕ) (setup : Setup) (w : World) → here < 2 ^ 64 → IsSavedWorld setup frames w →
    FitsFields w →
    read_save_of here setup (save_bytes here frames w) ≡ Ok (record { frames = frames; world = w })
unfolding read_save_of save_bytes
save_again here frames setup w number is fits =
    let t : ℕ = length (opening_bytes here frames ++ world_bytes w) in
    rw (
      opening_again t here frames (world_bytes w) number is.count,
      world_again t setup frames w is.valid fits,
    ) refl

-- One save is of one world after one number of frames.
one_saved :
    (x y : Saved) (read other : Result Saved SaveFault) → read ≡ Ok x → other ≡ Ok y →
    read ≡ other → x ≡ y
one_saved x y read other is also same = cc

pub same_saves :
    (number frames others : ℕ) (setup : Setup) (w v : World) → number < 2 ^ 64 →
    IsSavedWorld setup frames w → FitsFields w → IsSavedWorld setup others v → FitsFields v →
    save_bytes number frames w ≡ save_bytes number others v → (frames ≡ others) × (w ≡ v)
same_saves number frames others setup w v small is fits also fits_too same =
    let both : record { frames = frames; world = w } ≡ record { frames = others; world = v } =
    one_saved (record { frames = frames; world = w }) (record { frames = others; world = v })
    (read_save_of number setup (save_bytes number frames w))
    (read_save_of number setup (save_bytes number others v))
    (save_again number frames setup w small is fits)
    (save_again number others setup v small also fits_too) (ap (read_save_of number setup) same) in
    (ap (λ (saved : Saved). saved.frames) both, ap (λ (saved : Saved). saved.world) both)
