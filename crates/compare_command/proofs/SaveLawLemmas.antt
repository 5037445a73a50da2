-- Saves without a difference.
use Rattle.std.specs.Prelude.{◌≡◌, ℕ, ◌+◌, ◌*◌, ◌%◌, ◌/◌, ◌<◌, nat_lt, min, Bool, true, false, List}
use Rattle.std.specs.Prelude.{[], ◌∷◌, ◌++◌, length, slice_get, Option, if◌then◌else◌}
use Rattle.std.proofs.Common.{refl, sym, ap, ap₂, subst, ◌∙◌, arith}
use Rattle.std.proofs.lemmas.Bool.Decides.{nat_tests}
use Rattle.world_units.specs.declared.cell.CPos.{CPos}
use Rattle.activities.specs.declared.activity.Activity.{Activity}
use Rattle.game_model.specs.declared.actor.Actor.{Actor}
use Rattle.game_model.specs.declared.actor.Body.{Body}
use Rattle.game_model.specs.declared.actor.Leg.{Leg}
use Rattle.game_model.specs.declared.builds.Build.{Build}
use Rattle.game_model.specs.declared.world.Head.{Head}
use Rattle.game_model.specs.declared.world.World.{World}
use Rattle.game_model.specs.Grid.{Grid}
use Rattle.game_model.specs.Setup.{Setup}
use Rattle.game_model.specs.ValidMap.{IsOreOf}
use Rattle.game_model.specs.ValidWorld.{IsSavedWorld}
use Rattle.game_model.specs.World.{AreClients, clients_of, head_of, world_with}
use Rattle.game_save.specs.declared.saved.Saved.{Saved}
use Rattle.compare_command.specs.declared.subject.Field.TheVariants as field
use Rattle.compare_command.specs.declared.subject.Subject.TheVariants.{Frames, Tick, Seed, Drawn}
use Rattle.compare_command.specs.declared.subject.Subject.TheVariants.{Next, Pace, Clients, Cash}
use Rattle.compare_command.specs.declared.subject.Subject.TheVariants.{Gone, Ore, Actor as OfActor}
use Rattle.compare_command.specs.Difference.{Difference, Numbers, Flags, Cells, Legs, Acts, Builds}
use Rattle.compare_command.specs.Difference.{OnlyFirst, OnlySecond, compared, compared_if}
use Rattle.compare_command.specs.Merging.{merged}
use Rattle.compare_command.specs.Saves.{actors_differences, cell_of, client_differences}
use Rattle.compare_command.specs.Saves.{clients_differences}
use Rattle.compare_command.specs.Saves.{field_differences, head_differences}
use Rattle.compare_command.specs.Saves.{ore_differences}
use Rattle.compare_command.specs.Saves.{save_differences}
use Rattle.compare_command.proofs.IdLemmas.{all_merged}
use Rattle.compare_command.proofs.NoneLemmas.{both_none, each_none, equal_when, none_both, none_each}
use Rattle.compare_command.proofs.NoneLemmas.{none_if, none_when, same_items}
use Rattle.compare_command.proofs.ReplyLemmas.{ids_of}

-- ---- actors

abbrev body_with :
    (owner facing : ℕ) → Option Leg → (health load reload : ℕ) → List Activity → List Build → Body
body_with owner facing leg health load reload acts builds =
    record {
      owner = owner;
      facing = facing;
      leg = leg;
      health = health;
      load = load;
      reload = reload;
      acts = acts;
      builds = builds;
    }

abbrev actor_with : (id kind : ℕ) → CPos → Body → Actor
actor_with id kind cell body = record { id = id; kind = kind; cell = cell; body = body }

-- An actor that both have, without a difference.
fields_same : (p q : Actor) → p.id ≡ q.id → field_differences p q ≡ [] → p ≡ q
fields_same p q ids none =
    let id = p.id in
    let a = p.body in
    let b = q.body in
    let kind = compared (OfActor id field.Kind) (Numbers p.kind q.kind) in
    let owner = compared (OfActor id field.Owner) (Numbers a.owner b.owner) in
    let cell = compared (OfActor id field.Cell) (Cells p.cell q.cell) in
    let facing = compared (OfActor id field.Facing) (Numbers a.facing b.facing) in
    let leg = compared (OfActor id field.Leg) (Legs a.leg b.leg) in
    let health = compared (OfActor id field.Health) (Numbers a.health b.health) in
    let load = compared (OfActor id field.Load) (Numbers a.load b.load) in
    let reload = compared (OfActor id field.Reload) (Numbers a.reload b.reload) in
    let acts = compared (OfActor id field.Acts) (Acts a.acts b.acts) in
    let builds = compared (OfActor id field.Builds) (Builds a.builds b.builds) in
    let counts = health ++ (load ++ reload) in
    let first =
    both_none kind (owner ++ (cell ++ ((facing ++ leg) ++ (counts ++ (acts ++ builds))))) none in
    let second =
    both_none owner (cell ++ ((facing ++ leg) ++ (counts ++ (acts ++ builds)))) first.1 in
    let third = both_none cell ((facing ++ leg) ++ (counts ++ (acts ++ builds))) second.1 in
    let fourth = both_none (facing ++ leg) (counts ++ (acts ++ builds)) third.1 in
    let places = both_none facing leg fourth.0 in
    let fifth = both_none counts (acts ++ builds) fourth.1 in
    let sixth = both_none health (load ++ reload) fifth.0 in
    let last = both_none load reload sixth.1 in
    let plans = both_none acts builds fifth.1 in
    let body : a ≡ b =
    ap₂ (λ (o f : ℕ). body_with o f a.leg a.health a.load a.reload a.acts a.builds)
    (equal_when (OfActor id field.Owner) (Numbers a.owner b.owner) second.0)
    (equal_when (OfActor id field.Facing) (Numbers a.facing b.facing) places.0)
    ∙ ap₂ (λ (l : Option Leg) (h : ℕ).
    body_with b.owner b.facing l h a.load a.reload a.acts a.builds)
    (equal_when (OfActor id field.Leg) (Legs a.leg b.leg) places.1)
    (equal_when (OfActor id field.Health) (Numbers a.health b.health) sixth.0)
    ∙ ap₂ (λ (l r : ℕ). body_with b.owner b.facing b.leg b.health l r a.acts a.builds)
    (equal_when (OfActor id field.Load) (Numbers a.load b.load) last.0)
    (equal_when (OfActor id field.Reload) (Numbers a.reload b.reload) last.1)
    ∙ ap₂ (λ (c : List Activity) (u : List Build).
    body_with b.owner b.facing b.leg b.health b.load b.reload c u)
    (equal_when (OfActor id field.Acts) (Acts a.acts b.acts) plans.0)
    (equal_when (OfActor id field.Builds) (Builds a.builds b.builds) plans.1) in
    ap₂ (λ (i k : ℕ). actor_with i k p.cell a) ids
    (equal_when (OfActor id field.Kind) (Numbers p.kind q.kind) first.0)
    ∙ ap₂ (actor_with q.id q.kind)
    (equal_when (OfActor id field.Cell) (Cells p.cell q.cell) third.0) body

fields_none : (p : Actor) → field_differences p p ≡ []
fields_none p =
    let id = p.id in
    let a = p.body in
    let kind = compared (OfActor id field.Kind) (Numbers p.kind p.kind) in
    let owner = compared (OfActor id field.Owner) (Numbers a.owner a.owner) in
    let cell = compared (OfActor id field.Cell) (Cells p.cell p.cell) in
    let facing = compared (OfActor id field.Facing) (Numbers a.facing a.facing) in
    let leg = compared (OfActor id field.Leg) (Legs a.leg a.leg) in
    let health = compared (OfActor id field.Health) (Numbers a.health a.health) in
    let load = compared (OfActor id field.Load) (Numbers a.load a.load) in
    let reload = compared (OfActor id field.Reload) (Numbers a.reload a.reload) in
    let acts = compared (OfActor id field.Acts) (Acts a.acts a.acts) in
    let builds = compared (OfActor id field.Builds) (Builds a.builds a.builds) in
    let places =
    none_both facing leg (none_when (OfActor id field.Facing) (Numbers a.facing a.facing) refl)
    (none_when (OfActor id field.Leg) (Legs a.leg a.leg) refl) in
    let counts =
    none_both health (load ++ reload)
    (none_when (OfActor id field.Health) (Numbers a.health a.health) refl)
    (none_both load reload (none_when (OfActor id field.Load) (Numbers a.load a.load) refl)
    (none_when (OfActor id field.Reload) (Numbers a.reload a.reload) refl)) in
    let plans =
    none_both acts builds (none_when (OfActor id field.Acts) (Acts a.acts a.acts) refl)
    (none_when (OfActor id field.Builds) (Builds a.builds a.builds) refl) in
    let rest =
    none_both (facing ++ leg) ((health ++ (load ++ reload)) ++ (acts ++ builds)) places
    (none_both (health ++ (load ++ reload)) (acts ++ builds) counts plans) in
    let more : List Difference =
    (facing ++ leg) ++ ((health ++ (load ++ reload)) ++ (acts ++ builds)) in
    none_both kind (owner ++ (cell ++ more))
    (none_when (OfActor id field.Kind) (Numbers p.kind p.kind) refl)
    (none_both owner (cell ++ more)
    (none_when (OfActor id field.Owner) (Numbers a.owner a.owner) refl)
    (none_both cell more (none_when (OfActor id field.Cell) (Cells p.cell p.cell) refl) rest))

two_same :
    (p q : Actor) (actors others : List Actor) → (merged actors others ≡ [] → actors ≡ others) →
    merged (p ∷ actors) (q ∷ others) ≡ [] → p ∷ actors ≡ q ∷ others
two_same p q actors others more none =
    by_tests (nat_lt p.id q.id) (nat_lt q.id p.id) refl refl none
  where
    by_tests : (less greater : Bool) → nat_lt p.id q.id ≡ less → nat_lt q.id p.id ≡ greater →
        (if less then OnlyFirst p.id ∷ merged actors (q ∷ others)
        else (if greater then OnlySecond q.id ∷ merged (p ∷ actors) others
        else field_differences p q ++ merged actors others)) ≡ [] →
        p ∷ actors ≡ q ∷ others
    by_tests true greater is is' empty = absurd cc
    by_tests false true is is' empty = absurd cc
    by_tests false false is is' empty =
        let parts = both_none (field_differences p q) (merged actors others) empty in
        let ids : p.id ≡ q.id = grind (arith, nat_tests, is, is') in
        ap₂ (λ (a : Actor) (rest : List Actor). a ∷ rest) (fields_same p q ids parts.0)
        (more parts.1)

merged_same : (actors others : List Actor) → merged actors others ≡ [] → actors ≡ others
merged_same [] [] none = refl
merged_same [] (q ∷ others) none = absurd cc
merged_same (p ∷ actors) [] none = absurd cc
merged_same (p ∷ actors) (q ∷ others) none =
    two_same p q actors others (merged_same actors others) none

merged_none : (actors : List Actor) → merged actors actors ≡ []
merged_none [] = refl
merged_none (p ∷ actors) =
    let less : nat_lt p.id p.id ≡ false = grind (arith, nat_tests) in
    rw less (none_both (field_differences p p) (merged actors actors) (fields_none p)
    (merged_none actors))

-- ---- heads, clients, cells

numbers_equal : (n a b : ℕ) → compared (Cash n) (Numbers a b) ≡ [] → a ≡ b
numbers_equal n a b none = equal_when (Cash n) (Numbers a b) none

flags_equal : (n : ℕ) (a b : Bool) → compared (Gone n) (Flags a b) ≡ [] → a ≡ b
flags_equal n a b none = equal_when (Gone n) (Flags a b) none

-- Of each client that both have.
clients_none :
    (a b : World) (k : ℕ) → clients_differences a b ≡ [] → k < min (clients_of a) (clients_of b) →
    (compared_if (Cash k) Numbers (slice_get a.cash k) (slice_get b.cash k) ≡ [])
    × (compared_if (Gone k) Flags (slice_get a.gone k) (slice_get b.gone k) ≡ [])
clients_none a b k none within =
    let here : 0 + k ≡ k = omega arith in
    both_none (compared_if (Cash k) Numbers (slice_get a.cash k) (slice_get b.cash k))
    (compared_if (Gone k) Flags (slice_get a.gone k) (slice_get b.gone k))
    (subst (λ (n : ℕ). client_differences a b n ≡ []) here
    (each_none (client_differences a b) 0 (min (clients_of a) (clients_of b)) k none within))

cash_same :
    (a b : World) → clients_of a ≡ clients_of b → clients_differences a b ≡ [] → a.cash ≡ b.cash
cash_same a b many none =
    same_items (λ (n : ℕ). Cash n) Numbers a.cash b.cash numbers_equal many
    (λ k within. (clients_none a b k none (omega (arith, within, many))).0)

gone_same :
    (a b : World) → AreClients a.cash a.gone → AreClients b.cash b.gone →
    clients_of a ≡ clients_of b → clients_differences a b ≡ [] → a.gone ≡ b.gone
gone_same a b are are' many none =
    let flags : length a.gone ≡ length b.gone = are.flags ∙ many ∙ sym are'.flags in
    same_items (λ (n : ℕ). Gone n) Flags a.gone b.gone flags_equal flags
    (λ k within. (clients_none a b k none (omega (arith, within, many, are.flags))).1)

bales_equal :
    (width n a b : ℕ) → compared (Ore (n % width) (n / width)) (Numbers a b) ≡ [] → a ≡ b
bales_equal width n a b none = equal_when (Ore (n % width) (n / width)) (Numbers a b) none

abbrev grid_with : ℕ → ℕ → List ℕ → Grid ℕ
grid_with width height cells = record { width = width; height = height; cells = cells }

ore_same :
    (width height : ℕ) (ore other : Grid ℕ) → IsOreOf width height ore →
    IsOreOf width height other → ore_differences ore other ≡ [] → ore ≡ other
ore_same width height ore other is is' none =
    let across : ore.width ≡ other.width = is.size.width ∙ sym is'.size.width in
    let down : ore.height ≡ other.height = is.size.height ∙ sym is'.size.height in
    let many : length ore.cells ≡ length other.cells =
    is.whole.cells ∙ ap₂ (λ (w h : ℕ). w * h) across down ∙ sym is'.whole.cells in
    let cells : ore.cells ≡ other.cells =
    same_items (λ (n : ℕ). Ore (n % ore.width) (n / ore.width)) Numbers ore.cells other.cells
    (bales_equal ore.width) many
    (λ k within. let here : 0 + k ≡ k = omega arith in
    subst (λ (n : ℕ). cell_of ore.width ore.cells other.cells n ≡ []) here
    (each_none (cell_of ore.width ore.cells other.cells) 0 (length ore.cells) k none within)) in
    ap₂ (λ (w h : ℕ). grid_with w h ore.cells) across down
    ∙ ap (grid_with other.width other.height) cells

abbrev head_with :
    (tick seed drawn next pace : ℕ) → List ℕ → List Bool → Head
head_with tick seed drawn next pace cash gone =
    record {
      tick = tick;
      seed = seed;
      drawn = drawn;
      next_id = next;
      pace = pace;
      cash = cash;
      gone = gone;
    }

abbrev saved_with : ℕ → World → Saved
saved_with frames world = record { frames = frames; world = world }

-- Two saves without a difference are equal.
pub saves_equal :
    (setup : Setup) (a b : Saved) → IsSavedWorld setup a.frames a.world →
    IsSavedWorld setup b.frames b.world → save_differences a b ≡ [] → a ≡ b
saves_equal setup a b saved saved' none =
    let w = a.world in
    let v = b.world in
    let frames = compared Frames (Numbers a.frames b.frames) in
    let tick = compared Tick (Numbers w.tick v.tick) in
    let seed = compared Seed (Numbers w.seed v.seed) in
    let drawn = compared Drawn (Numbers w.drawn v.drawn) in
    let next = compared Next (Numbers w.next_id v.next_id) in
    let pace = compared Pace (Numbers w.pace v.pace) in
    let count = compared Clients (Numbers (clients_of w) (clients_of v)) in
    let clients = clients_differences w v in
    let actors = actors_differences w v in
    let ore = ore_differences w.ore v.ore in
    let one = both_none (head_differences a b) (clients ++ (actors ++ ore)) none in
    let two = both_none clients (actors ++ ore) one.1 in
    let three = both_none actors ore two.1 in
    let begin = both_none frames (tick ++ ((seed ++ drawn) ++ (next ++ (pace ++ count)))) one.0 in
    let turns = both_none tick ((seed ++ drawn) ++ (next ++ (pace ++ count))) begin.1 in
    let rest = both_none (seed ++ drawn) (next ++ (pace ++ count)) turns.1 in
    let draws = both_none seed drawn rest.0 in
    let ids = both_none next (pace ++ count) rest.1 in
    let last = both_none pace count ids.1 in
    let many : clients_of w ≡ clients_of v =
    equal_when Clients (Numbers (clients_of w) (clients_of v)) last.1 in
    let cash = cash_same w v many two.0 in
    let gone = gone_same w v saved.valid.clients saved'.valid.clients many two.0 in
    let head : head_of w ≡ head_of v =
    ap₂ (λ (t s : ℕ). head_with t s w.drawn w.next_id w.pace w.cash w.gone)
    (equal_when Tick (Numbers w.tick v.tick) turns.0)
    (equal_when Seed (Numbers w.seed v.seed) draws.0)
    ∙ ap₂ (λ (d n : ℕ). head_with v.tick v.seed d n w.pace w.cash w.gone)
    (equal_when Drawn (Numbers w.drawn v.drawn) draws.1)
    (equal_when Next (Numbers w.next_id v.next_id) ids.0)
    ∙ ap (λ (p : ℕ). head_with v.tick v.seed v.drawn v.next_id p w.cash w.gone)
    (equal_when Pace (Numbers w.pace v.pace) last.0)
    ∙ ap₂ (head_with v.tick v.seed v.drawn v.next_id v.pace) cash gone in
    let same : w.actors ≡ v.actors =
    merged_same w.actors v.actors
    (all_merged w v (ids_of setup a.frames w saved) (ids_of setup b.frames v saved') ∙ three.0) in
    let cells : w.ore ≡ v.ore =
    ore_same setup.map.width setup.map.height w.ore v.ore saved.valid.ore saved'.valid.ore three.1 in
    let world : w ≡ v =
    ap₂ (λ (h : Head) (l : List Actor). world_with h l w.ore) head same
    ∙ ap (world_with (head_of v) v.actors) cells in
    ap₂ saved_with (equal_when Frames (Numbers a.frames b.frames) begin.0) world

-- A save has no difference from itself.
self_none :
    (setup : Setup) (a : Saved) → IsSavedWorld setup a.frames a.world → save_differences a a ≡ []
self_none setup a saved =
    let w = a.world in
    let ids = ids_of setup a.frames w saved in
    let frames = compared Frames (Numbers a.frames a.frames) in
    let tick = compared Tick (Numbers w.tick w.tick) in
    let seed = compared Seed (Numbers w.seed w.seed) in
    let drawn = compared Drawn (Numbers w.drawn w.drawn) in
    let next = compared Next (Numbers w.next_id w.next_id) in
    let pace = compared Pace (Numbers w.pace w.pace) in
    let count = compared Clients (Numbers (clients_of w) (clients_of w)) in
    let draws =
    none_both seed drawn (none_when Seed (Numbers w.seed w.seed) refl)
    (none_when Drawn (Numbers w.drawn w.drawn) refl) in
    let counts =
    none_both next (pace ++ count) (none_when Next (Numbers w.next_id w.next_id) refl)
    (none_both pace count (none_when Pace (Numbers w.pace w.pace) refl)
    (none_when Clients (Numbers (clients_of w) (clients_of w)) refl)) in
    let head =
    none_both frames (tick ++ ((seed ++ drawn) ++ (next ++ (pace ++ count))))
    (none_when Frames (Numbers a.frames a.frames) refl)
    (none_both tick ((seed ++ drawn) ++ (next ++ (pace ++ count)))
    (none_when Tick (Numbers w.tick w.tick) refl)
    (none_both (seed ++ drawn) (next ++ (pace ++ count)) draws counts)) in
    let clients : clients_differences w w ≡ [] =
    none_each (client_differences w w) 0 (min (clients_of w) (clients_of w))
    (λ k. none_both (compared_if (Cash k) Numbers (slice_get w.cash k) (slice_get w.cash k))
    (compared_if (Gone k) Flags (slice_get w.gone k) (slice_get w.gone k))
    (none_if (Cash k) Numbers (slice_get w.cash k) (λ n. none_when (Cash k) (Numbers n n) refl))
    (none_if (Gone k) Flags (slice_get w.gone k) (λ f. none_when (Gone k) (Flags f f) refl))) in
    let actors : actors_differences w w ≡ [] = sym (all_merged w w ids ids) ∙ merged_none w.actors in
    let ore : ore_differences w.ore w.ore ≡ [] =
    none_each (cell_of w.ore.width w.ore.cells w.ore.cells) 0 (length w.ore.cells)
    (λ k. none_if (Ore (k % w.ore.width) (k / w.ore.width)) Numbers (slice_get w.ore.cells k)
    (λ n. none_when (Ore (k % w.ore.width) (k / w.ore.width)) (Numbers n n) refl)) in
    none_both (head_differences a a)
    (clients_differences w w ++ (actors_differences w w ++ ore_differences w.ore w.ore)) head
    (none_both (clients_differences w w) (actors_differences w w ++ ore_differences w.ore w.ore)
    clients
    (none_both (actors_differences w w) (ore_differences w.ore w.ore) actors ore))

pub equal_none :
    (setup : Setup) (a b : Saved) → IsSavedWorld setup a.frames a.world → a ≡ b →
    save_differences a b ≡ []
equal_none setup a b saved same =
    subst (λ (s : Saved). save_differences a s ≡ []) same (self_none setup a saved)
