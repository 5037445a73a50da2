-- Proofs that no step changes the cells on which a building stands.
use Rattle.std.specs.Prelude.{◌≡◌, ℕ, suc, ◌+◌, ◌*◌, ◌<◌, ◌≤◌, ◌&&◌, ◌||◌, not, Bool, true, false}
use Rattle.std.specs.Prelude.{List, [], ◌∷◌, length, map, get_or, Option, Some, None, is_some, refl}
use Rattle.std.specs.List.{list_any, range_with_len}
use Rattle.std.specs.Option.{unwrap_or}
use Rattle.std.proofs.Common.{◌∙◌, ap, ap₂, arith}
use Rattle.std.proofs.lemmas.Bool.{and_parts, and_right, not_from_true, not-true}
use Rattle.std.proofs.lemmas.List.Folds.{list_any_none}
use Rattle.world_units.specs.declared.cell.CPos.{CPos}
use Rattle.world_units.specs.Cells.{same_cell}
use Rattle.rule_traits.specs.declared.kind.Kind.{Kind}
use Rattle.rule_traits.specs.Rules.{kind_at, moves}
use Rattle.rule_traits.specs.Typed.{plain_kind}
use Rattle.game_model.specs.declared.actor.Actor.{Actor}
use Rattle.game_model.specs.declared.world.World.{World}
use Rattle.game_model.specs.Buildings.{building_in, has_building, is_building}
use Rattle.game_model.specs.Grid.{Grid}
use Rattle.game_model.specs.Setup.{Setup}
use Rattle.game_model.specs.ValidMap.{IsMapFor}
use Rattle.game_model.specs.World.{living_of}
use Rattle.game_tick.specs.MidTurn.{IsMidTurn}
use Rattle.game_tick.specs.Nearest.{cell_of}
use Rattle.game_tick.specs.StepKeeps.{ActorKeeps, ActorsKeep}
use Rattle.game_tick.specs.Turn.{after_step, after_steps, blocks_of, with_build, with_reload}
use Rattle.game_tick.specs.Turn.{with_way}
use Rattle.game_tick.proofs.ActorBuildLemmas.{no_more}
use Rattle.game_tick.proofs.ActorsLemmas.{step_actors, reload_keeps, with_build_keeps, way_keeps}
use Rattle.game_tick.proofs.TurnLemmas.{step_mid}

-- Buildings stay where they are.
building_stays :
    (found : Option Kind) → building_in found ≡ true →
    moves (unwrap_or found (plain_kind [])) ≡ false
building_stays None is = absurd cc
building_stays (Some kind) is =
    and_right (is_some kind.mobile) (not kind.building) (not_from_true kind.building is)

mover_is_none :
    (found : Option Kind) → moves (unwrap_or found (plain_kind [])) ≡ true →
    building_in found ≡ false
mover_is_none None can = refl
mover_is_none (Some kind) can =
    not-true kind.building (and_parts (is_some kind.mobile) (not kind.building) can).1

-- The building of a list at a cell.
abbrev stands_at : List Kind → CPos → Actor → Bool
stands_at rules p a = is_building rules a && same_cell a.cell p

test_kept :
    (building : Bool) (rules : List Kind) (stepping : ℕ) (p : CPos) (x y : Actor) →
    building_in (kind_at rules x.kind) ≡ building → ActorKeeps rules stepping x y →
    (building && same_cell y.cell p) ≡ (building && same_cell x.cell p)
test_kept true rules stepping p x y is keeps =
    ap (λ (c : CPos). same_cell c p) (keeps.cell (building_stays (kind_at rules x.kind) is))
test_kept false rules stepping p x y is keeps = refl

stands_kept :
    (rules : List Kind) (stepping : ℕ) (p : CPos) (x y : Actor) → ActorKeeps rules stepping x y →
    stands_at rules p y ≡ stands_at rules p x
stands_kept rules stepping p x y keeps =
    ap (λ k. building_in (kind_at rules k) && same_cell y.cell p) keeps.kind
    ∙ test_kept (building_in (kind_at rules x.kind)) rules stepping p x y refl keeps

any_kept :
    (test : Actor → Bool) (xs ys : List Actor) → length xs ≤ length ys →
    ((k : ℕ) (d : Actor) → k < length xs → test (get_or ys k d) ≡ test (get_or xs k d)) →
    ((k : ℕ) (d : Actor) → length xs ≤ k → k < length ys → test (get_or ys k d) ≡ false) →
    list_any test ys ≡ list_any test xs
any_kept test [] ys fewer each added =
    list_any_none test ys (λ k d within. added k d (omega arith) within)
any_kept test (x ∷ xs) [] fewer each added = absurd (omega arith)
any_kept test (x ∷ xs) (y ∷ ys) fewer each added =
    ap₂ (λ (b c : Bool). b || c) (each 0 y (omega arith))
    (any_kept test xs ys (omega arith) (λ k d within. each (suc k) d (omega arith))
    (λ k d past within. added (suc k) d (omega arith) (omega arith)))

pub building_kept :
    (rules : List Kind) (stepping next_id : ℕ) (old new : List Actor) (p : CPos) →
    ActorsKeep rules stepping next_id old new → has_building rules new p ≡ has_building rules old p
building_kept rules stepping next_id old new p keeps =
    any_kept (stands_at rules p) old new keeps.least
    (λ k d within.
    stands_kept rules stepping p (get_or old k d) (get_or new k d) (keeps.each k d within))
    (λ k d past within.
    ap (λ b. b && same_cell (get_or new k d).cell p)
    (mover_is_none (kind_at rules (get_or new k d).kind) (keeps.added_moves k d past within)))

map_same :
    (f g : ℕ → Bool) (xs : List ℕ) → ((x : ℕ) → f x ≡ g x) → map f xs ≡ map g xs
map_same f g [] same = refl
map_same f g (x ∷ xs) same =
    ap₂ (λ (b : Bool) (bs : List Bool). b ∷ bs) (same x) (map_same f g xs same)

pub blocks_kept :
    (setup : Setup) (stepping next_id : ℕ) (old new : List Actor) →
    ActorsKeep setup.rules stepping next_id old new → blocks_of setup new ≡ blocks_of setup old
blocks_kept setup stepping next_id old new keeps =
    let grid : List Bool → Grid Bool =
    λ cells. record { width = setup.map.width; height = setup.map.height; cells = cells } in
    ap grid
    (map_same (λ place. has_building setup.rules new (cell_of setup.map.width place))
    (λ place. has_building setup.rules old (cell_of setup.map.width place))
    (range_with_len 0 (setup.map.width * setup.map.height))
    (λ place.
    building_kept setup.rules stepping next_id old new (cell_of setup.map.width place) keeps))

-- No part of a step changes the cells with a building.
pub reload_blocks :
    (setup : Setup) (least most draws : ℕ) (w : World) (id : ℕ) (a : Actor) →
    living_of w.actors id ≡ Some a → IsMidTurn setup least most draws w →
    blocks_of setup (with_reload w id).actors ≡ blocks_of setup w.actors
reload_blocks setup least most draws w id a found mid =
    blocks_kept setup id w.next_id w.actors (with_reload w id).actors
    (no_more setup.rules id w.next_id w.actors (with_reload w id).actors
    (reload_keeps setup least most draws w id a found mid))

pub build_blocks :
    (setup : Setup) (least most draws : ℕ) (w : World) (id : ℕ) (found : Option Actor) →
    living_of w.actors id ≡ found → IsMidTurn setup least most draws w →
    blocks_of setup (with_build setup w found).actors ≡ blocks_of setup w.actors
build_blocks setup least most draws w id found is mid =
    blocks_kept setup id w.next_id w.actors (with_build setup w found).actors
    (with_build_keeps setup least most draws w id found is mid)

pub way_blocks :
    (setup : Setup) (least most draws : ℕ) (w : World) (id : ℕ) (found : Option Actor) →
    living_of w.actors id ≡ found → IsMapFor setup.rules setup.map →
    IsMidTurn setup least most draws w →
    blocks_of setup (with_way setup w found).actors ≡ blocks_of setup w.actors
way_blocks setup least most draws w id found is map mid =
    blocks_kept setup id w.next_id w.actors (with_way setup w found).actors
    (no_more setup.rules id w.next_id w.actors (with_way setup w found).actors
    (way_keeps setup least most draws w id found is map mid))

-- No step of a turn changes the cells with a building.
pub step_blocks :
    (setup : Setup) (least most draws : ℕ) (w : World) (id : ℕ) → IsMapFor setup.rules setup.map →
    IsMidTurn setup least most draws w →
    blocks_of setup (after_step setup w id).actors ≡ blocks_of setup w.actors
step_blocks setup least most draws w id map mid =
    blocks_kept setup id w.next_id w.actors (after_step setup w id).actors
    (step_actors setup least most draws w id map mid)

pub steps_blocks :
    (setup : Setup) (least most draws : ℕ) (w : World) (ids : List ℕ) →
    IsMapFor setup.rules setup.map →
    IsMidTurn setup least most draws w →
    blocks_of setup (after_steps setup w ids).actors ≡ blocks_of setup w.actors
steps_blocks setup least most draws w [] map mid = refl
steps_blocks setup least most draws w (id ∷ ids) map mid =
    steps_blocks setup least most (draws + 1) (after_step setup w id) ids map
    (step_mid setup least most draws w id map mid)
    ∙ step_blocks setup least most draws w id map mid
