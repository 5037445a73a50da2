-- What is kept after a step, and a turn step by step.
use Rattle.std.proofs.Common.{◌≡◌, ◌≢◌, ℕ, zero, suc, cond, ◌+◌, ◌<◌, ◌≤◌, Bool, true, false, List, [], ◌∷◌, length, map, drop, get_or, Option, Some, None, inl, inr, refl, sym, ap, ap₂, subst, ◌∙◌, add-one, arith}
use Rattle.std.specs.Prelude.{◌==◌, ◌⊎◌, ◌-◌, ◌&&◌, if◌then◌else◌, is_some, nat_le, not, slice_get, slice_set, IfSome, IsSome}
use Rattle.std.specs.List.{All, AllPairs}
use Rattle.std.specs.Option.{option_map, unwrap_or}
use Rattle.std.proofs.lemmas.List.Elements.{All-head}
use Rattle.std.proofs.lemmas.Bool.{and_parts, or_right}
use Rattle.std.proofs.lemmas.Option.{get_or_from_slice_get}
use Rattle.std.proofs.lemmas.Bool.Decides.{eqb_tells}
use Rattle.world_units.specs.declared.cell.CPos.{CPos}
use Rattle.world_units.specs.Cells.{same_cell}
use Rattle.activities.specs.declared.activity.Activity.{Activity}
use Rattle.activities.specs.declared.activity.Activity.TheVariants.{Move, Attack, Harvest, Deliver}
use Rattle.rule_traits.specs.declared.kind.Kind.{Kind}
use Rattle.game_model.specs.ActorChanges.{changed_at}
use Rattle.game_model.specs.declared.actor.Actor.{Actor}
use Rattle.game_model.specs.declared.actor.Leg.{Leg}
use Rattle.game_model.specs.declared.limits.TheConstants.{MAX_ACTORS}
use Rattle.game_model.specs.declared.world.World.{World}
use Rattle.game_model.specs.Grid.{Grid, IsOn, place_of, with_cell}
use Rattle.game_model.specs.OreRows.{has_ore}
use Rattle.game_model.specs.Setup.{Setup}
use Rattle.game_model.specs.ValidMap.{IsSetup}
use Rattle.game_model.specs.ValidWorld.{IsActivityOf}
use Rattle.game_model.specs.Kinds.{capacity_in, load_delay_in, unload_delay_in, kind_of}
use Rattle.game_model.specs.World.{actor_of, clients_of, ids_of, is_alive, living_of}
use Rattle.game_tick.proofs.ActorsLemmas.{step_actors}
use Rattle.game_tick.specs.Building.{after_build}
use Rattle.game_tick.specs.Harvesting.{Harvested, after_deliver, after_harvest, after_search, is_beside, nearest_refinery, delivered_to}
use Rattle.game_tick.proofs.StepKeepsLemmas.{dead_stay, step_keeps, steps_keep}
use Rattle.game_tick.proofs.IdleLemmas.{idle_stays, living_changed}
use Rattle.game_tick.specs.Nearest.{nearest_ore, ore_at}
use Rattle.game_tick.specs.Turn.{after_first, after_step, after_steps, after_turn, after_way, blocks_of, buried, harvest_of, reloaded, with_build, with_reload, with_way}
use Rattle.game_tick.proofs.TurnLemmas.{length-ids_of, living_steps}
use Rattle.game_tick.proofs.SoundLemmas.{body_of}
use Rattle.game_model.proofs.FoundLemmas.{IdsRise}
use Rattle.game_model.proofs.LivingLemmas.{found_at, living_actor, living_found}
use Rattle.sync_hash.specs.declared.actor_number.ActorNumber.{ActorNumber}
use Rattle.sync_hash.specs.Kept.{IsKeptOf, Kept, cell_number, cell_numbers, numbered}
use Rattle.sync_hash.proofs.KeptLemmas.{ore_numbered}
use Rattle.tick_core.specs.Live.{Standing}
use Rattle.tick_core.specs.Scene.{HasNoBuilds, IsActing, IsLoaded, prepared, prepared_if}
use Rattle.actor_table.specs.Idle.{IsIdle}
use Rattle.actor_table.specs.Table.{Table, IsTable}
use Rattle.tick_core.specs.Telling.{IsKeptButIf, IsKeptIf, IsSizedIf, IsToldIf, cell_in, cell_of, target_of, told_ore, told_ore_if, with_some}
use Rattle.tick_core.specs.Touched.{GrowsBut, KeptBut, SameBut, is_among}
use Rattle.tick_core.specs.Waiting.{IsWaiting}
use Rattle.tick_core.proofs.ChoiceLemmas.{by_if}
use Rattle.tick_core.proofs.SceneLemmas.{with_list}
use Rattle.tick_core.proofs.StepLemmas.{prepared_same, step_is, way_same}
use Rattle.tick_core.proofs.TickLemmas.{drop_at, drop_past, the_standing}
use Rattle.tick_core.proofs.TouchedLemmas.{grows_then, kept_from, same_all, same_grows}
use Rattle.tick_core.proofs.WaitingLemmas.{loaded_same, unchanged, waiting_same, way_next}

-- The parts of a step and what they leave.
build_drawn : (setup : Setup) (w : World) (found : Option Actor) → (with_build setup w found).drawn ≡ w.drawn
build_drawn setup w None = refl
build_drawn setup w (Some a) = refl

build_ore : (setup : Setup) (w : World) (found : Option Actor) → (with_build setup w found).ore ≡ w.ore
build_ore setup w None = refl
build_ore setup w (Some a) = refl

prepared_drawn_by :
    (setup : Setup) (w : World) (id : ℕ) (found : Option Actor) → (prepared_if setup w id found).drawn ≡ w.drawn
prepared_drawn_by setup w id None = refl
prepared_drawn_by setup w id (Some a) =
    build_drawn setup (with_reload w id) (living_of (with_reload w id).actors id)

prepared_ore_by :
    (setup : Setup) (w : World) (id : ℕ) (found : Option Actor) → (prepared_if setup w id found).ore ≡ w.ore
prepared_ore_by setup w id None = refl
prepared_ore_by setup w id (Some a) =
    build_ore setup (with_reload w id) (living_of (with_reload w id).actors id)

-- The parts that change nothing may be left out.
no_build : (setup : Setup) (w : World) (a : Actor) → HasNoBuilds a → with_build setup w (Some a) ≡ w
unfolding after_build
no_build setup w a none = rw none refl

abbrev reload_where : Bool → World → (id : ℕ) → World
reload_where reloads w id = if reloads then with_reload w id else w

abbrev build_where : Bool → Setup → World → (id : ℕ) → World
build_where builds setup w id = if builds then with_build setup w (living_of w.actors id) else w

reload_part :
    (w : World) (id : ℕ) (a : Actor) (reloads : Bool) → IdsRise w.actors → living_of w.actors id ≡ Some a →
    (reloads ≡ false → IsLoaded a) → reload_where reloads w id ≡ with_reload w id
reload_part w id a true rise found loaded = refl
reload_part w id a false rise found loaded =
    sym (ap (with_list w) (unchanged w.actors id a reloaded rise (living_actor w.actors id a rise found) (loaded_same a (loaded refl))))

build_part :
    (setup : Setup) (w : World) (id : ℕ) (a : Actor) (builds : Bool) → living_of w.actors id ≡ Some a →
    (builds ≡ false → HasNoBuilds a) → build_where builds setup w id ≡ with_build setup w (living_of w.actors id)
build_part setup w id a true found none = refl
build_part setup w id a false found none =
    sym (ap (with_build setup w) found ∙ no_build setup w a (none refl))

parts_by :
    (setup : Setup) (w : World) (id : ℕ) (found : Option Actor) (reloads builds : Bool) → living_of w.actors id ≡ found →
    IdsRise w.actors → (reloads ≡ true → IsSome found) → (reloads ≡ false → IfSome found IsLoaded) →
    (builds ≡ false → IfSome found HasNoBuilds) →
    build_where builds setup (reload_where reloads w id) id ≡ prepared_if setup w id found
parts_by setup w id None true builds found rise lives loaded none =
    absurd (let never : false ≡ true = lives refl in cc)
parts_by setup w id None false builds found rise lives loaded none =
    by_if (λ (v : World). v ≡ w) builds _ w (ap (with_build setup w) found) refl
parts_by setup w id (Some a) reloads builds found rise lives loaded none =
    let next : living_of (with_reload w id).actors id ≡ Some (reloaded a) =
    living_changed w.actors id reloaded (λ x. refl) (λ x. refl) ∙ ap (option_map reloaded) found in
    ap (λ v. build_where builds setup v id) (reload_part w id a reloads rise found loaded)
    ∙ build_part setup (with_reload w id) id (reloaded a) builds next none

pub prepared_whole :
    (s mid new : Standing) (id : ℕ) (reloads builds : Bool) →
    mid ≡ record s { world = if reloads then with_reload s.world id else s.world } →
    new ≡ record mid { world = if builds then with_build mid.setup mid.world (living_of mid.world.actors id) else mid.world } →
    IdsRise s.world.actors → (reloads ≡ true → IsSome (living_of s.world.actors id)) →
    (reloads ≡ false → IfSome (living_of s.world.actors id) IsLoaded) →
    (builds ≡ false → IfSome (living_of s.world.actors id) HasNoBuilds) →
    new ≡ record s { world = prepared s.setup s.world id }
prepared_whole s mid new id reloads builds mid_is new_is rise lives loaded none =
    new_is ∙ ap (λ (x : Standing). the_standing x.setup (build_where builds x.setup x.world id)) mid_is
    ∙ ap (the_standing s.setup) (parts_by s.setup s.world id (living_of s.world.actors id) reloads builds refl rise lives loaded none)

-- Ids that are among others.
among_first : (id : ℕ) (ids : List ℕ) → is_among (id ∷ ids) id ≡ true
among_first id ids = elim (eqb_tells id id) [
  | inl here ↦ rw here.0 refl
  | inr there ↦ absurd (there.1 refl)
]

among_some : (some : Option ℕ) (ids : List ℕ) (id : ℕ) → is_among ids id ≡ true → is_among (with_some some ids) id ≡ true
among_some None ids id among = among
among_some (Some i) ids id among = or_right (id == i) (is_among ids id) among

differ : (m n : ℕ) → n ≢ m → (m == n) ≡ false
differ m n other = elim (eqb_tells m n) [
  | inl here ↦ absurd (other (sym here.1))
  | inr there ↦ there.0
]

-- The actors that were there are at the same places after the first two parts.
grown_at :
    (ids : List ℕ) (old new : List Actor) (i id : ℕ) → GrowsBut ids old new → slice_get (ids_of old) i ≡ Some id →
    slice_get (ids_of new) i ≡ Some id
grown_at ids [] new i id grows at = absurd cc
grown_at ids (a ∷ old) [] i id grows at = absurd grows
grown_at ids (a ∷ old) (b ∷ new) zero id grows at = ap Some grows.0 ∙ at
grown_at ids (a ∷ old) (b ∷ new) (suc i) id grows at = grown_at ids old new i id grows.2 at

pub prepared_at :
    (s p : Standing) (i id : ℕ) → p ≡ record s { world = prepared s.setup s.world id } →
    slice_get (ids_of s.world.actors) i ≡ Some id → slice_get (ids_of p.world.actors) i ≡ Some id
prepared_at s p i id is at =
    let ids : List ℕ = id ∷ s.world.next_id ∷ [] in
    rw is (grown_at ids s.world.actors (prepared s.setup s.world id).actors i id
    (prepared_same ids s.setup s.world id (among_first id (s.world.next_id ∷ []))
    (λ other. or_right (s.world.next_id == id) (is_among (s.world.next_id ∷ []) s.world.next_id) (among_first s.world.next_id []))) at)

moved_grows :
    (setup : Setup) (w p n : World) (id : ℕ) (target added : Option ℕ) →
    p ≡ prepared setup w id → n ≡ with_way setup p (living_of p.actors id) →
    target ≡ (if w.drawn == n.drawn then None else target_of (living_of p.actors id)) →
    added ≡ (if w.next_id == n.next_id then None else Some w.next_id) →
    GrowsBut (id ∷ with_some target (with_some added [])) w.actors n.actors
moved_grows setup w p n id target added p_is n_is target_is added_is =
    let ids : List ℕ = id ∷ with_some target (with_some added []) in
    let drawn : p.drawn ≡ w.drawn = ap (λ (v : World). v.drawn) p_is ∙ prepared_drawn_by setup w id (living_of w.actors id) in
    let next : n.next_id ≡ p.next_id = ap (λ (v : World). v.next_id) n_is ∙ way_next setup p (living_of p.actors id) in
    let grows = prepared_same ids setup w id (among_first id _) (λ other. new_among (λ is. other (ap (λ (v : World). v.next_id) (sym p_is) ∙ sym next ∙ is))) in
    let same = way_same ids setup p id (living_of p.actors id) refl (among_first id _)
    (λ t is drew. hit_among t is (λ none. drew (ap (λ (v : World). v.drawn) (sym n_is) ∙ none ∙ sym drawn))) in
    grows_then ids w.actors p.actors n.actors (subst (λ (v : World). GrowsBut ids w.actors v.actors) (sym p_is) grows)
    (subst (λ (v : World). SameBut ids p.actors v.actors) (sym n_is) same)
  where
    new_among : n.next_id ≢ w.next_id → is_among (id ∷ with_some target (with_some added [])) w.next_id ≡ true
    new_among other =
        let is : added ≡ Some w.next_id = rw (differ w.next_id n.next_id other) at added_is in
        or_right (w.next_id == id) _ (among_some target (with_some added []) w.next_id
        (subst (λ o. is_among (with_some o []) w.next_id ≡ true) (sym is) (among_first w.next_id [])))

    hit_among :
        (t : ℕ) → target_of (living_of p.actors id) ≡ Some t → n.drawn ≢ w.drawn →
        is_among (id ∷ with_some target (with_some added [])) t ≡ true
    hit_among t aimed other =
        let is : target ≡ Some t = (rw (differ w.drawn n.drawn other) at target_is) ∙ aimed in
        or_right (t == id) _ (subst (λ o. is_among (with_some o (with_some added [])) t ≡ true) (sym is) (among_first t (with_some added [])))

no_more : (added : Option ℕ) → not (is_some added) ≡ true → added ≡ None
no_more None is = refl
no_more (Some id) is = absurd (let never : false ≡ true = is in cc)

-- A step leaves all actors as they are but those of which the hasher is told.
pub busy_grows :
    (setup : Setup) (w p n : World) (id : ℕ) (waited : Bool) (stepped target added : Option ℕ) → IdsRise w.actors →
    (waited ≡ true → IfSome (living_of w.actors id) IsWaiting) →
    p ≡ prepared setup w id → n ≡ with_way setup p (living_of p.actors id) →
    target ≡ (if w.drawn == n.drawn then None else target_of (living_of p.actors id)) →
    added ≡ (if w.next_id == n.next_id then None else Some w.next_id) →
    stepped ≡ (if waited && not (is_some added) then None else Some id) →
    GrowsBut (with_some stepped (with_some target (with_some added []))) w.actors n.actors
busy_grows setup w p n id waited stepped target added rise waits p_is n_is target_is added_is stepped_is =
    by_stay (waited && not (is_some added)) refl
  where
    by_stay :
        (stays : Bool) → (waited && not (is_some added)) ≡ stays →
        GrowsBut (with_some stepped (with_some target (with_some added []))) w.actors n.actors
    by_stay false is =
        let one : stepped ≡ Some id = stepped_is ∙ ap (λ b. if b then None else Some id) is in
        subst (λ o. GrowsBut (with_some o (with_some target (with_some added []))) w.actors n.actors) (sym one)
        (moved_grows setup w p n id target added p_is n_is target_is added_is)
    by_stay true is =
        let both = and_parts waited (not (is_some added)) is in
        let none : added ≡ None = no_more added both.1 in
        let next : n.next_id ≡ w.next_id =
        elim (eqb_tells w.next_id n.next_id) [
          | inl here ↦ sym here.1
          | inr there ↦
              let more : added ≡ Some w.next_id = rw there.0 at added_is in
              absurd (let never : None ≡ Some w.next_id = sym none ∙ more in cc)
        ] in
        subst (λ l. GrowsBut (with_some stepped (with_some target (with_some added []))) w.actors l)
        (sym (waiting_same setup w p n id rise (waits both.0) p_is n_is next))
        (same_grows _ w.actors w.actors (same_all _ w.actors))

-- The ore is the same, or that of the cell has changed.
abbrev pub OreChange : (old new : Grid ℕ) → Option CPos → Type 0
OreChange old new cell =
    (new ≡ old) ⊎ ((p : CPos) × (amount : ℕ) × (cell ≡ Some p) × (new ≡ with_cell old p amount))

abbrev Bales : Grid ℕ → CPos → Harvested → Type 0
Bales old cell h = OreChange old h.ore (Some cell)

harvest_ore :
    (setup : Setup) (built : Grid Bool) (before : Harvested) (a : Actor) (cell : CPos) (timer waits : ℕ) →
    Bales before.ore cell (after_harvest setup built before a cell timer waits)
unfolding after_harvest
harvest_ore setup built before a cell timer waits =
    by_if (Bales before.ore cell) (nat_le (capacity_in (kind_of setup.rules a.kind).harvester) a.body.load) _ _ (inl refl)
    (by_if (Bales before.ore cell) (not (has_ore (ore_at before.ore cell))) _ _
    (searched (nearest_ore before.ore a.cell))
    (by_if (Bales before.ore cell) (same_cell a.cell cell) _ _
    (by_if (Bales before.ore cell) (nat_le (load_delay_in (kind_of setup.rules a.kind).harvester) (timer + 1)) _ _
    (inr (cell, ore_at before.ore cell - 1, refl, refl)) (inl refl))
    (inl refl)))
  where
    searched : (found : Option CPos) → Bales before.ore cell (after_search before a cell found)
    searched None = inl refl
    searched (Some nearest) = inl refl

abbrev SameBales : Grid ℕ → Harvested → Type 0
SameBales old h = h.ore ≡ old

deliver_ore :
    (setup : Setup) (built : Grid Bool) (before : Harvested) (a : Actor) (home : CPos) (timer waits : ℕ) →
    SameBales before.ore (after_deliver setup built before a home timer waits)
unfolding after_deliver
deliver_ore setup built before a home timer waits =
    by_if (SameBales before.ore) (a.body.load == 0) _ _ refl (brought (nearest_refinery setup.rules before.actors a)) where
      brought : (found : Option Actor) → SameBales before.ore (delivered_to setup built before a home timer waits found)
      brought None = refl
      brought (Some refinery) =
          by_if (SameBales before.ore) (is_beside a.cell refinery.cell) _ _
          (by_if (SameBales before.ore) (nat_le (unload_delay_in (kind_of setup.rules a.kind).harvester) (timer + 1)) _ _ refl refl) refl

pub way_ore :
    (setup : Setup) (w : World) (found : Option Actor) → OreChange w.ore (with_way setup w found).ore (cell_of found)
way_ore setup w None = inl refl
way_ore setup w (Some a) = legged a.body.leg where
  first : (acts : List Activity) → OreChange w.ore (after_first setup w a acts).ore (cell_in acts)
  first [] = inl refl
  first (Move goal waits ∷ later) = inl refl
  first (Attack target waits ∷ later) = inl refl
  first (Harvest cell timer waits ∷ later) = harvest_ore setup (blocks_of setup w.actors) (harvest_of w) a cell timer waits
  first (Deliver home timer waits ∷ later) = inl (deliver_ore setup (blocks_of setup w.actors) (harvest_of w) a home timer waits)

  legged : (leg : Option Leg) → OreChange w.ore (after_way setup w a leg).ore (cell_in a.body.acts)
  legged None = first a.body.acts
  legged (Some leg) = inl refl

-- The ids stay at their places.
pub ids_stay :
    (old new : List Actor) (k : ℕ) → length old ≤ length new →
    ((i : ℕ) (d : Actor) → i < length old → (get_or new i d).id ≡ (get_or old i d).id) → k < length old →
    slice_get (ids_of new) k ≡ slice_get (ids_of old) k
ids_stay [] new k fewer each within = absurd (omega arith)
ids_stay (a ∷ old) [] k fewer each within = absurd (omega arith)
ids_stay (a ∷ old) (b ∷ new) zero fewer each within = ap Some (each 0 a (omega arith))
ids_stay (a ∷ old) (b ∷ new) (suc k) fewer each within =
    ids_stay old new k (omega arith) (λ i d inside. each (suc i) d (omega arith)) (omega arith)

-- The first actors have made their steps.
pub record SteppedSoFar (start now : Standing) (i : ℕ) : Type 0 where
  pub setup : now.setup ≡ start.setup
  pub rest :
      after_steps now.setup now.world (drop i (ids_of start.world.actors))
      ≡ after_steps now.setup start.world (ids_of start.world.actors)
  pub more : length start.world.actors ≤ length now.world.actors
  pub ids :
      (k : ℕ) → k < length start.world.actors →
      slice_get (ids_of now.world.actors) k ≡ slice_get (ids_of start.world.actors) k
  pub drawn : now.world.drawn ≤ start.world.drawn + i

pub stepped_next :
    (start now new : Standing) (i id : ℕ) → i < length start.world.actors →
    slice_get (ids_of now.world.actors) i ≡ Some id → IsSetup now.setup → IsActing now.setup now.world →
    new ≡ record now { world = after_step now.setup now.world id } → SteppedSoFar start now i →
    SteppedSoFar start new (i + 1)
stepped_next start now new i id within at stands acting is far =
    let w : World = now.world in
    let keep = step_actors now.setup 0 w.tick w.drawn w id stands.map acting in
    let here : slice_get (ids_of start.world.actors) i ≡ Some id = sym (far.ids i within) ∙ at in
    let draws = (step_keeps now.setup w id).drawn_most in
    rw is (record {
      setup = far.setup;
      rest = rest_by (drop_at (ids_of start.world.actors) i id here);
      more = omega (arith, far.more, keep.least);
      ids =
          λ k inside.
          ids_stay w.actors (after_step now.setup w id).actors k keep.least (λ j d below. (keep.each j d below).id) (omega (arith, inside, far.more)) ∙ far.ids k inside;
      drawn = omega (arith, far.drawn, draws);
    })
  where
    rest_by :
        drop i (ids_of start.world.actors) ≡ id ∷ drop (suc i) (ids_of start.world.actors) →
        after_steps now.setup (after_step now.setup now.world id) (drop (i + 1) (ids_of start.world.actors))
        ≡ after_steps now.setup start.world (ids_of start.world.actors)
    rest_by split =
        ap (λ n. after_steps now.setup (after_step now.setup now.world id) (drop n (ids_of start.world.actors))) (add-one i)
        ∙ sym (ap (after_steps now.setup now.world) split) ∙ far.rest

pub stepped_all :
    (start now : Standing) (i : ℕ) → length start.world.actors ≤ i → SteppedSoFar start now i →
    now ≡ record start { world = after_steps start.setup start.world (ids_of start.world.actors) }
stepped_all start now i past far =
    let none : length (ids_of start.world.actors) ≤ i = omega (arith, length-ids_of start.world.actors, past) in
    ap₂ the_standing far.setup
    (sym (ap (after_steps now.setup now.world) (drop_past (ids_of start.world.actors) i none)) ∙ far.rest
    ∙ ap (λ s. after_steps s start.world (ids_of start.world.actors)) far.setup)

-- A turn draws at most once for each actor.
pub turn_drawn :
    (setup : Setup) (w : World) → length w.actors ≤ MAX_ACTORS → (after_turn setup w).drawn ≤ w.drawn + MAX_ACTORS
unfolding after_turn
turn_drawn setup w few =
    let most = (steps_keep setup w (ids_of w.actors)).drawn_most in
    omega (arith, most, length-ids_of w.actors, few)

pub busy_grows_by :
    (setup : Setup) (w p n : World) (id : ℕ) (waited : Bool) (stepped target added aim : Option ℕ) (d0 d1 n0 n1 f0 f1 : ℕ) →
    IdsRise w.actors → (waited ≡ true → IfSome (living_of w.actors id) IsWaiting) →
    p ≡ prepared setup w id → n ≡ with_way setup p (living_of p.actors id) →
    d0 ≡ w.drawn → d1 ≡ n.drawn → n0 ≡ w.next_id → n1 ≡ n.next_id → f0 ≡ n0 → f1 ≡ n1 →
    aim ≡ target_of (living_of p.actors id) → target ≡ (if d0 == d1 then None else aim) →
    added ≡ (if f0 == f1 then None else Some n0) →
    stepped ≡ (if waited && not (is_some added) then None else Some id) →
    GrowsBut (with_some stepped (with_some target (with_some added []))) w.actors n.actors
busy_grows_by setup w p n id waited stepped target added aim d0 d1 n0 n1 f0 f1 rise waits p_is n_is d0_is d1_is n0_is n1_is f0_is f1_is aim_is target_is added_is =
    busy_grows setup w p n id waited stepped target added rise waits p_is n_is
    (target_is ∙ ap (λ d. if d == d1 then None else aim) d0_is ∙ ap (λ d. if w.drawn == d then None else aim) d1_is
    ∙ ap (λ o. if w.drawn == n.drawn then None else o) aim_is)
    (added_is ∙ ap (λ f. if f == f1 then None else Some n0) (f0_is ∙ n0_is) ∙ ap (λ f. if w.next_id == f then None else Some n0) (f1_is ∙ n1_is)
    ∙ ap (λ m. if w.next_id == n.next_id then None else Some m) n0_is)

-- So the numbers of all others are right.
pub grown_told :
    (ids : List ℕ) (old new : List Actor) (kept : List ActorNumber) → kept ≡ map numbered old → GrowsBut ids old new →
    KeptBut ids kept new
grown_told ids old new kept is grows = subst (λ k. KeptBut ids k new) (sym is) (kept_from ids old new grows)

pub grown_told_if :
    (ids : List ℕ) (old new : List Actor) (ore : Grid ℕ) (kept : Option Kept) → IsKeptIf kept old ore → GrowsBut ids old new →
    IsKeptButIf ids kept new
grown_told_if ids old new ore None is grows = tt
grown_told_if ids old new ore (Some kept) is grows = grown_told ids old new kept.actors is.numbers grows

pub way_is :
    (s p n : Standing) (id : ℕ) → p ≡ record s { world = prepared s.setup s.world id } →
    n ≡ record p { world = with_way p.setup p.world (living_of p.world.actors id) } →
    n.world ≡ with_way s.setup p.world (living_of p.world.actors id)
way_is s p n id p_is n_is =
    ap (λ (x : Standing). x.world) n_is
    ∙ ap (λ u. with_way u p.world (living_of p.world.actors id)) (ap (λ (x : Standing). x.setup) p_is)

pub step_whole :
    (s p n : Standing) (id : ℕ) → p ≡ record s { world = prepared s.setup s.world id } →
    n ≡ record p { world = with_way p.setup p.world (living_of p.world.actors id) } →
    n ≡ record s { world = after_step s.setup s.world id }
step_whole s p n id p_is n_is =
    n_is ∙ ap (λ (x : Standing). the_standing x.setup (with_way x.setup x.world (living_of x.world.actors id))) p_is
    ∙ ap (the_standing s.setup) (step_is s.setup s.world id)

-- The cell of a Harvest is on the map.
cell_by :
    (setup : Setup) (kind : Kind) (acts : List Activity) → All (IsActivityOf setup.map kind) acts →
    IfSome (cell_in acts) (IsOn setup.map.width setup.map.height)
cell_by setup kind [] all = tt
cell_by setup kind (Move goal waits ∷ later) all = tt
cell_by setup kind (Attack target waits ∷ later) all = tt
cell_by setup kind (Harvest cell timer waits ∷ later) all =
    (All-head (IsActivityOf setup.map kind) (Harvest cell timer waits) later all).1.on_map
cell_by setup kind (Deliver home timer waits ∷ later) all = tt

cell_found :
    (setup : Setup) (p : World) (id : ℕ) (found : Option Actor) → living_of p.actors id ≡ found → IsActing setup p →
    IfSome (cell_of found) (IsOn setup.map.width setup.map.height)
cell_found setup p id None found acting = tt
cell_found setup p id (Some a) found acting =
    let steps = living_steps setup 0 p.tick p.drawn p id a acting found in
    cell_by setup (kind_of setup.rules a.kind) a.body.acts (body_of setup (clients_of p) p.next_id a steps.sound).acts

pub cell_on :
    (setup : Setup) (p n : World) (id : ℕ) (cell : Option CPos) → IsActing setup p → IsActing setup n →
    cell ≡ cell_of (living_of p.actors id) → IfSome cell (IsOn n.ore.width n.ore.height)
cell_on setup p n id cell acting after is =
    rw (is, after.ore.size.width, after.ore.size.height) (cell_found setup p id (living_of p.actors id) refl acting)

-- What is kept after a step.
set_back : (xs : List ℕ) (k : ℕ) → slice_set xs k (unwrap_or (slice_get xs k) 0) ≡ xs
set_back [] zero = refl
set_back [] (suc k) = refl
set_back (x ∷ xs) zero = refl
set_back (x ∷ xs) (suc k) = ap (λ l. x ∷ l) (set_back xs k)

set_again :
    (xs : List ℕ) (k v : ℕ) → slice_set xs k (unwrap_or (slice_get (slice_set xs k v) k) 0) ≡ slice_set xs k v
set_again [] zero v = refl
set_again [] (suc k) v = refl
set_again (x ∷ xs) zero v = refl
set_again (x ∷ xs) (suc k) v = ap (λ l. x ∷ l) (set_again xs k v)

cells_set :
    (old new : Grid ℕ) (q : CPos) → OreChange old new (Some q) →
    slice_set old.cells (place_of old.width q) (ore_at new q) ≡ new.cells
cells_set old new q (inl is) =
    ap (λ (g : Grid ℕ). slice_set old.cells (place_of old.width q) (ore_at g q)) is
    ∙ set_back old.cells (place_of old.width q) ∙ ap (λ (g : Grid ℕ). g.cells) (sym is)
cells_set old new q (inr (p, amount, same, is)) =
    let here : q ≡ p = cc in
    ap (λ (g : Grid ℕ). slice_set old.cells (place_of old.width q) (ore_at g q)) is
    ∙ ap (λ (x : CPos). slice_set old.cells (place_of old.width x) (ore_at (with_cell old p amount) x)) here
    ∙ set_again old.cells (place_of old.width p) amount ∙ ap (λ (g : Grid ℕ). g.cells) (sym is)

ore_width : (old new : Grid ℕ) (cell : Option CPos) → OreChange old new cell → new.width ≡ old.width
ore_width old new cell (inl is) = ap (λ (g : Grid ℕ). g.width) is
ore_width old new cell (inr (p, amount, same, is)) = ap (λ (g : Grid ℕ). g.width) is

ore_height : (old new : Grid ℕ) (cell : Option CPos) → OreChange old new cell → new.height ≡ old.height
ore_height old new cell (inl is) = ap (λ (g : Grid ℕ). g.height) is
ore_height old new cell (inr (p, amount, same, is)) = ap (λ (g : Grid ℕ). g.height) is

kept_told :
    (mid : Kept) (actors : List Actor) (old new : Grid ℕ) (cell : Option CPos) → mid.width ≡ old.width →
    mid.height ≡ old.height → mid.actors ≡ map numbered actors → mid.cells ≡ cell_numbers old.width 0 old.cells →
    OreChange old new cell → IfSome cell (IsOn new.width new.height) → IsKeptOf (told_ore mid new cell) actors new
kept_told mid actors old new None wide high numbers cells (inl is) on =
    rw is (record { width = wide; height = high; numbers = numbers; cells = cells })
kept_told mid actors old new None wide high numbers cells (inr (p, amount, same, is)) on =
    absurd (let no : None ≡ Some p = same in cc)
kept_told mid actors old new (Some q) wide high numbers cells change on =
    let width : new.width ≡ old.width = ore_width old new (Some q) change in
    record {
      width = wide ∙ sym width;
      height = high ∙ sym (ore_height old new (Some q) change);
      numbers = numbers;
      cells =
          ap₂ (λ (n : ℕ) (l : List ℕ). slice_set l (place_of n q) (cell_number q (ore_at new q))) wide cells
          ∙ ore_numbered old.width old.cells q (ore_at new q) (subst (λ n. q.x < n) width on.column)
          ∙ ap (cell_numbers old.width 0) (cells_set old new q change) ∙ ap (λ n. cell_numbers n 0 new.cells) (sym width);
    }

-- How far a step changes the ore.
way_change :
    (setup : Setup) (w p n : World) (id : ℕ) → p ≡ prepared setup w id →
    n ≡ with_way setup p (living_of p.actors id) → OreChange w.ore n.ore (cell_of (living_of p.actors id))
way_change setup w p n id p_is n_is =
    let found : Option Actor = living_of p.actors id in
    let ore : p.ore ≡ w.ore = ap (λ (v : World). v.ore) p_is ∙ prepared_ore_by setup w id (living_of w.actors id) in
    subst (λ g. OreChange g n.ore (cell_of found)) ore
    (subst (λ (v : World). OreChange p.ore v.ore (cell_of found)) (sym n_is) (way_ore setup p found))

-- What is kept after a step.
pub busy_kept :
    (setup : Setup) (w p n : World) (id : ℕ) (kept mid new : Kept) (cell : Option CPos) →
    p ≡ prepared setup w id → n ≡ with_way setup p (living_of p.actors id) → cell ≡ cell_of (living_of p.actors id) →
    IsKeptOf kept w.actors w.ore → mid.actors ≡ map numbered n.actors → mid.cells ≡ kept.cells →
    mid.width ≡ kept.width → mid.height ≡ kept.height → new ≡ told_ore mid n.ore cell →
    IfSome cell (IsOn n.ore.width n.ore.height) → IsKeptOf new n.actors n.ore
busy_kept setup w p n id kept mid new cell p_is n_is cell_is is numbers cells wide high told on =
    let change : OreChange w.ore n.ore cell =
    subst (λ c. OreChange w.ore n.ore c) (sym cell_is) (way_change setup w p n id p_is n_is) in
    subst (λ (k : Kept). IsKeptOf k n.actors n.ore) (sym told)
    (kept_told mid n.actors w.ore n.ore cell (wide ∙ is.width) (high ∙ is.height) numbers (cells ∙ is.cells) change on)

-- The same, where something is kept.
pub busy_kept_if :
    (setup : Setup) (w p n : World) (id : ℕ) (kept mid new : Option Kept) (cell : Option CPos) →
    p ≡ prepared setup w id → n ≡ with_way setup p (living_of p.actors id) → cell ≡ cell_of (living_of p.actors id) →
    IsKeptIf kept w.actors w.ore → IsToldIf kept mid n.actors → new ≡ told_ore_if mid n.ore cell →
    IfSome cell (IsOn n.ore.width n.ore.height) → IsKeptIf new n.actors n.ore
busy_kept_if setup w p n id None None new cell p_is n_is cell_is is told ore on =
    subst (λ k. IsKeptIf k n.actors n.ore) (sym ore) tt
busy_kept_if setup w p n id None (Some mid) new cell p_is n_is cell_is is told ore on = absurd told
busy_kept_if setup w p n id (Some kept) None new cell p_is n_is cell_is is told ore on = absurd told
busy_kept_if setup w p n id (Some kept) (Some mid) new cell p_is n_is cell_is is told ore on =
    subst (λ k. IsKeptIf k n.actors n.ore) (sym ore)
    (busy_kept setup w p n id kept mid (told_ore mid n.ore cell) cell p_is n_is cell_is is told.numbers told.cells told.width told.height refl on)

-- What is kept, if anything is, has the size of the ore, also after the telling of actors.
pub told_size :
    (setup : Setup) (w p n : World) (id : ℕ) (kept mid : Option Kept) → p ≡ prepared setup w id →
    n ≡ with_way setup p (living_of p.actors id) → IsKeptIf kept w.actors w.ore → IsToldIf kept mid n.actors →
    IsSizedIf mid n.ore
told_size setup w p n id None None p_is n_is is told = tt
told_size setup w p n id None (Some mid) p_is n_is is told = absurd told
told_size setup w p n id (Some kept) None p_is n_is is told = absurd told
told_size setup w p n id (Some kept) (Some mid) p_is n_is is told =
    let change = way_change setup w p n id p_is n_is in
    let cell : Option CPos = cell_of (living_of p.actors id) in (
      told.width ∙ is.width ∙ sym (ore_width w.ore n.ore cell change),
      told.height ∙ is.height ∙ sym (ore_height w.ore n.ore cell change),
    )

-- Who has nothing to do stays.
pub not_reloading :
    (t : Table) (id : ℕ) (a : Actor) → IsTable t → Some a ≡ actor_of t.actors id → a.body.reload ≡ 0 →
    t ≡ record t { actors = changed_at t.actors id reloaded }
not_reloading t id a valid found none =
    ap (λ xs. record { width = t.width; height = t.height; actors = xs })
    (sym (unchanged t.actors id a reloaded valid.rise (sym found) (loaded_same a none)))

idle_by :
    (s : Standing) (id : ℕ) (found : Option Actor) → living_of s.world.actors id ≡ found →
    AllPairs (λ (x y : Actor). x.id < y.id) s.world.actors → IfSome found IsIdle →
    s ≡ record s { world = after_step s.setup s.world id }
idle_by s id None found rise idle = ap (the_standing s.setup) (sym (dead_stay s.setup s.world id found))
idle_by s id (Some a) found rise idle =
    let list : changed_at s.world.actors id reloaded ≡ s.world.actors =
    unchanged s.world.actors id a reloaded rise (living_actor s.world.actors id a rise found) (loaded_same a idle.reload) in
    let stays : after_step s.setup s.world id ≡ with_reload s.world id =
    idle_stays s.setup s.world id a found (record { acts = idle.acts; leg = idle.leg; builds = idle.builds }) in
    ap (the_standing s.setup) (sym (stays ∙ ap (with_list s.world) list))

pub idle_whole :
    (s : Standing) (id : ℕ) → IsActing s.setup s.world → IfSome (living_of s.world.actors id) IsIdle →
    s ≡ record s { world = after_step s.setup s.world id }
idle_whole s id acting idle = idle_by s id (living_of s.world.actors id) refl acting.actors.ready.rise idle

-- Where nothing stands the list has ended.
pub within_of : {A : Type 0} (xs : List A) (i : ℕ) (x : A) → slice_get xs i ≡ Some x → i < length xs
within_of [] i x at = absurd cc
within_of (y ∷ xs) zero x at = omega arith
within_of (y ∷ xs) (suc i) x at = let more = within_of xs i x at in omega (arith, more)

pub id_at : (actors : List Actor) (i id : ℕ) (a : Actor) → slice_get (ids_of actors) i ≡ Some id → slice_get actors i ≡ Some a → a.id ≡ id
id_at [] i id a at there = absurd cc
id_at (b ∷ actors) zero id a at there = let same : b ≡ a = cc in let named : b.id ≡ id = cc in ap (λ (x : Actor). x.id) (sym same) ∙ named
id_at (b ∷ actors) (suc i) id a at there = id_at actors i id a at there

pub nobody_at : {P : Type 0} (actors : List Actor) (i id : ℕ) → slice_get (ids_of actors) i ≡ Some id → slice_get actors i ≡ None → P
nobody_at [] i id at none = absurd cc
nobody_at (b ∷ actors) zero id at none = absurd cc
nobody_at (b ∷ actors) (suc i) id at none = nobody_at actors i id at none

pub is_not : (b : Bool) → not b ≡ false → b ≡ true
is_not true denied = refl
is_not false denied = absurd cc

-- The actor at a place, whose id it is, is the one of the id.
pub near_found :
    (actors : List Actor) (i id : ℕ) (a : Actor) → IdsRise actors → slice_get actors i ≡ Some a → a.id ≡ id →
    Some a ≡ actor_of actors id
near_found actors i id a rise there named =
    sym (subst (λ n. actor_of actors n ≡ Some a) named
    (subst (λ (x : Actor). actor_of actors x.id ≡ Some x) (get_or_from_slice_get actors i a a there)
    (found_at actors i a rise (within_of actors i a there))))

-- The actor at the place of an id is the living one of the id, if it lives.
pub living_there :
    (actors : List Actor) (i id : ℕ) (a : Actor) → IdsRise actors → slice_get (ids_of actors) i ≡ Some id → slice_get actors i ≡ Some a →
    living_of actors id ≡ cond (is_alive a) (Some a) None
living_there actors i id a rise at there =
    living_found actors id a rise (near_found actors i id a rise there (id_at actors i id a at there))

idle_at :
    (actors : List Actor) (i id : ℕ) (a : Actor) → IdsRise actors → slice_get (ids_of actors) i ≡ Some id → slice_get actors i ≡ Some a →
    IsIdle a → IfSome (living_of actors id) IsIdle
idle_at actors i id a rise at there idle =
    rw (living_there actors i id a rise at there) (by_if (λ found. IfSome found IsIdle) (is_alive a) (Some a) None idle tt)

-- So where it is known that the one at the place is idle.
pub idle_marked :
    (actors : List Actor) (i id : ℕ) → IdsRise actors → slice_get (ids_of actors) i ≡ Some id →
    IfSome (slice_get actors i) IsIdle → IfSome (living_of actors id) IsIdle
idle_marked actors i id rise at idle = by_place (slice_get actors i) refl idle
  where
    by_place :
        (found : Option Actor) → slice_get actors i ≡ found → IfSome found IsIdle →
        IfSome (living_of actors id) IsIdle
    by_place (Some a) there idle = idle_at actors i id a rise at there idle
    by_place None there idle = nobody_at actors i id at there

pub slice_none : {A : Type 0} (xs : List A) (i : ℕ) → slice_get xs i ≡ None → length xs ≤ i
slice_none [] i none = omega arith
slice_none (x ∷ xs) zero none = absurd cc
slice_none (x ∷ xs) (suc i) none = let more = slice_none xs i none in omega (arith, more)

abbrev counted : World → World
counted w = record w { tick = w.tick + 1 }

-- A turn: all steps, the burial, and the count.
pub turn_whole :
    (s a b d : Standing) → a ≡ record s { world = after_steps s.setup s.world (ids_of s.world.actors) } →
    b ≡ record a { world = buried a.world } →
    d ≡ record b { world = record b.world { tick = b.world.tick + 1 } } →
    d ≡ record s { world = after_turn s.setup s.world }
unfolding after_turn
turn_whole s a b d a_is b_is d_is =
    d_is ∙ ap (λ (x : Standing). the_standing x.setup (counted x.world)) b_is
    ∙ ap (λ (x : Standing). the_standing x.setup (counted (buried x.world))) a_is

pub same_tick :
    (s a b : Standing) → a ≡ record s { world = after_steps s.setup s.world (ids_of s.world.actors) } →
    b ≡ record a { world = buried a.world } → b.world.tick ≡ s.world.tick
same_tick s a b a_is b_is =
    ap (λ (x : Standing). x.world.tick) b_is ∙ ap (λ (x : Standing). x.world.tick) a_is
    ∙ (steps_keep s.setup s.world (ids_of s.world.actors)).tick
