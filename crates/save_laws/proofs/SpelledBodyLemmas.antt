-- What was read is spelled so: actors.
use Rattle.std.proofs.Common.{◌≡◌, ℕ, zero, suc, ◌+◌, ◌<◌, ◌≤◌, ◌==◌, max, Bool, true, false, ◌&&◌, if◌then◌else◌}
use Rattle.std.proofs.Common.{List, [], ◌∷◌, ◌++◌, Some, None, Ok, Err, is_some}
use Rattle.std.proofs.Common.{refl, sym, ap, subst, arith, append_assoc}
use Rattle.std.proofs.lemmas.Bool.{eqb-true}
use Rattle.wire_bytes.specs.Field.{field_bytes, AreBytes}
use Rattle.world_units.specs.declared.angle.TheConstants.{FULL_TURN}
use Rattle.world_units.specs.declared.cell.CPos.{CPos}
use Rattle.world_units.specs.declared.direction.TheConstants.{DIRECTIONS}
use Rattle.world_units.specs.Directions.{leg_length_of}
use Rattle.activities.specs.declared.activity.Activity.TheVariants.{Move, Attack, Harvest, Deliver}
use Rattle.activities.specs.declared.queue.TheConstants.{MAX_ACTIVITIES}
use Rattle.rule_traits.specs.declared.kind.Kind.{Kind}
use Rattle.rule_traits.specs.Rules.{kind_at, hp_of, moves}
use Rattle.game_model.specs.declared.actor.Actor.{Actor}
use Rattle.game_model.specs.declared.actor.Body.{Body}
use Rattle.game_model.specs.declared.limits.TheConstants.{MAX_WAITS}
use Rattle.game_model.specs.declared.map.Map.{Map}
use Rattle.game_model.specs.Kinds.{capacity_in, duration_in, gathers, load_delay_in, reload_in, unload_delay_in}
use Rattle.game_model.specs.Setup.{Setup}
use Rattle.game_model.specs.World.{is_occupied}
use Rattle.sync_hash.specs.HashedBytes.{activity_bytes, actor_bytes, acts_bytes, build_bytes, builds_bytes, cell_bytes, leg_bytes}
use Rattle.game_save.specs.declared.save_fault.SaveFault.{SaveFault}
use Rattle.game_save.specs.declared.save_fault.SaveFault.TheVariants.{BadWorld}
use Rattle.game_save.specs.ActorReading.{activity_in, actor_in, acts_in, attack_in, body_in, build_counts, build_in, builds_in, cell_in}
use Rattle.game_save.specs.ActorReading.{deliver_in, free_cell_in, harvest_in, id_from, is_owner, known_kind, known_unit, leg_flags, leg_in}
use Rattle.game_save.specs.ActorReading.{move_in, next_act, next_build, owner_in, placed_in, tagged_in, way_in}
use Rattle.game_save.specs.Fields.{Left, field_in, place_in, range_in}
use Rattle.save_laws.proofs.SpelledLemmas.{Spells, after_read, byte_range_spells, byte_spells, choose, done, each_spells}
use Rattle.save_laws.proofs.SpelledLemmas.{field_spells, known, next, refused, one_byte, range_spells, range_within}

-- A leg.
way_spells : (left : Left) → AreBytes left.bytes → Spells (1 ∷ []) left leg_bytes (way_in left)
unfolding way_in
way_spells left are =
    next (1 ∷ []) left (range_in 1 0 DIRECTIONS left) _ one_byte leg_bytes
    (byte_range_spells 0 DIRECTIONS left are)
    (λ dir mid is more.
    next (1 ∷ dir ∷ []) mid (range_in 4 0 (leg_length_of dir) mid) _ (field_bytes 4) leg_bytes
    (range_spells 4 0 (leg_length_of dir) mid more)
    (λ gone after found rest.
    done ((1 ∷ dir ∷ []) ++ field_bytes 4 gone) after leg_bytes
    (Some (record { dir = dir; progress = gone })) refl rest))

at_most_two : (b : Bool) → (if b then 2 else 1) ≤ 2
at_most_two true = omega arith
at_most_two false = omega arith

one_flag : (kind : Kind) (flag : ℕ) → flag < leg_flags kind → (flag == 0) ≡ false → 1 ≡ flag
one_flag kind zero few some = absurd cc
one_flag kind (suc zero) few some = refl
one_flag kind (suc (suc flag)) few some = absurd (omega (arith, at_most_two (moves kind)))

leg_spells :
    (kind : Kind) (left : Left) → AreBytes left.bytes → Spells [] left leg_bytes (leg_in kind left)
unfolding leg_in
leg_spells kind left are =
    next [] left (range_in 1 0 (leg_flags kind) left) _ one_byte leg_bytes
    (byte_range_spells 0 (leg_flags kind) left are)
    (λ flag mid is more.
    choose (flag ∷ []) mid leg_bytes (flag == 0) (Ok (None, mid)) (way_in mid)
    (λ met.
    done (flag ∷ []) mid leg_bytes None (ap (λ (n : ℕ). n ∷ []) (eqb-true flag 0 met)) more)
    (λ fails.
    subst (λ (n : ℕ). Spells (n ∷ []) mid leg_bytes (way_in mid))
    (one_flag kind flag (range_within 1 0 (leg_flags kind) left mid flag is).below fails)
    (way_spells mid more)))

-- A cell.
cell_spells :
    (map : Map) (left : Left) → AreBytes left.bytes → Spells [] left cell_bytes (cell_in map left)
unfolding cell_in
cell_spells map left are =
    next [] left (range_in 1 0 map.width left) _ one_byte cell_bytes
    (byte_range_spells 0 map.width left are)
    (λ x mid is more.
    next (x ∷ []) mid (range_in 1 0 map.height mid) _ one_byte cell_bytes
    (byte_range_spells 0 map.height mid more)
    (λ y after found rest. done (x ∷ y ∷ []) after cell_bytes (record { x = x; y = y }) refl rest))

-- The activities after their tags.
move_spells :
    (map : Map) (left : Left) → AreBytes left.bytes →
    Spells (1 ∷ []) left activity_bytes (move_in map left)
unfolding move_in
move_spells map left are =
    next (1 ∷ []) left (cell_in map left) _ cell_bytes activity_bytes (cell_spells map left are)
    (λ goal mid is more.
    next ((1 ∷ []) ++ cell_bytes goal) mid (range_in 1 0 MAX_WAITS mid) _ one_byte activity_bytes
    (byte_range_spells 0 MAX_WAITS mid more)
    (λ waits after found rest.
    done (((1 ∷ []) ++ cell_bytes goal) ++ one_byte waits) after activity_bytes (Move goal waits) refl
    rest))

attack_spells :
    (left : Left) → AreBytes left.bytes → Spells (2 ∷ []) left activity_bytes (attack_in left)
unfolding attack_in
attack_spells left are =
    next (2 ∷ []) left (field_in 4 left) _ (field_bytes 4) activity_bytes (field_spells 4 left are)
    (λ target mid is more.
    next ((2 ∷ []) ++ field_bytes 4 target) mid (range_in 1 0 MAX_WAITS mid) _ one_byte
    activity_bytes (byte_range_spells 0 MAX_WAITS mid more)
    (λ waits after found rest.
    done (((2 ∷ []) ++ field_bytes 4 target) ++ one_byte waits) after activity_bytes
    (Attack target waits) refl rest))

harvest_spells :
    (map : Map) (delay : ℕ) (left : Left) → AreBytes left.bytes →
    Spells (3 ∷ []) left activity_bytes (harvest_in map delay left)
unfolding harvest_in
harvest_spells map delay left are =
    next (3 ∷ []) left (cell_in map left) _ cell_bytes activity_bytes (cell_spells map left are)
    (λ cell mid is more.
    next ((3 ∷ []) ++ cell_bytes cell) mid (range_in 2 0 (max 1 delay) mid) _ (field_bytes 2)
    activity_bytes (range_spells 2 0 (max 1 delay) mid more)
    (λ timer low found also.
    next (((3 ∷ []) ++ cell_bytes cell) ++ field_bytes 2 timer) low (range_in 1 0 MAX_WAITS low) _
    one_byte activity_bytes (byte_range_spells 0 MAX_WAITS low also)
    (λ waits after last rest.
    done ((((3 ∷ []) ++ cell_bytes cell) ++ field_bytes 2 timer) ++ one_byte waits) after
    activity_bytes (Harvest cell timer waits) refl rest)))

deliver_spells :
    (map : Map) (delay : ℕ) (left : Left) → AreBytes left.bytes →
    Spells (4 ∷ []) left activity_bytes (deliver_in map delay left)
unfolding deliver_in
deliver_spells map delay left are =
    next (4 ∷ []) left (cell_in map left) _ cell_bytes activity_bytes (cell_spells map left are)
    (λ home mid is more.
    next ((4 ∷ []) ++ cell_bytes home) mid (range_in 2 0 (max 1 delay) mid) _ (field_bytes 2)
    activity_bytes (range_spells 2 0 (max 1 delay) mid more)
    (λ timer low found also.
    next (((4 ∷ []) ++ cell_bytes home) ++ field_bytes 2 timer) low (range_in 1 0 MAX_WAITS low) _
    one_byte activity_bytes (byte_range_spells 0 MAX_WAITS low also)
    (λ waits after last rest.
    done ((((4 ∷ []) ++ cell_bytes home) ++ field_bytes 2 timer) ++ one_byte waits) after
    activity_bytes (Deliver home timer waits) refl rest)))

-- An activity.
tag_is : (tag n : ℕ) (b : Bool) → ((tag == n) && b) ≡ true → n ≡ tag
tag_is tag n b both = sym (eqb-true tag n (first (tag == n) both))
  where
    first : (a : Bool) → (a && b) ≡ true → a ≡ true
    first true same = refl
    first false same = absurd cc

tagged_spells :
    (map : Map) (kind : Kind) (fault : SaveFault) (tag : ℕ) (left : Left) → AreBytes left.bytes →
    Spells (tag ∷ []) left activity_bytes (tagged_in map kind fault tag left)
unfolding tagged_in
tagged_spells map kind fault tag left are =
    choose (tag ∷ []) left activity_bytes ((tag == 1) && moves kind) (move_in map left) _
    (λ met.
    subst (λ (n : ℕ). Spells (n ∷ []) left activity_bytes (move_in map left))
    (tag_is tag 1 (moves kind) met) (move_spells map left are))
    (λ fails.
    choose (tag ∷ []) left activity_bytes ((tag == 2) && is_some kind.armament) (attack_in left) _
    (λ met.
    subst (λ (n : ℕ). Spells (n ∷ []) left activity_bytes (attack_in left))
    (tag_is tag 2 (is_some kind.armament) met) (attack_spells left are))
    (λ neither.
    choose (tag ∷ []) left activity_bytes ((tag == 3) && gathers kind)
    (harvest_in map (load_delay_in kind.harvester) left) _
    (λ met.
    subst (λ (n : ℕ). Spells (n ∷ []) left activity_bytes
    (harvest_in map (load_delay_in kind.harvester) left)) (tag_is tag 3 (gathers kind) met)
    (harvest_spells map (load_delay_in kind.harvester) left are))
    (λ nor.
    choose (tag ∷ []) left activity_bytes ((tag == 4) && gathers kind)
    (deliver_in map (unload_delay_in kind.harvester) left) (Err fault)
    (λ met.
    subst (λ (n : ℕ). Spells (n ∷ []) left activity_bytes
    (deliver_in map (unload_delay_in kind.harvester) left)) (tag_is tag 4 (gathers kind) met)
    (deliver_spells map (unload_delay_in kind.harvester) left are))
    (λ never. refused (tag ∷ []) left activity_bytes fault))))

activity_spells :
    (map : Map) (kind : Kind) (left : Left) → AreBytes left.bytes →
    Spells [] left activity_bytes (activity_in map kind left)
unfolding activity_in
activity_spells map kind left are =
    next [] left (field_in 1 left) _ one_byte activity_bytes (byte_spells left are)
    (λ tag mid is more. tagged_spells map kind (BadWorld (place_in left)) tag mid more)

acts_spells :
    (map : Map) (kind : Kind) (left : Left) → AreBytes left.bytes →
    Spells [] left acts_bytes (acts_in map kind left)
unfolding acts_in
acts_spells map kind left are =
    next [] left (range_in 1 0 (MAX_ACTIVITIES + 1) left) _ one_byte acts_bytes
    (byte_range_spells 0 (MAX_ACTIVITIES + 1) left are)
    (λ count mid is more.
    each_spells (next_act map kind) activity_bytes one_byte count [] count mid
    (λ xs at these. activity_spells map kind at these) (omega arith) more)

-- A build.
build_spells :
    (rules : List Kind) (left : Left) → AreBytes left.bytes →
    Spells [] left build_bytes (build_in rules left)
unfolding build_in
build_spells rules left are =
    next [] left (field_in 2 left) _ (field_bytes 2) build_bytes (field_spells 2 left are)
    (λ number mid is more.
    known (field_bytes 2 number) mid
    (known_unit (BadWorld (place_in left)) (kind_at rules number)) _ build_bytes
    (λ product.
    next (field_bytes 2 number) mid (range_in 2 0 (duration_in product.buildable + 1) mid) _
    (field_bytes 2) build_bytes
    (range_spells 2 0 (duration_in product.buildable + 1) mid more)
    (λ rest after found last.
    done (field_bytes 2 number ++ field_bytes 2 rest) after build_bytes
    (record { kind = number; left = rest }) refl last)))

builds_spells :
    (rules : List Kind) (kind : Kind) (left : Left) → AreBytes left.bytes →
    Spells [] left builds_bytes (builds_in rules kind left)
unfolding builds_in
builds_spells rules kind left are =
    next [] left (range_in 1 0 (build_counts kind) left) _ one_byte builds_bytes
    (byte_range_spells 0 (build_counts kind) left are)
    (λ count mid is more.
    each_spells (next_build rules) build_bytes one_byte count [] count mid
    (λ xs at these. build_spells rules at these) (omega arith) more)

-- What follows the kind.
abbrev turned : (owner : ℕ) → CPos → (facing : ℕ) → List ℕ
turned owner p facing = (owner ∷ []) ++ cell_bytes p ++ field_bytes 2 facing

abbrev standing_bytes : CPos × Body → List ℕ
standing_bytes (p, b) =
    turned b.owner p b.facing ++ leg_bytes b.leg ++ field_bytes 4 b.health ++ field_bytes 2 b.load
    ++ field_bytes 2 b.reload ++ acts_bytes b.acts ++ builds_bytes b.builds

body_spells :
    (setup : Setup) (kind : Kind) (owner : ℕ) (p : CPos) (facing : ℕ) (left : Left) →
    AreBytes left.bytes →
    Spells (turned owner p facing) left (λ (b : Body). standing_bytes (p, b))
    (body_in setup kind owner facing left)
unfolding body_in
body_spells setup kind owner p facing left are =
    let whole : Body → List ℕ = λ b. standing_bytes (p, b) in
    let front : List ℕ = turned owner p facing in
    next front left (leg_in kind left) _ leg_bytes whole (leg_spells kind left are)
    (λ leg at_health is_leg b1.
    next (front ++ leg_bytes leg) at_health (range_in 4 1 (hp_of kind + 1) at_health) _
    (field_bytes 4) whole (range_spells 4 1 (hp_of kind + 1) at_health b1)
    (λ health at_load is_health b2.
    next (front ++ leg_bytes leg ++ field_bytes 4 health) at_load
    (range_in 2 0 (capacity_in kind.harvester + 1) at_load) _ (field_bytes 2) whole
    (range_spells 2 0 (capacity_in kind.harvester + 1) at_load b2)
    (λ load at_reload is_load b3.
    next (front ++ leg_bytes leg ++ field_bytes 4 health ++ field_bytes 2 load) at_reload
    (range_in 2 0 (reload_in kind.armament + 1) at_reload) _ (field_bytes 2) whole
    (range_spells 2 0 (reload_in kind.armament + 1) at_reload b3)
    (λ reload at_acts is_reload b4.
    next
    (front ++ leg_bytes leg ++ field_bytes 4 health ++ field_bytes 2 load ++ field_bytes 2 reload)
    at_acts (acts_in setup.map kind at_acts) _ acts_bytes whole
    (acts_spells setup.map kind at_acts b4)
    (λ acts at_builds is_acts b5.
    next
    (front ++ leg_bytes leg ++ field_bytes 4 health ++ field_bytes 2 load ++ field_bytes 2 reload
    ++ acts_bytes acts)
    at_builds (builds_in setup.rules kind at_builds) _ builds_bytes whole
    (builds_spells setup.rules kind at_builds b5)
    (λ builds after is_builds b6.
    done
    (front ++ leg_bytes leg ++ field_bytes 4 health ++ field_bytes 2 load ++ field_bytes 2 reload
    ++ acts_bytes acts ++ builds_bytes builds)
    after whole
    (record {
      owner = owner;
      facing = facing;
      leg = leg;
      health = health;
      load = load;
      reload = reload;
      acts = acts;
      builds = builds;
    })
    refl b6))))))

owner_spells :
    (clients : ℕ) (left : Left) → AreBytes left.bytes →
    Spells [] left one_byte (owner_in clients left)
unfolding owner_in
owner_spells clients left are =
    next [] left (field_in 1 left) _ one_byte one_byte (byte_spells left are)
    (λ owner mid is more.
    choose (owner ∷ []) mid one_byte (is_owner clients owner) (Ok (owner, mid)) (Err _)
    (λ met. done (owner ∷ []) mid one_byte owner refl more)
    (λ fails. refused (owner ∷ []) mid one_byte _))

free_cell_spells :
    (map : Map) (held : List Actor) (left : Left) → AreBytes left.bytes →
    Spells [] left cell_bytes (free_cell_in map held left)
unfolding free_cell_in
free_cell_spells map held left are =
    next [] left (range_in 1 0 map.width left) _ one_byte cell_bytes
    (byte_range_spells 0 map.width left are)
    (λ x mid is more.
    next (x ∷ []) mid (range_in 1 0 map.height mid) _ one_byte cell_bytes
    (byte_range_spells 0 map.height mid more)
    (λ y after found rest.
    choose (x ∷ y ∷ []) after cell_bytes (is_occupied held (record { x = x; y = y })) (Err _) _
    (λ met. refused (x ∷ y ∷ []) after cell_bytes _)
    (λ fails. done (x ∷ y ∷ []) after cell_bytes (record { x = x; y = y }) refl rest)))

placed_spells :
    (setup : Setup) (clients : ℕ) (kind : Kind) (held : List Actor) (left : Left) →
    AreBytes left.bytes →
    Spells [] left standing_bytes (placed_in setup clients kind held left)
unfolding placed_in
placed_spells setup clients kind held left are =
    next [] left (owner_in clients left) _ one_byte standing_bytes (owner_spells clients left are)
    (λ owner at_cell is_owner_in b1.
    next (owner ∷ []) at_cell (free_cell_in setup.map held at_cell) _ cell_bytes standing_bytes
    (free_cell_spells setup.map held at_cell b1)
    (λ p at_facing is_cell b2.
    next ((owner ∷ []) ++ cell_bytes p) at_facing (range_in 2 0 FULL_TURN at_facing) _
    (field_bytes 2) standing_bytes (range_spells 2 0 FULL_TURN at_facing b2)
    (λ facing at_body is_facing b3.
    after_read (turned owner p facing) at_body (body_in setup kind owner facing at_body) _
    (λ (b : Body). standing_bytes (p, b)) standing_bytes
    (body_spells setup kind owner p facing at_body b3)
    (λ b after is_body b4. done (standing_bytes (p, b)) after standing_bytes (p, b) refl b4))))

-- An actor.
actor_whole :
    (id kind : ℕ) (p : CPos) (b : Body) →
    field_bytes 4 id ++ field_bytes 2 kind ++ standing_bytes (p, b)
    ≡ actor_bytes (record { id = id; kind = kind; cell = p; body = b })
unfolding actor_bytes field_bytes
actor_whole id kind p b = simp append_assoc refl

pub actor_spells :
    (setup : Setup) (clients next_id : ℕ) (held : List Actor) (left : Left) → AreBytes left.bytes →
    Spells [] left actor_bytes (actor_in setup clients next_id held left)
unfolding actor_in
actor_spells setup clients next_id held left are =
    next [] left (range_in 4 (id_from 1 held) next_id left) _ (field_bytes 4) actor_bytes
    (range_spells 4 (id_from 1 held) next_id left are)
    (λ id at_kind is_id b1.
    next (field_bytes 4 id) at_kind (field_in 2 at_kind) _ (field_bytes 2) actor_bytes
    (field_spells 2 at_kind b1)
    (λ number at_owner is_number b2.
    known (field_bytes 4 id ++ field_bytes 2 number) at_owner
    (known_kind (BadWorld (place_in at_kind)) (kind_at setup.rules number)) _ actor_bytes
    (λ kind.
    next (field_bytes 4 id ++ field_bytes 2 number) at_owner
    (placed_in setup clients kind held at_owner) _ standing_bytes actor_bytes
    (placed_spells setup clients kind held at_owner b2)
    (λ placed after is_placed b3.
    done (field_bytes 4 id ++ field_bytes 2 number ++ standing_bytes placed) after actor_bytes
    (record { id = id; kind = number; cell = placed.0; body = placed.1 })
    (actor_whole id number placed.0 placed.1) b3))))
