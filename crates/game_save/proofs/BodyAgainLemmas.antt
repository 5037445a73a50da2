-- Fields that were written are read: the body of an actor.
use Rattle.std.proofs.Common.{◌≡◌, ℕ, suc, ◌+◌, ◌^◌, ◌<◌, ◌≤◌, max, Bool, true, false, if◌then◌else◌}
use Rattle.std.proofs.Common.{List, [], ◌∷◌, ◌++◌, length, Option, Some, None, Ok, is_some, nat_lt}
use Rattle.std.proofs.Common.{refl, sym, ap, subst, ◌∙◌, arith, append_assoc}
use Rattle.std.specs.Prelude.{IfSome}
use Rattle.std.specs.List.{All, flat_map}
use Rattle.std.specs.Option.{IsSomeAnd}
use Rattle.std.proofs.lemmas.Bool.{le-leb, lt-ltb, le-ltb}
use Rattle.std.proofs.lemmas.List.{append-nil}
use Rattle.std.proofs.lemmas.List.Elements.{All-head, All-tail}
use Rattle.wire_bytes.specs.Field.{field_bytes, field_number}
use Rattle.wire_bytes.specs.Read.{field_at}
use Rattle.wire_bytes.proofs.ReadLemmas.{number_again}
use Rattle.world_units.specs.declared.cell.CPos.{CPos}
use Rattle.world_units.specs.declared.direction.TheConstants.{DIRECTIONS}
use Rattle.world_units.specs.Directions.{leg_length_of}
use Rattle.activities.specs.declared.activity.Activity.{Activity}
use Rattle.activities.specs.declared.activity.Activity.TheVariants.{Move, Attack, Harvest, Deliver}
use Rattle.activities.specs.declared.queue.TheConstants.{MAX_ACTIVITIES}
use Rattle.rule_traits.specs.declared.kind.Kind.{Kind}
use Rattle.rule_traits.specs.Rules.{kind_at, hp_of, moves}
use Rattle.game_model.specs.declared.actor.Body.{Body}
use Rattle.game_model.specs.declared.actor.Leg.{Leg}
use Rattle.game_model.specs.declared.builds.Build.{Build}
use Rattle.game_model.specs.declared.limits.TheConstants.{MAX_BUILDS, MAX_WAITS}
use Rattle.game_model.specs.declared.map.Map.{Map}
use Rattle.game_model.specs.Grid.{IsOn}
use Rattle.game_model.specs.Kinds.{capacity_in, duration_in, load_delay_in, reload_in, unload_delay_in}
use Rattle.game_model.specs.Setup.{Setup}
use Rattle.game_model.specs.ValidWorld.{IsActivityOf, IsBodyOf, IsBuildOf, IsHealthOf, IsLegOf, IsUnderWay}
use Rattle.sync_hash.specs.FitsFields.{ActivityFits, BuildFits, LegFits}
use Rattle.sync_hash.specs.HashedBytes.{activity_bytes, acts_bytes, build_bytes, builds_bytes, leg_bytes}
use Rattle.game_save.specs.declared.save_fault.SaveFault.TheVariants.{Torn}
use Rattle.game_save.specs.ActorReading.{activity_in, acts_in, attack_in, body_in, build_counts, build_in, builds_in, cell_in}
use Rattle.game_save.specs.ActorReading.{deliver_in, harvest_in, leg_flags, leg_in, move_in, next_act, next_build}
use Rattle.game_save.specs.ActorReading.{tagged_in, way_in}
use Rattle.game_save.specs.Fields.{Left, SaveRead, each_after, field_in, is_within, onwards, place_in, range_in}

-- These bytes are left, of so many.
abbrev pub left_of : (total : ℕ) → List ℕ → Left
left_of total bytes = record { total = total; bytes = bytes }

-- A field.
pub field_again :
    (t width number : ℕ) (rest : List ℕ) → number < 256 ^ width →
    field_in width (left_of t (field_bytes width number ++ rest)) ≡ Ok (number, left_of t rest)
unfolding field_in
field_again t width number rest fits =
    ap (onwards t)
    (number_again (Torn (place_in (left_of t (field_bytes width number ++ rest)))) width number
    rest fits)

first_byte : (byte : ℕ) (rest : List ℕ) → field_number 1 (byte ∷ rest) ≡ byte
unfolding field_number
first_byte byte rest = omega arith

pub byte_again :
    (t byte : ℕ) (rest : List ℕ) → field_in 1 (left_of t (byte ∷ rest)) ≡ Ok (byte, left_of t rest)
unfolding field_in field_at
byte_again t byte rest =
    let enough : nat_lt (length (byte ∷ rest)) 1 ≡ false =
    le-ltb (length (byte ∷ rest)) 1 (omega arith) in
    rw (enough, first_byte byte rest) refl

within : (least end number : ℕ) → least ≤ number → number < end → is_within least end number ≡ true
within least end number low high =
    rw (le-leb least number low, lt-ltb number end high) refl

-- A field within its range.
pub range_again :
    (t width least end number : ℕ) (rest : List ℕ) → number < 256 ^ width → least ≤ number →
    number < end →
    range_in width least end (left_of t (field_bytes width number ++ rest))
    ≡ Ok (number, left_of t rest)
unfolding range_in
range_again t width least end number rest fits low high =
    rw (field_again t width number rest fits, within least end number low high) refl

pub range_byte :
    (t least end byte : ℕ) (rest : List ℕ) → least ≤ byte → byte < end →
    range_in 1 least end (left_of t (byte ∷ rest)) ≡ Ok (byte, left_of t rest)
unfolding range_in
range_byte t least end byte rest low high =
    rw (byte_again t byte rest, within least end byte low high) refl

-- Values that are each read are read one after the other.
pub each_again :
    {A : Type 0} (read : List A → Left → SaveRead A) (bytes_of : A → List ℕ) (t : ℕ)
    (all held xs : List A) (rest : List ℕ) → held ++ xs ≡ all →
    ((front : List A) (x : A) (back : List A) (more : List ℕ) → front ++ (x ∷ back) ≡ all →
    read front (left_of t (bytes_of x ++ more)) ≡ Ok (x, left_of t more)) →
    each_after read held (length xs) (left_of t (flat_map bytes_of xs ++ rest))
    ≡ Ok (all, left_of t rest)
unfolding each_after
each_again {A} read bytes_of t all held [] rest same reads =
    ap (λ (v : List A). Ok (v, left_of t rest)) (sym (append-nil held) ∙ same)
each_again {A} read bytes_of t all held (x ∷ xs) rest same reads =
    ap (λ (bs : List ℕ). each_after read held (suc (length xs)) (left_of t bs))
    (append_assoc (bytes_of x) (flat_map bytes_of xs) rest)
    ∙ rw (reads held x xs (flat_map bytes_of xs ++ rest) same)
    (each_again read bytes_of t all (held ++ x ∷ []) xs rest
    (append_assoc held (x ∷ []) xs ∙ same) reads)

-- What holds of all holds of one in the middle.
pub in_middle :
    {A : Type 0} (P : A → Type 0) (front : List A) (x : A) (back : List A) →
    All P (front ++ (x ∷ back)) → P x
in_middle P [] x back all = All-head P x back all
in_middle {A} P (y ∷ front) x back all =
    in_middle P front x back (All-tail P y (front ++ (x ∷ back)) all)

pub one_of :
    {A : Type 0} (P : A → Type 0) (all front : List A) (x : A) (back : List A) →
    front ++ (x ∷ back) ≡ all → All P all → P x
one_of {A} P all front x back same each =
    in_middle P front x back (subst (λ (xs : List A). All P xs) (sym same) each)

-- A leg.
low_flag : (b : Bool) → 0 < (if b then 2 else 1)
low_flag true = omega arith
low_flag false = omega arith

two_flags : (kind : Kind) → moves kind ≡ true → leg_flags kind ≡ 2
two_flags kind is = rw is refl

pub leg_again :
    (t : ℕ) (kind : Kind) (leg : Option Leg) (rest : List ℕ) → IfSome leg (IsLegOf kind) →
    LegFits leg → leg_in kind (left_of t (leg_bytes leg ++ rest)) ≡ Ok (leg, left_of t rest)
unfolding leg_in way_in
leg_again t kind None rest is fits =
    rw (range_byte t 0 (leg_flags kind) 0 rest (omega arith) (low_flag (moves kind))) refl
leg_again t kind (Some leg) rest is fits =
    rw (
      range_byte t 0 (leg_flags kind) 1 (leg.dir ∷ (field_bytes 4 leg.progress ++ rest))
          (omega arith) (omega (arith, two_flags kind is.moves)),
      range_byte t 0 DIRECTIONS leg.dir (field_bytes 4 leg.progress ++ rest) (omega arith)
          is.direction,
      range_again t 4 0 (leg_length_of leg.dir) leg.progress rest fits (omega arith) is.progress,
    ) refl

-- A cell.
pub cell_again :
    (t : ℕ) (map : Map) (p : CPos) (rest : List ℕ) → IsOn map.width map.height p →
    cell_in map (left_of t (p.x ∷ (p.y ∷ rest))) ≡ Ok (p, left_of t rest)
unfolding cell_in
cell_again t map p rest is =
    rw (
      range_byte t 0 map.width p.x (p.y ∷ rest) (omega arith) is.column,
      range_byte t 0 map.height p.y rest (omega arith) is.row,
    ) refl

waits_again :
    (t waits : ℕ) (rest : List ℕ) → waits < MAX_WAITS →
    range_in 1 0 MAX_WAITS (left_of t (waits ∷ rest)) ≡ Ok (waits, left_of t rest)
waits_again t waits rest few = range_byte t 0 MAX_WAITS waits rest (omega arith) few

-- The activities after their tags.
move_again :
    (t : ℕ) (map : Map) (goal : CPos) (waits : ℕ) (rest : List ℕ) →
    IsOn map.width map.height goal → waits < MAX_WAITS →
    move_in map (left_of t (goal.x ∷ (goal.y ∷ (waits ∷ rest)))) ≡ Ok (Move goal waits, left_of t rest)
unfolding move_in
move_again t map goal waits rest is few =
    rw (cell_again t map goal (waits ∷ rest) is, waits_again t waits rest few) refl

attack_again :
    (t target waits : ℕ) (rest : List ℕ) → target < 2 ^ 32 → waits < MAX_WAITS →
    attack_in (left_of t (field_bytes 4 target ++ (waits ∷ rest)))
    ≡ Ok (Attack target waits, left_of t rest)
unfolding attack_in
attack_again t target waits rest fits few =
    rw (field_again t 4 target (waits ∷ rest) fits, waits_again t waits rest few) refl

harvest_again :
    (t : ℕ) (map : Map) (delay : ℕ) (cell : CPos) (timer waits : ℕ) (rest : List ℕ) →
    IsOn map.width map.height cell → timer < 2 ^ 16 → timer < max 1 delay → waits < MAX_WAITS →
    harvest_in map delay (left_of t (cell.x ∷ (cell.y ∷ (field_bytes 2 timer ++ (waits ∷ rest)))))
    ≡ Ok (Harvest cell timer waits, left_of t rest)
unfolding harvest_in
harvest_again t map delay cell timer waits rest is fits below few =
    rw (
      cell_again t map cell (field_bytes 2 timer ++ (waits ∷ rest)) is,
      range_again t 2 0 (max 1 delay) timer (waits ∷ rest) fits (omega arith) below,
      waits_again t waits rest few,
    ) refl

deliver_again :
    (t : ℕ) (map : Map) (delay : ℕ) (home : CPos) (timer waits : ℕ) (rest : List ℕ) →
    IsOn map.width map.height home → timer < 2 ^ 16 → timer < max 1 delay → waits < MAX_WAITS →
    deliver_in map delay (left_of t (home.x ∷ (home.y ∷ (field_bytes 2 timer ++ (waits ∷ rest)))))
    ≡ Ok (Deliver home timer waits, left_of t rest)
unfolding deliver_in
deliver_again t map delay home timer waits rest is fits below few =
    rw (
      cell_again t map home (field_bytes 2 timer ++ (waits ∷ rest)) is,
      range_again t 2 0 (max 1 delay) timer (waits ∷ rest) fits (omega arith) below,
      waits_again t waits rest few,
    ) refl

-- An activity.
pub activity_again :
    (t : ℕ) (map : Map) (kind : Kind) (act : Activity) (rest : List ℕ) → IsActivityOf map kind act →
    ActivityFits act →
    activity_in map kind (left_of t (activity_bytes act ++ rest)) ≡ Ok (act, left_of t rest)
unfolding activity_in tagged_in
activity_again t map kind (Move goal waits) rest is fits =
    rw (
      byte_again t 1 (goal.x ∷ (goal.y ∷ (waits ∷ rest))),
      is.0,
      move_again t map goal waits rest is.1.on_map is.1.patience,
    ) refl
activity_again t map kind (Attack target waits) rest is fits =
    ap (λ (bs : List ℕ). activity_in map kind (left_of t (2 ∷ bs)))
    (append_assoc (field_bytes 4 target) (waits ∷ []) rest)
    ∙ rw (
      byte_again t 2 (field_bytes 4 target ++ (waits ∷ rest)),
      is.0,
      attack_again t target waits rest fits is.1,
    ) refl
activity_again t map kind (Harvest cell timer waits) rest is fits =
    ap (λ (bs : List ℕ). activity_in map kind (left_of t (3 ∷ (cell.x ∷ (cell.y ∷ bs)))))
    (append_assoc (field_bytes 2 timer) (waits ∷ []) rest)
    ∙ rw (
      byte_again t 3 (cell.x ∷ (cell.y ∷ (field_bytes 2 timer ++ (waits ∷ rest)))),
      is.0,
      harvest_again t map (load_delay_in kind.harvester) cell timer waits rest is.1.on_map fits
          is.2 is.1.patience,
    ) refl
activity_again t map kind (Deliver home timer waits) rest is fits =
    ap (λ (bs : List ℕ). activity_in map kind (left_of t (4 ∷ (home.x ∷ (home.y ∷ bs)))))
    (append_assoc (field_bytes 2 timer) (waits ∷ []) rest)
    ∙ rw (
      byte_again t 4 (home.x ∷ (home.y ∷ (field_bytes 2 timer ++ (waits ∷ rest)))),
      is.0,
      deliver_again t map (unload_delay_in kind.harvester) home timer waits rest is.1.on_map fits
          is.2 is.1.patience,
    ) refl

-- The activities of an actor.
pub acts_again :
    (t : ℕ) (map : Map) (kind : Kind) (acts : List Activity) (rest : List ℕ) →
    length acts ≤ MAX_ACTIVITIES → All (IsActivityOf map kind) acts → All ActivityFits acts →
    acts_in map kind (left_of t (acts_bytes acts ++ rest)) ≡ Ok (acts, left_of t rest)
unfolding acts_in
acts_again t map kind acts rest few are fit =
    rw (
    range_byte t 0 (MAX_ACTIVITIES + 1) (length acts) (flat_map activity_bytes acts ++ rest)
    (omega arith) (omega arith)
    )
    (each_again (next_act map kind) activity_bytes t acts [] acts rest refl
    (λ front act back more same.
    activity_again t map kind act more (one_of (IsActivityOf map kind) acts front act back same are)
    (one_of ActivityFits acts front act back same fit)))

-- A build.
build_by :
    (t : ℕ) (rules : List Kind) (build : Build) (rest : List ℕ) (found : Option Kind) →
    kind_at rules build.kind ≡ found → IsSomeAnd found (IsUnderWay build.left) → BuildFits build →
    build_in rules (left_of t (field_bytes 2 build.kind ++ (field_bytes 2 build.left ++ rest)))
    ≡ Ok (build, left_of t rest)
unfolding build_in
build_by t rules build rest None is under fits = elim under [ ]
build_by t rules build rest (Some product) is under fits =
    rw (
      field_again t 2 build.kind (field_bytes 2 build.left ++ rest) fits.kind,
      is,
      under.unit,
      range_again t 2 0 (duration_in product.buildable + 1) build.left rest fits.turns (omega arith)
          (omega (arith, under.rest)),
    ) refl

pub build_again :
    (t : ℕ) (rules : List Kind) (kind : Kind) (build : Build) (rest : List ℕ) →
    IsBuildOf rules kind build → BuildFits build →
    build_in rules (left_of t (build_bytes build ++ rest)) ≡ Ok (build, left_of t rest)
build_again t rules kind build rest is fits =
    ap (λ (bs : List ℕ). build_in rules (left_of t bs))
    (append_assoc (field_bytes 2 build.kind) (field_bytes 2 build.left) rest)
    ∙ build_by t rules build rest (kind_at rules build.kind) refl is.product fits

-- Whoever has builds produces.
low_count : (b : Bool) → 0 < (if b then MAX_BUILDS + 1 else 1)
low_count true = omega arith
low_count false = omega arith

all_counts : (kind : Kind) → is_some kind.production ≡ true → build_counts kind ≡ MAX_BUILDS + 1
all_counts kind is = rw is refl

few_builds :
    (rules : List Kind) (kind : Kind) (builds : List Build) → length builds ≤ MAX_BUILDS →
    All (IsBuildOf rules kind) builds → length builds < build_counts kind
few_builds rules kind [] few are = low_count (is_some kind.production)
few_builds rules kind (b ∷ builds) few are =
    omega (arith, all_counts kind (All-head (IsBuildOf rules kind) b builds are).producer, few)

pub builds_again :
    (t : ℕ) (rules : List Kind) (kind : Kind) (builds : List Build) (rest : List ℕ) →
    length builds ≤ MAX_BUILDS → All (IsBuildOf rules kind) builds → All BuildFits builds →
    builds_in rules kind (left_of t (builds_bytes builds ++ rest)) ≡ Ok (builds, left_of t rest)
unfolding builds_in
builds_again t rules kind builds rest few are fit =
    rw (
    range_byte t 0 (build_counts kind) (length builds) (flat_map build_bytes builds ++ rest)
    (omega arith) (few_builds rules kind builds few are)
    )
    (each_again (next_build rules) build_bytes t builds [] builds rest refl
    (λ front build back more same.
    build_again t rules kind build more (one_of (IsBuildOf rules kind) builds front build back same are)
    (one_of BuildFits builds front build back same fit)))

-- Each number of a body fits its field.
pub record BodyFits (b : Body) : Type 0 where
  pub leg : LegFits b.leg
  pub health : b.health < 2 ^ 32
  pub load : b.load < 2 ^ 16
  pub reload : b.reload < 2 ^ 16
  pub acts : All ActivityFits b.acts
  pub builds : All BuildFits b.builds

-- The bytes of a body from its leg on, and what follows them.
abbrev pub from_leg : Body → List ℕ → List ℕ
from_leg b rest =
    leg_bytes b.leg
    ++ (field_bytes 4 b.health
    ++ (field_bytes 2 b.load
    ++ (field_bytes 2 b.reload ++ (acts_bytes b.acts ++ (builds_bytes b.builds ++ rest)))))

pub body_again :
    (t : ℕ) (setup : Setup) (kind : Kind) (b : Body) (rest : List ℕ) → IsBodyOf setup kind b →
    IsHealthOf b.health kind → BodyFits b →
    body_in setup kind b.owner b.facing (left_of t (from_leg b rest)) ≡ Ok (b, left_of t rest)
unfolding body_in
body_again t setup kind b rest is well fits =
    let from_builds : List ℕ = builds_bytes b.builds ++ rest in
    let from_acts : List ℕ = acts_bytes b.acts ++ from_builds in
    let from_reload : List ℕ = field_bytes 2 b.reload ++ from_acts in
    let from_load : List ℕ = field_bytes 2 b.load ++ from_reload in
    rw (
      leg_again t kind b.leg (field_bytes 4 b.health ++ from_load) is.leg fits.leg,
      range_again t 4 1 (hp_of kind + 1) b.health from_load fits.health well.least
          (omega (arith, well.most)),
      range_again t 2 0 (capacity_in kind.harvester + 1) b.load from_reload fits.load (omega arith)
          (omega (arith, is.load)),
      range_again t 2 0 (reload_in kind.armament + 1) b.reload from_acts fits.reload (omega arith)
          (omega (arith, is.reload)),
      acts_again t setup.map kind b.acts from_builds is.act_count is.acts fits.acts,
      builds_again t setup.rules kind b.builds rest is.build_count is.builds fits.builds,
    ) refl
