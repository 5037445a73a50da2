-- The byte lists of a world tell all of it.
use Rattle.std.proofs.Common.{◌≡◌, ℕ, ◌+◌, ◌*◌, ◌/◌, ◌%◌, ◌<◌, ◌^◌, ◌==◌, Bool, true, false, List, [], ◌∷◌, ◌++◌, length, map, Option, Some, None}
use Rattle.std.proofs.Common.{refl, sym, ap, ap₂, ◌∙◌, arith}
use Rattle.std.proofs.lemmas.List.{append_assoc, append_cancel_left}
use Rattle.std.proofs.lemmas.List.Elements.{recursion_from_All}
use Rattle.std.specs.List.{AllByRecursion, zip, flat_map}
use Rattle.wire_bytes.specs.Field.{field_bytes, field_number}
use Rattle.wire_bytes.proofs.FieldLemmas.{field_reads_back}
use Rattle.std.proofs.lemmas.Nat.{div-add-mod'}
use Rattle.std.proofs.lemmas.Bool.Decides.{nat_tests}
use Rattle.world_units.specs.declared.cell.CPos.{CPos}
use Rattle.activities.specs.declared.activity.Activity.{Activity}
use Rattle.activities.specs.declared.activity.Activity.TheVariants.{Move, Attack, Harvest, Deliver}
use Rattle.game_model.specs.declared.actor.Actor.{Actor}
use Rattle.game_model.specs.declared.actor.Leg.{Leg}
use Rattle.game_model.specs.declared.builds.Build.{Build}
use Rattle.game_model.specs.declared.world.Head.{Head}
use Rattle.game_model.specs.declared.world.World.{World}
use Rattle.game_model.specs.Grid.{Grid}
use Rattle.game_model.specs.World.{head_of, world_with}
use Rattle.sync_hash.specs.HashedBytes.{client_bytes, flag_byte, clients_bytes, header_bytes, actor_bytes}
use Rattle.sync_hash.specs.HashedBytes.{activity_bytes, acts_bytes, build_bytes, builds_bytes, cell_bytes}
use Rattle.sync_hash.specs.HashedBytes.{cell_at, leg_bytes, ore_bytes, ore_parts, parts_of}
use Rattle.sync_hash.specs.FitsFields.{ActivityFits, ActorFits, BuildFits, FitsFields, LegFits}

-- Two numbers that fit their fields, with the same bytes and what follows them.
record SameField (a b : ℕ) (left right : List ℕ) : Type 0 where
  number : a ≡ b
  rest : left ≡ right

same_field :
    (width a b : ℕ) (left right : List ℕ) → a < 256 ^ width → b < 256 ^ width → field_bytes width a ++ left ≡ field_bytes width b ++ right →
    SameField a b left right
same_field width a b left right fits fits' same =
    let number : a ≡ b =
    sym (field_reads_back width a left fits) ∙ ap (field_number width) same ∙ field_reads_back width b right fits' in
    record {
      number = number;
      rest =
          append_cancel_left (field_bytes width b) left right
          (ap (λ n. field_bytes width n ++ left) (sym number) ∙ same);
    }

-- A flag is told by its byte.
flag_told : (flag other : Bool) → flag_byte flag ≡ flag_byte other → flag ≡ other
flag_told true true same = refl
flag_told true false same = absurd cc
flag_told false true same = absurd cc
flag_told false false same = refl

-- The bytes of a first client before others, and of what follows them.
first_client :
    (amount : ℕ) (flag : Bool) (others rest : List ℕ) →
    (client_bytes (amount, flag) ++ others) ++ rest ≡ field_bytes 4 amount ++ (flag_byte flag ∷ (others ++ rest))
first_client amount flag others rest =
    append_assoc (client_bytes (amount, flag)) others rest
    ∙ append_assoc (field_bytes 4 amount) (flag_byte flag ∷ []) (others ++ rest)

-- As many clients with the same bytes, and what follows them.
record SameClients (cash other_cash : List ℕ) (gone other_gone : List Bool) (left right : List ℕ) : Type 0 where
  amounts : cash ≡ other_cash
  flags : gone ≡ other_gone
  rest : left ≡ right

same_clients :
    (cash other_cash : List ℕ) (gone other_gone : List Bool) (left right : List ℕ) → length cash ≡ length other_cash →
    length gone ≡ length cash → length other_gone ≡ length other_cash → AllByRecursion (λ amount. amount < 2 ^ 32) cash →
    AllByRecursion (λ amount. amount < 2 ^ 32) other_cash →
    flat_map client_bytes (zip cash gone) ++ left ≡ flat_map client_bytes (zip other_cash other_gone) ++ right →
    SameClients cash other_cash gone other_gone left right
same_clients [] [] [] [] left right many flags other_flags fits other_fits same = record { amounts = refl; flags = refl; rest = same }
same_clients [] [] (g ∷ gs) other_gone left right many flags other_flags fits other_fits same = absurd (omega arith)
same_clients [] [] [] (h ∷ hs) left right many flags other_flags fits other_fits same = absurd (omega arith)
same_clients [] (y ∷ ys) gone other_gone left right many flags other_flags fits other_fits same = absurd (omega arith)
same_clients (x ∷ xs) [] gone other_gone left right many flags other_flags fits other_fits same = absurd (omega arith)
same_clients (x ∷ xs) (y ∷ ys) [] other_gone left right many flags other_flags fits other_fits same = absurd (omega arith)
same_clients (x ∷ xs) (y ∷ ys) (g ∷ gs) [] left right many flags other_flags fits other_fits same = absurd (omega arith)
same_clients (x ∷ xs) (y ∷ ys) (g ∷ gs) (h ∷ hs) left right many flags other_flags fits other_fits same =
    let others : List ℕ = flat_map client_bytes (zip xs gs) in
    let other_others : List ℕ = flat_map client_bytes (zip ys hs) in
    let first : SameField x y (flag_byte g ∷ (others ++ left)) (flag_byte h ∷ (other_others ++ right)) =
    same_field 4 x y (flag_byte g ∷ (others ++ left)) (flag_byte h ∷ (other_others ++ right)) fits.0 other_fits.0
    (sym (first_client x g others left) ∙ same ∙ first_client y h other_others right) in
    let flag : flag_byte g ≡ flag_byte h = (let same_rest = first.rest in cc) in
    let after : others ++ left ≡ other_others ++ right = (let same_rest = first.rest in cc) in
    let more : SameClients xs ys gs hs left right =
    same_clients xs ys gs hs left right (omega arith) (omega arith) (omega arith) fits.1 other_fits.1 after in
    record {
      amounts = ap₂ (λ a b. a ∷ b) first.number more.amounts;
      flags = ap₂ (λ a b. a ∷ b) (flag_told g h flag) more.flags;
      rest = more.rest;
    }

-- A head by its fields.
abbrev the_head : (tick seed drawn next_id pace : ℕ) (cash : List ℕ) (gone : List Bool) → Head
the_head tick seed drawn next_id pace cash gone =
    record {
      tick = tick;
      seed = seed;
      drawn = drawn;
      next_id = next_id;
      pace = pace;
      cash = cash;
      gone = gone;
    }

-- The header bytes after the tick, after the seed, and so on.
abbrev from_clients : Head → ℕ → List ℕ
from_clients h actors = clients_bytes h ++ field_bytes 4 actors

abbrev from_pace : Head → ℕ → List ℕ
from_pace h actors = h.pace ∷ length h.cash ∷ from_clients h actors

abbrev from_next_id : Head → ℕ → List ℕ
from_next_id h actors = field_bytes 4 h.next_id ++ from_pace h actors

abbrev from_drawn : Head → ℕ → List ℕ
from_drawn h actors = field_bytes 8 h.drawn ++ from_next_id h actors

abbrev from_seed : Head → ℕ → List ℕ
from_seed h actors = field_bytes 4 h.seed ++ from_drawn h actors

-- Two headers of the same bytes are of the same head and the same number of actors.
pub record SameHead (h k : Head) (m n : ℕ) : Type 0 where
  pub head : h ≡ k
  pub actors : m ≡ n

same_number : (width m n : ℕ) → m < 256 ^ width → n < 256 ^ width → field_bytes width m ≡ field_bytes width n → m ≡ n
same_number width m n fits other_fits same =
    (same_field width m n [] [] fits other_fits (ap (λ l. l ++ []) same)).number

pub same_header :
    (w v : World) → FitsFields w → FitsFields v →
    header_bytes (head_of w) (length w.actors) ≡ header_bytes (head_of v) (length v.actors) →
    SameHead (head_of w) (head_of v) (length w.actors) (length v.actors)
unfolding field_bytes
same_header w v fits other_fits same =
    let h = head_of w in
    let k = head_of v in
    let m = length w.actors in
    let n = length v.actors in
    let tick = same_field 4 w.tick v.tick (from_seed h m) (from_seed k n) fits.tick other_fits.tick same in
    let seed = same_field 4 w.seed v.seed (from_drawn h m) (from_drawn k n) fits.seed other_fits.seed tick.rest in
    let drawn = same_field 8 w.drawn v.drawn (from_next_id h m) (from_next_id k n) fits.drawn other_fits.drawn seed.rest in
    let next_id = same_field 4 w.next_id v.next_id (from_pace h m) (from_pace k n) fits.next_id other_fits.next_id drawn.rest in
    let pace : w.pace ≡ v.pace = (let same_rest = next_id.rest in cc) in
    let many : length w.cash ≡ length v.cash = (let same_rest = next_id.rest in cc) in
    let after : from_clients h m ≡ from_clients k n = (let same_rest = next_id.rest in cc) in
    let clients =
    same_clients w.cash v.cash w.gone v.gone (field_bytes 4 m) (field_bytes 4 n) many fits.flags other_fits.flags fits.cash other_fits.cash after in
    record {
      head =
          ap₂ (λ t s. the_head t s w.drawn w.next_id w.pace w.cash w.gone) tick.number seed.number
          ∙ ap₂ (λ d i. the_head v.tick v.seed d i w.pace w.cash w.gone) drawn.number next_id.number
          ∙ ap (λ p. the_head v.tick v.seed v.drawn v.next_id p w.cash w.gone) pace
          ∙ ap₂ (λ c g. the_head v.tick v.seed v.drawn v.next_id v.pace c g) clients.amounts clients.flags;
      actors = same_number 4 m n fits.actor_count other_fits.actor_count clients.rest;
    }

-- Two parts with the same bytes, and what follows them.
record SamePart {X : Type 0} (a b : X) (left right : List ℕ) : Type 0 where
  part : a ≡ b
  rest : left ≡ right

same_leg :
    (a b : Option Leg) (left right : List ℕ) → LegFits a → LegFits b →
    leg_bytes a ++ left ≡ leg_bytes b ++ right → SamePart a b left right
same_leg None None left right fits other_fits same = record { part = refl; rest = cc }
same_leg None (Some leg) left right fits other_fits same = absurd cc
same_leg (Some leg) None left right fits other_fits same = absurd cc
same_leg (Some leg) (Some other) left right fits other_fits same =
    let dir : leg.dir ≡ other.dir = cc in
    let after : field_bytes 4 leg.progress ++ left ≡ field_bytes 4 other.progress ++ right = cc in
    let progress = same_field 4 leg.progress other.progress left right fits other_fits after in
    record {
      part = ap₂ (λ d p. Some (the_leg d p)) dir progress.number;
      rest = progress.rest;
    } where
      the_leg : ℕ → ℕ → Leg
      the_leg d p = record { dir = d; progress = p }

abbrev the_cell : ℕ → ℕ → CPos
the_cell x y = record { x = x; y = y }

same_cell_waits :
    (make : CPos → ℕ → Activity) (a b : CPos) (m n : ℕ) (left right : List ℕ) →
    (a.x ∷ a.y ∷ m ∷ left) ≡ (b.x ∷ b.y ∷ n ∷ right) → SamePart (make a m) (make b n) left right
same_cell_waits make a b m n left right same =
    let x : a.x ≡ b.x = cc in
    let y : a.y ≡ b.y = cc in
    let waits : m ≡ n = cc in
    record { part = ap₂ make (ap₂ the_cell x y) waits; rest = cc }

same_timed :
    (make : CPos → ℕ → ℕ → Activity) (a b : CPos) (t u m n : ℕ) (left right : List ℕ) → t < 2 ^ 16 → u < 2 ^ 16 →
    (a.x ∷ a.y ∷ (field_bytes 2 t ++ (m ∷ left))) ≡ (b.x ∷ b.y ∷ (field_bytes 2 u ++ (n ∷ right))) →
    SamePart (make a t m) (make b u n) left right
same_timed make a b t u m n left right fits other_fits same =
    let x : a.x ≡ b.x = cc in
    let y : a.y ≡ b.y = cc in
    let after : field_bytes 2 t ++ (m ∷ left) ≡ field_bytes 2 u ++ (n ∷ right) = cc in
    let timer = same_field 2 t u (m ∷ left) (n ∷ right) fits other_fits after in
    let waits : m ≡ n = (let same_rest = timer.rest in cc) in
    record {
      part = ap₂ (λ c k. make c k m) (ap₂ the_cell x y) timer.number ∙ ap (make b u) waits;
      rest = (let same_rest = timer.rest in cc);
    }

tail_of : (x y : ℕ) (left right : List ℕ) → (x ∷ left) ≡ (y ∷ right) → left ≡ right
tail_of x y left right same = cc

-- The bytes of an activity with a timer, and of what follows it.
timed_bytes :
    (p : CPos) (t m : ℕ) (rest : List ℕ) →
    (cell_bytes p ++ (field_bytes 2 t ++ m ∷ [])) ++ rest ≡ (p.x ∷ p.y ∷ (field_bytes 2 t ++ (m ∷ rest)))
timed_bytes p t m rest = ap (λ l. p.x ∷ p.y ∷ l) (append_assoc (field_bytes 2 t) (m ∷ []) rest)

same_activity :
    (a b : Activity) (left right : List ℕ) → ActivityFits a → ActivityFits b →
    activity_bytes a ++ left ≡ activity_bytes b ++ right → SamePart a b left right
same_activity (Move goal waits) (Move other other_waits) left right fits other_fits same =
    same_cell_waits Move goal other waits other_waits left right (tail_of 1 1 _ _ same)
same_activity (Attack target waits) (Attack other other_waits) left right fits other_fits same =
    let after =
    sym (append_assoc (field_bytes 4 target) (waits ∷ []) left) ∙ tail_of 2 2 _ _ same
    ∙ append_assoc (field_bytes 4 other) (other_waits ∷ []) right in
    let aim = same_field 4 target other (waits ∷ left) (other_waits ∷ right) fits other_fits after in
    let same_waits : waits ≡ other_waits = (let same_rest = aim.rest in cc) in
    record { part = ap₂ Attack aim.number same_waits; rest = (let same_rest = aim.rest in cc) }
same_activity (Harvest cell timer waits) (Harvest other other_timer other_waits) left right fits other_fits same =
    same_timed Harvest cell other timer other_timer waits other_waits left right fits other_fits (sym (timed_bytes cell timer waits left) ∙ tail_of 3 3 _ _ same ∙ timed_bytes other other_timer other_waits right)
same_activity (Deliver cell timer waits) (Deliver other other_timer other_waits) left right fits other_fits same =
    same_timed Deliver cell other timer other_timer waits other_waits left right fits other_fits (sym (timed_bytes cell timer waits left) ∙ tail_of 4 4 _ _ same ∙ timed_bytes other other_timer other_waits right)
same_activity (Move g w) (Attack t x) left right fits other_fits same = absurd cc
same_activity (Move g w) (Harvest c t x) left right fits other_fits same = absurd cc
same_activity (Move g w) (Deliver c t x) left right fits other_fits same = absurd cc
same_activity (Attack t x) (Move g w) left right fits other_fits same = absurd cc
same_activity (Attack t x) (Harvest c u y) left right fits other_fits same = absurd cc
same_activity (Attack t x) (Deliver c u y) left right fits other_fits same = absurd cc
same_activity (Harvest c t x) (Move g w) left right fits other_fits same = absurd cc
same_activity (Harvest c t x) (Attack u y) left right fits other_fits same = absurd cc
same_activity (Harvest c t x) (Deliver d u y) left right fits other_fits same = absurd cc
same_activity (Deliver c t x) (Move g w) left right fits other_fits same = absurd cc
same_activity (Deliver c t x) (Attack u y) left right fits other_fits same = absurd cc
same_activity (Deliver c t x) (Harvest d u y) left right fits other_fits same = absurd cc

abbrev the_build : ℕ → ℕ → Build
the_build k l = record { kind = k; left = l }

same_build :
    (a b : Build) (left right : List ℕ) → BuildFits a → BuildFits b →
    build_bytes a ++ left ≡ build_bytes b ++ right → SamePart a b left right
same_build a b left right fits other_fits same =
    let after =
    sym (append_assoc (field_bytes 2 a.kind) (field_bytes 2 a.left) left) ∙ same
    ∙ append_assoc (field_bytes 2 b.kind) (field_bytes 2 b.left) right in
    let kind = same_field 2 a.kind b.kind (field_bytes 2 a.left ++ left) (field_bytes 2 b.left ++ right) fits.kind other_fits.kind after in
    let turns = same_field 2 a.left b.left left right fits.turns other_fits.turns kind.rest in
    record { part = ap₂ the_build kind.number turns.number; rest = turns.rest }

-- As many parts with the same bytes, and what follows them, for parts that their bytes tell.
same_parts :
    {X : Type 0} (Fits : X → Type 0) (bytes : X → List ℕ) →
    ((a b : X) (left right : List ℕ) → Fits a → Fits b → bytes a ++ left ≡ bytes b ++ right → SamePart a b left right) →
    (xs ys : List X) (left right : List ℕ) → length xs ≡ length ys → AllByRecursion Fits xs → AllByRecursion Fits ys →
    flat_map bytes xs ++ left ≡ flat_map bytes ys ++ right → SamePart xs ys left right
same_parts Fits bytes told [] [] left right many fits other_fits same = record { part = refl; rest = same }
same_parts Fits bytes told [] (y ∷ ys) left right many fits other_fits same = absurd (omega arith)
same_parts Fits bytes told (x ∷ xs) [] left right many fits other_fits same = absurd (omega arith)
same_parts Fits bytes told (x ∷ xs) (y ∷ ys) left right many fits other_fits same =
    let after =
    sym (append_assoc (bytes x) (flat_map bytes xs) left) ∙ same ∙ append_assoc (bytes y) (flat_map bytes ys) right in
    let first = told x y (flat_map bytes xs ++ left) (flat_map bytes ys ++ right) fits.0 other_fits.0 after in
    let others = same_parts Fits bytes told xs ys left right (omega arith) fits.1 other_fits.1 first.rest in
    record { part = ap₂ (λ a l. a ∷ l) first.part others.part; rest = others.rest }

-- An actor by its fields.
abbrev the_actor :
    (id kind owner : ℕ) → CPos → (facing : ℕ) → Option Leg → (health load reload : ℕ) → List Activity → List Build → Actor
the_actor id kind owner cell facing leg health load reload acts builds =
    record {
      id = id;
      kind = kind;
      cell = cell;
      body =
          record {
            owner = owner;
            facing = facing;
            leg = leg;
            health = health;
            load = load;
            reload = reload;
            acts = acts;
            builds = builds;
          };
    }

-- The bytes of an actor from each part on.
abbrev pub from_acts : Actor → List ℕ
from_acts a = acts_bytes a.body.acts ++ builds_bytes a.body.builds

abbrev pub from_health : Actor → List ℕ
from_health a = field_bytes 4 a.body.health ++ (field_bytes 2 a.body.load ++ (field_bytes 2 a.body.reload ++ from_acts a))

abbrev pub from_facing : Actor → List ℕ
from_facing a = field_bytes 2 a.body.facing ++ (leg_bytes a.body.leg ++ from_health a)

abbrev pub from_owner : Actor → List ℕ
from_owner a = a.body.owner ∷ a.cell.x ∷ a.cell.y ∷ from_facing a

pub in_order : (a : Actor) → actor_bytes a ≡ field_bytes 4 a.id ++ (field_bytes 2 a.kind ++ from_owner a)
unfolding actor_bytes
in_order a = simp append_assoc refl

pub same_actor : (a b : Actor) → ActorFits a → ActorFits b → actor_bytes a ≡ actor_bytes b → a ≡ b
same_actor a b fits other_fits same =
    let p = a.body in
    let q = b.body in
    let id = same_field 4 a.id b.id (field_bytes 2 a.kind ++ from_owner a) (field_bytes 2 b.kind ++ from_owner b) fits.id other_fits.id (sym (in_order a) ∙ same ∙ in_order b) in
    let kind = same_field 2 a.kind b.kind (from_owner a) (from_owner b) fits.kind other_fits.kind id.rest in
    let owner : p.owner ≡ q.owner = (let same_rest = kind.rest in cc) in
    let x : a.cell.x ≡ b.cell.x = (let same_rest = kind.rest in cc) in
    let y : a.cell.y ≡ b.cell.y = (let same_rest = kind.rest in cc) in
    let after : from_facing a ≡ from_facing b = (let same_rest = kind.rest in cc) in
    let facing = same_field 2 p.facing q.facing (leg_bytes p.leg ++ from_health a) (leg_bytes q.leg ++ from_health b) fits.facing other_fits.facing after in
    let leg = same_leg p.leg q.leg (from_health a) (from_health b) fits.leg other_fits.leg facing.rest in
    let health = same_field 4 p.health q.health (field_bytes 2 p.load ++ (field_bytes 2 p.reload ++ from_acts a)) (field_bytes 2 q.load ++ (field_bytes 2 q.reload ++ from_acts b)) fits.health other_fits.health leg.rest in
    let load = same_field 2 p.load q.load (field_bytes 2 p.reload ++ from_acts a) (field_bytes 2 q.reload ++ from_acts b) fits.load other_fits.load health.rest in
    let reload = same_field 2 p.reload q.reload (from_acts a) (from_acts b) fits.reload other_fits.reload load.rest in
    let many : length p.acts ≡ length q.acts = (let same_rest = reload.rest in cc) in
    let listed : flat_map activity_bytes p.acts ++ builds_bytes p.builds ≡ flat_map activity_bytes q.acts ++ builds_bytes q.builds =
    (let same_rest = reload.rest in cc) in
    let acts = same_parts ActivityFits activity_bytes same_activity p.acts q.acts (builds_bytes p.builds) (builds_bytes q.builds) many (recursion_from_All ActivityFits p.acts fits.acts) (recursion_from_All ActivityFits q.acts other_fits.acts) listed in
    let build_many : length p.builds ≡ length q.builds = (let same_rest = acts.rest in cc) in
    let build_listed : flat_map build_bytes p.builds ≡ flat_map build_bytes q.builds = (let same_rest = acts.rest in cc) in
    let builds = same_parts BuildFits build_bytes same_build p.builds q.builds [] [] build_many (recursion_from_All BuildFits p.builds fits.builds) (recursion_from_All BuildFits q.builds other_fits.builds) (ap (λ l. l ++ []) build_listed) in
    ap₂ (λ i k. the_actor i k p.owner a.cell p.facing p.leg p.health p.load p.reload p.acts p.builds) id.number kind.number
    ∙ ap₂ (λ o c. the_actor b.id b.kind o c p.facing p.leg p.health p.load p.reload p.acts p.builds) owner (ap₂ the_cell x y)
    ∙ ap₂ (λ f l. the_actor b.id b.kind q.owner b.cell f l p.health p.load p.reload p.acts p.builds) facing.number leg.part
    ∙ ap₂ (λ h l. the_actor b.id b.kind q.owner b.cell q.facing q.leg h l p.reload p.acts p.builds) health.number load.number
    ∙ ap₂ (λ r l. the_actor b.id b.kind q.owner b.cell q.facing q.leg q.health q.load r l p.builds) reload.number acts.part
    ∙ ap (λ l. the_actor b.id b.kind q.owner b.cell q.facing q.leg q.health q.load q.reload q.acts l) builds.part

-- As many actors with the same byte lists, and what follows them.
record SameActors (xs ys : List Actor) (left right : List (List ℕ)) : Type 0 where
  actors : xs ≡ ys
  rest : left ≡ right

same_actors :
    (xs ys : List Actor) (left right : List (List ℕ)) → length xs ≡ length ys → AllByRecursion ActorFits xs →
    AllByRecursion ActorFits ys → map actor_bytes xs ++ left ≡ map actor_bytes ys ++ right →
    SameActors xs ys left right
same_actors [] [] left right many fits other_fits same = record { actors = refl; rest = same }
same_actors [] (y ∷ ys) left right many fits other_fits same = absurd (omega arith)
same_actors (x ∷ xs) [] left right many fits other_fits same = absurd (omega arith)
same_actors (x ∷ xs) (y ∷ ys) left right many fits other_fits same =
    let first : actor_bytes x ≡ actor_bytes y = cc in
    let others : map actor_bytes xs ++ left ≡ map actor_bytes ys ++ right = cc in
    let more = same_actors xs ys left right (omega arith) fits.1 other_fits.1 others in
    record {
      actors = ap₂ (λ a l. a ∷ l) (same_actor x y fits.0 other_fits.0 first) more.actors;
      rest = more.rest;
    }

-- Two cells with the same column and row have the same place.
pub same_cell_place : (width p q : ℕ) → p % width ≡ q % width → p / width ≡ q / width → p ≡ q
same_cell_place width p q column row =
    sym (div-add-mod' p width) ∙ ap₂ (λ r c. r * width + c) row column ∙ div-add-mod' q width

-- No cell with ore among those after a place is that of the place.
none_later :
    (width place from ore : ℕ) (cells : List ℕ) (rest : List (List ℕ)) → place < from →
    ore_parts width from cells ≡ ore_bytes (cell_at width place) ore ∷ rest → ⊥
none_later width place from ore [] rest later same = cc
none_later width place from ore (x ∷ cells) rest later same =
    by_ore (x == 0) refl (none_later width place (from + 1) ore cells rest (omega arith)) same where
      by_ore :
          (none : Bool) → (x == 0) ≡ none →
          (ore_parts width (from + 1) cells ≡ ore_bytes (cell_at width place) ore ∷ rest → ⊥) →
          ore_parts width from (x ∷ cells) ≡ ore_bytes (cell_at width place) ore ∷ rest → ⊥
      by_ore true is again parts = again (rw is at parts)
      by_ore false is again parts =
          let heads : (ore_bytes (cell_at width from) x ∷ ore_parts width (from + 1) cells) ≡ ore_bytes (cell_at width place) ore ∷ rest = rw is at parts in
          let column : from % width ≡ place % width = cc in
          let row : from / width ≡ place / width = cc in
          let same_places = same_cell_place width from place column row in
          omega arith

is_none : (ore : ℕ) → (ore == 0) ≡ true → ore ≡ 0
is_none ore is = grind (arith, nat_tests)

same_ore :
    (width place : ℕ) (xs ys : List ℕ) → length xs ≡ length ys → ore_parts width place xs ≡ ore_parts width place ys →
    xs ≡ ys
same_ore width place [] [] many same = refl
same_ore width place [] (y ∷ ys) many same = absurd (omega arith)
same_ore width place (x ∷ xs) [] many same = absurd (omega arith)
same_ore width place (x ∷ xs) (y ∷ ys) many same =
    by_ore (x == 0) refl (y == 0) refl (same_ore width (place + 1) xs ys (omega arith)) same where
      by_ore :
          (none : Bool) → (x == 0) ≡ none → (none_other : Bool) → (y == 0) ≡ none_other →
          (ore_parts width (place + 1) xs ≡ ore_parts width (place + 1) ys → xs ≡ ys) →
          ore_parts width place (x ∷ xs) ≡ ore_parts width place (y ∷ ys) → (x ∷ xs) ≡ (y ∷ ys)
      by_ore true is true other again parts =
          ap₂ (λ a l. a ∷ l) (is_none x is ∙ sym (is_none y other)) (again (rw (is, other) at parts))
      by_ore true is false other again parts =
          absurd (none_later width place (place + 1) y xs (ore_parts width (place + 1) ys) (omega arith) (rw (is, other) at parts))
      by_ore false is true other again parts =
          absurd (none_later width place (place + 1) x ys (ore_parts width (place + 1) xs) (omega arith) (sym (rw (is, other) at parts)))
      by_ore false is false other again parts =
          let heads : (ore_bytes (cell_at width place) x ∷ ore_parts width (place + 1) xs) ≡ (ore_bytes (cell_at width place) y ∷ ore_parts width (place + 1) ys) = rw (is, other) at parts in
          let first : x ≡ y = cc in
          let others : ore_parts width (place + 1) xs ≡ ore_parts width (place + 1) ys = cc in
          ap₂ (λ a l. a ∷ l) first (again others)

abbrev pub the_grid : ℕ → ℕ → List ℕ → Grid ℕ
the_grid width height cells = record { width = width; height = height; cells = cells }

-- Two worlds of one size with the same byte lists are the same world.
pub same_worlds :
    (w v : World) → FitsFields w → FitsFields v → w.ore.width ≡ v.ore.width → w.ore.height ≡ v.ore.height →
    parts_of w ≡ parts_of v → w ≡ v
same_worlds w v fits other_fits width height same =
    let first : header_bytes (head_of w) (length w.actors) ≡ header_bytes (head_of v) (length v.actors) = cc in
    let header = same_header w v fits other_fits first in
    let others : map actor_bytes w.actors ++ ore_parts w.ore.width 0 w.ore.cells ≡ map actor_bytes v.actors ++ ore_parts v.ore.width 0 v.ore.cells = cc in
    let actors = same_actors w.actors v.actors (ore_parts w.ore.width 0 w.ore.cells) (ore_parts v.ore.width 0 v.ore.cells) header.actors (recursion_from_All ActorFits w.actors fits.actors) (recursion_from_All ActorFits v.actors other_fits.actors) others in
    let many : length w.ore.cells ≡ length v.ore.cells =
    fits.cells ∙ ap₂ (λ a b. a * b) width height ∙ sym other_fits.cells in
    let cells = same_ore v.ore.width 0 w.ore.cells v.ore.cells many (rw width at actors.rest) in
    ap₂ (λ h l. world_with h l w.ore) header.head actors.actors
    ∙ ap (λ o. world_with (head_of v) v.actors o) (ap₂ (λ a b. the_grid a b w.ore.cells) width height ∙ ap (the_grid v.ore.width v.ore.height) cells)
