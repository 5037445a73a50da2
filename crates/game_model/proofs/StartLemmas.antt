-- Proofs that the opening world is valid.
use Rattle.std.specs.Prelude.{◌≡◌, ◌≢◌, ℕ, zero, suc, ◌+◌, ◌<◌, ◌≤◌, nat_lt, Bool, true, false, if◌then◌else◌}
use Rattle.std.specs.Prelude.{List, [], ◌∷◌, length, Option, Some, None, refl, slice_get, IfSome}
use Rattle.std.specs.Prelude.{replicate}
use Rattle.std.specs.List.{All, AllPairs}
use Rattle.std.specs.Option.{IsSomeAnd}
use Rattle.std.proofs.Common.{sym, ◌∙◌, ap, subst, inl, inr, arith}
use Rattle.std.proofs.lemmas.Bool.{ltb-true}
use Rattle.std.proofs.lemmas.List.{length-replicate}
use Rattle.std.proofs.lemmas.List.Elements.{All-nil, All-cons, All-head, All-tail, All-replicate}
use Rattle.std.proofs.lemmas.List.Elements.{All-get_or}
use Rattle.std.proofs.lemmas.List.Kept.{AllPairs-cons}
use Rattle.std.proofs.lemmas.Option.{get_or_from_slice_get, slice_get_within}
use Rattle.game_orders.specs.declared.limits.TheConstants.{MAX_CLIENTS}
use Rattle.rule_traits.specs.declared.kind.Kind.{Kind}
use Rattle.rule_traits.specs.declared.trait_fields.Health.{Health}
use Rattle.rule_traits.specs.Rules.{kind_at, hp_of, full_health}
use Rattle.rule_traits.specs.ValidRules.{AreValidRules, IsValidHealth, IsValidKind}
use Rattle.game_model.specs.declared.actor.Actor.{Actor}
use Rattle.game_model.specs.declared.limits.TheConstants.{NEUTRAL, MAX_CASH}
use Rattle.game_model.specs.declared.map.Start.{Start}
use Rattle.game_model.specs.Setup.{Setup}
use Rattle.game_model.specs.ValidMap.{IsOwner, IsStartFor, IsMapFor, IsSetup}
use Rattle.game_model.specs.ValidWorld.{IsBodyOf, IsSoundActor, IsHealthOf, IsHealthy}
use Rattle.game_model.specs.ValidWorld.{IsValidWorld, StepReady}
use Rattle.game_model.specs.World.{full_health_of, new_body, new_actor, owner_in, opening_actors}
use Rattle.game_model.specs.World.{start_of}

-- What holds of the first and each later one holds of the later ones.
pub pairs_head :
    {X : Type 0} (R : X → X → Type 0) (x : X) (xs : List X) → AllPairs R (x ∷ xs) → All (R x) xs
pairs_head R x xs pairs = λ k d within. pairs 0 (suc k) d (omega arith) (omega arith)

pub pairs_tail :
    {X : Type 0} (R : X → X → Type 0) (x : X) (xs : List X) → AllPairs R (x ∷ xs) → AllPairs R xs
pairs_tail R x xs pairs = λ i j d less within. pairs (suc i) (suc j) d (omega arith) (omega arith)

no_pairs : {X : Type 0} (R : X → X → Type 0) → AllPairs R []
no_pairs R = λ i j d less within. absurd (omega arith)

-- What holds of whatever stands at a number holds of what is there.
pub is_some_and :
    {X : Type 0} (P : X → Type 0) (found : Option X) → (found ≡ None → ⊥) →
    ((x : X) → found ≡ Some x → P x) → IsSomeAnd found P
is_some_and P None there holds = there refl
is_some_and P (Some x) there holds = holds x refl

-- A number below the length stands for something.
pub is_there : {X : Type 0} (xs : List X) (k : ℕ) → k < length xs → slice_get xs k ≡ None → ⊥
is_there [] k within none = omega arith
is_there (x ∷ xs) zero within none = absurd cc
is_there (x ∷ xs) (suc k) within none = is_there xs k (omega arith) none

-- What holds of all holds of what stands at a number.
pub all_at :
    {X : Type 0} (P : X → Type 0) (xs : List X) (k : ℕ) (x : X) → All P xs →
    slice_get xs k ≡ Some x → P x
all_at P xs k x all found =
    subst P (get_or_from_slice_get xs k x x found)
    (All-get_or P xs k x (slice_get_within xs k x found) all)

-- A kind has at least one hit point.
least_health : (health : Option Health) → IfSome health IsValidHealth → 1 ≤ full_health health
least_health None valid = omega arith
least_health (Some health) valid = valid.hp.0

pub least_hp :
    (rules : List Kind) (k : ℕ) (kind : Kind) → AreValidRules rules → kind_at rules k ≡ Some kind →
    1 ≤ hp_of kind
least_hp rules k kind valid found =
    let one : IsValidKind (length rules) kind = all_at (IsValidKind (length rules)) rules k kind valid.kinds found in
    least_health kind.health one.health

-- An owner of a match with fewer clients.
owner_of_few :
    (few : Bool) (clients owner : ℕ) → nat_lt owner clients ≡ few →
    IsOwner clients (if few then owner else NEUTRAL)
owner_of_few true clients owner below = inl (ltb-true owner clients below)
owner_of_few false clients owner below = inr refl

pub is_owner_in : (clients owner : ℕ) → IsOwner clients (owner_in clients owner)
is_owner_in clients owner = owner_of_few (nat_lt owner clients) clients owner refl

-- A new body is one of any kind.
pub new_body_of :
    (setup : Setup) (kind : Kind) (owner facing health : ℕ) → IsBodyOf setup kind (new_body owner facing health)
new_body_of setup kind owner facing health =
    record {
      leg = tt;
      load = omega arith;
      reload = omega arith;
      act_count = omega arith;
      acts = All-nil _;
      build_count = omega arith;
      builds = All-nil _;
    }

-- What holds of each new actor of the map holds of all.
each_opening :
    (P : Actor → Type 0) (Q : Start → Type 0) (rules : List Kind) (clients id : ℕ) (starts : List Start) →
    ((i : ℕ) (s : Start) → id ≤ i → i < id + length starts → Q s →
    P (new_actor rules i s.kind (owner_in clients s.owner) s.cell s.facing)) →
    All Q starts → All P (opening_actors rules clients id starts)
each_opening P Q rules clients id [] each all = All-nil P
each_opening P Q rules clients id (s ∷ starts) each all =
    All-cons P (new_actor rules id s.kind (owner_in clients s.owner) s.cell s.facing)
    (opening_actors rules clients (id + 1) starts)
    (each id s (omega arith) (omega arith) (All-head Q s starts all))
    (each_opening P Q rules clients (id + 1) starts (λ i t low high holds. each i t (omega arith) (omega arith) holds) (All-tail Q s starts all))

length-opening :
    (rules : List Kind) (clients id : ℕ) (starts : List Start) →
    length (opening_actors rules clients id starts) ≡ length starts
length-opening rules clients id [] = refl
length-opening rules clients id (s ∷ starts) = ap suc (length-opening rules clients (id + 1) starts)

-- Ids rise.
rising_ids :
    (rules : List Kind) (clients id : ℕ) (starts : List Start) →
    AllPairs (λ (a b : Actor). a.id < b.id) (opening_actors rules clients id starts)
rising_ids rules clients id [] = no_pairs (λ (a b : Actor). a.id < b.id)
rising_ids rules clients id (s ∷ starts) =
    let first : Actor = new_actor rules id s.kind (owner_in clients s.owner) s.cell s.facing in
    AllPairs-cons (λ (a b : Actor). a.id < b.id) first (opening_actors rules clients (id + 1) starts)
    (each_opening (λ b. id < b.id) (λ t. Unit {0}) rules clients (id + 1) starts (λ i t low high holds. omega arith) (λ k d within. tt))
    (rising_ids rules clients (id + 1) starts)

-- Cells differ as the starts' do.
cells_apart :
    (rules : List Kind) (clients id : ℕ) (starts : List Start) →
    AllPairs (λ (a b : Start). a.cell ≢ b.cell) starts →
    AllPairs (λ (a b : Actor). a.cell ≢ b.cell) (opening_actors rules clients id starts)
cells_apart rules clients id [] apart = no_pairs (λ (a b : Actor). a.cell ≢ b.cell)
cells_apart rules clients id (s ∷ starts) apart =
    let first : Actor = new_actor rules id s.kind (owner_in clients s.owner) s.cell s.facing in
    AllPairs-cons (λ (a b : Actor). a.cell ≢ b.cell) first (opening_actors rules clients (id + 1) starts)
    (each_opening (λ b. s.cell ≢ b.cell) (λ t. s.cell ≢ t.cell) rules clients (id + 1) starts (λ i t low high holds. holds) (pairs_head (λ (a b : Start). a.cell ≢ b.cell) s starts apart))
    (cells_apart rules clients (id + 1) starts (pairs_tail (λ (a b : Start). a.cell ≢ b.cell) s starts apart))

-- A new actor of a start.
sound_new :
    (setup : Setup) (clients next id : ℕ) (s : Start) → 1 ≤ id → id < next →
    IsStartFor setup.rules setup.map s →
    IsSoundActor setup clients next (new_actor setup.rules id s.kind (owner_in clients s.owner) s.cell s.facing)
sound_new setup clients next id s least most is =
    record {
      least_id = least;
      most_id = most;
      owner = is_owner_in clients s.owner;
      cell = is.cell;
      facing = is.facing;
      body =
          is_some_and (λ kind. IsBodyOf setup kind (new_body (owner_in clients s.owner) s.facing (full_health_of (kind_at setup.rules s.kind)))) (kind_at setup.rules s.kind)
          (is_there setup.rules s.kind is.kind)
          (λ kind found. new_body_of setup kind (owner_in clients s.owner) s.facing (full_health_of (kind_at setup.rules s.kind)));
    }

healthy_at : (kind : Kind) (found : Option Kind) → found ≡ Some kind → 1 ≤ hp_of kind → IsHealthOf (full_health_of found) kind
healthy_at kind found is least =
    subst (λ (o : Option Kind). IsHealthOf (full_health_of o) kind) (sym is) (record { least = least; most = omega arith })

healthy_new :
    (setup : Setup) (clients id : ℕ) (s : Start) → AreValidRules setup.rules →
    IsStartFor setup.rules setup.map s →
    IsHealthy setup.rules (new_actor setup.rules id s.kind (owner_in clients s.owner) s.cell s.facing)
healthy_new setup clients id s valid is =
    is_some_and (IsHealthOf (full_health_of (kind_at setup.rules s.kind))) (kind_at setup.rules s.kind)
    (is_there setup.rules s.kind is.kind)
    (λ kind found. healthy_at kind (kind_at setup.rules s.kind) found (least_hp setup.rules s.kind kind valid found))

opening_ready :
    (setup : Setup) (clients : ℕ) → IsMapFor setup.rules setup.map →
    StepReady setup clients (1 + length setup.map.starts) (opening_actors setup.rules clients 1 setup.map.starts)
opening_ready setup clients map =
    let starts : List Start = setup.map.starts in
    record {
      each =
          each_opening (IsSoundActor setup clients (1 + length starts)) (IsStartFor setup.rules setup.map) setup.rules clients 1 starts
          (λ i s low high is. sound_new setup clients (1 + length starts) i s low high is) map.starts;
      rise = rising_ids setup.rules clients 1 starts;
      apart = cells_apart setup.rules clients 1 starts map.apart;
      count = omega (arith, length-opening setup.rules clients 1 starts, map.count);
      next = omega arith;
    }

-- The opening world is valid.
pub start_valid :
    (setup : Setup) (seed clients : ℕ) → IsSetup setup → 1 ≤ clients → clients ≤ MAX_CLIENTS →
    IsValidWorld setup 0 (start_of setup seed clients)
unfolding start_of
start_valid setup seed clients is least most =
    let counted : length (replicate clients setup.map.cash) ≡ clients = length-replicate clients setup.map.cash in
    let flagged : length (replicate clients false) ≡ clients = length-replicate clients false in
    record {
      ore = is.map.ore;
      least_tick = omega arith;
      most_tick = omega arith;
      drawn = omega arith;
      pace = record { least = omega arith; most = omega arith };
      clients = record { least = omega (arith, counted); most = omega (arith, counted); flags = flagged ∙ sym counted };
      cash = All-replicate (λ cash. cash ≤ MAX_CASH) clients setup.map.cash is.map.cash;
      actors =
          subst (λ (c : ℕ). StepReady setup c (1 + length setup.map.starts) (opening_actors setup.rules clients 1 setup.map.starts)) (sym counted)
          (opening_ready setup clients is.map);
      health =
          each_opening (IsHealthy setup.rules) (IsStartFor setup.rules setup.map) setup.rules clients 1 setup.map.starts
          (λ i s low high start. healthy_new setup clients i s is.rules start) is.map.starts;
    }
