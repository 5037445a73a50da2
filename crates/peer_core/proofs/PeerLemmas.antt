-- What a delivery and a tick keep of a peer, and what the answer to a tick means.
use Rattle.std.proofs.Common.{◌≡◌, ℕ, ◌+◌, ◌<◌, ◌≤◌, true, List, refl, sym, ap, subst, ◌∙◌}
use Rattle.std.proofs.Common.{arith, inl, inr, ◌⊎◌}
use Rattle.std.specs.Prelude.{slice_get, Option, Some, None, Result, Ok, Err, OnOk, OnErr}
use Rattle.std.specs.List.{list_all}
use Rattle.std.proofs.lemmas.Option.{slice_get_cases}
use Rattle.game_orders.specs.declared.entry.Entry.{Entry}
use Rattle.game_orders.specs.declared.entry.Entry.TheVariants.{Play, Leave}
use Rattle.game_orders.specs.declared.limits.TheConstants.{MAX_FRAMES}
use Rattle.frame_core.specs.declared.input.Input.{Input}
use Rattle.frame_core.specs.declared.ready.Ready.{Ready}
use Rattle.frame_core.specs.declared.ready.Ready.TheVariants.{Yes, NotYet as Waits, Over as Ended}
use Rattle.frame_core.specs.declared.tick_answer.TickAnswer.TheVariants.{Ticked, NotYet, Over}
use Rattle.frame_core.specs.Input.{input_of, MeansInput}
use Rattle.frame_core.proofs.InputLemmas.{ready_means}
use Rattle.peer_core.specs.declared.arrived.Arrived.{Arrived}
use Rattle.peer_core.specs.Arrived.{kept_at, left_before, or_left, has_of, inputs_by, ready_by}
use Rattle.peer_core.specs.Arrived.{frame_by, IsRising, IsEnded}
use Rattle.peer_core.specs.Delivery.{is_in_match, arrived_after}
use Rattle.peer_core.specs.Entries.{Entries, all_arrived}
use Rattle.peer_core.specs.Peer.{PeerState, IsPeer}
use Rattle.peer_core.specs.Tick.{HasPlayed, HasLeftBy, HasNothing, MeansReadyBy, MeansTick}
use Rattle.peer_core.proofs.EachLemmas.{inputs_length, input_there}
use Rattle.peer_core.proofs.MatchLemmas.{delivered_in_match}
use Rattle.peer_core.proofs.RisingLemmas.{delivered_rising, either_by}
use Rattle.peer_core.proofs.EndedLemmas.{delivered_ended, departed}
use Rattle.peer_core.proofs.MeansLemmas.{left_kept}

-- A delivery, also one that is out of memory.
pub delivered_whole :
    {W A E : Type 0} (clients_of steps : W → ℕ) (peer : PeerState W) (result : Result A E)
    (new : List Arrived) (c n : ℕ) (entry : Entry) →
    OnOk result (new ≡ arrived_after peer.arrived c n entry) → OnErr result (new ≡ peer.arrived) →
    IsPeer clients_of steps peer →
    IsPeer clients_of steps (record peer { arrived = new })
delivered_whole clients_of steps peer result new c n entry ok err whole =
    let old = peer.arrived in
    let more = arrived_after old c n entry in
    record {
      world_clients = whole.world_clients;
      world_steps = whole.world_steps;
      own = whole.own;
      most_clients = whole.most_clients;
      least_lag = whole.least_lag;
      most_lag = whole.most_lag;
      most_ticked = whole.most_ticked;
      most_sealed = whole.most_sealed;
      ahead = whole.ahead;
      in_match =
          either_by (λ xs. list_all is_in_match xs ≡ true) result old new more ok err whole.in_match
          (delivered_in_match old c n entry whole.in_match);
      rising = either_by IsRising result old new more ok err whole.rising
          (delivered_rising old c n entry whole.rising);
      ended = either_by IsEnded result old new more ok err whole.ended
          (delivered_ended old c n entry whole.ended);
    }

-- Where a delivery is out of memory, what arrived stays.
pub err_same :
    {A E : Type 0} (result : Result A E) (old new : List Entries) → OnErr result (new ≡ old) →
    OnErr result (all_arrived 0 new ≡ all_arrived 0 old)
err_same (Ok answer) old new same = tt
err_same (Err fault) old new same = ap (all_arrived 0) same

-- A tick of a frame that a match has.
pub ticked_whole :
    {W : Type 0} (clients_of steps : W → ℕ) (peer : PeerState W) (world : W) →
    peer.ticked < MAX_FRAMES →
    clients_of world ≡ clients_of peer.world → steps world ≡ steps peer.world + 1 →
    IsPeer clients_of steps peer →
    IsPeer clients_of steps (record peer { ticked = peer.ticked + 1; world = world })
ticked_whole clients_of steps peer world below clients counted whole =
    record {
      world_clients = clients ∙ whole.world_clients;
      world_steps = counted ∙ ap (λ n. n + 1) whole.world_steps;
      own = whole.own;
      most_clients = whole.most_clients;
      least_lag = whole.least_lag;
      most_lag = whole.most_lag;
      most_ticked = omega (arith, below);
      most_sealed = whole.most_sealed;
      ahead = omega (arith, whole.ahead);
      in_match = whole.in_match;
      rising = whole.rising;
      ended = whole.ended;
    }

-- What a client has for a frame, in words of what has arrived.
no_entry : {E : Type 0} (entry : E) → None ≡ Some entry → ⊥
no_entry entry same = cc

has_means :
    (arrived : List Arrived) (n c : ℕ) (kept : Option Entry) (left : Option ℕ) → IsRising arrived →
    kept_at arrived c n ≡ kept → left_before arrived c n ≡ left →
    MeansInput (HasPlayed arrived n) (HasLeftBy arrived n) (HasNothing arrived n) c
    (input_of (or_left kept left))
has_means arrived n c (Some (Play orders)) left rising kept_is left_is = (orders, kept_is)
has_means arrived n c (Some Leave) left rising kept_is left_is = (n, omega arith, kept_is)
has_means arrived n c None (Some at) rising kept_is left_is =
    let before = left_kept arrived c n at rising left_is in
    (at, (let low : at < n = before.0 in omega (arith, low)), before.1)
has_means arrived n c None None rising kept_is left_is = (
  (λ orders play. no_entry (Play orders) (sym kept_is ∙ play)),
  (λ m up_to leave. by_place m (at_or_before m up_to) leave),
)
  where
    at_or_before : (m : ℕ) → m ≤ n → (m < n) ⊎ (m ≡ n)
    at_or_before m up_to = grind arith

    by_place : (m : ℕ) → (m < n) ⊎ (m ≡ n) → kept_at arrived c m ≡ Some Leave → ⊥
    by_place m (inl before) leave = departed arrived c m n before leave left_is
    by_place m (inr same) leave = no_entry Leave
        (sym kept_is ∙ ap (kept_at arrived c) (sym same) ∙ leave)

input_means :
    (arrived : List Arrived) (clients n c : ℕ) (input : Input) → IsRising arrived →
    slice_get (inputs_by arrived clients n) c ≡ Some input →
    MeansInput (HasPlayed arrived n) (HasLeftBy arrived n) (HasNothing arrived n) c input
input_means arrived clients n c input rising is =
    let below : c < clients =
    elim (slice_get_cases (inputs_by arrived clients n) c).1 [
      | inl found ↦ omega (arith, found.1, inputs_length arrived clients n)
      | inr absent ↦ absurd (no_entry input (sym absent.1 ∙ is))
    ] in
    let same : input_of (has_of arrived c n) ≡ input =
    let both : Some (input_of (has_of arrived c n)) ≡ Some input =
    sym (input_there arrived clients c n below) ∙ is in cc in
    subst (MeansInput (HasPlayed arrived n) (HasLeftBy arrived n) (HasNothing arrived n) c) same
    (has_means arrived n c (kept_at arrived c n) (left_before arrived c n) rising refl refl)

ready_by_means : (arrived : List Arrived) (clients n : ℕ) → IsRising arrived →
    MeansReadyBy arrived clients n (ready_by arrived clients n)
ready_by_means arrived clients n rising =
    ready_means (HasPlayed arrived n) (HasLeftBy arrived n) (HasNothing arrived n)
    (inputs_by arrived clients n) clients
    (sym (inputs_length arrived clients n))
    (λ c input is. input_means arrived clients n c input rising is)

-- What the answers to a tick mean, by whether the frame is ready.
means_ready :
    (arrived : List Arrived) (clients n : ℕ) (ready : Ready) → IsRising arrived →
    ready ≡ ready_by arrived clients n →
    MeansReadyBy arrived clients n ready
means_ready arrived clients n ready rising is =
    subst (MeansReadyBy arrived clients n) (sym is) (ready_by_means arrived clients n rising)

pub ticked_means :
    {W : Type 0} (after : W → List Entry → W) (old : PeerState W) (world : W) →
    IsRising old.arrived →
    Yes ≡ ready_by old.arrived old.clients old.ticked →
    world ≡ after old.world (frame_by old.arrived old.clients old.ticked) →
    MeansTick after old (record old { ticked = old.ticked + 1; world = world }) (Ticked old.ticked)
ticked_means after old world rising ready stepped = (
  refl,
  means_ready old.arrived old.clients old.ticked Yes rising ready,
  ap
      (λ w. record old { ticked = old.ticked + 1; world = w }) stepped,
)

pub not_yet_means :
    {W : Type 0} (after : W → List Entry → W) (old : PeerState W) (c : ℕ) → IsRising old.arrived →
    Waits c ≡ ready_by old.arrived old.clients old.ticked → MeansTick after old old (NotYet c)
not_yet_means after old c rising ready = (
  means_ready old.arrived old.clients old.ticked
      (Waits c) rising ready,
  refl,
)

pub over_means :
    {W : Type 0} (after : W → List Entry → W) (old : PeerState W) → IsRising old.arrived →
    Ended ≡ ready_by old.arrived old.clients old.ticked → MeansTick after old old Over
over_means after old rising ready =
    (means_ready old.arrived old.clients old.ticked Ended rising ready, refl)
