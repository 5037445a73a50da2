-- What the answer to a seal means.
use Rattle.std.proofs.Common.{◌≡◌, ◌≢◌, ℕ, ◌+◌, ◌<◌, ◌≤◌, Bool, true, false, cond, not, ◌&&◌, ◌||◌}
use Rattle.std.proofs.Common.{◌==◌, List, [], ◌∷◌, refl, sym, ap, subst, ◌∙◌, arith}
use Rattle.std.specs.Prelude.{if◌then◌else◌, Option, Some, None, Result, Ok, Err}
use Rattle.std.specs.Option.{option_map}
use Rattle.std.specs.List.{AllByRecursion, find, list_any}
use Rattle.std.proofs.lemmas.Bool.{and_parts, eqb-true}
use Rattle.std.proofs.lemmas.Bool.Decides.{nat_tests}
use Rattle.game_orders.specs.declared.entry.Entry.{Entry}
use Rattle.game_orders.specs.declared.entry.Entry.TheVariants.{Play, Leave}
use Rattle.game_orders.specs.declared.limits.TheConstants.{MAX_FRAMES}
use Rattle.game_orders.specs.Entry.{is_play}
use Rattle.peer_core.specs.declared.arrived.Arrived.{Arrived}
use Rattle.peer_core.specs.declared.seal_fault.SealFault.{SealFault}
use Rattle.peer_core.specs.declared.seal_fault.SealFault.TheVariants.{TooEarly, LeftAlready}
use Rattle.peer_core.specs.declared.seal_fault.SealFault.TheVariants.{MatchFull}
use Rattle.peer_core.specs.Arrived.{is_of, is_departure_of, has_left, kept_at, IsRising}
use Rattle.peer_core.proofs.FaithfulLemmas.{leave_of}
use Rattle.peer_core.specs.Peer.{PeerState, IsPeer, seal_answer, sealed_after, sealed_peer}
use Rattle.peer_core.specs.Seal.{HasLeft, HasStayed, MeansSeal}
use Rattle.peer_core.proofs.RisingLemmas.{rising_kept}

-- A departure among entries that all have a property.
departure_has :
    (P : Arrived → Type 0) (c : ℕ) (us : List Arrived) → AllByRecursion P us →
    list_any (is_departure_of c) us ≡ true →
    (a : Arrived) × P a × (is_departure_of c a ≡ true)
departure_has P c [] all is = absurd cc
departure_has P c (u ∷ us) all is =
    by (is_departure_of c u) refl is (departure_has P c us all.1)
  where
    by : (here : Bool) → is_departure_of c u ≡ here →
        (here || list_any (is_departure_of c) us) ≡ true →
        (list_any (is_departure_of c) us ≡ true →
        (a : Arrived) × P a × (is_departure_of c a ≡ true)) →
        (a : Arrived) × P a × (is_departure_of c a ≡ true)
    by true same is rest = (u, all.0, same)
    by false same is rest = rest is

pub left_at : (xs : List Arrived) (c : ℕ) → IsRising xs → has_left xs c ≡ true → HasLeft xs c
left_at xs c rising is =
    let found = departure_has (λ u. kept_at xs u.client u.frame ≡ Some u.entry) c xs
    (rising_kept xs rising) is in
    let a = found.0 in
    let parts = and_parts (a.client == c) (not (is_play a.entry)) found.2 in (
      a.frame,
      ap (λ (k : ℕ). kept_at xs k a.frame) (sym (eqb-true a.client c parts.0)) ∙ found.1
          ∙ ap Some (leave_of a.entry parts.1),
    )

-- A departure that is kept is one of the entries.
kept_departure : (c m : ℕ) (us : List Arrived) → kept_at us c m ≡ Some Leave →
    list_any (is_departure_of c) us ≡ true
kept_departure c m [] is = absurd cc
kept_departure c m (u ∷ us) is = by (is_of c m u) refl is (kept_departure c m us) where
  own : is_of c m u ≡ true → u.entry ≡ Leave → is_departure_of c u ≡ true
  own here left =
      let parts = and_parts (u.client == c) (u.frame == m) here in
      ap (λ (e : Entry). (u.client == c) && not (is_play e)) left
      ∙ ap (λ (b : Bool). b && true) parts.0

  more : (b other : Bool) → other ≡ true → (b || other) ≡ true
  more true other is = refl
  more false other is = is

  by : (here : Bool) → is_of c m u ≡ here →
      option_map (λ a. a.entry) (cond here (Some u) (find (is_of c m) us)) ≡ Some Leave →
      (kept_at us c m ≡ Some Leave → list_any (is_departure_of c) us ≡ true) →
      (is_departure_of c u || list_any (is_departure_of c) us) ≡ true
  by true here is rest =
      let left : u.entry ≡ Leave = cc in
      ap (λ (b : Bool). b || list_any (is_departure_of c) us) (own here left)
  by false here is rest =
      more (is_departure_of c u) (list_any (is_departure_of c) us) (rest is)

pub stayed : (xs : List Arrived) (c : ℕ) → has_left xs c ≡ false → HasStayed xs c
stayed xs c never m is =
    let there : has_left xs c ≡ true = kept_departure c m xs is in
    let no : true ≡ false = sym there ∙ never in cc

pub seal_means :
    {W : Type 0} (clients_of steps : W → ℕ) (peer : PeerState W) →
    IsPeer clients_of steps peer →
    MeansSeal peer (sealed_peer peer)
    (seal_answer peer.arrived peer.me peer.lag peer.ticked peer.sealed)
seal_means {W = W} clients_of steps peer whole = by_left (has_left peer.arrived peer.me) refl
  where
    after : Result ℕ SealFault → PeerState W
    after answer = record peer { sealed = sealed_after answer peer.sealed }

    Means : Result ℕ SealFault → Type 0
    Means answer = MeansSeal peer (after answer) answer

    early : Bool → Result ℕ SealFault
    early too = if too then Err TooEarly else Ok peer.sealed

    full : Bool → Result ℕ SealFault
    full all = if all then Err MatchFull else early (peer.sealed == peer.ticked + peer.lag)

    below : (peer.sealed == MAX_FRAMES) ≡ false → peer.sealed < MAX_FRAMES
    below is = let most = whole.most_sealed in grind (arith, nat_tests, is, most)

    near : (peer.sealed == peer.ticked + peer.lag) ≡ false → peer.sealed < peer.ticked + peer.lag
    near is = let most = whole.ahead in grind (arith, nat_tests, is, most)

    by_early : (too : Bool) → (peer.sealed == peer.ticked + peer.lag) ≡ too →
        HasStayed peer.arrived peer.me → (peer.sealed == MAX_FRAMES) ≡ false → Means (early too)
    by_early true is stays not_all =
        (stays, below not_all, eqb-true peer.sealed (peer.ticked + peer.lag) is, refl)
    by_early false is stays not_all = (refl, stays, below not_all, near is, refl)

    by_full : (all : Bool) → (peer.sealed == MAX_FRAMES) ≡ all →
        HasStayed peer.arrived peer.me → Means (full all)
    by_full true is stays = (stays, eqb-true peer.sealed MAX_FRAMES is, refl)
    by_full false is stays = by_early (peer.sealed == peer.ticked + peer.lag) refl stays is

    by_left : (left : Bool) → has_left peer.arrived peer.me ≡ left →
        Means (if left then Err LeftAlready else full (peer.sealed == MAX_FRAMES))
    by_left true is = (left_at peer.arrived peer.me whole.rising is, refl)
    by_left false is = by_full (peer.sealed == MAX_FRAMES) refl (stayed peer.arrived peer.me is)

-- What any answer and any peer after it mean that are the defined ones.
pub means_by :
    {W : Type 0} (clients_of steps : W → ℕ) (old new : PeerState W) (answer : Result ℕ SealFault) →
    IsPeer clients_of steps old →
    answer ≡ seal_answer old.arrived old.me old.lag old.ticked old.sealed →
    new ≡ sealed_peer old → MeansSeal old new answer
means_by {W = W} clients_of steps old new answer whole answered after =
    subst (λ (p : PeerState W). MeansSeal old p answer) (sym after)
    (subst (λ (a : Result ℕ SealFault). MeansSeal old (sealed_peer old) a) (sym answered)
    (seal_means clients_of steps old whole))
