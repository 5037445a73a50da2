-- How the record of a drill goes on from event to event.
use Rattle.std.proofs.Common.{◌≡◌, ℕ, zero, suc, ◌<◌, List, [], ◌∷◌, ◌++◌, length, take}
use Rattle.std.proofs.Common.{replicate}
use Rattle.std.proofs.Common.{refl, sym, ap, subst, ◌∙◌, arith, inl, inr}
use Rattle.std.specs.Prelude.{◌⊎◌, Option, Some, None, slice_get, slice_set, slice_index_or, fold}
use Rattle.std.proofs.lemmas.List.{length-set}
use Rattle.frame_core.specs.Match.{Match}
use Rattle.drill_words.specs.declared.event.Event.{Event}
use Rattle.drill_words.specs.declared.event.Event.TheVariants.{Seal, Up, Down, Tick, TickServer}
use Rattle.drill_words.specs.declared.event.Event.TheVariants.{DropClient, Report, Forge, Bye}
use Rattle.drill.specs.Record.{Progress, peer_at, nothing_reached, opening, after_event, record_of}
use Rattle.drill.specs.Agreement.{record_after}

the_same : {X : Type 0} (x y : X) → Some x ≡ Some y → x ≡ y
the_same x y same = cc

fold_step :
    {A X : Type 0} (f : A → X → A) (a : A) (xs : List X) (i : ℕ) (x : X) → slice_get xs i ≡ Some x →
    fold f a (take (suc i) xs) ≡ f (fold f a (take i xs)) x
fold_step f a [] i x at = absurd cc
fold_step f a (y ∷ xs) zero x at = ap (f a) (the_same y x at)
fold_step f a (y ∷ xs) (suc i) x at = fold_step f (f a y) xs i x at

take_past : {X : Type 0} (xs : List X) (i : ℕ) → slice_get xs i ≡ None → take (suc i) xs ≡ take i xs
take_past [] zero none = refl
take_past [] (suc i) none = refl
take_past (y ∷ xs) zero none = absurd cc
take_past (y ∷ xs) (suc i) none = ap (λ rest. y ∷ rest) (take_past xs i none)

-- After one event more.
pub next_record :
    {W : Type 0} (m : Match W) (events : List Event) (i : ℕ) (event : Event) → slice_get events i ≡ Some event →
    record_after m events (suc i) ≡ after_event m (record_after m events i) event
next_record m events i event at = fold_step (after_event m) (opening m.clients) events i event at

-- After the last event nothing changes.
pub last_record :
    {W : Type 0} (m : Match W) (events : List Event) (i : ℕ) → slice_get events i ≡ None →
    record_after m events (suc i) ≡ record_after m events i
last_record m events i none = ap (record_of m) (take_past events i none)

-- What holds of the opening and is kept by each event holds after the first i events.
pub by_events :
    {W : Type 0} (m : Match W) (events : List Event) (P : ℕ → Progress → Type 0) → P 0 (opening m.clients) →
    ((i : ℕ) (event : Event) → slice_get events i ≡ Some event → P i (record_after m events i) →
    P (suc i) (after_event m (record_after m events i) event)) →
    ((i : ℕ) → P i (record_after m events i) → P (suc i) (record_after m events i)) →
    (i : ℕ) → P i (record_after m events i)
by_events m events P begins goes_on stays zero = begins
by_events {W} m events P begins goes_on stays (suc i) =
    by_found (by_events m events P begins goes_on stays i) (slice_get events i) refl where
      by_found :
          P i (record_after m events i) → (found : Option Event) → slice_get events i ≡ found →
          P (suc i) (record_after m events (suc i))
      by_found so_far (Some event) is =
          subst (P (suc i)) (sym (next_record m events i event is)) (goes_on i event is so_far)
      by_found so_far None is = subst (P (suc i)) (sym (last_record m events i is)) (stays i so_far)

-- A part of an element that a new element has too stays the same at every place.
pub same_after_set :
    {X Y : Type 0} (part : X → Y) (xs : List X) (p : ℕ) (y : X) (d : X) (q : ℕ) →
    part y ≡ part (slice_index_or xs p d) → part (slice_index_or (slice_set xs p y) q d) ≡ part (slice_index_or xs q d)
same_after_set part [] p y d q same = refl
same_after_set part (x ∷ xs) zero y d zero same = same
same_after_set part (x ∷ xs) zero y d (suc q) same = refl
same_after_set part (x ∷ xs) (suc p) y d zero same = refl
same_after_set part (x ∷ xs) (suc p) y d (suc q) same = same_after_set part xs p y d q same

-- After a set the element at a place is the new one, if it is its place, or the one that was there.
pub place_after_set :
    {X : Type 0} (xs : List X) (p : ℕ) (y d : X) (q : ℕ) →
    ((p ≡ q) × (slice_index_or (slice_set xs p y) q d ≡ y))
    ⊎ (slice_index_or (slice_set xs p y) q d ≡ slice_index_or xs q d)
place_after_set [] p y d q = inr refl
place_after_set (x ∷ xs) zero y d zero = inl (refl, refl)
place_after_set (x ∷ xs) zero y d (suc q) = inr refl
place_after_set (x ∷ xs) (suc p) y d zero = inr refl
place_after_set (x ∷ xs) (suc p) y d (suc q) =
    elim (place_after_set xs p y d q) [ inl new ↦ inl (ap suc new.0, new.1) | inr old ↦ inr old ]

-- At a place that is there the new element stands.
pub set_here :
    {X : Type 0} (xs : List X) (p : ℕ) (y d : X) → p < length xs → slice_index_or (slice_set xs p y) p d ≡ y
set_here [] p y d below = absurd (omega arith)
set_here (x ∷ xs) zero y d below = refl
set_here (x ∷ xs) (suc p) y d below = set_here xs p y d (omega arith)

-- What stands in a list with one element more stood there before, or it is that element at the end.
pub get_pushed :
    {X : Type 0} (xs : List X) (y : X) (k : ℕ) (x : X) → slice_get (xs ++ y ∷ []) k ≡ Some x →
    (slice_get xs k ≡ Some x) ⊎ ((k ≡ length xs) × (y ≡ x))
get_pushed [] y zero x at = inr (refl, the_same y x at)
get_pushed [] y (suc k) x at = absurd cc
get_pushed (z ∷ xs) y zero x at = inl at
get_pushed (z ∷ xs) y (suc k) x at =
    elim (get_pushed xs y k x at) [ inl before ↦ inl before | inr last ↦ inr (ap suc last.0, last.1) ]

length-copies : {X : Type 0} (n : ℕ) (x : X) → length (replicate n x) ≡ n
length-copies zero x = refl
length-copies (suc n) x = ap suc (length-copies n x)

peers_kept : {W : Type 0} (m : Match W) (progress : Progress) (event : Event) → length (after_event m progress event).peers ≡ length progress.peers
peers_kept m progress (Seal q orders) = length-set progress.peers q _
peers_kept m progress (Up number) = refl
peers_kept m progress (Down q c n) = length-set progress.peers q _
peers_kept m progress (Tick q) = length-set progress.peers q _
peers_kept m progress TickServer = refl
peers_kept m progress (DropClient client) = refl
peers_kept m progress (Report q) = refl
peers_kept m progress (Forge client frame hash) = refl
peers_kept m progress (Bye q) = refl

-- There is one peer for each client.
pub length_peers : {W : Type 0} (m : Match W) (events : List Event) (i : ℕ) → length (record_after m events i).peers ≡ m.clients
length_peers m events i =
    by_events m events (λ j progress. length progress.peers ≡ m.clients) (length-copies m.clients nothing_reached)
    (λ j event at so_far. peers_kept m (record_after m events j) event ∙ so_far) (λ j so_far. so_far) i

-- A peer that nothing has reached stands at each place of the opening.
pub opening_peer : (clients p : ℕ) → peer_at (opening clients) p ≡ nothing_reached
opening_peer zero p = refl
opening_peer (suc clients) zero = refl
opening_peer (suc clients) (suc p) = opening_peer clients p

-- A number below the next one is below this one, or it is it.
pub before_or_now : (a i : ℕ) → a < suc i → (a < i) ⊎ (a ≡ i)
before_or_now a i below = grind arith
