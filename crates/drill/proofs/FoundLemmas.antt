-- Where the entries with a peer come from: proofs.
use Rattle.std.proofs.Common.{◌≡◌, ℕ, Bool, true, false, zero, suc, ◌<◌, List, [], ◌∷◌, length}
use Rattle.std.proofs.Common.{refl, sym, ap, ap₂, subst, ◌∙◌, arith, inl, inr}
use Rattle.std.specs.Prelude.{◌⊎◌, Option, Some, None, slice_get, ◌&&◌, is_some}
use Rattle.std.specs.Prelude.{if◌then◌else◌}
use Rattle.std.specs.List.{AllByRecursion}
use Rattle.std.proofs.lemmas.Bool.Decides.{Decides-eqb}
use Rattle.game_orders.specs.declared.entry.Entry.{Entry}
use Rattle.frame_core.specs.Column.{Column, column_of, entry_at}
use Rattle.frame_core.specs.Grows.{Grows}
use Rattle.frame_core.proofs.GrowsLemmas.{Grows-refl, Grows-column, stands_grows}
use Rattle.frame_core.specs.Match.{Match}
use Rattle.peer_core.specs.declared.arrived.Arrived.{Arrived as ArrivedEntry}
use Rattle.peer_core.specs.Arrived.{is_of, kept_at, with_arrived}
use Rattle.peer_core.proofs.ArrivedLemmas.{all_with_arrived}
use Rattle.peer_core.specs.Faithful.{Stands}
use Rattle.peer_core.proofs.FaithfulLemmas.{kept_agrees}
use Rattle.server_core.proofs.ServedLemmas.{packet_grows, drop_grows}
use Rattle.drill_words.specs.declared.event.Event.{Event}
use Rattle.drill_words.specs.declared.event.Event.TheVariants.{Seal, Up, Down, Tick, TickServer}
use Rattle.drill_words.specs.declared.event.Event.TheVariants.{DropClient, Report, Forge, Bye}
use Rattle.drill.specs.declared.sent.Sent.{Sent}
use Rattle.drill.specs.Record.{Reached, Progress, nothing_reached, opening, peer_at, after_event}
use Rattle.drill.specs.Record.{arrived_after_down, columns_after_up}
use Rattle.drill.specs.Agreement.{record_after, peer_after, WasFound}
use Rattle.drill.proofs.ArrivedLemmas.{kept_other, kept_same, own_place}
use Rattle.drill.proofs.RecordLemmas.{by_events, next_record, last_record, same_after_set}
use Rattle.drill.proofs.RecordLemmas.{place_after_set, set_here, length_peers, opening_peer}
use Rattle.drill.proofs.RecordLemmas.{before_or_now}

-- What was found before was found.
found_before :
    {W : Type 0} (m : Match W) (events : List Event) (i p c n : ℕ) (entry : Entry) →
    WasFound m events i p c n entry → WasFound m events (suc i) p c n entry
found_before m events i p c n entry found =
    record {
      event = found.event;
      before = let early : found.event < i = found.before in omega (arith, early);
      told = found.told;
      found = found.found;
    }

same_some : {X : Type 0} (x y : X) → Some x ≡ Some y → x ≡ y
same_some x y same = cc

-- What is kept after a `down` was kept before, or it was found.
found_new :
    (found : Option Entry) (arrived : List ArrivedEntry) (d k c n : ℕ) (entry : Entry) →
    kept_at (arrived_after_down found arrived d k) c n ≡ Some entry →
    (kept_at arrived c n ≡ Some entry) ⊎ ((d ≡ c) × (k ≡ n) × (found ≡ Some entry))
found_new None arrived d k c n entry kept = inl kept
found_new (Some e) arrived d k c n entry kept = by_kept (kept_at arrived d k) refl kept where
  by_own :
      (own : Bool) → is_of c n (record { client = d; frame = k; entry = e }) ≡ own → kept_at arrived d k ≡ None →
      kept_at (with_arrived (record { client = d; frame = k; entry = e }) arrived) c n ≡ Some entry →
      (kept_at arrived c n ≡ Some entry) ⊎ ((d ≡ c) × (k ≡ n) × (Some e ≡ Some entry))
  by_own true own none now =
      let place = own_place c n (record { client = d; frame = k; entry = e }) own in
      let none_here : kept_at arrived c n ≡ None =
      ap₂ (kept_at arrived) (sym place.0) (sym place.1) ∙ none in
      inr (place.0, place.1, sym (kept_same c n (record { client = d; frame = k; entry = e }) arrived own none_here) ∙ now)
  by_own false own none now =
      inl (sym (kept_other c n (record { client = d; frame = k; entry = e }) arrived own) ∙ now)

  by_kept :
      (was : Option Entry) → kept_at arrived d k ≡ was →
      kept_at (if is_some (kept_at arrived d k) then arrived
      else with_arrived (record { client = d; frame = k; entry = e }) arrived) c n ≡ Some entry →
      (kept_at arrived c n ≡ Some entry) ⊎ ((d ≡ c) × (k ≡ n) × (Some e ≡ Some entry))
  by_kept (Some held) is now =
      inl (sym (ap (λ (w : Option Entry). kept_at (if is_some w then arrived
      else with_arrived (record { client = d; frame = k; entry = e }) arrived) c n) is) ∙ now)
  by_kept None is now =
      by_own (is_of c n (record { client = d; frame = k; entry = e })) refl is
      (sym (ap (λ (w : Option Entry). kept_at (if is_some w then arrived
      else with_arrived (record { client = d; frame = k; entry = e }) arrived) c n) is) ∙ now)

-- A peer after a `down` of client d's entry at frame k.
abbrev down_reached : Progress → ℕ → ℕ → ℕ → Reached
down_reached progress q d k =
    record (peer_at progress q) {
      arrived = arrived_after_down (entry_at (column_of progress.columns d) k) (peer_at progress q).arrived d k;
    }

-- The next event, where it is a `down` to this peer or to another.
down_step :
    {W : Type 0} (m : Match W) (events : List Event) (i q d k p c n : ℕ) (entry : Entry) (now : Reached) →
    slice_get events i ≡ Some (Down q d k) →
    ((q c n : ℕ) (entry : Entry) → kept_at (peer_after m events i q).arrived c n ≡ Some entry → WasFound m events i q c n entry) →
    ((q ≡ p)
    × (now.arrived
    ≡ arrived_after_down (entry_at (column_of (record_after m events i).columns d) k) (peer_after m events i q).arrived d k))
    ⊎ (now ≡ peer_after m events i p) →
    kept_at now.arrived c n ≡ Some entry → WasFound m events (suc i) p c n entry
down_step m events i q d k p c n entry now at so_far (inr same) kept =
    found_before m events i p c n entry
    (so_far p c n entry (subst (λ (r : Reached). kept_at r.arrived c n ≡ Some entry) same kept))
down_step m events i q d k p c n entry now at so_far (inl (here, is)) kept =
    elim (found_new (entry_at (column_of (record_after m events i).columns d) k) (peer_after m events i q).arrived d k c n entry
    (subst (λ (xs : List ArrivedEntry). kept_at xs c n ≡ Some entry) is kept)) [
      | inl before ↦
          found_before m events i p c n entry
          (so_far p c n entry (subst (λ (x : ℕ). kept_at (peer_after m events i x).arrived c n ≡ Some entry) here before))
      | inr new ↦
          record {
            event = i;
            before = omega arith;
            told =
                at ∙ ap (λ x. Some (Down x d k)) here ∙ ap₂ (λ x y. Some (Down p x y)) new.0 new.1;
            found =
                ap₂ (λ x y. entry_at (column_of (record_after m events i).columns x) y) (sym new.0) (sym new.1) ∙ new.2;
          }
    ]

found_step :
    {W : Type 0} (m : Match W) (events : List Event) (i : ℕ) (event : Event) → slice_get events i ≡ Some event →
    ((q c n : ℕ) (entry : Entry) → kept_at (peer_after m events i q).arrived c n ≡ Some entry → WasFound m events i q c n entry) →
    (p c n : ℕ) (entry : Entry) →
    kept_at (peer_at (after_event m (record_after m events i) event) p).arrived c n ≡ Some entry →
    WasFound m events (suc i) p c n entry
found_step m events i (Seal q orders) at so_far p c n entry kept =
    found_before m events i p c n entry
    (so_far p c n entry
    (subst (λ (xs : List ArrivedEntry). kept_at xs c n ≡ Some entry)
    (same_after_set (λ r. r.arrived) (record_after m events i).peers q _ nothing_reached p refl) kept))
found_step m events i (Up number) at so_far p c n entry kept = found_before m events i p c n entry (so_far p c n entry kept)
found_step m events i (Down q d k) at so_far p c n entry kept =
    down_step m events i q d k p c n entry _ at so_far
    (elim (place_after_set (record_after m events i).peers q (down_reached (record_after m events i) q d k) nothing_reached p) [
      | inl new ↦ inl (new.0, ap (λ (r : Reached). r.arrived) new.1)
      | inr old ↦ inr old
    ]) kept
found_step m events i (Tick q) at so_far p c n entry kept =
    found_before m events i p c n entry
    (so_far p c n entry
    (subst (λ (xs : List ArrivedEntry). kept_at xs c n ≡ Some entry)
    (same_after_set (λ r. r.arrived) (record_after m events i).peers q _ nothing_reached p refl) kept))
found_step m events i TickServer at so_far p c n entry kept = found_before m events i p c n entry (so_far p c n entry kept)
found_step m events i (DropClient client) at so_far p c n entry kept = found_before m events i p c n entry (so_far p c n entry kept)
found_step m events i (Report q) at so_far p c n entry kept = found_before m events i p c n entry (so_far p c n entry kept)
found_step m events i (Forge client frame hash) at so_far p c n entry kept = found_before m events i p c n entry (so_far p c n entry kept)
found_step m events i (Bye q) at so_far p c n entry kept = found_before m events i p c n entry (so_far p c n entry kept)

nothing_kept : (clients p c n : ℕ) (entry : Entry) → kept_at (peer_at (opening clients) p).arrived c n ≡ Some entry → ⊥
nothing_kept clients p c n entry kept =
    let none : kept_at nothing_reached.arrived c n ≡ Some entry =
    subst (λ (r : Reached). kept_at r.arrived c n ≡ Some entry) (opening_peer clients p) kept in
    cc

-- An entry is with a peer only where it was found.
pub arrives_only_when_found :
    {W : Type 0} (m : Match W) (events : List Event) (i p c n : ℕ) (entry : Entry) →
    kept_at (peer_after m events i p).arrived c n ≡ Some entry → WasFound m events i p c n entry
arrives_only_when_found m events i p c n entry kept =
    by_events m events
    (λ j progress. (q d k : ℕ) (e : Entry) → kept_at (peer_at progress q).arrived d k ≡ Some e → WasFound m events j q d k e)
    (λ q d k e here. absurd (nothing_kept m.clients q d k e here))
    (λ j event at so_far. found_step m events j event at so_far)
    (λ j so_far q d k e here. found_before m events j q d k e (so_far q d k e here))
    i p c n entry kept

-- What stands in columns stands in them when they have grown.
stand_grow :
    (olds news : List Column) (xs : List ArrivedEntry) → Grows olds news → AllByRecursion (Stands olds) xs →
    AllByRecursion (Stands news) xs
stand_grow olds news [] grows all = tt
stand_grow olds news (a ∷ xs) grows all = (
  stands_grows (column_of olds a.client) (column_of news a.client) a.frame a.entry (Grows-column olds news a.client grows) all.0,
  stand_grow olds news xs grows all.1,
)

pub up_grows : (found : Option Sent) (columns : List Column) → Grows columns (columns_after_up found columns)
up_grows None columns = Grows-refl columns
up_grows (Some sent) columns = packet_grows columns sent.client sent.packet

stand_down :
    (columns : List Column) (found : Option Entry) (xs : List ArrivedEntry) (d k : ℕ) →
    entry_at (column_of columns d) k ≡ found → AllByRecursion (Stands columns) xs →
    AllByRecursion (Stands columns) (arrived_after_down found xs d k)
stand_down columns None xs d k is all = all
stand_down columns (Some e) xs d k is all = by_kept (is_some (kept_at xs d k)) where
  by_kept :
      (again : Bool) →
      AllByRecursion (Stands columns) (if again then xs else with_arrived (record { client = d; frame = k; entry = e }) xs)
  by_kept true = all
  by_kept false = all_with_arrived (Stands columns) (record { client = d; frame = k; entry = e }) xs is all

stand_step :
    {W : Type 0} (m : Match W) (progress : Progress) (event : Event) →
    ((q : ℕ) → AllByRecursion (Stands progress.columns) (peer_at progress q).arrived) →
    (p : ℕ) → AllByRecursion (Stands (after_event m progress event).columns) (peer_at (after_event m progress event) p).arrived
stand_step m progress (Seal q orders) so_far p =
    subst (AllByRecursion (Stands progress.columns))
    (sym (same_after_set (λ (r : Reached). r.arrived) progress.peers q _ nothing_reached p refl)) (so_far p)
stand_step m progress (Up number) so_far p =
    stand_grow progress.columns _ (peer_at progress p).arrived (up_grows (slice_get progress.sent number) progress.columns) (so_far p)
stand_step m progress (Down q d k) so_far p =
    elim (place_after_set progress.peers q (down_reached progress q d k) nothing_reached p) [
      | inl new ↦
          subst (λ (r : Reached). AllByRecursion (Stands progress.columns) r.arrived) (sym new.1)
          (stand_down progress.columns (entry_at (column_of progress.columns d) k) (peer_at progress q).arrived d k refl (so_far q))
      | inr old ↦ subst (λ (r : Reached). AllByRecursion (Stands progress.columns) r.arrived) (sym old) (so_far p)
    ]
stand_step m progress (Tick q) so_far p =
    subst (AllByRecursion (Stands progress.columns))
    (sym (same_after_set (λ (r : Reached). r.arrived) progress.peers q _ nothing_reached p refl)) (so_far p)
stand_step m progress TickServer so_far p = so_far p
stand_step m progress (DropClient client) so_far p =
    stand_grow progress.columns _ (peer_at progress p).arrived (drop_grows progress.columns client) (so_far p)
stand_step m progress (Report q) so_far p = so_far p
stand_step m progress (Forge client frame hash) so_far p = so_far p
stand_step m progress (Bye q) so_far p = so_far p

opening_stands : (clients p : ℕ) → AllByRecursion (Stands (opening clients).columns) (peer_at (opening clients) p).arrived
opening_stands clients p =
    subst (λ (r : Reached). AllByRecursion (Stands (opening clients).columns) r.arrived) (sym (opening_peer clients p)) tt

-- What is with a peer stands in the columns.
pub arrived_stand :
    {W : Type 0} (m : Match W) (events : List Event) (i p : ℕ) →
    AllByRecursion (Stands (record_after m events i).columns) (peer_after m events i p).arrived
arrived_stand m events i p =
    by_events m events
    (λ j progress. (q : ℕ) → AllByRecursion (Stands progress.columns) (peer_at progress q).arrived)
    (opening_stands m.clients)
    (λ j event at so_far. stand_step m (record_after m events j) event so_far)
    (λ j so_far. so_far) i p

-- What is kept stays.
stays_down :
    (found : Option Entry) (xs : List ArrivedEntry) (d k c n : ℕ) (entry : Entry) → kept_at xs c n ≡ Some entry →
    kept_at (arrived_after_down found xs d k) c n ≡ Some entry
stays_down None xs d k c n entry kept = kept
stays_down (Some e) xs d k c n entry kept = by_kept (kept_at xs d k) refl where
  by_own :
      (own : Bool) → is_of c n (record { client = d; frame = k; entry = e }) ≡ own → kept_at xs d k ≡ None →
      kept_at (with_arrived (record { client = d; frame = k; entry = e }) xs) c n ≡ Some entry
  by_own true own none =
      let place = own_place c n (record { client = d; frame = k; entry = e }) own in
      let none_here : kept_at xs c n ≡ None = ap₂ (kept_at xs) (sym place.0) (sym place.1) ∙ none in
      absurd (let both : None ≡ Some entry = sym none_here ∙ kept in cc)
  by_own false own none = kept_other c n (record { client = d; frame = k; entry = e }) xs own ∙ kept

  by_kept :
      (was : Option Entry) → kept_at xs d k ≡ was →
      kept_at (if is_some (kept_at xs d k) then xs
      else with_arrived (record { client = d; frame = k; entry = e }) xs) c n ≡ Some entry
  by_kept (Some held) is =
      ap (λ (w : Option Entry). kept_at (if is_some w then xs
      else with_arrived (record { client = d; frame = k; entry = e }) xs) c n) is ∙ kept
  by_kept None is =
      ap (λ (w : Option Entry). kept_at (if is_some w then xs
      else with_arrived (record { client = d; frame = k; entry = e }) xs) c n) is
      ∙ by_own (is_of c n (record { client = d; frame = k; entry = e })) refl is

stays_step :
    {W : Type 0} (m : Match W) (progress : Progress) (event : Event) (p c n : ℕ) (entry : Entry) →
    kept_at (peer_at progress p).arrived c n ≡ Some entry →
    kept_at (peer_at (after_event m progress event) p).arrived c n ≡ Some entry
stays_step m progress (Seal q orders) p c n entry kept =
    ap (λ (xs : List ArrivedEntry). kept_at xs c n)
    (same_after_set (λ (r : Reached). r.arrived) progress.peers q _ nothing_reached p refl) ∙ kept
stays_step m progress (Up number) p c n entry kept = kept
stays_step m progress (Down q d k) p c n entry kept =
    elim (place_after_set progress.peers q (down_reached progress q d k) nothing_reached p) [
      | inl new ↦
          subst (λ (r : Reached). kept_at r.arrived c n ≡ Some entry) (sym new.1)
          (stays_down (entry_at (column_of progress.columns d) k) (peer_at progress q).arrived d k c n entry
          (subst (λ (x : ℕ). kept_at (peer_at progress x).arrived c n ≡ Some entry) (sym new.0) kept))
      | inr old ↦ subst (λ (r : Reached). kept_at r.arrived c n ≡ Some entry) (sym old) kept
    ]
stays_step m progress (Tick q) p c n entry kept =
    ap (λ (xs : List ArrivedEntry). kept_at xs c n)
    (same_after_set (λ (r : Reached). r.arrived) progress.peers q _ nothing_reached p refl) ∙ kept
stays_step m progress TickServer p c n entry kept = kept
stays_step m progress (DropClient client) p c n entry kept = kept
stays_step m progress (Report q) p c n entry kept = kept
stays_step m progress (Forge client frame hash) p c n entry kept = kept
stays_step m progress (Bye q) p c n entry kept = kept

-- A `down` that finds an agreed entry leaves it with the peer.
now_kept :
    (columns : List Column) (xs : List ArrivedEntry) (c n : ℕ) (entry : Entry) →
    AllByRecursion (Stands columns) xs → entry_at (column_of columns c) n ≡ Some entry →
    kept_at (arrived_after_down (Some entry) xs c n) c n ≡ Some entry
now_kept columns xs c n entry all stands = by_kept (kept_at xs c n) refl where
  own : is_of c n (record { client = c; frame = n; entry = entry }) ≡ true
  own = ap₂ (λ a b. a && b) ((Decides-eqb c c).1 refl) ((Decides-eqb n n).1 refl)

  by_kept :
      (was : Option Entry) → kept_at xs c n ≡ was →
      kept_at (if is_some (kept_at xs c n) then xs
      else with_arrived (record { client = c; frame = n; entry = entry }) xs) c n ≡ Some entry
  by_kept (Some held) is =
      ap (λ (w : Option Entry). kept_at (if is_some w then xs
      else with_arrived (record { client = c; frame = n; entry = entry }) xs) c n) is
      ∙ is ∙ sym (kept_agrees columns xs c n held all is) ∙ stands
  by_kept None is =
      ap (λ (w : Option Entry). kept_at (if is_some w then xs
      else with_arrived (record { client = c; frame = n; entry = entry }) xs) c n) is
      ∙ kept_same c n (record { client = c; frame = n; entry = entry }) xs own is

down_keeps :
    {W : Type 0} (m : Match W) (progress : Progress) (p c n : ℕ) (entry : Entry) → p < length progress.peers →
    AllByRecursion (Stands progress.columns) (peer_at progress p).arrived →
    entry_at (column_of progress.columns c) n ≡ Some entry →
    kept_at (peer_at (after_event m progress (Down p c n)) p).arrived c n ≡ Some entry
down_keeps m progress p c n entry below all stands =
    ap (λ (r : Reached). kept_at r.arrived c n) (set_here progress.peers p _ nothing_reached below)
    ∙ ap (λ (f : Option Entry). kept_at (arrived_after_down f (peer_at progress p).arrived c n) c n) stands
    ∙ now_kept progress.columns (peer_at progress p).arrived c n entry all stands

-- And wherever it was found, it is with the peer.
pub arrives_when_found :
    {W : Type 0} (m : Match W) (events : List Event) (i p c n : ℕ) (entry : Entry) → p < m.clients →
    WasFound m events i p c n entry → kept_at (peer_after m events i p).arrived c n ≡ Some entry
arrives_when_found m events zero p c n entry own found = let none : found.event < 0 = found.before in absurd (omega (arith, none))
arrives_when_found {W} m events (suc i) p c n entry own found =
    by_found (arrives_when_found m events i p c n entry own) (slice_get events i) refl
    (before_or_now found.event i found.before) where
      earlier : found.event < i → WasFound m events i p c n entry
      earlier before = record { event = found.event; before = before; told = found.told; found = found.found }

      now : found.event ≡ i → kept_at (peer_after m events (suc i) p).arrived c n ≡ Some entry
      now same =
          let at : slice_get events i ≡ Some (Down p c n) = subst (λ (k : ℕ). slice_get events k ≡ Some (Down p c n)) same found.told in
          let stands : entry_at (column_of (record_after m events i).columns c) n ≡ Some entry =
          subst (λ (k : ℕ). entry_at (column_of (record_after m events k).columns c) n ≡ Some entry) same found.found in
          ap (λ (r : Progress). kept_at (peer_at r p).arrived c n) (next_record m events i (Down p c n) at)
          ∙ down_keeps m (record_after m events i) p c n entry (rw (length_peers m events i) own) (arrived_stand m events i p) stands

      by_found :
          (WasFound m events i p c n entry → kept_at (peer_after m events i p).arrived c n ≡ Some entry) →
          (event : Option Event) → slice_get events i ≡ event → (found.event < i) ⊎ (found.event ≡ i) →
          kept_at (peer_after m events (suc i) p).arrived c n ≡ Some entry
      by_found so_far (Some event) is (inl before) =
          ap (λ (r : Progress). kept_at (peer_at r p).arrived c n) (next_record m events i event is)
          ∙ stays_step m (record_after m events i) event p c n entry (so_far (earlier before))
      by_found so_far None is (inl before) =
          ap (λ (r : Progress). kept_at (peer_at r p).arrived c n) (last_record m events i is) ∙ so_far (earlier before)
      by_found so_far event is (inr same) = now same
