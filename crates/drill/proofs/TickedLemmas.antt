-- Which frames a peer ticks: proofs.
use Rattle.std.proofs.Common.{◌≡◌, ℕ, zero, suc, ◌+◌, ◌<◌, ◌≤◌, List}
use Rattle.std.proofs.Common.{length}
use Rattle.std.proofs.Common.{refl, sym, ap, ap₂, subst, ◌∙◌, arith, inl, inr}
use Rattle.std.specs.Prelude.{◌⊎◌, Option, Some, None, slice_get}
use Rattle.frame_core.specs.declared.ready.Ready.{Ready}
use Rattle.frame_core.specs.declared.ready.Ready.TheVariants.{Yes, NotYet, Over}
use Rattle.frame_core.specs.Tick.{ticked_after}
use Rattle.frame_core.specs.Match.{Match}
use Rattle.peer_core.specs.Arrived.{ready_by}
use Rattle.drill_words.specs.declared.event.Event.{Event}
use Rattle.drill_words.specs.declared.event.Event.TheVariants.{Seal, Up, Down, Tick, TickServer}
use Rattle.drill_words.specs.declared.event.Event.TheVariants.{DropClient, Report, Forge, Bye}
use Rattle.drill.specs.Record.{Reached, Progress, nothing_reached, opening, peer_at, after_event}
use Rattle.drill.specs.Agreement.{record_after, peer_after, WasToldToTick}
use Rattle.drill.proofs.RecordLemmas.{by_events, next_record, last_record, same_after_set}
use Rattle.drill.proofs.RecordLemmas.{place_after_set, set_here, length_peers, opening_peer}
use Rattle.drill.proofs.RecordLemmas.{before_or_now}

-- What was told before stays told.
told_before :
    {W : Type 0} (m : Match W) (events : List Event) (i p n : ℕ) → WasToldToTick m events i p n →
    WasToldToTick m events (suc i) p n
told_before m events i p n told =
    record {
      event = told.event;
      before = let early : told.event < i = told.before in omega (arith, early);
      told = told.told;
      next = told.next;
      ready = told.ready;
    }

-- A tick counts one frame more only where it is ready.
ticked_by : (ready : Ready) (ticked n : ℕ) → n < ticked_after ready ticked → (n < ticked) ⊎ ((ticked ≡ n) × (ready ≡ Yes))
ticked_by Yes ticked n below = elim (last_or_less ticked n below) [ inl less ↦ inl less | inr last ↦ inr (last, refl) ] where
  last_or_less : (t k : ℕ) → k < t + 1 → (k < t) ⊎ (t ≡ k)
  last_or_less t k less = grind arith
ticked_by (NotYet c) ticked n below = inl below
ticked_by Over ticked n below = inl below

-- A peer after its tick.
abbrev pub ticked_reached : {W : Type 0} → Match W → Progress → ℕ → Reached
ticked_reached m progress q =
    record (peer_at progress q) {
      ticked =
          ticked_after (ready_by (peer_at progress q).arrived m.clients (peer_at progress q).ticked)
          (peer_at progress q).ticked;
    }

-- The next event, at a peer that it told to tick or at another.
tick_step :
    {W : Type 0} (m : Match W) (events : List Event) (i q p n : ℕ) (now : Reached) →
    slice_get events i ≡ Some (Tick q) →
    ((q : ℕ) (k : ℕ) → k < (peer_after m events i q).ticked → WasToldToTick m events i q k) →
    ((q ≡ p)
    × (now.ticked
    ≡ ticked_after (ready_by (peer_after m events i q).arrived m.clients (peer_after m events i q).ticked)
    (peer_after m events i q).ticked))
    ⊎ (now ≡ peer_after m events i p) →
    n < now.ticked → WasToldToTick m events (suc i) p n
tick_step m events i q p n now at so_far (inr same) below =
    told_before m events i p n (so_far p n (subst (λ (r : Reached). n < r.ticked) same below))
tick_step m events i q p n now at so_far (inl (here, is)) below =
    elim (ticked_by (ready_by (peer_after m events i q).arrived m.clients (peer_after m events i q).ticked)
    (peer_after m events i q).ticked n (subst (λ (t : ℕ). n < t) is below)) [
      | inl before ↦
          told_before m events i p n
          (so_far p n (subst (λ (k : ℕ). n < (peer_after m events i k).ticked) here before))
      | inr last ↦
          record {
            event = i;
            before = omega arith;
            told = subst (λ (k : ℕ). slice_get events i ≡ Some (Tick k)) here at;
            next = ap (λ k. (peer_after m events i k).ticked) (sym here) ∙ last.0;
            ready =
                ap₂ (λ k t. ready_by (peer_after m events i k).arrived m.clients t) (sym here) (sym last.0)
                ∙ last.1;
          }
    ]

ticks_step :
    {W : Type 0} (m : Match W) (events : List Event) (i : ℕ) (event : Event) → slice_get events i ≡ Some event →
    ((q k : ℕ) → k < (peer_after m events i q).ticked → WasToldToTick m events i q k) →
    (p n : ℕ) → n < (peer_at (after_event m (record_after m events i) event) p).ticked →
    WasToldToTick m events (suc i) p n
ticks_step m events i (Seal q orders) at so_far p n below =
    told_before m events i p n
    (so_far p n
    (subst (λ (t : ℕ). n < t)
    (same_after_set (λ r. r.ticked) (record_after m events i).peers q _ nothing_reached p refl) below))
ticks_step m events i (Up number) at so_far p n below = told_before m events i p n (so_far p n below)
ticks_step m events i (Down q c k) at so_far p n below =
    told_before m events i p n
    (so_far p n
    (subst (λ (t : ℕ). n < t)
    (same_after_set (λ r. r.ticked) (record_after m events i).peers q _ nothing_reached p refl) below))
ticks_step m events i (Tick q) at so_far p n below =
    tick_step m events i q p n _ at so_far
    (elim (place_after_set (record_after m events i).peers q (ticked_reached m (record_after m events i) q) nothing_reached p) [
      | inl new ↦ inl (new.0, ap (λ (r : Reached). r.ticked) new.1)
      | inr old ↦ inr old
    ]) below
ticks_step m events i TickServer at so_far p n below = told_before m events i p n (so_far p n below)
ticks_step m events i (DropClient client) at so_far p n below = told_before m events i p n (so_far p n below)
ticks_step m events i (Report q) at so_far p n below = told_before m events i p n (so_far p n below)
ticks_step m events i (Forge client frame hash) at so_far p n below = told_before m events i p n (so_far p n below)
ticks_step m events i (Bye q) at so_far p n below = told_before m events i p n (so_far p n below)

no_frame_yet : (clients p n : ℕ) → n < (peer_at (opening clients) p).ticked → ⊥
no_frame_yet clients p n below =
    let none : n < 0 = subst (λ (r : Reached). n < r.ticked) (opening_peer clients p) below in
    omega (arith, none)

-- A peer ticked a frame only when it was told to and the frame was ready.
pub ticks_only_when_told :
    {W : Type 0} (m : Match W) (events : List Event) (i p n : ℕ) → n < (peer_after m events i p).ticked →
    WasToldToTick m events i p n
ticks_only_when_told m events i p n below =
    by_events m events (λ j progress. (q k : ℕ) → k < (peer_at progress q).ticked → WasToldToTick m events j q k)
    (λ q k less. absurd (no_frame_yet m.clients q k less))
    (λ j event at so_far. ticks_step m events j event at so_far)
    (λ j so_far q k less. told_before m events j q k (so_far q k less))
    i p n below

ticked_no_less : (ready : Ready) (ticked : ℕ) → ticked ≤ ticked_after ready ticked
ticked_no_less Yes ticked = omega arith
ticked_no_less (NotYet c) ticked = omega arith
ticked_no_less Over ticked = omega arith

-- The count of a peer never falls.
ticks_grow :
    {W : Type 0} (m : Match W) (progress : Progress) (event : Event) (p : ℕ) →
    (peer_at progress p).ticked ≤ (peer_at (after_event m progress event) p).ticked
ticks_grow m progress (Seal q orders) p =
    let same = same_after_set (λ (r : Reached). r.ticked) progress.peers q _ nothing_reached p refl in
    subst (λ (t : ℕ). (peer_at progress p).ticked ≤ t) (sym same) (omega arith)
ticks_grow m progress (Up number) p = omega arith
ticks_grow m progress (Down q c k) p =
    let same = same_after_set (λ (r : Reached). r.ticked) progress.peers q _ nothing_reached p refl in
    subst (λ (t : ℕ). (peer_at progress p).ticked ≤ t) (sym same) (omega arith)
ticks_grow m progress (Tick q) p =
    elim (place_after_set progress.peers q (ticked_reached m progress q) nothing_reached p) [
      | inl new ↦
          subst (λ (r : Reached). (peer_at progress p).ticked ≤ r.ticked) (sym new.1)
          (subst (λ (k : ℕ). (peer_at progress k).ticked
          ≤ ticked_after (ready_by (peer_at progress q).arrived m.clients (peer_at progress q).ticked) (peer_at progress q).ticked)
          new.0 (ticked_no_less _ _))
      | inr old ↦ subst (λ (r : Reached). (peer_at progress p).ticked ≤ r.ticked) (sym old) (omega arith)
    ]
ticks_grow m progress TickServer p = omega arith
ticks_grow m progress (DropClient client) p = omega arith
ticks_grow m progress (Report q) p = omega arith
ticks_grow m progress (Forge client frame hash) p = omega arith
ticks_grow m progress (Bye q) p = omega arith

-- A peer that is told to tick when its next frame is ready ticks it.
tick_counts :
    {W : Type 0} (m : Match W) (progress : Progress) (p n : ℕ) → p < length progress.peers →
    (peer_at progress p).ticked ≡ n → ready_by (peer_at progress p).arrived m.clients n ≡ Yes →
    (peer_at (after_event m progress (Tick p)) p).ticked ≡ n + 1
tick_counts m progress p n below next ready =
    ap (λ (r : Reached). r.ticked) (set_here progress.peers p _ nothing_reached below)
    ∙ ap (λ t. ticked_after (ready_by (peer_at progress p).arrived m.clients t) t) next
    ∙ ap (λ r. ticked_after r n) ready

not_both : {X : Type 0} (found : Option X) (x : X) → found ≡ None → found ≡ Some x → ⊥
not_both found x none some = cc

-- And whenever it was told so, it ticked.
pub ticks_when_told :
    {W : Type 0} (m : Match W) (events : List Event) (i p n : ℕ) → p < m.clients →
    WasToldToTick m events i p n → n < (peer_after m events i p).ticked
ticks_when_told m events zero p n own told = let none : told.event < 0 = told.before in absurd (omega (arith, none))
ticks_when_told {W} m events (suc i) p n own told =
    by_found (ticks_when_told m events i p n own) (slice_get events i) refl (before_or_now told.event i told.before) where
      later :
          (event : Event) → slice_get events i ≡ Some event → n < (peer_after m events i p).ticked →
          n < (peer_after m events (suc i) p).ticked
      later event is less =
          let more = ticks_grow m (record_after m events i) event p in
          subst (λ (r : Progress). n < (peer_at r p).ticked) (sym (next_record m events i event is))
          (omega (arith, less, more))

      now : told.event ≡ i → n < (peer_after m events (suc i) p).ticked
      now same =
          let at : slice_get events i ≡ Some (Tick p) = subst (λ (k : ℕ). slice_get events k ≡ Some (Tick p)) same told.told in
          let next : (peer_after m events i p).ticked ≡ n = subst (λ (k : ℕ). (peer_after m events k p).ticked ≡ n) same told.next in
          let ready : ready_by (peer_after m events i p).arrived m.clients n ≡ Yes =
          subst (λ (k : ℕ). ready_by (peer_after m events k p).arrived m.clients n ≡ Yes) same told.ready in
          let counts = tick_counts m (record_after m events i) p n (rw (length_peers m events i) own) next ready in
          subst (λ (r : Progress). n < (peer_at r p).ticked) (sym (next_record m events i (Tick p) at))
          (subst (λ (t : ℕ). n < t) (sym counts) (omega arith))

      earlier : told.event < i → WasToldToTick m events i p n
      earlier before =
          record { event = told.event; before = before; told = told.told; next = told.next; ready = told.ready }

      by_found :
          (WasToldToTick m events i p n → n < (peer_after m events i p).ticked) →
          (found : Option Event) → slice_get events i ≡ found → (told.event < i) ⊎ (told.event ≡ i) →
          n < (peer_after m events (suc i) p).ticked
      by_found so_far (Some event) is (inl before) = later event is (so_far (earlier before))
      by_found so_far None is (inl before) =
          subst (λ (r : Progress). n < (peer_at r p).ticked) (sym (last_record m events i is)) (so_far (earlier before))
      by_found so_far found is (inr same) = now same
