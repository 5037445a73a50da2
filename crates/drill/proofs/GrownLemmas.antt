-- The columns only grow, and what was ticked stays ready: proofs.
use Rattle.std.proofs.Common.{◌≡◌, ℕ, false, zero, suc, ◌+◌, ◌-◌, ◌≤◌, List, [], ◌∷◌, ◌++◌}
use Rattle.std.proofs.Common.{length}
use Rattle.std.proofs.Common.{refl, sym, ap, subst, ◌∙◌, arith, inl, inr, append_assoc}
use Rattle.std.specs.Prelude.{Option, Some, None, slice_get, replicate}
use Rattle.std.specs.List.{AllByRecursion}
use Rattle.std.proofs.lemmas.List.{length-set}
use Rattle.frame_core.specs.declared.ready.Ready.{Ready}
use Rattle.frame_core.specs.declared.ready.Ready.TheVariants.{Yes, NotYet, Over}
use Rattle.frame_core.specs.Column.{Column, no_column}
use Rattle.frame_core.specs.Ready.{inputs_of, ready_at}
use Rattle.frame_core.specs.Input.{ready_of}
use Rattle.frame_core.specs.Tick.{ticked_after}
use Rattle.frame_core.specs.Agreed.{AreReady}
use Rattle.frame_core.proofs.AgreedLemmas.{ready_all, AreReady-grow, frames_stay, no_frames_ready}
use Rattle.frame_core.proofs.AgreedLemmas.{one_more_ready, ticked_ready}
use Rattle.frame_core.specs.Grows.{GrowsTo, Grows}
use Rattle.frame_core.proofs.GrowsLemmas.{Grows-refl}
use Rattle.frame_core.specs.Match.{Match}
use Rattle.order_packets.specs.declared.up.Up.{Up as Packet}
use Rattle.order_packets.specs.declared.up.Up.TheVariants as packet
use Rattle.peer_core.specs.declared.arrived.Arrived.{Arrived as ArrivedEntry}
use Rattle.peer_core.specs.Arrived.{each_of, ready_by}
use Rattle.peer_core.specs.Faithful.{Stands}
use Rattle.peer_core.proofs.FaithfulLemmas.{ready_agrees}
use Rattle.server_core.specs.Server.{columns_after_packet}
use Rattle.server_core.proofs.ServedLemmas.{drop_grows}
use Rattle.drill_words.specs.declared.event.Event.{Event}
use Rattle.drill_words.specs.declared.event.Event.TheVariants.{Seal, Up, Down, Tick, TickServer}
use Rattle.drill_words.specs.declared.event.Event.TheVariants.{DropClient, Report, Forge, Bye}
use Rattle.drill.specs.declared.sent.Sent.{Sent}
use Rattle.drill.specs.Record.{Reached, Progress, nothing_reached, opening, peer_at, after_event}
use Rattle.drill.specs.Record.{columns_after_up}
use Rattle.drill.specs.Agreement.{record_after, peer_after, ColumnsOnlyGrow}
use Rattle.drill.proofs.FoundLemmas.{up_grows, arrived_stand}
use Rattle.drill.proofs.TickedLemmas.{ticked_reached}
use Rattle.drill.proofs.RecordLemmas.{by_events, next_record, last_record, same_after_set}
use Rattle.drill.proofs.RecordLemmas.{place_after_set, opening_peer}

GrowsTo-trans : (a b c : Column) → GrowsTo a b → GrowsTo b c → GrowsTo a c
GrowsTo-trans a b c first second =
    record {
      more = first.more ++ second.more;
      plays =
          second.plays ∙ ap (λ plays. plays ++ second.more) first.plays
          ∙ append_assoc a.plays first.more second.more;
      closed = λ left.
          let same : b ≡ a = first.closed left in
          second.closed (ap (λ (x : Column). x.left) same ∙ left) ∙ same;
    }

Grows-trans : (olds mids news : List Column) → Grows olds mids → Grows mids news → Grows olds news
Grows-trans [] [] [] first second = tt
Grows-trans [] [] (c ∷ news) first second = absurd second
Grows-trans [] (b ∷ mids) news first second = absurd first
Grows-trans (a ∷ olds) [] news first second = absurd first
Grows-trans (a ∷ olds) (b ∷ mids) [] first second = absurd second
Grows-trans (a ∷ olds) (b ∷ mids) (c ∷ news) first second =
    (GrowsTo-trans a b c first.0 second.0, Grows-trans olds mids news first.1 second.1)

event_grows :
    {W : Type 0} (m : Match W) (progress : Progress) (event : Event) →
    Grows progress.columns (after_event m progress event).columns
event_grows m progress (Seal q orders) = Grows-refl progress.columns
event_grows m progress (Up number) = up_grows (slice_get progress.sent number) progress.columns
event_grows m progress (Down q d k) = Grows-refl progress.columns
event_grows m progress (Tick q) = Grows-refl progress.columns
event_grows m progress TickServer = Grows-refl progress.columns
event_grows m progress (DropClient client) = drop_grows progress.columns client
event_grows m progress (Report q) = Grows-refl progress.columns
event_grows m progress (Forge client frame hash) = Grows-refl progress.columns
event_grows m progress (Bye q) = Grows-refl progress.columns

one_event_grows :
    {W : Type 0} (m : Match W) (events : List Event) (i : ℕ) →
    Grows (record_after m events i).columns (record_after m events (suc i)).columns
one_event_grows {W} m events i = by_found (slice_get events i) refl where
  by_found :
      (found : Option Event) → slice_get events i ≡ found →
      Grows (record_after m events i).columns (record_after m events (suc i)).columns
  by_found (Some event) is =
      subst (λ (r : Progress). Grows (record_after m events i).columns r.columns)
      (sym (next_record m events i event is)) (event_grows m (record_after m events i) event)
  by_found None is =
      subst (λ (r : Progress). Grows (record_after m events i).columns r.columns)
      (sym (last_record m events i is)) (Grows-refl (record_after m events i).columns)

grow_by :
    {W : Type 0} (m : Match W) (events : List Event) (i d j : ℕ) → d + i ≡ j →
    Grows (record_after m events i).columns (record_after m events j).columns
grow_by m events i zero j is =
    let same : i ≡ j = omega (arith, is) in
    subst (λ (k : ℕ). Grows (record_after m events i).columns (record_after m events k).columns) same
    (Grows-refl (record_after m events i).columns)
grow_by m events i (suc d) j is =
    let next : suc (d + i) ≡ j = omega (arith, is) in
    subst (λ (k : ℕ). Grows (record_after m events i).columns (record_after m events k).columns) next
    (Grows-trans (record_after m events i).columns (record_after m events (d + i)).columns
    (record_after m events (suc (d + i))).columns (grow_by m events i d (d + i) refl)
    (one_event_grows m events (d + i)))

-- From the first i events to the first j the columns only grow.
columns_grow :
    {W : Type 0} (m : Match W) (events : List Event) (i j : ℕ) → i ≤ j →
    Grows (record_after m events i).columns (record_after m events j).columns
columns_grow m events i j below = grow_by m events i (j - i) j (omega arith)

packet_columns : (columns : List Column) (c : ℕ) (p : Packet) → length (columns_after_packet columns c p) ≡ length columns
packet_columns columns c (packet.Hello version rules) = refl
packet_columns columns c (packet.Orders frame orders) = length-set columns c _
packet_columns columns c (packet.Sync frame hash) = refl
packet_columns columns c packet.Bye = length-set columns c _

up_columns : (found : Option Sent) (columns : List Column) → length (columns_after_up found columns) ≡ length columns
up_columns None columns = refl
up_columns (Some sent) columns = packet_columns columns sent.client sent.packet

columns_kept :
    {W : Type 0} (m : Match W) (progress : Progress) (event : Event) →
    length (after_event m progress event).columns ≡ length progress.columns
columns_kept m progress (Seal q orders) = refl
columns_kept m progress (Up number) = up_columns (slice_get progress.sent number) progress.columns
columns_kept m progress (Down q d k) = refl
columns_kept m progress (Tick q) = refl
columns_kept m progress TickServer = refl
columns_kept m progress (DropClient client) = length-set progress.columns client _
columns_kept m progress (Report q) = refl
columns_kept m progress (Forge client frame hash) = refl
columns_kept m progress (Bye q) = refl

length-columns : (n : ℕ) → length (replicate n no_column) ≡ n
length-columns zero = refl
length-columns (suc n) = ap suc (length-columns n)

-- There is one column for each client.
pub length_columns :
    {W : Type 0} (m : Match W) (events : List Event) (i : ℕ) → length (record_after m events i).columns ≡ m.clients
length_columns m events i =
    by_events m events (λ j progress. length progress.columns ≡ m.clients) (length-columns m.clients)
    (λ j event at so_far. columns_kept m (record_after m events j) event ∙ so_far) (λ j so_far. so_far) i

-- What is ready by what reached a peer is ready by the columns.
ready_by_columns :
    (columns : List Column) (arrived : List ArrivedEntry) (clients n : ℕ) → length columns ≡ clients →
    AllByRecursion (Stands columns) arrived → ready_by arrived clients n ≡ Yes → ready_at columns n ≡ Yes
ready_by_columns columns arrived clients n whole all ready =
    ap (λ each. ready_of (inputs_of each))
    (sym (ready_agrees columns arrived clients n whole all (ready_all 0 false (each_of arrived 0 clients n) ready)))
    ∙ ready

peer_ticked_ready :
    (columns : List Column) (n : ℕ) (ready : Ready) → (ready ≡ Yes → ready_at columns n ≡ Yes) →
    AreReady columns n → AreReady columns (ticked_after ready n)
peer_ticked_ready columns n Yes here all = one_more_ready columns n all (here refl)
peer_ticked_ready columns n (NotYet c) here all = all
peer_ticked_ready columns n Over here all = all

-- Each frame that the server or a peer has ticked is ready.
record ReadySoFar (progress : Progress) : Type 0 where
  server : AreReady progress.columns progress.ticked
  peers : (p : ℕ) → AreReady progress.columns (peer_at progress p).ticked

grown_ready : (progress : Progress) (news : List Column) (reports : List (List (Option ℕ))) → Grows progress.columns news →
    ReadySoFar progress → ReadySoFar (record progress { columns = news; reports = reports })
grown_ready progress news reports grows ready =
    record {
      server = AreReady-grow progress.columns news progress.ticked grows ready.server;
      peers = λ p. AreReady-grow progress.columns news (peer_at progress p).ticked grows (ready.peers p);
    }

ready_step :
    {W : Type 0} (m : Match W) (progress : Progress) (event : Event) → length progress.columns ≡ m.clients →
    ((q : ℕ) → AllByRecursion (Stands progress.columns) (peer_at progress q).arrived) →
    ReadySoFar progress → ReadySoFar (after_event m progress event)
ready_step m progress (Seal q orders) whole stand ready =
    record {
      server = ready.server;
      peers = λ p.
          subst (AreReady progress.columns)
          (sym (same_after_set (λ (r : Reached). r.ticked) progress.peers q _ nothing_reached p refl)) (ready.peers p);
    }
ready_step m progress (Up number) whole stand ready =
    grown_ready progress _ _ (up_grows (slice_get progress.sent number) progress.columns) ready
ready_step m progress (Down q d k) whole stand ready =
    record {
      server = ready.server;
      peers = λ p.
          subst (AreReady progress.columns)
          (sym (same_after_set (λ (r : Reached). r.ticked) progress.peers q _ nothing_reached p refl)) (ready.peers p);
    }
ready_step m progress (Tick q) whole stand ready =
    record {
      server = ready.server;
      peers = λ p.
          elim (place_after_set progress.peers q (ticked_reached m progress q) nothing_reached p) [
            | inl new ↦
                subst (λ (r : Reached). AreReady progress.columns r.ticked) (sym new.1)
                (peer_ticked_ready progress.columns (peer_at progress q).ticked
                (ready_by (peer_at progress q).arrived m.clients (peer_at progress q).ticked)
                (ready_by_columns progress.columns (peer_at progress q).arrived m.clients (peer_at progress q).ticked whole (stand q))
                (ready.peers q))
            | inr old ↦ subst (λ (r : Reached). AreReady progress.columns r.ticked) (sym old) (ready.peers p)
          ];
    }
ready_step m progress TickServer whole stand ready =
    record {
      server = ticked_ready progress.columns progress.ticked (ready_at progress.columns progress.ticked) refl ready.server;
      peers = ready.peers;
    }
ready_step m progress (DropClient client) whole stand ready =
    grown_ready progress _ progress.reports (drop_grows progress.columns client) ready
ready_step m progress (Report q) whole stand ready = record { server = ready.server; peers = ready.peers }
ready_step m progress (Forge client frame hash) whole stand ready = record { server = ready.server; peers = ready.peers }
ready_step m progress (Bye q) whole stand ready = record { server = ready.server; peers = ready.peers }

opening_ready : (clients : ℕ) → ReadySoFar (opening clients)
opening_ready clients =
    record {
      server = no_frames_ready (opening clients).columns;
      peers = λ p.
          subst (λ (r : Reached). AreReady (opening clients).columns r.ticked) (sym (opening_peer clients p))
          (no_frames_ready (opening clients).columns);
    }

frames_ready : {W : Type 0} (m : Match W) (events : List Event) (i : ℕ) → ReadySoFar (record_after m events i)
frames_ready m events i =
    by_events m events (λ j progress. ReadySoFar progress) (opening_ready m.clients)
    (λ j event at so_far.
    ready_step m (record_after m events j) event (length_columns m events j) (arrived_stand m events j) so_far)
    (λ j so_far. so_far) i

-- The columns only grow, and the frames that were ticked are the same at the tick and ever after.
pub columns_only_grow :
    {W : Type 0} (m : Match W) (events : List Event) (i j : ℕ) → i ≤ j → ColumnsOnlyGrow m events i j
columns_only_grow m events i j below =
    let grow = columns_grow m events i j below in
    let ready = frames_ready m events i in
    record {
      grow = grow;
      ready = ready.server;
      frames = frames_stay (record_after m events i).columns (record_after m events j).columns
          (record_after m events i).ticked grow ready.server;
      peers_ready = ready.peers;
      peers_frames = λ p. frames_stay (record_after m events i).columns (record_after m events j).columns
          (peer_after m events i p).ticked grow (ready.peers p);
    }
