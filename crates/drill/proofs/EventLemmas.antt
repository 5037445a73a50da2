-- What each event does to a running match, over plain values.
use Rattle.std.proofs.Common.{◌≡◌, ℕ, Bool, true, false, suc, ◌-◌, ◌<◌, List, [], ◌∷◌, ◌++◌, length}
use Rattle.std.proofs.Common.{map, get_or}
use Rattle.std.proofs.Common.{refl, sym, ap, ap₂, subst, ◌∙◌, arith, append-nil}
use Rattle.std.specs.Prelude.{Option, Some, None, Result, Ok, Err, slice_get, slice_set}
use Rattle.std.specs.Prelude.{◌==◌, if◌then◌else◌, is_some}
use Rattle.std.proofs.lemmas.Bool.{eqb-true, eqb-false}
use Rattle.std.proofs.lemmas.List.{map-set, length-set, set-get_or}
use Rattle.game_orders.specs.declared.order.Order.{Order}
use Rattle.game_orders.specs.declared.entry.Entry.{Entry}
use Rattle.frame_core.specs.declared.tick_answer.TickAnswer.{TickAnswer}
use Rattle.frame_core.specs.declared.leaving.Leaving.{Leaving}
use Rattle.frame_core.specs.declared.summary.Summary.{Summary}
use Rattle.frame_core.specs.Column.{Column, column_of, entry_at, leave_answer}
use Rattle.frame_core.specs.Ready.{ready_at}
use Rattle.frame_core.specs.Tick.{tick_answer, ticked_after}
use Rattle.order_packets.specs.declared.up.Up.{Up as Packet}
use Rattle.order_packets.specs.declared.up.Up.TheVariants.{Hello, Orders, Sync, Bye}
use Rattle.peer_core.specs.declared.arrived.Arrived.{Arrived as ArrivedEntry}
use Rattle.peer_core.specs.declared.receipt.Receipt.{Receipt}
use Rattle.peer_core.specs.Receipt.{receipt_of}
use Rattle.peer_core.specs.declared.report.Report.{Report}
use Rattle.peer_core.specs.declared.seal_fault.SealFault.{SealFault}
use Rattle.peer_core.specs.declared.delivered.Delivered.TheVariants.{Kept, Repeat}
use Rattle.peer_core.proofs.DeliveryLemmas.{delivery_agreed}
use Rattle.peer_core.specs.Arrived.{ready_by, kept_at, with_arrived}
use Rattle.peer_core.specs.Delivery.{delivery_of, after_delivery}
use Rattle.peer_core.specs.Peer.{PeerState, seal_answer, sealed_after, sealed_peer, delivered_peer}
use Rattle.peer_core.specs.Peer.{ticked_peer, report_of}
use Rattle.peer_core.specs.Faithful.{IsFaithful}
use Rattle.peer_core.proofs.FaithfulLemmas.{seal_faithful, deliver_faithful, tick_faithful}
use Rattle.server_core.specs.declared.up_answer.UpAnswer.{UpAnswer}
use Rattle.server_core.proofs.ServedLemmas.{packet_grows, drop_grows, tick_is_served}
use Rattle.server_core.specs.Server.{ServerState, packet_answer, columns_after_drop}
use Rattle.server_core.specs.Server.{columns_after_packet, reports_after_packet, after_packet}
use Rattle.server_core.specs.Server.{after_drop, after_tick}
use Rattle.drill_words.specs.declared.event.Event.TheVariants.{Seal, Up, Down, Tick, TickServer}
use Rattle.drill_words.specs.declared.event.Event.TheVariants.{DropClient, Report as SendReport}
use Rattle.drill_words.specs.declared.event.Event.TheVariants.{Forge, Bye as SendBye}
use Rattle.drill.specs.declared.sent.Sent.{Sent}
use Rattle.drill.specs.declared.outcome.Outcome.TheVariants.{NoPacket, NoEntry, Arrived, Repeated}
use Rattle.drill.specs.declared.outcome.Outcome.TheVariants.{Ticking, Leaves, ReportSent, NoFrame}
use Rattle.drill.specs.declared.outcome.Outcome.TheVariants.{ByeSent}
use Rattle.frame_core.specs.Match.{Match, agreed_world, agreed_hash}
use Rattle.drill.specs.Record.{Reached, Progress, nothing_reached, peer_at, seal_of, seal_outcome}
use Rattle.drill.specs.Record.{sent_by_seal, packet_outcome}
use Rattle.drill.specs.Record.{up_outcome, columns_after_up, reports_after_up, down_outcome}
use Rattle.drill.specs.Record.{arrived_after_down, report_outcome, sent_by_report}
use Rattle.drill.specs.RunningMatch.{RunState, answer_outcome, receipt_outcome, reached_of}
use Rattle.drill.specs.RunningMatch.{progress_of, match_from}
use Rattle.drill.specs.RunningMatch.{IsNoGreeting, IsNumbered, IsWhole, IsSound, RunsEvent}
use Rattle.drill.proofs.InFramesLemmas.{columns_in_frames, left_in_frames, packet_in_frames}
use Rattle.drill.proofs.RunningMatchLemmas.{some_same, all_at, reached_at, send_whole}
use Rattle.drill.proofs.RunningMatchLemmas.{peer_whole, peer_number}
use Rattle.drill.proofs.RunningMatchLemmas.{server_whole, peer_sound, grow_sound}

packet_columns : (columns : List Column) (c : ℕ) (packet : Packet) → length (columns_after_packet columns c packet) ≡ length columns
packet_columns columns c (Hello version rules) = refl
packet_columns columns c (Orders frame orders) = length-set columns c _
packet_columns columns c (Sync frame hash) = refl
packet_columns columns c Bye = length-set columns c _

packet_reports : (reports : List (List (Option ℕ))) (c : ℕ) (packet : Packet) → length (reports_after_packet reports c packet) ≡ length reports
packet_reports reports c (Hello version rules) = refl
packet_reports reports c (Orders frame orders) = refl
packet_reports reports c (Sync frame hash) = length-set reports c _
packet_reports reports c Bye = refl

answered :
    (columns : List Column) (reports : List (List (Option ℕ))) (c : ℕ) (packet : Packet) →
    answer_outcome c packet (packet_answer columns reports c packet) ≡ packet_outcome columns reports c packet
answered columns reports c (Hello version rules) = refl
answered columns reports c (Orders frame orders) = refl
answered columns reports c (Sync frame hash) = refl
answered columns reports c Bye = refl

seal_whole :
    {W : Type 0} (run : RunState W) (p : ℕ) (orders : List Order) (answer : Result ℕ SealFault) → IsWhole run →
    p < run.clients → IsWhole (record run { sent = run.sent ++ sent_by_seal answer p orders })
seal_whole run p orders (Ok frame) whole below = send_whole run p (Orders frame orders) whole below tt
seal_whole {W} run p orders (Err fault) whole below =
    let P : List Sent → Type 0 = λ s. IsWhole (record run { sent = s }) in
    subst P (sym (append-nil run.sent)) whole

-- A seal.
pub seal_runs :
    {W E : Type 0} (after : W → List Entry → W) (hash : W → ℕ) (summary : W → Summary) (run : RunState W)
    (sent' : List Sent) (p : ℕ) (orders : List Order) (old new : PeerState W) (answer : Result ℕ SealFault) →
    IsWhole run → p < run.clients → old ≡ get_or run.peers p old →
    answer ≡ seal_answer old.arrived old.me old.lag old.ticked old.sealed → new ≡ sealed_peer old →
    sent' ≡ run.sent ++ sent_by_seal answer p orders →
    RunsEvent {E = E} (match_from after hash summary run) (Seal p orders) run
    (record run { sent = sent'; peers = slice_set run.peers p new }) (Ok (seal_outcome answer))
seal_runs {W} {E} after hash summary run sent' p orders old new answer whole below is answer_is new_is sent_is =
    record {
      whole =
          let P : List Sent → Type 0 = λ s. IsWhole (record run { sent = s; peers = slice_set run.peers p new }) in
          let Q : PeerState W → Type 0 = IsNumbered run.clients run.lag p in
          let sealed_number : IsNumbered run.clients run.lag p (sealed_peer old) =
          record { me = number.me; clients_are = number.clients_are; lag_is = number.lag_is } in
          subst P (sym sent_is)
          (peer_whole (record run { sent = run.sent ++ sent_by_seal answer p orders }) p new
          (seal_whole run p orders answer whole below)
          (subst Q (sym new_is) sealed_number));
      follows = λ start sound. (
        record { outcome_is = ap seal_outcome (sym seal_is); left = ap₂ with_parts sent_eq peers_eq },
        moved_sound start (peer_sound (match_from after hash summary run start) run p new sound
            (let Q : PeerState W → Type 0 = IsFaithful after start run.server.columns in
            subst Q (sym new_is)
            (seal_faithful after start run.server.columns old (all_at Q run.peers p old sound.each in_range is)))),
      );
    } where
      number : IsNumbered run.clients run.lag p old
      number = peer_number run p old whole below is

      in_range : p < length run.peers
      in_range = rw whole.peers below

      reached : peer_at (progress_of run) p ≡ reached_of old
      reached = reached_at run p old in_range is

      seal_is : seal_of run.lag (progress_of run) p ≡ answer
      seal_is =
          ap (λ (r : Reached). seal_answer r.arrived p run.lag r.ticked r.sealed) reached
          ∙ ap₂ (λ m l. seal_answer old.arrived m l old.ticked old.sealed) (sym number.me) (sym number.lag_is)
          ∙ sym answer_is

      with_parts : List Sent → List Reached → Progress
      with_parts s ps = record (progress_of run) { sent = s; peers = ps }

      sent_eq : sent' ≡ run.sent ++ sent_by_seal (seal_of run.lag (progress_of run) p) p orders
      sent_eq = sent_is ∙ ap (λ a. run.sent ++ sent_by_seal a p orders) (sym seal_is)

      peers_eq :
          map reached_of (slice_set run.peers p new)
          ≡ slice_set (map reached_of run.peers) p
          (record (peer_at (progress_of run) p) {
            sealed = sealed_after (seal_of run.lag (progress_of run) p) (peer_at (progress_of run) p).sealed;
          })
      peers_eq =
          map-set reached_of run.peers p new
          ∙ ap (slice_set (map reached_of run.peers) p)
          (ap reached_of new_is
          ∙ ap₂ (λ a (r : Reached). record r { sealed = sealed_after a r.sealed }) (sym answer_is ∙ sym seal_is) (sym reached))

      moved_sound :
          (start : W) → IsSound (match_from after hash summary run start) (record run { peers = slice_set run.peers p new }) →
          IsSound (match_from after hash summary run start) (record run { sent = sent'; peers = slice_set run.peers p new })
      moved_sound start sound = record { served = sound.served; each = sound.each }

-- A packet that the server gets.
pub up_runs :
    {W E : Type 0} (after : W → List Entry → W) (hash : W → ℕ) (summary : W → Summary) (run : RunState W)
    (new : ServerState W) (k : ℕ) (sent : Sent) (answer : UpAnswer) →
    IsWhole run → Some sent ≡ slice_get run.sent k →
    answer ≡ packet_answer run.server.columns run.server.reports sent.client sent.packet →
    new ≡ after_packet run.server sent.client sent.packet →
    RunsEvent {E = E} (match_from after hash summary run) (Up k) run (record run { server = new })
    (Ok (answer_outcome sent.client sent.packet answer))
up_runs {W} {E} after hash summary run new k sent answer whole found answer_is new_is =
    let P : ServerState W → Type 0 =
    λ s. RunsEvent {E = E} (match_from after hash summary run) (Up k) run (record run { server = s })
    (Ok (answer_outcome sent.client sent.packet answer)) in
    subst P (sym new_is)
    (record {
      whole =
          server_whole run (after_packet run.server sent.client sent.packet)
          (packet_columns run.server.columns sent.client sent.packet)
          (packet_reports run.server.reports sent.client sent.packet)
          (packet_in_frames run.server.columns sent.client sent.packet whole.in_frames) whole;
      follows = λ start sound. (
        record {
          outcome_is =
              ap (answer_outcome sent.client sent.packet) answer_is
              ∙ answered run.server.columns run.server.reports sent.client sent.packet
              ∙ ap (λ f. up_outcome f run.server.columns run.server.reports) found;
          left =
              ap (λ f. record (progress_of run) {
                columns = columns_after_up f run.server.columns;
                reports = reports_after_up f run.server.reports;
              }) found;
        },
        grow_sound (match_from after hash summary run start) run _ _
            (packet_grows run.server.columns sent.client sent.packet) sound,
      );
    })

-- No such packet.
pub no_packet_runs :
    {W E : Type 0} (after : W → List Entry → W) (hash : W → ℕ) (summary : W → Summary) (run : RunState W) (k : ℕ) →
    IsWhole run → None ≡ slice_get run.sent k →
    RunsEvent {E = E} (match_from after hash summary run) (Up k) run run (Ok NoPacket)
no_packet_runs after hash summary run k whole found =
    record {
      whole = whole;
      follows = λ start sound. (
        record {
          outcome_is = ap (λ f. up_outcome f run.server.columns run.server.reports) found;
          left =
              ap (λ f. record (progress_of run) {
                columns = columns_after_up f run.server.columns;
                reports = reports_after_up f run.server.reports;
              }) found;
        },
        sound,
      );
    }

arrives :
    (c n : ℕ) (again : Bool) →
    receipt_outcome c n (receipt_of (if again then Repeat else Kept)) ≡ (if again then Repeated c n else Arrived c n)
arrives c n true = refl
arrives c n false = refl

keeps :
    (again : Bool) (t : ArrivedEntry) (ts : List ArrivedEntry) →
    after_delivery (if again then Repeat else Kept) t ts ≡ (if again then ts else with_arrived t ts)
keeps true t ts = refl
keeps false t ts = refl

-- An agreed entry that reaches a peer.
pub down_runs :
    {W E : Type 0} (after : W → List Entry → W) (hash : W → ℕ) (summary : W → Summary) (run : RunState W)
    (p c n : ℕ) (entry : Entry) (old new : PeerState W) (answer : Receipt) →
    IsWhole run → p < run.clients → old ≡ get_or run.peers p old →
    Some entry ≡ entry_at (column_of run.server.columns c) n → answer ≡ receipt_of (delivery_of old.arrived c n entry) →
    new ≡ delivered_peer old c n entry →
    RunsEvent {E = E} (match_from after hash summary run) (Down p c n) run
    (record run { peers = slice_set run.peers p new }) (Ok (receipt_outcome c n answer))
down_runs {W} {E} after hash summary run p c n entry old new answer whole below is found answer_is new_is =
    record {
      whole =
          let Q : PeerState W → Type 0 = IsNumbered run.clients run.lag p in
          let same : IsNumbered run.clients run.lag p (delivered_peer old c n entry) =
          record { me = number.me; clients_are = number.clients_are; lag_is = number.lag_is } in
          peer_whole run p new whole (subst Q (sym new_is) same);
      follows = λ start sound.
          let Q : PeerState W → Type 0 = IsFaithful after start run.server.columns in
          let faithful : IsFaithful after start run.server.columns old = all_at Q run.peers p old sound.each in_range is in
          let agreed : delivery_of old.arrived c n entry ≡ (if is_some (kept_at old.arrived c n) then Repeat else Kept) =
          delivery_agreed run.server.columns old.arrived c n entry
          (columns_in_frames run.server.columns c whole.in_frames) faithful.stand (sym found) in (
            record {
              outcome_is =
                  ap (receipt_outcome c n) (answer_is ∙ ap receipt_of agreed) ∙ arrives c n (is_some (kept_at old.arrived c n))
                  ∙ ap₂ (λ f (r : Reached). down_outcome f r.arrived c n) found (sym reached);
              left =
                  ap with_peers
                  (map-set reached_of run.peers p new
                  ∙ ap (slice_set (map reached_of run.peers) p)
                  (ap reached_of new_is
                  ∙ ap (λ d. let r = reached_of old in record r {
                    arrived = after_delivery d (record { client = c; frame = n; entry = entry }) old.arrived;
                  }) agreed
                  ∙ ap (λ ts. let r = reached_of old in record r { arrived = ts })
                  (keeps (is_some (kept_at old.arrived c n)) (record { client = c; frame = n; entry = entry }) old.arrived)
                  ∙ ap₂ (λ f (r : Reached). record r { arrived = arrived_after_down f r.arrived c n }) found (sym reached)));
            },
            peer_sound (match_from after hash summary run start) run p new sound
                (subst Q (sym new_is) (deliver_faithful after start run.server.columns old c n entry (sym found) faithful)),
          );
    } where
      number : IsNumbered run.clients run.lag p old
      number = peer_number run p old whole below is

      in_range : p < length run.peers
      in_range = rw whole.peers below

      reached : peer_at (progress_of run) p ≡ reached_of old
      reached = reached_at run p old in_range is

      with_peers : List Reached → Progress
      with_peers ps = record (progress_of run) { peers = ps }

-- No entry stands there.
pub no_entry_runs :
    {W E : Type 0} (after : W → List Entry → W) (hash : W → ℕ) (summary : W → Summary) (run : RunState W) (p c n : ℕ) →
    IsWhole run → None ≡ entry_at (column_of run.server.columns c) n →
    RunsEvent {E = E} (match_from after hash summary run) (Down p c n) run run (Ok NoEntry)
no_entry_runs after hash summary run p c n whole found =
    record {
      whole = whole;
      follows = λ start sound. (
        record {
          outcome_is = ap (λ f. down_outcome f (peer_at (progress_of run) p).arrived c n) found;
          left =
              ap with_peers
              (sym (set-get_or (map reached_of run.peers) p nothing_reached)
              ∙ ap (λ f. slice_set (map reached_of run.peers) p (record (peer_at (progress_of run) p) {
                arrived = arrived_after_down f (peer_at (progress_of run) p).arrived c n;
              })) found);
        },
        sound,
      );
    } where
      with_peers : List Reached → Progress
      with_peers ps = record (progress_of run) { peers = ps }

-- A peer's tick.
pub tick_runs :
    {W E : Type 0} (after : W → List Entry → W) (hash : W → ℕ) (summary : W → Summary) (run : RunState W)
    (p : ℕ) (old new : PeerState W) (answer : TickAnswer) →
    IsWhole run → p < run.clients → old ≡ get_or run.peers p old →
    answer ≡ tick_answer (ready_by old.arrived old.clients old.ticked) old.ticked → new ≡ ticked_peer after old →
    RunsEvent {E = E} (match_from after hash summary run) (Tick p) run
    (record run { peers = slice_set run.peers p new }) (Ok (Ticking answer))
tick_runs {W} {E} after hash summary run p old new answer whole below is answer_is new_is =
    record {
      whole =
          let Q : PeerState W → Type 0 = IsNumbered run.clients run.lag p in
          let same : IsNumbered run.clients run.lag p (ticked_peer after old) =
          record { me = number.me; clients_are = number.clients_are; lag_is = number.lag_is } in
          peer_whole run p new whole (subst Q (sym new_is) same);
      follows = λ start sound. (
        record {
          outcome_is =
              ap Ticking
              (answer_is
              ∙ ap₂ (λ k (r : Reached). tick_answer (ready_by r.arrived k r.ticked) r.ticked) number.clients_are (sym reached));
          left = ap with_peers peers_eq;
        },
        peer_sound (match_from after hash summary run start) run p new sound
            (let Q : PeerState W → Type 0 = IsFaithful after start run.server.columns in
            subst Q (sym new_is)
            (tick_faithful after start run.server.columns old (whole.columns ∙ sym number.clients_are)
            (all_at Q run.peers p old sound.each in_range is))),
      );
    } where
      number : IsNumbered run.clients run.lag p old
      number = peer_number run p old whole below is

      in_range : p < length run.peers
      in_range = rw whole.peers below

      reached : peer_at (progress_of run) p ≡ reached_of old
      reached = reached_at run p old in_range is

      with_peers : List Reached → Progress
      with_peers ps = record (progress_of run) { peers = ps }

      peers_eq :
          map reached_of (slice_set run.peers p new)
          ≡ slice_set (map reached_of run.peers) p
          (record (peer_at (progress_of run) p) {
            ticked =
                ticked_after (ready_by (peer_at (progress_of run) p).arrived run.clients (peer_at (progress_of run) p).ticked)
                (peer_at (progress_of run) p).ticked;
          })
      peers_eq =
          map-set reached_of run.peers p new
          ∙ ap (slice_set (map reached_of run.peers) p)
          (ap reached_of new_is
          ∙ ap₂ (λ k (r : Reached). record r { ticked = ticked_after (ready_by r.arrived k r.ticked) r.ticked })
          number.clients_are (sym reached))

-- The server's tick.
pub tick_server_runs :
    {W E : Type 0} (after : W → List Entry → W) (hash : W → ℕ) (summary : W → Summary) (run : RunState W)
    (new : ServerState W) (answer : TickAnswer) → IsWhole run →
    answer ≡ tick_answer (ready_at run.server.columns run.server.ticked) run.server.ticked →
    new ≡ after_tick after hash run.server →
    RunsEvent {E = E} (match_from after hash summary run) TickServer run (record run { server = new })
    (Ok (Ticking answer))
tick_server_runs {W} {E} after hash summary run new answer whole answer_is new_is =
    let P : ServerState W → Type 0 =
    λ s. RunsEvent {E = E} (match_from after hash summary run) TickServer run (record run { server = s })
    (Ok (Ticking answer)) in
    subst P (sym new_is)
    (record {
      whole = server_whole run (after_tick after hash run.server) refl refl whole.in_frames whole;
      follows = λ start sound. (
        record { outcome_is = ap Ticking answer_is; left = refl },
        record { served = tick_is_served (match_from after hash summary run start) run.server sound.served; each = sound.each },
      );
    })

-- The server lets a client leave.
pub drop_runs :
    {W E : Type 0} (after : W → List Entry → W) (hash : W → ℕ) (summary : W → Summary) (run : RunState W)
    (new : ServerState W) (c : ℕ) (answer : Leaving) → IsWhole run →
    answer ≡ leave_answer (column_of run.server.columns c) → new ≡ after_drop run.server c →
    RunsEvent {E = E} (match_from after hash summary run) (DropClient c) run (record run { server = new })
    (Ok (Leaves c answer))
drop_runs {W} {E} after hash summary run new c answer whole answer_is new_is =
    let P : ServerState W → Type 0 =
    λ s. RunsEvent {E = E} (match_from after hash summary run) (DropClient c) run (record run { server = s })
    (Ok (Leaves c answer)) in
    subst P (sym new_is)
    (record {
      whole =
          server_whole run (after_drop run.server c) (length-set run.server.columns c _) refl
          (left_in_frames run.server.columns c whole.in_frames) whole;
      follows = λ start sound. (
        record { outcome_is = ap (Leaves c) answer_is; left = refl },
        grow_sound (match_from after hash summary run start) run (columns_after_drop run.server.columns c)
            run.server.reports (drop_grows run.server.columns c) sound,
      );
    })

-- The match is whole with the packet that an event sends up.
sends_whole :
    {W : Type 0} (run : RunState W) (sent' : List Sent) (c : ℕ) (packet : Packet) → IsWhole run → c < run.clients → IsNoGreeting packet →
    sent' ≡ run.sent ++ record { client = c; packet = packet } ∷ [] → IsWhole (record run { sent = sent' })
sends_whole {W} run sent' c packet whole below no_greeting sent_is =
    let P : List Sent → Type 0 = λ s. IsWhole (record run { sent = s }) in
    subst P (sym sent_is) (send_whole run c packet whole below no_greeting)

-- A report in a client's name.
pub forge_runs :
    {W E : Type 0} (after : W → List Entry → W) (hash : W → ℕ) (summary : W → Summary) (run : RunState W)
    (sent' : List Sent) (c n h : ℕ) → IsWhole run → c < run.clients →
    sent' ≡ run.sent ++ record { client = c; packet = Sync n h } ∷ [] →
    RunsEvent {E = E} (match_from after hash summary run) (Forge c n h) run (record run { sent = sent' })
    (Ok (ReportSent n))
forge_runs {W} {E} after hash summary run sent' c n h whole below sent_is =
    record {
      whole = sends_whole run sent' c (Sync n h) whole below tt sent_is;
      follows = λ start sound. (
        record { outcome_is = refl; left = ap (λ s. record (progress_of run) { sent = s }) sent_is },
        record { served = sound.served; each = sound.each },
      );
    }

-- A farewell.
pub bye_runs :
    {W E : Type 0} (after : W → List Entry → W) (hash : W → ℕ) (summary : W → Summary) (run : RunState W)
    (sent' : List Sent) (p : ℕ) → IsWhole run → p < run.clients →
    sent' ≡ run.sent ++ record { client = p; packet = Bye } ∷ [] →
    RunsEvent {E = E} (match_from after hash summary run) (SendBye p) run (record run { sent = sent' })
    (Ok ByeSent)
bye_runs {W} {E} after hash summary run sent' p whole below sent_is =
    record {
      whole = sends_whole run sent' p Bye whole below tt sent_is;
      follows = λ start sound. (
        record { outcome_is = refl; left = ap (λ s. record (progress_of run) { sent = s }) sent_is },
        record { served = sound.served; each = sound.each },
      );
    }

reported_by : (none : Bool) (r s : Report) → Some r ≡ (if none then None else Some s) → (none ≡ false) × (r ≡ s)
reported_by true r s is = absurd cc
reported_by false r s is = (refl, some_same r s is)

reported_frame :
    (ticked hash : ℕ) (r : Report) → Some r ≡ (if ticked == 0 then None else Some (record { frame = ticked - 1; hash = hash })) →
    (ticked ≡ suc r.frame) × (r.hash ≡ hash)
reported_frame ticked hash r is =
    let both : ((ticked == 0) ≡ false) × (r ≡ record { frame = ticked - 1; hash = hash }) =
    reported_by (ticked == 0) r (record { frame = ticked - 1; hash = hash }) is in
    let some : ticked ≡ 0 → ⊥ = eqb-false ticked 0 both.0 in
    let frame_is : r.frame ≡ ticked - 1 = ap (λ (x : Report). x.frame) both.1 in
    (omega (arith, some, frame_is), ap (λ (x : Report). x.hash) both.1)

-- A report of a peer's last ticked frame is the one that the record says.
pub report_runs :
    {W E : Type 0} (after : W → List Entry → W) (hash : W → ℕ) (summary : W → Summary) (run : RunState W)
    (sent' : List Sent) (p : ℕ) (old : PeerState W) (r : Report) →
    IsWhole run → p < run.clients → old ≡ get_or run.peers p old →
    Some r ≡ report_of hash old → sent' ≡ run.sent ++ record { client = p; packet = Sync r.frame r.hash } ∷ [] →
    RunsEvent {E = E} (match_from after hash summary run) (SendReport p) run (record run { sent = sent' })
    (Ok (ReportSent r.frame))
report_runs {W} {E} after hash summary run sent' p old r whole below is reports sent_is =
    record {
      whole = sends_whole run sent' p (Sync r.frame r.hash) whole below tt sent_is;
      follows = λ start sound.
          let m : Match W = match_from after hash summary run start in
          let faithful : IsFaithful after start run.server.columns old =
          let Q : PeerState W → Type 0 = IsFaithful after start run.server.columns in
          all_at Q run.peers p old sound.each in_range is in
          let hash_is : r.hash ≡ agreed_hash m run.server.columns (suc r.frame) =
          shown.1 ∙ ap hash (faithful.at.is ∙ ap (agreed_world m run.server.columns) shown.0) in (
            record {
              outcome_is = ap report_outcome (sym ticked_is);
              left =
                  ap (λ s. record (progress_of run) { sent = s })
                  (sent_is
                  ∙ ap (λ h. run.sent ++ record { client = p; packet = Sync r.frame h } ∷ []) hash_is
                  ∙ ap (λ k. run.sent ++ sent_by_report (agreed_hash m run.server.columns) p k) (sym ticked_is));
            },
            record { served = sound.served; each = sound.each },
          );
    } where
      in_range : p < length run.peers
      in_range = rw whole.peers below

      shown : (old.ticked ≡ suc r.frame) × (r.hash ≡ hash old.world)
      shown = reported_frame old.ticked (hash old.world) r reports

      ticked_is : (peer_at (progress_of run) p).ticked ≡ suc r.frame
      ticked_is = ap (λ (x : Reached). x.ticked) (reached_at run p old in_range is) ∙ shown.0

none_by : (none : Bool) (s : Report) → ◌≡◌ {A = Option Report} None (if none then None else Some s) → none ≡ true
none_by true s is = refl
none_by false s is = absurd cc

no_report : (ticked hash : ℕ) → ◌≡◌ {A = Option Report} None (if ticked == 0 then None else Some (record { frame = ticked - 1; hash = hash })) → ticked ≡ 0
no_report ticked hash is = eqb-true ticked 0 (none_by (ticked == 0) (record { frame = ticked - 1; hash = hash }) is)

pub no_frame_runs :
    {W E : Type 0} (after : W → List Entry → W) (hash : W → ℕ) (summary : W → Summary) (run : RunState W)
    (p : ℕ) (old : PeerState W) →
    IsWhole run → p < run.clients → old ≡ get_or run.peers p old → None ≡ report_of hash old →
    RunsEvent {E = E} (match_from after hash summary run) (SendReport p) run run (Ok NoFrame)
no_frame_runs {W} {E} after hash summary run p old whole below is reports =
    record {
      whole = whole;
      follows = λ start sound. (
        record {
          outcome_is = ap report_outcome (sym ticked_is);
          left =
              ap (λ s. record (progress_of run) { sent = s })
              (sym (append-nil run.sent)
              ∙ ap (λ k. run.sent ++ sent_by_report (agreed_hash (match_from after hash summary run start) run.server.columns) p k)
              (sym ticked_is));
        },
        sound,
      );
    } where
      ticked_is : (peer_at (progress_of run) p).ticked ≡ 0
      ticked_is =
          ap (λ (x : Reached). x.ticked) (reached_at run p old (rw whole.peers below) is)
          ∙ no_report old.ticked (hash old.world) reports
