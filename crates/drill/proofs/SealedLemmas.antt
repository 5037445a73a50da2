-- Where the plays in a column come from: proofs.
use Rattle.std.proofs.Common.{◌≡◌, ℕ, Bool, true, false, zero, suc, ◌<◌, ◌≤◌, List, []}
use Rattle.std.proofs.Common.{◌++◌, length}
use Rattle.std.proofs.Common.{refl, sym, ap, ap₂, ◌∙◌, arith, inl, inr, append-nil}
use Rattle.std.specs.Prelude.{◌⊎◌, Option, Some, None, Result, Ok, Err, slice_get, slice_set}
use Rattle.std.specs.Prelude.{nat_lt, if◌then◌else◌}
use Rattle.std.proofs.lemmas.Bool.{ltb-false}
use Rattle.game_orders.specs.declared.order.Order.{Order}
use Rattle.game_orders.specs.declared.entry.Entry.{Entry}
use Rattle.game_orders.specs.declared.entry.Entry.TheVariants.{Play}
use Rattle.game_orders.specs.Entry.{same_entry}
use Rattle.frame_core.specs.declared.put.Put.TheVariants.{Fixed, Repeat, Conflict, Left, Ahead}
use Rattle.frame_core.specs.declared.put.Put.TheVariants.{Full}
use Rattle.frame_core.specs.Column.{Column, no_column, length_of, entry_at, put_by, put_column}
use Rattle.frame_core.specs.Column.{after_answer, left_column, column_of}
use Rattle.frame_core.specs.Match.{Match, agreed_hash}
use Rattle.order_packets.specs.declared.up.Up.{Up as Packet}
use Rattle.order_packets.specs.declared.up.Up.TheVariants as packet
use Rattle.peer_core.specs.declared.seal_fault.SealFault.{SealFault}
use Rattle.server_core.specs.Server.{columns_after_packet}
use Rattle.drill_words.specs.declared.event.Event.{Event}
use Rattle.drill_words.specs.declared.event.Event.TheVariants.{Seal, Up, Down, Tick, TickServer}
use Rattle.drill_words.specs.declared.event.Event.TheVariants.{DropClient, Report, Forge, Bye}
use Rattle.drill.specs.declared.sent.Sent.{Sent}
use Rattle.drill.specs.Record.{opening, peer_at, after_event, seal_of}
use Rattle.drill.specs.Record.{sent_by_seal, sent_by_report, columns_after_up}
use Rattle.drill.specs.Agreement.{record_after, WasSealed}
use Rattle.drill.proofs.InFramesLemmas.{past_plays}
use Rattle.drill.proofs.RecordLemmas.{by_events, same_after_set, place_after_set, get_pushed}

-- One of the first i events sealed these orders of client c for frame n.
pub record WasSent {W : Type 0} (m : Match W) (events : List Event) (i c n : ℕ) (orders : List Order) : Type 0 where
  pub seal : ℕ
  pub before : seal < i
  pub told : slice_get events seal ≡ Some (Seal c orders)
  pub sealed : seal_of m.lag (record_after m events seal) c ≡ Ok n

-- The packet with which a client hands up these orders for frame n.
abbrev pub play_of : ℕ → ℕ → List Order → Sent
play_of c n orders = record { client = c; packet = packet.Orders n orders }

sent_before :
    {W : Type 0} (m : Match W) (events : List Event) (i c n : ℕ) (orders : List Order) →
    WasSent m events i c n orders → WasSent m events (suc i) c n orders
sent_before m events i c n orders sent =
    record {
      seal = sent.seal;
      before = let early : sent.seal < i = sent.before in omega (arith, early);
      told = sent.told;
      sealed = sent.sealed;
    }

sealed_before :
    {W : Type 0} (m : Match W) (events : List Event) (i c n : ℕ) (orders : List Order) →
    WasSealed m events i c n orders → WasSealed m events (suc i) c n orders
sealed_before m events i c n orders sealed =
    record {
      seal = sealed.seal;
      up = sealed.up;
      number = sealed.number;
      first = sealed.first;
      before = let early : sealed.up < i = sealed.before in omega (arith, early);
      told = sealed.told;
      sealed = sealed.sealed;
      handed = sealed.handed;
      packet = sealed.packet;
    }

same_play : (p f c n : ℕ) (sealed orders : List Order) → play_of p f sealed ≡ play_of c n orders → (p ≡ c) × (f ≡ n) × (sealed ≡ orders)
same_play p f c n sealed orders same =
    let packets : packet.Orders f sealed ≡ packet.Orders n orders = ap (λ (s : Sent). s.packet) same in
    (ap (λ (s : Sent). s.client) same, cc, cc)

no_play_sync : (p f h c n : ℕ) (orders : List Order) → ◌≡◌ {A = Sent} (record { client = p; packet = packet.Sync f h }) (play_of c n orders) → ⊥
no_play_sync p f h c n orders same =
    let packets : packet.Sync f h ≡ packet.Orders n orders = ap (λ (s : Sent). s.packet) same in
    cc

no_play_bye : (p c n : ℕ) (orders : List Order) → ◌≡◌ {A = Sent} (record { client = p; packet = packet.Bye }) (play_of c n orders) → ⊥
no_play_bye p c n orders same =
    let packets : packet.Bye ≡ packet.Orders n orders = ap (λ (s : Sent). s.packet) same in
    cc

seal_sends :
    {W : Type 0} (m : Match W) (events : List Event) (i q : ℕ) (sealed : List Order) (answer : Result ℕ SealFault) →
    slice_get events i ≡ Some (Seal q sealed) → seal_of m.lag (record_after m events i) q ≡ answer →
    ((k c n : ℕ) (orders : List Order) → slice_get (record_after m events i).sent k ≡ Some (play_of c n orders) → WasSent m events i c n orders) →
    (k c n : ℕ) (orders : List Order) →
    slice_get ((record_after m events i).sent ++ sent_by_seal answer q sealed) k ≡ Some (play_of c n orders) →
    WasSent m events (suc i) c n orders
seal_sends m events i q sealed (Ok frame) at is so_far k c n orders found =
    elim (get_pushed (record_after m events i).sent (play_of q frame sealed) k (play_of c n orders) found) [
      | inl before ↦ sent_before m events i c n orders (so_far k c n orders before)
      | inr last ↦
          let parts = same_play q frame c n sealed orders last.1 in
          record {
            seal = i;
            before = omega arith;
            told = at ∙ ap₂ (λ p os. Some (Seal p os)) parts.0 parts.2;
            sealed = ap (seal_of m.lag (record_after m events i)) (sym parts.0) ∙ is ∙ ap Ok parts.1;
          }
    ]
seal_sends m events i q sealed (Err fault) at is so_far k c n orders found =
    sent_before m events i c n orders
    (so_far k c n orders (ap (λ xs. slice_get xs k) (sym (append-nil (record_after m events i).sent)) ∙ found))

report_sends :
    {W : Type 0} (m : Match W) (events : List Event) (i q ticked : ℕ) (hash_after : ℕ → ℕ) →
    ((k c n : ℕ) (orders : List Order) → slice_get (record_after m events i).sent k ≡ Some (play_of c n orders) → WasSent m events i c n orders) →
    (k c n : ℕ) (orders : List Order) →
    slice_get ((record_after m events i).sent ++ sent_by_report hash_after q ticked) k ≡ Some (play_of c n orders) →
    WasSent m events (suc i) c n orders
report_sends m events i q zero hash_after so_far k c n orders found =
    sent_before m events i c n orders
    (so_far k c n orders (ap (λ xs. slice_get xs k) (sym (append-nil (record_after m events i).sent)) ∙ found))
report_sends m events i q (suc frame) hash_after so_far k c n orders found =
    elim (get_pushed (record_after m events i).sent (record { client = q; packet = packet.Sync frame (hash_after (suc frame)) }) k
    (play_of c n orders) found) [
      | inl before ↦ sent_before m events i c n orders (so_far k c n orders before)
      | inr last ↦ absurd (no_play_sync q frame (hash_after (suc frame)) c n orders last.1)
    ]

sent_step :
    {W : Type 0} (m : Match W) (events : List Event) (i : ℕ) (event : Event) → slice_get events i ≡ Some event →
    ((k c n : ℕ) (orders : List Order) → slice_get (record_after m events i).sent k ≡ Some (play_of c n orders) → WasSent m events i c n orders) →
    (k c n : ℕ) (orders : List Order) →
    slice_get (after_event m (record_after m events i) event).sent k ≡ Some (play_of c n orders) →
    WasSent m events (suc i) c n orders
sent_step m events i (Seal q sealed) at so_far k c n orders found =
    seal_sends m events i q sealed (seal_of m.lag (record_after m events i) q) at refl so_far k c n orders found
sent_step m events i (Up number) at so_far k c n orders found = sent_before m events i c n orders (so_far k c n orders found)
sent_step m events i (Down q d f) at so_far k c n orders found = sent_before m events i c n orders (so_far k c n orders found)
sent_step m events i (Tick q) at so_far k c n orders found = sent_before m events i c n orders (so_far k c n orders found)
sent_step m events i TickServer at so_far k c n orders found = sent_before m events i c n orders (so_far k c n orders found)
sent_step m events i (DropClient client) at so_far k c n orders found = sent_before m events i c n orders (so_far k c n orders found)
sent_step m events i (Report q) at so_far k c n orders found =
    report_sends m events i q (peer_at (record_after m events i) q).ticked (agreed_hash m (record_after m events i).columns)
    so_far k c n orders found
sent_step m events i (Forge client frame hash) at so_far k c n orders found =
    elim (get_pushed (record_after m events i).sent (record { client = client; packet = packet.Sync frame hash }) k
    (play_of c n orders) found) [
      | inl before ↦ sent_before m events i c n orders (so_far k c n orders before)
      | inr last ↦ absurd (no_play_sync client frame hash c n orders last.1)
    ]
sent_step m events i (Bye q) at so_far k c n orders found =
    elim (get_pushed (record_after m events i).sent (record { client = q; packet = packet.Bye }) k
    (play_of c n orders) found) [
      | inl before ↦ sent_before m events i c n orders (so_far k c n orders before)
      | inr last ↦ absurd (no_play_bye q c n orders last.1)
    ]

nothing_sent : (k : ℕ) (sent : Sent) → ◌≡◌ {A = Option Sent} (slice_get [] k) (Some sent) → ⊥
nothing_sent k sent found = cc

-- A packet of orders was sealed by its client.
sent_only_when_sealed :
    {W : Type 0} (m : Match W) (events : List Event) (i k c n : ℕ) (orders : List Order) →
    slice_get (record_after m events i).sent k ≡ Some (play_of c n orders) → WasSent m events i c n orders
sent_only_when_sealed m events i k c n orders found =
    by_events m events
    (λ j progress. (k c n : ℕ) (orders : List Order) → slice_get progress.sent k ≡ Some (play_of c n orders) → WasSent m events j c n orders)
    (λ k c n orders found. absurd (nothing_sent k (play_of c n orders) found))
    (λ j event at so_far. sent_step m events j event at so_far)
    (λ j so_far k c n orders found. sent_before m events j c n orders (so_far k c n orders found))
    i k c n orders found

-- A put adds its own play at its frame, and no other.
put_play :
    (column : Column) (f : ℕ) (os : List Order) (n : ℕ) (orders : List Order) →
    slice_get (put_column column f (Play os)).plays n ≡ Some orders →
    (slice_get column.plays n ≡ Some orders) ⊎ ((f ≡ n) × (os ≡ orders))
put_play column f os n orders found = by_kept (entry_at column f) refl found where
  by_same :
      (kept : Entry) (same : Bool) →
      slice_get (after_answer (if same then Repeat else Conflict kept) column (Play os)).plays n ≡ Some orders →
      (slice_get column.plays n ≡ Some orders) ⊎ ((f ≡ n) × (os ≡ orders))
  by_same kept true here = inl here
  by_same kept false here = inl here

  by_tests :
      (gone ahead full : Bool) → nat_lt (length_of column) f ≡ ahead → length_of column ≤ f →
      slice_get (after_answer (if gone then Left (length_of column)
      else (if ahead then Ahead (length_of column) else (if full then Full else Fixed))) column (Play os)).plays n ≡ Some orders →
      (slice_get column.plays n ≡ Some orders) ⊎ ((f ≡ n) × (os ≡ orders))
  by_tests true ahead full is past here = inl here
  by_tests false true full is past here = inl here
  by_tests false false true is past here = inl here
  by_tests false false false is past here =
      let not_ahead = ltb-false (length_of column) f is in
      elim (get_pushed column.plays os n orders here) [
        | inl before ↦ inl before
        | inr last ↦
            let last_is : n ≡ length column.plays = last.0 in
            inr (omega (arith, not_ahead, past, last_is), last.1)
      ]

  by_kept :
      (kept : Option Entry) → entry_at column f ≡ kept →
      slice_get (after_answer (put_by (entry_at column f) column f (Play os)) column (Play os)).plays n ≡ Some orders →
      (slice_get column.plays n ≡ Some orders) ⊎ ((f ≡ n) × (os ≡ orders))
  by_kept (Some kept) is here =
      by_same kept (same_entry (Play os) kept)
      (ap (λ k. slice_get (after_answer (put_by k column f (Play os)) column (Play os)).plays n) (sym is) ∙ here)
  by_kept None is here =
      by_tests _ _ _ refl (past_plays column f is)
      (ap (λ k. slice_get (after_answer (put_by k column f (Play os)) column (Play os)).plays n) (sym is) ∙ here)

left_plays :
    (columns : List Column) (d c : ℕ) →
    (column_of (slice_set columns d (left_column (column_of columns d))) c).plays ≡ (column_of columns c).plays
left_plays columns d c = same_after_set (λ (x : Column). x.plays) columns d _ no_column c refl

-- A packet of client d adds only the play that it carries.
packet_play :
    (columns : List Column) (d : ℕ) (p : Packet) (c n : ℕ) (orders : List Order) →
    slice_get (column_of (columns_after_packet columns d p) c).plays n ≡ Some orders →
    (slice_get (column_of columns c).plays n ≡ Some orders)
    ⊎ ((d ≡ c) × (p ≡ packet.Orders n orders))
packet_play columns d (packet.Hello version rules) c n orders found = inl found
packet_play columns d (packet.Orders f os) c n orders found =
    elim (place_after_set columns d (put_column (column_of columns d) f (Play os)) no_column c) [
      | inl new ↦
          elim (put_play (column_of columns d) f os n orders (ap (λ (x : Column). slice_get x.plays n) (sym new.1) ∙ found)) [
            | inl before ↦ inl (ap (λ x. slice_get (column_of columns x).plays n) (sym new.0) ∙ before)
            | inr own ↦ inr (new.0, ap₂ packet.Orders own.0 own.1)
          ]
      | inr old ↦ inl (ap (λ (x : Column). slice_get x.plays n) (sym old) ∙ found)
    ]
packet_play columns d (packet.Sync frame hash) c n orders found = inl found
packet_play columns d packet.Bye c n orders found =
    inl (ap (λ xs. slice_get xs n) (sym (left_plays columns d c)) ∙ found)

-- An `up` adds only the play of the packet that it hands up.
up_play :
    (found : Option Sent) (columns : List Column) (c n : ℕ) (orders : List Order) →
    slice_get (column_of (columns_after_up found columns) c).plays n ≡ Some orders →
    (slice_get (column_of columns c).plays n ≡ Some orders) ⊎ (found ≡ Some (play_of c n orders))
up_play None columns c n orders here = inl here
up_play (Some sent) columns c n orders here =
    elim (packet_play columns sent.client sent.packet c n orders here) [
      | inl before ↦ inl before
      | inr own ↦
          let sent_by : ℕ → Packet → Option Sent = λ d p. Some (record { client = d; packet = p }) in
          inr (ap₂ sent_by own.0 own.1)
    ]

play_step :
    {W : Type 0} (m : Match W) (events : List Event) (i : ℕ) (event : Event) → slice_get events i ≡ Some event →
    ((c n : ℕ) (orders : List Order) → slice_get (column_of (record_after m events i).columns c).plays n ≡ Some orders →
    WasSealed m events i c n orders) →
    (c n : ℕ) (orders : List Order) →
    slice_get (column_of (after_event m (record_after m events i) event).columns c).plays n ≡ Some orders →
    WasSealed m events (suc i) c n orders
play_step m events i (Seal q sealed) at so_far c n orders found = sealed_before m events i c n orders (so_far c n orders found)
play_step m events i (Up number) at so_far c n orders found =
    elim (up_play (slice_get (record_after m events i).sent number) (record_after m events i).columns c n orders found) [
      | inl before ↦ sealed_before m events i c n orders (so_far c n orders before)
      | inr handed ↦
          let sent = sent_only_when_sealed m events i number c n orders handed in
          record {
            seal = sent.seal;
            up = i;
            number = number;
            first = sent.before;
            before = omega arith;
            told = sent.told;
            sealed = sent.sealed;
            handed = at;
            packet = handed;
          }
    ]
play_step m events i (Down q d f) at so_far c n orders found = sealed_before m events i c n orders (so_far c n orders found)
play_step m events i (Tick q) at so_far c n orders found = sealed_before m events i c n orders (so_far c n orders found)
play_step m events i TickServer at so_far c n orders found = sealed_before m events i c n orders (so_far c n orders found)
play_step m events i (DropClient client) at so_far c n orders found =
    sealed_before m events i c n orders
    (so_far c n orders
    (ap (λ xs. slice_get xs n) (sym (left_plays (record_after m events i).columns client c)) ∙ found))
play_step m events i (Report q) at so_far c n orders found = sealed_before m events i c n orders (so_far c n orders found)
play_step m events i (Forge client frame hash) at so_far c n orders found =
    sealed_before m events i c n orders (so_far c n orders found)
play_step m events i (Bye q) at so_far c n orders found = sealed_before m events i c n orders (so_far c n orders found)

no_plays_yet : (clients c : ℕ) → (column_of (opening clients).columns c).plays ≡ []
no_plays_yet zero c = refl
no_plays_yet (suc clients) zero = refl
no_plays_yet (suc clients) (suc c) = no_plays_yet clients c

nothing_played : (clients c n : ℕ) (orders : List Order) → slice_get (column_of (opening clients).columns c).plays n ≡ Some orders → ⊥
nothing_played clients c n orders found =
    let none : ◌≡◌ {A = Option (List Order)} (slice_get [] n) (Some orders) =
    ap (λ xs. slice_get xs n) (sym (no_plays_yet clients c)) ∙ found in
    cc

-- A play in the column of client c at frame n was sealed by c for that frame, and handed up.
pub plays_were_sealed :
    {W : Type 0} (m : Match W) (events : List Event) (i c n : ℕ) (orders : List Order) →
    slice_get (column_of (record_after m events i).columns c).plays n ≡ Some orders → WasSealed m events i c n orders
plays_were_sealed m events i c n orders found =
    by_events m events
    (λ j progress. (c n : ℕ) (orders : List Order) → slice_get (column_of progress.columns c).plays n ≡ Some orders →
    WasSealed m events j c n orders)
    (λ c n orders found. absurd (nothing_played m.clients c n orders found))
    (λ j event at so_far. play_step m events j event at so_far)
    (λ j so_far c n orders found. sealed_before m events j c n orders (so_far c n orders found))
    i c n orders found
