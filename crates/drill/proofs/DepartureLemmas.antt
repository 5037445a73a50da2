-- Where a departure in a column comes from: proofs.
use Rattle.std.proofs.Common.{◌≡◌, ℕ, true, false, zero, suc, ◌<◌, ◌++◌, [], List}
use Rattle.std.proofs.Common.{refl, sym, ap, ap₂, ◌∙◌, arith, inl, inr, append-nil}
use Rattle.std.specs.Prelude.{◌⊎◌, Option, Some, None, Result, Ok, Err, slice_get}
use Rattle.game_orders.specs.declared.order.Order.{Order}
use Rattle.game_orders.specs.declared.entry.Entry.TheVariants.{Play}
use Rattle.frame_core.specs.declared.put.Put.{Put}
use Rattle.frame_core.specs.declared.put.Put.TheVariants.{Fixed, Repeat, Conflict, Left, Ahead}
use Rattle.frame_core.specs.declared.put.Put.TheVariants.{Full}
use Rattle.frame_core.specs.Column.{Column, no_column, put_answer, put_column, after_answer}
use Rattle.frame_core.specs.Column.{left_column, column_of}
use Rattle.frame_core.specs.Match.{Match, agreed_hash}
use Rattle.order_packets.specs.declared.up.Up.{Up as Packet}
use Rattle.order_packets.specs.declared.up.Up.TheVariants as packet
use Rattle.peer_core.specs.declared.seal_fault.SealFault.{SealFault}
use Rattle.server_core.specs.Server.{columns_after_packet, columns_after_drop}
use Rattle.drill_words.specs.declared.event.Event.{Event}
use Rattle.drill_words.specs.declared.event.Event.TheVariants.{Seal, Up, Down, Tick, TickServer}
use Rattle.drill_words.specs.declared.event.Event.TheVariants.{DropClient, Report, Forge, Bye}
use Rattle.drill.specs.declared.sent.Sent.{Sent}
use Rattle.drill.specs.Record.{opening, peer_at, after_event, seal_of}
use Rattle.drill.specs.Record.{sent_by_seal, sent_by_report, columns_after_up}
use Rattle.drill.specs.Agreement.{record_after, WasDropped, SaidFarewell}
use Rattle.drill.proofs.RecordLemmas.{by_events, same_after_set, place_after_set, get_pushed}

-- One of the first i events sent a farewell of client c.
pub record WasByeSent {W : Type 0} (m : Match W) (events : List Event) (i c : ℕ) : Type 0 where
  pub bye : ℕ
  pub before : bye < i
  pub told : slice_get events bye ≡ Some (Bye c)

-- The packet of a client's farewell.
abbrev pub bye_of : ℕ → Sent
bye_of c = record { client = c; packet = packet.Bye }

bye_before :
    {W : Type 0} (m : Match W) (events : List Event) (i c : ℕ) →
    WasByeSent m events i c → WasByeSent m events (suc i) c
bye_before m events i c sent =
    record {
      bye = sent.bye;
      before = let early : sent.bye < i = sent.before in omega (arith, early);
      told = sent.told;
    }

no_bye_orders :
    (p f c : ℕ) (orders : List Order) →
    ◌≡◌ {A = Sent} (record { client = p; packet = packet.Orders f orders }) (bye_of c) → ⊥
no_bye_orders p f c orders same =
    let packets : packet.Orders f orders ≡ packet.Bye = ap (λ (s : Sent). s.packet) same in
    cc

no_bye_sync :
    (p f h c : ℕ) → ◌≡◌ {A = Sent} (record { client = p; packet = packet.Sync f h }) (bye_of c) → ⊥
no_bye_sync p f h c same =
    let packets : packet.Sync f h ≡ packet.Bye = ap (λ (s : Sent). s.packet) same in
    cc

seal_sends :
    {W : Type 0} (m : Match W) (events : List Event) (i q : ℕ) (sealed : List Order)
    (answer : Result ℕ SealFault) →
    ((k c : ℕ) → slice_get (record_after m events i).sent k ≡ Some (bye_of c) →
    WasByeSent m events i c) →
    (k c : ℕ) →
    slice_get ((record_after m events i).sent ++ sent_by_seal answer q sealed) k
    ≡ Some (bye_of c) →
    WasByeSent m events (suc i) c
seal_sends m events i q sealed (Ok frame) so_far k c found =
    elim (get_pushed (record_after m events i).sent
    (record { client = q; packet = packet.Orders frame sealed }) k (bye_of c) found) [
      | inl before ↦ bye_before m events i c (so_far k c before)
      | inr last ↦ absurd (no_bye_orders q frame c sealed last.1)
    ]
seal_sends m events i q sealed (Err fault) so_far k c found =
    bye_before m events i c
    (so_far k c
    (ap (λ xs. slice_get xs k) (sym (append-nil (record_after m events i).sent)) ∙ found))

report_sends :
    {W : Type 0} (m : Match W) (events : List Event) (i q ticked : ℕ) (hash_after : ℕ → ℕ) →
    ((k c : ℕ) → slice_get (record_after m events i).sent k ≡ Some (bye_of c) →
    WasByeSent m events i c) →
    (k c : ℕ) →
    slice_get ((record_after m events i).sent ++ sent_by_report hash_after q ticked) k
    ≡ Some (bye_of c) →
    WasByeSent m events (suc i) c
report_sends m events i q zero hash_after so_far k c found =
    bye_before m events i c
    (so_far k c
    (ap (λ xs. slice_get xs k) (sym (append-nil (record_after m events i).sent)) ∙ found))
report_sends m events i q (suc frame) hash_after so_far k c found =
    elim (get_pushed (record_after m events i).sent
    (record { client = q; packet = packet.Sync frame (hash_after (suc frame)) }) k
    (bye_of c) found) [
      | inl before ↦ bye_before m events i c (so_far k c before)
      | inr last ↦ absurd (no_bye_sync q frame (hash_after (suc frame)) c last.1)
    ]

sent_step :
    {W : Type 0} (m : Match W) (events : List Event) (i : ℕ) (event : Event) →
    slice_get events i ≡ Some event →
    ((k c : ℕ) → slice_get (record_after m events i).sent k ≡ Some (bye_of c) →
    WasByeSent m events i c) →
    (k c : ℕ) →
    slice_get (after_event m (record_after m events i) event).sent k ≡ Some (bye_of c) →
    WasByeSent m events (suc i) c
sent_step m events i (Seal q sealed) at so_far k c found =
    seal_sends m events i q sealed (seal_of m.lag (record_after m events i) q) so_far k c found
sent_step m events i (Up number) at so_far k c found = bye_before m events i c (so_far k c found)
sent_step m events i (Down q d f) at so_far k c found = bye_before m events i c (so_far k c found)
sent_step m events i (Tick q) at so_far k c found = bye_before m events i c (so_far k c found)
sent_step m events i TickServer at so_far k c found = bye_before m events i c (so_far k c found)
sent_step m events i (DropClient client) at so_far k c found =
    bye_before m events i c (so_far k c found)
sent_step m events i (Report q) at so_far k c found =
    report_sends m events i q (peer_at (record_after m events i) q).ticked
    (agreed_hash m (record_after m events i).columns) so_far k c found
sent_step m events i (Forge client frame hash) at so_far k c found =
    elim (get_pushed (record_after m events i).sent
    (record { client = client; packet = packet.Sync frame hash }) k (bye_of c) found) [
      | inl before ↦ bye_before m events i c (so_far k c before)
      | inr last ↦ absurd (no_bye_sync client frame hash c last.1)
    ]
sent_step m events i (Bye q) at so_far k c found =
    elim (get_pushed (record_after m events i).sent (bye_of q) k (bye_of c) found) [
      | inl before ↦ bye_before m events i c (so_far k c before)
      | inr last ↦
          let own : q ≡ c = ap (λ (s : Sent). s.client) last.1 in
          record {
            bye = i;
            before = omega arith;
            told = at ∙ ap (λ p. Some (Bye p)) own;
          }
    ]

nothing_sent : (k : ℕ) (sent : Sent) → ◌≡◌ {A = Option Sent} (slice_get [] k) (Some sent) → ⊥
nothing_sent k sent found = cc

-- A farewell was sent by its client.
farewell_was_sent :
    {W : Type 0} (m : Match W) (events : List Event) (i k c : ℕ) →
    slice_get (record_after m events i).sent k ≡ Some (bye_of c) → WasByeSent m events i c
farewell_was_sent m events i k c found =
    by_events m events
    (λ j progress. (k c : ℕ) → slice_get progress.sent k ≡ Some (bye_of c) →
    WasByeSent m events j c)
    (λ k c found. absurd (nothing_sent k (bye_of c) found))
    (λ j event at so_far. sent_step m events j event at so_far)
    (λ j so_far k c found. bye_before m events j c (so_far k c found))
    i k c found

-- No put of a play is a departure.
answer_left : (answer : Put) (column : Column) (orders : List Order) →
    (after_answer answer column (Play orders)).left ≡ column.left
answer_left Fixed column orders = refl
answer_left Repeat column orders = refl
answer_left (Conflict kept) column orders = refl
answer_left (Left at) column orders = refl
answer_left (Ahead plays) column orders = refl
answer_left Full column orders = refl

-- Client c has left only if it had before, or it is the one that leaves here.
drop_left :
    (columns : List Column) (d c : ℕ) → (column_of (columns_after_drop columns d) c).left ≡ true →
    ((column_of columns c).left ≡ true) ⊎ (d ≡ c)
drop_left columns d c left =
    elim (place_after_set columns d (left_column (column_of columns d)) no_column c) [
      | inl new ↦ inr new.0
      | inr old ↦ inl (ap (λ (x : Column). x.left) (sym old) ∙ left)
    ]

packet_left :
    (columns : List Column) (d : ℕ) (p : Packet) (c : ℕ) →
    (column_of (columns_after_packet columns d p) c).left ≡ true →
    ((column_of columns c).left ≡ true) ⊎ ((d ≡ c) × (p ≡ packet.Bye))
packet_left columns d (packet.Hello version rules) c left = inl left
packet_left columns d (packet.Orders f orders) c left =
    inl (sym (same_after_set (λ (x : Column). x.left) columns d
    (put_column (column_of columns d) f (Play orders)) no_column c
    (answer_left (put_answer (column_of columns d) f (Play orders)) (column_of columns d) orders))
    ∙ left)
packet_left columns d (packet.Sync frame hash) c left = inl left
packet_left columns d packet.Bye c left =
    elim (drop_left columns d c left) [
      | inl before ↦ inl before
      | inr own ↦ inr (own, refl)
    ]

up_left :
    (found : Option Sent) (columns : List Column) (c : ℕ) →
    (column_of (columns_after_up found columns) c).left ≡ true →
    ((column_of columns c).left ≡ true) ⊎ (found ≡ Some (bye_of c))
up_left None columns c left = inl left
up_left (Some sent) columns c left =
    elim (packet_left columns sent.client sent.packet c left) [
      | inl before ↦ inl before
      | inr own ↦
          let sent_by : ℕ → Packet → Option Sent =
          λ d p. Some (record { client = d; packet = p }) in
          inr (ap₂ sent_by own.0 own.1)
    ]

abbrev HasLeft : {W : Type 0} → Match W → List Event → ℕ → ℕ → Type 0
HasLeft m events i c = WasDropped m events i c ⊎ SaidFarewell m events i c

left_before :
    {W : Type 0} (m : Match W) (events : List Event) (i c : ℕ) → HasLeft m events i c →
    HasLeft m events (suc i) c
left_before m events i c (inl dropped) =
    inl (record {
      event = dropped.event;
      before = let early : dropped.event < i = dropped.before in omega (arith, early);
      told = dropped.told;
    })
left_before m events i c (inr said) =
    inr (record {
      bye = said.bye;
      up = said.up;
      number = said.number;
      first = said.first;
      before = let early : said.up < i = said.before in omega (arith, early);
      told = said.told;
      handed = said.handed;
      packet = said.packet;
    })

left_step :
    {W : Type 0} (m : Match W) (events : List Event) (i : ℕ) (event : Event) →
    slice_get events i ≡ Some event →
    ((c : ℕ) → (column_of (record_after m events i).columns c).left ≡ true →
    HasLeft m events i c) →
    (c : ℕ) → (column_of (after_event m (record_after m events i) event).columns c).left ≡ true →
    HasLeft m events (suc i) c
left_step m events i (Seal q sealed) at so_far c left = left_before m events i c (so_far c left)
left_step m events i (Up number) at so_far c left =
    elim (up_left (slice_get (record_after m events i).sent number)
    (record_after m events i).columns c left) [
      | inl before ↦ left_before m events i c (so_far c before)
      | inr handed ↦
          let sent = farewell_was_sent m events i number c handed in
          inr (record {
            bye = sent.bye;
            up = i;
            number = number;
            first = sent.before;
            before = omega arith;
            told = sent.told;
            handed = at;
            packet = handed;
          })
    ]
left_step m events i (Down q d f) at so_far c left = left_before m events i c (so_far c left)
left_step m events i (Tick q) at so_far c left = left_before m events i c (so_far c left)
left_step m events i TickServer at so_far c left = left_before m events i c (so_far c left)
left_step m events i (DropClient client) at so_far c left =
    elim (drop_left (record_after m events i).columns client c left) [
      | inl before ↦ left_before m events i c (so_far c before)
      | inr own ↦
          inl (record {
            event = i;
            before = omega arith;
            told = at ∙ ap (λ d. Some (DropClient d)) own;
          })
    ]
left_step m events i (Report q) at so_far c left = left_before m events i c (so_far c left)
left_step m events i (Forge client frame hash) at so_far c left =
    left_before m events i c (so_far c left)
left_step m events i (Bye q) at so_far c left = left_before m events i c (so_far c left)

nobody_left : (clients c : ℕ) → (column_of (opening clients).columns c).left ≡ false
nobody_left zero c = refl
nobody_left (suc clients) zero = refl
nobody_left (suc clients) (suc c) = nobody_left clients c

nobody_has_left : (clients c : ℕ) → (column_of (opening clients).columns c).left ≡ true → ⊥
nobody_has_left clients c left = let never : false ≡ true = sym (nobody_left clients c) ∙ left in cc

-- A departure in the column of client c was told: it was dropped, or its farewell was handed up.
pub departures_were_told :
    {W : Type 0} (m : Match W) (events : List Event) (i c : ℕ) →
    (column_of (record_after m events i).columns c).left ≡ true →
    WasDropped m events i c ⊎ SaidFarewell m events i c
departures_were_told m events i c left =
    by_events m events
    (λ j progress. (c : ℕ) → (column_of progress.columns c).left ≡ true → HasLeft m events j c)
    (λ c left. absurd (nobody_has_left m.clients c left))
    (λ j event at so_far. left_step m events j event at so_far)
    (λ j so_far c left. left_before m events j c (so_far c left))
    i c left
