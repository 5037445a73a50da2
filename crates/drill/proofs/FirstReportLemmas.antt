-- Which of a client's reports is kept: proofs.
use Rattle.std.proofs.Common.{◌≡◌, ℕ, Bool, true, false, zero, suc, ◌<◌, ◌≤◌, ◌==◌, [], ◌∷◌}
use Rattle.std.proofs.Common.{List, length, refl, sym, ap, ap₂, subst, ◌∙◌, arith, inl, inr}
use Rattle.std.specs.Prelude.{◌⊎◌, Option, Some, None, is_some, slice_get, slice_set, nat_lt}
use Rattle.std.proofs.lemmas.Bool.{eqb-true, eqb-false, ltb-true, ltb-false}
use Rattle.std.proofs.lemmas.List.{length-set, length-replicate}
use Rattle.game_orders.specs.declared.limits.TheConstants.{MAX_FRAMES}
use Rattle.frame_core.specs.Match.{Match}
use Rattle.order_packets.specs.declared.up.Up.{Up as Packet}
use Rattle.order_packets.specs.declared.up.Up.TheVariants as packet
use Rattle.server_core.specs.Board.{reports_of, report_at, report_answer, own_after_report}
use Rattle.server_core.specs.Board.{reports_after_report, KeepsFirst}
use Rattle.server_core.proofs.BoardLemmas.{keeps_first}
use Rattle.server_core.specs.Server.{reports_after_packet}
use Rattle.drill_words.specs.declared.event.Event.{Event}
use Rattle.drill_words.specs.declared.event.Event.TheVariants.{Seal, Up, Down, Tick, TickServer}
use Rattle.drill_words.specs.declared.event.Event.TheVariants.{DropClient, Report, Forge, Bye}
use Rattle.drill.specs.declared.sent.Sent.{Sent}
use Rattle.drill.specs.Record.{Progress, opening, after_event, reports_after_up}
use Rattle.drill.specs.Agreement.{record_after, HandsUpReport, IsFirstReport}
use Rattle.drill.proofs.RecordLemmas.{by_events, before_or_now, next_record, last_record}

-- The packet of a report of client c for frame n.
abbrev pub report_of : ℕ → ℕ → ℕ → Sent
report_of c n hash = record { client = c; packet = packet.Sync n hash }

-- The hash that is kept of client c for frame n.
abbrev pub kept_of : List (List (Option ℕ)) → ℕ → ℕ → Option ℕ
kept_of reports c n = report_at (reports_of reports c) n

set_past : {X : Type 0} (xs : List X) (p : ℕ) (y : X) → length xs ≤ p → slice_set xs p y ≡ xs
set_past [] p y past = refl
set_past (x ∷ xs) zero y past = absurd (omega (arith, past))
set_past (x ∷ xs) (suc p) y past =
    ap (λ rest. x ∷ rest) (set_past xs p y (omega (arith, past)))

-- What a report of client d for frame f does to what is kept of client c for frame n: it stays, or
-- the report is the first of that client for that frame.
record Comes (reports : List (List (Option ℕ))) (d f h c n hash : ℕ) : Type 0 where
  pub client : d ≡ c
  pub frame : f ≡ n
  pub hash_is : h ≡ hash
  pub within : n < MAX_FRAMES
  pub own : c < length reports
  pub none : kept_of reports c n ≡ None

the_hash : (h hash : ℕ) → ◌≡◌ {A = Option ℕ} (Some h) (Some hash) → h ≡ hash
the_hash h hash same = cc

not_none : (hash : ℕ) → ◌≡◌ {A = Option ℕ} None (Some hash) → ⊥
not_none hash same = cc

here_comes :
    (reports : List (List (Option ℕ))) (d f h hash : ℕ) (within : Bool) →
    nat_lt f MAX_FRAMES ≡ within → d < length reports →
    KeepsFirst reports (reports_after_report reports d f h) d f h →
    kept_of reports d f ≡ None → kept_of (reports_after_report reports d f h) d f ≡ Some hash →
    Comes reports d f h d f hash
here_comes reports d f h hash true is below keeps none kept =
    let few : f < MAX_FRAMES = ltb-true f MAX_FRAMES is in
    record {
      client = refl;
      frame = refl;
      hash_is = the_hash h hash (sym (keeps.first few none) ∙ kept);
      within = few;
      own = below;
      none = none;
    }
here_comes reports d f h hash false is below keeps none kept =
    let past : MAX_FRAMES ≤ f = ltb-false f MAX_FRAMES is in
    absurd (not_none hash
    (sym none ∙ ap (λ news. kept_of news d f) (sym (keeps.beyond past)) ∙ kept))

comes_by :
    (reports : List (List (Option ℕ))) (d f h c n hash : ℕ) (same_client same_frame : Bool) →
    (c == d) ≡ same_client → (n == f) ≡ same_frame → d < length reports →
    KeepsFirst reports (reports_after_report reports d f h) d f h →
    kept_of reports c n ≡ None → kept_of (reports_after_report reports d f h) c n ≡ Some hash →
    Comes reports d f h c n hash
comes_by reports d f h c n hash true true client frame below keeps none kept =
    let c_is : c ≡ d = eqb-true c d client in
    let n_is : n ≡ f = eqb-true n f frame in
    let none_here : kept_of reports d f ≡ None =
    ap (λ k. kept_of reports k f) (sym c_is) ∙ ap (kept_of reports c) (sym n_is) ∙ none in
    let kept_here : kept_of (reports_after_report reports d f h) d f ≡ Some hash =
    ap (λ k. kept_of (reports_after_report reports d f h) k f) (sym c_is)
    ∙ ap (kept_of (reports_after_report reports d f h) c) (sym n_is) ∙ kept in
    let come = here_comes reports d f h hash (nat_lt f MAX_FRAMES) refl below keeps none_here
    kept_here in
    record {
      client = sym c_is;
      frame = sym n_is;
      hash_is = come.hash_is;
      within = let few : f < MAX_FRAMES = come.within in omega (arith, few, n_is);
      own = let few : d < length reports = below in omega (arith, few, c_is);
      none = none;
    }
comes_by reports d f h c n hash false same_frame client frame below keeps none kept =
    absurd (not_none hash
    (sym none ∙ sym (keeps.others c n (inl (eqb-false c d client))) ∙ kept))
comes_by reports d f h c n hash true false client frame below keeps none kept =
    absurd (not_none hash
    (sym none ∙ sym (keeps.others c n (inr (eqb-false n f frame))) ∙ kept))

report_kept_by :
    (reports : List (List (Option ℕ))) (d f h c n hash : ℕ) (kept : Option ℕ) →
    kept_of reports c n ≡ kept → d < length reports →
    kept_of (reports_after_report reports d f h) c n ≡ Some hash →
    (kept_of reports c n ≡ Some hash) ⊎ Comes reports d f h c n hash
report_kept_by reports d f h c n hash (Some was) is below now =
    let keeps = keeps_first reports d f h below in
    let same : was ≡ hash = the_hash was hash (sym (keeps.stays c n was is) ∙ now) in
    inl (is ∙ ap Some same)
report_kept_by reports d f h c n hash None is below now =
    inr (comes_by reports d f h c n hash (c == d) (n == f) refl refl below
    (keeps_first reports d f h below) is now)

unchanged : (reports : List (List (Option ℕ))) (d f h : ℕ) → length reports ≤ d →
    reports_after_report reports d f h ≡ reports
unchanged reports d f h past =
    set_past reports d
    (own_after_report (report_answer (reports_of reports d) f) (reports_of reports d) f h) past

report_kept :
    (reports : List (List (Option ℕ))) (d f h c n hash : ℕ) (below : Bool) →
    nat_lt d (length reports) ≡ below →
    kept_of (reports_after_report reports d f h) c n ≡ Some hash →
    (kept_of reports c n ≡ Some hash) ⊎ Comes reports d f h c n hash
report_kept reports d f h c n hash true is now =
    report_kept_by reports d f h c n hash (kept_of reports c n) refl
    (ltb-true d (length reports) is) now
report_kept reports d f h c n hash false is now =
    inl (ap (λ news. kept_of news c n)
    (sym (unchanged reports d f h (ltb-false d (length reports) is))) ∙ now)

-- A kept report stays.
report_stays :
    (reports : List (List (Option ℕ))) (d f h c n was : ℕ) (below : Bool) →
    nat_lt d (length reports) ≡ below → kept_of reports c n ≡ Some was →
    kept_of (reports_after_report reports d f h) c n ≡ Some was
report_stays reports d f h c n was true is kept =
    (keeps_first reports d f h (ltb-true d (length reports) is)).stays c n was kept
report_stays reports d f h c n was false is kept =
    ap (λ news. kept_of news c n)
    (unchanged reports d f h (ltb-false d (length reports) is)) ∙ kept

packet_stays :
    (reports : List (List (Option ℕ))) (d : ℕ) (p : Packet) (c n was : ℕ) →
    kept_of reports c n ≡ Some was → kept_of (reports_after_packet reports d p) c n ≡ Some was
packet_stays reports d (packet.Hello version rules) c n was kept = kept
packet_stays reports d (packet.Orders f orders) c n was kept = kept
packet_stays reports d (packet.Sync f h) c n was kept =
    report_stays reports d f h c n was (nat_lt d (length reports)) refl kept
packet_stays reports d packet.Bye c n was kept = kept

up_stays :
    (found : Option Sent) (reports : List (List (Option ℕ))) (c n was : ℕ) →
    kept_of reports c n ≡ Some was → kept_of (reports_after_up found reports) c n ≡ Some was
up_stays None reports c n was kept = kept
up_stays (Some sent) reports c n was kept =
    packet_stays reports sent.client sent.packet c n was kept

event_stays :
    {W : Type 0} (m : Match W) (progress : Progress) (event : Event) (c n was : ℕ) →
    kept_of progress.reports c n ≡ Some was →
    kept_of (after_event m progress event).reports c n ≡ Some was
event_stays m progress (Seal q sealed) c n was kept = kept
event_stays m progress (Up number) c n was kept =
    up_stays (slice_get progress.sent number) progress.reports c n was kept
event_stays m progress (Down q d f) c n was kept = kept
event_stays m progress (Tick q) c n was kept = kept
event_stays m progress TickServer c n was kept = kept
event_stays m progress (DropClient client) c n was kept = kept
event_stays m progress (Report q) c n was kept = kept
event_stays m progress (Forge client frame hash) c n was kept = kept
event_stays m progress (Bye q) c n was kept = kept

-- There are as many lists of reports as clients.
packet_length : (reports : List (List (Option ℕ))) (d : ℕ) (p : Packet) →
    length (reports_after_packet reports d p) ≡ length reports
packet_length reports d (packet.Hello version rules) = refl
packet_length reports d (packet.Orders f orders) = refl
packet_length reports d (packet.Sync f h) = length-set reports d _
packet_length reports d packet.Bye = refl

up_length : (found : Option Sent) (reports : List (List (Option ℕ))) →
    length (reports_after_up found reports) ≡ length reports
up_length None reports = refl
up_length (Some sent) reports = packet_length reports sent.client sent.packet

event_length :
    {W : Type 0} (m : Match W) (progress : Progress) (event : Event) →
    length (after_event m progress event).reports ≡ length progress.reports
event_length m progress (Seal q sealed) = refl
event_length m progress (Up number) = up_length (slice_get progress.sent number) progress.reports
event_length m progress (Down q d f) = refl
event_length m progress (Tick q) = refl
event_length m progress TickServer = refl
event_length m progress (DropClient client) = refl
event_length m progress (Report q) = refl
event_length m progress (Forge client frame hash) = refl
event_length m progress (Bye q) = refl

length_reports :
    {W : Type 0} (m : Match W) (events : List Event) (i : ℕ) →
    length (record_after m events i).reports ≡ m.clients
length_reports m events i =
    let nothing : List (Option ℕ) = [] in
    by_events m events (λ j progress. length progress.reports ≡ m.clients)
    (length-replicate m.clients nothing)
    (λ j event at so_far. event_length m (record_after m events j) event ∙ so_far)
    (λ j so_far. so_far) i

is_there : (kept : Option ℕ) → is_some kept ≡ true → (was : ℕ) × (kept ≡ Some was)
is_there (Some was) there = (was, refl)
is_there None there = absurd cc

-- After a report that was handed up one is kept for its frame.
one_is_kept_by :
    (reports : List (List (Option ℕ))) (c n h : ℕ) (kept : Option ℕ) →
    kept_of reports c n ≡ kept → c < length reports → n < MAX_FRAMES →
    is_some (kept_of (reports_after_report reports c n h) c n) ≡ true
one_is_kept_by reports c n h (Some was) is below within =
    ap is_some ((keeps_first reports c n h below).stays c n was is)
one_is_kept_by reports c n h None is below within =
    ap is_some ((keeps_first reports c n h below).first within is)

some_same : {X : Type 0} (x y : X) → Some x ≡ Some y → x ≡ y
some_same x y same = cc

kept_now :
    {W : Type 0} (m : Match W) (events : List Event) (i : ℕ) (event : Event) (c n hash : ℕ) →
    slice_get events i ≡ Some event → c < m.clients → n < MAX_FRAMES →
    HandsUpReport m events i c n hash →
    is_some (kept_of (after_event m (record_after m events i) event).reports c n) ≡ true
kept_now m events i event c n hash at own within handed =
    let progress = record_after m events i in
    let event_is : event ≡ Up handed.number =
    some_same event (Up handed.number) (sym at ∙ handed.handed) in
    let below : c < length progress.reports = omega (arith, own, length_reports m events i) in
    ap (λ e. is_some (kept_of (after_event m progress e).reports c n)) event_is
    ∙ ap (λ found. is_some (kept_of (reports_after_up found progress.reports) c n)) handed.packet
    ∙ one_is_kept_by progress.reports c n hash (kept_of progress.reports c n) refl below within

not_both : {X : Type 0} (found : Option X) (x : X) → found ≡ None → found ≡ Some x → ⊥
not_both found x none some = cc

-- Once a report was handed up one is kept of its client for its frame.
pub one_is_kept :
    {W : Type 0} (m : Match W) (events : List Event) (i up c n hash : ℕ) → c < m.clients →
    n < MAX_FRAMES → HandsUpReport m events up c n hash → up < i →
    is_some (kept_of (record_after m events i).reports c n) ≡ true
one_is_kept m events zero up c n hash own within handed before = absurd (omega (arith, before))
one_is_kept {W} m events (suc i) up c n hash own within handed before =
    by_found (one_is_kept m events i up c n hash own within handed) (slice_get events i) refl
    (before_or_now up i before) where
      IsKept : Progress → Type 0
      IsKept progress = is_some (kept_of progress.reports c n) ≡ true

      later : (event : Event) → slice_get events i ≡ Some event → IsKept (record_after m events i) →
          IsKept (record_after m events (suc i))
      later event at kept =
          let was = is_there (kept_of (record_after m events i).reports c n) kept in
          subst IsKept (sym (next_record m events i event at))
          (ap is_some (event_stays m (record_after m events i) event c n was.0 was.1))

      here : HandsUpReport m events i c n hash → (found : Option Event) →
          slice_get events i ≡ found → IsKept (record_after m events (suc i))
      here now (Some event) at =
          subst IsKept (sym (next_record m events i event at))
          (kept_now m events i event c n hash at own within now)
      here now None none =
          absurd (not_both (slice_get events i) (Up now.number) none now.handed)

      by_found :
          (up < i → IsKept (record_after m events i)) → (found : Option Event) →
          slice_get events i ≡ found → (up < i) ⊎ (up ≡ i) →
          IsKept (record_after m events (suc i))
      by_found so_far (Some event) is (inl early) = later event is (so_far early)
      by_found so_far None is (inl early) =
          subst IsKept (sym (last_record m events i is)) (so_far early)
      by_found so_far found is (inr now) =
          here (subst (λ (k : ℕ). HandsUpReport m events k c n hash) now handed) found is

-- What is kept after a packet was kept before, or the packet is a first report.
packet_kept :
    (reports : List (List (Option ℕ))) (d : ℕ) (p : Packet) (c n hash : ℕ) →
    kept_of (reports_after_packet reports d p) c n ≡ Some hash →
    (kept_of reports c n ≡ Some hash)
    ⊎ ((p ≡ packet.Sync n hash) × Comes reports d n hash c n hash)
packet_kept reports d (packet.Hello version rules) c n hash kept = inl kept
packet_kept reports d (packet.Orders f orders) c n hash kept = inl kept
packet_kept reports d (packet.Sync f h) c n hash kept =
    elim (report_kept reports d f h c n hash (nat_lt d (length reports)) refl kept) [
      | inl before ↦ inl before
      | inr come ↦
          inr (
            ap₂ packet.Sync come.frame come.hash_is,
            record {
              client = come.client;
              frame = refl;
              hash_is = refl;
              within = come.within;
              own = come.own;
              none = come.none;
            },
          )
    ]
packet_kept reports d packet.Bye c n hash kept = inl kept

-- The report that is found is the first of its client for its frame.
record IsFound (reports : List (List (Option ℕ))) (found : Option Sent) (c n hash : ℕ) : Type 0 where
  pub report : found ≡ Some (report_of c n hash)
  pub within : n < MAX_FRAMES
  pub own : c < length reports
  pub none : kept_of reports c n ≡ None

up_kept :
    (found : Option Sent) (reports : List (List (Option ℕ))) (c n hash : ℕ) →
    kept_of (reports_after_up found reports) c n ≡ Some hash →
    (kept_of reports c n ≡ Some hash) ⊎ IsFound reports found c n hash
up_kept None reports c n hash kept = inl kept
up_kept (Some sent) reports c n hash kept =
    elim (packet_kept reports sent.client sent.packet c n hash kept) [
      | inl before ↦ inl before
      | inr own ↦
          let sent_by : ℕ → Packet → Option Sent =
          λ d p. Some (record { client = d; packet = p }) in
          inr (record {
            report = ap₂ sent_by own.1.client own.0;
            within = own.1.within;
            own = own.1.own;
            none = own.1.none;
          })
    ]

first_before :
    {W : Type 0} (m : Match W) (events : List Event) (i c n hash : ℕ) →
    IsFirstReport m events i c n hash → IsFirstReport m events (suc i) c n hash
first_before m events i c n hash report =
    record {
      up = report.up;
      before = let early : report.up < i = report.before in omega (arith, early);
      report = report.report;
      first = report.first;
    }

first_found :
    {W : Type 0} (m : Match W) (events : List Event) (i number c n hash : ℕ) →
    slice_get events i ≡ Some (Up number) →
    IsFound (record_after m events i).reports
    (slice_get (record_after m events i).sent number) c n hash →
    IsFirstReport m events (suc i) c n hash
first_found m events i number c n hash at found =
    record {
      up = i;
      before = omega arith;
      report = record { number = number; handed = at; packet = found.report };
      first = λ earlier other early handed.
          let own : c < m.clients =
          let few : c < length (record_after m events i).reports = found.own in
          omega (arith, few, length_reports m events i) in
          let there = one_is_kept m events i earlier c n other own found.within handed early in
          let never : false ≡ true = sym (ap is_some found.none) ∙ there in
          cc;
    }

first_step :
    {W : Type 0} (m : Match W) (events : List Event) (i : ℕ) (event : Event) →
    slice_get events i ≡ Some event →
    ((c n hash : ℕ) → kept_of (record_after m events i).reports c n ≡ Some hash →
    IsFirstReport m events i c n hash) →
    (c n hash : ℕ) →
    kept_of (after_event m (record_after m events i) event).reports c n ≡ Some hash →
    IsFirstReport m events (suc i) c n hash
first_step m events i (Seal q sealed) at so_far c n hash kept =
    first_before m events i c n hash (so_far c n hash kept)
first_step m events i (Up number) at so_far c n hash kept =
    elim (up_kept (slice_get (record_after m events i).sent number)
    (record_after m events i).reports c n hash kept) [
      | inl before ↦ first_before m events i c n hash (so_far c n hash before)
      | inr found ↦ first_found m events i number c n hash at found
    ]
first_step m events i (Down q d f) at so_far c n hash kept =
    first_before m events i c n hash (so_far c n hash kept)
first_step m events i (Tick q) at so_far c n hash kept =
    first_before m events i c n hash (so_far c n hash kept)
first_step m events i TickServer at so_far c n hash kept =
    first_before m events i c n hash (so_far c n hash kept)
first_step m events i (DropClient client) at so_far c n hash kept =
    first_before m events i c n hash (so_far c n hash kept)
first_step m events i (Report q) at so_far c n hash kept =
    first_before m events i c n hash (so_far c n hash kept)
first_step m events i (Forge client frame h) at so_far c n hash kept =
    first_before m events i c n hash (so_far c n hash kept)
first_step m events i (Bye q) at so_far c n hash kept =
    first_before m events i c n hash (so_far c n hash kept)

nothing_kept : (clients c n : ℕ) → kept_of (opening clients).reports c n ≡ None
nothing_kept zero c n = refl
nothing_kept (suc clients) zero n = refl
nothing_kept (suc clients) (suc c) n = nothing_kept clients c n

-- The report that is kept of client c for frame n is the first that was handed up.
pub kept_is_first :
    {W : Type 0} (m : Match W) (events : List Event) (i c n hash : ℕ) →
    kept_of (record_after m events i).reports c n ≡ Some hash → IsFirstReport m events i c n hash
kept_is_first m events i c n hash kept =
    by_events m events
    (λ j progress. (c n hash : ℕ) → kept_of progress.reports c n ≡ Some hash →
    IsFirstReport m events j c n hash)
    (λ c n hash kept. absurd (not_none hash (sym (nothing_kept m.clients c n) ∙ kept)))
    (λ j event at so_far. first_step m events j event at so_far)
    (λ j so_far c n hash kept. first_before m events j c n hash (so_far c n hash kept))
    i c n hash kept
