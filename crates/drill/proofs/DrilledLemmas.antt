-- A whole drill, over plain values.
use Rattle.std.proofs.Common.{◌≡◌, ℕ, ◌≤◌, List, [], ◌++◌, length, sym, ap, ap₂, subst}
use Rattle.std.proofs.Common.{◌∙◌, arith}
use Rattle.std.specs.Prelude.{Option, Result, Ok, Err, IsErrOf}
use Rattle.base.specs.Cause.{Increased}
use Rattle.base.proofs.WrittenLemmas.{prefix_of, nothing_yet}
use Rattle.game_io.specs.SinkState.{SinkState}
use Rattle.frame_core.specs.Match.{agreed_world}
use Rattle.peer_core.specs.Peer.{PeerState}
use Rattle.peer_core.specs.Faithful.{IsFaithful}
use Rattle.server_core.proofs.ServedLemmas.{agreed_alarm}
use Rattle.server_core.specs.Server.{ServerState}
use Rattle.drill_words.specs.declared.event.Event.{Event}
use Rattle.drill.specs.declared.drilled.Drilled.{Drilled}
use Rattle.drill.specs.declared.run_fault.RunFault.{RunFault}
use Rattle.drill.specs.declared.run_fault.RunFault.TheVariants.{Write, NoMemory}
use Rattle.frame_core.specs.Match.{Match}
use Rattle.drill.specs.Text.{outcome_lines}
use Rattle.drill.specs.Record.{opening, after_events, outcomes, record_of}
use Rattle.drill.specs.Report.{closing, report}
use Rattle.drill.specs.Shown.{shown_server, shown_peers}
use Rattle.drill.specs.RunningMatch.{RunState, progress_of, match_from, IsWhole, IsSound}
use Rattle.drill.specs.Opening.{fresh_run}
use Rattle.drill.specs.RunsEvents.{PrintsLines, CutsLines, RunsEvents}
use Rattle.drill.specs.Drilled.{Agree, IsLeftBy, Reports}
use Rattle.drill.proofs.RunningMatchLemmas.{all_got}
use Rattle.drill.proofs.OpeningLemmas.{opening_whole, opening_sound, opening_progress}
use Rattle.drill.proofs.RunsEventsLemmas.{all_lines_wrote, lines_cut, last_lines_cut, server_is}
use Rattle.drill.proofs.RunsEventsLemmas.{peers_are}

as_unit : {T : Type 0} (fault : RunFault) → IsErrOf {T = T} (Err fault) Write → IsErrOf {T = Unit {0}} (Err fault) Write
as_unit fault is = let same : fault ≡ Write = cc in ap Err same

rose_first : (a b c : ℕ) → a ≤ b → Increased b c → Increased a c
rose_first a b c first rose = omega (arith, first, rose)

-- The match that was opened is whole.
pub opened_whole :
    {W : Type 0} (clients lag : ℕ) (start : W) (run : RunState W) → run ≡ fresh_run clients lag start → IsWhole run
opened_whole clients lag start run run_is = subst IsWhole (sym run_is) (opening_whole clients lag start)

-- The match before its first event.
abbrev opened : {W : Type 0} → Match W → RunState W
opened m = fresh_run m.clients m.lag m.start

-- A run of all events from the opening.
abbrev pub RunsAll :
    {W E : Type 0} → Match W → List Event → Option (List ℕ) → RunState W → Option (List ℕ) → List ℕ →
    Result (Unit {0}) E → Type 0
RunsAll m events out run' out' text' result =
    RunsEvents (match_from m.after m.hash m.summary (opened m)) 0 events (opened m) out [] run' out' text' result

pub opened_runs :
    {W E : Type 0} (m : Match W) (events : List Event) (run run' : RunState W) (out out' : Option (List ℕ))
    (text text' : List ℕ) (result : Result (Unit {0}) E) → run ≡ opened m → text ≡ [] →
    RunsEvents {E = E} (match_from m.after m.hash m.summary run) 0 events run out text run' out' text' result →
    RunsAll {E = E} m events out run' out' text' result
opened_runs {W} {E} m events run run' out out' text text' result run_is text_is runs =
    let A : RunState W → Type 0 =
    λ r. RunsEvents {E = E} (match_from m.after m.hash m.summary r) 0 events r out text run' out' text' result in
    let B : List ℕ → Type 0 =
    λ t. RunsEvents {E = E} (match_from m.after m.hash m.summary (opened m)) 0 events (opened m) out t run' out' text' result in
    subst B text_is (subst A run_is runs)

left_by :
    {W E : Type 0} (m : Match W) (events : List Event) (out out' : Option (List ℕ)) (run' : RunState W) (text' : List ℕ) →
    RunsAll {E = E} m events out run' out' text' (Ok tt) →
    (progress_of run' ≡ record_of m events) × IsSound m run'
left_by m events out out' run' text' runs =
    let left = runs.left m.start (opening_sound m) in
    (left.0 ∙ ap (λ p. after_events m p events) (opening_progress m.clients m.lag m.start), left.1)

lines_are :
    {W : Type 0} (m : Match W) (events : List Event) →
    outcome_lines 0 (outcomes m (progress_of (opened m)) events) ≡ outcome_lines 0 (outcomes m (opening m.clients) events)
lines_are m events =
    ap (λ p. outcome_lines 0 (outcomes m p events)) (opening_progress m.clients m.lag m.start)

left_server :
    {W E : Type 0} (m : Match W) (events : List Event) (out out' : Option (List ℕ)) (run' : RunState W) (text' : List ℕ) →
    RunsAll {E = E} m events out run' out' text' (Ok tt) → run'.server ≡ shown_server m (record_of m events)
left_server m events out out' run' text' runs =
    let left = left_by m events out out' run' text' runs in
    server_is m run' left.1 ∙ ap (shown_server m) left.0

left_peers :
    {W E : Type 0} (m : Match W) (events : List Event) (out out' : Option (List ℕ)) (run' : RunState W) (text' : List ℕ) →
    run'.clients ≡ m.clients → run'.lag ≡ m.lag →
    RunsAll {E = E} m events out run' out' text' (Ok tt) → run'.peers ≡ shown_peers m (record_of m events)
left_peers m events out out' run' text' clients_are lag_is runs =
    let left = left_by m events out out' run' text' runs in
    peers_are m run'.server.columns m.clients m.lag 0 run'.peers
    (rw (sym clients_are, sym lag_is) runs.whole.numbers) left.1.each
    ∙ ap (shown_peers m) left.0

-- What is sound agrees.
sound_agree : {W : Type 0} (m : Match W) (run : RunState W) → IsSound m run → Agree m run.server run.peers
sound_agree {W} m run sound =
    record {
      server_ready = sound.served.at.ready;
      peers_ready = λ p a at. (all_got (IsFaithful m.after m.start run.server.columns) run.peers p a sound.each at).at.ready;
      same_as_server = λ p a at same.
          (all_got (IsFaithful m.after m.start run.server.columns) run.peers p a sound.each at).at.is
          ∙ ap (agreed_world m run.server.columns) same ∙ sym sound.served.at.is;
      same_peers = λ p q a b at there same.
          (all_got (IsFaithful m.after m.start run.server.columns) run.peers p a sound.each at).at.is
          ∙ ap (agreed_world m run.server.columns) same
          ∙ sym (all_got (IsFaithful m.after m.start run.server.columns) run.peers q b sound.each there).at.is;
      alarms = agreed_alarm m run.server sound.served;
    }

-- The report is the lines of the events and the closing lines of what is left.
report_is :
    {W E : Type 0} (m : Match W) (events : List Event) (out out' : Option (List ℕ)) (run' : RunState W) (text' : List ℕ) →
    run'.clients ≡ m.clients → run'.lag ≡ m.lag →
    RunsAll {E = E} m events out run' out' text' (Ok tt) →
    report m events
    ≡ outcome_lines 0 (outcomes m (progress_of (opened m)) events) ++ closing m.hash m.summary run'.server run'.peers
report_is m events out out' run' text' clients_are lag_is runs =
    ap₂ (λ lines last. lines ++ last) (sym (lines_are m events))
    (ap₂ (closing m.hash m.summary) (sym (left_server m events out out' run' text' runs))
    (sym (left_peers m events out out' run' text' clients_are lag_is runs)))

-- The match could not be opened.
pub not_opened : {W : Type 0} (m : Match W) (events : List Event) (sink : SinkState) → Reports m events sink sink (Err NoMemory)
not_opened m events sink =
    record {
      writes =
          record {
            wrote = tt;
            prefix = prefix_of sink.written sink.written _ _ (nothing_yet sink.written (report m events));
            later = omega arith;
            failed = λ is. absurd cc;
          };
      leaves = tt;
    }

-- The run was cut at an event.
pub events_cut :
    {W : Type 0} (m : Match W) (events : List Event) (old new : SinkState) (run run' : RunState W) (text text' : List ℕ)
    (fault : RunFault) → run ≡ opened m → text ≡ [] →
    RunsEvents {E = RunFault} (match_from m.after m.hash m.summary run) 0 events run old.written text run' new.written text' (Err fault) →
    old.faults ≤ new.faults → (IsErrOf {T = Unit {0}} (Err fault) Write → Increased old.faults new.faults) → Reports m events old new (Err fault)
events_cut m events old new run run' text text' fault run_is text_is runs later failed =
    let all = opened_runs m events run run' old.written new.written text text' (Err fault) run_is text_is runs in
    record {
      writes =
          record {
            wrote = tt;
            prefix =
                lines_cut old.written new.written _ _ (report m events)
                (ap (λ lines. lines ++ closing m.hash m.summary (shown_server m (record_of m events)) (shown_peers m (record_of m events)))
                (sym (lines_are m events)))
                (all.cut m.start (opening_sound m));
            later = later;
            failed = λ is. failed (as_unit fault is);
          };
      leaves = tt;
    }

-- The run was cut in its closing lines.
pub closing_cut :
    {W : Type 0} (m : Match W) (events : List Event) (old mid new : SinkState) (run run' : RunState W) (text text' : List ℕ)
    (server : ServerState W) (peers : List (PeerState W))
    (fault : RunFault) → run ≡ opened m → text ≡ [] → run'.clients ≡ run.clients → run'.lag ≡ run.lag →
    RunsEvents {E = RunFault} (match_from m.after m.hash m.summary run) 0 events run old.written text run' mid.written text' (Ok tt) →
    server ≡ run'.server → peers ≡ run'.peers →
    CutsLines mid.written text' new.written (closing m.hash m.summary server peers) →
    old.faults ≤ mid.faults → mid.faults ≤ new.faults → (IsErrOf {T = Unit {0}} (Err fault) Write → Increased mid.faults new.faults) →
    Reports m events old new (Err fault)
closing_cut m events old mid new run run' text text' server peers fault run_is text_is clients_are lag_is runs server_eq peers_eq cuts first later failed =
    let all = opened_runs m events run run' old.written mid.written text text' (Ok tt) run_is text_is runs in
    record {
      writes =
          record {
            wrote = tt;
            prefix =
                last_lines_cut old.written mid.written new.written text' _ _ (report m events)
                (report_is m events old.written mid.written run' text' (clients_are ∙ ap (λ (r : RunState _). r.clients) run_is)
                (lag_is ∙ ap (λ (r : RunState _). r.lag) run_is) all)
                (all.printed m.start (opening_sound m))
                (rw (sym server_eq, sym peers_eq) cuts);
            later = omega arith;
            failed = λ is. rose_first old.faults mid.faults new.faults first (failed (as_unit fault is));
          };
      leaves = tt;
    }

-- What the events left.
pub all_left :
    {W : Type 0} (m : Match W) (events : List Event) (out out' : Option (List ℕ)) (run run' : RunState W) (text text' : List ℕ)
    (left : Drilled W) → run ≡ opened m → text ≡ [] → run'.clients ≡ run.clients → run'.lag ≡ run.lag →
    RunsEvents {E = RunFault} (match_from m.after m.hash m.summary run) 0 events run out text run' out' text' (Ok tt) →
    left.server ≡ run'.server → left.peers ≡ run'.peers → IsLeftBy m events left
all_left {W} m events out out' run run' text text' left run_is text_is clients_are lag_is runs server_eq peers_eq =
    record {
      server = server_eq ∙ left_server m events out out' run' text' all;
      peers = peers_eq ∙ left_peers m events out out' run' text' clients_is lag_eq all;
      columns = ap (λ (s : ServerState _). length s.columns) server_eq ∙ all.whole.columns ∙ clients_is;
      count = ap length peers_eq ∙ all.whole.peers ∙ clients_is;
      agree =
          let P : ServerState W → Type 0 = λ s. Agree m s left.peers in
          let Q : List (PeerState W) → Type 0 = λ ps. Agree m run'.server ps in
          subst P (sym server_eq)
          (subst Q (sym peers_eq)
          (sound_agree m run' (left_by m events out out' run' text' all).1));
    } where
      all : RunsAll {E = RunFault} m events out run' out' text' (Ok tt)
      all = opened_runs m events run run' out out' text text' (Ok tt) run_is text_is runs

      clients_is : run'.clients ≡ m.clients
      clients_is = clients_are ∙ ap (λ (r : RunState _). r.clients) run_is

      lag_eq : run'.lag ≡ m.lag
      lag_eq = lag_is ∙ ap (λ (r : RunState _). r.lag) run_is

-- The whole report was written.
pub report_written :
    {W : Type 0} (m : Match W) (events : List Event) (old mid new : SinkState) (run run' : RunState W) (text text' text'' : List ℕ)
    (left : Drilled W) → run ≡ opened m → text ≡ [] → run'.clients ≡ run.clients → run'.lag ≡ run.lag →
    RunsEvents {E = RunFault} (match_from m.after m.hash m.summary run) 0 events run old.written text run' mid.written text' (Ok tt) →
    left.server ≡ run'.server → left.peers ≡ run'.peers →
    PrintsLines mid.written text' new.written text'' (closing m.hash m.summary left.server left.peers) → text'' ≡ [] →
    old.faults ≤ mid.faults → mid.faults ≤ new.faults → Reports m events old new (Ok left)
report_written {W} m events old mid new run run' text text' text'' left run_is text_is clients_are lag_is runs server_eq peers_eq prints empty first later =
    record {
      writes =
          record {
            wrote =
                all_lines_wrote old.written mid.written new.written text' text'' _ _ (report m events)
                (report_is m events old.written mid.written run' text' clients_is lag_eq all) empty
                (all.printed m.start (opening_sound m))
                (rw (sym server_eq, sym peers_eq) prints);
            prefix = tt;
            later = omega arith;
            failed = λ is. absurd cc;
          };
      leaves =
          all_left m events old.written mid.written run run' text text' left run_is text_is clients_are lag_is runs server_eq peers_eq;
    } where
      all : RunsAll {E = RunFault} m events old.written run' mid.written text' (Ok tt)
      all = opened_runs m events run run' old.written mid.written text text' (Ok tt) run_is text_is runs

      clients_is : run'.clients ≡ m.clients
      clients_is = clients_are ∙ ap (λ (r : RunState _). r.clients) run_is

      lag_eq : run'.lag ≡ m.lag
      lag_eq = lag_is ∙ ap (λ (r : RunState _). r.lag) run_is
