-- A round of the made drill.
use Rattle.std.specs.Prelude.{ℕ, zero, suc, ◌+◌, ◌-◌, ◌==◌, nat_lt, if◌then◌else◌}
use Rattle.drill_words.specs.declared.event.Event.TheVariants.{Up, Down, Tick, TickServer}
use Rattle.drill_words.specs.declared.event.Event.TheVariants.{DropClient, Report}
use Rattle.drill.specs.Draft.{DraftState, with_event, with_packet, with_seal}
use Rattle.drill.specs.Draft.{with_event_unless_lost}
use Rattle.drill.specs.declared.made_limits.TheConstants.{MADE_CLIENTS, DEPARTURE_ROUND}

-- A step for each number below a count, by rising number.
abbrev pub rising : {S : Type 0} → (ℕ → S → S) → (count : ℕ) → S → S
rising step zero state = state
rising step (suc count) state = step count (rising step count state)

-- A step for each number below a count, by falling number.
abbrev pub falling : {S : Type 0} → (ℕ → S → S) → (count : ℕ) → S → S
falling step zero state = state
falling step (suc count) state = falling step count (step count state)

-- The last client, which leaves.
abbrev pub leaver : ℕ
leaver = MADE_CLIENTS - 1

-- How many clients seal in a round: the last one no more once it has left.
abbrev pub sealing_in : (round : ℕ) → ℕ
sealing_in round = if nat_lt round DEPARTURE_ROUND then MADE_CLIENTS else leaver

-- How many clients have an entry in a round: those that seal, and in the round of its departure
-- the one that leaves.
abbrev pub told_in : (round : ℕ) → ℕ
told_in round = if round == DEPARTURE_ROUND then MADE_CLIENTS else sealing_in round

-- Each client seals.
unfoldable pub with_seals : (sealing : ℕ) → DraftState → DraftState
with_seals sealing = rising with_seal sealing

-- The packets from `first` on, one of each client, reach the server by rising client, but some are
-- lost.
unfoldable pub with_some_packets_up : (first sealing : ℕ) → DraftState → DraftState
with_some_packets_up first sealing =
    rising (λ client. with_event_unless_lost (Up (first + client))) sealing

-- All of them reach it by falling client.
unfoldable pub with_packets_up_again : (first sealing : ℕ) → DraftState → DraftState
with_packets_up_again first sealing = falling (λ client. with_event (Up (first + client))) sealing

-- The entries of the frame reach a peer by rising client, but some are lost.
unfoldable pub with_some_entries_to : (told frame peer : ℕ) → DraftState → DraftState
with_some_entries_to told frame peer =
    rising (λ client. with_event_unless_lost (Down peer client frame)) told

-- All of them reach it by falling client.
unfoldable pub with_entries_to : (told frame peer : ℕ) → DraftState → DraftState
with_entries_to told frame peer = falling (λ client. with_event (Down peer client frame)) told

-- Some entries reach the peers by rising number.
unfoldable pub with_some_entries : (told frame : ℕ) → DraftState → DraftState
with_some_entries told frame = rising (with_some_entries_to told frame) MADE_CLIENTS

-- All of them reach the peers by falling number.
unfoldable pub with_entries_again : (told frame : ℕ) → DraftState → DraftState
with_entries_again told frame = falling (with_entries_to told frame) MADE_CLIENTS

-- Each peer ticks.
unfoldable pub with_ticks : DraftState → DraftState
with_ticks = rising (λ peer. with_event (Tick peer)) MADE_CLIENTS

-- Each peer reports.
unfoldable pub with_reports : DraftState → DraftState
with_reports = rising (λ peer. with_packet (Report peer)) MADE_CLIENTS

-- The reports, which are the packets from `first` on, reach the server.
unfoldable pub with_reports_up : (first : ℕ) → DraftState → DraftState
with_reports_up first = rising (λ peer. with_event (Up (first + peer))) MADE_CLIENTS

-- The clients seal, and their packets reach the server, some of them twice.
unfoldable pub with_plays : (sealing : ℕ) → DraftState → DraftState
with_plays sealing draft =
    with_packets_up_again draft.sent sealing
    (with_some_packets_up draft.sent sealing (with_seals sealing draft))

-- The entries of the frame reach the peers, some of them twice. The peers tick before the lost ones
-- come, and once more after that.
unfoldable pub with_echoes : (told frame : ℕ) → DraftState → DraftState
with_echoes told frame draft =
    with_ticks (with_entries_again told frame (with_ticks (with_some_entries told frame draft)))

-- The peers report, and their reports reach the server.
unfoldable pub with_checks : DraftState → DraftState
with_checks draft = with_reports_up draft.sent (with_reports draft)

-- The server lets the last client leave before one of the rounds.
unfoldable pub with_departure : (round : ℕ) → DraftState → DraftState
with_departure round draft =
    if round == DEPARTURE_ROUND then with_event (DropClient leaver) draft else draft

-- A round, whose number is that of its frame.
unfoldable pub with_round : (round : ℕ) → DraftState → DraftState
with_round round draft =
    with_checks
    (with_event TickServer
    (with_echoes (told_in round) round
    (with_plays (sealing_in round) (with_departure round draft))))
