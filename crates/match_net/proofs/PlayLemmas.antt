-- A player's match, packet by packet.
use Rattle.std.proofs.Common.{◌≡◌, ℕ, Bool, true, false, List, [], ◌∷◌, ◌++◌, length, Option}
use Rattle.std.proofs.Common.{Some, None, Result, Ok, Err, refl, sym, ap, subst, ◌∙◌, arith}
use Rattle.std.proofs.Common.{inl, inr}
use Rattle.std.specs.Prelude.{nat_lt, if◌then◌else◌, IfOk, OnErr}
use Rattle.std.specs.Option.{option_map}
use Rattle.base.specs.Steps.{◌>>=◌}
use Rattle.game_io.specs.SourceState.{SourceState}
use Rattle.game_io.specs.SinkState.{SinkState}
use Rattle.game_orders.specs.declared.entry.Entry.{Entry as one_entry}
use Rattle.order_packets.specs.declared.down.Down.{Down}
use Rattle.order_packets.specs.declared.down.Down.TheVariants as down
use Rattle.order_packets.specs.PacketReading.{FirstPacket, packet_at, down_at}
use Rattle.order_packets.specs.Feed.{Fed}
use Rattle.peer_core.specs.declared.receipt.Receipt.{Receipt}
use Rattle.peer_core.specs.declared.receipt.Receipt.TheVariants as receipt
use Rattle.match_net.specs.declared.stop_reason.StopReason.{StopReason}
use Rattle.match_net.specs.declared.stop_reason.StopReason.TheVariants as stop
use Rattle.match_net.specs.declared.coming_packet.ComingPacket.{ComingPacket}
use Rattle.match_net.specs.declared.coming_packet.ComingPacket.TheVariants as next
use Rattle.match_net.specs.declared.play_cause.PlayCause.{PlayCause}
use Rattle.match_net.specs.declared.play_cause.PlayCause.TheVariants as cause
use Rattle.match_net.specs.declared.play_end.PlayEnd.{PlayEnd}
use Rattle.match_net.specs.declared.play_end.PlayEnd.TheVariants as end
use Rattle.match_net.specs.Playing.{Player, Stage, round, is_over, after_receipt}
use Rattle.match_net.specs.Stages.{Terms, after_down, rounded, after_packet}
use Rattle.match_net.specs.Stages.{after_packets, stop_of, stop_by, stop_at, stop_in, bad_at}
use Rattle.match_net.specs.Stages.{bad_end, said_by, is_match, welcomed, greeting_bytes}
use Rattle.match_net.specs.Downward.{InStream, Finds, NextMeans, Spills}
use Rattle.match_net.specs.PlayMatch.{HasSaid, SaidBefore, EndsBy, PlaysTo, PlaysAs, PlaysPartly}
use Rattle.match_net.specs.PlayMatch.{PlaySoFar, PlayBegins, AfterTurn, TurnMeans}
use Rattle.match_net.specs.PlayMatch.{ActMeans, HandlingMeans, Shows}
use Rattle.match_net.proofs.DownLemmas.{stands_next}

-- One packet more.
pub after_one_more :
    {W : Type 0} (terms : Terms W) (packets : List Down) (now mid : Option (Stage W))
    (next : Stage W) (packet : Down) →
    after_packets terms now packets ≡ Ok mid → after_packet terms mid packet ≡ Ok next →
    after_packets terms now (packets ++ packet ∷ []) ≡ Ok (Some next)
after_one_more {W = W} terms [] now mid next packet so_far is =
    let at : now ≡ mid = cc in
    ap (λ (s : Option (Stage W)). after_packet terms s packet >>= λ last. Ok (Some last)) at
    ∙ ap (λ (a : Result (Stage W) StopReason). a >>= λ last. Ok (Some last)) is
after_one_more {W = W} terms (first ∷ packets) now mid next packet so_far is =
    by_first (after_packet terms now first) so_far (λ after goes. after_one_more terms packets
    (Some after) mid next packet goes is)
  where
    by_first : (a : Result (Stage W) StopReason) →
        (a >>= λ after. after_packets terms (Some after) packets) ≡ Ok mid →
        ((after : Stage W) → after_packets terms (Some after) packets ≡ Ok mid →
        after_packets terms (Some after) (packets ++ packet ∷ []) ≡ Ok (Some next)) →
        (a >>= λ after. after_packets terms (Some after) (packets ++ packet ∷ [])) ≡ Ok (Some next)
    by_first (Ok after) goes rest = rest after goes
    by_first (Err why) goes rest = absurd cc

-- A packet of a match that is not over.
later_on :
    {W : Type 0} (terms : Terms W) (player : Player W) (said : List ℕ) (packet : Down) →
    is_over player.peer ≡ false →
    after_packet terms (Some (record { player = player; said = said })) packet
    ≡ rounded terms said (after_down player packet)
later_on terms player said packet going = rw going refl

-- What is found of a match that is not over.
stops_later :
    {W : Type 0} (terms : Terms W) (player : Player W) (said : List ℕ) (found : FirstPacket Down) →
    is_over player.peer ≡ false →
    stop_at terms (Some (record { player = player; said = said })) found
    ≡ stop_by terms (Some (record { player = player; said = said })) found
stops_later terms player said found going = rw going refl

stops_over :
    {W : Type 0} (terms : Terms W) (now : Stage W) (found : FirstPacket Down) →
    is_over now.player.peer ≡ true →
    stop_at terms (Some now) found ≡ Some stop.Over
stops_over terms now found over = rw over refl

-- No packet of an entry or a welcome ends a match early.
not_early_receipt :
    {W : Type 0} (r : Receipt) (player : Player W) (c n : ℕ) (e : one_entry) (why : PlayCause) →
    after_receipt r player c n e ≡ Err why → why ≡ cause.Early → ⊥
not_early_receipt receipt.Kept player c n e why is early = absurd cc
not_early_receipt receipt.Repeat player c n e why is early = absurd cc
not_early_receipt receipt.Conflict player c n e why is early =
    let same : cause.Conflict ≡ why = cc in absurd cc
not_early_receipt (receipt.Past at) player c n e why is early =
    let same : cause.Past ≡ why = cc in absurd cc
not_early_receipt receipt.Beyond player c n e why is early =
    let same : cause.Beyond ≡ why = cc in absurd cc

not_early_if :
    {W : Type 0} (there : Bool) (after : Result (Player W) PlayCause) (why : PlayCause) →
    ((w : PlayCause) → after ≡ Err w → w ≡ cause.Early → ⊥) →
    (if there then after else Err cause.BadClient) ≡ Err why → why ≡ cause.Early → ⊥
not_early_if true after why never is early = never why is early
not_early_if false after why never is early = let same : cause.BadClient ≡ why = cc in absurd cc

not_early : {W : Type 0} (player : Player W) (packet : Down) (why : PlayCause) →
    after_down player packet ≡ Err why → why ≡ cause.Early → ⊥
not_early player (down.Welcome client clients lag seed) why is early =
    let same : cause.BadWelcome ≡ why = cc in absurd cc
not_early player (down.Refused code) why is early =
    let same : cause.BadWelcome ≡ why = cc in absurd cc
not_early player (down.Entry c n e) why is early =
    not_early_if (nat_lt c player.peer.clients) _ why (λ w at. not_early_receipt _ player c n e w
    at) is early

-- After a player has acted: `after` is how it stands.
pub acted :
    {W : Type 0} (terms : Terms W) (old now : SourceState) (before later : SinkState)
    (packets : List Down) (said : List ℕ) (after : Stage W) (player : Player W) (fed : Fed)
    (answer : Option PlayEnd) →
    InStream old now packets fed → after_packets terms None packets ≡ Ok (Some after) →
    SaidBefore terms packets said → ActMeans said after player before later answer →
    AfterTurn terms old now before later player fed answer
acted {W = W} terms old now before later packets said after player fed None stream follows had
    acts =
    record {
      packets = packets;
      stream = stream;
      said = after.said;
      follows = follows
          ∙ ap (λ (p : Player W). Ok (Some (record { player = p; said = after.said })))
          (sym acts.0);
      going = acts.1;
      wrote = acts.2;
    }
acted {W = W} terms old now before later packets said after player fed (Some end.Over) stream
    follows had acts =
    record {
      packets = packets;
      at = fed.at;
      found = packet_at down_at fed.rest;
      link = stands_next old now packets fed stream;
      now = Some after;
      follows = follows;
      player_is = ap (λ (p : Player W). Some p) acts.0;
      ends = (
        stops_over terms after (packet_at down_at fed.rest)
            (ap (λ (p : Player W). is_over p.peer) (sym acts.0) ∙ acts.1),
        acts.2,
      );
    }
acted terms old now before later packets said after player fed (Some (end.Refused code)) stream
    follows had acts = absurd acts
acted terms old now before later packets said after player fed (Some (end.BadLink at why)) stream
    follows had acts = absurd acts
acted {W = W} terms old now before later packets said after player fed (Some end.Lost) stream
    follows had acts =
    record {
      packets = packets;
      at = fed.at;
      found = packet_at down_at fed.rest;
      link = stands_next old now packets fed stream;
      now = Some after;
      follows = follows;
      player_is = ap (λ (p : Player W). Some p) acts.0;
      ends = inr (said, had, acts.1);
    }

-- After a packet.
pub after_handling :
    {W : Type 0} (terms : Terms W) (old mid now : SourceState) (before first later : SinkState)
    (player after : Player W) (fed next_fed : Fed) (at : ℕ) (packet : Down)
    (answer : Option PlayEnd) →
    (so_far : PlaySoFar terms old mid before first player fed) →
    NextMeans old now so_far.packets next_fed (next.Packet at packet) →
    HandlingMeans terms.course terms.plays (after_down player packet) player so_far.said at after
    before later answer →
    AfterTurn terms old now before later after next_fed answer
after_handling {W = W} terms old mid now before first later player after fed next_fed at packet answer
    so_far found handles =
    by_down (after_down player packet) refl handles
  where
    by_down : (d : Result (Player W) PlayCause) → after_down player packet ≡ d →
        HandlingMeans terms.course terms.plays d player so_far.said at after before later answer →
        AfterTurn terms old now before later after next_fed answer
    by_down (Ok next_player) is acts =
        acted terms old now before later (so_far.packets ++ packet ∷ []) so_far.said
        (round terms.course terms.plays (record { player = next_player; said = so_far.said }))
        after next_fed answer found.0
        (after_one_more terms so_far.packets None
        (Some (record { player = player; said = so_far.said })) _ packet so_far.follows
        (later_on terms player so_far.said packet so_far.going ∙ ap (rounded terms so_far.said) is))
        (inr (record {
          earlier = so_far.packets;
          last = packet;
          packets_are = refl;
          stage = Some (record { player = player; said = so_far.said });
          follows = so_far.follows;
          said_is = refl;
        }))
        acts
    by_down (Err why) is ends =
        subst (λ (a : Option PlayEnd). AfterTurn terms old now before later after next_fed a)
        (sym ends.0)
        (record {
          packets = so_far.packets;
          at = at;
          found = Ok (Some (packet, found.1.0));
          link = found.1.1;
          now = Some (record { player = player; said = so_far.said });
          follows = so_far.follows;
          player_is = ap (λ (p : Player W). Some p) ends.1;
          ends = (
            refl,
            ap (option_map (stop_in (length found.1.1.taken)))
                (stops_later terms player so_far.said (Ok (Some (packet, found.1.0))) so_far.going
                ∙ ap stop_of (later_on terms player so_far.said packet so_far.going
                ∙ ap (rounded terms so_far.said) is)),
            (λ early. absurd (not_early player packet why is early)),
            ends.2,
          );
        })

-- What is bad ends a match.
bad_stops :
    {W : Type 0} (terms : Terms W) (now : Option (Stage W)) (size : ℕ) (found : FirstPacket Down)
    (why : PlayCause) →
    bad_at size found ≡ Some why → option_map (stop_in size) (stop_by terms now found)
    ≡ Some (stop.Bad why)
bad_stops terms now size (Ok None) why is =
    let same : bad_end size ≡ why = cc in ap (λ (w : PlayCause). Some (stop.Bad w)) same
bad_stops terms now size (Ok (Some first)) why is = absurd cc
bad_stops terms now size (Err fault) why is =
    let same : cause.Feed fault ≡ why = cc in ap (λ (w : PlayCause). Some (stop.Bad w)) same

-- After no packet came.
pub after_bad :
    {W : Type 0} (terms : Terms W) (old mid now : SourceState) (before first : SinkState)
    (player : Player W) (fed next_fed : Fed) (at : ℕ) (why : PlayCause) →
    (so_far : PlaySoFar terms old mid before first player fed) →
    NextMeans old now so_far.packets next_fed (next.Bad at why) →
    AfterTurn terms old now before first player next_fed (Some (end.BadLink at why))
after_bad terms old mid now before first player fed next_fed at why so_far bad =
    record {
      packets = so_far.packets;
      at = at;
      found = bad.0;
      link = bad.1;
      now = Some (record { player = player; said = so_far.said });
      follows = so_far.follows;
      player_is = refl;
      ends = (
        refl,
        ap (option_map (stop_in (length bad.1.taken))) (stops_later terms player so_far.said bad.0
            so_far.going)
            ∙ bad_stops terms (Some (record { player = player; said = so_far.said }))
            (length bad.1.taken) bad.0 why bad.2,
        bad.3,
        so_far.wrote,
      );
    }

pub after_lost :
    {W : Type 0} (terms : Terms W) (old mid now : SourceState) (before first : SinkState)
    (player : Player W) (fed next_fed : Fed) →
    (so_far : PlaySoFar terms old mid before first player fed) →
    NextMeans old now so_far.packets next_fed next.Lost →
    AfterTurn terms old now before first player next_fed (Some end.Lost)
after_lost terms old mid now before first player fed next_fed so_far lost =
    record {
      packets = so_far.packets;
      at = lost.0;
      found = Ok None;
      link = lost.1;
      now = Some (record { player = player; said = so_far.said });
      follows = so_far.follows;
      player_is = refl;
      ends = inl (
        stops_later terms player so_far.said (Ok None) so_far.going,
        lost.2,
        lost.3,
        so_far.wrote,
      );
    }

-- Where memory ran out.
pub partly :
    {W : Type 0} (terms : Terms W) (old now : SourceState) (before later : SinkState)
    (packets : List Down) (at : ℕ) (found : FirstPacket Down) (stage : Option (Stage W)) →
    Finds old now packets at found → after_packets terms None packets ≡ Ok stage →
    HasSaid before later (said_by terms.rules stage) →
    PlaysPartly terms old now before later
partly terms old now before later packets at found stage link follows said =
    record {
      packets = packets;
      at = at;
      found = found;
      link = link;
      now = stage;
      follows = follows;
      wrote = inl said;
    }

pub turn_spills :
    {W : Type 0} (terms : Terms W) (old mid now : SourceState) (before first : SinkState)
    (player : Player W) (fed : Fed) →
    (so_far : PlaySoFar terms old mid before first player fed) → Spills old now so_far.packets →
    PlaysPartly terms old now before first
turn_spills terms old mid now before first player fed so_far spills =
    partly terms old now before first so_far.packets spills.0 spills.1
    (Some (record { player = player; said = so_far.said })) spills.2 so_far.follows so_far.wrote

pub handling_spills :
    {W : Type 0} (terms : Terms W) (old mid now : SourceState) (before first later : SinkState)
    (player : Player W) (fed next_fed : Fed) (at : ℕ) (packet : Down) →
    (so_far : PlaySoFar terms old mid before first player fed) →
    NextMeans old now so_far.packets next_fed (next.Packet at packet) → later ≡ first →
    PlaysPartly terms old now before later
handling_spills terms old mid now before first later player fed next_fed at packet so_far found same =
    partly terms old now before later so_far.packets at (Ok (Some (packet, found.1.0)))
    (Some (record { player = player; said = so_far.said })) found.1.1 so_far.follows
    (subst (λ (s : SinkState). HasSaid before s so_far.said) (sym same) so_far.wrote)

-- A player that was not welcomed.
pub unwelcomed_end :
    {W : Type 0} (terms : Terms W) (old now : SourceState) (before later : SinkState) (at : ℕ)
    (found : FirstPacket Down) (answer : PlayEnd) (client frames : ℕ) (sim : Option W) →
    (link : Finds old now [] at found) →
    EndsBy terms [] None found (length link.taken) at old now before later answer →
    Shows None client frames sim → PlaysAs terms old now before later answer client frames sim
unwelcomed_end terms old now before later at found answer client frames sim link ends shows =
    record {
      player = None;
      plays = record {
        packets = [];
        at = at;
        found = found;
        link = link;
        now = None;
        follows =
            refl;
        player_is = refl;
        ends = ends;
      };
      shows = shows;
    }

pub unwelcomed_bad :
    {W : Type 0} (terms : Terms W) (old now : SourceState) (before later : SinkState) (fed : Fed)
    (at : ℕ) (why : PlayCause) (client frames : ℕ) (sim : Option W) →
    NextMeans old now [] fed (next.Bad at why) → HasSaid before later (greeting_bytes terms.rules) →
    Shows None client frames sim → PlaysAs terms old now before later (end.BadLink at why) client
    frames sim
unwelcomed_bad terms old now before later fed at why client frames sim bad said shows =
    unwelcomed_end terms old now before later at bad.0 (end.BadLink at why) client frames sim bad.1
    (refl, bad_stops terms None (length bad.1.taken) bad.0 why bad.2, bad.3, said) shows

pub unwelcomed_lost :
    {W : Type 0} (terms : Terms W) (old now : SourceState) (before later : SinkState) (fed : Fed)
    (client frames : ℕ) (sim : Option W) →
    NextMeans old now [] fed next.Lost → HasSaid before later (greeting_bytes terms.rules) →
    Shows None client frames sim → PlaysAs terms old now before later end.Lost client frames sim
unwelcomed_lost terms old now before later fed client frames sim lost said shows =
    unwelcomed_end terms old now before later lost.0 (Ok None) end.Lost client frames sim lost.1
    (inl (refl, lost.2, lost.3, said)) shows

pub unwelcomed_spills :
    {W : Type 0} (terms : Terms W) (old now : SourceState) (before later : SinkState) →
    Spills old now [] → HasSaid before later (greeting_bytes terms.rules) →
    PlaysPartly terms old now before later
unwelcomed_spills terms old now before later spills said =
    partly terms old now before later [] spills.0 spills.1 None spills.2 refl said

-- A player that was welcomed.
pub begins :
    {W : Type 0} (terms : Terms W) (old now : SourceState) (before later : SinkState)
    (player : Player W) (fed : Fed) (client clients lag seed : ℕ) →
    is_match client clients lag ≡ true → player ≡ welcomed terms.made client clients lag seed →
    InStream old now (down.Welcome client clients lag seed ∷ []) fed →
    HasSaid before later (greeting_bytes terms.rules) →
    PlayBegins terms old now before later player fed
begins {W = W} terms old now before later player fed client clients lag seed fits is stream said =
    record {
      packets = down.Welcome client clients lag seed ∷ [];
      stream = stream;
      first = (down.Welcome client clients lag seed, refl);
      follows =
          rw fits (ap
          (λ (p : Player W). Ok
          (Some (round terms.course terms.plays
          (record { player = p; said = greeting_bytes terms.rules })))) (sym is));
      wrote = said;
    }

-- A turn, by what came next.
pub turn_packet :
    {W E : Type 0} (terms : Terms W) (old mid now : SourceState) (before first later : SinkState)
    (player after : Player W) (fed next_fed : Fed) (at : ℕ) (packet : Down) (found : ComingPacket)
    (result : Result (Option PlayEnd) E) →
    found ≡ next.Packet at packet →
    ((packets : List Down) → InStream old mid packets fed →
    NextMeans old now packets next_fed found) →
    IfOk result (λ answer. (start : SinkState) (said : List ℕ) → HasSaid start first said →
    HandlingMeans terms.course terms.plays (after_down player packet) player said at after start later
    answer) →
    OnErr result (later ≡ first) →
    PlaySoFar terms old mid before first player fed →
    TurnMeans terms old now before later after next_fed result
turn_packet terms old mid now before first later player after fed next_fed at packet found
    (Ok answer) is means handles stays so_far =
    after_handling terms old mid now before first later player after fed next_fed at packet answer
    so_far
    (subst (NextMeans old now so_far.packets next_fed) is (means so_far.packets so_far.stream))
    (handles before so_far.said so_far.wrote)
turn_packet terms old mid now before first later player after fed next_fed at packet found
    (Err failed) is means handles stays so_far =
    handling_spills terms old mid now before first later player fed next_fed at packet so_far
    (subst (NextMeans old now so_far.packets next_fed) is (means so_far.packets so_far.stream))
    stays

pub turn_bad :
    {W : Type 0} (terms : Terms W) (old mid now : SourceState) (before first : SinkState)
    (player : Player W) (fed next_fed : Fed) (at : ℕ) (why : PlayCause) (found : ComingPacket) →
    found ≡ next.Bad at why →
    ((packets : List Down) → InStream old mid packets fed →
    NextMeans old now packets next_fed found) →
    PlaySoFar terms old mid before first player fed →
    PlaysTo terms old now before first (Some player) (end.BadLink at why)
turn_bad terms old mid now before first player fed next_fed at why found is means so_far =
    after_bad terms old mid now before first player fed next_fed at why so_far
    (subst (NextMeans old now so_far.packets next_fed) is (means so_far.packets so_far.stream))

pub turn_lost :
    {W : Type 0} (terms : Terms W) (old mid now : SourceState) (before first : SinkState)
    (player : Player W) (fed next_fed : Fed) (found : ComingPacket) →
    found ≡ next.Lost →
    ((packets : List Down) → InStream old mid packets fed →
    NextMeans old now packets next_fed found) →
    PlaySoFar terms old mid before first player fed →
    PlaysTo terms old now before first (Some player) end.Lost
turn_lost terms old mid now before first player fed next_fed found is means so_far =
    after_lost terms old mid now before first player fed next_fed so_far
    (subst (NextMeans old now so_far.packets next_fed) is (means so_far.packets so_far.stream))

pub turn_out :
    {W : Type 0} (terms : Terms W) (old mid now : SourceState) (before first : SinkState)
    (player : Player W) (fed : Fed) →
    ((packets : List Down) → InStream old mid packets fed → Spills old now packets) →
    PlaySoFar terms old mid before first player fed → PlaysPartly terms old now before first
turn_out terms old mid now before first player fed spills so_far =
    turn_spills terms old mid now before first player fed so_far
    (spills so_far.packets so_far.stream)

-- The first acting of a player that was welcomed.
pub first_act :
    {W : Type 0} (terms : Terms W) (old now : SourceState) (before first later : SinkState)
    (player after : Player W) (fed : Fed) (answer : Option PlayEnd) →
    ((start : SinkState) (said : List ℕ) → HasSaid start first said →
    ActMeans said (round terms.course terms.plays (record { player = player; said = said })) after
    start later answer) →
    PlayBegins terms old now before first player fed →
    AfterTurn terms old now before later after fed answer
first_act terms old now before first later player after fed answer acts begins =
    acted terms old now before later begins.packets (greeting_bytes terms.rules)
    (round terms.course terms.plays
    (record { player = player; said = greeting_bytes terms.rules })) after fed answer
    begins.stream begins.follows
    (inr (record {
      earlier = [];
      last = begins.first.0;
      packets_are = begins.first.1;
      stage = None;
      follows = refl;
      said_is = refl;
    }))
    (acts before (greeting_bytes terms.rules) begins.wrote)

pub first_out :
    {W : Type 0} (terms : Terms W) (old now : SourceState) (before first later : SinkState)
    (player : Player W) (fed : Fed) → later ≡ first →
    PlayBegins terms old now before first player fed → PlaysPartly terms old now before later
first_out terms old now before first later player fed same begins =
    partly terms old now before later [] 0 (packet_at down_at begins.stream.taken) None
    (record {
      taken = begins.stream.taken;
      few = begins.stream.few;
      took = begins.stream.took;
      later = begins.stream.later;
      rest = begins.stream.taken;
      reads = refl;
      found_is = refl;
      place = omega arith;
    })
    refl (subst (λ (s : SinkState). HasSaid before s (greeting_bytes terms.rules)) (sym same)
    begins.wrote)

-- A turn, and a first acting, by its answer.
pub turned :
    {W : Type 0} (terms : Terms W) (old now : SourceState) (before later : SinkState)
    (player : Player W) (fed : Fed) (found : Option PlayEnd) (answer : PlayEnd) →
    found ≡ Some answer → AfterTurn terms old now before later player fed found →
    PlaysTo terms old now before later (Some player) answer
turned terms old now before later player fed found answer is after =
    subst (AfterTurn terms old now before later player fed) is after

pub first_ended :
    {W : Type 0} (terms : Terms W) (old now : SourceState) (before first later : SinkState)
    (player after : Player W) (fed : Fed) (found : Option PlayEnd) (answer : PlayEnd) →
    found ≡ Some answer →
    ((start : SinkState) (said : List ℕ) → HasSaid start first said →
    ActMeans said (round terms.course terms.plays (record { player = player; said = said })) after
    start later found) →
    PlayBegins terms old now before first player fed →
    PlaysTo terms old now before later (Some after) answer
first_ended terms old now before first later player after fed found answer is acts begins =
    turned terms old now before later after fed found answer is
    (first_act terms old now before first later player after fed found acts begins)

pub first_goes :
    {W : Type 0} (terms : Terms W) (old now : SourceState) (before first later : SinkState)
    (player after : Player W) (fed : Fed) (found : Option PlayEnd) → found ≡ None →
    ((start : SinkState) (said : List ℕ) → HasSaid start first said →
    ActMeans said (round terms.course terms.plays (record { player = player; said = said })) after
    start later found) →
    PlayBegins terms old now before first player fed →
    PlaySoFar terms old now before later after fed
first_goes terms old now before first later player after fed found is acts begins =
    subst (AfterTurn terms old now before later after fed) is
    (first_act terms old now before first later player after fed found acts begins)
