-- How a player's match opens: its greeting, the first packet, its first acting, and what is handed
-- back.
use Rattle.std.proofs.Common.{◌≡◌, ℕ, ◌≤◌, Bool, true, false, List, [], ◌∷◌, ◌++◌, length, Option}
use Rattle.std.proofs.Common.{Some, None, Result, Ok, Err, refl, sym, ap, subst, ◌∙◌, arith}
use Rattle.std.proofs.Common.{inl, inr}
use Rattle.std.specs.Prelude.{OnErr}
use Rattle.std.specs.Option.{option_map}
use Rattle.base.specs.Cause.{Increased}
use Rattle.base.specs.Written.{Wrote, WrotePrefix}
use Rattle.base.proofs.WrittenLemmas.{Wrote-nil, Wrote-append}
use Rattle.game_io.specs.SourceState.{SourceState}
use Rattle.game_io.specs.SinkState.{SinkState}
use Rattle.game_orders.specs.declared.entry.Entry.{Entry as one_entry}
use Rattle.order_packets.specs.declared.down.Down.{Down}
use Rattle.order_packets.specs.declared.down.Down.TheVariants as down
use Rattle.order_packets.specs.PacketReading.{FirstPacket, packet_at, down_at}
use Rattle.order_packets.specs.Feed.{Fed}
use Rattle.match_net.specs.declared.stop_reason.StopReason.{StopReason}
use Rattle.match_net.specs.declared.stop_reason.StopReason.TheVariants as stop
use Rattle.match_net.specs.declared.coming_packet.ComingPacket.{ComingPacket}
use Rattle.match_net.specs.declared.coming_packet.ComingPacket.TheVariants as next
use Rattle.match_net.specs.declared.play_cause.PlayCause.{PlayCause}
use Rattle.match_net.specs.declared.play_cause.PlayCause.TheVariants as cause
use Rattle.match_net.specs.declared.play_end.PlayEnd.{PlayEnd}
use Rattle.match_net.specs.declared.play_end.PlayEnd.TheVariants as end
use Rattle.match_net.specs.Plays.{Plays}
use Rattle.match_net.specs.Playing.{Course, Player, Stage, round, is_over}
use Rattle.match_net.specs.Stages.{Terms, after_first}
use Rattle.match_net.specs.Stages.{stop_of, stop_in}
use Rattle.match_net.specs.Stages.{is_match, greeting_bytes}
use Rattle.match_net.specs.Downward.{InStream, Finds, NextMeans, Spills}
use Rattle.match_net.specs.PlayMatch.{HasSaid, FailsWithin, FailsAfter, EndsBy, PlaysTo, PlaysAs}
use Rattle.match_net.specs.PlayMatch.{PlaysPartly, PutMeans}
use Rattle.match_net.specs.PlayMatch.{ActMeans, Shows}
use Rattle.match_net.proofs.PieceTakingLemmas.{took_nothing}
use Rattle.match_net.proofs.TickLemmas.{round_moves}
use Rattle.match_net.proofs.PlayLemmas.{partly, unwelcomed_end, unwelcomed_bad, unwelcomed_lost}
use Rattle.match_net.proofs.PlayLemmas.{unwelcomed_spills}

-- What is handed back.
pub shown :
    {W : Type 0} (terms : Terms W) (old now : SourceState) (before later : SinkState)
    (player : Player W) (how answer : PlayEnd) (client frames : ℕ) (sim : Option W) →
    PlaysTo terms old now before later (Some player) how →
    (answer ≡ how) × Shows (Some player) client frames sim →
    PlaysAs terms old now before later answer client frames sim
shown {W = W} terms old now before later player how answer client frames sim plays shows =
    record {
      player = Some player;
      plays = subst (PlaysTo terms old now before later (Some player)) (sym shows.0) plays;
      shows = shows.1;
    }

-- A player that was not welcomed, by what is handed back.
pub not_shown :
    {W : Type 0} (terms : Terms W) (old now : SourceState) (before later : SinkState)
    (how answer : PlayEnd) (client frames : ℕ) (sim : Option W) →
    (Shows None client frames sim → PlaysAs terms old now before later how client frames sim) →
    (answer ≡ how) × Shows None client frames sim →
    PlaysAs terms old now before later answer client frames sim
not_shown terms old now before later how answer client frames sim plays shows =
    let P : PlayEnd → Type 0 = λ e. PlaysAs terms old now before later e client frames sim in
    subst P (sym shows.0) (plays shows.1)

pub await_bad :
    {W : Type 0} (terms : Terms W) (old mid now : SourceState) (before later : SinkState)
    (fed next_fed : Fed) (at : ℕ) (why : PlayCause) (found : ComingPacket) (answer : PlayEnd)
    (client frames : ℕ) (sim : Option W) →
    found ≡ next.Bad at why → ((packets : List Down) → InStream old mid packets fed →
    NextMeans old now packets next_fed found) →
    InStream old mid [] fed → HasSaid before later (greeting_bytes terms.rules) →
    (answer ≡ end.BadLink at why) × Shows None client frames sim →
    PlaysAs terms old now before later answer client frames sim
await_bad terms old mid now before later fed next_fed at why found answer client frames sim is means
    stream said shows =
    not_shown terms old now before later (end.BadLink at why) answer client frames sim
    (unwelcomed_bad terms old now before later next_fed at why client frames sim
    (subst (NextMeans old now [] next_fed) is (means [] stream)) said) shows

pub await_lost :
    {W : Type 0} (terms : Terms W) (old mid now : SourceState) (before later : SinkState)
    (fed next_fed : Fed) (found : ComingPacket) (answer : PlayEnd) (client frames : ℕ) (sim : Option W) →
    found ≡ next.Lost → ((packets : List Down) → InStream old mid packets fed →
    NextMeans old now packets next_fed found) →
    InStream old mid [] fed → HasSaid before later (greeting_bytes terms.rules) →
    (answer ≡ end.Lost) × Shows None client frames sim →
    PlaysAs terms old now before later answer client frames sim
await_lost terms old mid now before later fed next_fed found answer client frames sim is means
    stream said shows =
    not_shown terms old now before later end.Lost answer client frames sim
    (unwelcomed_lost terms old now before later next_fed client frames sim
    (subst (NextMeans old now [] next_fed) is (means [] stream)) said) shows

pub await_out :
    {W : Type 0} (terms : Terms W) (old mid now : SourceState) (before later : SinkState)
    (fed : Fed) →
    ((packets : List Down) → InStream old mid packets fed → Spills old now packets) →
    InStream old mid [] fed → HasSaid before later (greeting_bytes terms.rules) →
    PlaysPartly terms old now before later
await_out terms old mid now before later fed spills stream said =
    unwelcomed_spills terms old now before later (spills [] stream) said

-- What the first packet is, where one came.
pub await_packet :
    (old mid now : SourceState) (fed next_fed : Fed) (at : ℕ) (packet : Down) (found : ComingPacket) →
    found ≡ next.Packet at packet → ((packets : List Down) → InStream old mid packets fed →
    NextMeans old now packets next_fed found) →
    InStream old mid [] fed →
    InStream old now (packet ∷ []) next_fed × ((more : List ℕ) × Finds old now [] at
    (Ok (Some (packet, more))))
await_packet old mid now fed next_fed at packet found is means stream =
    subst (NextMeans old now [] next_fed) is (means [] stream)

-- How a first packet that does not welcome ends a match.
abbrev pub FirstEnds : {W : Type 0} → Terms W → Down → ℕ → PlayEnd → Type 0
FirstEnds terms packet at end.Over = ⊥
FirstEnds terms packet at (end.Refused code) = after_first terms packet ≡ Err (stop.Refused code)
FirstEnds terms packet at (end.BadLink place why) =
    (place ≡ at) × (after_first terms packet ≡ Err (stop.Bad why)) × (why ≡ cause.Early → ⊥)
FirstEnds terms packet at end.Lost = ⊥

-- A welcome to no match that can be.
pub no_match :
    {W : Type 0} (terms : Terms W) (at client clients lag seed : ℕ) → is_match client clients lag
    ≡ false →
    FirstEnds terms (down.Welcome client clients lag seed) at (end.BadLink at cause.BadWelcome)
no_match terms at client clients lag seed fits = (refl, rw fits refl, λ early. absurd cc)

pub no_welcome :
    {W : Type 0} (terms : Terms W) (at client frame : ℕ) (e : one_entry) →
    FirstEnds terms (down.Entry client frame e) at (end.BadLink at cause.BadWelcome)
no_welcome terms at client frame e = (refl, refl, λ early. absurd cc)

-- A first packet that does not welcome.
pub first_ends :
    {W : Type 0} (terms : Terms W) (old now : SourceState) (before later : SinkState) (at : ℕ)
    (packet : Down) (more : List ℕ) (how answer : PlayEnd) (client frames : ℕ) (sim : Option W) →
    FirstEnds terms packet at how → Finds old now [] at (Ok (Some (packet, more))) →
    HasSaid before later (greeting_bytes terms.rules) →
    (answer ≡ how) × Shows None client frames sim →
    PlaysAs terms old now before later answer client frames sim
first_ends {W = W} terms old now before later at packet more how answer client frames sim ends finds
    said shows =
    not_shown terms old now before later how answer client frames sim
    (unwelcomed_end terms old now before later at (Ok (Some (packet, more))) how client frames sim
    finds
    (by_end how ends)) shows
  where
    by_end : (how : PlayEnd) → FirstEnds terms packet at how →
        EndsBy terms [] None (Ok (Some (packet, more))) (length finds.taken) at old now before
        later how
    by_end end.Over ends = absurd ends
    by_end (end.Refused code) ends = (ap stop_of ends, said)
    by_end (end.BadLink place why) ends = (
      ends.0,
      ap (λ (a : Result (Stage W) StopReason). option_map (stop_in (length finds.taken)) (stop_of a))
          ends.1,
      (λ early. absurd (ends.2 early)),
      said,
    )
    by_end end.Lost ends = absurd ends

pub bad_match :
    {W : Type 0} (terms : Terms W) (at client clients lag seed : ℕ) (fits : Bool) (how : PlayEnd) →
    fits ≡ is_match client clients lag → fits ≡ false → how ≡ end.BadLink at cause.BadWelcome →
    FirstEnds terms (down.Welcome client clients lag seed) at how
bad_match terms at client clients lag seed fits how decides fails is =
    subst (FirstEnds terms (down.Welcome client clients lag seed) at) (sym is)
    (no_match terms at client clients lag seed (sym decides ∙ fails))

pub bad_first :
    {W : Type 0} (terms : Terms W) (at client frame : ℕ) (e : one_entry) (how : PlayEnd) →
    how ≡ end.BadLink at cause.BadWelcome → FirstEnds terms (down.Entry client frame e) at how
bad_first terms at client frame e how is =
    subst (FirstEnds terms (down.Entry client frame e) at) (sym is)
    (no_welcome terms at client frame e)

pub entry_first :
    {W : Type 0} (terms : Terms W) (old now : SourceState) (before later : SinkState)
    (at client frame : ℕ) (e : one_entry) (more : List ℕ) (how answer : PlayEnd)
    (is_client frames : ℕ) (sim : Option W) → how ≡ end.BadLink at cause.BadWelcome →
    Finds old now [] at (Ok (Some (down.Entry client frame e, more))) →
    HasSaid before later (greeting_bytes terms.rules) →
    (answer ≡ how) × Shows None is_client frames sim →
    PlaysAs terms old now before later answer is_client frames sim
entry_first terms old now before later at client frame e more how answer is_client frames sim is
    finds said shows =
    first_ends terms old now before later at (down.Entry client frame e) more how answer is_client
    frames sim
    (bad_first terms at client frame e how is) finds said shows

-- Memory that runs out after the first packet.
pub accept_out :
    {W : Type 0} (terms : Terms W) (old now : SourceState) (before later : SinkState) (at : ℕ)
    (found : FirstPacket Down) → Finds old now [] at found →
    HasSaid before later (greeting_bytes terms.rules) → PlaysPartly terms old now before later
accept_out terms old now before later at found finds said =
    partly terms old now before later [] at found None finds refl said

-- Before anything was taken.
pub nothing_found : (state : SourceState) → Finds state state [] 0 (packet_at down_at [])
nothing_found state =
    record {
      taken = [];
      few = omega arith;
      took = took_nothing state.left;
      later = omega arith;
      rest = [];
      reads = refl;
      found_is = refl;
      place = refl;
    }

-- The greeting that fails.
pub greeting_fails :
    {W : Type 0} (terms : Terms W) (state : SourceState) (before later : SinkState) (bytes : List ℕ)
    (answer : PlayEnd) (client frames : ℕ) (sim : Option W) →
    bytes ≡ greeting_bytes terms.rules → WrotePrefix before.written later.written bytes →
    before.faults ≤ later.faults → Increased before.faults later.faults →
    (answer ≡ end.Lost) × Shows None client frames sim →
    PlaysAs terms state state before later answer client frames sim
greeting_fails terms state before later bytes answer client frames sim is wrote later_count rose
    shows =
    not_shown terms state state before later end.Lost answer client frames sim
    (unwelcomed_end terms state state before later 0 (packet_at down_at []) end.Lost client frames
    sim (nothing_found state)
    (inr (
      [],
      inl (refl, refl),
      record {
        part = wrote.prefix;
        rest = wrote.rest;
        whole = wrote.whole ∙ is;
        wrote = wrote.wrote;
        later = later_count;
        rose = rose;
      },
    )))
    shows

-- Memory that runs out before anything is written.
pub out_at_once :
    {W : Type 0} (terms : Terms W) (state : SourceState) (sink : SinkState) →
    PlaysPartly terms state state sink sink
out_at_once terms state sink =
    record {
      packets = [];
      at = 0;
      found = packet_at down_at [];
      link = nothing_found state;
      now = None;
      follows = refl;
      wrote = inr (refl, record { wrote = Wrote-nil sink.written; later = omega arith });
    }

-- What holds at once holds after any fault.
pub on_any : {T E P : Type 0} (result : Result T E) → P → OnErr result P
on_any (Ok value) holds = tt
on_any (Err failed) holds = holds

-- The bytes that were written are the greeting.
pub greets :
    (shown bytes start greeting : List ℕ) → shown ≡ bytes → bytes ≡ start ++ greeting →
    start ≡ [] → shown ≡ greeting
greets shown bytes start greeting same wrote nothing =
    same ∙ wrote ∙ ap (λ (b : List ℕ). b ++ greeting) nothing

pub greeting_said :
    (before later : SinkState) (bytes said : List ℕ) → bytes ≡ said →
    Wrote before.written later.written bytes → before.faults ≤ later.faults →
    HasSaid before later said
greeting_said before later bytes said is wrote later_count =
    record { wrote = subst (Wrote before.written later.written) is wrote; later = later_count }

-- What is written is added to what was.
pub said_more : (first mid last : SinkState) (said bytes : List ℕ) → HasSaid first mid said →
    HasSaid mid last bytes → HasSaid first last (said ++ bytes)
said_more first mid last said bytes had has =
    record {
      wrote = Wrote-append first.written mid.written last.written said bytes had.wrote has.wrote;
      later = omega (arith, had.later, has.later);
    }

pub fails_more : (first mid last : SinkState) (said bytes : List ℕ) → HasSaid first mid said →
    FailsWithin mid last bytes → FailsAfter first last said (said ++ bytes)
fails_more first mid last said bytes had fails =
    let earlier = had.later in
    let rose = fails.rose in
    let part = fails.wrote in
    record {
      part = part.prefix;
      rest = part.rest;
      whole = ap (λ (b : List ℕ). said ++ b) part.whole;
      wrote = Wrote-append first.written mid.written last.written said part.prefix had.wrote
          part.wrote;
      later = omega (arith, had.later, fails.later);
      rose = omega (arith, earlier, rose);
    }

-- What a player's acting says, by what it wrote. Nothing is left of what it wrote before.
from_start :
    {W : Type 0} (course : Course W) (plays : Plays W) (player after : Player W)
    (bytes start : List ℕ) → start ≡ [] →
    record { player = after; said = bytes }
    ≡ round course plays (record { player = player; said = start }) →
    record { player = after; said = bytes }
    ≡ round course plays (record { player = player; said = [] })
from_start course plays player after bytes start none is =
    is ∙ ap (λ (b : List ℕ). round course plays (record { player = player; said = b })) none

pub act_fails :
    {W : Type 0} (course : Course W) (plays : Plays W) (player after : Player W)
    (bytes start written said : List ℕ) (first mid last : SinkState) (answer : PlayEnd)
    (found : Option PlayEnd) → start ≡ [] → written ≡ bytes →
    record { player = after; said = bytes }
    ≡ round course plays (record { player = player; said = start }) →
    found ≡ Some answer → PutMeans mid last written found → HasSaid first mid said →
    ActMeans said (round course plays (record { player = player; said = said })) after first last
    (Some answer)
act_fails {W = W} course plays player after bytes start written said first mid last answer found
    none same is some put had =
    by_answer answer
    (subst (λ (b : List ℕ). PutMeans mid last b (Some answer)) same
    (subst (PutMeans mid last written) some put))
  where
    by_answer : (answer : PlayEnd) → PutMeans mid last bytes (Some answer) →
        ActMeans said (round course plays (record { player = player; said = said })) after first
        last (Some answer)
    by_answer end.Over put = absurd put
    by_answer (end.Refused code) put = absurd put
    by_answer (end.BadLink at why) put = absurd put
    by_answer end.Lost put =
        let now = from_start course plays player after bytes start none is in
        let moved = round_moves course plays player after said bytes now in (
          moved.0,
          subst (FailsAfter first last said) (sym moved.1)
              (fails_more first mid last said bytes had put),
        )

acts_on :
    {W : Type 0} (course : Course W) (plays : Plays W) (player after : Player W)
    (bytes start written said : List ℕ) (first mid last : SinkState) (found : Option PlayEnd) →
    start ≡ [] → written ≡ bytes →
    record { player = after; said = bytes }
    ≡ round course plays (record { player = player; said = start }) →
    found ≡ None → PutMeans mid last written found → HasSaid first mid said →
    (after ≡ (round course plays (record { player = player; said = said })).player)
    × HasSaid first last ((round course plays (record { player = player; said = said })).said)
acts_on course plays player after bytes start written said first mid last found nothing same is
    none put had =
    let now = from_start course plays player after bytes start nothing is in
    let moved = round_moves course plays player after said bytes now in
    let has : HasSaid mid last bytes
    = subst (HasSaid mid last) same (subst (PutMeans mid last written) none put) in (
      moved.0,
      subst (HasSaid first last) (sym moved.1)
          (said_more first mid last said bytes had has),
    )

pub act_goes :
    {W : Type 0} (course : Course W) (plays : Plays W) (player after : Player W)
    (bytes start written said : List ℕ) (first mid last : SinkState) (found : Option PlayEnd)
    (over : Bool) → start ≡ [] → written ≡ bytes →
    record { player = after; said = bytes }
    ≡ round course plays (record { player = player; said = start }) →
    found ≡ None → PutMeans mid last written found → over ≡ is_over after.peer → over ≡ false →
    HasSaid first mid said →
    ActMeans said (round course plays (record { player = player; said = said })) after first last
    None
act_goes course plays player after bytes start written said first mid last found over nothing same
    is none put decides goes had =
    let went = acts_on course plays player after bytes start written said first mid last found
    nothing same is none put had in
    (went.0, sym decides ∙ goes, went.1)

pub act_ends :
    {W : Type 0} (course : Course W) (plays : Plays W) (player after : Player W)
    (bytes start written said : List ℕ) (first mid last : SinkState) (found : Option PlayEnd)
    (over : Bool) → start ≡ [] → written ≡ bytes →
    record { player = after; said = bytes }
    ≡ round course plays (record { player = player; said = start }) →
    found ≡ None → PutMeans mid last written found → over ≡ is_over after.peer → over ≡ true →
    HasSaid first mid said →
    ActMeans said (round course plays (record { player = player; said = said })) after first last
    (Some end.Over)
act_ends course plays player after bytes start written said first mid last found over nothing same
    is none put decides ends had =
    let went = acts_on course plays player after bytes start written said first mid last found
    nothing same is none put had in
    (went.0, sym decides ∙ ends, went.1)
