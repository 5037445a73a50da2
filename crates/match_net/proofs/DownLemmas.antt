-- The packets of a player's link, one after another.
use Rattle.std.proofs.Common.{◌≡◌, ℕ, ◌+◌, ◌-◌, ◌<◌, ◌≤◌, List, [], ◌++◌, length, Option, Some}
use Rattle.std.proofs.Common.{None, Result, Ok, Err, refl, sym, ap, ap₂, subst, ◌∙◌, arith}
use Rattle.std.specs.Prelude.{IfNone, IfOk, OnErr}
use Rattle.std.specs.List.{flat_map}
use Rattle.std.proofs.lemmas.List.{append-nil, length-append}
use Rattle.game_io.specs.SourceState.{SourceState}
use Rattle.wire_bytes.specs.Field.{field_bytes}
use Rattle.wire_bytes.proofs.FieldLemmas.{field_length}
use Rattle.order_packets.specs.declared.feed_fault.FeedFault.{FeedFault}
use Rattle.order_packets.specs.declared.down.Down.{Down}
use Rattle.order_packets.specs.PacketBytes.{framed, down_payload}
use Rattle.order_packets.specs.PacketReading.{FirstPacket, packet_at, down_at}
use Rattle.order_packets.specs.Feed.{Fed, more_fed, Answer, answer_of, next_answer, ReadsAll}
use Rattle.order_packets.specs.Feed.{HasGiven, given_by, IfGiven}
use Rattle.order_packets.proofs.FeedLemmas.{given_fed_if}
use Rattle.order_packets.proofs.StreamLemmas.{all_stay}
use Rattle.match_net.specs.declared.limits.TheConstants.{MAX_PLAY_BYTES}
use Rattle.match_net.specs.declared.coming_packet.ComingPacket.{ComingPacket}
use Rattle.match_net.specs.declared.coming_packet.ComingPacket.TheVariants as next
use Rattle.match_net.specs.declared.play_cause.PlayCause.{PlayCause}
use Rattle.match_net.specs.declared.play_cause.PlayCause.TheVariants as cause
use Rattle.match_net.specs.PieceTaking.{Took, NoneLeft, TookAtMost}
use Rattle.match_net.specs.Stages.{bad_end, bad_at}
use Rattle.match_net.specs.Downward.{InStream, Finds, NextMeans, Spills, FoundMeans, TryMeans}
use Rattle.match_net.specs.Downward.{MovesBy, TakesMore}
use Rattle.match_net.proofs.PieceTakingLemmas.{took_nothing, took_more}

-- What a feeder's answer says of its rest.
pub next_gave : (fed after : Fed) (packet : Down) (first : FirstPacket Down) →
    (Ok (Some packet), after) ≡ answer_of fed first →
    (first ≡ Ok (Some (packet, after.rest))) × (after.fault ≡ None)
next_gave fed after packet (Ok None) is =
    let answer : Ok (Some packet) ≡ Ok None = ap (λ (a : Answer Down). a.0) is in absurd cc
next_gave fed after packet (Err fault) is =
    let answer : Ok (Some packet) ≡ Err fault = ap (λ (a : Answer Down). a.0) is in absurd cc
next_gave fed after packet (Ok (Some first)) is =
    let answer : Ok (Some packet) ≡ Ok (Some first.0) = ap (λ (a : Answer Down). a.0) is in
    let same : packet ≡ first.0 = cc in
    let rest : after.rest ≡ first.1 = ap (λ (a : Answer Down). a.1.rest) is in (
      ap₂ (λ (p : Down) (r : List ℕ). Ok (Some (p, r))) (sym same) (sym rest),
      ap (λ (a : Answer Down). a.1.fault) is,
    )

pub next_open : (fed after : Fed) (first : FirstPacket Down) → (Ok None, after)
    ≡ answer_of fed first →
    (first ≡ Ok None) × (after ≡ fed)
next_open fed after (Ok None) is = (refl, ap (λ (a : Answer Down). a.1) is)
next_open fed after (Err fault) is =
    let answer : Ok None ≡ Err fault = ap (λ (a : Answer Down). a.0) is in absurd cc
next_open fed after (Ok (Some first)) is =
    let answer : Ok None ≡ Ok (Some first.0) = ap (λ (a : Answer Down). a.0) is in absurd cc

pub next_failed : (fed after : Fed) (fault : FeedFault) (first : FirstPacket Down) →
    (Err fault, after) ≡ answer_of fed first →
    first ≡ Err fault
next_failed fed after fault (Ok None) is =
    let answer : Err fault ≡ Ok None = ap (λ (a : Answer Down). a.0) is in absurd cc
next_failed fed after fault (Err other) is =
    let answer : Err fault ≡ Err other = ap (λ (a : Answer Down). a.0) is in let same : fault
    ≡ other = cc in ap (λ (f : FeedFault). Err f) (sym same)
next_failed fed after fault (Ok (Some first)) is =
    let answer : Err fault ≡ Ok (Some first.0) = ap (λ (a : Answer Down). a.0) is in absurd cc

pub asked : (fed : Fed) → fed.fault ≡ None → next_answer down_at fed.fault fed
    ≡ answer_of fed (packet_at down_at fed.rest)
asked fed none = ap (λ (f : Option FeedFault). next_answer down_at f fed) none

-- How far a packet brings a feeder.
framed_length : (payload : List ℕ) → length (framed payload) ≡ 2 + length payload
unfolding framed
framed_length payload =
    let size = field_bytes 2 (length payload) in
    let long : length (size ++ payload) ≡ length size + length payload =
    length-append size payload in
    omega (arith, long, field_length 2 (length payload))

moves_on : (fed after : Fed) (packet : Down) (first : FirstPacket Down) → (Ok (Some packet), after)
    ≡ answer_of fed first →
    fed.rest ≡ framed (down_payload packet) ++ after.rest →
    (fed.at < after.at) × (after.at + length after.rest ≡ fed.at + length fed.rest)
moves_on fed after packet (Ok None) is spelled =
    let answer : Ok (Some packet) ≡ Ok None = ap (λ (a : Answer Down). a.0) is in absurd cc
moves_on fed after packet (Err fault) is spelled =
    let answer : Ok (Some packet) ≡ Err fault = ap (λ (a : Answer Down). a.0) is in absurd cc
moves_on fed after packet (Ok (Some first)) is spelled =
    let place : after.at ≡ fed.at + (length fed.rest - length first.1) =
    ap (λ (a : Answer Down). a.1.at) is in
    let rest : after.rest ≡ first.1 = ap (λ (a : Answer Down). a.1.rest) is in
    let size : length after.rest ≡ length first.1 = ap length rest in
    let long : length fed.rest ≡ length (framed (down_payload packet)) + length after.rest =
    ap length spelled ∙ length-append (framed (down_payload packet)) after.rest in
    let head = framed_length (down_payload packet) in
    (omega (arith, place, size, long, head), omega (arith, place, size, long, head))

-- The answer to a question is a packet.
gave_packet : (fed after : Fed) (found : Option Down) (packet : Down) → found ≡ Some packet →
    (Ok found, after) ≡ next_answer down_at fed.fault fed → (Ok (Some packet), after)
    ≡ next_answer down_at fed.fault fed
gave_packet fed after found packet some is = ap (λ (f : Option Down). (Ok f, after)) (sym some) ∙ is

gave_none : (fed after : Fed) (found : Option Down) → found ≡ None →
    (Ok found, after) ≡ next_answer down_at fed.fault fed → (Ok None, after)
    ≡ next_answer down_at fed.fault fed
gave_none fed after found none is = ap (λ (f : Option Down). (Ok f, after)) (sym none) ∙ is

pub moves_with :
    (fed after : Fed) (at : ℕ) (found : Option Down) (packet : Down) → found ≡ Some packet →
    fed.fault ≡ None → fed.at + length fed.rest ≤ MAX_PLAY_BYTES →
    (Ok found, after) ≡ next_answer down_at fed.fault fed →
    IfGiven (Ok found) (λ p. fed.rest ≡ framed (down_payload p) ++ after.rest) →
    MovesBy fed after (Some (next.Packet at packet))
moves_with fed after at found packet some none few is spelled =
    let so = gave_packet fed after found packet some is ∙ asked fed none in
    let P : Option Down → Type 0 =
    λ f. IfGiven (Ok f) (λ p. fed.rest ≡ framed (down_payload p) ++ after.rest) in
    let moves = moves_on fed after packet (packet_at down_at fed.rest) so (subst P some spelled) in
    let whole = moves.1 in (
      (next_gave fed after packet (packet_at down_at fed.rest) so).1,
      moves.0,
      omega (arith, whole, few),
    )

-- Nothing is late while no fault was answered.
none_late : (all : List ℕ) (given : List Down) (fed : Fed)
    (has : HasGiven down_at down_payload all given fed) → fed.fault ≡ None → has.late ≡ []
none_late all given fed has none =
    subst (λ (f : Option FeedFault). IfNone f (has.late ≡ [])) none has.kept

pub read_so_far : (all : List ℕ) (given : List Down) (fed : Fed) →
    HasGiven down_at down_payload all given fed → fed.fault ≡ None →
    ReadsAll down_at all given fed.rest
read_so_far all given fed has none =
    subst (ReadsAll down_at all given) (ap (λ (late : List ℕ). fed.rest ++ late)
    (none_late all given fed has none) ∙ append-nil fed.rest) has.reads

pub size_so_far : (all : List ℕ) (given : List Down) (fed : Fed) →
    HasGiven down_at down_payload all given fed → fed.fault ≡ None → length all
    ≡ fed.at + length fed.rest
size_so_far all given fed has none =
    let before = flat_map (λ packet. framed (down_payload packet)) given in
    let whole : all ≡ before ++ fed.rest = has.spelled
    ∙ ap (λ (late : List ℕ). before ++ fed.rest ++ late) (none_late all given fed has none)
    ∙ append-nil (before ++ fed.rest) in
    ap length whole ∙ length-append before fed.rest ∙ ap (λ n. n + length fed.rest) (sym has.place)

-- What stands next in a stream.
pub stands_next :
    (old now : SourceState) (packets : List Down) (fed : Fed) → InStream old now packets fed →
    Finds old now packets fed.at (packet_at down_at fed.rest)
stands_next old now packets fed stream =
    record {
      taken = stream.taken;
      few = stream.few;
      took = stream.took;
      later = stream.later;
      rest = fed.rest;
      reads = read_so_far stream.taken packets fed stream.stream stream.whole;
      found_is = refl;
      place = sym (size_so_far stream.taken packets fed stream.stream stream.whole);
    }

-- More bytes, or none, of a link that goes on.
found_more :
    (old now new : SourceState) (packets : List Down) (fed : Fed) (taken : List ℕ) →
    (stream : InStream old now packets fed) →
    Took now.left new.left taken → fed.at + length fed.rest + length taken ≤ MAX_PLAY_BYTES →
    now.faults ≤ new.faults →
    Finds old new packets fed.at (packet_at down_at (fed.rest ++ taken))
found_more old now new packets fed taken stream took few later =
    let size = size_so_far stream.taken packets fed stream.stream stream.whole in
    let long = length-append stream.taken taken in
    let held = length-append fed.rest taken in
    record {
      taken = stream.taken ++ taken;
      few = omega (arith, size, long, few);
      took = took_more old.left now.left new.left stream.taken taken stream.took took;
      later = omega (arith, stream.later, later);
      rest = fed.rest ++ taken;
      reads = all_stay down_at stream.taken taken fed.rest packets
          (read_so_far stream.taken packets fed stream.stream stream.whole);
      found_is = refl;
      place = omega (arith, size, long, held);
    }

-- The link has given nothing more.
found_nothing :
    (old now new : SourceState) (packets : List Down) (fed : Fed) (found : FirstPacket Down)
    (taken : List ℕ) → (stream : InStream old now packets fed) →
    packet_at down_at fed.rest ≡ found →
    Took now.left new.left taken → taken ≡ [] → now.faults ≤ new.faults →
    (finds : Finds old new packets fed.at found) × (length finds.taken ≡ fed.at + length fed.rest)
found_nothing old now new packets fed found taken stream is took none later =
    let size = size_so_far stream.taken packets fed stream.stream stream.whole in (
      record {
        taken = stream.taken;
        few = stream.few;
        took = subst (λ (b : List ℕ). Took old.left new.left b)
            (ap (λ (t : List ℕ). stream.taken ++ t) none ∙ append-nil stream.taken)
            (took_more old.left now.left new.left stream.taken taken stream.took took);
        later = omega (arith, stream.later, later);
        rest = fed.rest;
        reads = read_so_far stream.taken packets fed stream.stream stream.whole;
        found_is = is;
        place = sym size;
      },
      size,
    )

-- An attempt that finds a packet.
pub tries_packet :
    (old now : SourceState) (packets : List Down) (fed after : Fed) (at : ℕ) (found : Option Down)
    (packet : Down) → found ≡ Some packet → at ≡ fed.at →
    fed.fault ≡ None → (Ok found, after) ≡ next_answer down_at fed.fault fed →
    ((all : List ℕ) (given : List Down) → HasGiven down_at down_payload all given fed →
    HasGiven down_at down_payload all (given ++ given_by (Ok found)) after) →
    InStream old now packets fed →
    NextMeans old now packets after (next.Packet at packet)
tries_packet old now packets fed after at found packet some place none was more stream =
    let is = gave_packet fed after found packet some was in
    let P : Option Down → Type 0 =
    λ f. HasGiven down_at down_payload stream.taken (packets ++ given_by (Ok f)) after in
    let gave = next_gave fed after packet (packet_at down_at fed.rest) (is ∙ asked fed none) in (
      record {
        taken = stream.taken;
        few = stream.few;
        took = stream.took;
        later = stream.later;
        stream = subst P some (more stream.taken packets stream.stream);
        whole = gave.1;
      },
      (
        after.rest,
        subst (λ (k : ℕ). Finds old now packets k (Ok (Some (packet, after.rest)))) (sym place)
            (subst (Finds old now packets fed.at) gave.0 (stands_next old now packets fed stream)),
      ),
    )

-- An attempt that finds a fault.
pub tries_fault :
    (old now : SourceState) (packets : List Down) (fed after : Fed) (at : ℕ) (fault : FeedFault)
    (answer : ComingPacket) → at ≡ fed.at →
    fed.fault ≡ None → (Err fault, after) ≡ next_answer down_at fed.fault fed → answer
    ≡ next.Bad at (cause.Feed fault) → InStream old now packets fed →
    NextMeans old now packets after answer
tries_fault old now packets fed after at fault answer place none is answer_is stream =
    let failed = next_failed fed after fault (packet_at down_at fed.rest) (is ∙ asked fed none) in
    subst (NextMeans old now packets after) (sym answer_is) (
      Err fault,
      subst (λ (k : ℕ). Finds old now packets k (Err fault)) (sym place)
          (subst (Finds old now packets fed.at) failed (stands_next old now packets fed stream)),
      refl,
      λ early. absurd cc,
    )

-- An attempt that takes more bytes.
pub tries_more :
    (old now new : SourceState) (packets : List Down) (fed asked_fed after : Fed)
    (answer : Option ComingPacket) →
    fed.fault ≡ None → (Ok None, asked_fed) ≡ next_answer down_at fed.fault fed →
    TakesMore now new asked_fed after answer → InStream old now packets fed →
    FoundMeans old new packets after answer
tries_more old now new packets fed asked_fed after answer none is takes stream =
    let open_is = next_open fed asked_fed (packet_at down_at fed.rest) (is ∙ asked fed none) in
    by_answer answer open_is.0 (subst (λ (f : Fed). TakesMore now new f after answer) open_is.1
    takes)
  where
    done : Unit {0} → Result (Unit {0}) (Unit {0})
    done u = Ok u

    stays : (fed : Fed) (piece : List ℕ) → fed.fault ≡ None → (more_fed fed.fault fed piece).fault
        ≡ None
    stays fed piece none = ap (λ (f : Option FeedFault). (more_fed f fed piece).fault) none

    by_answer : (answer : Option ComingPacket) → packet_at down_at fed.rest ≡ Ok None →
        TakesMore now new fed after answer →
        FoundMeans old new packets after answer
    by_answer None undecided takes =
        let size = size_so_far stream.taken packets fed stream.stream stream.whole in
        let long = length-append stream.taken takes.taken in
        let few = takes.few in
        record {
          taken = stream.taken ++ takes.taken;
          few = omega (arith, size, long, few);
          took = took_more old.left now.left new.left stream.taken takes.taken stream.took
              takes.took;
          later = omega (arith, stream.later, takes.later);
          stream = given_fed_if down_at down_payload stream.taken packets fed after takes.taken
              (done tt) takes.means.0 stream.stream;
          whole = ap (λ (f : Fed). f.fault) takes.means.0 ∙ stays fed takes.taken stream.whole;
        }
    by_answer (Some (next.Packet at packet)) undecided takes = absurd takes.means
    by_answer (Some (next.Bad at why)) undecided takes =
        let means = takes.means in
        let finds = found_nothing old now new packets fed (Ok None) takes.taken stream undecided
        takes.took means.0 takes.later in
        at_place at (sym means.1) finds.0 finds.1 (means.2) (means.3)
      where
        at_place : (at : ℕ) → fed.at ≡ at → (finds : Finds old new packets fed.at (Ok None)) →
            length finds.taken ≡ fed.at + length fed.rest →
            why ≡ bad_end (fed.at + length fed.rest) → (why ≡ cause.Early → NoneLeft new.left) →
            NextMeans old new packets after (next.Bad at why)
        at_place at place finds size why_is early =
            let P : ℕ → Type 0 =
            λ k. (found : FirstPacket Down) × (f : Finds old new packets k found) ×
            (bad_at (length f.taken) found ≡ Some why) × (why ≡ cause.Early → NoneLeft new.left) in
            subst P place (
              Ok None,
              finds,
              ap (λ (n : ℕ). Some (bad_end n)) size
                  ∙ ap (λ (w : PlayCause). Some w) (sym why_is),
              early,
            )
    by_answer (Some next.Lost) undecided takes =
        let means = takes.means in
        let open_yet = means.1 in
        let rose = means.2 in
        let earlier = stream.later in
        let finds = found_nothing old now new packets fed (Ok None) takes.taken stream undecided
        takes.took means.0 takes.later in
        let size = finds.1 in
        (fed.at, finds.0, omega (arith, size, open_yet), omega (arith, earlier, rose))

-- An attempt for which memory runs out.
tries_spill :
    (old now new : SourceState) (packets : List Down) (fed asked_fed : Fed) →
    fed.fault ≡ None → (Ok None, asked_fed) ≡ next_answer down_at fed.fault fed →
    fed.at + length fed.rest ≤ MAX_PLAY_BYTES →
    TookAtMost (MAX_PLAY_BYTES - (asked_fed.at + length asked_fed.rest)) now new →
    InStream old now packets fed →
    Spills old new packets
tries_spill old now new packets fed asked_fed none is room took stream =
    let open_is = next_open fed asked_fed (packet_at down_at fed.rest) (is ∙ asked fed none) in
    let same = open_is.1 in
    let place : asked_fed.at ≡ fed.at = ap (λ (f : Fed). f.at) same in
    let size : length asked_fed.rest ≡ length fed.rest = ap (λ (f : Fed). length f.rest) same in
    let few = took.few in (
      fed.at,
      packet_at down_at (fed.rest ++ took.taken),
      found_more old now new packets fed
          took.taken stream took.took (omega (arith, place, size, few, room)) took.later,
    )

-- An attempt by what the taking of more bytes answers.
pub tries_by :
    {E : Type 0} (old now new : SourceState) (packets : List Down) (fed asked_fed after : Fed)
    (found : Option Down) (result : Result (Option ComingPacket) E) →
    found ≡ None → fed.fault ≡ None → (Ok found, asked_fed) ≡ next_answer down_at fed.fault fed →
    fed.at + length fed.rest ≤ MAX_PLAY_BYTES →
    IfOk result (λ answer. TakesMore now new asked_fed after answer) →
    OnErr result (TookAtMost (MAX_PLAY_BYTES - (asked_fed.at + length asked_fed.rest)) now new) →
    InStream old now packets fed → TryMeans old new packets after result
tries_by old now new packets fed asked_fed after found (Ok answer) nothing none was room takes
    spills stream =
    tries_more old now new packets fed asked_fed after answer none
    (gave_none fed asked_fed found nothing was) takes stream
tries_by old now new packets fed asked_fed after found (Err failed) nothing none was room takes
    spills stream =
    tries_spill old now new packets fed asked_fed none (gave_none fed asked_fed found nothing was)
    room spills stream

-- Before the first packet.
pub in_new_stream : (state : SourceState) (fed : Fed) → HasGiven down_at down_payload [] [] fed →
    fed.fault ≡ None → InStream state state [] fed
in_new_stream state fed has none =
    record {
      taken = [];
      few = omega arith;
      took = took_nothing state.left;
      later = omega arith;
      stream = has;
      whole = none;
    }
