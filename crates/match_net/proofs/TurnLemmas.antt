-- One turn of a reading: a packet, more bytes, or an end.
use Rattle.std.proofs.Common.{◌≡◌, ℕ, ◌+◌, ◌*◌, ◌-◌, ◌<◌, ◌≤◌, ◌^◌, Bool, true, false, List, [], ◌∷◌, ◌++◌, length, Option, Some, None, Result, Ok, Err, refl, sym, ap, ap₂, subst, ◌∙◌, arith, append_assoc, inl, inr, eq-eqb}
use Rattle.std.specs.Prelude.{◌==◌, IfNone, IfSome, nat_lt}
use Rattle.std.specs.Option.{option_map}
use Rattle.std.specs.List.{flat_map}
use Rattle.std.proofs.lemmas.List.{append-nil, length-append}
use Rattle.std.proofs.lemmas.Bool.{le-ltb}
use Rattle.base.specs.Steps.{◌>>=◌}
use Rattle.game_io.specs.SourceState.{SourceState}
use Rattle.order_packets.specs.declared.feed_fault.FeedFault.{FeedFault}
use Rattle.order_packets.specs.declared.up.Up.{Up}
use Rattle.order_packets.specs.declared.up.Up.TheVariants.{Hello}
use Rattle.order_packets.specs.PacketBytes.{framed, up_payload}
use Rattle.order_packets.specs.PacketReading.{FirstPacket, packet_at, up_at}
use Rattle.order_packets.proofs.PacketLemmas.{up_again}
use Rattle.order_packets.specs.Feed.{Fed, more_fed, Answer, answer_of, next_answer, ReadsAll, HasGiven, given_by}
use Rattle.order_packets.proofs.FeedLemmas.{given_fed_if}
use Rattle.order_packets.proofs.StreamLemmas.{all_stay}
use Rattle.frame_core.specs.Column.{Column}
use Rattle.frame_table.specs.declared.view.View.{View}
use Rattle.frame_table.specs.Part.{Part, part_of, OthersStay}
use Rattle.order_packets.specs.declared.limits.TheConstants.{VERSION}
use Rattle.match_net.specs.declared.limits.TheConstants.{MAX_LINK_BYTES}
use Rattle.report_line.specs.declared.heard.Heard.{Heard}
use Rattle.match_net.specs.declared.ending.Ending.{Ending}
use Rattle.match_net.specs.declared.ending.Ending.TheVariants as ending
use Rattle.match_net.specs.declared.read_cause.ReadCause.{ReadCause}
use Rattle.match_net.specs.declared.read_cause.ReadCause.TheVariants as cause
use Rattle.match_net.specs.declared.reader_end.ReaderEnd.{ReaderEnd}
use Rattle.match_net.specs.declared.reader_end.ReaderEnd.TheVariants as end
use Rattle.match_net.specs.PieceTaking.{Took, Counts}
use Rattle.match_net.specs.Greeting.{hello_bytes}
use Rattle.match_net.specs.Session.{Session, no_session, After, after_up, after_packet, after_packet_if, after_all, end_by, end_at, limited}
use Rattle.match_net.specs.Handling.{HandlingMeans, IsLeftIf}
use Rattle.match_net.specs.Ahead.{LooksAround}
use Rattle.match_net.specs.Reading.{OnlyLearns, IsStanding, HandlesPacket, EndMeans, ReadsTo}
use Rattle.match_net.specs.ReadSoFar.{ReadSoFar, AfterTurn, TakesMore}
use Rattle.match_net.proofs.PieceTakingLemmas.{took_nothing, took_more, counts_more}
use Rattle.match_net.proofs.GreetingLemmas.{hello_length}
use Rattle.match_net.proofs.AheadLemmas.{others_still, others_stay_on, others_look_on}

-- What a feeder's answer says of its rest.
next_gave : (fed after : Fed) (packet : Up) (first : FirstPacket Up) → (Ok (Some packet), after) ≡ answer_of fed first →
    (first ≡ Ok (Some (packet, after.rest))) × (after.fault ≡ None)
next_gave fed after packet (Ok None) is = let answer : Ok (Some packet) ≡ Ok None = ap (λ (a : Answer Up). a.0) is in absurd cc
next_gave fed after packet (Err fault) is = let answer : Ok (Some packet) ≡ Err fault = ap (λ (a : Answer Up). a.0) is in absurd cc
next_gave fed after packet (Ok (Some first)) is =
    let answer : Ok (Some packet) ≡ Ok (Some first.0) = ap (λ (a : Answer Up). a.0) is in
    let same : packet ≡ first.0 = cc in
    let rest : after.rest ≡ first.1 = ap (λ (a : Answer Up). a.1.rest) is in
    (ap₂ (λ (p : Up) (r : List ℕ). Ok (Some (p, r))) (sym same) (sym rest), ap (λ (a : Answer Up). a.1.fault) is)

next_open : (fed after : Fed) (first : FirstPacket Up) → (Ok None, after) ≡ answer_of fed first →
    (first ≡ Ok None) × (after ≡ fed)
next_open fed after (Ok None) is = (refl, ap (λ (a : Answer Up). a.1) is)
next_open fed after (Err fault) is = let answer : Ok None ≡ Err fault = ap (λ (a : Answer Up). a.0) is in absurd cc
next_open fed after (Ok (Some first)) is = let answer : Ok None ≡ Ok (Some first.0) = ap (λ (a : Answer Up). a.0) is in absurd cc

next_failed : (fed after : Fed) (fault : FeedFault) (first : FirstPacket Up) → (Err fault, after) ≡ answer_of fed first →
    first ≡ Err fault
next_failed fed after fault (Ok None) is = let answer : Err fault ≡ Ok None = ap (λ (a : Answer Up). a.0) is in absurd cc
next_failed fed after fault (Err other) is = let answer : Err fault ≡ Err other = ap (λ (a : Answer Up). a.0) is in let same : fault ≡ other = cc in ap (λ (f : FeedFault). Err f) (sym same)
next_failed fed after fault (Ok (Some first)) is = let answer : Err fault ≡ Ok (Some first.0) = ap (λ (a : Answer Up). a.0) is in absurd cc

asked : (fed : Fed) → fed.fault ≡ None → next_answer up_at fed.fault fed ≡ answer_of fed (packet_at up_at fed.rest)
asked fed none = ap (λ (f : Option FeedFault). next_answer up_at f fed) none

-- Nothing is late while no fault was answered.
none_late : (all : List ℕ) (given : List Up) (fed : Fed) (has : HasGiven up_at up_payload all given fed) → fed.fault ≡ None → has.late ≡ []
none_late all given fed has none = subst (λ (f : Option FeedFault). IfNone f (has.late ≡ [])) none has.kept

read_so_far : (all : List ℕ) (given : List Up) (fed : Fed) → HasGiven up_at up_payload all given fed → fed.fault ≡ None → ReadsAll up_at all given fed.rest
read_so_far all given fed has none =
    subst (ReadsAll up_at all given) (ap (λ (late : List ℕ). fed.rest ++ late) (none_late all given fed has none) ∙ append-nil fed.rest) has.reads

size_so_far : (all : List ℕ) (given : List Up) (fed : Fed) → HasGiven up_at up_payload all given fed → fed.fault ≡ None → length all ≡ fed.at + length fed.rest
size_so_far all given fed has none =
    let before = flat_map (λ packet. framed (up_payload packet)) given in
    let whole : all ≡ before ++ fed.rest = has.spelled ∙ ap (λ (late : List ℕ). before ++ fed.rest ++ late) (none_late all given fed has none) ∙ append-nil (before ++ fed.rest) in
    ap length whole ∙ length-append before fed.rest ∙ ap (λ n. n + length fed.rest) (sym has.place)

-- One packet more.
one_after : (c here : ℕ) (session mid next : Session) (packet : Up) → session ≡ mid → after_packet c here mid packet ≡ Ok next →
    (after_packet c here session packet >>= λ last. Ok last) ≡ Ok next
one_after c here session mid next packet at is =
    ap (λ (s : Session). after_packet c here s packet >>= λ last. Ok last) at ∙ ap (λ (a : After). a >>= λ last. Ok last) is

after_more_packets : (c here : ℕ) (packets : List Up) (session mid next : Session) (packet : Up) → after_all c here session packets ≡ Ok mid →
    after_packet c here mid packet ≡ Ok next → after_all c here session (packets ++ packet ∷ []) ≡ Ok next
after_more_packets c here [] session mid next packet so_far is = let at : session ≡ mid = cc in one_after c here session mid next packet at is
after_more_packets c here (first ∷ packets) session mid next packet so_far is =
    by_first (after_packet c here session first) so_far (λ after goes. after_more_packets c here packets after mid next packet goes is)
  where
    by_first : (a : After) → (a >>= λ after. after_all c here after packets) ≡ Ok mid →
        ((after : Session) → after_all c here after packets ≡ Ok mid → after_all c here after (packets ++ packet ∷ []) ≡ Ok next) →
        (a >>= λ after. after_all c here after (packets ++ packet ∷ [])) ≡ Ok next
    by_first (Ok after) goes rest = rest after goes
    by_first (Err end) goes rest = absurd cc

learns_more : (old mid new : Part) → OnlyLearns old mid → OnlyLearns mid new → OnlyLearns old new
learns_more old mid new first second =
    second ∙ ap (λ (p : Part). record p { reach = new.reach; known = new.known; loads = new.loads }) first

-- After a look at the columns.
pub looked_around :
    (c here : ℕ) (given : List ℕ) (old now : SourceState) (from count : ℕ) (before view after : View) (start pushed : List Heard) (fed : Fed) →
    ReadSoFar c here given old now from count before view start pushed fed → LooksAround c view after →
    ReadSoFar c here given old now from count before after start pushed fed
looked_around c here given old now from count before view after start pushed fed so_far around =
    record {
      session = so_far.session;
      packets = so_far.packets;
      taken = so_far.taken;
      few = so_far.few;
      took = so_far.took;
      counted = so_far.counted;
      later = so_far.later;
      stream = so_far.stream;
      whole = so_far.whole;
      follows = so_far.follows;
      standing = record {
        welcomed = so_far.standing.welcomed;
        plays = ap (λ (k : Column). k.plays) around.own ∙ so_far.standing.plays;
        reports = so_far.standing.reports;
      };
      others = others_look_on c before view after so_far.others around.all;
      learns = learns_more (part_of c before) (part_of c view) (part_of c after) so_far.learns (around.all.parts c).only;
    }

-- A packet of a client that was welcomed.
welcomed_packet : (c here : ℕ) (session : Session) (packet : Up) → session.welcomed ≡ true → after_packet c here session packet ≡ after_up c session packet
welcomed_packet c here session packet is = ap (λ (b : Bool). after_packet_if b c here session packet) is

end_of_packet : (c here : ℕ) (session : Session) (packet : Up) (bytes rest : List ℕ) (end : Ending) → session.welcomed ≡ true →
    packet_at up_at bytes ≡ Ok (Some (packet, rest)) → after_up c session packet ≡ Err end →
    end_at c here session (packet_at up_at bytes) ≡ Some end
end_of_packet c here session packet bytes rest end welcomed at is =
    ap (end_at c here session) at ∙ ap end_by (welcomed_packet c here session packet welcomed ∙ is)

-- After a packet that was handled.
goes_on :
    (c here : ℕ) (given : List ℕ) (old now : SourceState) (from count : ℕ) (before view after : View) (start pushed more : List Heard) (fed next : Fed) (packet : Up) →
    (so_far : ReadSoFar c here given old now from count before view start pushed fed) →
    next.fault ≡ None → HasGiven up_at up_payload (given ++ so_far.taken) (so_far.packets ++ packet ∷ []) next →
    OthersStay c view after → OnlyLearns (part_of c view) (part_of c after) →
    (session : Session) → IsStanding c session start after more → after_up c so_far.session packet ≡ Ok session →
    ReadSoFar c here given old now from count before after start more next
goes_on c here given old now from count before view after start pushed more fed next packet so_far whole stream others learns session standing is =
    record {
      session = session;
      packets = so_far.packets ++ packet ∷ [];
      taken = so_far.taken;
      few = so_far.few;
      took = so_far.took;
      counted = so_far.counted;
      later = so_far.later;
      stream = stream;
      whole = whole;
      follows = after_more_packets c here so_far.packets no_session so_far.session session packet so_far.follows
          (welcomed_packet c here so_far.session packet so_far.standing.welcomed ∙ is);
      standing = standing;
      others = others_stay_on c before view after so_far.others others;
      learns = learns_more (part_of c before) (part_of c view) (part_of c after) so_far.learns learns;
    }

ends_with :
    (c here : ℕ) (given : List ℕ) (old now : SourceState) (from count : ℕ) (before view after : View) (start pushed more : List Heard) (fed : Fed) (session : Session) (answer : ReaderEnd) →
    (so_far : ReadSoFar c here given old now from count before view start pushed fed) →
    OthersStay c view after → OnlyLearns (part_of c view) (part_of c after) →
    IsLeftIf (part_of c after).known.left (Some answer) →
    IsStanding c session start after more → session ≡ so_far.session →
    EndMeans c here (given ++ so_far.taken) so_far.session fed.rest old now answer →
    ReadsTo c here given old now from count before after start more answer
ends_with c here given old now from count before view after start pushed more fed session answer so_far others learns knows standing same ends =
    record {
      session = so_far.session;
      taken = so_far.taken;
      rest = fed.rest;
      few = so_far.few;
      took = so_far.took;
      counted = so_far.counted;
      later = so_far.later;
      makes = record { packets = so_far.packets; reads = read_so_far (given ++ so_far.taken) so_far.packets fed so_far.stream so_far.whole; follows = so_far.follows };
      at = fed.at;
      place = sym (size_so_far (given ++ so_far.taken) so_far.packets fed so_far.stream so_far.whole);
      standing = subst (λ (s : Session). IsStanding c s start after more) same standing;
      others = others_stay_on c before view after so_far.others others;
      learns = learns_more (part_of c before) (part_of c view) (part_of c after) so_far.learns learns;
      knows = knows;
      ends = ends;
    }

pub after_handling :
    (c here : ℕ) (given : List ℕ) (old now : SourceState) (from count : ℕ) (before view after : View) (start pushed more : List Heard) (fed next : Fed) (packet : Up) (answer : Option ReaderEnd) →
    (so_far : ReadSoFar c here given old now from count before view start pushed fed) →
    (found : Option Up) → found ≡ Some packet → (Ok found, next) ≡ next_answer up_at fed.fault fed →
    HasGiven up_at up_payload (given ++ so_far.taken) (so_far.packets ++ given_by (Ok found)) next →
    HandlesPacket c view after pushed more packet answer →
    AfterTurn c here given old now from count before after start more next answer
after_handling c here given old now from count before view after start pushed more fed next packet answer so_far found found_is is gives handles =
    let so : (Ok (Some packet), next) ≡ next_answer up_at fed.fault fed = subst (λ (x : Option Up). (Ok x, next) ≡ next_answer up_at fed.fault fed) found_is is in
    let stream : HasGiven up_at up_payload (given ++ so_far.taken) (so_far.packets ++ packet ∷ []) next =
    subst (λ (x : Option Up). HasGiven up_at up_payload (given ++ so_far.taken) (so_far.packets ++ given_by (Ok x)) next) found_is gives in
    let gave = next_gave fed next packet (packet_at up_at fed.rest) (so ∙ asked fed so_far.whole) in
    let met = handles.means so_far.session start so_far.standing in
    by_answer answer handles.others handles.learns handles.knows gave.0 gave.1 stream met.0 met.1 met.2
  where
    by_answer : (answer : Option ReaderEnd) → OthersStay c view after → OnlyLearns (part_of c view) (part_of c after) →
        IsLeftIf (part_of c after).known.left answer → packet_at up_at fed.rest ≡ Ok (Some (packet, next.rest)) → next.fault ≡ None →
        HasGiven up_at up_payload (given ++ so_far.taken) (so_far.packets ++ packet ∷ []) next →
        (session : Session) → IsStanding c session start after more → HandlingMeans c so_far.session packet session answer →
        AfterTurn c here given old now from count before after start more next answer
    by_answer None others learns knows at whole stream session standing means =
        goes_on c here given old now from count before view after start pushed more fed next packet so_far whole stream others learns session standing means
    by_answer (Some end.Ended) others learns knows at whole stream session standing means =
        ends_with c here given old now from count before view after start pushed more fed session end.Ended so_far others learns knows standing means.0
        (inl (end_of_packet c here so_far.session packet fed.rest next.rest ending.Bye so_far.standing.welcomed at means.1))
    by_answer (Some (end.Refused why)) others learns knows at whole stream session standing means =
        ends_with c here given old now from count before view after start pushed more fed session (end.Refused why) so_far others learns knows standing means.0
        (ap (option_map (limited (length (given ++ so_far.taken))))
        (end_of_packet c here so_far.session packet fed.rest next.rest (ending.Refused why) so_far.standing.welcomed at means.1))
    by_answer (Some (end.LeftAt n)) others learns knows at whole stream session standing means =
        ends_with c here given old now from count before view after start pushed more fed session (end.LeftAt n) so_far others learns knows standing means.0
        (packet, next.rest, at, means.1)
    by_answer (Some end.Lost) others learns knows at whole stream session standing means = absurd means
    by_answer (Some end.NoMemory) others learns knows at whole stream session standing means =
        ends_with c here given old now from count before view after start pushed more fed session end.NoMemory so_far others learns knows standing means tt

-- After more bytes were taken.
pub after_more :
    (c here : ℕ) (given : List ℕ) (old now new : SourceState) (from count total : ℕ) (before view : View) (start pushed : List Heard) (fed next after : Fed) (answer : Option ReaderEnd) →
    ReadSoFar c here given old now from count before view start pushed fed →
    (found : Option Up) → found ≡ None → (Ok found, next) ≡ next_answer up_at fed.fault fed →
    TakesMore now new count total next after answer →
    AfterTurn c here given old new from total before view start pushed after answer
after_more c here given old now new from count total before view start pushed fed next after answer so_far found found_is is takes =
    let so : (Ok None, next) ≡ next_answer up_at fed.fault fed = subst (λ (x : Option Up). (Ok x, next) ≡ next_answer up_at fed.fault fed) found_is is in
    let undecided = next_open fed next (packet_at up_at fed.rest) (so ∙ asked fed so_far.whole) in
    by_answer answer undecided.0 (subst (λ (f : Fed). TakesMore now new count total f after answer) undecided.1 takes)
  where
    lost : (answer : ReaderEnd) → IsLeftIf (part_of c view).known.left (Some answer) → TakesMore now new count total fed after (Some answer) →
        (ends : (rest : List ℕ) (bytes : List ℕ) → EndMeans c here bytes so_far.session rest old new answer) →
        ReadsTo c here given old new from total before view start pushed answer
    lost answer knows takes ends =
        let all : (given ++ so_far.taken) ++ takes.taken ≡ given ++ (so_far.taken ++ takes.taken) = append_assoc given so_far.taken takes.taken in
        let size = size_so_far (given ++ so_far.taken) so_far.packets fed so_far.stream so_far.whole in
        record {
          session = so_far.session;
          taken = so_far.taken ++ takes.taken;
          rest = fed.rest ++ takes.taken;
          few = subst (λ (b : List ℕ). length b ≤ MAX_LINK_BYTES) all (let few = takes.few in let long = length-append (given ++ so_far.taken) takes.taken in omega (arith, size, few, long));
          took = took_more old.left now.left new.left so_far.taken takes.taken so_far.took takes.took;
          counted = counts_more from count total so_far.taken takes.taken so_far.counted takes.counted;
          later = omega (arith, so_far.later, takes.later);
          makes = record {
            packets = so_far.packets;
            reads = subst (λ (b : List ℕ). ReadsAll up_at b so_far.packets (fed.rest ++ takes.taken)) all
                (all_stay up_at (given ++ so_far.taken) takes.taken fed.rest so_far.packets (read_so_far (given ++ so_far.taken) so_far.packets fed so_far.stream so_far.whole));
            follows = so_far.follows;
          };
          at = fed.at;
          place =
              let held = length-append fed.rest takes.taken in
              let long = length-append (given ++ so_far.taken) takes.taken in
              let whole = ap length all in
              omega (arith, size, held, long, whole);
          standing = so_far.standing;
          others = so_far.others;
          learns = so_far.learns;
          knows = knows;
          ends = ends (fed.rest ++ takes.taken) (given ++ (so_far.taken ++ takes.taken));
        }

    stopped : (answer : ReaderEnd) → IsLeftIf (part_of c view).known.left (Some answer) → (taken : List ℕ) → taken ≡ [] → Took now.left new.left taken → Counts count total taken → now.faults ≤ new.faults →
        EndMeans c here (given ++ so_far.taken) so_far.session fed.rest old new answer →
        ReadsTo c here given old new from total before view start pushed answer
    stopped answer knows taken none took counted later ends =
        record {
          session = so_far.session;
          taken = so_far.taken;
          rest = fed.rest;
          few = so_far.few;
          took = subst (λ (b : List ℕ). Took old.left new.left b) (ap (λ (t : List ℕ). so_far.taken ++ t) none ∙ append-nil so_far.taken)
              (took_more old.left now.left new.left so_far.taken taken so_far.took took);
          counted = let before = so_far.counted in let none_more = ap length none in omega (arith, before, counted, none_more);
          later = omega (arith, so_far.later, later);
          makes = record { packets = so_far.packets; reads = read_so_far (given ++ so_far.taken) so_far.packets fed so_far.stream so_far.whole; follows = so_far.follows };
          at = fed.at;
          place = sym (size_so_far (given ++ so_far.taken) so_far.packets fed so_far.stream so_far.whole);
          standing = so_far.standing;
          others = so_far.others;
          learns = so_far.learns;
          knows = knows;
          ends = ends;
        }

    too_long : (size : ℕ) → size ≡ MAX_LINK_BYTES → limited size ending.Over ≡ ending.Refused cause.SessionTooLong
    too_long size is = let full : nat_lt size MAX_LINK_BYTES ≡ false = le-ltb size MAX_LINK_BYTES (omega (arith, is)) in rw full refl

    by_answer : (answer : Option ReaderEnd) → packet_at up_at fed.rest ≡ Ok None → TakesMore now new count total fed after answer →
        AfterTurn c here given old new from total before view start pushed after answer
    by_answer None undecided takes =
        let all : (given ++ so_far.taken) ++ takes.taken ≡ given ++ (so_far.taken ++ takes.taken) = append_assoc given so_far.taken takes.taken in
        let size = size_so_far (given ++ so_far.taken) so_far.packets fed so_far.stream so_far.whole in
        record {
          session = so_far.session;
          packets = so_far.packets;
          taken = so_far.taken ++ takes.taken;
          few = subst (λ (b : List ℕ). length b ≤ MAX_LINK_BYTES) all (let few = takes.few in let long = length-append (given ++ so_far.taken) takes.taken in omega (arith, size, few, long));
          took = took_more old.left now.left new.left so_far.taken takes.taken so_far.took takes.took;
          counted = counts_more from count total so_far.taken takes.taken so_far.counted takes.counted;
          later = omega (arith, so_far.later, takes.later);
          stream = subst (λ (b : List ℕ). HasGiven up_at up_payload b so_far.packets after) all
              (given_fed_if up_at up_payload (given ++ so_far.taken) so_far.packets fed after takes.taken (done tt) takes.fed so_far.stream);
          whole = ap (λ (f : Fed). f.fault) takes.fed ∙ stays fed takes.taken so_far.whole;
          follows = so_far.follows;
          standing = so_far.standing;
          others = so_far.others;
          learns = so_far.learns;
        }
      where
        done : Unit {0} → Result (Unit {0}) (Unit {0})
        done u = Ok u

        stays : (fed : Fed) (piece : List ℕ) → fed.fault ≡ None → (more_fed fed.fault fed piece).fault ≡ None
        stays fed piece none = ap (λ (f : Option FeedFault). (more_fed f fed piece).fault) none
    by_answer (Some end.Ended) undecided takes =
        let size = size_so_far (given ++ so_far.taken) so_far.packets fed so_far.stream so_far.whole in
        let means = takes.fed in
        stopped end.Ended tt takes.taken means.0 takes.took takes.counted takes.later
        (inr (ap (end_at c here so_far.session) undecided, let few = means.1 in omega (arith, size, few), means.2))
    by_answer (Some (end.Refused why)) undecided takes =
        let size = size_so_far (given ++ so_far.taken) so_far.packets fed so_far.stream so_far.whole in
        let means = takes.fed in
        let full = means.1 in
        stopped (end.Refused why) tt takes.taken means.0 takes.took takes.counted takes.later
        (ap (λ (f : FirstPacket Up). option_map (limited (length (given ++ so_far.taken))) (end_at c here so_far.session f)) undecided
        ∙ ap Some (too_long (length (given ++ so_far.taken)) (size ∙ full))
        ∙ ap (λ (w : ReadCause). Some (ending.Refused w)) (sym means.2))
    by_answer (Some (end.LeftAt n)) undecided takes = absurd takes.fed
    by_answer (Some end.Lost) undecided takes =
        let size = size_so_far (given ++ so_far.taken) so_far.packets fed so_far.stream so_far.whole in
        let means = takes.fed in
        stopped end.Lost tt takes.taken means.0 takes.took takes.counted takes.later
        (ap (end_at c here so_far.session) undecided, let few = means.1 in omega (arith, size, few), let earlier = so_far.later in let rose = means.2 in omega (arith, earlier, rose))
    by_answer (Some end.NoMemory) undecided takes = lost end.NoMemory tt takes (λ rest bytes. tt)

-- After a fault.
pub after_fault :
    (c here : ℕ) (given : List ℕ) (old now : SourceState) (from count : ℕ) (before view : View) (start pushed : List Heard) (fed next : Fed) (fault : FeedFault) →
    ReadSoFar c here given old now from count before view start pushed fed →
    (Err fault, next) ≡ next_answer up_at fed.fault fed →
    ReadsTo c here given old now from count before view start pushed (end.Refused (cause.Feed fault))
after_fault c here given old now from count before view start pushed fed next fault so_far is =
    let failed = next_failed fed next fault (packet_at up_at fed.rest) (is ∙ asked fed so_far.whole) in
    ends_with c here given old now from count before view view start pushed pushed fed so_far.session (end.Refused (cause.Feed fault)) so_far (refl, refl, λ d other. refl) refl tt so_far.standing refl
    (ap (λ (f : FirstPacket Up). option_map (limited (length (given ++ so_far.taken))) (end_at c here so_far.session f)) failed)

-- Before the first turn, after the greeting.
pub begun :
    (c here : ℕ) (state : SourceState) (count : ℕ) (view : View) (pushed : List Heard) (fed : Fed) → here < 2 ^ 64 → fed.at ≡ 13 → fed.fault ≡ None →
    length fed.rest ≤ MAX_LINK_BYTES - 13 → (part_of c view).known.plays ≡ [] →
    ReadSoFar c here (hello_bytes here ++ fed.rest) state state count count view view pushed pushed fed
begun c here state count view pushed fed range at none few unplayed =
    let bytes = hello_bytes here ++ fed.rest in
    record {
      session = record { welcomed = true; plays = []; reports = [] };
      packets = Hello VERSION here ∷ [];
      taken = [];
      few = let size = hello_length VERSION here in let long = length-append (hello_bytes here) fed.rest in let all = ap length (append-nil bytes) in omega (arith, few, size, long, all);
      took = took_nothing state.left;
      counted = omega arith;
      later = omega arith;
      stream = subst (λ (b : List ℕ). HasGiven up_at up_payload b (Hello VERSION here ∷ []) fed) (sym (append-nil bytes)) (record {
        late = [];
        reads = (fed.rest, up_again (Hello VERSION here) fed.rest (omega arith, range), sym (append-nil fed.rest));
        spelled = ap (λ (b : List ℕ). b ++ fed.rest) (sym (append-nil (hello_bytes here))) ∙ sym (append-nil ((hello_bytes here ++ []) ++ fed.rest));
        kept = by_fault fed.fault none;
        stands = subst (λ (f : Option FeedFault). IfSome f (λ fault. packet_at up_at fed.rest ≡ Err fault)) (sym none) tt;
        place = at ∙ sym (ap length (append-nil (hello_bytes here)) ∙ hello_length VERSION here);
      });
      whole = none;
      follows = let same : (here == here) ≡ true = eq-eqb here here refl in rw same refl;
      standing = record { welcomed = refl; plays = unplayed; reports = sym (append-nil pushed) };
      others = others_still c view;
      learns = refl;
    }
  where
    by_fault : (f : Option FeedFault) → f ≡ None → IfNone f (◌≡◌ {A = List ℕ} [] [])
    by_fault None is = refl
    by_fault (Some fault) is = absurd cc

-- The count of what was read so far is within bounds.
pub counted_few :
    (c here : ℕ) (given : List ℕ) (old now : SourceState) (from count : ℕ) (before view : View) (start pushed : List Heard) (fed : Fed) →
    from ≤ MAX_LINK_BYTES → ReadSoFar c here given old now from count before view start pushed fed → count ≤ 2 * MAX_LINK_BYTES
counted_few c here given old now from count before view start pushed fed few so_far =
    let counted = so_far.counted in
    let short = so_far.few in
    let long = length-append given so_far.taken in
    omega (arith, few, counted, short, long)
