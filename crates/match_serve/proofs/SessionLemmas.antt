-- A greeting and a session, over all bytes that were taken from the link.
use Rattle.std.proofs.Common.{◌≡◌, ℕ, ◌≤◌, ◌⊎◌, Bool, true, false, List, [], ◌++◌, length, Option, Some, None, Result, Ok, Err, refl, sym, ap, ◌∙◌, subst, inl, inr, ⊎_elim, arith, append_assoc, take, drop, length-append, length-drop, lt-ltb, eq-eqb, ◌==◌}
use Rattle.std.proofs.lemmas.Bool.{le-ltb, cases_lt}
use Rattle.std.specs.Prelude.{nat_lt, if◌then◌else◌}
use Rattle.base.specs.Steps.{◌>>=◌}
use Rattle.wire_bytes.specs.declared.short.Short.{Short}
use Rattle.wire_bytes.specs.Read.{field_at}
use Rattle.wire_bytes.specs.Field.{field_number}
use Rattle.order_packets.specs.declared.limits.TheConstants.{MAX_PAYLOAD}
use Rattle.std.specs.Option.{option_map}
use Rattle.base.specs.Cause.{Increased}
use Rattle.game_io.specs.SourceState.{SourceState}
use Rattle.order_packets.specs.declared.up.Up.{Up}
use Rattle.order_packets.specs.declared.up.Up.TheVariants.{Hello}
use Rattle.order_packets.specs.PacketBytes.{FitsUp}
use Rattle.order_packets.proofs.PacketLemmas.{up_again}
use Rattle.order_packets.specs.declared.feed_fault.FeedFault.{FeedFault}
use Rattle.order_packets.specs.PacketReading.{FirstPacket, packet_at, sized_at, payload_at, behind_length, up_at}
use Rattle.order_packets.specs.Feed.{Fed}
use Rattle.frame_table.specs.declared.view.View.{View}
use Rattle.report_line.specs.declared.heard.Heard.{Heard}
use Rattle.order_packets.specs.declared.limits.TheConstants.{VERSION, OTHER_RULES}
use Rattle.match_net.specs.declared.limits.TheConstants.{MAX_LINK_BYTES}
use Rattle.match_net.specs.declared.greeting.Greeting.{Greeting}
use Rattle.match_net.specs.declared.greeting.Greeting.TheVariants as greeting
use Rattle.match_net.specs.declared.reader_end.ReaderEnd.{ReaderEnd}
use Rattle.match_net.specs.declared.reader_end.ReaderEnd.TheVariants as end
use Rattle.match_net.specs.declared.ending.Ending.TheVariants as ending
use Rattle.match_net.specs.declared.read_cause.ReadCause.TheVariants as cause
use Rattle.match_net.specs.PieceTaking.{Took, Counts, NoneLeft}
use Rattle.match_net.specs.Greeting.{Greets, decided, greeting_of, hello_bytes}
use Rattle.match_serve.specs.Sent.{greeting_by}
use Rattle.match_net.specs.Session.{Session, no_session, Makes, end_at, limited, cause_of}
use Rattle.match_net.specs.Reading.{EndMeans}
use Rattle.match_net.specs.Sessions.{CountsAs, ReadsLink, ReadsNothing, SessionEnds}

both : (new : Option (List ℕ)) (xs ys : List ℕ) → option_map (λ left. xs ++ left) (option_map (λ left. ys ++ left) new) ≡ option_map (λ left. (xs ++ ys) ++ left) new
both None xs ys = refl
both (Some bytes) xs ys = ap Some (sym (append_assoc xs ys bytes))

pub took_more : (old mid new : Option (List ℕ)) (xs ys : List ℕ) → Took old mid xs → Took mid new ys → Took old new (xs ++ ys)
took_more old mid new xs ys first second = first ∙ ap (option_map (λ left. xs ++ left)) second ∙ both new xs ys

-- A count that rose since rose from the beginning.
pub rose_since : (a b c : ℕ) → a ≤ b → Increased b c → Increased a c
rose_since a b c less rose = grind (arith, less, rose)

module _ (c here : ℕ) (bytes : List ℕ) (session : Session) (rest : List ℕ) (old mid new : SourceState) (later : old.faults ≤ mid.faults) where
  end_since : (answer : ReaderEnd) → EndMeans c here bytes session rest mid new answer → EndMeans c here bytes session rest old new answer
  end_since end.Ended means = means
  end_since (end.Refused why) means = means
  end_since (end.LeftAt at) means = means
  end_since end.Lost means = (means.0, means.1, rose_since old.faults mid.faults new.faults later means.2)
  end_since end.NoMemory means = means

  ends_since : (before after : View) (answer : ReaderEnd) → SessionEnds c here bytes session rest mid new before after answer → SessionEnds c here bytes session rest old new before after answer
  ends_since before after end.Ended ends = ends
  ends_since before after (end.Refused why) ends = ends
  ends_since before after (end.LeftAt at) ends = ends
  ends_since before after end.Lost ends = (ends.0, ends.1, rose_since old.faults mid.faults new.faults later ends.2)
  ends_since before after end.NoMemory ends = ends

-- After a Welcome.
module _ (c here : ℕ) (old mid new : SourceState) (fed : Fed) (before after : View) (heard : List Heard) (answer : ReaderEnd) where
  read_welcome : (g : Greets here old mid fed greeting.Welcome) → (since : ReadsLink c here (hello_bytes here ++ fed.rest) mid new before after [] heard answer) →
      (r : ReadsLink c here [] old new before after [] heard answer) × (r.taken ≡ g.taken ++ since.taken) × ((more : List ℕ) × (r.taken ≡ hello_bytes here ++ more))
  read_welcome g r =
      let same : g.taken ≡ hello_bytes here ++ fed.rest = g.welcomed refl in
      let all : hello_bytes here ++ fed.rest ++ r.taken ≡ g.taken ++ r.taken = ap (λ b. b ++ r.taken) (sym same) in (
        record {
          session = r.session;
          taken = g.taken ++ r.taken;
          rest = r.rest;
          few = subst (λ b. length b ≤ MAX_LINK_BYTES) all r.few;
          took = took_more old.left mid.left new.left g.taken r.taken g.took r.took;
          later = (let a = g.later in let b = r.later in omega arith);
          makes = subst (λ b. Makes c here b r.session r.rest) all r.makes;
          at = r.at;
          place = r.place ∙ ap length all;
          reports = r.reports;
          column = r.column;
          ends = subst (λ b. SessionEnds c here b r.session r.rest old new before after answer) all
              (ends_since c here (hello_bytes here ++ fed.rest ++ r.taken) r.session r.rest old mid new g.later before after answer r.ends);
        },
        refl,
        (fed.rest ++ r.taken, sym all ∙ append_assoc (hello_bytes here) fed.rest r.taken),
      )

-- What the first packet says, where it is no Welcome.
refused_end : (c here size code : ℕ) (found : FirstPacket Up) → decided here found ≡ Some (greeting.Refuse code) → option_map (limited size) (end_at c here no_session found) ≡ Some (ending.Refused (cause_of code))
refused_end c here size code (Ok (Some first)) is = by_greeting (greeting_of here first.0) refl
  where
    by_greeting : (g : Greeting) → greeting_of here first.0 ≡ g → option_map (limited size) (end_at c here no_session (Ok (Some first))) ≡ Some (ending.Refused (cause_of code))
    by_greeting greeting.Welcome of = absurd (let e : Some greeting.Welcome ≡ Some (greeting.Refuse code) = ap Some (sym of) ∙ is in cc)
    by_greeting (greeting.Refuse other) of =
        let e : Some (greeting.Refuse other) ≡ Some (greeting.Refuse code) = ap Some (sym of) ∙ is in
        let same : other ≡ code = cc in
        rw of (ap (λ k. Some (ending.Refused (cause_of k))) same)
    by_greeting (greeting.Fault fault) of = absurd (let e : Some (greeting.Fault fault) ≡ Some (greeting.Refuse code) = ap Some (sym of) ∙ is in cc)
    by_greeting greeting.Ended of = absurd (let e : Some greeting.Ended ≡ Some (greeting.Refuse code) = ap Some (sym of) ∙ is in cc)
    by_greeting greeting.Lost of = absurd (let e : Some greeting.Lost ≡ Some (greeting.Refuse code) = ap Some (sym of) ∙ is in cc)
refused_end c here size code (Ok None) is = absurd cc
refused_end c here size code (Err fault) is = absurd cc

faulty_end : (c here size : ℕ) (fault : FeedFault) (found : FirstPacket Up) → decided here found ≡ Some (greeting.Fault fault) → option_map (limited size) (end_at c here no_session found) ≡ Some (ending.Refused (cause.Feed fault))
faulty_end c here size fault (Ok (Some first)) is = by_greeting (greeting_of here first.0) refl
  where
    by_greeting : (g : Greeting) → greeting_of here first.0 ≡ g → option_map (limited size) (end_at c here no_session (Ok (Some first))) ≡ Some (ending.Refused (cause.Feed fault))
    by_greeting greeting.Welcome of = absurd (let e : Some greeting.Welcome ≡ Some (greeting.Fault fault) = ap Some (sym of) ∙ is in cc)
    by_greeting (greeting.Refuse other) of = absurd (let e : Some (greeting.Refuse other) ≡ Some (greeting.Fault fault) = ap Some (sym of) ∙ is in cc)
    by_greeting (greeting.Fault other) of =
        let e : Some (greeting.Fault other) ≡ Some (greeting.Fault fault) = ap Some (sym of) ∙ is in
        let same : other ≡ fault = cc in
        rw of (ap (λ k. Some (ending.Refused (cause.Feed k))) same)
    by_greeting greeting.Ended of = absurd (let e : Some greeting.Ended ≡ Some (greeting.Fault fault) = ap Some (sym of) ∙ is in cc)
    by_greeting greeting.Lost of = absurd (let e : Some greeting.Lost ≡ Some (greeting.Fault fault) = ap Some (sym of) ∙ is in cc)
faulty_end c here size fault (Ok None) is = absurd cc
faulty_end c here size fault (Err other) is = let same : other ≡ fault = cc in ap (λ k. Some (ending.Refused (cause.Feed k))) same

open_end : (c here : ℕ) (found : FirstPacket Up) → decided here found ≡ None → end_at c here no_session found ≡ Some ending.Over
open_end c here (Ok (Some first)) is = absurd cc
open_end c here (Ok None) is = refl
open_end c here (Err fault) is = absurd cc

-- Bytes that decide nothing are few.
no_none : (read : Result Up FeedFault) (bytes : List ℕ) → ◌>>=◌ {B = Option (Up × List ℕ)} read (λ packet. Ok (Some (packet, bytes))) ≡ Ok None → ⊥
no_none (Ok packet) bytes is = absurd cc
no_none (Err fault) bytes is = absurd cc

not_large : (large : Bool) (other : FirstPacket Up) (fault : FeedFault) → large ≡ true → if◌then◌else◌ {A = FirstPacket Up} large (Err fault) other ≡ Ok None → ⊥
not_large true other fault yes_large is = absurd cc
not_large false other fault yes_large is = absurd cc

not_whole : (few : Bool) (other : FirstPacket Up) → few ≡ false → if◌then◌else◌ {A = FirstPacket Up} few (Ok None) other ≡ Ok None → other ≡ Ok None
not_whole true other never is = absurd cc
not_whole false other never is = is

not_fault : (large : Bool) (other : FirstPacket Up) (fault : FeedFault) → large ≡ false → if◌then◌else◌ {A = FirstPacket Up} large (Err fault) other ≡ Ok None → other ≡ Ok None
not_fault true other fault never is = absurd cc
not_fault false other fault never is = is

few_sized : (size : ℕ) (rest : List ℕ) → sized_at up_at size rest ≡ Ok None → length rest ≤ 256
unfolding sized_at
few_sized size rest is =
    elim (cases_lt MAX_PAYLOAD size) [
      | inl large ↦ absurd (not_large (nat_lt MAX_PAYLOAD size) _ _ (lt-ltb MAX_PAYLOAD size large) is)
      | inr small ↦ let next = not_fault (nat_lt MAX_PAYLOAD size) _ _ (le-ltb MAX_PAYLOAD size small) is in
          elim (cases_lt (length rest) size) [
            | inl few ↦ omega (arith, few, small)
            | inr enough ↦ absurd (no_none (payload_at up_at (take size rest)) (drop size rest) (not_whole (nat_lt (length rest) size) _ (le-ltb (length rest) size enough) next))
          ]
    ]

no_short : (test : Bool) (some : ℕ × List ℕ) (failure : Short) → test ≡ false → behind_length up_at (if◌then◌else◌ {A = Result (ℕ × List ℕ) Short} test (Err failure) (Ok some)) ≡ sized_at up_at some.0 some.1
no_short true some failure is = absurd cc
no_short false some failure is = refl

pub few_undecided : (bytes : List ℕ) → packet_at up_at bytes ≡ Ok None → length bytes ≤ 258
unfolding packet_at field_at
few_undecided bytes is =
    elim (cases_lt (length bytes) 2) [
      | inl few ↦ omega (arith, few)
      | inr many ↦
          let sized = no_short (nat_lt (length bytes) 2) (field_number 2 bytes, drop 2 bytes) _ (le-ltb (length bytes) 2 many) in
          let few = few_sized (field_number 2 bytes) (drop 2 bytes) (sym sized ∙ is) in
          let dropped = length-drop 2 bytes in
          omega (arith, few, dropped)
    ]

-- Nothing is decided, and few bytes were taken.
undecided : (here : ℕ) (found : FirstPacket Up) → decided here found ≡ None → found ≡ Ok None
undecided here (Ok (Some first)) is = absurd cc
undecided here (Ok None) is = refl
undecided here (Err fault) is = absurd cc

-- After any other greeting.
module _ (c here : ℕ) (old mid new : SourceState) (fed : Fed) (before after : View) (heard : List Heard) (answer : ReaderEnd) (why : Greeting) (g : Greets here old mid fed why) (r : ReadsNothing why c mid new before after [] heard answer) where
  read_none : SessionEnds c here g.taken no_session g.taken old new before after answer → (r : ReadsLink c here [] old new before after [] heard answer) × (r.taken ≡ g.taken)
  read_none ends = (
    record {
      session = no_session;
      taken = g.taken;
      rest = g.taken;
      few = g.few;
      took = subst (λ (s : SourceState). Took old.left s.left g.taken) (sym r.untouched) g.took;
      later = subst (λ (s : SourceState). old.faults ≤ s.faults) (sym r.untouched) g.later;
      makes = record { packets = []; reads = refl; follows = refl };
      at = 0;
      place = omega arith;
      reports = r.reports;
      column = r.column;
      ends = ends;
    },
    refl,
  )

  means_ended : decided here (packet_at up_at g.taken) ≡ None → NoneLeft mid.left → EndMeans c here g.taken no_session g.taken old new end.Ended
  means_ended none left =
      let few = few_undecided g.taken (undecided here (packet_at up_at g.taken) none) in
      inr (
        open_end c here (packet_at up_at g.taken) none,
        omega (arith, few),
        subst (λ (s : SourceState). NoneLeft s.left) (sym r.untouched) left,
      )

same_rules : (test : Bool) → test ≡ true → if◌then◌else◌ {A = Greeting} test greeting.Welcome (greeting.Refuse OTHER_RULES) ≡ greeting.Welcome
same_rules true is = refl
same_rules false is = absurd cc

accepted : (here : ℕ) → greeting_of here (Hello VERSION here) ≡ greeting.Welcome
accepted here = same_rules (here == here) (eq-eqb here here refl)

-- What the bytes decide is what was greeted; of a link that failed they decide nothing.
abbrev pub IsAnswered : Greeting → Greeting → Type 0
IsAnswered why said = (said ≡ why) ⊎ ((why ≡ greeting.Lost) × (said ≡ greeting.Ended))

abbrev said_by : ℕ → List ℕ → Greeting
said_by here bytes = greeting_by (decided here (packet_at up_at bytes))

module _ (c here : ℕ) (old mid new : SourceState) (count total : ℕ) (fed : Fed) (before after : View) (heard : List Heard) (answer : ReaderEnd) where
  abbrev pub Whole : Greeting → Type 0
  Whole why = (r : ReadsLink c here [] old new before after [] heard answer) × IsAnswered why (said_by here r.taken) × (total ≡ length r.taken)

  -- Where nothing was taken since, the count is that of the greeting.
  none_since : (bytes all : List ℕ) → count ≡ length bytes → total ≡ count → all ≡ bytes → total ≡ length all
  none_since bytes all counted still same = still ∙ counted ∙ sym (ap length same)

  read_refused : (code : ℕ) → (g : Greets here old mid fed (greeting.Refuse code)) → count ≡ length g.taken → ReadsNothing (greeting.Refuse code) c mid new before after [] heard answer → total ≡ count → Whole (greeting.Refuse code)
  read_refused code g counted r still =
      let (whole, same) = read_none c here old mid new fed before after heard answer (greeting.Refuse code) g r
      (subst (SessionEnds c here g.taken no_session g.taken old new before after) (sym r.ends) (refused_end c here (length g.taken) code (packet_at up_at g.taken) g.decides)) in
      (whole, inl (ap (said_by here) same ∙ ap greeting_by g.decides), none_since g.taken whole.taken counted still same)

  read_faulty : (fault : FeedFault) → (g : Greets here old mid fed (greeting.Fault fault)) → count ≡ length g.taken → ReadsNothing (greeting.Fault fault) c mid new before after [] heard answer → total ≡ count → Whole (greeting.Fault fault)
  read_faulty fault g counted r still =
      let (whole, same) = read_none c here old mid new fed before after heard answer (greeting.Fault fault) g r
      (subst (SessionEnds c here g.taken no_session g.taken old new before after) (sym r.ends) (faulty_end c here (length g.taken) fault (packet_at up_at g.taken) g.decides)) in
      (whole, inl (ap (said_by here) same ∙ ap greeting_by g.decides), none_since g.taken whole.taken counted still same)

  read_ended : (g : Greets here old mid fed greeting.Ended) → count ≡ length g.taken → ReadsNothing greeting.Ended c mid new before after [] heard answer → total ≡ count → Whole greeting.Ended
  read_ended g counted r still =
      let means = means_ended c here old mid new fed before after heard answer greeting.Ended g r g.decides (g.ended refl) in
      let S : ReaderEnd → Type 0 = λ (a : ReaderEnd). SessionEnds c here g.taken no_session g.taken old new before after a in
      let (whole, same) = read_none c here old mid new fed before after heard answer greeting.Ended g r
      (⊎_elim
      (λ own. subst S (sym own.0) (means, own.1))
      (λ other. subst S (sym other.1) (other.2, inl means))
      r.ends) in
      (whole, inl (ap (said_by here) same ∙ ap greeting_by g.decides), none_since g.taken whole.taken counted still same)

  read_lost : (g : Greets here old mid fed greeting.Lost) → count ≡ length g.taken → ReadsNothing greeting.Lost c mid new before after [] heard answer → total ≡ count → Whole greeting.Lost
  read_lost g counted r still =
      let (whole, same) = read_none c here old mid new fed before after heard answer greeting.Lost g r
      (subst (SessionEnds c here g.taken no_session g.taken old new before after) (sym r.ends) (
        open_end c here (packet_at up_at g.taken) g.decides,
        (let few = few_undecided g.taken (undecided here (packet_at up_at g.taken) g.decides) in omega (arith, few)),
        subst (λ (s : SourceState). Increased old.faults s.faults) (sym r.untouched) (g.lost refl),
      )) in
      (whole, inr (refl, ap (said_by here) same ∙ ap greeting_by g.decides), none_since g.taken whole.taken counted still same)

  read_welcomed : FitsUp (Hello VERSION here) → (g : Greets here old mid fed greeting.Welcome) → count ≡ length g.taken → (r : ReadsLink c here (hello_bytes here ++ fed.rest) mid new before after [] heard answer) → Counts count total r.taken → Whole greeting.Welcome
  read_welcomed fits g counted r since =
      let (whole, all, (more, taken)) = read_welcome c here old mid new fed before after heard answer g r in
      let first : packet_at up_at (hello_bytes here ++ more) ≡ Ok (Some (Hello VERSION here, more)) = up_again (Hello VERSION here) more fits in
      let long = ap length all ∙ length-append g.taken r.taken in
      (whole, inl (ap (said_by here) taken ∙ ap (λ found. greeting_by (decided here found)) first ∙ accepted here), omega (arith, counted, since, long))

  pub read_greeted : (why : Greeting) → FitsUp (Hello VERSION here) → (g : Greets here old mid fed why) → count ≡ length g.taken → CountsAs why c here fed.rest mid new count total before after [] heard answer → Whole why
  read_greeted greeting.Welcome fits g counted r = read_welcomed fits g counted r.0 r.1
  read_greeted (greeting.Refuse code) fits g counted r = read_refused code g counted r.0 r.1
  read_greeted (greeting.Fault fault) fits g counted r = read_faulty fault g counted r.0 r.1
  read_greeted greeting.Ended fits g counted r = read_ended g counted r.0 r.1
  read_greeted greeting.Lost fits g counted r = read_lost g counted r.0 r.1
