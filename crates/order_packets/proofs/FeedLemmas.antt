-- What a feeder has given, after each of its calls.
use Rattle.std.specs.Prelude.{◌≡◌, ℕ, ◌+◌, List, [], ◌∷◌, ◌++◌, length}
use Rattle.std.specs.Prelude.{Option, Some, None, Result, Ok, Err, IfNone, OnOk}
use Rattle.std.specs.List.{flat_map}
use Rattle.std.proofs.Common.{refl, sym, ap, subst, ◌∙◌, arith, append_assoc}
use Rattle.std.proofs.lemmas.List.{append-nil, length-append}
use Rattle.order_packets.specs.declared.feed_fault.FeedFault.{FeedFault}
use Rattle.order_packets.specs.PacketBytes.{framed}
use Rattle.order_packets.specs.PacketReading.{PacketRead, FirstPacket, packet_at}
use Rattle.order_packets.specs.Feed.{Fed, more_fed, Answer, answer_of, next_answer}
use Rattle.order_packets.specs.Feed.{ReadsAll, HasGiven, given_by, IfGiven}
use Rattle.order_packets.proofs.StreamLemmas.{all_stay, one_more}

-- The spellings of packets, one after another.
abbrev spellings : {P : Type 0} → (P → List ℕ) → List P → List ℕ
spellings payload given = flat_map (λ packet. framed (payload packet)) given

spellings_more :
    {P : Type 0} (payload : P → List ℕ) (given : List P) (packet : P) →
    spellings payload (given ++ packet ∷ []) ≡ spellings payload given ++ framed (payload packet)
spellings_more payload [] packet = append-nil (framed (payload packet))
spellings_more payload (first ∷ given) packet =
    ap (λ (bytes : List ℕ). framed (payload first) ++ bytes) (spellings_more payload given packet)
    ∙ sym (append_assoc (framed (payload first)) (spellings payload given)
    (framed (payload packet)))

-- Before a fault nothing is late.
nothing_late :
    {P : Type 0} (at : List ℕ → PacketRead P) (payload : P → List ℕ) (all : List ℕ)
    (given : List P) (fed : Fed) (has : HasGiven at payload all given fed) → fed.fault ≡ None →
    has.late ≡ []
nothing_late at payload all given fed has none =
    subst (λ (f : Option FeedFault). IfNone f (has.late ≡ [])) none has.kept

reads_so_far :
    {P : Type 0} (at : List ℕ → PacketRead P) (payload : P → List ℕ) (all : List ℕ)
    (given : List P) (fed : Fed) → HasGiven at payload all given fed → fed.fault ≡ None →
    ReadsAll at all given fed.rest
reads_so_far at payload all given fed has none =
    subst (ReadsAll at all given)
    (ap (λ (late : List ℕ). fed.rest ++ late) (nothing_late at payload all given fed has none)
    ∙ append-nil fed.rest)
    has.reads

-- After a piece.
fed_on :
    {P : Type 0} (at : List ℕ → PacketRead P) (payload : P → List ℕ) (all : List ℕ)
    (given : List P) (old : Fed) (piece : List ℕ) (fault : Option FeedFault) →
    old.fault ≡ fault → HasGiven at payload all given old →
    HasGiven at payload (all ++ piece) given (more_fed fault old piece)
fed_on at payload all given old piece None none has =
    let before = spellings payload given in
    let so_far : all ≡ before ++ old.rest =
    has.spelled
    ∙ ap (λ (late : List ℕ). before ++ old.rest ++ late)
    (nothing_late at payload all given old has none)
    ∙ append-nil (before ++ old.rest) in
    record {
      late = [];
      reads =
          subst (ReadsAll at (all ++ piece) given) (sym (append-nil (old.rest ++ piece)))
          (all_stay at all piece old.rest given (reads_so_far at payload all given old has none));
      spelled =
          ap (λ (bytes : List ℕ). bytes ++ piece) so_far
          ∙ append_assoc before old.rest piece
          ∙ sym (append-nil (before ++ (old.rest ++ piece)));
      kept = refl;
      stands = tt;
      place = has.place;
    }
fed_on at payload all given old piece (Some fault) some has =
    let before = spellings payload given in
    record {
      late = has.late ++ piece;
      reads =
          subst (ReadsAll at (all ++ piece) given) (append_assoc old.rest has.late piece)
          (all_stay at all piece (old.rest ++ has.late) given has.reads);
      spelled =
          ap (λ (bytes : List ℕ). bytes ++ piece) has.spelled
          ∙ append_assoc (before ++ old.rest) has.late piece;
      kept = subst (λ (f : Option FeedFault). IfNone f (has.late ++ piece ≡ [])) (sym some) tt;
      stands = has.stands;
      place = has.place;
    }

pub given_fed_if :
    {P X E : Type 0} (at : List ℕ → PacketRead P) (payload : P → List ℕ) (all : List ℕ)
    (given : List P) (old new : Fed) (piece : List ℕ) (result : Result X E) →
    OnOk result (new ≡ more_fed old.fault old piece) → HasGiven at payload all given old →
    OnOk result (HasGiven at payload (all ++ piece) given new)
given_fed_if at payload all given old new piece (Ok done) is has =
    subst (HasGiven at payload (all ++ piece) given) (sym is)
    (fed_on at payload all given old piece old.fault refl has)
given_fed_if at payload all given old new piece (Err failed) is has = tt

-- After a question for the next packet.
abbrev GoesOn :
    {P : Type 0} → (List ℕ → PacketRead P) → (P → List ℕ) → List ℕ → List P → Fed → Answer P →
    Type 0
GoesOn at payload all given old answer =
    IfGiven answer.0 (λ packet. old.rest ≡ framed (payload packet) ++ answer.1.rest) →
    HasGiven at payload all (given ++ given_by answer.0) answer.1

same_given :
    {P : Type 0} (at : List ℕ → PacketRead P) (payload : P → List ℕ) (all : List ℕ)
    (given : List P) (fed : Fed) → HasGiven at payload all given fed →
    HasGiven at payload all (given ++ []) fed
same_given {P = P} at payload all given fed has =
    subst (λ (packets : List P). HasGiven at payload all packets fed) (sym (append-nil given)) has

answered :
    {P : Type 0} (at : List ℕ → PacketRead P) (payload : P → List ℕ) (all : List ℕ)
    (given : List P) (old : Fed) (first : FirstPacket P) → packet_at at old.rest ≡ first →
    old.fault ≡ None → HasGiven at payload all given old →
    GoesOn at payload all given old (answer_of old first)
answered at payload all given old (Ok None) is none has =
    λ _. same_given at payload all given old has
answered at payload all given old (Err fault) is none has =
    λ _. same_given at payload all given
    (record { at = old.at; rest = old.rest; fault = Some fault })
    (record {
      late = has.late;
      reads = has.reads;
      spelled = has.spelled;
      kept = tt;
      stands = is;
      place = has.place;
    })
answered at payload all given old (Ok (Some first)) is none has =
    λ spelled.
    let before = spellings payload given in
    let packet = framed (payload first.0) in
    let longer : length old.rest ≡ length packet + length first.1 =
    ap length spelled ∙ length-append packet first.1 in
    let more = spellings_more payload given first.0 in
    record {
      late = [];
      reads =
          subst (ReadsAll at all (given ++ first.0 ∷ [])) (sym (append-nil first.1))
          (one_more at all old.rest first.1 given first.0
          (reads_so_far at payload all given old has none) is);
      spelled =
          has.spelled
          ∙ ap (λ (late : List ℕ). before ++ old.rest ++ late)
          (nothing_late at payload all given old has none)
          ∙ ap (λ (rest : List ℕ). before ++ rest ++ []) spelled
          ∙ ap (λ (bytes : List ℕ). bytes ++ [])
          (sym (append_assoc before packet first.1)
          ∙ ap (λ (bytes : List ℕ). bytes ++ first.1) (sym more));
      kept = refl;
      stands = tt;
      place = rw more (omega (arith, has.place, longer, length-append before packet));
    }

asked :
    {P : Type 0} (at : List ℕ → PacketRead P) (payload : P → List ℕ) (all : List ℕ)
    (given : List P) (old : Fed) (fault : Option FeedFault) → old.fault ≡ fault →
    HasGiven at payload all given old →
    GoesOn at payload all given old (next_answer at fault old)
asked at payload all given old None none has =
    answered at payload all given old (packet_at at old.rest) refl none has
asked at payload all given old (Some fault) some has =
    λ _. same_given at payload all given old has

pub given_next :
    {P : Type 0} (at : List ℕ → PacketRead P) (payload : P → List ℕ) (all : List ℕ)
    (given : List P) (old new : Fed) (result : Result (Option P) FeedFault) →
    (result, new) ≡ next_answer at old.fault old →
    IfGiven result (λ packet. old.rest ≡ framed (payload packet) ++ new.rest) →
    HasGiven at payload all given old →
    HasGiven at payload all (given ++ given_by result) new
given_next at payload all given old new result is spelled has =
    subst (GoesOn at payload all given old) (sym is)
    (asked at payload all given old old.fault refl has) spelled
