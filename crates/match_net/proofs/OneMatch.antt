-- A player's bytes have one match.
use Rattle.std.proofs.Common.{◌≡◌, ◌≢◌, ℕ, Bool, true, false, List, [], ◌∷◌, ◌++◌}
use Rattle.std.proofs.Common.{length, take, Option, Some, None, Result, Ok, Err, refl, sym, ap, ap₂}
use Rattle.std.proofs.Common.{subst, ◌∙◌, arith}
use Rattle.std.specs.Prelude.{if◌then◌else◌}
use Rattle.std.specs.Option.{option_map}
use Rattle.std.proofs.lemmas.List.{take_all}
use Rattle.base.specs.Steps.{◌>>=◌}
use Rattle.game_io.specs.SourceState.{SourceState}
use Rattle.game_io.specs.SinkState.{SinkState}
use Rattle.order_packets.specs.declared.down.Down.{Down}
use Rattle.order_packets.specs.PacketReading.{FirstPacket, packet_at, down_at}
use Rattle.order_packets.proofs.PacketLemmas.{same_first}
use Rattle.order_packets.specs.Feed.{ReadsAll}
use Rattle.match_net.specs.declared.stop_reason.StopReason.{StopReason}
use Rattle.match_net.specs.declared.stop_reason.StopReason.TheVariants as stop
use Rattle.match_net.specs.declared.limits.TheConstants.{MAX_PLAY_BYTES}
use Rattle.match_net.specs.declared.play_end.PlayEnd.{PlayEnd}
use Rattle.match_net.specs.declared.play_end.PlayEnd.TheVariants as end
use Rattle.match_net.specs.Playing.{Player, Stage, is_over}
use Rattle.match_net.specs.Stages.{Terms, rounded, after_down, after_packet, after_packets}
use Rattle.match_net.specs.Stages.{stop_of, stop_at, stop_in, is_over_stage, player_of}
use Rattle.match_net.specs.PlayMatch.{Shows, PlaysTo, PlaysAs}
use Rattle.match_net.specs.WholeMatch.{WholeMatch, IsWholeMatch, end_of, IsPlayed}

-- The match stands at an end there.
abbrev IsAtEnd : {W : Type 0} → Terms W → Option (Stage W) → List ℕ → Type 0
IsAtEnd terms now rest = (h : StopReason) × (stop_at terms now (packet_at down_at rest) ≡ Some h)

-- A first packet that goes on.
goes_to :
    {W : Type 0} (a : Result (Stage W) StopReason)
    (f : Stage W → Result (Option (Stage W)) StopReason) (last : Option (Stage W)) →
    (a >>= f) ≡ Ok last → (next : Stage W) × (a ≡ Ok next) × (f next ≡ Ok last)
goes_to (Ok next) f last is = (next, refl, is)
goes_to (Err why) f last is = absurd cc

-- A match that is over takes no packet.
over_ends :
    {W : Type 0} (terms : Terms W) (now : Option (Stage W)) (next : Stage W) (packet : Down) →
    is_over_stage now ≡ true → after_packet terms now packet ≡ Ok next → ⊥
over_ends terms None next packet over goes = absurd cc
over_ends {W = W} terms (Some now) next packet over goes = by (is_over now.player.peer) over goes
  where
    by : (b : Bool) → b ≡ true →
        (if b then Err stop.Over else rounded terms now.said (after_down now.player packet))
        ≡ Ok next → ⊥
    by true over goes = absurd cc
    by false over goes = absurd cc

-- At an end no packet goes on.
goes_no_further :
    {W : Type 0} (terms : Terms W) (now : Option (Stage W)) (next : Stage W) (rest mid : List ℕ)
    (packet : Down) → IsAtEnd terms now rest →
    packet_at down_at rest ≡ Ok (Some (packet, mid)) → after_packet terms now packet ≡ Ok next → ⊥
goes_no_further {W = W} terms now next rest mid packet ends is goes =
    by (is_over_stage now) refl (sym (ap (stop_at terms now) is) ∙ ends.1)
  where
    by : (over : Bool) → is_over_stage now ≡ over →
        (if over then Some stop.Over else stop_of (after_packet terms now packet)) ≡ Some ends.0 → ⊥
    by true over found = over_ends terms now next packet over goes
    by false over found = let none : None ≡ Some ends.0 = sym (ap stop_of goes) ∙ found in absurd cc

pub record SameWay {W : Type 0} (s t : Option (Stage W)) (rest more : List ℕ)
    (packets others : List Down) : Type 0 where
  pub stage : s ≡ t
  pub left : rest ≡ more
  pub followed : packets ≡ others

one_way :
    {W : Type 0} (terms : Terms W) (bytes rest more : List ℕ) (packets others : List Down)
    (first s t : Option (Stage W)) →
    ReadsAll down_at bytes packets rest → ReadsAll down_at bytes others more →
    after_packets terms first packets ≡ Ok s → after_packets terms first others ≡ Ok t →
    IsAtEnd terms s rest → IsAtEnd terms t more → SameWay s t rest more packets others
one_way terms bytes rest more [] [] first s t reads also follows too ends end =
    let a : first ≡ s = cc in
    let b : first ≡ t = cc in
    record { stage = sym a ∙ b; left = sym reads ∙ also; followed = refl }
one_way {W = W} terms bytes rest more [] (other ∷ others) first s t reads also follows too ends end =
    let a : first ≡ s = cc in
    let goes = goes_to (after_packet terms first other) (λ n. after_packets terms (Some n) others) t too in
    absurd (goes_no_further terms s goes.0 rest also.0 other ends (ap (packet_at down_at) (sym reads) ∙ also.1) (ap (λ (x : Option (Stage W)). after_packet terms x other) (sym a) ∙ goes.1))
one_way {W = W} terms bytes rest more (packet ∷ packets) [] first s t reads also follows too ends end =
    let a : first ≡ t = cc in
    let goes = goes_to (after_packet terms first packet) (λ n. after_packets terms (Some n) packets) s follows in
    absurd (goes_no_further terms t goes.0 more reads.0 packet end (ap (packet_at down_at) (sym also) ∙ reads.1) (ap (λ (x : Option (Stage W)). after_packet terms x packet) (sym a) ∙ goes.1))
one_way {W = W} terms bytes rest more (packet ∷ packets) (other ∷ others) first s t reads also follows too ends end =
    let same = same_first packet other reads.0 also.0 (packet_at down_at bytes) reads.1 also.1 in
    let goes = goes_to (after_packet terms first packet) (λ n. after_packets terms (Some n) packets) s follows in
    let moves = goes_to (after_packet terms first other) (λ n. after_packets terms (Some n) others) t too in
    let steps : Ok goes.0 ≡ Ok moves.0 = sym goes.1 ∙ ap (after_packet terms first) same.0 ∙ moves.1 in
    let step : goes.0 ≡ moves.0 = cc in
    let all = one_way terms reads.0 rest more packets others (Some goes.0) s t reads.2
    (subst (λ (mid : List ℕ). ReadsAll down_at mid others more) (sym same.1) also.2) goes.2
    (ap (λ (x : Stage W). after_packets terms (Some x) others) step ∙ moves.2) ends end in
    record { stage = all.stage; left = all.left; followed = ap₂ (λ (p : Down) (ps : List Down). p ∷ ps) same.0 all.followed }

-- An end that counts is an end.
is_at_end :
    {W : Type 0} (terms : Terms W) (size : ℕ) (now : Option (Stage W)) (rest : List ℕ) (h : StopReason) →
    option_map (stop_in size) (stop_at terms now (packet_at down_at rest)) ≡ Some h →
    IsAtEnd terms now rest
is_at_end terms size now rest h is = by (stop_at terms now (packet_at down_at rest)) is
  where
    by : (found : Option StopReason) → option_map (stop_in size) found ≡ Some h →
        (e : StopReason) × (found ≡ Some e)
    by None is = absurd cc
    by (Some e) is = (e, refl)

-- The same fields make the same match.
abbrev match_of : {W : Type 0} → List Down → Option (Stage W) → StopReason → ℕ → WholeMatch W
match_of packets now h at = record { packets = packets; now = now; stop = h; at = at }

same_match :
    {W : Type 0} (packets others : List Down) (now later : Option (Stage W)) (h other : StopReason)
    (at there : ℕ) → packets ≡ others → now ≡ later → h ≡ other → at ≡ there →
    match_of packets now h at ≡ match_of others later other there
same_match {W = W} packets others now later h other at there a b c d =
    ap (λ (x : List Down). match_of x now h at) a
    ∙ ap (λ (x : Option (Stage W)). match_of others x h at) b
    ∙ ap (λ (x : StopReason). match_of others later x at) c
    ∙ ap (λ (x : ℕ). match_of others later other x) d

pub one_match :
    {W : Type 0} (terms : Terms W) (bytes : List ℕ) (one other : WholeMatch W) →
    IsWholeMatch terms bytes one → IsWholeMatch terms bytes other → one ≡ other
one_match {W = W} terms bytes one other is also =
    let size = length bytes in
    let same = one_way terms (take MAX_PLAY_BYTES bytes) is.rest also.rest one.packets other.packets
    None one.now other.now is.reads also.reads is.follows also.follows
    (is_at_end terms size one.now is.rest one.stop is.ends)
    (is_at_end terms size other.now also.rest other.stop also.ends) in
    let ends : Some one.stop ≡ Some other.stop =
    sym is.ends
    ∙ ap₂ (λ (x : Option (Stage W)) (b : List ℕ).
    option_map (stop_in size) (stop_at terms x (packet_at down_at b))) same.stage same.left
    ∙ also.ends in
    let long = ap length same.left in
    let stops : one.stop ≡ other.stop = cc in
    same_match one.packets other.packets one.now other.now one.stop other.stop one.at other.at
    same.followed same.stage stops
    (let a = is.place in let b = also.place in omega (arith, a, b, long))

-- What a player's call followed, with an end that its bytes have there.
abbrev followed_to :
    {W : Type 0} {terms : Terms W} {old new : SourceState} {before after : SinkState}
    {player : Option (Player W)} {answer : PlayEnd} →
    PlaysTo terms old new before after player answer → StopReason → WholeMatch W
followed_to plays h =
    record { packets = plays.packets; now = plays.now; stop = h; at = plays.at }

whole_by :
    {W : Type 0} (terms : Terms W) (old new : SourceState) (before after : SinkState)
    (player : Option (Player W)) (answer : PlayEnd)
    (plays : PlaysTo terms old new before after player answer) (h : StopReason) →
    option_map (stop_in (length plays.link.taken)) (stop_at terms plays.now plays.found) ≡ Some h →
    IsWholeMatch terms plays.link.taken (followed_to plays h)
whole_by {W = W} terms old new before after player answer plays h ends =
    let all : take MAX_PLAY_BYTES plays.link.taken ≡ plays.link.taken =
    take_all MAX_PLAY_BYTES plays.link.taken plays.link.few in
    record {
      rest = plays.link.rest;
      reads = subst (λ (b : List ℕ). ReadsAll down_at b plays.packets plays.link.rest) (sym all) plays.link.reads;
      place = plays.link.place ∙ ap length (sym all);
      follows = plays.follows;
      ends = ap (λ (f : FirstPacket Down). option_map (stop_in (length plays.link.taken)) (stop_at terms plays.now f)) plays.link.found_is ∙ ends;
    }

played_by :
    {W : Type 0} (terms : Terms W) (old new : SourceState) (before after : SinkState)
    (answer : PlayEnd) (client frames : ℕ) (sim : Option W)
    (plays : PlaysAs terms old new before after answer client frames sim) (h : StopReason) →
    option_map (stop_in (length plays.plays.link.taken)) (stop_at terms plays.plays.now plays.plays.found) ≡ Some h →
    answer ≡ end_of h plays.plays.at →
    IsPlayed terms plays.plays.link.taken answer client frames sim
played_by {W = W} terms old new before after answer client frames sim plays h ends answered =
    record {
      whole = followed_to plays.plays h;
      is = whole_by terms old new before after plays.player answer plays.plays h ends;
      answered = answered;
      shows = subst (λ (p : Option (Player W)). Shows p client frames sim) plays.plays.player_is plays.shows;
    }

-- What a call hands back that its bytes ended.
pub played :
    {W : Type 0} (terms : Terms W) (old new : SourceState) (before after : SinkState)
    (answer : PlayEnd) (client frames : ℕ) (sim : Option W)
    (plays : PlaysAs terms old new before after answer client frames sim) → answer ≢ end.Lost →
    IsPlayed terms plays.plays.link.taken answer client frames sim
played terms old new before after end.Over client frames sim plays ended =
    played_by terms old new before after end.Over client frames sim plays stop.Over
    (ap (option_map (stop_in (length plays.plays.link.taken))) plays.plays.ends.0) refl
played terms old new before after (end.Refused code) client frames sim plays ended =
    played_by terms old new before after (end.Refused code) client frames sim plays (stop.Refused code)
    (ap (option_map (stop_in (length plays.plays.link.taken))) plays.plays.ends.0) refl
played terms old new before after (end.BadLink place why) client frames sim plays ended =
    played_by terms old new before after (end.BadLink place why) client frames sim plays (stop.Bad why)
    plays.plays.ends.1 (ap (λ (at : ℕ). end.BadLink at why) plays.plays.ends.0)
played terms old new before after end.Lost client frames sim plays ended = absurd (ended refl)

-- One player shows one client, count and world.
shows_one :
    {W : Type 0} (player : Option (Player W)) (client frames c f : ℕ) (sim world : Option W) →
    Shows player client frames sim → Shows player c f world →
    (client ≡ c) × (frames ≡ f) × (sim ≡ world)
shows_one None client frames c f sim world one other =
    (one.0 ∙ sym other.0, one.1 ∙ sym other.1, one.2 ∙ sym other.2)
shows_one (Some player) client frames c f sim world one other =
    (one.0 ∙ sym other.0, one.1 ∙ sym other.1, one.2 ∙ sym other.2)

one_played :
    {W : Type 0} (terms : Terms W) (bytes : List ℕ) (answer another : PlayEnd)
    (client frames c f : ℕ) (sim world : Option W) →
    IsPlayed terms bytes answer client frames sim → IsPlayed terms bytes another c f world →
    (answer ≡ another) × (client ≡ c) × (frames ≡ f) × (sim ≡ world)
one_played {W = W} terms bytes answer another client frames c f sim world one other =
    let same = one_match terms bytes one.whole other.whole one.is other.is in
    let shown = shows_one (player_of other.whole.now) client frames c f sim world
    (subst (λ (m : WholeMatch W). Shows (player_of m.now) client frames sim) same one.shows)
    other.shows in (
      one.answered ∙ ap (λ (m : WholeMatch W). end_of m.stop m.at) same ∙ sym other.answered,
      shown.0,
      shown.1,
      shown.2,
    )

-- Two calls that took the same bytes.
pub played_the_same :
    {W : Type 0} (terms : Terms W) (old new first last : SourceState)
    (before after start stop : SinkState) (answer another : PlayEnd) (client frames c f : ℕ)
    (sim world : Option W)
    (plays : PlaysAs terms old new before after answer client frames sim)
    (also : PlaysAs terms first last start stop another c f world) →
    answer ≢ end.Lost → another ≢ end.Lost →
    plays.plays.link.taken ≡ also.plays.link.taken →
    (answer ≡ another) × (client ≡ c) × (frames ≡ f) × (sim ≡ world)
played_the_same {W = W} terms old new first last before after start stop answer another client frames c f sim world plays also ended too same =
    one_played terms also.plays.link.taken answer another client frames c f sim world
    (subst (λ (b : List ℕ). IsPlayed terms b answer client frames sim) same
    (played terms old new before after answer client frames sim plays ended))
    (played terms first last start stop another c f world also too)

-- One packet before.
one_before :
    (packet other : Down) (packets others : List Down) → packet ≡ other →
    (later : List Down) × (others ≡ packets ++ later) →
    (later : List Down) × (other ∷ others ≡ (packet ∷ packets) ++ later)
one_before packet other packets others same more =
    (more.0, ap₂ (λ (p : Down) (ps : List Down). p ∷ ps) (sym same) more.1)

-- Packets that stand first begin those of the match.
begins :
    {W : Type 0} (terms : Terms W) (bytes rest more : List ℕ) (packets others : List Down)
    (first s t : Option (Stage W)) →
    ReadsAll down_at bytes packets rest → ReadsAll down_at bytes others more →
    after_packets terms first packets ≡ Ok s → after_packets terms first others ≡ Ok t →
    IsAtEnd terms t more → (later : List Down) × (others ≡ packets ++ later)
begins terms bytes rest more [] others first s t reads also follows too end = (others, refl)
begins {W = W} terms bytes rest more (packet ∷ packets) [] first s t reads also follows too end =
    let a : first ≡ t = cc in
    let goes = goes_to (after_packet terms first packet) (λ n. after_packets terms (Some n) packets) s follows in
    absurd (goes_no_further terms t goes.0 more reads.0 packet end (ap (packet_at down_at) (sym also) ∙ reads.1) (ap (λ (x : Option (Stage W)). after_packet terms x packet) (sym a) ∙ goes.1))
begins {W = W} terms bytes rest more (packet ∷ packets) (other ∷ others) first s t reads also follows too end =
    let same = same_first packet other reads.0 also.0 (packet_at down_at bytes) reads.1 also.1 in
    let goes = goes_to (after_packet terms first packet) (λ n. after_packets terms (Some n) packets) s follows in
    let moves = goes_to (after_packet terms first other) (λ n. after_packets terms (Some n) others) t too in
    let steps : Ok goes.0 ≡ Ok moves.0 = sym goes.1 ∙ ap (after_packet terms first) same.0 ∙ moves.1 in
    let step : goes.0 ≡ moves.0 = cc in
    let all = begins terms reads.0 rest more packets others (Some goes.0) s t reads.2
    (subst (λ (mid : List ℕ). ReadsAll down_at mid others more) (sym same.1) also.2) goes.2
    (ap (λ (x : Stage W). after_packets terms (Some x) others) step ∙ moves.2) end in
    one_before packet other packets others same.0 all

-- What a call followed, with any end, begins the match of its bytes.
pub followed_begins :
    {W : Type 0} (terms : Terms W) (old new : SourceState) (before after : SinkState)
    (answer : PlayEnd) (client frames : ℕ) (sim : Option W) (whole : WholeMatch W)
    (plays : PlaysAs terms old new before after answer client frames sim) →
    IsWholeMatch terms plays.plays.link.taken whole →
    (later : List Down) × (whole.packets ≡ plays.plays.packets ++ later)
followed_begins {W = W} terms old new before after answer client frames sim whole plays is =
    let bytes = plays.plays.link.taken in
    let all : take MAX_PLAY_BYTES bytes ≡ bytes =
    take_all MAX_PLAY_BYTES bytes plays.plays.link.few in
    begins terms bytes plays.plays.link.rest is.rest plays.plays.packets whole.packets None
    plays.plays.now whole.now plays.plays.link.reads
    (subst (λ (b : List ℕ). ReadsAll down_at b whole.packets is.rest) all is.reads)
    plays.plays.follows is.follows
    (is_at_end terms (length bytes) whole.now is.rest whole.stop is.ends)
