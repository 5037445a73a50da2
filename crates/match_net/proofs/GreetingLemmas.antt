-- What is known while the first packet of a link isn't decided, and what each way out leaves.
use Rattle.std.proofs.Common.{◌≡◌, ℕ, ◌+◌, ◌-◌, ◌≤◌, Bool, true, false, List, [], ◌++◌, length, Option, Some, None, Ok, Err, true≢false, refl, sym, ap, ap₂, subst, ◌∙◌, arith}
use Rattle.std.proofs.lemmas.Bool.{eqb-true}
use Rattle.wire_bytes.specs.Read.{field_at}
use Rattle.std.specs.Prelude.{◌==◌}
use Rattle.std.proofs.lemmas.List.{length-append, append-nil}
use Rattle.base.specs.Cause.{Increased}
use Rattle.game_io.specs.SourceState.{SourceState}
use Rattle.wire_bytes.proofs.FieldLemmas.{field_length}
use Rattle.wire_bytes.specs.Field.{field_bytes}
use Rattle.order_packets.specs.declared.up.Up.{Up}
use Rattle.order_packets.specs.declared.up.Up.TheVariants.{Hello, Orders, Sync, Bye}
use Rattle.order_packets.specs.PacketBytes.{up_payload, framed, up_bytes}
use Rattle.order_packets.specs.PacketReading.{FirstPacket, packet_at, up_at}
use Rattle.order_packets.specs.Feed.{Fed, unfed, more_fed, answer_of}
use Rattle.order_packets.specs.declared.limits.TheConstants.{VERSION}
use Rattle.match_net.specs.declared.limits.TheConstants.{MAX_LINK_BYTES}
use Rattle.match_net.specs.declared.greeting.Greeting.{Greeting}
use Rattle.match_net.specs.declared.greeting.Greeting.TheVariants as greeting
use Rattle.match_net.specs.declared.piece.Piece.TheVariants as piece
use Rattle.match_net.specs.PieceTaking.{Took, Counts, NoneLeft, TookAtMost, TakesPiece}
use Rattle.match_net.specs.Greeting.{greeting_of, decided, decision, asked_once, hello_bytes}
use Rattle.match_net.specs.Greeting.{IsGreeted, Greets}
use Rattle.match_net.proofs.PieceTakingLemmas.{took_nothing, took_more, counts_more}

-- So many turns took and counted bytes that decide nothing yet, and the feeder was fed these.
pub record Waiting (old now : SourceState) (from count : ℕ) (fed : Fed) (turn : ℕ) : Type 0 where
  pub bytes : List ℕ
  pub fed_is : fed ≡ more_fed None unfed bytes
  pub took : Took old.left now.left bytes
  pub counted : Counts from count bytes
  pub later : old.faults ≤ now.faults
  pub undecided : packet_at up_at bytes ≡ Ok None
  pub few : length bytes ≤ 257
  pub turns : turn ≤ length bytes

-- A whole packet's answer: never a fault, an end or a loss.
abbrev pub IsAnswer : Greeting → Type 0
IsAnswer greeting.Welcome = Unit {0}
IsAnswer (greeting.Refuse code) = (1 ≤ code) × (code ≤ 3)
IsAnswer (greeting.Fault fault) = ⊥
IsAnswer greeting.Ended = ⊥
IsAnswer greeting.Lost = ⊥

hello_is_answered :
    (here version rules : ℕ) (right same : Bool) → (version == VERSION) ≡ right →
    (rules == here) ≡ same → IsAnswer (greeting_of here (Hello version rules))
hello_is_answered here version rules true true is also = rw (is, also) tt
hello_is_answered here version rules true false is also = rw (is, also) (omega arith, omega arith)
hello_is_answered here version rules false same is also = rw is (omega arith, omega arith)

is_answered : (here : ℕ) (packet : Up) → IsAnswer (greeting_of here packet)
is_answered here (Hello version rules) =
    hello_is_answered here version rules (version == VERSION) (rules == here) refl refl
is_answered here (Orders frame orders) = (omega arith, omega arith)
is_answered here (Sync frame hash) = (omega arith, omega arith)
is_answered here Bye = (omega arith, omega arith)

abbrev is_welcome : Greeting → Bool
is_welcome greeting.Welcome = true
is_welcome (greeting.Refuse code) = false
is_welcome (greeting.Fault fault) = false
is_welcome greeting.Ended = false
is_welcome greeting.Lost = false

no_welcome : (answer : Greeting) → is_welcome answer ≡ false → answer ≡ greeting.Welcome → ⊥
no_welcome answer other is = true≢false (sym (ap is_welcome is) ∙ other)

pub hello_length : (version rules : ℕ) → length (up_bytes (Hello version rules)) ≡ 13
unfolding up_payload framed
hello_length version rules =
    let fields = field_bytes 2 version ++ field_bytes 8 rules in
    let payload = field_bytes 1 1 ++ fields in
    let inner = length-append (field_bytes 2 version) (field_bytes 8 rules) in
    let outer = length-append (field_bytes 1 1) fields in
    let whole = length-append (field_bytes 2 (length payload)) payload in
    omega (arith, inner, outer, whole, field_length 1 1, field_length 2 version, field_length 8 rules, field_length 2 (length payload))

-- A packet that is welcomed is the greeting.
is_welcome_hello :
    (here version rules : ℕ) (right same : Bool) → (version == VERSION) ≡ right →
    (rules == here) ≡ same → greeting_of here (Hello version rules) ≡ greeting.Welcome →
    Hello version rules ≡ Hello VERSION here
is_welcome_hello here version rules true true is also welcome =
    ap₂ Hello (eqb-true version VERSION is) (eqb-true rules here also)
is_welcome_hello here version rules true false is also welcome =
    absurd (no_welcome (greeting_of here (Hello version rules)) (rw (is, also) refl) welcome)
is_welcome_hello here version rules false same is also welcome =
    absurd (no_welcome (greeting_of here (Hello version rules)) (rw is refl) welcome)

pub welcome_is_hello : (here : ℕ) (packet : Up) → greeting_of here packet ≡ greeting.Welcome →
    packet ≡ Hello VERSION here
welcome_is_hello here (Hello version rules) welcome =
    is_welcome_hello here version rules (version == VERSION) (rules == here) refl refl welcome
welcome_is_hello here (Orders frame orders) welcome = absurd (no_welcome (greeting_of here (Orders frame orders)) refl welcome)
welcome_is_hello here (Sync frame hash) welcome = absurd (no_welcome (greeting_of here (Sync frame hash)) refl welcome)
welcome_is_hello here Bye welcome = absurd (no_welcome (greeting_of here Bye) refl welcome)

-- Before the first turn.
pub waiting_first : (state : SourceState) (count : ℕ) → Waiting state state count count unfed 0
unfolding packet_at field_at
waiting_first state count =
    record {
      bytes = [];
      fed_is = refl;
      took = took_nothing state.left;
      counted = omega arith;
      later = omega arith;
      undecided = refl;
      few = omega arith;
      turns = omega arith;
    }

-- What an answer leaves, by what the bytes begin with.
greeted_by :
    (here : ℕ) (bytes : List ℕ) (last : Fed) (left : Option (List ℕ)) (first : FirstPacket Up) (answer : Greeting) →
    length bytes ≤ MAX_LINK_BYTES → Some answer ≡ decided here first →
    last ≡ (answer_of (more_fed None unfed bytes) first).1 →
    (answer ≡ greeting.Welcome → bytes ≡ hello_bytes here ++ last.rest) →
    IsGreeted answer last left
greeted_by here bytes last left (Ok None) answer few is after hello = absurd cc
greeted_by here bytes last left (Err fault) answer few is after hello =
    let same : answer ≡ greeting.Fault fault = cc in
    subst (λ (a : Greeting). IsGreeted a last left) (sym same) (ap (λ (f : Fed). f.fault) after)
greeted_by here bytes last left (Ok (Some first)) answer few is after hello =
    let same : answer ≡ greeting_of here first.0 = cc in
    whole here bytes last left first.0 first.1 answer few after (subst IsAnswer (sym same) (is_answered here first.0)) hello
  where
    whole :
        (here : ℕ) (bytes : List ℕ) (last : Fed) (left : Option (List ℕ)) (packet : Up) (rest : List ℕ) (answer : Greeting) →
        length bytes ≤ MAX_LINK_BYTES →
        last ≡ (answer_of (more_fed None unfed bytes) (Ok (Some (packet, rest)))).1 → IsAnswer answer →
        (answer ≡ greeting.Welcome → bytes ≡ hello_bytes here ++ last.rest) →
        IsGreeted answer last left
    whole here bytes last left packet rest greeting.Welcome few after answered hello =
        let long : length bytes ≡ 13 + length last.rest =
        ap length (hello refl) ∙ length-append (hello_bytes here) last.rest ∙ ap (λ n. n + length last.rest) (hello_length VERSION here) in
        let place : last.at ≡ 0 + (length bytes - length rest) = ap (λ (f : Fed). f.at) after in
        let rest_is : last.rest ≡ rest = ap (λ (f : Fed). f.rest) after in
        let size : length last.rest ≡ length rest = ap length rest_is in
        (omega (arith, long, place, size), ap (λ (f : Fed). f.fault) after, omega (arith, long, few))
    whole here bytes last left packet rest (greeting.Refuse code) few after answered hello = answered
    whole here bytes last left packet rest (greeting.Fault fault) few after answered hello = absurd answered
    whole here bytes last left packet rest greeting.Ended few after answered hello = absurd answered
    whole here bytes last left packet rest greeting.Lost few after answered hello = absurd answered

-- A turn that decided nothing.
pub waiting_more :
    (here room turn : ℕ) (old mid new : SourceState) (from count total : ℕ) (fed after last : Fed) →
    Waiting old mid from count fed turn → (takes : TakesPiece room mid new fed after piece.Some) → Counts count total takes.taken →
    None ≡ decided here (packet_at up_at after.rest) →
    last ≡ (answer_of after (packet_at up_at after.rest)).1 → length last.rest ≤ 257 →
    Waiting old new from total last (turn + 1)
waiting_more here room turn old mid new from count total fed after last so_far takes counted is asked few =
    let bytes = so_far.bytes ++ takes.taken in
    let after_is : after ≡ more_fed None unfed bytes = takes.fed ∙ ap (λ (f : Fed). more_fed f.fault f takes.taken) so_far.fed_is in
    let rest_is : after.rest ≡ bytes = ap (λ (f : Fed). f.rest) after_is in
    let undecided : packet_at up_at bytes ≡ Ok None = nothing_decided here (packet_at up_at bytes) (is ∙ ap (λ (b : List ℕ). decided here (packet_at up_at b)) rest_is) in
    let last_is : last ≡ more_fed None unfed bytes =
    asked ∙ ap (λ (f : Fed). (answer_of f (packet_at up_at f.rest)).1) after_is ∙ ap (λ (first : FirstPacket Up). (answer_of (more_fed None unfed bytes) first).1) undecided in
    record {
      bytes = bytes;
      fed_is = last_is;
      took = took_more old.left mid.left new.left so_far.bytes takes.taken so_far.took takes.took;
      counted = counts_more from count total so_far.bytes takes.taken so_far.counted counted;
      later = omega (arith, so_far.later, takes.later);
      undecided = undecided;
      few = subst (λ (f : Fed). length f.rest ≤ 257) last_is few;
      turns = omega (arith, so_far.turns, takes.means, length-append so_far.bytes takes.taken);
    }
  where
    nothing_decided : (here : ℕ) (first : FirstPacket Up) → None ≡ decided here first → first ≡ Ok None
    nothing_decided here (Ok None) is = refl
    nothing_decided here (Ok (Some first)) is = absurd cc
    nothing_decided here (Err fault) is = absurd cc

-- A turn that decided.
pub greets_decided :
    (here room turn : ℕ) (old mid new : SourceState) (from count total : ℕ) (fed after last : Fed) (answer : Greeting) →
    room ≤ MAX_LINK_BYTES - 258 → Waiting old mid from count fed turn →
    (takes : TakesPiece room mid new fed after piece.Some) → Counts count total takes.taken →
    Some answer ≡ decided here (packet_at up_at after.rest) →
    last ≡ (answer_of after (packet_at up_at after.rest)).1 →
    (Some answer ≡ Some greeting.Welcome → after.rest ≡ hello_bytes here ++ last.rest) →
    (greets : Greets here old new last answer) × Counts from total greets.taken
greets_decided here room turn old mid new from count total fed after last answer small so_far takes counted is asked hello =
    let bytes = so_far.bytes ++ takes.taken in
    let after_is : after ≡ more_fed None unfed bytes = takes.fed ∙ ap (λ (f : Fed). more_fed f.fault f takes.taken) so_far.fed_is in
    let rest_is : after.rest ≡ bytes = ap (λ (f : Fed). f.rest) after_is in
    let is_so : Some answer ≡ decided here (packet_at up_at bytes) = is ∙ ap (λ (b : List ℕ). decided here (packet_at up_at b)) rest_is in
    let last_is : last ≡ asked_once bytes = asked ∙ ap (λ (f : Fed). (answer_of f (packet_at up_at f.rest)).1) after_is in
    let few : length bytes ≤ MAX_LINK_BYTES = omega (arith, small, so_far.few, takes.few, length-append so_far.bytes takes.taken) in
    let hello_so : answer ≡ greeting.Welcome → bytes ≡ hello_bytes here ++ last.rest = λ w. sym rest_is ∙ hello (ap Some w) in
    let whole = decided_whole here (packet_at up_at bytes) answer is_so in (
      record {
        taken = bytes;
        few = few;
        took = took_more old.left mid.left new.left so_far.bytes takes.taken so_far.took takes.took;
        later = omega (arith, so_far.later, takes.later);
        decides = sym is_so ∙ whole.0;
        until = record { before = so_far.bytes; last = takes.taken; joined = refl; undecided = so_far.undecided; short = takes.short };
        fed_so = last_is;
        welcomed = hello_so;
        ended = λ e. absurd (whole.1 e);
        lost = λ e. absurd (whole.2 e);
        leaves = greeted_by here bytes last new.left (packet_at up_at bytes) answer few is_so last_is hello_so;
      },
      counts_more from count total so_far.bytes takes.taken so_far.counted counted,
    )
  where
    by_answer : (answer : Greeting) → IsAnswer answer →
        (Some answer ≡ decision answer) × (answer ≡ greeting.Ended → ⊥) × (answer ≡ greeting.Lost → ⊥)
    by_answer greeting.Welcome is = (refl, λ e. absurd cc, λ e. absurd cc)
    by_answer (greeting.Refuse code) is = (refl, λ e. absurd cc, λ e. absurd cc)
    by_answer (greeting.Fault fault) is = absurd is
    by_answer greeting.Ended is = absurd is
    by_answer greeting.Lost is = absurd is

    decided_whole : (here : ℕ) (first : FirstPacket Up) (answer : Greeting) → Some answer ≡ decided here first →
        (Some answer ≡ decision answer) × (answer ≡ greeting.Ended → ⊥) × (answer ≡ greeting.Lost → ⊥)
    decided_whole here (Ok None) answer is = absurd cc
    decided_whole here (Err fault) answer is =
        let same : answer ≡ greeting.Fault fault = cc in
        rw same (refl, λ e. absurd cc, λ e. absurd cc)
    decided_whole here (Ok (Some first)) answer is =
        let same : answer ≡ greeting_of here first.0 = cc in
        by_answer answer (subst IsAnswer (sym same) (is_answered here first.0))

-- A turn in which the bytes ended or the link failed.
greets_undecided :
    (here turn : ℕ) (old mid new : SourceState) (from count total : ℕ) (fed after : Fed) (taken : List ℕ) (answer : Greeting) →
    Waiting old mid from count fed turn → taken ≡ [] → Took mid.left new.left taken → Counts count total taken → mid.faults ≤ new.faults →
    after ≡ more_fed fed.fault fed taken → None ≡ decision answer →
    (answer ≡ greeting.Ended → NoneLeft new.left) → (answer ≡ greeting.Lost → Increased mid.faults new.faults) →
    (greets : Greets here old new after answer) × Counts from total greets.taken
greets_undecided here turn old mid new from count total fed after taken answer so_far none took counted later is_fed undecided ended lost =
    let bytes = so_far.bytes in
    let all : bytes ++ taken ≡ bytes = ap (λ (t : List ℕ). bytes ++ t) none ∙ append-nil bytes in
    let after_is : after ≡ more_fed None unfed bytes =
    is_fed ∙ ap (λ (f : Fed). more_fed f.fault f taken) so_far.fed_is ∙ ap (λ (b : List ℕ). more_fed None unfed b) all in (
      record {
        taken = bytes;
        few = omega (arith, so_far.few);
        took = subst (λ (b : List ℕ). Took old.left new.left b) all (took_more old.left mid.left new.left bytes taken so_far.took took);
        later = omega (arith, so_far.later, later);
        decides = rw so_far.undecided undecided;
        until = record { before = bytes; last = []; joined = sym (append-nil bytes); undecided = so_far.undecided; short = omega arith };
        fed_so = after_is ∙ sym (ap (λ (first : FirstPacket Up). (answer_of (more_fed None unfed bytes) first).1) so_far.undecided);
        welcomed = λ e. absurd (by_welcome answer undecided e);
        ended = ended;
        lost = λ e. rose (lost e);
        leaves = leaves answer undecided ended;
      },
      let none_more = ap length none in omega (arith, so_far.counted, counted, none_more),
    )
  where
    by_welcome : (answer : Greeting) → None ≡ decision answer → answer ≡ greeting.Welcome → ⊥
    by_welcome answer undecided is = absurd cc

    rose : Increased mid.faults new.faults → Increased old.faults new.faults
    rose up = let before = so_far.later in omega (arith, before, up)

    leaves : (answer : Greeting) → None ≡ decision answer → (answer ≡ greeting.Ended → NoneLeft new.left) → IsGreeted answer after new.left
    leaves greeting.Welcome undecided ended = absurd cc
    leaves (greeting.Refuse code) undecided ended = absurd cc
    leaves (greeting.Fault fault) undecided ended = absurd cc
    leaves greeting.Ended undecided ended = ended refl
    leaves greeting.Lost undecided ended = tt

pub greets_ended :
    (here room turn : ℕ) (old mid new : SourceState) (from count total : ℕ) (fed after : Fed) → Waiting old mid from count fed turn →
    (takes : TakesPiece room mid new fed after piece.End) → Counts count total takes.taken →
    (greets : Greets here old new after greeting.Ended) × Counts from total greets.taken
greets_ended here room turn old mid new from count total fed after so_far takes counted =
    greets_undecided here turn old mid new from count total fed after takes.taken greeting.Ended so_far takes.means.0 takes.took counted takes.later takes.fed refl (λ e. takes.means.1) (λ e. absurd cc)

pub greets_lost :
    (here room turn : ℕ) (old mid new : SourceState) (from count total : ℕ) (fed after : Fed) → Waiting old mid from count fed turn →
    (takes : TakesPiece room mid new fed after piece.Lost) → Counts count total takes.taken →
    (greets : Greets here old new after greeting.Lost) × Counts from total greets.taken
greets_lost here room turn old mid new from count total fed after so_far takes counted =
    greets_undecided here turn old mid new from count total fed after takes.taken greeting.Lost so_far takes.means.0 takes.took counted takes.later takes.fed refl (λ e. absurd cc) (λ e. takes.means.1)

-- Out of memory.
pub spilled :
    (room turn : ℕ) (old mid new : SourceState) (from count total : ℕ) (fed : Fed) → room ≤ MAX_LINK_BYTES - 258 →
    Waiting old mid from count fed turn → (took : TookAtMost room mid new) → Counts count total took.taken →
    (all : TookAtMost MAX_LINK_BYTES old new) × Counts from total all.taken
spilled room turn old mid new from count total fed small so_far took counted = (
  record {
    taken = so_far.bytes ++ took.taken;
    few = omega (arith, small, so_far.few, took.few, length-append so_far.bytes took.taken);
    took = took_more old.left mid.left new.left so_far.bytes took.taken so_far.took took.took;
    later = omega (arith, so_far.later, took.later);
  },
  counts_more from count total so_far.bytes took.taken so_far.counted counted,
)
