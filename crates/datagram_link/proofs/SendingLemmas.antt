-- Datagrams that are sent one after another.
use Rattle.std.proofs.Common.{◌≡◌, ℕ, zero, suc, ◌+◌, ◌<◌, ◌≤◌, List, [], ◌∷◌, ◌++◌, length, take, drop}
use Rattle.std.proofs.Common.{Option, None, Some, Result, Ok, Err, refl, sym, ap, subst, ◌∙◌, arith}
use Rattle.std.proofs.Common.{append_assoc, append-nil, take-append-drop, inr, length-take}
use Rattle.std.specs.Prelude.{slice_index_or, IfSome}
use Rattle.std.specs.Option.{option_map}
use Rattle.std.proofs.lemmas.List.{take_more, drop_more, take_all}
use Rattle.base.specs.Cause.{Increased}
use Rattle.datagram_link.specs.declared.end.End.{End}
use Rattle.datagram_link.specs.declared.turn.Turn.{Turn}
use Rattle.datagram_link.specs.declared.turn_fault.TurnFault.{TurnFault}
use Rattle.datagram_link.specs.declared.turn_fault.TurnFault.TheVariants.{Failed, NoMemory}
use Rattle.datagram_link.specs.Grams.{data_bytes, data_grams}
use Rattle.datagram_link.specs.declared.limits.TheConstants.{RECEIVE_ROOM}
use Rattle.datagram_link.specs.PostState.{Held, PostState, SentPrefix, with_sent, without_first}
use Rattle.datagram_link.specs.PostState.{first_waiting}
use Rattle.datagram_link.specs.Turning.{Turned, Does, SendsAll, Turns, turned, received}

-- ---- what is sent in parts

sent_nothing : (held : Option Held) → held ≡ option_map (with_sent []) held
sent_nothing None = refl
sent_nothing (Some held) =
    ap (λ (sent : List (List ℕ)). Some (record { waiting = held.waiting; sent = sent }))
    (sym (append-nil held.sent))

sent_after :
    (first second : List (List ℕ)) (held : Option Held) →
    option_map (with_sent second) (option_map (with_sent first) held)
    ≡ option_map (with_sent (first ++ second)) held
sent_after first second None = refl
sent_after first second (Some held) =
    ap (λ (sent : List (List ℕ)). Some (record { waiting = held.waiting; sent = sent }))
    (append_assoc held.sent first second)

-- Nothing of what is to be sent.
pub prefix_none :
    (old new : Option Held) (grams : List (List ℕ)) → new ≡ old → SentPrefix old new grams
prefix_none old new grams same =
    record { prefix = []; rest = grams; whole = refl; sent = same ∙ sent_nothing old }

-- ---- the datagrams of payloads

pub grams_length :
    (first : ℕ) (payloads : List (List ℕ)) → length (data_grams first payloads) ≡ length payloads
grams_length first [] = refl
grams_length first (payload ∷ payloads) = ap (λ (n : ℕ). suc n) (grams_length (first + 1) payloads)

pub grams_get :
    (first : ℕ) (payloads : List (List ℕ)) (i : ℕ) → i < length payloads →
    slice_index_or (data_grams first payloads) i []
    ≡ data_bytes (first + i) (slice_index_or payloads i [])
grams_get first [] i within = absurd (omega arith)
grams_get first (payload ∷ payloads) zero within =
    ap (λ (number : ℕ). data_bytes number payload) (omega arith)
grams_get first (payload ∷ payloads) (suc i) within =
    grams_get (first + 1) payloads i (omega arith)
    ∙ ap (λ (number : ℕ). data_bytes number (slice_index_or payloads i [])) (omega arith)

-- ---- the loop

-- The first i of these datagrams were sent.
abbrev pub SentFirst : List (List ℕ) → ℕ → (old now : Option Held) → Type 0
SentFirst grams i old now = now ≡ option_map (with_sent (take i grams)) old

pub first_none : (grams : List (List ℕ)) (old : Option Held) → SentFirst grams 0 old old
first_none grams old = sent_nothing old

pub first_more :
    (grams : List (List ℕ)) (i : ℕ) (gram : List ℕ) (old mid new : Option Held) →
    i < length grams → slice_index_or grams i [] ≡ gram → SentFirst grams i old mid →
    new ≡ option_map (with_sent (gram ∷ [])) mid → SentFirst grams (i + 1) old new
first_more grams i gram old mid new within is sent more =
    more ∙ ap (option_map (with_sent (gram ∷ []))) sent
    ∙ sent_after (take i grams) (gram ∷ []) old
    ∙ ap (λ (sends : List (List ℕ)). option_map (with_sent sends) old)
    (ap (λ (g : List ℕ). take i grams ++ g ∷ []) (sym is) ∙ sym (take_more grams i [] within))

pub first_all :
    (grams : List (List ℕ)) (i : ℕ) (old new : Option Held) → length grams ≤ i →
    SentFirst grams i old new → new ≡ option_map (with_sent grams) old
first_all grams i old new all sent =
    sent ∙ ap (λ (sends : List (List ℕ)). option_map (with_sent sends) old) (take_all i grams all)

-- The next of them was not sent, or only a prefix of it alone.
pub first_cut :
    (grams : List (List ℕ)) (i : ℕ) (gram : List ℕ) (old mid new : Option Held) →
    i < length grams → slice_index_or grams i [] ≡ gram → SentFirst grams i old mid →
    SentPrefix mid new (gram ∷ []) → SentPrefix old new grams
first_cut grams i gram old mid new within is sent cut =
    record {
      prefix = take i grams ++ cut.prefix;
      rest = cut.rest ++ drop (i + 1) grams;
      whole =
          append_assoc (take i grams) cut.prefix (cut.rest ++ drop (i + 1) grams)
          ∙ ap (λ (part : List (List ℕ)). take i grams ++ part)
          (sym (append_assoc cut.prefix cut.rest (drop (i + 1) grams))
          ∙ ap (λ (part : List (List ℕ)). part ++ drop (i + 1) grams) cut.whole
          ∙ ap (λ (g : List ℕ). g ∷ drop (i + 1) grams) (sym is)
          ∙ sym (drop_more grams i [] within))
          ∙ take-append-drop i grams;
      sent =
          cut.sent ∙ ap (option_map (with_sent cut.prefix)) sent
          ∙ sent_after (take i grams) cut.prefix old;
    }

rose_earlier : (a b c : ℕ) → a ≤ b → Increased b c → Increased a c
rose_earlier a b c later rose = omega arith

-- A loop that ends with this fault.
pub all_cut :
    (grams : List (List ℕ)) (i : ℕ) (gram : List ℕ) (old mid new : PostState) (fault : TurnFault) →
    i < length grams → slice_index_or grams i [] ≡ gram → SentFirst grams i old.held mid.held →
    old.faults ≤ mid.faults → SendsAll (gram ∷ []) mid new (Err fault) →
    SendsAll grams old new (Err fault)
all_cut grams i gram old mid new Failed within is sent later cut = (
  rose_earlier old.faults mid.faults new.faults later cut.0,
  first_cut grams i gram old.held mid.held new.held within is sent cut.1,
)
all_cut grams i gram old mid new NoMemory within is sent later cut =
    first_cut grams i gram old.held mid.held new.held within is sent cut

-- ---- turns

-- A turn that ends with this fault of what it sends, and changes nothing else.
pub does_cut :
    (t : Turned) (old new : End) (post after : PostState) (fault : TurnFault) → new ≡ old →
    new ≡ t.end → SendsAll t.sends post after (Err fault) → Does t old new post after (Err fault)
does_cut t old new post after Failed same is cut = (cut.0, is, cut.1)
does_cut t old new post after NoMemory same is cut = (same, cut)

-- A turn that went on so after its receive.
does_received :
    (t : Turned) (old new : End) (post mid after : PostState) (result : Result Turn TurnFault) →
    mid.held ≡ (received post).held → post.faults ≤ mid.faults → Does t old new mid after result →
    Does t old new (received post) after result
does_received t old new post mid after (Ok turn) is later does =
    (does.0, does.1, does.2 ∙ ap (option_map (with_sent t.sends)) is)
does_received t old new post mid after (Err Failed) is later does = (
  rose_earlier post.faults mid.faults after.faults later does.0,
  does.1,
  subst (λ (held : Option Held). SentPrefix held after.held t.sends) is does.2,
)
does_received t old new post mid after (Err NoMemory) is later does =
    (does.0, subst (λ (held : Option Held). SentPrefix held after.held t.sends) is does.1)

-- A turn in which bytes came.
pub turn_got :
    (old new : End) (post mid after : PostState) (room : List ℕ) (count : ℕ)
    (result : Result Turn TurnFault) → count ≤ RECEIVE_ROOM →
    IfSome post.held (λ held. Some (take count room) ≡ first_waiting held) →
    mid.held ≡ option_map without_first post.held → post.faults ≤ mid.faults →
    Does (turned old (Some (take count room))) old new mid after result →
    Turns old new post after result
turn_got old new post mid after room count result fits first taken later does =
    inr (
      Some (take count room),
      record { fits = omega (arith, length-take count room); first = first },
      does_received (turned old (Some (take count room))) old new post mid after result taken later does,
    )
