-- What a stream begins with, however it goes on.
use Rattle.std.specs.Prelude.{◌≡◌, ◌⊎◌, ℕ, nat_lt, true, false, List, [], ◌∷◌, ◌++◌}
use Rattle.std.specs.Prelude.{length, take, drop, Some, None, Result, Ok, Err}
use Rattle.std.proofs.Common.{refl, sym, ap, ap₂, subst, ◌∙◌, arith, inl, inr}
use Rattle.std.proofs.lemmas.Bool.{le-ltb, lt-ltb, cases_lt}
use Rattle.std.proofs.lemmas.List.{take-append-le, drop-append-le, length-append}
use Rattle.base.specs.Steps.{◌>>=◌}
use Rattle.wire_bytes.specs.Field.{field_number}
use Rattle.wire_bytes.proofs.FieldLemmas.{field_of_prefix}
use Rattle.wire_bytes.specs.Read.{field_at}
use Rattle.order_packets.specs.declared.feed_fault.FeedFault.{FeedFault}
use Rattle.order_packets.specs.declared.limits.TheConstants.{MAX_PAYLOAD}
use Rattle.order_packets.specs.PacketReading.{PacketRead, FirstPacket, payload_at, sized_at}
use Rattle.order_packets.specs.PacketReading.{packet_at}
use Rattle.order_packets.proofs.PacketLemmas.{same_first}
use Rattle.order_packets.specs.Feed.{ReadsAll, IsEnd}

-- What a stream begins with, with more bytes at its end.
abbrev pub extended : {P : Type 0} → List ℕ → FirstPacket P → FirstPacket P
extended more (Ok (Some first)) = Ok (Some (first.0, first.1 ++ more))
extended more (Ok None) = Ok None
extended more (Err fault) = Err fault

-- It stays, or the stream was open.
abbrev pub Stays : {P : Type 0} → List ℕ → (before after : FirstPacket P) → Type 0
Stays more before after = (after ≡ extended more before) ⊎ (before ≡ Ok None)

found_stays :
    {P : Type 0} (read : Result P FeedFault) (rest more : List ℕ) →
    (read >>= λ packet. Ok (Some (packet, rest ++ more)))
    ≡ extended more (read >>= λ packet. Ok (Some (packet, rest)))
found_stays (Ok packet) rest more = refl
found_stays (Err fault) rest more = refl

sized_stays :
    {P : Type 0} (at : List ℕ → PacketRead P) (size : ℕ) (bytes more : List ℕ) →
    Stays more (sized_at at size bytes) (sized_at at size (bytes ++ more))
unfolding sized_at
sized_stays at size bytes more =
    elim (cases_lt MAX_PAYLOAD size) [
      | inl large ↦
          let too_large : nat_lt MAX_PAYLOAD size ≡ true = lt-ltb MAX_PAYLOAD size large in
          inl (rw too_large refl)
      | inr small ↦
          let fits : nat_lt MAX_PAYLOAD size ≡ false = le-ltb MAX_PAYLOAD size small in
          elim (cases_lt (length bytes) size) [
            | inl few ↦
                let open_still : nat_lt (length bytes) size ≡ true =
                lt-ltb (length bytes) size few in
                inr (rw (fits, open_still) refl)
            | inr enough ↦
                let whole : nat_lt (length bytes) size ≡ false =
                le-ltb (length bytes) size enough in
                let longer : nat_lt (length (bytes ++ more)) size ≡ false =
                le-ltb (length (bytes ++ more)) size
                (omega (arith, length-append bytes more, enough)) in
                inl (rw (
                  fits,
                  whole,
                  longer,
                  take-append-le size bytes more enough,
                  drop-append-le size bytes more enough,
                )
                (found_stays (payload_at at (take size bytes)) (drop size bytes) more))
          ]
    ]

pub first_stays :
    {P : Type 0} (at : List ℕ → PacketRead P) (bytes more : List ℕ) →
    Stays more (packet_at at bytes) (packet_at at (bytes ++ more))
unfolding packet_at field_at
first_stays at bytes more =
    elim (cases_lt (length bytes) 2) [
      | inl few ↦
          let short : nat_lt (length bytes) 2 ≡ true = lt-ltb (length bytes) 2 few in
          inr (rw short refl)
      | inr enough ↦
          let whole : nat_lt (length bytes) 2 ≡ false = le-ltb (length bytes) 2 enough in
          let longer : nat_lt (length (bytes ++ more)) 2 ≡ false =
          le-ltb (length (bytes ++ more)) 2 (omega (arith, length-append bytes more, enough)) in
          rw (
            whole,
            longer,
            field_of_prefix 2 bytes more enough,
            drop-append-le 2 bytes more enough,
          )
          (sized_stays at (field_number 2 bytes) (drop 2 bytes) more)
    ]

-- A packet stays.
pub packet_stays :
    {P : Type 0} (at : List ℕ → PacketRead P) (bytes more rest : List ℕ) (packet : P) →
    packet_at at bytes ≡ Ok (Some (packet, rest)) →
    packet_at at (bytes ++ more) ≡ Ok (Some (packet, rest ++ more))
packet_stays at bytes more rest packet is =
    elim (first_stays at bytes more) [
      | inl stays ↦ stays ∙ ap (extended more) is
      | inr opened ↦ absurd cc
    ]

-- A fault stays.
pub fault_stays :
    {P : Type 0} (at : List ℕ → PacketRead P) (bytes more : List ℕ) (fault : FeedFault) →
    packet_at at bytes ≡ Err fault → packet_at at (bytes ++ more) ≡ Err fault
fault_stays at bytes more fault is =
    elim (first_stays at bytes more) [
      | inl stays ↦ stays ∙ ap (extended more) is
      | inr opened ↦ absurd cc
    ]

-- All packets that were read stay.
pub all_stay :
    {P : Type 0} (at : List ℕ → PacketRead P) (bytes more rest : List ℕ) (packets : List P) →
    ReadsAll at bytes packets rest → ReadsAll at (bytes ++ more) packets (rest ++ more)
all_stay at bytes more rest [] reads = ap (λ (all : List ℕ). all ++ more) reads
all_stay at bytes more rest (packet ∷ others) reads = (
  reads.0 ++ more,
  packet_stays at bytes more reads.0 packet reads.1,
  all_stay at reads.0 more rest others reads.2,
)

-- One packet more was read.
pub one_more :
    {P : Type 0} (at : List ℕ → PacketRead P) (bytes rest after : List ℕ) (packets : List P)
    (packet : P) → ReadsAll at bytes packets rest →
    packet_at at rest ≡ Ok (Some (packet, after)) →
    ReadsAll at bytes (packets ++ packet ∷ []) after
one_more at bytes rest after [] packet reads is =
    (after, ap (packet_at at) reads ∙ is, refl)
one_more at bytes rest after (first ∷ packets) packet reads is =
    (reads.0, reads.1, one_more at reads.0 rest after packets packet reads.2 is)

no_end :
    {P : Type 0} (at : List ℕ → PacketRead P) (bytes rest mid : List ℕ) (packet : P) →
    bytes ≡ rest → packet_at at bytes ≡ Ok (Some (packet, mid)) → IsEnd (packet_at at rest) → ⊥
no_end at bytes rest mid packet same is ends =
    subst IsEnd (ap (packet_at at) (sym same) ∙ is) ends

-- The same bytes, read to an end, give the same packets and leave the same rest.
pub one_reading :
    {P : Type 0} (at : List ℕ → PacketRead P) (bytes rest more : List ℕ)
    (packets others : List P) → ReadsAll at bytes packets rest → ReadsAll at bytes others more →
    IsEnd (packet_at at rest) → IsEnd (packet_at at more) →
    (packets ≡ others) × (rest ≡ more)
one_reading at bytes rest more [] [] reads also ends too = (refl, sym reads ∙ also)
one_reading at bytes rest more [] (other ∷ others) reads also ends too =
    absurd (no_end at bytes rest also.0 other reads also.1 ends)
one_reading at bytes rest more (packet ∷ packets) [] reads also ends too =
    absurd (no_end at bytes more reads.0 packet also reads.1 too)
one_reading {P = P} at bytes rest more (packet ∷ packets) (other ∷ others) reads also ends too =
    let first = same_first packet other reads.0 also.0 (packet_at at bytes) reads.1 also.1 in
    let later = one_reading at reads.0 rest more packets others reads.2
    (subst (λ (mid : List ℕ). ReadsAll at mid others more) (sym first.1) also.2) ends too in
    (ap₂ (λ (p : P) (ps : List P). p ∷ ps) first.0 later.0, later.1)
