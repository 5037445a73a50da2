-- Entries sent one after another, client by client.
use Rattle.std.proofs.Common.{◌≡◌, ◌≢◌, ℕ, ◌<◌, ◌≤◌, ◌==◌, Bool, true, false, true≢false, List, [], ◌∷◌, ◌++◌, length, Option, Some, None, Result, Ok, Err, refl, sym, ap, subst, ◌∙◌, arith, inl, inr, append_assoc, append-nil}
use Rattle.std.specs.Prelude.{slice_set, slice_index_or}
use Rattle.std.proofs.lemmas.List.{get_or-set_same, get_or-set_other, length-set}
use Rattle.std.proofs.lemmas.Bool.Decides.{eqb_tells}
use Rattle.base.specs.Written.{Wrote}
use Rattle.base.proofs.WrittenLemmas.{Wrote-nil, Wrote-append, whole_prefix}
use Rattle.game_io.specs.SinkState.{SinkState}
use Rattle.game_orders.specs.declared.entry.Entry.{Entry as one_entry}
use Rattle.frame_core.specs.Column.{Column}
use Rattle.order_packets.specs.declared.down.Down.TheVariants as down
use Rattle.order_packets.specs.PacketBytes.{down_bytes}
use Rattle.frame_table.specs.declared.seen.Seen.{Seen}
use Rattle.frame_table.specs.declared.view.View.{View}
use Rattle.frame_table.specs.Part.{Part, part_of, OthersStay}
use Rattle.match_net.specs.declared.sender_end.SenderEnd.{SenderEnd}
use Rattle.match_net.specs.declared.sender_end.SenderEnd.TheVariants as sent
use Rattle.match_net.specs.Sending.{At, entries_bytes, of_client, entries_of, SentColumn, SentSoFar, nothing_sent, Looks, LooksAtAll, NextMeans, SendsNext, Sending, SendsTo, AfterSend, EndsIfAll}
use Rattle.match_net.proofs.SendingLemmas.{of_client_other, looks_on, looks_still, sent_column}

-- One packet more.
bytes_more : (entries : List At) (at : At) →
    entries_bytes (entries ++ at ∷ []) ≡ entries_bytes entries ++ down_bytes (down.Entry at.client at.frame at.entry)
bytes_more [] at = append-nil (down_bytes (down.Entry at.client at.frame at.entry))
bytes_more (first ∷ entries) at =
    ap (λ (b : List ℕ). down_bytes (down.Entry first.client first.frame first.entry) ++ b) (bytes_more entries at)
    ∙ sym (append_assoc (down_bytes (down.Entry first.client first.frame first.entry)) (entries_bytes entries) (down_bytes (down.Entry at.client at.frame at.entry)))

all_more : (welcome : List ℕ) (entries : List At) (at : At) →
    (welcome ++ entries_bytes entries) ++ down_bytes (down.Entry at.client at.frame at.entry) ≡ welcome ++ entries_bytes (entries ++ at ∷ [])
all_more welcome entries at =
    append_assoc welcome (entries_bytes entries) (down_bytes (down.Entry at.client at.frame at.entry))
    ∙ ap (λ (b : List ℕ). welcome ++ b) (sym (bytes_more entries at))

-- All columns after a step at one of them.
looks_all : (c : ℕ) (before view after : View) → LooksAtAll before view → OthersStay c view after → Looks (part_of c view) (part_of c after) → LooksAtAll before after
looks_all c before view after first others looks =
    record {
      share = others.0 ∙ first.share;
      marks = others.1 ∙ first.marks;
      parts = λ d. looks_on (part_of d before) (part_of d view) (part_of d after) (first.parts d) (at d);
    }
  where
    at : (d : ℕ) → Looks (part_of d view) (part_of d after)
    at d =
        elim (eqb_tells d c) [
          | inl same ↦ subst (λ (x : ℕ). Looks (part_of x view) (part_of x after)) (sym same.1) looks
          | inr differ ↦ subst (λ (p : Part). Looks (part_of d view) p) (sym (others.2 d differ.1)) (looks_still (part_of d view))
        ]

-- The other columns, after an entry of column c.
other_sent : (c d n : ℕ) (e : one_entry) (entries : List At) (view after : View) (counts : List Seen) (count : Seen) →
    d ≢ c → OthersStay c view after → SentSoFar d entries (part_of d view).known (slice_index_or counts d nothing_sent) →
    SentSoFar d (entries ++ record { client = c; frame = n; entry = e } ∷ []) (part_of d after).known (slice_index_or (slice_set counts c count) d nothing_sent)
other_sent c d n e entries view after counts count differ others so_far =
    subst (λ (k : Seen). SentSoFar d (entries ++ record { client = c; frame = n; entry = e } ∷ []) (part_of d after).known k) (sym (get_or-set_other counts c d count nothing_sent differ))
    (subst (λ (p : Part). SentSoFar d (entries ++ record { client = c; frame = n; entry = e } ∷ []) p.known (slice_index_or counts d nothing_sent)) (sym (others.2 d differ))
    (record {
      column = so_far.column;
      is = of_client_other d c n e entries (apart c d differ) ∙ so_far.is;
      begins = so_far.begins;
      plays = so_far.plays;
      left = so_far.left;
    }))
  where
    apart : (c d : ℕ) → d ≢ c → (c == d) ≡ false
    apart c d differ = elim (eqb_tells c d) [ inl same ↦ absurd (differ (sym same.1)) | inr other ↦ other.0 ]

other_still : (c d : ℕ) (entries : List At) (view after : View) (counts : List Seen) (count : Seen) →
    d ≢ c → OthersStay c view after → SentSoFar d entries (part_of d view).known (slice_index_or counts d nothing_sent) →
    SentSoFar d entries (part_of d after).known (slice_index_or (slice_set counts c count) d nothing_sent)
other_still c d entries view after counts count differ others so_far =
    subst (λ (k : Seen). SentSoFar d entries (part_of d after).known k) (sym (get_or-set_other counts c d count nothing_sent differ))
    (subst (λ (p : Part). SentSoFar d entries p.known (slice_index_or counts d nothing_sent)) (sym (others.2 d differ)) so_far)

none_beyond : (clients c n : ℕ) (e : one_entry) (entries : List At) → c < clients → ((d : ℕ) → clients ≤ d → of_client d entries ≡ []) →
    (d : ℕ) → clients ≤ d → of_client d (entries ++ record { client = c; frame = n; entry = e } ∷ []) ≡ []
none_beyond clients c n e entries below none d above =
    of_client_other d c n e entries (apart (omega arith)) ∙ none d above
  where
    apart : c < d → (c == d) ≡ false
    apart less = elim (eqb_tells c d) [ inl same ↦ absurd (let is = same.1 in omega (arith, is, less)) | inr other ↦ other.0 ]

-- After an attempt to send the next entry of column c.
abbrev pub AfterNext : ℕ → List ℕ → SinkState → SinkState → View → View → List Seen → Result Bool SenderEnd → Type 0
AfterNext clients welcome old new before after counts (Ok moved) = Sending clients welcome old new before after counts
AfterNext clients welcome old new before after counts (Err end) = SendsTo clients welcome old new before after end

pub after_next :
    (clients c : ℕ) (welcome : List ℕ) (old now new : SinkState) (before view after : View) (counts : List Seen) (count : Seen) (answer : Result Bool SenderEnd) →
    c < clients → c < length counts → Sending clients welcome old now before view counts →
    SendsNext c now new view after (slice_index_or counts c nothing_sent) count answer →
    AfterNext clients welcome old new before after (slice_set counts c count) answer
after_next clients c welcome old now new before view after counts count answer below there sending next =
    by_answer answer next.later (looks_all c before view after sending.looks next.others next.looks) next.others (next.means sending.entries (sending.each c below))
  where
    here : (entries : List At) → SentSoFar c entries (part_of c after).known count →
        SentSoFar c entries (part_of c after).known (slice_index_or (slice_set counts c count) c nothing_sent)
    here entries so_far = subst (λ (k : Seen). SentSoFar c entries (part_of c after).known k) (sym (get_or-set_same counts c count nothing_sent there)) so_far

    lost_column : (d n : ℕ) (e : one_entry) → d < clients → OthersStay c view after →
        SentColumn c (sending.entries ++ record { client = c; frame = n; entry = e } ∷ []) (part_of c after).known →
        SentColumn d (sending.entries ++ record { client = c; frame = n; entry = e } ∷ []) (part_of d after).known
    lost_column d n e fits others own =
        elim (eqb_tells d c) [
          | inl same ↦ subst (λ (x : ℕ). SentColumn x (sending.entries ++ record { client = c; frame = n; entry = e } ∷ []) (part_of x after).known) (sym same.1) own
          | inr differ ↦ sent_column d (sending.entries ++ record { client = c; frame = n; entry = e } ∷ []) (part_of d after).known (slice_index_or (slice_set counts c count) d nothing_sent)
              (other_sent c d n e sending.entries view after counts count differ.1 others (sending.each d fits))
        ]

    kept_column : (d : ℕ) → d < clients → OthersStay c view after → SentColumn c sending.entries (part_of c after).known →
        SentColumn d sending.entries (part_of d after).known
    kept_column d fits others own =
        elim (eqb_tells d c) [
          | inl same ↦ subst (λ (x : ℕ). SentColumn x sending.entries (part_of x after).known) (sym same.1) own
          | inr differ ↦ sent_column d sending.entries (part_of d after).known (slice_index_or (slice_set counts c count) d nothing_sent)
              (other_still c d sending.entries view after counts count differ.1 others (sending.each d fits))
        ]

    by_answer : (answer : Result Bool SenderEnd) → now.faults ≤ new.faults → LooksAtAll before after → OthersStay c view after →
        NextMeans c now new (part_of c after).known sending.entries count answer →
        AfterNext clients welcome old new before after (slice_set counts c count) answer
    by_answer (Ok false) later looks others means =
        record {
          entries = sending.entries;
          wrote = means.0 ∙ sending.wrote;
          later = omega (arith, later, sending.later);
          looks = looks;
          each = λ d fits.
              elim (eqb_tells d c) [
                | inl same ↦ subst (λ (x : ℕ). SentSoFar x sending.entries (part_of x after).known (slice_index_or (slice_set counts c count) x nothing_sent)) (sym same.1) (here sending.entries means.1)
                | inr differ ↦ other_still c d sending.entries view after counts count differ.1 others (sending.each d fits)
              ];
          no_others = sending.no_others;
        }
    by_answer (Ok true) later looks others means =
        let n = means.0 in
        let e = means.1 in
        let at : At = record { client = c; frame = n; entry = e } in
        record {
          entries = sending.entries ++ at ∷ [];
          wrote = subst (Wrote old.written new.written) (all_more welcome sending.entries at)
              (Wrote-append old.written now.written new.written (welcome ++ entries_bytes sending.entries) (down_bytes (down.Entry c n e)) sending.wrote means.2);
          later = omega (arith, later, sending.later);
          looks = looks;
          each = λ d fits.
              elim (eqb_tells d c) [
                | inl same ↦ subst (λ (x : ℕ). SentSoFar x (sending.entries ++ at ∷ []) (part_of x after).known (slice_index_or (slice_set counts c count) x nothing_sent)) (sym same.1) (here (sending.entries ++ at ∷ []) means.3)
                | inr differ ↦ other_sent c d n e sending.entries view after counts count differ.1 others (sending.each d fits)
              ];
          no_others = none_beyond clients c n e sending.entries below sending.no_others;
        }
    by_answer (Err sent.Lost) later looks others means =
        let n = means.0 in
        let e = means.1 in
        let part = means.2 in
        let rose = means.3 in
        let early = sending.later in
        let at : At = record { client = c; frame = n; entry = e } in
        let done = welcome ++ entries_bytes sending.entries in
        record {
          entries = sending.entries ++ at ∷ [];
          later = omega (arith, later, early);
          looks = looks;
          each = λ d fits. lost_column d n e fits others means.4;
          no_others = none_beyond clients c n e sending.entries below sending.no_others;
          means = (
            record {
              prefix = done ++ part.prefix;
              rest = part.rest;
              whole = append_assoc done part.prefix part.rest ∙ ap (λ (b : List ℕ). done ++ b) part.whole ∙ all_more welcome sending.entries at;
              wrote = Wrote-append old.written now.written new.written done part.prefix sending.wrote part.wrote;
            },
            omega (arith, early, rose),
          );
        }
    by_answer (Err sent.NoMemory) later looks others means =
        record {
          entries = sending.entries;
          later = omega (arith, later, sending.later);
          looks = looks;
          each = λ d fits. kept_column d fits others means.1;
          no_others = sending.no_others;
          means = whole_prefix old.written new.written (welcome ++ entries_bytes sending.entries) (means.0 ∙ sending.wrote);
        }
    by_answer (Err sent.Sent) later looks others means = absurd means

-- All of each column was sent.
pub all_sent :
    (clients : ℕ) (welcome : List ℕ) (old now : SinkState) (before view : View) (counts : List Seen) → Sending clients welcome old now before view counts →
    ((c : ℕ) → c < clients → (slice_index_or counts c nothing_sent).left ≡ true) →
    SendsTo clients welcome old now before view sent.Sent
all_sent clients welcome old now before view counts sending left =
    record {
      entries = sending.entries;
      later = sending.later;
      looks = sending.looks;
      each = λ c fits. sent_column c sending.entries (part_of c view).known (slice_index_or counts c nothing_sent) (sending.each c fits);
      no_others = sending.no_others;
      means = (sending.wrote, λ c fits. whole c (sending.each c fits) (left c fits));
    }
  where
    whole : (c : ℕ) → SentSoFar c sending.entries (part_of c view).known (slice_index_or counts c nothing_sent) →
        (slice_index_or counts c nothing_sent).left ≡ true →
        ((part_of c view).known.left ≡ true) × (of_client c sending.entries ≡ entries_of (part_of c view).known)
    whole c so_far done =
        let ended : so_far.column.left ≡ true = so_far.left ∙ done in
        let same : (part_of c view).known ≡ so_far.column = so_far.begins.closed ended in
        (ap (λ (k : Column). k.left) same ∙ ended, so_far.is ∙ ap entries_of (sym same))

-- Before the first entry.
pub sending_none :
    (clients : ℕ) (state : SinkState) (view : View) (counts : List Seen) → ((c : ℕ) → slice_index_or counts c nothing_sent ≡ nothing_sent) →
    Sending clients [] state state view view counts
sending_none clients state view counts none =
    record {
      entries = [];
      wrote = Wrote-nil state.written;
      later = omega arith;
      looks = record { share = refl; marks = refl; parts = λ c. looks_still (part_of c view) };
      each = λ c fits.
          subst (λ (k : Seen). SentSoFar c [] (part_of c view).known k) (sym (none c))
          (record { column = record { plays = []; left = false }; is = refl; begins = record { more = (part_of c view).known.plays; plays = refl; closed = λ left. absurd (true≢false (sym left)) }; plays = refl; left = refl });
      no_others = λ c above. refl;
    }

-- After a turn in which no entry was sent.
pub ends_if_all :
    (clients : ℕ) (welcome : List ℕ) (old now : SinkState) (before view : View) (counts : List Seen) (c : ℕ) (count : Seen) (answer : Option SenderEnd) →
    Sending (length counts) welcome old now before view (slice_set counts c count) → EndsIfAll (slice_set counts c count) answer →
    AfterSend (length counts) welcome old now before view (slice_set counts c count) answer
ends_if_all clients welcome old now before view counts c count None sending ends = sending
ends_if_all clients welcome old now before view counts c count (Some sent.Sent) sending ends =
    all_sent (length counts) welcome old now before view (slice_set counts c count) sending
    (λ d fits. ends d (let size = length-set counts c count in omega (arith, size, fits)))
ends_if_all clients welcome old now before view counts c count (Some sent.Lost) sending ends = absurd ends
ends_if_all clients welcome old now before view counts c count (Some sent.NoMemory) sending ends = absurd ends
