-- A whole sending: the welcome, and then the entries.
use Rattle.std.proofs.Common.{◌≡◌, ℕ, zero, suc, ◌<◌, ◌≤◌, false, true≢false, List, [], ◌++◌, replicate, Option, Some, None, refl, sym, ap, subst, ◌∙◌, arith, append_assoc, append-nil}
use Rattle.std.specs.Prelude.{slice_index_or}
use Rattle.base.specs.Written.{Wrote, WrotePrefix}
use Rattle.base.proofs.WrittenLemmas.{Wrote-nil, Wrote-append}
use Rattle.game_io.specs.SinkState.{SinkState}
use Rattle.frame_table.specs.declared.seen.Seen.{Seen}
use Rattle.frame_table.specs.declared.view.View.{View}
use Rattle.frame_table.specs.Part.{part_of}
use Rattle.match_net.specs.declared.sender_end.SenderEnd.{SenderEnd}
use Rattle.match_net.specs.declared.sender_end.SenderEnd.TheVariants as sent
use Rattle.match_net.specs.Sending.{entries_bytes, SentColumn, nothing_sent, PutsPacket, SentMeans, SendsTo}
use Rattle.match_net.proofs.SendingLemmas.{looks_still}

-- No entry was sent.
no_entries : (clients : ℕ) (view : View) (c : ℕ) → c < clients → SentColumn c [] (part_of c view).known
no_entries clients view c below =
    record {
      column = record { plays = []; left = false };
      is = refl;
      begins = record { more = (part_of c view).known.plays; plays = refl; closed = λ left. absurd (true≢false (sym left)) };
    }

without_entries :
    (clients : ℕ) (welcome : List ℕ) (old new : SinkState) (view : View) (answer : SenderEnd) → old.faults ≤ new.faults →
    SentMeans clients (welcome ++ []) [] old new view answer → SendsTo clients welcome old new view view answer
without_entries clients welcome old new view answer later means =
    record {
      entries = [];
      later = later;
      looks = record { share = refl; marks = refl; parts = λ c. looks_still (part_of c view) };
      each = no_entries clients view;
      no_others = λ c above. refl;
      means = means;
    }

-- The welcome was not written whole.
pub unwelcomed :
    (clients : ℕ) (welcome : List ℕ) (old new : SinkState) (view : View) (answer : SenderEnd) →
    PutsPacket old new welcome (Some answer) → SendsTo clients welcome old new view view answer
unwelcomed clients welcome old new view sent.Sent puts = absurd puts.means
unwelcomed clients welcome old new view sent.Lost puts =
    let means = puts.means in
    without_entries clients welcome old new view sent.Lost puts.later
    (subst (WrotePrefix old.written new.written) (sym (append-nil welcome)) means.0, means.1)
unwelcomed clients welcome old new view sent.NoMemory puts =
    without_entries clients welcome old new view sent.NoMemory puts.later
    (record { prefix = []; rest = welcome ++ []; whole = refl; wrote = subst (λ (w : Option (List ℕ)). Wrote old.written w []) (sym puts.means) (Wrote-nil old.written) })

-- Memory ran out before the first entry.
pub nothing_written : (clients : ℕ) (state : SinkState) (view : View) → SendsTo clients [] state state view view sent.NoMemory
nothing_written clients state view =
    without_entries clients [] state state view sent.NoMemory (omega arith)
    (record { prefix = []; rest = []; whole = refl; wrote = Wrote-nil state.written })

-- The entries after the welcome.
pub welcomed_sends :
    (clients : ℕ) (welcome : List ℕ) (old mid new : SinkState) (before after : View) (answer : SenderEnd) →
    PutsPacket old mid welcome None → SendsTo clients [] mid new before after answer →
    SendsTo clients welcome old new before after answer
welcomed_sends clients welcome old mid new before after answer puts sends =
    record {
      entries = sends.entries;
      later = let first = puts.later in let second = sends.later in omega (arith, first, second);
      looks = sends.looks;
      each = sends.each;
      no_others = sends.no_others;
      means = by_answer answer sends.means;
    }
  where
    bytes : List ℕ
    bytes = entries_bytes sends.entries

    part_of_all : WrotePrefix mid.written new.written bytes → WrotePrefix old.written new.written (welcome ++ bytes)
    part_of_all part =
        record {
          prefix = welcome ++ part.prefix;
          rest = part.rest;
          whole = append_assoc welcome part.prefix part.rest ∙ ap (λ (b : List ℕ). welcome ++ b) part.whole;
          wrote = Wrote-append old.written mid.written new.written welcome part.prefix puts.means part.wrote;
        }

    by_answer : (answer : SenderEnd) → SentMeans clients bytes sends.entries mid new after answer →
        SentMeans clients (welcome ++ bytes) sends.entries old new after answer
    by_answer sent.Sent means = (Wrote-append old.written mid.written new.written welcome bytes puts.means means.0, means.1)
    by_answer sent.Lost means = (part_of_all means.0, let first = puts.later in let rose = means.1 in omega (arith, first, rose))
    by_answer sent.NoMemory means = part_of_all means

-- Of no client was anything sent.
pub none_counted : (counts : List Seen) (clients c : ℕ) → counts ≡ replicate clients nothing_sent → slice_index_or counts c nothing_sent ≡ nothing_sent
none_counted counts clients c is = ap (λ (k : List Seen). slice_index_or k c nothing_sent) is ∙ in_replicate clients c
  where
    in_replicate : (n c : ℕ) → slice_index_or (replicate n nothing_sent) c nothing_sent ≡ nothing_sent
    in_replicate zero c = refl
    in_replicate (suc n) zero = refl
    in_replicate (suc n) (suc c) = in_replicate n c
