-- What was written to a link, and what its sender left of the columns.
use Rattle.std.proofs.Common.{◌≡◌, ◌≢◌, ℕ, ◌<◌, Bool, List, [], length, Option, refl, sym, ap, ap₂, ◌∙◌, subst, inl, inr, arith}
use Rattle.base.specs.Cause.{Increased}
use Rattle.base.specs.Written.{Wrote, WrotePrefix}
use Rattle.base.proofs.WrittenLemmas.{Wrote-nil, whole_prefix}
use Rattle.game_io.specs.SinkState.{SinkState}
use Rattle.frame_core.specs.Column.{Column, column_of, no_column}
use Rattle.frame_core.specs.Grows.{GrowsTo}
use Rattle.order_packets.specs.declared.down.Down.TheVariants as down
use Rattle.order_packets.specs.PacketBytes.{down_bytes}
use Rattle.frame_table.specs.declared.view.View.{View}
use Rattle.frame_table.specs.Part.{part_of}
use Rattle.match_net.specs.declared.invite.Invite.{Invite}
use Rattle.match_net.specs.declared.greeting.Greeting.{Greeting}
use Rattle.match_net.specs.declared.greeting.Greeting.TheVariants as greeting
use Rattle.match_net.specs.declared.reader_end.ReaderEnd.{ReaderEnd}
use Rattle.match_net.specs.declared.sender_end.SenderEnd.{SenderEnd}
use Rattle.match_net.specs.declared.sender_end.SenderEnd.TheVariants as sender
use Rattle.match_net.specs.Sending.{At, SentMeans, entries_of}
use Rattle.match_net.specs.SenderSession.{SendsAs, RefusalMeans}
use Rattle.match_serve.specs.declared.link_end.LinkEnd.TheVariants as end
use Rattle.match_serve.specs.Seats.{SendsSo}
use Rattle.match_serve.specs.Sent.{SendsBy, SendsAllBy, greeting_in}
use Rattle.match_serve.specs.Closed.{link_end_of}
use Rattle.match_serve.proofs.PassLemmas.{GrowsTo-trans}
use Rattle.match_serve.proofs.SeatLemmas.{sender_keeps, sent_by, left_if}

nothing_put : (old new : Option (List ℕ)) (bytes : List ℕ) → new ≡ old → WrotePrefix old new bytes
nothing_put old new bytes same =
    record { prefix = []; rest = bytes; whole = refl; wrote = subst (λ (n : Option (List ℕ)). Wrote old n []) (sym same) (Wrote-nil old) }

sent_prefix : (clients : ℕ) (bytes : List ℕ) (entries : List At) (old new : SinkState) (view : View) (answer : SenderEnd) → SentMeans clients bytes entries old new view answer → WrotePrefix old.written new.written bytes
sent_prefix clients bytes entries old new view sender.Sent means = whole_prefix old.written new.written bytes means.0
sent_prefix clients bytes entries old new view sender.Lost means = means.0
sent_prefix clients bytes entries old new view sender.NoMemory means = means

refusal_prefix : (bytes : List ℕ) (old new : SinkState) (answer : SenderEnd) → RefusalMeans old new bytes answer → WrotePrefix old.written new.written bytes
refusal_prefix bytes old new sender.Sent means = whole_prefix old.written new.written bytes means
refusal_prefix bytes old new sender.Lost means = means.0
refusal_prefix bytes old new sender.NoMemory means = nothing_put old.written new.written bytes means

-- A sender that was lost.
sender_lost : (why : Greeting) (invite : Invite) (old new : SinkState) (before after : View) → SendsAs why invite old new before after sender.Lost → Increased old.faults new.faults
sender_lost greeting.Welcome invite old new before after sends = sends.sends.means.1
sender_lost (greeting.Refuse code) invite old new before after sends = sends.sends.0.means.1
sender_lost (greeting.Fault fault) invite old new before after sends = absurd (let never = sends.sends.0.is in cc)
sender_lost greeting.Ended invite old new before after sends = absurd (let never = sends.sends.0.is in cc)
sender_lost greeting.Lost invite old new before after sends = absurd (let never = sends.sends.0.is in cc)

-- A sender that sent all has fixed no departure.
sender_made : (why : Greeting) (invite : Invite) (old new : SinkState) (before after : View) → SendsAs why invite old new before after sender.Sent → (c : ℕ) → (part_of c after).made ≡ (part_of c before).made
sender_made why invite old new before after sends c =
    ap (λ (v : View). (part_of c v).made) sends.leaves ∙ (sent_by why invite old new before sends.mid sender.Sent sends.sends).made c

begins_empty : (column : Column) → GrowsTo no_column column
begins_empty column = record { more = column.plays; plays = refl; closed = λ left. absurd cc }

module _ (invite : Invite) (columns : List Column) (old new : SinkState) (before after : View) (long : length columns ≡ invite.clients)
    (grown : (c : ℕ) → c < invite.clients → GrowsTo (part_of c after).known (column_of columns c)) where
  -- What was known as the sending ended has grown to the final column.
  grown_since : (mid : View) → ((c : ℕ) → GrowsTo (part_of c mid).known (part_of c after).known) → (c : ℕ) → c < length columns → GrowsTo (part_of c mid).known (column_of columns c)
  grown_since mid known c below =
      GrowsTo-trans (part_of c mid).known (part_of c after).known (column_of columns c) (known c) (grown c (omega arith))

  sends_by : (why : Greeting) (answer : SenderEnd) → SendsAs why invite old new before after answer → SendsBy why invite columns old.written new.written
  sends_by greeting.Welcome answer sends =
      let did = sends.sends in
      let since = grown_since sends.mid (left_if invite.client sends.mid after answer sends.leaves).known in
      record {
        entries = did.entries;
        wrote = sent_prefix invite.clients _ did.entries old new sends.mid answer did.means;
        each = λ c below.
            let sent = did.each c (omega arith) in
            record { column = sent.column; is = sent.is; begins = GrowsTo-trans sent.column (part_of c sends.mid).known (column_of columns c) sent.begins (since c below) };
        no_others = λ c far. did.no_others c (omega arith);
      }
  sends_by (greeting.Refuse code) answer sends = refusal_prefix (down_bytes (down.Refused code)) old new answer sends.sends.0.means
  sends_by (greeting.Fault fault) answer sends = ap (λ (s : SinkState). s.written) sends.sends.0.untouched
  sends_by greeting.Ended answer sends = ap (λ (s : SinkState). s.written) sends.sends.0.untouched
  sends_by greeting.Lost answer sends = ap (λ (s : SinkState). s.written) sends.sends.0.untouched

  sends_all : (why : Greeting) → SendsAs why invite old new before after sender.Sent → SendsAllBy why invite columns old.written new.written
  sends_all greeting.Welcome sends =
      let did = sends.sends in
      let since = grown_since sends.mid (left_if invite.client sends.mid after sender.Sent sends.leaves).known in
      record {
        entries = did.entries;
        wrote = did.means.0;
        each = λ c below.
            let all = did.means.1 c (omega arith) in
            all.1 ∙ ap entries_of (sym ((since c below).closed all.0));
        no_others = λ c far. did.no_others c (omega arith);
      }
  sends_all (greeting.Refuse code) sends = sends.sends.0.means
  sends_all (greeting.Fault fault) sends = ap (λ (s : SinkState). s.written) sends.sends.0.untouched
  sends_all greeting.Ended sends = ap (λ (s : SinkState). s.written) sends.sends.0.untouched
  sends_all greeting.Lost sends = ap (λ (s : SinkState). s.written) sends.sends.0.untouched

  sends_none : (why : Greeting) (written : Option (List ℕ)) → SendsBy why invite columns written written
  sends_none greeting.Welcome written =
      record {
        entries = [];
        wrote = nothing_put written written _ refl;
        each = λ c below. record { column = no_column; is = refl; begins = begins_empty (column_of columns c) };
        no_others = λ c far. refl;
      }
  sends_none (greeting.Refuse code) written = nothing_put written written _ refl
  sends_none (greeting.Fault fault) written = refl
  sends_none greeting.Ended written = refl
  sends_none greeting.Lost written = refl

  pub so_by : (bytes : List ℕ) (read : ReaderEnd) (answer : SenderEnd) → SendsSo invite bytes old new before after read answer → SendsBy (greeting_in invite.rules bytes) invite columns old.written new.written
  so_by bytes read answer (inl sends) = sends_by (greeting_in invite.rules bytes) answer sends
  so_by bytes read answer (inr (same, view, lost, none)) =
      subst (λ (s : SinkState). SendsBy (greeting_in invite.rules bytes) invite columns old.written s.written) (sym same) (sends_none (greeting_in invite.rules bytes) old.written)

  pub so_all : (bytes : List ℕ) (read : ReaderEnd) (answer : SenderEnd) (kicked : Bool) (faults : ℕ) → SendsSo invite bytes old new before after read answer → (Increased old.faults new.faults → 0 < faults) →
      link_end_of read answer kicked ≢ end.Memory → faults ≡ 0 → SendsAllBy (greeting_in invite.rules bytes) invite columns old.written new.written
  so_all bytes read sender.Sent kicked faults (inl sends) failed other none = sends_all (greeting_in invite.rules bytes) sends
  so_all bytes read sender.Lost kicked faults (inl sends) failed other none =
      absurd (let some = failed (sender_lost (greeting_in invite.rules bytes) invite old new before after sends) in omega arith)
  so_all bytes read sender.NoMemory kicked faults (inl sends) failed other none = absurd (other refl)
  so_all bytes read answer kicked faults (inr (same, view, lost, none_sent)) failed other none =
      absurd (other (ap₂ (λ (r : ReaderEnd) (s : SenderEnd). link_end_of r s kicked) lost none_sent))

-- What the sender of a link says of its sink and of the columns.
module _ (invite : Invite) (bytes : List ℕ) (old new : SinkState) (before after : View) (read : ReaderEnd) where
  pub so_lost : SendsSo invite bytes old new before after read sender.Lost → Increased old.faults new.faults
  so_lost (inl sends) = sender_lost (greeting_in invite.rules bytes) invite old new before after sends
  so_lost (inr (same, view, lost, none)) = absurd cc

  pub so_made : SendsSo invite bytes old new before after read sender.Sent → (c : ℕ) → (part_of c after).made ≡ (part_of c before).made
  so_made (inl sends) c = sender_made (greeting_in invite.rules bytes) invite old new before after sends c
  so_made (inr (same, view, lost, none)) c = ap (λ (v : View). (part_of c v).made) view

  pub so_others : (answer : SenderEnd) → SendsSo invite bytes old new before after read answer → (c : ℕ) → c ≢ invite.client → (part_of c after).made ≡ (part_of c before).made
  so_others answer (inl sends) c apart = (sender_keeps (greeting_in invite.rules bytes) invite old new before after answer sends).made c apart
  so_others answer (inr (same, view, lost, none)) c apart = ap (λ (v : View). (part_of c v).made) view
