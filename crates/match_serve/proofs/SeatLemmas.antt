-- A link, from what its greeting and its two sessions did.
use Rattle.std.proofs.Common.{◌≡◌, ◌≢◌, ℕ, true, List, [], length, refl, sym, ap, ◌∙◌, subst, inl, inr, arith}
use native.Mathlib.Decide.{ℕ_discrete}
use mathlib.Core.Logic.{dite}
use Rattle.game_io.specs.SourceState.{SourceState}
use Rattle.game_io.specs.SinkState.{SinkState}
use Rattle.game_orders.specs.declared.order.Order.{Order}
use Rattle.frame_core.specs.Column.{Column, left_column}
use Rattle.frame_core.specs.Grows.{GrowsTo}
use Rattle.frame_core.proofs.GrowsLemmas.{GrowsTo-refl, left_grows}
use Rattle.order_packets.specs.declared.up.Up.TheVariants.{Hello}
use Rattle.order_packets.specs.PacketBytes.{FitsUp}
use Rattle.order_packets.specs.Feed.{Fed}
use Rattle.match_serve.specs.Sent.{greeting_by}
use Rattle.order_packets.specs.PacketReading.{packet_at, up_at}
use Rattle.frame_table.specs.declared.view.View.{View}
use Rattle.frame_table.specs.declared.pass.Pass.{Pass}
use Rattle.frame_table.specs.declared.table.FrameTable.{FrameTable}
use Rattle.frame_table.specs.Part.{Part, part_of}
use Rattle.frame_table.specs.Steps.{published}
use Rattle.frame_table.specs.Calls.{view_of, IsPassOf}
use Rattle.report_line.specs.Reports.{pushed, StaysOf}
use Rattle.order_packets.specs.declared.limits.TheConstants.{VERSION}
use Rattle.match_net.specs.declared.limits.TheConstants.{MAX_LINK_BYTES}
use Rattle.match_net.specs.declared.invite.Invite.{Invite}
use Rattle.match_net.specs.declared.greeting.Greeting.{Greeting}
use Rattle.match_net.specs.declared.greeting.Greeting.TheVariants as greeting
use Rattle.match_net.specs.declared.reader_end.ReaderEnd.{ReaderEnd}
use Rattle.match_net.specs.declared.reader_end.ReaderEnd.TheVariants as reader
use Rattle.match_net.specs.declared.sender_end.SenderEnd.{SenderEnd}
use Rattle.match_net.specs.declared.sender_end.SenderEnd.TheVariants as sender
use Rattle.match_net.specs.PieceTaking.{Counts, TookAtMost}
use Rattle.match_net.specs.Greeting.{Greets, decided}
use Rattle.match_net.specs.Session.{no_session}
use Rattle.match_net.specs.Reading.{MayPlay}
use Rattle.match_net.specs.Sessions.{CountsAs, LeavesColumn, SessionEnds}
use Rattle.match_net.specs.Sending.{LooksAtAll}
use Rattle.match_net.specs.SenderSession.{SendsAs, SentBy, LeavesIf}
use Rattle.match_net.proofs.AheadLemmas.{others_still, others_stay_on}
use Rattle.match_serve.specs.declared.link_seat.LinkSeat.{LinkSeat}
use Rattle.match_serve.specs.Passes.{IsServePass, Learns, IsTakenOut}
use Rattle.match_serve.specs.Seats.{IsNewSeat, MayRead, HasRead, MaySend, HasSent, ServesSeat}
use Rattle.match_serve.proofs.PassLemmas.{GrowsTo-trans, learns_refl}
use Rattle.match_serve.proofs.SessionLemmas.{read_greeted, IsAnswered}

-- What a session leaves of a pass that may have let its own client leave.
pub record Keeps (c : ℕ) (old new : View) : Type 0 where
  pub share : new.share ≡ old.share
  pub planned : (d : ℕ) → (part_of d new).planned ≡ (part_of d old).planned
  pub made : (d : ℕ) → d ≢ c → (part_of d new).made ≡ (part_of d old).made
  pub known : (d : ℕ) → GrowsTo (part_of d old).known (part_of d new).known

pub kept_pass : (clients : ℕ) (table : FrameTable) (p q : Pass) (c : ℕ) → IsServePass clients table p → IsPassOf table q → Keeps c (view_of p) (view_of q) → IsServePass clients table q
kept_pass clients table p q c pass is keeps = record { of_table = is; count = pass.count; free = λ d below. keeps.planned d ∙ pass.free d below }

learned : (c : ℕ) (old new : View) → Learns old new → Keeps c old new
learned c old new learns = record { share = learns.share; planned = learns.planned; made = λ d apart. learns.made d; known = learns.known }

-- A departure.
taken_part : (p q : Part) (K : Column) → GrowsTo p.known K → q ≡ published p K (left_column K) → (q.planned ≡ p.planned) × GrowsTo p.known q.known
taken_part p q K grows is =
    (ap (λ (r : Part). r.planned) is, subst (λ (r : Part). GrowsTo p.known r.known) (sym is) (GrowsTo-trans p.known K (left_column K) grows (left_grows K)))

pub taken_out : (c : ℕ) (old new : View) → IsTakenOut c old new → Keeps c old new
taken_out c old new (answer, (K, acted, said)) =
    let here = taken_part (part_of c old) (part_of c new) K acted.found.known acted.part in
    record {
      share = acted.others.0;
      planned = λ d. dite (ℕ_discrete d c)
          (λ same. subst (λ e. (part_of e new).planned ≡ (part_of e old).planned) (sym same) here.0)
          (λ apart. ap (λ (r : Part). r.planned) (acted.others.2 d apart));
      made = λ d apart. ap (λ (r : Part). r.made) (acted.others.2 d apart);
      known = λ d. dite (ℕ_discrete d c)
          (λ same. subst (λ e. GrowsTo (part_of e old).known (part_of e new).known) (sym same) here.1)
          (λ apart. subst (λ (r : Part). GrowsTo (part_of d old).known r.known) (sym (acted.others.2 d apart)) (GrowsTo-refl (part_of d old).known));
    }

keeps_trans : (c : ℕ) (a b d : View) → Keeps c a b → Keeps c b d → Keeps c a d
keeps_trans c a b d first second =
    record {
      share = second.share ∙ first.share;
      planned = λ k. second.planned k ∙ first.planned k;
      made = λ k apart. second.made k apart ∙ first.made k apart;
      known = λ k. GrowsTo-trans (part_of k a).known (part_of k b).known (part_of k d).known (first.known k) (second.known k);
    }

-- A sender.
looked : (old new : View) → LooksAtAll old new → Learns old new
looked old new looks =
    record {
      share = looks.share;
      planned = λ c. ap (λ (r : Part). r.planned) (looks.parts c).only;
      made = λ c. ap (λ (r : Part). r.made) (looks.parts c).only;
      known = λ c. (looks.parts c).known;
    }

pub sent_by : (why : Greeting) (invite : Invite) (old new : SinkState) (before mid : View) (answer : SenderEnd) → SentBy why invite old new before mid answer → Learns before mid
sent_by greeting.Welcome invite old new before mid answer sends = looked before mid sends.looks
sent_by (greeting.Refuse code) invite old new before mid answer sends = subst (Learns before) (sym sends.1) (learns_refl before)
sent_by (greeting.Fault fault) invite old new before mid answer sends = subst (Learns before) (sym sends.1) (learns_refl before)
sent_by greeting.Ended invite old new before mid answer sends = subst (Learns before) (sym sends.1) (learns_refl before)
sent_by greeting.Lost invite old new before mid answer sends = subst (Learns before) (sym sends.1) (learns_refl before)

pub left_if : (c : ℕ) (mid after : View) (answer : SenderEnd) → LeavesIf c mid after answer → Keeps c mid after
left_if c mid after sender.Sent same = subst (Keeps c mid) (sym same) (learned c mid mid (learns_refl mid))
left_if c mid after sender.Lost leaves = taken_out c mid after leaves
left_if c mid after sender.NoMemory leaves = taken_out c mid after leaves

pub sender_keeps : (why : Greeting) (invite : Invite) (old new : SinkState) (before after : View) (answer : SenderEnd) → SendsAs why invite old new before after answer → Keeps invite.client before after
sender_keeps why invite old new before after answer sends =
    keeps_trans invite.client before sends.mid after
    (learned invite.client before sends.mid (sent_by why invite old new before sends.mid answer sends.sends))
    (left_if invite.client sends.mid after answer sends.leaves)

-- A reader.
pub reader_keeps : (c : ℕ) (plays : List (List Order)) (before after : View) → LeavesColumn c plays before after → (share : after.share ≡ before.share) × ((d : ℕ) → (part_of d after).planned ≡ (part_of d before).planned)
reader_keeps c plays before after leaves = (
  leaves.others.share,
  λ d. dite (ℕ_discrete d c)
      (λ same. subst (λ e. (part_of e after).planned ≡ (part_of e before).planned) (sym same) (ap (λ (r : Part). r.planned) leaves.part))
      (λ apart. ap (λ (r : Part). r.planned) (leaves.others.parts d apart).only),
)

-- The client left with no play.
taken_empty : (c : ℕ) (before after : View) → (part_of c before).held ≡ [] → MayPlay (part_of c before) → (part_of c before).known.plays ≡ [] → IsTakenOut c before after → LeavesColumn c [] before after
taken_empty c before after free may none (answer, (K, acted, said)) =
    let p = part_of c before in
    let plays : K.plays ≡ [] = sym (acted.found.fed may.feeds).1 ∙ none in
    record {
      others = others_stay_on c before before after (others_still c before) acted.others;
      part = acted.part ∙ (λ i. record p {
        reach = record { plays = length (plays i); left = true };
        known = record { plays = plays i; left = true };
        loads = (sym (ap (λ (r : Part). r.loads) acted.part)) i;
        made = (sym (ap (λ (r : Part). r.made) acted.part)) i;
        held = (sym free) i;
      });
    }

-- Memory ran out for the greeting.
pub given_up : (clients : ℕ) (table : FrameTable) (old new : LinkSeat) (input input_after : SourceState) (output : SinkState) → IsNewSeat clients table old → (took : TookAtMost MAX_LINK_BYTES input input_after) → (taken : ℕ) → Counts old.reading.taken taken took.taken → new.reading.taken ≡ taken →
    IsPassOf table new.reading.pass → IsTakenOut old.invite.client (view_of old.reading.pass) (view_of new.reading.pass) → new.reading.reports ≡ old.reading.reports → new.sending ≡ old.sending → new.invite ≡ old.invite →
    new.ends.reader ≡ reader.NoMemory → new.ends.sender ≡ sender.Sent → ServesSeat clients table old new input input_after output output
given_up clients table old new input input_after output seat took taken counted still is out reports sending told read sent =
    let c = old.invite.client in
    let keeps = taken_out c (view_of old.reading.pass) (view_of new.reading.pass) out in
    record {
      told = told;
      reading_pass = kept_pass clients table old.reading.pass new.reading.pass c seat.reads is keeps;
      reading_share = keeps.share;
      sending_pass = subst (IsServePass clients table) (sym sending) seat.sends;
      sending_share = ap (λ (p : Pass). (view_of p).share) sending;
      reports = subst (λ r. StaysOf c old.reading.reports r) (sym reports) (record { same = record { queue = refl; number = refl }; own = λ are. are });
      reads = record {
        session = no_session;
        taken = took.taken;
        rest = took.taken;
        few = took.few;
        took = took.took;
        later = took.later;
        makes = record { packets = []; reads = refl; follows = refl };
        at = 0;
        place = omega arith;
        reports = ap pushed reports ∙ seat.unpushed;
        column = taken_empty c (view_of old.reading.pass) (view_of new.reading.pass) (seat.reads.of_table.held c) seat.may seat.unplayed out;
        ends = subst (λ (a : ReaderEnd). SessionEnds c old.invite.rules took.taken no_session took.taken input input_after (view_of old.reading.pass) (view_of new.reading.pass) a) (sym read) tt;
      };
      counted = (let none = seat.none_taken in omega (arith, none, counted, still));
      sends = inr (refl, ap view_of sending, read, sent);
    }

answered : (why said : Greeting) (invite : Invite) (old new : SinkState) (before after : View) (answer : SenderEnd) → IsAnswered why said → SendsAs why invite old new before after answer → SendsAs said invite old new before after answer
answered why said invite old new before after answer (inl same) sends = subst (λ g. SendsAs g invite old new before after answer) (sym same) sends
answered why said invite old new before after answer (inr (lost, is_ended)) sends =
    let failed : SendsAs greeting.Lost invite old new before after answer = subst (λ g. SendsAs g invite old new before after answer) lost sends in
    subst (λ g. SendsAs g invite old new before after answer) (sym is_ended) (record { mid = failed.mid; sends = failed.sends; leaves = failed.leaves })

-- What the sessions ask for.
pub may_read : (clients : ℕ) (table : FrameTable) (old : LinkSeat) (fed : Fed) (taken : ℕ) (why : Greeting) (here : ℕ) (input mid : SourceState) → IsNewSeat clients table old → (g : Greets here input mid fed why) → Counts old.reading.taken taken g.taken → MayRead table old.invite why (record old.reading { feeder = fed; taken = taken }) mid
may_read clients table old fed taken why here input mid seat g counted =
    record {
      pass = seat.reads.of_table;
      client = (let below = seat.client in let count = seat.reads.count in omega arith);
      may = seat.may;
      unplayed = seat.unplayed;
      greeted = g.leaves;
      few = (let none = seat.none_taken in let few = g.few in omega (arith, counted, none, few));
    }

pub may_send : (clients : ℕ) (table : FrameTable) (old : LinkSeat) → IsNewSeat clients table old → MaySend table old.invite old.sending
may_send clients table old seat =
    record {
      is = seat.sends.of_table;
      clients = seat.clients_are ∙ sym seat.sends.count;
      client = (let below = seat.client in let same = seat.clients_are in omega arith);
      free = seat.sends.free old.invite.client seat.client;
    }

-- A greeted link was served.
pub served : (clients : ℕ) (table : FrameTable) (old new : LinkSeat) (fed : Fed) (taken : ℕ) (why : Greeting) (input mid input_after : SourceState) (output output_after : SinkState) → FitsUp (Hello VERSION old.invite.rules) → IsNewSeat clients table old → (g : Greets old.invite.rules input mid fed why) → Counts old.reading.taken taken g.taken →
    HasRead table old.invite why (record old.reading { feeder = fed; taken = taken }) new.reading mid input_after new.ends.reader → HasSent table old.invite why old.sending new.sending output output_after new.ends.sender → new.invite ≡ old.invite → ServesSeat clients table old new input input_after output output_after
served clients table old new fed taken why input mid input_after output output_after fits seat g counted read sent told =
    let c = old.invite.client in
    let before = view_of old.reading.pass in
    let after = view_of new.reading.pass in
    let reads = subst (λ first. CountsAs why c old.invite.rules fed.rest mid input_after taken new.reading.taken before after first (pushed new.reading.reports) new.ends.reader) seat.unpushed read.reads in
    let none = seat.none_taken in
    let counted_all : taken ≡ length g.taken = omega (arith, none, counted) in
    let (whole, said, total) = read_greeted c old.invite.rules input mid input_after taken new.reading.taken fed before after (pushed new.reading.reports) new.ends.reader why fits g counted_all reads in
    let left = reader_keeps c whole.session.plays before after whole.column in
    let keeps = sender_keeps why old.invite output output_after (view_of old.sending) (view_of new.sending) new.ends.sender sent.sends in
    record {
      told = told;
      reading_pass = record { of_table = read.pass; count = seat.reads.count; free = λ d below. left.1 d ∙ seat.reads.free d below };
      reading_share = left.0;
      sending_pass = kept_pass clients table old.sending new.sending c seat.sends sent.is keeps;
      sending_share = keeps.share;
      reports = read.reports;
      reads = whole;
      counted = total;
      sends = inl (answered why (greeting_by (decided old.invite.rules (packet_at up_at whole.taken))) old.invite output output_after (view_of old.sending) (view_of new.sending) new.ends.sender said sent.sends);
    }
