-- Links that are handed back one after another.
use Rattle.std.proofs.Common.{◌≡◌, ◌≢◌, ℕ, zero, suc, ◌+◌, ◌<◌, ◌≤◌, ◌⊎◌, Bool, true, false, List, [], ◌∷◌, ◌++◌, length, get_or, Option, Some, refl, sym, ap, ap₂, ◌∙◌, subst, inl, inr, arith, length-append}
use Rattle.std.specs.Prelude.{slice_get, slice_set, remove}
use Rattle.game_io.specs.SourceState.{SourceState}
use Rattle.base.specs.Cause.{Increased}
use Rattle.game_io.specs.NetState.{NetState, TakenBack, TakesBack, taken_back, faults_taken_back}
use Rattle.frame_core.specs.Column.{Column, column_of}
use Rattle.frame_core.specs.Grows.{GrowsTo}
use Rattle.frame_table.specs.declared.view.View.{View}
use Rattle.frame_table.specs.declared.pass.Pass.{Pass}
use Rattle.frame_table.specs.declared.table.FrameTable.{FrameTable}
use Rattle.frame_table.specs.Part.{Part}
use Rattle.frame_table.specs.Calls.{view_of, standing}
use Rattle.report_line.specs.declared.heard.Heard.{Heard}
use Rattle.report_line.specs.declared.report_receiver.ReportReceiver.{ReportReceiver}
use Rattle.report_line.specs.Order.{AreOf}
use Rattle.report_line.specs.Reports.{pushed, queue_of, queue_heard, number_of, heard, joined, IsSameReceiver}
use Rattle.match_net.specs.declared.invite.Invite.{Invite}
use Rattle.match_net.specs.declared.reader_end.ReaderEnd.{ReaderEnd}
use Rattle.match_net.specs.declared.reader_end.ReaderEnd.TheVariants as reader
use Rattle.match_net.specs.declared.sender_end.SenderEnd.{SenderEnd}
use Rattle.match_net.specs.declared.sender_end.SenderEnd.TheVariants as sender
use Rattle.match_net.specs.Session.{Session}
use Rattle.match_net.specs.Sessions.{ReadsLink, SessionEnds}
use Rattle.match_serve.specs.declared.link_end.LinkEnd.{LinkEnd}
use Rattle.match_serve.specs.declared.link_end.LinkEnd.TheVariants as end
use Rattle.match_serve.specs.Passes.{IsServePass, columns_of}
use Rattle.match_serve.specs.Seats.{PieceState, SendsSo, IsServedLink, AreServedLinks, shares_of, made_by, made_in, invite_of}
use Rattle.match_serve.specs.Serve.{EndTells}
use Rattle.match_serve.specs.Closed.{Closes, LinkClosed, link_end_of, reader_end_of}
use Rattle.match_serve.proofs.PassLemmas.{column_known, length_known}
use Rattle.match_serve.proofs.SentLemmas.{so_by, so_all, so_lost, so_made, so_others}

-- What is written at a place of a list, and last.
module _ {A : Type 0} where
  set_here : (xs : List A) (k : ℕ) (v : A) → k < length xs → slice_get (slice_set xs k v) k ≡ Some v
  set_here [] k v below = absurd (omega arith)
  set_here (x ∷ xs) zero v below = refl
  set_here (x ∷ xs) (suc k) v below = set_here xs k v (omega arith)

  set_there : (xs : List A) (k j : ℕ) (v : A) → j < k → slice_get (slice_set xs k v) j ≡ slice_get xs j
  set_there [] k j v before = refl
  set_there (x ∷ xs) zero j v before = absurd (omega arith)
  set_there (x ∷ xs) (suc k) zero v before = refl
  set_there (x ∷ xs) (suc k) (suc j) v before = set_there xs k j v (omega arith)

  read_here : (xs : List A) (k : ℕ) (v d : A) → k < length xs → get_or (slice_set xs k v) k d ≡ v
  read_here [] k v d below = absurd (omega arith)
  read_here (x ∷ xs) zero v d below = refl
  read_here (x ∷ xs) (suc k) v d below = read_here xs k v d (omega arith)

  read_there : (xs : List A) (k j : ℕ) (v d : A) → j < k → get_or (slice_set xs k v) j d ≡ get_or xs j d
  read_there [] k j v d before = refl
  read_there (x ∷ xs) zero j v d before = absurd (omega arith)
  read_there (x ∷ xs) (suc k) zero v d before = refl
  read_there (x ∷ xs) (suc k) (suc j) v d before = read_there xs k j v d (omega arith)

  set_long : (xs : List A) (k : ℕ) (v : A) → length (slice_set xs k v) ≡ length xs
  set_long [] k v = refl
  set_long (x ∷ xs) zero v = refl
  set_long (x ∷ xs) (suc k) v = ap suc (set_long xs k v)

  push_there : (xs : List A) (v d : A) (k : ℕ) → k < length xs → get_or (xs ++ v ∷ []) k d ≡ get_or xs k d
  push_there [] v d k below = absurd (omega arith)
  push_there (x ∷ xs) v d zero below = refl
  push_there (x ∷ xs) v d (suc k) below = push_there xs v d k (omega arith)

  push_here : (xs : List A) (v d : A) → get_or (xs ++ v ∷ []) (length xs) d ≡ v
  push_here [] v d = refl
  push_here (x ∷ xs) v d = push_here xs v d

  pub first_taken : (xs ys : List A) (x : A) → 0 < length xs → x ≡ get_or xs 0 x → ys ≡ remove xs 0 → xs ≡ x ∷ ys
  first_taken [] ys x some is rest = absurd (omega arith)
  first_taken (y ∷ xs) ys x some is rest = ap₂ (λ (a : A) (b : List A). a ∷ b) (sym is) (sym rest)

-- How the link ended, by its sessions.
module _ (c here : ℕ) (bytes : List ℕ) (session : Session) (rest : List ℕ) (old new : SourceState) (before after : View) (faults : ℕ) (failed : Increased old.faults new.faults → 0 < faults) where
  reader_tells : (read : ReaderEnd) (kicked : Bool) → SessionEnds c here bytes session rest old new before after read → ((at : ℕ) → read ≡ reader.LeftAt at → (kicked ≡ true) ⊎ (0 < faults)) → EndTells c here bytes session rest old new kicked faults (reader_end_of read kicked)
  reader_tells reader.Ended kicked ends by = ends.0
  reader_tells (reader.Refused why) kicked ends by = ends
  reader_tells (reader.LeftAt at) true ends by = (refl, (ends.0.at_end, ends.1))
  reader_tells (reader.LeftAt at) false ends by =
      elim (by at refl) [
        | inl is ↦ absurd cc
        | inr some ↦ (some, inr (refl, (at, (ends.0.at_end, ends.1))))
      ]
  reader_tells reader.Lost kicked ends by = (failed ends.2, inl ends)
  reader_tells reader.NoMemory kicked ends by = tt

  link_tells : (read : ReaderEnd) (sent : SenderEnd) (kicked : Bool) → SessionEnds c here bytes session rest old new before after read → (sent ≡ sender.Lost → 0 < faults) →
      ((at : ℕ) → read ≡ reader.LeftAt at → sent ≡ sender.Sent → kicked ≡ true) → EndTells c here bytes session rest old new kicked faults (link_end_of read sent kicked)
  link_tells read sender.Sent kicked ends lost by = reader_tells read kicked ends (λ at is. inl (by at is refl))
  link_tells read sender.Lost kicked ends lost by = reader_tells read kicked ends (λ at is. inr (lost refl))
  link_tells read sender.NoMemory kicked ends lost by = tt

-- A link whose passes have fixed a departure, and whose end is that of a client that was kicked.
failed_if_kicked : (read : ReaderEnd) (sent : SenderEnd) (kicked : Bool) (fixed faults at : ℕ) → (sent ≡ sender.Lost → 0 < faults) → ((a : ℕ) → read ≡ reader.LeftAt a → sent ≡ sender.Sent → fixed ≡ 0) → fixed ≢ 0 → link_end_of read sent kicked ≡ end.Kicked at → 0 < faults
failed_if_kicked read sender.Lost kicked fixed faults at lost none some is = lost refl
failed_if_kicked read sender.NoMemory kicked fixed faults at lost none some is = absurd cc
failed_if_kicked reader.Ended sender.Sent kicked fixed faults at lost none some is = absurd cc
failed_if_kicked (reader.Refused why) sender.Sent kicked fixed faults at lost none some is = absurd cc
failed_if_kicked (reader.LeftAt a) sender.Sent kicked fixed faults at lost none some is = absurd (some (none a refl refl))
failed_if_kicked reader.Lost sender.Sent kicked fixed faults at lost none some is = absurd cc
failed_if_kicked reader.NoMemory sender.Sent kicked fixed faults at lost none some is = absurd cc

-- What the passes of a link fixed.
module _ (clients : ℕ) (table : FrameTable) (invite : Invite) (receiver : ReportReceiver) (coming : Option (List (List ℕ))) (c : ℕ) (piece : PieceState) (done : IsServedLink clients table invite receiver coming c piece) where
  is_own : done.before.seat.invite.client ≡ c
  is_own = ap (λ (i : Invite). i.client) done.is_new.told

  made_no_other : (d : ℕ) → d ≢ c → made_by piece.seat d ≡ 0
  made_no_other d apart =
      let elsewhere : d ≢ done.before.seat.invite.client = λ same. apart (same ∙ is_own) in
      let read : (standing piece.seat.reading.pass d).made ≡ 0 = ap (λ (r : Part). r.made) (done.serves.reads.column.others.parts d elsewhere).only ∙ done.is_new.seat.fixed_none d in
      let sent : (standing piece.seat.sending d).made ≡ 0 = so_others _ _ _ _ _ _ _ piece.seat.ends.sender done.serves.sends d elsewhere ∙ done.is_new.seat.sender_fixed_none d in
      omega arith

  made_none : (at : ℕ) → piece.seat.ends.reader ≡ reader.LeftAt at → piece.seat.ends.sender ≡ sender.Sent → made_by piece.seat c ≡ 0
  made_none at is sent_is =
      let reads = done.serves.reads in
      let me = done.before.seat.invite.client in
      let ends = subst (λ (r : ReaderEnd). SessionEnds me done.before.seat.invite.rules reads.taken reads.session reads.rest done.before.input piece.input (view_of done.before.seat.reading.pass) (view_of piece.seat.reading.pass) r) is reads.ends in
      let sends = subst (λ (s : SenderEnd). SendsSo done.before.seat.invite reads.taken done.before.output piece.output (view_of done.before.seat.sending) (view_of piece.seat.sending) piece.seat.ends.reader s) sent_is done.serves.sends in
      let read : (standing piece.seat.reading.pass me).made ≡ 0 = ends.0.none_made ∙ done.is_new.seat.fixed_none me in
      let sent : (standing piece.seat.sending me).made ≡ 0 = so_made _ _ _ _ _ _ _ sends me ∙ done.is_new.seat.sender_fixed_none me in
      subst (λ k. made_by piece.seat k ≡ 0) is_own (omega arith)

made_before : (clients : ℕ) (table : FrameTable) (invite : Invite) (receiver : ReportReceiver) (coming : Option (List (List ℕ))) (c : ℕ) (pieces : List PieceState) → AreServedLinks clients table invite receiver coming c pieces → (d : ℕ) → d < c → made_in pieces d ≡ 0
made_before clients table invite receiver coming c [] are d below = refl
made_before clients table invite receiver coming c (piece ∷ pieces) are d below =
    let here = made_no_other clients table invite receiver coming c piece are.0 d (λ same. absurd (omega arith)) in
    let rest = made_before clients table invite receiver coming (c + 1) pieces are.1 d (omega arith) in
    omega arith

-- So many links were handed back.
pub record HandedSoFar (table : FrameTable) (invite : Invite) (all left : List PieceState) (start pass : Pass) (first receiver : ReportReceiver) (net now : NetState) (flags : List Bool) (ends : List LinkEnd) (counts : List ℕ) (c : ℕ) : Type 0 where
  pub from : IsServePass invite.clients table start
  pub is : IsServePass invite.clients table pass
  pub known : (d : ℕ) → d < invite.clients → (standing pass d).known ≡ (standing start d).known
  pub closed : (d : ℕ) → d < invite.clients → (standing start d).known.left ≡ true
  pub shares : (view_of pass).share + shares_of left ≡ (view_of start).share + shares_of all
  pub made : (d : ℕ) → d < invite.clients → (standing pass d).made + made_in left d ≡ (standing start d).made + made_in all d
  pub alone : (coming : Option (List (List ℕ))) → AreServedLinks invite.clients table invite first coming 0 all → (d : ℕ) → c ≤ d → made_in all d ≡ made_in left d
  pub some : (coming : Option (List (List ℕ))) × AreServedLinks invite.clients table invite first coming c left
  pub done : (coming : Option (List (List ℕ))) → AreServedLinks invite.clients table invite first coming 0 all → AreServedLinks invite.clients table invite first coming c left
  pub few : c + length left ≡ invite.clients
  pub count : length (joined receiver) ≡ c
  pub heard_same : heard receiver ≡ heard first
  pub same : IsSameReceiver first receiver
  pub given : length now.given ≡ invite.clients
  pub coming_same : now.coming ≡ net.coming
  pub ends_long : length ends ≡ invite.clients
  pub counts_long : length counts ≡ invite.clients
  pub links : (coming : Option (List (List ℕ))) → AreServedLinks invite.clients table invite first coming 0 all → (d : ℕ) → d < c →
      LinkClosed d invite (columns_of start) (get_or (joined receiver) d []) coming (get_or flags d false) (made_in all d) (slice_get now.given d) (get_or ends d end.Memory) (get_or counts d 0)

pub handed_none : (table : FrameTable) (invite : Invite) (all : List PieceState) (pass : Pass) (receiver : ReportReceiver) (net : NetState) (flags : List Bool) (ends : List LinkEnd) (counts : List ℕ) → IsServePass invite.clients table pass → ((d : ℕ) → d < invite.clients → (standing pass d).known.left ≡ true) →
    (coming : Option (List (List ℕ))) × AreServedLinks invite.clients table invite receiver coming 0 all → length all ≡ invite.clients → length net.given ≡ invite.clients → joined receiver ≡ [] → length ends ≡ invite.clients → length counts ≡ invite.clients → HandedSoFar table invite all all pass pass receiver receiver net net flags ends counts 0
handed_none table invite all pass receiver net flags ends counts is closed some count given unjoined long counts_long =
    record {
      from = is;
      is = is;
      known = λ d below. refl;
      closed = closed;
      shares = refl;
      made = λ d below. refl;
      alone = λ coming are d later. refl;
      some = some;
      done = λ coming are. are;
      few = omega arith;
      count = ap length unjoined;
      heard_same = refl;
      same = record { queue = refl; ends = refl };
      given = given;
      coming_same = refl;
      ends_long = long;
      counts_long = counts_long;
      links = λ coming are d below. absurd (omega arith);
    }

module _ (table : FrameTable) (invite : Invite) (all rest : List PieceState) (piece : PieceState) (start p q : Pass) (first receiver after : ReportReceiver) (net now next : NetState) (flags : List Bool) (ends ends_after : List LinkEnd) (counts counts_after : List ℕ) (c : ℕ)
    (below : c < invite.clients) (far : HandedSoFar table invite all (piece ∷ rest) start p first receiver net now flags ends counts c) (closes : Closes invite.clients table piece.seat p q) (back : TakesBack c piece.input piece.output now next)
    (list : joined after ≡ joined receiver ++ pushed piece.seat.reading.reports ∷ []) (same_heard : heard after ≡ heard receiver) (same : IsSameReceiver receiver after) (noted : ends_after ≡ slice_set ends c (link_end_of piece.seat.ends.reader piece.seat.ends.sender (get_or flags c false))) (told : counts_after ≡ slice_set counts c piece.seat.reading.taken) where
  abbrev kicked : Bool
  kicked = get_or flags c false

  known_still : (d : ℕ) → d < invite.clients → (standing q d).known ≡ (standing start d).known
  known_still d less =
      let was = far.known d less in
      (closes.mine d less).closed (ap (λ (k : Column). k.left) was ∙ far.closed d less) ∙ was

  -- What the sender knew has grown to the final columns.
  grown : (d : ℕ) → d < invite.clients → GrowsTo (standing piece.seat.sending d).known (column_of (columns_of start) d)
  grown d less = subst (GrowsTo (standing piece.seat.sending d).known) (known_still d less ∙ sym (column_known (view_of start) d)) (closes.sends d less)

  long : length (columns_of start) ≡ invite.clients
  long = length_known (view_of start).marks ∙ far.from.of_table.marks ∙ far.from.count

  -- The column's own link has fixed what the links have.
  fixed_here : (coming : Option (List (List ℕ))) → AreServedLinks invite.clients table invite first coming 0 all → made_in all c ≡ made_by piece.seat c
  fixed_here coming are =
      let rest_none = made_before invite.clients table invite first coming (c + 1) rest (far.done coming are).1 c (omega arith) in
      let all_left = far.alone coming are c (omega arith) in
      omega arith

  fixed_later : (coming : Option (List (List ℕ))) → AreServedLinks invite.clients table invite first coming 0 all → (d : ℕ) → c + 1 ≤ d → made_in all d ≡ made_in rest d
  fixed_later coming are d later =
      let none = made_no_other invite.clients table invite first coming c piece (far.done coming are).0 d (λ same. absurd (omega arith)) in
      let all_left = far.alone coming are d (omega arith) in
      omega arith

  link_here : (coming : Option (List (List ℕ))) (fixed : ℕ) → fixed ≡ made_by piece.seat c → IsServedLink invite.clients table invite first coming c piece → LinkClosed c invite (columns_of start) (pushed piece.seat.reading.reports) coming kicked fixed (Some (Some (taken_back piece.input piece.output))) (link_end_of piece.seat.ends.reader piece.seat.ends.sender kicked) piece.seat.reading.taken
  link_here coming fixed fixed_is done =
      let before = done.before in
      let serves = done.serves in
      let new_link = done.is_new.link in
      let both = subst (λ (i : Invite). (r : ReadsLink i.client i.rules [] before.input piece.input (view_of before.seat.reading.pass) (view_of piece.seat.reading.pass) [] (pushed piece.seat.reading.reports) piece.seat.ends.reader)
      × SendsSo i r.taken before.output piece.output (view_of before.seat.sending) (view_of piece.seat.sending) piece.seat.ends.reader piece.seat.ends.sender × (piece.seat.reading.taken ≡ length r.taken)) done.is_new.told (serves.reads, serves.sends, serves.counted) in
      let reads = both.0 in
      let sends = both.1 in
      let counted = both.2 in
      let column = ap (λ (r : Part). r.known) reads.column.part in
      let whole = (closes.reads c below).closed (ap (λ (k : Column). k.left) column) ∙ column in
      let stays = subst (λ (i : Invite). AreOf i.client (pushed before.seat.reading.reports) → AreOf i.client (pushed piece.seat.reading.reports)) done.is_new.told serves.reports.own in
      let input_failed : Increased before.input.faults piece.input.faults → 0 < faults_taken_back (Some (Some (taken_back piece.input piece.output))) = λ rose. let none = new_link.no_input_faults in omega (arith, rose) in
      let output_failed : Increased before.output.faults piece.output.faults → 0 < faults_taken_back (Some (Some (taken_back piece.input piece.output))) = λ rose. let none = new_link.no_output_faults in omega (arith, rose) in
      let sender_failed : piece.seat.ends.sender ≡ sender.Lost → 0 < faults_taken_back (Some (Some (taken_back piece.input piece.output))) =
      λ lost. output_failed (so_lost (invite_of invite c) reads.taken before.output piece.output (view_of before.seat.sending) (view_of piece.seat.sending) piece.seat.ends.reader
      (subst (λ (s : SenderEnd). SendsSo (invite_of invite c) reads.taken before.output piece.output (view_of before.seat.sending) (view_of piece.seat.sending) piece.seat.ends.reader s) lost sends)) in
      let own_none : (at : ℕ) → piece.seat.ends.reader ≡ reader.LeftAt at → piece.seat.ends.sender ≡ sender.Sent → fixed ≡ 0 =
      λ at is sent. fixed_is ∙ made_none invite.clients table invite first coming c piece done at is sent in
      record {
        input = before.input;
        input_after = piece.input;
        output = before.output;
        output_after = piece.output;
        is_new = new_link;
        is_back = refl;
        bytes = reads.taken;
        took = reads.took;
        few = reads.few;
        counted = counted;
        session = reads.session;
        rest = reads.rest;
        makes = reads.makes;
        plays = column_known (view_of start) c ∙ sym (known_still c below) ∙ whole;
        ends = λ by.
            link_tells c invite.rules reads.taken reads.session reads.rest before.input piece.input (view_of before.seat.reading.pass) (view_of piece.seat.reading.pass) (faults_taken_back (Some (Some (taken_back piece.input piece.output)))) input_failed piece.seat.ends.reader piece.seat.ends.sender kicked reads.ends
            sender_failed (λ at is sent. by (own_none at is sent));
        failed = λ some at is. failed_if_kicked piece.seat.ends.reader piece.seat.ends.sender kicked fixed (faults_taken_back (Some (Some (taken_back piece.input piece.output)))) at sender_failed own_none some is;
        reports = reads.reports;
        own = stays (subst (λ l. AreOf c l) (sym done.is_new.seat.unpushed) tt);
        sends = so_by (invite_of invite c) (columns_of start) before.output piece.output (view_of before.seat.sending) (view_of piece.seat.sending) long grown reads.taken piece.seat.ends.reader piece.seat.ends.sender sends;
        sends_all = λ other none.
            so_all (invite_of invite c) (columns_of start) before.output piece.output (view_of before.seat.sending) (view_of piece.seat.sending) long grown reads.taken piece.seat.ends.reader piece.seat.ends.sender kicked (faults_taken_back (Some (Some (taken_back piece.input piece.output)))) sends output_failed other none;
      }

  before_or_at : (d : ℕ) → d < c + 1 → (d < c) ⊎ (d ≡ c)
  before_or_at d less = grind arith

  links_more : (coming : Option (List (List ℕ))) → AreServedLinks invite.clients table invite first coming 0 all → (d : ℕ) → (d < c) ⊎ (d ≡ c) → LinkClosed d invite (columns_of start) (get_or (joined after) d []) coming (get_or flags d false) (made_in all d) (slice_get next.given d) (get_or ends_after d end.Memory) (get_or counts_after d 0)
  links_more coming are d (inl less) =
      let listed : get_or (joined after) d [] ≡ get_or (joined receiver) d [] = ap (λ l. get_or l d []) list ∙ push_there (joined receiver) (pushed piece.seat.reading.reports) [] d (let k = far.count in omega arith) in
      let taken : slice_get next.given d ≡ slice_get now.given d = ap (λ l. slice_get l d) back.given ∙ set_there now.given c d (Some (taken_back piece.input piece.output)) less in
      let how : get_or ends_after d end.Memory ≡ get_or ends d end.Memory = ap (λ l. get_or l d end.Memory) noted ∙ read_there ends c d _ end.Memory less in
      let count : get_or counts_after d 0 ≡ get_or counts d 0 = ap (λ l. get_or l d 0) told ∙ read_there counts c d _ 0 less in
      let K : List Heard → Option (Option TakenBack) → LinkEnd → ℕ → Type 0 = λ a b e k. LinkClosed d invite (columns_of start) a coming (get_or flags d false) (made_in all d) b e k in
      subst (λ a. K a (slice_get next.given d) (get_or ends_after d end.Memory) (get_or counts_after d 0)) (sym listed)
      (subst (λ b. K (get_or (joined receiver) d []) b (get_or ends_after d end.Memory) (get_or counts_after d 0)) (sym taken)
      (subst (λ e. K (get_or (joined receiver) d []) (slice_get now.given d) e (get_or counts_after d 0)) (sym how)
      (subst (λ k. K (get_or (joined receiver) d []) (slice_get now.given d) (get_or ends d end.Memory) k) (sym count) (far.links coming are d less))))
  links_more coming are d (inr at) =
      let here = link_here coming (made_in all c) (fixed_here coming are) (far.done coming are).0 in
      let listed : get_or (joined after) c [] ≡ pushed piece.seat.reading.reports = ap (λ l. get_or l c []) list ∙ ap (λ k. get_or (joined receiver ++ pushed piece.seat.reading.reports ∷ []) k []) (sym far.count) ∙ push_here (joined receiver) (pushed piece.seat.reading.reports) [] in
      let taken : slice_get next.given c ≡ Some (Some (taken_back piece.input piece.output)) = ap (λ l. slice_get l c) back.given ∙ set_here now.given c (Some (taken_back piece.input piece.output)) (let g = far.given in omega arith) in
      let how : get_or ends_after c end.Memory ≡ link_end_of piece.seat.ends.reader piece.seat.ends.sender kicked = ap (λ l. get_or l c end.Memory) noted ∙ read_here ends c _ end.Memory (let g = far.ends_long in omega arith) in
      let count : get_or counts_after c 0 ≡ piece.seat.reading.taken = ap (λ l. get_or l c 0) told ∙ read_here counts c _ 0 (let g = far.counts_long in omega arith) in
      let K : List Heard → Option (Option TakenBack) → LinkEnd → ℕ → Type 0 = λ a b e k. LinkClosed c invite (columns_of start) a coming kicked (made_in all c) b e k in
      subst (λ e. LinkClosed e invite (columns_of start) (get_or (joined after) e []) coming (get_or flags e false) (made_in all e) (slice_get next.given e) (get_or ends_after e end.Memory) (get_or counts_after e 0)) (sym at)
      (subst (λ a. K a (slice_get next.given c) (get_or ends_after c end.Memory) (get_or counts_after c 0)) (sym listed)
      (subst (λ b. K (pushed piece.seat.reading.reports) b (get_or ends_after c end.Memory) (get_or counts_after c 0)) (sym taken)
      (subst (λ e. K (pushed piece.seat.reading.reports) (Some (Some (taken_back piece.input piece.output))) e (get_or counts_after c 0)) (sym how)
      (subst (λ k. K (pushed piece.seat.reading.reports) (Some (Some (taken_back piece.input piece.output))) (link_end_of piece.seat.ends.reader piece.seat.ends.sender kicked) k) (sym count) here))))

  handed_next : HandedSoFar table invite all rest start q first after net next flags ends_after counts_after (c + 1)
  handed_next =
      record {
        from = far.from;
        is = closes.is;
        known = known_still;
        closed = far.closed;
        shares = (let s = far.shares in let t = closes.share in omega arith);
        made = λ d less. (let was = far.made d less in let more = closes.made d less in omega arith);
        alone = λ coming are d later. fixed_later coming are d later;
        some = (far.some.0, far.some.1.1);
        done = λ coming are. (far.done coming are).1;
        few = (let f = far.few in omega arith);
        count = ap length list ∙ length-append (joined receiver) (pushed piece.seat.reading.reports ∷ []) ∙ ap (λ k. k + 1) far.count;
        heard_same = same_heard ∙ far.heard_same;
        same = record { queue = same.queue ∙ far.same.queue; ends = same.ends ∙ far.same.ends };
        given = ap length back.given ∙ set_long now.given c (Some (taken_back piece.input piece.output)) ∙ far.given;
        coming_same = back.coming ∙ far.coming_same;
        ends_long = ap length noted ∙ set_long ends c _ ∙ far.ends_long;
        counts_long = ap length told ∙ set_long counts c _ ∙ far.counts_long;
        links = λ coming are d less. links_more coming are d (before_or_at d less);
      }

-- The first of the links that are left.
pub handed_first : (table : FrameTable) (invite : Invite) (all xs ys : List PieceState) (x : PieceState) (start pass : Pass) (first receiver : ReportReceiver) (net now : NetState) (flags : List Bool) (ends : List LinkEnd) (counts : List ℕ) (c : ℕ) → HandedSoFar table invite all xs start pass first receiver net now flags ends counts c → c < invite.clients → x ≡ get_or xs 0 x → ys ≡ remove xs 0 → HandedSoFar table invite all (x ∷ ys) start pass first receiver net now flags ends counts c
handed_first table invite all xs ys x start pass first receiver net now flags ends counts c far below is rest =
    let few = far.few in
    subst (λ l. HandedSoFar table invite all l start pass first receiver net now flags ends counts c) (first_taken xs ys x (omega arith) is rest) far

pub first_reads : (table : FrameTable) (invite : Invite) (all ys : List PieceState) (x : PieceState) (start pass : Pass) (first receiver : ReportReceiver) (net now : NetState) (flags : List Bool) (ends : List LinkEnd) (counts : List ℕ) (c : ℕ) → HandedSoFar table invite all (x ∷ ys) start pass first receiver net now flags ends counts c → IsServePass invite.clients table x.seat.reading.pass × IsServePass invite.clients table x.seat.sending × (queue_of x.seat.reading.reports ≡ queue_heard receiver) × (number_of x.seat.reading.reports ≡ length (joined receiver))
first_reads table invite all ys x start pass first receiver net now flags ends counts c far =
    let done = far.some.1.0 in (
      done.serves.reading_pass,
      done.serves.sending_pass,
      done.serves.reports.same.queue ∙ done.is_new.queue ∙ sym far.same.queue,
      done.serves.reports.same.number ∙ done.is_new.number ∙ sym far.count,
    )

pub handed_more : (table : FrameTable) (invite : Invite) (all rest : List PieceState) (piece : PieceState) (start p q : Pass) (first receiver after : ReportReceiver) (net now next : NetState) (flags : List Bool) (ends ends_after : List LinkEnd) (counts counts_after : List ℕ) (c : ℕ) → c < invite.clients → HandedSoFar table invite all (piece ∷ rest) start p first receiver net now flags ends counts c → Closes invite.clients table piece.seat p q → TakesBack c piece.input piece.output now next →
    joined after ≡ joined receiver ++ pushed piece.seat.reading.reports ∷ [] → heard after ≡ heard receiver → IsSameReceiver receiver after → ends_after ≡ slice_set ends c (link_end_of piece.seat.ends.reader piece.seat.ends.sender (get_or flags c false)) → counts_after ≡ slice_set counts c piece.seat.reading.taken → HandedSoFar table invite all rest start q first after net next flags ends_after counts_after (c + 1)
handed_more table invite all rest piece start p q first receiver after net now next flags ends ends_after counts counts_after c below far closes back list same_heard same noted told =
    handed_next table invite all rest piece start p q first receiver after net now next flags ends ends_after counts counts_after c below far closes back list same_heard same noted told

-- All were handed back.
pub handed_shares : (table : FrameTable) (invite : Invite) (all left : List PieceState) (start pass : Pass) (first receiver : ReportReceiver) (net now : NetState) (flags : List Bool) (ends : List LinkEnd) (counts : List ℕ) (c : ℕ) → HandedSoFar table invite all left start pass first receiver net now flags ends counts c → invite.clients ≤ c → (view_of pass).share ≡ (view_of start).share + shares_of all
handed_shares table invite all [] start pass first receiver net now flags ends counts c far end = (let s = far.shares in omega arith)
handed_shares table invite all (x ∷ left) start pass first receiver net now flags ends counts c far end = absurd (let f = far.few in omega arith)

pub handed_made : (table : FrameTable) (invite : Invite) (all left : List PieceState) (start pass : Pass) (first receiver : ReportReceiver) (net now : NetState) (flags : List Bool) (ends : List LinkEnd) (counts : List ℕ) (c : ℕ) → HandedSoFar table invite all left start pass first receiver net now flags ends counts c → invite.clients ≤ c →
    (d : ℕ) → d < invite.clients → (standing pass d).made ≡ (standing start d).made + made_in all d
handed_made table invite all [] start pass first receiver net now flags ends counts c far end d below = (let m = far.made d below in omega arith)
handed_made table invite all (x ∷ left) start pass first receiver net now flags ends counts c far end d below = absurd (let f = far.few in omega arith)
