-- Links that are accepted one after another.
use Rattle.std.proofs.Common.{◌≡◌, ℕ, zero, suc, ◌+◌, ◌-◌, ◌*◌, ◌^◌, ◌<◌, ◌≤◌, List, [], ◌∷◌, ◌++◌, length, drop, get_or, Option, Some, None, refl, sym, ap, ap₂, ◌∙◌, subst, arith, length-append}
use Rattle.std.specs.Prelude.{remove}
use Rattle.std.specs.Option.{option_map}
use Rattle.game_io.specs.NetState.{NetState, IsNewLink}
use Rattle.frame_table.specs.declared.pass.Pass.{Pass}
use Rattle.frame_table.specs.declared.table.FrameTable.{FrameTable}
use Rattle.frame_table.specs.Calls.{view_of}
use Rattle.report_line.specs.declared.report_receiver.ReportReceiver.{ReportReceiver}
use Rattle.report_line.specs.declared.reports.Reports.{Reports}
use Rattle.report_line.specs.Reports.{AreNewEnds, IsNewEnd, queue_heard, queue_of, number_of, pushed}
use Rattle.match_net.specs.declared.invite.Invite.{Invite}
use Rattle.match_serve.specs.Passes.{IsOpening}
use Rattle.match_serve.specs.Seats.{PieceState, IsNewSeat, IsNewPiece, AreNewPieces, seat_share, shares_of, invite_of}
use Rattle.match_serve.proofs.PieceLemmas.{one_more, shares_push}

-- The ends that are left, the first of them with this number.
abbrev pub EndsFrom : ReportReceiver → ℕ → List Reports → Type 0
EndsFrom receiver c [] = Unit {0}
EndsFrom receiver c (end ∷ ends) = IsNewEnd (queue_heard receiver) c end × EndsFrom receiver (c + 1) ends

ends_from : (receiver : ReportReceiver) (c : ℕ) (ends : List Reports) → ((k : ℕ) (d : Reports) → k < length ends → IsNewEnd (queue_heard receiver) (c + k) (get_or ends k d)) → EndsFrom receiver c ends
ends_from receiver c [] each = tt
ends_from receiver c (e ∷ ends) each = (
  subst (λ k. IsNewEnd (queue_heard receiver) k e) (omega arith) (each 0 e (omega arith)),
  ends_from receiver (c + 1) ends (λ k d below. subst (λ j. IsNewEnd (queue_heard receiver) j (get_or ends k d)) (omega arith) (each (suc k) d (omega arith))),
)

-- So many links were accepted.
pub record AcceptedSoFar (table : FrameTable) (invite : Invite) (all left : List Reports) (pass : Pass) (net now : NetState) (pieces : List PieceState) (c : ℕ) : Type 0 where
  pub opening : IsOpening invite.clients table c pass
  pub some : (receiver : ReportReceiver) × AreNewEnds invite.clients all receiver
  pub ends : (receiver : ReportReceiver) → AreNewEnds invite.clients all receiver → EndsFrom receiver c left
  pub few : c + length left ≡ invite.clients
  pub pieces_are : (receiver : ReportReceiver) → AreNewEnds invite.clients all receiver → AreNewPieces invite.clients table invite receiver net.coming 0 pieces
  pub count : length pieces ≡ c
  pub shares : (view_of pass).share + shares_of pieces ≡ 2 ^ 62
  pub enough : 2 ^ (62 - c) ≤ (view_of pass).share
  pub given : length now.given ≡ c
  pub coming : now.coming ≡ option_map (drop c) net.coming
  pub later : net.faults ≤ now.faults

none_dropped : (coming : Option (List (List ℕ))) → coming ≡ option_map (drop 0) coming
none_dropped None = refl
none_dropped (Some links) = refl

one_dropped : (c : ℕ) (coming : Option (List (List ℕ))) → option_map (drop 1) (option_map (drop c) coming) ≡ option_map (drop (c + 1)) coming
one_dropped c None = refl
one_dropped c (Some links) = ap Some (dropped c links ∙ ap (λ k. drop k links) (let one : suc c ≡ c + 1 = omega arith in one))
  where
    dropped : (k : ℕ) (xs : List (List ℕ)) → drop 1 (drop k xs) ≡ drop (suc k) xs
    dropped zero xs = refl
    dropped (suc k) [] = refl
    dropped (suc k) (x ∷ xs) = dropped k xs

pub accepted_none : (table : FrameTable) (invite : Invite) (all : List Reports) (pass : Pass) (net : NetState) → IsOpening invite.clients table 0 pass → (view_of pass).share ≡ 2 ^ 62 → net.given ≡ [] → (receiver : ReportReceiver) × AreNewEnds invite.clients all receiver → AcceptedSoFar table invite all all pass net net [] 0
accepted_none table invite all pass net opening share none some =
    record {
      opening = opening;
      some = some;
      ends = λ receiver are. ends_from receiver 0 all (λ k d below. subst (λ j. IsNewEnd (queue_heard receiver) j (get_or all k d)) (omega arith) (are.each k d below));
      few = (let l = some.1.count_is in omega arith);
      pieces_are = λ receiver are. tt;
      count = refl;
      shares = omega arith;
      enough = omega arith;
      given = ap length none;
      coming = none_dropped net.coming;
      later = omega arith;
    }

doubled : (k : ℕ) → 2 ^ suc k ≡ 2 * 2 ^ k
doubled k = omega arith

pub four_left : (client share : ℕ) → client < 16 → 2 ^ (62 - client) ≤ share → 4 ≤ share
four_left client share few enough =
    let k = 60 - client in
    let here : 62 - client ≡ suc (suc k) = omega arith in
    let one : 1 ≤ 2 ^ k = power_pos k in
    let d = doubled (suc k) in
    let e = doubled k in
    let large : 2 ^ suc (suc k) ≤ share = subst (λ m. m ≤ share) (ap (λ m. 2 ^ m) here) enough in
    omega arith
  where
    power_pos : (k : ℕ) → 1 ≤ 2 ^ k
    power_pos zero = omega arith
    power_pos (suc k) = let d = doubled k in let rest = power_pos k in omega arith

half_left : (client old new : ℕ) → client < 16 → 2 ^ (62 - client) ≤ old → old ≤ 2 * new → 2 ^ (62 - (client + 1)) ≤ new
half_left client old new few enough half =
    let k = 61 - client in
    let here : 62 - client ≡ suc k = omega arith in
    let next : 62 - (client + 1) ≡ k = omega arith in
    let d = doubled k in
    let large : 2 * 2 ^ k ≤ old = subst (λ m. m ≤ old) (ap (λ m. 2 ^ m) here ∙ d) enough in
    subst (λ m. m ≤ new) (sym (ap (λ m. 2 ^ m) next)) (omega arith)

-- The first end that is left.
pub first_end : (table : FrameTable) (invite : Invite) (all : List Reports) (pass : Pass) (net now : NetState) (pieces : List PieceState) (c : ℕ) (end : Reports) (left : List Reports) → AcceptedSoFar table invite all (end ∷ left) pass net now pieces c → pushed end ≡ []
first_end table invite all pass net now pieces c end left far = (far.ends far.some.0 far.some.1).0.unpushed

pub accepted_more : (table : FrameTable) (invite : Invite) (all : List Reports) (p q : Pass) (net now next : NetState) (pieces after : List PieceState) (c : ℕ) (end : Reports) (left : List Reports) (piece : PieceState) → c < 16 → AcceptedSoFar table invite all (end ∷ left) p net now pieces c →
    IsOpening invite.clients table (c + 1) q → IsNewSeat invite.clients table piece.seat → piece.seat.invite ≡ invite_of invite c → piece.seat.reading.reports ≡ end → IsNewLink now.coming piece.input piece.output →
    (view_of q).share + seat_share piece.seat ≡ (view_of p).share → (view_of p).share ≤ 2 * (view_of q).share → next.given ≡ now.given ++ None ∷ [] → next.coming ≡ option_map (drop 1) now.coming → now.faults ≤ next.faults → after ≡ pieces ++ piece ∷ [] →
    AcceptedSoFar table invite all left q net next after (c + 1)
accepted_more table invite all p q net now next pieces after c end left piece few far opening seat told reports link shares half given coming later pushed =
    record {
      opening = opening;
      some = far.some;
      ends = λ receiver are. (far.ends receiver are).1;
      few = (let f = far.few in omega arith);
      pieces_are = λ receiver are.
          let new : IsNewPiece invite.clients table invite receiver net.coming c piece =
          record {
            seat = seat;
            told = told;
            queue = subst (λ e. queue_of e ≡ queue_heard receiver) (sym reports) (far.ends receiver are).0.queue_is;
            number = subst (λ e. number_of e ≡ c) (sym reports) (far.ends receiver are).0.number_is;
            link = subst (λ k. IsNewLink k piece.input piece.output) far.coming link;
          } in
          subst (AreNewPieces invite.clients table invite receiver net.coming 0) (sym pushed)
          (one_more invite.clients table invite receiver net.coming 0 pieces piece (far.pieces_are receiver are) (subst (λ k. IsNewPiece invite.clients table invite receiver net.coming k piece) (let l = far.count in omega arith) new));
      count = ap length pushed ∙ length-append pieces (piece ∷ []) ∙ ap (λ k. k + 1) far.count;
      shares = (let all_of = far.shares in let more = ap shares_of pushed ∙ shares_push pieces piece in omega arith);
      enough = half_left c (view_of p).share (view_of q).share few far.enough half;
      given = ap length given ∙ length-append now.given (None ∷ []) ∙ ap (λ k. k + 1) far.given;
      coming = coming ∙ ap (option_map (drop 1)) far.coming ∙ one_dropped c net.coming;
      later = (let l = far.later in omega arith);
    }

-- The first of a list was taken out.
pub taken_first : (xs ys : List Reports) (x : Reports) → 0 < length xs → x ≡ get_or xs 0 x → ys ≡ remove xs 0 → xs ≡ x ∷ ys
taken_first [] ys x some is rest = absurd (omega arith)
taken_first (y ∷ xs) ys x some is rest = ap₂ (λ (a : Reports) (b : List Reports). a ∷ b) (sym is) (sym rest)

pub accepted_first : (table : FrameTable) (invite : Invite) (all : List Reports) (pass : Pass) (net now : NetState) (pieces : List PieceState) (c : ℕ) (xs ys : List Reports) (x : Reports) → AcceptedSoFar table invite all xs pass net now pieces c → c < invite.clients → x ≡ get_or xs 0 x → ys ≡ remove xs 0 → AcceptedSoFar table invite all (x ∷ ys) pass net now pieces c
accepted_first table invite all pass net now pieces c xs ys x far below is rest =
    let few = far.few in
    subst (λ l. AcceptedSoFar table invite all l pass net now pieces c) (taken_first xs ys x (omega arith) is rest) far

pub two_left : (client share : ℕ) → client ≤ 16 → 2 ^ (62 - client) ≤ share → 2 ≤ share
two_left client share few enough =
    let k = 61 - client in
    let here : 62 - client ≡ suc k = omega arith in
    let one : 1 ≤ 2 ^ k = power_pos k in
    let d = doubled k in
    let large : 2 ^ suc k ≤ share = subst (λ m. m ≤ share) (ap (λ m. 2 ^ m) here) enough in
    omega arith
  where
    power_pos : (k : ℕ) → 1 ≤ 2 ^ k
    power_pos zero = omega arith
    power_pos (suc k) = let d = doubled k in let rest = power_pos k in omega arith
