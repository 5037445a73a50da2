-- The links, one by one.
use Rattle.std.proofs.Common.{◌≡◌, ℕ, suc, ◌+◌, ◌<◌, List, [], ◌∷◌, ◌++◌, length, take, drop, get_or, Option, refl, sym, ap, ap₂, ◌∙◌, subst, arith}
use Rattle.frame_table.specs.declared.table.FrameTable.{FrameTable}
use Rattle.report_line.specs.declared.report_receiver.ReportReceiver.{ReportReceiver}
use Rattle.report_line.specs.Reports.{queue_heard}
use Rattle.match_net.specs.declared.invite.Invite.{Invite}
use Rattle.match_serve.specs.Seats.{PieceState, ServesSeat, AreServed, IsNewPiece, AreNewPieces, AreServedLinks, seat_share, shares_of}

pub pairs : (table : FrameTable) (xs ys : List PieceState) → length ys ≡ length xs → ((i : ℕ) (d : PieceState) → i < length xs → ServesSeat (get_or xs i d).seat.invite.clients table (get_or xs i d).seat (get_or ys i d).seat (get_or xs i d).input (get_or ys i d).input (get_or xs i d).output (get_or ys i d).output) → AreServed table xs ys
pairs table [] [] long each = tt
pairs table [] (y ∷ ys) long each = absurd (omega arith)
pairs table (x ∷ xs) [] long each = absurd (omega arith)
pairs table (x ∷ xs) (y ∷ ys) long each = (each 0 x (omega arith), pairs table xs ys (omega arith) (λ i d below. each (suc i) d (omega arith)))

-- They were all served.
pub all_done : (clients : ℕ) (table : FrameTable) (invite : Invite) (receiver : ReportReceiver) (coming : Option (List (List ℕ))) (c : ℕ) (olds news : List PieceState) → AreNewPieces clients table invite receiver coming c olds → AreServed table olds news →
    AreServedLinks clients table invite receiver coming c news × (length news ≡ length olds) × (shares_of news ≡ shares_of olds)
all_done clients table invite receiver coming c [] [] are served = (tt, refl, refl)
all_done clients table invite receiver coming c [] (y ∷ ys) are served = absurd served
all_done clients table invite receiver coming c (x ∷ xs) [] are served = absurd served
all_done clients table invite receiver coming c (x ∷ xs) (y ∷ ys) are served =
    let rest = all_done clients table invite receiver coming (c + 1) xs ys are.1 served.1 in
    let serves = subst (λ k. ServesSeat k table x.seat y.seat x.input y.input x.output y.output) are.0.seat.clients_are served.0 in (
      (record { before = x; is_new = are.0; serves = serves }, rest.0),
      ap suc rest.1,
      ap₂ (λ (a b : ℕ). a + b) (ap₂ (λ (a b : ℕ). a + b) serves.reading_share serves.sending_share) rest.2,
    )

-- One more link is accepted.
pub one_more : (clients : ℕ) (table : FrameTable) (invite : Invite) (receiver : ReportReceiver) (coming : Option (List (List ℕ))) (c : ℕ) (pieces : List PieceState) (piece : PieceState) → AreNewPieces clients table invite receiver coming c pieces → IsNewPiece clients table invite receiver coming (c + length pieces) piece → AreNewPieces clients table invite receiver coming c (pieces ++ piece ∷ [])
one_more clients table invite receiver coming c [] piece are new = (subst (λ k. IsNewPiece clients table invite receiver coming k piece) (omega arith) new, tt)
one_more clients table invite receiver coming c (p ∷ pieces) piece are new = (are.0, one_more clients table invite receiver coming (c + 1) pieces piece are.1 (subst (λ k. IsNewPiece clients table invite receiver coming k piece) (omega arith) new))

pub shares_push : (pieces : List PieceState) (piece : PieceState) → shares_of (pieces ++ piece ∷ []) ≡ shares_of pieces + seat_share piece.seat
shares_push [] piece = omega arith
shares_push (p ∷ pieces) piece = let rest = shares_push pieces piece in omega arith

pub changed : (table : FrameTable) (x y a b : PieceState) → a ≡ x → b ≡ y → ServesSeat a.seat.invite.clients table a.seat b.seat a.input b.input a.output b.output → ServesSeat x.seat.invite.clients table x.seat y.seat x.input y.input x.output y.output
changed table x y a b first second serves =
    let R : PieceState → PieceState → Type 0 = λ p q. ServesSeat p.seat.invite.clients table p.seat q.seat p.input q.input p.output q.output in
    subst (λ p. R p y) first (subst (λ q. R a q) second serves)

-- Another view of the same queue's receiver.
pub pieces_for : (clients : ℕ) (table : FrameTable) (invite : Invite) (receiver other : ReportReceiver) (coming : Option (List (List ℕ))) (c : ℕ) (pieces : List PieceState) → queue_heard other ≡ queue_heard receiver → AreNewPieces clients table invite receiver coming c pieces → AreNewPieces clients table invite other coming c pieces
pieces_for clients table invite receiver other coming c [] same are = tt
pieces_for clients table invite receiver other coming c (piece ∷ pieces) same are = (
  record { seat = are.0.seat; told = are.0.told; queue = are.0.queue ∙ sym same; number = are.0.number; link = are.0.link },
  pieces_for clients table invite receiver other coming (c + 1) pieces same are.1,
)

-- What was lent as a slice and changed there.
pub written_back : {A : Type 0} (items new : List A) (len : ℕ) → len ≡ length items → length new ≡ length items → take len (new ++ drop (length new) items) ≡ new
written_back {A = A} items new len long same = ap (λ k. take k (new ++ drop (length new) items)) (long ∙ sym same) ∙ front new (drop (length new) items)
  where
    front : (xs ys : List A) → take (length xs) (xs ++ ys) ≡ xs
    front [] ys = refl
    front (x ∷ xs) ys = ap (λ l. x ∷ l) (front xs ys)

pub done_back : (clients : ℕ) (table : FrameTable) (invite : Invite) (receiver other : ReportReceiver) (coming : Option (List (List ℕ))) (olds slice news : List PieceState) (len : ℕ) → slice ≡ olds → length slice ≡ len → queue_heard other ≡ queue_heard receiver → AreNewPieces clients table invite receiver coming 0 olds → AreServed table slice news →
    AreServedLinks clients table invite other coming 0 (take len (news ++ drop (length news) olds)) × (shares_of (take len (news ++ drop (length news) olds)) ≡ shares_of olds)
done_back clients table invite receiver other coming olds slice news len is long same are served =
    let done = all_done clients table invite other coming 0 olds news (pieces_for clients table invite receiver other coming 0 olds same are) (subst (λ l. AreServed table l news) is served) in
    let back = written_back olds news len (sym long ∙ ap length is) done.1 in
    (subst (AreServedLinks clients table invite other coming 0) (sym back) done.0, ap shares_of back ∙ done.2)
