-- The whole match, from what its parts did.
use Rattle.std.proofs.Common.{◌≡◌, ℕ, zero, suc, ◌+◌, ◌-◌, ◌/◌, ◌^◌, ◌<◌, ◌≤◌, ◌⊎◌, Bool, true, false, List, [], ◌∷◌, ◌++◌, length, map, take, drop, replicate, get_or, Option, Some, None, refl, sym, ap, ap₂, ◌∙◌, subst, inl, inr, arith}
use Rattle.std.specs.Prelude.{slice_get, All, IfSome}
use Rattle.std.specs.Option.{option_map}
use Rattle.std.specs.List.{list_any}
use Rattle.std.proofs.lemmas.Bool.{cases_lt, false≢true}
use Rattle.std.proofs.lemmas.List.Elements.{All-nil, All-cons}
use Rattle.game_io.specs.NetState.{NetState, TakenBack}
use Rattle.frame_core.specs.Column.{Column, column_of, length_of}
use Rattle.frame_core.specs.Grows.{GrowsTo}
use Rattle.frame_core.specs.Agreed.{IsAt}
use Rattle.frame_core.specs.Match.{Match}
use Rattle.server_core.specs.Board.{BoardState, reports_of}
use Rattle.server_core.specs.Served.{agreed_marks}
use Rattle.frame_table.specs.declared.view.View.{View}
use Rattle.frame_table.specs.declared.view.Mark.{Mark}
use Rattle.frame_table.specs.declared.pass.Pass.{Pass}
use Rattle.frame_table.specs.declared.table.FrameTable.{FrameTable}
use Rattle.frame_table.specs.Part.{no_mark}
use Rattle.frame_table.specs.Word.{whole_of}
use Rattle.frame_table.specs.Passes.{known_in, kept_view, given_view}
use Rattle.frame_table.specs.Calls.{plan_of, view_of, standing}
use Rattle.report_line.specs.declared.heard.Heard.{Heard}
use Rattle.report_line.specs.declared.report_receiver.ReportReceiver.{ReportReceiver}
use Rattle.report_line.specs.Order.{AreOf, of_client, IsInterleaving}
use Rattle.match_net.specs.declared.invite.Invite.{Invite}
use Rattle.match_net.specs.PieceTaking.{Took}
use Rattle.match_serve.specs.declared.link_end.LinkEnd.{LinkEnd}
use Rattle.match_serve.specs.declared.link_end.LinkEnd.TheVariants as end
use Rattle.match_serve.specs.Passes.{IsServePass, Learns, FixedNone, AllGone, columns_of}
use Rattle.match_serve.specs.Heard.{HasHeard, first_report}
use Rattle.match_serve.specs.Seats.{PieceState, IsNewSeat, AreNewPieces}
use Rattle.match_serve.specs.Ticks.{TicksAll}
use Rattle.game_io.specs.SourceState.{SourceState}
use Rattle.match_serve.specs.Console.{kicks_client, ConsoleRead, AreKicked}
use Rattle.match_serve.specs.Serve.{IsOver, IsGreatest, ServesLink, ServesMatch}
use Rattle.match_serve.specs.Closed.{LinkClosed}
use Rattle.match_serve.proofs.PassLemmas.{column_known, length_known}
use Rattle.match_serve.proofs.HeardLemmas.{heard_nothing}

same_columns : (xs ys : List Mark) → length ys ≡ length xs → ((c : ℕ) → c < length xs → known_in (get_or ys c no_mark) ≡ known_in (get_or xs c no_mark)) → map known_in ys ≡ map known_in xs
same_columns [] [] long each = refl
same_columns [] (y ∷ ys) long each = absurd (omega arith)
same_columns (x ∷ xs) [] long each = absurd (omega arith)
same_columns (x ∷ xs) (y ∷ ys) long each = ap₂ (λ (a : Column) (b : List Column). a ∷ b) (each 0 (omega arith)) (same_columns xs ys (omega arith) (λ c below. each (suc c) (omega arith)))

beyond : (lists : List (List Heard)) (k : ℕ) → length lists ≤ k → get_or lists k [] ≡ []
beyond [] k far = refl
beyond (l ∷ lists) zero far = absurd (omega arith)
beyond (l ∷ lists) (suc k) far = beyond lists k (omega arith)

-- The passes: when all frames were ticked; when the console's was joined; when the links were handed
-- back; and when each client was let go, who had left before.
module _ (clients : ℕ) (table : FrameTable) (ticked joined handed gone : Pass) (of_ticked : IsServePass clients table ticked) (of_gone : IsServePass clients table gone)
    (left : (c : ℕ) → c < clients → (standing ticked c).known.left ≡ true) (mine : (c : ℕ) → c < clients → GrowsTo (standing ticked c).known (standing joined c).known)
    (same : (c : ℕ) → c < clients → (standing handed c).known ≡ (standing joined c).known) (all : AllGone clients (view_of handed) (view_of gone)) where
  pub joined_known : (c : ℕ) → c < clients → (standing joined c).known ≡ (standing ticked c).known
  joined_known c below = (mine c below).closed (left c below)

  pub gone_known : (c : ℕ) → c < clients → (standing gone c).known ≡ (standing ticked c).known
  gone_known c below =
      let handed_known = same c below ∙ joined_known c below in
      (all.known c).closed (ap (λ (k : Column). k.left) handed_known ∙ left c below) ∙ handed_known

  pub columns_same : columns_of gone ≡ columns_of ticked
  columns_same =
      same_columns (view_of ticked).marks (view_of gone).marks (of_gone.of_table.marks ∙ sym of_ticked.of_table.marks)
      (λ c below. gone_known c (let m = of_ticked.of_table.marks in let k = of_ticked.count in omega arith))

  pub columns_joined : IsServePass clients table joined → columns_of gone ≡ columns_of joined
  columns_joined of_joined =
      same_columns (view_of joined).marks (view_of gone).marks (of_gone.of_table.marks ∙ sym of_joined.of_table.marks)
      (λ c below. let less : c < clients = (let m = of_joined.of_table.marks in let k = of_joined.count in omega arith) in gone_known c less ∙ sym (joined_known c less))

  pub over : (view_of gone).share ≡ 2 ^ 62 → IsOver clients table gone
  over share =
      record {
        of_table = of_gone.of_table;
        count = of_gone.count;
        columns = length_known (view_of gone).marks ∙ of_gone.of_table.marks ∙ of_gone.count;
        share = share;
        seen = λ c below. all.reach c below ∙ sym (ap whole_of (column_known (view_of gone) c));
        known = λ c below. sym (column_known (view_of gone) c);
        left = λ c below. ap (λ (k : Column). k.left) (column_known (view_of gone) c) ∙ all.left c below;
      }

  pub greatest : {W : Type 0} (m : Match W) (old : View) (wanted : List ℕ) (n : ℕ) (world : W) → TicksAll m clients old (view_of ticked) wanted n world → IsGreatest clients (columns_of gone) n
  greatest m old wanted n world ticks =
      record {
        most = λ c below. subst (λ (k : Column). length_of k ≤ n) (sym (column_known (view_of gone) c ∙ gone_known c below)) (ticks.left.few c below);
        reached = reach ticks.reached;
      }
    where
      reach : (n ≡ 0) ⊎ ((c : ℕ) × (c < clients) × (n ≤ length_of (standing ticked c).known)) → (n ≡ 0) ⊎ ((c : ℕ) × (c < clients) × (n ≤ length_of (column_of (columns_of gone) c)))
      reach (inl none) = inl none
      reach (inr (c, below, has)) = inr (c, below, subst (λ (k : Column). n ≤ length_of k) (sym (column_known (view_of gone) c ∙ gone_known c below)) has)

-- What was taken of observable bytes are their first ones.
first_ones : (old new : Option (List ℕ)) (bytes : List ℕ) (count : ℕ) → Took old new bytes → count ≡ length bytes → IfSome old (λ observed. bytes ≡ take count observed)
first_ones None new bytes count took counted = tt
first_ones (Some observed) None bytes count took counted = absurd cc
first_ones (Some observed) (Some left) bytes count took counted =
    let all : observed ≡ bytes ++ left = cc in
    sym (ap₂ (λ (k : ℕ) (l : List ℕ). take k l) counted all ∙ front bytes left)
  where
    front : (xs ys : List ℕ) → take (length xs) (xs ++ ys) ≡ xs
    front [] ys = refl
    front (x ∷ xs) ys = ap (λ l. x ∷ l) (front xs ys)

-- A link, with what was heard over it.
served_link : (c : ℕ) (invite : Invite) (columns : List Column) (reports : List (List (Option ℕ))) (clients : ℕ) (heard : List Heard) (lists : List (List Heard)) (coming : Option (List (List ℕ))) (kicked : Bool) (fixed : ℕ) (back : Option (Option TakenBack)) (how : LinkEnd) (count : ℕ) → c < clients → LinkClosed c invite columns (get_or lists c []) coming kicked fixed back how count → (fixed ≡ 0 → kicked ≡ true) → HasHeard clients reports heard → of_client c heard ≡ get_or lists c [] → ServesLink c invite columns (reports_of reports c) coming kicked back how count
served_link c invite columns reports clients heard lists coming kicked fixed back how count below closed by has listed =
    record {
      input = closed.input;
      input_after = closed.input_after;
      output = closed.output;
      output_after = closed.output_after;
      is_new = closed.is_new;
      is_back = closed.is_back;
      bytes = closed.bytes;
      took = closed.took;
      few = closed.few;
      counted = closed.counted;
      first = first_ones closed.input.left closed.input_after.left closed.bytes count closed.took closed.counted;
      session = closed.session;
      rest = closed.rest;
      makes = closed.makes;
      column = closed.plays;
      ends = closed.ends by;
      kept = λ n within. has c n below within ∙ ap (λ l. first_report l n) (listed ∙ closed.reports);
      sends = closed.sends;
      sends_all = closed.sends_all;
    }

-- Of each column one departure was fixed: by the console's pass, which fixed it only of clients that
-- were kicked, or by those of the links.
fixed_or_kicked : (kicked : Bool) (ticked watched joined fixed handed : ℕ) → ticked ≡ 0 → (kicked ≡ false → watched ≡ 0) → joined ≡ ticked + watched → handed ≡ joined + fixed → handed ≡ 1 → fixed ≡ 0 → kicked ≡ true
fixed_or_kicked true ticked watched joined fixed handed a b c d e f = refl
fixed_or_kicked false ticked watched joined fixed handed a b c d e f = absurd (let none = b refl in omega arith)

pub fixed_by : (clients : ℕ) (kicks : ℕ → Bool) (opening ticked began watched joined handed : Pass) (fixed : ℕ → ℕ) → FixedNone (view_of opening) → Learns (view_of opening) (view_of ticked) → FixedNone (view_of began) → ((c : ℕ) → c < clients → kicks c ≡ false → (standing watched c).made ≡ (standing began c).made) →
    ((c : ℕ) → c < clients → (standing joined c).made ≡ (standing ticked c).made + (standing watched c).made) → ((c : ℕ) → c < clients → (standing handed c).made ≡ (standing joined c).made + fixed c) → ((c : ℕ) → c < clients → (standing handed c).made ≡ 1) →
    (c : ℕ) → c < clients → fixed c ≡ 0 → kicks c ≡ true
fixed_by clients kicks opening ticked began watched joined handed fixed none learns none_began stays joins hands one c below =
    fixed_or_kicked (kicks c) (standing ticked c).made (standing watched c).made (standing joined c).made (fixed c) (standing handed c).made
    (learns.made c ∙ none c) (λ not. stays c below not ∙ none_began c) (joins c below) (hands c below) (one c below)

-- Links that are new may be served.
pub may_serve : (clients : ℕ) (table : FrameTable) (invite : Invite) (receiver : ReportReceiver) (coming : Option (List (List ℕ))) (c : ℕ) (pieces : List PieceState) → AreNewPieces clients table invite receiver coming c pieces → All (λ piece. IsNewSeat piece.seat.invite.clients table piece.seat) pieces
may_serve clients table invite receiver coming c [] are = All-nil (λ piece. IsNewSeat piece.seat.invite.clients table piece.seat)
may_serve clients table invite receiver coming c (piece ∷ pieces) are =
    All-cons (λ p. IsNewSeat p.seat.invite.clients table p.seat) piece pieces
    (subst (λ k. IsNewSeat k table piece.seat) (sym are.0.seat.clients_are) are.0.seat)
    (may_serve clients table invite receiver coming (c + 1) pieces are.1)

-- All of it.
pub serves : {W : Type 0} (m : Match W) (invite : Invite) (coming : Option (List (List ℕ))) (console_old console_new : SourceState) (read : ConsoleRead console_old console_new) (net : NetState) (table : FrameTable) (old : View) (ticked joined handed gone : Pass) (noted board : BoardState) (ends : List LinkEnd) (taken : List ℕ) (n : ℕ) (world : W) (heard : List Heard) (lists : List (List Heard)) (kicked : List Bool) (fixed : ℕ → ℕ) →
    IsServePass invite.clients table ticked → IsServePass invite.clients table joined → IsServePass invite.clients table gone → TicksAll m invite.clients old (view_of ticked) noted.wanted n world → ((c : ℕ) → c < invite.clients → GrowsTo (standing ticked c).known (standing joined c).known) →
    ((c : ℕ) → c < invite.clients → (standing handed c).known ≡ (standing joined c).known) → AllGone invite.clients (view_of handed) (view_of gone) → (view_of gone).share ≡ 2 ^ 62 →
    board.wanted ≡ noted.wanted → length board.reports ≡ invite.clients → length net.given ≡ invite.clients → net.coming ≡ option_map (drop invite.clients) coming → length ends ≡ invite.clients → length taken ≡ invite.clients →
    ((c : ℕ) → c < invite.clients → LinkClosed c invite (columns_of joined) (get_or lists c []) coming (get_or kicked c false) (fixed c) (slice_get net.given c) (get_or ends c end.Memory) (get_or taken c 0)) → AreKicked invite.clients read.bytes kicked → ((c : ℕ) → c < invite.clients → fixed c ≡ 0 → get_or kicked c false ≡ true) → ((c : ℕ) → c < invite.clients → fixed c ≡ 0 → list_any (kicks_client c) read.before ≡ true) → HasHeard invite.clients board.reports heard → length lists ≡ invite.clients → IsInterleaving heard lists →
    ((all : List Heard) (each : List (List Heard)) → IsInterleaving all each → ((k : ℕ) → AreOf k (get_or each k [])) → (c : ℕ) → of_client c all ≡ get_or each c []) →
    ServesMatch m invite coming console_old console_new net world n table gone board ends taken
serves m invite coming console_old console_new read net table old ticked joined handed gone noted board ends taken n world heard lists kicked fixed of_ticked of_joined of_gone ticks mine same all share wanted boards given still long counts_long links kicked_are by by_before has count between law =
    let clients = invite.clients in
    let left = ticks.left.left in
    let columns = columns_same clients table ticked joined handed gone of_ticked of_gone left mine same all in
    let as_joined = columns_joined clients table ticked joined handed gone of_ticked of_gone left mine same all of_joined in
    let own : (k : ℕ) → AreOf k (get_or lists k []) = λ k. by_place k (cases_lt k (length lists)) in
    record {
      console = read;
      over = over clients table ticked joined handed gone of_ticked of_gone left mine same all share;
      greatest = greatest clients table ticked joined handed gone of_ticked of_gone left mine same all m old noted.wanted n world ticks;
      at = subst (λ l. IsAt m.after m.start l n world) (sym columns) ticks.ticked.at;
      marks = wanted ∙ ticks.ticked.marks ∙ ap (λ l. agreed_marks m l n) (sym columns);
      boards = boards;
      links_given = given;
      still_coming = still;
      ends_count = long;
      taken_count = counts_long;
      links = λ c below.
          subst (λ k. ServesLink c invite (columns_of gone) (reports_of board.reports c) coming k (slice_get net.given c) (get_or ends c end.Memory) (get_or taken c 0)) (kicked_are c below)
          (served_link c invite (columns_of gone) board.reports clients heard lists coming (get_or kicked c false) (fixed c) (slice_get net.given c) (get_or ends c end.Memory) (get_or taken c 0) below
          (subst (λ l. LinkClosed c invite l (get_or lists c []) coming (get_or kicked c false) (fixed c) (slice_get net.given c) (get_or ends c end.Memory) (get_or taken c 0)) (sym as_joined) (links c below)) (by c below) has (law heard lists between own c));
      late = λ c at below is none. (links c below).failed (λ zero. false≢true (sym none ∙ by_before c below zero)) at is;
    }
  where
    by_place : (k : ℕ) → (k < length lists) ⊎ (length lists ≤ k) → AreOf k (get_or lists k [])
    by_place k (inl below) = (links k (omega arith)).own
    by_place k (inr far) = subst (λ l. AreOf k l) (sym (beyond lists k far)) tt

pub joined_left : (clients : ℕ) (table : FrameTable) (ticked joined : Pass) → IsServePass clients table ticked → ((c : ℕ) → c < clients → (standing ticked c).known.left ≡ true) → ((c : ℕ) → c < length (plan_of table) → GrowsTo (standing ticked c).known (standing joined c).known) → (c : ℕ) → c < clients → (standing joined c).known.left ≡ true
joined_left clients table ticked joined is left mine c below =
    ap (λ (k : Column). k.left) ((mine c (let count = is.count in omega arith)).closed (left c below)) ∙ left c below

pub joined_grows : (clients : ℕ) (table : FrameTable) (ticked joined : Pass) → IsServePass clients table ticked → ((c : ℕ) → c < length (plan_of table) → GrowsTo (standing ticked c).known (standing joined c).known) → (c : ℕ) → c < clients → GrowsTo (standing ticked c).known (standing joined c).known
joined_grows clients table ticked joined is mine c below = mine c (let count = is.count in omega arith)

pub hears_nothing : (clients : ℕ) (reports : List (List (Option ℕ))) (heard : List Heard) → reports ≡ replicate clients [] → heard ≡ [] → HasHeard clients reports heard
hears_nothing clients reports heard are none = subst (λ r. HasHeard clients r heard) (sym are) (subst (λ h. HasHeard clients (replicate clients []) h) (sym none) (heard_nothing clients))

pub still_heard : (clients count : ℕ) (reports : List (List (Option ℕ))) (before after : List Heard) → HasHeard clients reports before → after ≡ before → count ≡ clients → HasHeard count reports after
still_heard clients count reports before after has same is = subst (λ k. HasHeard k reports after) (sym is) (subst (λ h. HasHeard clients reports h) (sym same) has)

pub split_shares : (p q r : Pass) → view_of q ≡ kept_view (view_of p) → view_of r ≡ given_view (view_of p) → (view_of q).share + (view_of r).share ≡ (view_of p).share
split_shares p q r kept given =
    let mine : (view_of q).share ≡ (view_of p).share - (view_of p).share / 2 = ap (λ (v : View). v.share) kept in
    let theirs : (view_of r).share ≡ (view_of p).share / 2 = ap (λ (v : View). v.share) given in
    omega arith

pub total : (start kept given ran watched joined handed gone pieces after : ℕ) → kept + given ≡ start → ran ≡ kept → watched ≡ given → joined ≡ ran + watched → handed ≡ joined + after → gone ≡ handed → after ≡ pieces → start + pieces ≡ 2 ^ 62 → gone ≡ 2 ^ 62
total start kept given ran watched joined handed gone pieces after a b c d e f g h = omega arith
