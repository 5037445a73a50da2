-- The ticking thread.
use Rattle.std.proofs.Common.{◌≡◌, ℕ, zero, suc, ◌+◌, ◌<◌, ◌≤◌, ◌⊎◌, Bool, true, false, List, [], ◌∷◌, ◌++◌, length, map, get_or, refl, sym, ap, ap₂, ◌∙◌, subst, inl, inr, arith, Some, add-one, length-append}
use Rattle.std.specs.Prelude.{slice_get}
use Rattle.game_orders.specs.declared.order.Order.{Order}
use Rattle.game_orders.specs.declared.entry.Entry.{Entry}
use Rattle.game_orders.specs.declared.entry.Entry.TheVariants.{Play, Leave}
use Rattle.frame_core.specs.Column.{Column, has_at, entry_from, length_of}
use Rattle.frame_core.specs.Ready.{or_leave, each_at, inputs_of, ready_at, frame_at, frame_of}
use Rattle.frame_core.specs.Input.{ready_from, input_of}
use Rattle.frame_core.specs.declared.ready.Ready.{Ready}
use Rattle.frame_core.specs.declared.ready.Ready.TheVariants.{Yes, Over}
use Rattle.frame_core.specs.Agreed.{IsAt}
use Rattle.frame_core.proofs.AgreedLemmas.{opening_is_at, grow_is_at, tick_is_at}
use Rattle.frame_core.specs.Match.{Match}
use Rattle.server_core.specs.Board.{BoardState}
use Rattle.server_core.specs.Served.{agreed_marks}
use Rattle.server_core.proofs.ServedLemmas.{marks_stay}
use Rattle.frame_table.specs.declared.view.View.{View}
use Rattle.frame_table.specs.declared.view.Mark.{Mark}
use Rattle.frame_table.specs.declared.pass.Pass.{Pass}
use Rattle.frame_table.specs.declared.table.FrameTable.{FrameTable}
use Rattle.frame_table.specs.Part.{Part, part_of, no_mark}
use Rattle.frame_table.specs.Passes.{known_in}
use Rattle.frame_table.specs.Word.{whole_of}
use Rattle.frame_table.specs.Rule.{IsReach}
use Rattle.frame_table.specs.Calls.{view_of, standing, IsPassOf, HasSeen, Acted, TakesSo, IsLater, MeansReadySeen}
use Rattle.match_serve.specs.Passes.{IsServePass, Learns, columns_known}
use Rattle.report_line.specs.declared.report_receiver.ReportReceiver.{ReportReceiver}
use Rattle.report_line.specs.Reports.{heard, joined, IsSameReceiver}
use Rattle.match_serve.specs.Heard.{HasHeard}
use Rattle.match_serve.specs.Ticks.{EntryTaken, FrameTaken, IsTicked, Reached, TicksOnce, TicksAll}
use Rattle.match_serve.proofs.PassLemmas.{learns_refl, learns_trans, learned_pass, acted_learns, later_learns, learns_grow}

-- A frame that is taken entry by entry.
get_before : (xs : List Entry) (e : Entry) (d : ℕ) → d < length xs → get_or (xs ++ e ∷ []) d Leave ≡ get_or xs d Leave
get_before [] e d below = absurd (omega arith)
get_before (x ∷ xs) e zero below = refl
get_before (x ∷ xs) e (suc d) below = get_before xs e d (omega arith)

get_last : (xs : List Entry) (e : Entry) → get_or (xs ++ e ∷ []) (length xs) Leave ≡ e
get_last [] e = refl
get_last (x ∷ xs) e = get_last xs e

length_push : (xs : List Entry) (e : Entry) → length (xs ++ e ∷ []) ≡ length xs + 1
length_push [] e = refl
length_push (x ∷ xs) e = let rest = length_push xs e in omega arith

-- The frame of client 0 to c - 1 was taken.
pub record TakenSoFar (clients : ℕ) (table : FrameTable) (start pass : Pass) (n c : ℕ) (frame : List Entry) : Type 0 where
  pub is : IsServePass clients table pass
  pub learns : Learns (view_of start) (view_of pass)
  pub rest : (d : ℕ) → c ≤ d → standing pass d ≡ standing start d
  pub count : length frame ≡ c
  pub each : (d : ℕ) → d < c → EntryTaken n (standing start d) (standing pass d) (get_or frame d Leave)

pub take_none : (clients : ℕ) (table : FrameTable) (pass : Pass) (n : ℕ) → IsServePass clients table pass → TakenSoFar clients table pass pass n 0 []
take_none clients table pass n is =
    record { is = is; learns = learns_refl (view_of pass); rest = λ d from. refl; count = refl; each = λ d below. absurd (omega arith) }

before_or_at : (c d : ℕ) → d < c + 1 → (d < c) ⊎ (d ≡ c)
before_or_at c d below = grind arith

module _ (clients : ℕ) (table : FrameTable) (start p q : Pass) (n c : ℕ) (frame after : List Entry) (e : Entry) (below : c < clients) (far : TakenSoFar clients table start p n c frame) (of_table : IsPassOf table q) (K : Column) (acted : Acted c (view_of p) (view_of q) K K) (has : has_at K n ≡ Some e) (pushed : after ≡ frame ++ e ∷ []) where
  taken_here : EntryTaken n (standing start c) (standing q c) (get_or after c Leave)
  taken_here =
      let last : get_or after c Leave ≡ e = ap (λ xs. get_or xs c Leave) pushed ∙ ap (λ i. get_or (frame ++ e ∷ []) i Leave) (sym far.count) ∙ get_last frame e in
      let known : (standing q c).known ≡ K = ap (λ (r : Part). r.known) acted.part in
      record {
        has = ap (λ k. has_at k n) known ∙ has ∙ ap Some (sym last);
        reach = ap (λ (r : Part). r.reach) acted.part ∙ ap whole_of (sym known);
        from = subst (λ (k : Column). IsReach k (standing start c).reach) (sym known) (subst (λ (r : Part). IsReach K r.reach) (far.rest c (omega arith)) acted.found.reach);
      }

  taken_before : (d : ℕ) → d < c → EntryTaken n (standing start d) (standing q d) (get_or after d Leave)
  taken_before d less =
      let entry : get_or after d Leave ≡ get_or frame d Leave = ap (λ xs. get_or xs d Leave) pushed ∙ get_before frame e d (let l = far.count in omega arith) in
      let stays : standing q d ≡ standing p d = acted.others.2 d (λ same. absurd (omega arith)) in
      subst (λ (x : Entry). EntryTaken n (standing start d) (standing q d) x) (sym entry)
      (subst (λ (r : Part). EntryTaken n (standing start d) r (get_or frame d Leave)) (sym stays) (far.each d less))

  taken_each : (d : ℕ) → (d < c) ⊎ (d ≡ c) → EntryTaken n (standing start d) (standing q d) (get_or after d Leave)
  taken_each d (inl less) = taken_before d less
  taken_each d (inr same) = subst (λ i. EntryTaken n (standing start i) (standing q i) (get_or after i Leave)) (sym same) taken_here

  taken_next : TakenSoFar clients table start q n (c + 1) after
  taken_next =
      let learns = acted_learns c (view_of p) (view_of q) K acted in
      record {
        is = learned_pass clients table p q far.is of_table learns;
        learns = learns_trans (view_of start) (view_of p) (view_of q) far.learns learns;
        rest = λ d from. acted.others.2 d (λ same. absurd (omega arith)) ∙ far.rest d (omega arith);
        count = ap length pushed ∙ length_push frame e ∙ ap (λ k. k + 1) far.count;
        each = λ d less. taken_each d (before_or_at c d less);
      }

pub take_more : (clients : ℕ) (table : FrameTable) (start p q : Pass) (n c : ℕ) (frame after : List Entry) (e : Entry) → c < clients → TakenSoFar clients table start p n c frame → IsPassOf table q →
    TakesSo c (view_of p) (view_of q) n e → after ≡ frame ++ e ∷ [] → TakenSoFar clients table start q n (c + 1) after
take_more clients table start p q n c frame after e below far is (K, acted, has) pushed =
    taken_next clients table start p q n c frame after e below far is K acted has pushed

pub seen_still : (clients : ℕ) (table : FrameTable) (start p : Pass) (n c : ℕ) (frame : List Entry) → TakenSoFar clients table start p n c frame → HasSeen (standing start c).reach n → HasSeen (standing p c).reach n
seen_still clients table start p n c frame far seen = subst (λ (r : Part). HasSeen r.reach n) (sym (far.rest c (omega arith))) seen

same_frame : (marks : List Mark) (n : ℕ) (frame : List Entry) → length frame ≡ length marks → ((d : ℕ) → d < length marks → has_at (known_in (get_or marks d no_mark)) n ≡ Some (get_or frame d Leave)) → frame ≡ frame_at (map known_in marks) n
same_frame [] n [] long each = refl
same_frame [] n (e ∷ frame) long each = absurd (omega arith)
same_frame (m ∷ marks) n [] long each = absurd (omega arith)
same_frame (m ∷ marks) n (e ∷ frame) long each =
    ap₂ (λ (x : Entry) (xs : List Entry). x ∷ xs) (sym (ap or_leave (each 0 (omega arith)))) (same_frame marks n frame (omega arith) (λ d below. each (suc d) (omega arith)))

pub take_all : (clients : ℕ) (table : FrameTable) (start p : Pass) (n c : ℕ) (frame : List Entry) → TakenSoFar clients table start p n c frame → c ≡ clients → FrameTaken clients n (view_of start) (view_of p) frame
take_all clients table start p n c frame far end =
    let marks = far.is.of_table.marks in
    let count = far.is.count in
    let long = far.count in
    record {
      learns = far.learns;
      each = λ d below. far.each d (omega arith);
      is = same_frame (view_of p).marks n frame (omega arith) (λ d below. (far.each d (omega arith)).has);
    }

-- A frame that each client has, one of them a play, is ready.
get_play : (xs : List (List Order)) (left : Bool) (k : ℕ) → k < length xs → entry_from (slice_get xs k) left ≡ Some Leave → ⊥
get_play [] left k less is = absurd (omega arith)
get_play (x ∷ xs) left zero less is = absurd cc
get_play (x ∷ xs) left (suc k) less is = get_play xs left k (omega arith) is

abbrev PlayIn : List Mark → ℕ → Type 0
PlayIn marks n = (d : ℕ) × (d < length marks) × (n < length_of (known_in (get_or marks d no_mark)))

abbrev HasEach : List Mark → ℕ → List Entry → Type 0
HasEach marks n frame = (d : ℕ) → d < length marks → has_at (known_in (get_or marks d no_mark)) n ≡ Some (get_or frame d Leave)

later_play : (m : Mark) (marks : List Mark) (n : ℕ) (played : Bool) → has_at (known_in m) n ≡ Some Leave → (played ≡ true) ⊎ PlayIn (m ∷ marks) n → (played ≡ true) ⊎ PlayIn marks n
later_play m marks n played leave (inl already) = inl already
later_play m marks n played leave (inr (zero, below, has)) = absurd (get_play (known_in m).plays (known_in m).left n has leave)
later_play m marks n played leave (inr (suc d, below, has)) = inr (d, omega arith, has)

ready_so : (c : ℕ) (played : Bool) (marks : List Mark) (n : ℕ) (frame : List Entry) → length frame ≡ length marks → HasEach marks n frame → (played ≡ true) ⊎ PlayIn marks n → ready_from c played (inputs_of (each_at (map known_in marks) n)) ≡ Yes
ready_so c played [] n frame long each (inl already) = rw already refl
ready_so c played [] n frame long each (inr (d, below, has)) = absurd (omega arith)
ready_so c played (m ∷ marks) n [] long each some = absurd (omega arith)
ready_so c played (m ∷ marks) n (Play orders ∷ frame) long each some =
    ap (λ x. ready_from c played (input_of x ∷ inputs_of (each_at (map known_in marks) n))) (each 0 (omega arith))
    ∙ ready_so (c + 1) true marks n frame (omega arith) (λ d below. each (suc d) (omega arith)) (inl refl)
ready_so c played (m ∷ marks) n (Leave ∷ frame) long each some =
    ap (λ x. ready_from c played (input_of x ∷ inputs_of (each_at (map known_in marks) n))) (each 0 (omega arith))
    ∙ ready_so (c + 1) played marks n frame (omega arith) (λ d below. each (suc d) (omega arith)) (later_play m marks n played (each 0 (omega arith)) some)

-- So many frames were ticked.
pub record TickedSoFar {W : Type 0} (m : Match W) (clients_of steps : W → ℕ) (clients : ℕ) (table : FrameTable) (start pass : Pass) (board : BoardState) (n : ℕ) (world : W) : Type 0 where
  pub is : IsServePass clients table pass
  pub learns : Learns (view_of start) (view_of pass)
  pub ticked : IsTicked m (view_of pass) board.wanted n world
  pub reached : Reached clients n (view_of pass)
  pub steps_are : steps world ≡ n
  pub clients_are : clients_of world ≡ clients
  pub boards : length board.reports ≡ clients

pub ticked_none : {W : Type 0} (m : Match W) (clients_of steps : W → ℕ) (clients : ℕ) (table : FrameTable) (pass : Pass) (board : BoardState) → IsServePass clients table pass → board.wanted ≡ [] →
    clients_of m.start ≡ clients → steps m.start ≡ 0 → length board.reports ≡ clients → TickedSoFar m clients_of steps clients table pass pass board 0 m.start
ticked_none m clients_of steps clients table pass board is unwanted count fresh boards =
    record {
      is = is;
      learns = learns_refl (view_of pass);
      ticked = record { at = opening_is_at m.after m.start (columns_known (view_of pass)); marks = unwanted };
      reached = inl refl;
      steps_are = fresh;
      clients_are = count;
      boards = boards;
    }

grown_reach : (clients n : ℕ) (old new : View) → Learns old new → Reached clients n old → Reached clients n new
grown_reach clients n old new learns (inl none) = inl none
grown_reach clients n old new learns (inr (c, below, has)) = inr (c, below, (let grows = learns.known c in let l = ap length grows.plays ∙ length-append (part_of c old).known.plays grows.more in omega arith))

grown_ticks : {W : Type 0} (m : Match W) (old new : View) (wanted : List ℕ) (n : ℕ) (world : W) → length new.marks ≡ length old.marks → Learns old new → IsTicked m old wanted n world → IsTicked m new wanted n world
grown_ticks m old new wanted n world long learns ticked =
    let grows = learns_grow old new long learns in
    record {
      at = grow_is_at m.after m.start (columns_known old) (columns_known new) n world grows ticked.at;
      marks = ticked.marks ∙ sym (marks_stay m (columns_known old) (columns_known new) n grows ticked.at.ready);
    }

same_marks : (clients : ℕ) (table : FrameTable) (p q : Pass) → IsServePass clients table p → IsServePass clients table q → length (view_of q).marks ≡ length (view_of p).marks
same_marks clients table p q a b = b.of_table.marks ∙ sym a.of_table.marks

marks_more : {W : Type 0} (m : Match W) (columns : List Column) (n : ℕ) (next : W) (held : List ℕ) → IsAt m.after m.start columns (n + 1) next → held ≡ agreed_marks m columns n → held ++ m.hash next ∷ [] ≡ agreed_marks m columns (n + 1)
marks_more m columns n next held at are = rw add-one (ap₂ (λ all mark. all ++ mark ∷ []) are (ap m.hash (rw add-one at at.is)))

-- The ready frame was ticked.
module _ {W : Type 0} (m : Match W) (clients_of steps : W → ℕ) (clients : ℕ) (table : FrameTable) (start p mid q : Pass) (board after : BoardState) (n : ℕ) (world next : W)
    (far : TickedSoFar m clients_of steps clients table start p board n world) (later : IsLater (view_of p) (view_of mid)) (of_mid : IsPassOf table mid) where
  mid_learns : Learns (view_of p) (view_of mid)
  mid_learns = later_learns (view_of p) (view_of mid) later

  pub looked : TickedSoFar m clients_of steps clients table start mid board n world
  looked =
      let is = learned_pass clients table p mid far.is of_mid mid_learns in
      record {
        is = is;
        learns = learns_trans (view_of start) (view_of p) (view_of mid) far.learns mid_learns;
        ticked = grown_ticks m (view_of p) (view_of mid) board.wanted n world (same_marks clients table p mid far.is is) mid_learns far.ticked;
        reached = grown_reach clients n (view_of p) (view_of mid) mid_learns far.reached;
        steps_are = far.steps_are;
        clients_are = far.clients_are;
        boards = far.boards;
      }

  pub yes_seen : (answer : Ready) → answer ≡ Yes → MeansReadySeen (view_of mid) n answer →
      ((c : ℕ) → c < clients → HasSeen (standing mid c).reach n) × ((c : ℕ) × (c < clients) × (n < (standing mid c).reach.plays))
  yes_seen answer is means =
      let yes : MeansReadySeen (view_of mid) n Yes = subst (MeansReadySeen (view_of mid) n) is means in
      let marks = looked.is.of_table.marks in
      let count = looked.is.count in
      let (c, below, has) = yes.1 in
      ((λ d here. yes.0 d (omega arith)), (c, omega arith, has))

  pub over_left : (answer : Ready) → answer ≡ Over → MeansReadySeen (view_of mid) n answer →
      (c : ℕ) → c < clients → ((standing mid c).reach.left ≡ true) × ((standing mid c).reach.plays ≤ n)
  over_left answer is means c below =
      let over : MeansReadySeen (view_of mid) n Over = subst (MeansReadySeen (view_of mid) n) is means in
      let marks = looked.is.of_table.marks in
      let count = looked.is.count in
      over c (omega arith)

  module _ (of_q : IsServePass clients table q) where
    pub ticked_more : (answer : Ready) → answer ≡ Yes → MeansReadySeen (view_of mid) n answer → TicksOnce m.after m.hash clients n (view_of mid) (view_of q) board after world next →
        clients_of next ≡ clients_of world → steps next ≡ steps world + 1 → TickedSoFar m clients_of steps clients table start q after (n + 1) next
    ticked_more answer is means once same more =
        let taken = once.taken in
        let marks = of_q.of_table.marks in
        let count = of_q.count in
        let grown = grown_ticks m (view_of mid) (view_of q) board.wanted n world (same_marks clients table mid q looked.is of_q) taken.learns looked.ticked in
        let (c, below, play) = (yes_seen answer is means).1 in
        let least = (taken.each c below).from.plays in
        let columns = columns_known (view_of q) in
        let long : length once.frame ≡ length (view_of q).marks = ap length taken.is ∙ frame_length (view_of q).marks n in
        let here : ready_at columns n ≡ Yes = ready_so 0 false (view_of q).marks n once.frame long (λ d less. (taken.each d (omega arith)).has) (inr (c, omega arith, omega arith)) in
        let at : IsAt m.after m.start columns (n + 1) (m.after world (frame_of (each_at columns n))) =
        tick_is_at m.after m.start columns n world (each_at columns n) Yes here (λ some. refl) grown.at in
        let same_world : next ≡ m.after world (frame_of (each_at columns n)) = once.stepped ∙ ap (m.after world) taken.is in
        let at_next : IsAt m.after m.start columns (n + 1) next = subst (IsAt m.after m.start columns (n + 1)) (sym same_world) at in
        let marked : board.wanted ++ m.hash next ∷ [] ≡ agreed_marks m columns (n + 1) =
        marks_more m columns n next board.wanted at_next grown.marks in
        record {
          is = of_q;
          learns = learns_trans (view_of start) (view_of mid) (view_of q) looked.learns taken.learns;
          ticked = record {
            at = at_next;
            marks = ap (λ (b : BoardState). b.wanted) once.noted ∙ marked;
          };
          reached = inr (c, below, omega arith);
          steps_are = more ∙ ap (λ k. k + 1) far.steps_are;
          clients_are = same ∙ far.clients_are;
          boards = ap (λ (b : BoardState). length b.reports) once.noted ∙ far.boards;
        }
      where
        frame_length : (marks : List Mark) (k : ℕ) → length (frame_at (map known_in marks) k) ≡ length marks
        frame_length [] k = refl
        frame_length (x ∷ xs) k = ap suc (frame_length xs k)

    pub ticked_all : (answer : Ready) → answer ≡ Over → MeansReadySeen (view_of mid) n answer → (frame : List Entry) → FrameTaken clients n (view_of mid) (view_of q) frame →
        TicksAll m clients (view_of start) (view_of q) board.wanted (steps world) world
    ticked_all answer is means frame taken =
        let left = over_left answer is means in
        let same = far.steps_are in
        subst (λ k. TicksAll m clients (view_of start) (view_of q) board.wanted k world) (sym same)
        (record {
          learns = learns_trans (view_of start) (view_of mid) (view_of q) looked.learns taken.learns;
          ticked = grown_ticks m (view_of mid) (view_of q) board.wanted n world (same_marks clients table mid q looked.is of_q) taken.learns looked.ticked;
          left = record {
            left = λ c below. ((taken.each c below).from.left (left c below).0).0;
            few = λ c below. (let few = (left c below).1 in let end = ((taken.each c below).from.left (left c below).0).1 in omega arith);
            reach = λ c below. (taken.each c below).reach;
          };
          reached = grown_reach clients n (view_of mid) (view_of q) taken.learns looked.reached;
        })

-- Reports came.
pub told : {W : Type 0} (m : Match W) (clients_of steps : W → ℕ) (clients : ℕ) (table : FrameTable) (start pass : Pass) (board after : BoardState) (n : ℕ) (world : W) → TickedSoFar m clients_of steps clients table start pass board n world → after.wanted ≡ board.wanted → length after.reports ≡ length board.reports → TickedSoFar m clients_of steps clients table start pass after n world
told m clients_of steps clients table start pass board after n world far same long =
    record {
      is = far.is;
      learns = far.learns;
      ticked = record { at = far.ticked.at; marks = same ∙ far.ticked.marks };
      reached = far.reached;
      steps_are = far.steps_are;
      clients_are = far.clients_are;
      boards = long ∙ far.boards;
    }

-- What was heard so far.
abbrev pub HeardSoFar : ℕ → BoardState → ReportReceiver → ReportReceiver → Type 0
HeardSoFar clients board first receiver = HasHeard clients board.reports (heard receiver) × (joined receiver ≡ joined first) × IsSameReceiver first receiver

pub heard_more : (clients count : ℕ) (board after : BoardState) (first receiver next : ReportReceiver) → HeardSoFar clients board first receiver → count ≡ clients → HasHeard count after.reports (heard next) → joined next ≡ joined receiver → IsSameReceiver receiver next → HeardSoFar clients after first next
heard_more clients count board after first receiver next far is has list same =
    (subst (λ k. HasHeard k after.reports (heard next)) is has, list ∙ far.1, record { queue = same.queue ∙ far.2.queue; ends = same.ends ∙ far.2.ends })

pub marked : {W : Type 0} (after : W → List Entry → W) (hash : W → ℕ) (clients n count : ℕ) (old new : View) (board noted : BoardState) (world next : W) (first receiver : ReportReceiver) → TicksOnce after hash clients n old new board noted world next → HeardSoFar count board first receiver → HeardSoFar count noted first receiver
marked after hash clients n count old new board noted world next first receiver once far = (subst (λ r. HasHeard count r (heard receiver)) (sym (ap (λ (b : BoardState). b.reports) once.noted)) far.0, far.1, far.2)
