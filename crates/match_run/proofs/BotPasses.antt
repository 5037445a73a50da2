-- The bots' columns: what the calls of the ticking thread's pass leave of them.
use Rattle.std.proofs.Common.{◌≡◌, ◌≢◌, ℕ, ◌+◌, ◌-◌, ◌^◌, ◌<◌, ◌≤◌, ◌⊎◌, Bool, true, false, true≢false, List, [], ◌∷◌, ◌++◌, length, map, refl, sym, ap, ap₂, ◌∙◌, subst, inl, ⊎_elim, arith}
use native.Mathlib.Decide.{ℕ_discrete}
use mathlib.Core.Logic.{dite}
use Rattle.std.specs.List.{range_with_len}
use Rattle.std.proofs.lemmas.List.FromFn.{map-range_with_len_more}
use Rattle.game_orders.specs.declared.order.Order.{Order}
use Rattle.game_orders.specs.declared.entry.Entry.{Entry}
use Rattle.game_orders.specs.declared.entry.Entry.TheVariants.{Play}
use Rattle.game_orders.specs.declared.limits.TheConstants.{MAX_FRAMES}
use Rattle.frame_core.specs.declared.put.Put.{Put}
use Rattle.frame_core.specs.declared.put.Put.TheVariants.{Fixed, Repeat, Conflict, Left, Ahead, Full}
use Rattle.frame_core.specs.declared.leaving.Leaving.{Leaving}
use Rattle.frame_core.specs.Column.{Column, after_answer, put_answer, put_column, left_column}
use Rattle.drill_words.specs.Scripts.{plays_of}
use Rattle.frame_table.specs.declared.planned.Planned.{Planned}
use Rattle.frame_table.specs.declared.planned.Planned.TheVariants.{Free}
use Rattle.frame_table.specs.declared.pass.Pass.{Pass}
use Rattle.frame_table.specs.declared.table.FrameTable.{FrameTable}
use Rattle.frame_table.specs.Part.{Part, OthersStay}
use Rattle.frame_table.specs.Word.{one_if}
use Rattle.frame_table.specs.Steps.{IsFound, published, known_after}
use Rattle.frame_table.specs.Calls.{plan_of, view_of, standing, IsPassOf, IsLater, IsLaterPart, MayPut, MayPutPlay, MayLeaveBy, PutsSo, LeavesSo}
use Rattle.match_run.specs.Feeding.{MayFeed, HasFed, HasEnded, HasFedAll, HasEndedAll}
use Rattle.match_run.specs.Local.{script_column, IsAll}
use Rattle.match_run.specs.Passes.{FollowsScript, IsLocalPass, KnowsSeen, KnowsAllSeen}
use Rattle.match_run.proofs.Columns.{open_column, put_last, published_all}
use Rattle.match_run.proofs.Splitting.{Scripts}

-- One column.
left_same : (answer : Put) (K : Column) (orders : List Order) → (after_answer answer K (Play orders)).left ≡ K.left
left_same Fixed K orders = refl
left_same Repeat K orders = refl
left_same (Conflict kept) K orders = refl
left_same (Left at) K orders = refl
left_same (Ahead plays) K orders = refl
left_same Full K orders = refl

-- Where the column that was found is open, all its plays were known.
found_open : (plays : List (List Order)) (old : Part) (K : Column) → HasFed plays old → IsFound old K → K.left ≡ false → K ≡ open_column plays
unfolding open_column
found_open plays old K fed found playing = by old.known.left refl
  where
    by : (left : Bool) → old.known.left ≡ left → K ≡ open_column plays
    by true is = absurd (true≢false (sym (ap (λ (k : Column). k.left) (found.known.closed is) ∙ is) ∙ playing))
    by false is =
        let all = (found.fed fed.may.feeds).1 in
        λ i. record { plays = (sym all ∙ fed.known is) i; left = playing i }

same_less : (a : ℕ) → a - a ≡ 0
same_less a = omega arith

pub put_fed : (plays : List (List Order)) (old new : Part) (K : Column) (n : ℕ) (orders : List Order) → HasFed plays old → length plays ≡ n → n < MAX_FRAMES → IsFound old K → new ≡ published old K (put_column K n (Play orders)) → HasFed (plays ++ orders ∷ []) new
unfolding open_column
put_fed plays old new K n orders fed long room found is =
    let same : (put_column K n (Play orders)).left ≡ K.left = left_same (put_answer K n (Play orders)) K orders in
    record {
      may = record {
        free = ap (λ (r : Part). r.planned) is ∙ fed.may.free;
        feeds = ap (λ (r : Part). r.feeds) is ∙ fed.may.feeds;
      };
      made =
          let was = fed.made in
          let now : new.made ≡ old.made + (one_if (put_column K n (Play orders)).left - one_if K.left) = ap (λ (r : Part). r.made) is in
          let less : one_if (put_column K n (Play orders)).left - one_if K.left ≡ 0 = ap (λ (b : Bool). one_if b - one_if K.left) same ∙ same_less (one_if K.left) in
          (omega arith);
      known = λ playing.
          let shut : K.left ≡ false = sym same ∙ sym (ap (λ (r : Part). r.known.left) is) ∙ playing in
          let column : K ≡ open_column plays = found_open plays old K fed found shut in
          ap (λ (r : Part). r.known.plays) is
          ∙ ap (λ (k : Column). (put_column k n (Play orders)).plays) column
          ∙ ap (λ (k : Column). k.plays) (put_last plays n orders (sym long) room);
    }

pub leave_fed : (plays : List (List Order)) (old new : Part) (K : Column) → HasFed plays old → IsFound old K → new ≡ published old K (left_column K) → HasEnded (record { plays = plays; left = true }) new
unfolding open_column
leave_fed plays old new K fed found is =
    record {
      free = ap (λ (r : Part). r.planned) is ∙ fed.may.free;
      left = ap (λ (r : Part). r.known.left) is;
      known = λ one. by K.left refl one;
    }
  where
    by : (left : Bool) → K.left ≡ left → new.made ≡ 1 → new.known ≡ record { plays = plays; left = true }
    by true gone one =
        let was = fed.made in
        let now : new.made ≡ old.made + (1 - one_if K.left) = ap (λ (r : Part). r.made) is in
        let all : one_if K.left ≡ 1 = ap one_if gone in
        absurd (omega arith)
    by false playing one =
        ap (λ (r : Part). r.known) is ∙ ap left_column (found_open plays old K fed found playing)

-- With the whole share, whoever fixed the departure is known.
pub look_whole : (column : Column) (old new : Part) (K : Column) → HasEnded column old → old.share ≡ 2 ^ 62 → IsFound old K → new ≡ published old K (left_column K) → IsAll new column
look_whole column old new K ended share found is =
    let same : K ≡ old.known = found.known.closed ended.left in
    let gone : K.left ≡ true = ap (λ (k : Column). k.left) same ∙ ended.left in
    let one : old.made ≡ 1 = found.made share ∙ ap one_if gone in
    let again : left_column K ≡ K = λ i. record { plays = K.plays; left = sym gone i } in
    published_all column old new K (left_column K) (again ∙ same ∙ ended.known one) is

-- A look at the words.
later_free : (old new : Part) → old.planned ≡ Free → IsLaterPart old new → (new.planned ≡ old.planned) × (new.feeds ≡ old.feeds) × (new.made ≡ old.made) × (new.known ≡ old.known)
later_free old new free later = ⊎_elim
    (λ same. (
      ap (λ (r : Part). r.planned) same,
      ap (λ (r : Part). r.feeds) same,
      ap (λ (r : Part). r.made) same,
      ap (λ (r : Part). r.known) same,
    ))
    (λ once. (
      ap (λ (r : Part). r.planned) once.0,
      ap (λ (r : Part). r.feeds) once.0,
      ap (λ (r : Part). r.made) once.0,
      ap (λ (r : Part). r.known) once.0 ∙ ap (λ (q : Planned). known_after q new.reach old.known) free,
    ))
    later.exact

pub later_fed : (plays : List (List Order)) (old new : Part) → HasFed plays old → IsLaterPart old new → HasFed plays new
later_fed plays old new fed later =
    let same = later_free old new fed.may.free later in
    record {
      may = record { free = same.0 ∙ fed.may.free; feeds = same.1 ∙ fed.may.feeds };
      made = same.2 ∙ fed.made;
      known = λ playing. ap (λ (k : Column). k.plays) same.3 ∙ fed.known (sym (ap (λ (k : Column). k.left) same.3) ∙ playing);
    }

pub later_ended : (column : Column) (old new : Part) → HasEnded column old → IsLaterPart old new → HasEnded column new
later_ended column old new ended later =
    let same = later_free old new ended.free later in
    record {
      free = same.0 ∙ ended.free;
      left = ap (λ (k : Column). k.left) same.3 ∙ ended.left;
      known = λ one. same.3 ∙ ended.known (sym same.2 ∙ one);
    }

-- What a call on a bot's column leaves of the others.
module _ (scripts : Scripts) (table : FrameTable) (p q : Pass) (local : IsLocalPass scripts table p) (is : IsPassOf table q) (c : ℕ) (past : length scripts ≤ c) (others : OthersStay c (view_of p) (view_of q)) where
  other : (d : ℕ) → d < length scripts → standing q d ≡ standing p d
  other d below = others.2 d (λ same. absurd (omega arith))

  pub beside_local : IsLocalPass scripts table q
  beside_local = record {
    of_table = is;
    clients = local.clients;
    columns = λ d below. subst (FollowsScript (plays_of scripts d)) (sym (other d below)) (local.columns d below);
  }

  pub beside_knows : KnowsAllSeen scripts p → KnowsAllSeen scripts q
  beside_knows knows d below = subst (KnowsSeen (plays_of scripts d)) (sym (other d below)) (knows d below)

  pub beside_all : ((d : ℕ) → d < length scripts → IsAll (standing p d) (script_column (plays_of scripts d))) → (d : ℕ) → d < length scripts → IsAll (standing q d) (script_column (plays_of scripts d))
  beside_all all d below = subst (λ (r : Part). IsAll r (script_column (plays_of scripts d))) (sym (other d below)) (all d below)

-- Something holds of the bots' columns below i, and the others are as before.
pub record BotsSoFar (clients i : ℕ) (Q : ℕ → Part → Type 0) (start pass : Pass) : Type 0 where
  pub done : (c : ℕ) → clients ≤ c → c < clients + i → Q c (standing pass c)
  pub rest : (c : ℕ) → clients + i ≤ c → standing pass c ≡ standing start c

pub bots_none : (clients : ℕ) (Q : ℕ → Part → Type 0) (start : Pass) → BotsSoFar clients 0 Q start start
bots_none clients Q start = record { done = λ c past below. absurd (omega arith); rest = λ c past. refl }

pub bots_more : (clients i c : ℕ) (Q : ℕ → Part → Type 0) (start p q : Pass) → BotsSoFar clients i Q start p → c ≡ clients + i → OthersStay c (view_of p) (view_of q) → Q c (standing q c) → BotsSoFar clients (i + 1) Q start q
bots_more clients i c Q start p q far here others so = record {
  done = λ d past below. dite (ℕ_discrete d c)
      (λ same. subst (λ e. Q e (standing q e)) (sym same) so)
      (λ apart. subst (Q d) (sym (others.2 d apart)) (far.done d past (omega arith)));
  rest = λ d past. others.2 d (λ same. absurd (omega arith)) ∙ far.rest d (omega arith);
}

pub may_feed : (part : Part) (n : ℕ) (orders : List Order) → MayFeed part → MayPut part n (Play orders)
may_feed part n orders may = subst (λ q. MayPutPlay q part n orders) (sym may.free) (inl may.feeds)

pub may_end : (part : Part) → part.planned ≡ Free → MayLeaveBy part.planned part.reach
may_end part free = subst (λ q. MayLeaveBy q part.reach) (sym free) tt

-- The plays of the bots below i were put.
pub record FedSoFar (scripts : Scripts) (table : FrameTable) (orders : ℕ → List Order) (start pass : Pass) (n i : ℕ) (ordered : List Entry) : Type 0 where
  pub local : IsLocalPass scripts table pass
  pub knows : KnowsAllSeen scripts pass
  pub share : (view_of pass).share ≡ (view_of start).share
  pub ordered_are : ordered ≡ map (λ (c : ℕ). Play (orders c)) (range_with_len (length scripts) i)
  pub bots : (plays : ℕ → List (List Order)) → ((c : ℕ) → length (plays c) ≡ n) → HasFedAll (length scripts) table plays start → BotsSoFar (length scripts) i (λ c part. HasFed (plays c ++ orders c ∷ []) part) start pass
  pub rest : (c : ℕ) → length scripts + i ≤ c → standing pass c ≡ standing start c

pub fed_none : (scripts : Scripts) (table : FrameTable) (orders : ℕ → List Order) (pass : Pass) (n : ℕ) (ordered : List Entry) → IsLocalPass scripts table pass → KnowsAllSeen scripts pass → ordered ≡ [] → FedSoFar scripts table orders pass pass n 0 ordered
fed_none scripts table orders pass n ordered local knows none = record {
  local = local;
  knows = knows;
  share = refl;
  ordered_are = none;
  bots = λ plays long fed. bots_none (length scripts) (λ c part. HasFed (plays c ++ orders c ∷ []) part) pass;
  rest = λ c past. refl;
}

pub fed_more : (scripts : Scripts) (table : FrameTable) (orders : ℕ → List Order) (start p q : Pass) (n i c : ℕ) (ordered after : List Entry) (put lent : List Order) (answer : Put) → FedSoFar scripts table orders start p n i ordered → IsPassOf table q → c ≡ length scripts + i → c < length (plan_of table) → n < MAX_FRAMES → put ≡ orders c → lent ≡ put →
    PutsSo c (view_of p) (view_of q) n (Play lent) answer → after ≡ ordered ++ Play put ∷ [] → FedSoFar scripts table orders start q n (i + 1) after
fed_more scripts table orders start p q n i c ordered after put lent answer far is here below room ordered_is same_orders (K, acted, answered) pushed = record {
  local = beside_local scripts table p q far.local is c (omega arith) acted.others;
  knows = beside_knows scripts table p q far.local is c (omega arith) acted.others far.knows;
  share = acted.others.0 ∙ far.share;
  ordered_are =
      pushed
      ∙ ap₂ (λ (l : List Entry) (o : List Order). l ++ Play o ∷ []) far.ordered_are ordered_is
      ∙ sym (map-range_with_len_more (λ (k : ℕ). Play (orders k)) (length scripts) i c (sym here));
  bots = λ plays long fed.
      let so = far.bots plays long fed in
      let mine : HasFed (plays c) (standing p c) = subst (HasFed (plays c)) (sym (far.rest c (omega arith))) (fed c (omega arith) below) in
      bots_more (length scripts) i c (λ d part. HasFed (plays d ++ orders d ∷ []) part) start p q so here acted.others
      (subst (λ (o : List Order). HasFed (plays c ++ o ∷ []) (standing q c)) (same_orders ∙ ordered_is) (put_fed (plays c) (standing p c) (standing q c) K n lent mine (long c) room acted.found acted.part));
  rest = λ d past. acted.others.2 d (λ same. absurd (omega arith)) ∙ far.rest d (omega arith);
}

-- The bots below i have left.
pub record EndedSoFar (scripts : Scripts) (table : FrameTable) (start pass : Pass) (i : ℕ) : Type 0 where
  pub local : IsLocalPass scripts table pass
  pub knows : KnowsAllSeen scripts pass
  pub share : (view_of pass).share ≡ (view_of start).share
  pub bots : (plays : ℕ → List (List Order)) → HasFedAll (length scripts) table plays start → BotsSoFar (length scripts) i (λ c part. HasEnded (record { plays = plays c; left = true }) part) start pass
  pub rest : (c : ℕ) → length scripts + i ≤ c → standing pass c ≡ standing start c

pub ended_none : (scripts : Scripts) (table : FrameTable) (pass : Pass) → IsLocalPass scripts table pass → KnowsAllSeen scripts pass → EndedSoFar scripts table pass pass 0
ended_none scripts table pass local knows = record {
  local = local;
  knows = knows;
  share = refl;
  bots = λ plays fed. bots_none (length scripts) (λ c part. HasEnded (record { plays = plays c; left = true }) part) pass;
  rest = λ c past. refl;
}

pub ended_more : (scripts : Scripts) (table : FrameTable) (start p q : Pass) (i c : ℕ) (answer : Leaving) → EndedSoFar scripts table start p i → IsPassOf table q → c ≡ length scripts + i → c < length (plan_of table) → LeavesSo c (view_of p) (view_of q) answer → EndedSoFar scripts table start q (i + 1)
ended_more scripts table start p q i c answer far is here below (K, acted, answered) = record {
  local = beside_local scripts table p q far.local is c (omega arith) acted.others;
  knows = beside_knows scripts table p q far.local is c (omega arith) acted.others far.knows;
  share = acted.others.0 ∙ far.share;
  bots = λ plays fed.
      let mine : HasFed (plays c) (standing p c) = subst (HasFed (plays c)) (sym (far.rest c (omega arith))) (fed c (omega arith) below) in
      bots_more (length scripts) i c (λ d part. HasEnded (record { plays = plays d; left = true }) part) start p q (far.bots plays fed) here acted.others
      (leave_fed (plays c) (standing p c) (standing q c) K mine acted.found acted.part);
  rest = λ d past. acted.others.2 d (λ same. absurd (omega arith)) ∙ far.rest d (omega arith);
}

-- The columns of the bots below i were looked at once more.
pub record LookedSoFar (scripts : Scripts) (table : FrameTable) (start pass : Pass) (i : ℕ) : Type 0 where
  pub local : IsLocalPass scripts table pass
  pub all : (c : ℕ) → c < length scripts → IsAll (standing pass c) (script_column (plays_of scripts c))
  pub share : (view_of pass).share ≡ 2 ^ 62
  pub bots : (columns : ℕ → Column) → HasEndedAll (length scripts) table columns start → BotsSoFar (length scripts) i (λ c part. IsAll part (columns c)) start pass
  pub rest : (c : ℕ) → length scripts + i ≤ c → standing pass c ≡ standing start c

pub looked_none : (scripts : Scripts) (table : FrameTable) (pass : Pass) → IsLocalPass scripts table pass → ((c : ℕ) → c < length scripts → IsAll (standing pass c) (script_column (plays_of scripts c))) → (view_of pass).share ≡ 2 ^ 62 → LookedSoFar scripts table pass pass 0
looked_none scripts table pass local all share = record {
  local = local;
  all = all;
  share = share;
  bots = λ columns ended. bots_none (length scripts) (λ c part. IsAll part (columns c)) pass;
  rest = λ c past. refl;
}

pub looked_more : (scripts : Scripts) (table : FrameTable) (start p q : Pass) (i c : ℕ) (answer : Leaving) → LookedSoFar scripts table start p i → IsPassOf table q → c ≡ length scripts + i → c < length (plan_of table) → LeavesSo c (view_of p) (view_of q) answer → LookedSoFar scripts table start q (i + 1)
looked_more scripts table start p q i c answer far is here below (K, acted, answered) = record {
  local = beside_local scripts table p q far.local is c (omega arith) acted.others;
  all = beside_all scripts table p q far.local is c (omega arith) acted.others far.all;
  share = acted.others.0 ∙ far.share;
  bots = λ columns ended.
      let mine : HasEnded (columns c) (standing p c) = subst (HasEnded (columns c)) (sym (far.rest c (omega arith))) (ended c (omega arith) below) in
      bots_more (length scripts) i c (λ d part. IsAll part (columns d)) start p q (far.bots columns ended) here acted.others
      (look_whole (columns c) (standing p c) (standing q c) K mine far.share acted.found acted.part);
  rest = λ d past. acted.others.2 d (λ same. absurd (omega arith)) ∙ far.rest d (omega arith);
}

-- Once all were, something holds of each.
pub all_bots : (clients count : ℕ) (table : FrameTable) (Q : ℕ → Part → Type 0) (start pass : Pass) (i : ℕ) → length (plan_of table) ≡ clients + count → count ≤ i → BotsSoFar clients i Q start pass → (c : ℕ) → clients ≤ c → c < length (plan_of table) → Q c (standing pass c)
all_bots clients count table Q start pass i long end far c past below = far.done c past (omega arith)

-- A wait keeps what is known of the bots' columns.
pub later_fed_all : (clients : ℕ) (table : FrameTable) (plays : ℕ → List (List Order)) (p q : Pass) → IsLater (view_of p) (view_of q) → HasFedAll clients table plays p → HasFedAll clients table plays q
later_fed_all clients table plays p q later fed c past below = later_fed (plays c) (standing p c) (standing q c) (fed c past below) (later.parts c)

pub later_ended_all : (clients : ℕ) (table : FrameTable) (columns : ℕ → Column) (p q : Pass) → IsLater (view_of p) (view_of q) → HasEndedAll clients table columns p → HasEndedAll clients table columns q
later_ended_all clients table columns p q later ended c past below = later_ended (columns c) (standing p c) (standing q c) (ended c past below) (later.parts c)

pub others_fed_all : (clients c : ℕ) (table : FrameTable) (plays : ℕ → List (List Order)) (p q : Pass) → c < clients → OthersStay c (view_of p) (view_of q) → HasFedAll clients table plays p → HasFedAll clients table plays q
others_fed_all clients c table plays p q below others fed d past here = subst (HasFed (plays d)) (sym (others.2 d (λ same. absurd (omega arith)))) (fed d past here)
