-- The passes of a local match: the calls of the table keep what is known of them.
use Rattle.std.proofs.Common.{◌≡◌, ◌≢◌, ℕ, zero, suc, ◌+◌, ◌-◌, ◌*◌, ◌/◌, ◌^◌, ◌<◌, ◌≤◌, ◌⊎◌, ◌||◌, max, Bool, true, false, List, [], ◌∷◌, ◌++◌, length, take, get_or, refl, sym, ap, ◌∙◌, subst, inl, inr, ⊎_elim, arith}
use native.Mathlib.Decide.{ℕ_discrete}
use mathlib.Core.Logic.{dite}
use Rattle.game_orders.specs.declared.order.Order.{Order}
use Rattle.frame_core.specs.Column.{Column}
use Rattle.frame_core.specs.Grows.{GrowsTo}
use Rattle.drill_words.specs.Scripts.{plays_of}
use Rattle.frame_table.specs.declared.seen.Seen.{Seen}
use Rattle.frame_table.specs.declared.planned.Planned.{Planned}
use Rattle.frame_table.specs.declared.planned.Planned.TheVariants.{Plays}
use Rattle.frame_table.specs.declared.pass.Pass.{Pass}
use Rattle.frame_table.specs.declared.table.FrameTable.{FrameTable}
use Rattle.frame_table.specs.Part.{Part, part_in, no_mark}
use Rattle.frame_table.specs.Word.{whole_of}
use Rattle.frame_table.specs.Rule.{Follows}
use Rattle.frame_table.specs.Steps.{IsWithinPlan, IsFound, known_after}
use Rattle.frame_table.specs.Passes.{joined_mark, joined_view, further}
use Rattle.frame_table.specs.Calls.{plan_of, view_of, standing, IsPassOf, Acted, Unchanged, IsLater, IsLaterPart, MayPut, MayPutPlay, MayLeaveBy, PutsSo, LeavesSo}
use Rattle.match_run.specs.declared.client_pass.ClientPass.{ClientPass}
use Rattle.match_run.specs.Local.{script_column, IsAll}
use Rattle.match_run.specs.Feeding.{HasEndedAll}
use Rattle.match_run.proofs.Splitting.{Scripts, shares_push, part_joined, joined_share}
use Rattle.match_run.specs.Passes.{script_plan, FollowsScript, IsLocalPass, KnowsSeen, KnowsAllSeen, IsClientPass, shares_of}
use Rattle.std.specs.Prelude.{slice_get, All, Some}
use Rattle.std.proofs.lemmas.List.Elements.{All-pop}
use Rattle.game_orders.specs.declared.entry.Entry.TheVariants.{Play}
use Rattle.game_orders.specs.declared.limits.TheConstants.{MAX_FRAMES}
use Rattle.frame_core.specs.Column.{left_column, put_column}
use Rattle.frame_core.specs.declared.put.Put.{Put}
use Rattle.frame_core.specs.declared.leaving.Leaving.{Leaving}
use Rattle.match_run.proofs.Columns.{published_so, published_all, put_script, departed, whole_follows}

abbrev StandsSo : List (List Order) → Part → Type 0
StandsSo plays part = FollowsScript plays part × KnowsSeen plays part

-- A call of the table that took a column's lock.
module _ (scripts : Scripts) (table : FrameTable) (p q : Pass) (local : IsLocalPass scripts table p) (is : IsPassOf table q) (c : ℕ) (here : c < length scripts) (K L : Column) (acted : Acted c (view_of p) (view_of q) K L) (follows : Follows (Plays (plays_of scripts c)) L) where
  now_so : StandsSo (plays_of scripts c) (standing q c)
  now_so = published_so (plays_of scripts c) (standing p c) (standing q c) K L (local.columns c here).planned follows acted.part

  pub acted_local : IsLocalPass scripts table q
  acted_local =
      record {
        of_table = is;
        clients = local.clients;
        columns = λ d below. dite (ℕ_discrete d c)
            (λ same. subst (λ e. FollowsScript (plays_of scripts e) (standing q e)) (sym same) now_so.0)
            (λ apart. subst (FollowsScript (plays_of scripts d)) (sym (acted.others.2 d apart)) (local.columns d below));
      }

  pub acted_knows : KnowsAllSeen scripts p → KnowsAllSeen scripts q
  acted_knows knows d below = dite (ℕ_discrete d c)
      (λ same. subst (λ e. KnowsSeen (plays_of scripts e) (standing q e)) (sym same) now_so.1)
      (λ apart. subst (KnowsSeen (plays_of scripts d)) (sym (acted.others.2 d apart)) (knows d below))

  pub acted_share : (view_of q).share ≡ (view_of p).share
  acted_share = acted.others.0

-- What was found follows the script.
pub found_follows : (plays : List (List Order)) (part : Part) (K : Column) → FollowsScript plays part → IsFound part K → Follows (Plays plays) K
found_follows plays part K so found = subst (λ q. Follows q K) so.planned found.follows

-- A call that changed nothing.
module _ (scripts : Scripts) (table : FrameTable) (p q : Pass) (local : IsLocalPass scripts table p) (is : IsPassOf table q) (same : Unchanged (view_of p) (view_of q)) where
  pub unchanged_local : IsLocalPass scripts table q
  unchanged_local =
      record {
        of_table = is;
        clients = local.clients;
        columns = λ d below. subst (FollowsScript (plays_of scripts d)) (sym (same.parts d)) (local.columns d below);
      }

-- A look at the columns' words.
later_so : (plays : List (List Order)) (old new : Part) → FollowsScript plays old → IsLaterPart old new → FollowsScript plays new × (KnowsSeen plays old → KnowsSeen plays new)
later_so plays old new so later = ⊎_elim
    (λ same. subst (λ (q : Part). FollowsScript plays q × (KnowsSeen plays old → KnowsSeen plays q)) (sym same) (so, λ knows. knows))
    (λ once. (
      record {
        planned = ap (λ (q : Part). q.planned) once.0 ∙ so.planned;
        within = subst (λ q. IsWithinPlan q new.reach) so.planned once.1;
      },
      λ knows. ap (λ (q : Part). q.known) once.0 ∙ ap (λ q. known_after q new.reach old.known) so.planned,
    ))
    later.exact

module _ (scripts : Scripts) (table : FrameTable) (p q : Pass) (local : IsLocalPass scripts table p) (is : IsPassOf table q) (later : IsLater (view_of p) (view_of q)) where
  pub later_local : IsLocalPass scripts table q
  later_local =
      record {
        of_table = is;
        clients = local.clients;
        columns = λ d below. (later_so (plays_of scripts d) (standing p d) (standing q d) (local.columns d below) (later.parts d)).0;
      }

  pub later_knows : KnowsAllSeen scripts p → KnowsAllSeen scripts q
  later_knows knows d below = (later_so (plays_of scripts d) (standing p d) (standing q d) (local.columns d below) (later.parts d)).1 (knows d below)

-- A join.
max_within : (a b most : ℕ) → a ≤ most → b ≤ most → max a b ≤ most
max_within a b most x y = grind (arith, x, y)

or_parts : (a b : Bool) → (a || b) ≡ true → (a ≡ true) ⊎ (b ≡ true)
or_parts true b is = inl refl
or_parts false b is = inr is

max_left : (a b most : ℕ) → a ≡ most → b ≤ most → max a b ≡ most
max_left a b most x y = grind (arith, x, y)

max_right : (a b most : ℕ) → a ≤ most → b ≡ most → max a b ≡ most
max_right a b most x y = grind (arith, x, y)

further_within : (plays : List (List Order)) (a b : Seen) → IsWithinPlan (Plays plays) a → IsWithinPlan (Plays plays) b → IsWithinPlan (Plays plays) (further a b)
further_within plays a b x y = (
  max_within a.plays b.plays (length plays) x.0 y.0,
  λ left. ⊎_elim
      (λ mine. max_left a.plays b.plays (length plays) (x.1 mine) y.0)
      (λ theirs. max_right a.plays b.plays (length plays) x.0 (y.1 theirs))
      (or_parts a.left b.left left),
)

further_whole : (plays : List (List Order)) (a b : Seen) → a ≡ whole_of (script_column plays) → IsWithinPlan (Plays plays) b → further a b ≡ whole_of (script_column plays)
further_whole plays a b whole y =
    ap (λ (s : Seen). further s b) whole ∙ (λ i. record { plays = max_left (length plays) b.plays (length plays) refl y.0 i; left = true })

module _ (scripts : Scripts) (table : FrameTable) (p other q : Pass) (local : IsLocalPass scripts table p) (theirs : IsLocalPass scripts table other) (is : IsPassOf table q) (joined : view_of q ≡ joined_view (view_of p) (view_of other)) where
  part_here : (c : ℕ) → c < length scripts → standing q c ≡ part_in ((view_of p).share + (view_of other).share) (joined_mark (get_or (view_of p).marks c no_mark) (get_or (view_of other).marks c no_mark))
  part_here c below = part_joined table p other q is local.of_table theirs.of_table joined c (let m = local.clients in omega arith)

  pub joined_local : IsLocalPass scripts table q
  joined_local = record {
    of_table = is;
    clients = local.clients;
    columns = λ c below.
        let part = part_here c below in
        record {
          planned = ap (λ (r : Part). r.planned) part ∙ (local.columns c below).planned;
          within = subst (λ (r : Part). IsWithinPlan (Plays (plays_of scripts c)) r.reach) (sym part)
              (further_within (plays_of scripts c) (standing p c).reach (standing other c).reach (local.columns c below).within (theirs.columns c below).within);
        };
  }

  pub joined_all :
      ((c : ℕ) → c < length (plan_of table) → GrowsTo (standing p c).known (standing q c).known) →
      ((c : ℕ) → c < length scripts → IsAll (standing p c) (script_column (plays_of scripts c))) →
      (c : ℕ) → c < length scripts → IsAll (standing q c) (script_column (plays_of scripts c))
  joined_all mine all c below =
      let grows = mine c (let l = local.clients in omega arith) in
      let whole = all c below in
      record {
        reach = ap (λ (r : Part). r.reach) (part_here c below) ∙ further_whole (plays_of scripts c) (standing p c).reach (standing other c).reach whole.reach (theirs.columns c below).within;
        known = grows.closed (ap (λ (k : Column). k.left) whole.known) ∙ whole.known;
      }

  pub joined_ended : (columns : ℕ → Column) →
      ((c : ℕ) → c < length (plan_of table) → GrowsTo (standing p c).known (standing q c).known) →
      ((c : ℕ) → length scripts ≤ c → c < length (plan_of table) → (standing other c).made ≡ 0) →
      HasEndedAll (length scripts) table columns p → HasEndedAll (length scripts) table columns q
  joined_ended columns mine none ended c past below =
      let part = part_joined table p other q is local.of_table theirs.of_table joined c below in
      let was = ended c past below in
      let same : (standing q c).known ≡ (standing p c).known = (mine c below).closed was.left in
      record {
        free = ap (λ (r : Part). r.planned) part ∙ was.free;
        left = ap (λ (k : Column). k.left) same ∙ was.left;
        known = λ one.
            let both : (standing q c).made ≡ (standing p c).made + (standing other c).made = ap (λ (r : Part). r.made) part in
            let nothing = none c past below in
            same ∙ was.known (omega arith);
      }

-- Plays below n were put.
pub record PutSoFar (scripts : Scripts) (table : FrameTable) (start pass : Pass) (c n : ℕ) : Type 0 where
  pub local : IsLocalPass scripts table pass
  pub share : (view_of pass).share ≡ (view_of start).share
  pub reach : n ≤ (standing pass c).reach.plays
  pub others : (d : ℕ) → d ≢ c → (standing pass d).made ≡ (standing start d).made

pub may_put : (plays : List (List Order)) (part : Part) (n : ℕ) (orders : List Order) → FollowsScript plays part → slice_get plays n ≡ Some orders → MayPut part n (Play orders)
may_put plays part n orders so at = subst (λ q. MayPutPlay q part n orders) (sym so.planned) at

pub may_leave : (plays : List (List Order)) (part : Part) → FollowsScript plays part → length plays ≤ part.reach.plays → MayLeaveBy part.planned part.reach
may_leave plays part so long = subst (λ q. MayLeaveBy q part.reach) (sym so.planned) long

module _ (scripts : Scripts) (table : FrameTable) (start p q : Pass) (c n : ℕ) (here : c < length scripts) (played : PutSoFar scripts table start p c n) (is : IsPassOf table q) where
  pub put_more : (orders : List Order) (answer : Put) → slice_get (plays_of scripts c) n ≡ Some orders → length (plays_of scripts c) ≤ MAX_FRAMES → PutsSo c (view_of p) (view_of q) n (Play orders) answer → PutSoFar scripts table start q c (n + 1)
  put_more orders answer at few (K, acted, answered) =
      let so = played.local.columns c here in
      let seen = acted.found.reach.plays in
      let reach = played.reach in
      let put = put_script (plays_of scripts c) K n orders (found_follows (plays_of scripts c) (standing p c) K so acted.found) (omega arith) at few in
      record {
        local = acted_local scripts table p q played.local is c here K (put_column K n (Play orders)) acted put.0;
        share = acted.others.0 ∙ played.share;
        reach = (let more = put.1 in let now : (standing q c).reach.plays ≡ length (put_column K n (Play orders)).plays = ap (λ (r : Part). r.reach.plays) acted.part in omega arith);
        others = λ d apart. ap (λ (r : Part). r.made) (acted.others.2 d apart) ∙ played.others d apart;
      }

  pub left_all : (answer : Leaving) → length (plays_of scripts c) ≤ n → LeavesSo c (view_of p) (view_of q) answer →
      IsLocalPass scripts table q × ((view_of q).share ≡ (view_of start).share) × IsAll (standing q c) (script_column (plays_of scripts c))
      × ((d : ℕ) → d ≢ c → (standing q d).made ≡ (standing start d).made)
  left_all answer end (K, acted, answered) =
      let plays = plays_of scripts c in
      let so = played.local.columns c here in
      let seen = acted.found.reach.plays in
      let reach = played.reach in
      let whole : left_column K ≡ script_column plays = departed plays K (found_follows plays (standing p c) K so acted.found) (omega arith) in (
        acted_local scripts table p q played.local is c here K (left_column K) acted (subst (Follows (Plays plays)) (sym whole) (whole_follows plays)),
        acted.others.0 ∙ played.share,
        published_all (script_column plays) (standing p c) (standing q c) K (left_column K) whole acted.part,
        λ d apart. ap (λ (r : Part). r.made) (acted.others.2 d apart) ∙ played.others d apart,
      )

-- Passes that were lent as a slice.
pub all_lent : (scripts : Scripts) (table : FrameTable) (n : ℕ) (xs ys : List ClientPass) → length xs ≡ n → All (λ f. IsClientPass scripts table f) xs → All (λ f. IsClientPass scripts table f) (take n (xs ++ ys))
all_lent scripts table n xs ys long all = subst (All (λ f. IsClientPass scripts table f)) (sym (front n xs ys long)) all
  where
    front : (k : ℕ) (us vs : List ClientPass) → length us ≡ k → take k (us ++ vs) ≡ us
    front zero [] [] is = refl
    front zero [] (v ∷ vs) is = refl
    front zero (u ∷ us) vs is = absurd (omega arith)
    front (suc k) [] vs is = absurd (omega arith)
    front (suc k) (u ∷ us) vs is = ap (λ (l : List ClientPass). u ∷ l) (front k us vs (omega arith))

-- The shares of passes.
pub shares_same : (xs ys : List ClientPass) → length ys ≡ length xs → ((i : ℕ) (d : ClientPass) → i < length xs → (view_of (get_or ys i d).pass).share ≡ (view_of (get_or xs i d).pass).share) → shares_of ys ≡ shares_of xs
shares_same [] [] long same = refl
shares_same [] (y ∷ ys) long same = absurd (omega arith)
shares_same (x ∷ xs) [] long same = absurd (omega arith)
shares_same (x ∷ xs) (y ∷ ys) long same =
    let here = same 0 x (omega arith) in
    let rest = shares_same xs ys (omega arith) (λ i d below. same (suc i) d (omega arith)) in
    omega arith

-- Some passes were joined, and these are left.
pub record JoinedSoFar (scripts : Scripts) (table : FrameTable) (start pass : Pass) (passes : List ClientPass) (share : ℕ) : Type 0 where
  pub local : IsLocalPass scripts table pass
  pub all : (c : ℕ) → c < length scripts → IsAll (standing pass c) (script_column (plays_of scripts c))
  pub passes_are : All (λ f. IsClientPass scripts table f) passes
  pub shares : (view_of pass).share + shares_of passes ≡ share
  pub ended : (columns : ℕ → Column) → HasEndedAll (length scripts) table columns start → HasEndedAll (length scripts) table columns pass

pub last_of : (scripts : Scripts) (table : FrameTable) (all rest : List ClientPass) (own : ClientPass) → All (λ f. IsClientPass scripts table f) all → all ≡ rest ++ own ∷ [] → All (λ f. IsClientPass scripts table f) rest × IsClientPass scripts table own
last_of scripts table all rest own are is = All-pop (λ f. IsClientPass scripts table f) all rest (Some own) is are

pub join_more : (scripts : Scripts) (table : FrameTable) (start p q : Pass) (all rest : List ClientPass) (own : ClientPass) (share : ℕ) → JoinedSoFar scripts table start p all share → all ≡ rest ++ own ∷ [] → IsPassOf table q →
    view_of q ≡ joined_view (view_of p) (view_of own.pass) → ((c : ℕ) → c < length (plan_of table) → GrowsTo (standing p c).known (standing q c).known) → JoinedSoFar scripts table start q rest share
join_more scripts table start p q all rest own share far is of_table joined mine =
    let parts = last_of scripts table all rest own far.passes_are is in
    record {
      local = joined_local scripts table p own.pass q far.local parts.1.pass of_table joined;
      all = joined_all scripts table p own.pass q far.local parts.1.pass of_table joined mine far.all;
      passes_are = parts.0;
      shares = (let s = far.shares in let m = ap shares_of is ∙ shares_push rest own in let j = joined_share table p own.pass q of_table far.local.of_table parts.1.pass.of_table joined in omega arith);
      ended = λ columns begun. joined_ended scripts table p own.pass q far.local parts.1.pass of_table joined columns mine parts.1.made (far.ended columns begun);
    }

-- A client's thread fixes no departure of a bot.
pub client_still : (scripts : Scripts) (table : FrameTable) (own : ClientPass) (client : ℕ) (pass : Pass) → IsClientPass scripts table own → client ≡ own.client → ((d : ℕ) → d ≢ client → (standing pass d).made ≡ (standing own.pass d).made) →
    (c : ℕ) → length scripts ≤ c → c < length (plan_of table) → (standing pass c).made ≡ 0
client_still scripts table own client pass is number others c past below =
    others c (λ same. let here = is.client in absurd (omega arith)) ∙ is.made c past below

-- The first clients' plans.
plan_next : (scripts : Scripts) (c : ℕ) → c < length scripts → take (suc c) (script_plan scripts) ≡ take c (script_plan scripts) ++ Plays (plays_of scripts c) ∷ []
plan_next [] c below = absurd (omega arith)
plan_next (s ∷ scripts) zero below = refl
plan_next (s ∷ scripts) (suc c) below = ap (λ l. Plays s ∷ l) (plan_next scripts c (omega arith))

plan_end : (scripts : Scripts) (c : ℕ) → c ≡ length scripts → take c (script_plan scripts) ≡ script_plan scripts
plan_end [] zero is = refl
plan_end [] (suc c) is = absurd (omega arith)
plan_end (s ∷ scripts) zero is = absurd (omega arith)
plan_end (s ∷ scripts) (suc c) is = ap (λ l. Plays s ∷ l) (plan_end scripts c (omega arith))

pub plays_more : (scripts : Scripts) (each after : List Planned) (copy : List (List Order)) (c : ℕ) → c < length scripts → each ≡ take c (script_plan scripts) → copy ≡ plays_of scripts c → after ≡ each ++ Plays copy ∷ [] → after ≡ take (c + 1) (script_plan scripts)
plays_more scripts each after copy c below is copied pushed =
    pushed
    ∙ ap (λ l. l ++ Plays copy ∷ []) is
    ∙ ap (λ (x : List (List Order)). take c (script_plan scripts) ++ Plays x ∷ []) copied
    ∙ sym (plan_next scripts c below)
    ∙ ap (λ k. take k (script_plan scripts)) (let one : suc c ≡ c + 1 = omega arith in one)

pub plan_whole : (scripts : Scripts) (each : List Planned) (c : ℕ) → each ≡ take c (script_plan scripts) → c ≡ length scripts → each ≡ script_plan scripts
plan_whole scripts each c is end = is ∙ plan_end scripts c end
