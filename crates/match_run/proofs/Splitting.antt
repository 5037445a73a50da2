-- Passes with which nothing was done yet: the first, those that are split off it, and those that are joined back.
use Rattle.std.proofs.Common.{◌≡◌, ℕ, zero, suc, ◌+◌, ◌-◌, ◌*◌, ◌/◌, ◌^◌, ◌<◌, ◌≤◌, ◌⊎◌, ◌||◌, if◌then◌else◌, Bool, true, false, true≢false, List, [], ◌∷◌, ◌++◌, length, take, map, replicate, get_or, refl, sym, ap, ap₂, ◌∙◌, subst, inl, inr, ⊎_elim, arith, length-append, append_assoc}
use Rattle.std.specs.Prelude.{All}
use Rattle.std.proofs.lemmas.List.Elements.{All-nil, All-cons}
use Rattle.game_orders.specs.declared.order.Order.{Order}
use Rattle.frame_core.specs.Column.{Column}
use Rattle.drill_words.specs.Scripts.{plays_of}
use Rattle.frame_table.specs.declared.seen.Seen.{Seen}
use Rattle.frame_table.specs.declared.planned.Planned.{Planned}
use Rattle.frame_table.specs.declared.planned.Planned.TheVariants.{Free, Plays}
use Rattle.frame_table.specs.declared.view.View.{View}
use Rattle.frame_table.specs.declared.view.Mark.{Mark}
use Rattle.frame_table.specs.declared.pass.Pass.{Pass}
use Rattle.frame_table.specs.declared.table.FrameTable.{FrameTable}
use Rattle.frame_table.specs.Part.{Part, part_of, part_in, no_mark}
use Rattle.frame_table.specs.Word.{one_if}
use Rattle.frame_table.specs.Rule.{planned_of}
use Rattle.frame_table.specs.Steps.{IsWithinPlan}
use Rattle.frame_table.specs.Passes.{kept_mark, given_mark, kept_marks, kept_view, given_view, longer, joined_mark, joined_view, further, is_free, first_mark, first_view}
use Rattle.frame_table.proofs.PassesLemmas.{handed, joined_at, first_at}
use Rattle.frame_table.specs.Calls.{plan_of, view_of, standing, IsPassOf}
use Rattle.match_run.specs.declared.client_pass.ClientPass.{ClientPass}
use Rattle.match_run.specs.Feeding.{HasFedAll}
use Rattle.match_run.specs.Passes.{script_plan, match_plan, IsUntouched, IsUnused, AreUnused, AreFrom, rights_of, OneFeeds, IsLocalPass, KnowsAllSeen, IsClientPass, shares_of}

abbrev pub Scripts : Type 0
Scripts = List (List (List Order))

nothing : Seen
nothing = record { plays = 0; left = false }

-- The plan.
script_length : (scripts : Scripts) → length (script_plan scripts) ≡ length scripts
script_length [] = refl
script_length (s ∷ scripts) = ap suc (script_length scripts)

free_length : (bots : ℕ) → length (replicate bots Free) ≡ bots
free_length zero = refl
free_length (suc bots) = ap suc (free_length bots)

pub plan_length : (scripts : Scripts) (bots : ℕ) → length (match_plan scripts bots) ≡ length scripts + bots
plan_length scripts bots =
    let all = length-append (script_plan scripts) (replicate bots Free) in
    let some = script_length scripts in
    let free = free_length bots in
    omega arith

plan_at : (scripts : Scripts) (free : List Planned) (c : ℕ) → c < length scripts → get_or (script_plan scripts ++ free) c Free ≡ Plays (plays_of scripts c)
plan_at [] free c below = absurd (omega arith)
plan_at (s ∷ scripts) free zero below = refl
plan_at (s ∷ scripts) free (suc c) below = plan_at scripts free c (omega arith)

all_free : (bots c : ℕ) → get_or (replicate bots Free) c Free ≡ Free
all_free zero c = refl
all_free (suc bots) zero = refl
all_free (suc bots) (suc c) = all_free bots c

free_at : (scripts : Scripts) (bots c : ℕ) → length scripts ≤ c → get_or (match_plan scripts bots) c Free ≡ Free
free_at [] bots c past = all_free bots c
free_at (s ∷ scripts) bots zero past = absurd (omega arith)
free_at (s ∷ scripts) bots (suc c) past = free_at scripts bots c (omega arith)

-- One more of a plan.
pub free_more : (n : ℕ) → replicate n Free ++ Free ∷ [] ≡ replicate (n + 1) Free
free_more zero = refl
free_more (suc n) = ap (λ (l : List Planned). Free ∷ l) (free_more n) ∙ ap (λ k. replicate k Free) (let same : suc (n + 1) ≡ suc n + 1 = omega arith in same)

pub plan_more : (scripts : Scripts) (n : ℕ) (each after : List Planned) → each ≡ match_plan scripts n → after ≡ each ++ Free ∷ [] → after ≡ match_plan scripts (n + 1)
plan_more scripts n each after is pushed =
    pushed
    ∙ ap (λ (l : List Planned). l ++ Free ∷ []) is
    ∙ append_assoc (script_plan scripts) (replicate n Free) (Free ∷ [])
    ∙ ap (λ (l : List Planned). script_plan scripts ++ l) (free_more n)

-- The first pass.
first_rights : (scripts : Scripts) (bots : ℕ) → rights_of (map first_mark (match_plan scripts bots)) ≡ bots
first_rights [] zero = refl
first_rights [] (suc bots) = let rest = first_rights [] bots in omega arith
first_rights (s ∷ scripts) bots = let rest = first_rights scripts bots in omega arith

module _ (scripts : Scripts) (bots : ℕ) (table : FrameTable) (pass : Pass) (plan : List Planned) (plan_is : plan ≡ match_plan scripts bots) (is : IsPassOf table pass) (of_plan : plan_of table ≡ plan) (first : view_of pass ≡ first_view plan) where
  part_first : (c : ℕ) → c < length (plan_of table) → standing pass c ≡ part_in (2 ^ 62) (first_mark (planned_of (plan_of table) c))
  part_first c below =
      ap (part_of c) first
      ∙ ap (λ (l : List Planned). part_of c (first_view l)) (sym of_plan)
      ∙ ap (part_in (2 ^ 62)) (first_at (plan_of table) c below)

  pub first_plan : plan_of table ≡ match_plan scripts bots
  first_plan = of_plan ∙ plan_is

  pub first_unused : IsUnused table pass
  first_unused = record {
    of_table = is;
    columns = λ c below. record {
      planned = ap (λ (r : Part). r.planned) (part_first c below);
      reach = ap (λ (r : Part). r.reach) (part_first c below);
      known = ap (λ (r : Part). r.known) (part_first c below);
      made = ap (λ (r : Part). r.made) (part_first c below);
    };
  }

  pub first_share : (view_of pass).share ≡ 2 ^ 62
  first_share = ap (λ (v : View). v.share) first

  pub first_all_rights : rights_of (view_of pass).marks ≡ bots
  first_all_rights = ap (λ (v : View). rights_of v.marks) first ∙ ap (λ (l : List Planned). rights_of (map first_mark l)) plan_is ∙ first_rights scripts bots

  pub first_feeds : (c : ℕ) → length scripts ≤ c → c < length scripts + bots → (standing pass c).feeds ≡ true
  first_feeds c past below =
      let long = ap length first_plan ∙ plan_length scripts bots in
      ap (λ (r : Part). r.feeds) (part_first c (omega arith))
      ∙ ap is_free (ap (λ (l : List Planned). planned_of l c) first_plan ∙ free_at scripts bots c past)

-- What an unused pass is.
module _ (scripts : Scripts) (bots : ℕ) (table : FrameTable) (pass : Pass) (plan : plan_of table ≡ match_plan scripts bots) (unused : IsUnused table pass) where
  pub unused_long : length (plan_of table) ≡ length scripts + bots
  unused_long = ap length plan ∙ plan_length scripts bots

  pub unused_local : IsLocalPass scripts table pass
  unused_local = record {
    of_table = unused.of_table;
    clients = (let long = unused_long in omega arith);
    columns = λ c below.
        let long = unused_long in
        let own = unused.columns c (omega arith) in
        record {
          planned = own.planned ∙ ap (λ (l : List Planned). planned_of l c) plan ∙ plan_at scripts (replicate bots Free) c below;
          within = subst (λ (s : Seen). IsWithinPlan (Plays (plays_of scripts c)) s) (sym own.reach) ((omega arith), λ left. absurd (true≢false (sym left)));
        };
  }

  pub unused_knows : KnowsAllSeen scripts pass
  unused_knows c below =
      let long = unused_long in
      let own = unused.columns c (omega arith) in
      own.known ∙ ap (λ (s : Seen). record { plays = take s.plays (plays_of scripts c); left = s.left }) (sym own.reach)

  pub unused_fed : ((c : ℕ) → length scripts ≤ c → c < length (plan_of table) → (standing pass c).feeds ≡ true) → HasFedAll (length scripts) table (λ c. []) pass
  unused_fed feeds c past below =
      let own = unused.columns c below in
      record {
        may = record {
          free = own.planned ∙ ap (λ (l : List Planned). planned_of l c) plan ∙ free_at scripts bots c past;
          feeds = feeds c past below;
        };
        made = own.made;
        known = λ shut. ap (λ (k : Column). k.plays) own.known;
      }

-- Those that were split off for the clients of scripts.
pub unused_clients : (scripts : Scripts) (bots : ℕ) (table : FrameTable) (first : ℕ) (passes : List ClientPass) → plan_of table ≡ match_plan scripts bots → AreUnused table passes → AreFrom first passes → first + length passes ≤ length scripts → All (λ f. IsClientPass scripts table f) passes
unused_clients scripts bots table first [] plan are from few = All-nil (λ f. IsClientPass scripts table f)
unused_clients scripts bots table first (own ∷ passes) plan are from few =
    let long = length (own ∷ passes) in
    All-cons (λ f. IsClientPass scripts table f) own passes
    (record {
      pass = unused_local scripts bots table own.pass plan are.0;
      client = (let is = from.0 in omega arith);
      made = λ c past below. (are.0.columns c below).made;
    })
    (unused_clients scripts bots table (first + 1) passes plan are.1 from.1 (omega arith))

-- A split.
kept_untouched : (planned : Planned) (b : Bool) (share old : ℕ) (m : Mark) → IsUntouched planned (part_in old m) → IsUntouched planned (part_in share (kept_mark b m))
kept_untouched planned true share old m so = record { planned = so.planned; reach = so.reach; known = so.known; made = so.made }
kept_untouched planned false share old m so = record { planned = so.planned; reach = so.reach; known = so.known; made = so.made }

given_untouched : (planned : Planned) (b : Bool) (share old : ℕ) (m : Mark) → IsUntouched planned (part_in old m) → IsUntouched planned (part_in share (given_mark b m))
given_untouched planned b share old m so = record { planned = so.planned; reach = so.reach; known = so.known; made = refl }

one_feeds : (b : Bool) (share other old : ℕ) (m : Mark) → (part_in old m).feeds ≡ true → ((part_in share (kept_mark b m)).feeds ≡ true) ⊎ ((part_in other (given_mark b m)).feeds ≡ true)
one_feeds true share other old m is = inr refl
one_feeds false share other old m is = inl is

pub kept_rights : (ms : List Mark) → rights_of (kept_marks ms) ≡ rights_of ms - 1
kept_rights [] = refl
kept_rights (m ∷ ms) = by m.feeds refl (kept_rights ms)
  where
    by : (b : Bool) → m.feeds ≡ b → rights_of (kept_marks ms) ≡ rights_of ms - 1 → rights_of (kept_marks (m ∷ ms)) ≡ rights_of (m ∷ ms) - 1
    by true is rest =
        ap (λ (b : Bool). rights_of (if b then kept_mark true m ∷ ms else m ∷ kept_marks ms)) is
        ∙ (let one : one_if m.feeds ≡ 1 = ap one_if is in omega arith)
    by false is rest =
        ap (λ (b : Bool). rights_of (if b then kept_mark true m ∷ ms else m ∷ kept_marks ms)) is
        ∙ (let none : one_if m.feeds ≡ 0 = ap one_if is in omega arith)

module _ (table : FrameTable) (p q other : Pass) (unused : IsUnused table p) (is : IsPassOf table q) (theirs : IsPassOf table other) (kept : view_of q ≡ kept_view (view_of p)) (given : view_of other ≡ given_view (view_of p)) where
  kept_part : (c : ℕ) → standing q c ≡ part_in ((view_of p).share - (view_of p).share / 2) (kept_mark (handed (view_of p).marks c).0 (get_or (view_of p).marks c no_mark))
  kept_part c = ap (part_of c) kept ∙ ap (part_in ((view_of p).share - (view_of p).share / 2)) (handed (view_of p).marks c).1.0

  given_part : (c : ℕ) → standing other c ≡ part_in ((view_of p).share / 2) (given_mark (handed (view_of p).marks c).0 (get_or (view_of p).marks c no_mark))
  given_part c = ap (part_of c) given ∙ ap (part_in ((view_of p).share / 2)) (handed (view_of p).marks c).1.1

  pub kept_unused : IsUnused table q
  kept_unused = record {
    of_table = is;
    columns = λ c below. subst (IsUntouched (planned_of (plan_of table) c)) (sym (kept_part c))
        (kept_untouched (planned_of (plan_of table) c) (handed (view_of p).marks c).0 ((view_of p).share - (view_of p).share / 2) (view_of p).share (get_or (view_of p).marks c no_mark) (unused.columns c below));
  }

  pub given_unused : IsUnused table other
  given_unused = record {
    of_table = theirs;
    columns = λ c below. subst (IsUntouched (planned_of (plan_of table) c)) (sym (given_part c))
        (given_untouched (planned_of (plan_of table) c) (handed (view_of p).marks c).0 ((view_of p).share / 2) (view_of p).share (get_or (view_of p).marks c no_mark) (unused.columns c below));
  }

  pub feeds_on : (c : ℕ) → (standing p c).feeds ≡ true → ((standing q c).feeds ≡ true) ⊎ ((standing other c).feeds ≡ true)
  feeds_on c fed = ⊎_elim
      (λ mine. inl (ap (λ (r : Part). r.feeds) (kept_part c) ∙ mine))
      (λ other_s. inr (ap (λ (r : Part). r.feeds) (given_part c) ∙ other_s))
      (one_feeds (handed (view_of p).marks c).0 ((view_of p).share - (view_of p).share / 2) ((view_of p).share / 2) (view_of p).share (get_or (view_of p).marks c no_mark) fed)

-- Passes in a list.
pub shares_push : (xs : List ClientPass) (x : ClientPass) → shares_of (xs ++ x ∷ []) ≡ shares_of xs + (view_of x.pass).share
shares_push [] x = omega arith
shares_push (y ∷ xs) x = let rest = shares_push xs x in omega arith

unused_push : (table : FrameTable) (xs : List ClientPass) (x : ClientPass) → AreUnused table xs → IsUnused table x.pass → AreUnused table (xs ++ x ∷ [])
unused_push table [] x are is = (is, tt)
unused_push table (y ∷ xs) x are is = (are.0, unused_push table xs x are.1 is)

unused_pop : (table : FrameTable) (xs : List ClientPass) (x : ClientPass) → AreUnused table (xs ++ x ∷ []) → AreUnused table xs × IsUnused table x.pass
unused_pop table [] x are = (tt, are.0)
unused_pop table (y ∷ xs) x are = let rest = unused_pop table xs x are.1 in ((are.0, rest.0), rest.1)

pub unused_last : (table : FrameTable) (passes rest : List ClientPass) (own : ClientPass) → AreUnused table passes → passes ≡ rest ++ own ∷ [] → IsPassOf table own.pass
unused_last table passes rest own are is = (unused_pop table rest own (subst (AreUnused table) is are)).1.of_table

from_push : (first : ℕ) (xs : List ClientPass) (x : ClientPass) → AreFrom first xs → x.client ≡ first + length xs → AreFrom first (xs ++ x ∷ [])
from_push first [] x are is = ((omega arith), tt)
from_push first (y ∷ xs) x are is = (are.0, from_push (first + 1) xs x are.1 (omega arith))

feeds_push : (xs : List ClientPass) (x : ClientPass) (c : ℕ) → OneFeeds xs c ⊎ ((standing x.pass c).feeds ≡ true) → OneFeeds (xs ++ x ∷ []) c
feeds_push [] x c one = ⊎_elim (λ none. absurd none) (λ it. inl it) one
feeds_push (y ∷ xs) x c one = ⊎_elim
    (λ some. ⊎_elim (λ it. inl it) (λ rest. inr (feeds_push xs x c (inl rest))) some)
    (λ it. inr (feeds_push xs x c (inr it))) one

feeds_pop : (xs : List ClientPass) (x : ClientPass) (c : ℕ) → OneFeeds (xs ++ x ∷ []) c → OneFeeds xs c ⊎ ((standing x.pass c).feeds ≡ true)
feeds_pop [] x c one = ⊎_elim (λ it. inr it) (λ none. absurd none) one
feeds_pop (y ∷ xs) x c one = ⊎_elim (λ it. inl (inl it)) (λ rest. ⊎_elim (λ some. inl (inr some)) (λ it. inr it) (feeds_pop xs x c rest)) one

-- Shares.
doubled : (k : ℕ) → 2 ^ suc k ≡ 2 * 2 ^ k
doubled k = omega arith

power_pos : (k : ℕ) → 1 ≤ 2 ^ k
power_pos zero = omega arith
power_pos (suc k) = let d = doubled k in let rest = power_pos k in omega arith

pub power_more : (k j : ℕ) → 2 ^ k ≤ 2 ^ (j + k)
power_more k zero = subst (λ e. 2 ^ k ≤ 2 ^ e) (let same : k ≡ 0 + k = omega arith in same) (omega arith)
power_more k (suc j) = let d = doubled (j + k) in let rest = power_more k j in let one : suc j + k ≡ suc (j + k) = omega arith in subst (λ e. 2 ^ k ≤ 2 ^ e) (sym one) (omega arith)

-- The passes of the clients below i, from the first on, were split off.
pub record SplitSoFar (table : FrameTable) (start pass : Pass) (passes : List ClientPass) (first i : ℕ) : Type 0 where
  pub unused : IsUnused table pass
  pub passes_are : AreUnused table passes
  pub from : AreFrom first passes
  pub count : first + length passes ≡ i
  pub shares : (view_of pass).share + shares_of passes ≡ (view_of start).share
  pub least : (k : ℕ) → 2 ^ (k + (i - first)) ≤ (view_of start).share → 2 ^ k ≤ (view_of pass).share
  pub rights : rights_of (view_of pass).marks ≡ rights_of (view_of start).marks - (i - first)
  pub feeds : (c : ℕ) → (standing start c).feeds ≡ true → ((standing pass c).feeds ≡ true) ⊎ OneFeeds passes c

pub split_none : (table : FrameTable) (pass : Pass) (first : ℕ) → IsUnused table pass → SplitSoFar table pass pass [] first first
split_none table pass first unused = record {
  unused = unused;
  passes_are = tt;
  from = tt;
  count = (omega arith);
  shares = (omega arith);
  least = λ k enough. subst (λ e. 2 ^ e ≤ (view_of pass).share) (let none : k + (first - first) ≡ k = omega arith in none) enough;
  rights = (omega arith);
  feeds = λ c fed. inl fed;
}

pub enough_left : (table : FrameTable) (start pass : Pass) (passes : List ClientPass) (first i : ℕ) → SplitSoFar table start pass passes first i → i - first ≤ 16 → 2 ^ 40 ≤ (view_of start).share → 2 ≤ (view_of pass).share
enough_left table start pass passes first i far few enough =
    let within : 2 ^ (1 + (i - first)) ≤ 2 ^ 40 = subst (λ e. 2 ^ (1 + (i - first)) ≤ 2 ^ e) (let all : 39 - (i - first) + (1 + (i - first)) ≡ 40 = omega arith in all) (power_more (1 + (i - first)) (39 - (i - first))) in
    far.least 1 (omega arith)

pub split_more : (table : FrameTable) (start p q : Pass) (passes after : List ClientPass) (first i : ℕ) (own : ClientPass) → first ≤ i → SplitSoFar table start p passes first i → IsPassOf table q → view_of q ≡ kept_view (view_of p) → IsPassOf table own.pass → view_of own.pass ≡ given_view (view_of p) → own.client ≡ i → after ≡ passes ++ own ∷ [] →
    SplitSoFar table start q after first (i + 1)
split_more table start p q passes after first i own past far is kept theirs given number pushed =
    let share = (view_of p).share in
    let mine : (view_of q).share ≡ share - share / 2 = ap (λ (v : View). v.share) kept in
    let their : (view_of own.pass).share ≡ share / 2 = ap (λ (v : View). v.share) given in
    let count = far.count in
    record {
      unused = kept_unused table p q own.pass far.unused is theirs kept given;
      passes_are = subst (AreUnused table) (sym pushed) (unused_push table passes own far.passes_are (given_unused table p q own.pass far.unused is theirs kept given));
      from = subst (AreFrom first) (sym pushed) (from_push first passes own far.from (omega arith));
      count = (let long = ap length pushed ∙ length-append passes (own ∷ []) in omega arith);
      shares = (let all = far.shares in let more = ap shares_of pushed ∙ shares_push passes own in omega arith);
      least = λ k enough.
          let d = doubled k in
          let double : 2 ^ suc k ≤ share = far.least (suc k) (subst (λ e. 2 ^ e ≤ (view_of start).share) (let same : k + (i + 1 - first) ≡ suc k + (i - first) = omega arith in same) enough) in
          (omega arith);
      rights = (let before = far.rights in let one = ap (λ (v : View). rights_of v.marks) kept ∙ kept_rights (view_of p).marks in omega arith);
      feeds = λ c fed. subst (λ (l : List ClientPass). ((standing q c).feeds ≡ true) ⊎ OneFeeds l c) (sym pushed) (⊎_elim
          (λ mine_feeds. ⊎_elim (λ still. inl still) (λ gave. inr (feeds_push passes own c (inr gave))) (feeds_on table p q own.pass far.unused is theirs kept given c mine_feeds))
          (λ some. inr (feeds_push passes own c (inl some)))
          (far.feeds c fed));
    }

-- A pass without rights feeds nothing.
none_feeds : (ms : List Mark) (c : ℕ) → rights_of ms ≡ 0 → (get_or ms c no_mark).feeds ≡ true → ⊥
none_feeds [] c none fed = true≢false (sym fed)
none_feeds (m ∷ ms) zero none fed = let one = ap one_if fed in absurd (omega arith)
none_feeds (m ∷ ms) (suc c) none fed = none_feeds ms c (omega arith) fed

pub others_feed : (pass : Pass) (passes : List ClientPass) (c : ℕ) → rights_of (view_of pass).marks ≡ 0 → ((standing pass c).feeds ≡ true) ⊎ OneFeeds passes c → OneFeeds passes c
others_feed pass passes c none one = ⊎_elim (λ mine. absurd (none_feeds (view_of pass).marks c none mine)) (λ some. some) one

-- A join.
or_left : (a b : Bool) → (a ≡ true) ⊎ (b ≡ true) → (a || b) ≡ true
or_left true b one = refl
or_left false b one = ⊎_elim (λ no. absurd (true≢false (sym no))) (λ yes. yes) one

joined_untouched : (planned : Planned) (share old_a old_b : ℕ) (a b : Mark) → IsUntouched planned (part_in old_a a) → IsUntouched planned (part_in old_b b) → IsUntouched planned (part_in share (joined_mark a b))
joined_untouched planned share old_a old_b a b x y = record {
  planned = x.planned;
  reach = ap₂ further x.reach y.reach;
  known = ap₂ (λ (k l : Column). record { plays = (longer k l).plays; left = (longer k l).left }) x.known y.known;
  made = (let mine = x.made in let theirs = y.made in omega arith);
}

module _ (table : FrameTable) (p other q : Pass) (is : IsPassOf table q) (mine : IsPassOf table p) (theirs : IsPassOf table other) (joined : view_of q ≡ joined_view (view_of p) (view_of other)) where
  pub part_joined : (c : ℕ) → c < length (plan_of table) → standing q c ≡ part_in ((view_of p).share + (view_of other).share) (joined_mark (get_or (view_of p).marks c no_mark) (get_or (view_of other).marks c no_mark))
  part_joined c below =
      ap (part_of c) joined
      ∙ ap (part_in ((view_of p).share + (view_of other).share)) (joined_at (view_of p).marks (view_of other).marks c
      (let l = mine.marks in omega arith) (let l = theirs.marks in omega arith))

  pub joined_unused : IsUnused table p → IsUnused table other → IsUnused table q
  joined_unused x y = record {
    of_table = is;
    columns = λ c below. subst (IsUntouched (planned_of (plan_of table) c)) (sym (part_joined c below))
        (joined_untouched (planned_of (plan_of table) c) ((view_of p).share + (view_of other).share) (view_of p).share (view_of other).share (get_or (view_of p).marks c no_mark) (get_or (view_of other).marks c no_mark) (x.columns c below) (y.columns c below));
  }

  pub joined_share : (view_of q).share ≡ (view_of p).share + (view_of other).share
  joined_share = ap (λ (v : View). v.share) joined

  pub joined_feeds : (c : ℕ) → c < length (plan_of table) → ((standing p c).feeds ≡ true) ⊎ ((standing other c).feeds ≡ true) → (standing q c).feeds ≡ true
  joined_feeds c below one = ap (λ (r : Part). r.feeds) (part_joined c below) ∙ or_left (standing p c).feeds (standing other c).feeds one

-- Some passes were joined back, and these are left.
pub record UnusedSoFar (table : FrameTable) (start pass : Pass) (all passes : List ClientPass) : Type 0 where
  pub unused : IsUnused table pass
  pub passes_are : AreUnused table passes
  pub shares : (view_of pass).share + shares_of passes ≡ (view_of start).share + shares_of all
  pub feeds : (c : ℕ) → c < length (plan_of table) → OneFeeds all c → ((standing pass c).feeds ≡ true) ⊎ OneFeeds passes c

pub unused_more : (table : FrameTable) (start p q : Pass) (all passes rest : List ClientPass) (own : ClientPass) → UnusedSoFar table start p all passes → passes ≡ rest ++ own ∷ [] → IsPassOf table q → view_of q ≡ joined_view (view_of p) (view_of own.pass) → UnusedSoFar table start q all rest
unused_more table start p q all passes rest own far popped is joined =
    let parts = unused_pop table rest own (subst (AreUnused table) popped far.passes_are) in
    record {
      unused = joined_unused table p own.pass q is far.unused.of_table parts.1.of_table joined far.unused parts.1;
      passes_are = parts.0;
      shares = (let s = far.shares in let m = ap shares_of popped ∙ shares_push rest own in let j = joined_share table p own.pass q is far.unused.of_table parts.1.of_table joined in omega arith);
      feeds = λ c below one. ⊎_elim
          (λ mine. inl (joined_feeds table p own.pass q is far.unused.of_table parts.1.of_table joined c below (inl mine)))
          (λ some. ⊎_elim
          (λ left. inr left)
          (λ it. inl (joined_feeds table p own.pass q is far.unused.of_table parts.1.of_table joined c below (inr it)))
          (feeds_pop rest own c (subst (λ (l : List ClientPass). OneFeeds l c) popped some)))
          (far.feeds c below one);
    }

pub unused_all : (table : FrameTable) (start pass : Pass) (all passes : List ClientPass) → UnusedSoFar table start pass all passes → passes ≡ [] → (c : ℕ) → c < length (plan_of table) → OneFeeds all c → (standing pass c).feeds ≡ true
unused_all table start pass all passes far none c below one = ⊎_elim (λ it. it) (λ some. absurd (subst (λ (l : List ClientPass). OneFeeds l c) none some)) (far.feeds c below one)

pub unused_begin : (table : FrameTable) (pass : Pass) (all : List ClientPass) → IsUnused table pass → AreUnused table all → UnusedSoFar table pass pass all all
unused_begin table pass all unused are = record { unused = unused; passes_are = are; shares = refl; feeds = λ c below one. inr one }
