-- How a session ends, once its client was let go.
use Rattle.std.proofs.Common.{◌≡◌, ℕ, ◌+◌, ◌-◌, Bool, true, false, List, [], ◌++◌, length, Some, refl, sym, ap, subst, ◌∙◌, arith, inl, inr}
use Rattle.game_io.specs.SourceState.{SourceState}
use Rattle.game_orders.specs.declared.order.Order.{Order}
use Rattle.frame_core.specs.Column.{Column, left_column, leave_answer}
use Rattle.frame_core.specs.declared.leaving.Leaving.{Leaving}
use Rattle.frame_core.specs.declared.leaving.Leaving.TheVariants as leaving
use Rattle.frame_table.specs.declared.planned.Planned.TheVariants.{Free}
use Rattle.frame_table.specs.declared.view.View.{View}
use Rattle.frame_table.specs.Part.{Part, part_of}
use Rattle.frame_table.specs.Word.{one_if, whole_of}
use Rattle.frame_table.specs.Steps.{IsFound, published}
use Rattle.frame_table.specs.Calls.{LeavesSo}
use Rattle.report_line.specs.declared.heard.Heard.{Heard}
use Rattle.match_net.specs.declared.greeting.Greeting.{Greeting}
use Rattle.match_net.specs.declared.greeting.Greeting.TheVariants as greeting
use Rattle.match_net.specs.declared.reader_end.ReaderEnd.{ReaderEnd}
use Rattle.match_net.specs.declared.reader_end.ReaderEnd.TheVariants as end
use Rattle.match_net.specs.PieceTaking.{Counts}
use Rattle.match_net.specs.Greeting.{hello_bytes}
use Rattle.match_net.specs.Handling.{IsLeftIf}
use Rattle.match_net.specs.Reading.{MayPlay, OnlyLearns, EndMeans, ReadsTo}
use Rattle.match_net.specs.Sessions.{LeavesColumn, FixedIt, FoundIt, SessionEnds, ReadsLink, GreetingEnds, ReadsNothing, ReadsAs, CountsAs, Untouched, ReadBy, after_leaving}
use Rattle.match_net.specs.Ahead.{LooksAtOthers}
use Rattle.match_net.proofs.AheadLemmas.{others_still, others_stay_on}

-- What the answer to a departure says of who fixed it, after these plays.
abbrev pub LeftBy : ℕ → List (List Order) → View → View → Leaving → Type 0
LeftBy c plays before after (leaving.Fixed at) = FixedIt c before after
LeftBy c plays before after (leaving.Already at) = FoundIt c plays before after at

pub record Gone (c : ℕ) (plays : List (List Order)) (before mid after : View) (answer : Leaving) : Type 0 where
  pub column : LeavesColumn c plays before after
  pub by : LeftBy c plays before after answer
  pub known : (part_of c mid).known.left ≡ true → FoundIt c plays before after (length plays)

gone_by :
    (c : ℕ) (K : Column) (before mid after : View) (left : Bool) → K.left ≡ left →
    (part_of c mid).made ≡ (part_of c before).made →
    (part_of c after).made ≡ (part_of c mid).made + (1 - one_if K.left) →
    LeftBy c K.plays before after (leave_answer K)
gone_by c K before mid after true is same made = rw is (record { none_made = made ∙ less K.left is ∙ same; at_end = refl })
  where
    less : (b : Bool) → b ≡ true → (part_of c mid).made + (1 - one_if b) ≡ (part_of c mid).made
    less b e = rw e (omega arith)
gone_by c K before mid after false is same made = rw is (made ∙ more K.left is)
  where
    more : (b : Bool) → b ≡ false → (part_of c mid).made + (1 - one_if b) ≡ (part_of c before).made + 1
    more b e = rw e (omega (arith, same))

pub gone :
    (c : ℕ) (plays : List (List Order)) (before mid after : View) (answer : Leaving) → (part_of c before).held ≡ [] → (part_of c mid).feeds ≡ true →
    LooksAtOthers c before mid → OnlyLearns (part_of c before) (part_of c mid) → (part_of c mid).known.plays ≡ plays →
    LeavesSo c mid after answer → Gone c plays before mid after answer
gone c plays before mid after answer free feeds others learns known leaves =
    let K = leaves.0 in
    let acted = leaves.1 in
    let same : plays ≡ K.plays = sym known ∙ (acted.found.fed feeds).1 in
    let made_mid : (part_of c mid).made ≡ (part_of c before).made = ap (λ (p : Part). p.made) learns in
    let made : (part_of c after).made ≡ (part_of c mid).made + (1 - one_if K.left) = ap (λ (p : Part). p.made) acted.part in
    let by : LeftBy c plays before after answer =
    subst (λ (xs : List (List Order)). LeftBy c xs before after answer) (sym same)
    (subst (λ (a : Leaving). LeftBy c K.plays before after a) (sym leaves.2) (gone_by c K before mid after K.left refl made_mid made)) in
    record {
      column = record {
        others = others_stay_on c before mid after others acted.others;
        part = column_is K acted.part same;
      };
      by = by;
      known = λ left. found_it K left acted.found same made_mid made;
    }
  where
    column_is : (K : Column) → part_of c after ≡ published (part_of c mid) K (left_column K) → plays ≡ K.plays →
        part_of c after ≡ record (part_of c before) {
          reach = record { plays = length plays; left = true };
          known = record { plays = plays; left = true };
          loads = (part_of c after).loads;
          made = (part_of c after).made;
        }
    column_is K is same =
        let made : (part_of c after).made ≡ (part_of c mid).made + (1 - one_if K.left) = ap (λ (p : Part). p.made) is in
        let loads : (part_of c after).loads ≡ (part_of c mid).loads = ap (λ (p : Part). p.loads) is in
        is
        ∙ ap (λ (m : ℕ). record (part_of c mid) { reach = whole_of (left_column K); known = left_column K; made = m; held = [] }) (sym made)
        ∙ ap (λ (p : Part). record p { reach = whole_of (left_column K); known = left_column K; made = (part_of c after).made; held = [] }) learns
        ∙ ap (λ (h : List Column). record (part_of c before) { reach = whole_of (left_column K); known = left_column K; loads = (part_of c mid).loads; made = (part_of c after).made; held = h }) (sym free)
        ∙ ap (λ (n : ℕ). record (part_of c before) { reach = whole_of (left_column K); known = left_column K; loads = n; made = (part_of c after).made }) (sym loads)
        ∙ ap (λ (xs : List (List Order)). record (part_of c before) { reach = record { plays = length xs; left = true }; known = record { plays = xs; left = true }; loads = (part_of c after).loads; made = (part_of c after).made }) (sym same)

    found_it : (K : Column) → (part_of c mid).known.left ≡ true → IsFound (part_of c mid) K → plays ≡ K.plays →
        (part_of c mid).made ≡ (part_of c before).made → (part_of c after).made ≡ (part_of c mid).made + (1 - one_if K.left) →
        FoundIt c plays before after (length plays)
    found_it K left found same made_mid made =
        let closed : K.left ≡ true = ap (λ (k : Column). k.left) (found.known.closed left) ∙ left in
        record { none_made = made ∙ none K.left closed ∙ made_mid; at_end = refl }
      where
        none : (b : Bool) → b ≡ true → (part_of c mid).made + (1 - one_if b) ≡ (part_of c mid).made
        none b e = rw e (omega arith)

-- A session after a Welcome.
welcomed_ends :
    (c here : ℕ) (given : List ℕ) (old new : SourceState) (from count : ℕ) (before mid after : View) (first pushed : List Heard) (answer : ReaderEnd) (left : Leaving) →
    (reads : ReadsTo c here given old new from count before mid first pushed answer) →
    Gone c reads.session.plays before mid after left →
    (link : ReadsLink c here given old new before after first pushed (after_leaving answer left)) × Counts from count link.taken
welcomed_ends c here given old new from count before mid after first pushed answer left reads gone = (
  record {
    session = reads.session;
    taken = reads.taken;
    rest = reads.rest;
    few = reads.few;
    took = reads.took;
    later = reads.later;
    makes = reads.makes;
    at = reads.at;
    place = reads.place;
    reports = reads.standing.reports;
    column = gone.column;
    ends = by_end answer left reads.ends reads.knows gone.by gone.known;
  },
  reads.counted,
)
  where
    by_end : (answer : ReaderEnd) (left : Leaving) → EndMeans c here (given ++ reads.taken) reads.session reads.rest old new answer →
        IsLeftIf (part_of c mid).known.left (Some answer) → LeftBy c reads.session.plays before after left →
        ((part_of c mid).known.left ≡ true → FoundIt c reads.session.plays before after (length reads.session.plays)) →
        SessionEnds c here (given ++ reads.taken) reads.session reads.rest old new before after (after_leaving answer left)
    by_end end.Ended (leaving.Fixed at) ends knows by known = (ends, by)
    by_end end.Ended (leaving.Already at) ends knows by known = (by, inl ends)
    by_end (end.Refused why) left ends knows by known = ends
    by_end (end.LeftAt at) left ends knows by known =
        (record { none_made = (known knows).none_made; at_end = ends.3.after_all }, inr ends)
    by_end end.Lost left ends knows by known = ends
    by_end end.NoMemory left ends knows by known = tt

-- A session that takes nothing.
unread_ends :
    (g : Greeting) (c : ℕ) (old new : SourceState) (from count : ℕ) (before mid after : View) (first pushed : List Heard) (answer : ReaderEnd) (left : Leaving) →
    Untouched old new from count before mid first pushed → Gone c [] before mid after left →
    GreetingEnds g c before after (after_leaving answer left) →
    ReadsNothing g c old new before after first pushed (after_leaving answer left) × (count ≡ from)
unread_ends g c old new from count before mid after first pushed answer left untouched gone ends =
    (record { untouched = untouched.link; reports = untouched.reports; column = gone.column; ends = ends }, untouched.counted)

gone_unread :
    (c : ℕ) (old new : SourceState) (from count : ℕ) (before mid after : View) (first pushed : List Heard) (left : Leaving) →
    MayPlay (part_of c before) → (part_of c before).held ≡ [] → (part_of c before).known.plays ≡ [] →
    Untouched old new from count before mid first pushed → LeavesSo c mid after left → Gone c [] before mid after left
gone_unread c old new from count before mid after first pushed left may free unplayed untouched leaves =
    gone c [] before mid after left free
    (ap (λ (v : View). (part_of c v).feeds) untouched.view ∙ may.feeds)
    (subst (λ (v : View). LooksAtOthers c before v) (sym untouched.view) (others_still c before))
    (subst (λ (v : View). OnlyLearns (part_of c before) (part_of c v)) (sym untouched.view) refl)
    (ap (λ (v : View). (part_of c v).known.plays) untouched.view ∙ unplayed) leaves

-- Any session.
pub session_ends :
    (g : Greeting) (c here : ℕ) (held : List ℕ) (old new : SourceState) (from count : ℕ) (before mid after : View) (first pushed : List Heard) (answer : ReaderEnd) (left : Leaving) →
    MayPlay (part_of c before) → (part_of c before).held ≡ [] → (part_of c before).known.plays ≡ [] →
    ReadBy g c here held old new from count before mid first pushed answer → LeavesSo c mid after left →
    CountsAs g c here held old new from count before after first pushed (after_leaving answer left)
session_ends greeting.Welcome c here held old new from count before mid after first pushed answer left may free unplayed reads leaves =
    welcomed_ends c here (hello_bytes here ++ held) old new from count before mid after first pushed answer left reads
    (gone c reads.session.plays before mid after left free (ap (λ (p : Part). p.feeds) reads.learns ∙ may.feeds) reads.others reads.learns reads.standing.plays leaves)
session_ends (greeting.Refuse code) c here held old new from count before mid after first pushed answer left may free unplayed reads leaves =
    unread_ends (greeting.Refuse code) c old new from count before mid after first pushed answer left reads.0
    (gone_unread c old new from count before mid after first pushed left may free unplayed reads.0 leaves)
    (ap (λ (a : ReaderEnd). after_leaving a left) reads.1)
session_ends (greeting.Fault fault) c here held old new from count before mid after first pushed answer left may free unplayed reads leaves =
    unread_ends (greeting.Fault fault) c old new from count before mid after first pushed answer left reads.0
    (gone_unread c old new from count before mid after first pushed left may free unplayed reads.0 leaves)
    (ap (λ (a : ReaderEnd). after_leaving a left) reads.1)
session_ends greeting.Lost c here held old new from count before mid after first pushed answer left may free unplayed reads leaves =
    unread_ends greeting.Lost c old new from count before mid after first pushed answer left reads.0
    (gone_unread c old new from count before mid after first pushed left may free unplayed reads.0 leaves)
    (ap (λ (a : ReaderEnd). after_leaving a left) reads.1)
session_ends greeting.Ended c here held old new from count before mid after first pushed answer left may free unplayed reads leaves =
    let gone_so = gone_unread c old new from count before mid after first pushed left may free unplayed reads.0 leaves in
    unread_ends greeting.Ended c old new from count before mid after first pushed answer left reads.0 gone_so (by_left left gone_so.by reads.1)
  where
    by_left : (left : Leaving) → LeftBy c [] before after left → answer ≡ end.Ended → GreetingEnds greeting.Ended c before after (after_leaving answer left)
    by_left (leaving.Fixed at) by is = inl (ap (λ (a : ReaderEnd). after_leaving a (leaving.Fixed at)) is, by)
    by_left (leaving.Already at) by is = inr (at, ap (λ (a : ReaderEnd). after_leaving a (leaving.Already at)) is, by)

-- The same without the count.
pub uncounted :
    (g : Greeting) (c here : ℕ) (held : List ℕ) (old new : SourceState) (from count : ℕ) (before after : View) (first pushed : List Heard) (answer : ReaderEnd) →
    CountsAs g c here held old new from count before after first pushed answer →
    ReadsAs g c here held old new before after first pushed answer
uncounted greeting.Welcome c here held old new from count before after first pushed answer reads = reads.0
uncounted (greeting.Refuse code) c here held old new from count before after first pushed answer reads = reads.0
uncounted (greeting.Fault fault) c here held old new from count before after first pushed answer reads = reads.0
uncounted greeting.Ended c here held old new from count before after first pushed answer reads = reads.0
uncounted greeting.Lost c here held old new from count before after first pushed answer reads = reads.0

-- A session leaves its column free.
pub stays_free :
    (g : Greeting) (c here : ℕ) (held : List ℕ) (old new : SourceState) (before after : View) (first pushed : List Heard) (answer : ReaderEnd) →
    ReadsAs g c here held old new before after first pushed answer → (part_of c before).planned ≡ Free → (part_of c after).planned ≡ Free
stays_free greeting.Welcome c here held old new before after first pushed answer reads free = ap (λ (p : Part). p.planned) reads.column.part ∙ free
stays_free (greeting.Refuse code) c here held old new before after first pushed answer reads free = ap (λ (p : Part). p.planned) reads.column.part ∙ free
stays_free (greeting.Fault fault) c here held old new before after first pushed answer reads free = ap (λ (p : Part). p.planned) reads.column.part ∙ free
stays_free greeting.Ended c here held old new before after first pushed answer reads free = ap (λ (p : Part). p.planned) reads.column.part ∙ free
stays_free greeting.Lost c here held old new before after first pushed answer reads free = ap (λ (p : Part). p.planned) reads.column.part ∙ free
