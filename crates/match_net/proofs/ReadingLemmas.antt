-- What a packet leaves of a session.
use Rattle.std.proofs.Common.{◌≡◌, ℕ, ◌+◌, ◌-◌, Bool, true, List, [], ◌∷◌, ◌++◌, length, Option, Some, None, refl, sym, ap, subst, ◌∙◌, arith, append_assoc}
use Rattle.game_orders.specs.declared.order.Order.{Order}
use Rattle.game_orders.specs.declared.entry.Entry.TheVariants.{Play}
use Rattle.frame_core.specs.Column.{Column, put_answer, put_column}
use Rattle.frame_core.specs.declared.put.Put.{Put}
use Rattle.order_packets.specs.declared.up.Up.{Up}
use Rattle.order_packets.specs.declared.up.Up.TheVariants.{Hello, Orders, Sync, Bye}
use Rattle.frame_table.specs.declared.view.View.{View}
use Rattle.frame_table.specs.Part.{Part, part_of}
use Rattle.frame_table.specs.Word.{one_if, whole_of}
use Rattle.frame_table.specs.Steps.{published}
use Rattle.frame_table.specs.Calls.{PutsSo, Unchanged}
use Rattle.report_line.specs.declared.heard.Heard.{Heard}
use Rattle.match_net.specs.declared.read_cause.ReadCause.TheVariants as cause
use Rattle.match_net.specs.declared.reader_end.ReaderEnd.{ReaderEnd}
use Rattle.match_net.specs.declared.reader_end.ReaderEnd.TheVariants as end
use Rattle.match_net.specs.Session.{Session}
use Rattle.match_net.specs.Handling.{end_by_put, IsLeftIf, HandlingMeans}
use Rattle.match_net.specs.Reading.{MayPlay, OnlyLearns, IsStanding, PutsOrders, HandlesPacket, PushMeans}
use Rattle.match_net.proofs.PutLemmas.{with_plays, PutSays, put_says}

-- A column that was published with its departure as it was.
learned : (old new : Part) (before after : Column) → old.held ≡ [] → after.left ≡ before.left →
    new ≡ published old before after → OnlyLearns old new
learned old new before after free same is =
    let zero : one_if after.left - one_if before.left ≡ 0 = ap (λ (b : Bool). one_if b - one_if before.left) same ∙ none_of (one_if before.left) in
    let made : old.made + (one_if after.left - one_if before.left) ≡ old.made = omega (arith, zero) in
    is ∙ ap (λ (m : ℕ). record old { reach = whole_of after; known = after; made = m; held = [] }) made
    ∙ ap (λ (h : List Column). record old { reach = whole_of after; known = after; held = h }) (sym free)
    ∙ ap (λ (p : Part). record old { reach = p.reach; known = p.known; loads = p.loads }) (sym is)
  where
    none_of : (n : ℕ) → n - n ≡ 0
    none_of n = omega arith

pub puts_orders :
    (c n : ℕ) (orders : List Order) (old new : View) (answer : Put) → MayPlay (part_of c old) →
    (part_of c old).held ≡ [] → PutsSo c old new n (Play orders) answer →
    PutsOrders c old new n orders (end_by_put answer n)
puts_orders c n orders old new answer may free puts =
    let K = puts.0 in
    let acted = puts.1 in
    let plays : (part_of c old).known.plays ≡ K.plays = (acted.found.fed may.feeds).1 in
    let after : (part_of c new).known ≡ put_column K n (Play orders) = ap (λ (p : Part). p.known) acted.part in
    record {
      others = acted.others;
      learns = learned (part_of c old) (part_of c new) K (put_column K n (Play orders)) free (stays_of K) acted.part;
      knows =
          subst (λ (b : Bool). IsLeftIf b (end_by_put answer n)) (sym (ap (λ (k : Column). k.left) after ∙ stays_of K))
          (subst (λ (a : Put). IsLeftIf K.left (end_by_put a n)) (sym puts.2) (says_of K).knows);
      means = λ session same.
          subst (λ (xs : List (List Order)). HandlingMeans c session (Orders n orders) (record session { plays = xs }) (end_by_put answer n)) (sym (ap (λ (k : Column). k.plays) after))
          (subst (λ (a : Put). HandlingMeans c session (Orders n orders) (record session { plays = (put_column K n (Play orders)).plays }) (end_by_put a n)) (sym puts.2)
          (means_of K session (same ∙ plays)));
    }
  where
    means_of : (K : Column) (session : Session) → session.plays ≡ K.plays →
        HandlingMeans c session (Orders n orders) (record session { plays = (put_column K n (Play orders)).plays }) (end_by_put (put_answer K n (Play orders)) n)
    means_of K session same =
        subst (λ (k : Column). HandlingMeans c session (Orders n orders) (record session { plays = (put_column k n (Play orders)).plays }) (end_by_put (put_answer k n (Play orders)) n))
        (ap (λ (xs : List (List Order)). with_plays xs K.left) same)
        (put_says c session K.left n orders).means

    says_of : (K : Column) → PutSays c (record { welcomed = true; plays = K.plays; reports = [] }) K.left n orders
    says_of K = put_says c (record { welcomed = true; plays = K.plays; reports = [] }) K.left n orders

    stays_of : (K : Column) → (put_column K n (Play orders)).left ≡ K.left
    stays_of K = (put_says c (record { welcomed = true; plays = K.plays; reports = [] }) K.left n orders).stays

pub puts_nothing :
    (c n : ℕ) (orders : List Order) (old new : View) → length new.marks ≡ length old.marks →
    Unchanged old new → PutsOrders c old new n orders (Some end.NoMemory)
puts_nothing c n orders old new long same =
    record {
      others = (same.share, long, λ d other. same.parts d);
      learns = subst (λ (p : Part). p ≡ record (part_of c old) { reach = p.reach; known = p.known; loads = p.loads }) (sym (same.parts c)) refl;
      knows = tt;
      means = λ session plays.
          ap (λ (xs : List (List Order)). record session { plays = xs }) (ap (λ (p : Part). p.known.plays) (same.parts c) ∙ sym plays);
    }

-- Orders are handled.
pub handles_orders :
    (c n : ℕ) (orders : List Order) (old new : View) (pushed : List Heard) (answer : Option ReaderEnd) →
    PutsOrders c old new n orders answer → HandlesPacket c old new pushed pushed (Orders n orders) answer
handles_orders c n orders old new pushed answer puts =
    record {
      others = puts.others;
      learns = puts.learns;
      knows = puts.knows;
      means = λ session first at. (
        record session { plays = (part_of c new).known.plays },
        record { welcomed = at.welcomed; plays = refl; reports = at.reports },
        puts.means session (sym at.plays),
      );
    }

-- A packet that does nothing to the column.
pub handles_alone :
    (c : ℕ) (view : View) (before after : List Heard) (packet : Up) (answer : Option ReaderEnd) →
    IsLeftIf (part_of c view).known.left answer → ((session : Session) (first : List Heard) → IsStanding c session first view before →
    (next : Session) × IsStanding c next first view after × HandlingMeans c session packet next answer) →
    HandlesPacket c view view before after packet answer
handles_alone c view before after packet answer knows means =
    record { others = (refl, refl, λ d other. refl); learns = refl; knows = knows; means = means }

pub handles_hello :
    (c : ℕ) (view : View) (pushed : List Heard) (version rules : ℕ) →
    HandlesPacket c view view pushed pushed (Hello version rules) (Some (end.Refused cause.SecondHello))
handles_hello c view pushed version rules =
    handles_alone c view pushed pushed (Hello version rules) (Some (end.Refused cause.SecondHello)) tt (λ session first at. (session, at, (refl, refl)))

pub handles_bye :
    (c : ℕ) (view : View) (pushed : List Heard) → HandlesPacket c view view pushed pushed Bye (Some end.Ended)
handles_bye c view pushed = handles_alone c view pushed pushed Bye (Some end.Ended) tt (λ session first at. (session, at, (refl, refl)))

pub handles_sync :
    (c frame hash : ℕ) (view : View) (before after : List Heard) (answer : Option ReaderEnd) →
    PushMeans before after (record { client = c; frame = frame; hash = hash } ∷ []) answer →
    HandlesPacket c view view before after (Sync frame hash) answer
handles_sync c frame hash view before after None pushes =
    handles_alone c view before after (Sync frame hash) None tt (λ session first at. (
      record session { reports = session.reports ++ record { client = c; frame = frame; hash = hash } ∷ [] },
      record {
        welcomed = at.welcomed;
        plays = at.plays;
        reports = pushes ∙ ap (λ (xs : List Heard). xs ++ record { client = c; frame = frame; hash = hash } ∷ []) at.reports
            ∙ append_assoc first session.reports (record { client = c; frame = frame; hash = hash } ∷ []);
      },
      refl,
    ))
handles_sync c frame hash view before after (Some end.NoMemory) pushes =
    handles_alone c view before after (Sync frame hash) (Some end.NoMemory) tt (λ session first at. (
      session,
      record { welcomed = at.welcomed; plays = at.plays; reports = pushes ∙ at.reports },
      refl,
    ))
handles_sync c frame hash view before after (Some end.Ended) pushes = absurd pushes
handles_sync c frame hash view before after (Some (end.Refused cause)) pushes = absurd pushes
handles_sync c frame hash view before after (Some (end.LeftAt at)) pushes = absurd pushes
handles_sync c frame hash view before after (Some end.Lost) pushes = absurd pushes
