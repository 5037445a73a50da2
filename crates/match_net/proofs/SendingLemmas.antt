-- What the sending of an entry leaves.
use Rattle.std.proofs.Common.{◌≡◌, ℕ, zero, suc, ◌+◌, ◌-◌, ◌<◌, ◌≤◌, ◌==◌, Bool, true, false, true≢false, List, [], ◌∷◌, ◌++◌, length, Option, Some, None, Ok, Err, refl, sym, ap, ap₂, subst, ◌∙◌, arith, append_assoc, append-nil, eq-eqb}
use Rattle.std.specs.Prelude.{nat_lt, if◌then◌else◌, slice_get}
use Rattle.std.proofs.lemmas.List.{length-append}
use Rattle.std.proofs.lemmas.Bool.{ltb-true, ltb-false}
use Rattle.game_io.specs.SinkState.{SinkState}
use Rattle.game_orders.specs.declared.order.Order.{Order}
use Rattle.game_orders.specs.declared.entry.Entry.{Entry as one_entry}
use Rattle.game_orders.specs.declared.entry.Entry.TheVariants.{Play, Leave}
use Rattle.frame_core.specs.Column.{Column, entry_from, has_at}
use Rattle.frame_core.specs.Grows.{GrowsTo}
use Rattle.order_packets.specs.declared.down.Down.TheVariants as down
use Rattle.order_packets.specs.PacketBytes.{down_bytes}
use Rattle.frame_table.specs.declared.seen.Seen.{Seen}
use Rattle.frame_table.specs.declared.view.View.{View}
use Rattle.frame_table.specs.Part.{Part, part_of, OthersStay}
use Rattle.frame_table.specs.Word.{one_if, whole_of}
use Rattle.frame_table.specs.Rule.{IsReach}
use Rattle.frame_table.specs.Steps.{published, loaded}
use Rattle.frame_table.specs.Calls.{TakesSo}
use Rattle.match_net.specs.declared.sender_end.SenderEnd.{SenderEnd}
use Rattle.match_net.specs.declared.sender_end.SenderEnd.TheVariants as sent
use Rattle.match_net.specs.Sending.{At, of_client, entries_from, SentColumn, SentSoFar, Looks, PutMeans, next_count, SendsEntry, NextMeans, SendsNext}

-- Columns that grow twice.
pub grows_on : (old mid new : Column) → GrowsTo old mid → GrowsTo mid new → GrowsTo old new
grows_on old mid new first second =
    record {
      more = first.more ++ second.more;
      plays = second.plays ∙ ap (λ (xs : List (List Order)). xs ++ second.more) first.plays ∙ append_assoc old.plays first.more second.more;
      closed = λ left. let same = first.closed left in second.closed (ap (λ (k : Column). k.left) same ∙ left) ∙ same;
    }

-- One entry more of a client, and one of another.
pub of_client_same : (c n : ℕ) (e : one_entry) (entries : List At) →
    of_client c (entries ++ record { client = c; frame = n; entry = e } ∷ []) ≡ of_client c entries ++ (n, e) ∷ []
of_client_same c n e [] = let same : (c == c) ≡ true = eq-eqb c c refl in rw same refl
of_client_same c n e (at ∷ others) = by (at.client == c) (of_client_same c n e others)
  where
    by : (b : Bool) → of_client c (others ++ record { client = c; frame = n; entry = e } ∷ []) ≡ of_client c others ++ (n, e) ∷ [] →
        (if b then (at.frame, at.entry) ∷ of_client c (others ++ record { client = c; frame = n; entry = e } ∷ []) else of_client c (others ++ record { client = c; frame = n; entry = e } ∷ []))
        ≡ (if b then (at.frame, at.entry) ∷ of_client c others else of_client c others) ++ (n, e) ∷ []
    by true rest = ap (λ (xs : List (ℕ × one_entry)). (at.frame, at.entry) ∷ xs) rest
    by false rest = rest

pub of_client_other : (c d n : ℕ) (e : one_entry) (entries : List At) → (d == c) ≡ false →
    of_client c (entries ++ record { client = d; frame = n; entry = e } ∷ []) ≡ of_client c entries
of_client_other c d n e [] differ = rw differ refl
of_client_other c d n e (at ∷ others) differ = by (at.client == c) (of_client_other c d n e others differ)
  where
    by : (b : Bool) → of_client c (others ++ record { client = d; frame = n; entry = e } ∷ []) ≡ of_client c others →
        (if b then (at.frame, at.entry) ∷ of_client c (others ++ record { client = d; frame = n; entry = e } ∷ []) else of_client c (others ++ record { client = d; frame = n; entry = e } ∷ []))
        ≡ (if b then (at.frame, at.entry) ∷ of_client c others else of_client c others)
    by true rest = ap (λ (xs : List (ℕ × one_entry)). (at.frame, at.entry) ∷ xs) rest
    by false rest = rest

-- A column with one play more, and with its departure.
one_play_more : (n : ℕ) (plays : List (List Order)) (orders : List Order) →
    entries_from n (plays ++ orders ∷ []) false ≡ entries_from n plays false ++ (n + length plays, Play orders) ∷ []
one_play_more n [] orders = let same : n ≡ n + 0 = omega arith in ap (λ m. (m, Play orders) ∷ []) same
one_play_more n (first ∷ plays) orders =
    let place : (n + 1) + length plays ≡ n + suc (length plays) = omega arith in
    ap (λ (xs : List (ℕ × one_entry)). (n, Play first) ∷ xs)
    (one_play_more (n + 1) plays orders ∙ ap (λ m. entries_from (n + 1) plays false ++ (m, Play orders) ∷ []) place)

departure_more : (n : ℕ) (plays : List (List Order)) →
    entries_from n plays true ≡ entries_from n plays false ++ (n + length plays, Leave) ∷ []
departure_more n [] = let same : n ≡ n + 0 = omega arith in ap (λ m. (m, Leave) ∷ []) same
departure_more n (first ∷ plays) =
    let place : (n + 1) + length plays ≡ n + suc (length plays) = omega arith in
    ap (λ (xs : List (ℕ × one_entry)). (n, Play first) ∷ xs)
    (departure_more (n + 1) plays ∙ ap (λ m. entries_from (n + 1) plays false ++ (m, Leave) ∷ []) place)

-- The first play after so many.
get_after : {X : Type 0} (xs ys : List X) → slice_get (xs ++ ys) (length xs) ≡ slice_get ys 0
get_after [] ys = refl
get_after (x ∷ xs) ys = get_after xs ys

get_none : {X : Type 0} (xs : List X) (n : ℕ) → length xs ≤ n → slice_get xs n ≡ None
get_none [] n past = refl
get_none (x ∷ xs) zero past = absurd (omega arith)
get_none (x ∷ xs) (suc n) past = get_none xs n (omega arith)

-- The next play of a column.
next_play :
    (c : ℕ) (entries : List At) (known K : Column) (count : Seen) (e : one_entry) → SentSoFar c entries known count → GrowsTo known K →
    count.left ≡ false → count.plays < length K.plays → has_at K count.plays ≡ Some e →
    SentSoFar c (entries ++ record { client = c; frame = count.plays; entry = e } ∷ []) K (record { plays = count.plays + 1; left = false })
next_play c entries known K count e so_far grows playing more has =
    let begins = grows_on so_far.column known K so_far.begins grows in
    by_more begins.more begins.plays
  where
    is_open : so_far.column.left ≡ false
    is_open = so_far.left ∙ playing

    by_more : (more_plays : List (List Order)) → K.plays ≡ so_far.column.plays ++ more_plays →
        SentSoFar c (entries ++ record { client = c; frame = count.plays; entry = e } ∷ []) K (record { plays = count.plays + 1; left = false })
    by_more [] plays =
        let short : length K.plays ≡ length so_far.column.plays = ap length (plays ∙ append-nil so_far.column.plays) in
        let count_is = so_far.plays in
        absurd (omega (arith, short, count_is, more))
    by_more (orders ∷ later) plays =
        let stands : slice_get K.plays count.plays ≡ Some orders =
        ap (λ (xs : List (List Order)). slice_get xs count.plays) plays
        ∙ ap (slice_get (so_far.column.plays ++ orders ∷ later)) (sym so_far.plays) ∙ get_after so_far.column.plays (orders ∷ later) in
        let found : Some (Play orders) ≡ Some e = ap (λ (f : Option (List Order)). entry_from f K.left) (sym stands) ∙ has in
        let entry_is : Play orders ≡ e = cc in
        let place : count.plays ≡ 0 + length so_far.column.plays = let size = so_far.plays in omega (arith, size) in
        record {
          column = record { plays = so_far.column.plays ++ orders ∷ []; left = false };
          is = of_client_same c count.plays e entries
              ∙ ap (λ (xs : List (ℕ × one_entry)). xs ++ (count.plays, e) ∷ []) (so_far.is ∙ ap (entries_from 0 so_far.column.plays) is_open)
              ∙ ap₂ (λ (n : ℕ) (x : one_entry). entries_from 0 so_far.column.plays false ++ (n, x) ∷ []) place (sym entry_is)
              ∙ sym (one_play_more 0 so_far.column.plays orders);
          begins = record { more = later; plays = plays ∙ sym (append_assoc so_far.column.plays (orders ∷ []) later); closed = λ left. absurd (true≢false (sym left)) };
          plays = length-append so_far.column.plays (orders ∷ []) ∙ ap (λ n. n + 1) so_far.plays;
          left = refl;
        }

-- The departure of a column.
next_departure :
    (c : ℕ) (entries : List At) (known K : Column) (count : Seen) (e : one_entry) → SentSoFar c entries known count → GrowsTo known K →
    count.left ≡ false → length K.plays ≤ count.plays → K.left ≡ true → has_at K count.plays ≡ Some e →
    SentSoFar c (entries ++ record { client = c; frame = count.plays; entry = e } ∷ []) K (record { plays = count.plays; left = true })
next_departure c entries known K count e so_far grows playing all left has =
    let begins = grows_on so_far.column known K so_far.begins grows in
    by_more begins.more begins.plays
  where
    found : Some Leave ≡ Some e
    found = ap (λ (f : Option (List Order)). entry_from f true) (sym (get_none K.plays count.plays all))
        ∙ ap (entry_from (slice_get K.plays count.plays)) (sym left) ∙ has

    by_more : (more_plays : List (List Order)) → K.plays ≡ so_far.column.plays ++ more_plays →
        SentSoFar c (entries ++ record { client = c; frame = count.plays; entry = e } ∷ []) K (record { plays = count.plays; left = true })
    by_more (orders ∷ later) plays =
        let long : length K.plays ≡ length so_far.column.plays + suc (length later) = ap length plays ∙ length-append so_far.column.plays (orders ∷ later) in
        let count_is = so_far.plays in
        absurd (omega (arith, long, count_is, all))
    by_more [] plays =
        let same : K.plays ≡ so_far.column.plays = plays ∙ append-nil so_far.column.plays in
        let entry_is : Leave ≡ e = let f = found in cc in
        let place : count.plays ≡ 0 + length so_far.column.plays = let size = so_far.plays in omega (arith, size) in
        let whole : K ≡ record { plays = so_far.column.plays; left = true } = ap₂ (λ (xs : List (List Order)) (b : Bool). record { plays = xs; left = b }) same left in
        record {
          column = record { plays = so_far.column.plays; left = true };
          is = of_client_same c count.plays e entries
              ∙ ap (λ (xs : List (ℕ × one_entry)). xs ++ (count.plays, e) ∷ []) (so_far.is ∙ ap (entries_from 0 so_far.column.plays) (so_far.left ∙ playing))
              ∙ ap₂ (λ (n : ℕ) (x : one_entry). entries_from 0 so_far.column.plays false ++ (n, x) ∷ []) place (sym entry_is)
              ∙ sym (departure_more 0 so_far.column.plays);
          begins = record { more = []; plays = plays; closed = λ _. whole };
          plays = so_far.plays;
          left = refl;
        }

-- What a look at a column's word and the taking of an entry leave of a pass.
pub looks_seen : (old new : Part) (seen : Seen) → new ≡ loaded old seen → GrowsTo old.known new.known → Looks old new
looks_seen old new seen is grows =
    record { only = is ∙ ap (λ (p : Part). record old { reach = p.reach; known = p.known; loads = p.loads }) (sym is); known = grows }

looks_taken : (old new : Part) (K : Column) → old.held ≡ [] → new ≡ published old K K → GrowsTo old.known K → Looks old new
looks_taken old new K free is grows =
    let zero : one_if K.left - one_if K.left ≡ 0 = none_of (one_if K.left) in
    let made : old.made + (one_if K.left - one_if K.left) ≡ old.made = omega (arith, zero) in
    let plain : new ≡ record old { reach = whole_of K; known = K } =
    is ∙ ap (λ (m : ℕ). record old { reach = whole_of K; known = K; made = m; held = [] }) made
    ∙ ap (λ (h : List Column). record old { reach = whole_of K; known = K; held = h }) (sym free) in
    let loads : new.loads ≡ old.loads = ap (λ (p : Part). p.loads) is in
    record {
      only = plain ∙ ap (λ (p : Part). record old { reach = p.reach; known = p.known }) (sym plain)
          ∙ ap (λ (n : ℕ). record old { reach = new.reach; known = new.known; loads = n }) (sym loads);
      known = subst (λ (k : Column). GrowsTo old.known k) (sym (ap (λ (p : Part). p.known) is)) grows;
    }
  where
    none_of : (n : ℕ) → n - n ≡ 0
    none_of n = omega arith

pub looks_on : (old mid new : Part) → Looks old mid → Looks mid new → Looks old new
looks_on old mid new first second =
    record {
      only = second.only ∙ ap (λ (p : Part). record p { reach = new.reach; known = new.known; loads = new.loads }) first.only;
      known = grows_on old.known mid.known new.known first.known second.known;
    }

pub looks_still : (part : Part) → Looks part part
looks_still part = record { only = refl; known = record { more = []; plays = sym (append-nil part.known.plays); closed = λ _. refl } }

-- The next entry of a column, once it was taken.
next_sent :
    (c : ℕ) (entries : List At) (known K : Column) (count seen next : Seen) (e : one_entry) → SentSoFar c entries known count → GrowsTo known K →
    IsReach K seen → Some next ≡ next_count count seen → has_at K count.plays ≡ Some e →
    SentSoFar c (entries ++ record { client = c; frame = count.plays; entry = e } ∷ []) K next
next_sent c entries known K count seen next e so_far grows reach is has =
    by count.left (nat_lt count.plays seen.plays) seen.left refl refl refl is
  where
    Goal : Seen → Type 0
    Goal next = SentSoFar c (entries ++ record { client = c; frame = count.plays; entry = e } ∷ []) K next

    by : (done beyond left : Bool) → count.left ≡ done → nat_lt count.plays seen.plays ≡ beyond → seen.left ≡ left →
        Some next ≡ (if done then None else (if beyond then Some (record { plays = count.plays + 1; left = false }) else (if left then Some (record { plays = count.plays; left = true }) else None))) →
        Goal next
    by true beyond left a b d is = absurd cc
    by false true left a b d is =
        let same : next ≡ record { plays = count.plays + 1; left = false } = cc in
        let below : count.plays < seen.plays = ltb-true count.plays seen.plays b in
        let most = reach.plays in
        subst Goal (sym same) (next_play c entries known K count e so_far grows a (omega (arith, below, most)) has)
    by false false true a b d is =
        let same : next ≡ record { plays = count.plays; left = true } = cc in
        let above : seen.plays ≤ count.plays = ltb-false count.plays seen.plays b in
        let end = reach.left d in
        let size = end.1 in
        subst Goal (sym same) (next_departure c entries known K count e so_far grows a (omega (arith, above, size)) end.0 has)
    by false false false a b d is = absurd cc

pub sent_column : (c : ℕ) (entries : List At) (known : Column) (count : Seen) → SentSoFar c entries known count → SentColumn c entries known
sent_column c entries known count so_far = record { column = so_far.column; is = so_far.is; begins = so_far.begins }

pub still_sent : (c : ℕ) (entries : List At) (known later : Column) (count : Seen) → SentSoFar c entries known count → GrowsTo known later → SentSoFar c entries later count
still_sent c entries known later count so_far grows =
    record { column = so_far.column; is = so_far.is; begins = grows_on so_far.column known later so_far.begins grows; plays = so_far.plays; left = so_far.left }

-- An entry that was taken.
record Took (c : ℕ) (before mid after : View) (count seen next : Seen) (n : ℕ) (e : one_entry) : Type 0 where
  looks : Looks (part_of c before) (part_of c after)
  others : OthersStay c before after
  sent : (entries : List At) → SentSoFar c entries (part_of c before).known count →
      SentSoFar c (entries ++ record { client = c; frame = n; entry = e } ∷ []) (part_of c after).known next

took_next :
    (c : ℕ) (before mid after : View) (count seen next : Seen) (e : one_entry) → (part_of c mid).held ≡ [] →
    OthersStay c before mid → part_of c mid ≡ loaded (part_of c before) seen → GrowsTo (part_of c before).known (part_of c mid).known →
    Some next ≡ next_count count seen → TakesSo c mid after count.plays e → Took c before mid after count seen next count.plays e
took_next c before mid after count seen next e free others is grows next_is takes =
    let K = takes.0 in
    let acted = takes.1 in
    let known : (part_of c after).known ≡ K = ap (λ (p : Part). p.known) acted.part in
    let reach : IsReach K seen = subst (IsReach K) (ap (λ (p : Part). p.reach) is) acted.found.reach in
    record {
      looks = looks_on (part_of c before) (part_of c mid) (part_of c after) (looks_seen (part_of c before) (part_of c mid) seen is grows)
          (looks_taken (part_of c mid) (part_of c after) K free acted.part acted.found.known);
      others = (acted.others.0 ∙ others.0, acted.others.1 ∙ others.1, λ d other. acted.others.2 d other ∙ others.2 d other);
      sent = λ entries so_far.
          subst (λ (k : Column). SentSoFar c (entries ++ record { client = c; frame = count.plays; entry = e } ∷ []) k next) (sym known)
          (next_sent c entries (part_of c before).known K count seen next e so_far (grows_on (part_of c before).known (part_of c mid).known K grows acted.found.known) reach next_is takes.2);
    }

pub sends_next :
    (c : ℕ) (old new : SinkState) (before mid after : View) (count seen next : Seen) → (part_of c mid).held ≡ [] →
    OthersStay c before mid → part_of c mid ≡ loaded (part_of c before) seen → GrowsTo (part_of c before).known (part_of c mid).known →
    Some next ≡ next_count count seen → SendsEntry c count.plays old new mid after None →
    SendsNext c old new before after count next (Ok true)
sends_next c old new before mid after count seen next free others is grows next_is sends =
    let took = took_next c before mid after count seen next sends.entry free others is grows next_is sends.takes in
    record {
      later = sends.puts.later;
      looks = took.looks;
      others = took.others;
      means = λ entries so_far. (count.plays, sends.entry, sends.puts.means, took.sent entries so_far);
    }

pub sends_last :
    (c : ℕ) (old new : SinkState) (before mid after : View) (count seen next : Seen) (end : SenderEnd) → (part_of c mid).held ≡ [] →
    OthersStay c before mid → part_of c mid ≡ loaded (part_of c before) seen → GrowsTo (part_of c before).known (part_of c mid).known →
    Some next ≡ next_count count seen → SendsEntry c count.plays old new mid after (Some end) →
    SendsNext c old new before after count count (Err end)
sends_last c old new before mid after count seen next end free others is grows next_is sends =
    let took = took_next c before mid after count seen next sends.entry free others is grows next_is sends.takes in
    record {
      later = sends.puts.later;
      looks = took.looks;
      others = took.others;
      means = λ entries so_far. by_end end sends.puts.means took.looks.known entries (took.sent entries so_far) so_far;
    }
  where
    by_end : (end : SenderEnd) → PutMeans old new (down_bytes (down.Entry c count.plays sends.entry)) (Some end) →
        GrowsTo (part_of c before).known (part_of c after).known →
        (entries : List At) → SentSoFar c (entries ++ record { client = c; frame = count.plays; entry = sends.entry } ∷ []) (part_of c after).known next →
        SentSoFar c entries (part_of c before).known count →
        NextMeans c old new (part_of c after).known entries count (Err end)
    by_end sent.Sent means grown entries took so_far = absurd means
    by_end sent.Lost means grown entries took so_far =
        (count.plays, sends.entry, means.0, means.1, sent_column c (entries ++ record { client = c; frame = count.plays; entry = sends.entry } ∷ []) (part_of c after).known next took)
    by_end sent.NoMemory means grown entries took so_far =
        (means, sent_column c entries (part_of c after).known count (still_sent c entries (part_of c before).known (part_of c after).known count so_far grown))
