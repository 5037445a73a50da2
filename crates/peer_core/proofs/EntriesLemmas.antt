-- What has arrived of all clients, and those of one.
use Rattle.std.proofs.Common.{◌≡◌, ◌≢◌, ℕ, zero, suc, ◌+◌, ◌<◌, ◌≤◌, Bool, true, false, cond, not}
use Rattle.std.proofs.Common.{◌&&◌, ◌||◌, nat_lt, nat_le, ◌==◌, List, [], ◌∷◌, ◌++◌, length, map}
use Rattle.std.proofs.Common.{replicate, refl, sym, ap, ap₂, subst, ◌∙◌, arith, eq-eqb, min}
use Rattle.std.specs.Prelude.{if◌then◌else◌, Option, Some, None, is_some, slice_set}
use Rattle.std.specs.Option.{option_map, option_or}
use Rattle.std.specs.List.{AllByRecursion, find, list_any}
use Rattle.std.proofs.lemmas.Bool.{eqb-false, ne_eqb}
use Rattle.std.proofs.lemmas.Bool.Decides.{nat_tests}
use Rattle.std.proofs.lemmas.List.{set-get_or}
use Rattle.game_orders.specs.declared.order.Order.{Order}
use Rattle.game_orders.specs.declared.entry.Entry.{Entry}
use Rattle.game_orders.specs.declared.entry.Entry.TheVariants.{Play, Leave}
use Rattle.game_orders.specs.Entry.{is_play}
use Rattle.peer_core.specs.declared.arrived.Arrived.{Arrived}
use Rattle.peer_core.specs.declared.delivered.Delivered.{Delivered}
use Rattle.peer_core.specs.declared.delivered.Delivered.TheVariants.{Kept, Repeat, Conflict, Past}
use Rattle.peer_core.specs.declared.delivered.Delivered.TheVariants.{Beyond}
use Rattle.peer_core.specs.Arrived.{is_of, is_left, is_after, is_departure_of, has_left, kept_at}
use Rattle.peer_core.specs.Arrived.{left_before, kept_after, least_of, frame_if, or_left, has_of}
use Rattle.peer_core.specs.Arrived.{stands_before, with_arrived}
use Rattle.peer_core.specs.Delivery.{is_beyond, against, after_delivery, delivery_of, arrived_after}
use Rattle.peer_core.specs.Entries.{Entries, KeptPlay, IsByFrame, no_entries, play_arrived}
use Rattle.peer_core.specs.Entries.{left_arrived, own_arrived, all_arrived, with_play, play_at}
use Rattle.peer_core.specs.Entries.{entry_of, if_before, if_after, play_after, own_has, own_past}
use Rattle.peer_core.specs.Entries.{own_delivery, own_after, with_entry, entries_of}
use Rattle.peer_core.proofs.LeastLemmas.{least_assoc}
use Rattle.peer_core.proofs.EndedLemmas.{no_past}

-- What is read from entries, one by one, where entries that fail a test count for nothing.
record Reads {X : Type 0} (test : Arrived → Bool) (read : List Arrived → X) : Type 0 where
  pub step : (a : Arrived) (us vs : List Arrived) → read us ≡ read vs →
      read (a ∷ us) ≡ read (a ∷ vs)
  pub skip : (a : Arrived) (xs : List Arrived) → test a ≡ false → read (a ∷ xs) ≡ read xs

find_reads : (test : Arrived → Bool) → Reads test (find test)
find_reads test =
    record {
      step = λ a us vs same. ap (cond (test a) (Some a)) same;
      skip = λ a xs fails. ap (λ b. cond b (Some a) (find test xs)) fails;
    }

any_reads : (test : Arrived → Bool) → Reads test (list_any test)
any_reads test =
    record {
      step = λ a us vs same. ap (λ b. test a || b) same;
      skip = λ a xs fails. ap (λ b. b || list_any test xs) fails;
    }

after_reads : (c n : ℕ) → Reads (is_after c n) (λ xs. kept_after xs c n)
after_reads c n =
    record {
      step = λ a us vs same. ap (least_of (frame_if (is_after c n a) a)) same;
      skip = λ a xs fails. ap (λ b. least_of (frame_if b a) (kept_after xs c n)) fails;
    }

prefix_skipped :
    {X : Type 0} (test : Arrived → Bool) (read : List Arrived → X) (reads : Reads test read)
    (us vs : List Arrived) →
    AllByRecursion (λ a. test a ≡ false) us → read (us ++ vs) ≡ read vs
prefix_skipped test read reads [] vs fail = refl
prefix_skipped test read reads (u ∷ us) vs fail =
    reads.skip u (us ++ vs) fail.0 ∙ prefix_skipped test read reads us vs fail.1

all_skipped :
    {X : Type 0} (test : Arrived → Bool) (read : List Arrived → X) (reads : Reads test read)
    (vs : List Arrived) →
    AllByRecursion (λ a. test a ≡ false) vs → read vs ≡ read []
all_skipped test read reads [] fail = refl
all_skipped test read reads (v ∷ vs) fail = reads.skip v vs fail.0
    ∙ all_skipped test read reads vs fail.1

rest_skipped :
    {X : Type 0} (test : Arrived → Bool) (read : List Arrived → X) (reads : Reads test read)
    (us vs : List Arrived) →
    AllByRecursion (λ a. test a ≡ false) vs → read (us ++ vs) ≡ read us
rest_skipped test read reads [] vs fail = all_skipped test read reads vs fail
rest_skipped test read reads (u ∷ us) vs fail =
    reads.step u (us ++ vs) us (rest_skipped test read reads us vs fail)

-- Each entry of a client is its own.
all_append : (P : Arrived → Type 0) (us vs : List Arrived) → AllByRecursion P us →
    AllByRecursion P vs → AllByRecursion P (us ++ vs)
all_append P [] vs first second = second
all_append P (u ∷ us) vs first second = (first.0, all_append P us vs first.1 second)

plays_all : (P : Arrived → Type 0) (c : ℕ) (plays : List KeptPlay) →
    ((a : Arrived) → a.client ≡ c → P a) → AllByRecursion P (map (play_arrived c) plays)
plays_all P c [] each = tt
plays_all P c (p ∷ ps) each = (each (play_arrived c p) refl, plays_all P c ps each)

left_all : (P : Arrived → Type 0) (c : ℕ) (left : Option ℕ) →
    ((a : Arrived) → a.client ≡ c → P a) → AllByRecursion P (left_arrived c left)
left_all P c None each = tt
left_all P c (Some at) each = (each (record { client = c; frame = at; entry = Leave }) refl, tt)

own_all : (P : Arrived → Type 0) (c : ℕ) (own : Entries) → ((a : Arrived) → a.client ≡ c → P a) →
    AllByRecursion P (own_arrived c own)
own_all P c own each =
    all_append P (map (play_arrived c) own.plays) (left_arrived c own.left)
    (plays_all P c own.plays each) (left_all P c own.left each)

rest_all : (P : Arrived → Type 0) (c : ℕ) (all : List Entries) →
    ((a : Arrived) → c ≤ a.client → P a) → AllByRecursion P (all_arrived c all)
rest_all P c [] each = tt
rest_all P c (own ∷ rest) each =
    all_append P (own_arrived c own) (all_arrived (c + 1) rest)
    (own_all P c own (λ a is. each a (omega (arith, is))))
    (rest_all P (c + 1) rest (λ a least. each a (omega (arith, least))))

-- What is read of one client from all entries is read from its own.
read_own :
    {X : Type 0} (test : Arrived → Bool) (read : List Arrived → X) (reads : Reads test read)
    (c : ℕ) →
    ((a : Arrived) → a.client ≢ c → test a ≡ false) → (first k : ℕ) (all : List Entries) →
    c ≡ first + k →
    read (all_arrived first all) ≡ read (own_arrived c (entries_of all k))
read_own test read reads c others first k [] is = refl
read_own test read reads c others first zero (own ∷ rest) is =
    let same : first ≡ c = omega arith in
    rest_skipped test read reads (own_arrived first own) (all_arrived (first + 1) rest)
    (rest_all (λ a. test a ≡ false) (first + 1) rest
    (λ a least. others a (λ equal. omega (arith, equal, least))))
    ∙ ap (λ d. read (own_arrived d own)) same
read_own test read reads c others first (suc k) (own ∷ rest) is =
    prefix_skipped test read reads (own_arrived first own) (all_arrived (first + 1) rest)
    (own_all (λ a. test a ≡ false) first own
    (λ a client. others a (λ equal. omega (arith, client, equal))))
    ∙ read_own test read reads c others (first + 1) k rest (omega arith)

not_of : (c n : ℕ) (a : Arrived) → a.client ≢ c → is_of c n a ≡ false
not_of c n a other = ap (λ b. b && (a.frame == n)) (ne_eqb a.client c other)

not_left : (c n : ℕ) (a : Arrived) → a.client ≢ c → is_left c n a ≡ false
not_left c n a other = ap (λ b. b && (nat_lt a.frame n && not (is_play a.entry)))
    (ne_eqb a.client c other)

not_after : (c n : ℕ) (a : Arrived) → a.client ≢ c → is_after c n a ≡ false
not_after c n a other = ap (λ b. b && nat_lt n a.frame) (ne_eqb a.client c other)

not_departure : (c : ℕ) (a : Arrived) → a.client ≢ c → is_departure_of c a ≡ false
not_departure c a other = ap (λ b. b && not (is_play a.entry)) (ne_eqb a.client c other)

-- One client's entries, read.
itself : (c : ℕ) → (c == c) ≡ true
itself c = eq-eqb c c refl

own_kept_by :
    (c n : ℕ) (plays : List KeptPlay) (left : Option ℕ) →
    kept_at (map (play_arrived c) plays ++ left_arrived c left) c n ≡ entry_of
    (play_at plays n) left n
own_kept_by c n [] None = refl
own_kept_by c n [] (Some at) =
    let leave : Arrived = record { client = c; frame = at; entry = Leave } in
    ap (λ b. option_map (λ (a : Arrived). a.entry) (cond (b && (at == n)) (Some leave) None))
    (itself c) ∙ by_test (at == n) leave refl where
      by_test : (here : Bool) (leave : Arrived) → leave.entry ≡ Leave →
          option_map (λ (a : Arrived). a.entry) (cond here (Some leave) None) ≡
          (if here then Some Leave else None)
      by_test true leave is = ap Some is
      by_test false leave is = refl
own_kept_by c n (p ∷ ps) left =
    ap (λ b. option_map (λ (a : Arrived). a.entry)
    (cond (b && (p.frame == n)) (Some (play_arrived c p))
    (find (is_of c n) (map (play_arrived c) ps ++ left_arrived c left)))) (itself c)
    ∙ by_test (p.frame == n) (own_kept_by c n ps left) where
      by_test :
          (here : Bool) →
          option_map (λ (a : Arrived). a.entry)
          (find (is_of c n) (map (play_arrived c) ps ++ left_arrived c left)) ≡ entry_of
          (play_at ps n) left n →
          option_map (λ (a : Arrived). a.entry)
          (cond here (Some (play_arrived c p))
          (find (is_of c n) (map (play_arrived c) ps ++ left_arrived c left)))
          ≡ entry_of (option_map (λ (q : KeptPlay). q.orders)
          (cond here (Some p) (find (λ q. q.frame == n) ps))) left n
      by_test true rest = refl
      by_test false rest = rest

own_left_by : (c n : ℕ) (plays : List KeptPlay) (left : Option ℕ) →
    left_before (map (play_arrived c) plays ++ left_arrived c left) c n ≡ if_before left n
own_left_by c n [] None = refl
own_left_by c n [] (Some at) =
    let leave : Arrived = record { client = c; frame = at; entry = Leave } in
    ap (λ b. option_map (λ (a : Arrived). a.frame)
    (cond (b && (nat_lt at n && true)) (Some leave) None)) (itself c)
    ∙ by_test (nat_lt at n) leave refl where
      by_test : (before : Bool) (leave : Arrived) → leave.frame ≡ at →
          option_map (λ (a : Arrived). a.frame) (cond (before && true) (Some leave) None) ≡
          (if before then Some at else None)
      by_test true leave is = ap Some is
      by_test false leave is = refl
own_left_by c n (p ∷ ps) left =
    ap (λ b. option_map (λ (a : Arrived). a.frame)
    (cond b (Some (play_arrived c p)) (find (is_left c n)
    (map (play_arrived c) ps ++ left_arrived c left)))) (never (c == c) (nat_lt p.frame n))
    ∙ own_left_by c n ps left where
      never : (a b : Bool) → (a && (b && false)) ≡ false
      never true true = refl
      never true false = refl
      never false b = refl

own_gone_by : (c : ℕ) (plays : List KeptPlay) (left : Option ℕ) →
    has_left (map (play_arrived c) plays ++ left_arrived c left) c ≡ is_some left
own_gone_by c [] None = refl
own_gone_by c [] (Some at) = ap (λ b. (b && true) || false) (itself c)
own_gone_by c (p ∷ ps) left =
    ap (λ b. b || has_left (map (play_arrived c) ps ++ left_arrived c left) c) (never (c == c))
    ∙ own_gone_by c ps left where
      never : (a : Bool) → (a && false) ≡ false
      never true = refl
      never false = refl

-- Of plays by rising frame the first after a frame is the least.
least_first : (f n : ℕ) (ps : List KeptPlay) → AllByRecursion (λ q. f < q.frame) ps →
    least_of (Some f) (play_after ps n) ≡ Some f
least_first f n [] all = refl
least_first f n (q ∷ qs) all =
    elim (nat_lt n q.frame) as (λ b. least_of (Some f)
    (option_map (λ (r : KeptPlay). r.frame)
    (cond b (Some q) (find (λ r. nat_lt n r.frame) qs))) ≡ Some f) [
      | true ↦ (let low : f < q.frame = all.0 in let same : min f q.frame ≡ f =
          omega arith in ap Some same)
      | false ↦ least_first f n qs all.1
    ]

own_after_by :
    (c n : ℕ) (plays : List KeptPlay) (left : Option ℕ) → IsByFrame plays →
    kept_after (map (play_arrived c) plays ++ left_arrived c left) c n ≡ least_of
    (play_after plays n) (if_after left n)
own_after_by c n [] None rise = refl
own_after_by c n [] (Some at) rise =
    let leave : Arrived = record { client = c; frame = at; entry = Leave } in
    ap (λ b. least_of (frame_if (b && nat_lt n at) leave) None) (itself c)
    ∙ by_test (nat_lt n at) leave refl where
      by_test : (after : Bool) (leave : Arrived) → leave.frame ≡ at →
          least_of (frame_if after leave) None ≡ (if after then Some at else None)
      by_test true leave is = ap Some is
      by_test false leave is = refl
own_after_by c n (p ∷ ps) left rise =
    ap (λ b. least_of (frame_if (b && nat_lt n p.frame) (play_arrived c p))
    (kept_after (map (play_arrived c) ps ++ left_arrived c left) c n)) (itself c)
    ∙ by_test (nat_lt n p.frame) (own_after_by c n ps left rise.1) where
      by_test :
          (after : Bool) → kept_after (map (play_arrived c) ps ++ left_arrived c left) c n
          ≡ least_of (play_after ps n) (if_after left n) →
          least_of (frame_if after (play_arrived c p))
          (kept_after (map (play_arrived c) ps ++ left_arrived c left) c n)
          ≡ least_of (option_map (λ (q : KeptPlay). q.frame)
          (cond after (Some p) (find (λ q. nat_lt n q.frame) ps))) (if_after left n)
      by_test true rest =
          ap (least_of (Some p.frame)) rest ∙ sym
          (least_assoc (Some p.frame) (play_after ps n) (if_after left n))
          ∙ ap (λ first. least_of first (if_after left n)) (least_first p.frame n ps rise.0)
      by_test false rest = rest

-- One more play of a client, at its place.
place_of : (c : ℕ) (k p : KeptPlay) → stands_before (play_arrived c k) (play_arrived c p)
    ≡ nat_lt k.frame p.frame
place_of c k p =
    ap₂ (λ (a b : Bool). a || (b && nat_lt k.frame p.frame))
    (let not_less : nat_lt c c ≡ false = grind (arith, nat_tests) in not_less) (itself c)

play_placed :
    (c : ℕ) (k : KeptPlay) (plays : List KeptPlay) (left : Option ℕ) →
    ((at : ℕ) → left ≡ Some at → k.frame < at) →
    with_arrived (play_arrived c k) (map (play_arrived c) plays ++ left_arrived c left)
    ≡ map (play_arrived c) (with_play k plays) ++ left_arrived c left
play_placed c k [] None later = refl
play_placed c k [] (Some at) later =
    let leave : Arrived = record { client = c; frame = at; entry = Leave } in
    let before : stands_before (play_arrived c k) leave ≡ true = let low : k.frame < at =
    later at refl in grind (arith, nat_tests) in
    ap (λ b. if b then play_arrived c k ∷ leave ∷ [] else leave ∷ with_arrived
    (play_arrived c k) []) before
play_placed c k (p ∷ ps) left later =
    ap (λ b. if b then play_arrived c k ∷ play_arrived c p ∷
    (map (play_arrived c) ps ++ left_arrived c left)
    else play_arrived c p ∷ with_arrived (play_arrived c k)
    (map (play_arrived c) ps ++ left_arrived c left)) (place_of c k p)
    ∙ by_test (nat_lt k.frame p.frame) (play_placed c k ps left later) where
      by_test :
          (before : Bool) →
          with_arrived (play_arrived c k) (map (play_arrived c) ps ++ left_arrived c left)
          ≡ map (play_arrived c) (with_play k ps) ++ left_arrived c left →
          (if before then play_arrived c k ∷ play_arrived c p ∷
          (map (play_arrived c) ps ++ left_arrived c left)
          else play_arrived c p ∷ with_arrived (play_arrived c k)
          (map (play_arrived c) ps ++ left_arrived c left))
          ≡ map (play_arrived c) (if before then k ∷ p ∷ ps else p ∷ with_play k ps)
          ++ left_arrived c left
      by_test true rest = refl
      by_test false rest = ap (λ more. play_arrived c p ∷ more) rest

-- A departure after all plays.
leave_placed :
    (c n : ℕ) (plays : List KeptPlay) → play_at plays n ≡ None → play_after plays n ≡ None →
    with_arrived (record { client = c; frame = n; entry = Leave })
    (map (play_arrived c) plays ++ [])
    ≡ map (play_arrived c) plays ++ record { client = c; frame = n; entry = Leave } ∷ []
leave_placed c n [] none last = refl
leave_placed c n (p ∷ ps) none last =
    by_tests (nat_lt n p.frame) (p.frame == n) refl refl none last (leave_placed c n ps) where
      by_tests :
          (after here : Bool) → nat_lt n p.frame ≡ after → (p.frame == n) ≡ here →
          option_map (λ (q : KeptPlay). q.orders)
          (cond here (Some p) (find (λ q. q.frame == n) ps)) ≡ None →
          option_map (λ (q : KeptPlay). q.frame)
          (cond after (Some p) (find (λ q. nat_lt n q.frame) ps)) ≡ None →
          (play_at ps n ≡ None → play_after ps n ≡ None →
          with_arrived (record { client = c; frame = n; entry = Leave })
          (map (play_arrived c) ps ++ [])
          ≡ map (play_arrived c) ps ++ record { client = c; frame = n; entry = Leave } ∷ []) →
          (if stands_before (record { client = c; frame = n; entry = Leave }) (play_arrived c p)
          then record { client = c; frame = n; entry = Leave } ∷ play_arrived c p ∷
          (map (play_arrived c) ps ++ [])
          else play_arrived c p ∷ with_arrived (record { client = c; frame = n; entry = Leave })
          (map (play_arrived c) ps ++ []))
          ≡ play_arrived c p ∷ (map (play_arrived c) ps
          ++ record { client = c; frame = n; entry = Leave } ∷ [])
      by_tests after true after_is here_is none last rest = absurd cc
      by_tests true false after_is here_is none last rest = absurd cc
      by_tests false false after_is here_is none last rest =
          let leave : Arrived = record { client = c; frame = n; entry = Leave } in
          let following : stands_before leave (play_arrived c p) ≡ false =
          grind (arith, nat_tests) in
          ap (λ b. if b then leave ∷ play_arrived c p ∷
          (map (play_arrived c) ps ++ []) else play_arrived c p ∷ with_arrived leave
          (map (play_arrived c) ps ++ [])) following
          ∙ ap (λ more. play_arrived c p ∷ more) (rest none last)

-- With an entry that is new and contradicts nothing.
if_left : (at n : ℕ) (here : Bool) → (at == n) ≡ here →
    (if here then Some Leave else None) ≡ None → at ≢ n
if_left at n true is none = absurd cc
if_left at n false is none = eqb-false at n is

if_low : (at n : ℕ) (low : Bool) → nat_lt at n ≡ low → (if low then Some at else None) ≡ None →
    n ≤ at
if_low at n true is none = absurd cc
if_low at n false is none = grind (arith, nat_tests)

play_free : (play : Option (List Order)) (left : Option ℕ) (n : ℕ) → entry_of play left n ≡ None →
    play ≡ None
play_free None left n none = refl
play_free (Some orders) left n none = absurd cc

left_later : (play : Option (List Order)) (left : Option ℕ) (n : ℕ) → entry_of play left n ≡ None →
    if_before left n ≡ None → (at : ℕ) → left ≡ Some at → n < at
left_later (Some orders) left n none before at is = absurd cc
left_later None None n none before at is = absurd cc
left_later None (Some m) n none before at is =
    let same : m ≡ at = cc in
    let other : m ≢ n = if_left m n (m == n) refl none in
    let least : n ≤ m = if_low m n (nat_lt m n) refl before in
    omega (arith, same, least, other)

first_none : (one other : Option ℕ) → option_or one other ≡ None → (one ≡ None) × (other ≡ None)
first_none None other none = (refl, none)
first_none (Some n) other none = absurd cc

both_none : (one other : Option ℕ) → least_of one other ≡ None → (one ≡ None) × (other ≡ None)
both_none None None none = (refl, refl)
both_none None (Some m) none = absurd cc
both_none (Some n) None none = absurd cc
both_none (Some n) (Some m) none = absurd cc

-- A departure that is kept would stand before the frame, at it or after it.
not_left_yet : (play : Option (List Order)) (left : Option ℕ) (n : ℕ) →
    entry_of play left n ≡ None → if_before left n ≡ None → if_after left n ≡ None → left ≡ None
not_left_yet play None n none before after = refl
not_left_yet play (Some at) n none before after =
    let low : n < at = left_later play (Some at) n none before at refl in
    let test : nat_lt n at ≡ true = grind (arith, nat_tests) in
    absurd (let e : Some at ≡ None = sym (ap (λ (b : Bool). if b then Some at else None) test)
    ∙ after in cc)

own_placed :
    (c n : ℕ) (entry : Entry) (own : Entries) → own_delivery own n entry ≡ Kept →
    with_arrived (record { client = c; frame = n; entry = entry }) (own_arrived c own)
    ≡ own_arrived c (with_entry own n entry)
own_placed c n (Play orders) own answer =
    let fresh = no_past (is_beyond n (Play orders)) (entry_of (play_at own.plays n) own.left n)
    (own_past own n (Play orders)) (Play orders) answer in
    play_placed c (record { frame = n; orders = orders }) own.plays own.left
    (left_later (play_at own.plays n) own.left n fresh.0
    (first_none (if_before own.left n) None fresh.1).0)
own_placed c n Leave own answer =
    let fresh = no_past (is_beyond n Leave) (entry_of (play_at own.plays n) own.left n)
    (own_past own n Leave) Leave answer in
    let past = first_none (if_before own.left n)
    (least_of (play_after own.plays n) (if_after own.left n)) fresh.1 in
    let after = both_none (play_after own.plays n) (if_after own.left n) past.1 in
    let stays : own.left ≡ None = not_left_yet
    (play_at own.plays n) own.left n fresh.0 past.0 after.1 in
    ap (λ left. with_arrived (record { client = c; frame = n; entry = Leave })
    (map (play_arrived c) own.plays ++ left_arrived c left)) stays
    ∙ leave_placed c n own.plays (play_free (play_at own.plays n) own.left n fresh.0) after.0

-- One more entry among those of all clients.
before_rest :
    (a : Arrived) (us vs : List Arrived) → AllByRecursion (λ v. stands_before a v ≡ true) vs →
    with_arrived a (us ++ vs) ≡ with_arrived a us ++ vs
before_rest a [] [] all = refl
before_rest a [] (v ∷ vs) all = ap (λ b. if b then a ∷ v ∷ vs else v ∷ with_arrived a vs) all.0
before_rest a (u ∷ us) vs all =
    elim (stands_before a u) as
    (λ b. (if b then a ∷ u ∷ (us ++ vs) else u ∷ with_arrived a (us ++ vs)) ≡
    (if b then a ∷ u ∷ us else u ∷ with_arrived a us) ++ vs) [
      | true ↦ refl
      | false ↦ ap (λ more. u ∷ more) (before_rest a us vs all)
    ]

after_prefix :
    (a : Arrived) (us vs : List Arrived) → AllByRecursion (λ u. stands_before a u ≡ false) us →
    with_arrived a (us ++ vs) ≡ us ++ with_arrived a vs
after_prefix a [] vs all = refl
after_prefix a (u ∷ us) vs all =
    ap (λ b. if b then a ∷ u ∷ (us ++ vs) else u ∷ with_arrived a (us ++ vs)) all.0
    ∙ ap (λ more. u ∷ more) (after_prefix a us vs all.1)

with_all :
    (a : Arrived) (first k : ℕ) (all : List Entries) (new : Entries) → a.client ≡ first + k →
    k < length all →
    with_arrived a (own_arrived a.client (entries_of all k)) ≡ own_arrived a.client new →
    with_arrived a (all_arrived first all) ≡ all_arrived first (slice_set all k new)
with_all a first k [] new is below placed = absurd (omega arith)
with_all a first zero (own ∷ rest) new is below placed =
    let same : a.client ≡ first = omega arith in
    before_rest a (own_arrived first own) (all_arrived (first + 1) rest)
    (rest_all (λ u. stands_before a u ≡ true) (first + 1) rest
    (λ u least. grind (arith, nat_tests)))
    ∙ ap (λ more. more ++ all_arrived (first + 1) rest)
    (subst (λ d. with_arrived a (own_arrived d own) ≡ own_arrived d new) same placed)
with_all a first (suc k) (own ∷ rest) new is below placed =
    after_prefix a (own_arrived first own) (all_arrived (first + 1) rest)
    (own_all (λ u. stands_before a u ≡ false) first own (λ u client. grind (arith, nat_tests)))
    ∙ ap (λ more. own_arrived first own ++ more)
    (with_all a (first + 1) k rest new (omega arith) (omega arith) placed)

-- What is read of client c from all entries.
pub all_kept : (all : List Entries) (c n : ℕ) →
    kept_at (all_arrived 0 all) c n ≡ entry_of (play_at (entries_of all c).plays n)
    (entries_of all c).left n
all_kept all c n =
    ap (option_map (λ (a : Arrived). a.entry))
    (read_own (is_of c n) (find (is_of c n)) (find_reads (is_of c n)) c (not_of c n) 0 c all
    (omega arith))
    ∙ own_kept_by c n (entries_of all c).plays (entries_of all c).left

all_left : (all : List Entries) (c n : ℕ) → left_before (all_arrived 0 all) c n ≡ if_before
    (entries_of all c).left n
all_left all c n =
    ap (option_map (λ (a : Arrived). a.frame))
    (read_own (is_left c n) (find (is_left c n)) (find_reads (is_left c n)) c
    (not_left c n) 0 c all (omega arith))
    ∙ own_left_by c n (entries_of all c).plays (entries_of all c).left

all_after :
    (all : List Entries) (c n : ℕ) → IsByFrame (entries_of all c).plays →
    kept_after (all_arrived 0 all) c n ≡ least_of (play_after (entries_of all c).plays n)
    (if_after (entries_of all c).left n)
all_after all c n rise =
    read_own (is_after c n) (λ xs. kept_after xs c n) (after_reads c n) c (not_after c n) 0 c all
    (omega arith)
    ∙ own_after_by c n (entries_of all c).plays (entries_of all c).left rise

pub all_gone : (all : List Entries) (c : ℕ) →
    has_left (all_arrived 0 all) c ≡ is_some (entries_of all c).left
all_gone all c =
    read_own (is_departure_of c) (list_any (is_departure_of c)) (any_reads (is_departure_of c)) c
    (not_departure c) 0 c all (omega arith)
    ∙ own_gone_by c (entries_of all c).plays (entries_of all c).left

has_by :
    (play : Option (List Order)) (left : Option ℕ) (n : ℕ) →
    or_left (entry_of play left n) (if_before left n) ≡ own_has play left n
has_by (Some orders) left n = refl
has_by None None n = refl
has_by None (Some at) n = by_tests (at == n) (nat_lt at n) (nat_le at n) refl refl refl where
  by_tests :
      (here low up_to : Bool) → (at == n) ≡ here → nat_lt at n ≡ low → nat_le at n ≡ up_to →
      or_left (if here then Some Leave else None) (if low then Some at else None) ≡
      (if up_to then Some Leave else None)
  by_tests true low true here_is low_is up_to_is = refl
  by_tests true low false here_is low_is up_to_is = absurd (grind (arith, nat_tests))
  by_tests false true true here_is low_is up_to_is = refl
  by_tests false true false here_is low_is up_to_is = absurd (grind (arith, nat_tests))
  by_tests false false true here_is low_is up_to_is = absurd (grind (arith, nat_tests))
  by_tests false false false here_is low_is up_to_is = refl

pub all_has :
    (all : List Entries) (c n : ℕ) → has_of (all_arrived 0 all) c n ≡ own_has
    (play_at (entries_of all c).plays n) (entries_of all c).left n
all_has all c n = ap₂ or_left (all_kept all c n) (all_left all c n)
    ∙ has_by (play_at (entries_of all c).plays n) (entries_of all c).left n

past_by :
    (entry : Entry) (left left' after after' : Option ℕ) → left ≡ left' → after ≡ after' →
    option_or left (if is_play entry then None else after) ≡ option_or left'
    (if is_play entry then None else after')
past_by entry left left' after after' left_is after_is =
    ap₂ (λ l a. option_or l (if is_play entry then None else a)) left_is after_is

pub all_delivery :
    (all : List Entries) (c n : ℕ) (entry : Entry) → IsByFrame (entries_of all c).plays →
    delivery_of (all_arrived 0 all) c n entry ≡ own_delivery (entries_of all c) n entry
all_delivery all c n entry rise =
    ap₂ (λ kept past. if is_beyond n entry then Beyond else against kept past entry)
    (all_kept all c n)
    (past_by entry (left_before (all_arrived 0 all) c n) (if_before (entries_of all c).left n)
    (kept_after (all_arrived 0 all) c n)
    (least_of (play_after (entries_of all c).plays n) (if_after (entries_of all c).left n))
    (all_left all c n) (all_after all c n rise))

delivered_by :
    (all : List Entries) (c n : ℕ) (entry : Entry) (answer : Delivered) → c < length all →
    own_delivery (entries_of all c) n entry ≡ answer →
    all_arrived 0 (slice_set all c (own_after answer (entries_of all c) n entry))
    ≡ after_delivery answer (record { client = c; frame = n; entry = entry }) (all_arrived 0 all)
delivered_by all c n entry Kept below is =
    sym (with_all (record { client = c; frame = n; entry = entry }) 0 c all
    (with_entry (entries_of all c) n entry) (omega arith) below
    (own_placed c n entry (entries_of all c) is))
delivered_by all c n entry Repeat below is = ap (all_arrived 0) (set-get_or all c no_entries)
delivered_by all c n entry (Conflict kept) below is =
    ap (all_arrived 0) (set-get_or all c no_entries)
delivered_by all c n entry (Past at) below is = ap (all_arrived 0) (set-get_or all c no_entries)
delivered_by all c n entry Beyond below is = ap (all_arrived 0) (set-get_or all c no_entries)

-- A delivery to one client's entries is one to what has arrived.
pub all_delivered :
    (all : List Entries) (c n : ℕ) (entry : Entry) → c < length all →
    IsByFrame (entries_of all c).plays →
    all_arrived 0 (slice_set all c (own_after (own_delivery (entries_of all c) n entry)
    (entries_of all c) n entry))
    ≡ arrived_after (all_arrived 0 all) c n entry
all_delivered all c n entry below rise =
    delivered_by all c n entry (own_delivery (entries_of all c) n entry) below refl
    ∙ ap (λ answer. after_delivery answer (record { client = c; frame = n; entry = entry })
    (all_arrived 0 all)) (sym (all_delivery all c n entry rise))

-- Where each client has none there are none.
pub none_reached : (first clients : ℕ) → all_arrived first (replicate clients no_entries) ≡ []
none_reached first zero = refl
none_reached first (suc clients) = none_reached (first + 1) clients

-- What a delivery to one client's entries is to what has arrived.
pub ruleset delivery_laws = (all_delivery, all_delivered)
