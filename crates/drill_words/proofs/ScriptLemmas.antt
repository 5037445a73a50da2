-- The plays of several lines, read from the first, and what each client plays by them.
use Rattle.std.proofs.Common.{◌≡◌, ◌≢◌, ℕ, zero, suc, ◌+◌, ◌<◌, ◌≤◌, ◌==◌, Bool, true, false, if◌then◌else◌, List, [], ◌∷◌, ◌++◌, length, set, get_or, replicate}
use Rattle.std.proofs.Common.{Result, Ok, Err, refl, ap, ap₂, sym, subst, arith, ◌∙◌, append_assoc, append-nil, eq-eqb}
use Rattle.std.proofs.lemmas.Bool.{ne_eqb}
use Rattle.std.proofs.lemmas.List.{length_push}
use Rattle.base.specs.Steps.{◌>>=◌}
use Rattle.game_orders.specs.declared.order.Order.{Order}
use Rattle.game_orders.specs.declared.limits.TheConstants.{MAX_FRAMES}
use Rattle.drill_words.specs.declared.limits.TheConstants.{MAX_EVENTS}
use Rattle.drill_words.specs.declared.drill_fault.DrillFault.{DrillFault}
use Rattle.drill_words.specs.declared.script_words.ScriptPlay.{ScriptPlay}
use Rattle.drill_words.specs.KeptLine.{KeptLine}
use Rattle.drill_words.specs.Scripts.{plays_of, with_play, AreWithinFrames}
use Rattle.drill_words.specs.Script.{play_on, plays_from, orders_by, scripts_from, scripts_of, scripts_on}

-- What is read after some plays, with these before it.
abbrev pub after_plays : List ScriptPlay → Result (List ScriptPlay) DrillFault → Result (List ScriptPlay) DrillFault
after_plays prefix read = read >>= λ plays. Ok (prefix ++ plays)

after_plays-push :
    (prefix : List ScriptPlay) (play : ScriptPlay) (read : Result (List ScriptPlay) DrillFault) →
    after_plays prefix (read >>= λ plays. Ok (play ∷ plays)) ≡ after_plays (prefix ++ play ∷ []) read
after_plays-push prefix play (Ok plays) = ap Ok (sym (append_assoc prefix (play ∷ []) plays))
after_plays-push prefix play (Err fault) = refl

plays_from-more :
    (clients : ℕ) (prefix : List ScriptPlay) (play : ScriptPlay) (line : KeptLine) (all lines : List KeptLine) →
    all ≡ line ∷ lines → play_on clients (length prefix) line ≡ Ok play →
    after_plays (prefix ++ play ∷ []) (plays_from clients (length (prefix ++ play ∷ [])) lines)
    ≡ after_plays prefix (plays_from clients (length prefix) all)
unfolding plays_from
plays_from-more clients prefix play line all lines first read =
    let rest = λ (n : ℕ). plays_from clients n lines in
    sym (ap (λ ls. after_plays prefix (plays_from clients (length prefix) ls)) first
    ∙ ap (λ (r : Result ScriptPlay DrillFault). after_plays prefix (r >>= λ p. rest (length prefix + 1) >>= λ plays. Ok (p ∷ plays))) read
    ∙ after_plays-push prefix play (rest (length prefix + 1))
    ∙ ap (λ n. after_plays (prefix ++ play ∷ []) (rest n)) (sym (length_push prefix play)))

plays_from-fault :
    (clients : ℕ) (prefix : List ScriptPlay) (fault : DrillFault) (line : KeptLine) (all lines : List KeptLine) →
    all ≡ line ∷ lines → play_on clients (length prefix) line ≡ Err fault →
    after_plays prefix (plays_from clients (length prefix) all) ≡ Err fault
unfolding plays_from
plays_from-fault clients prefix fault line all lines first read =
    ap (λ ls. after_plays prefix (plays_from clients (length prefix) ls)) first
    ∙ ap (λ (r : Result ScriptPlay DrillFault). after_plays prefix (r >>= λ p. plays_from clients (length prefix + 1) lines >>= λ plays. Ok (p ∷ plays))) read

plays_from-none :
    (clients : ℕ) (prefix : List ScriptPlay) (all : List KeptLine) → all ≡ [] →
    after_plays prefix (plays_from clients (length prefix) all) ≡ Ok prefix
unfolding plays_from
plays_from-none clients prefix all none =
    ap (λ ls. after_plays prefix (plays_from clients (length prefix) ls)) none ∙ ap Ok (append-nil prefix)

-- One play more, of this client or of another.
orders_by-own :
    (c : ℕ) (prefix : List ScriptPlay) (play : ScriptPlay) → (play.client == c) ≡ true →
    orders_by c (prefix ++ play ∷ []) ≡ orders_by c prefix ++ play.orders ∷ []
orders_by-own c [] play own = ap (λ b. if b then play.orders ∷ [] else []) own
orders_by-own c (first ∷ prefix) play own = by (first.client == c) refl (orders_by-own c prefix play own)
  where
    by :
        (b : Bool) → (first.client == c) ≡ b → orders_by c (prefix ++ play ∷ []) ≡ orders_by c prefix ++ play.orders ∷ [] →
        orders_by c ((first ∷ prefix) ++ play ∷ []) ≡ orders_by c (first ∷ prefix) ++ play.orders ∷ []
    by true is rest = rw is (ap (λ l. first.orders ∷ l) rest)
    by false is rest = rw is rest

orders_by-other :
    (c : ℕ) (prefix : List ScriptPlay) (play : ScriptPlay) → (play.client == c) ≡ false →
    orders_by c (prefix ++ play ∷ []) ≡ orders_by c prefix
orders_by-other c [] play other = ap (λ b. if b then play.orders ∷ [] else []) other
orders_by-other c (first ∷ prefix) play other = by (first.client == c) refl (orders_by-other c prefix play other)
  where
    by :
        (b : Bool) → (first.client == c) ≡ b → orders_by c (prefix ++ play ∷ []) ≡ orders_by c prefix →
        orders_by c ((first ∷ prefix) ++ play ∷ []) ≡ orders_by c (first ∷ prefix)
    by true is rest = rw is (ap (λ l. first.orders ∷ l) rest)
    by false is rest = rw is rest

scripts_from-later :
    (c clients : ℕ) (prefix : List ScriptPlay) (play : ScriptPlay) → play.client < c →
    scripts_from c clients (prefix ++ play ∷ []) ≡ scripts_from c clients prefix
scripts_from-later c zero prefix play below = refl
scripts_from-later c (suc clients) prefix play below =
    ap₂ (λ own others. own ∷ others)
    (orders_by-other c prefix play (ne_eqb play.client c (λ is. omega arith)))
    (scripts_from-later (c + 1) clients prefix play (omega arith))

same_client : (a b : ℕ) → a ≡ b → (a == b) ≡ true
same_client a b is = eq-eqb a b is

scripts_from-play :
    (c clients i : ℕ) (prefix : List ScriptPlay) (play : ScriptPlay) → play.client ≡ c + i → i < clients →
    set (scripts_from c clients prefix) i (get_or (scripts_from c clients prefix) i [] ++ play.orders ∷ [])
    ≡ scripts_from c clients (prefix ++ play ∷ [])
scripts_from-play c zero i prefix play is below = absurd (omega arith)
scripts_from-play c (suc clients) zero prefix play is below =
    ap₂ (λ own others. own ∷ others)
    (sym (orders_by-own c prefix play (same_client play.client c (omega arith))))
    (sym (scripts_from-later (c + 1) clients prefix play (omega arith)))
scripts_from-play c (suc clients) (suc i) prefix play is below =
    ap₂ (λ own others. own ∷ others)
    (sym (orders_by-other c prefix play (ne_eqb play.client c (λ same. omega arith))))
    (scripts_from-play (c + 1) clients i prefix play (omega arith) (omega arith))

scripts_from-none : (c clients : ℕ) → scripts_from c clients [] ≡ replicate clients []
scripts_from-none c zero = refl
scripts_from-none c (suc clients) = ap (λ l. [] ∷ l) (scripts_from-none (c + 1) clients)

scripts_from-length : (c clients : ℕ) (plays : List ScriptPlay) → length (scripts_from c clients plays) ≡ clients
scripts_from-length c zero plays = refl
scripts_from-length c (suc clients) plays = ap suc (scripts_from-length (c + 1) clients plays)

-- No client has more plays than there are lines.
orders_by-length : (c : ℕ) (plays : List ScriptPlay) → length (orders_by c plays) ≤ length plays
orders_by-length c [] = omega arith
orders_by-length c (play ∷ plays) = by (play.client == c) refl (orders_by-length c plays)
  where
    by :
        (b : Bool) → (play.client == c) ≡ b → length (orders_by c plays) ≤ length plays →
        length (orders_by c (play ∷ plays)) ≤ suc (length plays)
    by true is rest = rw is (omega arith)
    by false is rest = rw is (omega arith)

scripts_from-few : (c clients i : ℕ) (plays : List ScriptPlay) → length (get_or (scripts_from c clients plays) i []) ≤ length plays
scripts_from-few c zero i plays = omega arith
scripts_from-few c (suc clients) zero plays = orders_by-length c plays
scripts_from-few c (suc clients) (suc i) plays = scripts_from-few (c + 1) clients i plays

-- What was read so far, and what is left to read, is the whole.
pub record ReadSoFar (clients : ℕ) (all lines : List KeptLine) (scripts : List (List (List Order)))
    (before : ℕ) : Type 0 where
  pub plays : List ScriptPlay
  pub count : before ≡ length plays
  pub few : before ≤ MAX_EVENTS
  pub scripts_are : scripts ≡ scripts_of clients plays
  pub whole : after_plays plays (plays_from clients (length plays) lines) ≡ plays_from clients 0 all

after_none : (read : Result (List ScriptPlay) DrillFault) → after_plays [] read ≡ read
after_none (Ok plays) = refl
after_none (Err fault) = refl

pub read_none : (clients : ℕ) (all : List KeptLine) (scripts : List (List (List Order))) → scripts ≡ replicate clients [] → ReadSoFar clients all all scripts 0
read_none clients all scripts is =
    record {
      plays = [];
      count = refl;
      few = omega arith;
      scripts_are = is ∙ sym (scripts_from-none 0 clients);
      whole = after_none (plays_from clients 0 all);
    }

module _ (clients : ℕ) (all lines : List KeptLine) (scripts : List (List (List Order))) (before : ℕ) (far : ReadSoFar clients all lines scripts before) where
  -- There is room for one play more of each client.
  pub room_left : (c : ℕ) → before ≢ MAX_EVENTS → length (plays_of scripts c) < MAX_FRAMES
  room_left c more =
      let own : length (plays_of scripts c) ≤ length far.plays = subst (λ (s : List (List (List Order))). length (get_or s c []) ≤ length far.plays) (sym far.scripts_are) (scripts_from-few 0 clients c far.plays) in
      let few = far.few in
      let count = far.count in
      let less : before < MAX_EVENTS = grind (arith, more, few) in
      omega arith

  pub as_many : length scripts ≡ clients
  as_many = ap length far.scripts_are ∙ scripts_from-length 0 clients far.plays

  pub read_more :
      (play : ScriptPlay) (line : KeptLine) (rest : List KeptLine) (after : List (List (List Order))) → lines ≡ line ∷ rest →
      play_on clients before line ≡ Ok play → play.client < clients → before ≢ MAX_EVENTS →
      after ≡ with_play scripts play.client play.orders → ReadSoFar clients all rest after (before + 1)
  read_more play line rest after first read below more is =
      let few = far.few in
      let less : before < MAX_EVENTS = grind (arith, more, few) in
      record {
        plays = far.plays ++ play ∷ [];
        count = ap (λ n. n + 1) far.count ∙ sym (length_push far.plays play);
        few = omega arith;
        scripts_are =
            is
            ∙ ap (λ (s : List (List (List Order))). set s play.client (get_or s play.client [] ++ play.orders ∷ [])) far.scripts_are
            ∙ scripts_from-play 0 clients play.client far.plays play (omega arith) below;
        whole =
            plays_from-more clients far.plays play line lines rest first (ap (λ n. play_on clients n line) (sym far.count) ∙ read)
            ∙ far.whole;
      }

  pub read_fault :
      (fault : DrillFault) (line : KeptLine) (rest : List KeptLine) → lines ≡ line ∷ rest →
      play_on clients before line ≡ Err fault → scripts_on clients all ≡ Err fault
  read_fault fault line rest first read =
      ap (λ (r : Result (List ScriptPlay) DrillFault). r >>= λ plays. Ok (scripts_of clients plays))
      (sym far.whole
      ∙ plays_from-fault clients far.plays fault line lines rest first (ap (λ n. play_on clients n line) (sym far.count) ∙ read))

  pub read_all : lines ≡ [] → scripts_on clients all ≡ Ok scripts
  read_all none =
      ap (λ (r : Result (List ScriptPlay) DrillFault). r >>= λ plays. Ok (scripts_of clients plays))
      (sym far.whole ∙ plays_from-none clients far.plays lines none)
      ∙ ap Ok (sym far.scripts_are)

-- One play more leaves each client within the frames of a match.
set_within :
    (scripts : List (List (List Order))) (i : ℕ) (plays : List (List Order)) (most c : ℕ) →
    ((d : ℕ) → length (get_or scripts d []) ≤ most) → length plays ≤ most →
    length (get_or (set scripts i plays) c []) ≤ most
set_within [] i plays most c within few = within c
set_within (first ∷ scripts) zero plays most zero within few = few
set_within (first ∷ scripts) zero plays most (suc c) within few = within (suc c)
set_within (first ∷ scripts) (suc i) plays most zero within few = within 0
set_within (first ∷ scripts) (suc i) plays most (suc c) within few =
    set_within scripts i plays most c (λ d. within (suc d)) few

pub within_more :
    (scripts after : List (List (List Order))) (c : ℕ) (plays : List (List Order)) → AreWithinFrames scripts →
    after ≡ set scripts c plays → length plays ≤ MAX_FRAMES → AreWithinFrames after
within_more scripts after c plays within is few d =
    subst (λ (s : List (List (List Order))). length (get_or s d []) ≤ MAX_FRAMES) (sym is) (set_within scripts c plays MAX_FRAMES d within few)

abbrev no_plays : ℕ → List (List (List Order))
no_plays clients = replicate clients []

none_few : (clients c : ℕ) → length (get_or (no_plays clients) c []) ≤ MAX_FRAMES
none_few zero c = omega arith
none_few (suc clients) zero = omega arith
none_few (suc clients) (suc c) = none_few clients c

pub none_length : (scripts : List (List (List Order))) (clients : ℕ) → scripts ≡ replicate clients [] → length scripts ≡ clients
none_length scripts clients is = ap length is ∙ as_long clients
  where
    as_long : (n : ℕ) → length (no_plays n) ≡ n
    as_long zero = refl
    as_long (suc n) = ap suc (as_long n)

pub none_within : (scripts : List (List (List Order))) (clients : ℕ) → scripts ≡ replicate clients [] → AreWithinFrames scripts
none_within scripts clients is c =
    subst (λ (s : List (List (List Order))). length (get_or s c []) ≤ MAX_FRAMES) (sym is) (none_few clients c)
