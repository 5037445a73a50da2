-- Where words are accepted, an argument that has to be there has a value, which passed its parser.
use Rattle.std.proofs.Common.{◌≡◌, ◌<◌, ◌∙◌, ◌&&◌, ◌||◌, ap, sym, subst, true≢false, ℕ, Bool, true, false, not, cond, List, [], ◌∷◌, ◌++◌, length, Option, Some, None, is_some, refl, arith, zero, suc}
use Rattle.std.proofs.lemmas.Bool.{ne_eqb}
use Rattle.std.proofs.lemmas.Slice.Eq.{bytes_eq-Decides}
use Rattle.std.specs.Prelude.{nat_lt, find, fold, drop, encode_utf8, slice_get}
use Rattle.std.specs.Option.{option_map_or}
use Rattle.std.specs.Str.{bytes_eq, chars}
use Rattle.clap.specs.Lexer.{long_of, short_of}
use Rattle.clap.specs.Facts.{unwrap_or_range, explicit_source, parser_of_value}
use Rattle.clap.specs.Walk.{Held, Names, Outcome, Row, Rule, Step, Text, Waiting, Walk, at_row, more_values, with_values, without, used_as, used, used_by_id, settled_rows, settled, reacted, action_of, reading_by, most_values, arg_by_id, arg_by_long, arg_by_short, arg_by_index, takes_values, takes_several, option_met, flag_met, long_met, short_met, bundle_step, bundle_met, bundle, option_word, plain_word, after_flag, long_or_other, short_or_plain, subcommand_met, word_met, is_pending, after_step, walked_from, walked, has_row, with_default, default_rows, first_of, one_of, has_long, subcommand_or_other, to_positional, is_empty}
use Rattle.clap.specs.Walk.{idle, option, positional, next, trailing, subcommand, value, done, waits, plain, refused}
use Rattle.clap.specs.Simple.{Shape}
use Rattle.clap.specs.Takes.{is_given, value_passes, values_pass}
use Rattle.clap.specs.Values.{read_as, refused_kind}
use Rattle.clap.specs.Kinds.{Kinds, or_else, range_kinds, request_kinds, value_kinds}
use Rattle.clap.specs.Faults.{use_fault, action_fault, set_fault, repeat_fault, values_fault, settle_fault, react_fault, option_fault, long_fault, flag_word_fault, word_fault, other_fault, step_fault, turn_fault, walk_fault, stray_fault, default_fault, given_default_fault, defaults_fault}
use Rattle.clap.specs.declared.error.kind.ErrorKind.{ErrorKind}
use Rattle.clap.specs.declared.error.kind.ErrorKind.TheVariants.{TooManyValues}
use Rattle.clap.specs.declared.builder.action.ArgAction.{ArgAction}
use Rattle.clap.specs.declared.builder.action.ArgAction.TheVariants.{Set, Append, SetTrue, SetFalse, Count}
use Rattle.clap.specs.declared.builder.value_parser.Reading.{Reading}
use Rattle.clap.specs.declared.builder.value_parser.Reading.TheVariants.{AsWritten}
use Rattle.clap.specs.declared.parser.matches.ValueSource.{ValueSource}
use Rattle.clap.specs.declared.parser.matches.ValueSource.TheVariants.{CommandLine, DefaultValue}
use Rattle.clap.proofs.WalkLemmas.{both}

-- ---- rows of the arguments of a command

-- The values pass the parser of the argument of this id.
abbrev pub passes_at : List Rule → Text → List Text → Bool
passes_at c id values = option_map_or (λ a. values_pass a values) (arg_by_id c id) true

-- How the values of the argument of this id are read.
abbrev pub reading_at : List Rule → Text → Reading
reading_at c id = option_map_or reading_by (arg_by_id c id) AsWritten

-- A row has a value, and its values pass the parser of its argument and are read as that says.
pub record IsRead (c : List Rule) (row : Row) : Type 0 where
  pub some : 0 < length row.values
  pub passes : passes_at c row.id row.values ≡ true
  pub how : row.reading ≡ reading_at c row.id

abbrev pub Full : List Rule → List Row → Type 0
Full c [] = Unit {0}
Full c (row ∷ rows) = IsRead c row × Full c rows

Full-append : (c : List Rule) (xs ys : List Row) → Full c xs → Full c ys → Full c (xs ++ ys)
Full-append c [] ys left right = right
Full-append c (x ∷ xs) ys left right = (left.0, Full-append c xs ys left.1 right)

at_full : (c : List Rule) (id : Text) (change : Row → List Row) (missing : List Row)
    → ((row : Row) → bytes_eq row.id id ≡ true → IsRead c row → Full c (change row)) → Full c missing
    → (rows : List Row) → Full c rows → Full c (at_row id change missing rows)
at_full c id change missing changed new [] full = new
at_full c id change missing changed new (row ∷ rows) full = go (bytes_eq row.id id) refl (at_full c id change missing changed new rows full.1)
  where
    go : (b : Bool) → bytes_eq row.id id ≡ b → Full c (at_row id change missing rows) → Full c (cond b (change row ++ rows) (row ∷ at_row id change missing rows))
    go true is rest = Full-append c (change row) rows (changed row is full.0) full.1
    go false is rest = (full.0, rest)

longer : (xs ys : List Text) → 0 < length ys → 0 < length (xs ++ ys)
longer [] ys some = some
longer (x ∷ xs) ys some = omega arith

all_pass : (a : Rule) (xs ys : List Text) → values_pass a xs ≡ true → values_pass a ys ≡ true → values_pass a (xs ++ ys) ≡ true
all_pass a [] ys left right = right
all_pass a (x ∷ xs) ys left right =
    let parts = both (value_passes a x) (values_pass a xs) left in
    rw parts.0 (all_pass a xs ys parts.1 right)

more_pass : (found : Option Rule) (xs ys : List Text) → option_map_or (λ a. values_pass a xs) found true ≡ true
    → option_map_or (λ a. values_pass a ys) found true ≡ true → option_map_or (λ a. values_pass a (xs ++ ys)) found true ≡ true
more_pass None xs ys left right = refl
more_pass (Some a) xs ys left right = all_pass a xs ys left right

-- Values of the argument of this id, which are read as its parser says.
record AreRead (c : List Rule) (id : Text) (reading : Reading) (values : List Text) : Type 0 where
  some : 0 < length values
  passes : passes_at c id values ≡ true
  how : reading ≡ reading_at c id

with_full : (c : List Rule) (id : Text) (how : Reading) (source : ValueSource) (values : List Text) (rows : List Row)
    → AreRead c id how values → Full c rows → Full c (with_values id how source values rows)
with_full c id how source values rows read full =
    at_full c id (more_values source values)
    (record { id = id; values = values; count = None; source = Some source; reading = how } ∷ [])
    (λ row same has. (
      record {
        some = longer row.values values read.some;
        passes =
            more_pass (arg_by_id c row.id) row.values values has.passes
            (subst (λ id. passes_at c id values ≡ true) (sym ((bytes_eq-Decides row.id id).0 same)) read.passes);
        how = has.how;
      },
      tt,
    ))
    (record { some = read.some; passes = read.passes; how = read.how }, tt) rows full

without_full : (c : List Rule) (id : Text) (rows : List Row) → Full c rows → Full c (without id rows)
without_full c id rows full = at_full c id (λ row. []) [] (λ row same has. tt) tt rows full

-- ---- uses without a fault

pub first_none : (a b : Kinds) → or_else a b ≡ [] → a ≡ []
first_none [] b quiet = refl
first_none (k ∷ ks) b quiet = quiet

pub second_none : (a b : Kinds) → or_else a b ≡ [] → b ≡ []
second_none [] b quiet = quiet
second_none (k ∷ ks) b quiet = cc

pub some_kind : (k : ErrorKind) (ks : Kinds) → k ∷ ks ≡ [] → ⊥
some_kind k ks e = cc

passed : (b : Bool) (k : ErrorKind) → cond b [] (k ∷ []) ≡ [] → b ≡ true
passed true k quiet = refl
passed false k quiet = absurd (some_kind k [] quiet)

all_passed : (a : Rule) (values : List Text) → values_fault a values ≡ [] → values_pass a values ≡ true
all_passed a [] quiet = refl
all_passed a (v ∷ vs) quiet =
    let first = value_kinds a.ignore_case (parser_of_value a.parser) v in
    let passes : value_passes a v ≡ true = passed (value_passes a v) (refused_kind (parser_of_value a.parser)) (first_none first (values_fault a vs) quiet) in
    rw passes (all_passed a vs (second_none first (values_fault a vs) quiet))

-- Each use of the argument has a value, or one that stands for none, and it is the argument of its id.
abbrev pub Wants : List Rule → Rule → Type 0
Wants c a = ((nat_lt 0 (unwrap_or_range a.range).start_inclusive || not (is_empty a.missing)) ≡ true) × (arg_by_id c a.id ≡ Some a)

abbrev pub AllWant : (c rules : List Rule) → Type 0
AllWant c [] = Unit {0}
AllWant c (a ∷ rest) = Wants c a × AllWant c rest

abbrev IfWants : List Rule → Option Rule → Type 0
IfWants c None = Unit {0}
IfWants c (Some a) = Wants c a

find_wants : (c : List Rule) (p : Rule → Bool) (rules : List Rule) → AllWant c rules → IfWants c (find p rules)
find_wants c p [] all = tt
find_wants c p (a ∷ rest) all = go (p a) (find_wants c p rest all.1)
  where
    go : (b : Bool) → IfWants c (find p rest) → IfWants c (cond b (Some a) (find p rest))
    go true later = all.0
    go false later = later

read_values : (c : List Rule) (a : Rule) (v : Text) (vs : List Text) → Wants c a → values_fault a (v ∷ vs) ≡ [] → AreRead c a.id (reading_by a) (v ∷ vs)
read_values c a v vs want quiet = record {
  some = omega arith;
  passes = ap (λ (found : Option Rule). option_map_or (λ a. values_pass a (v ∷ vs)) found true) want.1 ∙ all_passed a (v ∷ vs) quiet;
  how = ap (λ (found : Option Rule). option_map_or reading_by found AsWritten) (sym want.1);
}

set_full : (again : Bool) (c : List Rule) (a : Rule) (v : Text) (vs : List Text) (rows : List Row) → Wants c a → set_fault again a (v ∷ vs) rows ≡ [] → Full c rows
    → Full c (with_values a.id (reading_by a) CommandLine (v ∷ vs) (without a.id rows))
set_full again c a v vs rows want quiet full =
    with_full c a.id (reading_by a) CommandLine (v ∷ vs) (without a.id rows)
    (read_values c a v vs want (second_none (repeat_fault again a.id rows) (values_fault a (v ∷ vs)) quiet)) (without_full c a.id rows full)

as_full : (action : ArgAction) (again : Bool) (c : List Rule) (a : Rule) (v : Text) (vs : List Text) (rows : List Row) → Wants c a
    → action_fault action again a (v ∷ vs) rows ≡ [] → Full c rows → Full c (used_as action a.id (reading_by a) (v ∷ vs) rows)
as_full Set again c a v vs rows want quiet full = set_full again c a v vs rows want quiet full
as_full SetTrue again c a v vs rows want quiet full = set_full again c a v vs rows want quiet full
as_full SetFalse again c a v vs rows want quiet full = set_full again c a v vs rows want quiet full
as_full Append again c a v vs rows want quiet full = with_full c a.id (reading_by a) CommandLine (v ∷ vs) rows (read_values c a v vs want quiet) full
as_full Count again c a v vs rows want quiet full =
    with_full c a.id (reading_by a) CommandLine (v ∷ vs) (without a.id rows) (read_values c a v vs want quiet) (without_full c a.id rows full)
as_full _ again c a v vs rows want quiet full = full

-- An argument of which no value stands for none wants one.
wants_some : (wants : Bool) (missing : List Text) → missing ≡ [] → (wants || not (is_empty missing)) ≡ true → wants ≡ true
wants_some true missing is some = refl
wants_some false [] is some = absurd (true≢false (sym some))
wants_some false (m ∷ ms) is some = cc

-- A use without a value, of which these stand for none.
missing_full : (again : Bool) (c : List Rule) (a : Rule) (missing : List Text) (rows : List Row) → a.missing ≡ missing → Wants c a → use_fault again a [] rows ≡ []
    → Full c rows → Full c (used_as (action_of a) a.id (reading_by a) missing rows)
missing_full again c a [] rows is want quiet full =
    let none : range_kinds (unwrap_or_range a.range).start_inclusive (unwrap_or_range a.range).end_inclusive 0 ≡ [] = first_none _ _ quiet in
    let wants : nat_lt 0 (unwrap_or_range a.range).start_inclusive ≡ true = wants_some (nat_lt 0 (unwrap_or_range a.range).start_inclusive) a.missing is want.0 in
    absurd (some_kind _ _ (rw wants at none))
missing_full again c a (m ∷ ms) rows is want quiet full =
    as_full (action_of a) again c a m ms rows want
    (subst (λ (missing : List Text). action_fault (action_of a) again a missing rows ≡ []) is
    (second_none (range_kinds (unwrap_or_range a.range).start_inclusive (most_values a) 0) (action_fault (action_of a) again a a.missing rows) quiet)) full

used_full : (again : Bool) (c : List Rule) (a : Rule) (values : List Text) (rows : List Row) → Wants c a → use_fault again a values rows ≡ [] → Full c rows → Full c (used a values rows)
used_full again c a [] rows want quiet full = missing_full again c a a.missing rows refl want quiet full
used_full again c a (v ∷ vs) rows want quiet full =
    as_full (action_of a) again c a v vs rows want
    (second_none (range_kinds (unwrap_or_range a.range).start_inclusive (most_values a) (length (v ∷ vs))) (action_fault (action_of a) again a (v ∷ vs) rows) quiet) full

rule_full : (again : Bool) (c : List Rule) (found : Option Rule) (values : List Text) (rows : List Row) → IfWants c found → Full c rows
    → option_map_or (λ a. use_fault again a values rows) found [] ≡ [] → Full c (used_by_id found values rows)
rule_full again c None values rows want full quiet = full
rule_full again c (Some a) values rows want full quiet = used_full again c a values rows want quiet full

pending_full : (c : List Rule) (again : Bool) (pending : Option (Text × List Text)) (rows : List Row) → AllWant c c → Full c rows
    → option_map_or (λ p. option_map_or (λ a. use_fault again a p.1 rows) (arg_by_id c p.0) []) pending [] ≡ [] → Full c (settled_rows c pending rows)
pending_full c again None rows all full quiet = full
pending_full c again (Some p) rows all full quiet = rule_full again c (arg_by_id c p.0) p.1 rows (find_wants c (λ a. bytes_eq a.id p.0) c all) full quiet

pub settle_full : (c : List Rule) (again : Bool) (h : Held) → AllWant c c → Full c h.rows → settle_fault c again h ≡ [] → Full c (settled c h).rows
settle_full c again h all full quiet = pending_full c again h.pending h.rows all full quiet

react_full : (c : List Rule) (again : Bool) (a : Rule) (values : List Text) (h : Held) → AllWant c c → Wants c a → Full c h.rows
    → react_fault c again a values h ≡ [] → Full c (reacted c a values h).rows
react_full c again a values h all want full quiet =
    used_full again c a values (settled c h).rows want
    (second_none (settle_fault c again h) (use_fault again a values (settled c h).rows) quiet)
    (settle_full c again h all full (first_none (settle_fault c again h) (use_fault again a values (settled c h).rows) quiet))

option_full : (c : List Rule) (again : Bool) (a : Rule) (v : Option Text) (h : Held) → AllWant c c → Wants c a → Full c h.rows
    → option_fault c again a v h ≡ [] → Full c (option_met c a v h).0.rows
option_full c again a None h all want full quiet = settle_full c again h all full quiet
option_full c again a (Some v) h all want full quiet = react_full c again a (v ∷ []) h all want full quiet

flag_full : (c : List Rule) (again : Bool) (a : Rule) (v : Option Text) (h : Held) → AllWant c c → Wants c a → Full c h.rows
    → cond (is_some v) (TooManyValues ∷ []) (react_fault c again a [] h) ≡ [] → Full c (flag_met c a v h).0.rows
flag_full c again a None h all want full quiet = react_full c again a [] h all want full quiet
flag_full c again a (Some v) h all want full quiet = full

long_full : (c : List Rule) (again : Bool) (found : Option Rule) (v : Option Text) (h : Held) → AllWant c c → IfWants c found → Full c h.rows
    → long_fault c again found v h ≡ [] → Full c (long_met c found v h).0.rows
long_full c again None v h all want full quiet = full
long_full c again (Some a) v h all want full quiet = go (takes_values a) quiet
  where
    go : (b : Bool) → cond b (option_fault c again a v h) (cond (is_some v) (TooManyValues ∷ []) (react_fault c again a [] h)) ≡ []
        → Full c (cond b (option_met c a v h) (flag_met c a v h)).0.rows
    go true none = option_full c again a v h all want full none
    go false none = flag_full c again a v h all want full none

-- No argument has a short name.
abbrev pub Shortless : List Rule → Type 0
Shortless c = (x : ℕ) → arg_by_short c x ≡ None

short_full : (c : List Rule) (found : Option Rule) (rest : Text) (h : Held) (onward : Held → Held × Outcome) → found ≡ None → Full c h.rows → Full c (short_met c found rest h onward).0.rows
short_full c None rest h onward none full = full
short_full c (Some a) rest h onward none full = cc

char_full : (c : List Rule) (x : Option ℕ) (flags : Text) (skip : ℕ) (so_far : Outcome) (h : Held) (onward : Text → ℕ → Outcome → Held → Held × Outcome) → Shortless c
    → ((flags : Text) (skip : ℕ) (so_far : Outcome) → Full c (onward flags skip so_far h).0.rows) → Full c h.rows
    → Full c (bundle_step c x flags skip so_far h onward).0.rows
char_full c None flags skip so_far h onward shortless later full = full
char_full c (Some x) flags zero so_far h onward shortless later full =
    short_full c (arg_by_short c x) (drop (length (encode_utf8 x)) flags) h (onward (drop (length (encode_utf8 x)) flags) 0 done) (shortless x) full
char_full c (Some x) flags (suc skip) so_far h onward shortless later full = later (drop (length (encode_utf8 x)) flags) skip so_far

bundle_full : (c : List Rule) (k : ℕ) (flags : Text) (skip : ℕ) (so_far : Outcome) (h : Held) → Shortless c → Full c h.rows
    → Full c (bundle_met c k flags skip so_far h).0.rows
unfolding bundle_met
bundle_full c zero flags skip so_far h shortless full = full
bundle_full c (suc k) flags skip so_far h shortless full =
    char_full c (slice_get (chars flags) 0) flags skip so_far h (bundle_met c k) shortless (λ f s o. bundle_full c k f s o h shortless full) full

option_word_full : (c : List Rule) (found : Option Rule) (id word : Text) (h : Held) → Full c h.rows → Full c (option_word found id word h).0.rows
option_word_full c None id word h full = full
option_word_full c (Some a) id word h full = full

plain_full : (c : List Rule) (waiting : Waiting) (word : Text) (h : Held) → Full c h.rows → Full c (plain_word c waiting word h).0.rows
plain_full c idle word h full = full
plain_full c positional word h full = full
plain_full c (option id) word h full = option_word_full c (arg_by_id c id) id word h full

after_full : (c : List Rule) (waiting : Waiting) (word : Text) (h : Held) (outcome : Outcome) → Full c h.rows → Full c (after_flag c waiting word h outcome).0.rows
after_full c waiting word h done full = full
after_full c waiting word h (waits id) full = full
after_full c waiting word h plain full = plain_full c waiting word h full
after_full c waiting word h refused full = plain_full c waiting word h full

short_word_full : (c : List Rule) (waiting : Waiting) (word : Text) (flags : Option Text) (h : Held) → Shortless c → Full c h.rows
    → Full c (short_or_plain c waiting word flags h).0.rows
short_word_full c waiting word None h shortless full = plain_full c waiting word h full
short_word_full c waiting word (Some flags) h shortless full =
    after_full c waiting word (bundle c flags h).0 (bundle c flags h).1
    (bundle_full c (length flags) flags h.skip plain (record h { skip = 0 }) shortless full)

flag_word_full : (c : List Rule) (again : Bool) (waiting : Waiting) (word : Text) (name : Option (Text × Option Text)) (h : Held) → AllWant c c → Shortless c → Full c h.rows
    → flag_word_fault c again name word h ≡ [] → Full c (long_or_other c waiting word name h).0.rows
flag_word_full c again waiting word None h all shortless full quiet = short_word_full c waiting word (short_of word) h shortless full
flag_word_full c again waiting word (Some p) h all shortless full quiet =
    after_full c waiting word (long_met c (arg_by_long c p.0) p.1 h).0 (long_met c (arg_by_long c p.0) p.1 h).1
    (long_full c again (arg_by_long c p.0) p.1 h all (find_wants c (λ a. not (is_some a.index) && has_long a p.0) c all) full quiet)

-- ---- the walk

other_full : (s : Shape) (name : Option Text) (waiting : Waiting) (position : ℕ) (word : Text) (h : Held) → AllWant s.rules s.rules → Shortless s.rules → Full s.rules h.rows
    → other_fault s name word h ≡ [] → Full s.rules (subcommand_or_other s.rules name waiting position word h).0.rows
other_full s (Some name) waiting position word h all shortless full quiet = full
other_full s None waiting position word h all shortless full quiet = go (bytes_eq word (45 ∷ 45 ∷ [])) quiet
  where
    go : (b : Bool) → cond b [] (flag_word_fault s.rules s.args_override_self (long_of word) word h) ≡ []
        → Full s.rules (cond b (h, trailing position) (long_or_other s.rules waiting word (long_of word) h)).0.rows
    go true none = full
    go false none = flag_word_full s.rules s.args_override_self waiting word (long_of word) h all shortless full none

met_full : (s : Shape) (names : Names) (is_trailing : Bool) (waiting : Waiting) (position : ℕ) (word : Text) (h : Held) → AllWant s.rules s.rules → Shortless s.rules → Full s.rules h.rows
    → word_fault s names is_trailing waiting word h ≡ [] → Full s.rules (word_met s.rules names is_trailing waiting position word h).0.rows
met_full s names true waiting position word h all shortless full quiet = full
met_full s names false waiting position word h all shortless full quiet =
    other_full s (subcommand_met names waiting word) waiting position word h all shortless full quiet

held_full : (c : List Rule) (again : Bool) (b : Bool) (h : Held) → AllWant c c → Full c h.rows → cond b [] (settle_fault c again h) ≡ [] → Full c (cond b h (settled c h)).rows
held_full c again true h all full quiet = full
held_full c again false h all full quiet = settle_full c again h all full quiet

value_full : (s : Shape) (found : Option Rule) (word : Text) (w : Walk) (h : Held) → AllWant s.rules s.rules → Full s.rules h.rows
    → option_map_or (λ a. cond (is_pending a h.pending && takes_several a) [] (settle_fault s.rules s.args_override_self h)) found (stray_fault s) ≡ []
    → Full s.rules (to_positional s.rules found word w h).held.rows
value_full s None word w h all full quiet = full
value_full s (Some a) word w h all full quiet = held_full s.rules s.args_override_self (is_pending a h.pending && takes_several a) h all full quiet

step_full : (s : Shape) (word : Text) (w : Walk) (h : Held) (step : Step) → AllWant s.rules s.rules → Full s.rules h.rows → step_fault s w.position h step ≡ []
    → Full s.rules (after_step s.rules word w h step).held.rows
step_full s word w h (next waiting) all full quiet = full
step_full s word w h (trailing position) all full quiet = full
step_full s word w h (subcommand name) all full quiet = full
step_full s word w h value all full quiet = value_full s (arg_by_index s.rules w.position) word w h all full quiet

unstopped_full : (s : Shape) (names : Names) (stop : Option (Text × List Text)) (w : Walk) (word : Text) → AllWant s.rules s.rules → Shortless s.rules → Full s.rules w.held.rows
    → cond (is_some stop) [] (or_else (word_fault s names w.is_trailing w.waiting word w.held)
    (step_fault s w.position (word_met s.rules names w.is_trailing w.waiting w.position word w.held).0 (word_met s.rules names w.is_trailing w.waiting w.position word w.held).1)) ≡ []
    → Full s.rules (walked_from s.rules names stop w word).held.rows
unstopped_full s names (Some p) w word all shortless full quiet = full
unstopped_full s names None w word all shortless full quiet =
    let m = word_met s.rules names w.is_trailing w.waiting w.position word w.held in
    step_full s word w m.0 m.1 all
    (met_full s names w.is_trailing w.waiting w.position word w.held all shortless full
    (first_none (word_fault s names w.is_trailing w.waiting word w.held) (step_fault s w.position m.0 m.1) quiet))
    (second_none (word_fault s names w.is_trailing w.waiting word w.held) (step_fault s w.position m.0 m.1) quiet)

turn_full : (s : Shape) (names : Names) (w : Walk) (word : Text) → AllWant s.rules s.rules → Shortless s.rules → Full s.rules w.held.rows
    → turn_fault s names w word ≡ [] → Full s.rules (walked s.rules names w word).held.rows
unfolding walked
turn_full s names w word all shortless full quiet = unstopped_full s names w.stopped w word all shortless full quiet

pub walk_full : (s : Shape) (names : Names) (w : Walk) (words : List Text) → AllWant s.rules s.rules → Shortless s.rules → Full s.rules w.held.rows
    → walk_fault s names w words ≡ [] → Full s.rules (fold (walked s.rules names) w words).held.rows
unfolding walk_fault
walk_full s names w [] all shortless full quiet = full
walk_full s names w (word ∷ words) all shortless full quiet =
    walk_full s names (walked s.rules names w word) words all shortless
    (turn_full s names w word all shortless full (first_none (turn_fault s names w word) (walk_fault s names (walked s.rules names w word) words) quiet))
    (second_none (turn_fault s names w word) (walk_fault s names (walked s.rules names w word) words) quiet)

default_full : (c : List Rule) (rows : List Row) (a : Rule) → Wants c a → Full c rows → default_fault rows a ≡ [] → Full c (with_default rows a)
default_full c rows a want full quiet = go (has_row a.id rows) a.defaults quiet
  where
    go : (b : Bool) (values : List Text) → cond (b || is_empty values) [] (given_default_fault a values) ≡ [] → Full c (cond b rows (default_rows a.id (reading_by a) values rows))
    go true values none = full
    go false [] none = full
    go false (v ∷ vs) none =
        let some : is_empty (v ∷ vs) ≡ false = ne_eqb (length (v ∷ vs)) 0 (λ e. omega (arith, e)) in
        let passes : given_default_fault a (v ∷ vs) ≡ [] = subst (λ (b : Bool). cond (false || b) [] (given_default_fault a (v ∷ vs)) ≡ []) some none in
        with_full c a.id (reading_by a) DefaultValue (v ∷ vs) rows
        (read_values c a v vs want (second_none (request_kinds (action_of a)) (values_fault a (v ∷ vs)) passes)) full

pub defaults_full : (c : List Rule) (rows : List Row) (rules : List Rule) → AllWant c rules → Full c rows → defaults_fault rows rules ≡ [] → Full c (fold with_default rows rules)
unfolding defaults_fault
defaults_full c rows [] all full quiet = full
defaults_full c rows (a ∷ rest) all full quiet =
    defaults_full c (with_default rows a) rest all.1
    (default_full c rows a all.0 full (first_none (default_fault rows a) (defaults_fault (with_default rows a) rest) quiet))
    (second_none (default_fault rows a) (defaults_fault (with_default rows a) rest) quiet)

-- ---- what was given has a row

-- The row of an id.
pub record HasRow (c : List Rule) (id : Text) (rows : List Row) : Type 0 where
  pub row : Row
  pub found : find (λ r. bytes_eq r.id id) rows ≡ Some row
  pub first : Text
  pub rest : List Text
  pub values : row.values ≡ first ∷ rest
  pub passes : passes_at c id (first ∷ rest) ≡ true
  pub how : row.reading ≡ reading_at c id

row_there : (c : List Rule) (id : Text) (row : Row) (rows : List Row) → bytes_eq row.id id ≡ true → IsRead c row → HasRow c id (row ∷ rows)
row_there c id row rows same read = go row.values refl
  where
    is : row.id ≡ id
    is = (bytes_eq-Decides row.id id).0 same

    go : (values : List Text) → row.values ≡ values → HasRow c id (row ∷ rows)
    go [] none =
        let some : 0 < 0 = subst (λ (values : List Text). 0 < length values) none read.some in
        absurd (omega arith)
    go (v ∷ vs) are = record {
      row = row;
      found = rw same refl;
      first = v;
      rest = vs;
      values = are;
      passes = subst (λ (values : List Text). passes_at c id values ≡ true) are (subst (λ (id : Text). passes_at c id row.values ≡ true) is read.passes);
      how = subst (λ (id : Text). row.reading ≡ reading_at c id) is read.how;
    }

row_later : (c : List Rule) (id : Text) (row : Row) (rows : List Row) → bytes_eq row.id id ≡ false → HasRow c id rows → HasRow c id (row ∷ rows)
row_later c id row rows other later = record {
  row = later.row;
  found = rw other later.found;
  first = later.first;
  rest = later.rest;
  values = later.values;
  passes = later.passes;
  how = later.how;
}

pub given_row : (c : List Rule) (id : Text) (rows : List Row) → Full c rows → is_given id rows ≡ true → HasRow c id rows
given_row c id [] full given = cc
given_row c id (row ∷ rows) full given = go (bytes_eq row.id id) refl given (given_row c id rows full.1)
  where
    go : (b : Bool) → bytes_eq row.id id ≡ b → option_map_or (λ r. explicit_source r.source) (cond b (Some row) (find (λ r. bytes_eq r.id id) rows)) false ≡ true
        → (is_given id rows ≡ true → HasRow c id rows) → HasRow c id (row ∷ rows)
    go true is there later = row_there c id row rows is full.0
    go false is there later = row_later c id row rows is (later there)

pub given_first : (c : List Rule) (id : Text) (rows : List Row) → HasRow c id rows → is_some (first_of id rows) ≡ true
given_first c id rows has = rw (has.found, has.values) refl

-- The text that is read of an id is the first value, as its parser says.
pub given_one : (c : List Rule) (id : Text) (rows : List Row) (has : HasRow c id rows) → one_of id rows ≡ Some (read_as (reading_at c id) has.first)
given_one c id rows has = rw (has.found, has.values, has.how) refl

-- An id of which nothing was found, or its row.
pub data Found (c : List Rule) (id : Text) (rows : List Row) : Type 0 where
  nothing : one_of id rows ≡ None → Found c id rows
  something : HasRow c id rows → Found c id rows

pub found_or_not : (c : List Rule) (id : Text) (rows : List Row) → Full c rows → Found c id rows
found_or_not c id [] full = nothing refl
found_or_not c id (row ∷ rows) full = go (bytes_eq row.id id) refl (found_or_not c id rows full.1)
  where
    go : (b : Bool) → bytes_eq row.id id ≡ b → Found c id rows → Found c id (row ∷ rows)
    go true is later = something (row_there c id row rows is full.0)
    go false is (nothing none) = nothing (rw is none)
    go false is (something has) = something (row_later c id row rows is has)
