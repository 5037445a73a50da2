-- A walk over arguments that are all names.
use Rattle.std.proofs.Common.{◌≡◌, ◌==◌, ◌∙◌, ap, ap₂, ℕ, Bool, true, false, List, [], ◌∷◌, ◌++◌, Some, None, codes, refl, append_assoc, arith}
use Rattle.std.proofs.lemmas.List.Elements.{All-tail}
use Rattle.std.specs.Prelude.{fold}
use Rattle.std.specs.List.{All}
use Rattle.clap.specs.Walk.{Held, Row, Rule, Text, Waiting, Walk, positional, reading_by, plain_word, subcommand_or_other, after_step, walked, walk_from, nothing_held, finished, settled, rows_after, Step, value, idle}
use Rattle.clap.specs.Simple.{Shape, new_shape, filled, with_index}
use Rattle.clap.specs.Kinds.{Kinds, or_else}
use Rattle.clap.specs.Faults.{other_fault, turn_fault, walk_fault, settle_fault, defaults_fault, check_fault, level_fault, step_fault}
use Rattle.clap.specs.declared.parser.matches.ValueSource.TheVariants.{CommandLine}
use Rattle.clap.proofs.SimpleLemmas.{is_false}
use Rattle.command_words.specs.Commands.{file_names, option_named}
use Rattle.command_words.specs.Reading.{is_plain}

abbrev pub IsPlain : Text → Type 0
IsPlain word = is_plain word ≡ true

at_first : (word : Text) (words : List Text) → All IsPlain (word ∷ words) → IsPlain word
at_first word words plain = plain 0 word (omega arith)

-- A plain argument is neither `--` nor an option.
met : (c : List Rule) (waiting : Waiting) (position : ℕ) (word : Text) (h : Held) → is_plain word ≡ true
    → subcommand_or_other c None waiting position word h ≡ plain_word c waiting word h
met c waiting position [] h plain = refl
met c waiting position (first ∷ []) h plain = by_hyphen (first == 45) refl
  where
    by_hyphen : (hyphen : Bool) → (first == 45) ≡ hyphen → subcommand_or_other c None waiting position (first ∷ []) h ≡ plain_word c waiting (first ∷ []) h
    by_hyphen true is = simp is refl
    by_hyphen false is = simp is refl
met c waiting position (first ∷ second ∷ rest) h plain =
    let other : (first == 45) ≡ false = is_false _ plain in
    simp other refl

quiet : (s : Shape) (word : Text) (h : Held) → is_plain word ≡ true → other_fault s None word h ≡ []
quiet s [] h plain = refl
quiet s (first ∷ []) h plain = by_hyphen (first == 45) refl
  where
    by_hyphen : (hyphen : Bool) → (first == 45) ≡ hyphen → other_fault s None (first ∷ []) h ≡ []
    by_hyphen true is = simp is refl
    by_hyphen false is = simp is refl
quiet s (first ∷ second ∷ rest) h plain =
    let other : (first == 45) ≡ false = is_false _ plain in
    simp other refl

-- The names and `--map` as the parse has them, and a command that takes the names, with `--map` or
-- without it, and nothing else.
abbrev pub names_rule : Rule
names_rule = with_index 1 (filled file_names)

abbrev pub map_rule : Rule
map_rule = with_index 1 (filled (option_named (codes "map")))

abbrev pub names_rules : (takes_map : Bool) → List Rule
names_rules true = map_rule ∷ names_rule ∷ []
names_rules false = names_rule ∷ []

abbrev pub names_shape : (takes_map : Bool) → Text → Shape
names_shape takes_map command = record (new_shape command) {
  rules = names_rules takes_map;
  disable_help_flag = true;
  disable_help_subcommand = true;
  disable_version_flag = true;
  is_built = true;
}

abbrev pub found_names : List Text → List Row
found_names [] = []
found_names (name ∷ names) = record {
  id = codes "names";
  values = name ∷ names;
  count = None;
  source = Some CommandLine;
  reading = reading_by names_rule;
} ∷ []

-- The walk after a name, which is still held back.
abbrev after_name : List Text → Text → Walk
after_name before last = record {
  held = record { rows = found_names before; pending = Some (codes "names", last ∷ []); skip = 0 };
  waiting = positional;
  position = 1;
  is_trailing = false;
  stopped = None;
}

first_name : (m : Bool) (word : Text) → is_plain word ≡ true → walked (names_rules m) [] (walk_from nothing_held) word ≡ after_name [] word
unfolding walked
first_name true word plain = ap (λ (m : Held × Step). after_step (names_rules true) word (walk_from nothing_held) m.0 m.1) (met (names_rules true) idle 1 word nothing_held plain)
first_name false word plain = ap (λ (m : Held × Step). after_step (names_rules false) word (walk_from nothing_held) m.0 m.1) (met (names_rules false) idle 1 word nothing_held plain)

to_next : (m : Bool) (before : List Text) (last word : Text) → after_step (names_rules m) word (after_name before last) (after_name before last).held value ≡ after_name (before ++ last ∷ []) word
to_next true [] last word = refl
to_next true (name ∷ names) last word = refl
to_next false [] last word = refl
to_next false (name ∷ names) last word = refl

next_name : (m : Bool) (before : List Text) (last word : Text) → is_plain word ≡ true → walked (names_rules m) [] (after_name before last) word ≡ after_name (before ++ last ∷ []) word
unfolding walked
next_name true before last word plain =
    ap (λ (m : Held × Step). after_step (names_rules true) word (after_name before last) m.0 m.1) (met (names_rules true) positional 1 word (after_name before last).held plain)
    ∙ to_next true before last word
next_name false before last word plain =
    ap (λ (m : Held × Step). after_step (names_rules false) word (after_name before last) m.0 m.1) (met (names_rules false) positional 1 word (after_name before last).held plain)
    ∙ to_next false before last word

first_quiet : (m : Bool) (command word : Text) → is_plain word ≡ true → turn_fault (names_shape m command) [] (walk_from nothing_held) word ≡ []
first_quiet true command word plain =
    ap₂ (λ (kinds : Kinds) (m : Held × Step). or_else kinds (step_fault (names_shape true command) 1 m.0 m.1))
    (quiet (names_shape true command) word nothing_held plain) (met (names_rules true) idle 1 word nothing_held plain)
first_quiet false command word plain =
    ap₂ (λ (kinds : Kinds) (m : Held × Step). or_else kinds (step_fault (names_shape false command) 1 m.0 m.1))
    (quiet (names_shape false command) word nothing_held plain) (met (names_rules false) idle 1 word nothing_held plain)

next_quiet : (m : Bool) (command : Text) (before : List Text) (last word : Text) → is_plain word ≡ true → turn_fault (names_shape m command) [] (after_name before last) word ≡ []
next_quiet true command before last word plain =
    ap₂ (λ (kinds : Kinds) (m : Held × Step). or_else kinds (step_fault (names_shape true command) 1 m.0 m.1))
    (quiet (names_shape true command) word (after_name before last).held plain) (met (names_rules true) positional 1 word (after_name before last).held plain)
next_quiet false command before last word plain =
    ap₂ (λ (kinds : Kinds) (m : Held × Step). or_else kinds (step_fault (names_shape false command) 1 m.0 m.1))
    (quiet (names_shape false command) word (after_name before last).held plain) (met (names_rules false) positional 1 word (after_name before last).held plain)

-- Where the walk ends: after the last of the names.
record EndsAfter (names : List Text) (end : Walk) : Type 0 where
  before : List Text
  last : Text
  all : before ++ last ∷ [] ≡ names
  is : end ≡ after_name before last

ends : (m : Bool) (before : List Text) (last : Text) (names : List Text) → All IsPlain names
    → EndsAfter (before ++ last ∷ names) (fold (walked (names_rules m) []) (after_name before last) names)
ends m before last [] plain = record { before = before; last = last; all = refl; is = refl }
ends m before last (word ∷ names) plain =
    let later : EndsAfter ((before ++ last ∷ []) ++ word ∷ names) (fold (walked (names_rules m) []) (after_name (before ++ last ∷ []) word) names) =
    ends m (before ++ last ∷ []) word names (All-tail IsPlain word names plain) in
    record {
      before = later.before;
      last = later.last;
      all = later.all ∙ append_assoc before (last ∷ []) (word ∷ names);
      is = ap (λ (w : Walk). fold (walked (names_rules m) []) w names) (next_name m before last word (at_first word names plain)) ∙ later.is;
    }

walk_quiet : (m : Bool) (command : Text) (before : List Text) (last : Text) (names : List Text) → All IsPlain names
    → walk_fault (names_shape m command) [] (after_name before last) names ≡ []
unfolding walk_fault
walk_quiet m command before last [] plain = refl
walk_quiet m command before last (word ∷ names) plain =
    ap₂ (λ (kinds : Kinds) (w : Walk). or_else kinds (walk_fault (names_shape m command) [] w names))
    (next_quiet m command before last word (at_first word names plain)) (next_name m before last word (at_first word names plain))
    ∙ walk_quiet m command (before ++ last ∷ []) word names (All-tail IsPlain word names plain)

-- After the walk there is no fault, and all the names are found.
tail_fault : Bool → Text → Walk → Kinds
tail_fault m command end = or_else (settle_fault (names_rules m) false end.held)
    (or_else (defaults_fault (settled (names_rules m) end.held).rows (names_rules m))
    (check_fault (names_shape m command) (finished (names_rules m) end.held) false))

tail_quiet : (m : Bool) (command : Text) (before : List Text) (last : Text) → tail_fault m command (after_name before last) ≡ []
unfolding tail_fault defaults_fault
tail_quiet true command [] last = refl
tail_quiet true command (name ∷ names) last = refl
tail_quiet false command [] last = refl
tail_quiet false command (name ∷ names) last = refl

all_found : (m : Bool) (before : List Text) (last : Text) → finished (names_rules m) (after_name before last).held ≡ found_names (before ++ last ∷ [])
all_found true [] last = refl
all_found true (name ∷ names) last = refl
all_found false [] last = refl
all_found false (name ∷ names) last = refl

pub level_quiet : (m : Bool) (command word : Text) (names : List Text) → All IsPlain (word ∷ names)
    → level_fault (names_shape m command) [] nothing_held (word ∷ names) false [] ≡ []
unfolding walk_fault tail_fault
level_quiet m command word names plain =
    let end : EndsAfter (word ∷ names) (fold (walked (names_rules m) []) (after_name [] word) names) = ends m [] word names (All-tail IsPlain word names plain) in
    let first : walked (names_rules m) [] (walk_from nothing_held) word ≡ after_name [] word = first_name m word (at_first word names plain) in
    ap₂ (λ (kinds : Kinds) (w : Walk). or_else (or_else kinds (walk_fault (names_shape m command) [] w names)) (tail_fault m command (fold (walked (names_rules m) []) w names)))
    (first_quiet m command word (at_first word names plain)) first
    ∙ ap₂ (λ (kinds : Kinds) (w : Walk). or_else kinds (tail_fault m command w)) (walk_quiet m command [] word names (All-tail IsPlain word names plain)) end.is
    ∙ tail_quiet m command end.before end.last

pub rows_found : (m : Bool) (word : Text) (names : List Text) → All IsPlain (word ∷ names)
    → rows_after (names_rules m) [] (word ∷ names) ≡ found_names (word ∷ names)
rows_found m word names plain =
    let end : EndsAfter (word ∷ names) (fold (walked (names_rules m) []) (after_name [] word) names) = ends m [] word names (All-tail IsPlain word names plain) in
    ap (λ (w : Walk). finished (names_rules m) (fold (walked (names_rules m) []) w names).held) (first_name m word (at_first word names plain))
    ∙ ap (λ (w : Walk). finished (names_rules m) w.held) end.is
    ∙ all_found m end.before end.last
    ∙ ap found_names end.all
