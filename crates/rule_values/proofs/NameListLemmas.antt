-- Lists of names, part by part.
use Rattle.std.proofs.Common.{◌≡◌, ℕ, ◌<◌, ◌≤◌, List, [], ◌∷◌, length, map, Bool, true, false, cond}
use Rattle.std.proofs.Common.{ltb, ◌==◌, Option, Some, None, refl, sym, ap, ◌∙◌, arith, length-drop}
use Rattle.std.proofs.Common.{◌+◌, ◌-◌}
use Rattle.std.proofs.lemmas.Bool.Decides.{nat_tests}
use Rattle.std.proofs.lemmas.List.Splits.{slice_split_first, slice_split-cons_no}
use Rattle.std.specs.List.{filter, slice_split, onto_first, position_or_len, before_first}
use Rattle.std.specs.List.{after_first}
use Rattle.base.specs.Lines.{has_bytes}
use Rattle.yaml_lines.specs.Blanks.{trim}
use Rattle.rule_values.specs.NameList.{names_of, with_name}
use Rattle.rule_values.specs.Parts.{parts_at}

-- The empty text has no names.
pub no_names : names_of [] ≡ []
unfolding names_of
no_names = refl

pub none_left : (text : List ℕ) → length text ≡ 0 → names_of text ≡ []
none_left [] empty = no_names
none_left (b ∷ text) empty = absurd (omega arith)

-- A text has bytes exactly where it isn't empty.
pub some_bytes : (text : List ℕ) → 0 < length text → has_bytes text ≡ true
some_bytes [] h = absurd (omega arith)
some_bytes (b ∷ text) h = refl

pub no_bytes : (text : List ℕ) → length text ≡ 0 → has_bytes text ≡ false
no_bytes [] h = refl
no_bytes (b ∷ text) h = absurd (omega arith)

-- The test for a comma.
abbrev is_comma : ℕ → Bool
is_comma b = b == 44

-- A list without a separator is one part.
one-part-step :
    (p : ℕ → Bool) (x : ℕ) (xs : List ℕ) (b : Bool) → p x ≡ b → length (x ∷ xs) ≤ position_or_len p (x ∷ xs) →
    (length xs ≤ position_or_len p xs → slice_split p xs ≡ xs ∷ []) → slice_split p (x ∷ xs) ≡ (x ∷ xs) ∷ []
one-part-step p x xs true e long more = let none = rw e at long in absurd (omega arith)
one-part-step p x xs false e long more =
    let rest = rw e at long in
    slice_split-cons_no p x xs e ∙ ap (onto_first x) (more (omega arith))

one-part : (p : ℕ → Bool) (xs : List ℕ) → length xs ≤ position_or_len p xs → slice_split p xs ≡ xs ∷ []
one-part p [] long = refl
one-part p (x ∷ xs) long = one-part-step p x xs (p x) refl long (one-part p xs)

-- What a choice between parts and nothing was.
parts-some :
    (t : Bool) (p q : List ℕ × List ℕ) →
    cond {A = Option (List ℕ × List ℕ)} t (Some p) None ≡ Some q → (t ≡ true) × (q ≡ p)
parts-some true p q e = (refl, cc)
parts-some false p q e = absurd (cc)

parts-none : (t : Bool) (p : List ℕ × List ℕ) → cond {A = Option (List ℕ × List ℕ)} t (Some p) None ≡ None → t ≡ false
parts-none true p e = absurd (cc)
parts-none false p e = refl

is-parts :
    (c : ℕ) (text before after : List ℕ) → parts_at c text ≡ Some (before, after) →
    (position_or_len (λ b. b == c) text < length text)
    × (before ≡ before_first (λ b. b == c) text)
    × (after ≡ after_first (λ b. b == c) text)
unfolding parts_at
is-parts c text before after cut =
    let parts : List ℕ × List ℕ = (before_first (λ b. b == c) text, after_first (λ b. b == c) text) in
    let is = parts-some (ltb (position_or_len (λ b. b == c) text) (length text)) parts (before, after) cut in
    let found : ltb (position_or_len (λ b. b == c) text) (length text) ≡ true = is.0 in
    (grind (arith, nat_tests), ap (λ q. q.0) is.1, ap (λ q. q.1) is.1)

-- Where a comma stands, the names are the one before it and those after it.
pub names_at_comma :
    (text before after : List ℕ) → parts_at 44 text ≡ Some (before, after) →
    names_of text ≡ with_name (trim before) (names_of after)
unfolding names_of
names_at_comma text before after cut =
    let is = is-parts 44 text before after cut in
    ap (λ parts. filter has_bytes (map trim parts)) (slice_split_first is_comma text 0 is.0)
    ∙ ap (λ part. with_name (trim part) (names_of (after_first is_comma text))) (sym is.1)
    ∙ ap (λ rest. with_name (trim before) (names_of rest)) (sym is.2)

-- Where none stands, the text is the one name.
pub names_without_comma : (text : List ℕ) → parts_at 44 text ≡ None → names_of text ≡ with_name (trim text) (names_of [])
unfolding names_of parts_at
names_without_comma text none =
    let no : ltb (position_or_len is_comma text) (length text) ≡ false = parts-none _ (before_first is_comma text, after_first is_comma text) none in
    ap (λ parts. filter has_bytes (map trim parts)) (one-part is_comma text (grind (arith, nat_tests)))
    ∙ ap (with_name (trim text)) (sym no_names)

-- The part after a separator is shorter than the text.
pub after_shorter : (c : ℕ) (text before after : List ℕ) → parts_at c text ≡ Some (before, after) → length after < length text
after_shorter c text before after cut =
    let is = is-parts c text before after cut in
    let left : length after ≡ length text - (position_or_len (λ b. b == c) text + 1) = ap length is.2 ∙ length-drop _ text in
    omega arith

pub ruleset name_steps = (none_left, some_bytes, no_bytes)

pub ruleset comma_steps = (names_at_comma, names_without_comma, after_shorter)
