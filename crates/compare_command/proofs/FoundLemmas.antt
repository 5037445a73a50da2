-- Lines that are added.
use Rattle.std.specs.Prelude.{◌≡◌, ℕ, ◌<◌, ◌+◌, List, [], ◌∷◌, ◌++◌, length, codes}
use Rattle.std.specs.Fmt.{decimal}
use Rattle.std.proofs.Common.{ap, ap₂, subst, ◌∙◌, sym, arith, append_assoc}
use Rattle.std.proofs.lemmas.Grind.{flat_map-append}
use Rattle.std.proofs.lemmas.List.{append-nil, length-append}
use Rattle.compare_command.specs.Difference.{Difference, Differs, OnlyFirst, OnlySecond}
use Rattle.compare_command.specs.Found.{FoundState, with_found, with_line}
use Rattle.compare_command.specs.Lines.{line_of, lines_of, subject_words, values_words}

-- A line has a byte.
line_long : (d : Difference) → 0 < length (line_of d)
unfolding line_of
line_long (Differs of values) =
    omega (arith, length-append (subject_words of ++ codes " " ++ values_words values) (codes "\n"))
line_long (OnlyFirst id) =
    omega (arith, length-append (codes "actor " ++ decimal id) (codes " only first\n"))
line_long (OnlySecond id) =
    omega (arith, length-append (codes "actor " ++ decimal id) (codes " only second\n"))

-- The line that was written into room that was empty.
pub written_long :
    (d : Difference) (room line : List ℕ) → room ≡ [] → line ≡ room ++ line_of d → 0 < length line
written_long d room line empty is =
    let whole : line ≡ line_of d = is ∙ ap (λ (r : List ℕ). r ++ line_of d) empty in
    subst (λ (l : List ℕ). 0 < length l) (sym whole) (line_long d)

pub line_found :
    (d : Difference) (room line : List ℕ) (old new : FoundState) → room ≡ [] →
    line ≡ room ++ line_of d → new ≡ with_line old line → new ≡ with_found old (d ∷ [])
line_found d room line old new empty is added =
    let whole : line ≡ line_of d ++ [] =
    is ∙ ap (λ (r : List ℕ). r ++ line_of d) empty ∙ sym (append-nil (line_of d)) in
    added ∙ ap (with_line old) whole

-- Nothing was found.
pub none_found : (old : FoundState) → old ≡ with_found old []
none_found old =
    ap₂ (λ (text : List ℕ) (count : ℕ). record { text = text; count = count })
    (sym (append-nil old.text)) (omega arith)

with_more :
    (old : FoundState) (some more : List Difference) →
    with_found (with_found old some) more ≡ with_found old (some ++ more)
with_more old some more =
    let text : (old.text ++ lines_of some) ++ lines_of more ≡ old.text ++ lines_of (some ++ more) =
    append_assoc old.text (lines_of some) (lines_of more)
    ∙ ap (λ (lines : List ℕ). old.text ++ lines) (sym (flat_map-append line_of some more)) in
    let count : (old.count + length some) + length more ≡ old.count + length (some ++ more) =
    omega (arith, length-append some more) in
    ap₂ (λ (t : List ℕ) (n : ℕ). record { text = t; count = n }) text count

-- These were found, and then others.
pub then_found :
    (old mid new : FoundState) (some more : List Difference) → mid ≡ with_found old some →
    new ≡ with_found mid more → new ≡ with_found old (some ++ more)
then_found old mid new some more first second =
    second ∙ ap (λ (f : FoundState). with_found f more) first ∙ with_more old some more

-- The next of what is left were found.
pub next_found :
    (target now new : FoundState) (all next left : List Difference) → all ≡ next ++ left →
    with_found now all ≡ target → new ≡ with_found now next → with_found new left ≡ target
next_found target now new all next left is so_far found =
    ap (λ (f : FoundState). with_found f left) found ∙ with_more now next left
    ∙ ap (with_found now) (sym is) ∙ so_far

-- Nothing is left.
pub all_found :
    (target now : FoundState) (left : List Difference) → left ≡ [] →
    with_found now left ≡ target → now ≡ target
all_found target now left none so_far =
    none_found now ∙ ap (with_found now) (sym none) ∙ so_far

pub ruleset found_steps = (then_found, none_found)

pub ruleset line_steps = (written_long, line_found, none_found)
