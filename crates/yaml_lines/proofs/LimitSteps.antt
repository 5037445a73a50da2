-- A file without a fault has no more nodes than lines, and none at a level too deep.
use Rattle.std.proofs.Common.{◌≡◌, ℕ, ◌+◌, ◌<◌, ◌≤◌, Bool, true, false, cond, ltb, leb, not, List}
use Rattle.std.proofs.Common.{[], ◌∷◌, ◌++◌, length, Option, None, Some, refl, sym, ap, ◌∙◌, subst}
use Rattle.std.proofs.Common.{arith, append-nil}
use Rattle.std.proofs.lemmas.Bool.{leb-false}
use Rattle.std.specs.Str.{is_utf8}
use Rattle.base.specs.Lines.{lines_of}
use Rattle.yaml_lines.specs.declared.place.Place.{Place}
use Rattle.yaml_lines.specs.declared.fault.LineFault.{LineFault}
use Rattle.yaml_lines.specs.declared.fault.LineFault.TheVariants.{NotUtf8, BadIndent, TooDeep}
use Rattle.yaml_lines.specs.declared.fault.LineFault.TheVariants.{LineTooLong, TooManyLines}
use Rattle.yaml_lines.specs.declared.TheConstants.{MAX_LINES, MAX_LINE_BYTES, MAX_LEVELS}
use Rattle.yaml_lines.specs.Reading.{Words, words_of}
use Rattle.yaml_lines.specs.Kept.{Kept, kept_of, kept_from, kept_lines, level_fault, line_fault}
use Rattle.yaml_lines.specs.Kept.{allowed_after, or_later, fault_from, first_line_fault}
use Rattle.yaml_lines.specs.Limits.{AllLow}
use Rattle.yaml_lines.proofs.ParseSteps.{line_within}

both_none : (first later : Option LineFault) → or_later first later ≡ None → (first ≡ None) × (later ≡ None)
both_none None later h = (refl, h)
both_none (Some fault) later h = cc

-- A choice between a fault and what follows, where there is no fault.
after_test : (test : Bool) (fault : LineFault) (next : Option LineFault) → cond test (Some fault) next ≡ None → next ≡ None
after_test true fault next h = cc
after_test false fault next h = h

test_fails : (test : Bool) (fault : LineFault) (next : Option LineFault) → cond test (Some fault) next ≡ None → test ≡ false
test_fails true fault next h = cc
test_fails false fault next h = refl

level_sound : (place : Place) (allowed : ℕ) (line : List ℕ) → line_fault place allowed line ≡ None → level_fault place allowed (words_of line) ≡ None
unfolding line_fault
level_sound place allowed line h =
    after_test (ltb MAX_LINE_BYTES (length line)) (LineTooLong place) _
    (after_test (not (is_utf8 line)) (NotUtf8 place) _
    (after_test (ltb MAX_LINES place.line) (TooManyLines place) _ h))

level_low : (place : Place) (allowed : ℕ) (words : Words) → level_fault place allowed (Some words) ≡ None → words.level < MAX_LEVELS
level_low place allowed words h =
    leb-false MAX_LEVELS words.level
    (test_fails (leb MAX_LEVELS words.level) (TooDeep place) None
    (after_test (ltb allowed words.level) (BadIndent place) _ h))

kept_low : (place : Place) (allowed : ℕ) (said : Option Words) (rest : List Kept) → level_fault place allowed said ≡ None → AllLow rest → AllLow (kept_of place said ++ rest)
kept_low place allowed None rest h r = r
kept_low place allowed (Some words) rest h r = (level_low place allowed words h, r)

lines_low : (file line allowed : ℕ) (lines : List (List ℕ)) → fault_from file line allowed lines ≡ None → AllLow (kept_from file line lines)
lines_low file line allowed [] h = tt
lines_low file line allowed (text ∷ rest) h =
    let place : Place = record { file = file; line = line } in
    let b = both_none (line_fault place allowed text) (fault_from file (line + 1) (allowed_after allowed (words_of text)) rest) h in
    kept_low place allowed (words_of text) (kept_from file (line + 1) rest) (level_sound place allowed text b.0)
    (lines_low file (line + 1) (allowed_after allowed (words_of text)) rest b.1)

kept_few : (place : Place) (said : Option Words) (rest : List Kept) → length (kept_of place said ++ rest) ≤ length rest + 1
kept_few place None rest = omega arith
kept_few place (Some words) rest = omega arith

lines_few : (file line allowed : ℕ) (lines : List (List ℕ)) → line ≤ MAX_LINES + 1 → fault_from file line allowed lines ≡ None →
    length (kept_from file line lines) + line ≤ MAX_LINES + 1
lines_few file line allowed [] l h = omega arith
lines_few file line allowed (text ∷ rest) l h =
    let place : Place = record { file = file; line = line } in
    let b = both_none (line_fault place allowed text) (fault_from file (line + 1) (allowed_after allowed (words_of text)) rest) h in
    let within : line ≤ MAX_LINES = line_within place allowed text b.0 in
    let later = lines_few file (line + 1) (allowed_after allowed (words_of text)) rest (omega (arith, within)) b.1 in
    omega (arith, later, kept_few place (words_of text) (kept_from file (line + 1) rest))

-- A file that was read to its end without a fault.
pub limits-end : (file line allowed : ℕ) (bytes rest : List ℕ) (grown nodes : List Kept) → rest ≡ [] → nodes ≡ grown →
    grown ++ kept_from file line (lines_of rest) ≡ kept_lines file bytes →
    fault_from file line allowed (lines_of rest) ≡ first_line_fault file bytes →
    (first_line_fault file bytes ≡ None) × (nodes ≡ kept_lines file bytes)
limits-end file line allowed bytes rest grown nodes e n kept fault =
    (sym fault ∙ ap (λ l. fault_from file line allowed (lines_of l)) e, n ∙ sym (append-nil grown) ∙ ap (λ l. grown ++ kept_from file line (lines_of l)) (sym e) ∙ kept)

pub nodes_low : (file : ℕ) (bytes : List ℕ) (nodes : List Kept) → first_line_fault file bytes ≡ None → nodes ≡ kept_lines file bytes → AllLow nodes
nodes_low file bytes nodes s e = subst AllLow (sym e) (lines_low file 1 0 (lines_of bytes) s)

pub nodes_few : (file : ℕ) (bytes : List ℕ) (nodes : List Kept) → first_line_fault file bytes ≡ None → nodes ≡ kept_lines file bytes → length nodes ≤ MAX_LINES
nodes_few file bytes nodes s e =
    let few = lines_few file 1 0 (lines_of bytes) (omega arith) s in
    let same : length nodes ≡ length (kept_lines file bytes) = ap length e in
    omega (arith, few, same)
