-- A fault of lines is that of the files.
use Rattle.std.proofs.Common.{◌≡◌, ◌<◌, ◌+◌, ℕ, List, [], ◌∷◌, ◌++◌, length, map, drop, get_or, Option, inl, inr, refl, sym, ap, subst, ◌∙◌}
use Rattle.std.specs.Prelude.{◌≢◌, Result, Ok, None, Some, IfSome}
use Rattle.std.proofs.lemmas.List.{drop_more}
use Rattle.base.specs.Steps.{◌>>=◌, IsFault}
use Rattle.yaml_lines.specs.declared.fault.LineFault.{LineFault}
use Rattle.yaml_lines.specs.Kept.{Kept, IsLineFault, first_line_fault, kept_lines}
use Rattle.yaml_lines.specs.Trees.{Trees}
use Rattle.yaml_lines.specs.Built.{parsed_by, parsed}
use Rattle.setup_files.specs.declared.setup_fault.Part.{Part}
use Rattle.setup_files.specs.declared.setup_fault.SetupFault.{SetupFault}
use Rattle.setup_files.specs.declared.setup_fault.SetupFault.TheVariants.{NoMemory}
use Rattle.setup_files.specs.Faults.{lines_fault}
use Rattle.setup_files.specs.Reading.{Read, line_step, parsed_after}

-- What is left of a list, each of its elements seen by `view`.
pub left_is :
    {A B : Type 0} (view : A → B) (xs : List A) (i : ℕ) (d : A) (y : B) →
    i < length xs → y ≡ view (get_or xs i d) → map view (drop i xs) ≡ y ∷ map view (drop (i + 1) xs)
left_is view xs i d y below is = ap (map view) (drop_more xs i d below) ∙ ap (λ z. z ∷ map view (drop (i + 1) xs)) (sym is)

-- A step that fails, and what would have come after it.
pub fails_on :
    {T V : Type 0} (fault : SetupFault) (step : Read T) (next : T → Read V) →
    IsFault NoMemory fault step → IsFault NoMemory fault (step >>= next)
fails_on fault step next (inl memory) = inl memory
fails_on fault step next (inr is) = inr (ap (λ s. s >>= next) is)

-- The first fault of a file's lines.
pub lines_fail :
    (files : Part) (fault : LineFault) (first : Option LineFault) (kept : List Kept) → IsLineFault fault first →
    IsFault NoMemory (lines_fault files fault) (line_step files (parsed_by first kept))
lines_fail files fault first kept (inl memory) = inl (ap (lines_fault files) memory)
lines_fail files fault first kept (inr found) = inr (ap (λ f. line_step files (parsed_by f kept)) found)

-- The first file with a fault in its lines.
pub files_fail :
    (files : Part) (before : List Trees) (file : ℕ) (left : List (List ℕ)) (bytes : List ℕ) (rest : List (List ℕ)) (all : Read (List Trees))
    (fault : LineFault) (made : SetupFault) →
    left ≡ bytes ∷ rest → parsed_after files before file left ≡ all → made ≡ lines_fault files fault →
    IsLineFault fault (first_line_fault file bytes) → IsFault NoMemory made all
unfolding parsed
files_fail files before file left bytes rest all fault made left_is so_far is found =
    let next : Trees → Read (List Trees) = λ forest. parsed_after files (before ++ forest ∷ []) (file + 1) rest in
    let lines : Read Trees = line_step files (parsed_by (first_line_fault file bytes) (kept_lines file bytes)) in
    subst (λ f. IsFault NoMemory f all) (sym is)
    (subst (IsFault NoMemory (lines_fault files fault)) (sym (ap (parsed_after files before file) left_is) ∙ so_far)
    (fails_on (lines_fault files fault) lines next (lines_fail files fault (first_line_fault file bytes) (kept_lines file bytes) found)))

-- What was made of the same files is the same.
pub same_made :
    {M : Type 0} (outcome : Result M SetupFault) (kept : Option M) (made : M) → kept ≢ None → IfSome kept (λ m. outcome ≡ Ok m) →
    outcome ≡ Ok made → Some made ≡ kept
same_made outcome None made some keeps is = absurd (some refl)
same_made outcome (Some m) made some keeps is = cc (keeps, is)
