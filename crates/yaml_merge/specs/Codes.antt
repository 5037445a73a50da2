-- Trees as lists of words, by which a proof tells them apart.
use Rattle.std.specs.Prelude.{◌≡◌, ℕ, List, [], ◌∷◌, ◌++◌, Option, None, Some, refl}
use Rattle.std.proofs.Common.{sym, ap, ◌∙◌, append_assoc, append-nil}
use Rattle.std.specs.Coded.{Coded, code_by, coded×, coded_ℕ, coded_list, coded_option}
use Rattle.yaml_lines.specs.Trees.{Trees, none, more}

abbrev pub Word : Type 0
Word = Option ((List ℕ × List ℕ) × (ℕ × ℕ))

abbrev pub words : Trees → List Word
words none = None ∷ []
words (more key value place children rest) =
    Some ((key, value), (place.file, place.line)) ∷ (words children ++ words rest)

abbrev pub first : List Trees → Trees
first [] = none
first (trees ∷ stack) = trees

abbrev pub others : List Trees → List Trees
others [] = []
others (trees ∷ stack) = stack

abbrev pub grown : Word → List Trees → List Trees
grown None stack = none ∷ stack
grown (Some word) stack =
    more word.0.0 word.0.1 (record { file = word.1.0; line = word.1.1 }) (first stack)
    (first (others stack)) ∷ others (others stack)

abbrev pub built : List Word → List Trees → List Trees
built [] stack = stack
built (word ∷ rest) stack = grown word (built rest stack)

abbrev pub back : List Word → Trees
back list = first (built list [])

built-words : (trees : Trees) (list : List Word) (stack : List Trees) →
    built (words trees ++ list) stack ≡ trees ∷ built list stack
built-words none list stack = refl
built-words (more key value place children rest) list stack =
    let word : Word = Some ((key, value), (place.file, place.line)) in
    ap (λ l. grown word (built l stack)) (append_assoc (words children) (words rest) list)
    ∙ ap (grown word)
    (built-words children (words rest ++ list) stack
    ∙ ap (λ s. children ∷ s) (built-words rest list stack))

pub back-words : (trees : Trees) → back (words trees) ≡ trees
back-words trees =
    ap (λ l. first (built l [])) (sym (append-nil (words trees)))
    ∙ ap first (built-words trees [] [])

abbrev pub trees_code : Coded Trees
trees_code =
    code_by (List Word)
    (coded_list (coded_option
    (coded× (coded× (coded_list coded_ℕ) (coded_list coded_ℕ)) (coded× coded_ℕ coded_ℕ))))
    words back back-words
