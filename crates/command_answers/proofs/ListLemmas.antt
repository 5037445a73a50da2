-- Lists that are gone over from the first element on.
use Rattle.std.proofs.Common.{◌≡◌, ◌<◌, ◌+◌, map, drop, get_or, ℕ, ◌∷◌, List, length, sym, ap, ◌∙◌}
use Rattle.std.proofs.lemmas.List.{drop_more}

-- What is left of a list, each of its elements seen by `view`.
pub left_is :
    {A B : Type 0} (view : A → B) (xs : List A) (i : ℕ) (d : A) (y : B) →
    i < length xs → y ≡ view (get_or xs i d) → map view (drop i xs) ≡ y ∷ map view (drop (i + 1) xs)
left_is view xs i d y below is = ap (map view) (drop_more xs i d below) ∙ ap (λ z. z ∷ map view (drop (i + 1) xs)) (sym is)
