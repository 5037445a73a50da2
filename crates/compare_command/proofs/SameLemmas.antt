-- Lists of builds that are compared one by one.
use Rattle.std.specs.Prelude.{◌≡◌, ℕ, ◌+◌, ◌≤◌, Bool, true, false, List, [], ◌∷◌, length, drop}
use Rattle.std.specs.Prelude.{Option, Some, None, slice_get}
use Rattle.std.proofs.Common.{refl, sym, ap₂, subst, ◌∙◌, arith}
use Rattle.game_model.specs.declared.builds.Build.{Build}
use Rattle.compare_command.specs.Difference.{is_build, same_build, same_builds}
use Rattle.compare_command.proofs.ListLemmas.{item_here, none_here, none_left}

-- The tests from a place on.
abbrev pub same_from : (builds others : List Build) → ℕ → Bool
same_from builds others i = same_builds (drop i builds) (drop i others)

pub next_same :
    (builds others : List Build) (i : ℕ) (b : Build) (other : Option Build) (all : Bool) →
    drop i builds ≡ b ∷ drop (i + 1) builds → other ≡ slice_get others i →
    is_build b other ≡ true → same_from builds others i ≡ all →
    same_from builds others (i + 1) ≡ all
next_same builds others i b None all here there same so_far = absurd cc
next_same builds others i b (Some o) all here there same so_far =
    let step : same_from builds others i ≡ same_from builds others (i + 1) =
    ap₂ same_builds here (item_here others i o (sym there)) ∙ rw same refl in
    sym step ∙ so_far

pub next_differs :
    (builds others : List Build) (i : ℕ) (b : Build) (other : Option Build) (all : Bool) →
    drop i builds ≡ b ∷ drop (i + 1) builds → other ≡ slice_get others i →
    is_build b other ≡ false → same_from builds others i ≡ all → all ≡ false
next_differs builds others i b None all here there same so_far =
    sym so_far ∙ ap₂ same_builds here (none_here others i (sym there))
next_differs builds others i b (Some o) all here there same so_far =
    let step : same_from builds others i ≡ false =
    ap₂ same_builds here (item_here others i o (sym there)) ∙ rw same refl in
    sym so_far ∙ step

pub all_same :
    (builds others : List Build) (i : ℕ) (all : Bool) → length builds ≤ i →
    length builds ≡ length others → same_from builds others i ≡ all → all ≡ true
all_same builds others i all past equal so_far =
    sym so_far
    ∙ ap₂ same_builds (none_left builds i past)
    (none_left others i (subst (λ (n : ℕ). n ≤ i) equal past))

other_more :
    (builds others : List Build) (b o : Build) (test : Bool) → same_build b o ≡ test →
    same_builds builds others ≡ false → same_builds (b ∷ builds) (o ∷ others) ≡ false
other_more builds others b o true is differs = rw is differs
other_more builds others b o false is differs = rw is refl

pub other_length :
    (builds others : List Build) → (length builds ≡ length others → ⊥) →
    same_builds builds others ≡ false
other_length [] [] differs = absurd (differs refl)
other_length [] (o ∷ others) differs = refl
other_length (b ∷ builds) [] differs = refl
other_length (b ∷ builds) (o ∷ others) differs =
    other_more builds others b o (same_build b o) refl
    (other_length builds others (λ same. differs (omega (arith, same))))

pub ruleset same_steps = (next_same, next_differs, all_same, other_length)
