-- Differences by rising number, one number after the other.
use Rattle.std.specs.Prelude.{◌≡◌, ℕ, suc, ◌+◌, ◌-◌, ◌*◌, ◌%◌, ◌/◌, ◌<◌, ◌≤◌, Bool, List}
use Rattle.std.specs.Prelude.{[], ◌++◌, slice_get, Option, Some, Result, Ok, Err, OnOk}
use Rattle.std.proofs.Common.{sym, ap, ap₂, ◌∙◌, arith}
use Rattle.game_model.specs.declared.world.World.{World}
use Rattle.compare_command.specs.declared.subject.Subject.TheVariants.{Cash, Gone, Ore}
use Rattle.compare_command.specs.Difference.{Difference, Flags, Numbers, compared_if}
use Rattle.compare_command.specs.Each.{each}
use Rattle.compare_command.specs.Found.{FoundState, with_found}
use Rattle.compare_command.specs.Saves.{cell_of, client_differences}
use Rattle.compare_command.proofs.FoundLemmas.{all_found, next_found, none_found, then_found}

-- Those of the numbers from one on.
abbrev pub rest_of : (ℕ → List Difference) → (count n : ℕ) → List Difference
rest_of found count n = each found n (count - n)

pub rest_step :
    (found : ℕ → List Difference) (count n : ℕ) → n < count →
    rest_of found count n ≡ found n ++ rest_of found count (n + 1)
rest_step found count n below =
    let left : count - n ≡ suc (count - (n + 1)) = omega (arith, below) in
    ap (each found n) left

rest_none : (found : ℕ → List Difference) (count n : ℕ) → count ≤ n → rest_of found count n ≡ []
rest_none found count n past =
    let left : count - n ≡ 0 = omega (arith, past) in
    ap (each found n) left

-- All are left at first.
pub rest_all :
    (found : ℕ → List Difference) (count : ℕ) (old : FoundState) →
    with_found old (rest_of found count 0) ≡ with_found old (each found 0 count)
rest_all found count old =
    let left : count - 0 ≡ count = omega arith in
    ap (λ (n : ℕ). with_found old (each found 0 n)) left

-- The next number.
pub rest_found :
    (found : ℕ → List Difference) (count n : ℕ) (target now new : FoundState) → n < count →
    with_found now (rest_of found count n) ≡ target → new ≡ with_found now (found n) →
    with_found new (rest_of found count (n + 1)) ≡ target
rest_found found count n target now new below so_far is =
    next_found target now new (rest_of found count n) (found n) (rest_of found count (n + 1))
    (rest_step found count n below) so_far is

-- No number is left.
pub rest_over :
    (found : ℕ → List Difference) (count n : ℕ) (target now : FoundState) → count ≤ n →
    with_found now (rest_of found count n) ≡ target → now ≡ target
rest_over found count n target now past so_far =
    all_found target now (rest_of found count n) (rest_none found count n past) so_far

pub ruleset each_steps = (rest_all, rest_found, rest_over)

-- Nothing is found among no numbers.
pub no_numbers :
    (found : ℕ → List Difference) (count width height : ℕ) (old : FoundState) →
    count ≡ width * height → width ≡ 0 → old ≡ with_found old (each found 0 count)
no_numbers found count width height old whole none =
    let empty : count ≡ 0 = whole ∙ ap (λ (w : ℕ). w * height) none ∙ omega arith in
    none_found old ∙ ap (λ (n : ℕ). with_found old (each found 0 n)) (sym empty)

-- The cell at a place.
pub cell_found :
    (width place : ℕ) (cells others : List ℕ) (bales : ℕ) (other : Option ℕ)
    (now new : FoundState) → slice_get cells place ≡ Some bales → other ≡ slice_get others place →
    new ≡ with_found now
    (compared_if (Ore (place % width) (place / width)) Numbers (Some bales) other) →
    new ≡ with_found now (cell_of width cells others place)
cell_found width place cells others bales other now new here there found =
    found ∙ ap₂ (λ (a b : Option ℕ).
    with_found now (compared_if (Ore (place % width) (place / width)) Numbers a b)) (sym here) there

-- A client.
pub client_found :
    {T E : Type 0} (result : Result T E) (a b : World) (client : ℕ) (cash cash' : Option ℕ)
    (flag flag' : Option Bool) (old mid new : FoundState) → cash ≡ slice_get a.cash client →
    cash' ≡ slice_get b.cash client → flag ≡ slice_get a.gone client →
    flag' ≡ slice_get b.gone client →
    mid ≡ with_found old (compared_if (Cash client) Numbers cash cash') →
    OnOk result (new ≡ with_found mid (compared_if (Gone client) Flags flag flag')) →
    OnOk result (new ≡ with_found old (client_differences a b client))
client_found (Ok done) a b client cash cash' flag flag' old mid new one two three four first last =
    then_found old mid new (compared_if (Cash client) Numbers (slice_get a.cash client)
    (slice_get b.cash client)) (compared_if (Gone client) Flags (slice_get a.gone client)
    (slice_get b.gone client))
    (first ∙ ap₂ (λ (c d : Option ℕ). with_found old (compared_if (Cash client) Numbers c d)) one two)
    (last ∙ ap₂ (λ (c d : Option Bool). with_found mid (compared_if (Gone client) Flags c d)) three
    four)
client_found (Err fault) a b client cash cash' flag flag' old mid new one two three four first last =
    tt
