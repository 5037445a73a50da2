-- A draft with one event more.
use Rattle.std.proofs.Common.{◌≡◌, ℕ, ◌+◌, true, List, [], ◌∷◌, ◌++◌, length, refl, ◌∙◌}
use Rattle.std.specs.List.{list_all}
use Rattle.std.proofs.lemmas.Bool.{and_from}
use Rattle.std.proofs.lemmas.List.{length_push}
use Rattle.std.proofs.lemmas.List.Folds.{list_all-append}
use Rattle.drill_words.specs.declared.event.Event.{Event}
use Rattle.drill_words.specs.Event.{event_fits}

-- Each of them fits still.
pub fits_push :
    (clients : ℕ) (events : List Event) (event : Event) → list_all (event_fits clients) events ≡ true →
    event_fits clients event ≡ true → list_all (event_fits clients) (events ++ event ∷ []) ≡ true
fits_push clients events event all here =
    list_all-append (event_fits clients) events (event ∷ [])
    ∙ and_from (list_all (event_fits clients) events) (list_all (event_fits clients) (event ∷ [])) all
    (and_from (event_fits clients event) true here refl)

-- There is one more.
pub one_longer : (events : List Event) (event : Event) → length (events ++ event ∷ []) ≡ length events + 1
one_longer events event = length_push events event

pub ruleset one_more_event = (fits_push, one_longer)
