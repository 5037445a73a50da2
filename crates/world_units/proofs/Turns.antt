-- What repeated turns leave of the distance.
use Rattle.std.proofs.Common.{◌≡◌, ℕ, zero, suc, ◌-◌, ◌*◌, ◌<◌, ◌≤◌, sym, ap, ◌∙◌, arith}
use Rattle.std.proofs.lemmas.Bool.Decides.{nat_tests}
use Rattle.world_units.specs.Turning.{gap_of, turn_of, turned}

-- A turn leads to a facing of the circle.
turn-fits : (f d by : ℕ) → f < 1024 → d < 1024 → turn_of f d by < 1024
turn-fits f d by facing aim = grind (arith, nat_tests)

-- A turn takes its length off the distance.
turn-gap : (f d by : ℕ) → f < 1024 → d < 1024 → gap_of (turn_of f d by) d ≡ gap_of f d - by
turn-gap f d by facing aim = grind (arith, nat_tests)

-- Turns take their lengths together off the distance, and stay on the circle.
turned-gap : (f d by n : ℕ) → f < 1024 → d < 1024 → gap_of (turned f d by n) d ≡ gap_of f d - n * by
turned-gap f d by zero facing aim = grind arith
turned-gap f d by (suc n) facing aim =
    turned-gap (turn_of f d by) d by n (turn-fits f d by facing aim) aim
    ∙ ap (λ gap. gap - n * by) (turn-gap f d by facing aim)
    ∙ grind arith

turned-fits : (f d by n : ℕ) → f < 1024 → d < 1024 → turned f d by n < 1024
turned-fits f d by zero facing aim = facing
turned-fits f d by (suc n) facing aim = turned-fits (turn_of f d by) d by n (turn-fits f d by facing aim) aim

-- Facings without a distance are the same.
gap-zero : (f d : ℕ) → f < 1024 → d < 1024 → gap_of f d ≡ 0 → f ≡ d
gap-zero f d facing aim none = grind arith

gap-same : (f d : ℕ) → f < 1024 → f ≡ d → gap_of f d ≡ 0
gap-same f d facing same = grind arith

-- The aim is reached exactly where the turns are together as long as the distance.
pub turned-arrives :
    (f d by n : ℕ) → f < 1024 → d < 1024 →
    (turned f d by n ≡ d → gap_of f d ≤ n * by) × (gap_of f d ≤ n * by → turned f d by n ≡ d)
turned-arrives f d by n facing aim = (
  (λ (there : turned f d by n ≡ d).
      let none : gap_of (turned f d by n) d ≡ 0 = gap-same (turned f d by n) d (turned-fits f d by n facing aim) there in
      let left : gap_of f d - n * by ≡ 0 = sym (turned-gap f d by n facing aim) ∙ none in
      omega arith),
  (λ (enough : gap_of f d ≤ n * by).
      let none : gap_of f d - n * by ≡ 0 = omega arith in
      gap-zero (turned f d by n) d (turned-fits f d by n facing aim) aim (turned-gap f d by n facing aim ∙ none)),
)
