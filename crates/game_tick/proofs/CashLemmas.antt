-- Proofs about lists of numbers of which one is lowered or lifted, and about cash.
use Rattle.std.specs.Prelude.{◌≡◌, ℕ, zero, suc, ◌+◌, ◌-◌, ◌≤◌, Bool, true, false, min, max, nat_le}
use Rattle.std.specs.Prelude.{nat_lt, if◌then◌else◌, List, [], ◌∷◌, length, refl, slice_index}
use Rattle.std.specs.Prelude.{slice_set, ◌≢◌, ◌&&◌}
use Rattle.std.proofs.Common.{◌∙◌, ap, arith, length-set}
use Rattle.std.proofs.lemmas.Bool.{and_parts, leb-true}
use Rattle.game_model.specs.declared.limits.TheConstants.{MAX_CASH}
use Rattle.game_model.specs.declared.world.World.{World}
use Rattle.game_tick.specs.Harvesting.{paid_to}
use Rattle.game_tick.specs.Keeps.{KeepsCash}
use Rattle.game_tick.specs.Orders.{can_receive, donation_fits, after_donation}

-- Numbers that are lowered, or lifted to no more than a limit.
pub lowered :
    (xs : List ℕ) (i less k : ℕ) → less ≤ slice_index xs i →
    slice_index (slice_set xs i less) k ≤ slice_index xs k
lowered [] i less k lower = omega arith
lowered (x ∷ xs) zero less zero lower = lower
lowered (x ∷ xs) zero less (suc k) lower = omega arith
lowered (x ∷ xs) (suc i) less zero lower = omega arith
lowered (x ∷ xs) (suc i) less (suc k) lower = lowered xs i less k lower

pub lifted :
    (xs : List ℕ) (i more limit k : ℕ) → more ≤ limit →
    slice_index (slice_set xs i more) k ≤ max (slice_index xs k) limit
lifted [] i more limit k within = omega arith
lifted (x ∷ xs) zero more limit zero within = omega arith
lifted (x ∷ xs) zero more limit (suc k) within = omega arith
lifted (x ∷ xs) (suc i) more limit zero within = omega arith
lifted (x ∷ xs) (suc i) more limit (suc k) within = lifted xs i more limit k within

-- The other numbers stay.
pub others_stay :
    (xs : List ℕ) (i value c : ℕ) → c ≢ i → slice_index (slice_set xs i value) c ≡ slice_index xs c
others_stay [] i value c other = refl
others_stay (x ∷ xs) zero value zero other = absurd (other refl)
others_stay (x ∷ xs) zero value (suc c) other = refl
others_stay (x ∷ xs) (suc i) value zero other = refl
others_stay (x ∷ xs) (suc i) value (suc c) other =
    others_stay xs i value c (λ same. other (ap suc same))

pub same_cash : (cash : List ℕ) → KeepsCash cash cash
same_cash cash = record { clients = refl; most = λ c. omega arith }

pub then_cash : (a b c : List ℕ) → KeepsCash a b → KeepsCash b c → KeepsCash a c
then_cash a b c first second =
    record {
      clients = second.clients ∙ first.clients;
      most = λ i. omega (arith, first.most i, second.most i);
    }

-- The cash after an amount has moved from one client to another.
abbrev moved : List ℕ → ℕ → ℕ → ℕ → List ℕ
moved cash client to amount =
    slice_set (slice_set cash client (slice_index cash client - amount)) to
    (slice_index cash to + amount)

moved_keeps :
    (cash : List ℕ) (client to amount : ℕ) → amount ≤ slice_index cash client →
    slice_index cash to + amount ≤ MAX_CASH →
    KeepsCash cash (moved cash client to amount)
moved_keeps cash client to amount enough limit =
    let paid : List ℕ = slice_set cash client (slice_index cash client - amount) in
    record {
      clients = simp length-set;
      most =
          λ c.
          omega (
            arith,
            lowered cash client (slice_index cash client - amount) c (omega arith),
            lifted paid to (slice_index cash to + amount) MAX_CASH c limit,
          );
    }

-- The cash after a donation that fits.
pub donated_keeps :
    (w : World) (client to amount : ℕ) → donation_fits w client to amount ≡ true →
    KeepsCash w.cash (after_donation w client to amount).cash
donated_keeps w client to amount fits =
    let enough : Bool = nat_le amount (slice_index w.cash client) in
    let room : Bool = nat_le (slice_index w.cash to + amount) MAX_CASH in
    let within = and_parts (can_receive w client to && enough) room fits in
    let affords = and_parts (can_receive w client to) enough within.0 in
    moved_keeps w.cash client to amount (leb-true amount (slice_index w.cash client) affords.1)
    (leb-true (slice_index w.cash to + amount) MAX_CASH within.1)

-- The price leaves a client no more than it had.
pub price_keeps :
    (cash : List ℕ) (client cost : ℕ) →
    KeepsCash cash (slice_set cash client (slice_index cash client - cost))
price_keeps cash client cost =
    record {
      clients = simp length-set;
      most =
          λ c. omega (arith, lowered cash client (slice_index cash client - cost) c (omega arith));
    }

paid_by :
    (client : Bool) (cash : List ℕ) (owner amount : ℕ) →
    KeepsCash cash (
    if client
    then slice_set cash owner (min (slice_index cash owner + amount) MAX_CASH)
    else cash)
paid_by true cash owner amount =
    record {
      clients = simp length-set;
      most =
          λ c.
          lifted cash owner (min (slice_index cash owner + amount) MAX_CASH) MAX_CASH c
          (omega arith);
    }
paid_by false cash owner amount = same_cash cash

-- A payment lifts nobody above the greatest cash.
pub paid_keeps : (cash : List ℕ) (owner amount : ℕ) → KeepsCash cash (paid_to cash owner amount)
paid_keeps cash owner amount = paid_by (nat_lt owner (length cash)) cash owner amount

pub paid_others :
    (client : Bool) (cash : List ℕ) (owner amount c : ℕ) → c ≢ owner →
    slice_index (
    if client
    then slice_set cash owner (min (slice_index cash owner + amount) MAX_CASH)
    else cash) c ≡ slice_index cash c
paid_others true cash owner amount c other =
    others_stay cash owner (min (slice_index cash owner + amount) MAX_CASH) c other
paid_others false cash owner amount c other = refl
