-- The recurrences of the sequence, from its definition by a bounded depth.
use Rattle.std.proofs.Common.{◌≡◌, ℕ, zero, suc, ◌+◌, ◌-◌, ◌<◌, ◌≤◌, Bool, true, false, cond, ltb}
use Rattle.std.proofs.Common.{eqb, refl, ap, ◌∙◌, arith}
use Rattle.std.proofs.lemmas.Bool.Decides.{nat_tests}
use Rattle.twister.specs.Sequence.{seeding_step, twisted_of, next_x, x_bounded, x_of}

-- The next word looks at earlier places alone.
step-same :
    (a b : Bool) (seed i : ℕ) (x y : ℕ → ℕ) →
    (a ≡ false → b ≡ true → x (i - 1) ≡ y (i - 1)) →
    (a ≡ false → b ≡ false → x (i - 227) ≡ y (i - 227)) →
    (a ≡ false → b ≡ false → x (i - 624) ≡ y (i - 624)) →
    (a ≡ false → b ≡ false → x (i - 623) ≡ y (i - 623)) →
    cond a seed (cond b (seeding_step (x (i - 1)) i) (twisted_of (x (i - 227)) (x (i - 624)) (x (i - 623))))
    ≡ cond a seed (cond b (seeding_step (y (i - 1)) i) (twisted_of (y (i - 227)) (y (i - 624)) (y (i - 623))))
step-same true b seed i x y before far upper lower = refl
step-same false true seed i x y before far upper lower = ap (λ w. seeding_step w i) (before refl refl)
step-same false false seed i x y before far upper lower =
    let p = far refl refl in
    let q = upper refl refl in
    let r = lower refl refl in
    cc

next_x-same :
    (seed i : ℕ) (x y : ℕ → ℕ) → ((j : ℕ) → j < i → x j ≡ y j) → next_x seed x i ≡ next_x seed y i
next_x-same seed i x y earlier =
    step-same (eqb i 0) (ltb i 624) seed i x y
    (λ a b. earlier (i - 1) (grind (arith, nat_tests)))
    (λ a b. earlier (i - 227) (grind (arith, nat_tests)))
    (λ a b. earlier (i - 624) (grind (arith, nat_tests)))
    (λ a b. earlier (i - 623) (grind (arith, nat_tests)))

-- Any depth above the place gives the same word.
depth-same : (d e seed i : ℕ) → i < d → i < e → x_bounded d seed i ≡ x_bounded e seed i
depth-same zero e seed i p q = absurd (omega arith)
depth-same (suc d) zero seed i p q = absurd (omega arith)
depth-same (suc d) (suc e) seed i p q =
    next_x-same seed i (x_bounded d seed) (x_bounded e seed)
    (λ j earlier. depth-same d e seed j (omega arith) (omega arith))

x_bounded-is : (d seed i : ℕ) → i < d → x_bounded d seed i ≡ x_of seed i
unfolding x_of
x_bounded-is d seed i p = depth-same d (suc i) seed i p (omega arith)

-- A word is made of the words of the sequence before it.
x_of-next : (seed i : ℕ) → x_of seed i ≡ next_x seed (x_of seed) i
unfolding x_of
x_of-next seed i = next_x-same seed i (x_bounded i seed) (x_of seed) (λ j earlier. x_bounded-is i seed j earlier)

-- The sequence begins with the seed.
pub x_first : (seed : ℕ) → x_of seed 0 ≡ seed
x_first seed = x_of-next seed 0

is-seeding : (a b : Bool) (s x y : ℕ) → a ≡ false → b ≡ true → cond a s (cond b x y) ≡ x
is-seeding true b s x y p q = absurd (cc)
is-seeding false true s x y p q = refl
is-seeding false false s x y p q = absurd (cc)

is-twist : (a b : Bool) (s x y : ℕ) → a ≡ false → b ≡ false → cond a s (cond b x y) ≡ y
is-twist true b s x y p q = absurd (cc)
is-twist false true s x y p q = absurd (cc)
is-twist false false s x y p q = refl

-- The next 623 words are those of the seeding.
pub x_seeding : (seed i : ℕ) → 0 < i → i < 624 → x_of seed i ≡ seeding_step (x_of seed (i - 1)) i
x_seeding seed i some within =
    x_of-next seed i
    ∙ is-seeding (eqb i 0) (ltb i 624) seed _ _ (grind (arith, nat_tests)) (grind (arith, nat_tests))

twist-at :
    (seed i a b c : ℕ) → 624 ≤ i → i - 227 ≡ a → i - 624 ≡ b → i - 623 ≡ c →
    x_of seed i ≡ twisted_of (x_of seed a) (x_of seed b) (x_of seed c)
twist-at seed i a b c late p q r =
    x_of-next seed i
    ∙ is-twist (eqb i 0) (ltb i 624) seed (seeding_step (x_of seed (i - 1)) i)
    (twisted_of (x_of seed (i - 227)) (x_of seed (i - 624)) (x_of seed (i - 623)))
    (grind (arith, nat_tests)) (grind (arith, nat_tests))
    ∙ cc

-- Every later word is the twist of three words before it.
pub x_twist : (seed k : ℕ) → x_of seed (k + 624) ≡ twisted_of (x_of seed (k + 397)) (x_of seed k) (x_of seed (k + 1))
x_twist seed k = twist-at seed (k + 624) (k + 397) k (k + 1) (omega arith) (omega arith) (omega arith) (omega arith)

pub ruleset sequence_laws = (x_first, x_seeding, x_twist)
