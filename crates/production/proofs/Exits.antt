-- The least direction that passes a test.
use Rattle.std.proofs.Common.{◌≡◌, ℕ, zero, suc, ◌+◌, ◌<◌, ◌≤◌, Bool, true, false, Some, None, inl, inr, refl, sym, subst, ap, arith}
use Rattle.std.specs.List.{find, range_with_len}
use Rattle.std.proofs.lemmas.Bool.Decides.{eqb_tells}
use Rattle.game_model.specs.BestDirection.{directions}

first_from : (test : ℕ → Bool) (n start d : ℕ) → start ≤ d → d < start + n → test d ≡ true → ((k : ℕ) → start ≤ k → k < d → test k ≡ false) → find test (range_with_len start n) ≡ Some d
first_from test zero start d least within met before = absurd (omega arith)
first_from test (suc n) start d least within met before = elim (eqb_tells start d) [
  | inl hit ↦ (let here : test start ≡ true = subst (λ k. test k ≡ true) (sym hit.1) met in rw here (ap Some hit.1))
  | inr miss ↦ (let here : test start ≡ false = before start (omega arith) (omega (arith, miss.1)) in rw here (first_from test n (start + 1) d (omega (arith, miss.1)) (omega arith) met (λ k low high. before k (omega arith) high)))
]

none_from : (test : ℕ → Bool) (n start : ℕ) → ((k : ℕ) → start ≤ k → k < start + n → test k ≡ false) → find test (range_with_len start n) ≡ None
none_from test zero start fails = refl
none_from test (suc n) start fails =
    let here : test start ≡ false = fails start (omega arith) (omega arith) in
    rw here (none_from test n (start + 1) (λ k low high. fails k (omega arith) (omega arith)))

-- a direction that passes, and no lesser one does
pub found_direction : (test : ℕ → Bool) (d : ℕ) → d < 8 → test d ≡ true → ((k : ℕ) → k < d → test k ≡ false) → find test directions ≡ Some d
found_direction test d within met before = first_from test 8 0 d (omega arith) (omega arith) met (λ k low high. before k high)

-- no direction passes
pub no_direction : (test : ℕ → Bool) → ((k : ℕ) → k < 8 → test k ≡ false) → find test directions ≡ None
no_direction test fails = none_from test 8 0 (λ k low high. fails k (omega arith))
