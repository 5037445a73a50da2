-- Lists of spots of which some are changed.
use Rattle.std.proofs.Common.{◌≡◌, ℕ, ◌<◌, Bool, true, false, ◌||◌, List, length, set, refl, sym, ap, subst, ◌∙◌, inl, inr, arith}
use Rattle.std.proofs.lemmas.Bool.{cases_eq, true≢false}
use Rattle.std.proofs.lemmas.List.{length-set, get_or-set_same, get_or-set_other}
use Rattle.shroud.specs.declared.spot.Spot.{Spot}
use Rattle.shroud.specs.Spots.{changed, dark, spot_at, AreChanged}

-- None is.
pub none_changed :
    (by : ℕ) (at : ℕ → Bool) (s : List Spot) →
    ((place : ℕ) → place < length s → at place ≡ false) → AreChanged by at s s
none_changed by at s none =
    record {
      size = refl;
      each = λ place within. ap (λ (b : Bool). changed b by (spot_at s place)) (sym (none place within));
    }

-- The same places, said otherwise.
pub changed_as :
    (by : ℕ) (f g : ℕ → Bool) (old new : List Spot) → AreChanged by f old new →
    ((place : ℕ) → place < length old → f place ≡ g place) → AreChanged by g old new
changed_as by f g old new is same =
    record {
      size = is.size;
      each =
          λ place within.
          is.each place within
          ∙ ap (λ (b : Bool). changed b by (spot_at old place)) (same place within);
    }

-- What stands at the place that is changed last.
at_it :
    (by at : ℕ) (b : Bool) (f g : ℕ → Bool) (old mid new : List Spot) → AreChanged by f old mid →
    at < length mid → f at ≡ false → g at ≡ b →
    new ≡ set mid at (changed b by (spot_at mid at)) →
    spot_at new at ≡ changed (g at) by (spot_at old at)
at_it by at b f g old mid new is within out is_in new_is =
    let inside : at < length old = omega (arith, within, is.size) in
    let before : spot_at mid at ≡ spot_at old at =
    is.each at inside ∙ ap (λ (t : Bool). changed t by (spot_at old at)) out in
    ap (λ (s : List Spot). spot_at s at) new_is
    ∙ get_or-set_same mid at (changed b by (spot_at mid at)) dark within
    ∙ ap (changed b by) before
    ∙ ap (λ (t : Bool). changed t by (spot_at old at)) (sym is_in)

elsewhere :
    (by at : ℕ) (b : Bool) (f g : ℕ → Bool) (old mid new : List Spot) (place : ℕ) →
    AreChanged by f old mid → place < length old → (place ≡ at → ⊥) → g place ≡ f place →
    new ≡ set mid at (changed b by (spot_at mid at)) →
    spot_at new place ≡ changed (g place) by (spot_at old place)
elsewhere by at b f g old mid new place is within other same new_is =
    ap (λ (s : List Spot). spot_at s place) new_is
    ∙ get_or-set_other mid at place (changed b by (spot_at mid at)) dark other
    ∙ is.each place within
    ∙ ap (λ (t : Bool). changed t by (spot_at old place)) (sym same)

-- One more place is changed, or looked at.
pub one_changed :
    (by at : ℕ) (b : Bool) (f g : ℕ → Bool) (old mid new : List Spot) → AreChanged by f old mid →
    at < length mid → f at ≡ false → g at ≡ b →
    ((place : ℕ) → (place ≡ at → ⊥) → g place ≡ f place) →
    new ≡ set mid at (changed b by (spot_at mid at)) → AreChanged by g old new
one_changed by at b f g old mid new is within out is_in others new_is =
    let here = at_it by at b f g old mid new is within out is_in new_is in
    record {
      size =
          ap (λ (s : List Spot). length s) new_is
          ∙ length-set mid at (changed b by (spot_at mid at))
          ∙ is.size;
      each =
          λ place inside.
          elim (cases_eq place at) [
            | inl same ↦
                subst (λ (k : ℕ). spot_at new k ≡ changed (g k) by (spot_at old k)) (sym same) here
            | inr other ↦
                elsewhere by at b f g old mid new place is inside other (others place other) new_is
          ];
    }

-- A spot is changed by one of two.
twice :
    (by : ℕ) (f g : Bool) (s : Spot) → (f ≡ true → g ≡ false) →
    changed g by (changed f by s) ≡ changed (f || g) by s
twice by true true s apart = absurd (true≢false (apart refl))
twice by true false s apart = refl
twice by false g s apart = refl

-- Others are changed after these.
pub both_changed :
    (by : ℕ) (f g h : ℕ → Bool) (old mid new : List Spot) → AreChanged by f old mid →
    AreChanged by g mid new → ((place : ℕ) → place < length old → f place ≡ true → g place ≡ false) →
    ((place : ℕ) → place < length old → h place ≡ f place || g place) → AreChanged by h old new
both_changed by f g h old mid new first second apart joined =
    record {
      size = second.size ∙ first.size;
      each =
          λ place within.
          let inside : place < length mid = omega (arith, within, first.size) in
          second.each place inside
          ∙ ap (changed (g place) by) (first.each place within)
          ∙ twice by (f place) (g place) (spot_at old place) (apart place within)
          ∙ ap (λ (t : Bool). changed t by (spot_at old place)) (sym (joined place within));
    }
