-- Buckets that are filled from the labels, cell by cell.
use Rattle.std.proofs.Common.{◌≡◌, ℕ, ◌+◌, ◌*◌, ◌%◌, ◌<◌, inl, inr, Bool, true, false, cond, length, refl, ap, sym, ◌∙◌, arith, subst}
use Rattle.std.specs.Prelude.{◌≤◌, ◌⊎◌}
use Rattle.std.proofs.lemmas.Bool.{cases_eq}
use Rattle.world_units.specs.declared.cell.CPos.{CPos}
use Rattle.game_model.specs.Grid.{Grid, IsOn, is_on}
use Rattle.grid_routes.specs.declared.field.TheConstants.{NONE}
use Rattle.grid_routes.specs.Values.{value_in}
use Rattle.grid_routes.specs.Labels.{Distances, IsFull, label_of}
use Rattle.grid_routes.specs.Held.{Shelves, IsHeld, IsWhole, len_of, pushed}
use Rattle.grid_routes.specs.Steps.{AreQueued, IsFilled}
use Rattle.grid_routes.proofs.Cells.{placed, is_on-on}
use Rattle.grid_routes.proofs.Lowering.{one-or-not}
use Rattle.grid_routes.proofs.Shelves.{pushed-kept, pushed-grows, pushed-fits}

inside : (b : Bool) (x d : ℕ) → cond b x d < d → b ≡ true
inside true x d less = refl
inside false x d less = absurd (omega arith)

-- A cell with a label is on the map.
pub labelled-on : (g : Grid ℕ) (p : CPos) → label_of g p < NONE → IsOn g.width g.height p
unfolding value_in
labelled-on g p less =
    is_on-on g.width g.height p (inside (is_on g.width g.height p) _ NONE less)

held-stays : (s : Shelves) (b : ℕ) (p : CPos) → IsWhole s → b < 71 → (j : ℕ) (c : CPos) → IsHeld s j c → IsHeld (pushed s b p) j c
held-stays s b p whole low j c held =
    record { place = held.place; at = pushed-kept s b p whole low j held.place c held.at }

pub fill-push :
    (field : Distances) (s : Shelves) (p : CPos) (label : ℕ) → IsFull field.labels → IsWhole s →
    s.room ≡ length field.labels.cells → IsOn field.labels.width field.labels.height p →
    label ≡ label_of field.labels p → IsFilled field s p.y p.x →
    IsFilled field (pushed s (label % 71) p) p.y (p.x + 1)
fill-push field s p label full whole room on is filled =
    let low : label % 71 < 71 = omega arith in
    let within = placed field.labels.width field.labels.height p (length field.labels.cells) full.size on in
    let few : len_of s (label % 71) ≤ p.y * field.labels.width + p.x = filled.few (label % 71) in
    let fits = pushed-fits s (label % 71) p whole low (omega arith) filled.whole in
    record {
      whole = fits.0;
      few = λ b. omega (arith, pushed-grows s (label % 71) p whole low b, filled.few b);
      above = λ c below from to. held-stays s (label % 71) p whole low _ c (filled.above c below from to);
      before = λ c row below from to.
          elim (one-or-not c p) [
            | inl same ↦
                subst (λ (x : CPos). IsHeld (pushed s (label % 71) p) (label_of field.labels x % 71) x) (sym same)
                (subst (λ (n : ℕ). IsHeld (pushed s (label % 71) p) (n % 71) p) is fits.1)
            | inr other ↦
                elim (cases_eq c.x p.x) [
                  | inl column ↦
                      let made : ℕ → ℕ → CPos = λ x y. record { x = x; y = y } in
                      absurd (other (ap (λ n. made n c.y) column ∙ ap (λ n. made p.x n) row))
                  | inr less ↦ held-stays s (label % 71) p whole low _ c (filled.before c row (omega arith) from to)
                ]
          ];
    }

-- A cell that belongs into no bucket.
pub fill-past :
    (field : Distances) (s : Shelves) (p : CPos) (level label : ℕ) → level ≡ field.level → label ≡ label_of field.labels p →
    ((level ≤ label) × (NONE ≤ label)) ⊎ (label < level) → IsFilled field s p.y p.x → IsFilled field s p.y (p.x + 1)
fill-past field s p level label at is out filled = record {
  whole = filled.whole;
  few = λ b. omega (arith, filled.few b);
  above = filled.above;
  before = λ c row below from to.
      elim (one-or-not c p) [
        | inl same ↦
            let above : field.level ≤ label_of field.labels p = subst (λ (x : CPos). field.level ≤ label_of field.labels x) same from in
            let below : label_of field.labels p < NONE = subst (λ (x : CPos). label_of field.labels x < NONE) same to in
            elim out [
              | inl high ↦ absurd (omega (arith, is, below, high.1))
              | inr low ↦ absurd (omega (arith, at, is, above, low))
            ]
        | inr other ↦
            elim (cases_eq c.x p.x) [
              | inl column ↦
                  let made : ℕ → ℕ → CPos = λ x y. record { x = x; y = y } in
                  absurd (other (ap (λ n. made n c.y) column ∙ ap (λ n. made p.x n) row))
              | inr less ↦ filled.before c row (omega arith) from to
            ]
      ];
}

pub fill-row :
    (field : Distances) (s : Shelves) (y x : ℕ) → field.labels.width ≤ x → x ≤ field.labels.width →
    IsFilled field s y x → IsFilled field s (y + 1) 0
fill-row field s y x end most filled = record {
  whole = filled.whole;
  few = λ b.
      let few : len_of s b ≤ y * field.labels.width + x = filled.few b in
      let sum : (y + 1) * field.labels.width ≡ y * field.labels.width + field.labels.width = omega arith in
      omega arith;
  above = λ c below from to.
      let on : IsOn field.labels.width field.labels.height c = labelled-on field.labels c to in
      let column : c.x < field.labels.width = on.column in
      elim (cases_eq c.y y) [
        | inl same ↦ filled.before c same (omega arith) from to
        | inr less ↦ filled.above c (omega arith) from to
      ];
  before = λ c row below from to. absurd (omega arith);
}

pub fill-all :
    (field : Distances) (s : Shelves) (y : ℕ) → field.labels.height ≤ y → IsFilled field s y 0 → AreQueued field s
fill-all field s y end filled = record {
  each = λ p from to.
      let on : IsOn field.labels.width field.labels.height p = labelled-on field.labels p to in
      let row : p.y < field.labels.height = on.row in
      filled.above p (omega arith) from to;
}
