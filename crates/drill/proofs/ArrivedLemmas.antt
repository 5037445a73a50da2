-- What is kept after one entry more has arrived.
use Rattle.std.proofs.Common.{◌≡◌, ℕ, Bool, true, false, List, [], ◌∷◌, refl, sym, ap, ◌∙◌}
use Rattle.std.specs.Prelude.{Some, None, ◌==◌, if◌then◌else◌, cond}
use Rattle.std.specs.List.{find}
use Rattle.std.specs.Option.{option_map}
use Rattle.std.proofs.lemmas.Bool.{and_parts, eqb-true}
use Rattle.peer_core.specs.declared.arrived.Arrived.{Arrived as ArrivedEntry}
use Rattle.peer_core.specs.Arrived.{is_of, kept_at, stands_before, with_arrived}

kept_first :
    (c n : ℕ) (a : ArrivedEntry) (rest : List ArrivedEntry) (here : Bool) → is_of c n a ≡ here →
    kept_at (a ∷ rest) c n ≡ (if here then Some a.entry else kept_at rest c n)
kept_first c n a rest true is = ap (λ b. option_map (λ x. x.entry) (cond b (Some a) (find (is_of c n) rest))) is
kept_first c n a rest false is = ap (λ b. option_map (λ x. x.entry) (cond b (Some a) (find (is_of c n) rest))) is

-- Of another client or frame nothing changes.
pub kept_other :
    (c n : ℕ) (a : ArrivedEntry) (xs : List ArrivedEntry) → is_of c n a ≡ false →
    kept_at (with_arrived a xs) c n ≡ kept_at xs c n
kept_other c n a [] other = kept_first c n a [] false other
kept_other c n a (b ∷ xs) other = by_order (kept_other c n a xs other) (stands_before a b) where
  by_here :
      kept_at (with_arrived a xs) c n ≡ kept_at xs c n → (here : Bool) → is_of c n b ≡ here →
      kept_at (b ∷ with_arrived a xs) c n ≡ kept_at (b ∷ xs) c n
  by_here later true is = kept_first c n b (with_arrived a xs) true is ∙ sym (kept_first c n b xs true is)
  by_here later false is =
      kept_first c n b (with_arrived a xs) false is ∙ later ∙ sym (kept_first c n b xs false is)

  by_order :
      kept_at (with_arrived a xs) c n ≡ kept_at xs c n → (before : Bool) →
      kept_at (if before then a ∷ b ∷ xs else b ∷ with_arrived a xs) c n ≡ kept_at (b ∷ xs) c n
  by_order later true = kept_first c n a (b ∷ xs) false other
  by_order later false = by_here later (is_of c n b) refl

none_some : {X : Type 0} (x : X) → Some x ≡ None → ⊥
none_some x same = cc

-- Of its own client and frame it is kept, where nothing was.
pub kept_same :
    (c n : ℕ) (a : ArrivedEntry) (xs : List ArrivedEntry) → is_of c n a ≡ true → kept_at xs c n ≡ None →
    kept_at (with_arrived a xs) c n ≡ Some a.entry
kept_same c n a [] own none = kept_first c n a [] true own
kept_same c n a (b ∷ xs) own none = by_order (kept_same c n a xs own) (stands_before a b) where
  by_here :
      (kept_at xs c n ≡ None → kept_at (with_arrived a xs) c n ≡ Some a.entry) → (here : Bool) → is_of c n b ≡ here →
      kept_at (b ∷ with_arrived a xs) c n ≡ Some a.entry
  by_here later true is = absurd (none_some b.entry (sym (kept_first c n b xs true is) ∙ none))
  by_here later false is =
      kept_first c n b (with_arrived a xs) false is ∙ later (sym (kept_first c n b xs false is) ∙ none)

  by_order :
      (kept_at xs c n ≡ None → kept_at (with_arrived a xs) c n ≡ Some a.entry) → (before : Bool) →
      kept_at (if before then a ∷ b ∷ xs else b ∷ with_arrived a xs) c n ≡ Some a.entry
  by_order later true = kept_first c n a (b ∷ xs) true own
  by_order later false = by_here later (is_of c n b) refl

-- It is of this client and this frame.
pub own_place : (c n : ℕ) (a : ArrivedEntry) → is_of c n a ≡ true → (a.client ≡ c) × (a.frame ≡ n)
own_place c n a own =
    let parts = and_parts (a.client == c) (a.frame == n) own in
    (eqb-true a.client c parts.0, eqb-true a.frame n parts.1)
