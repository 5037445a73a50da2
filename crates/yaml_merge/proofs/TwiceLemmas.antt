-- Merging a list in which each key stands once twice in a row changes nothing the second time.
use Rattle.std.proofs.Common.{◌≡◌, Bool, true, false, cond, ℕ, List, [], ◌∷◌, refl, sym, ap, ◌∙◌}
use Rattle.std.proofs.Common.{subst, inl, inr}
use Rattle.std.proofs.lemmas.Bool.{cases_Bool, cond-true, cond-false}
use Rattle.std.proofs.lemmas.Slice.Eq.{bytes_eq-Decides}
use Rattle.std.specs.Str.{bytes_eq}
use Rattle.yaml_lines.specs.declared.place.Place.{Place}
use Rattle.yaml_lines.specs.Trees.{Trees, none, more}
use Rattle.yaml_merge.specs.Merging.{Lacks, newer_value, joined, merged_into}
use Rattle.yaml_merge.specs.Settled.{IsSettled}
use Rattle.yaml_merge.proofs.KeySteps.{bytes_flip}

same_key : (key : List ℕ) → bytes_eq key key ≡ true
same_key key = (bytes_eq-Decides key key).1 refl

newer_same : (old value : List ℕ) → newer_value (newer_value old value) value ≡ newer_value old value
newer_same old [] = refl
newer_same old (byte ∷ rest) = refl

newer_itself : (value : List ℕ) → newer_value value value ≡ value
newer_itself [] = refl
newer_itself (byte ∷ rest) = refl

-- The list has a node of this key that stays as it is when such a node joins it.
record Stays (value : List ℕ) (place : Place) (children : Trees) (old : List ℕ) (at : Place) (below : Trees) : Type 0 where
  value_stays : newer_value old value ≡ old
  place_stays : at ≡ place
  below_stays : merged_into children below ≡ below

abbrev Holds : (key value : List ℕ) → Place → Trees → Trees → Type 0
Holds key value place children none = ⊥
Holds key value place children (more first old at below rest) =
    cond (bytes_eq first key) (Stays value place children old at below) (Holds key value place children rest)

here : (P Q : Type 0) (test : Bool) → test ≡ true → P → cond test P Q
here P Q test e p = subst (λ (b : Bool). cond b P Q) (sym e) p

there : (P Q : Type 0) (test : Bool) → test ≡ false → Q → cond test P Q
there P Q test e q = subst (λ (b : Bool). cond b P Q) (sym e) q

was_here : (P Q : Type 0) (test : Bool) → test ≡ true → cond test P Q → P
was_here P Q test e h = subst (λ (b : Bool). cond b P Q) e h

was_there : (P Q : Type 0) (test : Bool) → test ≡ false → cond test P Q → Q
was_there P Q test e h = subst (λ (b : Bool). cond b P Q) e h

joined_same : (key value : List ℕ) (place : Place) (children list : Trees) → Holds key value place children list →
    joined key value place (merged_into children) list ≡ list
joined_same key value place children none h = absurd h
joined_same key value place children (more first old at below rest) h = elim (cases_Bool (bytes_eq first key)) [
  | inl y ↦
      let stays = was_here (Stays value place children old at below) (Holds key value place children rest) (bytes_eq first key) y h in
      cond-true _ _ _ y
      ∙ ap (λ v. more first v place (merged_into children below) rest) stays.value_stays
      ∙ ap (λ p. more first old p (merged_into children below) rest) (sym stays.place_stays)
      ∙ ap (λ b. more first old at b rest) stays.below_stays
  | inr n ↦
      cond-false _ _ _ n
      ∙ ap (more first old at below)
      (joined_same key value place children rest (was_there (Stays value place children old at below) (Holds key value place children rest) (bytes_eq first key) n h))
]

joined_holds : (key value : List ℕ) (place : Place) (children list : Trees) →
    ((old : Trees) → merged_into children (merged_into children old) ≡ merged_into children old) →
    Holds key value place children (joined key value place (merged_into children) list)
joined_holds key value place children none twice =
    here (Stays value place children value place (merged_into children none)) ⊥ (bytes_eq key key) (same_key key)
    (record { value_stays = newer_itself value; place_stays = refl; below_stays = twice none })
joined_holds key value place children (more first old at below rest) twice = elim (cases_Bool (bytes_eq first key)) [
  | inl y ↦
      subst (Holds key value place children) (sym (cond-true _ _ _ y))
      (here (Stays value place children (newer_value old value) place (merged_into children below)) (Holds key value place children rest) (bytes_eq first key) y
      (record { value_stays = newer_same old value; place_stays = refl; below_stays = twice below }))
  | inr n ↦
      subst (Holds key value place children) (sym (cond-false _ _ _ n))
      (there (Stays value place children old at below) (Holds key value place children (joined key value place (merged_into children) rest)) (bytes_eq first key) n
      (joined_holds key value place children rest twice))
]

joined_other : (key value : List ℕ) (place : Place) (children : Trees) (other new : List ℕ) (where_read : Place) (below_other : Trees → Trees) (list : Trees) →
    bytes_eq other key ≡ false → Holds key value place children list → Holds key value place children (joined other new where_read below_other list)
joined_other key value place children other new where_read below_other none apart h = absurd h
joined_other key value place children other new where_read below_other (more first old at below rest) apart h =
    let P = Stays value place children old at below in
    let Q = Holds key value place children rest in
    let deeper = more first old at below (joined other new where_read below_other rest) in
    elim (cases_Bool (bytes_eq first key)) [
      | inl y ↦
          let is_other : bytes_eq first other ≡ false =
          ap (λ k. bytes_eq k other) ((bytes_eq-Decides first key).0 y) ∙ bytes_flip key other ∙ apart in
          subst (Holds key value place children) (sym (cond-false _ _ _ is_other))
          (here P (Holds key value place children (joined other new where_read below_other rest)) (bytes_eq first key) y (was_here P Q (bytes_eq first key) y h))
      | inr n ↦
          let left = was_there P Q (bytes_eq first key) n h in
          elim (cases_Bool (bytes_eq first other)) [
            | inl z ↦
                subst (Holds key value place children) (sym (cond-true _ _ _ z))
                (there (Stays value place children (newer_value old new) where_read (below_other below)) Q (bytes_eq first key) n left)
            | inr z ↦
                subst (Holds key value place children) (sym (cond-false _ _ _ z))
                (there P (Holds key value place children (joined other new where_read below_other rest)) (bytes_eq first key) n
                (joined_other key value place children other new where_read below_other rest apart left))
          ]
    ]

merged_holds : (key value : List ℕ) (place : Place) (children new list : Trees) → Lacks key new → Holds key value place children list →
    Holds key value place children (merged_into new list)
merged_holds key value place children none list l h = h
merged_holds key value place children (more other new at below rest) list l h =
    merged_holds key value place children rest (joined other new at (merged_into below) list) l.1
    (joined_other key value place children other new at (merged_into below) list l.0 h)

-- Merging a settled list twice in a row changes nothing the second time.
pub merged_twice : (new old : Trees) → IsSettled new → merged_into new (merged_into new old) ≡ merged_into new old
merged_twice none old s = refl
merged_twice (more key value place children rest) old s =
    let first = joined key value place (merged_into children) old in
    let whole = merged_into rest first in
    ap (merged_into rest)
    (joined_same key value place children whole
    (merged_holds key value place children rest first s.0 (joined_holds key value place children old (λ o. merged_twice children o s.3))))
    ∙ merged_twice rest first s.4
