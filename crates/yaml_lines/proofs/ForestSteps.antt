-- The forest of the nodes of a forest is that forest.
use Rattle.std.proofs.Common.{◌≡◌, ℕ, suc, ◌+◌, false, List, [], ◌++◌, Ok, refl, sym, ap, subst}
use Rattle.std.proofs.Common.{◌∙◌, arith, append_assoc, append-nil}
use Rattle.std.proofs.lemmas.Bool.{cond-false}
use Rattle.yaml_lines.specs.declared.place.Place.{Place}
use Rattle.base.specs.Lines.{lines_of}
use Rattle.yaml_lines.specs.Kept.{Kept, kept_from, kept_lines, fault_from, first_line_fault}
use Rattle.yaml_lines.specs.Trees.{Trees, none, more, flat}
use Rattle.yaml_lines.specs.Built.{is_empty, added_last, below_last, at_level, joined_by, forest_of}
use Rattle.yaml_lines.specs.Built.{parsed_by, parsed}

-- One list after another.
abbrev appended : Trees → Trees → Trees
appended none last = last
appended (more key value place children rest) last = more key value place children (appended rest last)

appended-none : (trees : Trees) → appended trees none ≡ trees
appended-none none = refl
appended-none (more key value place children rest) = ap (more key value place children) (appended-none rest)

appended-appended : (first second third : Trees) → appended (appended first second) third ≡ appended first (appended second third)
appended-appended none second third = refl
appended-appended (more key value place children rest) second third =
    ap (more key value place children) (appended-appended rest second third)

added_last-appended : (line : Kept) (trees : Trees) →
    added_last line trees ≡ appended trees (more line.words.key line.words.value line.place none none)
added_last-appended line none = refl
added_last-appended line (more key value place children rest) = ap (more key value place children) (added_last-appended line rest)

not_empty : (trees : Trees) (key value : List ℕ) (place : Place) (children : Trees) →
    is_empty (appended trees (more key value place children none)) ≡ false
not_empty none key value place children = refl
not_empty (more k v p c r) key value place children = refl

below_last-appended : (step : Trees → Trees) (trees : Trees) (key value : List ℕ) (place : Place) (children : Trees) →
    below_last step (appended trees (more key value place children none)) ≡ appended trees (more key value place (step children) none)
below_last-appended step none key value place children = refl
below_last-appended step (more k v p c r) key value place children =
    cond-false _ _ _ (not_empty r key value place children)
    ∙ ap (more k v p c) (below_last-appended step r key value place children)

-- `whole` puts a list where the next nodes at a level belong.
record IsPlaceAt (level : ℕ) (whole : Trees → Trees) : Type 0 where
  changed : (step : Trees → Trees) (list : Trees) → at_level level step (whole list) ≡ whole (step list)

-- The place of the children of a node after that list.
below : (level : ℕ) (whole : Trees → Trees) (list : Trees) (key value : List ℕ) (place : Place) → IsPlaceAt level whole →
    IsPlaceAt (level + 1) (λ children. whole (appended list (more key value place children none)))
below level whole list key value place h =
    let next : suc level ≡ level + 1 = omega arith in
    subst (λ l. IsPlaceAt l (λ children. whole (appended list (more key value place children none)))) next
    (record {
      changed = λ step children.
          h.changed (below_last step) (appended list (more key value place children none))
          ∙ ap whole (below_last-appended step list key value place children);
    })

joined_by-flat : (trees : Trees) (level : ℕ) (whole : Trees → Trees) (list : Trees) (tail : List Kept) → IsPlaceAt level whole →
    joined_by (whole list) (flat level trees ++ tail) ≡ joined_by (whole (appended list trees)) tail
joined_by-flat none level whole list tail h = ap (λ l. joined_by (whole l) tail) (sym (appended-none list))
joined_by-flat (more key value place children rest) level whole list tail h =
    let line : Kept = record { words = record { level = level; key = key; value = value }; place = place } in
    let deeper = flat (level + 1) children in
    let node = more key value place children none in
    ap (λ t. joined_by t ((deeper ++ flat level rest) ++ tail)) (h.changed (added_last line) list ∙ ap whole (added_last-appended line list))
    ∙ ap (joined_by (whole (appended list (more key value place none none)))) (append_assoc deeper (flat level rest) tail)
    ∙ joined_by-flat children (level + 1) (λ c. whole (appended list (more key value place c none))) none (flat level rest ++ tail) (below level whole list key value place h)
    ∙ joined_by-flat rest level whole (appended list node) tail h
    ∙ ap (λ t. joined_by (whole t) tail) (appended-appended list node rest)

pub forest_of-flat : (trees : Trees) → forest_of (flat 0 trees) ≡ trees
forest_of-flat trees =
    ap forest_of (sym (append-nil (flat 0 trees)))
    ∙ joined_by-flat trees 0 (λ t. t) none [] (record { changed = λ step list. refl })

-- A file that was read to its end without a fault.
pub parsed-end : (file line allowed : ℕ) (bytes rest : List ℕ) (grown : List Kept) (trees : Trees) →
    rest ≡ [] → flat 0 trees ≡ grown →
    grown ++ kept_from file line (lines_of rest) ≡ kept_lines file bytes →
    fault_from file line allowed (lines_of rest) ≡ first_line_fault file bytes →
    parsed file bytes ≡ Ok trees
unfolding parsed
parsed-end file line allowed bytes rest grown trees e n kept fault =
    ap (λ f. parsed_by f (kept_lines file bytes)) (sym fault ∙ ap (λ l. fault_from file line allowed (lines_of l)) e)
    ∙ ap (λ l. Ok (forest_of l)) (sym kept ∙ ap (λ l. grown ++ kept_from file line (lines_of l)) e ∙ append-nil grown ∙ sym n)
    ∙ ap (λ t. Ok t) (forest_of-flat trees)
