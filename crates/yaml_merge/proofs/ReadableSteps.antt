-- Every key and value of a resolved forest is that of a node of some file, so lines can give its
-- nodes where they can give those of all files.
use Rattle.std.proofs.Common.{◌≡◌, ℕ, zero, suc, ◌+◌, ◌-◌, Bool, true, false, cond, ltb, eqb, List}
use Rattle.std.proofs.Common.{[], ◌∷◌, ◌++◌, map, drop, Option, Some, None, Result, Ok, Err, subst}
use Rattle.std.specs.List.{All}
use Rattle.std.specs.Result.{IfOk}
use Rattle.std.specs.Str.{bytes_eq}
use Rattle.std.proofs.lemmas.List.Elements.{All-head, All-tail}
use Rattle.std.proofs.lemmas.Result.{IfOk-weaker}
use Rattle.base.specs.Steps.{◌>>=◌}
use Rattle.yaml_lines.specs.declared.place.Place.{Place}
use Rattle.yaml_lines.specs.declared.forest.Forest.{Forest}
use Rattle.yaml_lines.specs.declared.TheConstants.{MAX_LEVELS}
use Rattle.yaml_lines.specs.Kept.{Kept}
use Rattle.yaml_lines.specs.Trees.{Trees, none, more, trees_of, flat}
use Rattle.yaml_lines.specs.Readable.{IsReadable, AllReadable, IsReadableForest}
use Rattle.yaml_merge.specs.declared.fault.MergeFault.{MergeFault}
use Rattle.yaml_merge.specs.declared.fault.MergeFault.TheVariants.{Cycle, TooLarge, TooDeep}
use Rattle.yaml_merge.specs.declared.TheConstants.{MAX_PATH, MAX_LIST_NODES, MAX_FOREST_NODES}
use Rattle.yaml_merge.specs.Merging.{newer_value, joined, children_at, merged_into, merged_files}
use Rattle.yaml_merge.specs.Merging.{with_first, without, count, levels}
use Rattle.yaml_merge.specs.Resolving.{inherits, removes, parent_of, in_path, Outcome, within}
use Rattle.yaml_merge.specs.Resolving.{inherited, removed, inherit_step, node_step, resolved_list}
use Rattle.yaml_merge.specs.Resolving.{added, resolved_tops, removed_tops, resolved_files}

-- A readable node, wherever it stands.
abbrev ReadableNode : (key value : List ℕ) → Type 0
ReadableNode key value = IsReadable (record { level = 0; key = key; value = value })

moved : (here there : ℕ) (key value : List ℕ) → IsReadable (record { level = here; key = key; value = value }) →
    IsReadable (record { level = there; key = key; value = value })
moved here there key value h = record {
  key_in_line = h.key_in_line;
  key_no_colon = h.key_no_colon;
  key_start = h.key_start;
  key_end = h.key_end;
  value_in_line = h.value_in_line;
  value_start = h.value_start;
  value_end = h.value_end;
}

-- A key of one node with the value of it or of another.
newer : (first old key value : List ℕ) → ReadableNode first old → ReadableNode key value → ReadableNode first (newer_value old value)
newer first old key [] h n = h
newer first old key (byte ∷ rest) h n = record {
  key_in_line = h.key_in_line;
  key_no_colon = h.key_no_colon;
  key_start = h.key_start;
  key_end = h.key_end;
  value_in_line = n.value_in_line;
  value_start = n.value_start;
  value_end = n.value_end;
}

-- All nodes of a list are readable, at all depths.
abbrev Readable : Trees → Type 0
Readable none = Unit {0}
Readable (more key value place children rest) = ReadableNode key value × Readable children × Readable rest

append : (xs ys : List Kept) → AllReadable xs → AllReadable ys → AllReadable (xs ++ ys)
append [] ys f g = g
append (x ∷ xs) ys f g = (f.0, append xs ys f.1 g)

parts : (xs ys : List Kept) → AllReadable (xs ++ ys) → AllReadable xs × AllReadable ys
parts [] ys h = (tt, h)
parts (x ∷ xs) ys h = let p = parts xs ys h.1 in ((h.0, p.0), p.1)

flat_readable : (level : ℕ) (trees : Trees) → Readable trees → AllReadable (flat level trees)
flat_readable level none h = tt
flat_readable level (more key value place children rest) h =
    (moved 0 level key value h.0, append (flat (level + 1) children) (flat level rest) (flat_readable (level + 1) children h.1) (flat_readable level rest h.2))

trees_readable : (level : ℕ) (trees : Trees) → AllReadable (flat level trees) → Readable trees
trees_readable level none h = tt
trees_readable level (more key value place children rest) h =
    let p = parts (flat (level + 1) children) (flat level rest) h.1 in
    (moved level 0 key value h.0, trees_readable (level + 1) children p.0, trees_readable level rest p.1)

abbrev AllFiles : List Trees → Type 0
AllFiles [] = Unit {0}
AllFiles (file ∷ files) = Readable file × AllFiles files

abbrev IfLeft : Option Trees → Type 0
IfLeft None = Unit {0}
IfLeft (Some trees) = Readable trees

abbrev IfDone : Outcome → Type 0
IfDone (Ok trees) = Readable trees
IfDone (Err fault) = Unit {0}

either : (test : Bool) (x y : Trees) → Readable x → Readable y → Readable (cond test x y)
either true x y f g = f
either false x y f g = g

either_left : (test : Bool) (x y : Option Trees) → IfLeft x → IfLeft y → IfLeft (cond test x y)
either_left true x y f g = f
either_left false x y f g = g

either_done : (test : Bool) (x y : Outcome) → IfDone x → IfDone y → IfDone (cond test x y)
either_done true x y f g = f
either_done false x y f g = g

-- Merging.
joined_readable : (key value : List ℕ) (place : Place) (below : Trees → Trees) (list : Trees) → ReadableNode key value →
    ((trees : Trees) → Readable trees → Readable (below trees)) → Readable list → Readable (joined key value place below list)
joined_readable key value place below none n b h = (n, b none tt, tt)
joined_readable key value place below (more first old at children rest) n b h =
    either (bytes_eq first key) (more first (newer_value old value) place (below children) rest) (more first old at children (joined key value place below rest))
    (newer first old key value h.0 n, b children h.1, h.2) (h.0, h.1, joined_readable key value place below rest n b h.2)

children_at_readable : (key : List ℕ) (list : Trees) → Readable list → Readable (children_at key list)
children_at_readable key none h = tt
children_at_readable key (more first value place children rest) h =
    either (bytes_eq first key) children (children_at key rest) h.1 (children_at_readable key rest h.2)

merged_into_readable : (new old : Trees) → Readable new → Readable old → Readable (merged_into new old)
merged_into_readable none old n h = h
merged_into_readable (more key value place children rest) old n h =
    merged_into_readable rest (joined key value place (merged_into children) old) n.2
    (joined_readable key value place (merged_into children) old n.0 (λ trees t. merged_into_readable children trees n.1 t) h)

merged_files_readable : (files : List Trees) (list : Trees) → AllFiles files → Readable list → Readable (merged_files files list)
merged_files_readable [] list f h = h
merged_files_readable (file ∷ files) list f h = merged_files_readable files (merged_into file list) f.1 (merged_into_readable file list f.0 h)

with_first_readable : (key value : List ℕ) (place : Place) (children : Trees) (left : Option Trees) → ReadableNode key value → Readable children →
    IfLeft left → IfLeft (with_first key value place children left)
with_first_readable key value place children None n c h = tt
with_first_readable key value place children (Some rest) n c h = (n, c, h)

without_readable : (key : List ℕ) (list : Trees) → Readable list → IfLeft (without key list)
without_readable key none h = tt
without_readable key (more first value place children rest) h =
    either_left (bytes_eq first key) (Some rest) (with_first first value place children (without key rest))
    h.2 (with_first_readable first value place children (without key rest) h.0 h.1 (without_readable key rest h.2))

-- Resolving.
parent_of_readable : (name : List ℕ) (tops : Trees) → Readable tops → IfLeft (parent_of name tops)
parent_of_readable name none h = tt
parent_of_readable name (more key value place children rest) h =
    either_left (removes name) None (cond (bytes_eq key name) (Some children) (parent_of name rest)) tt
    (either_left (bytes_eq key name) (Some children) (parent_of name rest) h.1 (parent_of_readable name rest h.2))

after_readable : (outcome : Outcome) (next : Trees → Outcome) → IfDone outcome → ((trees : Trees) → Readable trees → IfDone (next trees)) →
    IfDone (outcome >>= next)
after_readable (Ok trees) next h n = n trees h
after_readable (Err fault) next h n = tt

within_readable : (limit : ℕ) (place : Place) (list : Trees) → Readable list → IfDone (within limit place list)
unfolding within
within_readable limit place list h = either_done (ltb limit (count list)) (Err (TooLarge place)) (Ok list) tt h

inherited_readable : (room : ℕ) (place : Place) (list parent : Trees) → Readable list → Readable parent → IfDone (inherited room place list parent)
unfolding inherited
inherited_readable room place list parent h p =
    either_done (ltb room (levels parent)) (Err (TooDeep place)) (Ok (merged_into parent list)) tt (merged_into_readable parent list p h)

removed_readable : (place : Place) (left : Option Trees) → IfLeft left → IfDone (removed place left)
removed_readable place None h = tt
removed_readable place (Some list) h = h

inherit_step_readable : (free room : ℕ) (place : Place) (name : List ℕ) (path : List (List ℕ)) (parents : Trees → Outcome) (list : Trees) (parent : Option Trees) →
    ((trees : Trees) → Readable trees → IfDone (parents trees)) → Readable list → IfLeft parent →
    IfDone (inherit_step free room place name path parents list parent)
inherit_step_readable free room place name path parents list None p h f = tt
inherit_step_readable free room place name path parents list (Some children) p h f =
    let taken = parents children >>= inherited room place list in
    either_done (in_path name path) (Err (Cycle place)) (cond (eqb free 0) (Err (TooDeep place)) taken) tt
    (either_done (eqb free 0) (Err (TooDeep place)) taken tt
    (after_readable (parents children) (inherited room place list) (p children f) (λ trees t. inherited_readable room place list trees h t)))

node_step_readable : (free room : ℕ) (tops : Trees) (path : List (List ℕ)) (key value : List ℕ) (place : Place) (parents below : Trees → Outcome) (list : Trees) →
    Readable tops → ReadableNode key value → ((trees : Trees) → Readable trees → IfDone (parents trees)) → ((trees : Trees) → Readable trees → IfDone (below trees)) →
    Readable list → IfDone (node_step free room tops path key value place parents below list)
unfolding node_step
node_step_readable free room tops path key value place parents below list t n p b h =
    let taken = inherit_step free room place value path parents list (parent_of value tops) in
    let less = removed place (without (drop 1 key) list) in
    let add : Trees → Outcome = λ children. Ok (joined key value place (λ _. children) list) in
    let more_node = below (children_at key list) >>= add in
    either_done (inherits key) taken (cond (removes key) less more_node)
    (inherit_step_readable free room place value path parents list (parent_of value tops) p h (parent_of_readable value tops t))
    (either_done (removes key) less more_node (removed_readable place (without (drop 1 key) list) (without_readable (drop 1 key) list h))
    (after_readable (below (children_at key list)) add (b (children_at key list) (children_at_readable key list h))
    (λ children c. joined_readable key value place (λ _. children) list n (λ _ _. c) h)))

resolved_list_readable : (free : ℕ) (list : Trees) (room : ℕ) (tops : Trees) (path : List (List ℕ)) (start : Trees) →
    Readable tops → Readable list → Readable start → IfDone (resolved_list free list room tops path start)
unfolding resolved_list
resolved_list_readable free none room tops path start t l h = h
resolved_list_readable zero (more key value place children rest) room tops path start t l h =
    after_readable _ _
    (after_readable _ _
    (node_step_readable zero room tops path key value place _ _ start t l.0 (λ parent p. tt) (λ old o. resolved_list_readable zero children (room - 1) tops path old t l.1 o) h)
    (λ list k. within_readable MAX_LIST_NODES place list k))
    (λ list k. resolved_list_readable zero rest room tops path list t l.2 k)
resolved_list_readable (suc free) (more key value place children rest) room tops path start t l h =
    after_readable _ _
    (after_readable _ _
    (node_step_readable (suc free) room tops path key value place _ _ start t l.0
    (λ parent p. resolved_list_readable free parent (MAX_LEVELS - 1) tops (path ++ value ∷ []) none t p tt)
    (λ old o. resolved_list_readable (suc free) children (room - 1) tops path old t l.1 o) h)
    (λ list k. within_readable MAX_LIST_NODES place list k))
    (λ list k. resolved_list_readable (suc free) rest room tops path list t l.2 k)

added_readable : (key value : List ℕ) (place : Place) (children list : Trees) → ReadableNode key value → Readable children → Readable list →
    Readable (added key value place children list)
added_readable key value place children none n c h = (n, c, tt)
added_readable key value place children (more first old at others rest) n c h = (h.0, h.1, added_readable key value place children rest n c h.2)

resolved_tops_readable : (left tops so_far : Trees) → Readable left → Readable tops → Readable so_far → IfDone (resolved_tops left tops so_far)
resolved_tops_readable none tops so_far l t h = h
resolved_tops_readable (more key value place children rest) tops so_far l t h =
    either_done (removes key) _ _ (resolved_tops_readable rest tops so_far l.2 t h)
    (after_readable _ _
    (after_readable _ _ (resolved_list_readable (MAX_PATH - 1) children (MAX_LEVELS - 1) tops (key ∷ []) none t l.1 tt)
    (λ below b. within_readable MAX_FOREST_NODES place (added key value place below so_far) (added_readable key value place below so_far l.0 b h)))
    (λ next n. resolved_tops_readable rest tops next l.2 t n))

removed_tops_readable : (left so_far : Trees) → Readable so_far → IfDone (removed_tops left so_far)
removed_tops_readable none so_far h = h
removed_tops_readable (more key value place children rest) so_far h =
    either_done (removes key) _ _
    (after_readable _ _ (removed_readable place (without (drop 1 key) so_far) (without_readable (drop 1 key) so_far h)) (λ next n. removed_tops_readable rest next n))
    (removed_tops_readable rest so_far h)

resolved_files_readable : (files : List Trees) → AllFiles files → IfDone (resolved_files files)
unfolding resolved_files
resolved_files_readable files f =
    let t = merged_files_readable files none f tt in
    after_readable _ _ (resolved_tops_readable (merged_files files none) (merged_files files none) none t t tt)
    (λ so_far d. removed_tops_readable (merged_files files none) so_far d)

all_files : (files : List Forest) → All IsReadableForest files → AllFiles (map trees_of files)
all_files [] h = tt
all_files (file ∷ files) h =
    (trees_readable 0 (trees_of file) (All-head IsReadableForest file files h), all_files files (All-tail IsReadableForest file files h))

-- The answer of resolving files that are readable.
pub resolve_readable : (files : List Forest) (answer : Result Forest MergeFault) →
    IfOk answer (λ forest. resolved_files (map trees_of files) ≡ Ok (trees_of forest)) →
    All IsReadableForest files → IfOk answer IsReadableForest
resolve_readable files answer e f =
    IfOk-weaker answer (λ forest. resolved_files (map trees_of files) ≡ Ok (trees_of forest)) IsReadableForest
    (λ forest h. flat_readable 0 (trees_of forest) (subst IfDone h (resolved_files_readable (map trees_of files) (all_files files f)))) e
