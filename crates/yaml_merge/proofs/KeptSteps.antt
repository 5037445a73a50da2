-- What is kept, where it serves, and where resolving stops.
use Rattle.std.proofs.Common.{◌≡◌, ◌≢◌, ℕ, zero, suc, ◌+◌, ◌-◌, ◌<◌, ◌≤◌, Bool, true, false, cond}
use Rattle.std.proofs.Common.{eqb, eqb-true, ◌||◌, List, [], ◌∷◌, ◌++◌, length, set, drop}
use Rattle.std.proofs.Common.{Option, Some, None, Result, Ok, Err, refl, sym, ap, ◌∙◌, subst, inl}
use Rattle.std.proofs.Common.{inr, arith}
use Rattle.std.proofs.lemmas.Bool.{cases_Bool, cases_eq, cond-true, cond-false}
use Rattle.std.proofs.lemmas.List.{length-set}
use Rattle.std.proofs.lemmas.Slice.Eq.{bytes_eq-Decides}
use Rattle.std.specs.Prelude.{is_some, unwrap_or, IfOk, IfErr}
use Rattle.std.specs.Str.{bytes_eq}
use Rattle.base.specs.Steps.{◌>>=◌}
use Rattle.yaml_lines.specs.declared.place.Place.{Place}
use Rattle.yaml_lines.specs.declared.TheConstants.{MAX_LEVELS}
use Rattle.yaml_lines.specs.Trees.{Trees, none, more, trees_of}
use Rattle.yaml_merge.specs.declared.fault.MergeFault.{MergeFault}
use Rattle.yaml_merge.specs.declared.resolved.Resolved.{Resolved}
use Rattle.yaml_merge.specs.declared.stop.Stop.{Stop}
use Rattle.yaml_merge.specs.declared.stop.Stop.TheVariants.{Fault, Parent}
use Rattle.yaml_merge.specs.declared.TheConstants.{MAX_PATH}
use Rattle.yaml_merge.specs.Kept.{key_from, slot, IsClear, Gives, resolved_at, AreKept, StayKept}
use Rattle.yaml_merge.specs.Kept.{Stops, IsNext, weight}
use Rattle.yaml_merge.specs.Places.{width, children_from, Stands}
use Rattle.yaml_merge.specs.Merging.{Lacks, without}
use Rattle.yaml_merge.specs.Resolving.{Outcome, in_path, inherits, removes, parent_of, inherited}
use Rattle.yaml_merge.specs.Resolving.{removed, inherit_step, join_step, node_step, taken_in}
use Rattle.yaml_merge.specs.Resolving.{parents, resolved_list}
use Rattle.yaml_merge.specs.Settled.{IsOnce}
use Rattle.yaml_merge.proofs.KeySteps.{bytes_flip}

-- Places and keys.
pub stands_key : (key : List ℕ) (at : ℕ) (list : Trees) → Stands key at list → key_from at list ≡ key
stands_key key at none h = absurd h
stands_key key zero (more first value place children rest) h = (bytes_eq-Decides first key).0 h
stands_key key (suc at) (more first value place children rest) h = stands_key key at rest h.1

lacks_key : (key : List ℕ) (at : ℕ) (list : Trees) → at < width list → Lacks key list → bytes_eq (key_from at list) key ≡ false
lacks_key key at none w h = absurd (omega arith)
lacks_key key zero (more first value place children rest) w h = h.0
lacks_key key (suc at) (more first value place children rest) w h = lacks_key key at rest (omega arith) h.1

pub keys_apart : (one other : ℕ) (list : Trees) → IsOnce list → one < width list → other < width list → one ≢ other →
    bytes_eq (key_from one list) (key_from other list) ≡ false
keys_apart one other none h w v n = absurd (omega arith)
keys_apart zero zero (more first value place children rest) h w v n = absurd (n refl)
keys_apart zero (suc other) (more first value place children rest) h w v n =
    bytes_flip first (key_from other rest) ∙ lacks_key first other rest (omega arith) h.0
keys_apart (suc one) zero (more first value place children rest) h w v n = lacks_key first one rest (omega arith) h.0
keys_apart (suc one) (suc other) (more first value place children rest) h w v n =
    keys_apart one other rest h.1 (omega arith) (omega arith) (λ e. n (ap suc e))

-- Slots.
pub slot_same : (kept : List (Option Resolved)) (at : ℕ) (x : Option Resolved) → at < length kept → slot (set kept at x) at ≡ x
slot_same [] at x h = absurd (omega arith)
slot_same (first ∷ rest) zero x h = refl
slot_same (first ∷ rest) (suc at) x h = slot_same rest at x (omega arith)

pub slot_other : (kept : List (Option Resolved)) (at other : ℕ) (x : Option Resolved) → other ≢ at → slot (set kept at x) other ≡ slot kept other
slot_other [] at other x n = refl
slot_other (first ∷ rest) zero zero x n = absurd (n refl)
slot_other (first ∷ rest) zero (suc other) x n = refl
slot_other (first ∷ rest) (suc at) zero x n = refl
slot_other (first ∷ rest) (suc at) (suc other) x n = slot_other rest at other x (λ e. n (ap suc e))

abbrev Filled : Option Resolved → Type 0
Filled None = ⊥
Filled (Some held) = Unit {0}

pub filled : (held : Resolved) → None ≡ Some held → ⊥
filled held e = subst Filled (sym e) tt

pub some_same : (kept : List (Option Resolved)) (at : ℕ) (one other : Resolved) → slot kept at ≡ Some one → slot kept at ≡ Some other → one ≡ other
some_same kept at one other e f = ap (λ (o : Option Resolved). unwrap_or o one) (sym e ∙ f)

pub slot_within : (kept : List (Option Resolved)) (at : ℕ) (held : Resolved) → slot kept at ≡ Some held → at < length kept
slot_within [] at held e = absurd (subst Filled (sym e) tt)
slot_within (first ∷ rest) zero held e = omega arith
slot_within (first ∷ rest) (suc at) held e = omega (arith, slot_within rest at held e)

-- A path with one more name.
or_false : (a b : Bool) → (a || b) ≡ false → (a ≡ false) × (b ≡ false)
or_false true b h = absurd (subst (λ (x : Bool). cond x (Unit {0}) ⊥) h tt)
or_false false b h = (refl, h)

or_both : (a b : Bool) → a ≡ false → b ≡ false → (a || b) ≡ false
or_both a b p q = ap (λ x. x || b) p ∙ q

pub path_longer : (name last : List ℕ) (path : List (List ℕ)) → in_path name path ≡ false → bytes_eq last name ≡ false → in_path name (path ++ last ∷ []) ≡ false
path_longer name last [] p l = or_both (bytes_eq last name) false l refl
path_longer name last (first ∷ path) p l =
    let both = or_false (bytes_eq first name) (in_path name path) p in
    or_both (bytes_eq first name) (in_path name (path ++ last ∷ [])) both.0 (path_longer name last path both.1 l)

-- Less high is clear as well.
pub clear_less : (tops : Trees) (kept : List (Option Resolved)) (less height : ℕ) (path : List (List ℕ)) → less ≤ height →
    IsClear tops kept height path → IsClear tops kept less path
clear_less tops kept less height path l clear at held e h = clear at held e (omega arith)

-- A path with the name of a node that nothing serves for.
pub clear_longer : (tops : Trees) (kept : List (Option Resolved)) (height at : ℕ) (path : List (List ℕ)) → IsOnce tops → at < width tops → length kept ≡ width tops →
    IsClear tops kept height path → ((held : Resolved) → slot kept at ≡ Some held → height ≤ held.height) →
    IsClear tops kept height (path ++ key_from at tops ∷ [])
clear_longer tops kept height at path once w long clear low other held e h =
    elim (cases_eq at other) [
      | inl same ↦ absurd (omega (arith, h, low held (ap (slot kept) same ∙ e)))
      | inr apart ↦ path_longer (key_from other tops) (key_from at tops) path (clear other held e h)
          (keys_apart at other tops once w (omega (arith, slot_within kept other held e)) apart)
    ]

-- One more is kept.
pub kept_added : (tops : Trees) (kept news : List (Option Resolved)) (at : ℕ) (made : Resolved) → IsOnce tops → at < width tops → length kept ≡ width tops →
    news ≡ set kept at (Some made) → AreKept tops kept → ((held : Resolved) → slot kept at ≡ Some held → made.height < held.height) →
    Gives tops kept made.height (λ free path. resolved_list free (children_from at tops) (MAX_LEVELS - 1) tops path none) (trees_of made.children) →
    AreKept tops news
kept_added tops kept news at made once w long n are low gives other held e free path h clear =
    elim (cases_eq other at) [
      | inl same ↦
          let is : made ≡ held = ap (λ (o : Option Resolved). unwrap_or o made) (sym (slot_same kept at (Some made) (omega arith)) ∙ ap (λ l. slot l at) (sym n) ∙ ap (slot news) (sym same) ∙ e) in
          let free_path : IsClear tops kept made.height path = λ k kept_k e_k l_k.
          elim (cases_eq k at) [
            | inl here ↦ absurd (omega (arith, l_k, low kept_k (ap (slot kept) (sym here) ∙ e_k)))
            | inr there ↦ clear k kept_k (ap (λ l. slot l k) n ∙ slot_other kept at k (Some made) there ∙ e_k) (omega (arith, l_k, ap (λ (r : Resolved). r.height) is))
          ] in
          ap (λ k. resolved_at tops k free path) same
          ∙ gives free (path ++ key_from at tops ∷ []) (omega (arith, h, ap (λ (r : Resolved). r.height) is))
          (clear_longer tops kept made.height at path once w long free_path (λ old o. omega (arith, low old o)))
          ∙ ap (λ (r : Resolved). Ok (trees_of r.children)) is
      | inr apart ↦
          are other held (sym (slot_other kept at other (Some made) apart) ∙ ap (λ l. slot l other) (sym n) ∙ e) free path h
          (λ k kept_k e_k l_k.
          elim (cases_eq k at) [
            | inl here ↦ clear k made (ap (slot news) here ∙ ap (λ l. slot l at) n ∙ slot_same kept at (Some made) (omega arith))
                (omega (arith, l_k, low kept_k (ap (slot kept) (sym here) ∙ e_k)))
            | inr there ↦ clear k kept_k (ap (λ l. slot l k) n ∙ slot_other kept at k (Some made) there ∙ e_k) l_k
          ])
    ]

pub weight_less : (kept : List (Option Resolved)) (at : ℕ) (made : Resolved) → at < length kept → made.height < MAX_PATH →
    ((held : Resolved) → slot kept at ≡ Some held → made.height < held.height) → weight (set kept at (Some made)) < weight kept
weight_less [] at made h m low = absurd (omega arith)
weight_less (None ∷ rest) zero made h m low = omega (arith, m)
weight_less (Some held ∷ rest) zero made h m low = omega (arith, low held refl)
weight_less (None ∷ rest) (suc at) made h m low = omega (arith, weight_less rest at made (omega arith) m low)
weight_less (Some held ∷ rest) (suc at) made h m low = omega (arith, weight_less rest at made (omega arith) m low)

-- The next node over the same kept ones in other words.
pub next_moved : (tops : Trees) (kept news : List (Option Resolved)) (at : ℕ) (made : Resolved) → kept ≡ news → IsNext tops kept at made → IsNext tops news at made
next_moved tops kept news at made e n = subst (λ l. IsNext tops l at made) e n

-- The next node is kept.
pub next_kept : (tops : Trees) (kept news : List (Option Resolved)) (at : ℕ) (made : Resolved) → IsOnce tops → length kept ≡ width tops → IsNext tops kept at made →
    news ≡ set kept at (Some made) → AreKept tops kept → AreKept tops news
next_kept tops kept news at made once long next n are = kept_added tops kept news at made once next.place long n are next.lower next.gives

pub next_long : (tops : Trees) (kept news : List (Option Resolved)) (at : ℕ) (made : Resolved) → length kept ≡ width tops → news ≡ set kept at (Some made) →
    length news ≡ width tops
next_long tops kept news at made long n = ap length n ∙ length-set kept at (Some made) ∙ long

pub next_stay : (tops : Trees) (first kept news : List (Option Resolved)) (at : ℕ) (made : Resolved) → length kept ≡ width tops → IsNext tops kept at made →
    news ≡ set kept at (Some made) → StayKept first kept → StayKept first news
next_stay tops first kept news at made long next n stay other is =
    elim (cases_eq other at) [
      | inl same ↦ ap is_some (ap (slot news) same ∙ ap (λ l. slot l at) n ∙ slot_same kept at (Some made) (omega (arith, long, next.place)))
      | inr apart ↦ ap is_some (ap (λ l. slot l other) n ∙ slot_other kept at other (Some made) apart) ∙ stay other is
    ]

pub next_lighter : (tops : Trees) (kept news : List (Option Resolved)) (at : ℕ) (made : Resolved) → length kept ≡ width tops → IsNext tops kept at made →
    news ≡ set kept at (Some made) → weight news < weight kept
next_lighter tops kept news at made long next n =
    subst (λ l. weight l < weight kept) (sym n) (weight_less kept at made (omega (arith, long, next.place)) made.low next.lower)

-- One `Inherits` node whose parent is there and isn't in the path.
step_found : (free room : ℕ) (place : Place) (name : List ℕ) (path : List (List ℕ)) (parents_of : Trees → Outcome) (list children : Trees) →
    in_path name path ≡ false → eqb free 0 ≡ false →
    inherit_step free room place name path parents_of list (Some children) ≡ (parents_of children >>= inherited room place list)
step_found free room place name path parents_of list children absent more_free = cond-false _ _ _ absent ∙ cond-false _ _ _ more_free

the_rest : (free : ℕ) → free ≡ suc free - 1
the_rest free = omega arith

not_zero : (free : ℕ) → 0 < free → eqb free 0 ≡ false
not_zero free h = elim (cases_Bool (eqb free 0)) [
  | inl y ↦ absurd (omega (arith, h, eqb-true free 0 y))
  | inr n ↦ n
]

parents_found : (free : ℕ) (tops : Trees) (path : List (List ℕ)) (name : List ℕ) (at : ℕ) → 0 < free → key_from at tops ≡ name →
    parents free tops path name (children_from at tops) ≡ resolved_at tops at (free - 1) path
parents_found zero tops path name at h k = absurd (omega arith)
parents_found (suc free) tops path name at h k =
    ap (λ n. resolved_list free (children_from at tops) (MAX_LEVELS - 1) tops (path ++ n ∷ []) none) (sym k)
    ∙ ap (λ f. resolved_at tops at f path) (the_rest free)

-- A kept parent serves where the path may get as many names as it adds.
pub kept_serves : (tops : Trees) (kept : List (Option Resolved)) (at : ℕ) (held : Resolved) (name : List ℕ) (place : Place) (free room : ℕ) (path : List (List ℕ)) (list : Trees) →
    AreKept tops kept → slot kept at ≡ Some held → parent_of name tops ≡ Some (children_from at tops) → key_from at tops ≡ name → held.height + 1 ≤ free →
    IsClear tops kept (held.height + 1) path →
    inherit_step free room place name path (parents free tops path name) list (parent_of name tops) ≡ inherited room place list (trees_of held.children)
kept_serves tops kept at held name place free room path list are e p k h clear =
    let served : resolved_at tops at (free - 1) path ≡ Ok (trees_of held.children) =
    are at held e (free - 1) path (omega arith) (clear_less tops kept held.height (held.height + 1) path (omega arith) clear) in
    let absent : in_path name path ≡ false = ap (λ n. in_path n path) (sym k) ∙ clear at held e (omega arith) in
    ap (inherit_step free room place name path (parents free tops path name) list) p
    ∙ step_found free room place name path (parents free tops path name) list (children_from at tops) absent (not_zero free (omega arith))
    ∙ ap (λ (o : Outcome). o >>= inherited room place list) (parents_found free tops path name at (omega arith) k ∙ served)

-- What resolving stops at, where more follows.
pub stops_on : (tops : Trees) (kept : List (Option Resolved)) (free : ℕ) (path : List (List ℕ)) (stop : Stop) (one other : Outcome) →
    ((fault : MergeFault) → one ≡ Err fault → other ≡ Err fault) → Stops tops kept free path stop one → Stops tops kept free path stop other
stops_on tops kept free path (Fault fault) one other f (inl memory) = inl memory
stops_on tops kept free path (Fault fault) one other f (inr e) = inr (f fault e)
stops_on tops kept free path (Parent at) one other f s = (s.0, s.1, s.2, λ fault e. f fault (s.3 fault e))

-- An `Inherits` whose parent nothing serves for.
pub parent_stops : (tops : Trees) (at : ℕ) (name : List ℕ) (place : Place) (free room : ℕ) (path : List (List ℕ)) (list : Trees) (fault : MergeFault) →
    parent_of name tops ≡ Some (children_from at tops) → key_from at tops ≡ name → in_path name path ≡ false → 0 < free →
    resolved_at tops at (free - 1) path ≡ Err fault →
    inherit_step free room place name path (parents free tops path name) list (parent_of name tops) ≡ Err fault
parent_stops tops at name place free room path list fault p k absent h e =
    ap (inherit_step free room place name path (parents free tops path name) list) p
    ∙ step_found free room place name path (parents free tops path name) list (children_from at tops) absent (not_zero free h)
    ∙ ap (λ (o : Outcome). o >>= inherited room place list) (parents_found free tops path name at h k ∙ e)

-- The same outcomes in other words.
pub gives_same : (tops : Trees) (kept : List (Option Resolved)) (height : ℕ) (f g : ℕ → List (List ℕ) → Outcome) (result : Result Trees Stop) →
    ((free : ℕ) → (path : List (List ℕ)) → g free path ≡ f free path) → IfOk result (Gives tops kept height f) → IfOk result (Gives tops kept height g)
gives_same tops kept height f g (Ok list) e h = λ free path low clear. e free path ∙ h free path low clear
gives_same tops kept height f g (Err stop) e h = tt

pub stops_same : (tops : Trees) (kept : List (Option Resolved)) (free : ℕ) (path : List (List ℕ)) (one other : Outcome) (result : Result Trees Stop) →
    one ≡ other → IfErr result (λ stop. Stops tops kept free path stop one) → IfErr result (λ stop. Stops tops kept free path stop other)
stops_same tops kept free path one other result e h = subst (λ o. IfErr result (λ stop. Stops tops kept free path stop o)) e h

-- One node by its key.
pub took_inherits : (free room : ℕ) (tops : Trees) (path : List (List ℕ)) (key value : List ℕ) (place : Place) (children list : Trees) → inherits key ≡ true →
    taken_in free room tops path key value place children list
    ≡ inherit_step free room place value path (parents free tops path value) list (parent_of value tops)
unfolding taken_in node_step
took_inherits free room tops path key value place children list i = cond-true _ _ _ i

pub took_removes : (free room : ℕ) (tops : Trees) (path : List (List ℕ)) (key value : List ℕ) (place : Place) (children list : Trees) → inherits key ≡ false →
    removes key ≡ true → taken_in free room tops path key value place children list ≡ removed place (without (drop 1 key) list)
unfolding taken_in node_step
took_removes free room tops path key value place children list i r = cond-false _ _ _ i ∙ cond-true _ _ _ r

pub took_joins : (free room : ℕ) (tops : Trees) (path : List (List ℕ)) (key value : List ℕ) (place : Place) (children list : Trees) → inherits key ≡ false →
    removes key ≡ false →
    taken_in free room tops path key value place children list
    ≡ join_step key value place (λ old. resolved_list free children (room - 1) tops path old) list
unfolding taken_in node_step
took_joins free room tops path key value place children list i r = cond-false _ _ _ i ∙ cond-false _ _ _ r
