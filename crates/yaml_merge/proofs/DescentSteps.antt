-- The way down from a top-level node to the parent at which its resolving stops.
use Rattle.std.proofs.Common.{◌≡◌, ℕ, ◌-◌, ◌<◌, ◌≤◌, List, [], ◌∷◌, ◌++◌, length}
use Rattle.std.proofs.Common.{get_or, Option, Some, None, Err, sym, ap, ◌∙◌, subst, inl}
use Rattle.std.proofs.Common.{inr, arith}
use Rattle.base.specs.Steps.{IsFault}
use Rattle.yaml_lines.specs.declared.forest.Forest.{Forest}
use Rattle.yaml_lines.specs.declared.forest.Node.{Node}
use Rattle.yaml_lines.specs.declared.forest.Forest.TheViews.{out-Node, out-Forest}
use Rattle.yaml_lines.specs.declared.TheConstants.{MAX_LEVELS}
use Rattle.yaml_lines.specs.Trees.{Trees, none, trees_of}
use Rattle.yaml_merge.specs.declared.fault.MergeFault.{MergeFault}
use Rattle.yaml_merge.specs.declared.fault.MergeFault.TheVariants.{NoMemory}
use Rattle.yaml_merge.specs.declared.resolved.Resolved.{Resolved}
use Rattle.yaml_merge.specs.declared.stop.Stop.{Stop}
use Rattle.yaml_merge.specs.declared.stop.Stop.TheVariants.{Fault, Parent}
use Rattle.yaml_merge.specs.declared.TheConstants.{MAX_PATH}
use Rattle.yaml_merge.specs.Kept.{key_from, slot, IsClear, Gives, IsNext, resolved_at, Stops}
use Rattle.yaml_merge.specs.Places.{width, children_from}
use Rattle.yaml_merge.specs.Resolving.{in_path, resolved_list}
use Rattle.yaml_merge.specs.Settled.{IsOnce}
use Rattle.yaml_merge.proofs.KeptSteps.{clear_less, clear_longer, filled}
use Rattle.yaml_merge.proofs.TopSteps.{width_forest, children_nodes, key_nodes}
use Rattle.yaml_lines.proofs.TreeSteps.{trees_out}

-- The node at this place is resolved where the path has these names and may get `free` more: its
-- fault is that of the root.
pub record Descends (tops : Trees) (kept : List (Option Resolved)) (root at free : ℕ) (path : List (List ℕ)) : Type 0 where
  pub place : at < width tops
  pub low : free < MAX_PATH
  pub clear : IsClear tops kept free path
  pub vacant : (held : Resolved) → slot kept at ≡ Some held → free < held.height
  pub leads : (fault : MergeFault) → resolved_at tops at free path ≡ Err fault → resolved_at tops root (MAX_PATH - 1) [] ≡ Err fault

pub descends_first : (tops : Trees) (kept : List (Option Resolved)) (root : ℕ) (path : List (List ℕ)) → path ≡ [] → root < width tops → slot kept root ≡ None →
    Descends tops kept root root (MAX_PATH - 1) path
descends_first tops kept root path p w v = record {
  place = w;
  low = omega arith;
  clear = λ at held e h. ap (in_path (key_from at tops)) p;
  vacant = λ held e. absurd (filled held (sym v ∙ e));
  leads = λ fault e. ap (resolved_at tops root (MAX_PATH - 1)) (sym p) ∙ e;
}

pub descends_clear : (tops : Trees) (kept : List (Option Resolved)) (root at free : ℕ) (path longer : List (List ℕ)) → IsOnce tops → length kept ≡ width tops →
    Descends tops kept root at free path → longer ≡ path ++ key_from at tops ∷ [] → IsClear tops kept free longer
descends_clear tops kept root at free path longer once long d l =
    subst (IsClear tops kept free) (sym l) (clear_longer tops kept free at path once d.place long d.clear (λ held e. omega (arith, d.vacant held e)))

same_at : (tops children : Trees) (at free : ℕ) (path longer : List (List ℕ)) → longer ≡ path ++ key_from at tops ∷ [] → children ≡ children_from at tops →
    resolved_at tops at free path ≡ resolved_list free children (MAX_LEVELS - 1) tops longer none
same_at tops children at free path longer l c =
    ap (λ p. resolved_list free (children_from at tops) (MAX_LEVELS - 1) tops p none) (sym l)
    ∙ ap (λ x. resolved_list free x (MAX_LEVELS - 1) tops longer none) (sym c)

pub descends_next : (tops : Trees) (kept : List (Option Resolved)) (root at free next : ℕ) (path longer : List (List ℕ)) (children : Trees) (stop : Stop) → IsOnce tops → length kept ≡ width tops →
    Descends tops kept root at free path → longer ≡ path ++ key_from at tops ∷ [] → children ≡ children_from at tops →
    stop ≡ Parent next → Stops tops kept free longer stop (resolved_list free children (MAX_LEVELS - 1) tops longer none) →
    Descends tops kept root next (free - 1) longer
descends_next tops kept root at free next path longer children stop once long d l c p h =
    let s : Stops tops kept free longer (Parent next) (resolved_list free children (MAX_LEVELS - 1) tops longer none) =
    subst (λ x. Stops tops kept free longer x (resolved_list free children (MAX_LEVELS - 1) tops longer none)) p h in
    record {
      place = s.0;
      low = omega (arith, d.low);
      clear = clear_less tops kept (free - 1) free longer (omega arith) (descends_clear tops kept root at free path longer once long d l);
      vacant = λ held e. omega (arith, s.1, s.2 held e);
      leads = λ fault e. d.leads fault (same_at tops children at free path longer l c ∙ s.3 fault e);
    }

fault_leads : (tops : Trees) (kept : List (Option Resolved)) (root at free : ℕ) (path longer : List (List ℕ)) (children : Trees) (fault : MergeFault) →
    Descends tops kept root at free path → longer ≡ path ++ key_from at tops ∷ [] → children ≡ children_from at tops →
    IsFault NoMemory fault (resolved_list free children (MAX_LEVELS - 1) tops longer none) → IsFault NoMemory fault (resolved_at tops root (MAX_PATH - 1) [])
fault_leads tops kept root at free path longer children fault d l c (inl memory) = inl memory
fault_leads tops kept root at free path longer children fault d l c (inr e) = inr (d.leads fault (same_at tops children at free path longer l c ∙ e))

pub descends_fault : (tops : Trees) (kept : List (Option Resolved)) (root at free : ℕ) (path longer : List (List ℕ)) (children : Trees) (fault : MergeFault) (stop : Stop) →
    Descends tops kept root at free path → longer ≡ path ++ key_from at tops ∷ [] → children ≡ children_from at tops →
    stop ≡ Fault fault → Stops tops kept free longer stop (resolved_list free children (MAX_LEVELS - 1) tops longer none) → IsFault NoMemory fault (resolved_at tops root (MAX_PATH - 1) [])
descends_fault tops kept root at free path longer children fault stop d l c p h =
    fault_leads tops kept root at free path longer children fault d l c
    (subst (λ x. Stops tops kept free longer x (resolved_list free children (MAX_LEVELS - 1) tops longer none)) p h)

pub descends_made : (tops : Trees) (kept : List (Option Resolved)) (root at free : ℕ) (path : List (List ℕ)) (children : Trees) (made : Resolved) →
    Descends tops kept root at free path → children ≡ children_from at tops → made.height ≤ free →
    Gives tops kept made.height (λ f p. resolved_list f children (MAX_LEVELS - 1) tops p none) (trees_of made.children) → IsNext tops kept at made
descends_made tops kept root at free path children made d c h g = record {
  place = d.place;
  gives = λ f p low clear. ap (λ x. resolved_list f x (MAX_LEVELS - 1) tops p none) (sym c) ∙ g f p low clear;
  lower = λ held e. omega (arith, h, d.vacant held e);
}

-- The node at a place, its children and its key.
pub node_children : (forest : Forest) (at : ℕ) (node : Node) → at < width (trees_of forest) → node ≡ get_or (out-Forest forest).nodes.items at node →
    trees_of (out-Node node).children ≡ children_from at (trees_of forest)
node_children forest at node w e =
    sym (children_nodes at (out-Forest forest).nodes.items node (omega (arith, w, width_forest forest)) e) ∙ ap (children_from at) (sym (trees_out forest))

pub node_key : (forest : Forest) (at : ℕ) (node : Node) → at < width (trees_of forest) → node ≡ get_or (out-Forest forest).nodes.items at node →
    (out-Node node).key ≡ key_from at (trees_of forest)
node_key forest at node w e =
    sym (key_nodes at (out-Forest forest).nodes.items node (omega (arith, w, width_forest forest)) e) ∙ ap (key_from at) (sym (trees_out forest))
