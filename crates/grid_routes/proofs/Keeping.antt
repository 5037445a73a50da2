-- Fields that are put back, taken up and forgotten.
use Rattle.std.proofs.Common.{◌≡◌, ℕ, ◌+◌, ◌*◌, ◌<◌, inl, inr, Bool, length, length-append, List, [], ◌∷◌, get_or, set, Option, Some, None, refl, ap, sym, ◌∙◌, arith, subst, get_or-set_other, get_or-set_same, length-set}
use Rattle.std.specs.Prelude.{IfSome, slice_get}
use Rattle.std.specs.List.{All}
use Rattle.std.proofs.lemmas.Bool.{cases_eq}
use Rattle.std.proofs.lemmas.List.{get_or_read, set-set}
use Rattle.std.proofs.lemmas.List.Elements.{All-append, All-cons, All-nil, All-set}
use Rattle.std.proofs.lemmas.Option.{get_or_from_slice_get, slice_get_within}
use Rattle.world_units.specs.declared.cell.CPos.{CPos}
use Rattle.rule_traits.specs.declared.trait_fields.Costs.{Costs}
use Rattle.game_model.specs.declared.terrain.Terrain.{Terrain}
use Rattle.game_model.specs.Grid.{Grid, HasSize, IsOn}
use Rattle.grid_routes.specs.EntryCosts.{Ground, ground_of, land_over, entry_cost_in}
use Rattle.grid_routes.specs.Labels.{Distances}
use Rattle.grid_routes.specs.declared.ask.Ask.{Ask}
use Rattle.grid_routes.specs.declared.fields.Kept.{Kept}
use Rattle.grid_routes.specs.declared.fields.Fields.{Fields}
use Rattle.grid_routes.specs.declared.search.Search.{Search}
use Rattle.grid_routes.specs.Steps.{IsGoing, IsSearch}
use Rattle.grid_routes.specs.Kept.{AreFields, AreForgotten, IsFinal, IsFor, IsKeptField, IsOwn, IsWidened}
use Rattle.grid_routes.proofs.Beginning.{may-go-on}

pub forgotten-none : (old : List Kept) → AreForgotten old old 0
forgotten-none old = record {
  same = refl;
  fields = λ i d within. refl;
  none = λ i d below. absurd (omega arith);
}

pub forgotten-step :
    (old new : List Kept) (n : ℕ) (e : Kept) → AreForgotten old new n → n < length old → e ≡ get_or new n e →
    AreForgotten old (set new n (record { ask = None; field = e.field })) (n + 1)
forgotten-step old new n e so_far within here = record {
  same = length-set new n (record { ask = None; field = e.field }) ∙ so_far.same;
  fields = λ i d inside.
      elim (cases_eq i n) [
        | inl one ↦
            let put = get_or-set_same new n (record { ask = None; field = e.field }) d (omega (arith, so_far.same)) in
            rw one
            (ap (λ (k : Kept). k.field) put ∙ ap (λ (k : Kept). k.field) (get_or_read new n e (omega (arith, so_far.same)) here d) ∙ so_far.fields n d within)
        | inr other ↦
            ap (λ (k : Kept). k.field) (get_or-set_other new n i (record { ask = None; field = e.field }) d other)
            ∙ so_far.fields i d inside
      ];
  none = λ i d below.
      elim (cases_eq i n) [
        | inl one ↦
            rw one (ap (λ (k : Kept). k.ask) (get_or-set_same new n (record { ask = None; field = e.field }) d (omega (arith, so_far.same))))
        | inr other ↦
            ap (λ (k : Kept). k.ask) (get_or-set_other new n i (record { ask = None; field = e.field }) d other)
            ∙ so_far.none i d (omega arith)
      ];
}

none-going : (o : Option Ask) (P : Ask → Type 0) → o ≡ None → IfSome o P
none-going None P none = tt
none-going (Some ask) P none = absurd (cc)

-- Forgotten fields are kept over any ground.
pub forgotten-kept :
    (w h : ℕ) (terrain terrain' : Grid Terrain) (built built' : Grid Bool) (old new : List Kept) →
    AreForgotten old new (length old) → All (IsKeptField w h terrain built) old → All (IsKeptField w h terrain' built') new
forgotten-kept w h terrain terrain' built built' old new forgotten kept = λ k d within.
    let inside : k < length old = omega (arith, forgotten.same) in
    let was = kept k d inside in
    record {
      size = subst (λ (f : Distances). HasSize w h f.labels) (sym (forgotten.fields k d inside)) was.size;
      going = none-going (get_or new k d).ask _ (forgotten.none k d inside);
    }

-- One more field, which is only room.
pub widened-kept :
    (w h : ℕ) (terrain : Grid Terrain) (built : Grid Bool) (old new : List Kept) → IsWidened w h old new →
    All (IsKeptField w h terrain built) old → All (IsKeptField w h terrain built) new
widened-kept w h terrain built old new (inl same) kept =
    subst (λ (l : List Kept). All (IsKeptField w h terrain built) l) (sym same) kept
widened-kept w h terrain built old new (inr (more, room, is)) kept =
    let P : Kept → Type 0 = IsKeptField w h terrain built in
    let one : IsKeptField w h terrain built more =
    record { size = room.size; going = none-going more.ask _ room.none } in
    subst (λ (l : List Kept). All P l) (sym is)
    (All-append P old (more ∷ []) kept (All-cons P more [] one (All-nil P)))

pub widened-place :
    (w h place : ℕ) (old new : List Kept) → IsWidened w h old new → place < length old → place < length new
widened-place w h place old new (inl same) within = subst (λ (l : List Kept). place < length l) (sym same) within
widened-place w h place old new (inr (more, room, is)) within =
    subst (λ (l : List Kept). place < length l) (sym is) (omega (arith, within, length-append old (more ∷ [])))

-- A search that is on its way for this, by its ground alone.
pub for-own : (search : Search) (ask : Ask) → IsFor search ask → IsOwn search ask
for-own search ask is =
    subst (λ (g : Ground). IsSearch (record { entry_cost = entry_cost_in g; goal = ask.goal }) search.field search.buckets) is.entry_costs
    is.going

-- Once its entry costs are turned to this, it is on its way.
pub own-for :
    (search : Search) (ask : Ask) → IsOwn search ask →
    search.entry_costs ≡ record search.entry_costs { costs = ask.costs; goal = ask.goal } → IsFor search ask
own-for search ask own turned = record {
  entry_costs = turned;
  going = subst (λ (g : Ground). IsSearch (record { entry_cost = entry_cost_in g; goal = ask.goal }) search.field search.buckets)
      (sym turned) own;
}

-- The search's field, as one that is kept.
pub own-going :
    (search : Search) (o : Option Ask) → IfSome o (IsOwn search) →
    IfSome o (λ ask. IsGoing (land_over search.entry_costs.terrain search.entry_costs.built ask.costs ask.goal) search.field)
own-going search None own = tt
own-going search (Some ask) own =
    may-go-on (land_over search.entry_costs.terrain search.entry_costs.built ask.costs ask.goal) search.field search.buckets own

-- A field that is found for a goal and costs may be taken up.
pub found-going :
    (w h : ℕ) (terrain : Grid Terrain) (built : Grid Bool) (k : Kept) (found : Option Ask) (field : Distances) (ask : Ask) →
    IsKeptField w h terrain built k → found ≡ k.ask → field ≡ k.field → found ≡ Some ask →
    IsGoing (land_over terrain built ask.costs ask.goal) field
found-going w h terrain built k found field ask kept same_ask same_field is =
    let here : k.ask ≡ Some ask = sym same_ask ∙ is in
    let going : IfSome (Some ask) (λ a. IsGoing (land_over terrain built a.costs a.goal) k.field) =
    subst (λ (o : Option Ask). IfSome o (λ a. IsGoing (land_over terrain built a.costs a.goal) k.field)) here kept.going in
    subst (λ (f : Distances). IsGoing (land_over terrain built ask.costs ask.goal) f) (sym same_field) going

-- Two writes at a place, as one.
pub exchanged :
    (xs : List Kept) (i : ℕ) (x e : Kept) (a : Option Ask) (f g : Distances) → i < length xs → x.ask ≡ a →
    e ≡ get_or (set xs i x) i e → g ≡ f →
    set (set xs i x) i (record { ask = e.ask; field = g }) ≡ set xs i (record { ask = a; field = f })
exchanged xs i x e a f g within ask here same =
    let put : e ≡ x = here ∙ get_or-set_same xs i x e within in
    let same_ask : e.ask ≡ a = ap (λ (k : Kept). k.ask) put ∙ ask in
    set-set xs i x (record { ask = e.ask; field = g })
    ∙ ap (λ (o : Option Ask). set xs i (record { ask = o; field = g })) same_ask
    ∙ ap (λ (d : Distances). set xs i (record { ask = a; field = d })) same

pub kept-set :
    (w h : ℕ) (terrain : Grid Terrain) (built : Grid Bool) (xs ys : List Kept) (i : ℕ) (x : Kept) →
    All (IsKeptField w h terrain built) xs → IsKeptField w h terrain built x → ys ≡ set xs i x → All (IsKeptField w h terrain built) ys
kept-set w h terrain built xs ys i x kept one is =
    subst (λ (l : List Kept). All (IsKeptField w h terrain built) l) (sym is) (All-set (IsKeptField w h terrain built) xs i x one kept)

pub turned :
    (g o : Ground) (costs : Costs) (goal : CPos) → g ≡ record o { costs = costs; goal = goal } →
    g ≡ record g { costs = costs; goal = goal }
turned g o costs goal is = is ∙ ap (λ (x : Ground). record x { costs = costs; goal = goal }) (sym is)

-- The size of the map is that of the terrain.
pub own-size :
    (w h : ℕ) (f : Fields) → AreFields w h f → AreFields f.search.entry_costs.terrain.width f.search.entry_costs.terrain.height f
own-size w h f fields =
    subst (λ (n : ℕ). AreFields n f.search.entry_costs.terrain.height f) (sym fields.terrain.width)
    (subst (λ (n : ℕ). AreFields w n f) (sym fields.terrain.height) fields)

pub size-back : (a b w h : ℕ) (f : Fields) → a ≡ w → b ≡ h → AreFields a b f → AreFields w h f
size-back a b w h f wide high fields =
    subst (λ (n : ℕ). AreFields n h f) wide (subst (λ (n : ℕ). AreFields a n f) high fields)

pub asked-for : (P : Ask → Type 0) (o : Option Ask) (ask : Ask) → o ≡ Some ask → IfSome o P → P ask
asked-for P o ask is some = subst (λ (x : Option Ask). IfSome x P) is some

-- After the entry costs were turned.
pub turned-fields :
    (w h : ℕ) (f : Fields) (t : Ground) (costs : Costs) (goal : CPos) → AreFields w h f →
    t ≡ record f.search.entry_costs { costs = costs; goal = goal } →
    AreFields w h (record f { search = record f.search { entry_costs = t } })
turned-fields w h f t costs goal fields is =
    subst (λ (g : Ground). AreFields w h (record f { search = record f.search { entry_costs = g } })) (sym is)
    (record {
      terrain = fields.terrain;
      size = fields.size;
      room = fields.room;
      search = fields.search;
      kept = fields.kept;
      place = fields.place;
    })

-- After the search went on.
pub settled-fields :
    (w h : ℕ) (f : Fields) (s : Search) (ask : Ask) → AreFields w h f → f.ask ≡ Some ask → IsFor f.search ask →
    s.entry_costs ≡ f.search.entry_costs → IsSearch (record { entry_cost = entry_cost_in s.entry_costs; goal = ask.goal }) s.field s.buckets →
    HasSize f.search.field.labels.width f.search.field.labels.height s.field.labels →
    IsFor s ask × AreFields w h (record f { search = s })
settled-fields w h f s ask fields asked before entry_costs search size =
    let is_for : IsFor s ask = record {
      entry_costs = turned s.entry_costs f.search.entry_costs ask.costs ask.goal (entry_costs ∙ before.entry_costs);
      going = search;
    } in
    let wide : s.field.labels.width ≡ w = size.width ∙ fields.size.width in
    let high : s.field.labels.height ≡ h = size.height ∙ fields.size.height in (
      is_for,
      record {
        terrain = subst (λ (g : Ground). HasSize w h g.terrain) (sym entry_costs) fields.terrain;
        size = record { width = wide; height = high };
        room = search.room ∙ search.full.size ∙ ap (λ n. n * s.field.labels.height) wide ∙ ap (λ n. w * n) high;
        search = subst (λ (o : Option Ask). IfSome o (IsOwn s)) (sym asked) (for-own s ask is_for);
        kept = subst (λ (g : Ground). All (IsKeptField w h g.terrain g.built) f.kept.items) (sym entry_costs) fields.kept;
        place = fields.place;
      },
    )

-- A kept field that belongs to this, read over its ground.
pub read-going :
    (w h : ℕ) (terrain : Grid Terrain) (built : Grid Bool) (kept : List Kept) (place : ℕ) (k : Kept) (ask : Ask)
    (p : CPos) (t : Ground) → All (IsKeptField w h terrain built) kept → slice_get kept place ≡ Some k →
    IsFinal ask p k → t ≡ ground_of terrain built ask.costs ask.goal → IsOn w h p →
    IsGoing (record { entry_cost = entry_cost_in t; goal = ask.goal }) k.field × IsOn k.field.labels.width k.field.labels.height p
read-going w h terrain built kept place k ask p t all at final is on =
    let here : get_or kept place k ≡ k = get_or_from_slice_get kept place k k at in
    let one : IsKeptField w h terrain built k =
    subst (λ (x : Kept). IsKeptField w h terrain built x) here (all place k (slice_get_within kept place k at)) in
    let going : IsGoing (land_over terrain built ask.costs ask.goal) k.field =
    asked-for (λ a. IsGoing (land_over terrain built a.costs a.goal) k.field) k.ask ask final.asked one.going in (
      subst (λ (g : Ground). IsGoing (record { entry_cost = entry_cost_in g; goal = ask.goal }) k.field) (sym is) going,
      record { column = rw one.size.width on.column; row = rw one.size.height on.row },
    )
