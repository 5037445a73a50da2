-- Which products are ready, and what that tells of orders to produce.
use Rattle.std.proofs.Common.{◌≡◌, ℕ, ◌+◌, ◌<◌, ◌≤◌, eqb, ltb, leb, Bool, true, false, cond, ◌&&◌, ◌||◌, List, [], ◌∷◌, length, get_or, Option, Some, None, is_some, inl, inr, refl, sym, subst, ap, ap₂, ◌∙◌, arith}
use Rattle.std.specs.Prelude.{IfSome, find, slice_index}
use Rattle.std.specs.List.{AllByRecursion, list_all, range_with_len}
use Rattle.std.specs.Option.{unwrap_or}
use Rattle.std.proofs.lemmas.Bool.{cases_eq, cases_lt, eq-eqb, ne_eqb, lt-ltb, le-ltb}
use Rattle.std.proofs.lemmas.List.Elements.{recursion_from_All}
use Rattle.std.proofs.lemmas.List.{get_or_past, get_or-replicate, length-replicate}
use Rattle.std.proofs.lemmas.Option.{slice_get_past, slice_get_within, get_or_from_slice_get}
use Rattle.rule_traits.specs.declared.TheConstants.{MAX_KINDS}
use Rattle.rule_traits.specs.declared.kind.Kind.{Kind}
use Rattle.rule_traits.specs.declared.trait_fields.Buildable.{Buildable}
use Rattle.rule_traits.specs.Rules.{builds, cost_of, kind_at}
use Rattle.rule_traits.specs.Typed.{plain_kind}
use Rattle.rule_traits.specs.ValidRules.{AreValidRules, IsValidBuildable, IsValidKind}
use Rattle.game_model.specs.declared.actor.Actor.{Actor}
use Rattle.game_model.specs.Kinds.{is_unit, kind_of, needs_in}
use Rattle.game_tick.specs.Orders.{Goods, has_kind, has_needs, produce_fits}
use Rattle.bot_player.specs.BotOrders.{least_product}
use Rattle.bot_player.specs.KindFlags.{flag_of, no_flags, with_flag}
use Rattle.bot_player.specs.Products.{can_produce, is_product, is_ready, is_ready_at, least_ready, AreReady, ProductState}
use Rattle.bot_player.specs.Survey.{owned_of, AreProductsOf}
use Rattle.bot_player.proofs.FlagLemmas.{flag_with, size_with}
use Rattle.bot_player.proofs.SurveyLemmas.{owned_are}

-- The flags of the first kinds are right, and no others are set.
pub record AreReadyBelow (rules : List Kind) (owned : List Bool) (cash bound : ℕ) (ready : List Bool)
    : Type 0 where
  pub size : length ready ≡ MAX_KINDS
  pub each :
      (k : ℕ) → k < MAX_KINDS →
      flag_of ready k ≡ (ltb k bound && is_ready_at owned cash (kind_at rules k))

pub none_ready :
    (rules : List Kind) (owned : List Bool) (cash : ℕ) → AreReadyBelow rules owned cash 0 no_flags
none_ready rules owned cash =
    record {
      size = length-replicate MAX_KINDS false;
      each = λ k below. get_or-replicate MAX_KINDS k false false below ∙ low k;
    }
  where
    low : (k : ℕ) → false ≡ (ltb k 0 && is_ready_at owned cash (kind_at rules k))
    low k = rw (le-ltb k 0 (omega arith)) refl

pub one_more_ready :
    (rules : List Kind) (owned : List Bool) (cash i : ℕ) (ready : List Bool) (product : Kind) →
    kind_at rules i ≡ Some product → AreReadyBelow rules owned cash i ready →
    AreReadyBelow rules owned cash (i + 1) (with_flag ready i (is_ready owned cash product))
one_more_ready rules owned cash i ready product found so_far =
    record {
      size = size_with ready i (is_ready owned cash product) so_far.size;
      each = λ k below.
          flag_with ready i k (is_ready owned cash product) so_far.size below
          ∙ ap (λ (b : Bool). b || (is_ready owned cash product && eqb i k)) (so_far.each k below)
          ∙ at k;
    }
  where
    and_true : (x : Bool) → (x && true) ≡ x
    and_true true = refl
    and_true false = refl

    and_false : (x : Bool) → (x && false) ≡ false
    and_false true = refl
    and_false false = refl

    or_no : (x : Bool) → (x || false) ≡ x
    or_no true = refl
    or_no false = refl

    at :
        (k : ℕ) →
        ((ltb k i && is_ready_at owned cash (kind_at rules k)) || (is_ready owned cash product && eqb i k))
        ≡ (ltb k (i + 1) && is_ready_at owned cash (kind_at rules k))
    at k = elim (cases_eq i k) [
      | inl same ↦ rw (eq-eqb i k same, le-ltb k i (omega (arith, same)), lt-ltb k (i + 1) (omega (arith, same)))
          (and_true (is_ready owned cash product)
          ∙ ap (is_ready_at owned cash) (sym (subst (λ (n : ℕ). kind_at rules n ≡ Some product) same found)))
      | inr other ↦ rw (ne_eqb i k other, and_false (is_ready owned cash product))
          (or_no (ltb k i && is_ready_at owned cash (kind_at rules k))
          ∙ ap (λ (b : Bool). b && is_ready_at owned cash (kind_at rules k)) (shift k other))
    ]
      where
        shift : (k : ℕ) → (i ≡ k → ⊥) → ltb k i ≡ ltb k (i + 1)
        shift k other = elim (cases_lt k i) [
          | inl lt ↦ rw (lt-ltb k i lt, lt-ltb k (i + 1) (omega arith)) refl
          | inr ge ↦ rw (le-ltb k i ge, le-ltb k (i + 1) (omega (arith, other))) refl
        ]

pub all_ready :
    (rules : List Kind) (owned : List Bool) (cash : ℕ) (ready : List Bool) →
    length rules ≤ MAX_KINDS → AreReadyBelow rules owned cash (length rules) ready →
    AreReady rules owned cash ready
all_ready rules owned cash ready few below = record { each = each }
  where
    each : (k : ℕ) → flag_of ready k ≡ is_ready_at owned cash (kind_at rules k)
    each k = elim (cases_lt k (length rules)) [
      | inl lt ↦ below.each k (omega arith)
          ∙ ap (λ (b : Bool). b && is_ready_at owned cash (kind_at rules k)) (lt-ltb k (length rules) lt)
      | inr ge ↦ past ge
    ]
      where
        past : length rules ≤ k → flag_of ready k ≡ is_ready_at owned cash (kind_at rules k)
        past ge = elim (cases_lt k MAX_KINDS) [
          | inl lt ↦ below.each k lt
              ∙ ap (λ (b : Bool). b && is_ready_at owned cash (kind_at rules k)) (le-ltb k (length rules) ge)
              ∙ ap (is_ready_at owned cash) (sym (slice_get_past rules k ge))
          | inr high ↦ get_or_past ready k false (omega (arith, below.size, high))
              ∙ ap (is_ready_at owned cash) (sym (slice_get_past rules k ge))
        ]

-- The client owns all that is needed, by the flags of the kinds that it owns.
needs_agree :
    (owned : List Bool) (actors : List Actor) (c : ℕ) (needs : List ℕ) →
    ((k : ℕ) → k < MAX_KINDS → flag_of owned k ≡ has_kind actors c k) →
    AllByRecursion (λ (k : ℕ). k < MAX_KINDS) needs →
    list_all (flag_of owned) needs ≡ list_all (has_kind actors c) needs
needs_agree owned actors c [] each low = refl
needs_agree owned actors c (k ∷ needs) each low =
    ap₂ (λ (x y : Bool). x && y) (each k low.0) (needs_agree owned actors c needs each low.1)

-- The needs of a kind of valid rules are kinds.
low_needs :
    (kinds : ℕ) (b : Option Buildable) → kinds ≤ MAX_KINDS → IfSome b (IsValidBuildable kinds) →
    AllByRecursion (λ (k : ℕ). k < MAX_KINDS) (needs_in b)
low_needs kinds None few valid = tt
low_needs kinds (Some b) few valid =
    recursion_from_All (λ (k : ℕ). k < MAX_KINDS) b.needs
    (λ k d within. let low : get_or b.needs k d < kinds = valid.needs k d within in omega (arith, low, few))

ready_agrees :
    (rules : List Kind) (goods : Goods) (c : ℕ) (owned : List Bool) (k : ℕ) → AreValidRules rules →
    ((j : ℕ) → j < MAX_KINDS → flag_of owned j ≡ has_kind goods.actors c j) →
    is_ready_at owned (slice_index goods.cash c) (kind_at rules k) ≡ can_produce rules goods c k
ready_agrees rules goods c owned k valid each = at (kind_at rules k) refl
  where
    at :
        (o : Option Kind) → kind_at rules k ≡ o →
        is_ready_at owned (slice_index goods.cash c) o
        ≡ (is_unit (unwrap_or o (plain_kind [])) && has_needs goods.actors c (unwrap_or o (plain_kind []))
        && leb (cost_of (unwrap_or o (plain_kind []))) (slice_index goods.cash c))
    at None found = refl
    at (Some product) found =
        ap (λ (b : Bool). is_unit product && b && leb (cost_of product) (slice_index goods.cash c))
        (needs_agree owned goods.actors c (needs_in product.buildable) each
        (low_needs (length rules) product.buildable valid.limit one.buildable))
      where
        one : IsValidKind (length rules) product
        one = subst (IsValidKind (length rules)) (get_or_from_slice_get rules k product product found)
            (valid.kinds k product (slice_get_within rules k product found))

-- A Produce of a kind fits on an actor that produces and has no builds.
fits_agrees :
    (rules : List Kind) (goods : Goods) (c number : ℕ) (a : Actor) →
    is_some (kind_of rules a.kind).production ≡ true → length a.body.builds ≡ 0 →
    produce_fits rules goods c number a ≡ (can_produce rules goods c number && builds rules a.kind number)
fits_agrees rules goods c number a produces none =
    rw (produces, none) (sorted (is_unit (kind_of rules number)) (builds rules a.kind number)
    (has_needs goods.actors c (kind_of rules number)) (leb (cost_of (kind_of rules number)) (slice_index goods.cash c)))
  where
    and_true : (x : Bool) → x ≡ (x && true)
    and_true true = refl
    and_true false = refl

    and_false : (x : Bool) → false ≡ (x && false)
    and_false true = refl
    and_false false = refl

    sorted : (u b n m : Bool) → (u && b && n && true && m) ≡ (u && n && m && b)
    sorted true true true m = and_true m
    sorted true true false m = refl
    sorted true false n m = and_false (n && m)
    sorted false b n m = refl

find_agrees : (f g : ℕ → Bool) (xs : List ℕ) → ((k : ℕ) → f k ≡ g k) → find f xs ≡ find g xs
find_agrees f g [] same = refl
find_agrees f g (x ∷ xs) same =
    ap₂ (λ (b : Bool) (o : Option ℕ). cond b (Some x) o) (same x) (find_agrees f g xs same)

products_are :
    (p : ProductState) (goods : Goods) (c : ℕ) → AreValidRules p.rules →
    AreReady p.rules (owned_of c goods.actors) (slice_index goods.cash c) p.ready →
    AreProductsOf (record { rules = p.rules; goods = goods; c = c }) p
products_are p goods c valid ready builder =
    find_agrees (is_product p builder)
    (λ (k : ℕ). can_produce p.rules goods c k && builds p.rules builder k)
    (range_with_len 0 (length p.rules)) same
  where
    same : (k : ℕ) → is_product p builder k ≡ (can_produce p.rules goods c k && builds p.rules builder k)
    same k =
        ap (λ (b : Bool). b && builds p.rules builder k)
        (ready.each k
        ∙ ready_agrees p.rules goods c (owned_of c goods.actors) k valid
        (λ j below. owned_are goods.actors c j below))

-- The products find what the definition says; the rules stand apart.
pub products_of :
    (p : ProductState) (rules : List Kind) (goods : Goods) (c : ℕ) → p.rules ≡ rules →
    AreValidRules rules →
    AreReady rules (owned_of c goods.actors) (slice_index goods.cash c) p.ready →
    AreProductsOf (record { rules = rules; goods = goods; c = c }) p
products_of p rules goods c same =
    subst
    (λ (r : List Kind).
    AreValidRules r →
    AreReady r (owned_of c goods.actors) (slice_index goods.cash c) p.ready →
    AreProductsOf (record { rules = r; goods = goods; c = c }) p)
    same (products_are p goods c)

-- For an actor that produces and has no builds, the least kind that is ready is the least of which
-- a Produce fits.
pub least_is :
    (rules : List Kind) (goods : Goods) (c : ℕ) (a : Actor) →
    is_some (kind_of rules a.kind).production ≡ true → length a.body.builds ≡ 0 →
    least_ready rules goods c a.kind ≡ least_product rules goods c a
least_is rules goods c a produces none =
    find_agrees (λ (k : ℕ). can_produce rules goods c k && builds rules a.kind k)
    (λ (k : ℕ). produce_fits rules goods c k a) (range_with_len 0 (length rules))
    (λ k. sym (fits_agrees rules goods c k a produces none))
