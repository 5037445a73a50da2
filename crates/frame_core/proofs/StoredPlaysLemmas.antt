-- The plays at places, where both the places and the plays that have orders grow.
use Rattle.std.proofs.Common.{◌≡◌, ℕ, zero, suc, ◌≤◌, ◌<◌, true, List, [], ◌∷◌, ◌++◌}
use Rattle.std.proofs.Common.{length, get_or, refl, ap, ap₂, sym, ◌∙◌, arith, length-append, inl, inr}
use Rattle.std.specs.Prelude.{nat_le}
use Rattle.std.specs.List.{list_all}
use Rattle.std.proofs.lemmas.Bool.{and_parts, and_from, leb-true, le-leb}
use Rattle.std.proofs.lemmas.List.{map_push, get_or_append_left}
use Rattle.std.proofs.Math.Seq.{get_or-append_seam}
use Rattle.std.proofs.lemmas.List.Folds.{list_all-append}
use Rattle.std.proofs.lemmas.Option.{slice_get_read, get_or_from_slice_get}
use Rattle.game_orders.specs.declared.order.Order.{Order}
use Rattle.game_orders.specs.declared.entry.Entry.{Entry}
use Rattle.game_orders.specs.declared.entry.Entry.TheVariants.{Play, Leave}
use Rattle.frame_core.specs.StoredPlays.{orders_of, play_at, plays_at, is_place}
use Rattle.frame_core.specs.StoredPlays.{ArePlays, Keeps}

-- An entry that is kept is a play.
kept_play : (full : List Entry) (k : ℕ) → ArePlays full → k < length full → get_or full k Leave ≡ Play (orders_of (get_or full k Leave))
kept_play [] k plays below = absurd (omega arith)
kept_play (Play orders ∷ full) zero plays below = refl
kept_play (Play orders ∷ full) (suc k) plays below = kept_play full k plays (omega arith)
kept_play (Leave ∷ full) k plays below = absurd plays

-- What is lent at a place after 0 is the play there.
pub lent_full :
    (full : List Entry) (i place : ℕ) (e : Entry) → suc i ≡ place → nat_le place (length full) ≡ true → ArePlays full →
    e ≡ get_or full i e → e ≡ Play (play_at full place)
lent_full full i place e next there plays at =
    let low : place ≤ length full = leb-true place (length full) there in
    let below : i < length full = omega (arith, low, next) in
    sym (get_or_from_slice_get full i e Leave (slice_get_read full (length full) i e refl below at))
    ∙ kept_play full i plays below ∙ ap (λ p. Play (play_at full p)) next

ArePlays-push : (full : List Entry) (orders : List Order) → ArePlays full → ArePlays (full ++ Play orders ∷ [])
ArePlays-push [] orders plays = tt
ArePlays-push (Play first ∷ full) orders plays = ArePlays-push full orders plays
ArePlays-push (Leave ∷ full) orders plays = absurd plays

-- With one more play that has orders all others stay.
play_at-more : (full : List Entry) (e : Entry) (place : ℕ) → place ≤ length full → play_at (full ++ e ∷ []) place ≡ play_at full place
play_at-more full e zero there = refl
play_at-more full e (suc k) there = ap orders_of (get_or_append_left full (e ∷ []) Leave k (omega arith))

plays_at-more :
    (full : List Entry) (e : Entry) (places : List ℕ) → list_all (is_place (length full)) places ≡ true →
    plays_at (full ++ e ∷ []) places ≡ plays_at full places
plays_at-more full e [] all = refl
plays_at-more full e (p ∷ places) all =
    let parts = and_parts (is_place (length full) p) (list_all (is_place (length full)) places) all in
    ap₂ (λ x xs. x ∷ xs) (play_at-more full e p (leb-true p (length full) parts.0)) (plays_at-more full e places parts.1)

all_places-more : (size more : ℕ) (places : List ℕ) → size ≤ more → list_all (is_place size) places ≡ true → list_all (is_place more) places ≡ true
all_places-more size more [] longer all = refl
all_places-more size more (p ∷ places) longer all =
    let parts = and_parts (is_place size p) (list_all (is_place size) places) all in
    let low = leb-true p size parts.0 in
    and_from (is_place more p) (list_all (is_place more) places)
    (le-leb p more (omega arith)) (all_places-more size more places longer parts.1)

all_places-push :
    (size : ℕ) (places : List ℕ) (place : ℕ) → list_all (is_place size) places ≡ true → place ≤ size →
    list_all (is_place size) (places ++ place ∷ []) ≡ true
all_places-push size places place all there =
    list_all-append (is_place size) places (place ∷ [])
    ∙ and_from (list_all (is_place size) places) (list_all (is_place size) (place ∷ [])) all
    (and_from (is_place size place) true (le-leb place size there) refl)

-- The plays with one more.
pub record Pushed (full full' : List Entry) (places places' : List ℕ) (orders : List Order) : Type 0 where
  pub there : list_all (is_place (length full')) places' ≡ true
  pub plays : ArePlays full'
  pub seen : plays_at full' places' ≡ plays_at full places ++ orders ∷ []

pushed_at :
    (full full' : List Entry) (places : List ℕ) (orders : List Order) (place : ℕ) →
    list_all (is_place (length full)) places ≡ true → ArePlays full → Keeps full full' orders place →
    Pushed full full' places (places ++ place ∷ []) orders
pushed_at full full' places orders place all plays (inl empty) =
    rw empty.1 (
    rw empty.2 (
    record {
      there = all_places-push (length full) places 0 all (omega arith);
      plays = plays;
      seen = map_push (play_at full) places 0 ∙ ap (λ o. plays_at full places ++ o ∷ []) (sym empty.0);
    }
    )
    )
pushed_at full full' places orders place all plays (inr more) =
    let e = Play orders in
    let long = length-append full (e ∷ []) in
    rw more.0 (
    rw more.1 (
    record {
      there =
          all_places-push (length (full ++ e ∷ [])) places (suc (length full))
          (all_places-more (length full) (length (full ++ e ∷ [])) places (omega arith) all) (omega arith);
      plays = ArePlays-push full orders plays;
      seen =
          map_push (play_at (full ++ e ∷ [])) places (suc (length full))
          ∙ ap₂ (λ xs x. xs ++ x ∷ []) (plays_at-more full e places all) (ap orders_of (get_or-append_seam full e [] Leave));
    }
    )
    )

pub pushed :
    (full full' : List Entry) (places reserved places' : List ℕ) (orders : List Order) (place : ℕ) →
    list_all (is_place (length full)) places ≡ true → ArePlays full → reserved ≡ places →
    places' ≡ reserved ++ place ∷ [] → Keeps full full' orders place → Pushed full full' places places' orders
pushed full full' places reserved places' orders place all plays same is kept =
    rw is (rw same (pushed_at full full' places orders place all plays kept))
