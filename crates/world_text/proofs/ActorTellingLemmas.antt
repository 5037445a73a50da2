-- The text of an actor tells all of it.
use Rattle.std.proofs.Common.{◌≡◌, ℕ, ◌+◌, true, List, [], ◌∷◌, ◌++◌, drop, Option, None, Some}
use Rattle.std.proofs.Common.{refl, sym, ap, ap₂, ◌∙◌, arith}
use Rattle.std.specs.Prelude.{codes}
use Rattle.std.specs.Fmt.{decimal}
use Rattle.std.specs.List.{flat_map}
use Rattle.std.proofs.lemmas.List.{append_assoc, append_cancel_left}
use Rattle.std.proofs.lemmas.List.Elements.{recursion_from_All}
use Rattle.world_units.specs.declared.cell.CPos.{CPos}
use Rattle.activities.specs.declared.activity.Activity.{Activity}
use Rattle.activities.specs.declared.activity.Activity.TheVariants.{Move, Attack, Harvest, Deliver}
use Rattle.game_model.specs.declared.actor.Actor.{Actor}
use Rattle.game_model.specs.declared.actor.Body.{Body}
use Rattle.game_model.specs.declared.actor.Leg.{Leg}
use Rattle.game_model.specs.declared.builds.Build.{Build}
use Rattle.world_text.specs.Numbers.{IsHeld, IsCellHeld, IsLegHeld, IsActivityHeld, IsBuildHeld}
use Rattle.world_text.specs.Numbers.{IsActorHeld}
use Rattle.world_text.specs.WorldText.{named_text, place_text, leg_text, counts_text}
use Rattle.world_text.specs.WorldText.{actor_text, at_cell_text, timer_text, waits_text}
use Rattle.world_text.specs.WorldText.{activity_line, build_line}
use Rattle.world_text.proofs.FieldLemmas.{IsTold, stops, number_told, number_first, fields}
use Rattle.world_text.proofs.FieldLemmas.{fields_told, items_told}
use Rattle.world_text.proofs.FieldLemmas.{nth, regroup_3, regroup_4, regroup_5, regroup_6, regroup_7}

-- What an actor is and whose.
abbrev name_words : List (List ℕ)
name_words = codes "actor " ∷ codes " kind " ∷ codes " owner " ∷ []

abbrev name_numbers : Actor → List ℕ
name_numbers a = a.id ∷ a.kind ∷ a.body.owner ∷ []

name_fields :
    (a : Actor) (r : List ℕ) → named_text a ++ r ≡ fields name_words (name_numbers a) r
unfolding named_text
name_fields a r =
    regroup_6 (codes "actor ") (decimal a.id) (codes " kind ") (decimal a.kind) (codes " owner ")
    (decimal a.body.owner) r

-- Where it stands.
abbrev place_words : List (List ℕ)
place_words = codes " cell " ∷ codes "," ∷ codes " facing " ∷ []

abbrev place_numbers : CPos → ℕ → List ℕ
place_numbers cell facing = cell.x ∷ cell.y ∷ facing ∷ []

place_fields :
    (cell : CPos) (facing : ℕ) (r : List ℕ) →
    place_text cell facing ++ r
    ≡ fields place_words (place_numbers cell facing) (codes " leg " ++ r)
unfolding place_text
place_fields cell facing r =
    regroup_7 (codes " cell ") (decimal cell.x) (codes ",") (decimal cell.y) (codes " facing ")
    (decimal facing) (codes " leg ") r

-- Its other numbers.
abbrev count_words : List (List ℕ)
count_words = codes " health " ∷ codes " load " ∷ codes " reload " ∷ []

abbrev count_numbers : Body → List ℕ
count_numbers b = b.health ∷ b.load ∷ b.reload ∷ []

count_fields :
    (b : Body) (r : List ℕ) →
    counts_text b ++ r ≡ fields count_words (count_numbers b) (codes "\n" ++ r)
unfolding counts_text
count_fields b r =
    regroup_7 (codes " health ") (decimal b.health) (codes " load ") (decimal b.load)
    (codes " reload ") (decimal b.reload) (codes "\n") r

-- A leg.
abbrev the_leg : ℕ → ℕ → Leg
the_leg dir progress = record { dir = dir; progress = progress }

leg_split :
    (leg : Leg) (r : List ℕ) →
    leg_text (Some leg) ++ r ≡ decimal leg.dir ++ (codes ":" ++ (decimal leg.progress ++ r))
leg_split leg r = regroup_3 (decimal leg.dir) (codes ":") (decimal leg.progress) r

leg_told :
    (a b : Option Leg) (left right : List ℕ) → IsLegHeld a → IsLegHeld b → stops left ≡ true →
    stops right ≡ true → leg_text a ++ left ≡ leg_text b ++ right → IsTold a b left right
leg_told None None left right held held' is is' same =
    record { same = refl; rest = ap (drop 4) same }
leg_told None (Some b) left right held held' is is' same =
    absurd (number_first b.dir (codes "none" ++ left) (codes ":" ++ (decimal b.progress ++ right))
    held'.0 refl (same ∙ leg_split b right))
leg_told (Some a) None left right held held' is is' same =
    absurd (number_first a.dir (codes "none" ++ right) (codes ":" ++ (decimal a.progress ++ left))
    held.0 refl (sym same ∙ leg_split a left))
leg_told (Some a) (Some b) left right held held' is is' same =
    let dir =
    number_told a.dir b.dir (codes ":" ++ (decimal a.progress ++ left))
    (codes ":" ++ (decimal b.progress ++ right)) held.0 held'.0 refl refl
    (sym (leg_split a left) ∙ same ∙ leg_split b right) in
    let progress =
    number_told a.progress b.progress left right held.1 held'.1 is is' (ap (drop 1) dir.rest) in
    record {
      same = ap (λ (leg : Leg). Some leg) (ap₂ the_leg dir.same progress.same);
      rest = progress.rest;
    }

-- An activity's word and cell.
abbrev the_cell : ℕ → ℕ → CPos
the_cell x y = record { x = x; y = y }

at_cell_split :
    (word : List ℕ) (cell : CPos) (r : List ℕ) →
    at_cell_text word cell ++ r
    ≡ ((codes "act " ++ word) ++ codes " ") ++ (decimal cell.x ++ (codes "," ++ (decimal cell.y ++ r)))
unfolding at_cell_text
at_cell_split word cell r =
    regroup_4 ((codes "act " ++ word) ++ codes " ") (decimal cell.x) (codes ",") (decimal cell.y) r

at_cell_told :
    (word : List ℕ) (a b : CPos) (left right : List ℕ) → IsCellHeld a → IsCellHeld b →
    stops left ≡ true → stops right ≡ true →
    at_cell_text word a ++ left ≡ at_cell_text word b ++ right → IsTold a b left right
at_cell_told word a b left right held held' is is' same =
    let after =
    append_cancel_left ((codes "act " ++ word) ++ codes " ")
    (decimal a.x ++ (codes "," ++ (decimal a.y ++ left)))
    (decimal b.x ++ (codes "," ++ (decimal b.y ++ right)))
    (sym (at_cell_split word a left) ∙ same ∙ at_cell_split word b right) in
    let column =
    number_told a.x b.x (codes "," ++ (decimal a.y ++ left)) (codes "," ++ (decimal b.y ++ right))
    held.column held'.column refl refl after in
    let row =
    number_told a.y b.y left right held.row held'.row is is' (ap (drop 1) column.rest) in
    record { same = ap₂ the_cell column.same row.same; rest = row.rest }

-- The end of its line.
waits_split :
    (waits : ℕ) (r : List ℕ) →
    waits_text waits ++ r ≡ codes " waits " ++ (decimal waits ++ (codes "\n" ++ r))
unfolding waits_text
waits_split waits r = regroup_3 (codes " waits ") (decimal waits) (codes "\n") r

waits_stop : (waits : ℕ) (r : List ℕ) → stops (waits_text waits ++ r) ≡ true
waits_stop waits r = ap stops (waits_split waits r)

waits_told :
    (m n : ℕ) (left right : List ℕ) → IsHeld m → IsHeld n →
    waits_text m ++ left ≡ waits_text n ++ right → IsTold m n left right
waits_told m n left right held held' same =
    let told =
    number_told m n (codes "\n" ++ left) (codes "\n" ++ right) held held' refl refl
    (ap (drop 7) (sym (waits_split m left) ∙ same ∙ waits_split n right)) in
    record { same = told.same; rest = ap (drop 1) told.rest }

-- Activities by the first letter of their word.
abbrev letter : Activity → ℕ
letter (Move goal waits) = 109
letter (Attack target waits) = 97
letter (Harvest cell timer waits) = 104
letter (Deliver home timer waits) = 100

letter_is : (a : Activity) (r : List ℕ) → nth 4 (activity_line a ++ r) ≡ letter a
unfolding at_cell_text
letter_is (Move goal waits) r = refl
letter_is (Attack target waits) r = refl
letter_is (Harvest cell timer waits) r = refl
letter_is (Deliver home timer waits) r = refl

act_begins : (a : Activity) (r : List ℕ) → (nth 0 (activity_line a ++ r) ≡ 97) × (nth 3 (activity_line a ++ r) ≡ 32)
unfolding at_cell_text
act_begins (Move goal waits) r = (refl, refl)
act_begins (Attack target waits) r = (refl, refl)
act_begins (Harvest cell timer waits) r = (refl, refl)
act_begins (Deliver home timer waits) r = (refl, refl)

same_letter :
    (a b : Activity) (left right : List ℕ) → activity_line a ++ left ≡ activity_line b ++ right →
    letter a ≡ letter b
same_letter a b left right same = sym (letter_is a left) ∙ ap (nth 4) same ∙ letter_is b right

timed_told :
    (word : List ℕ) (a b : CPos) (t u w x : ℕ) (left right : List ℕ) → IsCellHeld a →
    IsCellHeld b → IsHeld t → IsHeld u → IsHeld w → IsHeld x →
    ((at_cell_text word a ++ timer_text t) ++ waits_text w) ++ left
    ≡ ((at_cell_text word b ++ timer_text u) ++ waits_text x) ++ right →
    (a ≡ b) × (t ≡ u) × (w ≡ x) × (left ≡ right)
timed_told word a b t u w x left right held held' ht hu hw hx same =
    let cell =
    at_cell_told word a b (timer_text t ++ (waits_text w ++ left))
    (timer_text u ++ (waits_text x ++ right)) held held' refl refl
    (sym (regroup_3 (at_cell_text word a) (timer_text t) (waits_text w) left) ∙ same
    ∙ regroup_3 (at_cell_text word b) (timer_text u) (waits_text x) right) in
    let timer =
    number_told t u (waits_text w ++ left) (waits_text x ++ right) ht hu (waits_stop w left)
    (waits_stop x right) (ap (drop 7) cell.rest) in
    let waits = waits_told w x left right hw hx timer.rest in
    (cell.same, timer.same, waits.same, waits.rest)

activity_told :
    (a b : Activity) (left right : List ℕ) → IsActivityHeld a → IsActivityHeld b →
    activity_line a ++ left ≡ activity_line b ++ right → IsTold a b left right
activity_told (Move a w) (Move b x) left right held held' same =
    let cell =
    at_cell_told (codes "move") a b (waits_text w ++ left) (waits_text x ++ right) held.0 held'.0
    (waits_stop w left) (waits_stop x right)
    (sym (append_assoc (at_cell_text (codes "move") a) (waits_text w) left) ∙ same
    ∙ append_assoc (at_cell_text (codes "move") b) (waits_text x) right) in
    let waits = waits_told w x left right held.1 held'.1 cell.rest in
    record { same = ap₂ Move cell.same waits.same; rest = waits.rest }
activity_told (Attack t w) (Attack u x) left right held held' same =
    let target =
    number_told t u (waits_text w ++ left) (waits_text x ++ right) held.0 held'.0
    (waits_stop w left) (waits_stop x right)
    (ap (drop 11)
    (sym (regroup_3 (codes "act attack ") (decimal t) (waits_text w) left) ∙ same
    ∙ regroup_3 (codes "act attack ") (decimal u) (waits_text x) right)) in
    let waits = waits_told w x left right held.1 held'.1 target.rest in
    record { same = ap₂ Attack target.same waits.same; rest = waits.rest }
activity_told (Harvest a t w) (Harvest b u x) left right held held' same =
    let told =
    timed_told (codes "harvest") a b t u w x left right held.0 held'.0 held.1 held'.1 held.2
    held'.2 same in
    record {
      same = ap₂ (λ (c : CPos) (n : ℕ). Harvest c n w) told.0 told.1 ∙ ap (Harvest b u) told.2;
      rest = told.3;
    }
activity_told (Deliver a t w) (Deliver b u x) left right held held' same =
    let told =
    timed_told (codes "deliver") a b t u w x left right held.0 held'.0 held.1 held'.1 held.2
    held'.2 same in
    record {
      same = ap₂ (λ (c : CPos) (n : ℕ). Deliver c n w) told.0 told.1 ∙ ap (Deliver b u) told.2;
      rest = told.3;
    }
activity_told (Move a w) (Attack u x) left right held held' same =
    absurd (let no : 109 ≡ 97 = same_letter (Move a w) (Attack u x) left right same in omega (arith, no))
activity_told (Move a w) (Harvest b u x) left right held held' same =
    absurd (let no : 109 ≡ 104 = same_letter (Move a w) (Harvest b u x) left right same in omega (arith, no))
activity_told (Move a w) (Deliver b u x) left right held held' same =
    absurd (let no : 109 ≡ 100 = same_letter (Move a w) (Deliver b u x) left right same in omega (arith, no))
activity_told (Attack t w) (Move b x) left right held held' same =
    absurd (let no : 97 ≡ 109 = same_letter (Attack t w) (Move b x) left right same in omega (arith, no))
activity_told (Attack t w) (Harvest b u x) left right held held' same =
    absurd (let no : 97 ≡ 104 = same_letter (Attack t w) (Harvest b u x) left right same in omega (arith, no))
activity_told (Attack t w) (Deliver b u x) left right held held' same =
    absurd (let no : 97 ≡ 100 = same_letter (Attack t w) (Deliver b u x) left right same in omega (arith, no))
activity_told (Harvest a t w) (Move b x) left right held held' same =
    absurd (let no : 104 ≡ 109 = same_letter (Harvest a t w) (Move b x) left right same in omega (arith, no))
activity_told (Harvest a t w) (Attack u x) left right held held' same =
    absurd (let no : 104 ≡ 97 = same_letter (Harvest a t w) (Attack u x) left right same in omega (arith, no))
activity_told (Harvest a t w) (Deliver b u x) left right held held' same =
    absurd (let no : 104 ≡ 100 = same_letter (Harvest a t w) (Deliver b u x) left right same in omega (arith, no))
activity_told (Deliver a t w) (Move b x) left right held held' same =
    absurd (let no : 100 ≡ 109 = same_letter (Deliver a t w) (Move b x) left right same in omega (arith, no))
activity_told (Deliver a t w) (Attack u x) left right held held' same =
    absurd (let no : 100 ≡ 97 = same_letter (Deliver a t w) (Attack u x) left right same in omega (arith, no))
activity_told (Deliver a t w) (Harvest b u x) left right held held' same =
    absurd (let no : 100 ≡ 104 = same_letter (Deliver a t w) (Harvest b u x) left right same in omega (arith, no))

-- A build.
abbrev the_build : ℕ → ℕ → Build
the_build kind left = record { kind = kind; left = left }

build_fields :
    (b : Build) (r : List ℕ) →
    build_line b ++ r
    ≡ fields (codes "build kind " ∷ codes " left " ∷ []) (b.kind ∷ b.left ∷ []) (codes "\n" ++ r)
unfolding build_line
build_fields b r =
    regroup_5 (codes "build kind ") (decimal b.kind) (codes " left ") (decimal b.left)
    (codes "\n") r

build_begins : (b : Build) (r : List ℕ) → nth 0 (build_line b ++ r) ≡ 98
build_begins b r = ap (nth 0) (build_fields b r)

build_told :
    (a b : Build) (left right : List ℕ) → IsBuildHeld a → IsBuildHeld b →
    build_line a ++ left ≡ build_line b ++ right → IsTold a b left right
build_told a b left right held held' same =
    let told =
    fields_told (codes "build kind " ∷ codes " left " ∷ []) (a.kind ∷ a.left ∷ [])
    (b.kind ∷ b.left ∷ []) (codes "\n" ++ left) (codes "\n" ++ right) refl refl refl
    (held.kind, (held.turns, tt)) (held'.kind, (held'.turns, tt)) refl refl
    (sym (build_fields a left) ∙ same ∙ build_fields b right) in
    record {
      same = ap₂ the_build (ap (nth 0) told.same) (ap (nth 1) told.same);
      rest = ap (drop 1) told.rest;
    }

-- What follows an actor is no line of a build or an activity.
pub record IsAfter (l : List ℕ) : Type 0 where
  pub no_build : nth 0 l ≡ 98 → ⊥
  pub no_act : nth 0 l ≡ 97 → nth 3 l ≡ 32 → ⊥

actor_regrouped :
    (a : Actor) (r : List ℕ) →
    actor_text a ++ r
    ≡ named_text a ++ (place_text a.cell a.body.facing ++ (leg_text a.body.leg
    ++ (counts_text a.body ++ (flat_map activity_line a.body.acts
    ++ (flat_map build_line a.body.builds ++ r)))))
actor_regrouped a r =
    regroup_6 (named_text a) (place_text a.cell a.body.facing) (leg_text a.body.leg)
    (counts_text a.body) (flat_map activity_line a.body.acts) (flat_map build_line a.body.builds) r

pub actor_begins : (a : Actor) (r : List ℕ) → (nth 0 (actor_text a ++ r) ≡ 97) × (nth 3 (actor_text a ++ r) ≡ 111)
actor_begins a r =
    let all = actor_regrouped a r ∙ name_fields a (place_text a.cell a.body.facing ++ (leg_text a.body.leg
    ++ (counts_text a.body ++ (flat_map activity_line a.body.acts
    ++ (flat_map build_line a.body.builds ++ r))))) in
    (ap (nth 0) all, ap (nth 3) all)

pub actor_after : (a : Actor) (r : List ℕ) → IsAfter (actor_text a ++ r)
actor_after a r =
    let begins = actor_begins a r in
    record {
      no_build = λ is. (let no : 97 ≡ 98 = sym begins.0 ∙ is in omega (arith, no));
      no_act = λ first is. (let no : 111 ≡ 32 = sym begins.1 ∙ is in omega (arith, no));
    }

no_act_left :
    (builds : List Build) (left : List ℕ) → IsAfter left → (x : Activity) (rest : List ℕ) →
    activity_line x ++ rest ≡ flat_map build_line builds ++ left → ⊥
no_act_left [] left after x rest is =
    let begins = act_begins x rest in
    after.no_act (sym (ap (nth 0) is) ∙ begins.0) (sym (ap (nth 3) is) ∙ begins.1)
no_act_left (b ∷ builds) left after x rest is =
    let begins = act_begins x rest in
    let build =
    ap (nth 0) (append_assoc (build_line b) (flat_map build_line builds) left)
    ∙ build_begins b (flat_map build_line builds ++ left) in
    let no : 97 ≡ 98 = sym begins.0 ∙ ap (nth 0) is ∙ build in
    omega (arith, no)

no_build_left :
    (left : List ℕ) → IsAfter left → (x : Build) (rest : List ℕ) → build_line x ++ rest ≡ left → ⊥
no_build_left left after x rest is =
    after.no_build (sym (ap (nth 0) is) ∙ build_begins x rest)

place_stops :
    (cell : CPos) (facing : ℕ) (r : List ℕ) → stops (place_text cell facing ++ r) ≡ true
place_stops cell facing r = ap stops (place_fields cell facing r)

counts_stop : (b : Body) (r : List ℕ) → stops (counts_text b ++ r) ≡ true
counts_stop b r = ap stops (count_fields b r)

abbrev the_actor :
    (id kind owner : ℕ) → CPos → ℕ → Option Leg → (health load reload : ℕ) → List Activity →
    List Build → Actor
the_actor id kind owner cell facing leg health load reload acts builds =
    record {
      id = id;
      kind = kind;
      cell = cell;
      body =
          record {
            owner = owner;
            facing = facing;
            leg = leg;
            health = health;
            load = load;
            reload = reload;
            acts = acts;
            builds = builds;
          };
    }

pub actor_told :
    (a b : Actor) (left right : List ℕ) → IsActorHeld a → IsActorHeld b → IsAfter left →
    IsAfter right → actor_text a ++ left ≡ actor_text b ++ right → IsTold a b left right
actor_told a b left right held held' f f' same =
    let p = a.body in
    let q = b.body in
    let builds_a : List ℕ = flat_map build_line p.builds ++ left in
    let builds_b : List ℕ = flat_map build_line q.builds ++ right in
    let acts_a : List ℕ = flat_map activity_line p.acts ++ builds_a in
    let acts_b : List ℕ = flat_map activity_line q.acts ++ builds_b in
    let counts_a : List ℕ = counts_text p ++ acts_a in
    let counts_b : List ℕ = counts_text q ++ acts_b in
    let legs_a : List ℕ = leg_text p.leg ++ counts_a in
    let legs_b : List ℕ = leg_text q.leg ++ counts_b in
    let places_a : List ℕ = place_text a.cell p.facing ++ legs_a in
    let places_b : List ℕ = place_text b.cell q.facing ++ legs_b in
    let whole = sym (actor_regrouped a left) ∙ same ∙ actor_regrouped b right in
    let name =
    fields_told name_words (name_numbers a) (name_numbers b) places_a places_b refl refl refl
    (held.id, (held.kind, (held.owner, tt))) (held'.id, (held'.kind, (held'.owner, tt)))
    (place_stops a.cell p.facing legs_a) (place_stops b.cell q.facing legs_b)
    (sym (name_fields a places_a) ∙ whole ∙ name_fields b places_b) in
    let place =
    fields_told place_words (place_numbers a.cell p.facing) (place_numbers b.cell q.facing)
    (codes " leg " ++ legs_a) (codes " leg " ++ legs_b) refl refl refl
    (held.cell.column, (held.cell.row, (held.facing, tt)))
    (held'.cell.column, (held'.cell.row, (held'.facing, tt))) refl refl
    (sym (place_fields a.cell p.facing legs_a) ∙ name.rest ∙ place_fields b.cell q.facing legs_b) in
    let leg =
    leg_told p.leg q.leg counts_a counts_b held.leg held'.leg (counts_stop p acts_a)
    (counts_stop q acts_b) (ap (drop 5) place.rest) in
    let counts =
    fields_told count_words (count_numbers p) (count_numbers q) (codes "\n" ++ acts_a)
    (codes "\n" ++ acts_b) refl refl refl (held.health, (held.load, (held.reload, tt)))
    (held'.health, (held'.load, (held'.reload, tt))) refl refl
    (sym (count_fields p acts_a) ∙ leg.rest ∙ count_fields q acts_b) in
    let acts =
    items_told IsActivityHeld activity_line (λ (l : List ℕ). Unit {0}) (λ x rest. tt)
    (λ x y l r h h' g g' is. activity_told x y l r h h' is) p.acts q.acts builds_a builds_b
    (recursion_from_All IsActivityHeld p.acts held.acts)
    (recursion_from_All IsActivityHeld q.acts held'.acts) tt tt (no_act_left p.builds left f)
    (no_act_left q.builds right f') (ap (drop 1) counts.rest) in
    let builds =
    items_told IsBuildHeld build_line (λ (l : List ℕ). Unit {0}) (λ x rest. tt)
    (λ x y l r h h' g g' is. build_told x y l r h h' is) p.builds q.builds left right
    (recursion_from_All IsBuildHeld p.builds held.builds)
    (recursion_from_All IsBuildHeld q.builds held'.builds) tt tt (no_build_left left f)
    (no_build_left right f') acts.rest in
    let cell : a.cell ≡ b.cell = ap₂ the_cell (ap (nth 0) place.same) (ap (nth 1) place.same) in
    record {
      same =
          ap₂ (λ i k. the_actor i k p.owner a.cell p.facing p.leg p.health p.load p.reload p.acts p.builds)
          (ap (nth 0) name.same) (ap (nth 1) name.same)
          ∙ ap₂ (λ o c. the_actor b.id b.kind o c p.facing p.leg p.health p.load p.reload p.acts p.builds)
          (ap (nth 2) name.same) cell
          ∙ ap₂ (λ f l. the_actor b.id b.kind q.owner b.cell f l p.health p.load p.reload p.acts p.builds)
          (ap (nth 2) place.same) leg.same
          ∙ ap₂ (λ h l. the_actor b.id b.kind q.owner b.cell q.facing q.leg h l p.reload p.acts p.builds)
          (ap (nth 0) counts.same) (ap (nth 1) counts.same)
          ∙ ap₂ (λ r l. the_actor b.id b.kind q.owner b.cell q.facing q.leg q.health q.load r l p.builds)
          (ap (nth 2) counts.same) acts.same
          ∙ ap (λ l. the_actor b.id b.kind q.owner b.cell q.facing q.leg q.health q.load q.reload q.acts l)
          builds.same;
      rest = builds.rest;
    }
