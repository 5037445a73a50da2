-- A player's world is the fold over the frames that came down.
use Rattle.std.proofs.Common.{◌≡◌, ◌≢◌, ℕ, zero, suc, ◌+◌, ◌<◌, ◌==◌, ◌&&◌, ◌||◌, nat_lt, Bool}
use Rattle.std.proofs.Common.{true, false, cond, not, List, [], ◌∷◌, Option, Some, None}
use Rattle.std.proofs.Common.{Result, Ok, Err, refl, sym, ap, ap₂, subst, ◌∙◌, arith, inl, inr}
use Rattle.std.specs.Prelude.{if◌then◌else◌, is_some, ◌⊎◌}
use Rattle.std.specs.List.{AllByRecursion, find}
use Rattle.std.specs.Option.{option_map, option_or}
use Rattle.std.proofs.lemmas.Bool.{and_parts, eqb-true}
use Rattle.std.proofs.lemmas.Bool.Decides.{nat_tests}
use Rattle.game_orders.specs.declared.order.Order.{Order}
use Rattle.game_orders.specs.declared.entry.Entry.{Entry as one_entry}
use Rattle.game_orders.specs.declared.entry.Entry.TheVariants.{Play, Leave}
use Rattle.game_orders.specs.declared.limits.TheConstants.{MAX_FRAMES}
use Rattle.game_orders.specs.Entry.{is_play, same_entry}
use Rattle.game_orders.specs.EntryEquality.{entry_decides}
use Rattle.frame_core.specs.declared.ready.Ready.{Ready}
use Rattle.frame_core.specs.declared.ready.Ready.TheVariants as ready
use Rattle.frame_core.specs.Input.{ready_from}
use Rattle.frame_core.specs.Ready.{frame_of, inputs_of}
use Rattle.frame_core.proofs.AgreedLemmas.{ready_all}
use Rattle.frame_core.specs.Fold.{folded}
use Rattle.frame_core.proofs.FoldLemmas.{folded_same, folded_step}
use Rattle.frame_core.specs.Tick.{ticked_after, stepped}
use Rattle.peer_core.specs.declared.arrived.Arrived.{Arrived}
use Rattle.peer_core.specs.declared.delivered.Delivered.{Delivered}
use Rattle.peer_core.specs.declared.delivered.Delivered.TheVariants as delivered
use Rattle.peer_core.specs.Arrived.{is_of, is_left, kept_at, left_before, or_left, has_of, each_of}
use Rattle.peer_core.specs.Arrived.{ready_by, frame_by, stands_before, with_arrived}
use Rattle.peer_core.specs.Delivery.{is_beyond, past_of, against, delivery_of, after_delivery}
use Rattle.peer_core.specs.Peer.{PeerState, ticked_peer, delivered_peer}
use Rattle.peer_core.specs.Receipt.{receipt_of}
use Rattle.order_packets.specs.declared.down.Down.{Down}
use Rattle.order_packets.specs.declared.down.Down.TheVariants as down
use Rattle.base.specs.Steps.{◌>>=◌}
use Rattle.match_net.specs.declared.stop_reason.StopReason.{StopReason}
use Rattle.match_net.specs.declared.stop_reason.StopReason.TheVariants as stop
use Rattle.match_net.specs.declared.play_cause.PlayCause.{PlayCause}
use Rattle.match_net.specs.declared.play_cause.PlayCause.TheVariants as cause
use Rattle.match_net.specs.Plays.{Plays}
use Rattle.match_net.specs.Playing.{Course, Player, Stage, Telling, telling, ticked_if, tick_once}
use Rattle.match_net.specs.Playing.{ticks, all_ticked, sealed_if, round, is_over, after_receipt}
use Rattle.match_net.specs.Stages.{Terms, is_match, welcomed, greeting_bytes, after_down, rounded}
use Rattle.match_net.specs.Stages.{after_later, after_packets}
use Rattle.match_net.specs.CameDown.{came_down, IsFold}
use Rattle.match_net.proofs.TickLemmas.{ticks_rest}

-- One more entry in what is found.
find_other :
    (p : Arrived → Bool) (a : Arrived) (xs : List Arrived) → p a ≡ false →
    find p (with_arrived a xs) ≡ find p xs
find_other p a [] other = ap (λ b. cond b (Some a) None) other
find_other p a (x ∷ xs) other =
    elim (stands_before a x) as (λ b. find p (if b then a ∷ x ∷ xs else x ∷ with_arrived a xs)
    ≡ find p (x ∷ xs)) [
      | true ↦ ap (λ b. cond b (Some a) (find p (x ∷ xs))) other
      | false ↦ ap (cond (p x) (Some x)) (find_other p a xs other)
    ]

-- Nothing was found before it.
none_first : (p : Arrived → Bool) (x : Arrived) (found : Option Arrived) →
    cond (p x) (Some x) found ≡ None → (p x ≡ false) × (found ≡ None)
none_first p x found none = by (p x) none refl where
  by : (b : Bool) → cond b (Some x) found ≡ None → p x ≡ b → (p x ≡ false) × (found ≡ None)
  by true none is = absurd cc
  by false none is = (is, none)

find_new :
    (p : Arrived → Bool) (a : Arrived) (xs : List Arrived) → p a ≡ true → find p xs ≡ None →
    find p (with_arrived a xs) ≡ Some a
find_new p a [] here none = ap (λ b. cond b (Some a) None) here
find_new p a (x ∷ xs) here none =
    let first = none_first p x (find p xs) none in
    elim (stands_before a x) as (λ b. find p (if b then a ∷ x ∷ xs else x ∷ with_arrived a xs)
    ≡ Some a) [
      | true ↦ ap (λ b. cond b (Some a) (find p (x ∷ xs))) here
      | false ↦ ap (λ b. cond b (Some x) (find p (with_arrived a xs))) first.0
          ∙ find_new p a xs here first.1
    ]

some_if : {X : Type 0} (f : Arrived → X) (b : Bool) (x : Arrived) (us vs : Option Arrived) →
    (is_some (option_map f us) ≡ true → is_some (option_map f vs) ≡ true) →
    is_some (option_map f (cond b (Some x) us)) ≡ true →
    is_some (option_map f (cond b (Some x) vs)) ≡ true
some_if f true x us vs goes some = refl
some_if f false x us vs goes some = goes some

some_more : {X : Type 0} (f : Arrived → X) (b : Bool) (a : Arrived) (us : Option Arrived) →
    is_some (option_map f us) ≡ true → is_some (option_map f (cond b (Some a) us)) ≡ true
some_more f true a us some = refl
some_more f false a us some = some

some_stays :
    {X : Type 0} (f : Arrived → X) (p : Arrived → Bool) (a : Arrived) (xs : List Arrived) →
    is_some (option_map f (find p xs)) ≡ true →
    is_some (option_map f (find p (with_arrived a xs))) ≡ true
some_stays f p a [] some = absurd cc
some_stays f p a (x ∷ xs) some =
    elim (stands_before a x) as (λ b. is_some (option_map f
    (find p (if b then a ∷ x ∷ xs else x ∷ with_arrived a xs))) ≡ true) [
      | true ↦ some_more f (p a) a (find p (x ∷ xs)) some
      | false ↦ some_if f (p x) x (find p xs) (find p (with_arrived a xs))
          (some_stays f p a xs) some
    ]

-- What a kept entry is, and a repeated one.
against_kept : (k : Option one_entry) (p : Option ℕ) (e : one_entry) →
    against k p e ≡ delivered.Kept → (k ≡ None) × (p ≡ None)
against_kept None None e is = (refl, refl)
against_kept None (Some at) e is = absurd cc
against_kept (Some kept) p e is = absurd (by (same_entry e kept) is) where
  by : (b : Bool) → (if b then delivered.Repeat else delivered.Conflict kept) ≡ delivered.Kept → ⊥
  by true is = cc
  by false is = cc

against_repeat : (k : Option one_entry) (p : Option ℕ) (e : one_entry) →
    against k p e ≡ delivered.Repeat → k ≡ Some e
against_repeat None None e is = absurd cc
against_repeat None (Some at) e is = absurd cc
against_repeat (Some kept) p e is = by (same_entry e kept) refl is where
  by : (b : Bool) → same_entry e kept ≡ b →
      (if b then delivered.Repeat else delivered.Conflict kept) ≡ delivered.Repeat →
      Some kept ≡ Some e
  by true same is = ap Some (sym ((entry_decides e kept).0 same))
  by false same is = absurd cc

past_none : (left later : Option ℕ) → option_or left later ≡ None → left ≡ None
past_none None later none = refl
past_none (Some at) later none = absurd cc

-- What a delivery that keeps an entry was given.
pub record Keeps (xs : List Arrived) (c n : ℕ) (e : one_entry) : Type 0 where
  pub in_match : is_beyond n e ≡ false
  pub none : kept_at xs c n ≡ None
  pub stays : left_before xs c n ≡ None

kept_so : (xs : List Arrived) (c n : ℕ) (e : one_entry) (b : Bool) → is_beyond n e ≡ b →
    (if b then delivered.Beyond else against (kept_at xs c n) (past_of xs c n e) e)
    ≡ delivered.Kept → Keeps xs c n e
kept_so xs c n e true beyond is = absurd cc
kept_so xs c n e false beyond is =
    let parts = against_kept (kept_at xs c n) (past_of xs c n e) e is in
    record {
      in_match = beyond;
      none = parts.0;
      stays = past_none (left_before xs c n) _ parts.1;
    }

pub keeps : (xs : List Arrived) (c n : ℕ) (e : one_entry) →
    delivery_of xs c n e ≡ delivered.Kept → Keeps xs c n e
keeps xs c n e is = kept_so xs c n e (is_beyond n e) refl is

repeated_so : (xs : List Arrived) (c n : ℕ) (e : one_entry) (b : Bool) →
    (if b then delivered.Beyond else against (kept_at xs c n) (past_of xs c n e) e)
    ≡ delivered.Repeat → kept_at xs c n ≡ Some e
repeated_so xs c n e true is = absurd cc
repeated_so xs c n e false is = against_repeat (kept_at xs c n) (past_of xs c n e) e is

pub repeated : (xs : List Arrived) (c n : ℕ) (e : one_entry) →
    delivery_of xs c n e ≡ delivered.Repeat → kept_at xs c n ≡ Some e
repeated xs c n e is = repeated_so xs c n e (is_beyond n e) is

abbrev pub entry_of : ℕ → ℕ → one_entry → Arrived
entry_of c n e = record { client = c; frame = n; entry = e }

-- What is kept after it.
pub kept_here : (xs : List Arrived) (c n d m : ℕ) (e : one_entry) → Keeps xs c n e →
    is_of d m (entry_of c n e) ≡ true →
    (kept_at (with_arrived (entry_of c n e) xs) d m ≡ Some e) × (kept_at xs d m ≡ None)
kept_here xs c n d m e kept here =
    let parts = and_parts (c == d) (n == m) here in
    let none : kept_at xs d m ≡ None =
    ap₂ (kept_at xs) (sym (eqb-true c d parts.0)) (sym (eqb-true n m parts.1)) ∙ kept.none in (
      ap (option_map (λ a. a.entry)) (find_new (is_of d m) (entry_of c n e) xs here
          (unmapped (find (is_of d m) xs) none)),
      none,
    )
  where
    unmapped : (found : Option Arrived) → option_map (λ a. a.entry) found ≡ None → found ≡ None
    unmapped None none = refl
    unmapped (Some a) none = absurd cc

pub kept_there : (xs : List Arrived) (c n d m : ℕ) (e : one_entry) →
    is_of d m (entry_of c n e) ≡ false →
    kept_at (with_arrived (entry_of c n e) xs) d m ≡ kept_at xs d m
kept_there xs c n d m e other =
    ap (option_map (λ a. a.entry)) (find_other (is_of d m) (entry_of c n e) xs other)

-- What a client has for a frame stays.
stays_by : (k : Option one_entry) (l more : Option ℕ) → is_some (or_left k l) ≡ true →
    (is_some l ≡ true → is_some more ≡ true) → or_left k more ≡ or_left k l
stays_by (Some e) l more some goes = refl
stays_by None (Some at) (Some later) some goes = refl
stays_by None (Some at) None some goes = absurd (let no : false ≡ true = goes refl in cc)
stays_by None None more some goes = absurd cc

has_stays : (xs : List Arrived) (c n d m : ℕ) (e : one_entry) → Keeps xs c n e →
    is_some (has_of xs d m) ≡ true →
    has_of (with_arrived (entry_of c n e) xs) d m ≡ has_of xs d m
has_stays xs c n d m e kept some =
    by (is_of d m (entry_of c n e)) refl
  where
    more : List Arrived
    more = with_arrived (entry_of c n e) xs

    by : (b : Bool) → is_of d m (entry_of c n e) ≡ b → has_of more d m ≡ has_of xs d m
    by true here =
        let parts = and_parts (c == d) (n == m) here in
        let none : has_of xs d m ≡ None =
        ap₂ (has_of xs) (sym (eqb-true c d parts.0)) (sym (eqb-true n m parts.1))
        ∙ ap₂ or_left kept.none kept.stays in
        absurd (let no : false ≡ true = sym (ap is_some none) ∙ some in cc)
    by false other =
        ap (λ k. or_left k (left_before more d m)) (kept_there xs c n d m e other)
        ∙ stays_by (kept_at xs d m) (left_before xs d m) (left_before more d m) some
        (some_stays (λ a. a.frame) (is_left d m) (entry_of c n e) xs)

each_stays : (xs : List Arrived) (c n d more m : ℕ) (e : one_entry) → Keeps xs c n e →
    AllByRecursion (λ has. is_some has ≡ true) (each_of xs d more m) →
    each_of (with_arrived (entry_of c n e) xs) d more m ≡ each_of xs d more m
each_stays xs c n d zero m e kept all = refl
each_stays xs c n d (suc more) m e kept all =
    ap₂ (λ has rest. has ∷ rest) (has_stays xs c n d m e kept all.0)
    (each_stays xs c n (d + 1) more m e kept all.1)

-- So a frame that is ready stays as it is.
pub ready_stays : (xs : List Arrived) (c n clients k : ℕ) (e : one_entry) → Keeps xs c n e →
    ready_by xs clients k ≡ ready.Yes →
    (ready_by (with_arrived (entry_of c n e) xs) clients k ≡ ready.Yes)
    × (frame_by (with_arrived (entry_of c n e) xs) clients k ≡ frame_by xs clients k)
ready_stays xs c n clients k e kept is =
    let same = each_stays xs c n 0 clients k e kept
    (ready_all 0 false (each_of xs 0 clients k) is) in
    (ap (λ each. ready_from 0 false (inputs_of each)) same ∙ is, ap frame_of same)

-- A frame that is ready is one of a match.
abbrev pub IsInFrames : List Arrived → Type 0
IsInFrames xs =
    (c n : ℕ) (orders : List Order) → kept_at xs c n ≡ Some (Play orders) → n < MAX_FRAMES

pub frames_stay : (xs : List Arrived) (c n : ℕ) (e : one_entry) → Keeps xs c n e →
    IsInFrames xs → IsInFrames (with_arrived (entry_of c n e) xs)
frames_stay xs c n e kept within d m orders is =
    by (is_of d m (entry_of c n e)) refl
  where
    inside : (e : one_entry) → is_beyond n e ≡ false → e ≡ Play orders → n < MAX_FRAMES
    inside (Play others) before same = grind (arith, nat_tests)
    inside Leave before same = absurd cc

    by : (b : Bool) → is_of d m (entry_of c n e) ≡ b → m < MAX_FRAMES
    by true here =
        let parts = and_parts (c == d) (n == m) here in
        let there : Some e ≡ Some (Play orders) = sym (kept_here xs c n d m e kept here).0 ∙ is in
        subst (λ k. k < MAX_FRAMES) (eqb-true n m parts.1) (inside e kept.in_match cc)
    by false other = within d m orders (sym (kept_there xs c n d m e other) ∙ is)

has_play : (k : Option one_entry) (l : Option ℕ) (orders : List Order) →
    or_left k l ≡ Some (Play orders) → k ≡ Some (Play orders)
has_play (Some e) l orders is = is
has_play None (Some at) orders is = absurd cc
has_play None None orders is = absurd cc

ready_play : (xs : List Arrived) (first c more n : ℕ) →
    ready_from first false (inputs_of (each_of xs c more n)) ≡ ready.Yes →
    (d : ℕ) × ((orders : List Order) × (kept_at xs d n ≡ Some (Play orders)))
ready_play xs first c zero n is = absurd cc
ready_play xs first c (suc more) n is =
    by (has_of xs c n) refl is (ready_play xs (first + 1) (c + 1) more n)
  where
    by : (has : Option one_entry) → has_of xs c n ≡ has →
        ready_from first false (inputs_of (has ∷ each_of xs (c + 1) more n)) ≡ ready.Yes →
        (ready_from (first + 1) false (inputs_of (each_of xs (c + 1) more n)) ≡ ready.Yes →
        (d : ℕ) × ((orders : List Order) × (kept_at xs d n ≡ Some (Play orders)))) →
        (d : ℕ) × ((orders : List Order) × (kept_at xs d n ≡ Some (Play orders)))
    by None there is rest = absurd cc
    by (Some (Play orders)) there is rest =
        (c, (orders, has_play (kept_at xs c n) (left_before xs c n) orders there))
    by (Some Leave) there is rest = rest is

pub ready_in_frames : (xs : List Arrived) (clients n : ℕ) → IsInFrames xs →
    ready_by xs clients n ≡ ready.Yes → n < MAX_FRAMES
ready_in_frames xs clients n within is =
    let play = ready_play xs 0 0 clients n is in
    within play.0 n play.1.0 play.1.1

-- What each tick of a frame that is ready keeps, all ticks keep, and a whole round.
pub tick_keeps :
    {W : Type 0} (P : PeerState W → Type 0) (course : Course W) →
    ((p : PeerState W) → ready_by p.arrived p.clients p.ticked ≡ ready.Yes → P p →
    P (ticked_peer course.after p)) →
    (quiet : Bool) (now : Telling W) → P now.peer → P (tick_once course quiet now).peer
tick_keeps {W = W} P course step quiet now holds =
    by (ready_by now.peer.arrived now.peer.clients now.peer.ticked) refl
  where
    by : (r : Ready) → ready_by now.peer.arrived now.peer.clients now.peer.ticked ≡ r →
        P (ticked_if r course quiet now).peer
    by ready.Yes is = step now.peer is holds
    by (ready.NotYet c) is = holds
    by ready.Over is = holds

pub ticks_keep :
    {W : Type 0} (P : PeerState W → Type 0) (course : Course W) →
    ((p : PeerState W) → ready_by p.arrived p.clients p.ticked ≡ ready.Yes → P p →
    P (ticked_peer course.after p)) →
    (more : ℕ) (quiet : Bool) (now : Telling W) → P now.peer →
    P (ticks more course quiet now).peer
unfolding ticks
ticks_keep P course step zero quiet now holds = holds
ticks_keep P course step (suc more) quiet now holds =
    ticks_keep P course step more quiet (tick_once course quiet now)
    (tick_keeps P course step quiet now holds)

sealed_keeps :
    {W : Type 0} (P : PeerState W → Type 0) (quiet : Bool) (plays : Plays W)
    (sealed : ℕ) (now : Telling W) → P now.peer → P (sealed_if quiet plays sealed now).player.peer
sealed_keeps P true plays sealed now holds = holds
sealed_keeps P false plays sealed now holds = holds

pub round_keeps :
    {W : Type 0} (P : PeerState W → Type 0) (course : Course W) →
    ((p : PeerState W) → ready_by p.arrived p.clients p.ticked ≡ ready.Yes → P p →
    P (ticked_peer course.after p)) →
    (plays : Plays W) (now : Stage W) → P now.player.peer →
    P (round course plays now).player.peer
round_keeps P course step plays now holds =
    sealed_keeps P now.player.quiet plays now.player.sealed
    (all_ticked course now.player.quiet (telling now.player.peer now.said))
    (ticks_keep P course step MAX_FRAMES now.player.quiet (telling now.player.peer now.said) holds)

-- Ticks stop only where no frame is ready, or each of them ticked one.
abbrev IsReadyNext : {W : Type 0} → PeerState W → Type 0
IsReadyNext p = ready_by p.arrived p.clients p.ticked ≡ ready.Yes

ticks_count :
    {W : Type 0} (more : ℕ) (course : Course W) (quiet : Bool) (now : Telling W) →
    IsReadyNext (ticks more course quiet now).peer →
    (ticks more course quiet now).peer.ticked ≡ now.peer.ticked + more
unfolding ticks
ticks_count zero course quiet now next = omega arith
ticks_count {W = W} (suc more) course quiet now next =
    by (ready_by now.peer.arrived now.peer.clients now.peer.ticked) refl
    (ticks_count more course quiet (tick_once course quiet now) next)
  where
    tick : Telling W
    tick = tick_once course quiet now

    stuck : tick ≡ now → ready_by now.peer.arrived now.peer.clients now.peer.ticked ≢ ready.Yes → ⊥
    stuck same never =
        let rests : ticks more course quiet tick ≡ now =
        ap (ticks more course quiet) same ∙ ticks_rest more course quiet now (sym same) in
        never (subst (λ (t : Telling W). IsReadyNext t.peer) rests next)

    by : (r : Ready) → ready_by now.peer.arrived now.peer.clients now.peer.ticked ≡ r →
        (ticks more course quiet tick).peer.ticked ≡ tick.peer.ticked + more →
        (ticks more course quiet tick).peer.ticked ≡ now.peer.ticked + suc more
    by ready.Yes is all =
        let one : tick.peer.ticked ≡ now.peer.ticked + 1 =
        ap (λ (r : Ready). (ticked_if r course quiet now).peer.ticked) is
        ∙ ap (λ (r : Ready). ticked_after r now.peer.ticked) is in
        omega (arith, one, all)
    by (ready.NotYet c) is all =
        absurd (stuck (ap (λ (r : Ready). ticked_if r course quiet now) is)
        (λ yes. let no : ready.NotYet c ≡ ready.Yes = sym is ∙ yes in cc))
    by ready.Over is all =
        absurd (stuck (ap (λ (r : Ready). ticked_if r course quiet now) is)
        (λ yes. let no : ready.Over ≡ ready.Yes = sym is ∙ yes in cc))

-- What a player's peer is between its packets: it came from this world, so many clients play, and
-- it has ticked frames that are ready.
pub record IsSteady {W : Type 0} (after : W → List one_entry → W) (start : W) (clients : ℕ)
    (peer : PeerState W) : Type 0 where
  pub clients_are : peer.clients ≡ clients
  pub within : IsInFrames peer.arrived
  pub ticked_ready : (k : ℕ) → k < peer.ticked → ready_by peer.arrived clients k ≡ ready.Yes
  pub world :
      peer.world ≡ folded after start (λ k. frame_by peer.arrived clients k) peer.ticked

below_or_at : (k n : ℕ) → k < n + 1 → (k < n) ⊎ (k ≡ n)
below_or_at k n below = grind arith

pub steady_tick :
    {W : Type 0} (after : W → List one_entry → W) (start : W) (clients : ℕ) (peer : PeerState W) →
    ready_by peer.arrived peer.clients peer.ticked ≡ ready.Yes →
    IsSteady after start clients peer → IsSteady after start clients (ticked_peer after peer)
steady_tick {W = W} after start clients peer is steady =
    let count : ticked_after (ready_by peer.arrived peer.clients peer.ticked) peer.ticked
    ≡ peer.ticked + 1 = ap (λ (r : Ready). ticked_after r peer.ticked) is in
    let here : ready_by peer.arrived clients peer.ticked ≡ ready.Yes =
    ap (λ (c : ℕ). ready_by peer.arrived c peer.ticked) (sym steady.clients_are) ∙ is in
    record {
      clients_are = steady.clients_are;
      within = steady.within;
      ticked_ready = λ k below. by k here (below_or_at k peer.ticked
          (subst (λ (n : ℕ). k < n) count below));
      world =
          ap (λ (r : Ready). stepped r after peer.world
          (frame_by peer.arrived peer.clients peer.ticked)) is
          ∙ ap₂ (λ (w : W) (c : ℕ). after w (frame_by peer.arrived c peer.ticked)) steady.world
          steady.clients_are
          ∙ sym (folded_step after start (λ k. frame_by peer.arrived clients k) peer.ticked)
          ∙ ap (λ (n : ℕ). folded after start (λ k. frame_by peer.arrived clients k) n)
          (sym count);
    }
  where
    by : (k : ℕ) → ready_by peer.arrived clients peer.ticked ≡ ready.Yes →
        (k < peer.ticked) ⊎ (k ≡ peer.ticked) → ready_by peer.arrived clients k ≡ ready.Yes
    by k here (inl before) = steady.ticked_ready k before
    by k here (inr same) = ap (λ (n : ℕ). ready_by peer.arrived clients n) same ∙ here

-- An entry that is kept.
steady_kept :
    {W : Type 0} (after : W → List one_entry → W) (start : W) (clients c n : ℕ) (e : one_entry)
    (peer next : PeerState W) → Keeps peer.arrived c n e →
    next ≡ record peer { arrived = with_arrived (entry_of c n e) peer.arrived } →
    IsSteady after start clients peer → IsSteady after start clients next
steady_kept after start clients c n e peer next kept is steady =
    subst (IsSteady after start clients) (sym is) (record {
      clients_are = steady.clients_are;
      within = frames_stay peer.arrived c n e kept steady.within;
      ticked_ready = λ k below.
          (ready_stays peer.arrived c n clients k e kept (steady.ticked_ready k below)).0;
      world = steady.world
          ∙ folded_same after start (λ k. frame_by peer.arrived clients k)
          (λ k. frame_by (with_arrived (entry_of c n e) peer.arrived) clients k) peer.ticked
          (λ k below.
          sym (ready_stays peer.arrived c n clients k e kept (steady.ticked_ready k below)).1);
    })

-- What an entry that a player follows is.
pub record Follows {W : Type 0} (packet : Down) (player next : Player W) : Type 0 where
  pub client : ℕ
  pub frame : ℕ
  pub entry : one_entry
  pub packet_is : packet ≡ down.Entry client frame entry
  pub peer_is : next.peer ≡ delivered_peer player.peer client frame entry
  pub answer :
      (delivery_of player.peer.arrived client frame entry ≡ delivered.Kept)
      ⊎ (delivery_of player.peer.arrived client frame entry ≡ delivered.Repeat)

follows_by :
    {W : Type 0} (player next : Player W) (c n : ℕ) (e : one_entry) (d : Delivered) →
    delivery_of player.peer.arrived c n e ≡ d →
    after_receipt (receipt_of d) player c n e ≡ Ok next → Follows (down.Entry c n e) player next
follows_by {W = W} player next c n e delivered.Kept is went =
    let same : record player {
      peer = delivered_peer player.peer c n e;
      quiet = player.quiet || ((c == player.peer.me) && not (is_play e));
    } ≡ next = cc in
    record {
      client = c;
      frame = n;
      entry = e;
      packet_is = refl;
      peer_is = sym (ap (λ (p : Player W). p.peer) same);
      answer = inl is;
    }
follows_by {W = W} player next c n e delivered.Repeat is went =
    let same : record player {
      peer = delivered_peer player.peer c n e;
      quiet = player.quiet || ((c == player.peer.me) && not (is_play e));
    } ≡ next = cc in
    record {
      client = c;
      frame = n;
      entry = e;
      packet_is = refl;
      peer_is = sym (ap (λ (p : Player W). p.peer) same);
      answer = inr is;
    }
follows_by player next c n e (delivered.Conflict kept) is went = absurd cc
follows_by player next c n e (delivered.Past at) is went = absurd cc
follows_by player next c n e delivered.Beyond is went = absurd cc

pub follows_so :
    {W : Type 0} (player next : Player W) (packet : Down) →
    after_down player packet ≡ Ok next → Follows packet player next
follows_so player next (down.Welcome client clients lag seed) went = absurd cc
follows_so player next (down.Refused code) went = absurd cc
follows_so {W = W} player next (down.Entry c n e) went = by (nat_lt c player.peer.clients) went where
  by : (there : Bool) →
      (if there then after_receipt (receipt_of (delivery_of player.peer.arrived c n e)) player c n e
      else Err cause.BadClient) ≡ Ok next → Follows (down.Entry c n e) player next
  by true went = follows_by player next c n e (delivery_of player.peer.arrived c n e) refl went
  by false went = absurd cc

-- A later packet that goes on.
pub record Rounds {W : Type 0} (terms : Terms W) (now : Stage W) (packet : Down) (next : Stage W) :
    Type 0 where
  pub player : Player W
  pub follows : after_down now.player packet ≡ Ok player
  pub next_is :
      next ≡ round terms.course terms.plays (record { player = player; said = now.said })

pub goes_round :
    {W : Type 0} (terms : Terms W) (now next : Stage W) (packet : Down) →
    after_later terms now packet ≡ Ok next → Rounds terms now packet next
goes_round {W = W} terms now next packet went = by_over (is_over now.player.peer) went where
  by_down : (d : Result (Player W) PlayCause) → after_down now.player packet ≡ d →
      rounded terms now.said d ≡ Ok next → Rounds terms now packet next
  by_down (Ok player) is went =
      let same : round terms.course terms.plays (record { player = player; said = now.said })
      ≡ next = cc in
      record { player = player; follows = is; next_is = sym same }
  by_down (Err why) is went = absurd cc

  by_over : (over : Bool) →
      (if over then Err stop.Over else rounded terms now.said (after_down now.player packet))
      ≡ Ok next → Rounds terms now packet next
  by_over true went = absurd cc
  by_over false went = by_down (after_down now.player packet) refl went

-- The entry that a packet is, after what was kept.
abbrev HasMore : List Arrived → List Arrived → Down → Type 0
HasMore olds news packet =
    (c n : ℕ) (packets : List Down) →
    option_or (kept_at news c n) (came_down packets c n)
    ≡ option_or (kept_at olds c n) (came_down (packet ∷ packets) c n)

kept_more : (xs : List Arrived) (c n : ℕ) (e : one_entry) → Keeps xs c n e →
    HasMore xs (with_arrived (entry_of c n e) xs) (down.Entry c n e)
kept_more xs c n e kept d m packets = by ((c == d) && (n == m)) refl where
  by : (here : Bool) → ((c == d) && (n == m)) ≡ here →
      option_or (kept_at (with_arrived (entry_of c n e) xs) d m) (came_down packets d m)
      ≡ option_or (kept_at xs d m) (if here then Some e else came_down packets d m)
  by true is =
      let so = kept_here xs c n d m e kept is in
      ap (λ (k : Option one_entry). option_or k (came_down packets d m)) so.0
      ∙ sym (ap (λ (k : Option one_entry). option_or k (Some e)) so.1)
  by false is =
      ap (λ (k : Option one_entry). option_or k (came_down packets d m))
      (kept_there xs c n d m e is)

repeat_more : (xs : List Arrived) (c n : ℕ) (e : one_entry) → kept_at xs c n ≡ Some e →
    HasMore xs xs (down.Entry c n e)
repeat_more xs c n e kept d m packets = by ((c == d) && (n == m)) refl where
  by : (here : Bool) → ((c == d) && (n == m)) ≡ here →
      option_or (kept_at xs d m) (came_down packets d m)
      ≡ option_or (kept_at xs d m) (if here then Some e else came_down packets d m)
  by true is =
      let parts = and_parts (c == d) (n == m) is in
      let there : kept_at xs d m ≡ Some e =
      ap₂ (kept_at xs) (sym (eqb-true c d parts.0)) (sym (eqb-true n m parts.1)) ∙ kept in
      ap (λ (k : Option one_entry). option_or k (came_down packets d m)) there
      ∙ sym (ap (λ (k : Option one_entry). option_or k (Some e)) there)
  by false is = refl

-- What an entry that is followed leaves.
pub followed :
    {W : Type 0} (after : W → List one_entry → W) (start : W) (clients : ℕ) (packet : Down)
    (player next : Player W) → Follows packet player next →
    IsSteady after start clients player.peer →
    IsSteady after start clients next.peer × HasMore player.peer.arrived next.peer.arrived packet
followed {W = W} after start clients packet player next goes steady = by goes.answer where
  c : ℕ
  c = goes.client

  n : ℕ
  n = goes.frame

  e : one_entry
  e = goes.entry

  xs : List Arrived
  xs = player.peer.arrived

  moved : (d : Delivered) → delivery_of xs c n e ≡ d →
      next.peer ≡ record player.peer { arrived = after_delivery d (entry_of c n e) xs }
  moved d is = goes.peer_is
      ∙ ap (λ (d : Delivered). record player.peer {
        arrived = after_delivery d (entry_of c n e) xs;
      }) is

  by : (delivery_of xs c n e ≡ delivered.Kept) ⊎ (delivery_of xs c n e ≡ delivered.Repeat) →
      IsSteady after start clients next.peer × HasMore xs next.peer.arrived packet
  by (inl is) =
      let kept = keeps xs c n e is in
      let there = moved delivered.Kept is in (
        steady_kept after start clients c n e player.peer next.peer kept there steady,
        subst (HasMore xs next.peer.arrived) (sym goes.packet_is)
            (subst (λ (news : List Arrived). HasMore xs news (down.Entry c n e))
            (sym (ap (λ (p : PeerState W). p.arrived) there)) (kept_more xs c n e kept)),
      )
  by (inr is) =
      let there = moved delivered.Repeat is in (
        subst (IsSteady after start clients) (sym there) steady,
        subst (HasMore xs next.peer.arrived) (sym goes.packet_is)
            (subst (λ (news : List Arrived). HasMore xs news (down.Entry c n e))
            (sym (ap (λ (p : PeerState W). p.arrived) there))
            (repeat_more xs c n e (repeated xs c n e is))),
      )

-- A round of a steady player.
pub round_steady :
    {W : Type 0} (terms : Terms W) (start : W) (clients : ℕ) (now : Stage W) →
    IsSteady terms.course.after start clients now.player.peer →
    IsSteady terms.course.after start clients
    (round terms.course terms.plays now).player.peer
round_steady terms start clients now steady =
    round_keeps (IsSteady terms.course.after start clients) terms.course
    (λ p is holds. steady_tick terms.course.after start clients p is holds) terms.plays now steady

pub round_arrived :
    {W : Type 0} (terms : Terms W) (now : Stage W) →
    (round terms.course terms.plays now).player.peer.arrived ≡ now.player.peer.arrived
round_arrived {W = W} terms now =
    round_keeps (λ (p : PeerState W). p.arrived ≡ now.player.peer.arrived) terms.course
    (λ p is holds. holds) terms.plays now refl

-- After a round the next frame is not ready.
pub round_stops :
    {W : Type 0} (terms : Terms W) (start : W) (clients : ℕ) (now : Stage W) →
    IsSteady terms.course.after start clients now.player.peer →
    IsReadyNext (round terms.course terms.plays now).player.peer → ⊥
round_stops {W = W} terms start clients now steady next =
    stops (ticks_keep (IsSteady terms.course.after start clients) terms.course
    (λ p is holds. steady_tick terms.course.after start clients p is holds) MAX_FRAMES
    now.player.quiet (telling now.player.peer now.said) steady) (unsealed now.player.quiet next)
  where
    all : Telling W
    all = all_ticked terms.course now.player.quiet (telling now.player.peer now.said)

    unsealed : (quiet : Bool) →
        IsReadyNext (sealed_if quiet terms.plays now.player.sealed all).player.peer →
        IsReadyNext all.peer
    unsealed true is = is
    unsealed false is = is

    stops : IsSteady terms.course.after start clients all.peer → IsReadyNext all.peer → ⊥
    stops last is =
        let count : all.peer.ticked ≡ now.player.peer.ticked + MAX_FRAMES =
        ticks_count MAX_FRAMES terms.course now.player.quiet
        (telling now.player.peer now.said) is in
        let low : all.peer.ticked < MAX_FRAMES =
        ready_in_frames all.peer.arrived all.peer.clients all.peer.ticked last.within is in
        omega (arith, count, low)

-- A player that stands after a round.
pub record IsSettled {W : Type 0} (terms : Terms W) (start : W) (clients : ℕ) (now : Stage W) :
    Type 0 where
  pub steady : IsSteady terms.course.after start clients now.player.peer
  pub stopped : IsReadyNext now.player.peer → ⊥

settles :
    {W : Type 0} (terms : Terms W) (start : W) (clients : ℕ) (now : Stage W) →
    IsSteady terms.course.after start clients now.player.peer →
    IsSettled terms start clients (round terms.course terms.plays now)
settles terms start clients now steady =
    record {
      steady = round_steady terms start clients now steady;
      stopped = round_stops terms start clients now steady;
    }

-- Packets one after another.
pub all_followed :
    {W : Type 0} (terms : Terms W) (start : W) (clients : ℕ) (now last : Stage W)
    (packets : List Down) →
    IsSettled terms start clients now →
    after_packets terms (Some now) packets ≡ Ok (Some last) →
    IsSettled terms start clients last
    × ((c n : ℕ) → kept_at last.player.peer.arrived c n
    ≡ option_or (kept_at now.player.peer.arrived c n) (came_down packets c n))
all_followed {W = W} terms start clients now last [] settled follows =
    let same : now ≡ last = cc in (
      subst (IsSettled terms start clients) same settled,
      λ c n. ap (λ (s : Stage W). kept_at s.player.peer.arrived c n) (sym same)
          ∙ or_none (kept_at now.player.peer.arrived c n),
    )
  where
    or_none : (k : Option one_entry) → k ≡ option_or k None
    or_none None = refl
    or_none (Some e) = refl
all_followed {W = W} terms start clients now last (packet ∷ packets) settled follows =
    by (after_later terms now packet) refl follows
    (λ next there rest. all_followed terms start clients next last packets there rest)
  where
    Rest : Type 0
    Rest = (next : Stage W) → IsSettled terms start clients next →
        after_packets terms (Some next) packets ≡ Ok (Some last) →
        IsSettled terms start clients last
        × ((c n : ℕ) → kept_at last.player.peer.arrived c n
        ≡ option_or (kept_at next.player.peer.arrived c n) (came_down packets c n))

    on : Rest → (next : Stage W) → after_later terms now packet ≡ Ok next →
        after_packets terms (Some next) packets ≡ Ok (Some last) →
        IsSettled terms start clients last
        × ((c n : ℕ) → kept_at last.player.peer.arrived c n
        ≡ option_or (kept_at now.player.peer.arrived c n) (came_down (packet ∷ packets) c n))
    on others next went rest =
        let rounds = goes_round terms now next packet went in
        let mid : Stage W = record { player = rounds.player; said = now.said } in
        let so = followed terms.course.after start clients packet now.player rounds.player
        (follows_so now.player rounds.player packet rounds.follows) settled.steady in
        let there : IsSettled terms start clients next =
        subst (IsSettled terms start clients) (sym rounds.next_is)
        (settles terms start clients mid so.0) in
        let arrived : next.player.peer.arrived ≡ rounds.player.peer.arrived =
        ap (λ (s : Stage W). s.player.peer.arrived) rounds.next_is ∙ round_arrived terms mid in
        let all = others next there rest in (
          all.0,
          λ c n. all.1 c n
              ∙ ap (λ (xs : List Arrived). option_or (kept_at xs c n) (came_down packets c n))
              arrived
              ∙ so.1 c n packets,
        )

    by : (a : Result (Stage W) StopReason) → after_later terms now packet ≡ a →
        (a >>= λ next. after_packets terms (Some next) packets) ≡ Ok (Some last) → Rest →
        IsSettled terms start clients last
        × ((c n : ℕ) → kept_at last.player.peer.arrived c n
        ≡ option_or (kept_at now.player.peer.arrived c n) (came_down (packet ∷ packets) c n))
    by (Ok next) went rest others = on others next went rest
    by (Err why) went rest others = absurd cc

-- From the welcome on.
pub is_fold :
    {W : Type 0} (terms : Terms W) (client clients lag seed : ℕ) (packets : List Down)
    (now : Stage W) →
    after_packets terms None (down.Welcome client clients lag seed ∷ packets) ≡ Ok (Some now) →
    IsFold terms.course.after (terms.made seed clients) clients packets now.player.peer
is_fold {W = W} terms client clients lag seed packets now follows =
    by (is_match client clients lag) follows
  where
    start : W
    start = terms.made seed clients

    fresh : Stage W
    fresh =
        record {
          player = welcomed terms.made client clients lag seed;
          said = greeting_bytes terms.rules;
        }

    new : IsSteady terms.course.after start clients fresh.player.peer
    new =
        record {
          clients_are = refl;
          within = λ c n orders is. absurd (let no : None ≡ Some (Play orders) = is in cc);
          ticked_ready = λ k below. absurd (omega (arith, below));
          world = refl;
        }

    done : after_packets terms (Some (round terms.course terms.plays fresh)) packets
        ≡ Ok (Some now) → IsFold terms.course.after start clients packets now.player.peer
    done rest =
        let all = all_followed terms start clients (round terms.course terms.plays fresh) now
        packets (settles terms start clients fresh new) rest in
        let steady = all.0.steady in
        record {
          clients_are = steady.clients_are;
          has = λ c n. all.1 c n
              ∙ ap (λ (xs : List Arrived). option_or (kept_at xs c n) (came_down packets c n))
              (round_arrived terms fresh);
          ticked_ready = steady.ticked_ready;
          next = λ is. all.0.stopped
              (ap (λ (k : ℕ). ready_by now.player.peer.arrived k now.player.peer.ticked)
              steady.clients_are ∙ is);
          world = steady.world;
        }

    by : (fits : Bool) →
        ((if fits then Ok (round terms.course terms.plays fresh)
        else Err (stop.Bad cause.BadWelcome))
        >>= λ next. after_packets terms (Some next) packets) ≡ Ok (Some now) →
        IsFold terms.course.after start clients packets now.player.peer
    by true rest = done rest
    by false rest = absurd cc
