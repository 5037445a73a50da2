-- What a player has written after each of its rounds.
use Rattle.std.proofs.Common.{◌≡◌, ℕ, zero, suc, ◌+◌, ◌-◌, ◌<◌, ◌≤◌, ◌==◌, ◌&&◌, ◌||◌, nat_lt}
use Rattle.std.proofs.Common.{Bool, true, false, not, List, [], ◌∷◌, ◌++◌, Some, None}
use Rattle.std.proofs.Common.{Result, Ok, Err, refl, sym, ap, ap₂, subst, ◌∙◌, arith, inl, inr}
use Rattle.std.proofs.Common.{append-nil}
use Rattle.std.specs.Prelude.{if◌then◌else◌, nat_le, min, max, ◌⊎◌}
use Rattle.std.proofs.lemmas.Bool.Decides.{nat_tests}
use Rattle.base.specs.Steps.{◌>>=◌}
use Rattle.game_orders.specs.declared.order.Order.{Order}
use Rattle.game_orders.specs.declared.entry.Entry.{Entry as one_entry}
use Rattle.game_orders.specs.declared.entry.Entry.TheVariants.{Play, Leave}
use Rattle.game_orders.specs.declared.limits.TheConstants.{MAX_FRAMES}
use Rattle.game_orders.specs.Entry.{is_play}
use Rattle.frame_core.specs.declared.ready.Ready.{Ready}
use Rattle.frame_core.specs.declared.ready.Ready.TheVariants as ready
use Rattle.frame_core.specs.Fold.{folded}
use Rattle.frame_core.proofs.FoldLemmas.{folded_same}
use Rattle.frame_core.specs.Tick.{ticked_after}
use Rattle.order_packets.specs.declared.down.Down.{Down}
use Rattle.order_packets.specs.declared.down.Down.TheVariants as down
use Rattle.order_packets.specs.declared.up.Up.{Up}
use Rattle.order_packets.specs.declared.up.Up.TheVariants.{Sync, Bye}
use Rattle.order_packets.specs.PacketBytes.{up_bytes}
use Rattle.peer_core.specs.declared.arrived.Arrived.{Arrived}
use Rattle.peer_core.specs.declared.delivered.Delivered.{Delivered}
use Rattle.peer_core.specs.declared.delivered.Delivered.TheVariants as delivered
use Rattle.peer_core.specs.Arrived.{ready_by, frame_by}
use Rattle.peer_core.specs.Delivery.{delivery_of, after_delivery}
use Rattle.peer_core.specs.Peer.{PeerState, ticked_peer, delivered_peer}
use Rattle.peer_core.specs.Receipt.{receipt_of}
use Rattle.match_net.specs.declared.stop_reason.StopReason.{StopReason}
use Rattle.match_net.specs.declared.stop_reason.StopReason.TheVariants as stop
use Rattle.match_net.specs.declared.play_cause.PlayCause.TheVariants as cause
use Rattle.match_net.specs.Playing.{Course, Player, Stage, Telling, telling, ticked_if, tick_once}
use Rattle.match_net.specs.Playing.{ticks, all_ticked, sealed_bytes, may_seal, farewell_bytes}
use Rattle.match_net.specs.Playing.{sealed_if, round, after_receipt}
use Rattle.match_net.specs.Stages.{Terms, is_match, welcomed, greeting_bytes, after_down}
use Rattle.match_net.specs.Stages.{after_later, after_packets}
use Rattle.match_net.specs.WritesInTurn.{ups_bytes, count_orders, count_reports, world_after}
use Rattle.match_net.specs.WritesInTurn.{hash_after, orders_by}
use Rattle.match_net.specs.WritesInTurn.{IsInTurn, WritesInTurn}
use Rattle.match_net.proofs.FoldLemmas.{IsSteady, steady_tick, entry_of, keeps, ready_stays}
use Rattle.match_net.proofs.FoldLemmas.{Follows, follows_so, followed, goes_round}
use Rattle.match_net.proofs.WritingLemmas.{Leads, leads_then, leads_in_turn, leads_counts}
use Rattle.match_net.proofs.WritingLemmas.{leads_same, in_turn_ahead, said_then, Seals, seals}

-- What each tick of a frame that is ready keeps of a peer and of what was said, all ticks keep.
tick_tells :
    {W : Type 0} (P : Telling W → Type 0) (course : Course W) (quiet : Bool) →
    ((t : Telling W) → ready_by t.peer.arrived t.peer.clients t.peer.ticked ≡ ready.Yes → P t →
    P (ticked_if ready.Yes course quiet t)) →
    (now : Telling W) → P now → P (tick_once course quiet now)
tick_tells {W = W} P course quiet step now holds =
    by (ready_by now.peer.arrived now.peer.clients now.peer.ticked) refl
  where
    by : (r : Ready) → ready_by now.peer.arrived now.peer.clients now.peer.ticked ≡ r →
        P (ticked_if r course quiet now)
    by ready.Yes is = step now is holds
    by (ready.NotYet c) is = holds
    by ready.Over is = holds

ticks_tell :
    {W : Type 0} (P : Telling W → Type 0) (course : Course W) (quiet : Bool) →
    ((t : Telling W) → ready_by t.peer.arrived t.peer.clients t.peer.ticked ≡ ready.Yes → P t →
    P (ticked_if ready.Yes course quiet t)) →
    (more : ℕ) (now : Telling W) → P now → P (ticks more course quiet now)
unfolding ticks
ticks_tell P course quiet step zero now holds = holds
ticks_tell P course quiet step (suc more) now holds =
    ticks_tell P course quiet step more (tick_once course quiet now)
    (tick_tells P course quiet step now holds)

-- What stays of a peer from a stage on while it ticks.
record Stays {W : Type 0} (terms : Terms W) (start : W) (clients : ℕ) (first peer : PeerState W) :
    Type 0 where
  pub steady : IsSteady terms.course.after start clients peer
  pub arrived : peer.arrived ≡ first.arrived
  pub lag : peer.lag ≡ first.lag
  pub me : peer.me ≡ first.me
  pub more : first.ticked ≤ peer.ticked

one_more :
    {W : Type 0} (after : W → List one_entry → W) (p : PeerState W) →
    ready_by p.arrived p.clients p.ticked ≡ ready.Yes →
    (ticked_peer after p).ticked ≡ p.ticked + 1
one_more after p is = ap (λ (r : Ready). ticked_after r p.ticked) is

stays_tick :
    {W : Type 0} (terms : Terms W) (start : W) (clients : ℕ) (first p : PeerState W) →
    ready_by p.arrived p.clients p.ticked ≡ ready.Yes → Stays terms start clients first p →
    Stays terms start clients first (ticked_peer terms.course.after p)
stays_tick terms start clients first p is stays =
    let count = one_more terms.course.after p is in
    let least = stays.more in
    record {
      steady = steady_tick terms.course.after start clients p is stays.steady;
      arrived = stays.arrived;
      lag = stays.lag;
      me = stays.me;
      more = omega (arith, count, least);
    }

-- Ticks of a player that writes no more.
record Silent {W : Type 0} (terms : Terms W) (start : W) (clients : ℕ) (first : PeerState W)
    (said : List ℕ) (t : Telling W) : Type 0 where
  pub stays : Stays terms start clients first t.peer
  pub same : t.said ≡ said

silent_tick :
    {W : Type 0} (terms : Terms W) (start : W) (clients : ℕ) (first : PeerState W)
    (said : List ℕ) (t : Telling W) →
    ready_by t.peer.arrived t.peer.clients t.peer.ticked ≡ ready.Yes →
    Silent terms start clients first said t →
    Silent terms start clients first said (ticked_if ready.Yes terms.course true t)
silent_tick terms start clients first said t is silent =
    record {
      stays = stays_tick terms start clients first t.peer is silent.stays;
      same = append-nil t.said ∙ silent.same;
    }

-- Ticks of a player that writes: it has written this, which leads to the ticked frames.
record Tells {W : Type 0} (terms : Terms W) (start : W) (client clients lag sealed : ℕ)
    (first : PeerState W) (t : Telling W) : Type 0 where
  pub stays : Stays terms start clients first t.peer
  pub written : List Up
  pub said : t.said ≡ greeting_bytes terms.rules ++ ups_bytes written
  pub leads : Leads terms.plays.frames (orders_by terms start client clients first.arrived) lag
      (hash_after terms start clients first.arrived) 0 0 written t.peer.ticked sealed

tells_tick :
    {W : Type 0} (terms : Terms W) (start : W) (client clients lag sealed : ℕ)
    (first : PeerState W) (t : Telling W) →
    ready_by t.peer.arrived t.peer.clients t.peer.ticked ≡ ready.Yes →
    Tells terms start client clients lag sealed first t →
    Tells terms start client clients lag sealed first (ticked_if ready.Yes terms.course false t)
tells_tick {W = W} terms start client clients lag sealed first t is tells =
    record {
      stays = next;
      written = tells.written ++ sync ∷ [];
      said = said_then (greeting_bytes terms.rules) t.said (up_bytes sync) tells.written
          (sync ∷ []) tells.said (sym (append-nil (up_bytes sync)));
      leads = leads_then terms.plays.frames (orders_by terms start client clients first.arrived)
          lag (hash_after terms start clients first.arrived) 0 0
          t.peer.ticked sealed (ticked_peer terms.course.after t.peer).ticked sealed tells.written
          (sync ∷ []) tells.leads (refl, sum, (count, refl));
    }
  where
    sync : Up
    sync = Sync t.peer.ticked (terms.course.hash (ticked_peer terms.course.after t.peer).world)

    next : Stays terms start clients first (ticked_peer terms.course.after t.peer)
    next = stays_tick terms start clients first t.peer is tells.stays

    count : (ticked_peer terms.course.after t.peer).ticked ≡ t.peer.ticked + 1
    count = one_more terms.course.after t.peer is

    sum : terms.course.hash (ticked_peer terms.course.after t.peer).world
        ≡ hash_after terms start clients first.arrived t.peer.ticked
    sum = ap terms.course.hash (next.steady.world
        ∙ ap₂ (λ (xs : List Arrived) (n : ℕ).
        folded terms.course.after start (λ k. frame_by xs clients k) n) next.arrived count)

-- A player between its packets: what it has written leads to the frames that it has reported and
-- sealed, and perhaps its farewell follows.
pub record IsWriting {W : Type 0} (terms : Terms W) (start : W) (client clients lag : ℕ)
    (now : Stage W) : Type 0 where
  pub steady : IsSteady terms.course.after start clients now.player.peer
  pub lag_is : now.player.peer.lag ≡ lag
  pub me_is : now.player.peer.me ≡ client
  pub written : List Up
  pub last : List Up
  pub reported : ℕ
  pub sealed : ℕ
  pub said_is : now.said ≡ greeting_bytes terms.rules ++ ups_bytes (written ++ last)
  pub leads : Leads terms.plays.frames
      (orders_by terms start client clients now.player.peer.arrived) lag
      (hash_after terms start clients now.player.peer.arrived) 0 0 written reported sealed
  pub below : reported ≤ now.player.peer.ticked
  pub ends : (last ≡ []) ⊎ ((last ≡ Bye ∷ []) × (terms.plays.frames ≤ reported))
  pub going : now.player.quiet ≡ false →
      (last ≡ []) × (reported ≡ now.player.peer.ticked) × (sealed ≡ now.player.sealed)
      × (sealed ≤ terms.plays.frames) × (sealed ≤ now.player.peer.ticked + lag)

-- One that has done what it can.
pub record IsRounded {W : Type 0} (terms : Terms W) (client clients lag : ℕ) (start : W)
    (now : Stage W) : Type 0 where
  pub writing : IsWriting terms start client clients lag now
  pub full : now.player.quiet ≡ false →
      now.player.sealed ≡ min (terms.plays.frames) (now.player.peer.ticked + lag)
  pub done : terms.plays.frames ≤ now.player.peer.ticked → now.player.quiet ≡ true

-- Hashes by what arrived.
hashes_by :
    {W : Type 0} (terms : Terms W) (start : W) (clients n : ℕ) (xs ys : List Arrived) → xs ≡ ys →
    hash_after terms start clients xs n ≡ hash_after terms start clients ys n
hashes_by terms start clients n xs ys same =
    ap (λ (zs : List Arrived). hash_after terms start clients zs n) same

-- The round of a player that writes no more.
silent_round :
    {W : Type 0} (terms : Terms W) (start : W) (client clients lag : ℕ) (now : Stage W) →
    now.player.quiet ≡ true → IsWriting terms start client clients lag now →
    IsRounded terms client clients lag start
    (sealed_if true terms.plays now.player.sealed
    (all_ticked terms.course true (telling now.player.peer now.said)))
silent_round {W = W} terms start client clients lag now quiet writing =
    record {
      writing = record {
        steady = silent.stays.steady;
        lag_is = silent.stays.lag ∙ writing.lag_is;
        me_is = silent.stays.me ∙ writing.me_is;
        written = writing.written;
        last = writing.last;
        reported = writing.reported;
        sealed = writing.sealed;
        said_is = silent.same ∙ writing.said_is;
        leads = subst (λ (xs : List Arrived). Leads terms.plays.frames
            (orders_by terms start client clients xs) lag
            (hash_after terms start clients xs) 0 0 writing.written writing.reported
            writing.sealed) (sym silent.stays.arrived) writing.leads;
        below = let a = writing.below in let b = silent.stays.more in omega (arith, a, b);
        ends = writing.ends;
        going = λ no. absurd cc;
      };
      full = λ no. absurd cc;
      done = λ all. refl;
    }
  where
    silent : Silent terms start clients now.player.peer now.said
        (all_ticked terms.course true (telling now.player.peer now.said))
    silent =
        ticks_tell (Silent terms start clients now.player.peer now.said) terms.course true
        (λ t is holds. silent_tick terms start clients now.player.peer now.said t is holds)
        MAX_FRAMES (telling now.player.peer now.said) (record {
          stays = record {
            steady = writing.steady;
            arrived = refl;
            lag = refl;
            me = refl;
            more = omega arith;
          };
          same = refl;
        })

-- The frames that are sealed lead up to those that may be.
up_to : (sealed len ahead : ℕ) → sealed ≤ len → sealed ≤ ahead →
    sealed + (min len ahead - sealed) ≡ min len ahead
up_to sealed len ahead within near = omega (arith, within, near)

most_of : (sealed len ahead : ℕ) → sealed ≤ len → sealed ≤ ahead →
    max sealed (min len ahead) ≡ min len ahead
most_of sealed len ahead within near = omega (arith, within, near)

least_len : (len ahead : ℕ) → min len ahead ≤ len
least_len len ahead = omega arith

least_ahead : (len ahead : ℕ) → min len ahead ≤ ahead
least_ahead len ahead = omega arith

no_less : (n len ahead : ℕ) → n ≡ min len ahead → (n ≤ len) × (n ≤ ahead)
no_less n len ahead is = (omega (arith, is), omega (arith, is))

-- The farewell as packets.
abbrev farewell : Bool → List Up
farewell true = Bye ∷ []
farewell false = []

farewell_is : (says : Bool) → farewell_bytes says ≡ ups_bytes (farewell says)
farewell_is true = sym (append-nil (up_bytes Bye))
farewell_is false = refl

farewell_ends : (len ticked : ℕ) (says : Bool) → nat_le len ticked ≡ says →
    (farewell says ≡ []) ⊎ ((farewell says ≡ Bye ∷ []) × (len ≤ ticked))
farewell_ends len ticked true is = inr (refl, grind (arith, nat_tests, is))
farewell_ends len ticked false is = inl refl

farewell_not : (says : Bool) → says ≡ false → farewell says ≡ []
farewell_not true is = absurd cc
farewell_not false is = refl

-- The round of a player that writes.
writing_round :
    {W : Type 0} (terms : Terms W) (start : W) (client clients lag : ℕ) (now : Stage W) →
    now.player.quiet ≡ false → IsWriting terms start client clients lag now →
    IsRounded terms client clients lag start
    (sealed_if false terms.plays now.player.sealed
    (all_ticked terms.course false (telling now.player.peer now.said)))
writing_round {W = W} terms start client clients lag now quiet writing =
    record {
      writing = record {
        steady = tells.stays.steady;
        lag_is = lag_is;
        me_is = tells.stays.me ∙ writing.me_is;
        written = tells.written ++ plays.packets;
        last = farewell says;
        reported = all.peer.ticked;
        sealed = upto;
        said_is = said_then (greeting_bytes terms.rules)
            (all.said ++ sealed_bytes (terms.plays.orders all.peer.world all.peer.me) sealed
            (upto - sealed)) (farewell_bytes says)
            (tells.written ++ plays.packets) (farewell says)
            (said_then (greeting_bytes terms.rules) all.said
            (sealed_bytes (terms.plays.orders all.peer.world all.peer.me) sealed (upto - sealed))
            tells.written plays.packets
            tells.said (ap (λ (p : ℕ → List Order). sealed_bytes p sealed (upto - sealed))
            same_orders ∙ plays.bytes)) (farewell_is says);
        leads = subst (λ (xs : List Arrived). Leads terms.plays.frames
            (orders_by terms start client clients xs) lag
            (hash_after terms start clients xs) 0 0 (tells.written ++ plays.packets)
            all.peer.ticked upto) (sym tells.stays.arrived)
            (leads_then terms.plays.frames play lag hash 0 0 all.peer.ticked sealed
            all.peer.ticked upto
            tells.written plays.packets tells.leads
            (subst (λ (n : ℕ). Leads terms.plays.frames play lag hash all.peer.ticked sealed
            plays.packets
            all.peer.ticked n) here plays.leads));
        below = omega arith;
        ends = farewell_ends (terms.plays.frames) all.peer.ticked says refl;
        going = λ no. (
          farewell_not says no,
          refl,
          sym most,
          least_len (terms.plays.frames) (all.peer.ticked + all.peer.lag),
          subst (λ (k : ℕ). upto ≤ all.peer.ticked + k) lag_is
              (least_ahead (terms.plays.frames) (all.peer.ticked + all.peer.lag)),
        );
      };
      full = λ no. most ∙ ap (λ (k : ℕ). min (terms.plays.frames) (all.peer.ticked + k)) lag_is;
      done = λ most_ticked. grind (arith, nat_tests, most_ticked);
    }
  where
    open_so : (writing.last ≡ []) × (writing.reported ≡ now.player.peer.ticked)
        × (writing.sealed ≡ now.player.sealed) × (writing.sealed ≤ terms.plays.frames)
        × (writing.sealed ≤ now.player.peer.ticked + lag)
    open_so = writing.going quiet

    sealed : ℕ
    sealed = now.player.sealed

    hash : ℕ → ℕ
    hash = hash_after terms start clients now.player.peer.arrived

    play : ℕ → ℕ → List Order
    play = orders_by terms start client clients now.player.peer.arrived

    all : Telling W
    all = all_ticked terms.course false (telling now.player.peer now.said)

    tells : Tells terms start client clients lag sealed now.player.peer all
    tells =
        ticks_tell (Tells terms start client clients lag sealed now.player.peer) terms.course false
        (λ t is holds. tells_tick terms start client clients lag sealed now.player.peer t is holds)
        MAX_FRAMES (telling now.player.peer now.said) (record {
          stays = record {
            steady = writing.steady;
            arrived = refl;
            lag = refl;
            me = refl;
            more = omega arith;
          };
          written = writing.written;
          said = writing.said_is
              ∙ ap (λ (ps : List Up).
              greeting_bytes terms.rules ++ ups_bytes (writing.written ++ ps)) open_so.0
              ∙ ap (λ (ps : List Up). greeting_bytes terms.rules ++ ups_bytes ps)
              (append-nil writing.written);
          leads = subst (λ (n : ℕ). Leads terms.plays.frames play lag hash 0 0 writing.written n
              sealed)
              open_so.1 (subst (λ (n : ℕ). Leads terms.plays.frames play lag hash 0 0
              writing.written
              writing.reported n) open_so.2 writing.leads);
        })

    lag_is : all.peer.lag ≡ lag
    lag_is = tells.stays.lag ∙ writing.lag_is

    same_world : all.peer.world
        ≡ world_after terms start clients now.player.peer.arrived all.peer.ticked
    same_world = tells.stays.steady.world
        ∙ ap (λ (xs : List Arrived). world_after terms start clients xs all.peer.ticked)
        tells.stays.arrived

    same_orders : terms.plays.orders all.peer.world all.peer.me ≡ play all.peer.ticked
    same_orders = ap₂ (λ (w : W) (c : ℕ). terms.plays.orders w c) same_world
        (tells.stays.me ∙ writing.me_is)

    upto : ℕ
    upto = may_seal (terms.plays.frames) all.peer.ticked all.peer.lag

    says : Bool
    says = nat_le (terms.plays.frames) all.peer.ticked

    within : sealed ≤ terms.plays.frames
    within = let a = open_so.2 in let b = open_so.3 in omega (arith, a, b)

    near : sealed ≤ all.peer.ticked + all.peer.lag
    near =
        let a = open_so.2 in
        let b = open_so.4 in
        let d = tells.stays.more in
        let e = lag_is in
        omega (arith, a, b, d, e)

    here : sealed + (upto - sealed) ≡ upto
    here = up_to sealed (terms.plays.frames) (all.peer.ticked + all.peer.lag) within near

    most : max sealed upto ≡ upto
    most = most_of sealed (terms.plays.frames) (all.peer.ticked + all.peer.lag) within near

    plays : Seals terms.plays.frames play lag hash all.peer.ticked sealed (upto - sealed)
    plays =
        seals terms.plays.frames play lag hash all.peer.ticked sealed (upto - sealed)
        (subst (λ (n : ℕ). n ≤ terms.plays.frames) (sym here)
        (least_len (terms.plays.frames) (all.peer.ticked + all.peer.lag)))
        (subst (λ (n : ℕ). n ≤ all.peer.ticked + lag) (sym here)
        (subst (λ (k : ℕ). upto ≤ all.peer.ticked + k) lag_is
        (least_ahead (terms.plays.frames) (all.peer.ticked + all.peer.lag))))

-- Any round.
rounds_so :
    {W : Type 0} (terms : Terms W) (start : W) (client clients lag : ℕ) (now : Stage W) →
    IsWriting terms start client clients lag now →
    IsRounded terms client clients lag start (round terms.course terms.plays now)
rounds_so {W = W} terms start client clients lag now writing = by now.player.quiet refl
  where
    by : (quiet : Bool) → now.player.quiet ≡ quiet →
        IsRounded terms client clients lag start
        (sealed_if quiet terms.plays now.player.sealed
        (all_ticked terms.course quiet (telling now.player.peer now.said)))
    by true is = silent_round terms start client clients lag now is writing
    by false is = writing_round terms start client clients lag now is writing

-- What following an entry leaves of what is written.
record Hushes {W : Type 0} (player next : Player W) (packet : Down) : Type 0 where
  pub sealed : next.sealed ≡ player.sealed
  pub quiet : player.quiet ≡ true → next.quiet ≡ true
  pub gone : (frame : ℕ) → packet ≡ down.Entry player.peer.me frame Leave → next.quiet ≡ true

or_true : (b other : Bool) → b ≡ true → (b || other) ≡ true
or_true true other is = refl
or_true false other is = absurd cc

or_last : (b other : Bool) → other ≡ true → (b || other) ≡ true
or_last true other is = refl
or_last false other is = is

itself_gone : (k : ℕ) → ((k == k) && true) ≡ true
itself_gone k = grind (arith, nat_tests)

hushes_with :
    {W : Type 0} (player next : Player W) (c n : ℕ) (e : one_entry) →
    record player {
      peer = delivered_peer player.peer c n e;
      quiet = player.quiet || ((c == player.peer.me) && not (is_play e));
    } ≡ next → Hushes player next (down.Entry c n e)
hushes_with {W = W} player next c n e same =
    record {
      sealed = ap (λ (p : Player W). p.sealed) (sym same);
      quiet = λ is. ap (λ (p : Player W). p.quiet) (sym same)
          ∙ or_true player.quiet ((c == player.peer.me) && not (is_play e)) is;
      gone = λ frame is. ap (λ (p : Player W). p.quiet) (sym same)
          ∙ or_last player.quiet ((c == player.peer.me) && not (is_play e)) (own frame is);
    }
  where
    own : (frame : ℕ) → down.Entry c n e ≡ down.Entry player.peer.me frame Leave →
        ((c == player.peer.me) && not (is_play e)) ≡ true
    own frame is =
        let client : c ≡ player.peer.me = cc in
        let left : e ≡ Leave = cc in
        ap₂ (λ (k : ℕ) (x : one_entry). (k == player.peer.me) && not (is_play x)) client left
        ∙ itself_gone player.peer.me

hushes_by :
    {W : Type 0} (player next : Player W) (c n : ℕ) (e : one_entry) (d : Delivered) →
    after_receipt (receipt_of d) player c n e ≡ Ok next → Hushes player next (down.Entry c n e)
hushes_by player next c n e delivered.Kept went = hushes_with player next c n e cc
hushes_by player next c n e delivered.Repeat went = hushes_with player next c n e cc
hushes_by player next c n e (delivered.Conflict kept) went = absurd cc
hushes_by player next c n e (delivered.Past at) went = absurd cc
hushes_by player next c n e delivered.Beyond went = absurd cc

hushes :
    {W : Type 0} (player next : Player W) (packet : Down) →
    after_down player packet ≡ Ok next → Hushes player next packet
hushes player next (down.Welcome client clients lag seed) went = absurd cc
hushes player next (down.Refused code) went = absurd cc
hushes {W = W} player next (down.Entry c n e) went = by (nat_lt c player.peer.clients) went where
  by : (there : Bool) →
      (if there then after_receipt (receipt_of (delivery_of player.peer.arrived c n e)) player c n e
      else Err cause.BadClient) ≡ Ok next → Hushes player next (down.Entry c n e)
  by true went = hushes_by player next c n e (delivery_of player.peer.arrived c n e) went
  by false went = absurd cc

-- The frames that were ticked stay as they are.
frames_follow :
    {W : Type 0} (after : W → List one_entry → W) (start : W) (clients k : ℕ) (packet : Down)
    (player next : Player W) → Follows packet player next →
    IsSteady after start clients player.peer → k < player.peer.ticked →
    frame_by next.peer.arrived clients k ≡ frame_by player.peer.arrived clients k
frames_follow {W = W} after start clients k packet player next goes steady below = by goes.answer
  where
    c : ℕ
    c = goes.client

    n : ℕ
    n = goes.frame

    e : one_entry
    e = goes.entry

    xs : List Arrived
    xs = player.peer.arrived

    moved : (d : Delivered) → delivery_of xs c n e ≡ d →
        next.peer.arrived ≡ after_delivery d (entry_of c n e) xs
    moved d is = ap (λ (p : PeerState W). p.arrived) goes.peer_is
        ∙ ap (λ (d : Delivered). after_delivery d (entry_of c n e) xs) is

    by : (delivery_of xs c n e ≡ delivered.Kept) ⊎ (delivery_of xs c n e ≡ delivered.Repeat) →
        frame_by next.peer.arrived clients k ≡ frame_by xs clients k
    by (inl is) =
        ap (λ (ys : List Arrived). frame_by ys clients k) (moved delivered.Kept is)
        ∙ (ready_stays xs c n clients k e (keeps xs c n e is) (steady.ticked_ready k below)).1
    by (inr is) = ap (λ (ys : List Arrived). frame_by ys clients k) (moved delivered.Repeat is)

-- A player that has followed an entry.
follows_writing :
    {W : Type 0} (terms : Terms W) (start : W) (client clients lag : ℕ) (packet : Down)
    (player next : Player W) (said : List ℕ) →
    after_down player packet ≡ Ok next →
    IsWriting terms start client clients lag (record { player = player; said = said }) →
    IsWriting terms start client clients lag (record { player = next; said = said })
follows_writing {W = W} terms start client clients lag packet player next said went writing =
    record {
      steady = (followed terms.course.after start clients packet player next goes
          writing.steady).0;
      lag_is = ap (λ (p : PeerState W). p.lag) goes.peer_is ∙ writing.lag_is;
      me_is = ap (λ (p : PeerState W). p.me) goes.peer_is ∙ writing.me_is;
      written = writing.written;
      last = writing.last;
      reported = writing.reported;
      sealed = writing.sealed;
      said_is = writing.said_is;
      leads = leads_same terms.plays.frames
          (orders_by terms start client clients player.peer.arrived)
          (orders_by terms start client clients next.peer.arrived) lag
          (hash_after terms start clients player.peer.arrived)
          (hash_after terms start clients next.peer.arrived) 0 0 writing.reported writing.sealed
          writing.written
          (λ k n most. ap (λ (w : W). terms.plays.orders w client n) (worlds k most))
          (λ n before. ap terms.course.hash (worlds (n + 1) (omega (arith, before))))
          writing.leads;
      below = subst (λ (n : ℕ). writing.reported ≤ n) (sym ticked) writing.below;
      ends = writing.ends;
      going = λ no. by player.quiet refl no;
    }
  where
    goes : Follows packet player next
    goes = follows_so player next packet went

    hush : Hushes player next packet
    hush = hushes player next packet went

    ticked : next.peer.ticked ≡ player.peer.ticked
    ticked = ap (λ (p : PeerState W). p.ticked) goes.peer_is

    worlds : (k : ℕ) → k ≤ writing.reported →
        world_after terms start clients player.peer.arrived k
        ≡ world_after terms start clients next.peer.arrived k
    worlds k most =
        folded_same terms.course.after start (λ j. frame_by player.peer.arrived clients j)
        (λ j. frame_by next.peer.arrived clients j) k (λ j below.
        sym (frames_follow terms.course.after start clients j packet player next goes
        writing.steady (let more = writing.below in omega (arith, below, most, more))))

    Open : Type 0
    Open = (writing.last ≡ []) × (writing.reported ≡ next.peer.ticked)
        × (writing.sealed ≡ next.sealed) × (writing.sealed ≤ terms.plays.frames)
        × (writing.sealed ≤ next.peer.ticked + lag)

    by : (quiet : Bool) → player.quiet ≡ quiet → next.quiet ≡ false → Open
    by true is speaks = absurd (let so : next.quiet ≡ true = hush.quiet is in cc)
    by false is speaks =
        let so = writing.going is in (
          so.0,
          so.1 ∙ sym ticked,
          so.2 ∙ sym hush.sealed,
          so.3,
          subst (λ (n : ℕ). writing.sealed ≤ n + lag) (sym ticked) so.4,
        )

-- Packets one after another.
pub all_rounded :
    {W : Type 0} (terms : Terms W) (start : W) (client clients lag : ℕ) (now last : Stage W)
    (packets : List Down) → IsRounded terms client clients lag start now →
    after_packets terms (Some now) packets ≡ Ok (Some last) →
    IsRounded terms client clients lag start last
all_rounded {W = W} terms start client clients lag now last [] rounded follows =
    let same : now ≡ last = cc in subst (IsRounded terms client clients lag start) same rounded
all_rounded {W = W} terms start client clients lag now last (packet ∷ packets) rounded follows =
    by (after_later terms now packet) refl follows
    (λ next there rest. all_rounded terms start client clients lag next last packets there rest)
  where
    Rest : Type 0
    Rest = (next : Stage W) → IsRounded terms client clients lag start next →
        after_packets terms (Some next) packets ≡ Ok (Some last) →
        IsRounded terms client clients lag start last

    by : (a : Result (Stage W) StopReason) → after_later terms now packet ≡ a →
        (a >>= λ next. after_packets terms (Some next) packets) ≡ Ok (Some last) → Rest →
        IsRounded terms client clients lag start last
    by (Ok next) went rest others =
        let goes = goes_round terms now next packet went in
        others next (subst (IsRounded terms client clients lag start) (sym goes.next_is)
        (rounds_so terms start client clients lag
        (record { player = goes.player; said = now.said })
        (follows_writing terms start client clients lag packet now.player goes.player now.said
        goes.follows rounded.writing))) rest
    by (Err why) went rest others = absurd cc

-- From the welcome on.
pub welcomed_rounded :
    {W : Type 0} (terms : Terms W) (client clients lag seed : ℕ) (packets : List Down)
    (now : Stage W) →
    after_packets terms None (down.Welcome client clients lag seed ∷ packets) ≡ Ok (Some now) →
    IsRounded terms client clients lag (terms.made seed clients) now
welcomed_rounded {W = W} terms client clients lag seed packets now follows =
    by (is_match client clients lag) follows
  where
    start : W
    start = terms.made seed clients

    fresh : Stage W
    fresh =
        record {
          player = welcomed terms.made client clients lag seed;
          said = greeting_bytes terms.rules;
        }

    new : IsWriting terms start client clients lag fresh
    new =
        record {
          steady = record {
            clients_are = refl;
            within = λ c n orders is. absurd (let no : None ≡ Some (Play orders) = is in cc);
            ticked_ready = λ k below. absurd (omega (arith, below));
            world = refl;
          };
          lag_is = refl;
          me_is = refl;
          written = [];
          last = [];
          reported = 0;
          sealed = 0;
          said_is = sym (append-nil (greeting_bytes terms.rules));
          leads = (refl, refl);
          below = omega arith;
          ends = inl refl;
          going = λ no. (refl, refl, refl, omega arith, omega arith);
        }

    by : (fits : Bool) →
        ((if fits then Ok (round terms.course terms.plays fresh)
        else Err (stop.Bad cause.BadWelcome))
        >>= λ next. after_packets terms (Some next) packets) ≡ Ok (Some now) →
        IsRounded terms client clients lag start now
    by true rest =
        all_rounded terms start client clients lag (round terms.course terms.plays fresh) now
        packets (rounds_so terms start client clients lag fresh new) rest
    by false rest = absurd cc

-- What such a player has written, as the law says it.
pub written_in_turn :
    {W : Type 0} (terms : Terms W) (start : W) (client clients lag : ℕ) (now : Stage W) →
    IsRounded terms client clients lag start now → WritesInTurn terms start client clients lag now
written_in_turn {W = W} terms start client clients lag now rounded =
    record {
      written = so.written ++ so.last;
      said_is = so.said_is;
      in_turn = turn;
      ahead = λ front back is.
          let all = in_turn_ahead terms.plays.frames play lag hash 0 0 front back (omega arith)
          (subst (λ (ps : List Up). IsInTurn terms.plays.frames play lag hash 0 0 ps) is turn) in
          omega (arith, all);
      whole = λ no.
          let open_so = so.going no in
          let counts = leads_counts terms.plays.frames play lag hash 0 0 so.reported so.sealed
          so.written
          so.leads in
          let same : so.written ++ so.last ≡ so.written =
          ap (λ (ps : List Up). so.written ++ ps) open_so.0 ∙ append-nil so.written in
          let reports : count_reports so.written ≡ now.player.peer.ticked =
          (let a = counts.0 in let b = open_so.1 in omega (arith, a, b)) in
          let orders : count_orders so.written ≡ now.player.sealed =
          (let a = counts.1 in let b = open_so.2 in omega (arith, a, b)) in
          (ap count_reports same ∙ reports, ap count_orders same ∙ orders ∙ rounded.full no);
    }
  where
    so : IsWriting terms start client clients lag now
    so = rounded.writing

    hash : ℕ → ℕ
    hash = hash_after terms start clients now.player.peer.arrived

    play : ℕ → ℕ → List Order
    play = orders_by terms start client clients now.player.peer.arrived

    ended : (last : List Up) →
        (last ≡ []) ⊎ ((last ≡ Bye ∷ []) × (terms.plays.frames ≤ so.reported)) →
        IsInTurn terms.plays.frames play lag hash so.reported so.sealed last
    ended last (inl none) =
        subst (λ (ps : List Up). IsInTurn terms.plays.frames play lag hash so.reported so.sealed ps)
        (sym none) tt
    ended last (inr bye) =
        subst (λ (ps : List Up). IsInTurn terms.plays.frames play lag hash so.reported so.sealed ps)
        (sym bye.0) (bye.1, refl)

    turn : IsInTurn terms.plays.frames play lag hash 0 0 (so.written ++ so.last)
    turn =
        leads_in_turn terms.plays.frames play lag hash 0 0 so.reported so.sealed so.written
        so.last so.leads
        (ended so.last so.ends)

pub writes_in_turn :
    {W : Type 0} (terms : Terms W) (client clients lag seed : ℕ) (packets : List Down)
    (now : Stage W) →
    after_packets terms None (down.Welcome client clients lag seed ∷ packets) ≡ Ok (Some now) →
    WritesInTurn terms (terms.made seed clients) client clients lag now
writes_in_turn terms client clients lag seed packets now follows =
    written_in_turn terms (terms.made seed clients) client clients lag now
    (welcomed_rounded terms client clients lag seed packets now follows)

-- A player that is silent stays so.
silent_ticks :
    {W : Type 0} (more : ℕ) (course : Course W) (now : Telling W) →
    (ticks more course true now).said ≡ now.said
silent_ticks {W = W} more course now =
    ticks_tell (λ (t : Telling W). t.said ≡ now.said) course true
    (λ t is same. append-nil t.said ∙ same) more now refl

stays_silent :
    {W : Type 0} (terms : Terms W) (now : Stage W) → now.player.quiet ≡ true →
    ((round terms.course terms.plays now).said ≡ now.said)
    × ((round terms.course terms.plays now).player.quiet ≡ true)
stays_silent {W = W} terms now quiet = by now.player.quiet quiet
  where
    Same : Bool → Type 0
    Same quiet =
        ((sealed_if quiet terms.plays now.player.sealed
        (all_ticked terms.course quiet (telling now.player.peer now.said))).said ≡ now.said)
        × ((sealed_if quiet terms.plays now.player.sealed
        (all_ticked terms.course quiet (telling now.player.peer now.said))).player.quiet ≡ true)

    by : (quiet : Bool) → quiet ≡ true → Same quiet
    by true is = (silent_ticks MAX_FRAMES terms.course (telling now.player.peer now.said), refl)
    by false is = absurd cc

silent_rest :
    {W : Type 0} (terms : Terms W) (now last : Stage W) (packets : List Down) →
    now.player.quiet ≡ true → after_packets terms (Some now) packets ≡ Ok (Some last) →
    last.said ≡ now.said
silent_rest {W = W} terms now last [] quiet follows =
    let same : now ≡ last = cc in ap (λ (s : Stage W). s.said) (sym same)
silent_rest {W = W} terms now last (packet ∷ packets) quiet follows =
    by (after_later terms now packet) refl follows
    (λ next there rest. silent_rest terms next last packets there rest)
  where
    by : (a : Result (Stage W) StopReason) → after_later terms now packet ≡ a →
        (a >>= λ next. after_packets terms (Some next) packets) ≡ Ok (Some last) →
        ((next : Stage W) → next.player.quiet ≡ true →
        after_packets terms (Some next) packets ≡ Ok (Some last) → last.said ≡ next.said) →
        last.said ≡ now.said
    by (Ok next) went rest others =
        let goes = goes_round terms now next packet went in
        let hush = hushes now.player goes.player packet goes.follows in
        let silent = stays_silent terms (record { player = goes.player; said = now.said })
        (hush.quiet quiet) in
        others next (ap (λ (s : Stage W). s.player.quiet) goes.next_is ∙ silent.1) rest
        ∙ ap (λ (s : Stage W). s.said) goes.next_is ∙ silent.0
    by (Err why) went rest others = absurd cc

pub silent_finished :
    {W : Type 0} (terms : Terms W) (client clients lag seed : ℕ) (packets later : List Down)
    (mid now : Stage W) →
    after_packets terms None (down.Welcome client clients lag seed ∷ packets) ≡ Ok (Some mid) →
    terms.plays.frames ≤ mid.player.peer.ticked →
    after_packets terms (Some mid) later ≡ Ok (Some now) → now.said ≡ mid.said
silent_finished terms client clients lag seed packets later mid now follows ticked more =
    silent_rest terms mid now later
    ((welcomed_rounded terms client clients lag seed packets mid follows).done ticked) more

pub silent_departed :
    {W : Type 0} (terms : Terms W) (client clients lag seed frame : ℕ) (packets later : List Down)
    (mid now : Stage W) →
    after_packets terms None (down.Welcome client clients lag seed ∷ packets) ≡ Ok (Some mid) →
    after_packets terms (Some mid) (down.Entry client frame Leave ∷ later) ≡ Ok (Some now) →
    now.said ≡ mid.said
silent_departed {W = W} terms client clients lag seed frame packets later mid now follows more =
    by (after_later terms mid left) refl more
  where
    left : Down
    left = down.Entry client frame Leave

    me : mid.player.peer.me ≡ client
    me = (welcomed_rounded terms client clients lag seed packets mid follows).writing.me_is

    by : (a : Result (Stage W) StopReason) → after_later terms mid left ≡ a →
        (a >>= λ next. after_packets terms (Some next) later) ≡ Ok (Some now) →
        now.said ≡ mid.said
    by (Ok next) went rest =
        let goes = goes_round terms mid next left went in
        let hush = hushes mid.player goes.player left goes.follows in
        let quiet = hush.gone frame (ap (λ (k : ℕ). down.Entry k frame Leave) (sym me)) in
        let silent = stays_silent terms (record { player = goes.player; said = mid.said }) quiet in
        silent_rest terms next now later
        (ap (λ (s : Stage W). s.player.quiet) goes.next_is ∙ silent.1) rest
        ∙ ap (λ (s : Stage W). s.said) goes.next_is ∙ silent.0
    by (Err why) went rest = absurd cc
