-- A player's world is the agreed one, where what came down stands in columns.
use Rattle.std.proofs.Common.{◌≡◌, ℕ, Bool, true, false, List, [], ◌∷◌, length, Some}
use Rattle.std.proofs.Common.{None, Result, Ok, Err, refl, sym, subst}
use Rattle.std.specs.Prelude.{if◌then◌else◌}
use Rattle.base.specs.Steps.{◌>>=◌}
use Rattle.game_orders.specs.declared.entry.Entry.{Entry as one_entry}
use Rattle.frame_core.specs.Agreed.{IsAt}
use Rattle.frame_core.specs.Column.{Column, entry_at, column_of}
use Rattle.order_packets.specs.declared.down.Down.{Down}
use Rattle.order_packets.specs.declared.down.Down.TheVariants as down
use Rattle.peer_core.specs.Faithful.{IsFaithful}
use Rattle.peer_core.proofs.FaithfulLemmas.{fresh_faithful, deliver_faithful, tick_faithful}
use Rattle.peer_core.specs.Peer.{PeerState, ticked_peer}
use Rattle.match_net.specs.declared.stop_reason.StopReason.{StopReason}
use Rattle.match_net.specs.declared.stop_reason.StopReason.TheVariants as stop
use Rattle.match_net.specs.declared.play_cause.PlayCause.TheVariants as cause
use Rattle.match_net.specs.Playing.{Player, Stage, round}
use Rattle.match_net.specs.Stages.{Terms, is_match, welcomed, greeting_bytes, after_later}
use Rattle.match_net.specs.Stages.{after_packets}
use Rattle.match_net.specs.CameDown.{AreAgreed}
use Rattle.match_net.proofs.FoldLemmas.{Follows, follows_so, goes_round, round_keeps}

-- A peer of a client each column that is faithful to them.
record IsTrue {W : Type 0} (after : W → List one_entry → W) (start : W) (columns : List Column)
    (peer : PeerState W) : Type 0 where
  pub whole : length columns ≡ peer.clients
  pub faithful : IsFaithful after start columns peer

tick_true :
    {W : Type 0} (after : W → List one_entry → W) (start : W) (columns : List Column)
    (peer : PeerState W) → IsTrue after start columns peer →
    IsTrue after start columns (ticked_peer after peer)
tick_true after start columns peer holds =
    record {
      whole = holds.whole;
      faithful = tick_faithful after start columns peer holds.whole holds.faithful;
    }

round_true :
    {W : Type 0} (terms : Terms W) (start : W) (columns : List Column) (now : Stage W) →
    IsTrue terms.course.after start columns now.player.peer →
    IsTrue terms.course.after start columns (round terms.course terms.plays now).player.peer
round_true terms start columns now holds =
    round_keeps (IsTrue terms.course.after start columns) terms.course
    (λ p is holds. tick_true terms.course.after start columns p holds) terms.plays now holds

-- The first of some packets, and the rest.
first_agreed :
    {W : Type 0} (columns : List Column) (packet : Down) (packets : List Down)
    (player next : Player W) → (goes : Follows packet player next) →
    AreAgreed columns (packet ∷ packets) →
    (entry_at (column_of columns goes.client) goes.frame ≡ Some goes.entry)
    × AreAgreed columns packets
first_agreed columns packet packets player next goes agreed =
    subst (λ (p : Down). AreAgreed columns (p ∷ packets)) goes.packet_is agreed

follow_true :
    {W : Type 0} (after : W → List one_entry → W) (start : W) (columns : List Column)
    (packet : Down) (player next : Player W) → (goes : Follows packet player next) →
    entry_at (column_of columns goes.client) goes.frame ≡ Some goes.entry →
    IsTrue after start columns player.peer → IsTrue after start columns next.peer
follow_true after start columns packet player next goes stands holds =
    subst (IsTrue after start columns) (sym goes.peer_is) (record {
      whole = holds.whole;
      faithful = deliver_faithful after start columns player.peer goes.client goes.frame
          goes.entry stands holds.faithful;
    })

all_true :
    {W : Type 0} (terms : Terms W) (start : W) (columns : List Column) (now last : Stage W)
    (packets : List Down) → AreAgreed columns packets →
    IsTrue terms.course.after start columns now.player.peer →
    after_packets terms (Some now) packets ≡ Ok (Some last) →
    IsTrue terms.course.after start columns last.player.peer
all_true {W = W} terms start columns now last [] agreed holds follows =
    let same : now ≡ last = cc in
    subst (λ (s : Stage W). IsTrue terms.course.after start columns s.player.peer) same holds
all_true {W = W} terms start columns now last (packet ∷ packets) agreed holds follows =
    by (after_later terms now packet) refl follows
    (λ next. all_true terms start columns next last packets)
  where
    Rest : Type 0
    Rest = (next : Stage W) → AreAgreed columns packets →
        IsTrue terms.course.after start columns next.player.peer →
        after_packets terms (Some next) packets ≡ Ok (Some last) →
        IsTrue terms.course.after start columns last.player.peer

    by : (a : Result (Stage W) StopReason) → after_later terms now packet ≡ a →
        (a >>= λ next. after_packets terms (Some next) packets) ≡ Ok (Some last) → Rest →
        IsTrue terms.course.after start columns last.player.peer
    by (Ok next) went rest others =
        let rounds = goes_round terms now next packet went in
        let goes = follows_so now.player rounds.player packet rounds.follows in
        let first = first_agreed columns packet packets now.player rounds.player goes agreed in
        others next first.1
        (subst (λ (s : Stage W). IsTrue terms.course.after start columns s.player.peer)
        (sym rounds.next_is)
        (round_true terms start columns (record { player = rounds.player; said = now.said })
        (follow_true terms.course.after start columns packet now.player rounds.player goes first.0
        holds))) rest
    by (Err why) went rest others = absurd cc

-- From the welcome on.
pub is_agreed :
    {W : Type 0} (terms : Terms W) (client clients lag seed : ℕ) (packets : List Down)
    (now : Stage W) (columns : List Column) →
    after_packets terms None (down.Welcome client clients lag seed ∷ packets) ≡ Ok (Some now) →
    length columns ≡ clients → AreAgreed columns packets →
    IsAt terms.course.after (terms.made seed clients) columns now.player.peer.ticked
    now.player.peer.world
is_agreed {W = W} terms client clients lag seed packets now columns follows whole agreed =
    by (is_match client clients lag) follows
  where
    fresh : Stage W
    fresh =
        record {
          player = welcomed terms.made client clients lag seed;
          said = greeting_bytes terms.rules;
        }

    new : IsTrue terms.course.after (terms.made seed clients) columns fresh.player.peer
    new =
        record {
          whole = whole;
          faithful = fresh_faithful terms.course.after (terms.made seed clients) columns client
              clients lag;
        }

    by : (fits : Bool) →
        ((if fits then Ok (round terms.course terms.plays fresh)
        else Err (stop.Bad cause.BadWelcome))
        >>= λ next. after_packets terms (Some next) packets) ≡ Ok (Some now) →
        IsAt terms.course.after (terms.made seed clients) columns now.player.peer.ticked
        now.player.peer.world
    by true rest =
        (all_true terms (terms.made seed clients) columns
        (round terms.course terms.plays fresh) now packets agreed
        (round_true terms (terms.made seed clients) columns fresh new) rest).faithful.at
    by false rest = absurd cc
