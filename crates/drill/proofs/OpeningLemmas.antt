-- The opening of a drill is whole, sound, and the record's opening.
use Rattle.std.proofs.Common.{◌≡◌, ℕ, zero, suc, ◌+◌, ◌-◌, ◌<◌, List, [], ◌∷◌, ◌++◌, length, map}
use Rattle.std.proofs.Common.{replicate}
use Rattle.std.proofs.Common.{refl, sym, ap, ◌∙◌, arith, append_assoc}
use Rattle.std.specs.List.{AllByRecursion}
use Rattle.game_orders.specs.declared.entry.Entry.{Entry}
use Rattle.frame_core.specs.Column.{Column, no_column}
use Rattle.peer_core.specs.Peer.{PeerState, fresh_peer}
use Rattle.peer_core.specs.Faithful.{IsFaithful}
use Rattle.peer_core.proofs.FaithfulLemmas.{fresh_faithful}
use Rattle.server_core.proofs.ServedLemmas.{fresh_is_served}
use Rattle.frame_core.specs.Match.{Match}
use Rattle.drill.specs.Record.{nothing_reached, opening}
use Rattle.drill.specs.RunningMatch.{reached_of, progress_of, AreNumbered, IsWhole, IsSound}
use Rattle.drill.specs.Opening.{fresh_peers, fresh_run}
use Rattle.drill.proofs.InFramesLemmas.{fresh_in_frames}

-- One peer more: what is held and what is left are together all peers still.
pub fresh_push :
    {W : Type 0} (clients lag me : ℕ) (made world : W) (held held' all : List (PeerState W)) (peer : PeerState W) →
    me < clients → world ≡ made → peer ≡ fresh_peer me clients lag world → held' ≡ held ++ peer ∷ [] →
    held ++ fresh_peers clients lag made me (clients - me) ≡ all →
    held' ++ fresh_peers clients lag made (me + 1) (clients - (me + 1)) ≡ all
fresh_push {W} clients lag me made world held held' all peer below world_is peer_is held_is so_far =
    let left : clients - me ≡ suc (clients - (me + 1)) = omega arith in
    let rest : List (PeerState W) = fresh_peers clients lag made (me + 1) (clients - (me + 1)) in
    ap (λ items. items ++ rest) held_is
    ∙ append_assoc held (peer ∷ []) rest
    ∙ ap (λ p. held ++ p ∷ rest) (peer_is ∙ ap (fresh_peer me clients lag) world_is)
    ∙ ap (λ n. held ++ fresh_peers clients lag made me n) (sym left)
    ∙ so_far

length-fresh : {W : Type 0} (clients lag : ℕ) (world : W) (me n : ℕ) → length (fresh_peers clients lag world me n) ≡ n
length-fresh clients lag world me zero = refl
length-fresh clients lag world me (suc n) = ap suc (length-fresh clients lag world (me + 1) n)

length-copies : {X : Type 0} (n : ℕ) (x : X) → length (replicate n x) ≡ n
length-copies zero x = refl
length-copies (suc n) x = ap suc (length-copies n x)

numbered-fresh :
    {W : Type 0} (clients lag : ℕ) (world : W) (me n : ℕ) →
    AreNumbered clients lag me (fresh_peers clients lag world me n)
numbered-fresh clients lag world me zero = tt
numbered-fresh clients lag world me (suc n) =
    (record { me = refl; clients_are = refl; lag_is = refl }, numbered-fresh clients lag world (me + 1) n)

reached-fresh :
    {W : Type 0} (clients lag : ℕ) (world : W) (me n : ℕ) →
    map reached_of (fresh_peers clients lag world me n) ≡ replicate n nothing_reached
reached-fresh clients lag world me zero = refl
reached-fresh clients lag world me (suc n) =
    ap (λ rest. nothing_reached ∷ rest) (reached-fresh clients lag world (me + 1) n)

faithful-fresh :
    {W : Type 0} (after : W → List Entry → W) (start : W) (columns : List Column) (clients lag me n : ℕ) →
    AllByRecursion (IsFaithful after start columns) (fresh_peers clients lag start me n)
faithful-fresh after start columns clients lag me zero = tt
faithful-fresh after start columns clients lag me (suc n) =
    (fresh_faithful after start columns me clients lag, faithful-fresh after start columns clients lag (me + 1) n)

pub opening_whole : {W : Type 0} (clients lag : ℕ) (world : W) → IsWhole (fresh_run clients lag world)
opening_whole clients lag world =
    record {
      senders = tt;
      columns = length-copies clients no_column;
      reports = length-copies clients [];
      in_frames = fresh_in_frames clients;
      peers = length-fresh clients lag world 0 clients;
      numbers = numbered-fresh clients lag world 0 clients;
    }

pub opening_sound : {W : Type 0} (m : Match W) → IsSound m (fresh_run m.clients m.lag m.start)
opening_sound m =
    record {
      served = fresh_is_served m m.clients;
      each = faithful-fresh m.after m.start (replicate m.clients no_column) m.clients m.lag 0 m.clients;
    }

pub opening_progress :
    {W : Type 0} (clients lag : ℕ) (world : W) → progress_of (fresh_run clients lag world) ≡ opening clients
opening_progress clients lag world =
    ap (λ peers. record (opening clients) { peers = peers }) (reached-fresh clients lag world 0 clients)
