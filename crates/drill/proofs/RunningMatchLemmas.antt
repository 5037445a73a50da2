-- A match stays whole and sound where one part of it changes, over plain values.
use Rattle.std.proofs.Common.{◌≡◌, ℕ, zero, suc, ◌+◌, ◌<◌, List, [], ◌∷◌, ◌++◌, length, get_or, sym}
use Rattle.std.proofs.Common.{ap, subst, ◌∙◌, arith}
use Rattle.std.specs.Prelude.{Option, Some, slice_get, slice_set}
use Rattle.std.specs.List.{AllByRecursion}
use Rattle.std.proofs.lemmas.List.{length-set, get_or-map}
use Rattle.order_packets.specs.declared.up.Up.{Up as Packet}
use Rattle.peer_core.specs.Peer.{PeerState}
use Rattle.frame_core.specs.Column.{Column, IsWithinFrames}
use Rattle.frame_core.specs.Grows.{Grows}
use Rattle.peer_core.specs.Faithful.{IsFaithful}
use Rattle.peer_core.proofs.FaithfulLemmas.{grow_faithful}
use Rattle.server_core.proofs.ServedLemmas.{grow_is_served}
use Rattle.server_core.specs.Server.{ServerState}
use Rattle.frame_core.specs.Match.{Match}
use Rattle.drill.specs.Record.{nothing_reached, peer_at}
use Rattle.drill.specs.RunningMatch.{RunState, reached_of, progress_of, IsNoGreeting, IsSentBy}
use Rattle.drill.specs.RunningMatch.{IsNumbered, AreNumbered, IsWhole, IsSound}

-- One element of a list.
pub all_set : {X : Type 0} (P : X → Type 0) (xs : List X) (i : ℕ) (y : X) → AllByRecursion P xs → P y → AllByRecursion P (slice_set xs i y)
all_set P [] i y all new = all
all_set P (x ∷ xs) zero y all new = (new, all.1)
all_set P (x ∷ xs) (suc i) y all new = (all.0, all_set P xs i y all.1 new)

pub all_at : {X : Type 0} (P : X → Type 0) (xs : List X) (i : ℕ) (x : X) → AllByRecursion P xs → i < length xs → x ≡ get_or xs i x → P x
all_at P [] i x all below is = absurd (omega arith)
all_at P (y ∷ xs) zero x all below is = subst P (sym is) all.0
all_at P (y ∷ xs) (suc i) x all below is = all_at P xs i x all.1 (omega arith) is

pub some_same : {X : Type 0} (a b : X) → Some a ≡ Some b → a ≡ b
some_same a b same = cc

pub all_got : {X : Type 0} (P : X → Type 0) (xs : List X) (i : ℕ) (x : X) → AllByRecursion P xs → slice_get xs i ≡ Some x → P x
all_got P [] i x all got = absurd cc
all_got P (y ∷ xs) zero x all got = subst P (some_same y x got) all.0
all_got P (y ∷ xs) (suc i) x all got = all_got P xs i x all.1 got

pub all_append : {X : Type 0} (P : X → Type 0) (xs : List X) (y : X) → AllByRecursion P xs → P y → AllByRecursion P (xs ++ y ∷ [])
all_append P [] y all new = (new, tt)
all_append P (x ∷ xs) y all new = (all.0, all_append P xs y all.1 new)

pub all_map : {X : Type 0} (P Q : X → Type 0) (xs : List X) → ((x : X) → P x → Q x) → AllByRecursion P xs → AllByRecursion Q xs
all_map P Q [] step all = tt
all_map P Q (x ∷ xs) step all = (step x all.0, all_map P Q xs step all.1)

-- The peer at a place has the number of its place.
pub numbered_at :
    {W : Type 0} (clients lag first : ℕ) (peers : List (PeerState W)) (p : ℕ) (peer : PeerState W) →
    AreNumbered clients lag first peers → p < length peers → peer ≡ get_or peers p peer → IsNumbered clients lag (first + p) peer
numbered_at {W} clients lag first [] p peer numbered below is = absurd (omega arith)
numbered_at {W} clients lag first (one ∷ peers) zero peer numbered below is =
    let P : PeerState W → Type 0 = IsNumbered clients lag (first + 0) in
    let Q : ℕ → Type 0 = λ n. IsNumbered clients lag n one in
    let same : first ≡ first + 0 = omega arith in
    subst P (sym is) (subst Q same numbered.0)
numbered_at {W} clients lag first (one ∷ peers) (suc p) peer numbered below is =
    let Q : ℕ → Type 0 = λ n. IsNumbered clients lag n peer in
    let same : first + 1 + p ≡ first + suc p = omega arith in
    subst Q same (numbered_at clients lag (first + 1) peers p peer numbered.1 (omega arith) is)

numbered_set :
    {W : Type 0} (clients lag first : ℕ) (peers : List (PeerState W)) (p : ℕ) (peer : PeerState W) →
    AreNumbered clients lag first peers → IsNumbered clients lag (first + p) peer → AreNumbered clients lag first (slice_set peers p peer)
numbered_set {W} clients lag first [] p peer numbered new = tt
numbered_set {W} clients lag first (one ∷ peers) zero peer numbered new =
    let Q : ℕ → Type 0 = λ n. IsNumbered clients lag n peer in
    let same : first + 0 ≡ first = omega arith in
    (subst Q same new, numbered.1)
numbered_set {W} clients lag first (one ∷ peers) (suc p) peer numbered new =
    let Q : ℕ → Type 0 = λ n. IsNumbered clients lag n peer in
    let same : first + suc p ≡ first + 1 + p = omega arith in
    (numbered.0, numbered_set clients lag (first + 1) peers p peer numbered.1 (subst Q same new))

-- What the record has of a peer.
pub reached_at :
    {W : Type 0} (run : RunState W) (p : ℕ) (peer : PeerState W) → p < length run.peers →
    peer ≡ get_or run.peers p peer → peer_at (progress_of run) p ≡ reached_of peer
reached_at run p peer below is =
    get_or-map reached_of run.peers p peer nothing_reached below ∙ ap reached_of (sym is)

-- The match is whole with one more packet of a client of it, which is no greeting.
pub send_whole :
    {W : Type 0} (run : RunState W) (client : ℕ) (packet : Packet) → IsWhole run → client < run.clients →
    IsNoGreeting packet →
    IsWhole (record run { sent = run.sent ++ record { client = client; packet = packet } ∷ [] })
send_whole run client packet whole below no_greeting =
    record {
      senders =
          all_append (IsSentBy run.clients) run.sent (record { client = client; packet = packet })
          whole.senders (record { client = below; packet = no_greeting });
      columns = whole.columns;
      reports = whole.reports;
      in_frames = whole.in_frames;
      peers = whole.peers;
      numbers = whole.numbers;
    }

-- The match is whole with another state of one peer of the same number, clients and lag.
pub peer_whole :
    {W : Type 0} (run : RunState W) (p : ℕ) (peer : PeerState W) → IsWhole run →
    IsNumbered run.clients run.lag p peer → IsWhole (record run { peers = slice_set run.peers p peer })
peer_whole run p peer whole new =
    record {
      senders = whole.senders;
      columns = whole.columns;
      reports = whole.reports;
      in_frames = whole.in_frames;
      peers = length-set run.peers p peer ∙ whole.peers;
      numbers = numbered_set run.clients run.lag 0 run.peers p peer whole.numbers (numbered_from p new);
    } where
      numbered_from :
          (n : ℕ) → IsNumbered run.clients run.lag n peer → IsNumbered run.clients run.lag (0 + n) peer
      numbered_from n is =
          let Q : ℕ → Type 0 = λ k. IsNumbered run.clients run.lag k peer in
          let same : n ≡ 0 + n = omega arith in
          subst Q same is

-- The number of a peer of the match.
pub peer_number :
    {W : Type 0} (run : RunState W) (p : ℕ) (peer : PeerState W) → IsWhole run → p < run.clients →
    peer ≡ get_or run.peers p peer → IsNumbered run.clients run.lag p peer
peer_number run p peer whole below is =
    let Q : ℕ → Type 0 = λ k. IsNumbered run.clients run.lag k peer in
    let same : 0 + p ≡ p = omega arith in
    subst Q same
    (numbered_at run.clients run.lag 0 run.peers p peer whole.numbers (rw whole.peers below) is)

-- The match is whole with another state of the server of as many columns and reports.
pub server_whole :
    {W : Type 0} (run : RunState W) (new : ServerState W) →
    length new.columns ≡ length run.server.columns → length new.reports ≡ length run.server.reports →
    AllByRecursion IsWithinFrames new.columns → IsWhole run → IsWhole (record run { server = new })
server_whole run new columns reports in_frames whole =
    record {
      senders = whole.senders;
      columns = columns ∙ whole.columns;
      reports = reports ∙ whole.reports;
      in_frames = in_frames;
      peers = whole.peers;
      numbers = whole.numbers;
    }

-- What is sound stays sound with another faithful state of one peer.
pub peer_sound :
    {W : Type 0} (m : Match W) (run : RunState W) (p : ℕ) (peer : PeerState W) → IsSound m run →
    IsFaithful m.after m.start run.server.columns peer →
    IsSound m (record run { peers = slice_set run.peers p peer })
peer_sound m run p peer sound new =
    record {
      served = sound.served;
      each =
          all_set (IsFaithful m.after m.start run.server.columns) run.peers p peer sound.each new;
    }

-- What is sound stays sound with columns that grow and any reports.
pub grow_sound :
    {W : Type 0} (m : Match W) (run : RunState W) (news : List Column) (reports : List (List (Option ℕ))) →
    Grows run.server.columns news → IsSound m run →
    IsSound m (record run { server = record run.server { columns = news; reports = reports } })
grow_sound m run news reports grows sound =
    record {
      served = grow_is_served m run.server news reports grows sound.served;
      each =
          all_map (IsFaithful m.after m.start run.server.columns) (IsFaithful m.after m.start news) run.peers
          (λ peer faithful. grow_faithful m.after m.start run.server.columns news peer grows faithful)
          sound.each;
    }
