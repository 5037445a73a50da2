-- What a player writes, in turn.
use Rattle.std.proofs.Common.{◌≡◌, ℕ, zero, suc, ◌+◌, ◌<◌, ◌≤◌, List, [], ◌∷◌, ◌++◌}
use Rattle.std.proofs.Common.{refl, sym, ap, subst, ◌∙◌, arith, append_assoc}
use Rattle.game_orders.specs.declared.order.Order.{Order}
use Rattle.order_packets.specs.declared.up.Up.{Up}
use Rattle.order_packets.specs.declared.up.Up.TheVariants.{Hello, Orders, Sync, Bye}
use Rattle.order_packets.specs.PacketBytes.{up_bytes}
use Rattle.match_net.specs.Playing.{sealed_bytes}
use Rattle.match_net.specs.WritesInTurn.{ups_bytes, count_orders, count_reports, IsInTurn}

-- Packets lead from these counts of reported and sealed frames to those. None is a farewell.
abbrev pub Leads : ℕ → (ℕ → ℕ → List Order) → ℕ → (ℕ → ℕ) → ℕ → ℕ → List Up → ℕ → ℕ → Type 0
Leads frames play lag hash r s [] more upto = (more ≡ r) × (upto ≡ s)
Leads frames play lag hash r s (Hello version rules ∷ packets) more upto = ⊥
Leads frames play lag hash r s (Orders frame orders ∷ packets) more upto =
    (frame ≡ s) × (s < frames) × (orders ≡ play r s) × (s < r + lag)
    × Leads frames play lag hash r (s + 1) packets more upto
Leads frames play lag hash r s (Sync frame sum ∷ packets) more upto =
    (frame ≡ r) × (sum ≡ hash r) × Leads frames play lag hash (r + 1) s packets more upto
Leads frames play lag hash r s (Bye ∷ packets) more upto = ⊥

-- They lead on.
pub leads_then :
    (frames : ℕ) (play : ℕ → ℕ → List Order) (lag : ℕ) (hash : ℕ → ℕ) (r s more upto last sealed :
    ℕ)
    (packets others : List Up) → Leads frames play lag hash r s packets more upto →
    Leads frames play lag hash more upto others last sealed →
    Leads frames play lag hash r s (packets ++ others) last sealed
leads_then frames play lag hash r s more upto last sealed [] others one two =
    subst (λ (x : ℕ). Leads frames play lag hash x s others last sealed) one.0
    (subst (λ (y : ℕ). Leads frames play lag hash more y others last sealed) one.1 two)
leads_then frames play lag hash r s more upto last sealed (Hello version rules ∷ packets) others
    one two =
    absurd one
leads_then frames play lag hash r s more upto last sealed (Orders frame orders ∷ packets) others one
    two = (
      one.0,
      one.1,
      one.2,
      one.3,
      leads_then frames play lag hash r (s + 1) more upto last sealed packets others one.4 two,
    )
leads_then frames play lag hash r s more upto last sealed (Sync frame sum ∷ packets) others one
    two = (
      one.0,
      one.1,
      leads_then frames play lag hash (r + 1) s more upto last sealed packets others one.2 two,
    )
leads_then frames play lag hash r s more upto last sealed (Bye ∷ packets) others one two = absurd
    one

pub leads_in_turn :
    (frames : ℕ) (play : ℕ → ℕ → List Order) (lag : ℕ) (hash : ℕ → ℕ) (r s more upto : ℕ)
    (packets others : List Up) → Leads frames play lag hash r s packets more upto →
    IsInTurn frames play lag hash more upto others → IsInTurn frames play lag hash r s (packets ++
    others)
leads_in_turn frames play lag hash r s more upto [] others one two =
    subst (λ (x : ℕ). IsInTurn frames play lag hash x s others) one.0
    (subst (λ (y : ℕ). IsInTurn frames play lag hash more y others) one.1 two)
leads_in_turn frames play lag hash r s more upto (Hello version rules ∷ packets) others one two =
    absurd one
leads_in_turn frames play lag hash r s more upto (Orders frame orders ∷ packets) others one two = (
  one.0,
  one.1,
  one.2,
  one.3,
  leads_in_turn frames play lag hash r (s + 1) more upto packets others one.4 two,
)
leads_in_turn frames play lag hash r s more upto (Sync frame sum ∷ packets) others one two =
    (one.0, one.1, leads_in_turn frames play lag hash (r + 1) s more upto packets others one.2 two)
leads_in_turn frames play lag hash r s more upto (Bye ∷ packets) others one two = absurd one

-- How far they lead is how many they are.
pub leads_counts :
    (frames : ℕ) (play : ℕ → ℕ → List Order) (lag : ℕ) (hash : ℕ → ℕ) (r s more upto : ℕ)
    (packets : List Up) → Leads frames play lag hash r s packets more upto →
    (more ≡ r + count_reports packets) × (upto ≡ s + count_orders packets)
leads_counts frames play lag hash r s more upto [] is =
    (let a = is.0 in omega (arith, a), let b = is.1 in omega (arith, b))
leads_counts frames play lag hash r s more upto (Hello version rules ∷ packets) is = absurd is
leads_counts frames play lag hash r s more upto (Orders frame orders ∷ packets) is =
    let rest = leads_counts frames play lag hash r (s + 1) more upto packets is.4 in
    (rest.0, let b = rest.1 in omega (arith, b))
leads_counts frames play lag hash r s more upto (Sync frame sum ∷ packets) is =
    let rest = leads_counts frames play lag hash (r + 1) s more upto packets is.2 in
    (let a = rest.0 in omega (arith, a), rest.1)
leads_counts frames play lag hash r s more upto (Bye ∷ packets) is = absurd is

-- Orders and hashes that are the same as far as is reported.
pub leads_same :
    (frames : ℕ) (play others : ℕ → ℕ → List Order) (lag : ℕ) (hash other : ℕ → ℕ)
    (r s more upto : ℕ) (packets : List Up) →
    ((k n : ℕ) → k ≤ more → play k n ≡ others k n) →
    ((n : ℕ) → n < more → hash n ≡ other n) →
    Leads frames play lag hash r s packets more upto →
    Leads frames others lag other r s packets more upto
leads_same frames play others lag hash other r s more upto [] plays same is = is
leads_same frames play others lag hash other r s more upto (Hello version rules ∷ packets) plays
    same is = is
leads_same frames play others lag hash other r s more upto (Orders frame orders ∷ packets) plays
    same is =
    let count = (leads_counts frames play lag hash r (s + 1) more upto packets is.4).0 in (
      is.0,
      is.1,
      is.2 ∙ plays r s (omega (arith, count)),
      is.3,
      leads_same frames play others lag hash other r (s + 1) more upto packets plays same is.4,
    )
leads_same frames play others lag hash other r s more upto (Sync frame sum ∷ packets) plays same
    is =
    let count = (leads_counts frames play lag hash (r + 1) s more upto packets is.2).0 in (
      is.0,
      is.1 ∙ same r (omega (arith, count)),
      leads_same frames play others lag hash other (r + 1) s more upto packets plays same is.2,
    )
leads_same frames play others lag hash other r s more upto (Bye ∷ packets) plays same is = is

-- The orders outnumber the reports by at most the lag.
pub in_turn_ahead :
    (frames : ℕ) (play : ℕ → ℕ → List Order) (lag : ℕ) (hash : ℕ → ℕ) (r s : ℕ) (front back : List
    Up) →
    s ≤ r + lag → IsInTurn frames play lag hash r s (front ++ back) →
    s + count_orders front ≤ r + count_reports front + lag
in_turn_ahead frames play lag hash r s [] back within is = omega (arith, within)
in_turn_ahead frames play lag hash r s (Hello version rules ∷ front) back within is = absurd is
in_turn_ahead frames play lag hash r s (Orders frame orders ∷ front) back within is =
    let before = is.3 in
    let rest = in_turn_ahead frames play lag hash r (s + 1) front back (omega (arith, before))
    is.4 in
    omega (arith, rest)
in_turn_ahead frames play lag hash r s (Sync frame sum ∷ front) back within is =
    let rest = in_turn_ahead frames play lag hash (r + 1) s front back (omega (arith, within))
    is.2 in
    omega (arith, rest)
in_turn_ahead frames play lag hash r s (Bye ∷ []) back within is = omega (arith, within)
in_turn_ahead frames play lag hash r s (Bye ∷ other ∷ front) back within is =
    absurd (let none : other ∷ (front ++ back) ≡ [] = is.1 in cc)

pub bytes_then : (packets others : List Up) →
    ups_bytes (packets ++ others) ≡ ups_bytes packets ++ ups_bytes others
bytes_then [] others = refl
bytes_then (packet ∷ packets) others =
    ap (λ (b : List ℕ). up_bytes packet ++ b) (bytes_then packets others)
    ∙ sym (append_assoc (up_bytes packet) (ups_bytes packets) (ups_bytes others))

-- What follows what was written before.
pub said_then : (first said bytes : List ℕ) (packets others : List Up) →
    said ≡ first ++ ups_bytes packets → bytes ≡ ups_bytes others →
    said ++ bytes ≡ first ++ ups_bytes (packets ++ others)
said_then first said bytes packets others is more =
    ap (λ (b : List ℕ). b ++ bytes) is
    ∙ append_assoc first (ups_bytes packets) bytes
    ∙ ap (λ (b : List ℕ). first ++ (ups_bytes packets ++ b)) more
    ∙ ap (λ (b : List ℕ). first ++ b) (sym (bytes_then packets others))

-- So many frames that are sealed, from this one on.
pub record Seals (frames : ℕ) (play : ℕ → ℕ → List Order) (lag : ℕ) (hash : ℕ → ℕ) (r n more : ℕ)
    : Type 0
  where
    pub packets : List Up
    pub bytes : sealed_bytes (play r) n more ≡ ups_bytes packets
    pub leads : Leads frames play lag hash r n packets r (n + more)

pub seals :
    (frames : ℕ) (play : ℕ → ℕ → List Order) (lag : ℕ) (hash : ℕ → ℕ) (r n more : ℕ) →
    n + more ≤ frames → n + more ≤ r + lag → Seals frames play lag hash r n more
unfolding sealed_bytes
seals frames play lag hash r n zero within near =
    record { packets = []; bytes = refl; leads = (refl, omega arith) }
seals frames play lag hash r n (suc more) within near =
    let rest = seals frames play lag hash r (n + 1) more (omega (arith, within)) (omega (
      arith,
      near,
    )) in
    let upto : (n + 1) + more ≡ n + suc more = omega arith in
    record {
      packets = Orders n (play r n) ∷ rest.packets;
      bytes = ap (λ (b : List ℕ). up_bytes (Orders n (play r n)) ++ b) rest.bytes;
      leads = (
        refl,
        omega (arith, within),
        refl,
        omega (arith, near),
        subst (λ (k : ℕ). Leads frames play lag hash r (n + 1) rest.packets r k) upto rest.leads,
      );
    }
