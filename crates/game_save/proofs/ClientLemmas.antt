-- Clients that are read one after the other.
use Rattle.std.proofs.Common.{◌≡◌, ℕ, suc, ◌+◌, ◌-◌, ◌<◌, ◌≤◌, List, [], ◌∷◌, ◌++◌, Ok, Err}
use Rattle.std.proofs.Common.{refl, sym, ap₂, ◌∙◌, arith, length, take, set, Bool}
use Rattle.std.specs.List.{All}
use Rattle.std.proofs.lemmas.List.{take_all, take_more_set}
use Rattle.std.proofs.lemmas.List.Elements.{All-push}
use Rattle.game_save.specs.declared.clients.Clients.{Clients}
use Rattle.game_save.specs.declared.save_fault.SaveFault.{SaveFault}
use Rattle.game_save.specs.Fields.{Left, SaveRead}
use Rattle.game_save.specs.WorldReading.{cash_in, client_in, clients_after, gone_in, with_client}

-- The first ones.
abbrev pub first_of : ℕ → Clients → Clients
first_of i clients = record { cash = take i clients.cash; gone = take i clients.gone }

-- One more of so many was read.
pub client_step :
    (clients : Clients) (count i : ℕ) (left mid after : Left) (cash : ℕ) (gone : Bool)
    (all : SaveRead Clients) → i < count → length clients.cash ≡ count →
    length clients.gone ≡ count → cash_in left ≡ Ok (cash, mid) → gone_in mid ≡ Ok (gone, after) →
    clients_after (first_of i clients) (count - i) left ≡ all →
    clients_after
    (first_of (i + 1)
    (record { cash = set clients.cash i cash; gone = set clients.gone i gone }))
    (count - (i + 1)) after ≡ all
unfolding clients_after client_in
client_step clients count i left mid after cash gone all some many flags is_cash is_gone so_far =
    let more : count - i ≡ suc (count - (i + 1)) = omega arith in
    let step : clients_after (first_of i clients) (count - i) left
    ≡ clients_after (with_client (first_of i clients) cash gone) (count - (i + 1)) after =
    rw (more, is_cash, is_gone) refl in
    let amounts : take (i + 1) (set clients.cash i cash) ≡ take i clients.cash ++ cash ∷ [] =
    take_more_set clients.cash i cash (omega arith) in
    let departed : take (i + 1) (set clients.gone i gone) ≡ take i clients.gone ++ gone ∷ [] =
    take_more_set clients.gone i gone (omega arith) in
    ap₂ (λ (cs : List ℕ) (gs : List Bool).
    clients_after (record { cash = cs; gone = gs }) (count - (i + 1)) after) amounts departed
    ∙ sym step ∙ so_far

-- The next one has bad cash, or a bad flag.
pub bad_cash :
    (held : Clients) (count i : ℕ) (left : Left) (fault : SaveFault) (all : SaveRead Clients) →
    i < count → cash_in left ≡ Err fault → clients_after held (count - i) left ≡ all →
    all ≡ Err fault
unfolding clients_after client_in
bad_cash held count i left fault all some is so_far =
    let more : count - i ≡ suc (count - (i + 1)) = omega arith in
    let step : clients_after held (count - i) left ≡ Err fault = rw (more, is) refl in
    sym so_far ∙ step

pub bad_flag :
    (held : Clients) (count i : ℕ) (left mid : Left) (cash : ℕ) (fault : SaveFault)
    (all : SaveRead Clients) → i < count → cash_in left ≡ Ok (cash, mid) →
    gone_in mid ≡ Err fault → clients_after held (count - i) left ≡ all → all ≡ Err fault
unfolding clients_after client_in
bad_flag held count i left mid cash fault all some is_cash is so_far =
    let more : count - i ≡ suc (count - (i + 1)) = omega arith in
    let step : clients_after held (count - i) left ≡ Err fault = rw (more, is_cash, is) refl in
    sym so_far ∙ step

-- All were read.
pub clients_end :
    (clients : Clients) (count i : ℕ) (left : Left) (all : SaveRead Clients) → count ≤ i →
    length clients.cash ≡ count → length clients.gone ≡ count →
    clients_after (first_of i clients) (count - i) left ≡ all → all ≡ Ok (clients, left)
unfolding clients_after
clients_end clients count i left all past many flags so_far =
    let none : count - i ≡ 0 = omega arith in
    let end : clients_after (first_of i clients) (count - i) left
    ≡ Ok (first_of i clients, left) =
    rw none refl in
    let amounts : take i clients.cash ≡ clients.cash = take_all i clients.cash (omega arith) in
    let departed : take i clients.gone ≡ clients.gone = take_all i clients.gone (omega arith) in
    sym so_far ∙ end
    ∙ ap₂ (λ (cs : List ℕ) (gs : List Bool). Ok (record { cash = cs; gone = gs }, left)) amounts
    departed

-- What holds of the first ones and of one more.
pub all_more :
    (P : ℕ → Type 0) (xs : List ℕ) (i x : ℕ) → i < length xs → All P (take i xs) → P x →
    All P (take (i + 1) (set xs i x))
all_more P xs i x some all one =
    rw (take_more_set xs i x some) (All-push P (take i xs) x all one)
