-- How the bytes of a world's header are fed to the hash part by part.
use Rattle.std.proofs.Common.{◌≡◌, ℕ, zero, suc, ◌≤◌, Bool, List, [], ◌∷◌, ◌++◌, length, drop, refl}
use Rattle.std.proofs.Common.{ap₂, arith}
use Rattle.std.specs.Prelude.{Some, slice_get}
use Rattle.std.specs.List.{zip, flat_map}
use Rattle.wire_bytes.specs.Field.{field_bytes}
use Rattle.sync_hash.specs.Fnv.{fnv_step, fnv_from}
use Rattle.sync_hash.specs.HashedBytes.{client_bytes, flag_byte}

-- What two parts make of a number is what the second makes of what the first made.
pub fnv_from-append :
    (hash : ℕ) (front back : List ℕ) → fnv_from hash (front ++ back) ≡ fnv_from (fnv_from hash front) back
fnv_from-append hash [] back = refl
fnv_from-append hash (byte ∷ front) back = fnv_from-append (fnv_step hash byte) front back

-- The bytes of client c and then those of the clients after it are the bytes of the clients from c
-- on.
pub client_more :
    (hash c : ℕ) (cash : List ℕ) (gone : List Bool) (amount : ℕ) (flag : Bool) → slice_get cash c ≡ Some amount →
    slice_get gone c ≡ Some flag →
    fnv_from (fnv_from (fnv_from hash (field_bytes 4 amount)) (flag_byte flag ∷ [])) (flat_map client_bytes (drop (suc c) (zip cash gone)))
    ≡ fnv_from hash (flat_map client_bytes (drop c (zip cash gone)))
unfolding field_bytes
client_more hash c [] gone amount flag at is = absurd cc
client_more hash c (x ∷ xs) [] amount flag at is = absurd cc
client_more hash zero (x ∷ xs) (g ∷ gs) amount flag at is =
    let same_amount : amount ≡ x = cc in
    let same_flag : flag ≡ g = cc in
    ap₂ (λ a f. fnv_from (fnv_from (fnv_from hash (field_bytes 4 a)) (flag_byte f ∷ [])) (flat_map client_bytes (zip xs gs))) same_amount same_flag
client_more hash (suc c) (x ∷ xs) (g ∷ gs) amount flag at is = client_more hash c xs gs amount flag at is

-- After the last client no bytes are left.
pub clients_end :
    (hash c : ℕ) (cash : List ℕ) (gone : List Bool) → length cash ≤ c →
    fnv_from hash (flat_map client_bytes (drop c (zip cash gone))) ≡ hash
clients_end hash zero [] gone all = refl
clients_end hash (suc c) [] gone all = refl
clients_end hash zero (x ∷ xs) [] all = refl
clients_end hash (suc c) (x ∷ xs) [] all = refl
clients_end hash zero (x ∷ xs) (g ∷ gs) all = absurd (omega arith)
clients_end hash (suc c) (x ∷ xs) (g ∷ gs) all = clients_end hash c xs gs (omega arith)
