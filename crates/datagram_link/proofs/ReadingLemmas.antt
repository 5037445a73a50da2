-- The spelling of a datagram reads as the datagram.
use Rattle.std.proofs.Common.{◌≡◌, ℕ, ◌<◌, ◌≤◌, ◌^◌, List, [], ◌++◌, length, Ok, refl, sym}
use Rattle.std.proofs.Common.{ap, ◌∙◌, arith, append-nil, le_refl, take_all}
use Rattle.std.proofs.lemmas.Bool.{lt-ltb, le-ltb, le-leb}
use Rattle.std.proofs.lemmas.List.{drop_all}
use Rattle.wire_bytes.specs.Field.{field_bytes}
use Rattle.wire_bytes.proofs.ReadLemmas.{number_again}
use Rattle.datagram_link.specs.declared.datagram.Datagram.{Datagram}
use Rattle.datagram_link.specs.declared.datagram.Datagram.TheVariants.{Data, Ack, Call, Here}
use Rattle.datagram_link.specs.declared.gram_fault.GramFault.TheVariants.{Short}
use Rattle.datagram_link.specs.declared.limits.TheConstants.{MAX_PAYLOAD}
use Rattle.datagram_link.specs.Grams.{data_bytes, ack_bytes, call_bytes, here_bytes}
use Rattle.datagram_link.specs.Grams.{datagram_bytes, IsPayload, FitsDatagram}
use Rattle.datagram_link.specs.Reading.{payload_at, data_at, ack_at, here_at, fields_at, gram_of}

payload_again :
    (payload : List ℕ) → IsPayload payload → payload_at (length payload) payload ≡ Ok (payload, [])
unfolding payload_at
payload_again payload fits =
    let size = length payload in
    let same : size ≤ size = le_refl size in
    rw (
      lt-ltb 0 size (omega arith),
      le-leb size MAX_PAYLOAD fits.few,
      le-ltb size size same,
      take_all size payload same,
      drop_all size payload same,
    ) refl

data_again :
    (number : ℕ) (payload : List ℕ) → number < 2 ^ 32 → IsPayload payload →
    gram_of (data_bytes number payload) ≡ Ok (Data number payload)
unfolding gram_of fields_at data_at data_bytes
data_again number payload small fits =
    let after_number = field_bytes 2 (length payload) ++ payload in
    let few = fits.few in
    rw (
      number_again Short 1 1 (field_bytes 4 number ++ after_number) (omega arith),
      number_again Short 4 number after_number small,
      number_again Short 2 (length payload) payload (omega arith),
      payload_again payload fits,
    ) refl

-- A last field, and nothing after it.
last_field :
    (tag width number : ℕ) →
    field_bytes 1 tag ++ field_bytes width number
    ≡ field_bytes 1 tag ++ (field_bytes width number ++ [])
last_field tag width number =
    ap (λ (fields : List ℕ). field_bytes 1 tag ++ fields) (sym (append-nil (field_bytes width number)))

ack_again : (next : ℕ) → next < 2 ^ 32 → gram_of (ack_bytes next) ≡ Ok (Ack next)
unfolding gram_of fields_at ack_at ack_bytes
ack_again next small =
    ap gram_of (last_field 2 4 next)
    ∙ rw (
      number_again Short 1 2 (field_bytes 4 next ++ []) (omega arith),
      number_again Short 4 next [] small,
    ) refl

call_again : gram_of call_bytes ≡ Ok Call
unfolding gram_of fields_at call_bytes
call_again =
    ap gram_of (sym (append-nil (field_bytes 1 3))) ∙ rw (number_again Short 1 3 [] (omega arith)) refl

here_again : (port : ℕ) → port < 2 ^ 16 → gram_of (here_bytes port) ≡ Ok (Here port)
unfolding gram_of fields_at here_at here_bytes
here_again port small =
    ap gram_of (last_field 4 2 port)
    ∙ rw (
      number_again Short 1 4 (field_bytes 2 port ++ []) (omega arith),
      number_again Short 2 port [] small,
    ) refl

pub datagram_again :
    (datagram : Datagram) → FitsDatagram datagram →
    gram_of (datagram_bytes datagram) ≡ Ok datagram
datagram_again (Data number payload) fits = data_again number payload fits.0 fits.1
datagram_again (Ack next) fits = ack_again next fits
datagram_again Call fits = call_again
datagram_again (Here port) fits = here_again port fits
