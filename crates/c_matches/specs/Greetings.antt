-- How a link begins: a client's greeting, and what the server answers.
use Rattle.std.specs.Prelude.{ℕ, ◌==◌, if◌then◌else◌, List, Option, None, Some, Result, Ok, Err}
use Rattle.order_packets.specs.declared.down.Down.{Down}
use Rattle.order_packets.specs.declared.down.Down.TheVariants.{Welcome, Refused, Entry}
use Rattle.order_packets.specs.declared.up.Up.{Up}
use Rattle.order_packets.specs.declared.up.Up.TheVariants.{Hello, Orders, Sync, Bye}
use Rattle.order_packets.specs.PacketBytes.{up_bytes, down_bytes}
use Rattle.setup_files.specs.declared.making.Made.{Made}
use Rattle.c_objects.specs.declared.code.TheConstants.{OK, REFUSED, BAD_BYTES, BAD_ARGUMENT}
use Rattle.c_matches.specs.declared.answer.Answer.{Answer}
use Rattle.order_packets.specs.declared.limits.TheConstants.{VERSION, OTHER_VERSION, OTHER_RULES}
use Rattle.order_packets.specs.declared.limits.TheConstants.{NO_HELLO}
use Rattle.c_matches.specs.declared.terms.CTerms.{CTerms}
use Rattle.c_matches.specs.declared.terms.Terms.{Terms}
use Rattle.c_matches.specs.Answers.{only, telling}
use Rattle.c_matches.specs.Terms.{terms_in}

-- A client's greeting.
abbrev pub hello_told : Made → Result (List ℕ) ℕ
hello_told made = Ok (up_bytes (Hello VERSION made.number))

-- The answer to a whole first packet. The version is looked at first.
abbrev pub up_answer : Up → Made → Answer
up_answer (Hello version rules) made =
    if version == VERSION
    then (if rules == made.number then only OK else telling REFUSED OTHER_RULES)
    else telling REFUSED OTHER_VERSION
up_answer (Orders frame orders) made = telling REFUSED NO_HELLO
up_answer (Sync frame hash) made = telling REFUSED NO_HELLO
up_answer Bye made = telling REFUSED NO_HELLO

abbrev pub greeting_answer : Option Up → Made → Answer
greeting_answer None made = only BAD_BYTES
greeting_answer (Some packet) made = up_answer packet made

-- The server's welcome.
abbrev pub welcome_by : Option Terms → Result (List ℕ) ℕ
welcome_by None = Err BAD_ARGUMENT
welcome_by (Some terms) = Ok (down_bytes (Welcome terms.me terms.clients terms.lag terms.seed))

abbrev pub welcome_told : CTerms → Result (List ℕ) ℕ
welcome_told terms = welcome_by (terms_in terms)

-- What the server's first packet says to a client.
abbrev pub welcome_code : Option Down → ℕ
welcome_code None = BAD_BYTES
welcome_code (Some (Welcome client clients lag seed)) = OK
welcome_code (Some (Refused code)) = REFUSED
welcome_code (Some (Entry client frame entry)) = BAD_BYTES

abbrev pub welcome_out : Option Down → (old : CTerms) → CTerms
welcome_out None old = old
welcome_out (Some (Welcome client clients lag seed)) old =
    record { me = client; clients = clients; lag = lag; seed = seed }
welcome_out (Some (Refused code)) old = record old { me = code }
welcome_out (Some (Entry client frame entry)) old = old
