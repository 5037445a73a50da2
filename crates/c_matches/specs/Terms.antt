-- The terms of a match.
use Rattle.std.specs.Prelude.{nat_lt, if◌then◌else◌, Option, None, Some}
use Rattle.c_matches.specs.declared.terms.CTerms.{CTerms}
use Rattle.c_matches.specs.declared.terms.Terms.{Terms}

abbrev pub bytes_of : CTerms → Terms
bytes_of terms =
    record { me = terms.me; clients = terms.clients; lag = terms.lag; seed = terms.seed }

-- The terms, where a match has them: a client of 1 to 16, and a lag of 1 to 64.
abbrev pub terms_in : CTerms → Option Terms
terms_in terms =
    if nat_lt terms.me terms.clients
    then (if nat_lt terms.clients 17
    then (if nat_lt 0 terms.lag
    then (if nat_lt terms.lag 65 then Some (bytes_of terms) else None)
    else None)
    else None)
    else None
