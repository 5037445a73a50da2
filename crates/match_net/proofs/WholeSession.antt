-- A session that its own bytes ended is that of all of them.
use Rattle.std.proofs.Common.{◌≡◌, ℕ, ◌+◌, ◌<◌, ◌≤◌, zero, suc, true, List, [], ◌∷◌, ◌++◌, length, take, Some, refl, sym, ap, subst, ◌∙◌, arith, inl, inr, lt-ltb}
use Rattle.std.specs.Prelude.{nat_lt}
use Rattle.std.specs.Option.{option_map}
use Rattle.game_io.specs.SourceState.{SourceState}
use Rattle.order_packets.specs.PacketReading.{packet_at, up_at}
use Rattle.frame_table.specs.declared.view.View.{View}
use Rattle.match_net.specs.declared.limits.TheConstants.{MAX_LINK_BYTES}
use Rattle.report_line.specs.declared.heard.Heard.{Heard}
use Rattle.match_net.specs.declared.ending.Ending.{Ending}
use Rattle.match_net.specs.declared.ending.Ending.TheVariants as ending
use Rattle.match_net.specs.declared.read_cause.ReadCause.{ReadCause}
use Rattle.match_net.specs.declared.reader_end.ReaderEnd.TheVariants as end
use Rattle.match_net.specs.Session.{Session, Makes, IsSession, end_at, limited}
use Rattle.match_net.specs.Sessions.{ReadsLink, IsWholeSession}

take_all : {A : Type 0} (n : ℕ) (xs : List A) → length xs ≤ n → take n xs ≡ xs
take_all zero [] few = refl
take_all zero (x ∷ xs) few = absurd (omega arith)
take_all (suc n) [] few = refl
take_all (suc n) (x ∷ xs) few = ap (λ ys. x ∷ ys) (take_all n xs (omega arith))

is_session :
    (c here : ℕ) (bytes rest : List ℕ) (session : Session) (at : ℕ) (ending : Ending) → length bytes ≤ MAX_LINK_BYTES →
    Makes c here bytes session rest → at + length rest ≡ length bytes →
    option_map (limited (length bytes)) (end_at c here session (packet_at up_at rest)) ≡ Some ending →
    IsSession c here bytes session ending at
is_session c here bytes rest session at ending few makes place ends =
    let all : take MAX_LINK_BYTES bytes ≡ bytes = take_all MAX_LINK_BYTES bytes few in
    record {
      rest = rest;
      makes = subst (λ (b : List ℕ). Makes c here b session rest) (sym all) makes;
      place = place ∙ ap length (sym all);
      ends = ends;
    }

pub whole_refused :
    (c here : ℕ) (given : List ℕ) (old new : SourceState) (before after : View) (first pushed : List Heard) (cause : ReadCause) →
    (reads : ReadsLink c here given old new before after first pushed (end.Refused cause)) →
    IsWholeSession c here (given ++ reads.taken) reads.session reads.at (end.Refused cause)
whole_refused c here given old new before after first pushed cause reads =
    record {
      ending = ending.Refused cause;
      answered = refl;
      is = is_session c here (given ++ reads.taken) reads.rest reads.session reads.at (ending.Refused cause) reads.few reads.makes reads.place reads.ends;
    }

pub whole_ended :
    (c here : ℕ) (given : List ℕ) (old new : SourceState) (before after : View) (first pushed : List Heard) →
    (reads : ReadsLink c here given old new before after first pushed end.Ended) →
    IsWholeSession c here (given ++ reads.taken) reads.session reads.at end.Ended
whole_ended c here given old new before after first pushed reads =
    let bytes = given ++ reads.taken in
    elim reads.ends.0 [
      | inl bye ↦ record {
        ending = ending.Bye;
        answered = refl;
        is = is_session c here bytes reads.rest reads.session reads.at ending.Bye reads.few reads.makes reads.place (ap (option_map (limited (length bytes))) bye);
      }
      | inr over ↦ record {
        ending = ending.Over;
        answered = refl;
        is = is_session c here bytes reads.rest reads.session reads.at ending.Over reads.few reads.makes reads.place
            (ap (option_map (limited (length bytes))) over.0 ∙ ap Some (within (length bytes) over.1));
      }
    ]
  where
    within : (size : ℕ) → size < MAX_LINK_BYTES → limited size ending.Over ≡ ending.Over
    within size few = let below : nat_lt size MAX_LINK_BYTES ≡ true = lt-ltb size MAX_LINK_BYTES few in rw below refl

pub whole_lost :
    (c here : ℕ) (given : List ℕ) (old new : SourceState) (before after : View) (first pushed : List Heard) →
    (reads : ReadsLink c here given old new before after first pushed end.Lost) →
    IsSession c here (given ++ reads.taken) reads.session (limited (length (given ++ reads.taken)) ending.Over) reads.at
whole_lost c here given old new before after first pushed reads =
    let bytes = given ++ reads.taken in
    is_session c here bytes reads.rest reads.session reads.at (limited (length bytes) ending.Over) reads.few reads.makes reads.place
    (ap (option_map (limited (length bytes))) reads.ends.0)
