-- What is known of a match that was served, over plain values.
use Rattle.std.proofs.Common.{◌≡◌, ◌⊎◌, ℕ, Bool, true, false, if◌then◌else◌, List, inl, inr, ◌∙◌}
use Rattle.std.specs.List.{list_any}
use Rattle.base.specs.Cause.{Increased}
use Rattle.frame_core.specs.Match.{Match}
use Rattle.game_io.specs.SinkState.{SinkState}
use Rattle.match_net.specs.declared.invite.Invite.{Invite}
use Rattle.match_serve.specs.declared.link_end.LinkEnd.{LinkEnd}
use Rattle.match_serve.specs.Passes.{columns_of}
use Rattle.command_answers.specs.declared.statuses.TheConstants.{DONE, OUT_OF_MEMORY}
use Rattle.command_answers.proofs.CausesLemmas.{HasCauses, done_settled, at_memory, at_read}
use Rattle.command_answers.specs.Printing.{MayPrintReply}
use Rattle.command_answers.specs.Reply.{Reply}
use Rattle.link_commands.specs.Links.{WithLinks, causes_by}
use Rattle.link_commands.proofs.LinkLemmas.{IsCaused, printed_causes, settled_causes}
use Rattle.link_commands.specs.PlayText.{link_fault}
use Rattle.serve_command.specs.ServeText.{is_memory, served_status, served_reply}
use Rattle.serve_command.specs.Serves.{ServesBy, NetFailed, IsServeDone}

-- The status of a match by whether memory ran out for a link.
by_memory : (b : Bool) (status : ℕ) → status ≡ (if b then OUT_OF_MEMORY else DONE) → (status ≡ DONE) ⊎ (status ≡ OUT_OF_MEMORY)
by_memory true status e = inr e
by_memory false status e = inl e

pub two_causes : (status : ℕ) (R S : Type 0) → (status ≡ DONE) ⊎ (status ≡ OUT_OF_MEMORY) → HasCauses status R S
two_causes status R S (inl e) = settled_causes status DONE R S done_settled e
two_causes status R S (inr e) = at_memory status R S e

pub served_of : (ends : List LinkEnd) (status : ℕ) → status ≡ served_status ends → (status ≡ DONE) ⊎ (status ≡ OUT_OF_MEMORY)
served_of ends status e = by_memory (list_any is_memory ends) status e

printed_of : (reply : Reply) (status : ℕ) (s s' : SinkState) → (Increased s.faults s'.faults → ⊥) →
    (status ≡ reply.status → (status ≡ DONE) ⊎ (status ≡ OUT_OF_MEMORY)) → MayPrintReply reply status s s' → (status ≡ DONE) ⊎ (status ≡ OUT_OF_MEMORY)
printed_of reply status s s' quiet own (inl (inl wrote)) = own wrote.0
printed_of reply status s s' quiet own (inl (inr cut)) = absurd (quiet cut.1)
printed_of reply status s s' quiet own (inr memory) = inr memory.0

pub serves_caused : {W : Type 0} (of_match : Match W) (invite : Invite) (fine : Type 0) (status : ℕ) (old new : WithLinks) →
    ServesBy of_match invite status old.net new.net old.console new.console old.sink new.sink →
    IsCaused IsServeDone fine status (causes_by (NetFailed old.net new.net) old new)
serves_caused of_match invite fine status old new (inl out) =
    let reply = served_reply of_match.hash of_match.summary (columns_of out.pass) out.ends out.world out.board in
    record {
      has = printed_causes reply status old.sink new.sink _ _ (λ e. two_causes status _ _ (served_of out.ends status e)) out.prints;
      done = λ quiet fine. printed_of reply status old.sink new.sink quiet.sink (λ e. served_of out.ends status e) out.prints;
    }
serves_caused of_match invite fine status old new (inr (inl memory)) = record {
  has = at_memory status _ _ memory.0;
  done = λ quiet fine. inr memory.0;
}
serves_caused of_match invite fine status old new (inr (inr failed)) = record {
  has = printed_causes link_fault status old.sink new.sink _ _ (λ e. at_read status _ _ (inr failed.0) e) failed.1;
  done = λ quiet fine. absurd (quiet.net failed.0);
}
