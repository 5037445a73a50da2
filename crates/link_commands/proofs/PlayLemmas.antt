-- What is known of a match that was played over a link, over plain values.
use Rattle.std.proofs.Common.{◌≡◌, ◌≤◌, ◌<◌, ◌+◌, ◌-◌, ◌⊎◌, ℕ, List, length, Option, min, sym, subst, inl, inr, arith, ◌∙◌}
use Rattle.std.specs.Prelude.{◌^◌}
use Rattle.base.specs.Cause.{Increased}
use Rattle.game_io.specs.NetState.{NetState, link_faults}
use Rattle.game_io.specs.SinkState.{SinkState}
use Rattle.game_io.specs.SourceState.{SourceState}
use Rattle.order_packets.specs.declared.down.Down.{Down}
use Rattle.order_packets.specs.PacketReading.{FirstPacket}
use Rattle.frame_core.specs.declared.summary.Summary.{Summary}
use Rattle.match_net.specs.declared.play_end.PlayEnd.{PlayEnd}
use Rattle.match_net.specs.declared.play_end.PlayEnd.TheVariants as end
use Rattle.match_net.specs.Playing.{Stage}
use Rattle.match_net.specs.PlayMatch.{EndsBy}
use Rattle.match_net.specs.Stages.{Terms}
use Rattle.command_answers.specs.declared.statuses.TheConstants.{DONE, REFUSED_FILE, OUT_OF_MEMORY}
use Rattle.command_answers.proofs.CausesLemmas.{HasCauses, done_settled, file_settled, at_memory, at_read}
use Rattle.command_answers.specs.Printing.{MayPrintReply}
use Rattle.command_answers.specs.Reply.{Reply}
use Rattle.link_commands.specs.PlayedLink.{PlayedLink}
use Rattle.link_commands.specs.PlayText.{played_reply, link_fault}
use Rattle.link_commands.specs.Links.{WithLinks, causes_by}
use Rattle.link_commands.specs.Plays.{PlaysBy, LinkFailed, IsPlayDone}
use Rattle.link_commands.proofs.LinkLemmas.{IsCaused, printed_causes, settled_causes}

-- A half that has failed counts for its link, which had none before.
half_rose : (a b : ℕ) → Increased 0 a ⊎ Increased 0 b → Increased 0 (min (a + b) (2 ^ 64 - 1))
half_rose a b (inl rose) = omega arith
half_rose a b (inr rose) = omega arith

later_rose : (old new : ℕ) → old ≡ 0 → Increased old new → Increased 0 new
later_rose old new none rose = subst (λ n. Increased n new) none rose

lost_by :
    {W : Type 0} (terms : Terms W) (packets : List Down) (now : Option (Stage W)) (found : FirstPacket Down) (size at : ℕ) (i i' : SourceState) (o o' : SinkState) →
    i.faults ≡ 0 → o.faults ≡ 0 → EndsBy terms packets now found size at i i' o o' end.Lost → Increased 0 i'.faults ⊎ Increased 0 o'.faults
lost_by terms packets now found size at i i' o o' none none' (inl unread) = inl (later_rose i.faults i'.faults none unread.2)
lost_by terms packets now found size at i i' o o' none none' (inr fails) = inr (later_rose o.faults o'.faults none' fails.2.rose)

-- A match that ended by a fault of its link.
lost_failed : {W : Type 0} (terms : Terms W) (old new : NetState) (client frames : ℕ) (sim : Option W) →
    PlayedLink terms old new end.Lost client frames sim → Increased 0 (link_faults new.given 0)
lost_failed terms old new client frames sim played =
    subst (λ given. Increased 0 (link_faults given 0)) (sym played.lends.given)
    (half_rose played.input_after.faults played.output_after.faults
    (lost_by terms played.plays.plays.packets played.plays.plays.now played.plays.plays.found (length played.plays.plays.link.taken) played.plays.plays.at played.input played.input_after played.output played.output_after
    played.lends.link.no_input_faults played.lends.link.no_output_faults played.plays.plays.ends))

played_causes : {W : Type 0} (hash : W → ℕ) (summary : W → Summary) (terms : Terms W) (answer : PlayEnd) (client frames : ℕ) (sim : Option W) (status : ℕ) (old new : NetState) (R S : Type 0) →
    PlayedLink terms old new answer client frames sim → status ≡ (played_reply hash summary answer client frames sim).status →
    HasCauses status (R ⊎ LinkFailed old new) S
played_causes hash summary terms end.Over client frames sim status old new R S played e = settled_causes status DONE _ _ done_settled e
played_causes hash summary terms (end.Refused code) client frames sim status old new R S played e = settled_causes status REFUSED_FILE _ _ file_settled e
played_causes hash summary terms (end.BadLink at why) client frames sim status old new R S played e = settled_causes status REFUSED_FILE _ _ file_settled e
played_causes hash summary terms end.Lost client frames sim status old new R S played e = at_read status _ _ (inr (inr (lost_failed terms old new client frames sim played))) e

played_done : {W : Type 0} (hash : W → ℕ) (summary : W → Summary) (terms : Terms W) (answer : PlayEnd) (client frames : ℕ) (sim : Option W) (status : ℕ) (old new : NetState) →
    PlayedLink terms old new answer client frames sim → (LinkFailed old new → ⊥) →
    status ≡ (played_reply hash summary answer client frames sim).status → IsPlayDone status
played_done hash summary terms end.Over client frames sim status old new played quiet e = inl e
played_done hash summary terms (end.Refused code) client frames sim status old new played quiet e = inr e
played_done hash summary terms (end.BadLink at why) client frames sim status old new played quiet e = inr e
played_done hash summary terms end.Lost client frames sim status old new played quiet e = absurd (quiet (inr (lost_failed terms old new client frames sim played)))

-- The status of a printed reply, where the sink did not fail.
printed_done : (Done : ℕ → Type 0) (reply : Reply) (status : ℕ) (s s' : SinkState) →
    (Increased s.faults s'.faults → ⊥) → (status ≡ reply.status → Done status) → MayPrintReply reply status s s' → Done status ⊎ (status ≡ OUT_OF_MEMORY)
printed_done Done reply status s s' quiet own (inl (inl wrote)) = inl (own wrote.0)
printed_done Done reply status s s' quiet own (inl (inr cut)) = absurd (quiet cut.1)
printed_done Done reply status s s' quiet own (inr memory) = inr memory.0

pub plays_caused : {W : Type 0} (hash : W → ℕ) (summary : W → Summary) (terms : Terms W) (fine : Type 0) (status : ℕ) (old new : WithLinks) →
    PlaysBy hash summary terms status old.net new.net old.sink new.sink →
    IsCaused IsPlayDone fine status (causes_by (LinkFailed old.net new.net) old new)
plays_caused hash summary terms fine status old new (inl out) = record {
  has = printed_causes (played_reply hash summary out.end out.client out.frames out.sim) status old.sink new.sink _ _
      (λ e. played_causes hash summary terms out.end out.client out.frames out.sim status old.net new.net _ _ out.played e) out.prints;
  done = λ quiet fine. printed_done IsPlayDone (played_reply hash summary out.end out.client out.frames out.sim) status old.sink new.sink
      quiet.sink (λ e. played_done hash summary terms out.end out.client out.frames out.sim status old.net new.net out.played quiet.net e) out.prints;
}
plays_caused hash summary terms fine status old new (inr (inl partly)) = record {
  has = at_memory status _ _ partly.1;
  done = λ quiet fine. inr partly.1;
}
plays_caused hash summary terms fine status old new (inr (inr none)) = record {
  has = printed_causes link_fault status old.sink new.sink _ _ (λ e. at_read status _ _ (inr (inl none.0.rose)) e) none.1;
  done = λ quiet fine. absurd (quiet.net (inl none.0.rose));
}
