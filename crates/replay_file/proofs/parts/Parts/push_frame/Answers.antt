use Rattle.std.proofs.Common.{sym, subst, ℕ, List}
use Rattle.replay_file.specs.declared.part.Part.TheVariants.{Frame}
use Rattle.replay_file.specs.PartStore.{IsCountedStore}
use Rattle.replay_file.proofs.StoreLemmas.{frame_counted, parts_grow, room_for_frame}
use Rattle.replay_file.proofs.parts.Parts.push_frame.Goals as goal

pub invariant_of-self : goal.invariant_of-self
invariant_of-self c =
    subst (λ (bytes : List ℕ). IsCountedStore bytes c.self.inside.frames)
    (sym c.in_err-store_frame.ensures.err) c.self.invariant

pub one_more-self-inside-requires : goal.one_more-self-inside-requires
one_more-self-inside-requires c =
    rw c.as_slice.ensures.value
    (room_for_frame c.self.inside.bytes.items c.store_frame.new.out.items c.args.frame.now
    c.self.inside.frames c.self.invariant c.in_ok-store_frame.ensures.ok)

pub invariant_of-self-2 : goal.invariant_of-self-2
invariant_of-self-2 c =
    frame_counted c.self.inside.bytes.items c.store_frame.new.out.items c.args.frame.now
    c.self.inside.frames c.one_more-self-inside.result c.self.invariant
    c.frame_fits.ensures.fits c.frame_fits.ensures.few c.in_ok-store_frame.ensures.ok
    c.one_more-self-inside.ensures

pub returns-clause-ok : goal.returns-clause-ok
returns-clause-ok c =
    rw (← c.self.view_is)
    (parts_grow c.self.inside.bytes.items c.store_frame.new.out.items (Frame c.args.frame.now)
    c.self.invariant.store c.frame_fits.ensures.fits c.frame_fits.ensures.few
    c.in_ok-store_frame.ensures.ok)
