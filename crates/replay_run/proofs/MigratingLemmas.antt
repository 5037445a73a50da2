-- A migration gone over part by part writes the migrated replay.
use Rattle.std.specs.Prelude.{◌≡◌, ℕ, ◌+◌, ◌<◌, ◌≤◌, ◌^◌, Bool, true, false, List, [], ◌∷◌, ◌++◌}
use Rattle.std.specs.Prelude.{length, Option, Some, None}
use Rattle.std.specs.Global.{Vec}
use Rattle.std.specs.List.{AllByRecursion}
use Rattle.std.proofs.Common.{refl, sym, ap, subst, ◌∙◌, arith, append_assoc}
use Rattle.std.proofs.lemmas.List.{append-nil}
use Rattle.game_orders.specs.declared.limits.TheConstants.{MAX_FRAMES}
use Rattle.replay_file.specs.declared.limits.TheConstants.{VERSION}
use Rattle.replay_file.specs.declared.part.Part.{Part}
use Rattle.replay_file.specs.declared.part.Part.TheVariants.{Frame, Mark}
use Rattle.replay_file.specs.declared.replay.Replay.{Replay}
use Rattle.replay_file.specs.declared.standing.Standing.{Standing}
use Rattle.replay_file.specs.FirstFault.{Spells}
use Rattle.replay_file.specs.Frames.{frames_of, marked_anew, marks_after}
use Rattle.replay_file.proofs.MigratedLemmas.{migrated_valid}
use Rattle.replay_file.specs.PartBytes.{part_bytes, parts_bytes, end_bytes, FitsPart}
use Rattle.replay_file.specs.PartRules.{after_part, opening, EachMayFollow}
use Rattle.replay_file.specs.ReplayBytes.{header_bytes, replay_bytes, FitsReplay}
use Rattle.replay_file.specs.ValidReplay.{IsValidReplay}
use Rattle.replay_run.specs.declared.difference.Difference.{Difference}
use Rattle.replay_run.specs.declared.replayed.Replayed.{Replayed}
use Rattle.replay_run.specs.declared.migration.Migration.TheVariants.{Migrated}
use Rattle.replay_run.specs.Migrating.{marked_part, marks_in, Migrates}
use Rattle.replay_run.specs.Passing.{first_of, passed}
use Rattle.replay_run.specs.Rerun.{Rerun, difference_of, first_difference, frame_count}
use Rattle.replay_run.specs.Rerun.{hash_from, mark_count, mark_hash, migrated_over, world_in}
use Rattle.replay_run.proofs.RerunLemmas.{IsSoFar, difference_last, difference_zero, world_zero}

-- No mark stands directly after a mark, so there are few.
one_more : Bool → ℕ
one_more true = 1
one_more false = 0

at_most : (marked : Bool) → one_more marked ≤ 1
unfolding one_more
at_most true = omega arith
at_most false = omega arith

few_after :
    (version : ℕ) (s : Standing) (n : ℕ) (parts : List Part) → EachMayFollow version s parts →
    length (marks_after n parts) + one_more s.marked ≤ length (frames_of parts) + 1
unfolding one_more
few_after version s n [] follow = omega (arith, at_most s.marked)
few_after version s n (Frame entries ∷ parts) follow =
    let rest : length (marks_after (n + 1) parts) + 0 ≤ length (frames_of parts) + 1 =
    few_after version (after_part s (Frame entries)) (n + 1) parts follow.1 in
    omega (arith, rest, at_most s.marked)
few_after version s n (Mark hash ∷ parts) follow =
    let rest : length (marks_after n parts) + 1 ≤ length (frames_of parts) + 1 =
    few_after version (after_part s (Mark hash)) n parts follow.1 in
    let none : one_more s.marked ≡ 0 = ap one_more follow.0 in
    omega (arith, rest, none)

few_marks : (r : Replay) → IsValidReplay r → mark_count r ≤ frame_count r + 1
few_marks r valid =
    omega (arith, few_after r.version (opening r.clients) 0 r.parts valid.parts)

-- The hash of the world after so many frames.
abbrev new_hash : {W : Type 0} → Rerun W → Replay → ℕ → ℕ
new_hash run r n = run.hash (world_in run r.parts n)

-- What was written and the parts that are left are the migrated replay.
pub record IsWritten {W : Type 0}
    (run : Rerun W) (r : Replay) (head : List ℕ) (left : List Part) (frames : ℕ)
    (written : List ℕ) (marks : ℕ) : Type 0 where
  pub bytes :
      written ++ parts_bytes (marked_anew (new_hash run r) frames left)
      ≡ head ++ parts_bytes (migrated_over run r).parts
  pub fits :
      AllByRecursion FitsPart (marked_anew (new_hash run r) frames left) →
      AllByRecursion FitsPart (migrated_over run r).parts
  pub count : marks + length (marks_after frames left) ≡ mark_count r
  pub few : mark_count r ≤ MAX_FRAMES + 1

-- Nothing but the header was written.
pub written_begins :
    {W : Type 0} (run : Rerun W) (r : Replay) (head written : List ℕ) (left : List Part)
    (so_far : Replayed W) → IsValidReplay r → IsSoFar run 0 r left so_far → left ≡ r.parts →
    written ≡ head → IsWritten run r head left 0 written 0
written_begins run r head written left so_far valid is all headed =
    let here : IsWritten run r head r.parts 0 head 0 = record {
      bytes = refl;
      fits = λ all. all;
      count = omega arith;
      few = omega (arith, few_marks r valid, is.few);
    } in
    subst (λ (bytes : List ℕ). IsWritten run r head left 0 bytes 0) (sym headed)
    (subst (λ (parts : List Part). IsWritten run r head parts 0 head 0) (sym all) here)

-- One more part was written.
written_more :
    {W : Type 0} (run : Rerun W) (r : Replay) (head : List ℕ) (part : Part) (left : List Part)
    (so_far : Replayed W) (old new : List ℕ) (marks more : ℕ) → IsSoFar run 0 r (part ∷ left) so_far →
    new ≡ old ++ part_bytes (marked_part
    (run.hash (passed run.after (mark_hash run r.version) so_far part).world) part) →
    FitsPart (marked_part
    (run.hash (passed run.after (mark_hash run r.version) so_far part).world) part) →
    more ≡ marks_in part → IsWritten run r head (part ∷ left) so_far.frames old marks →
    IsWritten run r head left (passed run.after (mark_hash run r.version) so_far part).frames new
    (marks + more)
written_more run r head (Frame entries) left so_far old new marks more is added fits none written =
    let rest = parts_bytes (marked_anew (new_hash run r) (so_far.frames + 1) left) in
    record {
      bytes =
          ap (λ (xs : List ℕ). xs ++ rest) added
          ∙ append_assoc old (part_bytes (Frame entries)) rest ∙ written.bytes;
      fits = λ all. written.fits (fits, all);
      count = omega (arith, written.count, none);
      few = written.few;
    }
written_more run r head (Mark file) left so_far old new marks more is added fits one written =
    let here : run.hash so_far.world ≡ new_hash run r so_far.frames =
    ap run.hash (is.world ∙ world_zero run r.parts so_far.frames) in
    let rest = parts_bytes (marked_anew (new_hash run r) so_far.frames left) in
    record {
      bytes =
          ap (λ (xs : List ℕ). xs ++ rest)
          (added ∙ ap (λ (h : ℕ). old ++ part_bytes (Mark h)) here)
          ∙ append_assoc old (part_bytes (Mark (new_hash run r so_far.frames))) rest
          ∙ written.bytes;
      fits = λ all.
          written.fits (subst (λ (h : ℕ). FitsPart (Mark h)) here fits, all);
      count = omega (arith, written.count, one);
      few = written.few;
    }

abbrev IsWrittenAt :
    {W : Type 0} → Rerun W → Replay → List ℕ → List Part → List ℕ → ℕ → Replayed W → Type 0
IsWrittenAt run r head left written marks so_far =
    IsWritten run r head left so_far.frames written marks

abbrev bytes_at : {W : Type 0} → Rerun W → Part → List ℕ → Replayed W → List ℕ
bytes_at run part old so_far = old ++ part_bytes (marked_part (run.hash so_far.world) part)

abbrev FitsAt : {W : Type 0} → Rerun W → Part → Replayed W → Type 0
FitsAt run part so_far = FitsPart (marked_part (run.hash so_far.world) part)

-- The same where the part is the first of those that were left.
pub written_step :
    {W : Type 0} (run : Rerun W) (r : Replay) (head : List ℕ) (part : Part)
    (left rest : List Part) (so_far next : Replayed W) (old new : List ℕ) (marks more : ℕ) →
    IsSoFar run 0 r left so_far → left ≡ part ∷ rest →
    next ≡ passed run.after (mark_hash run r.version) so_far part →
    new ≡ old ++ part_bytes (marked_part (run.hash next.world) part) →
    FitsPart (marked_part (run.hash next.world) part) → more ≡ marks_in part →
    IsWritten run r head left so_far.frames old marks →
    IsWritten run r head rest next.frames new (marks + more)
written_step run r head part left rest so_far next old new marks more is taken passes added fits few written =
    let there : IsSoFar run 0 r (part ∷ rest) so_far =
    subst (λ (parts : List Part). IsSoFar run 0 r parts so_far) taken is in
    let before : IsWritten run r head (part ∷ rest) so_far.frames old marks =
    subst (λ (parts : List Part). IsWritten run r head parts so_far.frames old marks) taken written in
    subst (IsWrittenAt run r head rest new (marks + more)) (sym passes)
    (written_more run r head part rest so_far old new marks more there
    (added ∙ ap (bytes_at run part old) passes) (subst (FitsAt run part) passes fits) few before)

-- The count of marks stays small.
marks_fit :
    {W : Type 0} (run : Rerun W) (r : Replay) (head : List ℕ) (part : Part) (left : List Part)
    (frames : ℕ) (written : List ℕ) (marks more : ℕ) → more ≡ marks_in part →
    IsWritten run r head (part ∷ left) frames written marks → marks + more < 2 ^ 32
marks_fit run r head (Frame entries) left frames written marks more none is =
    omega (arith, is.count, is.few, none)
marks_fit run r head (Mark file) left frames written marks more one is =
    omega (arith, is.count, is.few, one)

pub marks_fit_left :
    {W : Type 0} (run : Rerun W) (r : Replay) (head : List ℕ) (part : Part)
    (left rest : List Part) (frames : ℕ) (written : List ℕ) (marks more : ℕ) →
    left ≡ part ∷ rest → more ≡ marks_in part → IsWritten run r head left frames written marks →
    marks + more < 2 ^ 32
marks_fit_left run r head part left rest frames written marks more taken few is =
    marks_fit run r head part rest frames written marks more few
    (subst (λ (parts : List Part). IsWritten run r head parts frames written marks) taken is)

-- A difference that was found is that of the replay.
pub difference_found :
    {W : Type 0} (run : Rerun W) (r : Replay) (left : List Part) (so_far : Replayed W)
    (d : Difference) → IsSoFar run 0 r left so_far → so_far.difference ≡ Some d →
    difference_of run r ≡ Some d
difference_found run r left so_far d is found =
    sym (difference_zero run r) ∙ sym is.difference
    ∙ ap (λ (o : Option Difference).
    first_of o (first_difference (hash_from run 0 r) (marks_after so_far.frames left))) found

-- All was written.
pub all_written :
    {W : Type 0} (run : Rerun W) (r : Replay) (so_far : Replayed W) (left : List Part)
    (head written : List ℕ) (bytes : Vec ℕ) (marks : ℕ) → IsValidReplay r → FitsReplay r →
    head ≡ header_bytes VERSION r.rules r.seed r.clients → IsSoFar run 0 r left so_far →
    so_far.difference ≡ None → left ≡ [] →
    IsWritten run r head left so_far.frames written marks → bytes.items ≡ written ++ end_bytes →
    Migrates run r (Migrated bytes so_far.frames marks)
unfolding replay_bytes
all_written run r so_far left head written bytes marks valid fits headed is none ended all finished =
    let new = migrated_over run r in
    let header = header_bytes VERSION r.rules r.seed r.clients in
    let last : IsSoFar run 0 r [] so_far =
    subst (λ (parts : List Part). IsSoFar run 0 r parts so_far) ended is in
    let whole : IsWritten run r head [] so_far.frames written marks =
    subst (λ (parts : List Part). IsWritten run r head parts so_far.frames written marks) ended
    all in
    let body : written ≡ head ++ parts_bytes new.parts =
    sym (append-nil written) ∙ whole.bytes in
    let spells : Spells r.rules bytes.items new = record {
      rules = refl;
      valid = migrated_valid (new_hash run r) r valid;
      fits = record {
        version = omega arith;
        rules = fits.rules;
        seed = fits.seed;
        clients = fits.clients;
        parts = whole.fits tt;
      };
      spelled =
          finished
          ∙ ap (λ (xs : List ℕ). xs ++ end_bytes)
          (body ∙ ap (λ (h : List ℕ). h ++ parts_bytes new.parts) headed)
          ∙ append_assoc header (parts_bytes new.parts) end_bytes;
    } in (
      sym (difference_zero run r) ∙ sym (difference_last run 0 r so_far last) ∙ none,
      spells,
      omega (arith, last.count),
      omega (arith, whole.count),
    )

pub ruleset migrate_steps =
    (written_begins, written_step, marks_fit_left, difference_found, all_written)
