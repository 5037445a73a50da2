-- Ends of a queue, made one after another.
use Rattle.std.proofs.Common.{◌≡◌, ◌⊎◌, ℕ, ◌+◌, ◌<◌, List, [], ◌∷◌, ◌++◌, length, get_or, refl, sym, ap, ◌∙◌, subst, ⊎_elim, arith, length-append}
use Rattle.std.specs.Prelude.{slice_index_or}
use Rattle.std.proofs.lemmas.List.{get_or_append_left}
use Rattle.std.proofs.Math.Seq.{get_or-append_seam}
use Rattle.std.specs.declared.alloc.Global.{Global}
use Rattle.crossbeam_queue.specs.SegTies.{SegId}
use Rattle.report_line.specs.declared.report_receiver.ReportReceiver.{ReportReceiver}
use Rattle.report_line.specs.declared.reports.Reports.{Reports}
use Rattle.report_line.specs.Reports.{heard, joined, ends_of, queue_heard, IsNewEnd, AreNewEnds}

pub ends_none :
    (receiver : ReportReceiver) → ends_of receiver ≡ 0 → heard receiver ≡ [] → joined receiver ≡ [] →
    AreNewEnds 0 [] receiver
ends_none receiver none unheard unjoined =
    record { count_is = refl; each = λ k d low. absurd (omega arith); ends_are = none; unheard = unheard; unjoined = unjoined }

pub ends_more :
    (count : ℕ) (ends more : List Reports) (end : Reports) (old new : ReportReceiver) →
    AreNewEnds count ends old → queue_heard new ≡ queue_heard old → heard new ≡ heard old →
    joined new ≡ joined old → ends_of new ≡ ends_of old + 1 →
    IsNewEnd (queue_heard old) (ends_of old) end → more ≡ ends ++ end ∷ [] →
    AreNewEnds (count + 1) more new
ends_more count ends more end old new are queue same_heard same_joined one_more is_new is =
    rw is record {
      count_is = length-append ends (end ∷ []) ∙ ap (λ n. n + 1) are.count_is;
      each = λ k d low. subst (λ (q : SegId Global). IsNewEnd q k (slice_index_or (ends ++ end ∷ []) k d)) (sym queue)
          (⊎_elim
          (λ less. subst (IsNewEnd (queue_heard old) k) (sym (get_or_append_left ends (end ∷ []) d k less)) (are.each k d less))
          (λ (last : k ≡ length ends). subst (IsNewEnd (queue_heard old) k) (sym (ap (λ n. get_or (ends ++ end ∷ []) n d) last ∙ get_or-append_seam ends end [] d))
          (subst (λ n. IsNewEnd (queue_heard old) n end) (are.ends_are ∙ sym are.count_is ∙ sym last) is_new))
          (last_or_less k (length ends) (let l = length-append ends (end ∷ []) in omega arith)));
      ends_are = one_more ∙ ap (λ n. n + 1) are.ends_are;
      unheard = same_heard ∙ are.unheard;
      unjoined = same_joined ∙ are.unjoined;
    }
  where
    last_or_less : (k n : ℕ) → k < n + 1 → (k < n) ⊎ (k ≡ n)
    last_or_less k n less = grind arith

pub ends_all :
    (count all : ℕ) (ends : List Reports) (receiver : ReportReceiver) → AreNewEnds count ends receiver →
    count ≡ all → AreNewEnds all ends receiver
ends_all count all ends receiver are is = subst (λ n. AreNewEnds n ends receiver) is are
