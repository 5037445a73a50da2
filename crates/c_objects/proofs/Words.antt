-- What a handle is in the machine: one word, the address. Taken apart it is [what it owns].
use Rattle.std.proofs.Common.{◌≡◌, ◌≢◌, List, [], ◌∷◌, ◌++◌, Option, None, Some, refl, subst}
use seplogic.Ra.Ura.{Ura}
use mir.Val.{Val, vstruct, vcons, vnil, of_list}
use types.Logic.{Logic}
use types.Kit.{Item, Goal, Seq, Step, step, ‵, ◌$◌, drop, fsplit, fjoin, fpick, fpack, feq_i, feq_l}
use denote.RattleType.{Valss}
use denote.Builtin.{RawPtr}
use denote.RawPtr.{Ptr, ptr_val}
use denote.Steps.{nothing}
use denote.Struct.Struct.{within}
use denote.Struct.Owning.{shape}
use Rattle.c_objects.specs.contracts.handle.Handle as handle
use Rattle.c_objects.specs.declared.kept.Kept.{Kept}
use Rattle.c_objects.specs.Owns.{kept_owned}

-- A struct of one address.
abbrev pub word : Ptr → Val
word p = vstruct (vcons (ptr_val p) vnil)

-- What a handle holds that does hold something.
pub record Holds (held : Option Kept) : Type 1 where
  pub kept : Kept
  pub is : held ≡ Some kept

pub holds : (held : Option Kept) → held ≢ None → Holds held
holds None some = absurd (some refl)
holds (Some kept) some = record { kept = kept; is = refl }

module _ {M : Type 1} {𝓤 : Ura M} {𝓛 : Logic 𝓤} {K : Type 0} {Γ : List (Item 𝓤)} {G : Goal 𝓤 𝓛.H} where
  pub taken_apart : K → (h : handle.the_row.Denot) (vs : List Val)
      → (vs ≡ word h.at ∷ [] → Seq K 𝓛 (‵ (kept_owned h.at h.held) ∷ Γ) G)
      → Seq K 𝓛 (‵ (handle.the_row.own_val h vs) ∷ Γ) G
  taken_apart t h vs next =
      fsplit t $ fpick t (λ words. fsplit t $ feq_l t (λ is. fsplit t $ feq_l t (λ first. drop t $
      next (subst (λ (us : List Val). vs ≡ vstruct (of_list (us ++ [])) ∷ []) first is))))

  pub put_together : K → (p : Ptr) (held : Option Kept)
      → Step K 𝓛 (‵ (handle.the_row.own_val (record { at = p; held = held }) (word p ∷ [])) ∷ Γ) G (‵ (kept_owned p held) ∷ Γ) G
  put_together t p held = step (λ rest.
      nothing t $ feq_i t (List Val) (ptr_val p ∷ []) (ptr_val p ∷ []) refl $ fjoin t $
      feq_i t (List Val) (word p ∷ []) (word p ∷ []) refl $ fjoin t $
      fpack t (Valss (RawPtr ∷ [])) (within (shape handle.the_type) (p, tt) (word p ∷ [])) (ptr_val p ∷ [], tt) $ fjoin t $ rest)
