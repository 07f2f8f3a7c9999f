-- The machine values of a `Handle`.
use Rattle.kc_c.proofs.Steps.{ℕ, List, [], ◌∷◌, refl, lit<, w32, ‵, ◌$◌, fjoin, fpack, feq_i, u32, uint_Makes, RawPtr, block_ptr, nothing, owned, Val, vint}
use seplogic.Ra.Ura.{Ura}
use mir.Val.{vptr, vstruct, vcons, vnil}
use types.Logic.{Logic}
use types.Kit.{Item, Goal, Step, step}
use denote.RattleType.{RattleType, Valss}
use denote.Struct.Struct.{within}
use denote.Struct.Owning.{shape}
use Rattle.std.specs.Box.Ownership.{box_owns}
use Rattle.kc_c.specs.Held.{chunk}
use Rattle.kc_c.specs.contracts.handle.KcasCaller as handle
use Rattle.kc_c.specs.contracts.client.Client as inner
use Rattle.kc_c.specs.declared.client.Client.{Client}

abbrev pub H : RattleType
H = handle.the_row

abbrev pub word : ℕ → ℕ → ℕ → Val
word n b o = vstruct (vcons (vint w32 n) (vcons (vptr b o) vnil))

module _ {M : Type 1} {𝓤 : Ura M} {𝓛 : Logic 𝓤} {K : Type 0} {Γ : List (Item 𝓤)} {G : Goal 𝓤 𝓛.H} where
  pub handle_in : K → (b o : ℕ) (x : Client)
      → Step K 𝓛 (‵ (H.own_val (record { held = 1; at = block_ptr b o; value = x }) (word 1 b o ∷ [])) ∷ Γ) G (‵ (box_owns chunk inner.the_row (block_ptr b o) x) ∷ Γ) G
  handle_in t b o x = step (λ s. let v : Val = word 1 b o in
      nothing t $ feq_i t (List Val) (vptr b o ∷ []) (vptr b o ∷ []) refl $ fjoin t $ owned t u32 _ (uint_Makes 𝓛 w32) 1 (vint w32 1 ∷ []) (refl, lit< tt) $ fjoin t $ feq_i t (List Val) (v ∷ []) (v ∷ []) refl $ fjoin t $
      fpack t (Valss (u32 ∷ RawPtr ∷ [])) (within (shape handle.the_type) (1, (block_ptr b o, tt)) (v ∷ [])) (vint w32 1 ∷ [], (vptr b o ∷ [], tt)) $ fjoin t $ s)

  pub closed_in : K → (b o : ℕ) (x : Client)
      → Step K 𝓛 (‵ (H.own_val (record { held = 0; at = block_ptr b o; value = x }) (word 0 b o ∷ [])) ∷ Γ) G Γ G
  closed_in t b o x = step (λ s. let v : Val = word 0 b o in
      nothing t $ nothing t $ feq_i t (List Val) (vptr b o ∷ []) (vptr b o ∷ []) refl $ fjoin t $ owned t u32 _ (uint_Makes 𝓛 w32) 0 (vint w32 0 ∷ []) (refl, lit< tt) $ fjoin t $ feq_i t (List Val) (v ∷ []) (v ∷ []) refl $ fjoin t $
      fpack t (Valss (u32 ∷ RawPtr ∷ [])) (within (shape handle.the_type) (0, (block_ptr b o, tt)) (v ∷ [])) (vint w32 0 ∷ [], (vptr b o ∷ [], tt)) $ fjoin t $ s)
