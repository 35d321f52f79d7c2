-- The machine values of a block. Assumes `Logic`.
use Rattle.std.proofs.Common.{◌≡◌, ℕ, List, [], ◌∷◌, ◌++◌, refl, ◌∙◌, zero, suc}
use seplogic.Ra.Ura.{Ura}
use mir.Val.{Val, vstruct, vcons, vnil, of_list}
use base.Logic.{ent, emp}
use base.Fml.{Fml}
use types.Logic.{Logic, sem}
use denote.RattleType.{RattleType}
use denote.Builtin.{unit}
use denote.RawPtr.{Ptr, RawPtr, ptr_val}
use denote.Shadow.{shadow, makes_shadow}
use denote.Signature.{Slot, plain}
use denote.Struct.Struct.{Struct}

abbrev pub slot_at : {n : ℕ} → ℕ → List (Slot n) → Slot n
slot_at k [] = plain (λ _. unit)
slot_at zero (s ∷ ss) = s
slot_at (suc k) (s ∷ ss) = slot_at k ss

abbrev pub plainly : List RattleType → RattleType
plainly Rs = Struct (record { name = []; args = []; types = []; fields = Rs })

abbrev pub base_val : Ptr → Val
base_val p0 = vstruct (vcons (ptr_val p0) vnil)

abbrev pub base_own : Ptr → List Val → Fml
base_own p0 = (plainly (RawPtr ∷ [])).own_val (p0, tt)

pub base_told : (p0 : Ptr) (vs : List Val) → shadow (base_own p0 vs) → vs ≡ base_val p0 ∷ []
base_told p0 vs s = s.1.0 ∙ (λ i. vstruct (of_list (s.1.1.0 i ++ [])) ∷ [])

pub base_made : {M : Type 1} {𝓤 : Ura M} (𝓛 : Logic 𝓤) (p0 : Ptr) → ent 𝓤 (emp 𝓤) (sem 𝓛 (base_own p0 (base_val p0 ∷ [])))
base_made 𝓛 p0 = makes_shadow 𝓛 (base_own p0 (base_val p0 ∷ [])) (λ _. (tt, (tt, tt))) ((ptr_val p0 ∷ [], tt), (refl, (refl, tt)))
