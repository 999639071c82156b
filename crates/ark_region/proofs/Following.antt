-- A value follows a slice of bytes, and the slice two parts of it: so the value follows the two parts.
use Rattle.std.proofs.Common.{ℕ, List, [], ◌∷◌}
use seplogic.Ra.Ura.{Ura}
use base.Logic.{SProp, ent, sep, wand}
use base.Stored.{coded_list}
use base.Fml.{GName, fres, fsep}
use types.Logic.{Logic, sem}
use types.Kit.{‵, ◌$◌, ◌∵◌, !, qed, by, move, use2, each, assume}
use types.SemTy.{SemTy, Arr}
use types.Follow.{followed₂}
use denote.Memory.{mem}
use denote.Array.{Array}
use denote.Builtin.{u8}
use denote.RattleType.{RattleType}
use denote.Follow.{follows, follows_both, both_by, followed}

module _ {M : Type 1} {𝓤 : Ura M} (𝓛 : Logic 𝓤) (R : RattleType) (γ δ γ₁ γ₂ : GName) (F : List ℕ → R.Denot) (G : List ℕ → List ℕ → List ℕ) where
  open 𝓛 use {H, A}

  abbrev L : SemTy
  L = Arr (mem u8) 0

  abbrev To : List ℕ × List ℕ → SProp 𝓤
  To w = wand 𝓤 (sep 𝓤 (A.res γ₁ ((coded_list u8.coded).code w.0)) (A.res γ₂ ((coded_list u8.coded).code w.1))) (A.res γ (R.coded.code (F (G w.0 w.1))))

  pub follows_on : ent 𝓤 (sep 𝓤 (sem 𝓛 (follows R (Array u8 0) γ δ F)) (sem 𝓛 (follows_both (Array u8 0) (Array u8 0) (Array u8 0) δ γ₁ γ₂ G)))
      (sem 𝓛 (follows_both R (Array u8 0) (Array u8 0) γ γ₁ γ₂ (λ v w. F (G v w))))
  unfolding both_by
  follows_on =
      qed 𝓛 (‵ (follows R (Array u8 0) γ δ F) ∷ ‵ (follows_both (Array u8 0) (Array u8 0) (Array u8 0) δ γ₁ γ₂ G) ∷ []) ∵ each ! To (λ w.
      assume ! (‵ (fsep (fres γ₁ ((coded_list u8.coded).code w.0)) (fres γ₂ ((coded_list u8.coded).code w.1)))) $ move ! (0 ∷ 2 ∷ []) $
      use2 𝓛 (‵ (fres δ ((coded_list u8.coded).code (G w.0 w.1)))) (followed₂ 𝓛 L L L G δ γ₁ γ₂ w.0 w.1) $ move ! (1 ∷ 0 ∷ []) $
      by ! (followed 𝓛 R (Array u8 0) F γ δ (G w.0 w.1)))
