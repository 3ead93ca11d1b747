-- What a walk by hand has of a call that has returned: the tokens, a value of the result's type, and what the callee promises of it. The crates with lent structs share this rule.
use mathlib.Core.List.{List, [], ◌∷◌}
use seplogic.Ra.Ura.{Ura}
use mir.Val.{Val}
use base.Logic.{ent, via, snd∗, ex_e, id⊢}
use types.Logic.{Logic, sem}
use contract.Monad.{fact}
use types.Kit.{Goal, Soaks, Item, ‵, raw, ◌⊛◌, some, later, Seq, ◌$◌, move, use1, split, pick, await}
use denote.Laws.{Is, shows}
use denote.Signature.{type_at}
use denote.Steps.{facts, heard}
use denote.Triple.Clauses.{Ended, AtExit, Clauses, ensured, closing, lasts}
use denote.Triple.Entry.{Res, alive}
use denote.Triple.Spec.{triple_of}

module _ {M : Type 1} {𝓤 : Ura M} {𝓛 : Logic 𝓤} {K : Type 0} {Γ : List (Item 𝓤)} {G : Goal 𝓤 𝓛.H} where
  pub answers : K → Soaks G → (T : Ended) (c : Clauses 𝓤 T) (y : (triple_of 𝓛 T.signature (closing 𝓛 T c)).Ghost) (u : Val) (F : Res T.signature y.0.0 → Type 0)
      → ((r : Res T.signature y.0.0) (e : AtExit T y.0.0) → ent 𝓤 ((c y.0.0 y.0.3).ensures y.1 r e) (fact 𝓤 (F r)))
      → ((r : Res T.signature y.0.0) → F r → Is (type_at T.signature.result y.0.0) r (u ∷ []) → Seq K 𝓛 (raw (alive 𝓛 T.signature y.0.0 y.0.1) ∷ Γ) G)
      → Seq K 𝓛 (raw ((triple_of 𝓛 T.signature (closing 𝓛 T c)).post y u) ∷ Γ) G
  answers t z T c y u F said k =
      use1 𝓛 (later (some (λ (r : Res T.signature y.0.0).
      (raw (alive 𝓛 T.signature y.0.0 y.0.1) ⊛ ‵ ((type_at T.signature.result y.0.0).own_val r (u ∷ []))) ⊛ raw (ensured 𝓛 T c y.0.0 y.0.3 y.1 r)))) (id⊢ 𝓤 _) $
      await t z $ pick t (λ r. split t $ move t (1 ∷ []) $
      use1 𝓛 (raw (fact 𝓤 (F r))) (ex_e 𝓤 _ (λ ws. via 𝓤 _ (snd∗ 𝓤 (sem 𝓛 (lasts T y.0.0 y.0.3 ws)) _) (said r _))) $ heard t (F r) (λ e.
      split t $ move t (1 ∷ []) $ facts t (type_at T.signature.result y.0.0) (Is (type_at T.signature.result y.0.0)) (shows 𝓛 (type_at T.signature.result y.0.0)) r (u ∷ []) (k r e)))
