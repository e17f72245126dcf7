-- Lemmas that fill a ghost member: by callbacks that agree, matching items are dropped or kept alike.
use Rattle.std.specs.Prelude.{◌≡◌, ℕ, suc, Bool, true, false, not, Some, None, Option}
use Rattle.std.proofs.Common.{ap, arith}
use Rattle.stream.specs.Answers.{Matching}
use Rattle.stream.specs.Callbacks.{CallbacksAgree}
use Rattle.stream.specs.ItemwiseAgrees.{Making, item_if_agree}
use Rattle.select.specs.SkipWhileRule.{let_go, skips_while, stays_if}

stays_agree : {F G : Type 0} (M : F → G → Type 0) (b d : Bool) (f : F) (g : G) → b ≡ d → M f g → Matching M (stays_if b f) (stays_if d g)
stays_agree M true true f g e m = m
stays_agree M true false f g e m = let z : ◌≡◌ {A = ℕ} 0 1 = cc in absurd (omega arith)
stays_agree M false true f g e m = let z : ◌≡◌ {A = ℕ} 0 1 = cc in absurd (omega arith)
stays_agree M false false f g e m = tt

module _ {F G A C : Type 0} (R : A → C → Type 0) (out : F → A → Bool) (next : F → A → F) (out' : G → C → Bool) (next' : G → C → G) where
  abbrev pub Agreeing : F → G → Type 0
  Agreeing = CallbacksAgree R (λ b d. b ≡ d) out next out' next'

  pub skip_while_step : (o : Option F) (p : Option G) (a : A) (c : C) → Matching Agreeing o p → R a c → Making R (skips_while out o a) (skips_while out' p c) × Matching Agreeing (let_go out next o a) (let_go out' next' p c)
  skip_while_step None None a c m r = (r, tt)
  skip_while_step None (Some g) a c m r = absurd m
  skip_while_step (Some f) None a c m r = absurd m
  skip_while_step (Some f) (Some g) a c m r =
      let e = (m 1 a c r).0 in
      (item_if_agree R (not (out f a)) (not (out' g c)) a c (ap not e) r, stays_agree Agreeing (out f a) (out' g c) (next f a) (next' g c) e (λ n. (m (suc n) a c r).1))
