-- A lemma that fills no ghost member, for callbacks of every make: maps of lists that agree, by callbacks that agree, agree.
use Rattle.std.specs.Prelude.{suc, List, refl}
use Rattle.stream.specs.Answers.{Answer, Agree}
use Rattle.stream.specs.Callbacks.{CallbacksAgree}
use Rattle.stream.specs.Itemwise.Made.{item}
use Rattle.stream.specs.ItemwiseAgrees.{itemwise_agree}
use Rattle.transform.specs.MapRule.{mapped}

module _ {F G A B C D : Type 0} (R : A → B → Type 0) (Q : C → D → Type 0) (out : F → A → C) (next : F → A → F) (out' : G → B → D) (next' : G → B → G) where
  -- Map's rule goes item by item: the states that match are the callbacks that agree.
  pub mapped_agree : (f : F) (g : G) (xs : List (Answer A)) (ys : List (Answer B)) → CallbacksAgree R Q out next out' next' f g → Agree R xs ys → Agree Q (mapped out next f xs) (mapped out' next' g ys)
  mapped_agree f g xs ys c h =
      itemwise_agree R Q (CallbacksAgree R Q out next out' next') (λ f x. item (out f x)) next (λ g y. item (out' g y)) next' (λ f g a b k r. ((k 1 a b r).0, λ n. (k (suc n) a b r).1)) f g xs ys (mapped out' next' g ys) c h refl
