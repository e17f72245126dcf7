-- What holds of the parts that a new adapter was given holds of those that it holds.
use Rattle.std.proofs.Common.{◌≡◌, List, None, Option, sym, refl, subst}
use Rattle.stream.specs.declared.stream.Stream.{Ghosts as Streams}
use Rattle.stream.specs.declared.callback.Callback.{Ghosts as Callbacks}
use Rattle.stream.specs.Answers.{Answer, Matching}
use Rattle.stream.specs.Callbacks.{Behaviour, CallbacksAgree, gives, onward}
use Rattle.ext.specs.Alike.{AlikeByCallback, SeenOf}

module _ {S A : Type 0} (below : Streams S A) where
  pub stream_kept : {s s' : S} → s' ≡ s → (ys : List (Answer (SeenOf below))) → below.pipeline.alike s ys → below.pipeline.alike s' ys
  stream_kept e ys a = subst (λ v. below.pipeline.alike v ys) (sym e) a

  module _ {F O P : Type 0} (callback : Callbacks F A O) (same : O → P → Type 0) where
    abbrev Agreeing : F → Behaviour (SeenOf below) P → Type 0
    Agreeing = CallbacksAgree below.pipeline.view.same same callback.output callback.next gives onward

    pub callback_kept : {f f' : F} → f' ≡ f → (h : Behaviour (SeenOf below) P) → Agreeing f h → Agreeing f' h
    callback_kept e h k = subst (λ v. Agreeing v h) (sym e) k

-- an adapter that was given s and f, and holds s' and f'
module _ {S F A O P V : Type 0} (below : Streams S A) (callback : Callbacks F A O) (same : O → P → Type 0) (rule : Behaviour (SeenOf below) P → List (Answer (SeenOf below)) → List (Answer V)) where
  pub by_callback : {s s' : S} {f f' : F} → s' ≡ s → f' ≡ f → AlikeByCallback below s callback f same (λ zs. (ys : List (Answer (SeenOf below))) × (h : Behaviour (SeenOf below) P) × below.pipeline.alike s' ys × CallbacksAgree below.pipeline.view.same same callback.output callback.next gives onward f' h × (zs ≡ rule h ys)) rule
  by_callback e d ys h a k = (ys, h, stream_kept below e ys a, callback_kept below callback same d h k, refl)

-- an empty slot matches an empty one
pub empty_matches : {U V : Type 0} (R : U → V → Type 0) {o : Option U} → o ≡ None → Matching R o None
empty_matches R e = subst (λ p. Matching R p None) (sym e) tt
