-- What the methods promise of a second pipeline that is built in the same way.
use Rattle.std.specs.Prelude.{List}
use Rattle.stream.specs.declared.stream.Stream.{Ghosts as Streams}
use Rattle.stream.specs.declared.callback.Callback.{Ghosts as Callbacks}
use Rattle.stream.specs.Answers.{Answer, Agree}
use Rattle.combine.specs.ChainRule.{chained}
use Rattle.nest.specs.FlattenRule.{flattened}
use Rattle.transform.specs.MapRule.{mapped}
use Rattle.stream.specs.Callbacks.{Behaviour, CallbacksAgree, gives, onward}

-- The items of a stream, as they are seen in a second pipeline.
abbrev pub SeenOf : {S A : Type 0} → Streams S A → Type 0
SeenOf below = below.pipeline.view.Seen

-- Whatever list the stream s is alike to, the new adapter is alike to what its rule makes of that list.
abbrev pub AlikeBy : {S A V : Type 0} (below : Streams S A) → S → (List (Answer V) → Type 0) → (List (Answer (SeenOf below)) → List (Answer V)) → Type 0
AlikeBy below s alike rule = (ys : List (Answer (SeenOf below))) → below.pipeline.alike s ys → alike (rule ys)

-- The same of two streams.
abbrev pub AlikeByBoth : {S T A B V : Type 0} (one : Streams S A) (two : Streams T B) → S → T → (List (Answer V) → Type 0) → (List (Answer (SeenOf one)) → List (Answer (SeenOf two)) → List (Answer V)) → Type 0
AlikeByBoth one two s t alike rule = (xs : List (Answer (SeenOf one))) (ys : List (Answer (SeenOf two))) → one.pipeline.alike s xs → two.pipeline.alike t ys → alike (rule xs ys)

-- The same of a stream and a callback: whatever behaviour agrees with the callback, where outputs match by `same`.
abbrev pub AlikeByCallback : {S F A O P V : Type 0} (below : Streams S A) → S → (callback : Callbacks F A O) → F → (O → P → Type 0) → (List (Answer V) → Type 0) → (Behaviour (SeenOf below) P → List (Answer (SeenOf below)) → List (Answer V)) → Type 0
AlikeByCallback {P = P} below s callback f same alike rule =
    (ys : List (Answer (SeenOf below))) (h : Behaviour (SeenOf below) P) → below.pipeline.alike s ys → CallbacksAgree below.pipeline.view.same same callback.output callback.next gives onward f h → alike (rule h ys)

-- The same of a Chain, where the second list holds items as the second stream has them seen, and `seen` the same as the first has.
abbrev pub ChainsAlike : {S U A : Type 0} (one : Streams S A) (two : Streams U A) → S → U → (List (Answer (SeenOf one)) → Type 0) → Type 0
ChainsAlike {A = A} one two s u alike =
    (xs : List (Answer (SeenOf one))) (ys : List (Answer (SeenOf two))) (seen : List (Answer (SeenOf one))) → one.pipeline.alike s xs → two.pipeline.alike u ys → Agree (λ v w. (a : A) → two.pipeline.view.same a v → one.pipeline.view.same a w) ys seen → alike (chained xs seen)

-- The inner streams that are the same as v, as it is seen, have lists that agree with `lists v`.
abbrev pub ListsAgree : {U A V : Type 0} (inner : Streams U A) → (U → V → Type 0) → (V → List (Answer (SeenOf inner))) → Type 0
ListsAgree {U} {V = V} inner same lists = (u : U) (v : V) → same u v → Agree inner.pipeline.view.same (inner.answers u) (lists v)

-- The same of a Flatten: whatever lists the inner streams of a second pipeline have that agree with those of the first.
abbrev pub FlattensAlike : {S U A : Type 0} (outer : Streams S U) (inner : Streams U A) → S → (List (Answer (SeenOf inner)) → Type 0) → Type 0
FlattensAlike outer inner s alike =
    (lists : SeenOf outer → List (Answer (SeenOf inner))) (vs : List (Answer (SeenOf outer))) → ListsAgree inner outer.pipeline.view.same lists → outer.pipeline.alike s vs → alike (flattened lists vs)

-- The same of a FlatMap, which is a Flatten over a Map.
abbrev pub FlatMapsAlike : {S F A U B : Type 0} (below : Streams S A) → S → (callback : Callbacks F A U) → F → (inner : Streams U B) → (List (Answer (SeenOf inner)) → Type 0) → Type 0
FlatMapsAlike below s callback f inner alike =
    (lists : callback.outputs.Seen → List (Answer (SeenOf inner))) → ListsAgree inner callback.outputs.same lists → AlikeByCallback below s callback f callback.outputs.same alike (λ h ys. flattened lists (mapped gives onward h ys))
