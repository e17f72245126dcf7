-- Enumerate as part of a pipeline.
use Rattle.std.specs.Prelude.{◌≡◌, ℕ, List, refl}
use Rattle.std.proofs.Common.{ap}
use Rattle.stream.specs.declared.stream.Stream.{Ghosts as Streams}
use Rattle.stream.specs.Answers.{Answer, Agree}
use Rattle.stream.specs.Itemwise.Made.{item}
use Rattle.stream.specs.ItemwisePipelines.{itemwise_pipeline}
use Rattle.stream.specs.Pipelines.{Pipeline}
use Rattle.stream.specs.Views.{View, plain, pairs}
use Rattle.combine.specs.declared.enumerate.Enumerate.{Enumerate}
use Rattle.combine.specs.EnumerateRule.{enumerated, next_number}

module _ {S A : Type 0} (below : Streams S A) where
  -- The answers of an Enumerate: those of its stream, numbered from the number that it holds.
  abbrev pub enumerate_answers : Enumerate S → List (Answer (ℕ × A))
  enumerate_answers e = enumerated e.i (below.answers e.stream)

  -- Its items are seen as pairs: the number as it is, and the item as the stream's items are.
  abbrev pub enumerate_view : View (ℕ × A)
  enumerate_view = pairs plain below.pipeline.view

  -- The numbers of two Enumerates match when they are the same; a poll takes what one poll of its stream takes.
  abbrev pub enumerate_pipeline : Pipeline enumerate_answers
  enumerate_pipeline =
      itemwise_pipeline below enumerate_view (λ e. e.stream) (λ e. e.i) below.pipeline.took (λ i x. item (i, x)) (λ i x. next_number i) (λ i j. i ≡ j) (λ i x. item (i, x)) (λ i x. next_number i) (λ i j a c same r. ((same, r), ap next_number same))

  -- An Enumerate is alike to each Enumerate over a stream that its own is alike to, at the same number.
  abbrev pub enumerate_alike : Enumerate S → List (Answer enumerate_view.Seen) → Type 0
  enumerate_alike e zs =
      (ys : List (Answer below.pipeline.view.Seen))
      × below.pipeline.alike e.stream ys
      × (zs ≡ enumerated e.i ys)

  -- `agree` of the pipeline, where the second number is named as well.
  pub enumerate_agree : (e : Enumerate S) (zs : List (Answer enumerate_view.Seen)) → enumerate_alike e zs → Agree enumerate_view.same (enumerate_answers e) zs
  enumerate_agree e zs w = enumerate_pipeline.agree e zs (w.0, e.i, w.1, refl, w.2)
