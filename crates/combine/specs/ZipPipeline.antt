-- Zip as part of a pipeline.
use Rattle.std.specs.Prelude.{◌≡◌, ℕ, List, Some, None, Option}
use Rattle.std.proofs.Common.{sym, subst}
use Rattle.stream.specs.declared.poll.Poll.TheVariants.{Ready}
use Rattle.stream.specs.declared.stream.Stream.{Ghosts as Streams}
use Rattle.stream.specs.Answers.{Answer, Agree, Matching, NoItem, waits_in}
use Rattle.stream.specs.Pipelines.{Pipeline, Polled}
use Rattle.stream.specs.Views.{View, pairs}
use Rattle.combine.specs.declared.zip.Zip.{Zip}
use Rattle.combine.specs.ZipRule.{kept_after, zipped_from}
use Rattle.combine.specs.ZipAgrees.{zipped_agree}

module _ {S T A B : Type 0} (one : Streams S A) (two : Streams T B) where
  -- The answers of a Zip: those of its two streams, zipped from the item that it keeps.
  abbrev pub zip_answers : Zip S T A → List (Answer (A × B))
  zip_answers z = zipped_from z.item_slot (one.answers z.first) (two.answers z.second)

  -- The first stream was polled once between z and z', and answered r.
  abbrev pub FirstPolled : Zip S T A → Answer A → Zip S T A → Type 0
  FirstPolled z r z' = Polled one.answers one.pipeline z.first r z'.first

  -- The second stream was polled once between z and z', and answered r.
  abbrev pub SecondPolled : Zip S T A → Answer B → Zip S T A → Type 0
  SecondPolled z r z' = Polled two.answers two.pipeline z.second r z'.second

  -- One poll of a Zip, from z to z', that took w waits from below: what each stream that it polled answered, which stream it left as it was, and what it keeps afterwards.
  pub data ZipTook (z : Zip S T A) (w : ℕ) (z' : Zip S T A) : Type 0 where
    -- No item was kept and the first stream brought none: only the first was polled.
    first_only : (r : Answer A) → z.item_slot ≡ None → FirstPolled z r z' → NoItem r → z'.second ≡ z.second → z'.item_slot ≡ None → w ≡ waits_in r → ZipTook z w z'
    -- No item was kept and the first stream brought x: both were polled.
    both_polled : (x : A) (r : Answer B) → z.item_slot ≡ None → FirstPolled z (Ready (Some x)) z' → SecondPolled z r z' → z'.item_slot ≡ kept_after x r → w ≡ waits_in r → ZipTook z w z'
    -- An item x was kept: only the second stream was polled.
    second_only : (x : A) (r : Answer B) → z.item_slot ≡ Some x → z'.first ≡ z.first → SecondPolled z r z' → z'.item_slot ≡ kept_after x r → w ≡ waits_in r → ZipTook z w z'

  -- Its items are seen as pairs, each part as its stream's items are.
  abbrev pub zip_view : View (A × B)
  zip_view = pairs one.pipeline.view two.pipeline.view

  -- A Zip is alike to each Zip over streams that its own are alike to, that keeps the same item, if any.
  abbrev pub zip_alike : Zip S T A → List (Answer zip_view.Seen) → Type 0
  zip_alike z zs =
      (o : Option one.pipeline.view.Seen)
      × (xs : List (Answer one.pipeline.view.Seen))
      × (ys : List (Answer two.pipeline.view.Seen))
      × Matching one.pipeline.view.same z.item_slot o
      × one.pipeline.alike z.first xs
      × two.pipeline.alike z.second ys
      × (zs ≡ zipped_from o xs ys)

  pub zip_agree : (z : Zip S T A) (zs : List (Answer zip_view.Seen)) → zip_alike z zs → Agree zip_view.same (zip_answers z) zs
  zip_agree z zs w =
      subst (Agree zip_view.same (zip_answers z)) (sym w.6)
      (zipped_agree one.pipeline.view.same two.pipeline.view.same z.item_slot w.0 (one.answers z.first) w.1 (two.answers z.second) w.2 w.3 (one.pipeline.agree z.first w.1 w.4) (two.pipeline.agree z.second w.2 w.5))

  -- A poll takes what the polls of its streams take.
  abbrev pub zip_pipeline : Pipeline zip_answers
  zip_pipeline = record {
    view = zip_view;
    took = ZipTook;
    alike = zip_alike;
    agree = zip_agree;
  }
