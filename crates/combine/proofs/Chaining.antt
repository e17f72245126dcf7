-- One poll of Chain, by what its first stream answers.
use Rattle.std.proofs.Common.{◌≡◌, ◌≢◌, Some, None, Option, sym, refl, ap, ◌∙◌, ap₂}
use Rattle.stream.specs.declared.poll.Poll.TheVariants.{Ready, Pending}
use Rattle.stream.specs.declared.stream.Stream.{Ghosts as Streams}
use Rattle.stream.specs.Answers.{Answer, first, rest}
use Rattle.stream.specs.Nones.{before_none}
use Rattle.stream.specs.Pipelines.{Polled}
use Rattle.stream.proofs.Nones.{item_before_none, wait_before_none}
use Rattle.limit.specs.declared.fuse.Fuse.{Fuse}
use Rattle.limit.proofs.Fusing.{fused_ends}
use Rattle.limit.specs.FusePipeline.{fuse_answers, fuse_pipeline}
use Rattle.combine.specs.declared.chain.Chain.{Chain}
use Rattle.combine.specs.ChainPipeline.{chain_answers, chain_pipeline}
use Rattle.combine.specs.ChainPipeline.ChainTook.{first_gives, first_waits, second_polled}

module _ {S U A : Type 0} (one : Streams S A) (two : Streams U A) (c : Chain S U) (s : Fuse S) where
  pub waited : Polled (fuse_answers one) (fuse_pipeline one) c.first Pending s → Polled (chain_answers one two) (chain_pipeline one two) c Pending (record { first = s; second = c.second })
  waited p =
      let k = fuse_answers two c.second in
      let step = wait_before_none k (fuse_answers one c.first) p.answer in
      record { answer = step.0; after = ap (λ xs. before_none xs k) p.after ∙ step.1; took = first_waits p refl refl }

  gave : (x : A) → Polled (fuse_answers one) (fuse_pipeline one) c.first (Ready (Some x)) s → Polled (chain_answers one two) (chain_pipeline one two) c (Ready (Some x)) (record { first = s; second = c.second })
  gave x p =
      let k = fuse_answers two c.second in
      let step = item_before_none k x (fuse_answers one c.first) p.answer in
      record { answer = step.0; after = ap (λ xs. before_none xs k) p.after ∙ step.1; took = first_gives x p refl refl }

  pub gave_next : (o : Option A) → o ≢ None → Polled (fuse_answers one) (fuse_pipeline one) c.first (Ready o) s → Polled (chain_answers one two) (chain_pipeline one two) c (Ready o) (record { first = s; second = c.second })
  gave_next None h p = absurd (h refl)
  gave_next (Some x) h p = gave x p

  pub went_on : (t : Fuse U) (r : Answer A) → Polled (fuse_answers one) (fuse_pipeline one) c.first (Ready None) s → Polled (fuse_answers two) (fuse_pipeline two) c.second r t → Polled (chain_answers one two) (chain_pipeline one two) c r (record { first = s; second = t })
  went_on t r p q =
      let ended = fused_ends c.first.done (one.answers c.first.stream) p.answer in
      let before : chain_answers one two c ≡ fuse_answers two c.second = ap (λ xs. before_none xs (fuse_answers two c.second)) ended in
      record {
        answer = q.answer ∙ sym (ap first before);
        after = ap₂ before_none (p.after ∙ ap rest ended) q.after ∙ sym (ap rest before);
        took = second_polled r p q refl;
      }
