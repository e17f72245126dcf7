-- Chain as part of a pipeline.
use Rattle.std.specs.Prelude.{◌≡◌, ℕ, List, Some, None}
use Rattle.std.proofs.Common.{sym, subst}
use Rattle.stream.specs.declared.poll.Poll.TheVariants.{Ready, Pending}
use Rattle.stream.specs.declared.stream.Stream.{Ghosts as Streams}
use Rattle.stream.specs.AgreeAcross.{agree_across}
use Rattle.stream.specs.Answers.{Answer, Agree, waits_in}
use Rattle.stream.specs.Nones.{before_none}
use Rattle.stream.specs.NonesAgree.{before_none_agree}
use Rattle.stream.specs.Pipelines.{Pipeline, Polled}
use Rattle.limit.specs.FusePipeline.{fuse_agree, fuse_alike, fuse_answers, fuse_pipeline}
use Rattle.combine.specs.declared.chain.Chain.{Chain}

module _ {S U A : Type 0} (one : Streams S A) (two : Streams U A) where
  -- The answers of a Chain: those of its first stream up to a None, and then those of its second.
  abbrev pub chain_answers : Chain S U → List (Answer A)
  chain_answers c = before_none (fuse_answers one c.first) (fuse_answers two c.second)

  -- The first stream was polled, unless it has answered None before, and the answer is r.
  abbrev pub FirstPolled : Chain S U → Answer A → Chain S U → Type 0
  FirstPolled c r d = Polled (fuse_answers one) (fuse_pipeline one) c.first r d.first

  -- The second stream was polled, unless it has answered None before, and the answer is r.
  abbrev pub SecondPolled : Chain S U → Answer A → Chain S U → Type 0
  SecondPolled c r d = Polled (fuse_answers two) (fuse_pipeline two) c.second r d.second

  -- One poll of a Chain, from c to d, that took w waits from below.
  pub data ChainTook (c : Chain S U) (w : ℕ) (d : Chain S U) : Type 0 where
    -- The first stream waits: the second is as it was.
    first_waits : FirstPolled c Pending d → d.second ≡ c.second → w ≡ 1 → ChainTook c w d
    -- The first stream gives an item: the second is as it was.
    first_gives : (x : A) → FirstPolled c (Ready (Some x)) d → d.second ≡ c.second → w ≡ 0 → ChainTook c w d
    -- The first stream has come to its None: the answer is that of the second.
    second_polled : (r : Answer A) → FirstPolled c (Ready None) d → SecondPolled c r d → w ≡ waits_in r → ChainTook c w d

  -- A Chain is alike to each Chain over streams that its own are alike to. Items are seen as those of the first stream are, so those of a second pipeline's second stream are looked at in that way too.
  abbrev pub chain_alike : Chain S U → List (Answer one.pipeline.view.Seen) → Type 0
  chain_alike c zs =
      (xs : List (Answer one.pipeline.view.Seen))
      × (ys : List (Answer two.pipeline.view.Seen))
      × (seen : List (Answer one.pipeline.view.Seen))
      × fuse_alike one c.first xs
      × fuse_alike two c.second ys
      × Agree (λ v u. (a : A) → two.pipeline.view.same a v → one.pipeline.view.same a u) ys seen
      × (zs ≡ before_none xs seen)

  pub chain_agree : (c : Chain S U) (zs : List (Answer one.pipeline.view.Seen)) → chain_alike c zs → Agree one.pipeline.view.same (chain_answers c) zs
  chain_agree c zs w =
      let same = one.pipeline.view.same in
      let same' = two.pipeline.view.same in
      let second = agree_across same' (λ v u. (a : A) → same' a v → same a u) same (λ a v u h k. k a h) (fuse_answers two c.second) w.1 w.2 (fuse_agree two c.second w.1 w.4) w.5 in
      subst (Agree same (chain_answers c)) (sym w.6)
      (before_none_agree same (fuse_answers one c.first) w.0 (fuse_answers two c.second) w.2 (fuse_agree one c.first w.0 w.3) second)

  -- Its items are seen as those of its first stream are.
  abbrev pub chain_pipeline : Pipeline chain_answers
  chain_pipeline = record {
    view = one.pipeline.view;
    took = ChainTook;
    alike = chain_alike;
    agree = chain_agree;
  }
