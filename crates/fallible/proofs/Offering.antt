-- What becomes of a poll of TryCollectFuture, by what became of the offer of an item that it read.
use Rattle.std.proofs.Common.{◌≡◌, [], Some, None, Ok, Err, Result, refl, ap}
use Rattle.stream.specs.declared.poll.Poll.TheVariants.{Ready}
use Rattle.stream.specs.declared.stream.Stream.{Ghosts as Streams}
use Rattle.stream.specs.Pipelines.{Polled as StreamPolled}
use Rattle.sink.specs.declared.refusal.PutRefusal.{PutRefusal}
use Rattle.sink.specs.declared.sink.Sink.{Ghosts as Sinks}
use Rattle.sink.specs.Refusals.{item as item_of}
use Rattle.consume.specs.declared.step.Step.TheVariants.{Full, Fault}
use Rattle.consume.specs.Polls.{Polled}
use Rattle.consume.proofs.Polling.{Within, item, first_taken, first_refused, broken}
use Rattle.fallible.specs.declared.try_collect.TryCollectFuture.{TryCollectFuture}
use Rattle.fallible.specs.Offers.{Offered}
use Rattle.fallible.specs.TryCollects.{one_kept, try_collects}

module _ {S A E X Y : Type 0} {P : Streams S (Result A E)} {U : Sinks X A} {V : Sinks Y A} {c : TryCollectFuture S A} {x : X} {y : Y} where
  -- A good item was put,
  pub taken : {t t' : S} {u u' : X} {v : Y} (i : Result A E) → Within try_collects P U V c x y t None [] u v → StreamPolled P.answers P.pipeline t (Ready (Some i)) t' → Offered U u i (Ok (Ok tt)) u' → U.origin u' ≡ U.origin u → Within try_collects P U V c x y t' None [] u' v
  taken (Ok a) w p h o = first_taken (item w p refl refl refl) h o
  taken (Err e) w p h o = absurd h

  -- or found no place and is kept,
  pub refused : {t t' : S} {u u' : X} {v : Y} (i : Result A E) (q : PutRefusal A) {k : TryCollectFuture S A} → Within try_collects P U V c x y t None [] u v → StreamPolled P.answers P.pipeline t (Ready (Some i)) t' → Offered U u i (Ok (Err q)) u' → k.stream ≡ t' → k.kept ≡ Some (item_of q) → Polled try_collects P U V c x y (Full k) u' v
  refused (Ok a) q w p h o e = first_refused (item w p refl refl refl) h (ap one_kept e) refl o
  refused (Err d) q w p h o e = absurd h

  -- and a fault ends the poll.
  pub broke : {t t' : S} {u u' : X} {v : Y} {d : E} (i : Result A E) → Within try_collects P U V c x y t None [] u v → StreamPolled P.answers P.pipeline t (Ready (Some i)) t' → Offered U u i (Err d) u' → Polled try_collects P U V c x y (Fault (record { value = d; stream = t'; callback = tt })) u' v
  broke (Ok a) w p h = absurd h
  broke (Err e) w p h = rw h.1 (rw h.0 (broken w p refl refl))
