use Rattle.std.proofs.Common.{◌≡◌, [], None, refl, ap, rules}
use Rattle.sink.specs.Puts.{Taken}
use Rattle.consume.proofs.Polling.{Within, begun, continued, first_taken, first_refused}
use Rattle.fallible.specs.TryCollects.{one_kept, try_collects}
use Rattle.fallible.proofs.try_collect.TryCollectFutureConsumer.poll.Goals as goal
use Rattle.fallible.proofs.try_collect.TryCollectFutureConsumer.poll.Goals.{in-Some+in_default-put, in_default}

pub returns-in-Err : goal.returns-in-Err
returns-in-Err g c = first_refused (begun (ap one_kept c.in-Some.is)) c.in-Err.ensures.put (ap one_kept c.keeping.ensures.1) refl c.keeping.ensures.0

pub returns : goal.returns
returns g c =
    let w : Within try_collects g.S.Stream g.X.Sink g.Y.Sink c.args.self c.args.first.now c.args.second.now c.args.self.stream None [] c.match-kept.first c.args.second.now = elim c.match-kept.branch [
      | in-Some+in_default-put w ↦
          let t : Taken g.X.Sink.held g.X.Sink.makes g.X.Sink.left c.args.first.now w.in-Some.item w.put.new.self = search rules in
          rw w.first-is (first_taken (begun (ap one_kept w.in-Some.is)) t w.put.ensures.origin)
      | in_default w ↦
          let e : c.args.self.kept ≡ None = search rules in
          rw w.first-is (begun (ap one_kept e))
    ] in
    continued w c.read_on.ensures
