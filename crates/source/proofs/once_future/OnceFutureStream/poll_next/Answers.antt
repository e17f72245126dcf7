use Rattle.std.proofs.Common.{refl, rules}
use Rattle.source.specs.OnceFuturePipeline.SlotPolled.{given, waiting}
use Rattle.source.proofs.once_future.OnceFutureStream.poll_next.Goals as goal

pub returns-in-Some-clause-future : goal.returns-in-Some-clause-future
returns-in-Some-clause-future g c = waiting c.in-Some.future c.poll.new.self c.in-Some.is (search rules) refl refl

pub returns-in-Ready-ready-clause-future : goal.returns-in-Ready-ready-clause-future
returns-in-Ready-ready-clause-future g c = given c.in-Some.future c.poll.new.self _ c.in-Some.is (search rules) refl refl
