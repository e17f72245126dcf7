use Rattle.std.proofs.Common.{None, rules}
use Rattle.stream.specs.declared.poll.Poll.TheVariants.{Ready, Pending}
use Rattle.stream.proofs.Cases.{answered_as}
use Rattle.combine.proofs.Chaining.{gave_next, waited, went_on}
use Rattle.combine.proofs.chain.ChainStream.poll_next.Goals as goal

pub returns : goal.returns
returns g c =
    let p = waited g.S.Stream g.U.Stream c.args.self.now c.poll_next.new.self (answered_as Pending (search rules) c.poll_next.ensures.polled) in
    record { polled = p; parts = p.took }

pub returns-in_default : goal.returns-in_default
returns-in_default g c =
    let p = gave_next g.S.Stream g.U.Stream c.args.self.now c.poll_next.new.self _ c.in_default.not-None (answered_as _ (search rules) c.poll_next.ensures.polled) in
    record { polled = p; parts = p.took }

pub returns-in-None : goal.returns-in-None
returns-in-None g c =
    let none = answered_as (Ready None) (search rules) c.poll_next.ensures.polled in
    let p = went_on g.S.Stream g.U.Stream c.args.self.now c.poll_next.new.self c.poll_next-in-None.new.self c.poll_next-in-None.result none c.poll_next-in-None.ensures.polled in
    record { polled = p; parts = p.took }
