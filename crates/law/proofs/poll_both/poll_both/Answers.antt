use Rattle.std.proofs.Common.{◌≡◌, ◌+◌, [], refl, ◌∙◌, arith}
use Rattle.law.specs.Laws.PollsOfBoth.{none_yet}
use Rattle.law.proofs.Lawful.{first_turn, lawful, run_to, second_turn, viewed}
use Rattle.law.proofs.poll_both.poll_both.Goals as goal
use Rattle.law.proofs.poll_both.poll_both.Goals.{in-First, in-Second}

pub loop-init : goal.loop-init
loop-init g c = ([], refl, none_yet)

pub loop-preserved : goal.loop-preserved
loop-preserved g c =
    let n = c.loop.counter in
    let to = run_to g.P.Stream g.Q.Stream g.V.Callback c.args.p.now c.args.q.now c.args.viewer.now c.args.start (n + 1) in
    elim c.match-turn.branch [
      | in-First w ↦
          to w.poll_next.new.self c.match-turn.p c.loop.q c.match-turn.q w.call-turn.new.self c.match-turn.viewer w.call-turn.result c.match-turn.turn w.p-is w.q-is w.viewer-is w.turn-is
          (first_turn g.P.Stream g.Q.Stream g.V.Callback c.args.p.now c.args.q.now c.args.viewer.now c.args.start n c.loop.p w.poll_next.new.self c.loop.q c.loop.viewer w.call-turn.new.self c.loop.turn w.call-turn.result w.poll_next.result c.loop.invariant w.in-First.is w.poll_next.ensures.polled w.call-turn.ensures.next w.call-turn.ensures.output)
      | in-Second w ↦
          to c.loop.p c.match-turn.p w.poll_next-in-Second.new.self c.match-turn.q w.call-turn-in-Second.new.self c.match-turn.viewer w.call-turn-in-Second.result c.match-turn.turn w.p-is w.q-is w.viewer-is w.turn-is
          (second_turn g.P.Stream g.Q.Stream g.V.Callback c.args.p.now c.args.q.now c.args.viewer.now c.args.start n c.loop.p c.loop.q w.poll_next-in-Second.new.self c.loop.viewer w.call-turn-in-Second.new.self c.loop.turn w.call-turn-in-Second.result w.poll_next-in-Second.result c.loop.invariant w.in-Second.is w.poll_next-in-Second.ensures.polled w.call-turn-in-Second.ensures.next w.call-turn-in-Second.ensures.output)
    ]

pub returns : goal.returns
returns g c =
    let all : c.loop.counter ≡ c.args.polls = omega arith in
    let run = c.loop.invariant in
    record {
      so_far = run.0;
      count = run.1 ∙ all;
      run = run.2;
      viewed = viewed g.P.Stream g.Q.Stream g.V.Callback c.args.p.now c.args.q.now c.args.viewer.now c.args.start run.2;
      law = lawful g.P.Stream g.Q.Stream g.V.Callback c.args.p.now c.args.q.now c.args.viewer.now c.args.start run.2;
    }
