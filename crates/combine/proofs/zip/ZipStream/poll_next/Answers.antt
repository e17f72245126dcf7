use Rattle.std.proofs.Common.{◌≡◌, None, sym, refl, subst, arith, rules}
use Rattle.stream.specs.declared.poll.Poll.TheVariants.{Ready, Pending}
use Rattle.stream.proofs.Cases.{answered_as}
use Rattle.combine.proofs.Zipping.{Primed, brought, first_polled, kept_already, pair_made, second_polled}
use Rattle.combine.proofs.zip.ZipStream.poll_next.Given as given
use Rattle.combine.proofs.zip.ZipStream.poll_next.Goals as goal
use Rattle.combine.proofs.zip.ZipStream.poll_next.Goals.{After-poll_next-2, then-is_none+in-Ready-ready+in_default+in-None-1, then-is_none+in-Ready-ready+in_default+in-Some-1, else-is_none}

-- where the second stream is about to be polled, whichever way led there
primed : (g : given.Over) (c : After-poll_next-2 g) → Primed g.A.Stream g.B.Stream c.args.self.now c.if-is_none.self
primed g c =
    let z = c.args.self.now in
    let at = Primed g.A.Stream g.B.Stream z in
    elim c.if-is_none.branch [
      | then-is_none+in-Ready-ready+in_default+in-Some-1 w ↦ subst at (sym w.self-is) (brought g.A.Stream g.B.Stream z _ w.if-is_none.ensures (answered_as _ (search rules) w.poll_next.ensures.polled) refl w.in_default.not-None)
      | then-is_none+in-Ready-ready+in_default+in-None-1 w ↦ subst at (sym w.self-is) (brought g.A.Stream g.B.Stream z _ w.if-is_none.ensures (answered_as _ (search rules) w.poll_next.ensures.polled) refl w.in_default.not-None)
      | else-is_none w ↦ subst at (sym w.self-is) (kept_already g.A.Stream g.B.Stream z w.if-is_none.ensures)
    ]

pub returns-then-is_none : goal.returns-then-is_none
returns-then-is_none g c =
    let p = first_polled g.A.Stream g.B.Stream c.args.self.now c.poll_next.new.self Pending tt c.if-is_none.ensures (answered_as Pending (search rules) c.poll_next.ensures.polled) in
    record { polled = p; parts = p.took }

pub returns-in-None : goal.returns-in-None
returns-in-None g c =
    let p = first_polled g.A.Stream g.B.Stream c.args.self.now c.poll_next.new.self (Ready None) tt c.if-is_none.ensures (answered_as (Ready None) (search rules) c.poll_next.ensures.polled) in
    record { polled = p; parts = p.took }

pub returns : goal.returns
returns g c =
    let h = primed g (goal.at.returns g c).After-poll_next-2 in
    let p = second_polled g.A.Stream g.B.Stream c.args.self.now c.if-is_none.self h c.if-is_none.self.item_slot c.poll_next-2.new.self Pending h.slot (answered_as Pending (search rules) c.poll_next-2.ensures.polled) in
    record { polled = p; parts = p.took }

pub returns-2 : goal.returns-2
returns-2 g c =
    let h = primed g (goal.at.returns-2 g c).After-poll_next-2 in
    let same : c.unwrap-first.result ≡ h.item = let slot = h.slot in cc in
    let p = pair_made g.A.Stream g.B.Stream c.args.self.now c.if-is_none.self h c.take.new.self c.poll_next-2.new.self c.poll_next-2.result _ (λ e. search rules) (λ e. grind arith) (λ v e. grind arith) c.take.ensures.after c.poll_next-2.ensures.polled in
    record { polled = p; parts = p.took }
