-- The work area is zero, all of it.
-- Assumes nothing.
use Rattle.std.proofs.Common.{◌≡◌, refl, Ok, List, [], arith, ap, sym, ◌∙◌}
use mathlib.Core.Path.{ap₂}
use Rattle.rules.specs.declared.Answer.TheVariants.{PoweredOn}
use Rattle.rules.specs.declared.Session.{Session}
use Rattle.rules.specs.Bytes.{zeros}
use Rattle.rules.specs.Session.{state}
use Rattle.rules.specs.Calls.{powers, permit, Result, outcome, reply, granted, powered_on}
use Rattle.rules.proofs.Lists.{length-zeros}
use Rattle.rules.proofs.Permits.{call-granted}
use Rattle.octets.proofs.Laws.{whole}
use Rattle.power.proofs.power_on.Goals as goal

pub returns-in-Ok : goal.returns-in-Ok
unfolding granted powered_on
returns-in-Ok c = λ ss.
    let a = c.args in
    let st = state a.store.now a.work.now ss in
    let taken : permit st (powers a.contactless) ≡ Ok tt = sym (c.power_on.ensures.permit a.store.now a.work.now ss a.contactless c.well_formed-2.ensures refl) ∙ c.in-Ok.is in
    let zeroed = c.zero.ensures ∙ whole a.work.now (zeros 13321) (omega (arith, length-zeros 13321, c.in-Ok.ensures.work)) in
    ap₂ (λ (t : Session) (w : List _). outcome (reply PoweredOn t) a.store.now w []) c.cleared-session.ensures zeroed
    ∙ sym (ap (λ (r : Result). r.outcome) (call-granted st (powers a.contactless) taken))
