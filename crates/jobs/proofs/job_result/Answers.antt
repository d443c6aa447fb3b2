-- Refused, or the result by the job that is open.
-- Assumes nothing.
use Rattle.std.proofs.Common.{◌≡◌, refl, Ok, Some, Option, List, ℕ, ap, sym, ◌∙◌}
use Rattle.rules.specs.declared.Job.{Job}
use Rattle.rules.specs.Session.{state, job_ok}
use Rattle.rules.specs.Keys.{result_fits, finished}
use Rattle.rules.specs.Calls.{finishes, permit, delivered, granted, kept_session, lent}
use Rattle.saying.proofs.Laws.{delivers}
use Rattle.permit.proofs.Calls.{possible-held, outcome-denied, outcome-granted}
use Rattle.jobs.proofs.Laws.{le_small}
use Rattle.jobs.proofs.job_result.Goals as goal

pub finish-requires-clause-le : goal.finish-requires-clause-le
finish-requires-clause-le c =
    let j = c.unwrap-in-Ok.result in
    le_small j (ap job_ok (sym c.unwrap-in-Ok.ensures) ∙ (possible-held c.args.session c.in-Ok.ensures.session).job)

pub finish-requires-clause-fits : goal.finish-requires-clause-fits
unfolding result_fits
finish-requires-clause-fits c = λ f.
    ap (λ (o : Option Job). result_fits o c.args.res.now) (sym c.unwrap-in-Ok.ensures) ∙ c.in-Ok.ensures.result f c.args.res.now refl

pub returns-in-Err : goal.returns-in-Err
unfolding kept_session lent
returns-in-Err c =
    let a = c.args in
    let st = state a.store.now a.work.now a.session in
    outcome-denied st (finishes a.resp.now a.failed a.res.now) _
    (sym (c.job_result.ensures.permit a.store.now a.work.now a.resp.now a.res.now c.well_formed-2.ensures refl refl refl) ∙ c.in-Err.is)

pub returns-in-Ok : goal.returns-in-Ok
unfolding granted
returns-in-Ok c =
    let a = c.args in
    let st = state a.store.now a.work.now a.session in
    let k = finishes a.resp.now a.failed a.res.now in
    let taken : permit st k ≡ Ok tt = sym (c.job_result.ensures.permit a.store.now a.work.now a.resp.now a.res.now c.well_formed-2.ensures refl refl refl) ∙ c.in-Ok.is in
    let whole = rw c.unwrap.ensures at c.as_mut_array.ensures.cases in
    c.finish.ensures a.store.now
    ∙ ap (λ (w : List ℕ). (delivered a.resp.now (finished (state a.store.now w a.session) (Some c.unwrap-in-Ok.result) a.failed a.res.now)).outcome) whole.same
    ∙ delivers a.resp.now (ap (λ (o : Option Job). finished st o a.failed a.res.now) c.unwrap-in-Ok.ensures)
    ∙ outcome-granted st k taken
