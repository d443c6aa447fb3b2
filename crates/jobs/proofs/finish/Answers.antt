-- The result by the job that it is of.
-- Assumes nothing.
use Rattle.std.proofs.Common.{ap, ◌∙◌}
use borrow.Author.Tests.{eq-eqb, ne_eqb}
use Rattle.rules.specs.declared.Session.{Session}
use Rattle.rules.specs.Ber.{tlv}
use Rattle.rules.specs.Session.{state}
use Rattle.rules.specs.Command.{says}
use Rattle.rules.specs.Held.{send}
use Rattle.rules.specs.Keys.{challenged, answered, finished}
use Rattle.rules.specs.Calls.{delivered}
use Rattle.rules.proofs.Tests.{on, off}
use Rattle.saying.proofs.Laws.{replies, delivers}
use Rattle.jobs.proofs.Laws.{fits_sixteen, fits_short}
use Rattle.jobs.proofs.finish.Goals as goal

pub returns-then-failed : goal.returns-then-failed
unfolding finished answered
returns-then-failed c = λ m.
    let a = c.args in
    c.end.ensures m a.work.now
    ∙ ap (λ (t : Session). (delivered a.resp.now (says (state m a.work.now t) 0x6F00)).outcome) c.with_job-t.ensures
    ∙ delivers a.resp.now (on _ _ _ c.if-failed.true)

pub challenged-requires-clause-sixteen : goal.challenged-requires-clause-sixteen
challenged-requires-clause-sixteen c = fits_sixteen c.args.job c.args.res.now (c.requires.fits c.if-failed.false) c.if-job-eq155.true

pub returns-then-job-eq155 : goal.returns-then-job-eq155
unfolding finished answered
returns-then-job-eq155 c = λ m.
    let a = c.args in
    c.challenged.ensures m
    ∙ ap (λ (t : Session). (delivered a.resp.now (challenged (state m a.work.now t) a.job.le a.res.now)).outcome) c.with_job-t.ensures
    ∙ delivers a.resp.now (off _ _ _ c.if-failed.false ∙ on _ _ _ (eq-eqb _ _ c.if-job-eq155.true))

pub give-sent-requires-clause-short : goal.give-sent-requires-clause-short
give-sent-requires-clause-short c = fits_short c.args.job c.args.res.now (c.requires.fits c.if-failed.false)

pub returns : goal.returns
unfolding finished answered
returns c = λ m.
    let a = c.args in
    replies m c.told.ensures
    ∙ c.give-sent.ensures c.with_job-t.result m
    ∙ ap (λ (t : Session). (delivered a.resp.now (send (state m a.work.now t) a.job.le (tlv 0x7C (tlv 0x82 a.res.now)))).outcome) c.with_job-t.ensures
    ∙ delivers a.resp.now (off _ _ _ c.if-failed.false ∙ off _ _ _ (ne_eqb _ _ c.if-job-eq155.false))
