-- A command in one piece, or the end of a chain.
-- Assumes nothing.
use Rattle.std.proofs.Common.{◌+◌, ◌++◌, length, take, ap, ◌∙◌}
use mathlib.Core.Path.{ap₂}
use Rattle.rules.specs.declared.Session.{Session}
use Rattle.rules.specs.Bytes.{zeroed}
use Rattle.rules.specs.Session.{state}
use Rattle.rules.specs.Command.{Made}
use Rattle.rules.specs.Keys.{auth_whole}
use Rattle.rules.specs.Calls.{delivered}
use Rattle.saying.proofs.Laws.{delivers}
use Rattle.held.proofs.Laws.{closed-state, shut-state, gathered_open, gathered-shut}
use Rattle.keys.proofs.last.Goals as goal

pub returns-in-None : goal.returns-in-None
returns-in-None c = λ m.
    let a = c.args in
    c.answer.ensures m a.work.now
    ∙ ap (λ (x : Made). (delivered a.resp.now x).outcome) (c.whole.ensures.made (state m a.work.now c.holding-t.result))
    ∙ ap (λ (t : Session). (delivered a.resp.now (auth_whole a.ch a.h (state m a.work.now t) a.field.now)).outcome) c.holding-t.ensures
    ∙ delivers a.resp.now (ap₂ (auth_whole a.ch a.h) (shut-state m a.work.now a.field.now a.s c.in-None.is) (gathered-shut m a.work.now a.field.now a.s c.in-None.is))

pub returns-in-Some : goal.returns-in-Some
unfolding zeroed
returns-in-Some c = λ m.
    let a = c.args in
    let n = c.in-Some.c.len in
    c.last_of_chain.ensures m
    ∙ ap (λ (t : Session). (delivered a.resp.now (auth_whole a.ch a.h (state m (zeroed a.work.now (n + length a.field.now)) t) (take n a.work.now ++ a.field.now))).outcome) c.holding-t.ensures
    ∙ delivers a.resp.now (ap₂ (auth_whole a.ch a.h) (closed-state m a.work.now a.field.now a.s c.in-Some.c c.in-Some.is) (gathered_open m a.work.now a.field.now a.s c.in-Some.c c.in-Some.is))
