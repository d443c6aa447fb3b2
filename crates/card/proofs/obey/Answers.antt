-- Dropped, or ruled.
-- Assumes nothing.
use Rattle.std.proofs.Common.{List, ℕ, ap, ◌∙◌}
use mathlib.Core.Path.{ap₂}
use Rattle.rules.specs.declared.Session.{Session}
use Rattle.rules.specs.Fault.{word_of}
use Rattle.rules.specs.Session.{state}
use Rattle.rules.specs.Command.{says}
use Rattle.rules.specs.Held.{dropped}
use Rattle.rules.specs.Calls.{ruled, delivered}
use Rattle.saying.proofs.Laws.{delivers}
use Rattle.card.proofs.Obeyed.{calm-held, obeyed-failed, obeyed-passed}
use Rattle.card.proofs.obey.Goals as goal

pub drop_end-requires-clause-held : goal.drop_end-requires-clause-held
drop_end-requires-clause-held c = (calm-held c.args.session _ c.with_challenge-s.ensures c.requires.possible).few

pub rule-requires-clause-rest : goal.rule-requires-clause-rest
rule-requires-clause-rest c = (calm-held c.args.session _ c.with_challenge-s.ensures c.requires.possible).rest

pub rule-requires-clause-held : goal.rule-requires-clause-held
rule-requires-clause-held c = (calm-held c.args.session _ c.with_challenge-s.ensures c.requires.possible).few

pub returns-in-Err : goal.returns-in-Err
returns-in-Err c =
    let a = c.args in
    c.drop_end.ensures a.store.now
    ∙ ap (λ (t : Session). (delivered a.resp.now (says (dropped (state a.store.now a.work.now t)) (word_of c.in-Err.fault))).outcome) c.with_challenge-s.ensures
    ∙ delivers a.resp.now (obeyed-failed a.store.now a.work.now a.cmd.now a.session _ c.check.ensures.checked _ c.in-Err.is)

pub returns-in-Ok : goal.returns-in-Ok
returns-in-Ok c =
    let a = c.args in
    c.rule.ensures
    ∙ ap₂ (λ (t : Session) (f : List ℕ). (delivered a.resp.now (ruled (state a.store.now a.work.now t) a.session.challenge c.in-Ok.h f)).outcome) c.with_challenge-s.ensures c.field.ensures.field
    ∙ delivers a.resp.now (obeyed-passed a.store.now a.work.now a.cmd.now a.session _ c.check.ensures.checked _ c.in-Ok.is)
