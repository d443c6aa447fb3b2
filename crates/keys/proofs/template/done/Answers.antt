-- The administrator is known now, or is not.
-- Assumes nothing.
use Rattle.std.proofs.Common.{Ok, ap, sym, ◌∙◌}
use Rattle.rules.specs.declared.Session.{Session}
use Rattle.rules.specs.Session.{state}
use Rattle.rules.specs.Command.{says}
use Rattle.rules.specs.Calls.{delivered}
use Rattle.keys.specs.declared.template.Auth.{Auth}
use Rattle.keys.specs.Replies.{auth_made}
use Rattle.keys.proofs.template.done.Goals as goal

pub returns-in-Known : goal.returns-in-Known
returns-in-Known c = λ m w.
    let a = c.args in
    c.end.ensures m w
    ∙ ap (λ (t : Session). (delivered a.resp.now (says (state m w t) 0x9000)).outcome) c.with_admin.ensures
    ∙ ap (λ (x : Auth). (delivered a.resp.now (auth_made (state m w a.s) (Ok x))).outcome) (sym c.in-Known.is)

pub returns-in-Unknown : goal.returns-in-Unknown
returns-in-Unknown c = λ m w.
    let a = c.args in
    c.end-in-Unknown.ensures m w
    ∙ ap (λ (t : Session). (delivered a.resp.now (says (state m w t) 0x6982)).outcome) c.with_admin-in-Unknown.ensures
    ∙ ap (λ (x : Auth). (delivered a.resp.now (auth_made (state m w a.s) (Ok x))).outcome) (sym c.in-Unknown.is)
