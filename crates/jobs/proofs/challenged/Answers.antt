-- The first eight bytes go out, the others are kept as one number.
-- Assumes nothing.
use Rattle.std.proofs.Common.{Some, List, ℕ, ap, ◌∙◌}
use mathlib.Core.Path.{ap₂}
use Rattle.rules.specs.declared.Session.{Session}
use Rattle.rules.specs.Bytes.{part}
use Rattle.rules.specs.Ber.{tlv}
use Rattle.rules.specs.Session.{state, with_challenge}
use Rattle.rules.specs.Held.{send}
use Rattle.rules.specs.Keys.{challenged}
use Rattle.rules.specs.Calls.{delivered}
use Rattle.saying.proofs.Laws.{replies}
use Rattle.jobs.proofs.challenged.Goals as goal

pub returns : goal.returns
unfolding challenged part
returns c = λ m.
    let a = c.args in
    let asked = c.with_challenge-t.ensures ∙ ap (λ (n : ℕ). with_challenge a.s (Some n)) c.be64.ensures in
    replies m c.told.ensures
    ∙ c.give-sent.ensures c.with_challenge-t.result m
    ∙ ap₂ (λ (t : Session) (d : List ℕ). (delivered a.resp.now (send (state m a.work.now t) a.le (tlv 0x7C (tlv 0x81 d)))).outcome) asked c.part.ensures.part
