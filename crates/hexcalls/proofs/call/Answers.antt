-- The first bytes are read, and the call is made with them.
-- Assumes nothing.
use mathlib.Core.Path.{◌∙◌}
use Rattle.rules.specs.Session.{state}
use Rattle.hexcalls.proofs.Laws.{asked-read}
use Rattle.hexcalls.proofs.call.Goals as goal

pub returns : goal.returns
returns c =
    let a = c.args in
    c.make.ensures ∙ asked-read a.what (state a.store.now a.work.now a.session) a.resp.now a.digits.now _ _ _ c.min-n.ensures c.read_hex.ensures
