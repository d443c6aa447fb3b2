-- Refused, or obeyed on what is lent.
-- Assumes nothing.
use Rattle.std.proofs.Common.{◌≡◌, refl, Ok, List, ℕ, sym, ◌∙◌}
use mathlib.Core.Path.{ap₂}
use Rattle.rules.specs.Session.{state}
use Rattle.rules.specs.Calls.{sends, permit, command, delivered, granted, kept_session, lent}
use Rattle.rules.proofs.WellFormed.{wf_size}
use Rattle.permit.proofs.Calls.{outcome-denied, outcome-granted}
use Rattle.card.proofs.command.Goals as goal

pub unwrap-requires : goal.unwrap-requires
unwrap-requires c = c.as_mut_array.ensures.variant.1 (wf_size c.args.store.now (sym c.well_formed-2.ensures ∙ c.in-Ok.ensures.formed))

pub returns-in-Err : goal.returns-in-Err
unfolding kept_session lent
returns-in-Err c =
    let a = c.args in
    outcome-denied (state a.store.now a.work.now a.session) (sends a.resp.now a.cmd.now) _
    (sym (c.command.ensures.permit a.store.now a.work.now a.resp.now a.cmd.now c.well_formed-2.ensures refl refl) ∙ c.in-Err.is)

pub returns-in-Ok : goal.returns-in-Ok
unfolding granted
returns-in-Ok c =
    let a = c.args in
    let st = state a.store.now a.work.now a.session in
    let k = sends a.resp.now a.cmd.now in
    let taken : permit st k ≡ Ok tt = sym (c.command.ensures.permit a.store.now a.work.now a.resp.now a.cmd.now c.well_formed-2.ensures refl refl) ∙ c.in-Ok.is in
    let store = rw c.unwrap.ensures at c.as_mut_array.ensures.cases in
    let work = rw c.unwrap-in-Ok.ensures at c.as_mut_array-in-Ok.ensures.cases in
    c.obey.ensures
    ∙ ap₂ (λ (s w : List ℕ). (delivered a.resp.now (command (state s w a.session) a.cmd.now)).outcome) store.same work.same
    ∙ outcome-granted st k taken
