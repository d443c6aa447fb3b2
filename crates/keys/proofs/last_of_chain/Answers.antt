-- The chain in a row, answered, and zeroed.
-- Assumes nothing.
use Rattle.std.proofs.Common.{List, ℕ, ◌+◌, ◌≤◌, length, ap, arith, ◌∙◌}
use mathlib.Core.Path.{ap₂}
use Rattle.rules.specs.Bytes.{part, splice, zeros, zeroed}
use Rattle.rules.specs.Session.{state}
use Rattle.rules.specs.Command.{Made}
use Rattle.rules.specs.Keys.{auth_whole}
use Rattle.rules.specs.Calls.{delivered}
use Rattle.held.proofs.Laws.{gathered-part, zero_over}
use Rattle.keys.proofs.last_of_chain.Goals as goal

pub returns : goal.returns
unfolding zeroed
returns c = λ m.
    let a = c.args in
    let n = a.n + length a.field.now in
    let room : n ≤ length a.work.now = omega arith in
    let zeroed_all = c.zero.ensures ∙ ap (λ (l : List ℕ). splice l 0 (zeros n)) c.put.ensures ∙ zero_over a.work.now a.field.now a.n room in
    let gathered_all = c.part.ensures.part ∙ ap (λ (l : List ℕ). part l 0 n) c.put.ensures ∙ gathered-part a.work.now a.field.now a.n room in
    c.answer-reply.ensures m c.zero.new.dst
    ∙ ap (λ (x : Made). (delivered a.resp.now x).outcome) (c.whole-said.ensures.made (state m c.zero.new.dst a.s))
    ∙ ap₂ (λ (w v : List ℕ). (delivered a.resp.now (auth_whole a.ch a.h (state m w a.s) v)).outcome) zeroed_all gathered_all
