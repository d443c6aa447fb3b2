-- The chain in a row, put, and zeroed.
-- Assumes nothing.
use mathlib.Core.Path.{ap, ap₂, sym, ◌∙◌}
use mathlib.Core.List.{List}
use Prim.Native.Nat.{ℕ, ◌+◌, ◌≤◌}
use native.Mathlib.Omega.{arith}
use lib.ListN.{length}
use Rattle.rules.specs.Bytes.{splice, zeros, part}
use Rattle.rules.specs.Fault.{status_of}
use Rattle.rules.specs.Session.{state}
use Rattle.rules.specs.Objects.{put_whole}
use Rattle.rules.specs.Calls.{delivered}
use Rattle.held.proofs.Laws.{gathered-part, zero_over}
use Rattle.putting.proofs.storing.Laws.{said}
use Rattle.putting.proofs.put_chain.Goals as goal

pub returns : goal.returns
returns c =
    let a = c.args in
    let k : a.len + length a.field.now ≤ length a.work.now = omega arith in
    let s = c.put_whole-said.new.store in
    let w = c.zero.new.dst in
    let e = c.zero.ensures
    ∙ ap (λ (l : List ℕ). splice l 0 (zeros (a.len + length a.field.now))) c.put.ensures
    ∙ zero_over a.work.now a.field.now a.len k in
    let d = c.part.ensures.part
    ∙ ap (λ (l : List ℕ). part l 0 (a.len + length a.field.now)) c.put.ensures
    ∙ gathered-part a.work.now a.field.now a.len k in
    c.end.ensures s w
    ∙ sym (said s w a.resp.now a.s (status_of c.put_whole-said.result))
    ∙ c.put_whole-said.ensures w a.resp.now a.s
    ∙ ap₂ (λ (l v : List ℕ). (delivered a.resp.now (put_whole (state a.store.now l a.s) v)).outcome) e d
