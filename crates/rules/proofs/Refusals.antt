-- A refused call changes nothing (specs/Claims/Refusals).
-- Assumes nothing.
use mathlib.Core.Path.{◌≡◌, ap}
use Rattle.rules.specs.Calls.{Result, denied, call}
use Rattle.rules.specs.Claims.Refusals.{Holds}
use Rattle.rules.proofs.Permits.{call-denied}

pub refusals : Holds
unfolding denied
refusals st k r e =
    let d : call st k ≡ denied st k r = call-denied st k r e in
    record {
      answer = ap (λ (x : Result). x.outcome.reply.answer) d;
      session = ap (λ (x : Result). x.outcome.reply.session) d;
      store = ap (λ (x : Result). x.outcome.store) d;
      work = ap (λ (x : Result). x.outcome.work) d;
      resp = ap (λ (x : Result). x.outcome.resp) d;
      steps = ap (λ (x : Result). x.steps) d;
      wrote = ap (λ (x : Result). x.wrote) d;
    }
