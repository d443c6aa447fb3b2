-- Obeyed: a command that passes the checks, and one that does not.
--
--   calm-held              what is known of a session whose challenge was dropped
--   obeyed-failed obeyed-passed    what a command comes to, by its checks
--
-- Assumes nothing.
use Rattle.std.proofs.Common.{◌≡◌, true, None, Result, Ok, Err, List, ℕ, ap, sym, ◌∙◌}
use mathlib.Core.Path.{subst}
use Rattle.rules.specs.declared.Fault.{Fault}
use Rattle.rules.specs.declared.Header.{Header}
use Rattle.rules.specs.declared.Session.{Session}
use Rattle.rules.specs.Fault.{word_of, worded}
use Rattle.rules.specs.Session.{state, with_challenge, possible}
use Rattle.rules.specs.Command.{field_of, check, says}
use Rattle.rules.specs.Held.{calm, dropped}
use Rattle.rules.specs.Calls.{ruled, obeyed, command}
use Rattle.permit.proofs.Calls.{Held, possible-held}

pub calm-held : (ss t : Session) → t ≡ with_challenge ss None → possible ss ≡ true → Held t
calm-held ss t e p =
    let h : Held ss = possible-held ss p in
    subst Held (sym e) (record { few = h.few; rest = h.rest; job = h.job })

module _ (m w c : List ℕ) (ss : Session) (r : Result Header Fault) (e : worded r ≡ check ss.contactless c) where
  pub obeyed-failed : (f : Fault) → r ≡ Err f → command (state m w ss) c ≡ says (dropped (state m w (with_challenge ss None))) (word_of f)
  unfolding command obeyed calm
  obeyed-failed f q = ap (obeyed (state m w (with_challenge ss None)) ss.challenge c) (sym e ∙ ap worded q)

  pub obeyed-passed : (h : Header) → r ≡ Ok h → command (state m w ss) c ≡ ruled (state m w (with_challenge ss None)) ss.challenge h (field_of c h)
  unfolding command obeyed calm
  obeyed-passed h q = ap (obeyed (state m w (with_challenge ss None)) ss.challenge c) (sym e ∙ ap worded q)
