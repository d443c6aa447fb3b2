-- Rule: the rule on references of each INS.
--
--   pin_rule r h d     VERIFY (20), CHANGE REFERENCE DATA (24), RESET RETRY COUNTER (any other)
--
-- Assumes nothing.
use Rattle.std.specs.Prelude.{List, ℕ, eqb}
use Rattle.rules.specs.declared.Header.{Header}
use Rattle.rules.specs.Bytes.{iff}
use Rattle.rules.specs.Pin.{Refs, Said, verify, change, reset}

unfoldable pub pin_rule : Refs → Header → List ℕ → Said
pin_rule r h d = iff (eqb h.ins 0x20) (verify r h d) (iff (eqb h.ins 0x24) (change r h d) (reset r h d))
