-- Asked: the call that a line asks for.
--
--   asked w p d           the call w with the response buffer p and the bytes d; a job that failed has no result
--
-- Assumes nothing.
use Rattle.std.specs.Prelude.{true, false, List, [], ℕ}
use Rattle.rules.specs.Calls.{Call, sends, finishes}
use Rattle.lines.specs.declared.What.{What}
use Rattle.lines.specs.declared.What.TheVariants.{Command, Done, Failed}

abbrev pub asked : What → List ℕ → List ℕ → Call
asked Command p d = sends p d
asked Done p d = finishes p false d
asked Failed p d = finishes p true []
