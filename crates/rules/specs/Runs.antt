-- Runs: rows of calls, each made in the state that the one before it left (01, "What the host lends"; demands 2 and 3).
--
--   leaves r              the state that a call leaves
--   run st ks             what each call of a row comes to
--   end_of st ks          the state after a row of calls
--
-- Store, work area and session pass unchanged from one call to the next; a further power-on takes the store as it stands.
-- Assumes nothing.
use Rattle.std.specs.Prelude.{List, [], ◌∷◌}
use Rattle.rules.specs.Session.{State, state}
use Rattle.rules.specs.Calls.{Call, Result, call}

unfoldable pub leaves : Result → State
leaves r = state r.outcome.store r.outcome.work r.outcome.reply.session

unfoldable pub run : State → List Call → List Result
run st [] = []
run st (k ∷ ks) = call st k ∷ run (leaves (call st k)) ks

unfoldable pub end_of : State → List Call → State
end_of st [] = st
end_of st (k ∷ ks) = end_of (leaves (call st k)) ks
