-- No second outcome fits a promise of our form (specs/Claims/NoSecond).
-- Assumes nothing.
use mathlib.Core.Path.{sym, ap, ◌∙◌}
use Rattle.rules.specs.Claims.NoSecond.{Holds}

pub no_second : Holds
no_second I O S view shows rule i o q p r = sym (shows.same o) ∙ ap shows.back (p ∙ sym r) ∙ shows.same q
