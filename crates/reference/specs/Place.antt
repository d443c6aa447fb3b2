-- Place: where the two references stand in a store.
--
--   place_of w             the place of the ten bytes of a reference
--
-- Assumes nothing.
use Rattle.std.specs.Prelude.{ℕ}
use Rattle.rules.specs.Store.{pin_at, puk_at}
use Rattle.rules.specs.Command.{Which, the_pin, the_puk}

abbrev pub place_of : Which → ℕ
place_of the_pin = pin_at
place_of the_puk = puk_at
