-- Shape: what is known of a command that passed check 1, and of a fault that ends one in checks 1 to 5.
--
--   Shaped c h         the data of the command h lie in its bytes c, there are at most 255 of them, and Le is 1 to 256
--   Uncounted f        the fault f counts no tries, so that its status word tells which it is
--
-- Assumes nothing.
use Rattle.std.specs.Prelude.{◌≡◌, List, ◌⊎◌, ℕ, ◌+◌, ◌≤◌, length, ⊤}
use Rattle.rules.specs.declared.Header.{Header}
use Rattle.rules.specs.declared.Fault.{Fault}
use Rattle.rules.specs.declared.Fault.TheVariants.{NotEqual}

pub record Shaped (c : List ℕ) (h : Header) : Type 0 where
  pub inside : (h.lc ≡ 0) ⊎ (5 + h.lc ≤ length c)
  pub few : h.lc ≤ 255
  pub le : h.le ≤ 256

abbrev pub Uncounted : Fault → Type 0
Uncounted (NotEqual left) = ⊥
Uncounted f = ⊤
