-- Reference: a PIN or a PUK as the card keeps it, and the steps that are made on it (01, "What the host lends", "PIN form").
--
--   Reference          limit, tries left and value of a PIN or a PUK
--   digit b            b is one of 30 to 39
--   pin_form d         d has PIN form
--   puk_form d         d has the form of a PUK
--   reference_ok f     the limit is 1 to 15, the tries left are at most the limit
--   none_left f        no tries are left
--   matches f d        d is the value
--   charged f          one try fewer
--   restored f         the tries left are the limit again
--   renewed f v        the value is v
--   reference_at s at  the reference whose ten bytes stand at a place of s
--   put_reference s at f   s with the ten bytes of f at that place
--
-- Assumes nothing.
use Rattle.std.specs.Prelude.{Bool, ◌&&◌, ◌||◌, List, ◌∷◌, ℕ, ◌+◌, ◌-◌, leb, eqb, length, take, get_or}
use Rattle.rules.specs.Bytes.{all, same_bytes, part, splice}

pub record Reference : Type 0 where
  pub limit : ℕ
  pub left : ℕ
  pub value : List ℕ

-- ---- forms

unfoldable pub digit : ℕ → Bool
digit b = leb 0x30 b && leb b 0x39

-- the seventh and eighth byte of a PIN: each a digit or FF, and after FF only FF
unfoldable pub last_two : ℕ → ℕ → Bool
last_two a b = digit a && (digit b || eqb b 0xFF) || eqb a 0xFF && eqb b 0xFF

-- eight bytes, the first six 30 to 39
unfoldable pub pin_form : List ℕ → Bool
pin_form d = eqb (length d) 8 && all digit (take 6 d) && last_two (get_or d 6 0) (get_or d 7 0)

-- any eight bytes
unfoldable pub puk_form : List ℕ → Bool
puk_form d = eqb (length d) 8

unfoldable pub reference_ok : Reference → Bool
reference_ok f = leb 1 f.limit && leb f.limit 15 && leb f.left f.limit

-- ---- steps

unfoldable pub none_left : Reference → Bool
none_left f = eqb f.left 0

unfoldable pub matches : Reference → List ℕ → Bool
matches f d = same_bytes f.value d

unfoldable pub charged : Reference → Reference
charged f = record { limit = f.limit; left = f.left - 1; value = f.value }

unfoldable pub restored : Reference → Reference
restored f = record { limit = f.limit; left = f.limit; value = f.value }

unfoldable pub renewed : Reference → List ℕ → Reference
renewed f v = record { limit = f.limit; left = f.left; value = v }

-- ---- the ten bytes: limit, tries left, eight value bytes

unfoldable pub reference_at : List ℕ → ℕ → Reference
reference_at s at = record { limit = get_or s at 0; left = get_or s (at + 1) 0; value = part s (at + 2) 8 }

unfoldable pub put_reference : List ℕ → ℕ → Reference → List ℕ
put_reference s at f = splice s at (f.limit ∷ f.left ∷ f.value)
