-- Ber: lengths and data objects (01, "The data objects in a command").
--
--   bits n               the count of significant bits of n
--   length_bytes n       the number of bytes that the length n takes
--   length_form k n      the length n written in k bytes
--   ber_length n         the length n as it is written
--   announced b          the number of bytes of a length whose first byte is b; 0 where no length starts so
--   length_value s at k  the length that stands in the k bytes of s from the place `at` on
--   with_next n next      the length n, and the place after it
--   length_at s at       the length read at a place, and the place after it
--   place from n          n bytes from a place on
--   object_at s at tag   the object with that tag read at a place: where its value starts and how long it is
--   last_at s at tag     the same of an object with which s ends
--   tlv tag v            the object with that tag and value as it is written
--
-- Assumes nothing.
use Rattle.std.specs.Prelude.{Option, Some, None, ◌||◌, List, [], ◌∷◌, ◌++◌, ℕ, ◌+◌, ◌-◌, ltb, leb, eqb, length, get_or}
use Rattle.std.specs.Int.Count.{count_leading_zeros}
use Rattle.rules.specs.declared.Length.{Length}
use Rattle.rules.specs.declared.Place.{Place}
use Rattle.rules.specs.Bytes.{iff, word, be16}

-- ---- lengths

-- of a number below 2 ^ 32
unfoldable pub bits : ℕ → ℕ
unfolding count_leading_zeros
bits n = 32 - count_leading_zeros 32 n

-- one byte to 127 (7 bits), 81 and one byte to 255 (8 bits), 82 and two bytes above
unfoldable pub length_bytes : ℕ → ℕ
length_bytes n = iff (leb (bits n) 7) 1 (iff (leb (bits n) 8) 2 3)

unfoldable pub length_form : ℕ → ℕ → List ℕ
length_form k n = iff (eqb k 1) (n ∷ []) (iff (eqb k 2) (0x81 ∷ n ∷ []) (0x82 ∷ word n))

-- only the shortest form is written
unfoldable pub ber_length : ℕ → List ℕ
ber_length n = length_form (length_bytes n) n

unfoldable pub announced : ℕ → ℕ
announced b = iff (ltb b 0x80) 1 (iff (eqb b 0x81) 2 (iff (eqb b 0x82) 3 0))

unfoldable pub length_value : List ℕ → ℕ → ℕ → ℕ
length_value s at k = iff (eqb k 1) (get_or s at 0) (iff (eqb k 2) (get_or s (at + 1) 0) (be16 s (at + 1)))

abbrev pub with_next : ℕ → ℕ → Length
with_next n next = record { len = n; next = next }

-- only the shortest form is taken: a length n in k bytes is read where n takes k bytes
unfoldable pub length_in : List ℕ → ℕ → ℕ → Option Length
length_in s at k =
    iff (eqb k 0 || ltb (length s) (at + k)) None
    (iff (eqb (length_bytes (length_value s at k)) k) (Some (with_next (length_value s at k) (at + k))) None)

unfoldable pub length_at : List ℕ → ℕ → Option Length
length_at s at = length_in s at (announced (get_or s at 0))

-- ---- objects: a value read is a stretch of the command itself, given by its place and its length

abbrev pub place : ℕ → ℕ → Place
place from n = record { from = from; len = n }

-- a value of that length, if s holds all of it
unfoldable pub value_from : List ℕ → Option Length → Option Place
value_from s None = None
value_from s (Some l) = iff (ltb (length s) (l.next + l.len)) None (Some (place l.next l.len))

unfoldable pub object_at : List ℕ → ℕ → ℕ → Option Place
object_at s at tag =
    iff (leb (length s) at) None
    (iff (eqb (get_or s at 0) tag) (value_from s (length_at s (at + 1))) None)

-- "and no more"
unfoldable pub ending : List ℕ → Option Place → Option Place
ending s None = None
ending s (Some v) = iff (eqb (v.from + v.len) (length s)) (Some v) None

unfoldable pub last_at : List ℕ → ℕ → ℕ → Option Place
last_at s at tag = ending s (object_at s at tag)

unfoldable pub tlv : ℕ → List ℕ → List ℕ
tlv tag v = tag ∷ (ber_length (length v) ++ v)
