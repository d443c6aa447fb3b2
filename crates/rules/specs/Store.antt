-- Store: the store's layout, its slots, and when it is well formed (01, "What the host lends").
--
--   store_size work_size response_size  the sizes of the store and the work area, and the least of a response buffer
--   tags capacities offsets             the table of 01, a column each; slots are numbered 0 to 11 in its order
--   contact_read contactless_read       its last two columns
--   slots                 the number of slots
--   tag_of tag_bytes i    the tag of slot i, and the number of its bytes
--   slot_named n t        the slot whose tag has n bytes and is the number t; `slots` where there is none
--   slot_length s i       the length kept in slot i
--   object_of s i         the object in slot i; empty where there is none
--   takes s i n           slot i can take an object of n bytes
--   put_object s i v      slot i takes v, with zeros behind it
--   pin_at puk_at         the places of the two references
--   key_place key         the place of a key's algorithm
--   algorithm_of s key    the algorithm of key 9A, 9C, 9D or 9E; 00 where it is absent
--   well_formed s         s is a store that a call takes
--
-- Assumes nothing.
use Rattle.std.specs.Prelude.{Bool, ◌&&◌, ◌||◌, List, [], ◌∷◌, ◌++◌, ℕ, ◌+◌, ◌-◌, leb, eqb, length, get_or}
use Rattle.rules.specs.declared.Access.{Access}
use Rattle.rules.specs.declared.Access.TheVariants.{Always, WithPin, Never}
use Rattle.rules.specs.Bytes.{iff, all_true, all, all_below, first_from, same_bytes, part, splice, zeros, word, be16}
use Rattle.rules.specs.Reference.{pin_form, reference_ok, reference_at}

-- ---- sizes

abbrev pub store_size : ℕ
store_size = 33400

abbrev pub work_size : ℕ
work_size = 13321

abbrev pub response_size : ℕ
response_size = 258

-- ---- the table: capability container, CHUID, certificate 9A, fingerprints, security object, face,
--      certificates 9E, 9C and 9D, printed information, key history, Discovery

abbrev pub slots : ℕ
slots = 12

abbrev pub tags : List ℕ
tags =
    0x5FC107 ∷ 0x5FC102 ∷ 0x5FC105 ∷ 0x5FC103 ∷ 0x5FC106 ∷ 0x5FC108
    ∷ 0x5FC101 ∷ 0x5FC10A ∷ 0x5FC10B ∷ 0x5FC109 ∷ 0x5FC10C ∷ 0x7E ∷ []

abbrev pub capacities : List ℕ
capacities = 512 ∷ 4096 ∷ 2048 ∷ 4096 ∷ 2048 ∷ 13312 ∷ 2048 ∷ 2048 ∷ 2048 ∷ 512 ∷ 512 ∷ 64 ∷ []

abbrev pub offsets : List ℕ
offsets = 32 ∷ 546 ∷ 4644 ∷ 6694 ∷ 10792 ∷ 12842 ∷ 26156 ∷ 28206 ∷ 30256 ∷ 32306 ∷ 32820 ∷ 33334 ∷ []

abbrev pub contact_read : List Access
contact_read =
    Always ∷ Always ∷ Always ∷ WithPin ∷ Always ∷ WithPin
    ∷ Always ∷ Always ∷ Always ∷ WithPin ∷ Always ∷ Always ∷ []

abbrev pub contactless_read : List Access
contactless_read =
    Never ∷ Always ∷ Never ∷ Never ∷ Never ∷ Never
    ∷ Always ∷ Never ∷ Never ∷ Never ∷ Never ∷ Always ∷ []

abbrev pub discovery : ℕ
discovery = 11

-- ---- slots

unfoldable pub tag_of : ℕ → ℕ
tag_of i = get_or tags i 0

unfoldable pub tag_bytes : ℕ → ℕ
tag_bytes i = iff (eqb i discovery) 1 3

unfoldable pub capacity : ℕ → ℕ
capacity i = get_or capacities i 0

unfoldable pub offset : ℕ → ℕ
offset i = get_or offsets i 0

unfoldable pub named : ℕ → ℕ → ℕ → Bool
named n t i = eqb n (tag_bytes i) && eqb t (tag_of i)

unfoldable pub slot_named : ℕ → ℕ → ℕ
slot_named n t = first_from (named n t) slots 0

-- a slot is a 16-bit length, then its capacity
unfoldable pub slot_length : List ℕ → ℕ → ℕ
slot_length s i = be16 s (offset i)

unfoldable pub object_of : List ℕ → ℕ → List ℕ
object_of s i = part s (offset i + 2) (slot_length s i)

unfoldable pub takes : List ℕ → ℕ → ℕ → Bool
takes s i n = leb n (capacity i)

-- the slot takes the value, the bytes after it in the slot become zero
unfoldable pub slot_bytes : ℕ → List ℕ → List ℕ
slot_bytes i v = word (length v) ++ (v ++ zeros (capacity i - length v))

unfoldable pub put_object : List ℕ → ℕ → List ℕ → List ℕ
put_object s i v = splice s (offset i) (slot_bytes i v)

-- ---- references and keys

abbrev pub pin_at : ℕ
pin_at = 8

abbrev pub puk_at : ℕ
puk_at = 18

unfoldable pub key_place : ℕ → ℕ
key_place key = iff (eqb key 0x9A) 28 (iff (eqb key 0x9C) 29 (iff (eqb key 0x9D) 30 31))

unfoldable pub algorithm_of : List ℕ → ℕ → ℕ
algorithm_of s key = get_or s (key_place key) 0

-- 00 absent, 07 RSA 2048, 11 P-256
unfoldable pub algorithm_ok : ℕ → Bool
algorithm_ok a = eqb a 0 || eqb a 0x07 || eqb a 0x11

-- ---- well formed

-- the mark OPC, version 1, three zero bytes
abbrev pub mark : List ℕ
mark = 0x4F ∷ 0x50 ∷ 0x43 ∷ 0x00 ∷ 0x01 ∷ 0x00 ∷ 0x00 ∷ 0x00 ∷ []

unfoldable pub slot_ok : List ℕ → ℕ → Bool
slot_ok s i = leb (slot_length s i) (capacity i)

unfoldable pub store_tests : List ℕ → List Bool
store_tests s =
    eqb (length s) store_size
    ∷ same_bytes (part s 0 8) mark
    ∷ reference_ok (reference_at s pin_at)
    ∷ reference_ok (reference_at s puk_at)
    ∷ pin_form (part s 10 8)
    ∷ all algorithm_ok (part s 28 4)
    ∷ all_below (slot_ok s) slots
    ∷ []

unfoldable pub well_formed : List ℕ → Bool
well_formed s = all_true (store_tests s)
