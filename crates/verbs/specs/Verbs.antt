-- Verbs: the first words of a line of the program probe.
--
--   starts l from w       the word w stands in l at that place
--   buffer_at l from      the buffer that is named there, and the place behind its name and a space
--   number_at l at        the decimal number that stands there, and the place behind it and a space
--   verb_of l             what the line asks for, and where the hex in it begins
--
-- A character is its number; words are parted by one space, 32. Assumes nothing.
use Rattle.std.specs.Prelude.{Bool, true, false, ◌&&◌, Option, Some, None, List, [], ◌∷◌, ℕ, ◌+◌, ◌-◌, ◌*◌, min, leb, eqb, length, drop, get_or}
use Rattle.rules.specs.Bytes.{iff, same_bytes, part}
use Rattle.lines.specs.declared.What.TheVariants.{Command, Done, Failed}
use Rattle.verbs.specs.declared.Buffer.{Buffer}
use Rattle.verbs.specs.declared.Buffer.TheVariants.{Store, Work, Resp}
use Rattle.verbs.specs.declared.Verb.{Verb}
use Rattle.verbs.specs.declared.Verb.TheVariants.{Lend, Put, Session, PowerOn, Ask, Other}

-- ---- words

abbrev pub store_word : List ℕ
store_word = 115 ∷ 116 ∷ 111 ∷ 114 ∷ 101 ∷ 32 ∷ []

abbrev pub work_word : List ℕ
work_word = 119 ∷ 111 ∷ 114 ∷ 107 ∷ 32 ∷ []

abbrev pub resp_word : List ℕ
resp_word = 114 ∷ 101 ∷ 115 ∷ 112 ∷ 32 ∷ []

abbrev pub put_word : List ℕ
put_word = 112 ∷ 117 ∷ 116 ∷ 32 ∷ []

abbrev pub session_word : List ℕ
session_word = 115 ∷ 101 ∷ 115 ∷ 115 ∷ 105 ∷ 111 ∷ 110 ∷ 32 ∷ []

abbrev pub command_word : List ℕ
command_word = 99 ∷ 109 ∷ 100 ∷ 32 ∷ []

abbrev pub done_word : List ℕ
done_word = 100 ∷ 111 ∷ 110 ∷ 101 ∷ 32 ∷ []

abbrev pub fail_line : List ℕ
fail_line = 102 ∷ 97 ∷ 105 ∷ 108 ∷ []

abbrev pub on_contact : List ℕ
on_contact = 111 ∷ 110 ∷ 32 ∷ 48 ∷ []

abbrev pub on_contactless : List ℕ
on_contactless = 111 ∷ 110 ∷ 32 ∷ 49 ∷ []

unfoldable pub starts : List ℕ → ℕ → List ℕ → Bool
starts l from w = same_bytes (part l from (length w)) w

-- "store ", "work ", "resp "
unfoldable pub buffer_at : List ℕ → ℕ → Option (Buffer × ℕ)
buffer_at l from =
    iff (starts l from store_word) (Some (Store, from + 6))
    (iff (starts l from work_word) (Some (Work, from + 5))
    (iff (starts l from resp_word) (Some (Resp, from + 5)) None))

-- ---- decimal numbers

unfoldable pub is_figure : ℕ → Bool
is_figure d = leb 48 d && leb d 57

-- a number past every buffer stays past every buffer
unfoldable pub grown : ℕ → ℕ → ℕ
grown v d = min (v * 10 + (d - 48)) 40001

abbrev pub scan : ℕ → ℕ → List ℕ → Option (ℕ × ℕ)
scan v i [] = None
scan v i (d ∷ l) = let more = scan (grown v d) (i + 1) l in iff (eqb d 32) (Some (v, i + 1)) (iff (is_figure d) more None)

unfoldable pub number_at : List ℕ → ℕ → Option (ℕ × ℕ)
number_at l at = iff (leb (length l) at) None (iff (is_figure (get_or l at 0)) (scan 0 at (drop at l)) None)

-- ---- lines

abbrev pub put_in : Buffer → Option (ℕ × ℕ) → Verb
put_in b (Some (n, next)) = Put b n next
put_in b None = Other

abbrev pub put_of : List ℕ → Option (Buffer × ℕ) → Verb
put_of l (Some (b, at)) = put_in b (number_at l at)
put_of l None = Other

abbrev pub lend_of : Option (Buffer × ℕ) → Verb
lend_of (Some (b, from)) = Lend b from
lend_of None = Other

-- behind "fail" stands nothing
unfoldable pub verb_of : List ℕ → Verb
verb_of l =
    iff (starts l 0 command_word) (Ask Command 4)
    (iff (starts l 0 done_word) (Ask Done 5)
    (iff (same_bytes l fail_line) (Ask Failed 4)
    (iff (same_bytes l on_contact) (PowerOn false)
    (iff (same_bytes l on_contactless) (PowerOn true)
    (iff (starts l 0 session_word) Session
    (iff (starts l 0 put_word) (put_of l (buffer_at l 4))
    (lend_of (buffer_at l 0))))))))
