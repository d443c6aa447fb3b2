-- Held: what the card keeps between commands: chains, the rest of a response, the challenge (01, "What the host lends",
-- "From bytes to a command"); data answers longer than Le, and the pieces of a chain.
--
--   calm st               the challenge dropped
--   dropped st            chain and rest dropped: the bytes held become zero
--   left_word n           61 and the number of bytes left, 00 if 256 or more
--   send st le d          the answer d goes out: all of it, or its first le bytes while the whole is held
--   fetch st le whole k   up to le more bytes of a whole answer of which k are fetched
--   goes_on c h           the command goes on with the chain c
--   based st h            the state that a chaining command starts from: with its chain, or with none
--   gathered st d         the bytes of the chain so far and those of the piece
--   chain_of h n          the chain of the command h, n bytes so far
--   held_piece st h d     the piece is added to the chain, or opens one
--   closed st d           the last piece is added, and all of the chain becomes zero
--   piece st h d sw whole one piece: sw is what the rules for each piece say, `whole` the rules at the last
--
-- Assumes nothing.
use Rattle.std.specs.Prelude.{Option, Some, None, Bool, false, not, ◌&&◌, List, ◌++◌, ℕ, ◌+◌, ◌-◌, leb, eqb, length, take}
use Rattle.rules.specs.declared.Chain.{Chain}
use Rattle.rules.specs.declared.Header.{Header}
use Rattle.rules.specs.Bytes.{iff, part, splice, zeroed}
use Rattle.rules.specs.Session.{State, state, in_session, holding, with_challenge, rest_of, chain_length, held_length}
use Rattle.rules.specs.Command.{Made, responds, tells, says}

-- ---- dropping

-- every command drops a held challenge
unfoldable pub calm : State → State
calm st = in_session st (with_challenge st.session None)

-- when what the work area holds is dropped, those bytes become zero; bytes past it are not changed
unfoldable pub dropped : State → State
dropped st =
    state st.store (zeroed st.work (held_length st.session)) (holding st.session None None)

-- ---- data answers

unfoldable pub left_word : ℕ → ℕ
left_word n = iff (leb 256 n) 0x6100 (0x6100 + n)

-- of a state that holds neither chain nor rest
unfoldable pub send : State → ℕ → List ℕ → Made
send st le d =
    iff (leb (length d) le) (tells st (responds d 0x9000))
    (tells (state st.store (splice st.work 0 d) (holding st.session None (Some (rest_of (length d) le))))
    (responds (take le d) (left_word (length d - le))))

unfoldable pub fetch : State → ℕ → ℕ → ℕ → Made
fetch st le whole k =
    iff (leb (whole - k) le) (tells (dropped st) (responds (part st.work k (whole - k)) 0x9000))
    (tells (in_session st (holding st.session None (Some (rest_of whole (k + le)))))
    (responds (part st.work k le) (left_word (whole - k - le))))

-- ---- chains

-- the same INS, P1 and P2
unfoldable pub goes_on : Option Chain → Header → Bool
goes_on None h = false
goes_on (Some c) h = eqb c.ins h.ins && eqb c.p1 h.p1 && eqb c.p2 h.p2

-- any other command drops the chain and is then treated as if there had been none; every command drops the rest
unfoldable pub based : State → Header → State
based st h = iff (goes_on st.session.chain h) st (dropped st)

unfoldable pub gathered : State → List ℕ → List ℕ
gathered st d = take (chain_length st.session.chain) st.work ++ d

abbrev pub chain_of : Header → ℕ → Chain
chain_of h n = record { ins = h.ins; p1 = h.p1; p2 = h.p2; len = n }

unfoldable pub held_piece : State → Header → List ℕ → State
held_piece st h d =
    state st.store (splice st.work (chain_length st.session.chain) d)
    (holding st.session (Some (chain_of h (chain_length st.session.chain + length d))) None)

-- the last piece is held beside the others until it is answered; a command in one piece is never held
unfoldable pub closed_work : List ℕ → Option Chain → ℕ → List ℕ
closed_work w None m = w
closed_work w (Some c) m = zeroed w (c.len + m)

unfoldable pub closed : State → List ℕ → State
closed st d =
    state st.store (closed_work st.work st.session.chain (length d)) (holding st.session None None)

-- a piece answered by anything but 9000 drops the chain; a non-last piece (CLA 10) that passes answers 9000
unfoldable pub piece : State → Header → List ℕ → ℕ → (State → List ℕ → Made) → Made
piece st h d sw whole =
    iff (not (eqb sw 0x9000)) (says (dropped st) sw)
    (iff (eqb h.cla 0x10) (says (held_piece st h d) 0x9000)
    (whole (closed st d) (gathered st d)))
