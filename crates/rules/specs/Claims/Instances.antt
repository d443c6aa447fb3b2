-- Instances: the premises of the claims over runs can be met: for each of them, what it claims of one run of a card, all premises computed.
--
--   before                a work area and a session as some earlier use left them
--   other                 a card that differs from `fixed` in PIN, PUK and printed information
--   guesses               what a finder may try: the printed information, and a wrong PIN
--   issuing               the card `fixed` after the administrator's login
--   opening               a login, and the first piece of a PUT DATA
--   pieces                a PUT DATA in two pieces, with a refused call between them
--   stored                the card after them and a further power-on
--   Holds                 the claim
--
-- Assumes nothing.
use Rattle.std.specs.Prelude.{◌≡◌, true, false, List, [], ◌∷◌, ◌++◌, ℕ, ◌-◌, length, replicate}
use Rattle.rules.specs.declared.Refusal.TheVariants.{WrongWork}
use Rattle.rules.specs.Bytes.{zeros}
use Rattle.rules.specs.Store.{work_size, put_object}
use Rattle.rules.specs.Session.{State, state, cleared, with_admin}
use Rattle.rules.specs.Calls.{command, Call, powers, sends}
use Rattle.rules.specs.Runs.{run, end_of}
use Rattle.rules.specs.Claims.Starred.{hex, Card, issued, filled, store_of, fixed, wrong, right, printed, asks, makes, reply, first, last}
use Rattle.rules.specs.Claims.Words.{check_words, words, Tells}
use Rattle.rules.specs.Claims.Refusals.{Kept}
use Rattle.rules.specs.Claims.Invariants.{Sane}
use Rattle.rules.specs.Claims.Working.{ledger}
use Rattle.rules.specs.Claims.ReadBack.{absent, byte, Ask, reading, joined, last_word}
use Rattle.rules.specs.Claims.Secrecy.{AllSame}

unfoldable pub before : List ℕ → State
before s = state s (replicate work_size 0xAA) (cleared true)

-- ---- secrecy

abbrev pub other_pins : Card
other_pins = issued 0x4F50430001000000_0303393939393939FFFF_03030102030405060708_00000000

unfoldable pub other : List ℕ
other = store_of (filled other_pins 9 (hex 2 0x0809))

abbrev pub guesses : List Call
guesses = printed ∷ wrong ∷ []

-- ---- reading back

abbrev pub login : List Call
login = asks ∷ makes ∷ reply ∷ []

abbrev pub opening : List Call
opening = asks ∷ makes ∷ reply ∷ first ∷ []

unfoldable pub issuing : State
issuing = state fixed (zeros work_size) (with_admin (cleared false) true)

-- PUT DATA of the capability container 08 09
abbrev pub pieces : List Call
pieces = first ∷ sends [] [] ∷ last ∷ []

unfoldable pub stored : State
stored = state (put_object fixed 0 (hex 2 0x0809)) (zeros work_size) (cleared false)

-- GET DATA with Le 02, and one GET RESPONSE without Le
abbrev pub two : Ask
two = record { resp = replicate 258 0xBB; le = byte 2 }

abbrev pub rest : Ask
rest = record { resp = replicate 300 0xCC; le = absent }

-- ---- the claim

pub record Holds : Type 0 where
  pub failed : Tells check_words (command (before fixed) (hex 3 0x00A404)).told
  pub passed : Tells (words 0x20) (command (state fixed (zeros work_size) (cleared false)) (hex 13 0x0020008008_313233343537FFFF)).told
  pub refusals : Kept (state fixed (zeros 5) (cleared false)) (powers true) WrongWork
  pub invariants : Sane (end_of (before fixed) (powers false ∷ wrong ∷ right ∷ printed ∷ []))
  pub working : (end_of (before fixed) (powers false ∷ opening)).work
      ≡ ledger (before fixed) [] (powers false ∷ opening) ++ zeros (work_size - length (ledger (before fixed) [] (powers false ∷ opening)))
  pub issued : issuing ≡ end_of (before fixed) (powers false ∷ login)
  pub kept : stored ≡ end_of (end_of issuing pieces) (powers false ∷ [])
  pub read_back : (joined (run stored (reading 0 two (rest ∷ []))) ≡ hex 4 0x53020809) × (last_word (run stored (reading 0 two (rest ∷ []))) ≡ 0x9000)
  pub secrecy : AllSame (run (before fixed) (powers false ∷ guesses)) (run (before other) (powers false ∷ guesses))
