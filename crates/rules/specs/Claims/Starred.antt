-- Starred: the starred cases of 01 ("Checked examples") as one table over the definitions: true calls, from power-on, at the true layout.
-- With them stand the example of 01's program, rows that each of the five wrong cards ("Promises that leave no choice") and each of the three
-- "Errors that look harmless" would fail, and a row for each further group of rules.
--
--   hex n x              the number x as n bytes
--   Card                 a card, and store_of its store
--   fixed                the store of the fixed card of 01's program
--   Test                 a test of an outcome, and meets what it asks
--   Line, k ⇒ t          a call, and the test that its outcome must pass
--   Row                  a row of the table, and passes what it claims
--   plays c ls           the lines ls on the card c, powered on by contact
--   sw · bytes · sized · job · refused    tests of the answer
--   store_is work_is     tests of the store and of the work area after a call
--   table                the table: each row must pass
--   Holds                the claim
--
-- Assumes nothing.
use Rattle.std.specs.Prelude.{◌≡◌, None, Some, Bool, true, false, not, ◌&&◌, List, [], ◌∷◌, ◌++◌, map, ℕ, zero, suc, ◌+◌, ◌-◌, ◌/◌, ◌%◌, eqb, length, take, drop, replicate}
use Rattle.rules.specs.declared.Session.{Session}
use Rattle.rules.specs.declared.Answer.{Answer}
use Rattle.rules.specs.declared.Answer.TheVariants.{PoweredOn, Response, JobOpened, Refused}
use Rattle.rules.specs.Bytes.{all_true, all_below, same_bytes, zeros, word}
use Rattle.rules.specs.Ber.{ber_length}
use Rattle.rules.specs.Reference.{pin_form}
use Rattle.rules.specs.Store.{store_size, work_size, offset, capacity, put_object}
use Rattle.rules.specs.Session.{State, state, cleared, holding, with_admin}
use Rattle.rules.specs.Calls.{Call, powers, sends, finishes, refusal_number, Outcome, call}
use Rattle.rules.specs.Runs.{leaves}

infix 80 ◌⇒◌
-- ---- bytes by their hex digits

abbrev pub hex_on : List ℕ → ℕ → ℕ → List ℕ
hex_on l zero x = l
hex_on l (suc n) x = hex_on (x % 256 ∷ l) n (x / 256)

abbrev pub hex : ℕ → ℕ → List ℕ
hex n x = hex_on [] n x

-- ---- cards

-- by the first 32 bytes of its store, the rest zero; with an object in a slot; with a store of one byte too many
pub data Card : Type 0 where
  issued : ℕ → Card
  filled : Card → ℕ → List ℕ → Card
  overlong : Card → Card

abbrev pub store_of : Card → List ℕ
store_of (issued x) = hex 32 x ++ zeros 33368
store_of (filled c i v) = put_object (store_of c) i v
store_of (overlong c) = 0 ∷ store_of c

-- PIN 123456, PUK 12345678, limits 3, all tries left, no keys or objects
abbrev pub fixed_card : Card
fixed_card = issued 0x4F50430001000000_0303313233343536FFFF_03033132333435363738_00000000

unfoldable pub fixed : List ℕ
fixed = store_of fixed_card

-- the same with key algorithms 07, 11, 11, 07
abbrev pub keyed_card : Card
keyed_card = issued 0x4F50430001000000_0303313233343536FFFF_03033132333435363738_07111107

-- with one try fewer
abbrev pub tried_card : Card
tried_card = issued 0x4F50430001000000_0302313233343536FFFF_03033132333435363738_00000000

-- with limit 15, as far as X goes
abbrev pub patient_card : Card
patient_card = issued 0x4F50430001000000_0F0F313233343536FFFF_03033132333435363738_00000000

-- ---- tests: of the answer and the response buffer; of the store and of the work area after the call; two at once

pub data Test : Type 0 where
  gives : (Answer → List ℕ → Bool) → Test
  store_is work_is : List ℕ → Test
  both : Test → Test → Test

unfoldable pub meets : Test → Outcome → Bool
meets (gives t) o = t o.reply.answer o.resp
meets (store_is s) o = same_bytes s o.store
meets (work_is w) o = same_bytes w o.work
meets (both t u) o = meets t o && meets u o

-- ---- lines

pub data Line : Type 0 where
  ◌⇒◌ : Call → Test → Line

unfoldable pub follows : State → List Line → Bool
follows st [] = true
follows st ((k ⇒ t) ∷ ls) = let r = call st k in let b = follows (leaves r) ls in meets t r.outcome && b

-- ---- rows: a test; lines on a card that is powered on by contact, or without; lines from any work area and session

pub data Row : Type 0 where
  fact : Bool → Row
  plays plays_air : Card → List Line → Row
  from : Card → List ℕ → Session → List Line → Row

-- a power-on, whatever the work area and the session were before
unfoldable pub powered : Card → Bool → State
powered c air = leaves (call (state (store_of c) (replicate work_size 0xAA) (cleared (not air))) (powers air))

unfoldable pub passes : Row → Bool
passes (fact b) = b
passes (plays c ls) = follows (powered c false) ls
passes (plays_air c ls) = follows (powered c true) ls
passes (from c w ss ls) = follows (state (store_of c) w ss) ls

-- ---- tests of the answer

abbrev pub responds_with : (List ℕ → Bool) → Answer → List ℕ → Bool
responds_with t PoweredOn b = false
responds_with t (Response n) b = t (take n b)
responds_with t (JobOpened key alg n) b = false
responds_with t (Refused r) b = false

abbrev pub opens_with : ℕ → ℕ → List ℕ → Answer → List ℕ → Bool
opens_with k a d PoweredOn b = false
opens_with k a d (Response n) b = false
opens_with k a d (JobOpened key alg n) b = eqb k key && eqb a alg && same_bytes d (take n b)
opens_with k a d (Refused r) b = false

abbrev pub refuses_with : ℕ → Answer → List ℕ → Bool
refuses_with n PoweredOn b = false
refuses_with n (Response m) b = false
refuses_with n (JobOpened key alg m) b = false
refuses_with n (Refused r) b = eqb n (refusal_number r)

-- just these bytes; that many data bytes and this status word; this status word alone
unfoldable pub bytes : List ℕ → Test
bytes b = gives (responds_with (same_bytes b))

unfoldable pub sized : ℕ → ℕ → Test
sized n x = gives (responds_with (λ l. eqb (length l) (n + 2) && same_bytes (drop n l) (word x)))

unfoldable pub sw : ℕ → Test
sw x = bytes (word x)

-- a job with this key, this algorithm and these data
unfoldable pub job : ℕ → ℕ → List ℕ → Test
job k a d = gives (opens_with k a d)

unfoldable pub refused : ℕ → Test
refused n = gives (refuses_with n)

-- ---- calls: each is lent a response buffer of 258 bytes

abbrev pub tell : ℕ → ℕ → Call
tell n x = sends (replicate 258 0xBB) (hex n x)

abbrev pub done : ℕ → ℕ → Call
done n x = finishes (replicate 258 0xBB) false (hex n x)

abbrev pub failed : Call
failed = finishes (replicate 258 0xBB) true []

-- VERIFY with the right PIN, a wrong one, one of five digits, and without data
abbrev pub right : Call
right = tell 13 0x0020008008_313233343536FFFF

abbrev pub wrong : Call
wrong = tell 13 0x0020008008_313233343537FFFF

abbrev pub five : Call
five = tell 13 0x0020008008_3132333435FFFFFF

abbrev pub empty : Call
empty = tell 4 0x00200080

abbrev pub select : Call
select = tell 14 0x00A4040009A00000030800001000

abbrev pub selected : Test
selected = bytes (hex 26 0x61164F0BA00000030800001000010079074F05A000000308_9000)

-- GET DATA of the capability container, of the printed information and of the fingerprints, and GET RESPONSE
abbrev pub container : Call
container = tell 11 0x00CB3FFF055C035FC10700

abbrev pub printed : Call
printed = tell 11 0x00CB3FFF055C035FC10900

abbrev pub fingerprints : Call
fingerprints = tell 11 0x00CB3FFF055C035FC10300

abbrev pub more : Call
more = tell 5 0x00C0000000

-- the administrator's login: a challenge is asked for, made by the host, and answered
abbrev pub asks : Call
asks = tell 10 0x0087009B04_7C028100_00

abbrev pub makes : Call
makes = done 16 0x0102030405060708_1112131415161718

abbrev pub reply : Call
reply = tell 17 0x0087009B0C_7C0A82081112131415161718

abbrev pub challenge : Test
challenge = bytes (hex 14 0x7C0A81080102030405060708_9000)

unfoldable pub as_admin : List Line → List Line
as_admin ls = asks ⇒ job 0x9B 0x00 [] ∷ makes ⇒ challenge ∷ reply ⇒ sw 0x9000 ∷ ls

-- PUT DATA of the capability container 08 09 in two pieces
abbrev pub first : Call
first = tell 11 0x10DB3FFF06_5C035FC10753

abbrev pub last : Call
last = tell 8 0x00DB3FFF03_020809

-- ---- the starred cases

abbrev pub starred_cases : List Row
starred_cases =
    -- PIN form
    fact (pin_form (hex 8 0x313233343536FFFF))
    ∷ fact (pin_form (hex 8 0x3132333435363738))
    ∷ fact (not (pin_form (hex 8 0x3132333435FFFFFF)))
    ∷ fact (not (pin_form (hex 8 0x313233343536FF37)))
    -- limit 3
    ∷ plays fixed_card (wrong ⇒ sw 0x63C2 ∷ wrong ⇒ sw 0x63C1 ∷ five ⇒ sw 0x6A80 ∷ wrong ⇒ sw 0x63C0 ∷ right ⇒ sw 0x6983 ∷ empty ⇒ sw 0x63C0 ∷ [])
    -- contents 252, 253, 254
    ∷ plays (filled fixed_card 0 (replicate 252 7)) (container ⇒ sized 255 0x9000 ∷ more ⇒ sw 0x6985 ∷ [])
    ∷ plays (filled fixed_card 0 (replicate 253 7)) (container ⇒ sized 256 0x9000 ∷ more ⇒ sw 0x6985 ∷ [])
    ∷ plays (filled fixed_card 0 (replicate 254 7)) (container ⇒ sized 256 0x6101 ∷ more ⇒ bytes (hex 3 0x079000) ∷ more ⇒ sw 0x6985 ∷ [])
    -- PUT DATA piece, SELECT, last piece
    ∷ plays fixed_card (as_admin (first ⇒ sw 0x9000 ∷ select ⇒ selected ∷ last ⇒ both (sw 0x6A80) (store_is fixed) ∷ []))
    -- challenge, VERIFY, reply
    ∷ plays fixed_card (asks ⇒ job 0x9B 0x00 [] ∷ makes ⇒ challenge ∷ right ⇒ sw 0x9000 ∷ reply ⇒ sw 0x6985 ∷ [])
    -- reply sent in two pieces
    ∷ plays fixed_card (asks ⇒ job 0x9B 0x00 [] ∷ makes ⇒ challenge ∷ tell 9 0x1087009B04_7C0A8208 ⇒ sw 0x9000 ∷ tell 13 0x0087009B08_1112131415161718 ⇒ sw 0x6985 ∷ [])
    -- printed information, empty or full, PIN not given
    ∷ plays fixed_card (printed ⇒ sw 0x6982 ∷ [])
    ∷ plays (filled fixed_card 9 (replicate 512 7)) (printed ⇒ sw 0x6982 ∷ [])
    -- lengths 127, 128, 255, 256
    ∷ fact (same_bytes (length (ber_length 127) ∷ length (ber_length 128) ∷ length (ber_length 255) ∷ length (ber_length 256) ∷ []) (1 ∷ 2 ∷ 2 ∷ 3 ∷ []))
    -- the example of 01's program
    ∷ plays fixed_card (select ⇒ selected ∷ empty ⇒ sw 0x63C3 ∷ wrong ⇒ sw 0x63C2 ∷ right ⇒ sw 0x9000 ∷ printed ⇒ sw 0x6A82 ∷ [])
    ∷ []

-- ---- rows that the five wrong cards would fail: always 6700; always 9000; no try counted down; a made-up X; stored at the first piece

abbrev pub wrong_cards : List Row
wrong_cards =
    plays fixed_card (select ⇒ selected ∷ [])
    ∷ plays fixed_card (tell 3 0x00A404 ⇒ sw 0x6700 ∷ empty ⇒ sw 0x63C3 ∷ [])
    ∷ plays fixed_card (wrong ⇒ both (sw 0x63C2) (store_is (store_of tried_card)) ∷ [])
    ∷ plays patient_card (empty ⇒ sw 0x63CF ∷ wrong ⇒ sw 0x63CE ∷ empty ⇒ sw 0x63CE ∷ right ⇒ both (sw 0x9000) (store_is (store_of patient_card)) ∷ [])
    ∷ plays fixed_card (as_admin (first ⇒ both (sw 0x9000) (store_is fixed)
    ∷ last ⇒ both (both (sw 0x9000) (work_is (zeros work_size))) (store_is (put_object fixed 0 (hex 2 0x0809)))
    ∷ container ⇒ bytes (hex 6 0x530208099000) ∷ []))
    ∷ []

-- ---- rows that the three errors would fail: the object looked for before the access condition (the starred printed information has it too); a try
-- counted, or a comparison made, for a PIN without PIN form; the PIN status restored after RESET RETRY COUNTER (or lost by it)

abbrev pub resets : Call
resets = tell 21 0x002C008010_3132333435363738_313233343536FFFF

abbrev pub harmless_errors : List Row
harmless_errors =
    plays fixed_card (fingerprints ⇒ sw 0x6982 ∷ right ⇒ sw 0x9000 ∷ fingerprints ⇒ sw 0x6A82 ∷ [])
    ∷ plays fixed_card (five ⇒ both (sw 0x6A80) (store_is fixed) ∷ empty ⇒ sw 0x63C3 ∷ [])
    ∷ plays fixed_card (resets ⇒ sw 0x9000 ∷ empty ⇒ sw 0x63C3 ∷ right ⇒ sw 0x9000 ∷ resets ⇒ sw 0x9000 ∷ empty ⇒ sw 0x9000 ∷ [])
    ∷ []

-- ---- further rules

-- checks 1 to 5, in their order
abbrev pub checks : List Row
checks =
    plays fixed_card (tell 6 0x00A404000000 ⇒ sw 0x6700
    ∷ tell 7 0x00A40400030000 ⇒ sw 0x6700
    ∷ sends (replicate 258 0xBB) (hex 5 0x00DB3FFFFF ++ replicate 257 0) ⇒ sw 0x6700
    ∷ sends (replicate 258 0xBB) (hex 5 0x00DB3FFFFF ++ replicate 256 0) ⇒ sw 0x6982
    ∷ tell 4 0x0CFF0000 ⇒ sw 0x6882
    ∷ tell 4 0x1C200080 ⇒ sw 0x6882
    ∷ tell 4 0x80FF0000 ⇒ sw 0x6E00
    ∷ tell 4 0x10FF0000 ⇒ sw 0x6D00
    ∷ tell 4 0x10200080 ⇒ sw 0x6884 ∷ [])
    ∷ plays_air fixed_card (tell 4 0x10200080 ⇒ sw 0x6884
    ∷ empty ⇒ sw 0x6A81
    ∷ tell 4 0x00240080 ⇒ sw 0x6A81
    ∷ resets ⇒ sw 0x6A81
    ∷ tell 4 0x10DB3FFF ⇒ sw 0x6A81
    ∷ tell 4 0x00870000 ⇒ sw 0x6A86 ∷ [])
    ∷ []

-- SELECT, GET DATA and GET RESPONSE
abbrev pub reading : List Row
reading =
    plays fixed_card (tell 4 0x00A40000 ⇒ sw 0x6A86
    ∷ tell 10 0x00A4040005A000000308 ⇒ sw 0x6A82
    ∷ tell 16 0x00A404000BA000000308000010000100 ⇒ selected
    ∷ tell 15 0x00A4040009A0000003080000100005 ⇒ bytes (hex 7 0x61164F0BA0_6113)
    ∷ tell 5 0x00C0000003 ⇒ bytes (hex 5 0x000003_6110)
    ∷ more ⇒ both (bytes (hex 18 0x0800001000010079074F05A000000308_9000)) (work_is (zeros work_size))
    ∷ more ⇒ sw 0x6985 ∷ [])
    ∷ plays (filled fixed_card 1 (replicate 700 7)) (tell 11 0x00CB3FFF055C035FC10200 ⇒ sized 256 0x6100
    ∷ more ⇒ sized 256 0x61C0
    ∷ tell 4 0x00C00001 ⇒ both (sw 0x6A86) (work_is (zeros work_size))
    ∷ more ⇒ sw 0x6985 ∷ [])
    ∷ plays fixed_card (tell 4 0x00CB3F00 ⇒ sw 0x6A86
    ∷ tell 9 0x00CB3FFF045C027F61 ⇒ sw 0x6A80
    ∷ tell 11 0x00CB3FFF06_5C035FC10200 ⇒ sw 0x6A80
    ∷ tell 11 0x00CB3FFF06_5C81035FC102 ⇒ sw 0x6A80
    ∷ tell 10 0x00CB3FFF05_5C035FC104 ⇒ sw 0x6A82
    ∷ tell 10 0x00CB3FFF05_5C0300007E ⇒ sw 0x6A82
    ∷ tell 6 0x00C000000100 ⇒ sw 0x6700 ∷ [])
    ∷ plays_air (filled fixed_card 0 (hex 1 0x55)) (container ⇒ sw 0x6982
    ∷ tell 10 0x00CB3FFF05_5C035FC104 ⇒ sw 0x6A82
    ∷ tell 10 0x00CB3FFF05_5C035FC102 ⇒ sw 0x6A82 ∷ [])
    ∷ []

-- VERIFY, CHANGE REFERENCE DATA and RESET RETRY COUNTER: tries counted apart, what each does to the status
abbrev pub references : List Row
references =
    plays fixed_card (tell 4 0x00200180 ⇒ sw 0x6A86
    ∷ tell 4 0x00200000 ⇒ sw 0x6A88
    ∷ right ⇒ sw 0x9000
    ∷ tell 6 0x0020FF800131 ⇒ sw 0x6A80
    ∷ empty ⇒ sw 0x9000
    ∷ tell 4 0x0020FF80 ⇒ sw 0x9000
    ∷ empty ⇒ sw 0x63C3 ∷ [])
    ∷ plays fixed_card (tell 4 0x00240180 ⇒ sw 0x6A86
    ∷ tell 4 0x00240082 ⇒ sw 0x6A81
    ∷ tell 20 0x002400800F_313233343536FFFF313233343536FF ⇒ sw 0x6A80
    ∷ tell 21 0x0024008010_313233343537FFFF_3132333435FFFFFF ⇒ sw 0x6A80
    ∷ tell 21 0x0024008010_313233343537FFFF_393939393939FFFF ⇒ sw 0x63C2
    ∷ tell 21 0x0024008010_313233343536FFFF_393939393939FFFF ⇒ sw 0x9000
    ∷ empty ⇒ sw 0x9000
    ∷ right ⇒ sw 0x63C2
    ∷ tell 13 0x0020008008_393939393939FFFF ⇒ sw 0x9000 ∷ [])
    ∷ plays fixed_card (right ⇒ sw 0x9000
    ∷ tell 21 0x0024008110_00000000000000FF_FFFFFFFFFFFFFFFF ⇒ sw 0x63C2
    ∷ empty ⇒ sw 0x9000
    ∷ tell 21 0x0024008110_3132333435363738_00000000000000FF ⇒ sw 0x9000
    ∷ resets ⇒ sw 0x63C2
    ∷ empty ⇒ sw 0x63C3
    ∷ tell 21 0x002C008010_00000000000000FF_3132333435FFFFFF ⇒ sw 0x6A80
    ∷ tell 21 0x002C008010_00000000000000FF_393939393939FFFF ⇒ sw 0x9000
    ∷ tell 13 0x0020008008_393939393939FFFF ⇒ sw 0x9000 ∷ [])
    ∷ plays fixed_card (tell 4 0x002C0180 ⇒ sw 0x6A86
    ∷ tell 4 0x002C0081 ⇒ sw 0x6A81
    ∷ wrong ⇒ sw 0x63C2 ∷ wrong ⇒ sw 0x63C1 ∷ wrong ⇒ sw 0x63C0
    ∷ tell 4 0x00240080 ⇒ sw 0x6983
    ∷ tell 4 0x00240081 ⇒ sw 0x6A80
    ∷ resets ⇒ both (sw 0x9000) (store_is fixed) ∷ [])
    ∷ []

-- ---- GENERAL AUTHENTICATE and PUT DATA

-- 266 data bytes for an RSA key, in two pieces
abbrev pub rsa_first : Call
rsa_first = sends (replicate 258 0xBB) (hex 5 0x1087079AFF ++ (hex 10 0x7C8201068200_81820100 ++ replicate 245 0x5A))

abbrev pub rsa_last : Call
rsa_last = sends (replicate 258 0xBB) (hex 5 0x0087079A0B ++ replicate 11 0x5A)

abbrev pub keys : List Row
keys =
    plays keyed_card (rsa_first ⇒ sw 0x6982
    ∷ right ⇒ sw 0x9000
    ∷ rsa_first ⇒ sw 0x9000
    ∷ rsa_last ⇒ both (job 0x9A 0x07 (replicate 256 0x5A)) (work_is (zeros work_size))
    ∷ finishes (replicate 258 0xBB) false (replicate 256 0xC3) ⇒ sized 256 0x6108
    ∷ more ⇒ bytes (hex 10 0xC3C3C3C3C3C3C3C3_9000)
    ∷ rsa_first ⇒ sw 0x9000
    ∷ tell 17 0x0087079A0C_5A5A5A5A5A5A5A5A5A5A5A5A ⇒ both (sw 0x6A80) (work_is (zeros work_size))
    ∷ rsa_first ⇒ sw 0x9000
    ∷ tell 16 0x0087079E0B_5A5A5A5A5A5A5A5A5A5A5A ⇒ both (sw 0x6A80) (work_is (zeros work_size)) ∷ [])
    ∷ plays keyed_card (right ⇒ sw 0x9000
    ∷ sends (replicate 258 0xBB) (hex 5 0x0087119C26 ++ (hex 6 0x7C2482008120 ++ replicate 32 0x5A)) ⇒ job 0x9C 0x11 (replicate 32 0x5A)
    ∷ tell 4 0x00C00000 ⇒ refused 5
    ∷ done 0 0 ⇒ refused 7
    ∷ sends (replicate 257 0xBB) (hex 4 0x00C00000) ⇒ refused 3
    ∷ done 1 0x30 ⇒ bytes (hex 7 0x7C03820130_9000)
    ∷ done 1 0x30 ⇒ refused 6
    ∷ sends (replicate 258 0xBB) (hex 5 0x0087119D47 ++ (hex 7 0x7C458200854104 ++ replicate 64 0x5A)) ⇒ job 0x9D 0x11 (0x04 ∷ replicate 64 0x5A)
    ∷ failed ⇒ sw 0x6F00
    ∷ sends (replicate 258 0xBB) (hex 5 0x0087119D47 ++ (hex 7 0x7C458200814104 ++ replicate 64 0x5A)) ⇒ sw 0x6A80
    ∷ tell 4 0x0087079C ⇒ sw 0x6A86 ∷ [])
    ∷ plays_air keyed_card (tell 4 0x0087119C ⇒ sw 0x6982 ∷ asks ⇒ sw 0x6982 ∷ tell 4 0x0087079E ⇒ sw 0x6A80 ∷ [])
    ∷ plays fixed_card (tell 4 0x0087009A ⇒ sw 0x6A86
    ∷ tell 4 0x0087039B ⇒ sw 0x6A86
    ∷ asks ⇒ job 0x9B 0x00 [] ∷ makes ⇒ challenge
    ∷ tell 17 0x0087009B0C_7C0A82081112131415161719 ⇒ sw 0x6982
    ∷ reply ⇒ sw 0x6985
    ∷ tell 4 0x00DB3FFF ⇒ sw 0x6982 ∷ [])
    ∷ []

abbrev pub putting : List Row
putting =
    plays fixed_card (as_admin (tell 4 0x00DB3FFE ⇒ sw 0x6A86
    ∷ tell 12 0x00DB3FFF07_5C017E53017799 ⇒ sw 0x6A80
    ∷ tell 13 0x00DB3FFF08_5C035FC104530155 ⇒ sw 0x6A82
    ∷ tell 15 0x00DB3FFF0A_5C035FC1025302550899 ⇒ sw 0x6A80
    ∷ tell 17 0x00DB3FFF0C_5C035FC1075305AAAAAAAAAA ⇒ sw 0x9000
    ∷ tell 13 0x00DB3FFF08_5C035FC107530155 ⇒ both (sw 0x9000) (store_is (put_object fixed 0 (hex 1 0x55)))
    ∷ container ⇒ bytes (hex 5 0x530155_9000)
    ∷ tell 12 0x00DB3FFF07_5C035FC1075300 ⇒ both (sw 0x9000) (store_is fixed)
    ∷ container ⇒ sw 0x6A82 ∷ []))
    ∷ plays fixed_card (as_admin (sends (replicate 258 0xBB) (hex 7 0x00DB3FFF437E41 ++ replicate 65 0x5A) ⇒ both (sw 0x6A84) (store_is fixed)
    ∷ sends (replicate 258 0xBB) (hex 7 0x00DB3FFF427E40 ++ replicate 64 0x5A) ⇒ sw 0x9000
    ∷ tell 9 0x00CB3FFF03_5C017E_00 ⇒ bytes (hex 2 0x7E40 ++ (replicate 64 0x5A ++ hex 2 0x9000)) ∷ []))
    ∷ []

-- a slot full of other bytes takes one byte: all after it become zero
abbrev pub tails : List Row
tails =
    plays (filled fixed_card 0 (replicate 512 0xEE)) (as_admin (tell 13 0x00DB3FFF08_5C035FC107530155 ⇒ both (sw 0x9000) (store_is (put_object fixed 0 (hex 1 0x55))) ∷ []))
    ∷ []

-- ---- any possible session and any work area: what becomes zero, and what stays

abbrev pub full : List ℕ
full = replicate work_size 0xAA

unfoldable pub zero_first : ℕ → List ℕ
zero_first n = zeros n ++ replicate (work_size - n) 0xAA

-- two bytes of the work area are an open chain of PUT DATA
abbrev pub chained : Bool → Session
chained admin = holding (with_admin (cleared false) admin) (Some (record { ins = 0xDB; p1 = 0x3F; p2 = 0xFF; len = 2 })) None

abbrev pub held_bytes : List Row
held_bytes =
    -- the last piece is held with the others, one that breaks a rule for each piece is not
    from fixed_card full (chained true) (tell 6 0x00DB3FFF0155 ⇒ both (sw 0x6A80) (work_is (zero_first 3)) ∷ [])
    ∷ from fixed_card full (chained false) (tell 6 0x00DB3FFF0155 ⇒ both (sw 0x6982) (work_is (zero_first 2)) ∷ [])
    -- another P2, another command: the chain is dropped, and the piece is not added
    ∷ from fixed_card full (chained true) (tell 6 0x10DB3FFE0155 ⇒ both (sw 0x6A86) (work_is (zero_first 2)) ∷ [])
    ∷ from fixed_card full (chained true) (tell 3 0x00A404 ⇒ both (sw 0x6700) (work_is (zero_first 2)) ∷ [])
    ∷ from fixed_card full (chained true) (tell 4 0x00C00000 ⇒ both (sw 0x6985) (work_is (zero_first 2)) ∷ [])
    -- a piece that is not the last is added
    ∷ from fixed_card full (chained true) (tell 6 0x10DB3FFF0155 ⇒ both (sw 0x9000) (work_is (replicate 2 0xAA ++ (0x55 ∷ replicate (work_size - 3) 0xAA))) ∷ [])
    -- a command in one piece and an answer that fits Le are never held
    ∷ from fixed_card full (with_admin (cleared false) true) (tell 6 0x00DB3FFF0155 ⇒ both (sw 0x6A80) (work_is full) ∷ [])
    ∷ from fixed_card full (with_admin (cleared false) true) (select ⇒ both selected (work_is full) ∷ [])
    ∷ []

-- ---- the layout: the slots stand one behind the other, from 32 to the end of the store

unfoldable pub behind : ℕ → Bool
behind i = eqb (offset (suc i)) (offset i + 2 + capacity i)

abbrev pub layout : List Row
layout = fact (eqb (offset 0) 32) ∷ fact (all_below behind 11) ∷ fact (eqb (offset 11 + 2 + capacity 11) store_size) ∷ []

-- ---- calls the host may not make, in their order, where several apply

-- a session with an open chain of INS 20
abbrev pub impossible : Session
impossible = holding (cleared false) (Some (record { ins = 0x20; p1 = 0; p2 = 0; len = 0 })) None

abbrev pub refusals : List Row
refusals =
    from (overlong fixed_card) (zeros 5) impossible (sends [] [] ⇒ refused 1 ∷ powers true ⇒ refused 1 ∷ done 1 0 ⇒ refused 1 ∷ [])
    ∷ from fixed_card (zeros 5) impossible (sends [] [] ⇒ refused 2 ∷ done 1 0 ⇒ refused 2 ∷ powers true ⇒ refused 4 ∷ [])
    ∷ from fixed_card (zeros 5) (cleared false) (sends [] [] ⇒ refused 3 ∷ sends (zeros 258) [] ⇒ refused 4 ∷ [])
    ∷ plays fixed_card (sends (zeros 258) [] ⇒ sw 0x6700 ∷ done 16 0 ⇒ refused 6 ∷ asks ⇒ job 0x9B 0x00 [] ∷ asks ⇒ refused 5 ∷ done 15 0 ⇒ refused 7 ∷ failed ⇒ sw 0x6F00 ∷ [])
    ∷ []

-- ---- the table and the claim

abbrev pub table : List Row
table =
    starred_cases ++ (wrong_cards ++ (harmless_errors ++ (checks ++ (reading ++ (references ++ (keys ++ (putting ++ (tails ++ (held_bytes ++ (layout ++ refusals))))))))))

abbrev pub Holds : Type 0
Holds = all_true (map passes table) ≡ true
