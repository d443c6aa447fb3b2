-- ReadBack: an object stored by a completed PUT DATA is what GET DATA and the GET RESPONSEs straight after it hand back, joined, whenever its
-- access condition holds, until it is next replaced; after an empty one GET DATA says there is none, under the same condition (demand 2).
--
--   Le · wanted le         an Le byte, or none; the expected length it says
--   tag_bytes_of i         the tag of slot i as a tag list names it
--   put_field i v          the data of a PUT DATA of slot i with the value v
--   gets i le · more le    GET DATA of slot i, and GET RESPONSE
--   data_of r · word_of r  the data and the status word that a call responds
--   Puts cla st k d        the call k, made in st, is a command PUT DATA of that class with the data d, and is answered 9000
--   Pieces st ks d         the calls ks, made one after the other from st, are one PUT DATA in pieces whose data, joined, are d
--   Untouched i st ks      no call of the row ks completes a PUT DATA of slot i
--   Ask · reading i a bs   a response buffer and an Le; GET DATA of slot i and GET RESPONSEs straight after it
--   Ends n bs              the asks of the row end where nothing is left of n bytes, and not before
--   Answers st i v         what is said in the state st of slot i, which holds v
--   Replaced s t i v       what a completed PUT DATA made of the store s
--   Holds                  the claim
--
-- Assumes nothing.
use Rattle.std.specs.Prelude.{◌≡◌, Option, None, Some, Ok, Err, Bool, true, false, ◌&&◌, List, [], ◌∷◌, ◌++◌, map, ℕ, ◌+◌, ◌-◌, ◌/◌, ◌%◌, ◌≤◌, ◌<◌, eqb, length, take, get_or}
use Rattle.rules.specs.declared.Chain.{Chain}
use Rattle.rules.specs.declared.Header.{Header}
use Rattle.rules.specs.declared.Refusal.{Refusal}
use Rattle.rules.specs.declared.Answer.{Answer}
use Rattle.rules.specs.declared.Answer.TheVariants.{PoweredOn, Response, JobOpened, Refused}
use Rattle.rules.specs.declared.Session.{Session}
use Rattle.rules.specs.Bytes.{iff, be16}
use Rattle.rules.specs.Ber.{tlv}
use Rattle.rules.specs.Store.{slots, discovery, response_size, capacity, offset, tag_of, object_of}
use Rattle.rules.specs.Session.{State, state, readable, job_open}
use Rattle.rules.specs.Command.{le_of, field_of, check, nothing, in_slot}
use Rattle.rules.specs.Objects.{object_tag}
use Rattle.rules.specs.Calls.{Call, powers, sends, Result, permit, call}
use Rattle.rules.specs.Runs.{leaves, run, end_of}
use Rattle.rules.specs.Claims.Invariants.{Plain, Each}

-- ---- commands

pub data Le : Type 0 where
  absent : Le
  byte : ℕ → Le

abbrev pub le_bytes : Le → List ℕ
le_bytes absent = []
le_bytes (byte b) = b ∷ []

abbrev pub wanted : Le → ℕ
wanted absent = 256
wanted (byte b) = le_of b

abbrev pub LeOk : Le → Type 0
LeOk absent = Unit {0}
LeOk (byte b) = b < 256

-- three bytes, or 7E alone for Discovery
unfoldable pub tag_bytes_of : ℕ → List ℕ
tag_bytes_of i = iff (eqb i discovery) (0x7E ∷ []) (tag_of i / 65536 ∷ tag_of i / 256 % 256 ∷ tag_of i % 256 ∷ [])

unfoldable pub tag_list : ℕ → List ℕ
tag_list i = 0x5C ∷ length (tag_bytes_of i) ∷ tag_bytes_of i

-- 5C 03 tag, then 53, length, value; or 7E, length, value
unfoldable pub put_field : ℕ → List ℕ → List ℕ
put_field i v = iff (eqb i discovery) (tlv 0x7E v) (tag_list i ++ tlv 0x53 v)

unfoldable pub gets : ℕ → Le → List ℕ
gets i le = 0x00 ∷ 0xCB ∷ 0x3F ∷ 0xFF ∷ length (tag_list i) ∷ (tag_list i ++ le_bytes le)

unfoldable pub more : Le → List ℕ
more le = 0x00 ∷ 0xC0 ∷ 0x00 ∷ 0x00 ∷ le_bytes le

-- ---- what a call responds

abbrev pub data_in : Answer → List ℕ → List ℕ
data_in PoweredOn resp = []
data_in (Response len) resp = take (len - 2) resp
data_in (JobOpened key alg len) resp = []
data_in (Refused r) resp = []

unfoldable pub data_of : Result → List ℕ
data_of r = data_in r.outcome.reply.answer r.outcome.resp

-- 0 where there is no response
abbrev pub word_in : Answer → List ℕ → ℕ
word_in PoweredOn resp = 0
word_in (Response len) resp = be16 resp (len - 2)
word_in (JobOpened key alg len) resp = 0
word_in (Refused r) resp = 0

unfoldable pub word_of : Result → ℕ
word_of r = word_in r.outcome.reply.answer r.outcome.resp

unfoldable pub joined : List Result → List ℕ
joined [] = []
joined (r ∷ rs) = data_of r ++ joined rs

unfoldable pub last_word : List Result → ℕ
last_word [] = 0
last_word (r ∷ []) = word_of r
last_word (r ∷ q ∷ rs) = last_word (q ∷ rs)

-- ---- a completed PUT DATA

-- a chain of PUT DATA is open
abbrev pub put_open : Option Chain → Bool
put_open None = false
put_open (Some c) = eqb c.ins 0xDB && eqb c.p1 0x3F && eqb c.p2 0xFF

pub record Puts (cla : ℕ) (st : State) (k : Call) (d : List ℕ) : Type 0 where
  pub resp : List ℕ
  pub bytes : List ℕ
  pub head : Header
  pub sent : k ≡ sends resp bytes
  pub taken : permit st k ≡ Ok tt
  pub passed : check st.session.contactless bytes ≡ Ok head
  pub class : head.cla ≡ cla
  pub ins : head.ins ≡ 0xDB
  pub p1 : head.p1 ≡ 0x3F
  pub p2 : head.p2 ≡ 0xFF
  pub field : field_of bytes head ≡ d
  pub well : word_of (call st k) ≡ 0x9000

-- in one piece, or in any number of them, of any lengths; refused calls may stand between
pub data Pieces : State → List Call → List ℕ → Type 0 where
  last : (st : State) (k : Call) (d : List ℕ) → Puts 0x00 st k d → Pieces st (k ∷ []) d
  next : (st : State) (k : Call) (ks : List Call) (a d : List ℕ) → Puts 0x10 st k a → Pieces (leaves (call st k)) ks d → Pieces st (k ∷ ks) (a ++ d)
  refused : (st : State) (k : Call) (ks : List Call) (d : List ℕ) (r : Refusal) → permit st k ≡ Err r → Pieces (leaves (call st k)) ks d → Pieces st (k ∷ ks) d

abbrev pub Untouched : ℕ → State → List Call → Type 0
Untouched i st [] = Unit {0}
Untouched i st (k ∷ ks) = ((v : List ℕ) → (call st k).wrote ≡ in_slot i v → ⊥) × Untouched i (leaves (call st k)) ks

-- ---- reading

pub record Ask : Type 0 where
  pub resp : List ℕ
  pub le : Le

pub record AskOk (a : Ask) : Type 0 where
  pub room : response_size ≤ length a.resp
  pub le : LeOk a.le

abbrev pub AsksOk : List Ask → Type 0
AsksOk [] = Unit {0}
AsksOk (a ∷ bs) = AskOk a × AsksOk bs

unfoldable pub reading : ℕ → Ask → List Ask → List Call
reading i a bs = sends a.resp (gets i a.le) ∷ map (λ (x : Ask). sends x.resp (more x.le)) bs

abbrev pub Ends : ℕ → Ask → List Ask → Type 0
Ends n a [] = n ≤ wanted a.le
Ends n a (b ∷ bs) = (wanted a.le < n) × Ends (n - wanted a.le) b bs

-- full: tag, length and exactly that value, with any Le's, and 9000 at the end
-- none: an empty object, where it may be read; shut: any object, where it may not
pub record Answers (st : State) (i : ℕ) (v : List ℕ) : Type 0 where
  pub full : 0 < length v → readable st.session i ≡ true → (a : Ask) (bs : List Ask) → AskOk a → AsksOk bs → Ends (length (tlv (object_tag i) v)) a bs
      → (joined (run st (reading i a bs)) ≡ tlv (object_tag i) v) × (last_word (run st (reading i a bs)) ≡ 0x9000)
  pub none : length v ≡ 0 → readable st.session i ≡ true → (a : Ask) → AskOk a
      → (joined (run st (reading i a [])) ≡ []) × (last_word (run st (reading i a [])) ≡ 0x6A82)
  pub shut : readable st.session i ≡ false → (a : Ask) → AskOk a
      → (joined (run st (reading i a [])) ≡ []) × (last_word (run st (reading i a [])) ≡ 0x6982)

-- the store t is s with v in slot i: it holds v, zeros stand behind v in the slot, and the other slots are as they were
pub record Replaced (s t : List ℕ) (i : ℕ) (v : List ℕ) : Type 0 where
  pub slot : i < slots
  pub object : object_of t i ≡ v
  pub tail : (m : ℕ) → length v ≤ m → m < capacity i → get_or t (offset i + (2 + m)) 0 ≡ 0
  pub others : (j : ℕ) → j < slots → (i ≡ j → ⊥) → object_of t j ≡ object_of s j

-- ---- the claim

-- back: a run from an accepted power-on: calls `before`; a PUT DATA of slot i with the value v, in pieces, while no other is open; calls
-- `between`, none of which completes another of that slot. Unless a job is open then, GET DATA answers so
-- others: a completed PUT DATA leaves every other object as it was, and zeros behind its own in the slot
-- unfinished: a PUT DATA that does not complete changes no byte of the store
pub record Holds : Type 0 where
  pub back : (s w : List ℕ) (ss : Session) (air : Bool) → permit (state s w ss) (powers air) ≡ Ok tt
      → (before pieces between : List Call) → Each Plain before → Each Plain pieces → Each Plain between
      → (i : ℕ) (v : List ℕ) → i < slots
      → (st : State) → st ≡ end_of (state s w ss) (powers air ∷ before) → put_open st.session.chain ≡ false → Pieces st pieces (put_field i v)
      → Untouched i (end_of st pieces) between → (now : State) → now ≡ end_of (end_of st pieces) between → job_open now.session ≡ false
      → Answers now i v
  pub others : (s w : List ℕ) (ss : Session) (air : Bool) → permit (state s w ss) (powers air) ≡ Ok tt
      → (ks : List Call) → Each Plain ks → (st : State) → st ≡ end_of (state s w ss) (powers air ∷ ks)
      → (k : Call) → Plain k → (i : ℕ) (v : List ℕ) → (call st k).wrote ≡ in_slot i v
      → Replaced st.store (call st k).outcome.store i v
  pub unfinished : (st : State) (resp c : List ℕ) (h : Header) → check st.session.contactless c ≡ Ok h → h.ins ≡ 0xDB
      → (call st (sends resp c)).wrote ≡ nothing → (call st (sends resp c)).outcome.store ≡ st.store
