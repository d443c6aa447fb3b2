-- Objects: SELECT, GET DATA, GET RESPONSE and PUT DATA (01, under these names).
--
--   aid template          the application's identifier, and what SELECT answers
--   select st h d         SELECT
--   asked_in d            the slot that the data of GET DATA ask for
--   object_tag i          the tag of the object in slot i as GET DATA answers it
--   get_slot st le i      GET DATA of slot i
--   get_data st h d       GET DATA
--   get_response st h d   GET RESPONSE
--   Put                   what the data of a whole PUT DATA say: a slot, and where the value stands
--   put_form d            what the data of a whole PUT DATA say
--   put_each st h n       what the rules for each piece of PUT DATA say, n bytes in all
--   put_whole st d        PUT DATA at the last piece
--   put_data st h d       PUT DATA
--
-- Assumes nothing.
use Rattle.std.specs.Prelude.{Option, Some, None, not, ◌&&◌, ◌||◌, List, [], ◌∷◌, ◌++◌, ℕ, ◌+◌, ltb, eqb, length, take, get_or}
use Rattle.rules.specs.declared.Rest.{Rest}
use Rattle.rules.specs.declared.Place.{Place}
use Rattle.rules.specs.declared.Header.{Header}
use Rattle.rules.specs.Bytes.{iff, same_bytes, part, be24}
use Rattle.rules.specs.Ber.{object_at, last_at, tlv}
use Rattle.rules.specs.Store.{slots, discovery, slot_named, object_of, takes, put_object}
use Rattle.rules.specs.Session.{State, storing, readable, chain_length, put_total}
use Rattle.rules.specs.Command.{Made, responds, says, in_slot}
use Rattle.rules.specs.Held.{dropped, send, fetch, based, piece}

-- ---- SELECT

abbrev pub aid : List ℕ
aid = 0xA0 ∷ 0x00 ∷ 0x00 ∷ 0x03 ∷ 0x08 ∷ 0x00 ∷ 0x00 ∷ 0x10 ∷ 0x00 ∷ 0x01 ∷ 0x00 ∷ []

-- 61{4F full AID, 79{4F A000000308}}
unfoldable pub template : List ℕ
template = tlv 0x61 (tlv 0x4F aid ++ tlv 0x79 (tlv 0x4F (take 5 aid)))

unfoldable pub select : State → Header → List ℕ → Made
select st h d =
    iff (not (eqb h.p1 0x04 && eqb h.p2 0x00)) (says st 0x6A86)
    (iff (not (same_bytes d aid || same_bytes d (take 9 aid))) (says st 0x6A82)
    (send st h.le template))

-- ---- GET DATA

-- 5C 03 and three bytes, or 5C 01 7E, and no more
unfoldable pub tag_in : List ℕ → Option Place → Option ℕ
tag_in d None = None
tag_in d (Some v) =
    iff (eqb v.len 3) (Some (slot_named 3 (be24 d v.from)))
    (iff (eqb v.len 1 && eqb (get_or d v.from 0) 0x7E) (Some discovery)
    None)

unfoldable pub asked_in : List ℕ → Option ℕ
asked_in d = tag_in d (last_at d 0 0x5C)

-- tag 53 (7E for Discovery)
unfoldable pub object_tag : ℕ → ℕ
object_tag i = iff (eqb i discovery) 0x7E 0x53

unfoldable pub give_object : State → ℕ → ℕ → List ℕ → Made
give_object st le i v = iff (eqb (length v) 0) (says st 0x6A82) (send st le (tlv (object_tag i) v))

-- tag not in the table: 6A82; reading not allowed now: 6982; empty slot: 6A82
unfoldable pub get_slot : State → ℕ → ℕ → Made
get_slot st le i =
    iff (not (ltb i slots)) (says st 0x6A82)
    (iff (not (readable st.session i)) (says st 0x6982)
    (give_object st le i (object_of st.store i)))

unfoldable pub get_asked : State → ℕ → Option ℕ → Made
get_asked st le None = says st 0x6A80
get_asked st le (Some i) = get_slot st le i

unfoldable pub get_data : State → Header → List ℕ → Made
get_data st h d =
    iff (not (eqb h.p1 0x3F && eqb h.p2 0xFF)) (says st 0x6A86)
    (get_asked st h.le (asked_in d))

-- ---- GET RESPONSE

-- nothing held: 6985; else up to Le more bytes
unfoldable pub get_rest : State → ℕ → Option Rest → Made
get_rest st le None = says (dropped st) 0x6985
get_rest st le (Some r) = fetch st le r.whole r.fetched

-- any GET RESPONSE that hands nothing out drops the rest
unfoldable pub get_response : State → Header → List ℕ → Made
get_response st h d =
    iff (not (eqb h.p1 0x00 && eqb h.p2 0x00)) (says (dropped st) 0x6A86)
    (iff (not (eqb (length d) 0)) (says (dropped st) 0x6700)
    (get_rest st h.le st.session.rest))

-- ---- PUT DATA

-- what the data of a whole PUT DATA say: a slot (`slots` where its tag is not in the table), and where the value stands
pub record Put : Type 0 where
  pub slot : ℕ
  pub value : Place

abbrev pub put_of : ℕ → Place → Put
put_of i v = record { slot = i; value = v }

-- the value of the last object is what the slot takes
unfoldable pub put_in : ℕ → Option Place → Option Put
put_in i None = None
put_in i (Some v) = Some (put_of i v)

-- 5C 03 tag, then 53, length, value, and no more
unfoldable pub put_tagged : List ℕ → Option Place → Option Put
put_tagged d None = None
put_tagged d (Some v) =
    iff (eqb v.len 3) (put_in (slot_named 3 (be24 d v.from)) (last_at d (v.from + v.len) 0x53)) None

-- or 7E, length, value
unfoldable pub put_form : List ℕ → Option Put
put_form d =
    iff (eqb (get_or d 0 0) 0x7E) (put_in discovery (last_at d 0 0x7E))
    (put_tagged d (object_at d 0 0x5C))

unfoldable pub stored : State → ℕ → List ℕ → Made
stored st i v = record {
  told = responds [] 0x9000;
  after = storing st (put_object st.store i v);
  steps = [];
  wrote = in_slot i v;
}

-- other form 6A80; tag not in the table 6A82; over capacity 6A84; else the slot takes the value
unfoldable pub put_slot : State → List ℕ → Option Put → Made
put_slot st d None = says st 0x6A80
put_slot st d (Some p) =
    iff (not (ltb p.slot slots)) (says st 0x6A82)
    (iff (not (takes st.store p.slot p.value.len)) (says st 0x6A84)
    (stored st p.slot (part d p.value.from p.value.len)))

unfoldable pub put_whole : State → List ℕ → Made
put_whole st d = put_slot st d (put_form d)

unfoldable pub put_each : State → Header → ℕ → ℕ
put_each st h n =
    iff (not (eqb h.p1 0x3F && eqb h.p2 0xFF)) 0x6A86
    (iff (not st.session.admin) 0x6982
    (iff (ltb put_total n) 0x6A84
    0x9000))

unfoldable pub put_piece : State → Header → List ℕ → Made
put_piece st h d = piece st h d (put_each st h (chain_length st.session.chain + length d)) put_whole

unfoldable pub put_data : State → Header → List ℕ → Made
put_data st h d = put_piece (based st h) h d
