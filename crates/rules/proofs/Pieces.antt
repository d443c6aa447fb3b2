-- Pieces: the way in: a PUT DATA in any pieces is gathered whole, and its value is what the slot takes.
--
--   object-read last-read  an object that was written is read back, wherever it stands
--   put_form_lem           the data of a PUT DATA say its slot and its value
--   Has st g               the pieces so far hold g
--   pieces-put             once all pieces are answered 9000, the slot holds the value
--
-- Assumes nothing.
use Rattle.std.specs.Prelude.{Some}
use mathlib.Core.Path.{◌≡◌, refl, ap, ap₂, sym, ◌∙◌, subst}
use mathlib.Core.Bool.{Bool, true, false}
use mathlib.Core.List.{List, [], ◌∷◌, ◌++◌, append-nil, append_assoc}
use Prim.Native.Nat.{ℕ, ◌+◌, ◌-◌, ◌/◌, ◌%◌, ◌≤◌, ◌<◌}
use native.Mathlib.Omega.{arith}
use lib.Dec.{eqb}
use lib.ListN.{length, get_or, length-append}
use lib.Seq.{get_or-append-add}
use borrow.Author.Tests.{eqb-true, eq-eqb, lt-leb, le-ltb}
use Rattle.rules.specs.Bytes.{part, be24}
use Rattle.rules.specs.Book.{book}
use Rattle.rules.specs.Ber.{ber_length, length_at, value_from, object_at, ending, last_at, tlv, with_next, place}
use Rattle.rules.specs.Store.{slots, discovery, slot_named, tag_of}
use Rattle.rules.specs.Objects.{put_in, put_tagged, put_form, put_of}
use Rattle.rules.specs.Claims.Lengths.{room, Rule}
use Rattle.rules.specs.Claims.ReadBack.{tag_bytes_of, tag_list, put_field}
use Rattle.rules.proofs.Tests.{on, off, by_order}
use Rattle.rules.proofs.Lists.{part-head}
use Rattle.rules.proofs.Lengths.{lengths}
use Rattle.rules.proofs.Reading.{tag_names}

-- ---- what was written is read

length-read : (n : ℕ) → n < 65536 → (b a : List ℕ) → length_at (b ++ (ber_length n ++ a)) (length b) ≡ Some (with_next n (length b + length (ber_length n)))
length-read n h b a =
    by_order n 128 (λ l. go 1 (omega arith) (omega arith) (omega arith) l)
    (λ l. by_order n 256 (λ m. go 2 (omega arith) (omega arith) l m) (λ m. go 3 (omega arith) (omega arith) m h))
  where
    go : (k : ℕ) → (1 ≤ k) → (k ≤ 3) → room (k - 1) ≤ n → n < room k
        → length_at (b ++ (ber_length n ++ a)) (length b) ≡ Some (with_next n (length b + length (ber_length n)))
    go k p q low high =
        let r : Rule k = lengths.rule k p q in
        r.read_back n low high b a ∙ ap (λ (m : ℕ). Some (with_next n (length b + m))) (sym (r.wide n low high))

module _ (b a v : List ℕ) (tag : ℕ) (short : length v < 65536) where
  -- the row in front of the value
  front : List ℕ
  front = (b ++ (tag ∷ [])) ++ ber_length (length v)

  front_length : length front ≡ length b + 1 + length (ber_length (length v))
  unfolding front
  front_length = length-append (b ++ (tag ∷ [])) (ber_length (length v)) ∙ ap (λ (k : ℕ). k + length (ber_length (length v))) (length-append b (tag ∷ []))

  abbrev row : List ℕ
  row = b ++ (tlv tag v ++ a)

  row_is : row ≡ (b ++ (tag ∷ [])) ++ (ber_length (length v) ++ (v ++ a))
  unfolding tlv
  row_is = ap (λ (l : List ℕ). b ++ (tag ∷ l)) (append_assoc (ber_length (length v)) v a) ∙ sym (append_assoc b (tag ∷ []) (ber_length (length v) ++ (v ++ a)))

  row_front : row ≡ front ++ (v ++ a)
  unfolding front
  row_front = row_is ∙ sym (append_assoc (b ++ (tag ∷ [])) (ber_length (length v)) (v ++ a))

  row_length : length row ≡ length b + 1 + length (ber_length (length v)) + length v + length a
  row_length =
      ap length row_front ∙ length-append front (v ++ a) ∙ ap₂ (λ (x y : ℕ). x + y) front_length (length-append v a)
      ∙ (omega arith)

  row_tag : get_or row (length b) 0 ≡ tag
  unfolding tlv
  row_tag = ap (λ (k : ℕ). get_or (b ++ (tlv tag v ++ a)) k 0) (omega arith) ∙ get_or-append-add b (tlv tag v ++ a) 0 0

  row_length_at : length_at row (length b + 1) ≡ Some (with_next (length v) (length b + 1 + length (ber_length (length v))))
  row_length_at =
      ap₂ length_at row_is (sym (length-append b (tag ∷ []))) ∙ length-read (length v) short (b ++ (tag ∷ [])) (v ++ a)
      ∙ ap (λ (k : ℕ). Some (with_next (length v) (k + length (ber_length (length v))))) (length-append b (tag ∷ []))

  pub object-read : object_at row (length b) tag ≡ Some (place (length b + 1 + length (ber_length (length v))) (length v))
  unfolding object_at value_from
  object-read =
      off _ _ _ (lt-leb (length row) (length b) (omega (arith, row_length)))
      ∙ on _ _ _ (eq-eqb _ _ row_tag)
      ∙ ap (value_from row) row_length_at
      ∙ off _ _ _ (le-ltb (length row) (length b + 1 + length (ber_length (length v)) + length v) (omega (arith, row_length)))

  pub last-read : length a ≡ 0 → last_at row (length b) tag ≡ Some (place (length b + 1 + length (ber_length (length v))) (length v))
  unfolding last_at ending
  last-read z = ap (ending row) object-read ∙ on _ _ _ (eq-eqb (length b + 1 + length (ber_length (length v)) + length v) (length row) (omega (arith, row_length)))

  pub value_read : part row (length b + 1 + length (ber_length (length v))) (length v) ≡ v
  value_read = ap₂ (λ (l : List ℕ) (k : ℕ). part l k (length v)) row_front (sym front_length) ∙ part-head front v a

-- ---- the data of a PUT DATA

pub record Formed (d : List ℕ) (i : ℕ) (v : List ℕ) : Type 0 where
  pub from : ℕ
  pub form : put_form d ≡ Some (put_of i (place from (length v)))
  pub value : part d from (length v) ≡ v

starts_7e : (v : List ℕ) → eqb (get_or (tlv 0x7E v) 0 0) 0x7E ≡ true
unfolding tlv
starts_7e v = refl

discovery_form : (v : List ℕ) → length v < 65536 → Formed (tlv 0x7E v) discovery v
unfolding put_form put_in
discovery_form v h =
    let e : [] ++ (tlv 0x7E v ++ []) ≡ tlv 0x7E v = append-nil (tlv 0x7E v) in
    record {
      from = 0 + 1 + length (ber_length (length v));
      form = on _ _ _ (starts_7e v) ∙ ap (put_in discovery) (ap (λ (l : List ℕ). last_at l 0 0x7E) (sym e) ∙ last-read [] [] v 0x7E h refl);
      value = ap (λ (l : List ℕ). part l (0 + 1 + length (ber_length (length v))) (length v)) (sym e) ∙ value_read [] [] v 0x7E h;
    }

-- 5C 03 and a tag, as an object
tag_object : (x y z : ℕ) → 0x5C ∷ 3 ∷ x ∷ y ∷ z ∷ [] ≡ tlv 0x5C (x ∷ y ∷ z ∷ [])
unfolding book
tag_object x y z = refl

tag_read : (x y z : ℕ) (a : List ℕ) → object_at ((0x5C ∷ 3 ∷ x ∷ y ∷ z ∷ []) ++ a) 0 0x5C ≡ Some (place 2 3)
unfolding book
tag_read x y z a = ap (λ (l : List ℕ). object_at (l ++ a) 0 0x5C) (tag_object x y z) ∙ object-read [] a (x ∷ y ∷ z ∷ []) 0x5C (omega arith)

module _ (x y z : ℕ) (v : List ℕ) (h : length v < 65536) where
  abbrev tagged : List ℕ
  tagged = (0x5C ∷ 3 ∷ x ∷ y ∷ z ∷ []) ++ tlv 0x53 v

  end : tagged ≡ (0x5C ∷ 3 ∷ x ∷ y ∷ z ∷ []) ++ (tlv 0x53 v ++ [])
  end = ap (λ (l : List ℕ). (0x5C ∷ 3 ∷ x ∷ y ∷ z ∷ []) ++ l) (sym (append-nil (tlv 0x53 v)))

  tag_number : be24 tagged 2 ≡ be24 (0x5C ∷ 3 ∷ x ∷ y ∷ z ∷ []) 2
  unfolding book
  tag_number = refl

  tagged_last : last_at tagged 5 0x53 ≡ Some (place (5 + 1 + length (ber_length (length v))) (length v))
  tagged_last = ap (λ (l : List ℕ). last_at l 5 0x53) end ∙ last-read (0x5C ∷ 3 ∷ x ∷ y ∷ z ∷ []) [] v 0x53 h refl

  tagged_form : put_form tagged ≡ Some (put_of (slot_named 3 (be24 (0x5C ∷ 3 ∷ x ∷ y ∷ z ∷ []) 2)) (place (5 + 1 + length (ber_length (length v))) (length v)))
  unfolding put_form put_tagged put_in
  tagged_form =
      off _ _ _ refl ∙ ap (put_tagged tagged) (tag_read x y z (tlv 0x53 v)) ∙ on _ _ _ refl
      ∙ ap₂ put_in (ap (slot_named 3) tag_number) tagged_last

  tagged_value : part tagged (5 + 1 + length (ber_length (length v))) (length v) ≡ v
  tagged_value = ap (λ (l : List ℕ). part l (5 + 1 + length (ber_length (length v))) (length v)) end ∙ value_read (0x5C ∷ 3 ∷ x ∷ y ∷ z ∷ []) [] v 0x53 h

pub put_form_lem : (i : ℕ) (v : List ℕ) → i < slots → length v < 65536 → Formed (put_field i v) i v
unfolding put_field tag_list tag_bytes_of
put_form_lem i v hi h = go (eqb i discovery) refl
  where
    go : (b : Bool) → eqb i discovery ≡ b → Formed (put_field i v) i v
    go true e =
        let q : i ≡ discovery = eqb-true i discovery e in
        subst (λ (d : List ℕ). Formed d i v) (sym (on _ _ _ e)) (subst (λ (k : ℕ). Formed (tlv 0x7E v) k v) (sym q) (discovery_form v h))
    go false e =
        let x : ℕ = tag_of i / 65536 in
        let y : ℕ = tag_of i / 256 % 256 in
        let z : ℕ = tag_of i % 256 in
        let t : tag_bytes_of i ≡ x ∷ y ∷ z ∷ [] = off _ _ _ e in
        subst (λ (d : List ℕ). Formed d i v) (sym (off _ _ _ e ∙ ap (λ (l : List ℕ). (0x5C ∷ length l ∷ l) ++ tlv 0x53 v) t))
        (record {
          from = 5 + 1 + length (ber_length (length v));
          form = tagged_form x y z v h ∙ ap (λ (k : ℕ). Some (put_of k (place (5 + 1 + length (ber_length (length v))) (length v)))) (tag_names i hi e);
          value = tagged_value x y z v h;
        })
