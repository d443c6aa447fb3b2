-- Laws: what the pieces of a chaining command come to.
--
--   piece-bad piece-more piece-last    one piece of a chaining command
--   piece_one piece_end    the last piece, with no chain open and with one
--   gathered-part          a last piece put behind the others: all of the chain, in a row
--   zero_over              and then zeroed with them
--   closed-state           the state after the last piece of an open chain
--   shut-state             and after a command in one piece
--   gathered_open gathered-shut    the bytes of the whole command
--
-- Assumes nothing.
use Rattle.std.specs.Prelude.{Option, None, Some}
use mathlib.Core.Path.{◌≡◌, ap, ap₂, sym, ◌∙◌}
use mathlib.Core.Bool.{not}
use mathlib.Core.List.{List, [], ◌++◌, append_assoc}
use Prim.Native.Nat.{ℕ, ◌+◌, ◌≤◌}
use native.Mathlib.Omega.{arith}
use lib.ListN.{length, take, drop, length-append, length-take}
use lib.Seq.{take_at, drop_at}
use borrow.Author.Tests.{eq-eqb, ne_eqb}
use Rattle.rules.specs.declared.Chain.{Chain}
use Rattle.rules.specs.declared.Session.{Session}
use Rattle.rules.specs.declared.Header.{Header}
use Rattle.rules.specs.Bytes.{part, splice, zeros, zeroed}
use Rattle.rules.specs.Session.{State, state, holding, chain_length}
use Rattle.rules.specs.Command.{Made, says}
use Rattle.rules.specs.Held.{dropped, gathered, held_piece, closed_work, closed, piece}
use Rattle.rules.proofs.Tests.{on, off}
use Rattle.rules.proofs.Lists.{length-zeros}

module _ (w d : List ℕ) (n : ℕ) (h : n + length d ≤ length w) where
  pub gathered-part : part (splice w n d) 0 (n + length d) ≡ take n w ++ d
  unfolding part splice
  gathered-part =
      ap (take (n + length d)) (sym (append_assoc (take n w) d (drop (n + length d) w)))
      ∙ take_at (take n w ++ d) (drop (n + length d) w) (n + length d) (simp (length-append, length-take) (omega arith))

  pub zero_over : splice (splice w n d) 0 (zeros (n + length d)) ≡ splice w 0 (zeros (n + length d))
  unfolding splice
  zero_over =
      let z : List ℕ = zeros (n + length d) in
      let l : length z ≡ n + length d = length-zeros (n + length d) in
      let k : 0 + length z ≡ n + length d = omega arith in
      let e : drop (n + length d) (take n w ++ (d ++ drop (n + length d) w)) ≡ drop (n + length d) w =
      ap (drop (n + length d)) (sym (append_assoc (take n w) d (drop (n + length d) w)))
      ∙ drop_at (take n w ++ d) (drop (n + length d) w) (n + length d) (simp (length-append, length-take) (omega arith)) in
      ap (λ (j : ℕ). [] ++ (z ++ drop j (take n w ++ (d ++ drop (n + length d) w)))) k
      ∙ ap (λ (l : List ℕ). [] ++ (z ++ l)) e
      ∙ sym (ap (λ (j : ℕ). [] ++ (z ++ drop j w)) k)

pub closed-state : (m w d : List ℕ) (s : Session) (c : Chain) → s.chain ≡ Some c
    → closed (state m w s) d ≡ state m (splice w 0 (zeros (c.len + length d))) (holding s None None)
unfolding closed closed_work zeroed
closed-state m w d s c e = ap (λ (o : Option Chain). state m (closed_work w o (length d)) (holding s None None)) e

pub shut-state : (m w d : List ℕ) (s : Session) → s.chain ≡ None → closed (state m w s) d ≡ state m w (holding s None None)
unfolding closed closed_work
shut-state m w d s e = ap (λ (c : Option Chain). state m (closed_work w c (length d)) (holding s None None)) e

pub gathered_open : (m w d : List ℕ) (s : Session) (c : Chain) → s.chain ≡ Some c → gathered (state m w s) d ≡ take c.len w ++ d
unfolding gathered
gathered_open m w d s c e = ap (λ (c : Option Chain). take (chain_length c) w ++ d) e

pub gathered-shut : (m w d : List ℕ) (s : Session) → s.chain ≡ None → gathered (state m w s) d ≡ d
unfolding gathered
gathered-shut m w d s e = ap (λ (c : Option Chain). take (chain_length c) w ++ d) e

-- ---- a piece

module _ (st : State) (h : Header) (d : List ℕ) (sw : ℕ) (whole : State → List ℕ → Made) where
  pub piece-bad : (sw ≡ 0x9000 → ⊥) → piece st h d sw whole ≡ says (dropped st) sw
  unfolding piece
  piece-bad e = on _ _ _ (ap not (ne_eqb sw 0x9000 e))

  pub piece-more : sw ≡ 0x9000 → h.cla ≡ 0x10 → piece st h d sw whole ≡ says (held_piece st h d) 0x9000
  unfolding piece
  piece-more e c = off _ _ _ (ap not (eq-eqb sw 0x9000 e)) ∙ on _ _ _ (eq-eqb h.cla 0x10 c)

  pub piece-last : sw ≡ 0x9000 → (h.cla ≡ 0x10 → ⊥) → piece st h d sw whole ≡ whole (closed st d) (gathered st d)
  unfolding piece
  piece-last e c = off _ _ _ (ap not (eq-eqb sw 0x9000 e)) ∙ off _ _ _ (ne_eqb h.cla 0x10 c)

-- the last piece: a command in one piece, or the end of a chain
module _ (m w d : List ℕ) (s : Session) (h : Header) (sw : ℕ) (whole : State → List ℕ → Made) (e : sw ≡ 0x9000) (l : h.cla ≡ 0x10 → ⊥) where
  pub piece_one : s.chain ≡ None → piece (state m w s) h d sw whole ≡ whole (state m w (holding s None None)) d
  piece_one q = piece-last (state m w s) h d sw whole e l ∙ ap₂ whole (shut-state m w d s q) (gathered-shut m w d s q)

  pub piece_end : (c : Chain) → s.chain ≡ Some c
      → piece (state m w s) h d sw whole ≡ whole (state m (splice w 0 (zeros (c.len + length d))) (holding s None None)) (take c.len w ++ d)
  piece_end c q = piece-last (state m w s) h d sw whole e l ∙ ap₂ whole (closed-state m w d s c q) (gathered_open m w d s c q)
