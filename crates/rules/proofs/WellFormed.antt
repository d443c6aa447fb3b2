-- WellFormed: the tests of a well-formed store, one by one.
--
--   Wf s                   each test of a well-formed store
--   wf_tests tests_wf      a store is well formed exactly where each passes
--   wf_size wf_sound       it has its size, and its slots are sound
--   wf_slot                the bytes of an object lie in the store
--
-- Assumes nothing.
use mathlib.Core.Path.{◌≡◌}
use mathlib.Core.Bool.{true}
use mathlib.Core.List.{List}
use Prim.Native.Nat.{ℕ, ◌+◌, ◌≤◌, ◌<◌}
use native.Mathlib.Omega.{arith}
use lib.Dec.{eqb}
use lib.ListN.{length, get_or}
use borrow.Author.Tests.{eqb-true, leb-true}
use Rattle.rules.specs.Bytes.{all, all_below, same_bytes, part}
use Rattle.rules.specs.Reference.{pin_form, reference_ok, reference_at}
use Rattle.rules.specs.Store.{store_size, slots, offset, slot_length, pin_at, puk_at, algorithm_ok, mark, slot_ok, store_tests, well_formed}
use Rattle.rules.proofs.Tests.{each-true, at_each}
use Rattle.rules.proofs.Slots.{Sound, slot_fits_lem}

pub record Wf (s : List ℕ) : Type 0 where
  pub size : eqb (length s) store_size ≡ true
  pub marked : same_bytes (part s 0 8) mark ≡ true
  pub pin : reference_ok (reference_at s pin_at) ≡ true
  pub puk : reference_ok (reference_at s puk_at) ≡ true
  pub form : pin_form (part s 10 8) ≡ true
  pub keys : all algorithm_ok (part s 28 4) ≡ true
  pub objects : all_below (slot_ok s) slots ≡ true

pub wf_tests : (s : List ℕ) → well_formed s ≡ true → Wf s
unfolding well_formed store_tests
wf_tests s e =
    let h : (k : ℕ) → get_or (store_tests s) k true ≡ true = each-true (store_tests s) e in
    record { size = h 0; marked = h 1; pin = h 2; puk = h 3; form = h 4; keys = h 5; objects = h 6 }

pub tests_wf : (s : List ℕ) → Wf s → well_formed s ≡ true
unfolding well_formed store_tests
tests_wf s f = rw (f.size, f.marked, f.pin, f.puk, f.form, f.keys, f.objects)

pub wf_size : (s : List ℕ) → well_formed s ≡ true → length s ≡ store_size
wf_size s e = eqb-true _ _ (wf_tests s e).size

pub wf_sound : (s : List ℕ) → well_formed s ≡ true → Sound s
unfolding slot_ok
wf_sound s e = record {
  size = wf_size s e;
  lengths = λ i h. leb-true _ _ (at_each (slot_ok s) slots (wf_tests s e).objects i h);
}

pub wf_slot : (s : List ℕ) → well_formed s ≡ true → (i : ℕ) → i < slots → offset i + 2 + slot_length s i ≤ length s
wf_slot s e i h = omega (arith, wf_size s e, (wf_sound s e).lengths i h, slot_fits_lem i h)
