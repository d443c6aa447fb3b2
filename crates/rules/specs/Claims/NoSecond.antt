-- NoSecond: no second outcome fits a promise of our form (01, "Promises that leave no choice").
--
-- Each promise is one equation, view o ≡ rule i: what is seen of the outcome o is what the book's rule says of the input i. What is seen of an
-- outcome gives the outcome back, since `view` only puts its parts (answer, session, each byte lent) side by side. Then two outcomes that meet
-- the promise for one input are the same.
--
--   Promise view rule i o     the outcome o meets the promise for the input i
--   Shows view                what is seen gives the outcome back
--   Holds                     the claim
--
-- Assumes nothing.
use Rattle.std.specs.Prelude.{◌≡◌}

abbrev pub Promise : {I O S : Type 0} → (O → S) → (I → S) → I → O → Type 0
Promise view rule i o = view o ≡ rule i

pub record Shows {O S : Type 0} (view : O → S) : Type 0 where
  pub back : S → O
  pub same : (o : O) → back (view o) ≡ o

abbrev pub Holds : Type 1
Holds =
    (I O S : Type 0) (view : O → S) → Shows view → (rule : I → S) (i : I) (o q : O)
    → Promise view rule i o → Promise view rule i q → o ≡ q
