-- Laws: a line that is kept fits its buffer, which keeps its length, and is never kept as none.
--
--   keep_fits              so many bytes as the buffer has are kept, or fewer
--   keep_some              and some are, of a line that is not empty
--   keep_length            the buffer keeps its length
--
-- Assumes nothing.
use Rattle.std.proofs.Common.{◌≡◌, ℕ, ◌≤◌, List, length, arith}
use Rattle.std.proofs.lemmas.Bool.Decides.{nat_tests}
use Rattle.rules.specs.Bytes.{iff}
use Rattle.rules.proofs.Lists.{length-splice}
use Rattle.keeping.specs.Keeping.{kept, keep}

pub keep_fits : (s : List ℕ) (n b m : ℕ) (x : List ℕ) → n ≤ length s → kept m x ≡ keep s n b → m ≤ length s
unfolding keep iff
keep_fits s n b m x h e = grind (arith, nat_tests)

pub keep_some : (s : List ℕ) (n b m : ℕ) (x : List ℕ) → 2 ≤ length s → n ≤ length s → kept m x ≡ keep s n b → 1 ≤ m
unfolding keep iff
keep_some s n b m x h k e = grind (arith, nat_tests)

pub keep_length : (s : List ℕ) (n b m : ℕ) (x : List ℕ) → 1 ≤ length s → kept m x ≡ keep s n b → length x ≡ length s
unfolding keep iff
keep_length s n b m x h e = grind (arith, nat_tests, length-splice)
