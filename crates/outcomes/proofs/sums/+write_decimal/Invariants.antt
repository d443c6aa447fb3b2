-- What falls is the number of digits that there is room for.
use Rattle.outcomes.proofs.sums.+write_decimal.Given as goal

abbrev pub decreases-write_decimal : goal.decreases-write_decimal
decreases-write_decimal l = l.k
