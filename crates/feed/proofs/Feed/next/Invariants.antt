use Rattle.std.proofs.Common.{◌≡◌, ◌≤◌, length}
use Rattle.feed.specs.Feeding.{to_come}
use Rattle.feed.proofs.Laws.{Goes}
use Rattle.feed.proofs.Feed.next.Given as goal

abbrev pub invariant-loop : goal.invariant-loop
invariant-loop g l =
    (length l.line ≡ length l.initial.line) × (l.n ≤ length l.line)
    × Goes l.initial.line (to_come g.R.Read.remaining l.initial.self) (to_come g.R.Read.remaining l.self) l.n l.line l.counter
