use Rattle.std.proofs.Common.{◌≡◌, ◌≤◌, length}
use Rattle.feed.specs.Feeding.{to_come, SameLine}
use Rattle.feed.proofs.Laws.{coming}
use Rattle.feed.proofs.Feed.keep_read.Given as goal

abbrev pub invariant-loop-next : goal.invariant-loop-next
invariant-loop-next g l =
    (l.at ≡ l.next) × (length l.line ≡ length l.initial.line) × (l.n ≤ length l.line)
    × SameLine (to_come g.R.Read.remaining l.fn.self) (coming g.R.Read.remaining l.fn.self l.at) l.initial.line l.fn.had l.line l.n
