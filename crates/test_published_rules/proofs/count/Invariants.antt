-- `count` is safe: no more rules hold than were tried.
-- Assumes nothing.
use Rattle.std.proofs.Common.{◌+◌, ◌*◌, ◌≤◌}
use Rattle.test_published_rules.proofs.count.Given as goal

abbrev pub invariant-loop-n : goal.invariant-loop-n
invariant-loop-n g l = l.held ≤ l.n * 131072

abbrev pub invariant-loop-a : goal.invariant-loop-a
invariant-loop-a g l = l.held ≤ l.n * 131072 + l.a * 1024

abbrev pub invariant-loop-b : goal.invariant-loop-b
invariant-loop-b g l = l.held ≤ l.n * 131072 + l.a * 1024 + l.b * 128

abbrev pub invariant-loop-c : goal.invariant-loop-c
invariant-loop-c g l = l.held ≤ l.n * 131072 + l.a * 1024 + l.b * 128 + l.c
