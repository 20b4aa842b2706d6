-- `longest::longest_entry` goes by the kind and, in kind D, by whether the rank is odd and the position the last.
-- Assumes nothing.
use Rattle.delay.proofs.longest.Entries.{entry-A, entry-B, entry_even, entry_last, entry-odd}
use Rattle.delay.proofs.longest.longest_entry.Goals as goal

pub returns-in-A : goal.returns-in-A
returns-in-A c = entry-A _ _ _ c.args.group.in_range c.requires _ c.lanes.ensures c.in-A.is

pub returns-in-B : goal.returns-in-B
returns-in-B c = entry-B _ _ _ c.args.group.in_range c.requires c.in-B.is

pub returns-then-even : goal.returns-then-even
returns-then-even c = entry_even _ _ _ c.args.group.in_range c.requires c.in-D.is c.if-even.true

pub returns-then-i-n : goal.returns-then-i-n
returns-then-i-n c = entry_last _ _ _ c.args.group.in_range c.requires c.in-D.is c.if-even.false c.if-i-n.true

pub returns-else-i-n : goal.returns-else-i-n
returns-else-i-n c = entry-odd _ _ _ c.args.group.in_range c.requires c.in-D.is c.if-even.false c.if-i-n.false
