-- What `search` leaves open of the proof of `counting::count`.
use mathlib.Core.Path.{sym}
use native.Mathlib.Omega.{arith}
use lib.Seq.{length-take-le}
use Rattle.delay.proofs.counting.Levels.{counted_length, counted_none, turn_of}
use Rattle.delay.proofs.counting.Levels.{part-fits, part-sum-fits, part-factor-fits, counted_next, counted_all}
use Rattle.delay.proofs.counting.count.Goals as goal

pub loop-c-init : goal.loop-c-init
loop-c-init c =
    counted_none c.set_one.ensures c.requires.counts_len c.fewest_of-c.ensures

pub overflow_add-d : goal.overflow_add-d
overflow_add-d c =
    let t = turn_of _ _ c.args.group.in_range c.requires.tabled c.loop-c.invariant c.loop-c-test.true c.lanes-c-end.ensures c.top_of-d.ensures in
    omega (arith, part-fits t, counted_length t.counted)

pub slice_bounds-multiply-end : goal.slice_bounds-multiply-end
slice_bounds-multiply-end c =
    let t = turn_of _ _ c.args.group.in_range c.requires.tabled c.loop-c.invariant c.loop-c-test.true c.lanes-c-end.ensures c.top_of-d.ensures in
    omega (arith, part-fits t, counted_length t.counted)

pub slice_bounds-multiply-end-in-loop-c : goal.slice_bounds-multiply-end-in-loop-c
slice_bounds-multiply-end-in-loop-c c =
    let t = turn_of _ _ c.args.group.in_range c.requires.tabled c.loop-c.invariant c.loop-c-test.true c.lanes-c-end.ensures c.top_of-d.ensures in
    sym (length-take-le _ _ (omega (arith, part-fits t, counted_length t.counted)))

pub multiply-requires-clause-counts_bound : goal.multiply-requires-clause-counts_bound
multiply-requires-clause-counts_bound c =
    let t = turn_of _ _ c.args.group.in_range c.requires.tabled c.loop-c.invariant c.loop-c-test.true c.lanes-c-end.ensures c.top_of-d.ensures in
    part-sum-fits t

pub multiply-requires-clause-fit : goal.multiply-requires-clause-fit
multiply-requires-clause-fit c =
    let t = turn_of _ _ c.args.group.in_range c.requires.tabled c.loop-c.invariant c.loop-c-test.true c.lanes-c-end.ensures c.top_of-d.ensures in
    part-factor-fits t

pub loop-c-preserved : goal.loop-c-preserved
loop-c-preserved c =
    let t = turn_of _ _ c.args.group.in_range c.requires.tabled c.loop-c.invariant c.loop-c-test.true c.lanes-c-end.ensures c.top_of-d.ensures in
    counted_next t _ c.multiply.ensures

pub returns : goal.returns
returns c =
    counted_all c.args.group.in_range.0 c.loop-c.invariant (rw c.lanes-c-end.ensures at c.loop-c-test.false)
