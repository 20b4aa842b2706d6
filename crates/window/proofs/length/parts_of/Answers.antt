-- What `search` leaves open of the proof of `length::parts_of`.
use mathlib.Core.Path.{◌≡◌, ap, ◌∙◌}
use Prim.Native.Nat.{◌-◌, ◌≤◌}
use native.Mathlib.Omega.{arith}
use lib.IntN.{ℤ, pos, nat_abs}
use lib.ListN.{length, get_or}
use Rattle.coxeter.specs.declared.Kind.TheVariants.{B}
use Rattle.coxeter.specs.declared.Window.{Window}
use Rattle.coxeter.specs.Checks.{WindowOf}
use Rattle.coxeter.specs.Length.{negative}
use Rattle.coxeter.proofs.Groups.{group_lanes_le}
use Rattle.refusals.proofs.Bytes.{element_back}
use Rattle.window.proofs.length.OnePass.{gone_none, size_bounds, set_fits, sums_fit, pairs_fit, left, gone_negative, gone_positive, parts}
use Rattle.window.proofs.length.Sums.{square_fits, refusal-B, length_le_of_lanes}
use Rattle.window.proofs.length.parts_of.Goals as goal
use Rattle.window.proofs.length.parts_of.Goals.{After-size-s, After-is_negative}

-- a window has at most 64 entries, and one of any kind is one of kind B
few : (w : Window) → length w.entries.now ≤ 64
few w = length_le_of_lanes _ _ _ (group_lanes_le _ _ w.group.in_range) w.accepted

own : (w : Window) → WindowOf B (length w.entries.now) w.entries.now
own w = refusal-B _ _ _ w.accepted

pub overflow_mul-pairs : goal.overflow_mul-pairs
overflow_mul-pairs c = record { fits = omega (arith, (square_fits _ (few c.args.window)).0) }

pub loop-i-init : goal.loop-i-init
loop-i-init c = gone_none _

-- the size that was computed is that of the entry before the place reached
size_of : (c : After-size-s) → c.size-s.result ≡ nat_abs (get_or c.args.window.entries.now (c.loop-i.i - 1) (pos 0))
size_of c =
    let e : ℤ = get_or c.args.window.entries.now (c.loop-i.i - 1) (pos 0) in
    c.size-s.ensures ∙ ap nat_abs (element_back e c.e-1.given)

bounds : (c : After-size-s) → (1 ≤ c.size-s.result) × (c.size-s.result ≤ length c.args.window.entries.now)
bounds c = size_bounds c.loop-i.invariant (omega arith) (few c.args.window) (own c.args.window) (size_of c)

pub larger_behind-larger-requires : goal.larger_behind-larger-requires
larger_behind-larger-requires c =
    let b = bounds c in
    (b.0, omega (arith, b.1, (few c.args.window)), set_fits c.loop-i.invariant (omega arith) (few c.args.window) (own c.args.window) (size_of c))

pub with_size-behind-requires : goal.with_size-behind-requires
with_size-behind-requires c = let b = bounds c.before in (b.0, omega (arith, b.1, (few c.args.window)))

-- the sign is that of the same entry
sign_of : (c : After-is_negative) → c.is_negative.result ≡ negative (get_or c.args.window.entries.now (c.loop-i.i - 1) (pos 0))
sign_of c =
    let e : ℤ = get_or c.args.window.entries.now (c.loop-i.i - 1) (pos 0) in
    c.is_negative.ensures ∙ ap negative (element_back e c.e-1.given)

pub overflow_add-pairs : goal.overflow_add-pairs
overflow_add-pairs c =
    let k = c.before.before.before.before in
    let fits = pairs_fit c.loop-i.invariant (omega arith) (few c.args.window) (own c.args.window) (size_of k) c.larger_behind-larger.ensures
    (sign_of c.before) c.if-is_negative.true in
    record { fits = omega (arith, fits) }

pub overflow_sub-negative_sum_pairs : goal.overflow_sub-negative_sum_pairs
overflow_sub-negative_sum_pairs c = (bounds c.before.before.before.before).1

-- the sums over the entries behind
small : (c : After-size-s) → (c.loop-i.negative_sum_pairs ≤ 4096) × (c.loop-i.negatives ≤ 64)
small c = sums_fit c.loop-i.invariant (omega arith) (few c.args.window) (own c.args.window) (size_of c)

pub overflow_add-negative_sum_pairs : goal.overflow_add-negative_sum_pairs
overflow_add-negative_sum_pairs c = record { fits = omega (arith, small c.before.before.before.before, (few c.args.window)) }

pub overflow_add-negatives : goal.overflow_add-negatives
overflow_add-negatives c = record { fits = omega (arith, small c.before.before.before.before) }

pub loop-i-preserved-then-is_negative : goal.loop-i-preserved-then-is_negative
loop-i-preserved-then-is_negative c =
    let k = c.before.before.before.before in
    rw c.with_size-behind.ensures
    (gone_negative c.loop-i.invariant (omega arith) (few c.args.window) (own c.args.window) (size_of k) c.larger_behind-larger.ensures (sign_of c.before) c.if-is_negative.true)

pub overflow_sub-pairs-else-is_negative : goal.overflow_sub-pairs-else-is_negative
overflow_sub-pairs-else-is_negative c =
    let k = c.before.before.before.before in
    left c.loop-i.invariant (omega arith) (few c.args.window) (own c.args.window) (size_of k) c.larger_behind-larger.ensures (sign_of c.before) c.if-is_negative.false

pub loop-i-preserved : goal.loop-i-preserved
loop-i-preserved c =
    let k = c.before.before.before.before in
    rw c.with_size-behind.ensures
    (gone_positive c.loop-i.invariant (omega arith) (few c.args.window) (own c.args.window) (size_of k) c.larger_behind-larger.ensures (sign_of c.before) c.if-is_negative.false)

pub returns : goal.returns
returns c = parts c.loop-i.invariant (omega (arith, c.loop-i-test.false)) (few c.args.window) (own c.args.window)
