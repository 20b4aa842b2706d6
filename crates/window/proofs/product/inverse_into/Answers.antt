-- What `search` leaves open of the proof of `product::inverse_into`.
use mathlib.Core.Path.{◌≡◌, sym, ◌∙◌, ap}
use Prim.Native.Nat.{◌≤◌}
use native.Mathlib.Omega.{arith}
use lib.IntN.{pos, nat_abs}
use lib.ListN.{length, get_or}
use Rattle.coxeter.proofs.Groups.{rank_le}
use Rattle.refusals.proofs.Bytes.{element_back}
use Rattle.window.proofs.length.Sums.{length_le_of_refusal}
use Rattle.window.proofs.product.Entries.{entry_bounds, scatter_step, scatter_end, scatter-written}
use Rattle.window.proofs.product.inverse_into.Goals as goal
use Rattle.window.proofs.product.inverse_into.Goals.{After-size}

-- the size that was computed is the entry's
size_is : (c : After-size) → c.size.result ≡ nat_abs (get_or c.args.window.entries.now c.loop-i.i (pos 0))
size_is c = c.size.ensures ∙ ap nat_abs (element_back (get_or c.args.window.entries.now c.loop-i.i (pos 0)) (omega arith))

-- it is a place of the window
bounds : (c : After-size) → (1 ≤ c.size.result) × (c.size.result ≤ length c.args.window.entries.now)
bounds c = rw (size_is c) (entry_bounds _ _ _ _ c.args.window.accepted c.loop-i-test.true)

pub overflow_sub-p : goal.overflow_sub-p
overflow_sub-p c = (bounds c).0

pub with_sign-requires : goal.with_sign-requires
with_sign-requires c =
    omega (arith, length_le_of_refusal _ _ _ (rank_le _ _ c.args.window.group.in_range).1 c.args.window.accepted)

pub bounds-out-p : goal.bounds-out-p
bounds-out-p c = let b = bounds c.before.before in omega arith

pub loop-i-preserved : goal.loop-i-preserved
loop-i-preserved c =
    c.loop-i.invariant ∙ scatter_step _ _ _ c.loop-i-test.true (omega arith) c.with_sign.type_inv (size_is c.before.before) c.with_sign.ensures

pub returns : goal.returns
returns c =
    sym (scatter_end _ _ _ _ c.loop-i-test.false) ∙ sym c.loop-i.invariant ∙ scatter-written _ _ _ _ c.args.window.accepted c.requires
