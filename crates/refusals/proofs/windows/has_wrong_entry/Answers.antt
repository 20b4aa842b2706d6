-- What `search` leaves open of the proof of `windows::has_wrong_entry`.
use mathlib.Core.Path.{◌≡◌, refl, sym, ap, ◌∙◌}
use mathlib.Core.Bool.{false}
use Prim.Native.Nat.{◌-◌}
use native.Mathlib.Omega.{arith}
use lib.IntN.{ℤ, pos, nat_abs}
use lib.ListN.{get_or, get_or-replicate}
use Rattle.coxeter.specs.Checks.{negative_in_A}
use Rattle.refusals.proofs.Bytes.{element_back}
use Rattle.refusals.proofs.windows.Marks.{marked_from_none, marked_from_next, whole_passed}
use Rattle.refusals.proofs.windows.Marks.{negative_wrong, zero_wrong, above_wrong, repeated_wrong}
use Rattle.refusals.proofs.windows.has_wrong_entry.Goals as goal
use Rattle.refusals.proofs.windows.has_wrong_entry.Goals.{After-negative_in_a, After-size-s}

pub loop-i-init : goal.loop-i-init
loop-i-init c = marked_from_none (refl, λ p l. get_or-replicate 64 p false false l)

-- the sign that is tested is that of the entry before the place reached
sign_of : (c : After-negative_in_a)
    → let a = c.args in
    negative_in_A a.kind (get_or a.w.now (c.loop-i.i - 1) (pos 0)) ≡ c.negative_in_a.result
sign_of c =
    let a = c.args in
    let e : ℤ = get_or a.w.now (c.loop-i.i - 1) (pos 0) in
    sym (c.negative_in_a.ensures ∙ ap (negative_in_A a.kind) (element_back e c.e-1.given))

pub returns-then-negative_in_a : goal.returns-then-negative_in_a
returns-then-negative_in_a c =
    negative_wrong _ _ _ _ _ c.loop-i.invariant (omega arith) (sign_of c.before ∙ c.if-negative_in_a.true)

-- the size that is tested is that of the same entry
size_of : (c : After-size-s)
    → c.size-s.result ≡ nat_abs (get_or c.args.w.now (c.loop-i.i - 1) (pos 0))
size_of c =
    let e : ℤ = get_or c.args.w.now (c.loop-i.i - 1) (pos 0) in
    c.size-s.ensures ∙ ap nat_abs (element_back e c.e-1.given)

pub returns-then-s-eq0 : goal.returns-then-s-eq0
returns-then-s-eq0 c =
    zero_wrong _ _ _ _ _ c.loop-i.invariant (omega arith) (sign_of c.before.before.before ∙ c.if-negative_in_a.false) (size_of c.before) c.if-s-eq0.true

pub returns-then-m-s : goal.returns-then-m-s
returns-then-m-s c =
    above_wrong _ _ _ _ _ c.loop-i.invariant (omega arith) (sign_of c.before.before.before.before ∙ c.if-negative_in_a.false) (size_of c.before.before) c.if-s-eq0.false
    c.if-m-s.true

pub returns-then-marks-p : goal.returns-then-marks-p
returns-then-marks-p c =
    repeated_wrong _ _ _ _ _ c.loop-i.invariant (omega arith) (sign_of c.before.before.before.before.before ∙ c.if-negative_in_a.false) (size_of c.before.before.before)
    c.if-s-eq0.false c.if-m-s.false c.requires c.if-marks-p.true

pub loop-i-preserved : goal.loop-i-preserved
loop-i-preserved c =
    marked_from_next _ _ _ _ _ c.loop-i.invariant (omega arith) (sign_of c.before.before.before.before.before ∙ c.if-negative_in_a.false) (size_of c.before.before.before)
    c.if-s-eq0.false c.if-m-s.false c.requires c.if-marks-p.false

pub returns : goal.returns
returns c = sym (whole_passed c.loop-i.invariant (omega (arith, c.loop-i-test.false)))
