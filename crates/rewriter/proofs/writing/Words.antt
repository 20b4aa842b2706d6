-- The turns of the module `writing`: parts written one after the other, and the word that a rule leaves.
--
-- Sections: the two writings; the word that a rule leaves.
-- Assumes nothing.
use mathlib.Core.Path.{◌≡◌, refl, ◌∙◌, sym, ap, ap₂}
use mathlib.Core.List.{List, ◌∷◌, ◌++◌, append_assoc}
use Prim.Native.Nat.{ℕ, ◌+◌, ◌-◌, ◌≤◌}
use native.Mathlib.Numerals.{add-one}
use native.Mathlib.Omega.{arith}
use lib.ListN.{length, take, drop, set, length-append, length-take, length-drop}
use lib.Seq.{take-take, length-take-le, take-append-le, drop-append-le, sets, sets-eq}
use borrow.Author.Tests.{eq-eqb, ne_eqb}
use Rattle.coxeter.proofs.Lists.{take_rest, sets_next}
use Rattle.coxeter.proofs.FrontLaws.{sets-front, front_parts}
use Rattle.rules.specs.Rules.{rewritten}
use Rattle.rules.proofs.Scan.{first_letter, shown_rule, right_length}
use Rattle.rules.proofs.ScanFamilies.{length_right}
use Rattle.coxeter.specs.Calls.{front}

-- ---- the two writings

-- what stands before and what stands after, as two copies leave them
pub written-without : (u d : List ℕ) (p l : ℕ) {o o' : List ℕ} → p + l ≤ length u → length u - l ≤ length d → o ≡ sets d 0 (take p u)
    → o' ≡ sets o p (take (length u - (p + l)) (drop (p + l) u)) → o' ≡ front (take p u ++ drop (p + l) u) d
written-without u d p l h m e g =
    let t : p ≡ 0 + length (take p u) = simp length-take (omega arith) in
    let room : length (take p u ++ drop (p + l) u) ≤ length d = simp (length-append, length-take, length-drop) (omega arith) in
    rw (g, e, take_rest (p + l) u, sets_next d 0 p (take p u) (drop (p + l) u) t) (sets-front (take p u ++ drop (p + l) u) d room)

-- the whole word, and over it from the place on the new letter and the left side without its last letter
pub written_moved : (u d : List ℕ) (p l x : ℕ) {o o' : List ℕ} → (1 ≤ l) × (p + l ≤ length u) → length u ≤ length d → o ≡ sets d 0 u
    → o' ≡ sets (set o p x) (p + 1) (take (p + l - 1 - p) (drop p u))
    → o' ≡ front (take p u ++ ((x ∷ take (l - 1) (drop p u)) ++ drop (p + l) u)) d
written_moved u d p l x {o} {o'} (h, g) m e f =
    let s : List ℕ = take (l - 1) (drop p u) in
    let r : List ℕ = drop (length u) d in
    let i : p + l - 1 - p ≡ l - 1 = omega arith in
    let k : p + length (x ∷ s) ≡ p + l = simp (length-take, length-drop) (omega arith) in
    let w : o ≡ u ++ r = e ∙ sets-front u d m ∙ sym (front_parts u d (length u) u refl refl) in
    let room : p + length (x ∷ s) ≤ length o = rw w (simp length-append (omega (arith, k))) in
    let a : o' ≡ sets o p (x ∷ s) = rw (f, i, add-one) in
    let n : length (take p u ++ ((x ∷ s) ++ drop (p + l) u)) ≡ length u =
    rw (length-append (take p u) ((x ∷ s) ++ drop (p + l) u), length-append (x ∷ s) (drop (p + l) u), length-take-le p u (omega arith), length-drop (p + l) u)
    (omega (arith, k)) in
    let new : List ℕ = take p u ++ ((x ∷ s) ++ drop (p + l) u) in
    let before : take p o ≡ take p u = rw w (take-append-le p u r (omega arith)) in
    let behind : drop (p + length (x ∷ s)) o ≡ drop (p + l) u ++ r =
    ap (λ (q : ℕ). drop q o) k ∙ (rw w (drop-append-le (p + l) u r g)) in
    let moved : (take p o ++ (x ∷ s)) ++ drop (p + length (x ∷ s)) o ≡ new ++ r =
    ap₂ (λ (y z : List ℕ). (y ++ (x ∷ s)) ++ z) before behind ∙ simp append_assoc in
    a ∙ sets-eq (x ∷ s) o p room ∙ moved ∙ front_parts new d (length u) new n refl

-- ---- the word that a rule leaves

-- the rule that shows f, i and j and whose left side is the l letters at place p of u
module _ (n f i j : ℕ) (u : List ℕ) (p l : ℕ) (h : p + l ≤ length u) where
  length_here : length (take l (drop p u)) ≡ l
  length_here = simp (length-take, length-drop) (omega arith)

  pub new_without : f ≡ 1 → rewritten (shown_rule n f i j (take l (drop p u))) u p ≡ take p u ++ drop (p + l) u
  unfolding rewritten shown_rule
  new_without e = rw (eq-eqb f 1 e, length_here)

  pub new_moved : (f ≡ 1 → ⊥)
      → rewritten (shown_rule n f i j (take l (drop p u))) u p ≡ take p u ++ ((first_letter n f i j ∷ take (l - 1) (drop p u)) ++ drop (p + l) u)
  unfolding rewritten shown_rule
  new_moved e = rw (ne_eqb f 1 e, length_here, take-take (l - 1) l (drop p u) (omega arith))

  pub length_new : 1 ≤ l → length (rewritten (shown_rule n f i j (take l (drop p u))) u p) ≡ length u - l + right_length f l
  unfolding rewritten shown_rule
  length_new g =
      let r = rw length_here at (length_right n f i j (take l (drop p u)) (rw length_here g)) in
      rw length_here (simp (length-append, length-take, length-drop) (omega (arith, r)))
