-- Part-lists under the relations and the rules: a relation with sides of equal length carries the part-lists of one
-- side to part-lists of the other, with as many letters left out and congruent to the first ones, so with the same
-- window. A rule carries those of its right side to its left one. By looking at each part-list of two, three and
-- four letters.
--
-- Sections: what is carried; one relation; lists of applications; rules.
-- Assumes nothing.
use mathlib.Core.Path.{◌≡◌, refl}
use mathlib.Core.List.{List, [], ◌∷◌, ◌++◌, cons-ne-nil}
use Prim.Native.Nat.{ℕ, ◌+◌, ◌≤◌}
use native.Mathlib.Omega.{arith}
use lib.ListN.{length, length-append}
use Rattle.coxeter.specs.declared.Kind.{Kind}
use Rattle.coxeter.specs.Kinds.{least}
use Rattle.coxeter.specs.Relations.{Braid, threefold, fourfold, commute, Relation, twice, braid, Application, forth, back, Congruent, alone, next}
use Rattle.coxeter.proofs.Relations.{neighbours_lt, fourfold_pair_lt}
use Rattle.coxeter.proofs.Congruence.{congruent_trans, congruent_sym, congruent_context, congruent_one}
use Rattle.rules.proofs.Families.{RuleOf, square}
use Rattle.rules.proofs.Rewriting.{Rewrites, within}
use Rattle.rules.proofs.Derivations.{rule_braid}
use Rattle.rules.proofs.Completeness.{RewritesTo, stays, step, rewrites_length}
use Rattle.shortest_words.proofs.Subwords.{Subword, none, keep, leave, subword_append, Split, both, subword_split}

-- ---- what is carried

-- a part-list of x that stands for the part-list v of u: as many letters are left out, and it is congruent to v
pub record CarriedPart (k : Kind) (n : ℕ) (u x v : List ℕ) : Type 0 where
  pub subword : List ℕ
  pub is : Subword x subword
  pub count : length subword + length u ≡ length v + length x
  pub link : Congruent (Relation k n) v subword

-- every part-list of u is carried to one of x
abbrev pub CarriesParts : Kind → ℕ → List ℕ → List ℕ → Type 0
CarriesParts k n u x = (v : List ℕ) → Subword u v → CarriedPart k n u x v

carries_refl : (k : Kind) (n : ℕ) (u : List ℕ) → CarriesParts k n u u
carries_refl k n u v p = record { subword = v; is = p; count = refl; link = alone }

pub carries_trans : (k : Kind) (n : ℕ) (u x y : List ℕ) → CarriesParts k n u x → CarriesParts k n x y → CarriesParts k n u y
carries_trans k n u x y f g v p =
    let c = f v p in
    let d = g c.subword c.is in
    record { subword = d.subword; is = d.is; count = omega (arith, c.count, d.count); link = congruent_trans c.link d.link }

-- inside a longer word
carries_context : (k : Kind) (n : ℕ) (x y : List ℕ) {l r : List ℕ} → CarriesParts k n l r → CarriesParts k n (x ++ (l ++ y)) (x ++ (r ++ y))
carries_context k n x y {l} {r} f v p = outer (subword_split x p)
  where
    inner : {a v : List ℕ} → Subword x a → Split l y v → CarriedPart k n (x ++ (l ++ y)) (x ++ (r ++ y)) (a ++ v)
    inner {a} q (both {v = b} {y = c} s t) =
        let d = f b s in
        record {
          subword = a ++ (d.subword ++ c);
          is = subword_append q (subword_append d.is t);
          count = simp length-append (omega (arith, d.count));
          link = congruent_context a c d.link;
        }

    outer : {v : List ℕ} → Split x (l ++ y) v → CarriedPart k n (x ++ (l ++ y)) (x ++ (r ++ y)) v
    outer (both q r) = inner q (subword_split l r)

-- ---- one relation

-- the same part-list
same : {k : Kind} {n : ℕ} {u x v : List ℕ} → length u ≡ length x → Subword x v → CarriedPart k n u x v
same {v} e p = record { subword = v; is = p; count = omega arith; link = alone }

module _ (k : Kind) (n a b : ℕ) (α : Congruent (Relation k n) (a ∷ a ∷ []) []) (β : Congruent (Relation k n) (b ∷ b ∷ []) []) where
  two_carries : Congruent (Relation k n) (a ∷ b ∷ []) (b ∷ a ∷ []) → CarriesParts k n (a ∷ b ∷ []) (b ∷ a ∷ [])
  two_carries e v (keep (keep none)) = record { subword = b ∷ a ∷ []; is = keep (keep none); count = refl; link = e }
  two_carries e v (keep (leave none)) = same refl (leave (keep none))
  two_carries e v (leave (keep none)) = same refl (keep (leave none))
  two_carries e v (leave (leave none)) = same refl (leave (leave none))

  three_carries : Congruent (Relation k n) (a ∷ b ∷ a ∷ []) (b ∷ a ∷ b ∷ []) → CarriesParts k n (a ∷ b ∷ a ∷ []) (b ∷ a ∷ b ∷ [])
  three_carries e v (keep (keep (keep none))) = record { subword = b ∷ a ∷ b ∷ []; is = keep (keep (keep none)); count = refl; link = e }
  three_carries e v (keep (keep (leave none))) = same refl (leave (keep (keep none)))
  three_carries e v (keep (leave (keep none))) =
      record { subword = b ∷ b ∷ []; is = keep (leave (keep none)); count = refl; link = congruent_trans α (congruent_sym β) }
  three_carries e v (leave (keep (keep none))) = same refl (keep (keep (leave none)))
  three_carries e v (keep (leave (leave none))) = same refl (leave (keep (leave none)))
  three_carries e v (leave (keep (leave none))) = same refl (keep (leave (leave none)))
  three_carries e v (leave (leave (keep none))) = same refl (leave (keep (leave none)))
  three_carries e v (leave (leave (leave none))) = same refl (leave (leave (leave none)))

  -- a b b and b b a, a a b and b a a
  end_link : Congruent (Relation k n) (a ∷ b ∷ b ∷ []) (b ∷ b ∷ a ∷ [])
  end_link = congruent_trans (congruent_context (a ∷ []) [] β) (congruent_context [] (a ∷ []) (congruent_sym β))

  start_link : Congruent (Relation k n) (a ∷ a ∷ b ∷ []) (b ∷ a ∷ a ∷ [])
  start_link = congruent_trans (congruent_context [] (b ∷ []) α) (congruent_context (b ∷ []) [] (congruent_sym α))

  four_carries : Congruent (Relation k n) (a ∷ b ∷ a ∷ b ∷ []) (b ∷ a ∷ b ∷ a ∷ []) → CarriesParts k n (a ∷ b ∷ a ∷ b ∷ []) (b ∷ a ∷ b ∷ a ∷ [])
  four_carries e v (keep (keep (keep (keep none)))) =
      record { subword = b ∷ a ∷ b ∷ a ∷ []; is = keep (keep (keep (keep none))); count = refl; link = e }
  four_carries e v (keep (keep (keep (leave none)))) = same refl (leave (keep (keep (keep none))))
  four_carries e v (keep (keep (leave (keep none)))) =
      record { subword = b ∷ b ∷ a ∷ []; is = keep (leave (keep (keep none))); count = refl; link = end_link }
  four_carries e v (keep (leave (keep (keep none)))) =
      record { subword = b ∷ a ∷ a ∷ []; is = keep (keep (leave (keep none))); count = refl; link = start_link }
  four_carries e v (leave (keep (keep (keep none)))) = same refl (keep (keep (keep (leave none))))
  four_carries e v (keep (keep (leave (leave none)))) = same refl (leave (keep (keep (leave none))))
  four_carries e v (keep (leave (keep (leave none)))) = same refl (leave (keep (leave (keep none))))
  four_carries e v (keep (leave (leave (keep none)))) = same refl (leave (keep (keep (leave none))))
  four_carries e v (leave (keep (keep (leave none)))) = same refl (keep (keep (leave (leave none))))
  four_carries e v (leave (keep (leave (keep none)))) = same refl (keep (leave (keep (leave none))))
  four_carries e v (leave (leave (keep (keep none)))) = same refl (leave (keep (keep (leave none))))
  four_carries e v (keep (leave (leave (leave none)))) = same refl (leave (keep (leave (leave none))))
  four_carries e v (leave (keep (leave (leave none)))) = same refl (keep (leave (leave (leave none))))
  four_carries e v (leave (leave (keep (leave none)))) = same refl (leave (keep (leave (leave none))))
  four_carries e v (leave (leave (leave (keep none)))) = same refl (keep (leave (leave (leave none))))
  four_carries e v (leave (leave (leave (leave none)))) = same refl (leave (leave (leave (leave none))))

cancels : (k : Kind) (n a : ℕ) → 1 ≤ a → a ≤ n → Congruent (Relation k n) (a ∷ a ∷ []) []
cancels k n a o l = congruent_one (twice o l)

-- the empty word has one part-list
twice_carries : (k : Kind) (n a : ℕ) → 1 ≤ a → a ≤ n → CarriesParts k n [] (a ∷ a ∷ [])
twice_carries k n a o l v none = record { subword = a ∷ a ∷ []; is = keep (keep none); count = refl; link = congruent_sym (cancels k n a o l) }

-- a relation with sides of equal length carries either way
braid_carries : (k : Kind) (n : ℕ) {l r : List ℕ} → Braid k n l r → CarriesParts k n l r × CarriesParts k n r l
braid_carries k n (threefold {a} {b} o l h) =
    let c = neighbours_lt k n a b h in
    let α = cancels k n a o (omega arith) in
    let β = cancels k n b (omega arith) l in
    let e = congruent_one (braid (threefold o l h)) in
    (three_carries k n a b α β e, three_carries k n b a β α (congruent_sym e))
braid_carries k n (fourfold {a} {b} o l h) =
    let c = fourfold_pair_lt k n a b h in
    let α = cancels k n a o (omega arith) in
    let β = cancels k n b (omega arith) l in
    let e = congruent_one (braid (fourfold o l h)) in
    (four_carries k n a b α β e, four_carries k n b a β α (congruent_sym e))
braid_carries k n (commute {a} {b} o l h) =
    let α = cancels k n a o (omega (arith, h.0)) in
    let β = cancels k n b (omega (arith, h.0)) l in
    let e = congruent_one (braid (commute o l h)) in
    (two_carries k n a b α β e, two_carries k n b a β α (congruent_sym e))

-- ---- lists of applications

application_carries : (k : Kind) (n : ℕ) {u v : List ℕ} → Application (Braid k n) u v → CarriesParts k n u v
application_carries k n (forth x y b) = carries_context k n x y (braid_carries k n b).0
application_carries k n (back x y b) = carries_context k n x y (braid_carries k n b).1

congruent_carries : (k : Kind) (n : ℕ) {u v : List ℕ} → Congruent (Braid k n) u v → CarriesParts k n u v
congruent_carries k n {u} alone = carries_refl k n u
congruent_carries k n (next {u} {v} {w} s r) = carries_trans k n u v w (application_carries k n s) (congruent_carries k n r)

-- ---- rules

-- every rule carries from its right side to its left one
rule_carries_back : (k : Kind) (n : ℕ) → least k ≤ n → (l r : List ℕ) → RuleOf k n l r → CarriesParts k n r l
rule_carries_back k n h l [] (square {i} o g) = twice_carries k n i o g
rule_carries_back k n h l (x ∷ r) q = congruent_carries k n (congruent_sym (rule_braid k n h q (cons-ne-nil x r)))

-- and the other way where it keeps the length
rule_carries : (k : Kind) (n : ℕ) → least k ≤ n → (l r : List ℕ) → RuleOf k n l r → length l ≡ length r → CarriesParts k n l r
rule_carries k n h l [] (square {i} o g) e = absurd (omega arith)
rule_carries k n h l (x ∷ r) q e = congruent_carries k n (rule_braid k n h q (cons-ne-nil x r))

rewrites_carries_back : (k : Kind) (n : ℕ) {u v : List ℕ} → least k ≤ n → Rewrites k n u v → CarriesParts k n v u
rewrites_carries_back k n h (within x y {l} {r} q) = carries_context k n x y (rule_carries_back k n h l r q)

rewrites_carries : (k : Kind) (n : ℕ) {u v : List ℕ} → least k ≤ n → Rewrites k n u v → length u ≡ length v → CarriesParts k n u v
rewrites_carries k n h (within x y {l} {r} q) e =
    let f = simp length-append at e in
    carries_context k n x y (rule_carries k n h l r q (omega arith))

pub rewrites_to_carries_back : (k : Kind) (n : ℕ) {u v : List ℕ} → least k ≤ n → RewritesTo k n u v → CarriesParts k n v u
rewrites_to_carries_back k n {u} h stays = carries_refl k n u
rewrites_to_carries_back k n h (step {u} {v} {w} r s) =
    carries_trans k n w v u (rewrites_to_carries_back k n h s) (rewrites_carries_back k n h r)

pub rewrites_to_length : {k : Kind} {n : ℕ} {u v : List ℕ} → RewritesTo k n u v → length v ≤ length u
rewrites_to_length stays = omega arith
rewrites_to_length (step r s) = omega (arith, rewrites_length r, rewrites_to_length s)

pub rewrites_to_carries : (k : Kind) (n : ℕ) {u v : List ℕ} → least k ≤ n → RewritesTo k n u v → length u ≡ length v → CarriesParts k n u v
rewrites_to_carries k n {u} h stays e = carries_refl k n u
rewrites_to_carries k n h (step {u} {v} {w} r s) e =
    let a = rewrites_length r in
    let b = rewrites_to_length s in
    carries_trans k n u v w (rewrites_carries k n h r (omega arith)) (rewrites_to_carries k n h s (omega arith))
