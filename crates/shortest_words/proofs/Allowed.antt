-- Words over allowed steps: joined and reversed words, part-lists, and normal forms, since rewriting brings in no
-- new letter.
-- Assumes nothing.
use mathlib.Core.Path.{◌≡◌, refl}
use mathlib.Core.Bool.{Bool, true, false, and-eq-true_iff}
use mathlib.Core.List.{List, [], ◌∷◌, ◌++◌, reverse, reverse-cons, Memᴰ}
use Prim.Native.Nat.{ℕ, ◌≤◌}
use Rattle.coxeter.specs.declared.Kind.{Kind}
use Rattle.coxeter.specs.Kinds.{least}
use Rattle.coxeter.specs.Checks.{wrong_letter}
use Rattle.coxeter.specs.NormalForm.{word_normal_form}
use Rattle.coxeter.proofs.LetterLaws.{letter_within_cons}
use Rattle.rules.proofs.Completeness.{RewritesTo, stays, step, no_new_letter, rewrites_to_normal_form}
use Rattle.shortest_words.specs.Allowed.{over, Over}
use Rattle.shortest_words.proofs.Subwords.{Subword, none, keep, leave}

module _ (allowed : ℕ → Bool) where
  pub over_cons : (s : ℕ) (u : List ℕ) → allowed s ≡ true → Over allowed u → Over allowed (s ∷ u)
  unfolding over
  over_cons s u a e = rw (a, e)

  pub over-head : (s : ℕ) (u : List ℕ) → Over allowed (s ∷ u) → allowed s ≡ true
  unfolding over
  over-head s u e = ((and-eq-true_iff (allowed s) (over allowed u)).0 e).0

  pub over-tail : (s : ℕ) (u : List ℕ) → Over allowed (s ∷ u) → Over allowed u
  unfolding over
  over-tail s u e = ((and-eq-true_iff (allowed s) (over allowed u)).0 e).1

  pub over-append : (u v : List ℕ) → Over allowed u → Over allowed v → Over allowed (u ++ v)
  over-append [] v e f = f
  over-append (s ∷ u) v e f = over_cons s (u ++ v) (over-head s u e) (over-append u v (over-tail s u e) f)

  pub over-reverse : (u : List ℕ) → Over allowed u → Over allowed (reverse u)
  over-reverse [] e = e
  over-reverse (s ∷ u) e =
      rw reverse-cons (over-append (reverse u) (s ∷ []) (over-reverse u (over-tail s u e)) (over_cons s [] (over-head s u e) (unfold over in refl)))

  pub over_subword : {u v : List ℕ} → Subword u v → Over allowed u → Over allowed v
  over_subword none e = e
  over_subword (keep {a} {u} {v} p) e = over_cons a v (over-head a u e) (over_subword p (over-tail a u e))
  over_subword (leave {a} {u} p) e = over_subword p (over-tail a u e)

  -- where all steps are allowed every word of steps is over them
  pub over_all : (n : ℕ) (u : List ℕ) → ((s : ℕ) → 1 ≤ s → s ≤ n → allowed s ≡ true) → wrong_letter n u ≡ false → Over allowed u
  unfolding over
  over_all n [] f e = refl
  over_all n (s ∷ u) f e = let l = letter_within_cons n s u e in over_cons s u (f s l.0 l.1) (over_all n u f l.2)

  -- by letters
  letter_allowed : (a : ℕ) (u : List ℕ) → Over allowed u → Memᴰ a u → allowed a ≡ true
  letter_allowed a [] e m = elim m [ ]
  letter_allowed a (s ∷ u) e (Memᴰ.head q) = rw q (over-head s u e)
  letter_allowed a (s ∷ u) e (Memᴰ.tail m) = letter_allowed a u (over-tail s u e) m

  over-letters : (u : List ℕ) → ((a : ℕ) → Memᴰ a u → allowed a ≡ true) → Over allowed u
  unfolding over
  over-letters [] h = refl
  over-letters (s ∷ u) h = over_cons s u (h s (Memᴰ.head refl)) (over-letters u (λ a m. h a (Memᴰ.tail m)))

  over_rewrites_to : {k : Kind} {n : ℕ} {u v : List ℕ} → RewritesTo k n u v → Over allowed u → Over allowed v
  over_rewrites_to stays e = e
  over_rewrites_to (step {u} {v} r s) e = over_rewrites_to s (over-letters v (λ a m. letter_allowed a u e (no_new_letter r m)))

  -- the normal form of a word over allowed steps is over them
  pub over-normal_form : (k : Kind) (n : ℕ) (u : List ℕ) → least k ≤ n → wrong_letter n u ≡ false → Over allowed u → Over allowed (word_normal_form k n u)
  over-normal_form k n u h e o = over_rewrites_to (rewrites_to_normal_form k n u h e) o
