-- The congruence that a relation between words generates, by recursion on the list of applications; it keeps whatever
-- each application keeps.
--
-- Sections: one application; lists of applications.
-- Not here: what the Coxeter relations keep (Relations).
-- Assumes nothing.
use mathlib.Core.Path.{◌≡◌, refl, subst, subst₂, ◌∙◌}
use mathlib.Core.List.{List, [], ◌++◌, append_assoc, append-nil}
use Prim.Native.Nat.{ℕ}
use Rattle.coxeter.specs.Relations.{Application, forth, back, Congruent, alone, next}

-- ---- one application

application_sym : {R : List ℕ → List ℕ → Type 0} {u v : List ℕ} → Application R u v → Application R v u
application_sym (forth x y r) = back x y r
application_sym (back x y r) = forth x y r

pub regroup : (x a l b y : List ℕ) → (x ++ a) ++ (l ++ (b ++ y)) ≡ x ++ ((a ++ (l ++ b)) ++ y)
regroup x a l b y = simp append_assoc

-- an application inside a longer word
application_context : {R : List ℕ → List ℕ → Type 0} {u v : List ℕ} (x y : List ℕ) → Application R u v → Application R (x ++ (u ++ y)) (x ++ (v ++ y))
application_context {R} x y (forth a b {l} {r} h) = subst₂ (Application R) (regroup x a l b y) (regroup x a r b y) (forth (x ++ a) (b ++ y) h)
application_context {R} x y (back a b {l} {r} h) = subst₂ (Application R) (regroup x a r b y) (regroup x a l b y) (back (x ++ a) (b ++ y) h)

application_map : {R S : List ℕ → List ℕ → Type 0} {u v : List ℕ} → ((l r : List ℕ) → R l r → S l r) → Application R u v → Application S u v
application_map f (forth x y {l} {r} h) = forth x y (f l r h)
application_map f (back x y {l} {r} h) = back x y (f l r h)

-- ---- lists of applications

pub congruent_application : {R : List ℕ → List ℕ → Type 0} {u v : List ℕ} → Application R u v → Congruent R u v
congruent_application s = next s alone

pub congruent_of_equal : {R : List ℕ → List ℕ → Type 0} {u v : List ℕ} → u ≡ v → Congruent R u v
congruent_of_equal {R} {u} e = subst (Congruent R u) e alone

pub congruent_trans : {R : List ℕ → List ℕ → Type 0} {u v w : List ℕ} → Congruent R u v → Congruent R v w → Congruent R u w
congruent_trans alone t = t
congruent_trans (next s r) t = next s (congruent_trans r t)

pub congruent_sym : {R : List ℕ → List ℕ → Type 0} {u v : List ℕ} → Congruent R u v → Congruent R v u
congruent_sym alone = alone
congruent_sym (next s r) = congruent_trans (congruent_sym r) (congruent_application (application_sym s))

-- congruent words inside a longer word
pub congruent_context : {R : List ℕ → List ℕ → Type 0} {u v : List ℕ} (x y : List ℕ) → Congruent R u v → Congruent R (x ++ (u ++ y)) (x ++ (v ++ y))
congruent_context x y alone = alone
congruent_context x y (next s r) = next (application_context x y s) (congruent_context x y r)

-- a relation's two sides
pub congruent_one : {R : List ℕ → List ℕ → Type 0} {l r : List ℕ} → R l r → Congruent R l r
congruent_one {R} {l} {r} h = congruent_application (subst₂ (Application R) (append-nil l) (append-nil r) (forth [] [] h))

pub congruent_map : {R S : List ℕ → List ℕ → Type 0} {u v : List ℕ} → ((l r : List ℕ) → R l r → S l r) → Congruent R u v → Congruent S u v
congruent_map f alone = alone
congruent_map f (next s r) = next (application_map f s) (congruent_map f r)

-- what each application keeps, the congruence keeps
pub congruent_keeps : {R : List ℕ → List ℕ → Type 0} {X : Type 0} (f : List ℕ → X) → ((u v : List ℕ) → Application R u v → f u ≡ f v)
    → {u v : List ℕ} → Congruent R u v → f u ≡ f v
congruent_keeps f h alone = refl
congruent_keeps f h (next {u} {v} s r) = h u v s ∙ congruent_keeps f h r
