-- The bound on the number of steps is reached: in every kind, at a rank above 2m, the word 2 4 6 .. of m letters
-- takes one step for each pair of its letters. Each letter read commutes with all that stand before it, one by
-- one.
--
-- Sections: a letter passes all before it; the word.
-- Assumes nothing.
use mathlib.Core.Path.{◌≡◌, refl, sym, ap, ap₂, subst, ◌∙◌}
use mathlib.Core.Bool.{true, false}
use mathlib.Core.List.{List, [], ◌∷◌, ◌++◌, append-nil}
use mathlib.Core.Option.{Option, none, some}
use Prim.Native.Nat.{ℕ, zero, suc, ◌+◌, ◌-◌, ◌*◌, ◌/◌, ◌≤◌, ◌<◌}
use native.Mathlib.Nat.{mul-zero, suc-mul, mul-suc}
use native.Mathlib.Omega.{arith}
use lib.ListN.{length, get_or, take, length-append}
use lib.Seq.{append_snoc, take-suc, take-length, get_or_at, length-take-le}
use borrow.Author.Tests.{ne_eqb, lt-ltb}
use Rattle.coxeter.specs.declared.Kind.{Kind}
use Rattle.coxeter.specs.Kinds.{least}
use Rattle.coxeter.specs.Checks.{wrong_letter}
use Rattle.coxeter.specs.NormalForm.{levels}
use Rattle.coxeter.proofs.LetterLaws.{letter_within_cons}
use Rattle.coxeter.proofs.Relations.{letters-append, wrong_letter_nil, wrong_letter_cons}
use Rattle.rules.specs.Rules.{commuted, rewritten}
use Rattle.rules.proofs.Fits.{rewritten_split}
use Rattle.traces.specs.Traces.{Redex, lowest_redex, Trace, trace}
use Rattle.traces.proofs.Traces.{after, none_of_irreducible, trace_none}
use Rattle.traces.proofs.TwoLetters.{commuting}
use Rattle.traces.proofs.LeastWords.{letters_left, letters_right, Normal}
use Rattle.traces.proofs.Reading.{nil_irreducible, Reading, reading_next, reading_ends, reading_lower, reading_moved, pairs-suc, steps, steps_step}
use Rattle.traces.proofs.ReadingSteps.{commute_redex}

letters_cons : (n x : ℕ) (b : List ℕ) → 1 ≤ x → x ≤ n → wrong_letter n b ≡ false → wrong_letter n (x ∷ b) ≡ false
letters_cons n x b o l e = wrong_letter_cons n x b o l ∙ e

commuting_far : (n c l x : ℕ) → l + 1 < x → x < n → commuting n c l x ≡ true
unfolding commuting
commuting_far n c l x g h = rw (ne_eqb x n (λ e. omega arith), lt-ltb (l + 1) x g)

-- ---- a letter passes all before it

module _ (k : Kind) (n : ℕ) (h : least k ≤ n) where
  -- one step
  passes_one : {c q : ℕ} (a : List ℕ) {y : ℕ} (b rest : List ℕ) → c + 2 < n → y ≤ c → length a ≡ q → Reading k n (a ++ (y ∷ (c + 2) ∷ b)) (suc q)
      → wrong_letter n ((a ++ (y ∷ (c + 2) ∷ b)) ++ rest) ≡ false
      → (steps k n h ((a ++ (y ∷ (c + 2) ∷ b)) ++ rest) ≡ suc (steps k n h ((a ++ ((c + 2) ∷ y ∷ b)) ++ rest)))
      × Reading k n (a ++ ((c + 2) ∷ y ∷ b)) q × (wrong_letter n ((a ++ ((c + 2) ∷ y ∷ b)) ++ rest) ≡ false)
  passes_one {c} {q} a {y} b rest g m e r l =
      let x = c + 2 in
      let z = a ++ (y ∷ x ∷ b) in
      let first : get_or z q 0 ≡ y = get_or_at a y (x ∷ b) 0 q e in
      let second : get_or z (suc q) 0 ≡ x =
      ap (λ (w : List ℕ). get_or w (suc q) 0) (sym (append_snoc a y (x ∷ b)))
      ∙ get_or_at (a ++ (y ∷ [])) x b 0 (suc q) (length-append a (y ∷ []) ∙ omega (arith, e)) in
      let s : Redex = record { place = q; rule = commuted y x } in
      let far : commuting n (levels k n) (get_or z q 0) (get_or z (suc q) 0) ≡ true = rw (first, second) (commuting_far n (levels k n) y x (omega arith) g) in
      let u : lowest_redex k n (take (suc (suc q)) z) ≡ some s =
      commute_redex k n h z q r (omega (arith, second)) far ∙ ap₂ (λ (i j : ℕ). some (record { place = q; rule = commuted i j })) first second in
      let d : after z s ≡ a ++ (x ∷ y ∷ b) = ap (rewritten (commuted y x) z) (sym e) ∙ rewritten_split (commuted y x) a b in
      let t = steps_step k n h z (suc q) rest r s u l in
      (rw d at t.0, rw d at (reading_moved k n h z (suc q) r s u (λ f. omega arith)), rw d at t.1)

  -- after q steps the letter c + 2 stands first, and what has been read is a normal form
  record LetterFirst (c : ℕ) (z : List ℕ) (q : ℕ) (rest : List ℕ) : Type 0 where
    pub word : List ℕ
    pub normal : Normal k n word
    pub size : length word ≡ length z
    pub letters : wrong_letter (c + 2) word ≡ false
    pub counted : steps k n h (z ++ rest) ≡ q + steps k n h (word ++ rest)

  passes : {c q : ℕ} (a b : List ℕ) {rest : List ℕ} → c + 2 < n → length a ≡ q → wrong_letter c a ≡ false → wrong_letter (c + 2) b ≡ false
      → Reading k n (a ++ ((c + 2) ∷ b)) q → wrong_letter n ((a ++ ((c + 2) ∷ b)) ++ rest) ≡ false → LetterFirst c (a ++ ((c + 2) ∷ b)) q rest
  passes {q = zero} (y ∷ a) b g e i j r l = let z : suc (length a) ≡ 0 = e in absurd (omega arith)
  passes {c} {q = zero} [] b g e i j r l = record {
    word = (c + 2) ∷ b;
    normal = reading_ends k n h _ 0 r (stands (lowest_redex k n (take 1 ((c + 2) ∷ b))) refl);
    size = refl;
    letters = letters_cons (c + 2) (c + 2) b (omega arith) (omega arith) j;
    counted = omega arith;
  }
    where
      stands : (o : Option Redex) → lowest_redex k n (take 1 ((c + 2) ∷ b)) ≡ o → o ≡ none
      stands none e = refl
      stands (some s) e = absurd (omega (arith, reading_lower k n h ((c + 2) ∷ b) 0 r s e))
  passes {c} {q = (suc q)} a b {rest} g e i j r l =
      let x = c + 2 in
      let f = take q a in
      let y = get_or a q 0 in
      let d : a ≡ f ++ (y ∷ []) = sym (take-length a) ∙ ap (λ (m : ℕ). take m a) e ∙ take-suc a q 0 (omega arith) in
      let t : a ++ (x ∷ b) ≡ f ++ (y ∷ x ∷ b) = ap (λ (w : List ℕ). w ++ (x ∷ b)) d ∙ append_snoc f y (x ∷ b) in
      let m : length f ≡ q = length-take-le q a (omega arith) in
      let lower : wrong_letter c (f ++ (y ∷ [])) ≡ false = ap (wrong_letter c) (sym d) ∙ i in
      let o = letter_within_cons c y [] (letters_right c f (y ∷ []) lower) in
      let s = passes_one f b rest g o.1 m (subst (λ (w : List ℕ). Reading k n w (suc q)) t r)
      (ap (λ (w : List ℕ). wrong_letter n (w ++ rest)) (sym t) ∙ l) in
      let v = passes f (y ∷ b) g m (letters_left c f (y ∷ []) lower) (letters_cons x y b o.0 (omega (arith, o.1)) j) s.1 s.2 in
      record {
        word = v.word;
        normal = v.normal;
        size = omega (arith, v.size, m, e, length-append f (x ∷ y ∷ b), length-append a (x ∷ b));
        letters = v.letters;
        counted = omega (arith, ap (λ (w : List ℕ). steps k n h (w ++ rest)) t, s.0, v.counted);
      }

-- ---- the word

-- c + 2, c + 4 and so on, r letters
rising : ℕ → ℕ → List ℕ
rising c zero = []
rising c (suc r) = (c + 2) ∷ rising (c + 2) r

rising_length : (r c : ℕ) → length (rising c r) ≡ r
unfolding rising
rising_length zero c = refl
rising_length (suc r) c = ap suc (rising_length r (c + 2))

rising_letters : (n r c : ℕ) → c + 2 * r < n → wrong_letter n (rising c r) ≡ false
unfolding rising
rising_letters n zero c g = wrong_letter_nil n
rising_letters n (suc r) c g = letters_cons n (c + 2) (rising (c + 2) r) (omega arith) (omega arith) (rising_letters n r (c + 2) (omega arith))

module _ (k : Kind) (n : ℕ) (h : least k ≤ n) where
  steps_rising : (r c : ℕ) (w : List ℕ) → c + 2 * r < n → Normal k n w → wrong_letter c w ≡ false
      → steps k n h (w ++ rising c r) ≡ r * length w + r * (r - 1) / 2
  unfolding rising
  steps_rising zero c w g m l =
      rw append-nil (omega (arith, ap (λ (t : Trace). length t.lines) (trace_none k n h w (none_of_irreducible k n w m.irreducible))))
  steps_rising (suc r) c w g m l =
      let x = c + 2 in
      let rest = rising x r in
      let e : w ++ (x ∷ rest) ≡ (w ++ (x ∷ [])) ++ rest = sym (append_snoc w x rest) in
      let a : wrong_letter n ((w ++ (x ∷ [])) ++ rest) ≡ false =
      ap (wrong_letter n) (sym e) ∙ letters-append n w (x ∷ rest) m.letters (rising_letters n (suc r) c g) in
      let v = passes k n h w [] (omega arith) refl l (wrong_letter_nil x) (reading_next k n w x m (omega arith) (omega arith)) a in
      let s : length v.word ≡ suc (length w) = v.size ∙ length-append w (x ∷ []) ∙ omega arith in
      let t : steps k n h (v.word ++ rest) ≡ r * suc (length w) + r * (r - 1) / 2 =
      steps_rising r x v.word (omega arith) v.normal v.letters ∙ rw s in
      ap (steps k n h) e ∙ omega (arith, v.counted, t, suc-mul r (length w), mul-suc r (length w), pairs-suc r)

-- as many steps as pairs of letters, for every number of letters
pub steps_reached : (k : Kind) (n m : ℕ) → least k ≤ n → 2 * m < n
    → (u : List ℕ) × (length u ≡ m) × (wrong_letter n u ≡ false) × (length (trace k n u).lines ≡ m * (m - 1) / 2)
steps_reached k n m h g = (
  rising 0 m,
  rising_length m 0,
  rising_letters n m 0 (omega arith),
  steps_rising k n h m 0 [] (omega arith) (record { letters = wrong_letter_nil n; irreducible = nil_irreducible k n h }) (wrong_letter_nil 0)
      ∙ omega (arith, mul-zero m),
)
