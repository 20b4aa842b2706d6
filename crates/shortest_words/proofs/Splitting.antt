-- There is just one split of a window by allowed steps: of two, the second word of each has a part-list that is a
-- shortest word of the other's second window, since that cannot begin with an allowed step (Deletion). With no step
-- allowed the first word is empty, with all the second.
--
-- Sections: a window that no allowed step begins; two splits; no step and all steps.
-- Assumes nothing.
use mathlib.Core.Path.{◌≡◌, refl, sym, ap, ◌∙◌}
use mathlib.Core.Bool.{Bool, true, false, true≢false}
use mathlib.Core.List.{List, [], ◌∷◌, ◌++◌, append_assoc, reverse, reverse-reverse}
use Prim.Native.Nat.{ℕ, ◌≤◌}
use native.Mathlib.Omega.{arith}
use lib.IntN.{ℤ}
use lib.ListN.{length}
use Rattle.coxeter.specs.declared.Kind.{Kind}
use Rattle.coxeter.specs.Kinds.{least, lanes}
use Rattle.coxeter.specs.Windows.{window_from, identity, window, product}
use Rattle.coxeter.specs.Length.{window_length}
use Rattle.coxeter.specs.Checks.{wrong_letter}
use Rattle.coxeter.specs.NormalForm.{normal_form, IsNormalForm}
use Rattle.coxeter.proofs.Basics.{length-window, window_from-append}
use Rattle.coxeter.proofs.LetterLaws.{letter_within_cons}
use Rattle.coxeter.proofs.Relations.{letters-append}
use Rattle.coxeter.proofs.Products.{window_from-product, window-append}
use Rattle.coxeter.proofs.Inverses.{window_from-reverse}
use Rattle.shortest_words.specs.OneLetter.{Shortest}
use Rattle.shortest_words.specs.Allowed.{Over}
use Rattle.shortest_words.specs.Split.{NoneBegins, IsSplit}
use Rattle.shortest_words.proofs.Subwords.{Subword, subword_same, subword_length, Split, both, subword_split}
use Rattle.shortest_words.proofs.Shortest.{letters-reverse, length_of_shortest, normal_is, shortest_normal}
use Rattle.shortest_words.proofs.Exchange.{window_from_injective}
use Rattle.shortest_words.proofs.Deletion.{Shortened, shortened}
use Rattle.shortest_words.proofs.Allowed.{over-head, over-append, over-reverse, over_subword}

-- ---- a window that no allowed step begins

-- where allowed steps and then v lead to such a window, a part-list of v is a shortest word of it
record ShortestLeft (k : Kind) (n : ℕ) (v : List ℕ) (w : List ℤ) : Type 0 where
  word : List ℕ
  subword : Subword v word
  shortest : Shortest k n word
  shows : window k n word ≡ w

left : (allowed : ℕ → Bool) {k : Kind} {n : ℕ} (u : List ℕ) {v : List ℕ} {w : List ℤ} → least k ≤ n → wrong_letter n (u ++ v) ≡ false → Over allowed u
    → NoneBegins allowed k n w → window k n (u ++ v) ≡ w → ShortestLeft k n v w
left allowed {k} {n} u {v} {w} h e o b q = left_by_cases (subword_split u r.subword) refl
  where
    r : Shortened k n (u ++ v)
    r = shortened k n (u ++ v) h e

    ends : (x y : List ℕ) → Subword u x → Subword v y → x ++ y ≡ r.word → ShortestLeft k n v w
    ends [] y s t g = record { word = y; subword = t; shortest = rw g r.shortest; shows = ap (window k n) g ∙ r.shows ∙ q }
    ends (a ∷ x) y s t g =
        absurd (b a (x ++ y) (over-head allowed a x (over_subword allowed s o)) (rw g r.shortest) (ap (window k n) g ∙ r.shows ∙ q))

    left_by_cases : {x : List ℕ} → Split u v x → x ≡ r.word → ShortestLeft k n v w
    left_by_cases (both {v = x} {y} s t) g = ends x y s t g

-- ---- two splits

-- where u and v lead to the window that x and y lead to, reversed x, then u and v lead to the window of y
reversed_front : (k : Kind) (n : ℕ) (u v x y : List ℕ) → window k n (u ++ v) ≡ window k n (x ++ y) → window k n ((reverse x ++ u) ++ v) ≡ window k n y
unfolding window
reversed_front k n u v x y q =
    ap (window k n) (append_assoc (reverse x) u v)
    ∙ window-append k n (reverse x) (u ++ v)
    ∙ ap (product (window k n (reverse x))) q
    ∙ sym (window-append k n (reverse x) (x ++ y))
    ∙ ap (window k n) (sym (append_assoc (reverse x) x y))
    ∙ window_from-append k n start (reverse x ++ x) y
    ∙ ap (λ (w : List ℤ). window_from k n w y) back
  where
    start : List ℤ
    start = identity (lanes k n)

    back : window_from k n start (reverse x ++ x) ≡ start
    back =
        ap (λ (l : List ℕ). window_from k n start (reverse x ++ l)) (sym (reverse-reverse x)) ∙ window_from-reverse k n start (reverse x)

-- a first word over allowed steps and a second that is shortest and that no allowed step begins
pub record Halves (allowed : ℕ → Bool) (k : Kind) (n : ℕ) (u v : List ℕ) : Type 0 where
  pub steps : wrong_letter n u ≡ false
  pub over : Over allowed u
  pub shortest : Shortest k n v
  pub none_begins : NoneBegins allowed k n (window k n v)

module _ (allowed : ℕ → Bool) (k : Kind) (n : ℕ) (u v x y : List ℕ) (h : least k ≤ n) where
  across : Halves allowed k n u v → Halves allowed k n x y → window k n (u ++ v) ≡ window k n (x ++ y) → ShortestLeft k n v (window k n y)
  across a b q =
      let front = letters-append n (reverse x) u (letters-reverse n x b.steps) a.steps in
      left allowed (reverse x ++ u) h (letters-append n (reverse x ++ u) v front a.shortest.steps)
      (over-append allowed (reverse x) u (over-reverse allowed x b.over) a.over) b.none_begins (reversed_front k n u v x y q)

-- a shortest word of the window of y is as long as y
left_length : (k : Kind) (n : ℕ) (v y : List ℕ) → least k ≤ n → Shortest k n y → (l : ShortestLeft k n v (window k n y)) → length l.word ≡ length y
left_length k n v y h s l = length_of_shortest k n l.word h l.shortest ∙ ap (window_length k) l.shows ∙ sym (length_of_shortest k n y h s)

-- two splits of one window have second words with one window, and first words with one window
second_same : {allowed : ℕ → Bool} {k : Kind} {n : ℕ} {u v x y : List ℕ} → least k ≤ n → Halves allowed k n u v → Halves allowed k n x y
    → window k n (u ++ v) ≡ window k n (x ++ y) → window k n v ≡ window k n y
second_same {allowed} {k} {n} {u} {v} {x} {y} h a b q =
    let l = across allowed k n u v x y h a b q in
    let r = across allowed k n x y u v h b a (sym q) in
    let short = left_length k n v y h b.shortest l in
    let long = left_length k n y v h a.shortest r in
    let whole = subword_same l.subword (omega (arith, short, long, subword_length l.subword, subword_length r.subword)) in
    ap (window k n) (sym whole) ∙ l.shows

first_same : (k : Kind) (n : ℕ) (u v x y : List ℕ) → window k n (u ++ v) ≡ window k n (x ++ y) → window k n v ≡ window k n y
    → window k n u ≡ window k n x
first_same k n u v x y q e =
    window_from_injective k n (window k n u) (window k n x) v
    (window_from-product k n (window k n u) v (length-window k n u) ∙ sym (window-append k n u v)
    ∙ q ∙ window-append k n x y ∙ ap (product (window k n x)) (sym e) ∙ sym (window_from-product k n (window k n x) v (length-window k n x)))

halves : (allowed : ℕ → Bool) (k : Kind) (n : ℕ) (w : List ℤ) (u v : List ℕ) → least k ≤ n → IsSplit allowed k n w u v → Halves allowed k n u v
halves allowed k n w u v h s =
    record { steps = s.first_normal.steps; over = s.over; shortest = shortest_normal k n v h s.second_normal; none_begins = s.none_begins }

-- S7
pub split_unique : {allowed : ℕ → Bool} {k : Kind} {n : ℕ} {w : List ℤ} {u v x y : List ℕ} → least k ≤ n → IsSplit allowed k n w u v
    → IsSplit allowed k n w x y → (u ≡ x) × (v ≡ y)
split_unique {allowed} {k} {n} {w} {u} {v} {x} {y} h s t = (
  same u x first s.first_normal t.first_normal,
  same v y second s.second_normal
      t.second_normal,
)
  where
    joined : window k n (u ++ v) ≡ window k n (x ++ y)
    joined = window-append k n u v ∙ s.joins ∙ sym t.joins ∙ sym (window-append k n x y)

    second : window k n v ≡ window k n y
    second = second_same h (halves allowed k n w u v h s) (halves allowed k n w x y h t) joined

    first : window k n u ≡ window k n x
    first = first_same k n u v x y joined second

    same : (a b : List ℕ) → window k n a ≡ window k n b → IsNormalForm k n (window k n a) a → IsNormalForm k n (window k n b) b → a ≡ b
    same a b e f g = normal_is k n a h f ∙ ap (normal_form k n) e ∙ sym (normal_is k n b h g)

-- ---- no step and all steps

-- S8
pub none_allowed : (allowed : ℕ → Bool) (k : Kind) (n : ℕ) (w : List ℤ) (u v : List ℕ) → ((s : ℕ) → 1 ≤ s → s ≤ n → allowed s ≡ false)
    → IsSplit allowed k n w u v → u ≡ []
none_allowed allowed k n w [] v f s = refl
none_allowed allowed k n w (a ∷ u) v f s =
    let l = letter_within_cons n a u s.first_normal.steps in
    absurd (true≢false (sym (over-head allowed a u s.over) ∙ f a l.0 l.1))

-- with all steps allowed the second is
pub all_allowed : (allowed : ℕ → Bool) (k : Kind) (n : ℕ) (w : List ℤ) (u v : List ℕ) → least k ≤ n → ((s : ℕ) → 1 ≤ s → s ≤ n → allowed s ≡ true)
    → IsSplit allowed k n w u v → v ≡ []
all_allowed allowed k n w u [] h f s = refl
all_allowed allowed k n w u (a ∷ v) h f s =
    let m = shortest_normal k n (a ∷ v) h s.second_normal in
    let l = letter_within_cons n a v m.steps in
    absurd (s.none_begins a v (f a l.0 l.1) m refl)
