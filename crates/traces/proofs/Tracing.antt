-- What is left of a rewriting to its end while its steps are noted in three lists: how many steps there will be,
-- what the lists will hold and which word will stand, from any word on the way. Each step noted keeps it, and at a
-- normal form nothing is left. The records are what the contracts of `rewriter` name, and a contract cannot name a
-- definition of its own crate's proofs/; the laws about them lie there.
--
-- Sections: what is left; a step; the end; a letter that moves; the whole.
-- Assumes nothing.
use mathlib.Core.Path.{◌≡◌, refl, sym, ap, ◌∙◌}
use mathlib.Core.Bool.{false}
use mathlib.Core.List.{List, ◌∷◌, ◌++◌}
use mathlib.Core.Option.{some}
use Prim.Native.Nat.{ℕ, zero, suc, ◌+◌, ◌-◌, ◌*◌, ◌≤◌}
use native.Mathlib.Nat.{add-zero, add-suc, suc-add, mul-le-mul}
use native.Mathlib.Numerals.{add-one}
use native.Mathlib.Omega.{arith}
use lib.ListN.{length, take, set, length-append}
use lib.Seq.{sets}
use Rattle.coxeter.specs.declared.Kind.{Kind}
use Rattle.coxeter.specs.Kinds.{kind_of, least}
use Rattle.coxeter.specs.Checks.{wrong_letter}
use Rattle.coxeter.proofs.Acceptance.{rank_within, letters_accepted, length_accepted}
use Rattle.coxeter.proofs.Relations.{letters-append}
use Rattle.rules.specs.Runs.{AcceptedWord}
use Rattle.traces.specs.Traces.{Redex, lowest_redex, Line, Trace, trace, families_of, places_of, lengths_of}
use Rattle.traces.proofs.Traces.{after, line_of, lowest_is, none_of_irreducible, trace_none, trace_some}
use Rattle.traces.proofs.LeastWords.{Normal}
use Rattle.traces.proofs.Reading.{Reading, reading_lowest, after_rest, steps_at_most}

-- ---- what is left

-- the number of steps, what the lists hold and the word, at the end
pub record Finished : Type 0 where
  pub steps : ℕ
  pub families : List ℕ
  pub places : List ℕ
  pub lengths : List ℕ
  pub final : List ℕ

-- after s steps that are noted in the lists, the steps of t are noted behind them
unfoldable pub finish_with : ℕ → List ℕ → List ℕ → List ℕ → Trace → Finished
finish_with s families places lengths t = record {
  steps = s + length t.lines;
  families = sets families s (families_of t.lines);
  places = sets places s (places_of t.lines);
  lengths = sets lengths s (lengths_of t.lines);
  final = t.final;
}

-- the steps of the rewriting of u
abbrev pub finish : Kind → ℕ → ℕ → List ℕ → List ℕ → List ℕ → List ℕ → Finished
finish k n s families places lengths u = finish_with s families places lengths (trace k n u)

-- the steps made and those to come
pub finish_steps : (k : Kind) (n s : ℕ) (families places lengths u : List ℕ)
    → (finish k n s families places lengths u).steps ≡ s + length (trace k n u).lines
unfolding finish_with
finish_steps k n s families places lengths u = refl

-- ---- a step

module _ (s : ℕ) (families places lengths : List ℕ) where
  with_line : (l : Line) (t : Trace) → finish_with s families places lengths (record { lines = l ∷ t.lines; final = t.final })
      ≡ finish_with (s + 1) (set families s l.family) (set places s l.place) (set lengths s l.left) t
  unfolding finish_with
  with_line l t = rw add-one (λ i. record {
    steps = (add-suc s (length t.lines) ∙ sym (suc-add s (length t.lines))) i;
    families = sets (set families s l.family) (suc s) (families_of t.lines);
    places = sets (set places s l.place) (suc s) (places_of t.lines);
    lengths = sets (set lengths s l.left) (suc s) (lengths_of t.lines);
    final = t.final;
  })

  module _ (k : Kind) (n : ℕ) (h : least k ≤ n) where
    pub finish_step : (z : List ℕ) (q : ℕ) (rest : List ℕ) → Reading k n z q → wrong_letter n rest ≡ false → (u : Redex)
        → lowest_redex k n (take (suc q) z) ≡ some u
        → finish k n s families places lengths (z ++ rest)
        ≡ finish k n (s + 1) (set families s u.rule.family) (set places s u.place) (set lengths s (length (after z u) + length rest)) (after z u ++ rest)
    finish_step z q rest r l u e =
        let b = after_rest k n h z q r u e rest in
        let c : length (after (z ++ rest) u) ≡ length (after z u) + length rest = ap length b ∙ length-append (after z u) rest in
        ap (finish_with s families places lengths)
        (trace_some k n h (z ++ rest) u (letters-append n z rest r.letters l) (lowest_is k n (z ++ rest) u (reading_lowest k n h z q r u e rest)))
        ∙ with_line (line_of (z ++ rest) u) (trace k n (after (z ++ rest) u))
        ∙ rw (c, b)

    -- ---- the end

    pub finish_end : (w : List ℕ) → Normal k n w
        → finish k n s families places lengths w ≡ record { steps = s; families = families; places = places; lengths = lengths; final = w }
    unfolding finish_with
    finish_end w m = rw (trace_none k n h w (none_of_irreducible k n w m.irreducible)) (λ i. record {
      steps = add-zero s i;
      families = families;
      places = places;
      lengths = lengths;
      final = w;
    })

-- ---- a letter that moves

-- f 0, f 1 and so on stored in a list from place s on, m of them; past its end none is
unfoldable pub stores : (ℕ → ℕ) → List ℕ → ℕ → ℕ → List ℕ
stores f l s zero = l
stores f l s (suc m) = set (stores f l s m) (s + m) (f m)

-- the letter at place q of `word` moves, the rest follows, and s steps were made before: so many numbers fit, and
-- the three lists are equally long
pub record Ready (k : Kind) (n : ℕ) (rest : List ℕ) (s : ℕ) (families places lengths word : List ℕ) (q : ℕ) : Type 0 where
  pub rank : least k ≤ n
  pub high : n ≤ 64
  pub reading : Reading k n word q
  pub letters : wrong_letter n rest ≡ false
  pub short : length word + length rest ≤ 4096
  pub room : s + length (trace k n (word ++ rest)).lines ≤ 8386560
  pub as_places : length places ≡ length families
  pub as_lengths : length lengths ≡ length families

-- steps were made and noted, none of family 1: the word is as long as before, and the letter has come to place q
pub record Carried (k : Kind) (n : ℕ) (rest : List ℕ) (s : ℕ) (families places lengths word : List ℕ) (s' : ℕ)
    (families' places' lengths' word' : List ℕ) (q : ℕ) : Type 0 where
  pub reading : Reading k n word' q
  pub same : finish k n s families places lengths (word ++ rest) ≡ finish k n s' families' places' lengths' (word' ++ rest)
  pub size : length word' ≡ length word
  pub families_size : length families' ≡ length families
  pub places_size : length places' ≡ length places
  pub lengths_size : length lengths' ≡ length lengths

-- steps were made and noted, and a normal form of `size` letters stands at the front of `word'`
pub record Inserted (k : Kind) (n : ℕ) (rest : List ℕ) (s : ℕ) (families places lengths word : List ℕ) (s' : ℕ)
    (families' places' lengths' word' : List ℕ) (size : ℕ) : Type 0 where
  pub inside : size ≤ length word
  pub normal : Normal k n (take size word')
  pub same : finish k n s families places lengths (word ++ rest) ≡ finish k n s' families' places' lengths' (take size word' ++ rest)

-- ---- the whole

-- a word that passes its checks takes at most 4,096 · 4,095 / 2 steps
pub steps_few : (k n : ℕ) (u : List ℕ) → AcceptedWord k n u → length (trace (kind_of k) n u).lines ≤ 8386560
steps_few k n u h =
    let l = length_accepted n u h.word in
    let m : length u * (length u - 1) ≤ 4096 * 4095 = mul-le-mul {n₁ = length u} {m₁ = length u - 1} {n₂ = 4096} {m₂ = 4095} l (omega arith) in
    omega (arith, steps_at_most (kind_of k) n (rank_within k n h.rank).0 u (letters_accepted n u h.word))

-- the whole rewriting of a word was made: it has so many steps, which stand in the lists, and its final word is at
-- the front of `work`
pub record Made (k : Kind) (n : ℕ) (word families places lengths : List ℕ) (steps : ℕ) (families' places' lengths' work : List ℕ) (size : ℕ) : Type 0 where
  pub inside : size ≤ length work
  pub all : finish k n 0 families places lengths word
      ≡ record { steps = steps; families = families'; places = places'; lengths = lengths'; final = take size work }
