-- Further wrong definitions, one or two of each crate, in the form of WrongDefinitions: the wrong definition, the law
-- as a predicate, and that the law tells the right definition and the wrong one apart.
--
-- Sections: words and windows; rewriting; fallbacks; the delay table; books; listings.
-- Assumes nothing.
use mathlib.Core.Path.{◌≡◌, refl, sym, ap, ◌∙◌}
use mathlib.Core.Bool.{Bool, true, false, not, ◌&&◌, ◌||◌, false≢true}
use mathlib.Core.Logic.{◌↔◌, ◌⊎◌, inl, inr}
use mathlib.Core.List.Memᴰ
use mathlib.Core.List.{List, [], ◌∷◌, ◌++◌, map}
use mathlib.Core.Option.{Option, none, some}
use Prim.Native.Nat.{ℕ, zero, suc, ◌+◌, ◌-◌, ◌*◌, ◌/◌, ◌%◌, ◌≤◌, ◌<◌}
use native.Mathlib.Omega.{arith}
use Prim.Native.Char.{code}
use lib.Dec.{eqb, ltb}
use lib.IntN.{ℤ, pos, nat_abs}
use lib.ListN.{length, get_or, drop, replicate, length-replicate, length-append, length-map}
use borrow.Author.Tests.{lt-ltb}
use Rattle.coxeter.specs.declared.Kind.{Kind}
use Rattle.coxeter.specs.declared.Kind.TheVariants.{A, B}
use Rattle.coxeter.specs.Kinds.{pick, kind_of, least}
use Rattle.coxeter.specs.Windows.{window}
use Rattle.coxeter.specs.Length.{negative, window_length, greatest_length}
use Rattle.coxeter.specs.Relations.{Application}
use Rattle.coxeter.specs.Checks.{wrong_kind, wrong_rank, too_long, wrong_letter, rank_refusal, word_refusal, negative_in_A, wrong_entry, WindowOf}
use Rattle.coxeter.proofs.WindowsExactly.{wrong_entry_exactly}
use Rattle.coxeter.proofs.RelationSides.{application_exactly}
use Rattle.rules.specs.Rules.{Rule, rule, fits, rewritten}
use Rattle.rules.specs.Calls.{Interface, past_end, rewrite_at, new_word_in, single}
use Rattle.rules.specs.Runs.{AcceptedWord, Arguments, Call, Run, Machine, machine, word_left}
use Rattle.rules.specs.Demand3.{Demand3Holds}
use Rattle.rules.proofs.Occurrences.{fits_exactly}
use Rattle.rules.proofs.CallLists.{every_list_runs}
use Rattle.rules.proofs.Demand3.{demand3}
use Rattle.rules.proofs.Sentences.{as_the_machine}
use Rattle.traces.specs.Traces as traces
use Rattle.traces.specs.Traces.{Trace, lowest_redex, trace_within, trace}
use Rattle.traces.proofs.StepsReached.{steps_reached}
use Rattle.shortest_words.specs.Fallback.{subword_at, SubwordPlaces}
use Rattle.shortest_words.proofs.FreePlaces.{subword_places_exactly}
use Rattle.distribution.specs.AllWindows.{In, Once}
use Rattle.distribution.specs.Distribution.{of_length}
use Rattle.distribution.specs.Longest.{longest}
use Rattle.distribution.proofs.Longest.{longest_is}
use Rattle.distribution.proofs.Counted.{of_length_exactly}
use Rattle.book_format.specs.declared.Edition.{Edition}
use Rattle.book_format.specs.declared.Edition.TheVariants.{First}
use Rattle.book_format.specs.Books.{count, trailer, offset, end_at, misplaced}
use Rattle.book_format.proofs.OpenedExactly.{placed_exactly}
use Rattle.book_format.proofs.BookBytes.{read_from_the_end, record_in_first}
use Rattle.listing_text.specs.Text.{digits, decimal}
use Rattle.listing_text.proofs.TextExactly.{decimal_exactly}
use Rattle.examples.proofs.WrongDefinitions.{TellsApart}

-- ---- words and windows

-- a repeated size is found in neighbouring entries only
abbrev pub size_of_the_next : ℕ → List ℤ → Bool
size_of_the_next s [] = false
size_of_the_next s (e ∷ w) = eqb (nat_abs e) s

abbrev pub repeated_next_only : Kind → ℕ → List ℤ → Bool
repeated_next_only k m [] = false
repeated_next_only k m (e ∷ w) =
    (eqb (nat_abs e) 0 || (ltb m (nat_abs e) || (size_of_the_next (nat_abs e) w || negative_in_A k e))) || repeated_next_only k m w

-- C10: the law `wrong_entry_exactly`
abbrev pub WrongEntryExactly : (Kind → ℕ → List ℤ → Bool) → Type 0
WrongEntryExactly wrong =
    (k : Kind) (m : ℕ) (w : List ℤ) → (wrong k m w ≡ true)
    ↔ ((i : ℕ) × (i < length w) × (let e = get_or w i (pos 0) in
    (nat_abs e ≡ 0) ⊎ ((m < nat_abs e)
    ⊎ (((j : ℕ) × (j < i) × (nat_abs (get_or w j (pos 0)) ≡ nat_abs e)) ⊎ ((k ≡ A) × (negative e ≡ true))))))

-- Q12, C10: the law rules out that a repeated size is found in neighbouring entries only, by 1 2 1 in B₃
pub repeated_next_only_ruled_out : TellsApart WrongEntryExactly wrong_entry repeated_next_only
unfolding negative_in_A
repeated_next_only_ruled_out = (
  wrong_entry_exactly,
  λ law. false≢true ((law B 3 (pos 1 ∷ pos 2 ∷ pos 1 ∷ [])).1 (2, omega arith, inr (inr (inl (0, omega arith, refl))))),
)

-- a relation is used from its left side to its right side only
abbrev pub ApplicationForth : (List ℕ → List ℕ → Type 0) → List ℕ → List ℕ → Type 0
ApplicationForth R u v = (x y l r : List ℕ) × R l r × (u ≡ x ++ (l ++ y)) × (v ≡ x ++ (r ++ y))

-- E6: the law `application_exactly`
abbrev pub ApplicationExactly : ((List ℕ → List ℕ → Type 0) → List ℕ → List ℕ → Type 0) → Type 1
ApplicationExactly once =
    (R : List ℕ → List ℕ → Type 0) (u v : List ℕ) → once R u v
    ↔ ((x y l r : List ℕ) × (R l r ⊎ R r l) × (u ≡ x ++ (l ++ y)) × (v ≡ x ++ (r ++ y)))

-- Q12, E6: the law rules out that a relation is used in one direction, by one that takes a letter 1 away
pub ApplicationForth_ruled_out : TellsApart ApplicationExactly Application ApplicationForth
ApplicationForth_ruled_out = (
  application_exactly,
  λ law.
      let (x, y, l, r, c, e, f) = (law (λ l r. (l ≡ 1 ∷ []) × (r ≡ [])) [] (1 ∷ [])).1 ([], [], [], 1 ∷ [], inr (refl, refl), refl, refl) in
      let left = ap length c.0 in
      let word = ap length e in
      omega (arith, length-append x (l ++ y), length-append l y),
)

-- ---- rewriting

-- a left side may hang over the word's end
abbrev pub begins_as_far_as_there : List ℕ → List ℕ → Bool
begins_as_far_as_there [] v = true
begins_as_far_as_there (a ∷ u) [] = true
begins_as_far_as_there (a ∷ u) (b ∷ v) = eqb a b && begins_as_far_as_there u v

abbrev pub fits_over_the_end : Rule → List ℕ → ℕ → Bool
fits_over_the_end x u p = begins_as_far_as_there x.left (drop p u)

-- R14: the law `fits_exactly`
abbrev pub FitsExactly : (Rule → List ℕ → ℕ → Bool) → Type 0
FitsExactly fit =
    (x : Rule) (u : List ℕ) (p : ℕ) → 1 ≤ length x.left
    → (fit x u p ≡ true) ↔ ((before after : List ℕ) × (length before ≡ p) × (u ≡ before ++ (x.left ++ after)))

-- Q12, R14: the law rules out that a left side hangs over the end, by 1 1 in the word 1
pub fits_over_the_end_ruled_out : TellsApart FitsExactly fits fits_over_the_end
fits_over_the_end_ruled_out = (
  fits_exactly,
  λ law.
      let (before, after, e, f) = (law (rule 1 1 0 (1 ∷ 1 ∷ []) []) (1 ∷ []) 0 (omega arith)).0 refl in
      let z = ap length f in
      let a = length-append before (1 ∷ 1 ∷ after) in
      omega arith,
)

-- the machine stops at the first call that used no rule
abbrev pub machine_stops : (s : Interface) → ℕ → ℕ → List ℕ → List (Arguments s) → Machine s
machine_stops s k n u [] = record { results = []; word = u }
machine_stops s k n u (a ∷ rest) =
    let t = rewrite_at s k n u a.place a.outputs in
    let later : Machine s = elim (s.new_word t.answer t.outputs) [ none ↦ record { results = []; word = u } | some w ↦ machine_stops s k n w rest ] in
    record { results = record { answer = t.answer; outputs = t.outputs } ∷ later.results; word = later.word }

-- T13: the law `as_the_machine`
abbrev pub AsTheMachine : ((s : Interface) → ℕ → ℕ → List ℕ → List (Arguments s) → Machine s) → Type 1
AsTheMachine made =
    (s : Interface) → Demand3Holds s → (k n : ℕ) (u : List ℕ) → AcceptedWord k n u → (cs : List (Call s)) → Run s k n u cs
    → let m = made s k n u (map (λ (c : Call s). c.arguments) cs) in
    (map (λ (c : Call s). c.result) cs ≡ m.results) × (word_left s u cs ≡ m.word)

-- Q12, T12, T13: the law rules out that the machine stops at a call that used no rule, by two calls on the empty word
pub machine_stops_ruled_out : TellsApart AsTheMachine machine machine_stops
unfolding rewrite_at rank_refusal word_refusal wrong_kind wrong_rank kind_of too_long wrong_letter past_end new_word_in
machine_stops_ruled_out = (
  as_the_machine,
  λ law.
      let (cs, e, r) = every_list_runs single 1 1 [] (given ∷ given ∷ []) in
      let f = (law single demand3 1 1 [] (record { rank = refl; word = refl }) cs r).0 in
      let z : length cs ≡ 1 =
      sym (length-map cs (λ (c : Call single). c.result))
      ∙ ap length (rw e at f) in
      let y : length cs ≡ 2 = sym (length-map cs (λ (c : Call single). c.arguments)) ∙ ap length e in
      omega arith,
)
  where
    given : Arguments single
    given = record { place = 0; outputs = [] }

-- the rewriting to its end stops after 60,000 steps
abbrev pub trace_up_to60000 : Kind → ℕ → List ℕ → Trace
trace_up_to60000 k n u = trace_within k n 60000 u

-- T25: the law `steps_reached`
abbrev pub StepsReached : (Kind → ℕ → List ℕ → Trace) → Type 0
StepsReached traced =
    (k : Kind) (n m : ℕ) → least k ≤ n → 2 * m < n
    → (u : List ℕ) × (length u ≡ m) × (wrong_letter n u ≡ false) × (length (traced k n u).lines ≡ m * (m - 1) / 2)

-- a rewriting of at most t steps has at most t lines
within : (t : ℕ) (k : Kind) (n : ℕ) (u : List ℕ) → length (trace_within k n t u).lines ≤ t
unfolding trace_within
within zero k n u = omega arith
within (suc t) k n u = within_by_cases (lowest_redex k n u) refl (λ x. within t k n (rewritten x.rule u x.place))
  where
    within_by_cases : (o : Option traces.Redex) → lowest_redex k n u ≡ o
        → ((x : traces.Redex) → length (trace_within k n t (rewritten x.rule u x.place)).lines ≤ t)
        → length (trace_within k n (suc t) u).lines ≤ suc t
    within_by_cases none e f = rw (e, trace_within) (omega arith)
    within_by_cases (some x) e f = rw (e, trace_within) (omega (arith, f x))

-- Q12, T19, T25: the law rules out that a rewriting stops after 60,000 steps, by a word that takes 79,800
pub trace_up_to60000_ruled_out : TellsApart StepsReached trace trace_up_to60000
trace_up_to60000_ruled_out = (steps_reached, fails 60000 (omega arith))
  where
    fails : (t : ℕ) → t < 79800 → StepsReached (λ k n u. trace_within k n t u) → ⊥
    fails t h law = let (u, e, w, l) = law A 801 400 (omega arith) (omega arith) in let m = within t A 801 u in omega arith

-- ---- fallbacks

-- a place may be kept twice
abbrev pub NotFalling : ℕ → ℕ → List ℕ → Type 0
NotFalling m low [] = Unit {0}
NotFalling m low (p ∷ ps) = (low ≤ p) × (p < m) × NotFalling m p ps

abbrev pub SubwordPlacesTwice : Kind → ℕ → List ℕ → List ℤ → List ℕ → Type 0
SubwordPlacesTwice k n u w ps = NotFalling (length u) 0 ps × (window k n (subword_at u ps) ≡ w)

-- F2, F3: the law `subword_places_exactly`
abbrev pub SubwordPlacesExactly : (Kind → ℕ → List ℕ → List ℤ → List ℕ → Type 0) → Type 0
SubwordPlacesExactly serve =
    (k : Kind) (n : ℕ) (u : List ℕ) (w : List ℤ) (ps : List ℕ) → serve k n u w ps
    ↔ (((i : ℕ) → i < length ps → get_or ps i 0 < length u)
    × ((i j : ℕ) → i < j → j < length ps → get_or ps i 0 < get_or ps j 0) × (window k n (subword_at u ps) ≡ w))

-- Q12, F3: the law rules out that a place is kept twice, by place 0 of the word 1
pub SubwordPlacesTwice_ruled_out : TellsApart SubwordPlacesExactly SubwordPlaces SubwordPlacesTwice
SubwordPlacesTwice_ruled_out = (
  subword_places_exactly,
  λ law.
      let ps : List ℕ = 0 ∷ 0 ∷ [] in
      let rise = ((law A 1 (1 ∷ []) (window A 1 (subword_at (1 ∷ []) ps)) ps).0 ((omega arith, omega arith, (omega arith, omega arith, tt)), refl)).1 in
      let z = rise 0 1 (omega arith) (omega arith) in
      omega arith,
)

-- ---- the delay table

-- the longest window is not counted
abbrev pub without_the_longest : Kind → ℕ → ℕ → ℕ
without_the_longest k n l = pick (eqb l (greatest_length k n)) 0 (of_length k n l)

-- Y1, Y2: the law `of_length_exactly`
abbrev pub OfLengthExactly : (Kind → ℕ → ℕ → ℕ) → Type 0
OfLengthExactly number =
    (k : Kind) (n l : ℕ) (c : ℕ) → (number k n l ≡ c)
    ↔ ((ws : List (List ℤ)) × Once ws × ((w : List ℤ) → In w ws ↔ (WindowOf k n w × (window_length k w ≡ l))) × (length ws ≡ c))

-- Q12, Y1: the law rules out that the longest window is not counted, by that of B₂
pub without_the_longest_ruled_out : TellsApart OfLengthExactly of_length without_the_longest
without_the_longest_ruled_out = (
  of_length_exactly,
  λ law.
      let (ws, once, exactly, size) = (law B 2 4 0).0 refl in
      let l = longest_is B 2 (omega arith) in
      empty ws ((exactly (longest B 2)).1 (l.passes, l.greatest)) size,
)
  where
    empty : (ws : List (List ℤ)) → In (longest B 2) ws → length ws ≡ 0 → ⊥
    empty [] m e = Memᴰ.not-nil m
    empty (w ∷ ws) m e = omega arith

-- ---- books

-- in a book above 32,768 bytes no record is looked at
abbrev pub gap_in_large_books : Edition → List ℕ → Bool
gap_in_large_books ed b = not (ltb 32768 (length b)) && misplaced ed b

-- C3: the law `placed_exactly`
abbrev pub PlacedExactly : (Edition → List ℕ → Bool) → Type 0
PlacedExactly test =
    (ed : Edition) (b : List ℕ) → (test ed b ≡ false)
    ↔ ((count b ≡ 0 → trailer b ≡ 0)
    × (0 < count b → offset b 0 ≡ 0)
    × ((i : ℕ) → i + 1 < count b → offset b (i + 1) ≡ end_at ed b (offset b i))
    × ((i : ℕ) → i < count b → end_at ed b (offset b i) ≤ trailer b)
    × ((i : ℕ) → i + 1 ≡ count b → end_at ed b (offset b i) ≡ trailer b))

-- Q12, C3: the law rules out that the records of a large book are not looked at, by a gap of 40,000 bytes
pub gap_in_large_books_ruled_out : TellsApart PlacedExactly misplaced gap_in_large_books
gap_in_large_books_ruled_out = (placed_exactly, λ law. fails law (replicate 40000 0) (length-replicate {A = ℕ} 40000 0))
  where
    fails : PlacedExactly gap_in_large_books → (gap : List ℕ) → length gap ≡ 40000 → ⊥
    fails law gap l =
        let b : List ℕ = (2 ∷ 3 ∷ 0 ∷ 0 ∷ gap) ++ ((0 ∷ 0 ∷ []) ++ (1 ∷ 0 ∷ [])) in
        let size = length-append (2 ∷ 3 ∷ 0 ∷ 0 ∷ gap) (0 ∷ 0 ∷ 1 ∷ 0 ∷ []) in
        let large : ltb 32768 (length b) ≡ true = lt-ltb 32768 (length b) (omega arith) in
        let (c, t, o) = read_from_the_end (2 ∷ 3 ∷ 0 ∷ 0 ∷ gap) (0 ∷ 0 ∷ []) 1 0 refl in
        let p = (law First b).0 (rw large) in
        let begins = o 0 (omega arith) in
        let e = rw begins at (p.4 0 (sym c)) in
        let ends = (record_in_first [] (gap ++ (0 ∷ 0 ∷ 1 ∷ 0 ∷ [])) 2 3 0 0).5 in
        omega arith

-- ---- listings

-- numbers of more than four digits lose those in front
abbrev pub four_digits : ℕ → List ℕ
four_digits x = decimal (x % 10000)

-- P5: the law `decimal_exactly`
abbrev pub DecimalExactly : (ℕ → List ℕ) → Type 0
DecimalExactly written =
    ((x : ℕ) → x < 10 → written x ≡ (code "0" + x) ∷ [])
    × ((x d : ℕ) → 1 ≤ x → d < 10 → written (10 * x + d) ≡ written x ++ ((code "0" + d) ∷ []))

-- Q12, P5: the law rules out that numbers lose digits in front, by 10,000
pub four_digits_ruled_out : TellsApart DecimalExactly decimal four_digits
unfolding decimal digits
four_digits_ruled_out = (decimal_exactly, λ law. let z = ap length (law.1 1000 0 (omega arith) (omega arith)) in omega arith)
