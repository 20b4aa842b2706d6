-- Every list of bytes, of every length, has its outcome: each refusal is the number of the first test that holds,
-- in checking order, or 0 where none does. Shown by taking the definitions apart into their single tests.
-- Assumes nothing.
use mathlib.Core.Path.{◌≡◌, refl, sym, ap, ◌∙◌}
use mathlib.Core.Bool.{Bool, true, false, not}
use mathlib.Core.List.{List, [], ◌∷◌, ◌++◌}
use Prim.Native.Nat.{ℕ, zero, suc, ◌+◌, ◌≤◌, ◌<◌}
use native.Mathlib.Decide.{ℕ_discrete}
use native.Mathlib.Omega.{arith}
use lib.Dec.{eqb}
use lib.ListN.{length, get_or}
use borrow.Author.Tests.{eq-eqb}
use Rattle.coxeter.specs.Kinds.{pick, kind_of, lanes}
use Rattle.coxeter.specs.Checks.{first_of, check, ◌then◌, wrong_kind, too_long, wrong_letter, too_short, word_refusal}
use Rattle.coxeter.specs.Calls.{answer_of, writes}
use Rattle.book_format.specs.declared.Edition.{Edition}
use Rattle.book_format.specs.declared.Edition.TheVariants.{First, Second}
use Rattle.book_format.specs.Books.{count, wrong_size, wrong_count, misplaced, no_such_preset, too_large}
use Rattle.book_format.specs.Books.{retired, offset, kind_at, rank_at, letters_at, wrong_rank_in_book, wrong_lane_count}
use Rattle.book_format.specs.Books.{book_rank_refusal, book_refusal, record_refusal, preset_refusal, appended, append_refusal}
use Rattle.book_format.specs.Conversion.{converted, too_many_lanes, record_conversion_refusal, records_conversion_refusal}
use Rattle.book_format.specs.Conversion.{conversion_refusal, converting, record_tests, records_tests}
use Rattle.coxeter.proofs.FirstFailing.{check_then}
use Rattle.coxeter.proofs.Basics.{by_pick}
use Rattle.coxeter.proofs.Refusals.{then_none, then_some, then_assoc}

pub check_then_landed : (m : ℕ) (t : Bool) (r : ℕ) → 0 < m → (check m t then r) ≡ pick t m r
check_then_landed m true r h = then_some m r (omega arith)
check_then_landed m false r h = then_none 0 r refl

-- ---- a book

pub book_refusal-first_of : (ed : Edition) (b : List ℕ) → book_refusal ed b ≡ first_of ((1, wrong_size b) ∷ (2, wrong_count b) ∷ (3, misplaced ed b) ∷ [])
unfolding book_refusal
book_refusal-first_of ed b =
    rw (
      check_then 0 (wrong_size b) {s = check 2 (wrong_count b) then check 3 (misplaced ed b)} refl,
      check_then 1 (wrong_count b) {s = check 3 (misplaced ed b)} refl,
    )

-- checks 1 to 3, and then others
pub book_refusal_then : (ed : Edition) (b : List ℕ) (r : ℕ) → (book_refusal ed b then r)
    ≡ pick (wrong_size b) 1 (pick (wrong_count b) 2 (pick (misplaced ed b) 3 r))
unfolding book_refusal
book_refusal_then ed b r =
    then_assoc (check 1 (wrong_size b)) (check 2 (wrong_count b) then check 3 (misplaced ed b)) r
    ∙ check_then 0 (wrong_size b) refl
    ∙ ap (pick (wrong_size b) 1)
    (then_assoc (check 2 (wrong_count b)) (check 3 (misplaced ed b)) r
    ∙ check_then 1 (wrong_count b) refl
    ∙ ap (pick (wrong_count b) 2) (check_then 2 (misplaced ed b) {s = r} refl))

-- ---- a kind, a rank and a word

rank_then : (ed : Edition) (k n r : ℕ) → (book_rank_refusal ed k n then r) ≡ pick (wrong_kind k) 5 (pick (wrong_rank_in_book ed (kind_of k) n) 6 r)
unfolding book_rank_refusal
rank_then ed k n r =
    then_assoc (check 5 (wrong_kind k)) (check 6 (wrong_rank_in_book ed (kind_of k) n)) r
    ∙ check_then 4 (wrong_kind k) refl
    ∙ ap (pick (wrong_kind k) 5) (check_then 5 (wrong_rank_in_book ed (kind_of k) n) {s = r} refl)

word_then : (n : ℕ) (u : List ℕ) (r : ℕ) → (word_refusal n u then r) ≡ pick (too_long u) 7 (pick (wrong_letter n u) 8 r)
unfolding word_refusal
word_then n u r =
    then_assoc (check 7 (too_long u)) (check 8 (wrong_letter n u)) r
    ∙ check_then 6 (too_long u) refl
    ∙ ap (pick (too_long u) 7) (check_then 7 (wrong_letter n u) {s = r} refl)

none_last : (s : ℕ) → (s then 0) ≡ s
none_last s = elim (ℕ_discrete s 0) [ yes z ↦ then_none s 0 z ∙ sym z | no f ↦ then_some s 0 f ]

-- ---- a preset by its number, and appending

-- I26, CO2: a record, wherever it stands, is refused by the first that fails of checks 5, 6, 17, 7 and 8
pub record_refusal-first_of : (ed : Edition) (b : List ℕ) (o : ℕ) → record_refusal ed b o
    ≡ first_of
    ((5, wrong_kind (kind_at b o))
    ∷ (6, wrong_rank_in_book ed (kind_of (kind_at b o)) (rank_at b o))
    ∷ (17, wrong_lane_count ed b o)
    ∷ (7, too_long (letters_at ed b o))
    ∷ (8, wrong_letter (rank_at b o) (letters_at ed b o))
    ∷ [])
unfolding record_refusal
record_refusal-first_of ed b o =
    let k = kind_at b o in
    let n = rank_at b o in
    let u = letters_at ed b o in
    rank_then ed k n (check 17 (wrong_lane_count ed b o) then word_refusal n u)
    ∙ ap (λ r. pick (wrong_kind k) 5 (pick (wrong_rank_in_book ed (kind_of k) n) 6 r))
    (check_then 16 (wrong_lane_count ed b o) refl
    ∙ ap (pick (wrong_lane_count ed b o) 17) (sym (none_last (word_refusal n u)) ∙ word_then n u 0))

pub preset_refusal-first_of : (ed : Edition) (b : List ℕ) (i : ℕ) → let o = offset b i in
    preset_refusal ed b i
    ≡ first_of
    ((1, wrong_size b)
    ∷ (2, wrong_count b)
    ∷ (3, misplaced ed b)
    ∷ (4, no_such_preset b i)
    ∷ (5, wrong_kind (kind_at b o))
    ∷ (6, wrong_rank_in_book ed (kind_of (kind_at b o)) (rank_at b o))
    ∷ (17, wrong_lane_count ed b o)
    ∷ (7, too_long (letters_at ed b o))
    ∷ (8, wrong_letter (rank_at b o) (letters_at ed b o))
    ∷ [])
unfolding preset_refusal
preset_refusal-first_of ed b i =
    let o = offset b i in
    book_refusal_then ed b (check 4 (no_such_preset b i) then record_refusal ed b o)
    ∙ ap (λ r. pick (wrong_size b) 1 (pick (wrong_count b) 2 (pick (misplaced ed b) 3 r)))
    (check_then 3 (no_such_preset b i) refl ∙ ap (pick (no_such_preset b i) 4) (record_refusal-first_of ed b o))

pub append_refusal-first_of : (ed : Edition) (b : List ℕ) (k n : ℕ) (u : List ℕ)
    → append_refusal ed b k n u
    ≡ first_of
    ((1, wrong_size b)
    ∷ (2, wrong_count b)
    ∷ (3, misplaced ed b)
    ∷ (5, wrong_kind k)
    ∷ (6, wrong_rank_in_book ed (kind_of k) n)
    ∷ (7, too_long u)
    ∷ (8, wrong_letter n u)
    ∷ (21, retired k n)
    ∷ (13, too_large (length (appended ed b k n u)))
    ∷ [])
unfolding append_refusal
append_refusal-first_of ed b k n u =
    book_refusal_then ed b (book_rank_refusal ed k n then word_refusal n u then check 21 (retired k n) then check 13 (too_large (length (appended ed b k n u))))
    ∙ ap (λ r. pick (wrong_size b) 1 (pick (wrong_count b) 2 (pick (misplaced ed b) 3 r)))
    (rank_then ed k n (word_refusal n u then check 21 (retired k n) then check 13 (too_large (length (appended ed b k n u))))
    ∙ ap (λ r. pick (wrong_kind k) 5 (pick (wrong_rank_in_book ed (kind_of k) n) 6 r))
    (word_then n u (check 21 (retired k n) then check 13 (too_large (length (appended ed b k n u))))
    ∙ ap (λ r. pick (too_long u) 7 (pick (wrong_letter n u) 8 r)) (check_then 20 (retired k n) refl)))

-- ---- converting

-- a record's tests, and then others
record_then : (ed : Edition) (b : List ℕ) (i : ℕ) (fs : List (ℕ × Bool))
    → (record_conversion_refusal ed b (offset b i) then first_of fs) ≡ first_of (record_tests ed b i ++ fs)
unfolding record_conversion_refusal record_refusal
record_then ed b i fs =
    let o = offset b i in
    let k = kind_at b o in
    let n = rank_at b o in
    let u = letters_at ed b o in
    let rank = book_rank_refusal ed k n in
    let lane = check 17 (wrong_lane_count ed b o) in
    let word = word_refusal n u in
    let few = check 18 (too_many_lanes ed b o) in
    let rest = few then first_of fs in
    then_assoc (rank then (lane then word)) few (first_of fs)
    ∙ then_assoc rank (lane then word) rest
    ∙ rank_then ed k n ((lane then word) then rest)
    ∙ ap (λ r. pick (wrong_kind k) 5 (pick (wrong_rank_in_book ed (kind_of k) n) 6 r))
    (then_assoc lane word rest
    ∙ check_then 16 (wrong_lane_count ed b o) {s = word then rest} refl
    ∙ ap (pick (wrong_lane_count ed b o) 17)
    (word_then n u rest ∙ ap (λ r. pick (too_long u) 7 (pick (wrong_letter n u) 8 r)) (check_then 17 (too_many_lanes ed b o) {s = first_of fs} refl)))

-- the refusal of a record in a conversion
pub record_conversion_refusal-first_of : (ed : Edition) (b : List ℕ) (i : ℕ) → record_conversion_refusal ed b (offset b i) ≡ first_of (record_tests ed b i)
record_conversion_refusal-first_of ed b i = sym (none_last (record_conversion_refusal ed b (offset b i))) ∙ record_then ed b i []

records_then : (ed : Edition) (b : List ℕ) (t i : ℕ) (fs : List (ℕ × Bool))
    → (records_conversion_refusal ed b t i then first_of fs) ≡ first_of (records_tests ed b t i ++ fs)
unfolding records_conversion_refusal records_tests
records_then ed b zero i fs = refl
records_then ed b (suc t) i fs =
    then_assoc (record_conversion_refusal ed b (offset b i)) (records_conversion_refusal ed b t (suc i)) (first_of fs)
    ∙ ap (λ r. record_conversion_refusal ed b (offset b i) then r) (records_then ed b t (suc i) fs)
    ∙ record_then ed b i (records_tests ed b t (suc i) ++ fs)

pub conversion_refusal-first_of : (ed : Edition) (b : List ℕ)
    → conversion_refusal ed b
    ≡ first_of
    ((1, wrong_size b)
    ∷ (2, wrong_count b)
    ∷ (3, misplaced ed b)
    ∷ (records_tests ed b (count b) 0 ++ ((13, too_large (length (converted ed b))) ∷ [])))
unfolding conversion_refusal
conversion_refusal-first_of ed b =
    let large : List (ℕ × Bool) = (13, too_large (length (converted ed b))) ∷ [] in
    book_refusal_then ed b (records_conversion_refusal ed b (count b) 0 then first_of large)
    ∙ ap (λ r. pick (wrong_size b) 1 (pick (wrong_count b) 2 (pick (misplaced ed b) 3 r))) (records_then ed b (count b) 0 large)

-- and check 14 of its output after them
pub converting-first_of : (ed : Edition) (b out : List ℕ)
    → (converting ed b out).answer
    ≡ answer_of
    (first_of
    ((1, wrong_size b)
    ∷ (2, wrong_count b)
    ∷ (3, misplaced ed b)
    ∷ (records_tests ed b (count b) 0 ++ ((13, too_large (length (converted ed b))) ∷ (14, too_short (length (converted ed b)) out) ∷ []))))
    (length (converted ed b))
unfolding converting writes conversion_refusal
converting-first_of ed b out =
    let l = length (converted ed b) in
    let records = records_conversion_refusal ed b (count b) 0 in
    let large = check 13 (too_large l) in
    let short = check 14 (too_short l out) in
    let both : List (ℕ × Bool) = (13, too_large l) ∷ (14, too_short l out) ∷ [] in
    ap (λ r. answer_of r l)
    (then_assoc (book_refusal ed b) (records then large) short
    ∙ book_refusal_then ed b ((records then large) then short)
    ∙ ap (λ r. pick (wrong_size b) 1 (pick (wrong_count b) 2 (pick (misplaced ed b) 3 r)))
    (then_assoc records large short
    ∙ ap (λ r. records then r) (check_then 12 (too_large l) {s = short} refl)
    ∙ records_then ed b (count b) 0 both))

-- ---- their ranges

pick_le : (t : Bool) (m r x : ℕ) → m ≤ x → r ≤ x → pick t m r ≤ x
pick_le t m r x = by_pick (λ s. s ≤ x) t m r

pub book_refusal_le : (ed : Edition) (b : List ℕ) → book_refusal ed b ≤ 3
book_refusal_le ed b =
    rw (book_refusal-first_of ed b)
    (pick_le (wrong_size b) 1 _ 3 (omega arith) (pick_le (wrong_count b) 2 _ 3 (omega arith) (pick_le (misplaced ed b) 3 0 3 (omega arith) (omega arith))))

pub preset_refusal_le : (ed : Edition) (b : List ℕ) (i : ℕ) → preset_refusal ed b i ≤ 17
preset_refusal_le ed b i =
    let o = offset b i in
    rw (preset_refusal-first_of ed b i)
    (pick_le (wrong_size b) 1 _ 17 (omega arith)
    (pick_le (wrong_count b) 2 _ 17 (omega arith)
    (pick_le (misplaced ed b) 3 _ 17 (omega arith)
    (pick_le (no_such_preset b i) 4 _ 17 (omega arith)
    (pick_le (wrong_kind (kind_at b o)) 5 _ 17 (omega arith)
    (pick_le (wrong_rank_in_book ed (kind_of (kind_at b o)) (rank_at b o)) 6 _ 17 (omega arith)
    (pick_le (wrong_lane_count ed b o) 17 _ 17 (omega arith)
    (pick_le (too_long (letters_at ed b o)) 7 _ 17 (omega arith)
    (pick_le (wrong_letter (rank_at b o) (letters_at ed b o)) 8 0 17 (omega arith) (omega arith))))))))))

-- the first edition has no check 17: a record there passes it whatever its bytes
pub first_lane-count : (b : List ℕ) (o : ℕ) → wrong_lane_count First b o ≡ false
unfolding wrong_lane_count
first_lane-count b o = let m = lanes (kind_of (kind_at b o)) (rank_at b o) in rw (eq-eqb m m refl)

-- and in the second it compares the byte after the rank: m is the lane count that kind and rank make
pub second_lane-count : (b : List ℕ) (o m : ℕ) → m ≡ lanes (kind_of (kind_at b o)) (rank_at b o) → not (eqb (get_or b (o + 2) 0) m) ≡ wrong_lane_count Second b o
unfolding wrong_lane_count
second_lane-count b o m e = rw e
