-- Wrong definitions of lists of calls, allowed steps, books and listings, each ruled out by a law that a clause cites,
-- in the form of WrongDefinitions: the wrong definition, the law as a predicate, and that the law tells the right
-- definition and the wrong one apart.
--
-- Sections: lists of calls; allowed steps; books; listings.
-- Assumes nothing.
use mathlib.Core.Path.{◌≡◌, refl, ap, ◌∙◌}
use mathlib.Core.Bool.{Bool, true, not, ◌&&◌}
use mathlib.Core.Logic.{◌↔◌}
use mathlib.Core.List.{List, [], ◌∷◌, ◌++◌, map}
use mathlib.Core.Option.{none, some}
use Prim.Native.Nat.{ℕ, suc, ◌+◌, ◌-◌, ◌*◌, ◌/◌, ◌%◌, ◌^◌, ◌≤◌, ◌<◌}
use native.Mathlib.Omega.{arith}
use lib.Dec.{eqb, leb, ltb}
use lib.ListN.{length, drop, replicate}
use Rattle.coxeter.specs.Kinds.{pick, kind_of, up}
use Rattle.coxeter.specs.Checks.{first_of, wrong_kind, wrong_rank, too_long, wrong_letter, rank_refusal, word_refusal}
use Rattle.coxeter.specs.Calls.{front}
use Rattle.coxeter.proofs.TestLaws.{impossible}
use Rattle.rules.specs.declared.Rewrite.{Rewrite}
use Rattle.rules.specs.declared.Rewrite.TheVariants.{Used, NoneFits, Refused}
use Rattle.rules.specs.Calls.{Interface, past_end, rewrite_at, new_word_in, single}
use Rattle.rules.specs.Runs.{AcceptedWord, Arguments, Call, Meets, Run, IsUsed, uses, word_after}
use Rattle.rules.proofs.CallLists.{every_list_runs, uses_exactly, new_word_exactly}
use Rattle.rules.proofs.Occurrences.{accepted_exactly}
use Rattle.shortest_words.specs.Allowed.{over, allows}
use Rattle.shortest_words.proofs.AllowedSets.{allows_exactly}
use Rattle.book_format.specs.declared.Edition.{Edition}
use Rattle.book_format.specs.declared.Edition.TheVariants.{First}
use Rattle.book_format.specs.answers.Preset.{Preset}
use Rattle.book_format.specs.answers.Preset as preset
use Rattle.book_format.specs.Books.{two_at, two, count, trailer, offset, kind_at, rank_at, letter_count_at, head_size, wrong_size, wrong_count}
use Rattle.book_format.specs.Books.{misplaced_from, misplaced, wrong_rank_in_book, book_rank_refusal, book_refusal, preset_refusal, record_of}
use Rattle.book_format.specs.Records.{Record, record_bytes, offset_bytes, lay_out}
use Rattle.book_format.specs.Calls.{opened_of, preset_of, checked_book, checked_preset}
use Rattle.book_format.proofs.FoundExactly.{found_exactly, preset_of_record}
use Rattle.listing_text.specs.Calls.{line_count_by, line_count, lines, fitting, Piecing, next_piece}
use Rattle.listing_text.proofs.PiecesExactly.{piece_exactly}
use Rattle.examples.proofs.WrongDefinitions.{TellsApart}

-- ---- lists of calls

-- every call of a list has to use a rule
abbrev pub RunOfUses : (s : Interface) → ℕ → ℕ → List ℕ → List (Call s) → Type 0
RunOfUses s k n u [] = Unit {0}
RunOfUses s k n u (c ∷ cs) = Meets s k n u c × IsUsed s c.result × RunOfUses s k n (word_after s u c.result) cs

-- T2, T12: the law `every_list_runs`
abbrev pub EveryListRuns : ((s : Interface) → ℕ → ℕ → List ℕ → List (Call s) → Type 0) → Type 1
EveryListRuns run =
    (s : Interface) (k n : ℕ) (u : List ℕ) (l : List (Arguments s))
    → (cs : List (Call s)) × (map (λ (c : Call s). c.arguments) cs ≡ l) × run s k n u cs

-- Q12, T2: the law rules out that every call of a list has to use a rule, by one call on the empty word
pub RunOfUses_ruled_out : TellsApart EveryListRuns Run RunOfUses
unfolding rewrite_at rank_refusal word_refusal wrong_kind wrong_rank kind_of too_long wrong_letter past_end
RunOfUses_ruled_out = (every_list_runs, λ law. let r = law single 1 1 [] (given ∷ []) in unused r.0 r.1 r.2)
  where
    given : Arguments single
    given = record { place = 0; outputs = [] }

    unused : (cs : List (Call single)) → map (λ (c : Call single). c.arguments) cs ≡ given ∷ [] → RunOfUses single 1 1 [] cs → ⊥
    unused [] e r = let z = ap length e in omega arith
    unused (c ∷ cs) e r =
        let p : c.arguments.place ≡ 0 = cc in
        let refused : c.result.answer ≡ Refused 12 = r.0.answer ∙ rw p in
        let used = ((new_word_exactly _ _ _).0 r.1.1).4 in
        impossible (cc)

-- the count stops at the first call that used no rule
abbrev pub uses_until_unused : (s : Interface) → List (Call s) → ℕ
uses_until_unused s [] = 0
uses_until_unused s (c ∷ cs) = elim (s.new_word c.result.answer c.result.outputs) [ none ↦ 0 | some w ↦ suc (uses_until_unused s cs) ]

-- T11: the law `uses_exactly`
abbrev pub UsesExactly : ((s : Interface) → List (Call s) → ℕ) → Type 1
UsesExactly number =
    (s : Interface) → (number s [] ≡ 0) × ((cs ds : List (Call s)) → number s (cs ++ ds) ≡ number s cs + number s ds)
    × ((c : Call s) → IsUsed s c.result → number s (c ∷ []) ≡ 1)
    × ((c : Call s) → (IsUsed s c.result → ⊥) → number s (c ∷ []) ≡ 0)

-- Q12, T11: the law rules out that the count stops at a call that used no rule, by such a call and one that used a
-- rule
pub uses_until_unused_ruled_out : TellsApart UsesExactly uses uses_until_unused
unfolding new_word_in
uses_until_unused_ruled_out = (uses_exactly, λ law. let e = (law single).1 (call NoneFits ∷ []) (call (Used 1 1 0 0) ∷ []) in omega arith)
  where
    call : Rewrite → Call single
    call a = record { arguments = record { place = 0; outputs = [] }; result = record { answer = a; outputs = [] } }

-- an accepted word has to meet one demand more
abbrev pub OneDemandMore : (ℕ → ℕ → List ℕ → Type 0) → ℕ → ℕ → List ℕ → Type 0
OneDemandMore demand k n u = AcceptedWord k n u × demand k n u

-- T1: the law `accepted_exactly`
abbrev pub AcceptedExactly : (ℕ → ℕ → List ℕ → Type 0) → Type 0
AcceptedExactly accepted =
    (k n : ℕ) (u : List ℕ) → accepted k n u
    ↔ (first_of ((5, wrong_kind k) ∷ (6, wrong_rank (kind_of k) n) ∷ (7, too_long u) ∷ (8, wrong_letter n u) ∷ []) ≡ 0)

-- Q12, T1: the law rules out one demand more, whichever it is, if one accepted word does not meet it
pub OneDemandMore_ruled_out : (demand : ℕ → ℕ → List ℕ → Type 0) (k n : ℕ) (u : List ℕ) → AcceptedWord k n u → (demand k n u → ⊥)
    → TellsApart AcceptedExactly AcceptedWord (OneDemandMore demand)
OneDemandMore_ruled_out demand k n u a f = (accepted_exactly, λ law. f ((law k n u).1 ((accepted_exactly k n u).0 a)).1)

-- ---- allowed steps

-- a set above 2 to the 20 is read as a Gray code, but for the set of all steps of a rank
abbrev pub allows_by_gray_code : ℕ → ℕ → Bool
allows_by_gray_code set s =
    pick (ltb (2 ^ 20) set && over (λ n. not (eqb (set + 1) (2 ^ n))) (up 0 65))
    (eqb ((set / 2 ^ (s - 1) + set / 2 ^ s) % 2) 1) (allows set s)

-- S1: the law `allows_exactly`
abbrev pub AllowsExactly : (ℕ → ℕ → Bool) → Type 0
AllowsExactly allowed =
    (set s : ℕ) → (allowed set s ≡ true)
    ↔ ((high low : ℕ) × (low < 2 ^ (s - 1)) × (set ≡ (2 * high + 1) * 2 ^ (s - 1) + low))

-- Q12, S1: the law rules out that a set is read as a Gray code, by the set of steps 21 and 22, which would allow 20
pub allows_by_gray_code_ruled_out : TellsApart AllowsExactly allows allows_by_gray_code
unfolding over up
allows_by_gray_code_ruled_out = (allows_exactly, λ law. let (high, low, h, e) = (law (2 ^ 20 + 2 ^ 21) 20).0 refl in omega arith)

-- ---- books

-- from preset 100 on the kind and the rank are swapped
abbrev pub swapped_from_preset100 : Edition → List ℕ → ℕ → Preset
swapped_from_preset100 ed b i =
    let o = offset b i in
    let k = pick (leb 100 i) (rank_at b o) (kind_at b o) in
    let n = pick (leb 100 i) (kind_at b o) (rank_at b o) in
    preset_of (preset_refusal ed b i) k n (o + head_size ed) (letter_count_at ed b o)

-- I26: the law `found_exactly`
abbrev pub FoundExactly : (Edition → List ℕ → ℕ → Preset) → Type 0
FoundExactly read =
    (ed : Edition) (b : List ℕ) (i k n s l : ℕ) → let o = offset b i in
    (read ed b i ≡ preset.Found k n s l)
    ↔ ((preset_refusal ed b i ≡ 0) × (k ≡ kind_at b o) × (n ≡ rank_at b o) × (s ≡ o + head_size ed) × (l ≡ letter_count_at ed b o))

-- Q12, I26: the law rules out that kind and rank are swapped from preset 100 on, by a book of 101 presets
pub swapped_from_preset100_ruled_out : TellsApart FoundExactly checked_preset swapped_from_preset100
unfolding book_rank_refusal wrong_kind wrong_rank_in_book kind_of word_refusal too_long wrong_letter lay_out record_bytes record_of two offset_bytes preset_of
swapped_from_preset100_ruled_out = (
  found_exactly,
  λ law.
      let found = (preset_of_record First (replicate 100 r) r [] (omega arith) 2 3 404 0).1 (refl, λ e. refl, refl, refl, refl, refl, refl) in
      let fields = (found_exactly First (lay_out First (replicate 101 r)) 100 2 3 404 0).0 found in
      let swapped = rw fields.0 at ((law First (lay_out First (replicate 101 r)) 100 2 3 404 0).1 fields) in
      let z : ◌≡◌ {A = ℕ} 2 3 = cc in
      omega arith,
)
  where
    r : Record
    r = record { kind = 2; rank = 3; lanes = 3; letters = [] }

-- ---- listings

-- the lines left are those of the whole listing less those just written
abbrev pub left_of_the_whole : Edition → List ℕ → ℕ → List ℕ → Piecing
left_of_the_whole ed b i out =
    let t = fitting ed b (line_count ed b - i) i (length out) in
    let text = lines ed b t i in
    record { answer = record { next = i + t; end = length text; left = line_count ed b - t }; bytes = front text out }

-- I32: the law `piece_exactly`
abbrev pub PieceExactly : (Edition → List ℕ → ℕ → List ℕ → Piecing) → Type 0
PieceExactly call =
    (ed : Edition) (b : List ℕ) (i : ℕ) (out : List ℕ) → let p = call ed b i out in
    (t : ℕ)
    × (p.answer.next ≡ i + t)
    × (p.answer.end ≡ length (lines ed b t i))
    × (p.answer.left ≡ line_count ed b - (i + t))
    × (p.bytes ≡ lines ed b t i ++ drop (length (lines ed b t i)) out)
    × (t ≤ line_count ed b - i)
    × (length (lines ed b t i) ≤ length out)
    × ((s : ℕ) → s ≤ line_count ed b - i → length (lines ed b s i) ≤ length out → s ≤ t)

-- Q12, I32: the law rules out that the lines before are counted as left, by the book of no bytes after its one line
pub left_of_the_whole_ruled_out : TellsApart PieceExactly next_piece left_of_the_whole
unfolding fitting line_count line_count_by checked_book opened_of book_refusal wrong_size wrong_count misplaced misplaced_from count two_at trailer
left_of_the_whole_ruled_out = (piece_exactly, λ law. let z = (law First [] 1 []).3 in omega arith)
