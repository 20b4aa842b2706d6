-- The letters of runs, and how the blocks on the rules' left sides begin and end: each from the laws of runs.
--
-- Sections: letters of a run; pairs that commute; the blocks of family 3; the blocks of family 4; the block of
-- families 6 and 7; blocks of one letter.
-- Assumes nothing.
use mathlib.Core.Path.{◌≡◌, refl, sym, ap, ap₂, ◌∙◌}
use mathlib.Core.Logic.{◌⊎◌, inl, inr, ⊎_elim}
use mathlib.Core.List.{List, [], ◌∷◌, ◌++◌, append_assoc, Memᴰ}
use mathlib.Core.List.Memᴰ
use Prim.Native.Nat.{ℕ, zero, suc, ◌+◌, ◌-◌, ◌*◌, ◌≤◌, ◌<◌}
use native.Mathlib.Nat.{lt_of_not-le}
use native.Mathlib.Decide.{dec_le, ℕ_discrete}
use native.Mathlib.Numerals.{add-one, add-two}
use native.Mathlib.Omega.{arith}
use borrow.Author.Tests.{le-leb, le-ltb}
use Rattle.coxeter.specs.declared.Kind.{Kind}
use Rattle.coxeter.specs.declared.Kind.TheVariants.{A, B, D}
use Rattle.coxeter.specs.Kinds.{up, least}
use Rattle.coxeter.specs.NormalForm.{down, rise, block, levels}
use Rattle.coxeter.specs.Relations.{Neighbours, FourfoldPair}
use Rattle.coxeter.proofs.KindLaws.{levels_le}
use Rattle.coxeter.proofs.LetterRuns.{span, slide, span_nil, span_cons, slide_nil, slide_snoc, rise-span}
use Rattle.coxeter.proofs.LetterRuns.{Corner, IsBlock, block_up, block_turn, span-one, slide-one, fall-slide}
use Rattle.rules.proofs.Families.{Commutes, Carries, Turns}

-- ---- letters of a run

mem_up : (a i c : ℕ) → Memᴰ a (up i c) → (i ≤ a) × (a < i + c)
unfolding up
mem_up a i zero m = absurd (Memᴰ.not-nil m)
mem_up a i (suc c) m = ⊎_elim (λ e. omega arith) (λ t. let h = mem_up a (suc i) c t in omega arith) (Memᴰ.cases_cons m)

up_mem : (a i c : ℕ) → i ≤ a → a < i + c → Memᴰ a (up i c)
unfolding up
up_mem a i zero h g = absurd (omega arith)
up_mem a i (suc c) h g = elim (dec_le a i) [
  | yes t ↦ Memᴰ.head {x = i} (omega arith)
  | no t ↦ let s = lt_of_not-le t in Memᴰ.tail (up_mem a (suc i) c (omega arith) (omega arith))
]

pub mem_rise : (a i j : ℕ) → Memᴰ a (rise i j) → (i ≤ a) × (a ≤ j)
unfolding rise
mem_rise a i j m = let h = mem_up a i (suc j - i) m in omega arith

pub rise_mem : (a i j : ℕ) → i ≤ a → a ≤ j → Memᴰ a (rise i j)
unfolding rise
rise_mem a i j h g = up_mem a i (suc j - i) h (omega arith)

pub mem_span : (a i c : ℕ) → Memᴰ a (span i c) → (i ≤ a) × (a < c)
unfolding span
mem_span a i c m = let h = mem_up a i (c - i) m in omega arith

mem_down : (a i c : ℕ) → c ≤ suc i → Memᴰ a (down i c) → (suc i ≤ a + c) × (a ≤ i)
unfolding down
mem_down a i zero h m = absurd (Memᴰ.not-nil m)
mem_down a i (suc c) h m = ⊎_elim (λ e. omega arith) (λ t. let g = mem_down a (i - 1) c (omega arith) t in omega arith) (Memᴰ.cases_cons m)

pub mem_slide : (a c i : ℕ) → Memᴰ a (slide c i) → (i ≤ a) × (a < c)
unfolding slide
mem_slide a c i m = let h = mem_down a (c - 1) (c - i) (omega arith) m in omega arith

-- a letter of a way up followed by a way down
mem_hill : (b i c e d : ℕ) → Memᴰ b (span i c ++ slide e d) → ((i ≤ b) × (b < c)) ⊎ ((d ≤ b) × (b < e))
mem_hill b i c e d m = ⊎_elim (λ h. inl (mem_span b i c h)) (λ h. inr (mem_slide b e d h)) (Memᴰ.append_cases (span i c) m)

span-two : (i c : ℕ) → i + 2 ≤ c → span i c ≡ i ∷ (i + 1) ∷ span (i + 2) c
span-two i c h = rw (add-one, add-two) (span_cons i c (omega arith) ∙ ap (λ (l : List ℕ). i ∷ l) (span_cons (suc i) c (omega arith)))

slide-two : (c i : ℕ) → i + 2 ≤ c → slide c i ≡ slide c (i + 2) ++ ((i + 1) ∷ i ∷ [])
slide-two c i h =
    rw (add-one, add-two)
    (slide_snoc c i (omega arith)
    ∙ ap (λ (l : List ℕ). l ++ (i ∷ [])) (slide_snoc c (suc i) (omega arith))
    ∙ append_assoc (slide c (suc (suc i))) (suc i ∷ []) (i ∷ []))

pub slide_three : (n a : ℕ) → a + 2 ≡ n → slide (suc n) a ≡ n ∷ (a + 1) ∷ a ∷ []
slide_three n a e =
    slide-two (suc n) a (omega arith)
    ∙ ap (λ (u : List ℕ). u ++ ((a + 1) ∷ a ∷ [])) (ap (slide (suc n)) e ∙ slide-one (suc n) n (omega arith))

-- ---- pairs that commute

-- two steps apart below the last step
pub commutes_below : (k : Kind) (n a b : ℕ) → a + 2 ≤ b → b < n → Commutes k n a b
commutes_below A n a b h g = h
commutes_below B n a b h g = h
commutes_below D n a b h g = inl (h, g)

-- two steps apart where the lower one is two below the last level
commutes_level : (k : Kind) (n a b : ℕ) → a + 2 ≤ levels k n → a + 2 ≤ b → b ≤ n → Commutes k n a b
commutes_level A n a b f h g = h
commutes_level B n a b f h g = h
commutes_level D n a b f h g = elim (dec_le n b) [
  | yes t ↦ inr (inl (omega arith))
  | no t ↦ inl (h, lt_of_not-le t)
]

-- two steps apart where the lower one is two below the corner
commutes_corner : (k : Kind) (n c a b : ℕ) → Corner k n c → a + 2 ≤ c → a + 2 ≤ b → b ≤ n → Commutes k n a b
commutes_corner A n c a b q f h g = h
commutes_corner B n c a b q f h g = h
commutes_corner D n c a b q f h g = elim (dec_le n b) [
  | yes t ↦ inr (inl (omega arith))
  | no t ↦ inl (h, lt_of_not-le t)
]

-- every letter of u is a higher step that commutes with a
abbrev pub Clear : Kind → ℕ → ℕ → List ℕ → Type 0
Clear k n a u = (b : ℕ) → Memᴰ b u → (b ≤ n) × Commutes k n a b

clear_past_turn : (k : Kind) (n d a : ℕ) → a + 2 ≤ levels k n → a + 2 ≤ d → Clear k n a (span (a + 2) (levels k n) ++ slide (suc n) d)
clear_past_turn k n d a f h b m =
    let l = levels_le k n in
    ⊎_elim
    (λ s. (omega arith, commutes_level k n a b f s.0 (omega arith)))
    (λ s. (omega arith, commutes_level k n a b f (omega arith) (omega arith)))
    (mem_hill b (a + 2) (levels k n) (suc n) d m)

corner_clear : (k : Kind) (n c d a : ℕ) → Corner k n c → a + 2 ≤ c → c ≤ n → a + 2 ≤ d → Clear k n a (span (a + 2) c ++ slide (suc n) d)
corner_clear k n c d a q f l h b m =
    ⊎_elim
    (λ s. (omega arith, commutes_corner k n c a b q f s.0 (omega arith)))
    (λ s. (omega arith, commutes_corner k n c a b q f (omega arith) (omega arith)))
    (mem_hill b (a + 2) c (suc n) d m)

-- ---- the blocks of family 3

-- [i,j] with more than one letter: the letters after the second commute with i
pub record CarriedBlock (k : Kind) (n i j : ℕ) : Type 0 where
  pub rest : List ℕ
  pub shape : block k n i j ≡ i ∷ (i + 1) ∷ rest
  pub clear : Clear k n i rest

carried-up : (k : Kind) (n i j : ℕ) → i < j → j < n → CarriedBlock k n i j
carried-up k n i j h g = record {
  rest = span (i + 2) (suc j);
  shape = block_up k n i j g ∙ span-two i (suc j) (omega arith);
  clear = λ b m. let s = mem_span b (i + 2) (suc j) m in (omega arith, commutes_below k n i b s.0 (omega arith));
}

carried_turn : {k : Kind} {n i j : ℕ} (d : ℕ) → IsBlock k n i j → i + 2 ≤ levels k n → n ≤ j → d + j ≡ 2 * n → i + 2 ≤ d → CarriedBlock k n i j
carried_turn {k} {n} {i} d b h g e f = record {
  rest = span (i + 2) (levels k n) ++ slide (suc n) d;
  shape = block_turn d b g e ∙ ap (λ (u : List ℕ). u ++ slide (suc n) d) (span-two i (levels k n) h);
  clear = clear_past_turn k n d i h f;
}

pub carries_carried : (k : Kind) (n i j : ℕ) → 1 ≤ i → i < j → Carries k n i j → CarriedBlock k n i j
unfolding block
carries_carried A n i j o h g = record {
  rest = span (i + 2) (suc j);
  shape = rise-span i j ∙ span-two i (suc j) (omega arith);
  clear = λ b m. let s = mem_span b (i + 2) (suc j) m in omega arith;
}
carries_carried B n i j o h g = elim (dec_le n j) [
  | yes t ↦ carried_turn (2 * n - j) (omega arith) (omega arith) t (omega arith) (omega arith)
  | no t ↦ carried-up B n i j h (lt_of_not-le t)
]
carries_carried D n i j o h (inl g) = elim (dec_le n j) [
  | yes t ↦ carried_turn (2 * n - j) (omega arith) (omega arith) t (omega arith) (omega arith)
  | no t ↦ carried-up D n i j h (lt_of_not-le t)
]
carries_carried D n i j o h (inr g) = carried-up D n i j h (omega arith)

-- ---- the blocks of family 4

-- [i,2n−i]: up from i to i + 1, letters that commute with i, and down again; or i (i+1) i with i + 1 the last step of B
pub data TurnedBlock (k : Kind) (n i : ℕ) : Type 0 where
  wide : (middle : List ℕ) → block k n i (2 * n - i) ≡ i ∷ (i + 1) ∷ (middle ++ ((i + 1) ∷ i ∷ [])) → Clear k n i middle → Neighbours k n i (i + 1)
      → i + 1 ≤ n → TurnedBlock k n i
  narrow : block k n i (2 * n - i) ≡ i ∷ (i + 1) ∷ i ∷ [] → FourfoldPair k n i (i + 1) → i + 1 ≤ n → TurnedBlock k n i

turned_wide : {k : Kind} {n i : ℕ} → IsBlock k n i (2 * n - i) → i + 2 ≤ levels k n → Neighbours k n i (i + 1) → TurnedBlock k n i
turned_wide {k} {n} {i} t h b =
    let l = levels_le k n in
    wide (span (i + 2) (levels k n) ++ slide (suc n) (i + 2))
    (block_turn i t (omega arith) (omega arith)
    ∙ ap₂ (λ (u v : List ℕ). u ++ v) (span-two i (levels k n) h) (slide-two (suc n) i (omega arith))
    ∙ ap (λ (u : List ℕ). i ∷ (i + 1) ∷ u) (sym (append_assoc (span (i + 2) (levels k n)) (slide (suc n) (i + 2)) ((i + 1) ∷ i ∷ []))))
    (clear_past_turn k n (i + 2) i h (omega arith))
    b (omega arith)

pub turns_turned : (k : Kind) (n i : ℕ) → 1 ≤ i → Turns k n i → TurnedBlock k n i
turns_turned A n i o h = absurd h
turns_turned B n i o h =
    let b : IsBlock B n i (2 * n - i) = omega arith in
    elim (dec_le (i + 2) n) [
      | yes t ↦ turned_wide b t (refl, omega arith)
      | no t ↦ narrow
          (block_turn i b (omega arith) (omega arith)
          ∙ ap₂ (λ (u v : List ℕ). u ++ v) (span-one i n (omega arith)) (slide-two (suc n) i (omega arith))
          ∙ ap (λ (u : List ℕ). i ∷ (u ++ ((i + 1) ∷ i ∷ []))) (slide_nil (suc n) (i + 2) (omega arith)))
          (refl, omega arith)
          h
    ]
turns_turned D n i o h = turned_wide (omega arith) (omega arith) (inl (refl, omega arith))

-- ---- the block of families 6 and 7

pub block-fork : (n a : ℕ) → 1 ≤ a → a + 2 ≡ n → block D n a (n + 2) ≡ a ∷ n ∷ (a + 1) ∷ a ∷ []
block-fork n a o e =
    let b : IsBlock D n a (n + 2) = omega arith in
    block_turn a b (omega arith) (omega arith)
    ∙ ap₂ (λ (u v : List ℕ). u ++ v) (span-one a (n - 1) (omega arith)) (slide_three n a e)

-- ---- blocks of one letter

block_last : (k : Kind) (n : ℕ) → least k ≤ n → block k n n n ≡ n ∷ []
unfolding block
block_last A n h = rise-span n n ∙ span-one n (suc n) (omega arith)
block_last B n h = rw (le-leb n n (omega arith)) (rise-span n n ∙ span-one n (suc n) (omega arith))
block_last D n h =
    rw (le-ltb n n (omega arith), rise-span n (n - 2), fall-slide (n - 1) (2 * n - n))
    (rw (span_nil n (suc (n - 2)) (omega arith), slide_nil (suc (n - 1)) (2 * n - n) (omega arith)))

pub block_one : (k : Kind) (n i : ℕ) → least k ≤ n → i ≤ n → block k n i i ≡ i ∷ []
block_one k n i h l = elim (ℕ_discrete i n) [
  | yes e ↦ rw e (block_last k n h)
  | no e ↦ block_up k n i i (omega arith) ∙ span-one i (suc i) (omega arith)
]
