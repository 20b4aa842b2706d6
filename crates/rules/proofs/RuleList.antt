-- The list of rules entry by entry: every entry is one that `Listed` names, with its family, its numbers and its
-- sides, and each of those is in the list. Hence the list and the relation of rules agree.
--
-- Sections: the entries; lists of entries; the families' lists hold entries; the families' lists hold every entry;
-- the list and the relation.
-- Assumes nothing.
use mathlib.Core.Path.{◌≡◌, refl, sym, ap, ap₂, subst, subst⁻¹, ◌∙◌}
use mathlib.Core.Bool.{Bool, true, false, ◌&&◌, true≢false, and-false}
use mathlib.Core.Logic.{inl, inr, ⊎_elim}
use mathlib.Core.List.{List, [], ◌∷◌, ◌++◌, Memᴰ}
use mathlib.Core.List.Memᴰ
use Prim.Native.Nat.{ℕ, ◌+◌, ◌-◌, ◌*◌, ◌≤◌, ◌<◌}
use native.Mathlib.Decide.{ℕ_discrete}
use native.Mathlib.Omega.{arith}
use lib.Dec.{eqb}
use borrow.Author.Tests.{eq-eqb, ne_eqb}
use Rattle.coxeter.specs.declared.Kind.{Kind}
use Rattle.coxeter.specs.declared.Kind.TheVariants.{A, B, D}
use Rattle.coxeter.specs.Kinds.{pick, least}
use Rattle.coxeter.specs.NormalForm.{rise}
use Rattle.rules.specs.Rules.{Rule, rule, concat_map, family1, commuted, family2, carried, family3, turned, family4, families5to7, rules}
use Rattle.rules.proofs.Families.{Commutes, Carries, Turns, IsD, RuleOf}
use Rattle.rules.proofs.Letters.{mem_rise, rise_mem, block-fork}

-- ---- the entries

-- one constructor a family, with the side conditions of the relation
pub data Listed (k : Kind) (n : ℕ) : Rule → Type 0 where
  square : {i : ℕ} → 1 ≤ i → i ≤ n → Listed k n (rule 1 i 0 (i ∷ i ∷ []) [])
  commutation : {i j : ℕ} → 1 ≤ i → j ≤ n → Commutes k n i j → Listed k n (commuted i j)
  carry : {i j : ℕ} → 1 ≤ i → i < j → Carries k n i j → Listed k n (carried k n i j)
  turn : {i : ℕ} → 1 ≤ i → Turns k n i → Listed k n (turned k n i)
  five : {a : ℕ} → IsD k → a + 2 ≡ n → Listed k n (rule 5 a 0 (a ∷ n ∷ a ∷ []) (n ∷ a ∷ n ∷ []))
  six : {a : ℕ} → IsD k → a + 2 ≡ n → Listed k n (rule 6 a 0 (a ∷ n ∷ (a + 1) ∷ a ∷ n ∷ []) ((a + 1) ∷ a ∷ n ∷ (a + 1) ∷ a ∷ []))
  seven : {a : ℕ} → IsD k → a + 2 ≡ n → Listed k n (rule 7 a 0 (a ∷ n ∷ (a + 1) ∷ a ∷ (a + 1) ∷ []) (n ∷ a ∷ n ∷ (a + 1) ∷ a ∷ []))

-- ---- lists of entries

-- every rule of the list is an entry
abbrev Sound : Kind → ℕ → List Rule → Type 0
Sound k n rs = (x : Rule) → Memᴰ x rs → Listed k n x

sound_nil : {k : Kind} {n : ℕ} → Sound k n []
sound_nil x m = absurd (Memᴰ.not-nil m)

sound_one : {k : Kind} {n : ℕ} {x : Rule} → Listed k n x → Sound k n (x ∷ [])
sound_one {k} {n} h y m = subst⁻¹ (Listed k n) (Memᴰ.eq_of_singleton m) h

sound_append : {k : Kind} {n : ℕ} (rs qs : List Rule) → Sound k n rs → Sound k n qs → Sound k n (rs ++ qs)
sound_append rs qs h g x m = ⊎_elim (h x) (g x) (Memᴰ.append_cases rs m)

sound_concat_map : {k : Kind} {n : ℕ} (f : ℕ → List Rule) (is : List ℕ) → ((i : ℕ) → Memᴰ i is → Sound k n (f i)) → Sound k n (concat_map f is)
unfolding concat_map
sound_concat_map f [] h = sound_nil
sound_concat_map f (i ∷ is) h = sound_append (f i) (concat_map f is) (h i (Memᴰ.head refl)) (sound_concat_map f is (λ j m. h j (Memᴰ.tail m)))

sound_pick : {k : Kind} {n : ℕ} (t : Bool) (rs : List Rule) → (t ≡ false → Sound k n rs) → Sound k n (pick t [] rs)
sound_pick true rs h = sound_nil
sound_pick false rs h = h refl

-- one list for each number from a to b
sound_range : {k : Kind} {n : ℕ} (f : ℕ → List Rule) (a b : ℕ) → ((i : ℕ) → a ≤ i → i ≤ b → Sound k n (f i)) → Sound k n (concat_map f (rise a b))
sound_range f a b h = sound_concat_map f (rise a b) (λ i m. let s = mem_rise i a b m in h i s.0 s.1)

-- ---- the families' lists hold entries

-- the pairs that D's list of family 2 leaves in
not_both : (i j n : ℕ) → (eqb (i + 2) n && eqb j n) ≡ false → j ≡ n → i + 2 ≡ n → ⊥
not_both i j n t e f = let z : true ≡ false = sym (ap₂ ◌&&◌ (eq-eqb (i + 2) n f) (eq-eqb j n e)) ∙ t in true≢false z

pair_commutes : (n i j : ℕ) → i + 2 ≤ j → j ≤ n → (eqb (i + 2) n && eqb j n) ≡ false → Commutes D n i j
pair_commutes n i j h g t = elim (ℕ_discrete j n) [
  | yes e ↦ let f : i + 2 ≡ n → ⊥ = not_both i j n t e in inr (inl (omega arith, e))
  | no e ↦ inl (h, omega arith)
]

family1_sound : (k : Kind) (n : ℕ) → Sound k n (family1 n)
unfolding family1
family1_sound k n = sound_range _ 1 n (λ i h g. sound_one (square h g))

family2_sound : (k : Kind) (n : ℕ) → least k ≤ n → Sound k n (family2 k n)
unfolding family2
family2_sound A n l = sound_range _ 1 n (λ i h g. sound_range _ (i + 2) n (λ j p q. sound_one (commutation h q p)))
family2_sound B n l = sound_range _ 1 n (λ i h g. sound_range _ (i + 2) n (λ j p q. sound_one (commutation h q p)))
family2_sound D n l =
    sound_append _ _
    (sound_range _ 1 n (λ i h g. sound_range _ (i + 2) n (λ j p q.
    sound_pick (eqb (i + 2) n && eqb j n) _ (λ t. sound_one (commutation h q (pair_commutes n i j p q t))))))
    (sound_one (commutation {i = n - 1} {j = n} (omega arith) (omega arith) (inr (inr (omega arith)))))

family3_sound : (k : Kind) (n : ℕ) → least k ≤ n → Sound k n (family3 k n)
unfolding family3
family3_sound A n l = sound_range _ 1 n (λ i h g. sound_range _ (i + 1) n (λ j p q. sound_one (carry {i = i} {j = j} h (omega arith) q)))
family3_sound B n l =
    sound_range _ 1 n (λ i h g. sound_range _ (i + 1) (2 * n - i - 2) (λ j p q. sound_one (carry {i = i} {j = j} h (omega arith) (omega arith))))
family3_sound D n l =
    sound_append _ _
    (sound_range _ 1 (n - 3) (λ i h g. sound_range _ (i + 1) (2 * n - i - 2) (λ j p q.
    sound_one (carry {i = i} {j = j} h (omega arith) (inl (omega arith))))))
    (sound_one (carry {i = n - 2} {j = n - 1} (omega arith) (omega arith) (inr (omega arith))))

family4_sound : (k : Kind) (n : ℕ) → least k ≤ n → Sound k n (family4 k n)
unfolding family4
family4_sound A n l = sound_nil
family4_sound B n l = sound_range _ 1 (n - 1) (λ i h g. sound_one (turn {i = i} h (omega arith)))
family4_sound D n l = sound_range _ 1 (n - 3) (λ i h g. sound_one (turn {i = i} h (omega arith)))

families5to7_sound : (k : Kind) (n : ℕ) → least k ≤ n → Sound k n (families5to7 k n)
unfolding families5to7
families5to7_sound A n l = sound_nil
families5to7_sound B n l = sound_nil
families5to7_sound D n l =
    let e : n - 2 + 2 ≡ n = omega arith in
    let b : n - 1 ≡ n - 2 + 1 = omega arith in
    let f = block-fork n (n - 2) (omega arith) e in
    sound_append (_ ∷ []) _ (sound_one (five tt e))
    (sound_append (_ ∷ []) _ (sound_one (rw (f, b) (six tt e))) (sound_one (rw (f, b) (seven tt e))))

-- every rule of the list is an entry
pub listed_of_mem : (k : Kind) (n : ℕ) → least k ≤ n → (x : Rule) → Memᴰ x (rules k n) → Listed k n x
unfolding rules
listed_of_mem k n l =
    sound_append _ _ (family1_sound k n)
    (sound_append _ _ (family2_sound k n l)
    (sound_append _ _ (family3_sound k n l)
    (sound_append _ _ (family4_sound k n l) (families5to7_sound k n l))))

-- ---- the families' lists hold every entry

mem_one : {x y : Rule} → x ≡ y → Memᴰ x (y ∷ [])
mem_one e = Memᴰ.head e

mem_concat_map : (f : ℕ → List Rule) (is : List ℕ) (i : ℕ) {x : Rule} → Memᴰ i is → Memᴰ x (f i) → Memᴰ x (concat_map f is)
unfolding concat_map
mem_concat_map f [] i m h = absurd (Memᴰ.not-nil m)
mem_concat_map f (a ∷ is) i {x} m h =
    ⊎_elim
    (λ e. Memᴰ.append_left (concat_map f is) (subst (λ (b : ℕ). Memᴰ x (f b)) e h))
    (λ t. Memᴰ.append_right (f a) (mem_concat_map f is i t h))
    (Memᴰ.cases_cons m)

mem_range : (f : ℕ → List Rule) (a b i : ℕ) {x : Rule} → a ≤ i → i ≤ b → Memᴰ x (f i) → Memᴰ x (concat_map f (rise a b))
mem_range f a b i p q h = mem_concat_map f (rise a b) i (rise_mem i a b p q) h

mem_pick : (t : Bool) {rs : List Rule} {x : Rule} → t ≡ false → Memᴰ x rs → Memᴰ x (pick t [] rs)
mem_pick true e h = absurd (true≢false e)
mem_pick false e h = h

both_false : (i j n : ℕ) → (i + 2 ≡ n → j ≡ n → ⊥) → (eqb (i + 2) n && eqb j n) ≡ false
both_false i j n h = elim (ℕ_discrete (i + 2) n) [
  | yes e ↦ ap (λ (t : Bool). eqb (i + 2) n && t) (ne_eqb j n (h e)) ∙ and-false (eqb (i + 2) n)
  | no e ↦ ap (λ (t : Bool). t && eqb j n) (ne_eqb (i + 2) n e)
]

family2_mem : (k : Kind) (n i j : ℕ) → 1 ≤ i → j ≤ n → Commutes k n i j → Memᴰ (commuted i j) (family2 k n)
unfolding family2
family2_mem A n i j o l h = mem_range _ 1 n i o (omega arith) (mem_range _ (i + 2) n j h l (mem_one refl))
family2_mem B n i j o l h = mem_range _ 1 n i o (omega arith) (mem_range _ (i + 2) n j h l (mem_one refl))
family2_mem D n i j o l (inl h) =
    Memᴰ.append_left _ (mem_range _ 1 n i o (omega arith) (mem_range _ (i + 2) n j h.0 l
    (mem_pick _ (both_false i j n (λ e f. omega arith)) (mem_one refl))))
family2_mem D n i j o l (inr (inl h)) =
    Memᴰ.append_left _ (mem_range _ 1 n i o (omega arith) (mem_range _ (i + 2) n j (omega arith) l
    (mem_pick _ (both_false i j n (λ e f. omega arith)) (mem_one refl))))
family2_mem D n i j o l (inr (inr h)) =
    let e : n - 1 ≡ i = omega arith in
    Memᴰ.append_right (concat_map _ _) (mem_one (rw (e, h.1)))

family3_mem : (k : Kind) (n i j : ℕ) → 1 ≤ i → i < j → Carries k n i j → Memᴰ (carried k n i j) (family3 k n)
unfolding family3
family3_mem A n i j o l h = mem_range _ 1 n i o (omega arith) (mem_range _ (i + 1) n j (omega arith) h (mem_one refl))
family3_mem B n i j o l h = mem_range _ 1 n i o (omega arith) (mem_range _ (i + 1) (2 * n - i - 2) j (omega arith) (omega arith) (mem_one refl))
family3_mem D n i j o l (inl h) =
    Memᴰ.append_left _ (mem_range _ 1 (n - 3) i o (omega arith) (mem_range _ (i + 1) (2 * n - i - 2) j (omega arith) (omega arith) (mem_one refl)))
family3_mem D n i j o l (inr h) =
    let e : n - 2 ≡ i = omega arith in
    let f : n - 1 ≡ j = omega arith in
    Memᴰ.append_right (concat_map _ _) (mem_one (rw (e, f)))

family4_mem : (k : Kind) (n i : ℕ) → 1 ≤ i → Turns k n i → Memᴰ (turned k n i) (family4 k n)
unfolding family4
family4_mem A n i o h = absurd h
family4_mem B n i o h = mem_range _ 1 (n - 1) i o (omega arith) (mem_one refl)
family4_mem D n i o h = mem_range _ 1 (n - 3) i o (omega arith) (mem_one refl)

-- families 5 to 7 stand last
last_mem : (k : Kind) (n : ℕ) {x : Rule} → Memᴰ x (families5to7 k n) → Memᴰ x (rules k n)
unfolding rules
last_mem k n h =
    Memᴰ.append_right (family1 n) (Memᴰ.append_right (family2 k n) (Memᴰ.append_right (family3 k n) (Memᴰ.append_right (family4 k n) h)))

-- their entries at a = n − 2
families5to7_eq : (k : Kind) (n a : ℕ) → least k ≤ n → IsD k → a + 2 ≡ n
    → families5to7 k n
    ≡ rule 5 a 0 (a ∷ n ∷ a ∷ []) (n ∷ a ∷ n ∷ [])
    ∷ rule 6 a 0 (a ∷ n ∷ (a + 1) ∷ a ∷ n ∷ []) ((a + 1) ∷ a ∷ n ∷ (a + 1) ∷ a ∷ [])
    ∷ rule 7 a 0 (a ∷ n ∷ (a + 1) ∷ a ∷ (a + 1) ∷ []) (n ∷ a ∷ n ∷ (a + 1) ∷ a ∷ [])
    ∷ []
unfolding families5to7
families5to7_eq A n a l d e = absurd d
families5to7_eq B n a l d e = absurd d
families5to7_eq D n a l d e =
    let f : n - 2 ≡ a = omega arith in
    let g : n - 1 ≡ a + 1 = omega arith in
    rw (f, g, block-fork n a (omega arith) e)

-- every entry is in the list
pub mem_of_listed : (k : Kind) (n : ℕ) {x : Rule} → least k ≤ n → Listed k n x → Memᴰ x (rules k n)
unfolding rules family1
mem_of_listed k n h (square {i} o l) = Memᴰ.append_left _ (mem_range _ 1 n i o l (mem_one refl))
mem_of_listed k n h (commutation {i} {j} o l g) = Memᴰ.append_right (family1 n) (Memᴰ.append_left _ (family2_mem k n i j o l g))
mem_of_listed k n h (carry {i} {j} o l g) = Memᴰ.append_right (family1 n) (Memᴰ.append_right (family2 k n) (Memᴰ.append_left _ (family3_mem k n i j o l g)))
mem_of_listed k n h (turn {i} o g) =
    Memᴰ.append_right (family1 n) (Memᴰ.append_right (family2 k n) (Memᴰ.append_right (family3 k n) (Memᴰ.append_left _ (family4_mem k n i o g))))
mem_of_listed k n h (five {a} d e) = last_mem k n (rw (families5to7_eq k n a h d e) (Memᴰ.head refl))
mem_of_listed k n h (six {a} d e) = last_mem k n (rw (families5to7_eq k n a h d e) (Memᴰ.tail (Memᴰ.head refl)))
mem_of_listed k n h (seven {a} d e) = last_mem k n (rw (families5to7_eq k n a h d e) (Memᴰ.tail (Memᴰ.tail (Memᴰ.head refl))))

-- ---- the list and the relation

-- a rule of the list is one of the relation
pub rule_of_list : (k : Kind) (n : ℕ) → least k ≤ n → (x : Rule) → Memᴰ x (rules k n) → RuleOf k n x.left x.right
rule_of_list k n l x m = sides (listed_of_mem k n l x m)
  where
    sides : {x : Rule} → Listed k n x → RuleOf k n x.left x.right
    sides (square o h) = RuleOf.square o h
    sides (commutation o h g) = RuleOf.commutation o h g
    sides (carry {i} {j} o h g) = RuleOf.carry {i = i} {j = j} o h g
    sides (turn {i} o g) = RuleOf.turn {i = i} o g
    sides (five d e) = RuleOf.five d e
    sides (six d e) = RuleOf.six d e
    sides (seven d e) = RuleOf.seven d e

-- a rule of the relation is in the list
pub list_of_rule : (k : Kind) (n : ℕ) {l r : List ℕ} → least k ≤ n → RuleOf k n l r → (x : Rule) × Memᴰ x (rules k n) × (x.left ≡ l) × (x.right ≡ r)
list_of_rule k n h (RuleOf.square o l) = (_, mem_of_listed k n h (square o l), refl, refl)
list_of_rule k n h (RuleOf.commutation o l g) = (_, mem_of_listed k n h (commutation o l g), refl, refl)
list_of_rule k n h (RuleOf.carry {i} {j} o l g) = (_, mem_of_listed k n h (carry {i = i} {j = j} o l g), refl, refl)
list_of_rule k n h (RuleOf.turn {i} o g) = (_, mem_of_listed k n h (turn {i = i} o g), refl, refl)
list_of_rule k n h (RuleOf.five d e) = (_, mem_of_listed k n h (five d e), refl, refl)
list_of_rule k n h (RuleOf.six d e) = (_, mem_of_listed k n h (six d e), refl, refl)
list_of_rule k n h (RuleOf.seven d e) = (_, mem_of_listed k n h (seven d e), refl, refl)
