-- A letter put into a normal form. If a letter is added at the end of a normal form and rules carry it to the
-- left, what stands in the end, with the letter at the place where no rule carries it on, or with it and an equal
-- letter deleted, is a normal form again. By the exchange property: an earlier word with the same window would
-- have, from the first difference on, a first letter that could be deleted at the other end.
--
-- Sections: where a letter stands; a letter that cancels; a letter that stays.
-- Assumes nothing.
use mathlib.Core.Path.{◌≡◌, refl, sym, ap, subst, ◌∙◌}
use mathlib.Core.Bool.{Bool, true, false}
use mathlib.Core.List.{List, [], ◌∷◌, ◌++◌, append_assoc, append-nil}
use Prim.Native.Nat.{ℕ, zero, suc, ◌-◌, ◌≤◌, ◌<◌}
use native.Mathlib.Nat.{lt_of_not-le}
use native.Mathlib.Decide.{dec_le}
use native.Mathlib.Omega.{arith}
use lib.ListN.{length, get_or, drop, length-append}
use lib.Seq.{append_snoc}
use Rattle.coxeter.specs.declared.Kind.{Kind}
use Rattle.coxeter.specs.Kinds.{least}
use Rattle.coxeter.specs.Windows.{window}
use Rattle.coxeter.specs.Length.{window_length}
use Rattle.coxeter.specs.Checks.{wrong_letter}
use Rattle.coxeter.proofs.LetterLaws.{letter_within_cons}
use Rattle.coxeter.proofs.Levels.{window_accepted}
use Rattle.coxeter.proofs.Relations.{letters-append, wrong_letter_cons}
use Rattle.coxeter.proofs.Descents.{crossed, length_of_crossed, length_of_uncrossed}
use Rattle.shortest_words.specs.OneLetter.{drop_at, Removable, added}
use Rattle.shortest_words.proofs.Subwords.{length-drop_at, subword_of_drop_at, subword_letters}
use Rattle.shortest_words.proofs.Shortest.{letters_snoc, window_length_le, length_of_shortest}
use Rattle.shortest_words.proofs.Exchange.{window_snoc, exchange, exchange_front}
use Rattle.shortest_words.proofs.Deletion.{drop_at-append, drop_at_seam}
use Rattle.traces.proofs.LeastWords.{cancel_back, cancel_front, across, undo, letters_left, letters_right, Normal}
use Rattle.traces.proofs.LeastWords.{normal_shortest, normal_back, not_earlier, Earlier, normal_if}

-- ---- where a letter stands

-- where the letter e stands that follows c in a word: in the part a, or in the part b behind it
data Where (a b c : List ℕ) (e : ℕ) (d : List ℕ) : Type 0 where
  in_front : (a' : List ℕ) → a ≡ c ++ (e ∷ a') → d ≡ a' ++ b → Where a b c e d
  behind : (b' : List ℕ) → c ≡ a ++ b' → b ≡ b' ++ (e ∷ d) → Where a b c e d

where_is : (a b c : List ℕ) (e : ℕ) (d : List ℕ) → a ++ b ≡ c ++ (e ∷ d) → Where a b c e d
where_is [] b c e d q = behind c refl q
where_is (x ∷ a) b [] e d q =
    in_front a (ap (λ (y : ℕ). y ∷ a) (ap (λ (w : List ℕ). get_or w 0 0) q)) (sym (ap (drop 1) q))
where_is (x ∷ a) b (y ∷ c) e d q = where_is_by_cases (where_is a b c e d (ap (drop 1) q))
  where
    z : x ≡ y
    z = ap (λ (w : List ℕ). get_or w 0 0) q

    where_is_by_cases : Where a b c e d → Where (x ∷ a) b (y ∷ c) e d
    where_is_by_cases (in_front a' s t) = in_front a' (cc) t
    where_is_by_cases (behind b' s t) = behind b' (cc) t

-- the same difference behind another front
earlier_behind : {u v : List ℕ} (d : Earlier u v) (f : List ℕ) {x y : List ℕ} → x ≡ f ++ (d.higher ∷ d.rest) → y ≡ f ++ (d.lower ∷ d.others) → Earlier x y
earlier_behind d f e g = record {
  front = f;
  higher = d.higher;
  lower = d.lower;
  rest = d.rest;
  others = d.others;
  one = e;
  two = g;
  differ = d.differ;
  as_long = d.as_long;
}

-- ---- a letter that cancels

module _ (k : Kind) (n : ℕ) (h : least k ≤ n) where
  -- a step s at the end of a normal form deletes the letter x
  pub normal_without : (a : List ℕ) (x : ℕ) (b : List ℕ) (s : ℕ) → Normal k n (a ++ (x ∷ b)) → 1 ≤ s → s ≤ n
      → window k n (a ++ b) ≡ window k n ((a ++ (x ∷ b)) ++ (s ∷ [])) → Normal k n (a ++ b)
  normal_without a x b s m o l w = normal_if k n h (a ++ b) letters shorter earlier
    where
      letters : wrong_letter n (a ++ b) ≡ false
      letters = letters-append n a b (letters_left n a (x ∷ b) m.letters) (letters_right n (x ∷ []) b (letters_right n a (x ∷ b) m.letters))

      back : (v : List ℕ) → window k n v ≡ window k n (a ++ b) → window k n (v ++ (s ∷ [])) ≡ window k n (a ++ (x ∷ b))
      back v e = undo k n s v (a ++ (x ∷ b)) (e ∙ w)

      shorter : (v : List ℕ) → Normal k n v → window k n v ≡ window k n (a ++ b) → length v < length (a ++ b) → ⊥
      shorter v q e g =
          let t = (normal_shortest k n h (a ++ (x ∷ b)) m).none_shorter (v ++ (s ∷ [])) (letters_snoc n v s q.letters o l) (back v e) in
          omega (arith, simp length-append at t, simp length-append at g)

      earlier : (v : List ℕ) → Normal k n v → window k n v ≡ window k n (a ++ b) → length v ≡ length (a ++ b) → Earlier v (a ++ b) → ⊥
      earlier v q e g d = earlier_by_cases (where_is a b c d.lower d.others d.two)
        where
          c : List ℕ
          c = d.front

          earlier_by_cases : Where a b c d.lower d.others → ⊥
          earlier_by_cases (in_front f i j) =
              let v' : v ++ (s ∷ []) ≡ c ++ (d.higher ∷ (d.rest ++ (s ∷ []))) =
              ap (λ (y : List ℕ). y ++ (s ∷ [])) d.one ∙ append_assoc c (d.higher ∷ d.rest) (s ∷ []) in
              let u' : a ++ (x ∷ b) ≡ c ++ (d.lower ∷ (f ++ (x ∷ b))) =
              ap (λ (y : List ℕ). y ++ (x ∷ b)) i ∙ append_assoc c (d.lower ∷ f) (x ∷ b) in
              not_earlier k n h m (letters_snoc n v s q.letters o l) (back v e) (record {
                front = c;
                higher = d.higher;
                lower = d.lower;
                rest = d.rest ++ (s ∷ []);
                others = f ++ (x ∷ b);
                one = v';
                two = u';
                differ = d.differ;
                as_long = simp length-append (omega (arith, d.as_long, simp length-append at (ap length j)));
              })
          earlier_by_cases (behind f i j) =
              let v' : v ≡ a ++ (f ++ (d.higher ∷ d.rest)) =
              d.one ∙ ap (λ (y : List ℕ). y ++ (d.higher ∷ d.rest)) i ∙ append_assoc a f (d.higher ∷ d.rest) in
              not_earlier k n h (normal_back k n h (x ∷ []) b (normal_back k n h a (x ∷ b) m))
              (letters_right n a (f ++ (d.higher ∷ d.rest)) (subst (λ (y : List ℕ). wrong_letter n y ≡ false) v' q.letters))
              (cancel_front k n a _ _ (ap (window k n) (sym v') ∙ e))
              (earlier_behind d f refl j)

-- ---- a letter that stays

-- the first letter of u, if there is one, is below r
abbrev pub Below : ℕ → List ℕ → Type 0
Below r u = (c : ℕ) (d : List ℕ) → u ≡ c ∷ d → c < r

drop_at-behind : (a b : List ℕ) (i : ℕ) → length a ≤ i → drop_at i (a ++ b) ≡ a ++ drop_at (i - length a) b
unfolding drop_at
drop_at-behind [] b i h = let e : i - 0 ≡ i = omega arith in rw e
drop_at-behind (x ∷ a) b zero h = absurd (omega arith)
drop_at-behind (x ∷ a) b (suc i) h =
    let e : suc i - suc (length a) ≡ i - length a = omega arith in
    rw e (ap (λ (w : List ℕ). x ∷ w) (drop_at-behind a b i (omega arith)))

module _ (k : Kind) (n : ℕ) (h : least k ≤ n) where
  -- no word as long as a normal form with its window begins with a higher letter
  first_highest : (u : List ℕ) → Normal k n u → (r : ℕ) (y : List ℕ) → Below r u → wrong_letter n (r ∷ y) ≡ false
      → window k n (r ∷ y) ≡ window k n u → suc (length y) ≡ length u → ⊥
  first_highest [] m r y f l w e = absurd (omega arith)
  first_highest (c ∷ d) m r y f l w e =
      not_earlier k n h m l w (record {
        front = [];
        higher = r;
        lower = c;
        rest = y;
        others = d;
        one = refl;
        two = refl;
        differ = f c d refl;
        as_long = omega arith;
      })

  module _ (q : List ℕ) (x : ℕ) (b : List ℕ) (s : ℕ) (m : Normal k n (q ++ b)) (p : Normal k n (q ++ (x ∷ []))) (o : 1 ≤ s) (l : s ≤ n)
      (w : window k n (q ++ (x ∷ b)) ≡ window k n ((q ++ b) ++ (s ∷ []))) where
    -- no shortest word with the window begins with a letter above those of q b and q x
    blocked : (r : ℕ) (v : List ℕ) → Normal k n (r ∷ v) → window k n (r ∷ v) ≡ window k n (q ++ (x ∷ b)) → Below r (q ++ b) → Below r (q ++ (x ∷ [])) → ⊥
    blocked r v a e f g = deleted (exchange_front k n u r h (letters_snoc n (q ++ b) s m.letters o l) r_in.0 r_in.1 lower)
      where
        u : List ℕ
        u = (q ++ b) ++ (s ∷ [])

        r_in : (1 ≤ r) × (r ≤ n) × (wrong_letter n v ≡ false)
        r_in = letter_within_cons n r v a.letters

        shows : window k n u ≡ window k n (r ∷ v)
        shows = sym (e ∙ w)

        lower : window_length k (window k n (r ∷ u)) < window_length k (window k n u)
        lower =
            omega (
              arith,
              ap (window_length k) (across k n r u v shows),
              ap (window_length k) shows,
              window_length_le k n v h r_in.2,
              length_of_shortest k n (r ∷ v) h (normal_shortest k n h (r ∷ v) a),
            )

        deleted : (i : ℕ) × Removable k n u (window k n (r ∷ u)) i → ⊥
        deleted (i, t) = elim (dec_le (length (q ++ b)) i) [ yes c ↦ last c | no c ↦ inner (lt_of_not-le c) ]
          where
            inner : i < length (q ++ b) → ⊥
            inner c =
                let d = cancel_back k n (drop_at i (q ++ b)) (r ∷ (q ++ b)) (s ∷ [])
                (ap (window k n) (sym (drop_at-append i (q ++ b) (s ∷ []) c)) ∙ t.1) in
                first_highest (q ++ b) m r (drop_at i (q ++ b)) f
                (wrong_letter_cons n r _ r_in.0 r_in.1 ∙ subword_letters n (subword_of_drop_at i (q ++ b)) m.letters)
                (across k n r (drop_at i (q ++ b)) (q ++ b) d) (length-drop_at i (q ++ b) c)

            last : length (q ++ b) ≤ i → ⊥
            last c =
                let z : i ≡ length (q ++ b) = omega (arith, t.0, length-append (q ++ b) (s ∷ [])) in
                let d : window k n (q ++ b) ≡ window k n (r ∷ u) =
                ap (window k n) (sym (ap (λ (j : ℕ). drop_at j u) z ∙ drop_at_seam (q ++ b) s [] ∙ append-nil (q ++ b))) ∙ t.1 in
                let y : window k n ((r ∷ q) ++ b) ≡ window k n ((q ++ (x ∷ [])) ++ b) =
                across k n r (q ++ b) u d ∙ sym w ∙ ap (window k n) (sym (append_snoc q x b)) in
                first_highest (q ++ (x ∷ [])) p r q g
                (wrong_letter_cons n r q r_in.0 r_in.1 ∙ letters_left n q b m.letters)
                (cancel_back k n (r ∷ q) (q ++ (x ∷ [])) b y) (simp length-append (omega arith))

  -- a letter x at a place where no rule carries it on, above the letter behind it: the whole is a normal form
  module _ (a : List ℕ) (x : ℕ) (b : List ℕ) (s : ℕ) (m : Normal k n (a ++ b)) (p : Normal k n (a ++ (x ∷ [])))
      (above : Below x b) (o : 1 ≤ s) (l : s ≤ n) (w : window k n (a ++ (x ∷ b)) ≡ window k n ((a ++ b) ++ (s ∷ []))) where
    -- if the step made the window shorter, a letter of a b could be deleted: none of a, since a x is shortest,
    -- and none of b
    shorter : (v : List ℕ) → Normal k n v → window k n v ≡ window k n (a ++ (x ∷ b)) → length v < length (a ++ (x ∷ b)) → ⊥
    shorter v q e g = shorter_by_cases (crossed k n s (window k n (a ++ b))) refl
      where
        u : List ℕ
        u = a ++ b

        deleted : (i : ℕ) × Removable k n u (added k n u s) i → ⊥
        deleted (i, t) = elim (dec_le (length a) i) [ yes c ↦ behind_a c | no c ↦ in_a (lt_of_not-le c) ]
          where
            in_a : i < length a → ⊥
            in_a c =
                let d = cancel_back k n (drop_at i a) (a ++ (x ∷ [])) b
                (ap (window k n) (sym (drop_at-append i a b c)) ∙ t.1 ∙ sym w ∙ ap (window k n) (sym (append_snoc a x b))) in
                let y = (normal_shortest k n h (a ++ (x ∷ [])) p).none_shorter (drop_at i a)
                (subword_letters n (subword_of_drop_at i a) (letters_left n a b m.letters)) d in
                omega (arith, length-append a (x ∷ []), length-drop_at i a c)

            behind_a : length a ≤ i → ⊥
            behind_a c =
                let j : ℕ = i - length a in
                let f : j < length b = omega (arith, t.0, length-append a b) in
                let d = cancel_front k n a (drop_at j b) (x ∷ b) (ap (window k n) (sym (drop_at-behind a b i c)) ∙ t.1 ∙ sym w) in
                let z = letter_within_cons n x [] (letters_right n a (x ∷ []) p.letters) in
                first_highest b (normal_back k n h a b m) x (drop_at j b) above
                (wrong_letter_cons n x _ z.0 z.1 ∙ subword_letters n (subword_of_drop_at j b) (letters_right n a b m.letters))
                (across k n x (drop_at j b) b d) (length-drop_at j b f)

        long : window_length k (window k n u) ≡ length u
        long = sym (length_of_shortest k n u h (normal_shortest k n h u m))

        short : window_length k (added k n u s) ≤ length v
        short = omega (arith, ap (window_length k) (sym w ∙ sym e), window_length_le k n v h q.letters)

        shorter_by_cases : (t : Bool) → crossed k n s (window k n u) ≡ t → ⊥
        shorter_by_cases true d =
            let y = length_of_crossed k n s (window k n u) h o l (window_accepted k n u) d in
            deleted (exchange k n u s h m.letters o l (omega (arith, ap (window_length k) (window_snoc k n u s))))
        shorter_by_cases false d =
            let y = length_of_uncrossed k n s (window k n u) h o l (window_accepted k n u) d in
            omega (arith, ap (window_length k) (window_snoc k n u s), long, short, length-append a (x ∷ b), length-append a b)

    -- a difference in a x: from there on, q b and q x are normal forms that begin with lower letters than v
    before_b : {v : List ℕ} (c q : List ℕ) {r : ℕ} (y : List ℕ) → Normal k n v → window k n v ≡ window k n (a ++ (x ∷ b)) → a ≡ c ++ q → v ≡ c ++ (r ∷ y)
        → Below r (q ++ b) → Below r (q ++ (x ∷ [])) → ⊥
    before_b c q {r} y i e f g =
        let at : (t : List ℕ) → a ++ t ≡ c ++ (q ++ t) = λ t. ap (λ (u : List ℕ). u ++ t) f ∙ append_assoc c q t in
        let step : (a ++ b) ++ (s ∷ []) ≡ c ++ ((q ++ b) ++ (s ∷ [])) =
        ap (λ (u : List ℕ). u ++ (s ∷ [])) (at b) ∙ append_assoc c (q ++ b) (s ∷ []) in
        blocked q x b s
        (normal_back k n h c (q ++ b) (subst (Normal k n) (at b) m))
        (normal_back k n h c (q ++ (x ∷ [])) (subst (Normal k n) (at (x ∷ [])) p))
        o l
        (cancel_front k n c _ _ (ap (window k n) (sym (at (x ∷ b))) ∙ w ∙ ap (window k n) step))
        r y (normal_back k n h c (r ∷ y) (subst (Normal k n) g i))
        (cancel_front k n c _ _ (ap (window k n) (sym g) ∙ e ∙ ap (window k n) (at (x ∷ b))))

    -- a difference in b, which is a normal form
    in_b : (v f : List ℕ) (d : Earlier v (a ++ (x ∷ b))) → Normal k n v → window k n v ≡ window k n (a ++ (x ∷ b)) → d.front ≡ a ++ (x ∷ f)
        → b ≡ f ++ (d.lower ∷ d.others) → ⊥
    in_b v f d q e i j =
        let t : List ℕ = d.higher ∷ d.rest in
        let v' : v ≡ a ++ (x ∷ (f ++ t)) = d.one ∙ ap (λ (y : List ℕ). y ++ t) i ∙ append_assoc a (x ∷ f) t in
        let same = cancel_front k n (x ∷ []) (f ++ t) b (cancel_front k n a (x ∷ (f ++ t)) (x ∷ b) (ap (window k n) (sym v') ∙ e)) in
        not_earlier k n h (normal_back k n h a b m)
        (normal_back k n h (x ∷ []) (f ++ t) (normal_back k n h a (x ∷ (f ++ t)) (subst (Normal k n) v' q))).letters
        same (earlier_behind d f refl j)

    earlier : (v : List ℕ) → Normal k n v → window k n v ≡ window k n (a ++ (x ∷ b)) → Earlier v (a ++ (x ∷ b)) → ⊥
    earlier v q e d = earlier_by_cases (where_is a (x ∷ b) d.front d.lower d.others d.two)
      where
        lower_first : (t : List ℕ) → Below d.higher (d.lower ∷ t)
        lower_first t c u z = omega (arith, d.differ, ap (λ (y : List ℕ). get_or y 0 0) z)

        earlier_by_cases : Where a (x ∷ b) d.front d.lower d.others → ⊥
        earlier_by_cases (in_front f i j) =
            before_b d.front (d.lower ∷ f) d.rest q e i d.one (lower_first (f ++ b)) (lower_first (f ++ (x ∷ [])))
        earlier_by_cases (behind [] i j) =
            let z : x ≡ d.lower = ap (λ (y : List ℕ). get_or y 0 0) j in
            before_b d.front [] d.rest q e (sym (append-nil d.front ∙ i ∙ append-nil a)) d.one
            (λ c u t. omega (arith, d.differ, above c u t)) (λ c u t. omega (arith, d.differ, ap (λ (y : List ℕ). get_or y 0 0) t))
        earlier_by_cases (behind (y ∷ f) i j) =
            let z : x ≡ y = ap (λ (t : List ℕ). get_or t 0 0) j in
            in_b v f d q e (i ∙ ap (λ (c : ℕ). a ++ (c ∷ f)) (sym z)) (ap (drop 1) j)

    pub normal_with : Normal k n (a ++ (x ∷ b))
    normal_with =
        normal_if k n h (a ++ (x ∷ b))
        (ap (wrong_letter n) (sym (append_snoc a x b)) ∙ letters-append n (a ++ (x ∷ [])) b p.letters (letters_right n a b m.letters))
        shorter (λ v q e g. earlier v q e)
