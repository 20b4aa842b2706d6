-- The turns of `tracing::make`: each letter of the word is read behind a normal form, and in the end nothing is
-- left; and what the lists and the work array then hold.
--
-- Sections: letters read; the end; lists and output.
-- Assumes nothing.
use mathlib.Core.Path.{◌≡◌, refl, sym, ap, ◌∙◌}
use mathlib.Core.List.{List, [], ◌∷◌, ◌++◌, append-nil, map}
use Prim.Native.Nat.{ℕ, suc, ◌+◌, ◌-◌, ◌≤◌, ◌<◌}
use native.Mathlib.Nat.{zero-add}
use native.Mathlib.Omega.{arith}
use lib.ListN.{length, get_or, take, drop, set, length-append, length-drop, drop_of_length-le}
use lib.Seq.{length-take-le, take-suc-set, append_snoc, sets}
use Rattle.coxeter.specs.declared.Kind.{Kind}
use Rattle.coxeter.specs.declared.Word.{Word}
use Rattle.coxeter.specs.Checks.{wrong_letter, WordOf}
use Rattle.coxeter.specs.Calls.{front}
use Rattle.coxeter.proofs.Acceptance.{Ranked, letters_accepted, length_accepted}
use Rattle.coxeter.proofs.Groups.{in_range_ranked, by_number}
use Rattle.coxeter.proofs.LetterLaws.{wrong_letter-drop, letter_at}
use Rattle.coxeter.proofs.Lists.{take_rest, drop_next}
use Rattle.coxeter.proofs.FrontLaws.{sets-front, front_parts, front_whole}
use Rattle.traces.specs.Traces.{Line, Trace, trace, families_of, places_of, lengths_of}
use Rattle.traces.proofs.LeastWords.{Normal}
use Rattle.traces.proofs.Reading.{reading_next, nil_irreducible}
use Rattle.traces.proofs.Tracing.{Finished, finish_with, finish, finish_end, finish_steps, Ready, steps_few, Made}

-- ---- letters read

-- i letters were read, and the normal form that stands for them is the first `size` of `work`
pub record Making (k : Kind) (n : ℕ) (word families places lengths work₀ : List ℕ) (i s : ℕ) (families' places' lengths' work : List ℕ)
    (size : ℕ) : Type 0 where
  pub inside : i ≤ length word
  pub short : size ≤ i
  pub work_size : length work ≡ length work₀
  pub normal : Normal k n (take size work)
  pub same : finish k n 0 families places lengths word ≡ finish k n s families' places' lengths' (take size work ++ drop i word)

-- a word takes at most 4,096 · 4,095 / 2 steps
steps_few_of : (w : Word) → length (trace w.group.kind w.group.rank w.letters.now).lines ≤ 8386560
steps_few_of w =
    by_number (λ (k : Kind) (n : ℕ). WordOf n w.letters.now → length (trace k n w.letters.now).lines ≤ 8386560)
    (λ j n g h. steps_few j n w.letters.now (record { rank = g; word = h })) w.group.kind w.group.rank w.group.in_range w.accepted

module _ (w : Word) (families places lengths work₀ : List ℕ) where
  abbrev kind : Kind
  kind = w.group.kind

  abbrev n : ℕ
  n = w.group.rank

  abbrev word : List ℕ
  word = w.letters.now

  rank : Ranked kind n
  rank = in_range_ranked kind n w.group.in_range

  pub making_start : Making kind n word families places lengths work₀ 0 0 families places lengths work₀ 0
  unfolding wrong_letter
  making_start = record {
    inside = omega arith;
    short = omega arith;
    work_size = refl;
    normal = record { letters = refl; irreducible = nil_irreducible kind n rank.0 };
    same = refl;
  }

  module _ {i s : ℕ} {families' places' lengths' work : List ℕ} {size : ℕ}
      (m : Making kind n word families places lengths work₀ i s families' places' lengths' work size) where
    abbrev form : List ℕ
    form = take size work

    module _ (l : i < length word) (f : length word ≤ length work₀) where
      abbrev letter : ℕ
      letter = get_or word i 0

      size_form : length form ≡ size
      size_form = length-take-le size work (omega (arith, m.short, m.work_size))

      pub making_room : (size < length work) × (size + 1 ≤ length work)
      making_room = omega (arith, m.short, m.work_size)

      letter_in : (1 ≤ letter) × (letter ≤ n)
      letter_in = letter_at n word i l (letters_accepted n word w.accepted)

      -- what the call is lent: the normal form with the letter behind it, and the rest of the word
      abbrev lent : List ℕ
      lent = take (size + 1) (set work size letter)

      abbrev rest : List ℕ
      rest = take (length word - (i + 1)) (drop (i + 1) word)

      lent_is : lent ≡ form ++ (letter ∷ [])
      lent_is = let t : size + 1 ≡ suc size = omega arith in rw t (take-suc-set work size letter making_room.0)

      rest_is : rest ≡ drop (i + 1) word
      rest_is = take_rest (i + 1) word

      pub lent_length : length (take (size + 1) (set work size (get_or word i 0))) ≡ size + 1
      lent_length = ap length lent_is ∙ length-append form (letter ∷ []) ∙ omega (arith, size_form)

      joined : lent ++ rest ≡ form ++ drop i word
      joined =
          ap (λ (v : List ℕ). v ++ rest) lent_is ∙ append_snoc form letter rest
          ∙ ap (λ (v : List ℕ). form ++ v) (ap (λ (v : List ℕ). letter ∷ v) rest_is ∙ sym (drop_next word i 0 l))

      all : finish kind n 0 families places lengths word ≡ finish kind n s families' places' lengths' (lent ++ rest)
      all = m.same ∙ ap (finish kind n s families' places' lengths') (sym joined)

      pub making_ready : length places' ≡ length families' → length lengths' ≡ length families'
          → Ready kind n (take (length word - (i + 1)) (drop (i + 1) word)) s families' places' lengths'
          (take (size + 1) (set work size (get_or word i 0))) (length (take (size + 1) (set work size (get_or word i 0))) - 1)
      making_ready p z =
          let c : length lent - 1 ≡ length form = omega (arith, lent_length, size_form) in
          record {
            rank = rank.0;
            high = rank.1;
            reading = rw (c, lent_is) (reading_next kind n form letter m.normal letter_in.0 letter_in.1);
            letters = rw rest_is (wrong_letter-drop n (i + 1) word (letters_accepted n word w.accepted));
            short = omega (arith, lent_length, ap length rest_is, length-drop (i + 1) word, m.short, length_accepted n word w.accepted);
            room =
                omega (
                  arith,
                  steps_few_of w,
                  sym (finish_steps kind n 0 families places lengths word) ∙ ap (λ (f : Finished). f.steps) all
                      ∙ finish_steps kind n s families' places' lengths' (lent ++ rest),
                );
            as_places = p;
            as_lengths = z;
          }

    -- ---- the end

    pub making_end : length word ≤ i → length word ≤ length work₀ → Made kind n word families places lengths s families' places' lengths' work size
    making_end l f = record {
      inside = omega (arith, m.short, m.inside, m.work_size);
      all =
          m.same ∙ ap (finish kind n s families' places' lengths') (ap (λ (v : List ℕ). form ++ v) (drop_of_length-le word l) ∙ append-nil form)
          ∙ finish_end s families' places' lengths' kind n rank.0 form m.normal;
    }

-- ---- lists and output

module _ {k : Kind} {n : ℕ} {word families places lengths : List ℕ} {steps : ℕ} {families' places' lengths' work : List ℕ} {size : ℕ}
    (m : Made k n word families places lengths steps families' places' lengths' work size) where
  abbrev whole : Trace
  whole = trace k n word

  pub made_steps : steps ≡ length (trace k n word).lines
  unfolding finish_with
  made_steps = sym (ap (λ (f : Finished). f.steps) m.all) ∙ zero-add (length whole.lines)

  made_final : take size work ≡ (trace k n word).final
  unfolding finish_with
  made_final = sym (ap (λ (f : Finished). f.final) m.all)

  pub made_size : size ≡ length (trace k n word).final
  made_size = sym (length-take-le size work m.inside) ∙ ap length made_final

  -- it was copied to the front of the output
  pub copy_room : (most : ℕ) → length (trace k n word).final ≤ most → 0 + length (take size work) ≤ most
  copy_room most h = rw (made_final, zero-add) h

  pub out_written : (out : List ℕ) {out' : List ℕ} → length (trace k n word).final ≤ length out → out' ≡ sets out 0 (take size work)
      → out' ≡ front (trace k n word).final out
  out_written out h e = e ∙ rw made_final (sets-front whole.final out h)

  made_families : families' ≡ sets families 0 (families_of (trace k n word).lines)
  unfolding finish_with
  made_families = sym (ap (λ (f : Finished). f.families) m.all)

  made_places : places' ≡ sets places 0 (places_of (trace k n word).lines)
  unfolding finish_with
  made_places = sym (ap (λ (f : Finished). f.places) m.all)

  made_lengths : lengths' ≡ sets lengths 0 (lengths_of (trace k n word).lines)
  unfolding finish_with
  made_lengths = sym (ap (λ (f : Finished). f.lengths) m.all)

length_numbers : (f : Line → ℕ) (ls : List Line) → length (map f ls) ≡ length ls
length_numbers f [] = refl
length_numbers f (l ∷ ls) = ap suc (length_numbers f ls)

-- a list of which the first `steps` places were lent, and filled
list_written : (list part u : List ℕ) (steps : ℕ) → steps ≤ length list → length u ≡ steps → part ≡ sets (take steps list) 0 u
    → part ++ drop steps list ≡ front u list
list_written list part u steps h l e =
    let t : length (take steps list) ≡ steps = length-take-le steps list h in
    front_parts u list steps part l (e ∙ sets-front u (take steps list) (omega arith) ∙ front_whole u (take steps list) (omega arith))

-- the rewriting was made in the fronts of three lists
module _ {k : Kind} {n : ℕ} {word : List ℕ} (families places lengths : List ℕ) (steps : ℕ) {made : ℕ} {families' places' lengths' work : List ℕ} {size : ℕ}
    (m : Made k n word (take steps families) (take steps places) (take steps lengths) made families' places' lengths' work size) where
  pub lists-written : steps ≡ length (trace k n word).lines → steps ≤ length families → steps ≤ length places → steps ≤ length lengths
      → (families' ++ drop steps families ≡ front (families_of (trace k n word).lines) families)
      × (places' ++ drop steps places ≡ front (places_of (trace k n word).lines) places)
      × (lengths' ++ drop steps lengths ≡ front (lengths_of (trace k n word).lines) lengths)
  lists-written e f p l =
      let ls = (trace k n word).lines in (
        list_written families families' (families_of ls) steps f (length_numbers _ ls ∙ sym e) (made_families m),
        list_written places places' (places_of ls) steps p (length_numbers _ ls ∙ sym e) (made_places m),
        list_written lengths lengths' (lengths_of ls) steps l (length_numbers _ ls ∙ sym e) (made_lengths m),
      )
