-- Steps of a letter that moves, made and noted one after the other (`Ready`, `Carried` and `Inserted` of Tracing,
-- which the contracts of `carrying::pass` and `carrying::insert` name): none at first, one more, those of two
-- stretches together; and the last, after which a normal form stands.
-- Assumes nothing.
use mathlib.Core.Path.{◌≡◌, refl, sym, ap, subst, ◌∙◌}
use mathlib.Core.List.{List, ◌++◌}
use mathlib.Core.Option.{none, some}
use Prim.Native.Nat.{ℕ, suc, ◌+◌}
use native.Mathlib.Omega.{arith}
use lib.ListN.{length, take, set, length-set}
use lib.Seq.{take-length}
use Rattle.coxeter.specs.declared.Kind.{Kind}
use Rattle.traces.specs.Traces.{Redex, lowest_redex}
use Rattle.traces.proofs.Traces.{after}
use Rattle.traces.proofs.LeastWords.{Normal}
use Rattle.traces.proofs.Reading.{Reading, reading_ends, reading_dropped, reading_moved}
use Rattle.traces.proofs.ReadingSteps.{length_dropped, after_moved}
use Rattle.traces.proofs.Tracing.{Finished, finish_step, finish_steps, Ready, Carried, Inserted}

-- how many steps were made, the three lists in which they are noted, and the word that stands
pub record Noted : Type 0 where
  pub steps : ℕ
  pub families : List ℕ
  pub places : List ℕ
  pub lengths : List ℕ
  pub word : List ℕ

abbrev pub noted : ℕ → List ℕ → List ℕ → List ℕ → List ℕ → Noted
noted s families places lengths word = record { steps = s; families = families; places = places; lengths = lengths; word = word }

module _ {k : Kind} {n : ℕ} {rest : List ℕ} {s : ℕ} {families places lengths word : List ℕ} where
  pub carried_start : {q : ℕ} → Ready k n rest s families places lengths word q
      → Carried k n rest s families places lengths word s families places lengths word q
  carried_start a = record { reading = a.reading; same = refl; size = refl; families_size = refl; places_size = refl; lengths_size = refl }

  module _ {s' : ℕ} {families' places' lengths' word' : List ℕ} {q' : ℕ}
      (b : Carried k n rest s families places lengths word s' families' places' lengths' word' q') where
    pub carried_ready : {q : ℕ} → Ready k n rest s families places lengths word q → Ready k n rest s' families' places' lengths' word' q'
    carried_ready a = record {
      rank = a.rank;
      high = a.high;
      reading = b.reading;
      letters = a.letters;
      short = omega (arith, b.size, a.short);
      room =
          omega (
            arith,
            a.room,
            sym (finish_steps k n s families places lengths _) ∙ ap (λ (f : Finished). f.steps) b.same
                ∙ finish_steps k n s' families' places' lengths' (word' ++ rest),
          );
      as_places = b.places_size ∙ a.as_places ∙ sym b.families_size;
      as_lengths = b.lengths_size ∙ a.as_lengths ∙ sym b.families_size;
    }

    pub carried_trans : {s'' : ℕ} {families'' places'' lengths'' word'' : List ℕ} {q'' : ℕ}
        → Carried k n rest s' families' places' lengths' word' s'' families'' places'' lengths'' word'' q''
        → Carried k n rest s families places lengths word s'' families'' places'' lengths'' word'' q''
    carried_trans c = record {
      reading = c.reading;
      same = b.same ∙ c.same;
      size = c.size ∙ b.size;
      families_size = c.families_size ∙ b.families_size;
      places_size = c.places_size ∙ b.places_size;
      lengths_size = c.lengths_size ∙ b.lengths_size;
    }

  module _ {q : ℕ} (a : Ready k n rest s families places lengths word q) (u : Redex) (e : lowest_redex k n (take (suc q) word) ≡ some u) where
    -- a step that is noted, of any family but 1
    pub carried_step : {s' : ℕ} {families' places' lengths' word' : List ℕ} → (u.rule.family ≡ 1 → ⊥) → s' ≡ s + 1
        → families' ≡ set families s u.rule.family → places' ≡ set places s u.place
        → lengths' ≡ set lengths s (length word + length rest) → word' ≡ after word u
        → Carried k n rest s families places lengths word s' families' places' lengths' word' u.place
    carried_step f i j l m o =
        let b = after_moved k n a.rank word q a.reading u e f in
        record {
          reading = subst (λ (w : List ℕ). Reading k n w u.place) (sym o) (reading_moved k n a.rank word q a.reading u e f);
          same =
              finish_step s families places lengths k n a.rank word q rest a.reading a.letters u e
              ∙ rw (i, j, l, m, o, b.0);
          size = ap length o ∙ b.0;
          families_size = ap length j ∙ length-set families s u.rule.family;
          places_size = ap length l ∙ length-set places s u.place;
          lengths_size = ap length m ∙ length-set lengths s (length word + length rest);
        }

    -- a step of family 1
    pub inserted_step : {s' : ℕ} {families' places' lengths' word' : List ℕ} {size : ℕ} → u.rule.family ≡ 1 → s' ≡ s + 1
        → families' ≡ set families s u.rule.family → places' ≡ set places s u.place → size + 2 ≡ length word
        → lengths' ≡ set lengths s (size + length rest) → take size word' ≡ after word u
        → Inserted k n rest s families places lengths word s' families' places' lengths' word' size
    inserted_step {size} f i j l p m o =
        let b = length_dropped k n a.rank word q a.reading u e f in
        let d : length (after word u) ≡ size = omega (arith, b) in
        record {
          inside = omega arith;
          normal = subst (Normal k n) (sym o) (reading_dropped k n a.rank word q a.reading u e f);
          same =
              finish_step s families places lengths k n a.rank word q rest a.reading a.letters u e
              ∙ rw (i, j, l, m, o, d);
        }

  -- no rule ends with the letter
  pub inserted_end : {q : ℕ} → Ready k n rest s families places lengths word q → lowest_redex k n (take (suc q) word) ≡ none → (size : ℕ) → size ≡ length word
      → Inserted k n rest s families places lengths word s families places lengths word size
  inserted_end {q} a e size l =
      let w : take size word ≡ word = rw l (take-length word) in
      record {
        inside = omega arith;
        normal = subst (Normal k n) (sym w) (reading_ends k n a.rank word q a.reading e);
        same = rw w;
      }

  -- what was carried before
  pub inserted_after : {s' : ℕ} {families' places' lengths' word' : List ℕ} {q' : ℕ}
      → Carried k n rest s families places lengths word s' families' places' lengths' word' q'
      → {s'' : ℕ} {families'' places'' lengths'' word'' : List ℕ} {size : ℕ}
      → Inserted k n rest s' families' places' lengths' word' s'' families'' places'' lengths'' word'' size
      → Inserted k n rest s families places lengths word s'' families'' places'' lengths'' word'' size
  inserted_after b c = record { inside = omega (arith, c.inside, b.size); normal = c.normal; same = b.same ∙ c.same }
