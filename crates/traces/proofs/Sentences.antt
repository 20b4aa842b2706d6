-- The rewriting to its end in plain terms (T19 to T25 of the specification), at the answer, the three lists and the
-- bytes that it left. StepSentences.antt has its refusals and the number of steps.
--
-- Sections: replaying with a list of single rewrites; a rewriting that ended.
-- Assumes nothing.
use mathlib.Core.Path.{◌≡◌, sym, ap, subst, ◌∙◌}
use mathlib.Core.List.{List, [], ◌∷◌, ◌++◌, map, nil≢cons}
use Prim.Native.Nat.{ℕ, suc, ◌≤◌, ◌<◌}
use native.Mathlib.Omega.{arith}
use borrow.Author.Tests.{eq-eqb, le-ltb}
use lib.ListN.{length, get_or, take, drop, length-map, length-append}
use Rattle.coxeter.specs.answers.Answer as answer
use Rattle.coxeter.specs.Kinds.{kind_of}
use Rattle.coxeter.specs.Windows.{window}
use Rattle.coxeter.specs.Checks.{too_short, rank_refusal, word_refusal}
use Rattle.coxeter.specs.NormalForm.{IsNormalForm}
use Rattle.coxeter.specs.Calls.{answer_of}
use Rattle.coxeter.proofs.Refusals.{then_zero}
use Rattle.coxeter.proofs.Lists.{get_d_take}
use Rattle.coxeter.proofs.Theorems.{window_passes}
use Rattle.coxeter.proofs.TestLaws.{impossible}
use Rattle.rules.specs.declared.Rewrite.TheVariants.{Used}
use Rattle.rules.specs.Calls.{new_word_in, single}
use Rattle.rules.specs.Runs.{AcceptedWord, Result, Call, word_after, word_left, Meets, Run}
use Rattle.rules.specs.Demand3.{NowhereFits}
use Rattle.rules.proofs.Calls.{accepted_least}
use Rattle.rules.proofs.Theorems.{normal_form-least}
use Rattle.traces.specs.answers.ToEnd.{Ended}
use Rattle.traces.specs.Traces.{Line, families_of, places_of, lengths_of, rewriting_to_end}
use Rattle.traces.specs.Traces.{TraceYields, number_of_steps, NoneFitsBelow, Replays}
use Rattle.traces.proofs.Unchanged.{to_end_past}
use Rattle.traces.proofs.Replays.{replays_only, ended_wrote, to_end_wrote}

-- ---- replaying with a list of single rewrites

after_used : (u : List ℕ) (t : Result single) (f i j l : ℕ) → t.answer ≡ Used f i j l → word_after single u t ≡ take l t.outputs
unfolding word_after new_word_in
after_used u t f i j l e = rw (e, word_after, new_word_in)

-- the places that a list of calls is made at, and the outputs that it is lent
abbrev called_at : List (Call single) → List ℕ
called_at cs = map (λ (c : Call single). c.arguments.place) cs

abbrev lent_to : List (Call single) → List (List ℕ)
lent_to cs = map (λ (c : Call single). c.arguments.outputs) cs

-- what a reader of the lines sees who makes the calls cs: at each none fits lower down, the line's family and
-- length are answered; the last word is v
record Seen (k n : ℕ) (u : List ℕ) (families lengths v : List ℕ) (cs : List (Call single)) : Type 0 where
  each : (front : List (Call single)) (c : Call single) (rest : List (Call single)) → cs ≡ front ++ (c ∷ rest)
      → NoneFitsBelow k n (word_left single u front) c.arguments.place
      × ((i j : ℕ) × (c.result.answer ≡ Used (get_or families (length front) 0) i j (get_or lengths (length front) 0)))
  last : word_left single u cs ≡ v
  ends : NowhereFits single k n (word_left single u cs)

module _ (k n : ℕ) (u : List ℕ) (l : Line) (ls : List Line) (v : List ℕ) (r : Replays k n u (l ∷ ls) v) (c : Call single) (cs : List (Call single))
    (m : Meets single k n u c) (e : called_at (c ∷ cs) ≡ places_of (l ∷ ls)) (room : l.left ≤ length c.arguments.outputs) where
  place : c.arguments.place ≡ l.place
  place = cc

  used : ((i j : ℕ) × (c.result.answer ≡ Used l.family i j l.left)) × Replays k n (take l.left c.result.outputs) ls v
  unfolding too_short
  used = r.1 c.arguments.outputs c.result.outputs c.result.answer (rw (← place) m) (le-ltb (length c.arguments.outputs) l.left room)

  -- the rest of the lines, from the word that the call left
  replays_next : Replays k n (word_after single u c.result) ls v
  replays_next =
      let next = after_used u c.result l.family used.0.0 used.0.1 l.left used.0.2 in
      subst (λ (w : List ℕ). Replays k n w ls v) (sym next) used.1

  seen_next : Seen k n (word_after single u c.result) (families_of ls) (lengths_of ls) v cs → Seen k n u (families_of (l ∷ ls)) (lengths_of (l ∷ ls)) v (c ∷ cs)
  unfolding word_left
  seen_next rest = record { each = each; last = rest.last; ends = rest.ends }
    where
      each : (front : List (Call single)) (d : Call single) (more : List (Call single)) → c ∷ cs ≡ front ++ (d ∷ more)
          → NoneFitsBelow k n (word_left single u front) d.arguments.place
          × ((i j : ℕ) × (d.result.answer ≡ Used (get_or (families_of (l ∷ ls)) (length front) 0) i j (get_or (lengths_of (l ∷ ls)) (length front) 0)))
      each [] d more q =
          let g : c ≡ d = cc in
          subst (λ (x : Call single). NoneFitsBelow k n u x.arguments.place × ((i j : ℕ) × (x.result.answer ≡ Used l.family i j l.left))) g
          (rw place r.0, used.0)
      each (f ∷ front) d more q =
          let g : c ≡ f = cc in
          let t : cs ≡ front ++ (d ∷ more) = cc in
          subst (λ (x : Call single). NoneFitsBelow k n (word_left single (word_after single u x.result) front) d.arguments.place
          × ((i j : ℕ) × (d.result.answer ≡ Used (get_or (families_of ls) (length front) 0) i j (get_or (lengths_of ls) (length front) 0)))) g
          (rest.each front d more t)

no_call : (front : List (Call single)) (c : Call single) (rest : List (Call single)) → [] ≡ front ++ (c ∷ rest) → ⊥
no_call [] c rest q = nil≢cons q
no_call (d ∷ front) c rest q = nil≢cons q

seen : {k n : ℕ} {u : List ℕ} (ls : List Line) {v : List ℕ} → Replays k n u ls v → {cs : List (Call single)} → Run single k n u cs → called_at cs ≡ places_of ls
    → ((i : ℕ) → i < length ls → get_or (lengths_of ls) i 0 ≤ length (get_or (lent_to cs) i []))
    → Seen k n u (families_of ls) (lengths_of ls) v cs
unfolding word_left
seen [] r {cs = []} m e o = record { each = λ front c rest q. absurd (no_call front c rest q); last = r.1; ends = r.0 }
seen [] r {cs = (c ∷ cs)} m e o = impossible (cc)
seen (l ∷ ls) r {cs = []} m e o = impossible (cc)
seen {k} {n} {u} (l ∷ ls) {v} r {cs = (c ∷ cs)} m e o =
    let room : l.left ≤ length c.arguments.outputs = o 0 (omega arith) in
    let places : called_at cs ≡ places_of ls = cc in
    let rooms : (i : ℕ) → i < length ls → get_or (lengths_of ls) i 0 ≤ length (get_or (lent_to cs) i []) = λ i h. o (suc i) (omega arith) in
    seen_next k n u l ls v r c cs m.0 e room
    (seen {u = word_after single u c.result} ls (replays_next k n u l ls v r c cs m.0 e room) m.1 places rooms)

-- ---- a rewriting that ended

module _ (k n : ℕ) (u families places lengths out : List ℕ) (s l : ℕ) (fs ps ls after : List ℕ)
    (h : TraceYields (rewriting_to_end k n u families places lengths out) (Ended s l) fs ps ls after) where
  ended_accepted : AcceptedWord k n u
  unfolding rewriting_to_end
  ended_accepted =
      let w = ended_wrote _ _ families places lengths out s l (sym h.0) in
      let z = then_zero (rank_refusal k n) (word_refusal n u) w.0 in
      record { rank = z.0; word = z.1 }

  -- T19, T20, T24: the first s entries of the lists are family, place and length left of s lines, which can be
  -- replayed by single rewrites, each at the lowest place where a rule fits, to the word written, where none fits
  pub lines_replay : (lines : List Line) × (length lines ≡ s) × (take s fs ≡ families_of lines) × (take s ps ≡ places_of lines)
      × (take s ls ≡ lengths_of lines) × Replays k n u lines (take l after)
  lines_replay =
      let w = to_end_wrote k n u families places lengths out (sym h.0) in
      rw (h.1, h.2, h.3, h.4, w.1) w.3

  -- T24: the same of every list of single rewrites from the word at the places written, whose outputs have room for
  -- the lengths written: at each call no rule fits lower down, and it answers the family and the length written;
  -- the word that is left is the one written, and none fits in it
  module _ (cs : List (Call single)) (run : Run single k n u cs) (at : map (λ (c : Call single). c.arguments.place) cs ≡ take s ps)
      (room : (i : ℕ) → i < s → get_or ls i 0 ≤ length (get_or (map (λ (c : Call single). c.arguments.outputs) cs) i [])) where
    replay : Seen k n u (take s fs) (take s ls) (take l after) cs
    replay =
        let w = lines_replay in
        rw (w.2, w.4) (seen w.0 w.5 run (at ∙ w.3)
        (λ i b.
        let c : i < s = omega (arith, b, w.1) in
        let e = ap (λ (y : List ℕ). get_or y i 0) (sym w.4) ∙ get_d_take s i ls 0 c in
        omega (arith, e, room i c)))

    -- as many calls as steps
    called : length cs ≡ s
    called = sym (length-map cs (λ (c : Call single). c.arguments.place)) ∙ ap (λ (y : List ℕ). length y) (at ∙ lines_replay.3)
        ∙ length-map lines_replay.0 (λ (m : Line). m.place) ∙ lines_replay.1

    -- T24
    pub each_replayed : (front : List (Call single)) (c : Call single) (rest : List (Call single)) → cs ≡ front ++ (c ∷ rest)
        → NoneFitsBelow k n (word_left single u front) c.arguments.place
        × ((i j : ℕ) × (c.result.answer ≡ Used (get_or fs (length front) 0) i j (get_or ls (length front) 0)))
    each_replayed front c rest e =
        let r = replay.each front c rest e in
        let b : length front < s = omega (arith, called, ap (λ (y : List (Call single)). length y) e, length-append front (c ∷ rest)) in
        rw (get_d_take s (length front) fs 0 b, get_d_take s (length front) ls 0 b) at r

    -- T24
    pub replayed_to_end : (word_left single u cs ≡ take l after) × NowhereFits single k n (take l after)
    replayed_to_end = (replay.last, subst (NowhereFits single k n) replay.last replay.ends)

  -- T19: no other lines can be replayed so
  pub only_lines : (lines : List Line) (v : List ℕ) → Replays k n u lines v
      → (families_of lines ≡ take s fs) × (places_of lines ≡ take s ps) × (lengths_of lines ≡ take s ls) × (v ≡ take l after)
  only_lines lines v r =
      let w = lines_replay in
      let a = replays_only k n u ended_accepted lines v r in
      let b = replays_only k n u ended_accepted w.0 (take l after) w.5 in
      let e : lines ≡ w.0 = a.0 ∙ sym b.0 in
      (ap families_of e ∙ sym w.2, ap places_of e ∙ sym w.3, ap lengths_of e ∙ sym w.4, a.1 ∙ sym b.1)

  -- T21, T22: the normal form among words of any length; the answer is its length
  pub final_normal : IsNormalForm (kind_of k) n (window (kind_of k) n u) (take l after) × (length (take l after) ≡ l)
  final_normal =
      let w = to_end_wrote k n u families places lengths out (sym h.0) in
      rw (h.4, w.1) (normal_form-least (kind_of k) n (window (kind_of k) n u) (accepted_least ended_accepted) (window_passes (kind_of k) n u), w.0)

  -- T23, I2: list places past the steps and the output past the final word keep what they held
  pub lists-past : (drop s fs ≡ drop s families) × (drop s ps ≡ drop s places) × (drop s ls ≡ drop s lengths) × (drop l after ≡ drop l out)
  lists-past = rw (h.1, h.2, h.3, h.4) (to_end_past k n u families places lengths out s l (sym h.0))

  -- T22, T25: the call for the number of steps answers s
  pub steps_answered : number_of_steps k n u ≡ answer.Length s
  unfolding number_of_steps answer_of rewriting_to_end
  steps_answered =
      let w = ended_wrote _ _ families places lengths out s l (sym h.0) in
      rw (eq-eqb _ 0 w.0) (ap answer.Length w.1)
