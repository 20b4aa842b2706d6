-- Replaying the lines of a rewriting with single rewrites. Any reader who makes them at the lines' places sees the
-- lines' families and lengths and ends in the final word; only the lines of the rewriting can be replayed so; and
-- there are no more of them than demand 3's number. By induction along the rewriting. A call that ends has written
-- such lines and the normal form.
--
-- Sections: one step of an accepted word; replaying; only one replay; the number of steps; what a call writes.
-- Assumes nothing.
use mathlib.Core.Path.{◌≡◌, refl, sym, ap, ap₂, subst, ◌∙◌}
use mathlib.Core.Bool.{false, true≢false}
use mathlib.Core.List.{List, [], ◌∷◌, map}
use mathlib.Core.Option.{none}
use Prim.Native.Nat.{ℕ, suc, ◌+◌, ◌≤◌}
use native.Mathlib.Omega.{arith}
use lib.ListN.{length, take, drop, replicate, length-replicate, length-map}
use borrow.Author.Tests.{le-ltb, ltb-false, le-leb, lt-leb}
use Rattle.coxeter.specs.Kinds.{kind_of}
use Rattle.coxeter.specs.Checks.{too_short, rank_refusal, word_refusal, check, ◌then◌}
use Rattle.coxeter.specs.NormalForm.{word_normal_form}
use Rattle.coxeter.specs.Calls.{front, written}
use Rattle.coxeter.proofs.Refusals.{then_zero}
use Rattle.coxeter.proofs.Order.{less, same, more, compared}
use Rattle.coxeter.proofs.FrontLaws.{take-front}
use Rattle.coxeter.proofs.TestLaws.{impossible}
use Rattle.coxeter.proofs.Unchanged.{kept_front}
use Rattle.rules.specs.declared.Rewrite.{Rewrite}
use Rattle.rules.specs.declared.Rewrite.TheVariants.{Used}
use Rattle.rules.specs.Rules.{rules, first_fitting}
use Rattle.rules.specs.Calls.{past_end, Transition, changed, rewrite_at, Rewrote, new_word_in, single}
use Rattle.rules.specs.Runs.{AcceptedWord, Arguments, Call, word_after, Run, uses}
use Rattle.rules.specs.Demand3.{Demand3}
use Rattle.rules.proofs.Fits.{first_fitting_some, first_fitting_none, none_first_fitting}
use Rattle.rules.proofs.Completeness.{rewrites_letters, rewrites_length}
use Rattle.rules.proofs.Calls.{accepted_least, accepted_letters, accepted_of_shorter, stepped, single_lawful}
use Rattle.rules.proofs.UsedRules.{answer_of_none, usable_changed, stepped_used, nowhere_fits_iff}
use Rattle.rules.proofs.CallLists.{new_word_exactly}
use Rattle.traces.specs.answers.ToEnd.{Ended}
use Rattle.traces.specs.Traces.{Redex, lowest_redex, Line, Trace, trace, families_of, places_of, lengths_of, rewriting_to_end}
use Rattle.traces.specs.Traces.{NoneFitsBelow, Replays, traced_by, too_few_places}
use Rattle.traces.proofs.Traces.{Lowest, irreducible_of_none, after, line_of, continued, lowest_rewrites, trace_induction, trace-normal_form}
use Rattle.traces.proofs.Unchanged.{to_end_past}
use Rattle.traces.proofs.Firsts.{to_end_of_exactly}

-- ---- one step of an accepted word

module _ (k n : ℕ) (u : List ℕ) (h : AcceptedWord k n u) (s : Redex) (a : Lowest (kind_of k) n u s) where
  next_shorter : length (after u s) ≤ length u
  next_shorter = rewrites_length (lowest_rewrites (accepted_least h) a)

  -- the word after the step is accepted
  next_accepted : AcceptedWord k n (after u s)
  next_accepted =
      accepted_of_shorter (after u s) h next_shorter (rewrites_letters (lowest_rewrites (accepted_least h) a) (accepted_letters h))

  -- below the place none fits
  none_below : NoneFitsBelow k n u s.place
  none_below q l before out x w =
      w.answer ∙ answer_of_none (stepped single k n u q before h) (omega (arith, a.inside)) (a.below q l)

  -- at the place, with room, the rule is used
  step_at : (before : List ℕ) → too_short (length (after u s)) before ≡ false
      → rewrite_at single k n u s.place before ≡ changed single s.rule (after u s) before
  unfolding past_end too_short
  step_at before r =
      let f = first_fitting_some (rules (kind_of k) n) u s.place s.rule a.fitting in
      usable_changed single k n u (record { place = s.place; outputs = before }) s.rule
      (record {
        listed = f.0;
        fitting = f.1;
        accepted = h;
        inside = lt-leb (length u) s.place a.inside;
        room = le-leb (length (after u s))
            (length before) (ltb-false (length before) (length (after u s)) r);
      })

  used_at : (before out : List ℕ) (x : Rewrite) → Rewrote single k n u s.place before out x → too_short (length (after u s)) before ≡ false
      → (x ≡ Used s.rule.family s.rule.i s.rule.j (length (after u s))) × (take (length (after u s)) out ≡ after u s)
  used_at before out x w r = (
    w.answer ∙ ap (λ (t : Transition single). t.answer) (step_at before r),
    ap (take (length (after u s))) (w.outputs ∙ ap (λ (t : Transition single). t.outputs) (step_at before r))
        ∙ take-front (after u s) before (length (after u s)) refl,
  )

-- ---- replaying

-- what is shown of a word of steps by induction along its rewriting, if it is accepted
pub trace_replays : (k n : ℕ) (u : List ℕ) → AcceptedWord k n u → Replays k n u (trace (kind_of k) n u).lines (trace (kind_of k) n u).final
trace_replays k n u h =
    trace_induction (kind_of k) n (accepted_least h)
    (λ u t. AcceptedWord k n u → Replays k n u t.lines t.final)
    (λ u e d g. ((nowhere_fits_iff single_lawful k n u g).0 (irreducible_of_none (kind_of k) n u (accepted_least h) d), refl))
    (λ u s e a ih g. (
      none_below k n u g s a,
      λ before out x w r.
          let q = used_at k n u g s a before out x w r in (
            (s.rule.i, s.rule.j, q.0),
            subst (λ (v : List ℕ). Replays k n v (trace (kind_of k) n (after u s)).lines (trace (kind_of k) n (after u s)).final) (sym q.1)
                (ih (next_accepted k n u g s a)),
          ),
    ))
    u (accepted_letters h) h

-- ---- only one replay

-- an output of any length
room : (m : ℕ) → (out : List ℕ) × (length out ≡ m)
room m = (replicate m 0, length-replicate m 0)

has_room : (m : ℕ) (out : List ℕ) → m ≤ length out → too_short m out ≡ false
unfolding too_short
has_room m out l = le-ltb (length out) m l

-- where a rule is used, one fits
fits_of_used : {k n : ℕ} {u : List ℕ} (p : ℕ) (before : List ℕ) (f i j l : ℕ) → AcceptedWord k n u
    → (rewrite_at single k n u p before).answer ≡ Used f i j l → first_fitting (rules (kind_of k) n) u p ≡ none → ⊥
fits_of_used {k} {n} {u} p before f i j l h e d =
    let a : Arguments single = record { place = p; outputs = before } in
    let t = (stepped_used single_lawful a h (stepped single k n u p before h)).exactly.0
    (_, (new_word_exactly _ (rewrite_at single k n u p before).outputs _).1 (f, i, j, l, e, refl)) in
    true≢false (sym t.1.fitting ∙ first_fitting_none (rules (kind_of k) n) u p d t.0 t.1.listed)

same_line : (l m : Line) → l.family ≡ m.family → l.place ≡ m.place → l.left ≡ m.left → l ≡ m
same_line l m f p e i = record { family = f i; place = p i; left = e i }

abbrev Only : ℕ → ℕ → List ℕ → Trace → Type 0
Only k n u t = AcceptedWord k n u → (ls : List Line) (v : List ℕ) → Replays k n u ls v → (ls ≡ t.lines) × (v ≡ t.final)

module _ (k n : ℕ) (u : List ℕ) (h : AcceptedWord k n u) where
  -- no line can be replayed where none fits
  only_ends : lowest_redex (kind_of k) n u ≡ none → (ls : List Line) (v : List ℕ) → Replays k n u ls v → (ls ≡ []) × (v ≡ u)
  only_ends d [] v r = (refl, sym r.1)
  only_ends d (l ∷ ls) v r =
      let o = room l.left in
      let q = (r.1 o.0 _ _ (record { answer = refl; outputs = refl }) (has_room l.left o.0 (omega (arith, o.1)))).0 in
      absurd (fits_of_used l.place o.0 l.family q.0 q.1 l.left h q.2 (none_first_fitting (rules (kind_of k) n) u l.place
      (λ x m. irreducible_of_none (kind_of k) n u (accepted_least h) d x m l.place)))

  module _ (s : Redex) (a : Lowest (kind_of k) n u s) where
    used_with : (m : ℕ) → (o : List ℕ) × (m ≤ length o)
        × ((rewrite_at single k n u s.place o).answer ≡ Used s.rule.family s.rule.i s.rule.j (length (after u s)))
        × (take (length (after u s)) (rewrite_at single k n u s.place o).outputs ≡ after u s)
    used_with m =
        let o = room (m + length u) in
        let q = used_at k n u h s a o.0 _ _ (record { answer = refl; outputs = refl })
        (has_room (length (after u s)) o.0 (omega (arith, o.1, next_shorter k n u h s a))) in
        (o.0, omega (arith, o.1), q.0, q.1)

    only_goes : Only k n (after u s) (trace (kind_of k) n (after u s)) → (ls : List Line) (v : List ℕ) → Replays k n u ls v
        → (ls ≡ line_of u s ∷ (trace (kind_of k) n (after u s)).lines) × (v ≡ (trace (kind_of k) n (after u s)).final)
    only_goes ih [] v r =
        let o = used_with 0 in
        let n = r.0 s.place a.inside o.0 _ _ (record { answer = refl; outputs = refl }) in
        impossible (cc)
    only_goes ih (l ∷ ls) v r =
        let o = used_with l.left in
        let q = r.1 o.0 _ _ (record { answer = refl; outputs = refl }) (has_room l.left o.0 o.1) in
        elim (compared l.place s.place) [
          | less g ↦ absurd (fits_of_used l.place o.0 l.family q.0.0 q.0.1 l.left h q.0.2 (a.below l.place g))
          | same g ↦
              let f : l.family ≡ s.rule.family = cc in
              let e : l.left ≡ length (after u s) = cc in
              let w : take l.left (rewrite_at single k n u l.place o.0).outputs ≡ after u s =
              ap₂ (λ (m p : ℕ). take m (rewrite_at single k n u p o.0).outputs) e g ∙ o.3 in
              let i = ih (next_accepted k n u h s a) ls v (subst (λ (y : List ℕ). Replays k n y ls v) w q.1) in
              (ap₂ (λ (y : Line) (ys : List Line). y ∷ ys) (same_line l (line_of u s) f g e) i.0, i.1)
          | more g ↦
              let n = r.0 s.place g o.0 _ _ (record { answer = refl; outputs = refl }) in
              impossible (cc)
        ]

-- whoever replays lines from the word replays the rewriting's
pub replays_only : (k n : ℕ) (u : List ℕ) → AcceptedWord k n u → (ls : List Line) (v : List ℕ) → Replays k n u ls v
    → (ls ≡ (trace (kind_of k) n u).lines) × (v ≡ (trace (kind_of k) n u).final)
replays_only k n u h =
    trace_induction (kind_of k) n (accepted_least h) (Only k n)
    (λ u e d g. only_ends k n u g d) (λ u s e a ih g. only_goes k n u g s a ih) u (accepted_letters h) h

-- ---- the number of steps

-- the calls at the lines' places, each with its word's length as room
record Replay (k n : ℕ) (u : List ℕ) (t : Trace) : Type 0 where
  calls : List (Call single)
  run : Run single k n u calls
  counted : uses single calls ≡ length t.lines

replay_goes : (k n : ℕ) (u : List ℕ) (h : AcceptedWord k n u) (s : Redex) → Lowest (kind_of k) n u s
    → Replay k n (after u s) (trace (kind_of k) n (after u s))
    → Replay k n u (continued u s (trace (kind_of k) n (after u s)))
unfolding word_after uses new_word_in
replay_goes k n u h s a r =
    let v = after u s in
    let e = step_at k n u h s a u (has_room (length v) u (next_shorter k n u h s a)) in
    record {
      calls = record {
        arguments = record { place = s.place; outputs = u };
        result = record { answer = Used s.rule.family s.rule.i s.rule.j (length v); outputs = front v u };
      } ∷ r.calls;
      run = (
        record { answer = sym (ap (λ (t : Transition single). t.answer) e); outputs = sym (ap (λ (t : Transition single). t.outputs) e) },
        subst (λ (w : List ℕ). Run single k n w r.calls) (sym (take-front v u (length v) refl)) r.run,
      );
      counted = ap suc r.counted;
    }

-- T11: the rewriting has no more steps than that number
pub trace-at_most : (k n : ℕ) (u : List ℕ) → AcceptedWord k n u → (d : Demand3 single k n u) → length (trace (kind_of k) n u).lines ≤ d.most
unfolding uses
trace-at_most k n u h d =
    let r =
    trace_induction (kind_of k) n (accepted_least h) (λ u t. AcceptedWord k n u → Replay k n u t)
    (λ u e d g. record { calls = []; run = tt; counted = refl }) (λ u s e a ih g. replay_goes k n u g s a (ih (next_accepted k n u g s a)))
    u (accepted_letters h) h in
    omega (arith, r.counted, (d.follows r.calls r.run).uses-at_most)

-- ---- what a call writes

-- a call that ends was not refused with q, and wrote the lines and the final word
pub ended_wrote : (q : ℕ) (t : Trace) (families places lengths out : List ℕ) (s l : ℕ) → let x = traced_by q t families places lengths out in
    x.answer ≡ Ended s l
    → (q ≡ 0) × (length t.lines ≡ s) × (length t.final ≡ l)
    × (take s x.families ≡ families_of t.lines) × (take s x.places ≡ places_of t.lines)
    × (take s x.lengths ≡ lengths_of t.lines) × (take l x.bytes ≡ t.final)
unfolding traced_by
ended_wrote q t families places lengths out s l e =
    let r = q then check 15 (too_few_places (length t.lines) families places lengths) then check 14 (too_short (length t.final) out) in
    let g = ((to_end_of_exactly r (length t.lines) (length t.final)).1 s l).0 e in
    let stands : (w list : List ℕ) (m : ℕ) → length w ≡ m → take m (written r w list) ≡ w =
    λ w list m h. kept_front r w list h g.0 in
    let lines : (f : Line → ℕ) (list : List ℕ) → take s (written r (map f t.lines) list) ≡ map f t.lines =
    λ f list. stands (map f t.lines) list s (length-map t.lines f ∙ g.1) in (
      (then_zero q _ g.0).0,
      g.1,
      g.2,
      lines (λ (m : Line). m.family) families,
      lines (λ (m : Line). m.place) places,
      lines (λ (m : Line). m.left) lengths,
      stands t.final out l g.2,
    )

-- the first l bytes of the output are the normal form and the others stay; the first s places of the three lists
-- are the families, places and lengths of lines that any reader can replay from the word to the normal form
pub to_end_wrote : (k n : ℕ) (u families places lengths out : List ℕ) {s l : ℕ}
    → (rewriting_to_end k n u families places lengths out).answer ≡ Ended s l
    → let t = rewriting_to_end k n u families places lengths out in
    let v = word_normal_form (kind_of k) n u in
    (length v ≡ l) × (take l t.bytes ≡ v) × (drop l t.bytes ≡ drop l out)
    × ((ls : List Line) × (length ls ≡ s) × (take s t.families ≡ families_of ls) × (take s t.places ≡ places_of ls)
    × (take s t.lengths ≡ lengths_of ls) × Replays k n u ls v)
unfolding rewriting_to_end
to_end_wrote k n u families places lengths out {s} {l} e =
    let w = ended_wrote _ _ families places lengths out s l e in
    let z = then_zero (rank_refusal k n) (word_refusal n u) w.0 in
    let h : AcceptedWord k n u = record { rank = z.0; word = z.1 } in
    let f = trace-normal_form (kind_of k) n (accepted_least h) u (accepted_letters h) in (
      ap (λ (v : List ℕ). length v) (sym f) ∙ w.2,
      w.6 ∙ f,
      (to_end_past k n u families places lengths out s l e).3,
      ((trace (kind_of k) n u).lines, w.1, w.3, w.4, w.5, subst (Replays k n u (trace (kind_of k) n u).lines) f (trace_replays k n u h)),
    )
