-- Texts put into a buffer one after the other, in the form in which the code meets them.
-- Assumes nothing.
use mathlib.Core.Bool.{true, false, false≢true}
use mathlib.Core.Path.{◌≡◌, refl, sym, ap, ◌∙◌}
use mathlib.Core.List.{List, [], ◌∷◌, ◌++◌}
use Prim.Native.Nat.{ℕ, ◌+◌, ◌/◌, ◌%◌, ◌≤◌, ◌<◌}
use native.Mathlib.Numerals.{add-one, add-two}
use native.Mathlib.Omega.{arith}
use lib.Dec.{leb-suc-zero}
use lib.IntN.{ℤ, pos, negsuc, nat_abs}
use lib.ListN.{length, set, get_or, drop, drop_of_length-le, length-append}
use lib.Seq.{sets, length-sets}
use lib.Signed.{mag, lt_z}
use mir.Syntax.{w8}
use mir.Val.{SFits, to_z, of_z}
use Rattle.refusals.proofs.Bytes.{byte_back, element_back}
use Rattle.coxeter.proofs.Lists.{drop_next, Stored, stored_append, Storing, sets-append}
use Rattle.listing_text.specs.Text.{decimal, spaced, letters, entry, entries}
use Rattle.listing_text.proofs.Decimals.{decimal_digit, decimal_more}

put_byte : (o : List ℕ) (at x : ℕ) → Stored o at (x ∷ []) (set o at x) (at + 1)
put_byte o at x = (refl, refl)

-- ---- digits

pub put_digit : (o : List ℕ) (at x : ℕ) → x < 10 → Stored o at (decimal x) (set o at (48 + x)) (at + 1)
put_digit o at x h = rw (decimal_digit x h) (put_byte o at (48 + x))

pub put_last : (o : List ℕ) (at x : ℕ) (out : List ℕ) (r : ℕ) → 10 ≤ x → Stored o at (decimal (x / 10)) out r
    → Stored o at (decimal x) (set out r (48 + x % 10)) (r + 1)
put_last o at x out r h g = rw (decimal_more x h) (stored_append o at (decimal (x / 10)) ((48 + x % 10) ∷ []) g (put_byte out r (48 + x % 10)))

-- room for a number is room for its digits before the last, and then for the last
pub digit_room : (x : ℕ) → x < 10 → length (decimal x) ≡ 1
digit_room x h = rw (decimal_digit x h)

pub digits_room : (x : ℕ) → 10 ≤ x → length (decimal x) ≡ length (decimal (x / 10)) + 1
digits_room x h = rw (decimal_more x h, length-append (decimal (x / 10)) ((48 + x % 10) ∷ []))

-- ---- numbers after a space

pub length-spaced : (x : ℕ) → length (spaced x) ≡ 1 + length (decimal x)
unfolding spaced
length-spaced x = omega arith

pub put-spaced : (o : List ℕ) (at x : ℕ) (out : List ℕ) (r : ℕ) → Stored (set o at 32) (at + 1) (decimal x) out r → Stored o at (spaced x) out r
unfolding spaced
put-spaced o at x out r h = (omega (arith, h.0), rw (add-one at) at h.1)

pub put_minus : (o : List ℕ) (at x : ℕ) (out : List ℕ) (r : ℕ) → Stored (set (set o at 32) (at + 1) 45) (at + 2) (decimal x) out r
    → Stored o at (32 ∷ 45 ∷ decimal x) out r
put_minus o at x out r h = (omega (arith, h.0), rw (add-one at, add-two at) at h.1)

-- ---- lists, one element a turn

storing_put : {o : List ℕ} {at : ℕ} {u out : List ℕ} {r : ℕ} (v w : List ℕ) {out' : List ℕ} {r' : ℕ} → Storing o at u out r (v ++ w) → Stored out r v out' r'
    → Storing o at u out' r' w
storing_put {out = out} {r} v w {out'} {r'} s h = record {
  size = ap length h.1 ∙ length-sets out r v ∙ s.size;
  place = omega (arith, h.0, s.place, length-append v w);
  same = s.same ∙ sym (sets-append out r v w) ∙ ap (λ (l : List ℕ). sets l (r + length v) w) (sym h.1) ∙ ap (λ (m : ℕ). sets out' m w) (sym h.0);
}

-- room for all that is left is room for what comes next
storing_room : (o : List ℕ) (at : ℕ) (u out : List ℕ) (r : ℕ) (v w : List ℕ) → at + length u ≤ length o → Storing o at u out r (v ++ w)
    → r + length v ≤ length out
storing_room o at u out r v w h s = omega (arith, s.place, s.size, length-append v w)

letters_next : (u : List ℕ) (i : ℕ) → i < length u → letters (drop i u) ≡ spaced (get_or u i 0) ++ letters (drop (i + 1) u)
letters_next u i h = rw (drop_next u i 0 h) (unfold letters in refl)

entries_next : (w : List ℤ) (i : ℕ) → i < length w → entries (drop i w) ≡ entry (get_or w i (pos 0)) ++ entries (drop (i + 1) w)
entries_next w i h = rw (drop_next w i (pos 0) h) (unfold entries in refl)

pub letters_room : (o : List ℕ) (at : ℕ) (u out : List ℕ) (r i : ℕ) → i < length u → at + length (letters u) ≤ length o
    → Storing o at (letters u) out r (letters (drop i u)) → r + length (spaced (get_or u i 0)) ≤ length out
letters_room o at u out r i h g s =
    storing_room o at (letters u) out r (spaced (get_or u i 0)) (letters (drop (i + 1) u)) g (rw (letters_next u i h) at s)

pub entries_room : {o : List ℕ} {at : ℕ} (w : List ℤ) {out : List ℕ} {r : ℕ} (i : ℕ) → i < length w → mag (get_or w i (pos 0)) < 128
    → at + length (entries w) ≤ length o
    → Storing o at (entries w) out r (entries (drop i w)) → r + length (entry (to_z w8 (of_z w8 (get_or w i (pos 0))))) ≤ length out
entries_room {o} {at} w {out} {r} i h f g s =
    rw (element_back (get_or w i (pos 0)) f)
    (storing_room o at (entries w) out r (entry (get_or w i (pos 0))) (entries (drop (i + 1) w)) g (rw (entries_next w i h) at s))

pub letters-put : {o : List ℕ} {at : ℕ} (u : List ℕ) {out : List ℕ} {r : ℕ} (i : ℕ) {out' : List ℕ} {r' : ℕ} → i < length u
    → Storing o at (letters u) out r (letters (drop i u))
    → Stored out r (spaced (get_or u i 0)) out' r' → Storing o at (letters u) out' r' (letters (drop (i + 1) u))
letters-put {o} {at} u {out} {r} i {out'} {r'} h s p =
    storing_put (spaced (get_or u i 0)) (letters (drop (i + 1) u)) (rw (letters_next u i h) at s) p

pub entries-put : {o : List ℕ} {at : ℕ} (w : List ℤ) {out : List ℕ} {r : ℕ} (i : ℕ) {out' : List ℕ} {r' : ℕ} → i < length w → mag (get_or w i (pos 0)) < 128
    → Storing o at (entries w) out r (entries (drop i w)) → Stored out r (entry (to_z w8 (of_z w8 (get_or w i (pos 0))))) out' r'
    → Storing o at (entries w) out' r' (entries (drop (i + 1) w))
entries-put {o} {at} w {out} {r} i {out'} {r'} h f s p =
    storing_put (entry (get_or w i (pos 0))) (entries (drop (i + 1) w)) (rw (entries_next w i h) at s)
    (rw (element_back (get_or w i (pos 0)) f) at p)

pub letters_done : (o : List ℕ) (at : ℕ) (u out : List ℕ) (r i : ℕ) → length u ≤ i → Storing o at (letters u) out r (letters (drop i u))
    → Stored o at (letters u) out r
letters_done o at u out r i h s =
    let e : letters (drop i u) ≡ [] = rw (drop_of_length-le u h) (unfold letters in refl) in
    (omega (arith, s.place, ap length e), sym (rw e at s.same))

pub entries_done : (o : List ℕ) (at : ℕ) (w : List ℤ) (out : List ℕ) (r i : ℕ) → length w ≤ i → Storing o at (entries w) out r (entries (drop i w))
    → Stored o at (entries w) out r
entries_done o at w out r i h s =
    let e : entries (drop i w) ≡ [] = rw (drop_of_length-le w h) (unfold entries in refl) in
    (omega (arith, s.place, ap length e), sym (rw e at s.same))

-- ---- entries

entry_minus_at : (z : ℤ) → lt_z z (pos 0) ≡ true → entry z ≡ 32 ∷ 45 ∷ decimal (nat_abs z)
unfolding entry
entry_minus_at (pos x) h = absurd (false≢true (sym (leb-suc-zero x) ∙ h))
entry_minus_at (negsuc x) h = refl

entry_plus_at : (z : ℤ) → lt_z z (pos 0) ≡ false → entry z ≡ spaced (nat_abs z)
unfolding entry
entry_plus_at (pos x) h = refl
entry_plus_at (negsuc x) h = absurd (false≢true (sym h))

-- z as code holds it, and its size n
module _ {z : ℤ} {n : ℕ} (f : SFits w8 z) (e : n ≡ nat_abs (to_z w8 (of_z w8 z))) where
  pub entry_minus : lt_z (to_z w8 (of_z w8 z)) (pos 0) ≡ true → entry z ≡ 32 ∷ 45 ∷ decimal n
  entry_minus h = rw (e, byte_back z f) (entry_minus_at z (rw (byte_back z f) at h))

  pub entry_plus : lt_z (to_z w8 (of_z w8 z)) (pos 0) ≡ false → entry z ≡ spaced n
  entry_plus h = rw (e, byte_back z f) (entry_plus_at z (rw (byte_back z f) at h))
