-- A conversion as the code makes it, record by record: what is left to write of the records and of their offsets, and
-- the answers. ConversionChecks.antt has the checks.
--
-- Sections: what is left to write; the records, one after the other; their offsets; the whole; the answers.
-- Assumes nothing.
use mathlib.Core.Path.{◌≡◌, refl, sym, ap, ◌∙◌}
use mathlib.Core.List.{List, [], ◌∷◌, ◌++◌}
use Prim.Native.Nat.{ℕ, suc, ◌+◌, ◌-◌, ◌*◌, ◌≤◌, ◌<◌}
use native.Mathlib.Nat.{zero-add}
use native.Mathlib.Numerals.{add-one}
use native.Mathlib.Omega.{arith}
use lib.ListN.{length, length-append}
use lib.Seq.{sets, length-sets}
use Rattle.coxeter.specs.Checks.{RankOf}
use Rattle.coxeter.specs.answers.Answer as answer
use Rattle.coxeter.proofs.Lists.{Storing, sets_next}
use Rattle.coxeter.proofs.Outcomes.{writes-refused, writes_short, writes_done, writes-written}
use Rattle.coxeter.proofs.FrontLaws.{sets-front}
use Rattle.book_format.specs.declared.Edition.{Edition}
use Rattle.book_format.specs.Books.{two, count, offset, head_size, kind_at, rank_at}
use Rattle.book_format.specs.Books.{lanes_at, letter_count_at, letters_at, record_of}
use Rattle.book_format.specs.Records.{record_bytes, offset_bytes, lay_out, record_at, records_from, records_of}
use Rattle.book_format.specs.Conversion.{other, converted, conversion_refusal, converting}
use Rattle.book_format.proofs.BookLaws.{accepted}
use Rattle.book_format.proofs.RankLaws.{book_rank_accepted}
use Rattle.book_format.proofs.WritingLaws.{length_two, length-record_of}
use Rattle.book_format.proofs.RecordLaws.{length-letters_at, length-records_from}
use Rattle.book_format.proofs.LayOuts.{length-offset_bytes}
use Rattle.book_format.proofs.Converting.{Convertible, convertible, converted_some, converted-bytes, conversion_opens, passing-at, size_of, length-converted}
use Rattle.book.proofs.converting.ConversionChecks.{end_at_inside}

-- ---- what is left to write

-- a part of what is left was stored
storing_part : {o : List ℕ} {at : ℕ} {u out : List ℕ} {r : ℕ} (x v : List ℕ) {out' : List ℕ} {r' : ℕ}
    → Storing o at u out r (x ++ v) → out' ≡ sets out r x → r' ≡ r + length x → Storing o at u out' r' v
storing_part {out = out} {r} x v {r' = r'} s e p = record {
  size = ap length e ∙ length-sets out r x ∙ s.size;
  place = let l = length-append x v in let q = s.place in omega arith;
  same = s.same ∙ sym (rw e (sets_next out r r' x v p));
}

-- the records from record i on, of c in all, and their first
module _ (ed : Edition) (b : List ℕ) (c i : ℕ) where
  records_left : i < c → records_from ed b (c - i) i ≡ record_at ed b (offset b i) ∷ records_from ed b (c - (i + 1)) (i + 1)
  unfolding records_from
  records_left h = let e : c - i ≡ suc (c - (i + 1)) = omega arith in rw (e, add-one i)

  pub none_left : c ≤ i → records_from ed b (c - i) i ≡ []
  unfolding records_from
  none_left h = let e : c - i ≡ 0 = omega arith in rw e

-- the bytes of the records in the other edition, of record i, and of those from record i on; and their offsets,
-- where record i begins at o
abbrev pub bytes_at : Edition → List ℕ → ℕ → List ℕ
bytes_at ed b i = record_of (other ed) (kind_at b (offset b i)) (rank_at b (offset b i)) (lanes_at ed b (offset b i)) (letters_at ed b (offset b i))

abbrev pub bytes_left : Edition → List ℕ → ℕ → ℕ → List ℕ
bytes_left ed b c i = record_bytes (other ed) (records_from ed b (c - i) i)

abbrev pub all_bytes : Edition → List ℕ → ℕ → List ℕ
all_bytes ed b c = record_bytes (other ed) (records_from ed b c 0)

abbrev pub offsets_left : Edition → List ℕ → ℕ → ℕ → ℕ → List ℕ
offsets_left ed b c o i = offset_bytes (other ed) o (records_from ed b (c - i) i)

abbrev pub all_offsets : Edition → List ℕ → ℕ → List ℕ
all_offsets ed b c = offset_bytes (other ed) 0 (records_from ed b c 0)

-- what `Conversion` keeps is what a conversion asks
pub converts : {ed : Edition} {b : List ℕ} → conversion_refusal ed b ≡ 0 → 0 < length b → Convertible ed b
converts {ed} {b} z h = convertible ed b (λ e. omega arith) z

-- the offsets of the records before record i are stored
pub record Placing (ed : Edition) (b : List ℕ) (c : ℕ) (before : List ℕ) (at : ℕ) (out : List ℕ) (o i : ℕ) : Type 0 where
  pub storing : Storing before at (all_offsets ed b c) out (at + 2 * i) (offsets_left ed b c o i)
  pub begins : o + length (bytes_left ed b c i) ≡ length (all_bytes ed b c)

module _ {ed : Edition} {b : List ℕ} (w : Convertible ed b) {c : ℕ} (n : c ≡ count b) where
  bytes_next : (i : ℕ) → i < c → bytes_left ed b c i ≡ bytes_at ed b i ++ bytes_left ed b c (i + 1)
  unfolding record_bytes
  bytes_next i h = rw (records_left ed b c i h)

  length-bytes_at : (i : ℕ) → i < c → length (bytes_at ed b i) ≡ head_size (other ed) + letter_count_at ed b (offset b i)
  length-bytes_at i h =
      length-record_of (other ed) (kind_at b (offset b i)) (rank_at b (offset b i)) (lanes_at ed b (offset b i)) (letters_at ed b (offset b i))
      ∙ rw (length-letters_at ed b (offset b i) (end_at_inside ed b c i (offset b i) w.opens n h refl))

  -- record i, which begins at o
  pub rank_passed : (i : ℕ) {o : ℕ} → i < c → o ≡ offset b i → RankOf (kind_at b o) (rank_at b o)
  rank_passed i h q = rw q (book_rank_accepted ed (kind_at b (offset b i)) (rank_at b (offset b i)) (passing-at ed b i w (omega arith)).rank)

  -- ---- the records, one after the other

  -- the new book: records, offsets, count
  converted_parts : converted ed b ≡ (all_bytes ed b c) ++ (offset_bytes (other ed) 0 (records_from ed b c 0) ++ two c)
  unfolding lay_out records_of
  converted_parts = converted_some ed b w.some ∙ rw (← n, length-records_from ed b c 0)

  pub length_parts : length (converted ed b) ≡ length (all_bytes ed b c) + 2 * c + 2
  length_parts =
      let l = length-offset_bytes (other ed) 0 (records_from ed b c 0) in
      let r = length-records_from ed b c 0 in
      ap length converted_parts ∙ simp (length-append, length_two) (omega arith)

  module _ {o out : List ℕ} {p : ℕ} (i : ℕ) (s : Storing o 0 (all_bytes ed b c) out p (bytes_left ed b c i)) where
    pub others_room : i < c → length (converted ed b) ≤ length o → p + head_size (other ed) + letter_count_at ed b (offset b i) ≤ length out
    others_room h g =
        let l = length-append (bytes_at ed b i) (bytes_left ed b c (i + 1)) in
        let e = ap length (bytes_next i h) in
        let k = length-bytes_at i h in
        let q = s.place in
        let z = s.size in
        let m = length_parts in
        omega arith

    pub others_next : {out' : List ℕ} {x : ℕ} → i < c → out' ≡ sets out p (bytes_at ed b i) → x ≡ head_size (other ed) + letter_count_at ed b (offset b i)
        → Storing o 0 (all_bytes ed b c) out' (p + x) (bytes_left ed b c (i + 1))
    others_next {out'} {x} h e k =
        let t : Storing o 0 (all_bytes ed b c) out p (bytes_at ed b i ++ bytes_left ed b c (i + 1)) = rw (← bytes_next i h) s in
        storing_part (bytes_at ed b i) (bytes_left ed b c (i + 1)) t e (rw (length-bytes_at i h, k))

    pub others_end : c ≤ i → (out ≡ sets o 0 (all_bytes ed b c)) × (p ≡ length (all_bytes ed b c))
    unfolding record_bytes
    others_end h =
        let e : bytes_left ed b c i ≡ [] = ap (record_bytes (other ed)) (none_left ed b c i h) in
        let t = rw e at s in
        (sym t.same, let q = t.place in omega arith)

  -- ---- their offsets

  offsets_left_next : (o i x : ℕ) → i < c → x ≡ head_size (other ed) + letter_count_at ed b (offset b i)
      → offsets_left ed b c o i ≡ two o ++ offsets_left ed b c (o + x) (i + 1)
  unfolding offset_bytes
  offsets_left_next o i x h k =
      let l = length-letters_at ed b (offset b i) (end_at_inside ed b c i (offset b i) w.opens n h refl) in
      let e : o + head_size (other ed) + length (letters_at ed b (offset b i)) ≡ o + x = omega arith in
      rw (records_left ed b c i h, e)

  module _ {before : List ℕ} {at : ℕ} {out : List ℕ} {o i : ℕ} (s : Placing ed b c before at out o i) where
    pub offset_small : i < c → o + (head_size (other ed) + letter_count_at ed b (offset b i)) ≤ 65535
    offset_small h =
        let l = length-append (bytes_at ed b i) (bytes_left ed b c (i + 1)) in
        let e = ap length (bytes_next i h) in
        let k = length-bytes_at i h in
        let q = s.begins in
        let m = length_parts in
        let z = w.small in
        omega arith

    pub offsets_next : {out' : List ℕ} {x : ℕ} → i < c → out' ≡ sets out (at + 2 * i) (two o) → x ≡ head_size (other ed) + letter_count_at ed b (offset b i)
        → Placing ed b c before at out' (o + x) (i + 1)
    offsets_next {out'} {x} h e k = record {
      storing =
          let t : Storing before at (all_offsets ed b c) out (at + 2 * i) (two o ++ offsets_left ed b c (o + x) (i + 1)) =
          rw (← offsets_left_next o i x h k) s.storing in
          storing_part (two o) (offsets_left ed b c (o + x) (i + 1)) t e (let l = length_two o in omega arith);
      begins =
          let l = length-append (bytes_at ed b i) (bytes_left ed b c (i + 1)) in
          let d = ap length (bytes_next i h) in
          let m = length-bytes_at i h in
          let q = s.begins in
          omega arith;
    }

    pub offsets_end : c ≤ i → out ≡ sets before at (all_offsets ed b c)
    unfolding offset_bytes
    offsets_end h =
        let e : offsets_left ed b c o i ≡ [] = ap (offset_bytes (other ed) o) (none_left ed b c i h) in
        sym (rw e at s.storing).same

  -- ---- the whole

  pub all_written : (out : List ℕ) {a : List ℕ} {d z : List ℕ} {p : ℕ} → (a ≡ sets out 0 (all_bytes ed b c)) × (p ≡ length (all_bytes ed b c))
      → d ≡ sets a p (all_offsets ed b c) → z ≡ sets d (p + 2 * c) (two c)
      → z ≡ sets out 0 (converted ed b)
  all_written out {a} {p} e f g =
      let l = length-offset_bytes (other ed) 0 (records_from ed b c 0) in
      let r = length-records_from ed b c 0 in
      g
      ∙ ap (λ x. sets x (p + 2 * c) (two c)) f
      ∙ sets_next a p (p + 2 * c) (all_offsets ed b c) (two c) (omega arith)
      ∙ ap (λ x. sets x p ((all_offsets ed b c) ++ two c)) e.0
      ∙ sets_next out 0 p (all_bytes ed b c) ((all_offsets ed b c) ++ two c) (e.1 ∙ sym (zero-add (length (all_bytes ed b c))))
      ∙ sym (ap (sets out 0) converted_parts)

-- ---- the answers: r is the refusal, m the size of the new book

pub size_made : (ed : Edition) (b : List ℕ) (r : ℕ) → r ≡ conversion_refusal ed b → r ≡ 0 → (c m : ℕ) → c ≡ count b → m ≡ size_of ed (length b) c
    → length (converted ed b) ≡ m
size_made ed b r e z c m n w = length-converted ed b (accepted ed b (conversion_opens ed b (sym e ∙ z))) ∙ rw (w, n)

module _ (ed : Edition) (b out : List ℕ) {r : ℕ} (e : r ≡ conversion_refusal ed b) where
  pub converting-refused : (r ≡ 0 → ⊥) → (answer.Refused r ≡ (converting ed b out).answer) × (out ≡ (converting ed b out).bytes)
  unfolding converting
  converting-refused f = writes-refused (converting ed b out) (conversion_refusal ed b) r (converted ed b) out refl e f

  -- no bytes are converted to none
  pub converting-bytes : r ≡ 0 → length b ≡ 0 → (answer.Length 0 ≡ (converting ed b out).answer) × (out ≡ (converting ed b out).bytes)
  unfolding converting
  converting-bytes z h =
      let none = converted-bytes ed b h in
      writes_done (converting ed b out) (conversion_refusal ed b) r (converted ed b) out refl e 0 [] z (ap length none) (omega arith) (sym none)

  module _ (z : r ≡ 0) {c m : ℕ} (n : c ≡ count b) (w : m ≡ size_of ed (length b) c) where
    pub converting-short : length out < m → (answer.Refused 14 ≡ (converting ed b out).answer) × (out ≡ (converting ed b out).bytes)
    unfolding converting
    converting-short h = writes_short (converting ed b out) (conversion_refusal ed b) r (converted ed b) out refl e m z (size_made ed b r e z c m n w) h

    pub converting-written : {o : List ℕ} → m ≤ length out → o ≡ sets out 0 (converted ed b)
        → (answer.Length m ≡ (converting ed b out).answer) × (o ≡ (converting ed b out).bytes)
    unfolding converting
    converting-written {o} h p =
        let new = converted ed b in
        let l = size_made ed b r e z c m n w in
        writes-written (converting ed b out) (conversion_refusal ed b) r new out refl e m o z l h (p ∙ sets-front new out (rw l h))
