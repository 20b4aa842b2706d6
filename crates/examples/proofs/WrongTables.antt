-- Wrong answers of the delay table and of its checks, each of the type of its call's definition. WrongAnswers.antt says
-- where each is wrong.
-- Assumes nothing.
use mathlib.Core.List.{List, ◌++◌, map}
use Prim.Native.Nat.{ℕ, suc, ◌+◌, ◌-◌}
use lib.Dec.{ltb}
use lib.IntN.{ℤ}
use lib.ListN.{length, take, replicate}
use Rattle.coxeter.specs.declared.Kind.{Kind}
use Rattle.coxeter.specs.Kinds.{kind_of, lanes, up}
use Rattle.coxeter.specs.Windows.{identity}
use Rattle.coxeter.specs.Length.{greatest_length}
use Rattle.coxeter.specs.Checks.{check, ◌then◌, too_short, rank_refusal}
use Rattle.coxeter.specs.NormalForm.{normal_form}
use Rattle.coxeter.specs.Calls.{written}
use Rattle.distribution.specs.Distribution.{distribution, sum}
use Rattle.distribution.specs.Longest.{longest}
use Rattle.distribution.specs.Calls.{untabled, table_refusal, Tabled, table_of, tables, delay_table}

-- the table with other numbers, or with another window as the longest
abbrev pub table_with : (Kind → ℕ → List ℕ) → (Kind → ℕ → List ℤ) → ℕ → ℕ → List ℕ → List ℤ → List ℕ → Tabled
table_with numbers window k n =
    tables (table_refusal k n) (numbers (kind_of k) n) (window (kind_of k) n) (normal_form (kind_of k) n (window (kind_of k) n))

-- rank 20 accepted in A
abbrev pub rank20_in_A : ℕ → ℕ → List ℕ → List ℤ → List ℕ → Tabled
rank20_in_A k n =
    tables (rank_refusal k n then check 20 (ltb 20 n)) (distribution (kind_of k) n) (longest (kind_of k) n)
    (normal_form (kind_of k) n (longest (kind_of k) n))

-- a factor left out: the numbers of one rank less
abbrev pub factor_left_out : ℕ → ℕ → List ℕ → List ℤ → List ℕ → Tabled
factor_left_out =
    table_with (λ k n. distribution k (n - 1) ++ replicate (greatest_length k n - greatest_length k (n - 1)) 0) longest

-- entry k as the number of windows whose length is at most k
abbrev pub running_totals : ℕ → ℕ → List ℕ → List ℤ → List ℕ → Tabled
running_totals = table_with (λ k n. map (λ l. sum (take (suc l) (distribution k n))) (up 0 (greatest_length k n + 1))) longest

-- the straight window as the longest
abbrev pub identity_as_longest : ℕ → ℕ → List ℕ → List ℤ → List ℕ → Tabled
identity_as_longest = table_with distribution (λ k n. identity (lanes k n))

-- check 14 of the list alone
abbrev pub room_of_the_list_only : ℕ → ℕ → List ℕ → List ℤ → List ℕ → Tabled
room_of_the_list_only k n counts entries letters =
    let d = distribution (kind_of k) n in
    let w = longest (kind_of k) n in
    let u = normal_form (kind_of k) n w in
    let r = table_refusal k n then check 14 (too_short (length d) counts) in
    record { answer = table_of r (length d) (length w) (length u); counts = written r d counts; entries = written r w entries; letters = written r u letters }

-- the list written before the other outputs are checked
abbrev pub list_written_first : ℕ → ℕ → List ℕ → List ℤ → List ℕ → Tabled
list_written_first k n counts entries letters =
    let d = distribution (kind_of k) n in
    delay_table k n (written (table_refusal k n then check 14 (too_short (length d) counts)) d counts) entries letters

-- ---- the checks of a table

abbrev pub every_rank_tabled : ℕ → ℕ → ℕ
every_rank_tabled k n = rank_refusal k n

-- rank 19 as the last in kinds B and D too
abbrev pub limit_of_A_in_every_kind : ℕ → ℕ → ℕ
limit_of_A_in_every_kind k n = rank_refusal k n then check 20 (ltb 19 n)

-- check 20 before check 6
abbrev pub table_before_the_rank : ℕ → ℕ → ℕ
table_before_the_rank k n = check 20 (untabled (kind_of k) n) then rank_refusal k n
