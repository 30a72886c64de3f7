-- The row of a request, and the request in a row.
use Rattle.std.proofs.Common.{◌≡◌, ℕ, zero, suc, ◌≤◌, eqb, List, [], ◌∷◌, length, get_or, IfSome, Some, None, Ok, Err, Option, Result, sym, refl, ap, ◌∙◌, subst, arith}
use Rattle.std.proofs.lemmas.Bool.{cond_both}
use Rattle.std.proofs.lemmas.Bool.Decides.{Decides-eqb}
use Rattle.rows.specs.Lines.{line, Fit, numbers_answer, ReadsExactly}
use Rattle.rows.specs.Requests.{letter, numbers, row_bytes, Fits, all_calls, first_lettered, call_lettered, filled, with_numbers, read_as, read_by, read_answer}
use Rattle.rows.specs.declared.fault.RowFault.{RowFault}
use Rattle.rows.specs.declared.request.Request.{Request}
use Rattle.rows.specs.declared.request.Request.TheVariants.{CalendarYear, Open, Couple, Use, Cost, TakeBack, Pass, Settle, Fix, Contract, Start}
use Rattle.rows.proofs.Numbers.{answer_line, line_answer}

-- k elements of a list from the place i on
abbrev pub elements : ℕ → ℕ → List ℕ → List ℕ
elements zero i ns = []
elements (suc k) i ns = get_or ns i 0 ∷ elements k (suc i) ns

elements_behind : (k i n : ℕ) (ns : List ℕ) → elements k (suc i) (n ∷ ns) ≡ elements k i ns
elements_behind zero i n ns = refl
elements_behind (suc k) i n ns = ap (λ l. get_or ns i 0 ∷ l) (elements_behind k (suc i) n ns)

pub elements_all : (k : ℕ) (ns : List ℕ) → length ns ≡ k → elements k 0 ns ≡ ns
elements_all zero [] e = refl
elements_all zero (n ∷ ns) e = absurd (omega arith)
elements_all (suc k) [] e = absurd (omega arith)
elements_all (suc k) (n ∷ ns) e = ap (λ l. n ∷ l) (elements_behind k 0 n ns ∙ elements_all k ns (omega arith))

numbers_filled : (call : Request) (ns : List ℕ) → length ns ≡ length (numbers call) → numbers (filled call ns) ≡ ns
numbers_filled (CalendarYear a) ns e = elements_all 1 ns e
numbers_filled (Open a b) ns e = elements_all 2 ns e
numbers_filled (Couple a b c d) ns e = elements_all 4 ns e
numbers_filled (Use a b c d) ns e = elements_all 4 ns e
numbers_filled (Cost a b) ns e = elements_all 2 ns e
numbers_filled (TakeBack a b) ns e = elements_all 2 ns e
numbers_filled (Pass a) ns e = elements_all 1 ns e
numbers_filled Settle ns e = elements_all 0 ns e
numbers_filled (Fix a b c d e) ns l = elements_all 5 ns l
numbers_filled (Contract a b c d e f) ns l = elements_all 6 ns l
numbers_filled (Start a b c) ns e = elements_all 3 ns e

-- A call keeps its letter and the number of its fields, and has its own numbers again where they are filled in.
record SameCall (call : Request) : Type 0 where
  pub same_letter : (ns : List ℕ) → letter (filled call ns) ≡ letter call
  pub same_count : length (numbers (filled call [])) ≡ length (numbers call)
  pub again : filled (filled call []) (numbers call) ≡ call
  pub lettered : call_lettered (letter call) ≡ Some (filled call [])
  pub few : length (numbers call) ≤ 6

same_call : (call : Request) → SameCall call
unfolding call_lettered
same_call (CalendarYear a) = record { same_letter = λ ns. refl; same_count = refl; again = refl; lettered = refl; few = omega arith }
same_call (Open a b) = record { same_letter = λ ns. refl; same_count = refl; again = refl; lettered = refl; few = omega arith }
same_call (Couple a b c d) = record { same_letter = λ ns. refl; same_count = refl; again = refl; lettered = refl; few = omega arith }
same_call (Use a b c d) = record { same_letter = λ ns. refl; same_count = refl; again = refl; lettered = refl; few = omega arith }
same_call (Cost a b) = record { same_letter = λ ns. refl; same_count = refl; again = refl; lettered = refl; few = omega arith }
same_call (TakeBack a b) = record { same_letter = λ ns. refl; same_count = refl; again = refl; lettered = refl; few = omega arith }
same_call (Pass a) = record { same_letter = λ ns. refl; same_count = refl; again = refl; lettered = refl; few = omega arith }
same_call Settle = record { same_letter = λ ns. refl; same_count = refl; again = refl; lettered = refl; few = omega arith }
same_call (Fix a b c d e) = record { same_letter = λ ns. refl; same_count = refl; again = refl; lettered = refl; few = omega arith }
same_call (Contract a b c d e f) = record { same_letter = λ ns. refl; same_count = refl; again = refl; lettered = refl; few = omega arith }
same_call (Start a b c) = record { same_letter = λ ns. refl; same_count = refl; again = refl; lettered = refl; few = omega arith }

pub count_kept : (call : Request) → length (numbers (filled call [])) ≡ length (numbers call)
count_kept call = (same_call call).same_count

pub few_numbers : (call : Request) → length (numbers call) ≤ 6
few_numbers call = (same_call call).few

-- What is written reads back.
pub read_written : (q : Request) → Fits q → read_answer (row_bytes q) ≡ Ok q
unfolding read_answer
read_written q fit =
    ap (λ o. read_by o (row_bytes q)) (same_call q).lettered
    ∙ ap (λ n. with_numbers (filled q []) (numbers_answer n (row_bytes q))) (same_call q).same_count
    ∙ ap (with_numbers (filled q [])) (answer_line (letter q) (numbers q) fit) ∙ ap Ok (same_call q).again

-- the call that a letter gives has that letter
lettered_so : (c : ℕ) (qs : List Request) → IfSome (first_lettered c qs) (λ q. letter q ≡ c)
lettered_so c [] = tt
lettered_so c (q ∷ qs) =
    cond_both (eqb c (letter q)) (Some q) (first_lettered c qs) (λ o. IfSome o (λ q. letter q ≡ c))
    (λ t. sym ((Decides-eqb c (letter q)).0 t)) (λ f. lettered_so c qs)

numbers_within : (call : Request) (r : Result (List ℕ) RowFault) (q : Request) → with_numbers call r ≡ Ok q → (ns : List ℕ) × (r ≡ Ok ns) × (filled call ns ≡ q)
numbers_within call (Ok ns) q e = (ns, refl, cc)
numbers_within call (Err f) q e = let z : ◌≡◌ {A = ℕ} 0 1 = cc in absurd (omega arith)

row_by : (o : Option Request) (row : List ℕ) (q : Request) → IfSome o (λ call. letter call ≡ get_or row 0 0) → read_by o row ≡ Ok q → Fits q × (row ≡ row_bytes q)
row_by None row q same e = let z : ◌≡◌ {A = ℕ} 0 1 = cc in absurd (omega arith)
row_by (Some call) row q same e =
    let found = numbers_within call (numbers_answer (length (numbers call)) row) q e in
    let ns = found.0 in
    let told = line_answer (length (numbers call)) row ns found.1 in
    let numbers_are : ns ≡ numbers q = sym (numbers_filled call ns told.0) ∙ ap numbers found.2 in
    let letter_is : get_or row 0 0 ≡ letter q = sym same ∙ sym ((same_call call).same_letter ns) ∙ ap letter found.2 in
    (subst Fit numbers_are told.1, told.2 ∙ (λ i. line (letter_is i) (numbers_are i)))

-- No other row is read.
pub row_of_read : (row : List ℕ) (q : Request) → read_answer row ≡ Ok q → Fits q × (row ≡ row_bytes q)
unfolding read_answer call_lettered
row_of_read row q e = row_by (call_lettered (get_or row 0 0)) row q (lettered_so (get_or row 0 0) all_calls) e

pub reads_exactly : (row : List ℕ) (r : Result Request RowFault) → r ≡ read_answer row → ReadsExactly Fits row_bytes row r
reads_exactly row r e = record {
  only_its_row = λ q so. row_of_read row q (sym e ∙ so);
  its_row = λ q fit so. e ∙ ap read_answer so ∙ read_written q fit;
}

-- a row with the letter of a call is read as a row of that call
pub read_lettered : (call : Request) (row : List ℕ) (r : Result Request RowFault) → get_or row 0 0 ≡ letter call → r ≡ read_as (filled call []) row → r ≡ read_answer row
unfolding read_answer
read_lettered call row r c e = e ∙ sym (ap (λ o. read_by o row) (ap call_lettered c ∙ (same_call call).lettered))

pub same_from_row : (p q : Request) → Fits p → Fits q → row_bytes p ≡ row_bytes q → p ≡ q
same_from_row p q f g e = let so : Ok p ≡ Ok q = sym (read_written p f) ∙ ap read_answer e ∙ read_written q g in cc
