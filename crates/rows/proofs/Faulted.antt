-- What the fault of a row says of its bytes.
use Rattle.std.proofs.Common.{◌≡◌, ℕ, zero, suc, ◌+◌, ◌*◌, ◌<◌, ◌⊎◌, List, [], length, get_or, Some, None, Ok, Err, Option, Result, sym, refl, ap, ◌∙◌, subst, inl, inr, ⊎_elim, add-zero, arith}
use Rattle.std.proofs.lemmas.Bool.{cond_both}
use Rattle.std.proofs.lemmas.Bool.Decides.{not_from_Decides}
use Rattle.rows.specs.Faults.{malformed}
use Rattle.rows.specs.Fields.{number_in}
use Rattle.rows.specs.Lines.{field_bytes, with_number, numbers_from, shaped, numbers_answer}
use Rattle.rows.specs.Requests.{letter, numbers, filled, call_lettered, with_numbers, read_as, read_by, read_answer}
use Rattle.rows.specs.Wrong.{FirstMalformed, LettersTold, LengthsTold, FieldsTold}
use Rattle.rows.specs.declared.fault.FieldFault.{FieldFault}
use Rattle.rows.specs.declared.fault.RowFault.{RowFault}
use Rattle.rows.specs.declared.fault.RowFault.TheVariants.{Letter, Length, Field}
use Rattle.rows.specs.declared.request.Request.{Request}
use Rattle.rows.proofs.Columns.{number_from_columns, columns_from_number}
use Rattle.rows.proofs.Numbers.{well_shaped}
use Rattle.rows.proofs.Requested.{read_lettered, count_kept}

-- what a fault of the fields from i on says
abbrev FaultyFrom : ℕ → List ℕ → RowFault → Type 0
FaultyFrom i row Letter = ⊥
FaultyFrom i row Length = ⊥
FaultyFrom i row (Field f) =
    (m : ℕ) × (f.place ≡ i + m + 1) × (number_in (field_bytes row (i + m)) ≡ None) × ((k : ℕ) → k < m → (v : ℕ) × (number_in (field_bytes row (i + k)) ≡ Some v))

with_fault : (place : ℕ) (o : Option ℕ) (r : Result (List ℕ) RowFault) (e : RowFault) → with_number place o r ≡ Err e → ((o ≡ None) × (Field (malformed place) ≡ e)) ⊎ ((v : ℕ) × (o ≡ Some v) × (r ≡ Err e))
with_fault place None r e so = inl (refl, cc)
with_fault place (Some v) (Ok ns) e so = let z : ◌≡◌ {A = ℕ} 0 1 = cc in absurd (omega arith)
with_fault place (Some v) (Err f) e so = inr (v, refl, cc)

before_it : (i : ℕ) (row : List ℕ) (v m : ℕ) → number_in (field_bytes row i) ≡ Some v → ((k : ℕ) → k < m → (v : ℕ) × (number_in (field_bytes row (i + 1 + k)) ≡ Some v)) → (k : ℕ) → k < suc m → (v : ℕ) × (number_in (field_bytes row (i + k)) ≡ Some v)
before_it i row v m here so zero l = (v, ap (λ j. number_in (field_bytes row j)) (add-zero i) ∙ here)
before_it i row v m here so (suc k) l =
    let s : i + suc k ≡ i + 1 + k = omega arith in
    let w = so k (omega arith) in
    (w.0, ap (λ j. number_in (field_bytes row j)) s ∙ w.1)

one_before : (i : ℕ) (row : List ℕ) (v : ℕ) (e : RowFault) → number_in (field_bytes row i) ≡ Some v → FaultyFrom (i + 1) row e → FaultyFrom i row e
one_before i row v Letter here so = so
one_before i row v Length here so = so
one_before i row v (Field f) here so =
    let m : ℕ = so.0 in
    let s : i + suc m ≡ i + 1 + m = omega arith in
    (suc m, so.1 ∙ ap (λ j. j + 1) (sym s), ap (λ j. number_in (field_bytes row j)) s ∙ so.2, before_it i row v m here so.3)

numbers_faulty : (n i : ℕ) (row : List ℕ) (e : RowFault) → numbers_from n i row ≡ Err e → FaultyFrom i row e
unfolding numbers_from
numbers_faulty zero i row e so = let z : ◌≡◌ {A = ℕ} 0 1 = cc in absurd (omega arith)
numbers_faulty (suc n) i row e so =
    ⊎_elim
    (λ here. subst (FaultyFrom i row) here.1 (0, ap (λ j. j + 1) (sym (add-zero i)), ap (λ j. number_in (field_bytes row j)) (add-zero i) ∙ here.0, λ k l. absurd (omega arith)))
    (λ later. one_before i row later.0 e later.1 (numbers_faulty n (i + 1) row e later.2))
    (with_fault (i + 1) (number_in (field_bytes row i)) (numbers_from n (i + 1) row) e so)

-- the first field behind which a number is missing is the first malformed one
first_malformed : (row : List ℕ) (f : FieldFault) → FaultyFrom 0 row (Field f) → FirstMalformed row f.place
first_malformed row f so =
    let at : (k : ℕ) → k ≡ 0 + k = λ k. omega arith in
    record {
      index = so.0;
      counted = so.1 ∙ ap (λ j. j + 1) (sym (at so.0));
      ill_formed = λ fine.
          let some = number_from_columns 10 (field_bytes row so.0) fine.0 fine.1 fine.2 in
          let none = ap (λ j. number_in (field_bytes row j)) (at so.0) ∙ so.2 in
          let z : ◌≡◌ {A = ℕ} 0 1 = cc in omega arith;
      well_before = λ k l.
          let v : ℕ = (so.3 k l).0 in
          let fine = columns_from_number 10 (field_bytes row k) v (ap (λ j. number_in (field_bytes row j)) (at k) ∙ (so.3 k l).1) in
          (v, fine.0, fine.1);
    }

-- what a fault behind the letter says
abbrev Faulty : ℕ → List ℕ → RowFault → Type 0
Faulty n row Letter = ⊥
Faulty n row Length = length row ≡ 2 + 10 * n → get_or row (1 + 10 * n) 0 ≡ 10 → ⊥
Faulty n row (Field f) = FirstMalformed row f.place

faulty_from : (n : ℕ) (row : List ℕ) (e : RowFault) → FaultyFrom 0 row e → Faulty n row e
faulty_from n row Letter so = so
faulty_from n row Length so = absurd so
faulty_from n row (Field f) so = first_malformed row f so

answer_faulty : (n : ℕ) (row : List ℕ) (e : RowFault) → numbers_answer n row ≡ Err e → Faulty n row e
unfolding numbers_answer
answer_faulty n row e =
    cond_both (shaped n row) (numbers_from n 0 row) (Err Length) (λ r. r ≡ Err e → Faulty n row e)
    (λ t so. faulty_from n row e (numbers_faulty n 0 row e so))
    (λ f so. let s : Length ≡ e = cc in
    subst (Faulty n row) s (λ long end. not_from_Decides (shaped n row) (well_shaped n row) f (long, end)))

fault_within : (call : Request) (r : Result (List ℕ) RowFault) (e : RowFault) → with_numbers call r ≡ Err e → r ≡ Err e
fault_within call (Ok ns) e so = let z : ◌≡◌ {A = ℕ} 0 1 = cc in absurd (omega arith)
fault_within call (Err f) e so = cc

lettered_faulty : (call : Request) (row : List ℕ) (e : RowFault) → get_or row 0 0 ≡ letter call → read_answer row ≡ Err e → Faulty (length (numbers call)) row e
lettered_faulty call row e c so =
    let k : ℕ = length (numbers (filled call [])) in
    let said : read_as (filled call []) row ≡ Err e = read_lettered call row (read_as (filled call []) row) c refl ∙ so in
    subst (λ n. Faulty n row e) (count_kept call) (answer_faulty k row e (fault_within (filled call []) (numbers_answer k row) e said))

pub letters_told : LettersTold
letters_told row so call c = lettered_faulty call row Letter c so

pub lengths_told : LengthsTold
lengths_told row so call c = lettered_faulty call row Length c so

fields_by : (o : Option Request) (row : List ℕ) (f : FieldFault) → read_by o row ≡ Err (Field f) → FirstMalformed row f.place
fields_by None row f so = let z : ◌≡◌ {A = ℕ} 0 1 = cc in absurd (omega arith)
fields_by (Some call) row f so =
    answer_faulty (length (numbers call)) row (Field f) (fault_within call (numbers_answer (length (numbers call)) row) (Field f) so)

pub fields_told : FieldsTold
unfolding read_answer
fields_told row f so = fields_by (call_lettered (get_or row 0 0)) row f so
