-- The numbers in the fields of a row, and which of them fit.
use Rattle.std.proofs.Common.{◌≡◌, ℕ, zero, suc, ◌+◌, ◌*◌, ◌^◌, ◌<◌, ◌≤◌, cond, ltb, List, [], ◌∷◌, length, get_or, Some, None, Ok, Err, position, Decides, Option, Result, sym, refl, ap, ◌∙◌, subst, add-zero, arith}
use Rattle.refusal.specs.Refusals.{refuse}
use Rattle.refusal.specs.declared.ground.Ground.TheVariants.{BufferTooSmall}
use Rattle.refusal.specs.declared.refusal.Refusal.{Refusal}
use Rattle.std.proofs.lemmas.Bool.{cond_both, cond-true, cond-false, le-ltb}
use Rattle.std.proofs.lemmas.Iterator.Adapters.{position_from-zero}
use Rattle.std.specs.List.{position_from}
use Rattle.std.specs.Option.{option_map}
use Rattle.std.specs.Result.{result_ok}
use Rattle.std.proofs.lemmas.Bool.Decides.{Decides-ltb, Decides-eqb, Decides-and, not_from_Decides}
use Rattle.rows.specs.Faults.{malformed}
use Rattle.rows.specs.Fields.{field, number_in}
use Rattle.rows.specs.Lines.{line, Fit, unfit_from, unless_unfit, write_answer, field_bytes, with_number, numbers_from, shaped, numbers_answer}
use Rattle.rows.specs.declared.fault.RowFault.{RowFault}
use Rattle.rows.specs.declared.fault.RowFault.TheVariants.{Length, Field}
use Rattle.rows.proofs.Columns.{number_from_columns, columns_from_number}
use Rattle.rows.proofs.Lined.{length_line, line_end, cut_line, made_line, fit_at, fit_from}

-- the first m of the numbers ns are in the fields of the row from the field i on
abbrev pub ReadTo : List ℕ → ℕ → List ℕ → ℕ → Type 0
ReadTo row i ns m = (k : ℕ) → k < m → number_in (field_bytes row (i + k)) ≡ Some (get_or ns k 0)

read_tail : (row : List ℕ) (i : ℕ) (n : ℕ) (ns : List ℕ) (m : ℕ) → ReadTo row i (n ∷ ns) (suc m) → ReadTo row (i + 1) ns m
read_tail row i n ns m so k l =
    let s : i + 1 + k ≡ i + suc k = omega arith in
    ap (λ j. number_in (field_bytes row j)) s ∙ so (suc k) (omega arith)

read_head : (row : List ℕ) (i : ℕ) (n : ℕ) (ns : List ℕ) (m : ℕ) → ReadTo row i (n ∷ ns) (suc m) → number_in (field_bytes row i) ≡ Some n
read_head row i n ns m so = ap (λ j. number_in (field_bytes row j)) (sym (add-zero i)) ∙ so 0 (omega arith)

-- all are read
pub numbers_all : (n i : ℕ) (row ns : List ℕ) → length ns ≡ n → ReadTo row i ns n → numbers_from n i row ≡ Ok ns
unfolding numbers_from
numbers_all zero i row [] e so = refl
numbers_all zero i row (x ∷ ns) e so = absurd (omega arith)
numbers_all (suc n) i row [] e so = absurd (omega arith)
numbers_all (suc n) i row (x ∷ ns) e so =
    (λ t. with_number (i + 1) (read_head row i x ns n so t) (numbers_all n (i + 1) row ns (omega arith) (read_tail row i x ns n so) t))

-- the field behind the first m is malformed
pub numbers_refused : (n i : ℕ) (row ns : List ℕ) (m : ℕ) → m < n → m ≤ length ns → ReadTo row i ns m → number_in (field_bytes row (i + m)) ≡ None → numbers_from n i row ≡ Err (Field (malformed (i + m + 1)))
unfolding numbers_from
numbers_refused zero i row ns m l h so no_number = absurd (omega arith)
numbers_refused (suc n) i row ns zero l h so no_number =
    let s : i ≡ i + 0 = omega arith in
    ap (λ j. with_number (i + 1) (number_in (field_bytes row j)) (numbers_from n (i + 1) row)) s
    ∙ (λ t. with_number (s t + 1) (no_number t) (numbers_from n (i + 1) row))
numbers_refused (suc n) i row [] (suc m) l h so no_number = absurd (omega arith)
numbers_refused (suc n) i row (x ∷ ns) (suc m) l h so no_number =
    let s : i + 1 + m ≡ i + suc m = omega arith in
    (λ t. with_number (i + 1) (read_head row i x ns m so t) (numbers_refused n (i + 1) row ns m (omega arith) (omega arith) (read_tail row i x ns m so) (ap (λ j. number_in (field_bytes row j)) s ∙ no_number) t))
    ∙ ap (λ j. Err (Field (malformed (j + 1)))) s

-- a number is read before others
with_read : (place : ℕ) (o : Option ℕ) (r : Result (List ℕ) RowFault) (ns : List ℕ) → with_number place o r ≡ Ok ns → (x : ℕ) × (xs : List ℕ) × (o ≡ Some x) × (r ≡ Ok xs) × (x ∷ xs ≡ ns)
with_read place None r ns e = let z : ◌≡◌ {A = ℕ} 0 1 = cc in absurd (omega arith)
with_read place (Some x) (Ok xs) ns e = (x, xs, refl, refl, cc)
with_read place (Some x) (Err f) ns e = let z : ◌≡◌ {A = ℕ} 0 1 = cc in absurd (omega arith)

read_cons : (row : List ℕ) (i : ℕ) (x : ℕ) (xs : List ℕ) (m : ℕ) → number_in (field_bytes row i) ≡ Some x → ReadTo row (i + 1) xs m → ReadTo row i (x ∷ xs) (suc m)
read_cons row i x xs m e so zero l = ap (λ j. number_in (field_bytes row j)) (add-zero i) ∙ e
read_cons row i x xs m e so (suc k) l =
    let s : i + suc k ≡ i + 1 + k = omega arith in
    ap (λ j. number_in (field_bytes row j)) s ∙ so k (omega arith)

-- what is read are the numbers in the fields
pub numbers_read : (n i : ℕ) (row ns : List ℕ) → numbers_from n i row ≡ Ok ns → (length ns ≡ n) × ReadTo row i ns n
unfolding numbers_from
numbers_read zero i row ns e = let z : [] ≡ ns = cc in (sym (ap length z), λ k l. absurd (omega arith))
numbers_read (suc n) i row ns e =
    let w = with_read (i + 1) (number_in (field_bytes row i)) (numbers_from n (i + 1) row) ns e in
    let more = numbers_read n (i + 1) row w.1 w.3 in
    subst (λ l. (length l ≡ suc n) × ReadTo row i l (suc n)) w.4 (ap suc more.0, read_cons row i w.0 w.1 n w.2 more.1)

pub well_shaped : (n : ℕ) (row : List ℕ) → Decides (shaped n row) ((length row ≡ 2 + 10 * n) × (get_or row (1 + 10 * n) 0 ≡ 10))
well_shaped n row = Decides-and _ _ (Decides-eqb (length row) (2 + 10 * n)) (Decides-eqb (get_or row (1 + 10 * n) 0) 10)

pub answer_shaped : (n : ℕ) (row : List ℕ) → length row ≡ 2 + 10 * n → get_or row (1 + 10 * n) 0 ≡ 10 → numbers_answer n row ≡ numbers_from n 0 row
unfolding numbers_answer
answer_shaped n row l e = ap (λ b. cond b (numbers_from n 0 row) (Err Length)) ((well_shaped n row).1 (l, e))

pub answer_misshaped : (n : ℕ) (row : List ℕ) → ((length row ≡ 2 + 10 * n) × (get_or row (1 + 10 * n) 0 ≡ 10) → ⊥) → numbers_answer n row ≡ Err Length
unfolding numbers_answer
answer_misshaped n row wrong =
    cond_both (shaped n row) (numbers_from n 0 row) (Err Length) (λ r. r ≡ Err Length) (λ t. absurd (wrong ((well_shaped n row).0 t))) (λ f. refl)

-- The numbers of a line are read in it.
pub answer_line : (c : ℕ) (ns : List ℕ) → Fit ns → numbers_answer (length ns) (line c ns) ≡ Ok ns
answer_line c ns fit =
    answer_shaped (length ns) (line c ns) (length_line c ns) (line_end c ns)
    ∙ numbers_all (length ns) 0 (line c ns) ns refl (λ k l.
    let s : 0 + k ≡ k = omega arith in
    ap (λ j. number_in (field_bytes (line c ns) j)) s ∙ number_from_columns 10 _ _ (fit_at ns fit k l) (cut_line c ns k l))

-- A row in which numbers are read is their line.
pub line_answer : (n : ℕ) (row ns : List ℕ) → numbers_answer n row ≡ Ok ns → (length ns ≡ n) × Fit ns × (row ≡ line (get_or row 0 0) ns)
unfolding numbers_answer
line_answer n row ns =
    cond_both (shaped n row) (numbers_from n 0 row) (Err Length) (λ r. r ≡ Ok ns → (length ns ≡ n) × Fit ns × (row ≡ line (get_or row 0 0) ns))
    (λ t e.
    let fine = (well_shaped n row).0 t in
    let so = numbers_read n 0 row ns e in
    let long : length ns ≡ n = so.0 in
    let at : (k : ℕ) → k < length ns → (get_or ns k 0 < 10 ^ 10) × (field_bytes row k ≡ field (get_or ns k 0)) =
    λ k l. let s : k ≡ 0 + k = omega arith in
    columns_from_number 10 (field_bytes row k) (get_or ns k 0) (ap (λ j. number_in (field_bytes row j)) s ∙ so.1 k (omega arith)) in
    let s : 1 + 10 * length ns ≡ 1 + 10 * n = omega arith in
    (long, fit_from ns (λ k l. (at k l).0), made_line row ns (omega (arith, fine.0)) (ap (λ m. get_or row m 0) s ∙ fine.1) (λ k l. (at k l).1)))
    (λ f e. let z : ◌≡◌ {A = ℕ} 0 1 = cc in absurd (omega arith))

-- the place of the first number that fits no field, by where it stands
unfit_by : (p i : ℕ) (ns : List ℕ) → p ≡ i + 1 → unfit_from p ns ≡ option_map (λ j. j + 1) (position_from (λ n. ltb 9999999999 n) i ns)
unfit_by p i [] e = refl
unfit_by p i (n ∷ ns) e =
    let found : Option ℕ → Option ℕ = λ o. option_map (λ j. j + 1) o in
    let behind : Option ℕ = position_from (λ n. ltb 9999999999 n) (i + 1) ns in
    cond_both (ltb n (10 ^ 10)) (unfit_from (p + 1) ns) (Some p) (λ r. r ≡ found (cond (ltb 9999999999 n) (Some i) behind))
    (λ t. let fits : n ≤ 9999999999 = omega (arith, (Decides-ltb n (10 ^ 10)).0 t) in
    unfit_by (p + 1) (i + 1) ns (omega arith) ∙ ap found (sym (cond-false (ltb 9999999999 n) (Some i) behind (le-ltb 9999999999 n fits))))
    (λ f. let wide : 9999999999 < n = omega (arith, not_from_Decides (ltb n (10 ^ 10)) (Decides-ltb n (10 ^ 10)) f) in
    ap Some e ∙ ap found (sym (cond-true (ltb 9999999999 n) (Some i) behind ((Decides-ltb 9999999999 n).1 wide))))

pub unfit_found : (ns : List ℕ) (o : Option ℕ) → o ≡ position (λ n. ltb 9999999999 n) ns → unfit_from 1 ns ≡ option_map (λ j. j + 1) o
unfit_found ns o at =
    unfit_by 1 0 ns refl ∙ ap (option_map (λ j. j + 1)) (sym (at ∙ position_from-zero (λ n. ltb 9999999999 n) ns))

-- all fit
pub unfit_none : (p : ℕ) (ns : List ℕ) → Fit ns → unfit_from p ns ≡ None
unfit_none p [] fit = refl
unfit_none p (n ∷ ns) fit =
    cond-true (ltb n (10 ^ 10)) (unfit_from (p + 1) ns) (Some p) ((Decides-ltb n (10 ^ 10)).1 fit.0) ∙ unfit_none (p + 1) ns fit.1

pub fit_from_none : (p : ℕ) (ns : List ℕ) → unfit_from p ns ≡ None → Fit ns
fit_from_none p [] = λ e. tt
fit_from_none p (n ∷ ns) =
    cond_both (ltb n (10 ^ 10)) (unfit_from (p + 1) ns) (Some p) (λ r. r ≡ None → Fit (n ∷ ns))
    (λ t e. ((Decides-ltb n (10 ^ 10)).0 t, fit_from_none (p + 1) ns e)) (λ f e. let z : ◌≡◌ {A = ℕ} 0 1 = cc in absurd (omega arith))

-- a writer that has room refuses a number that fits no field
pub write_roomy : (ns bytes : List ℕ) (room : ℕ) {unfit : Option ℕ} → 62 ≤ room → unfit_from 1 ns ≡ unfit → write_answer ns bytes room ≡ unless_unfit unfit (length bytes)
write_roomy ns bytes room {unfit} l e =
    cond_both (ltb room 62) (Err (refuse BufferTooSmall 0)) (unless_unfit (unfit_from 1 ns) (length bytes)) (λ r. r ≡ unless_unfit unfit (length bytes))
    (λ t. absurd (omega (arith, (Decides-ltb room 62).0 t))) (λ f. ap (λ o. unless_unfit o (length bytes)) e)

told_fit : (ns : List ℕ) (unfit : Option ℕ) (size n : ℕ) → unfit_from 1 ns ≡ unfit → Ok n ≡ unless_unfit unfit size → Fit ns × (n ≡ size)
told_fit ns None size n e so = (fit_from_none 1 ns e, cc)
told_fit ns (Some p) size n e so = let z : ◌≡◌ {A = ℕ} 0 1 = cc in absurd (omega arith)

-- a writer that answers a length has written numbers that fit
pub wrote_fit : (ns bytes : List ℕ) (room n : ℕ) → Ok n ≡ write_answer ns bytes room → Fit ns × (n ≡ length bytes)
wrote_fit ns bytes room n =
    cond_both (ltb room 62) (Err (refuse BufferTooSmall 0)) (unless_unfit (unfit_from 1 ns) (length bytes)) (λ r. Ok n ≡ r → Fit ns × (n ≡ length bytes))
    (λ t e. let z : ◌≡◌ {A = ℕ} 0 1 = cc in absurd (omega arith)) (λ f e. told_fit ns (unfit_from 1 ns) (length bytes) n refl e)

pub written_fit : (ns bytes : List ℕ) (room n : ℕ) (r : Result ℕ Refusal) → result_ok r ≡ Some n → r ≡ write_answer ns bytes room → Fit ns
written_fit ns bytes room n (Ok size) some so = (wrote_fit ns bytes room size so).0
written_fit ns bytes room n (Err e) some so = let z : ◌≡◌ {A = ℕ} 0 1 = cc in absurd (omega arith)

-- and one that refuses found a short buffer or a number that does not fit
pub refused_unfit : (ns bytes : List ℕ) (room : ℕ) (r : Result ℕ Refusal) → 62 ≤ room → Fit ns → result_ok r ≡ None → r ≡ write_answer ns bytes room → ⊥
refused_unfit ns bytes room r l fit none so =
    let told : r ≡ Ok (length bytes) = so ∙ write_roomy ns bytes room l (unfit_none 1 ns fit) in
    let some : Some (length bytes) ≡ None = sym (ap result_ok told) ∙ none in
    let z : ◌≡◌ {A = ℕ} 0 1 = cc in omega arith
