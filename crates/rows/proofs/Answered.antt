-- The row of an answer, and the answer in a row.
use Rattle.std.proofs.Common.{◌≡◌, ℕ, ◌/◌, cond, eqb, List, [], ◌∷◌, length, get_or, IfSome, Some, None, Ok, Err, Option, Result, sym, refl, ap, ◌∙◌, subst, arith}
use Rattle.refusal.proofs.Numbering.{numbers_name_grounds}
use Rattle.refusal.specs.Grounds.{ground_number, ground_numbered, first_numbered, all_grounds}
use Rattle.refusal.specs.declared.ground.Ground.{Ground}
use Rattle.std.proofs.lemmas.Bool.{cond_both}
use Rattle.std.proofs.lemmas.Bool.Decides.{Decides-eqb}
use Rattle.rows.specs.Lines.{line, Fit, numbers_answer, ReadsExactly}
use Rattle.rows.specs.Told.{figures_listed, answer_bytes, AnswerFits, figures_long, figures_of, with_figures, figures_by, figures_answer, telling, refusing, refusing_with, answer_read}
use Rattle.rows.specs.declared.answer.AnswerRow.{AnswerRow}
use Rattle.rows.specs.declared.answer.AnswerRow.TheVariants.{Told, Refused}
use Rattle.rows.specs.declared.answer.Figures.{Figures}
use Rattle.rows.specs.declared.answer.Figures.TheVariants.{One, Two, Three, Four, Five, Six}
use Rattle.rows.specs.declared.fault.RowFault.{RowFault}
use Rattle.rows.specs.declared.fault.RowFault.TheVariants.{Letter}
use Rattle.rows.proofs.Lined.{length_line}
use Rattle.rows.proofs.Numbers.{answer_line, line_answer}
use Rattle.rows.proofs.Requested.{elements_all}

figures_filled : (f : Figures) (ns : List ℕ) → length ns ≡ length (figures_listed f) → figures_listed (figures_of f ns) ≡ ns
figures_filled (One a) ns l = elements_all 1 ns l
figures_filled (Two a b) ns l = elements_all 2 ns l
figures_filled (Three a b c) ns l = elements_all 3 ns l
figures_filled (Four a b c d) ns l = elements_all 4 ns l
figures_filled (Five a b c d e) ns l = elements_all 5 ns l
figures_filled (Six a b c d e f) ns l = elements_all 6 ns l

-- Figures are as many as before and the same again, where they are filled in.
record SameFigures (f : Figures) : Type 0 where
  pub same_count : length (figures_listed (figures_of f [])) ≡ length (figures_listed f)
  pub again : figures_of (figures_of f []) (figures_listed f) ≡ f
  pub long : figures_long (length (figures_listed f)) ≡ Some (figures_of f [])

same_figures : (f : Figures) → SameFigures f
unfolding figures_long
same_figures (One a) = record { same_count = refl; again = refl; long = refl }
same_figures (Two a b) = record { same_count = refl; again = refl; long = refl }
same_figures (Three a b c) = record { same_count = refl; again = refl; long = refl }
same_figures (Four a b c d) = record { same_count = refl; again = refl; long = refl }
same_figures (Five a b c d e) = record { same_count = refl; again = refl; long = refl }
same_figures (Six a b c d e f) = record { same_count = refl; again = refl; long = refl }

-- what the letter of a row says
pub read_a : (row : List ℕ) (r : Result AnswerRow RowFault) → get_or row 0 0 ≡ 65 → r ≡ telling (figures_answer row) → r ≡ answer_read row
unfolding answer_read
read_a row r c e = e ∙ sym (ap (λ l. cond (eqb l 65) (telling (figures_answer row)) (cond (eqb l 82) (refusing_with (numbers_answer 3 row)) (Err Letter))) c)

pub read_r : (row : List ℕ) (r : Result AnswerRow RowFault) → get_or row 0 0 ≡ 82 → r ≡ refusing_with (numbers_answer 3 row) → r ≡ answer_read row
unfolding answer_read
read_r row r c e = e ∙ sym (ap (λ l. cond (eqb l 65) (telling (figures_answer row)) (cond (eqb l 82) (refusing_with (numbers_answer 3 row)) (Err Letter))) c)

-- What is written reads back.
pub answer_written : (a : AnswerRow) → AnswerFits a → answer_read (answer_bytes a) ≡ Ok a
answer_written (Told f) fit =
    let ns = figures_listed f in
    let row = line 65 ns in
    let long : length row / 10 ≡ length ns = omega (arith, length_line 65 ns) in
    let figures : figures_answer row ≡ Ok f =
    ap (λ o. figures_by o row) (ap figures_long long ∙ (same_figures f).long)
    ∙ ap (λ n. with_figures (figures_of f []) (numbers_answer n row)) (same_figures f).same_count
    ∙ ap (with_figures (figures_of f [])) (answer_line 65 ns fit) ∙ ap Ok (same_figures f).again in
    sym (read_a row (Ok (Told f)) refl (sym (ap telling figures)))
answer_written (Refused g of place) fit =
    let ns = ground_number g ∷ of ∷ place ∷ [] in
    let numbers_are : refusing_with (numbers_answer 3 (line 82 ns)) ≡ Ok (Refused g of place) =
    ap refusing_with (answer_line 82 ns fit) ∙ ap (λ o. refusing o of place) (numbers_name_grounds g) in
    sym (read_r (line 82 ns) (Ok (Refused g of place)) refl (sym numbers_are))

-- the ground that a number gives has that number
numbered_so : (n : ℕ) (gs : List Ground) → IfSome (first_numbered n gs) (λ g. ground_number g ≡ n)
numbered_so n [] = tt
numbered_so n (g ∷ gs) =
    cond_both (eqb n (ground_number g)) (Some g) (first_numbered n gs) (λ o. IfSome o (λ g. ground_number g ≡ n))
    (λ t. sym ((Decides-eqb n (ground_number g)).0 t)) (λ f. numbered_so n gs)

told_within : (r : Result Figures RowFault) (a : AnswerRow) → telling r ≡ Ok a → (f : Figures) × (r ≡ Ok f) × (Told f ≡ a)
told_within (Ok f) a e = (f, refl, cc)
told_within (Err f) a e = let z : ◌≡◌ {A = ℕ} 0 1 = cc in absurd (omega arith)

figures_within : (p : Figures) (r : Result (List ℕ) RowFault) (f : Figures) → with_figures p r ≡ Ok f → (ns : List ℕ) × (r ≡ Ok ns) × (figures_of p ns ≡ f)
figures_within p (Ok ns) f e = (ns, refl, cc)
figures_within p (Err x) f e = let z : ◌≡◌ {A = ℕ} 0 1 = cc in absurd (omega arith)

row_of_figures : (o : Option Figures) (row : List ℕ) (f : Figures) → figures_by o row ≡ Ok f → Fit (figures_listed f) × (row ≡ line (get_or row 0 0) (figures_listed f))
row_of_figures None row f e = let z : ◌≡◌ {A = ℕ} 0 1 = cc in absurd (omega arith)
row_of_figures (Some p) row f e =
    let found = figures_within p (numbers_answer (length (figures_listed p)) row) f e in
    let ns = found.0 in
    let told = line_answer (length (figures_listed p)) row ns found.1 in
    let listed : ns ≡ figures_listed f = sym (figures_filled p ns told.0) ∙ ap figures_listed found.2 in
    (subst Fit listed told.1, told.2 ∙ ap (line (get_or row 0 0)) listed)

row_of_told : (row : List ℕ) (a : AnswerRow) → get_or row 0 0 ≡ 65 → telling (figures_answer row) ≡ Ok a → AnswerFits a × (row ≡ answer_bytes a)
row_of_told row a c e =
    let found = told_within (figures_answer row) a e in
    let told = row_of_figures (figures_long (length row / 10)) row found.0 found.1 in
    subst (λ b. AnswerFits b × (row ≡ answer_bytes b)) found.2 (told.0, told.1 ∙ ap (λ l. line l (figures_listed found.0)) c)

refused_within : (o : Option Ground) (of place n : ℕ) (a : AnswerRow) → IfSome o (λ g. ground_number g ≡ n) → refusing o of place ≡ Ok a → (g : Ground) × (ground_number g ≡ n) × (Refused g of place ≡ a)
refused_within None of place n a so e = let z : ◌≡◌ {A = ℕ} 0 1 = cc in absurd (omega arith)
refused_within (Some g) of place n a so e = (g, so, cc)

refusing_within : (r : Result (List ℕ) RowFault) (a : AnswerRow) → refusing_with r ≡ Ok a → (ns : List ℕ) × (r ≡ Ok ns) × (refusing (ground_numbered (get_or ns 0 0)) (get_or ns 1 0) (get_or ns 2 0) ≡ Ok a)
refusing_within (Ok ns) a e = (ns, refl, e)
refusing_within (Err x) a e = let z : ◌≡◌ {A = ℕ} 0 1 = cc in absurd (omega arith)

row_of_refused : (row : List ℕ) (a : AnswerRow) → get_or row 0 0 ≡ 82 → refusing_with (numbers_answer 3 row) ≡ Ok a → AnswerFits a × (row ≡ answer_bytes a)
row_of_refused row a c e =
    let found = refusing_within (numbers_answer 3 row) a e in
    let ns = found.0 in
    let told = line_answer 3 row ns found.1 in
    let named = refused_within (ground_numbered (get_or ns 0 0)) (get_or ns 1 0) (get_or ns 2 0) (get_or ns 0 0) a (numbered_so (get_or ns 0 0) all_grounds) found.2 in
    let listed : ns ≡ ground_number named.0 ∷ get_or ns 1 0 ∷ get_or ns 2 0 ∷ [] =
    sym (elements_all 3 ns told.0) ∙ ap (λ n. n ∷ get_or ns 1 0 ∷ get_or ns 2 0 ∷ []) (sym named.1) in
    subst (λ b. AnswerFits b × (row ≡ answer_bytes b)) named.2 (subst Fit listed told.1, told.2 ∙ (λ i. line (c i) (listed i)))

-- No other row is read.
pub row_of_answer : (row : List ℕ) (a : AnswerRow) → answer_read row ≡ Ok a → AnswerFits a × (row ≡ answer_bytes a)
unfolding answer_read
row_of_answer row a =
    let c : ℕ = get_or row 0 0 in
    let P : Result AnswerRow RowFault → Type 0 = λ r. r ≡ Ok a → AnswerFits a × (row ≡ answer_bytes a) in
    let inner : P (cond (eqb c 82) (refusing_with (numbers_answer 3 row)) (Err Letter)) = cond_both (eqb c 82) (refusing_with (numbers_answer 3 row)) (Err Letter) P
    (λ t e. row_of_refused row a ((Decides-eqb c 82).0 t) e) (λ f e. let z : ◌≡◌ {A = ℕ} 0 1 = cc in absurd (omega arith)) in
    cond_both (eqb c 65) (telling (figures_answer row)) (cond (eqb c 82) (refusing_with (numbers_answer 3 row)) (Err Letter)) P
    (λ t e. row_of_told row a ((Decides-eqb c 65).0 t) e) (λ f. inner)

pub answers_exactly : (row : List ℕ) (r : Result AnswerRow RowFault) → r ≡ answer_read row → ReadsExactly AnswerFits answer_bytes row r
answers_exactly row r e = record {
  only_its_row = λ a so. row_of_answer row a (sym e ∙ so);
  its_row = λ a fit so. e ∙ ap answer_read so ∙ answer_written a fit;
}

pub same_from_answer_row : (a b : AnswerRow) → AnswerFits a → AnswerFits b → answer_bytes a ≡ answer_bytes b → a ≡ b
same_from_answer_row a b f g e = let so : Ok a ≡ Ok b = sym (answer_written a f) ∙ ap answer_read e ∙ answer_written b g in cc
