-- The first row of a page, and all of them joined.
use Rattle.std.proofs.Common.{◌≡◌, ℕ, zero, suc, ◌+◌, ◌<◌, ◌≤◌, cond, eqb, List, [], ◌∷◌, length, get_or, take, drop, MatchOption, Some, None, Option, position, sym, refl, ap, ◌∙◌, subst, add-one, arith, length-drop}
use Rattle.std.proofs.lemmas.Iterator.Adapters.{position_from-zero}
use Rattle.std.proofs.lemmas.List.{take_all}
use Rattle.std.proofs.lemmas.List.Quantifiers.{position-Some}
use Rattle.std.proofs.lemmas.Bool.{eq-eqb, ne_eqb, cond_both}
use Rattle.std.proofs.lemmas.Bool.Decides.{Decides-eqb, not_from_Decides}
use Rattle.std.specs.List.{flat_map, position_from}
use Rattle.rows.specs.Judged.{behind}
use Rattle.rows.specs.Pages.{Reading, before, rows_of, Ended, EndedButTheLast}

-- no line feed among the first n bytes
abbrev pub NoneIn : List ℕ → ℕ → Type 0
NoneIn xs n = (k : ℕ) → k < n → get_or xs k 0 ≡ 10 → ⊥

none_before : (x : ℕ) (xs : List ℕ) → (x ≡ 10 → ⊥) → NoneIn xs (length xs) → NoneIn (x ∷ xs) (suc (length xs))
none_before x xs other none zero l = other
none_before x xs other none (suc k) l = none k (omega arith)

rows_at_feed : (x : ℕ) (xs : List ℕ) → x ≡ 10 → rows_of (x ∷ xs) ≡ (x ∷ []) ∷ rows_of xs
unfolding rows_of
rows_at_feed x xs e = ap (λ b. cond b ((x ∷ []) ∷ rows_of xs) (before x (rows_of xs))) (eq-eqb x 10 e)

rows_at_other : (x : ℕ) (xs : List ℕ) → (x ≡ 10 → ⊥) → rows_of (x ∷ xs) ≡ before x (rows_of xs)
unfolding rows_of
rows_at_other x xs e = ap (λ b. cond b ((x ∷ []) ∷ rows_of xs) (before x (rows_of xs))) (ne_eqb x 10 e)

first_suc : (xs : List ℕ) (n : ℕ) → n < length xs → NoneIn xs n → get_or xs n 0 ≡ 10 → rows_of xs ≡ take (suc n) xs ∷ rows_of (drop (suc n) xs)
first_suc [] n l f e = absurd (omega arith)
first_suc (x ∷ xs) zero l f e = rows_at_feed x xs e
first_suc (x ∷ xs) (suc n) l f e =
    rows_at_other x xs (f 0 (omega arith)) ∙ ap (before x) (first_suc xs n (omega arith) (λ k h. f (suc k) (omega arith)) e)

-- the row up to the first line feed
pub first_row : (xs : List ℕ) (n : ℕ) → n < length xs → NoneIn xs n → get_or xs n 0 ≡ 10 → rows_of xs ≡ take (n + 1) xs ∷ rows_of (drop (n + 1) xs)
first_row xs n l f e = first_suc xs n l f e ∙ ap (λ m. take m xs ∷ rows_of (drop m xs)) (sym (add-one n))

-- the last row, where it lacks its line feed
pub last_row : (xs : List ℕ) → 0 < length xs → NoneIn xs (length xs) → rows_of xs ≡ xs ∷ []
unfolding rows_of
last_row [] l f = absurd (omega arith)
last_row (x ∷ []) l f = rows_at_other x [] (f 0 (omega arith))
last_row (x ∷ y ∷ xs) l f =
    rows_at_other x (y ∷ xs) (f 0 (omega arith)) ∙ ap (before x) (last_row (y ∷ xs) (omega arith) (λ k h. f (suc k) (omega arith)))

before_more : (b : ℕ) (rows : List (List ℕ)) (n : ℕ) → length rows ≤ n → length (before b rows) ≤ n + 1
before_more b [] n few = omega arith
before_more b (row ∷ rows) n few = omega arith

-- there are no more rows than bytes
pub rows_fewer : (xs : List ℕ) → length (rows_of xs) ≤ length xs
unfolding rows_of
rows_fewer [] = omega arith
rows_fewer (x ∷ xs) =
    let few = rows_fewer xs in
    cond_both (eqb x 10) ((x ∷ []) ∷ rows_of xs) (before x (rows_of xs)) (λ rows. length rows ≤ length (x ∷ xs)) (λ t. omega arith) (λ f. let more = before_more x (rows_of xs) (length xs) few in omega arith)

pub rows_none : (xs : List ℕ) → length xs ≤ 0 → rows_of xs ≡ []
unfolding rows_of
rows_none [] l = refl
rows_none (x ∷ xs) l = absurd (omega arith)

-- no line feed is found, so none is there
none_found : (i : ℕ) (xs : List ℕ) → None ≡ position_from (λ b. eqb b 10) i xs → NoneIn xs (length xs)
none_found i [] e = λ k l. absurd (omega arith)
none_found i (x ∷ xs) e =
    cond_both (eqb x 10) (Some i) (position_from (λ b. eqb b 10) (i + 1) xs) (λ o. None ≡ o → NoneIn (x ∷ xs) (suc (length xs)))
    (λ t so. let z : ◌≡◌ {A = ℕ} 0 1 = cc in absurd (omega arith))
    (λ f so. none_before x xs (not_from_Decides (eqb x 10) (Decides-eqb x 10) f) (none_found (i + 1) xs so)) e

-- how long the first row is, by where the first line feed stands
pub record FirstRow (xs : List ℕ) (n : ℕ) : Type 0 where
  pub within : n ≤ length xs
  pub some : 0 < n
  pub first : rows_of xs ≡ take n xs ∷ rows_of (drop n xs)

pub row_len : (xs : List ℕ) (o : Option ℕ) (n : ℕ) → o ≡ position (λ b. eqb b 10) xs → MatchOption o (n ≡ length xs) (λ i. n ≡ i + 1) → 0 < length xs → FirstRow xs n
row_len xs None n at is some =
    let none = none_found 0 xs (at ∙ position_from-zero (λ b. eqb b 10) xs) in
    record {
      within = omega arith;
      some = omega arith;
      first = last_row xs some none
          ∙ (λ i. sym (take_all n xs (omega arith)) i ∷ sym (rows_none (drop n xs) (omega (arith, length-drop n xs))) i);
    }
row_len xs (Some i) n at is some =
    let found = position-Some (λ b. eqb b 10) xs i 0 (sym at) in
    let before : NoneIn xs i = λ k l. not_from_Decides (eqb (get_or xs k 0) 10) (Decides-eqb _ _) (found.2 k l) in
    record {
      within = omega (arith, found.0);
      some = omega arith;
      first = first_row xs i found.0 before ((Decides-eqb (get_or xs i 0) 10).0 found.1) ∙ ap (λ m. take m xs ∷ rows_of (drop m xs)) (sym is);
    }

-- A reader that handed out so many rows, and has these bytes left.
abbrev pub reading_at : ℕ → List ℕ → Reading
reading_at row rest = record { row = row; left = rows_of rest }

-- no row is left
pub nothing_taken : (reading : Reading) (row : ℕ) (rest : List ℕ) → reading_at row rest ≡ reading → length rest ≡ 0 → (reading ≡ behind reading) × (reading.left ≡ [])
nothing_taken reading row rest is none =
    subst (λ r. (r ≡ behind r) × (r.left ≡ [])) is
    (subst (λ (rows : List (List ℕ)). let r : Reading = record { row = row; left = rows } in (r ≡ behind r) × (r.left ≡ [])) (sym (rows_none rest (omega arith))) (refl, refl))

joined_before : (b : ℕ) (rows : List (List ℕ)) → flat_map (λ row. row) (before b rows) ≡ b ∷ flat_map (λ row. row) rows
joined_before b [] = refl
joined_before b (row ∷ rows) = refl

pub rows_joined : (xs : List ℕ) → flat_map (λ row. row) (rows_of xs) ≡ xs
unfolding rows_of
rows_joined [] = refl
rows_joined (x ∷ xs) =
    cond_both (eqb x 10) ((x ∷ []) ∷ rows_of xs) (before x (rows_of xs)) (λ rows. flat_map (λ row. row) rows ≡ x ∷ xs)
    (λ t. ap (λ l. x ∷ l) (rows_joined xs)) (λ f. joined_before x (rows_of xs) ∙ ap (λ l. x ∷ l) (rows_joined xs))

ended_cons : (row : List ℕ) (rows : List (List ℕ)) → 0 < length row → Ended row → EndedButTheLast rows → EndedButTheLast (row ∷ rows)
ended_cons row [] l e so = l
ended_cons row (next ∷ rows) l e so = (e, so)

ended_text : (b : ℕ) (text : List ℕ) → (b ≡ 10 → ⊥) → NoneIn text (length text) → NoneIn (b ∷ text) (length (b ∷ text))
ended_text b text first rest zero l = first
ended_text b text first rest (suc k) l = rest k (omega arith)

ended_byte : (b : ℕ) (row : List ℕ) → (b ≡ 10 → ⊥) → Ended row → Ended (b ∷ row)
ended_byte b row other e = (b ∷ e.0, ap (λ l. b ∷ l) e.1, ended_text b e.0 other e.2)

ended_before : (b : ℕ) (rows : List (List ℕ)) → (b ≡ 10 → ⊥) → EndedButTheLast rows → EndedButTheLast (before b rows)
ended_before b [] other so = omega arith
ended_before b (row ∷ []) other so = omega arith
ended_before b (row ∷ next ∷ rows) other so = (ended_byte b row other so.0, so.1)

pub rows_ended : (xs : List ℕ) → EndedButTheLast (rows_of xs)
unfolding rows_of
rows_ended [] = tt
rows_ended (x ∷ xs) =
    cond_both (eqb x 10) ((x ∷ []) ∷ rows_of xs) (before x (rows_of xs)) EndedButTheLast
    (λ t. ended_cons (x ∷ []) (rows_of xs) (omega arith) ([], ap (λ b. b ∷ []) ((Decides-eqb x 10).0 t), λ k l. absurd (omega arith)) (rows_ended xs))
    (λ f. ended_before x (rows_of xs) (not_from_Decides (eqb x 10) (Decides-eqb x 10) f) (rows_ended xs))
