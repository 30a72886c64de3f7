-- A line and its fields: where each lies, and that they make the line.
use Rattle.std.proofs.Common.{◌≡◌, ℕ, zero, suc, ◌+◌, ◌*◌, ◌^◌, ◌<◌, ◌≤◌, List, [], ◌∷◌, ◌++◌, length, get_or, take, drop, set, sym, refl, ap, ◌∙◌, one-add, arith, length-drop}
use borrow.Rule.Slice.PartMut.{put_mid}
use Rattle.std.proofs.lemmas.Slice.{take-put_mid, drop-put_mid}
use Rattle.std.proofs.lemmas.List.{append_assoc, length-append, take_at, drop_at, drop-drop, take-append-drop, get_or-drop, get_or_at, length-take-le, flat_map_more, take_more, take_all, drop_more, set_at}
use Rattle.std.specs.List.{flat_map}
use Rattle.rows.specs.Fields.{field}
use Rattle.rows.specs.Lines.{line, Fit}
use Rattle.rows.proofs.Columns.{length_columns}

pub length_fields : (ns : List ℕ) → length (flat_map field ns) ≡ 10 * length ns
length_fields [] = refl
length_fields (n ∷ ns) = length-append (field n) (flat_map field ns) ∙ omega (arith, length_columns 10 n, length_fields ns)

pub length_line : (c : ℕ) (ns : List ℕ) → length (line c ns) ≡ 2 + 10 * length ns
length_line c ns = omega (arith, length-append (flat_map field ns) (10 ∷ []), length_fields ns)

cut_fields : (ns rest : List ℕ) (i : ℕ) → i < length ns → take 10 (drop (10 * i) (flat_map field ns ++ rest)) ≡ field (get_or ns i 0)
cut_fields [] rest i l = absurd (omega arith)
cut_fields (n ∷ ns) rest zero l =
    ap (take 10) (append_assoc (field n) (flat_map field ns) rest) ∙ take_at (field n) _ 10 (length_columns 10 n)
cut_fields (n ∷ ns) rest (suc i) l =
    let s : 10 * suc i ≡ 10 + 10 * i = omega arith in
    let all : List ℕ = (field n ++ flat_map field ns) ++ rest in
    ap (λ m. take 10 (drop m all)) s
    ∙ ap (take 10) (sym (drop-drop (10 * i) 10 all) ∙ ap (drop (10 * i)) (ap (drop 10) (append_assoc (field n) (flat_map field ns) rest) ∙ drop_at (field n) _ 10 (length_columns 10 n)))
    ∙ cut_fields ns rest i (omega arith)

-- the field at place i of a line
pub cut_line : (c : ℕ) (ns : List ℕ) (i : ℕ) → i < length ns → take 10 (drop (1 + 10 * i) (line c ns)) ≡ field (get_or ns i 0)
cut_line c ns i l = ap (λ m. take 10 (drop m (line c ns))) (one-add (10 * i)) ∙ cut_fields ns (10 ∷ []) i l

-- the last byte of a line
pub line_end : (c : ℕ) (ns : List ℕ) → get_or (line c ns) (1 + 10 * length ns) 0 ≡ 10
line_end c ns =
    ap (λ m. get_or (line c ns) m 0) (one-add (10 * length ns))
    ∙ get_or_at (flat_map field ns) 10 [] 0 (10 * length ns) (length_fields ns)

made_fields : (ns xs : List ℕ) → length xs ≡ 1 + 10 * length ns → get_or xs (10 * length ns) 0 ≡ 10 → ((i : ℕ) → i < length ns → take 10 (drop (10 * i) xs) ≡ field (get_or ns i 0)) → xs ≡ flat_map field ns ++ 10 ∷ []
made_fields [] [] l e f = absurd (omega arith)
made_fields [] (x ∷ []) l e f = ap (λ y. y ∷ []) e
made_fields [] (x ∷ y ∷ xs) l e f = absurd (omega arith)
made_fields (n ∷ ns) xs l e f =
    let s : 10 + 10 * length ns ≡ 10 * length (n ∷ ns) = omega arith in
    let first = f 0 (omega arith) in
    let rest = made_fields ns (drop 10 xs) (length-drop 10 xs ∙ omega arith)
    (get_or-drop 10 xs (10 * length ns) 0 ∙ ap (λ m. get_or xs m 0) s ∙ e)
    (λ i h. let t : 10 + 10 * i ≡ 10 * suc i = omega arith in
    ap (take 10) (drop-drop (10 * i) 10 xs ∙ ap (λ m. drop m xs) t) ∙ f (suc i) (omega arith)) in
    sym (take-append-drop 10 xs) ∙ (λ t. first t ++ rest t) ∙ sym (append_assoc (field n) (flat_map field ns) (10 ∷ []))

-- what has the length, the end and the fields of a line is that line
pub made_line : (row ns : List ℕ) → length row ≡ 2 + 10 * length ns → get_or row (1 + 10 * length ns) 0 ≡ 10 → ((i : ℕ) → i < length ns → take 10 (drop (1 + 10 * i) row) ≡ field (get_or ns i 0)) → row ≡ line (get_or row 0 0) ns
made_line [] ns l e f = absurd (omega arith)
made_line (c ∷ xs) ns l e f =
    ap (λ t. c ∷ t) (made_fields ns xs (omega arith) (sym (ap (λ m. get_or (c ∷ xs) m 0) (one-add (10 * length ns))) ∙ e)
    (λ i h. sym (ap (λ m. take 10 (drop m (c ∷ xs))) (one-add (10 * i))) ∙ f i h))

pub fit_at : (ns : List ℕ) → Fit ns → (i : ℕ) → i < length ns → get_or ns i 0 < 10 ^ 10
fit_at [] f i l = absurd (omega arith)
fit_at (n ∷ ns) f zero l = f.0
fit_at (n ∷ ns) f (suc i) l = fit_at ns f.1 i (omega arith)

pub fit_from : (ns : List ℕ) → ((i : ℕ) → i < length ns → get_or ns i 0 < 10 ^ 10) → Fit ns
fit_from [] f = tt
fit_from (n ∷ ns) f = (f 0 (omega arith), fit_from ns (λ i l. f (suc i) (omega arith)))

-- the buffer once the letter and the first i fields are in it: behind them it is as it was
abbrev pub wrote : ℕ → List ℕ → List ℕ → ℕ → List ℕ
wrote c ns old i = (c ∷ flat_map field (take i ns)) ++ drop (1 + 10 * i) old

pub wrote_none : (c : ℕ) (ns old : List ℕ) → 0 < length old → set old 0 c ≡ wrote c ns (set old 0 c) 0
wrote_none c ns [] l = absurd (omega arith)
wrote_none c ns (x ∷ old) l = refl

module _ (c : ℕ) (ns start : List ℕ) (i : ℕ) (le : i ≤ length ns) where
  front : List ℕ
  front = c ∷ flat_map field (take i ns)

  length_front : length front ≡ 1 + 10 * i
  unfolding front
  length_front = omega (arith, length_fields (take i ns), length-take-le i ns le)

  -- one more field, which lies behind the first i
  pub wrote_more : (out ys : List ℕ) (k : ℕ) → out ≡ wrote c ns start i → i < length ns → 11 + 10 * i ≤ length out → k ≡ 10 → ys ≡ field (get_or ns i 0) → put_mid (1 + 10 * i) k out ys ≡ wrote c ns start (i + 1)
  unfolding front
  wrote_more out ys k so lt room ten e =
      let a : ℕ = 1 + 10 * i in
      let n : ℕ = 1 + 10 * (i + 1) in
      let long : length ys ≡ 10 = ap length e ∙ length_columns 10 (get_or ns i 0) in
      let head : take a out ≡ front = ap (take a) so ∙ take_at front (drop a start) a length_front in
      let tail : drop a out ≡ drop a start = ap (drop a) so ∙ drop_at front (drop a start) a length_front in
      let s : a + 10 ≡ n = omega arith in
      let rest : drop n out ≡ drop n start =
      ap (λ m. drop m out) (sym s) ∙ sym (drop-drop 10 a out) ∙ ap (drop 10) tail ∙ drop-drop 10 a start ∙ ap (λ m. drop m start) s in
      let one : front ++ ys ≡ c ∷ flat_map field (take (i + 1) ns) =
      ap (λ l. front ++ l) e ∙ ap (λ t. c ∷ t) (flat_map_more field [] (take i ns) (get_or ns i 0) ∙ ap (flat_map field) (sym (take_more ns i 0 lt))) in
      let new : List ℕ = put_mid a k out ys in
      sym (take-append-drop n new)
      ∙ (λ t. take-put_mid a k out ys n (omega arith) (omega arith) t ++ drop-put_mid a k out ys n (omega arith) (omega arith) (omega arith) t)
      ∙ (λ t. (ap (λ l. l ++ ys) head ∙ one) t ++ rest t)

  pub wrote_all : (out : List ℕ) (m : ℕ) → out ≡ wrote c ns start i → i ≡ length ns → m ≡ 1 + 10 * i → m < length start → set out m 10 ≡ line c ns ++ drop (m + 1) start
  unfolding front
  wrote_all out m so end e room =
      let all : take i ns ≡ ns = take_all i ns (omega arith) in
      let behind : drop (1 + 10 * i) start ≡ get_or start m 0 ∷ drop (m + 1) start = ap (λ k. drop k start) (sym e) ∙ drop_more start m 0 room in
      ap (λ l. set l m 10) (so ∙ ap (λ l. front ++ l) behind)
      ∙ set_at front (get_or start m 0) (drop (m + 1) start) 10 m (length_front ∙ sym e)
      ∙ ap (λ l. c ∷ (flat_map field l ++ 10 ∷ drop (m + 1) start)) all
      ∙ ap (λ l. c ∷ l) (sym (append_assoc (flat_map field ns) (10 ∷ []) (drop (m + 1) start)))
