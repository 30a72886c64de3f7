-- A page is filled by what was read of an input, one part behind the other.
use Rattle.std.proofs.Common.{◌≡◌, ℕ, ◌+◌, ◌≤◌, List, [], ◌++◌, Option, Some, None, IfSome, length, take, drop, refl, sym, ap, ◌∙◌, subst, arith, append-nil, append_assoc}
use Rattle.std.specs.Io.KnownBytes.{Consumes, IsAtEnd}
use Rattle.std.proofs.lemmas.List.{drop-take, length-take-le, take-append-drop, take-take, take_all, take_at}

-- The front of a page of this size holds what was read of the input so far.
pub record Filled (start now : Option (List ℕ)) (size : ℕ) (page : List ℕ) (filled : ℕ) : Type 0 where
  pub long : length page ≡ size
  pub within : filled ≤ size
  pub read : Consumes start now (take filled page)

-- Before the first read nothing was read.
nothing_read : (start : Option (List ℕ)) → Consumes start start []
nothing_read None = tt
nothing_read (Some bytes) = refl

-- What is read behind what was read before is read with it.
read_on : (start now later : Option (List ℕ)) (front part : List ℕ) → Consumes start now front → Consumes now later part → Consumes start later (front ++ part)
read_on None now later front part before more = tt
read_on (Some bytes) None later front part before more = absurd before
read_on (Some bytes) (Some rest) None front part before more = absurd more
read_on (Some bytes) (Some rest) (Some left) front part before more = before ∙ ap (λ l. front ++ l) more ∙ sym (append_assoc front part left)

-- The front of a page, and some bytes behind it.
front_and_more : (page : List ℕ) (filled count : ℕ) → take (filled + count) page ≡ take filled page ++ take count (drop filled page)
front_and_more page filled count =
    let both = take (filled + count) page in
    sym (take-append-drop filled both) ∙ ap (λ front. front ++ drop filled both) (take-take filled (filled + count) page (omega arith)) ∙ ap (λ part. take filled page ++ part) (drop-take filled count page)

pub filled_at_first : (start : Option (List ℕ)) (page : List ℕ) → Filled start start (length page) page 0
filled_at_first start page = record { long = refl; within = omega arith; read = nothing_read start }

pub filled_on : (start now later : Option (List ℕ)) (size : ℕ) (page page' : List ℕ) (filled count : ℕ) → Filled start now size page filled
    → length page' ≡ size → take filled page' ≡ take filled page → filled + count ≤ length page' → Consumes now later (take count (drop filled page'))
    → Filled start later size page' (filled + count)
filled_on start now later size page page' filled count before long front fits came =
    let within = before.within in
    record {
      long = long;
      within = omega arith;
      read = subst (Consumes start later) (sym (front_and_more page' filled count)) (read_on start now later (take filled page') (take count (drop filled page')) (subst (Consumes start now) (sym front) before.read) came);
    }

-- At the end of the input the front of the page is all of it, as far as the page goes.
all_read : (start now : Option (List ℕ)) (size : ℕ) (page : List ℕ) (filled : ℕ) → Filled start now size page filled → IsAtEnd now → IfSome start (λ bytes. take filled page ≡ take size bytes)
all_read None now size page filled is over = tt
all_read (Some bytes) None size page filled is over = absurd is.read
all_read (Some bytes) (Some rest) size page filled is over =
    let within = is.within in
    let long = is.long in
    let whole : bytes ≡ take filled page = is.read ∙ ap (λ l. take filled page ++ l) over ∙ append-nil _ in
    let size_of : length bytes ≡ filled = ap length whole ∙ length-take-le filled page (omega arith) in
    sym whole ∙ sym (take_all size bytes (omega arith))

-- Where nothing more comes and the input is at its end, all of it was read.
pub filled_to_end : (start now later : Option (List ℕ)) (size : ℕ) (page page' : List ℕ) (filled count : ℕ) → Filled start now size page filled
    → length page' ≡ size → take filled page' ≡ take filled page → filled + count ≤ length page' → Consumes now later (take count (drop filled page'))
    → count ≡ 0 → IsAtEnd later → IfSome start (λ bytes. take filled page' ≡ take size bytes)
filled_to_end start now later size page page' filled count before long front fits came none over =
    let same : filled + count ≡ filled = omega arith in
    all_read start later size page' filled (subst (Filled start later size page') same (filled_on start now later size page page' filled count before long front fits came)) over

-- Where the page is full, so much of the input was read.
pub filled_whole : (start now : Option (List ℕ)) (size : ℕ) (page : List ℕ) (filled : ℕ) → Filled start now size page filled → size ≤ filled → IfSome start (λ bytes. take filled page ≡ take size bytes)
filled_whole None now size page filled is full = tt
filled_whole (Some bytes) None size page filled is full = absurd is.read
filled_whole (Some bytes) (Some rest) size page filled is full =
    let within = is.within in
    let long = is.long in
    let front : length (take filled page) ≡ size = length-take-le filled page (omega arith) ∙ omega arith in
    sym (ap (take size) is.read ∙ take_at (take filled page) rest size front)

-- What is cut off behind them leaves the bytes that were read.
pub front_kept : (start : Option (List ℕ)) (n size filled : ℕ) (cut page : List ℕ) → IfSome start (λ bytes. take filled page ≡ take size bytes) → size ≡ n → cut ≡ take filled page → IfSome start (λ bytes. cut ≡ take n bytes)
front_kept None n size filled cut page read same is = tt
front_kept (Some bytes) n size filled cut page read same is = is ∙ read ∙ ap (λ m. take m bytes) same
