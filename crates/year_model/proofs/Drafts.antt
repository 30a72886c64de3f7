-- A draft that is out is that of a contract.
use Rattle.std.proofs.Common.{◌≡◌, ℕ, Bool, true, false, cond, eqb, Some, None, Option, sym, refl, ap, ◌∙◌, arith}
use Rattle.std.proofs.lemmas.Bool.{eqb-true}
use Rattle.year_model.specs.declared.tables.Contract.{Contract}
use Rattle.year_model.specs.declared.tables.Started.{Started}
use Rattle.year_model.specs.Bills.{draft_out, out_of, out_with}
use Rattle.year_model.specs.Makings.{Makings}
use Rattle.year_model.specs.State.{State, numbered}
use Rattle.year_model.proofs.Lookups.{Entry, entry_from_numbered}

-- What passes a test was there, and passed it.
passed_test : {X : Type 0} (test : Bool) (o : Option X) (x : X) → cond test o None ≡ Some x → (test ≡ true) × (o ≡ Some x)
passed_test true o x e = (refl, e)
passed_test false o x e = let z : ◌≡◌ {A = ℕ} 0 1 = cc in absurd (omega arith)

-- What is out of a contract that is given, with what it was started with.
out_with_some : (c : Contract) (month : ℕ) (started : Option Started) (out : Contract × Started) → out_with c month started ≡ Some out → (c ≡ out.0) × (started ≡ Some out.1) × (month ≡ c.month)
out_with_some c month None out e = let z : ◌≡◌ {A = ℕ} 0 1 = cc in absurd (omega arith)
out_with_some c month (Some d) out e =
    let passed = passed_test (eqb month c.month) (Some (c, d)) out e in
    let same : (c, d) ≡ out = cc in
    (ap (λ (p : Contract × Started). p.0) same, ap (λ (p : Contract × Started). Some p.1) same, eqb-true month c.month passed.0)

-- What is out of a contract that was looked up.
out_of_some : (month : ℕ) (looked : Option Contract) (out : Contract × Started) → out_of month looked ≡ Some out
    → (looked ≡ Some out.0) × (out.0.started ≡ Some out.1) × (month ≡ out.0.month)
out_of_some month None out e = let z : ◌≡◌ {A = ℕ} 0 1 = cc in absurd (omega arith)
out_of_some month (Some c) out e =
    let found = out_with_some c month c.started out e in
    (ap Some found.0, ap (λ (k : Contract). k.started) (sym found.0) ∙ found.1, found.2 ∙ ap (λ (k : Contract). k.month) found.0)

-- The contract of a draft that is out has that number, and keeps what it was started with.
pub record Out (m : Makings) (s : State) (book n month : ℕ) (out : Contract × Started) : Type 0 where
  pub entry : Entry s.contracts n out.0
  pub started : out.0.started ≡ Some out.1
  pub of_book : book ≡ m.book
  pub of_month : month ≡ out.0.month

-- So it is of every draft that is out.
pub out_from_draft : (m : Makings) (s : State) (book n month : ℕ) (out : Contract × Started) → draft_out m s book n month ≡ Some out → Out m s book n month out
out_from_draft m s book n month out e =
    let passed = passed_test (eqb book m.book) (out_of month (numbered s.contracts n)) out e in
    let found = out_of_some month (numbered s.contracts n) out passed.1 in
    record {
      entry = entry_from_numbered s.contracts n out.0 found.0;
      started = found.1;
      of_book = eqb-true book m.book passed.0;
      of_month = found.2;
    }
