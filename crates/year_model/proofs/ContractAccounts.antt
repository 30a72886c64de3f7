-- What the journal says of a contract, and how it agrees with the contract that a year keeps.
use Rattle.std.proofs.Common.{◌≡◌, ℕ, ◌+◌, ◌≤◌, cond, eqb, List, ◌∷◌, map, Some, None, sum, Option, zero-add}
use Rattle.std.specs.List.{range_with_len}
use Rattle.std.proofs.lemmas.Bool.{ne_eqb}
use Rattle.billing.specs.Charges.{portion}
use Rattle.year_model.specs.declared.tables.Contract.{Contract}
use Rattle.year_model.specs.declared.tables.Started.{Started}
use Rattle.year_model.specs.Makings.{Makings}
use Rattle.year_model.specs.Journal.{Bill, Line, Metered, Opening, Tariffs, Terms, bill_line, contract_line, kwh_told, kwmax_in, kwmax_issued, kwmax_told, reading_in, reading_issued, start_line, start_of, terms_of, times_told, waived_told, yearly_told}

-- the account of a contract: its terms, the cents told of it, how often each month was told, its newest start, and what was
-- issued of its meters
pub record Account : Type 0 where
  pub terms : Option Terms
  pub yearly : ℕ
  pub kwmax : ℕ
  pub kwh : ℕ
  pub waived : ℕ
  pub times : ℕ → ℕ
  pub start : Option Metered
  pub used : ℕ
  pub reading : ℕ

-- the account of the contract with this number, by the journal
abbrev pub account : List Line → ℕ → Account
account lines n =
    record {
      terms = terms_of lines n;
      yearly = yearly_told lines n;
      kwmax = kwmax_told lines n;
      kwh = kwh_told lines n;
      waived = waived_told lines n;
      times = λ month. times_told lines n month;
      start = start_of lines n;
      used = kwmax_issued lines n;
      reading = reading_issued lines n;
    }

-- Nothing is told of a contract.
pub record Untold (a : Account) : Type 0 where
  pub terms : a.terms ≡ None
  pub yearly : a.yearly ≡ 0
  pub kwmax : a.kwmax ≡ 0
  pub kwh : a.kwh ≡ 0
  pub waived : a.waived ≡ 0
  pub times : (month : ℕ) → a.times month ≡ 0
  pub used : a.used ≡ 0

-- the terms of a contract that is kept under this number
abbrev pub terms_kept : ℕ → Contract → Terms
terms_kept n c = record { contract = n; system = c.system; kw = c.kw; fee = c.fee; first = c.first; last = c.last; reading = c.opening }

-- the portion of a month that is told so often: all of it, where it is not told
abbrev pub left_of : Makings → ℕ → (ℕ → ℕ) → ℕ → ℕ
left_of m yearly times month = cond (eqb (times month) 0) (portion m.share yearly month) 0

-- An account agrees with the contract that is kept: no month is told from the next one to bill on, and what is told, waived
-- and left is the yearly charge.
pub record Told (m : Makings) (n : ℕ) (a : Account) (c : Contract) : Type 0 where
  pub terms : a.terms ≡ Some (terms_kept n c)
  pub yearly : a.yearly ≡ c.cents.yearly
  pub kwmax : a.kwmax ≡ c.cents.kwmax
  pub kwh : a.kwh ≡ c.cents.kwh
  pub waived : a.waived ≡ c.cents.waived
  pub ahead : (month : ℕ) → c.month ≤ month → a.times month ≡ 0
  pub whole : c.yearly ≡ a.yearly + a.waived + sum (map (left_of m c.yearly a.times) (range_with_len 1 12))
  pub used : a.used ≡ c.kwmax
  pub reading : a.reading ≡ c.reading
  pub draft : (d : Started) → c.started ≡ Some d → (kwmax_in a.start ≡ d.kwmax) × (reading_in a.start ≡ d.reading)

-- So it is, or nothing is told and no contract is kept.
abbrev pub Agrees : Makings → ℕ → Account → Option Contract → Type 0
Agrees m n a None = Untold a
Agrees m n a (Some c) = Told m n a c

-- a line that is of no contract
abbrev pub grid_line : ℕ → ℕ → Option Opening → Option Tariffs → Line
grid_line cost take_back opening fixing =
    record { cost = cost; take_back = take_back; opening = opening; fixing = fixing; contract = None; start = None; bill = None }

-- A line of no contract, or of another, leaves what agrees.
module _ (m : Makings) (lines : List Line) (n : ℕ) (kept : Option Contract) (agrees : Agrees m n (account lines n) kept) where
  pub agrees_grid : (cost take_back : ℕ) (opening : Option Opening) (fixing : Option Tariffs) → Agrees m n (account (grid_line cost take_back opening fixing ∷ lines) n) kept
  agrees_grid cost take_back opening fixing = rw (zero-add (kwmax_issued lines n)) agrees

  pub agrees_contract_other : (terms : Terms) → (terms.contract ≡ n → ⊥) → Agrees m n (account (contract_line terms ∷ lines) n) kept
  agrees_contract_other terms ne = rw (ne_eqb terms.contract n ne, zero-add (kwmax_issued lines n)) agrees

  pub agrees_start_other : (metered : Metered) → (metered.contract ≡ n → ⊥) → Agrees m n (account (start_line metered ∷ lines) n) kept
  agrees_start_other metered ne = rw (ne_eqb metered.contract n ne, zero-add (kwmax_issued lines n)) agrees

  pub agrees_bill_other : (bill : Bill) → (bill.contract ≡ n → ⊥) → Agrees m n (account (bill_line bill ∷ lines) n) kept
  agrees_bill_other bill ne = rw (ne_eqb bill.contract n ne, zero-add (kwmax_issued lines n)) agrees
